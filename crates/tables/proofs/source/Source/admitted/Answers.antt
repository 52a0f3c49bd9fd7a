use Rattle.std.proofs.Common.{◌≡◌, Bool, length, sym, arith, rules as steps}
use Rattle.grammar.specs.Grammar.{Grammar}
use Rattle.grammar.specs.Model.{productions, rules}
use Rattle.bitset.proofs.Passing.{chosen_has}
use Rattle.tables.specs.Entries.{AnyStart, Admits}
use Rattle.tables.proofs.Counting.{known_at, stored_at}
use Rattle.tables.proofs.source.Source.admitted.Goals as goal

pub returns : goal.returns
returns c start q =
    let ps = c.args.self.now.productions.now in
    let p = c.args.p in
    let k = c.args.k in
    let any : (Grammar → Type 0) → Type 0 = AnyStart (productions ps) (rules c.args.self.now.rules.now) in
    let g : Grammar = record { start = start; productions = productions ps; rules = rules c.args.self.now.rules.now } in
    -- what `admits` answered, at this start symbol
    let told : (P : Grammar → Type 0) (t r : Bool) → (r ≡ t → any P) → t ≡ r → P g = λ P t r f e. f (sym e) start in
    let all =
    chosen_has (Admits g p k) c.chosen.result 0 (length ps) c.chosen.ensures.passed c.chosen.ensures.failed
    (λ x _ l t. search (steps, told (λ g. Admits g p k x))) (λ x _ l f. search (steps, told (λ g. ¬ Admits g p k x))) q in
    (λ h. let t = all.0 h in (known_at ps q t.1, t.2), λ h. all.1 (omega arith, stored_at ps q h.0, h.1))
