use Rattle.std.proofs.Common.{◌≡◌, ℕ, ◌⊎◌, ⊎_elim, length, get_or, sym, refl, arith, rules, tests}
use Rattle.grammar.specs.declared.production.Production.{Production as Stored}
use Rattle.grammar.specs.Grammar.{left_at}
use Rattle.grammar.specs.Model.{productions}
use Rattle.bitset.specs.Bits.{Has}
use Rattle.bitset.proofs.Passing.{chosen_has}
use Rattle.tables.proofs.Counting.{left_is, known_at, stored_at}
use Rattle.tables.proofs.source.Source.starts.Goals as goal

pub returns : goal.returns
returns c p =
    let ps = c.args.self.now.productions.now in
    let P : ℕ → Type 0 = λ p. Has c.args.live p × (left_at (productions ps) p ≡ c.args.start) in
    let all =
    chosen_has P c.chosen.result 0 (length ps) c.chosen.ensures.passed c.chosen.ensures.failed
    (λ x _ l t.
    let same = λ (y : Stored) (is : y ≡ get_or ps x y). sym (left_is ps x y l is _ refl) in
    let has : Has c.args.live x = search (rules, tests) in
    let left : left_at (productions ps) x ≡ c.args.start = search (rules, tests, same) in
    (has, left))
    (λ x _ l f.
    let same = λ (y : Stored) (is : y ≡ get_or ps x y). left_is ps x y l is _ refl in
    let none : ¬ (left_at (productions ps) x ≡ c.args.start) ⊎ ¬ Has c.args.live x = search (rules, tests, same) in
    λ h. ⊎_elim (λ (n : ¬ (left_at (productions ps) x ≡ c.args.start)). n h.1) (λ (n : ¬ Has c.args.live x). n h.0) none) p in
    (λ h. let t = all.0 h in (known_at ps p t.1, t.2.0, t.2.1), λ h. all.1 (omega arith, stored_at ps p h.0, (h.1, h.2)))
