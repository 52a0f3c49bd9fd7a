use Rattle.std.proofs.Common.{◌≡◌, ℕ, ◌+◌, ◌<◌, ◌≤◌, ◌⊎◌, length, get_or, sym, ap, ◌∙◌, subst, arith, rules, tests}
use Rattle.std.specs.List.{enumerate_from}
use Rattle.std.proofs.lemmas.Bool.{MatchBool-at_false}
use Rattle.std.proofs.lemmas.Iterator.{cases_from_all, YieldsList-from_slice}
use Rattle.std.proofs.lemmas.Iterator.Consumers.{YieldsList-from_enumerate}
use Rattle.std.proofs.lemmas.List.FromFn.{get_or-enumerate_from, length-enumerate_from}
use Rattle.std.proofs.iter.Serving.{serving}
use Rattle.grammar.specs.Model.{productions}
use Rattle.tables.specs.Filling.{Filled}
use Rattle.tables.specs.Places.{first_place}
use Rattle.tables.proofs.Counting.{right_there, known_at, last_low}
use Rattle.tables.proofs.source.Source.fillable.Goals as goal

pub all-requires-clause-callable : goal.all-requires-clause-callable
all-requires-clause-callable c =
    let self = c.args.self.now in
    let ps = self.productions.now in
    let p = c.args.p in
    let known = known_at ps p c.requires in
    let right = right_there ps p c.index-self-p.result c.requires _ c.right-right.ensures in
    let small : get_or self.first p 0 + length c.right-right.result.now < 128 =
    omega (arith, ap length right, self.begins p known, last_low (productions ps) p known, self.small) in
    grind serving

pub returns-clause-no : goal.returns-clause-no
returns-clause-no c f full =
    let self = c.args.self.now in
    let ps = self.productions.now in
    let p = c.args.p in
    let items = c.right-right.result.now in
    let right = right_there ps p c.index-self-p.result c.requires items c.right-right.ensures in
    let place = self.begins p (known_at ps p c.requires) in
    let filled : ℕ → ℕ → Type 0 = λ s d. (16 ≤ s) ⊎ Filled c.args.waits.now c.args.set d in
    let Full : ℕ × ℕ → Type 0 = λ x. filled x.1 (get_or self.first p 0 + x.0) in
    let found =
    cases_from_all _ _ _ Full (λ x. ¬ Full x) c.all.ensures.ran (YieldsList-from_enumerate (YieldsList-from_slice items (cc)) (cc))
    (λ x g k. search (rules, tests)) (λ x g k. search (rules, tests)) in
    let k = MatchBool-at_false _ _ f found in
    let symbol = get_or items k.0 0 in
    let l : k.0 < length items = omega (arith, k.1, length-enumerate_from 0 items) in
    let same : get_or (enumerate_from 0 items) k.0 (0, 0) ≡ (k.0, symbol) = get_or-enumerate_from 0 items k.0 (0, 0) l ∙ ap (λ n. (n, symbol)) (omega arith) in
    let here : filled symbol (first_place (productions ps) p + k.0) = full k.0 symbol (omega (arith, l, ap length right), ap (λ xs. get_or xs k.0 0) (sym right)) in
    subst (λ x. ¬ Full x) same (k.2 (0, 0)) (subst (λ n. filled symbol (n + k.0)) (sym place) here)
