use Rattle.std.proofs.Common.{◌<◌, length, arith, rules}
use Rattle.std.proofs.lemmas.List.{length-map}
use Rattle.grammar.specs.declared.production.Production.{Production as Stored}
use Rattle.grammar.specs.Grammar.{production_at}
use Rattle.grammar.specs.Model.{production, productions}
use Rattle.bitset.proofs.Digits.{none_of_zero}
use Rattle.bitset.proofs.Reaching.{reached_all}
use Rattle.derivations.proofs.Elements.{left_is_nonterminal}
use Rattle.derivations.proofs.Growing.{SoundSet, Grown, grown_at, still_sound, exact}
use Rattle.derivations.proofs.nullable.Goals as goal

pub grown-requires-clause-callable : goal.grown-requires-clause-callable
grown-requires-clause-callable c set k low inside =
    let left = λ (x : Stored). left_is_nonterminal c.args.productions.now k x c.requires inside in
    search (rules, left)

pub returns : goal.returns
returns c =
    let xs = c.args.productions.now in
    let ps = productions xs in
    let set = c.grown.result in
    exact ps set
    (reached_all (SoundSet ps) (λ s h. absurd (none_of_zero s h))
    (λ a b was more.
    let at = grown_at xs more.0 a b more.1 in
    let step : Grown (production_at ps more.0) a b = search (rules, at) in
    still_sound ps a b more.0 (omega (arith, more.1, length-map xs production)) step was)
    c.grown.ensures.reached)
    (λ k l.
    let inside : k < length xs = omega (arith, l, length-map xs production) in
    let fixed = c.grown.ensures.fixed k inside in
    let at = grown_at xs k set set inside in
    search (rules, at))
