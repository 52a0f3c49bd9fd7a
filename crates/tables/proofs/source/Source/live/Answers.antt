use Rattle.std.proofs.Common.{rules}
use Rattle.grammar.specs.Grammar.{Grammar}
use Rattle.grammar.specs.Model.{productions}
use Rattle.bitset.proofs.Digits.{none_of_zero}
use Rattle.bitset.proofs.Reaching.{reached_all}
use Rattle.tables.proofs.Counting.{known_at, stored_at}
use Rattle.tables.proofs.Least.{LiveSet, Grown, still_live, exact}
use Rattle.tables.proofs.source.Source.live.Goals as goal

pub returns : goal.returns
returns c rs start table =
    let self = c.args.self.now in
    let xs = self.productions.now in
    let ps = productions xs in
    let waits = c.args.waits.now in
    let set = c.grown.result in
    let g : Grammar = record { start = start; productions = ps; rules = rs } in
    exact g waits table set
    (λ p l.
    let fixed = c.grown.ensures.fixed p (stored_at xs p l) in
    search rules)
    (reached_all (LiveSet g) (λ q h. absurd (none_of_zero q h))
    (λ a b was more.
    let step : Grown ps waits more.0 a b = search rules in
    still_live g waits table self.symbols self.small more.0 a b (known_at xs more.0 more.1) step was)
    c.grown.ensures.reached)
