use Rattle.std.proofs.Common.{ℕ, Bool, eqb, refl, ◌∙◌, rules, tests}
use Rattle.std.proofs.lemmas.Iterator.{YieldsList-from_range}
use Rattle.std.proofs.lemmas.Iterator.Consumers.{YieldsList-from_filter, count_from_yields_List}
use Rattle.bitset.specs.Bits.{bit}
use Rattle.tables.specs.Ranks.{row_of}
use Rattle.tables.proofs.Falling.{count_tested}
use Rattle.tables.proofs.ranking.rank.Goals as goal

pub returns : goal.returns
returns c =
    let row = row_of c.args.rows.now c.args.symbol in
    let test : ℕ → Bool = λ q. eqb (bit row q) 1 in
    count_from_yields_List _ _ c.count.ensures.ran
    (YieldsList-from_filter _ test (YieldsList-from_range 0 16 16 (cc) refl) c.filter.ensures.closure (λ x r q k. search (rules, tests))) ∙ count_tested row 16
