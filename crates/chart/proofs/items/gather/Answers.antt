use Rattle.std.proofs.Common.{refl, rules, arith}
use Rattle.chart.specs.Cells.{Gathered}
use Rattle.bitset.proofs.Digits.{none_of_zero}
use Rattle.chart.proofs.Gathering.{all_gathered, gathered_more, same_pair}
use Rattle.chart.proofs.items.gather.Goals as goal

pub returns : goal.returns
returns c =
    let none : Gathered c.args.cells.now c.args.j 0 0 = record { all = λ i d l m h. absurd (omega arith); only = λ d l h. absurd (none_of_zero d h) } in
    all_gathered c.args.cells.now c.args.j _ _ (λ a x b q low called. search (rules, same_pair, gathered_more)) _ _ _ refl refl c.fold.ensures.ran none
