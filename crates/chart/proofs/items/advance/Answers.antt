use Rattle.std.proofs.Common.{rules, sym, refl, inl, ◌∙◌, arith}
use lib.Bits.{bit_and}
use Rattle.chart.specs.Chart.{cell_of}
use Rattle.chart.proofs.Digits.{and_has, none_at_zero, bit_up}
use Rattle.chart.proofs.Growing.{advanced, still}
use Rattle.chart.proofs.Halves.{no_place}
use Rattle.chart.proofs.items.advance.Goals as goal

pub returns-then-moved-ne0 : goal.returns-then-moved-ne0
returns-then-moved-ne0 c =
    let from = c.places_at.result in
    let mask = c.args.mask in
    let is = c.places_at.ensures in
    advanced (cell_of c.args.i c.args.j) (cell_of c.args.i c.args.s) mask (bit_and from mask) _
    c.args.cells.now c.join_places.new.cells _
    (λ d l. (
      λ h. let x = (and_has from mask d).0 h in ((is d l).0 x.0, x.1),
      λ h. (and_has from mask d).1 ((is d l).1 h.0, h.1),
    )) (none_at_zero (bit_and from mask)) (λ d l. (λ h. sym (bit_up (bit_and from mask) d l) ∙ h, λ h. bit_up (bit_and from mask) d l ∙ h))
    (rw c.set_of.ensures at c.join_places.ensures)

pub returns-else-moved-ne0 : goal.returns-else-moved-ne0
returns-else-moved-ne0 c =
    let none = no_place c.places_at.result c.args.mask c.if-moved-ne0.false in
    record {
      growth = search (rules, still);
      other = λ k n o. refl;
      makes = λ d l s m. absurd (none (d, omega arith, (c.places_at.ensures d (omega arith)).1 s, m));
      only = λ d l s. inl s;
    }
