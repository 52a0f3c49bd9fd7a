use Rattle.std.proofs.Common.{ℕ, ◌+◌, List, ◌∷◌, Some, sym, ap, ◌∙◌, subst}
use Rattle.syntax.specs.Syntax.{production_line}
use Rattle.syntax.proofs.Lines.{render_production}
use Rattle.spellings.specs.Model.{words}
use Rattle.spellings.specs.Reading.{ReadsRight}
use Rattle.files.specs.Reading.{as_form}
use Rattle.files.proofs.spelled.SpelledDraft.read_production.Goals as goal

pub returns : goal.returns
returns c =
    let ws = words c.args.self.now.spellings in
    let text = c.args.text.now in
    let g : ReadsRight ws text (Some c.in_ok-priced.priced) = subst (ReadsRight ws text) c.in_ok-priced.ensures.ok_part c.read_right.ensures in
    let price = c.in_ok-priced.priced.price in
    as_form (production_line c.args.left g.0 price) tt
    ((c.requires, g.1, g.2), ap (λ (x : List ℕ). (65 + c.args.left) ∷ 32 ∷ 61 ∷ 32 ∷ x) g.3 ∙ sym (render_production c.args.left g.0 price))
    (c.add_line.ensures g.0 g.1 g.4)
