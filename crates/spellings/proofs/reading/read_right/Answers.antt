use Rattle.std.proofs.Common.{[], ◌∷◌, ◌++◌, sym, refl, ◌∙◌}
use Rattle.syntax.specs.Model.{symbol}
use Rattle.file_lines.specs.Reading.{SemicolonAt}
use Rattle.file_lines.proofs.RightSides.{progress_none, no_part, part_is, progress_more, behind_semicolon, price_is, whole}
use Rattle.spellings.proofs.reading.read_right.Goals as goal

pub loop-rest-init : goal.loop-rest-init
loop-rest-init c = ([], progress_none c.args.text.now, c.empty.ensures)

pub returns-in_err-part : goal.returns-in_err-part
returns-in_err-part c =
    let i = c.loop-rest.invariant in
    rw c.from_residual.ensures
    (λ ss price v _ t. no_part c.args.text.now c.loop-rest.rest.now i.0 i.1 c.in_err-part.ensures (c.loop-rest-test.ensures.no refl) ss price v t)

pub returns-in_err-symbol : goal.returns-in_err-symbol
returns-in_err-symbol c =
    let i = c.loop-rest.invariant in
    let k = c.in_ok-part.ensures in
    rw c.from_residual-in_err-symbol.ensures
    (λ ss price v _ t.
    let p = part_is c.args.text.now c.loop-rest.rest.now i.0 i.1 _ _ k.0 k.1 (c.loop-rest-test.ensures.no refl) ss price v t in
    c.in_err-symbol.ensures p.0 p.1 p.2)

pub loop-rest-preserved : goal.loop-rest-preserved
loop-rest-preserved c =
    let i = c.loop-rest.invariant in
    let k = c.in_ok-part.ensures in
    let s = c.in_ok-symbol.ensures in (
      i.0 ++ symbol c.in_ok-symbol.symbol ∷ [],
      progress_more c.args.text.now c.loop-rest.rest.now i.0 i.1 _ _ k.0 k.1 (c.loop-rest-test.ensures.no refl) (symbol c.in_ok-symbol.symbol) s.0 s.1,
      c.gather-right.ensures i.0 i.2,
    )

pub returns-in_err-price : goal.returns-in_err-price
returns-in_err-price c =
    let i = c.loop-rest.invariant in
    let text = c.args.text.now in
    let q : SemicolonAt c.loop-rest.rest.now 0 = c.loop-rest-test.ensures.yes refl in
    rw c.from_residual-in_err-price.ensures
    (λ ss price v l t. c.in_err-price.ensures price l (behind_semicolon text c.loop-rest.rest.now i.0 i.1 q ∙ price_is text c.loop-rest.rest.now i.0 i.1 q ss price v t))

pub returns : goal.returns
returns c =
    let i = c.loop-rest.invariant in
    let text = c.args.text.now in
    let q : SemicolonAt c.loop-rest.rest.now 0 = c.loop-rest-test.ensures.yes refl in
    let n = c.in_ok-price.ensures in
    (i.0, i.1.valid, n.0, whole text c.loop-rest.rest.now i.0 i.1 _ q (sym (behind_semicolon text c.loop-rest.rest.now i.0 i.1 q) ∙ n.1), i.2)
