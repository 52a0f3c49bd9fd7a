use Rattle.std.proofs.Common.{◌≡◌, ℕ, List, [], ◌∷◌, ◌++◌, sym, refl, ap, ◌∙◌}
use Rattle.syntax.specs.declared.spelling.Literal.{Literal}
use Rattle.syntax.specs.declared.spelling.Spelling.{Spelling as Stored}
use Rattle.syntax.specs.declared.spelling.Spelling.TheVariants.{Literal as Quoted}
use Rattle.syntax.specs.Syntax.{spelling_text}
use Rattle.syntax.specs.Model.{spelling, bytes_of}
use Rattle.syntax.proofs.Writes.{first_stops, second_stops, all_three}
use Rattle.syntax.proofs.text.TextWriter.put_spelling.Goals as goal

text_is : (w : Stored) (l : Literal) (bs : List ℕ) → w ≡ Quoted l → bs ≡ bytes_of l → spelling_text (spelling w) ≡ (34 ∷ []) ++ (bs ++ 34 ∷ [])
text_is w l bs e f = ap (λ (v : Stored). spelling_text (spelling v)) e ∙ ap (λ (t : List ℕ). 34 ∷ (t ++ 34 ∷ [])) (sym f)

pub returns-in_err-put_bytes-in-Literal : goal.returns-in_err-put_bytes-in-Literal
returns-in_err-put_bytes-in-Literal c =
    let l = c.in-Literal.literal in
    first_stops c.args.self.now (34 ∷ []) (bytes_of l) (34 ∷ []) _ (text_is _ l _ c.in-Literal.is refl) _ _ c.from_residual.ensures.1 _
    c.in_err-put_bytes-in-Literal.ensures

pub returns-in_err-put_bytes-in-Literal-2 : goal.returns-in_err-put_bytes-in-Literal-2
returns-in_err-put_bytes-in-Literal-2 c =
    second_stops c.args.self.now (34 ∷ []) c.bytes.result.now (34 ∷ []) _ (text_is _ _ _ c.in-Literal.is c.bytes.ensures) _ _
    c.from_residual-in_err-put_bytes-in-Literal-2.ensures.1 _ _
    c.in_ok-put_bytes-in-Literal.ensures
    c.in_err-put_bytes-in-Literal-2.ensures

pub returns-in_ok-put_bytes-in-Literal-2 : goal.returns-in_ok-put_bytes-in-Literal-2
returns-in_ok-put_bytes-in-Literal-2 c =
    all_three c.args.self.now (34 ∷ []) c.bytes.result.now (34 ∷ []) _ (text_is _ _ _ c.in-Literal.is c.bytes.ensures) _ _ _ _
    c.in_ok-put_bytes-in-Literal.ensures
    c.in_ok-put_bytes-in-Literal-2.ensures
    c.put_bytes-in-Literal-2.ensures
