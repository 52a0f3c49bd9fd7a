use Rattle.std.proofs.Common.{◌≡◌, ℕ, Bool, true, false, List, Decides, sym, ◌∙◌}
use Rattle.std.proofs.lemmas.Bool.{both_ways}
use Rattle.std.proofs.lemmas.Slice.Eq.{slice_eq-Decides}
use Rattle.agreement.proofs.Agreeing.{agreement}
use Rattle.agreement.proofs.agree.Goals as goal
use Rattle.std.proofs.lemmas.Bool.Decides.{Decides-eqb}

told : (ws us xs ys : List ℕ) (r : Bool) → xs ≡ ws → ys ≡ us → Decides r (xs ≡ ys) → (r ≡ true → ws ≡ us) × (r ≡ false → ¬ (ws ≡ us))
told ws us xs ys r a b d = (λ t. sym a ∙ d.0 t ∙ b, λ f e. both_ways r f (d.1 (a ∙ e ∙ sym b)))

pub returns : goal.returns
returns g c =
    let t = told _ _ _ _ c.eq.result c.words.ensures c.words-2.ensures (slice_eq-Decides Decides-eqb _ _ _ c.eq.ensures) in
    record { yes = t.0; no = t.1; agreement = agreement _ g.met.S.Semiring.laws }
