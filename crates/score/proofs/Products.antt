-- Products whose factors are right or still none.
use Rattle.std.proofs.Common.{◌≡◌, ◌⊎◌, sym, refl, ap, ◌∙◌, inl, inr, ⊎_elim}
use Rattle.scales.specs.Scales.{Scale, SemiringLaws}

-- one of two values, by a decision
pub pick : {S P : Type 0} → P ⊎ (¬ P) → S → S → S
pick (inl _) a b = a
pick (inr _) a b = b

pub pick_yes : {S P : Type 0} (d : P ⊎ (¬ P)) (a b : S) → P → pick d a b ≡ a
unfolding pick
pick_yes (inl _) a b h = refl
pick_yes (inr n) a b h = absurd (n h)

pub pick_no : {S P : Type 0} (d : P ⊎ (¬ P)) (a b : S) → (¬ P) → pick d a b ≡ b
unfolding pick
pick_no (inl h) a b n = absurd (n h)
pick_no (inr _) a b n = refl

module _ {S : Type 0} (s : Scale S) (laws : SemiringLaws s) where
  still : (a a' : S) → (a ≡ a') ⊎ (a ≡ s.none) → a' ≡ s.none → a ≡ s.none
  still a a' h e = ⊎_elim (λ (t : a ≡ a'). t ∙ e) (λ (t : a ≡ s.none). t) h

  left_none : (a v c : S) → a ≡ s.none → s.times a (s.times v c) ≡ s.none
  left_none a v c e = ap (λ z. s.times z (s.times v c)) e ∙ laws.none_times _

  right_none : (a v c : S) → c ≡ s.none → s.times a (s.times v c) ≡ s.none
  right_none a v c e = ap (λ z. s.times a (s.times v z)) e ∙ ap (s.times a) (laws.times_none v) ∙ laws.times_none a

  -- a product of what is held is that of what is right, if both are right where both have ways
  pub product_right :
      (P Q : Type 0) (a a' v c c' : S) → P ⊎ (a' ≡ s.none) → Q ⊎ (c' ≡ s.none) → (a ≡ a') ⊎ (a ≡ s.none) →
      (c ≡ c') ⊎ (c ≡ s.none) → (P → Q → (a ≡ a') × (c ≡ c')) → s.times a (s.times v c) ≡ s.times a' (s.times v c')
  product_right P Q a a' v c c' dp dq ha hc both =
      ⊎_elim
      (λ (p : P).
      ⊎_elim
      (λ (q : Q). let e = both p q in ap (λ z. s.times z (s.times v c)) e.0 ∙ ap (λ z. s.times a' (s.times v z)) e.1)
      (λ (n : c' ≡ s.none). right_none a v c (still c c' hc n) ∙ sym (right_none a' v c' n))
      dq)
      (λ (n : a' ≡ s.none). left_none a v c (still a a' ha n) ∙ sym (left_none a' v c' n))
      dp
