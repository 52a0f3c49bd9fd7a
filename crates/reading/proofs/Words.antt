-- The standing words and the causes of refusal. Assumes nothing.
use Rattle.std.proofs.Common.{◌≡◌, ℕ, ◌+◌, ◌<◌, ◌≤◌, Bool, true, false, ◌↔◌, List, [], ◌∷◌, ◌++◌, length, sym, refl, ap, subst}
use Rattle.grammar.specs.Grammar.{Grammar, Kind}
use Rattle.std.proofs.lemmas.Bool.{false≢true}
use Rattle.theory.specs.Claims.{Viable, Awaited, Accepted, Sentence}
use Rattle.theory.proofs.Exact.{sentences, viable_kinds}
use Rattle.reading.specs.Calls.{PutCause, line_full, no_kind, nothing_begins, BackCause, no_word}

module _ (g : Grammar) (ws : List ℕ) (kind : ℕ) where
  -- of the causes below m each is excluded
  pub put_none : (m : ℕ) → (9 < m → ¬ (48 ≤ length ws)) → (10 < m → Kind kind) → (11 < m → Viable g ws kind) → (n : ℕ) → n < m → ¬ PutCause g ws kind n
  put_none m a b c n l (line_full h) = a l h
  put_none m a b c n l (no_kind h) = h (b l)
  put_none m a b c n l (nothing_begins h) = h (c l)

pub back_none : (ws : List ℕ) (m : ℕ) → (12 < m → ¬ (ws ≡ [])) → (n : ℕ) → n < m → ¬ BackCause ws n
back_none ws m a n l (no_word h) = a l h

-- a kind by its index from 16
module _ (g : Grammar) (ws : List ℕ) (kind i : ℕ) (k : Kind kind) (e : 16 + i ≡ kind) where
  pub viable : Awaited g ws (16 + i) → Viable g ws kind
  viable a = (viable_kinds g ws kind k).0 (subst (Awaited g ws) e a)

  pub awaited : Viable g ws kind → Awaited g ws (16 + i)
  awaited v = subst (Awaited g ws) (sym e) ((viable_kinds g ws kind k).1 v)

  pub with_kind : ws ++ (16 + i) ∷ [] ≡ ws ++ kind ∷ []
  with_kind = ap (λ (a : ℕ). ws ++ a ∷ []) e

-- the answer of a test that was made both ways
pub whole : (b : Bool) (g : Grammar) (ws : List ℕ) → (b ≡ true → Accepted g ws) → (b ≡ false → ¬ Accepted g ws) → (b ≡ true) ↔ Sentence g ws
whole true g ws y n = (λ t. (sentences g ws).0 (y t), λ s. refl)
whole false g ws y n = (λ t. absurd (false≢true t), λ s. absurd (n refl ((sentences g ws).1 s)))
