-- The first bytes of a line, kept as more come. Assumes nothing.
use Rattle.std.proofs.Common.{◌≡◌, ℕ, ◌+◌, ◌-◌, ◌<◌, ◌≤◌, List, ◌∷◌, ◌++◌, length, get_or, take, drop, min, Some, Bor, sym, ap, ◌∙◌, arith}
use native.Mathlib.Decide.{dec_lt}
use Rattle.std.proofs.Math.Seq.{take-append-add}
use Rattle.std.proofs.lemmas.List.{length-take-le, take_all, take_at, take-take, take-append-le, length-append, take-append-drop, drop_more, get_or-take}
use Rattle.file_model.specs.Files.{LineOf}
use Rattle.walk.specs.Buffers.{TakesOn}

module _ {A : Type 0} (n : ℕ) where
  -- what is kept of the kept bytes and more is what is kept of all
  pub kept_again : (xs ys : List A) → take n (take n xs ++ ys) ≡ take n (xs ++ ys)
  kept_again xs ys =
      elim (dec_lt (length xs) n) [
        | yes l ↦ ap (λ t. take n (t ++ ys)) (take_all n xs (omega arith))
        | no l ↦
            let m : n ≤ length xs = omega arith in
            let e = length-take-le n xs m in
            take-append-le n (take n xs) ys (omega arith) ∙ take-take n n xs (omega arith) ∙ sym (take-append-le n xs ys m)
      ]

-- none of the first bytes is the byte
abbrev pub FreeBefore : ℕ → List ℕ → ℕ → Type 0
FreeBefore byte part i = (k : ℕ) → k < i → ¬ (get_or part k 0 ≡ byte)

-- a line ends at the first line feed
pub line_at : (part : List ℕ) (i : ℕ) → i < length part → FreeBefore 10 part i → get_or part i 0 ≡ 10 → LineOf part (take i part) (drop (i + 1) part)
line_at part i l f e =
    record {
      free = λ k m.
          let a = length-take-le i part (omega arith) in
          let b : k < i = omega arith in λ at. f k b (sym (get_or-take i part k 0 b) ∙ at);
      is = sym (take-append-drop i part) ∙ ap (λ t. take i part ++ t) (drop_more part i 0 l ∙ ap (λ b. b ∷ drop (i + 1) part) e);
    }

-- a line that ends in the part leaves less of it
pub less_left : (before part after : List ℕ) (rest : Bor (List ℕ)) → TakesOn before part (Some rest) after → length rest.now < length part
less_left before part after rest (more, is_line, is) = omega (arith, ap length is_line.is, length-append more (10 ∷ rest.now))
