-- Bytes more in a list of fixed room. Assumes nothing.
use Rattle.std.proofs.Common.{◌≡◌, ℕ, ◌+◌, ◌-◌, ◌≤◌, List, ◌++◌, length, take, min, sym, ap, ◌∙◌, arith}
use native.Mathlib.Decide.{dec_lt}
use Rattle.std.proofs.Math.Seq.{take-append-add}
use Rattle.std.proofs.lemmas.List.{length-take-le, take_all, take_at}

-- bytes more, as many as there is room for
pub extended :
    {A : Type 0} (n : ℕ)
    (xs more rest : List A) (i size : ℕ) →
    length xs ≡ n →
    i ≤ n →
    size ≡ min (length more) (n - i) →
    take (i + size) (take i xs ++ (take size more ++ rest)) ≡ take n (take i xs ++ more)
extended n xs more rest i size e l s =
    let a = length-take-le i xs (omega arith) in
    let b = length-take-le size more (omega arith) in
    let front : i ≡ length (take i xs) = omega arith in
    let all : n ≡ length (take i xs) + (n - i) = omega arith in
    let same : take size more ≡ take (n - i) more =
    elim (dec_lt (length more) (n - i)) [
      | yes k ↦ take_all size more (omega arith) ∙ sym (take_all (n - i) more (omega arith))
      | no k ↦ let z : size ≡ n - i = omega arith in ap (λ m. take m more) z
    ] in
    ap (λ k. take (k + size) (take i xs ++ (take size more ++ rest))) front
    ∙ take-append-add (take i xs) (take size more ++ rest) size
    ∙ ap (λ t. take i xs ++ t) (take_at (take size more) rest size b ∙ same)
    ∙ sym (ap (λ k. take k (take i xs ++ more)) all ∙ take-append-add (take i xs) more (n - i))
