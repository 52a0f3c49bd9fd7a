-- Runs of bytes that pass a test. Assumes nothing.
use Rattle.std.proofs.Common.{◌≡◌, ℕ, suc, ◌+◌, ◌<◌, ◌≤◌, Bool, true, false, cond, List, [], ◌∷◌, ◌++◌, length, get_or, take, drop, sym, refl, ap, ◌∙◌, subst, ⊎_elim, arith}
use Rattle.std.specs.List.{prefix_len, list_all}
use Rattle.std.proofs.lemmas.List.{take-append-drop, length-take-le, take_at, drop_at}
use Rattle.std.proofs.lemmas.List.Sums.{prefix_len-drop_yes, prefix_len-le-length}
use Rattle.std.proofs.lemmas.Bool.{and_parts, and_from, or_cases, leb-true, le-leb, eqb-true, both_ways}
use Rattle.lines.specs.Bytes.{between, is_letter, is_digit, in_run, is_visible, begins}
use Rattle.lines.specs.Cuts.{Run}

pub one_more : (n : ℕ) → 1 + n ≡ suc n
one_more n = omega arith

module _ (p : ℕ → Bool) where
  every_step : (b : Bool) (x : ℕ) (xs : List ℕ) (n : ℕ) → p x ≡ b → list_all p (take n xs) ≡ true → list_all p (take (cond b (1 + n) 0) (x ∷ xs)) ≡ true
  every_step true x xs n e h = subst (λ m. list_all p (take m (x ∷ xs)) ≡ true) (sym (one_more n)) (and_from (p x) (list_all p (take n xs)) e h)
  every_step false x xs n e h = refl

  -- the front that passes
  pub every_leading : (xs : List ℕ) → list_all p (take (prefix_len p xs) xs) ≡ true
  every_leading [] = refl
  every_leading (x ∷ xs) = every_step (p x) x xs (prefix_len p xs) refl (every_leading xs)

  begins_step : (b : Bool) (x : ℕ) (xs : List ℕ) (n : ℕ) → p x ≡ b → begins p (drop n xs) ≡ false → begins p (drop (cond b (1 + n) 0) (x ∷ xs)) ≡ false
  begins_step true x xs n e h = subst (λ m. begins p (drop m (x ∷ xs)) ≡ false) (sym (one_more n)) h
  begins_step false x xs n e h = e

  -- what is behind it does not begin so
  pub begins_leading : (xs : List ℕ) → begins p (drop (prefix_len p xs) xs) ≡ false
  begins_leading [] = refl
  begins_leading (x ∷ xs) = begins_step (p x) x xs (prefix_len p xs) refl (begins_leading xs)

  pub leading_front : (run rest : List ℕ) → list_all p run ≡ true → begins p rest ≡ false → prefix_len p (run ++ rest) ≡ length run
  leading_front [] [] a l = refl
  leading_front [] (b ∷ rest) a l = ap (λ c. cond c (1 + prefix_len p rest) 0) l
  leading_front (x ∷ run) rest a l =
      let h = and_parts (p x) (list_all p run) a in
      ap (λ c. cond c (1 + prefix_len p (run ++ rest)) 0) h.0 ∙ ap (λ n. 1 + n) (leading_front run rest h.1 l) ∙ one_more (length run)

  -- what a front of none, or of some, says of the first byte
  pub none_first : (line : List ℕ) (i : ℕ) → i < length line → prefix_len p (drop i line) ≡ 0 → p (get_or line i 0) ≡ false
  none_first line i h z = none_by (p (get_or line i 0)) refl
    where
      none_by : (b : Bool) → p (get_or line i 0) ≡ b → b ≡ false
      none_by true e = absurd (omega (arith, prefix_len-drop_yes p line i 0 h e))
      none_by false e = refl

-- a text that begins with a byte of runs is a run and the rest
pub run_first : (text : List ℕ) → 0 < prefix_len in_run text → Run text (take (prefix_len in_run text) text) (drop (prefix_len in_run text) text)
run_first text h =
    let n = prefix_len in_run text in
    record {
      is = sym (take-append-drop n text);
      some = omega (arith, length-take-le n text (prefix_len-le-length in_run text));
      all = every_leading in_run text;
      longest = begins_leading in_run text;
    }

-- and there is just one such run
pub run_is : {text run rest : List ℕ} → Run text run rest → (run ≡ take (prefix_len in_run text) text) × (rest ≡ drop (prefix_len in_run text) text)
run_is {text} {run} {rest} r =
    let n : length run ≡ prefix_len in_run text = sym (ap (prefix_len in_run) r.is ∙ leading_front in_run run rest r.all r.longest) in
    (sym (ap (take (prefix_len in_run text)) r.is ∙ take_at run rest _ n), sym (ap (drop (prefix_len in_run text)) r.is ∙ drop_at run rest _ n))

front_begins : (p : ℕ → Bool) (run rest : List ℕ) → 0 < length run → list_all p run ≡ true → begins p (run ++ rest) ≡ true
front_begins p [] rest s a = absurd (omega arith)
front_begins p (x ∷ run) rest s a = (and_parts (p x) (list_all p run) a).0

pub run_begins : {text run rest : List ℕ} → Run text run rest → begins in_run text ≡ true
run_begins {text} {run} {rest} r = ap (begins in_run) r.is ∙ front_begins in_run run rest r.some r.all

between_is : (low high b : ℕ) → between low high b ≡ true → (low ≤ b) × (b ≤ high)
between_is low high b e = let h = and_parts _ _ e in (leb-true _ _ h.0, leb-true _ _ h.1)

-- a byte of runs is visible
pub run_visible : (b : ℕ) → in_run b ≡ true → is_visible b ≡ false → ⊥
run_visible b e v =
    let both : (33 ≤ b) → (b ≤ 126) → ⊥ = λ l h. both_ways (is_visible b) v (and_from _ _ (le-leb _ _ l) (le-leb _ _ h)) in
    let seen : (low high : ℕ) → 33 ≤ low → high ≤ 126 → between low high b ≡ true → ⊥ = λ low high l h s. let x = between_is low high b s in both (omega arith) (omega arith) in
    ⊎_elim
    (λ (l : is_letter b ≡ true).
    ⊎_elim (λ (s : between 97 122 b ≡ true). seen 97 122 (omega arith) (omega arith) s)
    (λ m. ⊎_elim (λ (s : between 65 90 b ≡ true). seen 65 90 (omega arith) (omega arith) s) (λ s. let x = eqb-true b 95 s in both (omega arith) (omega arith)) (or_cases (between 65 90 b) _ m))
    (or_cases (between 97 122 b) _ l))
    (λ (d : is_digit b ≡ true). seen 48 57 (omega arith) (omega arith) d)
    (or_cases (is_letter b) (is_digit b) e)
