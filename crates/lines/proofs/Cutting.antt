-- Every text has exactly one cut. Assumes nothing.
use Rattle.std.proofs.Common.{◌≡◌, ℕ, zero, suc, ◌+◌, ◌≤◌, true, false, cond, List, [], ◌∷◌, length, take, drop, sym, refl, ap, ◌∙◌, subst, ⊎_elim, arith}
use Rattle.std.specs.List.{prefix_len}
use Rattle.std.proofs.lemmas.List.{length-drop}
use Rattle.std.proofs.lemmas.Bool.{both_ways, cases_Bool, cases_eq}
use Rattle.lines.specs.Bytes.{in_run, is_visible, begins}
use Rattle.lines.specs.Cuts.{Word, mark, stray, bytes_of, Placed, Run, word_of_run, Starts, starts_run, starts_mark, starts_stray, Cuts, cut_end, cut_blank, cut_word, OneCut}
use Rattle.lines.proofs.Runs.{run_first, run_is, run_begins, run_visible}

-- a text that begins with no blank starts with a word
pub some_word : (b : ℕ) (rest : List ℕ) → (¬ (b ≡ 32)) → (w : Word) × (tail : List ℕ) × Starts (b ∷ rest) w tail × (length tail ≤ length rest)
some_word b rest n =
    ⊎_elim
    (λ (e : in_run b ≡ true).
    let text = b ∷ rest in
    let m = prefix_len in_run text in
    let long : m ≡ 1 + prefix_len in_run rest = ap (λ c. cond c (1 + prefix_len in_run rest) 0) e in
    (word_of_run (take m text), drop m text, starts_run (run_first text (omega arith)) refl, omega (arith, length-drop m text)))
    (λ (e : in_run b ≡ false).
    ⊎_elim
    (λ (v : is_visible b ≡ true). (mark (b ∷ []), rest, starts_mark refl e v, omega arith))
    (λ (v : is_visible b ≡ false). (stray (b ∷ []), rest, starts_stray refl n v, omega arith))
    (cases_Bool (is_visible b)))
    (cases_Bool (in_run b))

cut_below : (n : ℕ) (text : List ℕ) → length text ≤ n → (at : ℕ) → (ws : List Placed) × Cuts at text ws
cut_below n [] l at = ([], cut_end)
cut_below zero (b ∷ rest) l at = absurd (omega arith)
cut_below (suc n) (b ∷ rest) l at =
    ⊎_elim
    (λ (e : b ≡ 32).
    let r = cut_below n rest (omega arith) (at + 1) in
    (r.0, subst (λ x. Cuts at (x ∷ rest) r.0) (sym e) (cut_blank r.1)))
    (λ (e : ¬ (b ≡ 32)).
    let s = some_word b rest e in
    let r = cut_below n s.1 (let t = s.3 in omega arith) (at + length (bytes_of s.0)) in
    ((s.0, at) ∷ r.0, cut_word s.2 r.1))
    (cases_eq b 32)

-- every text has a cut
pub some_cut : (at : ℕ) (text : List ℕ) → (ws : List Placed) × Cuts at text ws
some_cut at text = cut_below (length text) text (omega arith) at

some_none : (b : ℕ) (rest : List ℕ) → ◌≡◌ {A = List ℕ} (b ∷ rest) [] → ⊥
some_none b rest e = let z = ap length e in omega arith

starts_some : {text rest : List ℕ} {w : Word} → Starts text w rest → text ≡ [] → ⊥
starts_some {text} (starts_run r e) h = both_ways (begins in_run text) (ap (begins in_run) h) (run_begins r)
starts_some {text} (starts_mark {b = b} {rest = rest} e i v) h = some_none b rest (sym e ∙ h)
starts_some {text} (starts_stray {b = b} {rest = rest} e i v) h = some_none b rest (sym e ∙ h)

first_same : (b c : ℕ) (xs ys : List ℕ) → ◌≡◌ {A = List ℕ} (b ∷ xs) (c ∷ ys) → (b ≡ c) × (xs ≡ ys)
first_same b c xs ys e = (cc, cc)

starts_no_blank : {text rest : List ℕ} {w : Word} (tail : List ℕ) → Starts text w rest → text ≡ 32 ∷ tail → ⊥
starts_no_blank {text} tail (starts_run r e) h = both_ways (begins in_run text) (ap (begins in_run) h) (run_begins r)
starts_no_blank {text} tail (starts_mark {b = b} {rest = rest} e i v) h =
    let same = (first_same b 32 rest tail (sym e ∙ h)).0 in
    both_ways (is_visible b) (ap is_visible same) v
starts_no_blank {text} tail (starts_stray {b = b} {rest = rest} e i v) h = i (first_same b 32 rest tail (sym e ∙ h)).0

run_byte : {text run rest : List ℕ} (b : ℕ) (tail : List ℕ) → Run text run rest → text ≡ b ∷ tail → in_run b ≡ true
run_byte b tail r e = sym (ap (begins in_run) e) ∙ run_begins r

starts_once : {text rest tail : List ℕ} {w v : Word} → Starts text w rest → Starts text v tail → (w ≡ v) × (rest ≡ tail)
starts_once (starts_run r e) (starts_run s f) =
    let x = run_is r in
    let y = run_is s in
    (e ∙ ap word_of_run (x.0 ∙ sym y.0) ∙ sym f, x.1 ∙ sym y.1)
starts_once (starts_run r e) (starts_mark {b = b} {rest = tail} f i v) = absurd (both_ways (in_run b) i (run_byte b tail r f))
starts_once (starts_run r e) (starts_stray {b = b} {rest = tail} f i v) = absurd (run_visible b (run_byte b tail r f) v)
starts_once (starts_mark {b = b} {rest = tail} f i v) (starts_run r e) = absurd (both_ways (in_run b) i (run_byte b tail r f))
starts_once (starts_mark {b = b} {rest = xs} f i v) (starts_mark {b = c} {rest = ys} g j w) =
    let same = first_same b c xs ys (sym f ∙ g) in
    (ap (λ x. mark (x ∷ [])) same.0, same.1)
starts_once (starts_mark {b = b} {rest = xs} f i v) (starts_stray {b = c} {rest = ys} g j w) =
    let same = first_same b c xs ys (sym f ∙ g) in
    absurd (both_ways (is_visible b) (ap is_visible same.0 ∙ w) v)
starts_once (starts_stray {b = b} {rest = tail} f i v) (starts_run r e) = absurd (run_visible b (run_byte b tail r f) v)
starts_once (starts_stray {b = b} {rest = xs} f i v) (starts_mark {b = c} {rest = ys} g j w) =
    let same = first_same b c xs ys (sym f ∙ g) in
    absurd (both_ways (is_visible c) (sym (ap is_visible same.0) ∙ v) w)
starts_once (starts_stray {b = b} {rest = xs} f i v) (starts_stray {b = c} {rest = ys} g j w) =
    let same = first_same b c xs ys (sym f ∙ g) in
    (ap (λ x. stray (x ∷ [])) same.0, same.1)

cuts_once : {at to : ℕ} {text line : List ℕ} {ws vs : List Placed} → Cuts at text ws → Cuts to line vs → at ≡ to → text ≡ line → ws ≡ vs
cuts_once cut_end cut_end e f = refl
cuts_once cut_end (cut_blank {rest = ys} d) e f = absurd (some_none 32 ys (sym f))
cuts_once cut_end (cut_word s d) e f = absurd (starts_some s (sym f))
cuts_once (cut_blank {rest = xs} c) cut_end e f = absurd (some_none 32 xs f)
cuts_once (cut_blank {rest = xs} c) (cut_blank {rest = ys} d) e f = cuts_once c d (ap (λ n. n + 1) e) (first_same 32 32 xs ys f).1
cuts_once (cut_blank {rest = xs} c) (cut_word s d) e f = absurd (starts_no_blank xs s (sym f))
cuts_once (cut_word s c) cut_end e f = absurd (starts_some s f)
cuts_once (cut_word s c) (cut_blank {rest = ys} d) e f = absurd (starts_no_blank ys s f)
cuts_once (cut_word {at = at} {w = w} {ws = ws} s c) (cut_word {at = to} {rest = tail} {w = v} {ws = vs} t d) e f =
    let same = starts_once s (subst (λ l. Starts l v tail) (sym f) t) in
    let place : at + length (bytes_of w) ≡ to + length (bytes_of v) = ap (λ n. n + length (bytes_of w)) e ∙ ap (λ (x : Word). to + length (bytes_of x)) same.0 in
    let more = cuts_once c d place same.1 in
    ap (λ x. (x, at) ∷ ws) same.0 ∙ ap (λ n. (v, n) ∷ ws) e ∙ ap (λ l. (v, to) ∷ l) more

pub one_cut : OneCut
one_cut line =
    let s = some_cut 0 line in
    (s.0, s.1, λ vs c. cuts_once c s.1 refl refl)
