-- The next word of a line. Assumes nothing.
use Rattle.std.proofs.Common.{◌≡◌, ℕ, ◌+◌, ◌-◌, ◌<◌, ◌≤◌, Bool, true, false, cond, List, [], ◌∷◌, length, get_or, take, drop, sym, refl, ap, ◌∙◌, subst, arith}
use Rattle.std.specs.List.{prefix_len, list_all}
use Rattle.std.proofs.lemmas.List.{drop-drop, drop_more, drop_all, length-take-le, length-drop, get_or-drop, take_rest}
use Rattle.std.proofs.lemmas.Bool.{eqb-true, both_ways, eq-eqb}
use Rattle.std.proofs.lemmas.List.Sums.{prefix_len_stops}
use Rattle.lines.specs.Bytes.{is_blank, is_letter, is_digit, in_run, is_visible, begins}
use Rattle.lines.specs.Cuts.{Word, name, number, mark, stray, bytes_of, Placed, word_of_run, Starts, starts_run, starts_mark, starts_stray, Cuts, cut_end, cut_blank, cut_word}
use Rattle.lines.specs.declared.next.Words.{Words}
use Rattle.lines.specs.Iterating.{Continues}
use Rattle.lines.proofs.Runs.{one_more, run_first}

moved : {at to : ℕ} {text line : List ℕ} {ws : List Placed} → at ≡ to → text ≡ line → Cuts at text ws → Cuts to line ws
moved {at} {to} {text} {line} {ws} e f c = subst (λ l. Cuts to l ws) f (subst (λ n. Cuts n text ws) e c)

pass_step : (c : Bool) (b : ℕ) (rest : List ℕ) (at n : ℕ) (ws : List Placed) → is_blank b ≡ c → (Cuts (at + 1 + n) (drop n rest) ws → Cuts (at + 1) rest ws) → Cuts (at + cond c (1 + n) 0) (drop (cond c (1 + n) 0) (b ∷ rest)) ws → Cuts at (b ∷ rest) ws
pass_step true b rest at n ws e f c = subst (λ x. Cuts at (x ∷ rest) ws) (sym (eqb-true b 32 e)) (cut_blank (f (moved (omega arith) (ap (λ m. drop m (b ∷ rest)) (one_more n)) c)))
pass_step false b rest at n ws e f c = moved (omega arith) refl c

-- blanks in front are passed over
pub pass : (at : ℕ) (text : List ℕ) (ws : List Placed) → Cuts (at + prefix_len is_blank text) (drop (prefix_len is_blank text) text) ws → Cuts at text ws
pass at [] ws c = moved (omega arith) refl c
pass at (b ∷ rest) ws c = pass_step (is_blank b) b rest at (prefix_len is_blank rest) ws refl (pass (at + 1) rest ws) c

module _ (line : List ℕ) (from at : ℕ) (e : at ≡ from + prefix_len is_blank (drop from line)) where
  -- the word that stands behind the blanks comes first
  pub next_by : (w : Word) (end : ℕ) → end ≡ at + length (bytes_of w) → Starts (drop at line) w (drop end line) → (ws : List Placed) → Cuts end (drop end line) ws → Cuts from (drop from line) ((w, at) ∷ ws)
  next_by w end f s ws c =
      let n = prefix_len is_blank (drop from line) in
      pass from (drop from line) _ (moved e (ap (λ m. drop m line) e ∙ sym (drop-drop n from line)) (cut_word s (moved f refl c)))

-- where what passes ends, of the text from a place on
pub front_at : (p : ℕ → Bool) (line rest : List ℕ) (from n : ℕ) → rest ≡ take (length line - from) (drop from line) → n ≡ prefix_len p rest → from + n ≡ from + prefix_len p (drop from line)
front_at p line rest from n e f = ap (λ k. from + k) (f ∙ ap (prefix_len p) (e ∙ take_rest line from))

blank_stops : (line : List ℕ) (from at : ℕ) → at ≡ from + prefix_len is_blank (drop from line) → at < length line → is_blank (get_or line at 0) ≡ false
blank_stops line from at e h =
    let n = prefix_len is_blank (drop from line) in
    let l = length-drop from line in
    ap is_blank (ap (λ k. get_or line k 0) e ∙ sym (get_or-drop from line n 0)) ∙ prefix_len_stops is_blank (drop from line) 0 (omega arith)

-- and no blank stands there
pub no_blank : (line : List ℕ) (from at : ℕ) → at ≡ from + prefix_len is_blank (drop from line) → at < length line → ¬ (get_or line at 0 ≡ 32)
no_blank line from at e h b = both_ways (is_blank (get_or line at 0)) (blank_stops line from at e h) (eq-eqb _ 32 b)

pub next_none : (line : List ℕ) (from : ℕ) → length line ≤ from + prefix_len is_blank (drop from line) → Cuts from (drop from line) []
next_none line from h =
    let n = prefix_len is_blank (drop from line) in
    pass from (drop from line) [] (moved refl (sym (drop-drop n from line ∙ drop_all (from + n) line h)) cut_end)

word_bytes : (b c : Bool) (run : List ℕ) → bytes_of (cond b (name run) (cond c (number run) (mark run))) ≡ run
word_bytes true c run = refl
word_bytes false true run = refl
word_bytes false false run = refl

-- the bytes of the word that a run is
pub run_bytes : (run : List ℕ) → bytes_of (word_of_run run) ≡ run
run_bytes run = word_bytes (begins is_letter run) (list_all is_digit run) run

-- a run that stands at a place
module _ (line : List ℕ) (at end : ℕ) (e : end ≡ at + prefix_len in_run (drop at line)) (m : at < end) (w : Word) (f : w ≡ word_of_run (take (end - at) (drop at line))) where
  long : end - at ≡ prefix_len in_run (drop at line)
  long = omega arith

  pub run_starts : Starts (drop at line) w (drop end line)
  run_starts =
      let n = prefix_len in_run (drop at line) in
      subst (λ t. Starts (drop at line) w t) (drop-drop n at line ∙ ap (λ k. drop k line) (sym e))
      (starts_run (run_first (drop at line) (omega arith)) (f ∙ ap (λ k. word_of_run (take k (drop at line))) long))

  pub run_end : end ≤ length line → at + length (bytes_of w) ≡ end
  run_end h =
      let b : length (bytes_of w) ≡ length (take (end - at) (drop at line)) = ap (λ (x : Word). length (bytes_of x)) f ∙ ap length (run_bytes (take (end - at) (drop at line))) in
      omega (arith, length-take-le (end - at) (drop at line) (omega (arith, length-drop at line)))

-- a byte that stands at a place
module _ (line : List ℕ) (at : ℕ) (h : at < length line) where
  pub one_byte : take (at + 1 - at) (drop at line) ≡ get_or line at 0 ∷ []
  one_byte =
      let one : at + 1 - at ≡ 1 = omega arith in
      ap (λ k. take k (drop at line)) one ∙ ap (take 1) (drop_more line at 0 h)

  pub mark_starts : in_run (get_or line at 0) ≡ false → is_visible (get_or line at 0) ≡ true → Starts (drop at line) (mark (take (at + 1 - at) (drop at line))) (drop (at + 1) line)
  mark_starts i v = subst (λ bs. Starts (drop at line) (mark bs) (drop (at + 1) line)) (sym one_byte) (starts_mark (drop_more line at 0 h) i v)

  pub stray_starts : (¬ (get_or line at 0 ≡ 32)) → is_visible (get_or line at 0) ≡ false → Starts (drop at line) (stray (take (at + 1 - at) (drop at line))) (drop (at + 1) line)
  stray_starts i v = subst (λ bs. Starts (drop at line) (stray bs) (drop (at + 1) line)) (sym one_byte) (starts_stray (drop_more line at 0 h) i v)

-- the cut of the words that are left
pub moved_on : {line : List ℕ} {from : ℕ} (w : Words) {ws : List Placed} → Continues line from w → Cuts w.from (drop w.from w.line.now) ws → Cuts from (drop from line) ws
moved_on {line} {from} w {ws} c cut = subst (λ t. Cuts from (drop from t) ws) c.0 (subst (λ n. Cuts n (drop n w.line.now) ws) c.1 cut)
