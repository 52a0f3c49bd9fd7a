-- Bytes that are written one after the other into a text of a fixed length.
use Rattle.std.proofs.Common.{◌≡◌, ℕ, ◌+◌, ◌≤◌, List, [], ◌∷◌, ◌++◌, length, take, drop, set, IsErrAnd, Ok, Err, Result, sym, refl, ap, ◌∙◌, subst, add-zero, arith, length-append, length-set}
use Rattle.std.proofs.lemmas.List.{append-nil, append_assoc, set_at, set_past, drop_all, length_push, length-take-le, length-drop, take-append-drop}
use Rattle.std.proofs.lemmas.Result.{err_from_is_err_and}
use Rattle.grammar.specs.declared.refusals.FileRefusal.{FileRefusal}
use Rattle.syntax.specs.declared.text.TextWriter.{TextWriter}
use Rattle.syntax.specs.Writing.{overlaid, Wrote, Writes}

pub length_overlaid : (b : List ℕ) (at : ℕ) (xs : List ℕ) → length (overlaid b at xs) ≡ length b
unfolding overlaid
length_overlaid b at [] = refl
length_overlaid b at (x ∷ xs) = length_overlaid (set b at x) (at + 1) xs ∙ length-set b at x

pub overlaid_none : (b : List ℕ) (at : ℕ) → overlaid b at [] ≡ b
unfolding overlaid
overlaid_none b at = refl

pub overlaid_append : (b : List ℕ) (at : ℕ) (xs ys : List ℕ) → overlaid b at (xs ++ ys) ≡ overlaid (overlaid b at xs) (at + length xs) ys
unfolding overlaid
overlaid_append b at [] ys = ap (λ n. overlaid b n ys) (sym (add-zero at))
overlaid_append b at (x ∷ xs) ys =
    overlaid_append (set b at x) (at + 1) xs ys ∙ ap (λ n. overlaid (overlaid (set b at x) (at + 1) xs) n ys) (omega arith)

-- past the end nothing is written
pub overlaid_past : (b : List ℕ) (at : ℕ) (xs : List ℕ) → length b ≤ at → overlaid b at xs ≡ b
unfolding overlaid
overlaid_past b at [] h = refl
overlaid_past b at (x ∷ xs) h = ap (λ c. overlaid c (at + 1) xs) (set_past b at x h) ∙ overlaid_past b (at + 1) xs (omega arith)

-- where the bytes have no room, more behind them change nothing
pub overlaid_full : (b : List ℕ) (at : ℕ) (xs ys : List ℕ) → length b ≤ at + length xs → overlaid b at (xs ++ ys) ≡ overlaid b at xs
overlaid_full b at xs ys h = overlaid_append b at xs ys ∙ overlaid_past (overlaid b at xs) (at + length xs) ys (omega (arith, length_overlaid b at xs))

-- the front of the bytes that has room, written, is all that is written
pub overlaid_front : (b : List ℕ) (at : ℕ) (xs : List ℕ) (i : ℕ) → i ≤ length xs → length b ≤ at + i → overlaid b at (take i xs) ≡ overlaid b at xs
overlaid_front b at xs i h l =
    let n = length-take-le i xs h in
    sym (overlaid_full b at (take i xs) (drop i xs) (omega arith)) ∙ ap (overlaid b at) (take-append-drop i xs)

behind :
    (w u v : TextWriter) (xs ys : List ℕ) (a : Result (Unit {0}) FileRefusal) →
    Wrote w xs u →
    u.end ≡ w.end + length xs →
    overlaid u.out.now u.end ys ≡ overlaid w.out.now w.end (xs ++ ys) →
    length u.out.now ≡ length w.out.now →
    Writes u ys a v →
    Writes w (xs ++ ys) a v
behind w u v xs ys (Ok t) f e text size (g, k) =
    (record { lent = g.lent ∙ f.lent; text = g.text ∙ text }, omega (arith, length-append xs ys))
behind w u v xs ys (Err x) f e text size (s, g, k, q) =
    (s, record { lent = g.lent ∙ f.lent; text = g.text ∙ text }, omega arith, omega (arith, length-append xs ys))

-- bytes behind bytes that are written
pub writes_then :
    (w u v : TextWriter) (xs ys : List ℕ) (a : Result (Unit {0}) FileRefusal) →
    Writes w xs (Ok tt) u →
    Writes u ys a v →
    Writes w (xs ++ ys) a v
writes_then w u v xs ys a (f, e) g =
    let text : overlaid u.out.now u.end ys ≡ overlaid w.out.now w.end (xs ++ ys) =
    ap (λ t. overlaid t u.end ys) f.text
    ∙ ap (λ k. overlaid (overlaid w.out.now w.end xs) k ys) e
    ∙ sym (overlaid_append w.out.now w.end xs ys) in
    let size : length u.out.now ≡ length w.out.now = ap length f.text ∙ length_overlaid w.out.now w.end xs in
    behind w u v xs ys a f e text size g

-- where the first bytes have no room, all of them have none
pub writes_stop :
    (w v : TextWriter) (xs ys : List ℕ) (e : FileRefusal) →
    Writes w xs (Err e) v →
    Writes w (xs ++ ys) (Err e) v
writes_stop w v xs ys e (s, f, k, q) =
    (s, record { lent = f.lent; text = f.text ∙ sym (overlaid_full w.out.now w.end xs ys (omega arith)) }, k, omega (arith, length-append xs ys))

-- the same bytes
pub writes_same :
    (w v : TextWriter) (xs text : List ℕ) (a : Result (Unit {0}) FileRefusal) →
    text ≡ xs →
    Writes w xs a v →
    Writes w text a v
writes_same w v xs text a e h = subst (λ (t : List ℕ). Writes w t a v) (sym e) h

-- bytes behind bytes that are written, where the two together are the text
pub writes_on :
    (w u v : TextWriter) (xs ys text : List ℕ) (a : Result (Unit {0}) FileRefusal) →
    text ≡ xs ++ ys →
    Writes w xs (Ok tt) u →
    Writes u ys a v →
    Writes w text a v
writes_on w u v xs ys text a e h g = writes_same w v (xs ++ ys) text a e (writes_then w u v xs ys a h g)

-- the exit of a `?` whose bytes have no room
pub writes_exit :
    (a : Result (Unit {0}) FileRefusal) (e : FileRefusal) →
    IsErrAnd a (λ f. f ≡ e) →
    (w v : TextWriter) (xs ys text : List ℕ) →
    text ≡ xs ++ ys →
    Writes w xs (Err e) v →
    Writes w text a v
writes_exit a e h w v xs ys text t g =
    let p = err_from_is_err_and a h in
    subst (λ (x : Result (Unit {0}) FileRefusal). Writes w text x v) (sym (p.1 ∙ ap Err p.2))
    (writes_same w v (xs ++ ys) text (Err e) t (writes_stop w v xs ys e g))

-- a text in three parts: the exit at the first and at the second, and all of it
module _ (w : TextWriter) (xs ys zs text : List ℕ) (e : text ≡ xs ++ (ys ++ zs)) where
  pub first_stops : (a : Result (Unit {0}) FileRefusal) (k : FileRefusal) → IsErrAnd a (λ f. f ≡ k) → (v : TextWriter) → Writes w xs (Err k) v → Writes w text a v
  first_stops a k h v g = writes_exit a k h w v xs (ys ++ zs) text e g

  pub second_stops :
      (a : Result (Unit {0}) FileRefusal) (k : FileRefusal) →
      IsErrAnd a (λ f. f ≡ k) →
      (u v : TextWriter) →
      Writes w xs (Ok tt) u →
      Writes u ys (Err k) v →
      Writes w text a v
  second_stops a k h u v f g = writes_on w u v xs (ys ++ zs) text a e f (writes_exit a k h u v ys zs (ys ++ zs) refl g)

  pub all_three :
      (a : Result (Unit {0}) FileRefusal) (u o v : TextWriter) →
      Writes w xs (Ok tt) u →
      Writes u ys (Ok tt) o →
      Writes o zs a v →
      Writes w text a v
  all_three a u o v f g h = writes_on w u v xs (ys ++ zs) text a e f (writes_on u o v ys zs (ys ++ zs) a refl g h)

-- behind a front that stays, as many bytes as are written are replaced
overlaid_behind : (front b xs : List ℕ) → length xs ≤ length b → overlaid (front ++ b) (length front) xs ≡ front ++ (xs ++ drop (length xs) b)
unfolding overlaid
overlaid_behind front b [] h = refl
overlaid_behind front [] (x ∷ xs) h = absurd (omega arith)
overlaid_behind front (y ∷ b) (x ∷ xs) h =
    ap (λ t. overlaid t (length front + 1) xs) (set_at front y b x (length front) refl ∙ sym (append_assoc front (x ∷ []) b))
    ∙ ap (λ n. overlaid ((front ++ x ∷ []) ++ b) n xs) (sym (length_push front x))
    ∙ overlaid_behind (front ++ x ∷ []) b xs (omega arith)
    ∙ append_assoc front (x ∷ []) (xs ++ drop (length xs) b)

-- the bytes of a part that has room for them
pub overlaid_part : (b : List ℕ) (at : ℕ) (xs : List ℕ) → at + length xs ≤ length b → overlaid b at xs ≡ take at b ++ (xs ++ drop (length xs) (drop at b))
overlaid_part b at xs h =
    let n = length-take-le at b (omega arith) in
    ap (λ t. overlaid t at xs) (sym (take-append-drop at b))
    ∙ ap (λ k. overlaid (take at b ++ drop at b) k xs) (sym n)
    ∙ overlaid_behind (take at b) (drop at b) xs (omega (arith, length-drop at b))

-- the same of a part of k bytes that are copied into
pub part_copied :
    (b : List ℕ) (at k : ℕ) (ys xs : List ℕ) →
    ys ≡ xs →
    k ≡ length xs →
    at + k ≤ length b →
    take at b ++ (ys ++ drop k (drop at b)) ≡ overlaid b at xs
part_copied b at k ys xs e f h = rw (e, f) (sym (overlaid_part b at xs (omega arith)))

-- all of a text, written from its start on: it stands before what is left of the text that was there
pub overlaid_whole : (b xs : List ℕ) → length xs ≤ length b → overlaid b 0 xs ≡ xs ++ drop (length xs) b
overlaid_whole b xs h = overlaid_behind [] b xs h

-- a longer text, cut where there is no more room
pub overlaid_cut : (b xs : List ℕ) → length b ≤ length xs → overlaid b 0 xs ≡ take (length b) xs
overlaid_cut b xs h =
    let n = length-take-le (length b) xs h in
    sym (overlaid_front b 0 xs (length b) h (omega arith))
    ∙ overlaid_whole b (take (length b) xs) (omega arith)
    ∙ ap (λ k. take (length b) xs ++ drop k b) n
    ∙ ap (λ t. take (length b) xs ++ t) (drop_all (length b) b (omega arith))
    ∙ append-nil (take (length b) xs)
