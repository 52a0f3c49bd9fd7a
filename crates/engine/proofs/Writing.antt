-- Records written over the first bytes of an output. Assumes nothing.
use Rattle.std.proofs.Common.{◌≡◌, ℕ, ◌+◌, ◌-◌, ◌*◌, ◌<◌, ◌≤◌, List, [], ◌∷◌, ◌++◌, length, get_or, take, drop, set, sym, refl, ap, ◌∙◌, arith}
use Rattle.std.proofs.lemmas.List.{append_assoc, length-take-le, take_more, drop_more, set-append_right}
use Rattle.listing_theory.specs.declared.record.Record.{Record}
use Rattle.engine.specs.Answers.{bytes, written}

pub bytes_append : (xs ys : List Record) → bytes (xs ++ ys) ≡ bytes xs ++ bytes ys
bytes_append [] ys = refl
bytes_append (x ∷ xs) ys = ap (λ t. x.production ∷ x.start ∷ x.end ∷ t) (bytes_append xs ys)

pub bytes_length : (xs : List Record) → length (bytes xs) ≡ 3 * length xs
bytes_length [] = refl
bytes_length (x ∷ xs) = omega (arith, bytes_length xs)

three_more : (out : List ℕ) (n : ℕ) → n + 3 ≤ length out → drop n out ≡ get_or out n 0 ∷ get_or out (n + 1) 0 ∷ get_or out (n + 1 + 1) 0 ∷ drop (n + 3) out
three_more out n h =
    let e : n + 1 + 1 + 1 ≡ n + 3 = omega arith in
    drop_more out n 0 (omega arith)
    ∙ ap (λ t. get_or out n 0 ∷ t) (drop_more out (n + 1) 0 (omega arith))
    ∙ ap (λ t. get_or out n 0 ∷ get_or out (n + 1) 0 ∷ t) (drop_more out (n + 1 + 1) 0 (omega arith))
    ∙ ap (λ k. get_or out n 0 ∷ get_or out (n + 1) 0 ∷ get_or out (n + 1 + 1) 0 ∷ drop k out) e

-- three bytes written behind those of the front
three_set :
    (front rest : List ℕ) (n a b c x y z : ℕ) →
    length front ≡ n →
    set (set (set (front ++ a ∷ b ∷ c ∷ rest) n x) (n + 1) y) (n + 2) z ≡ front ++ x ∷ y ∷ z ∷ rest
three_set front rest n a b c x y z l =
    let e : n - n ≡ 0 = omega arith in
    let f : n + 1 - n ≡ 1 = omega arith in
    let g : n + 2 - n ≡ 2 = omega arith in
    ap (λ t. set (set t (n + 1) y) (n + 2) z) (set-append_right front (a ∷ b ∷ c ∷ rest) n n x l (omega arith) ∙ ap (λ k. front ++ set (a ∷ b ∷ c ∷ rest) k x) e)
    ∙ ap (λ t. set t (n + 2) z) (set-append_right front (x ∷ b ∷ c ∷ rest) n (n + 1) y l (omega arith) ∙ ap (λ k. front ++ set (x ∷ b ∷ c ∷ rest) k y) f)
    ∙ (set-append_right front (x ∷ y ∷ c ∷ rest) n (n + 2) z l (omega arith) ∙ ap (λ k. front ++ set (x ∷ y ∷ c ∷ rest) k z) g)

module _ (records : List Record) (out : List ℕ) (i : ℕ) (d : Record) (h : i < length records) (r : 3 * length records ≤ length out) where
  front : bytes (take (i + 1) records) ≡ bytes (take i records) ++ (get_or records i d).production ∷ (get_or records i d).start ∷ (get_or records i d).end ∷ []
  front = ap bytes (take_more records i d h) ∙ bytes_append (take i records) (get_or records i d ∷ [])

  -- one record more
  pub write_more :
      (now : List ℕ) →
      now ≡ written (take i records) out →
      set (set (set now (3 * i) (get_or records i d).production) (3 * i + 1) (get_or records i d).start) (3 * i + 2) (get_or records i d).end ≡ written (take (i + 1) records) out
  write_more now e =
      let x = get_or records i d in
      let pre = bytes (take i records) in
      let n = length-take-le i records (omega arith) in
      let m = length-take-le (i + 1) records (omega arith) in
      let at : 3 * length (take i records) ≡ 3 * i = omega arith in
      let to : 3 * i + 3 ≡ 3 * length (take (i + 1) records) = omega arith in
      let l : length pre ≡ 3 * i = bytes_length (take i records) ∙ at in
      let split : now ≡ pre ++ get_or out (3 * i) 0 ∷ get_or out (3 * i + 1) 0 ∷ get_or out (3 * i + 1 + 1) 0 ∷ drop (3 * i + 3) out = e ∙ ap (λ k. pre ++ drop k out) at ∙ ap (λ t. pre ++ t) (three_more out (3 * i) (omega arith)) in
      ap (λ t. set (set (set t (3 * i) x.production) (3 * i + 1) x.start) (3 * i + 2) x.end) split
      ∙ three_set pre (drop (3 * i + 3) out) (3 * i) _ _ _ x.production x.start x.end l
      ∙ sym (append_assoc pre (x.production ∷ x.start ∷ x.end ∷ []) (drop (3 * i + 3) out))
      ∙ ap (λ t. t ++ drop (3 * i + 3) out) (sym front)
      ∙ ap (λ k. bytes (take (i + 1) records) ++ drop k out) to
