-- Records that are written one after the other into a slice of a fixed length.
use Rattle.std.proofs.Common.{◌≡◌, ℕ, suc, ◌-◌, ◌<◌, ◌≤◌, List, [], ◌∷◌, ◌++◌, length, take, drop, set, refl, ap, ◌∙◌, arith, length-drop}
use borrow.Rule.Slice.PartMut.{mid_of, put_mid}
use Rattle.std.proofs.lemmas.List.{append-nil, take_all, drop_all}
use Rattle.listing_theory.specs.declared.record.Record.{Record}
use Rattle.listing.specs.Written.{overlaid}

pub length_overlaid : (b xs : List Record) → length (overlaid b xs) ≡ length b
unfolding overlaid
length_overlaid [] xs = refl
length_overlaid (y ∷ b) [] = refl
length_overlaid (y ∷ b) (x ∷ xs) = ap suc (length_overlaid b xs)

-- where there is no room, nothing is written
pub overlaid_past : (b xs : List Record) → length b ≡ 0 → overlaid b xs ≡ b
unfolding overlaid
overlaid_past [] xs h = refl
overlaid_past (y ∷ b) xs h = absurd (omega arith)

-- where the records have no room, more behind them change nothing
pub overlaid_full : (b xs ys : List Record) → length b ≤ length xs → overlaid b (xs ++ ys) ≡ overlaid b xs
unfolding overlaid
overlaid_full [] xs ys h = refl
overlaid_full (y ∷ b) [] ys h = absurd (omega arith)
overlaid_full (y ∷ b) (x ∷ xs) ys h = ap (λ t. x ∷ t) (overlaid_full b xs ys (omega arith))

-- records behind records that are written
overlaid_more : (b xs ys : List Record) → length xs ≤ length b →
    take (length xs) (overlaid b xs) ++ overlaid (drop (length xs) (overlaid b xs)) ys ≡ overlaid b (xs ++ ys)
unfolding overlaid
overlaid_more [] [] ys h = refl
overlaid_more [] (x ∷ xs) ys h = absurd (omega arith)
overlaid_more (y ∷ b) [] ys h = refl
overlaid_more (y ∷ b) (x ∷ xs) ys h = ap (λ t. x ∷ t) (overlaid_more b xs ys (omega arith))

-- the records from n on, and the records with others in their place
abbrev pub tail_of : ℕ → List Record → List Record
tail_of n b = mid_of n (length b - n) b

abbrev pub with_tail : ℕ → List Record → List Record → List Record
with_tail n b part = put_mid n (length b - n) b part

tail_is : (n : ℕ) (b : List Record) → tail_of n b ≡ drop n b
tail_is n b = take_all (length b - n) (drop n b) (omega (arith, length-drop n b))

with_tail_is : (n : ℕ) (b part : List Record) → with_tail n b part ≡ take n b ++ part
with_tail_is n b part =
    ap (λ t. take n b ++ t) (ap (λ t. part ++ t) (drop_all (length b - n) (drop n b) (omega (arith, length-drop n b))) ∙ append-nil part)

pub length_tail : (n : ℕ) (b : List Record) → length (tail_of n b) ≡ length b - n
length_tail n b = ap length (tail_is n b) ∙ length-drop n b

-- the same, where what is behind is written as the records from n on
pub overlaid_tail :
    (b out xs ys : List Record) (n : ℕ) →
    out ≡ overlaid b xs →
    n ≡ length xs →
    length xs ≤ length b →
    with_tail n out (overlaid (tail_of n out) ys) ≡ overlaid b (xs ++ ys)
overlaid_tail b out xs ys n was count h =
    with_tail_is n out (overlaid (tail_of n out) ys)
    ∙ ap (λ t. take n out ++ overlaid t ys) (tail_is n out)
    ∙ ap (λ l. take l out ++ overlaid (drop l out) ys) count
    ∙ ap (λ t. take (length xs) t ++ overlaid (drop (length xs) t) ys) was
    ∙ overlaid_more b xs ys h

-- a list with room: it stands before what is left of the records that were there
pub overlaid_whole : (b xs : List Record) → length xs ≤ length b → overlaid b xs ≡ xs ++ drop (length xs) b
unfolding overlaid
overlaid_whole [] [] h = refl
overlaid_whole [] (x ∷ xs) h = absurd (omega arith)
overlaid_whole (y ∷ b) [] h = refl
overlaid_whole (y ∷ b) (x ∷ xs) h = ap (λ t. x ∷ t) (overlaid_whole b xs (omega arith))

-- a longer list, cut where there is no more room
pub overlaid_cut : (b xs : List Record) → length b ≤ length xs → overlaid b xs ≡ take (length b) xs
unfolding overlaid
overlaid_cut [] xs h = refl
overlaid_cut (y ∷ b) [] h = absurd (omega arith)
overlaid_cut (y ∷ b) (x ∷ xs) h = ap (λ t. x ∷ t) (overlaid_cut b xs (omega arith))

-- the first record, written
pub first_written : (b : List Record) (x : Record) → 0 < length b → set b 0 x ≡ overlaid b (x ∷ [])
unfolding overlaid
first_written [] x h = absurd (omega arith)
first_written (y ∷ []) x h = refl
first_written (y ∷ z ∷ b) x h = refl
