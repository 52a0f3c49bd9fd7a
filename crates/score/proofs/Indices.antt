-- Entries of a table in three coordinates: they lie in it, and no two are one.
use Rattle.std.proofs.Common.{◌≡◌, ℕ, suc, ◌+◌, ◌*◌, ◌<◌, ◌≤◌, ap, ⊎_elim, mul-le-mul_right, arith}
use Rattle.std.proofs.lemmas.Nat.{mul-add-lt}
use Rattle.std.proofs.lemmas.Bool.{cases_order}
use Rattle.score.specs.Filled.{entry_at}

row_low : (N P d r : ℕ) → d < P → r < N → d * N + r < P * N
row_low N P d r ld lr = let a = mul-add-lt d N r P ld lr in omega arith

-- every entry lies below the number of entries
pub entry_low : (n P d i j : ℕ) → d < P → i ≤ n → j ≤ n → entry_at n d i j < P * ((n + 1) * (n + 1))
entry_low n P d i j ld li lj =
    let a : i * (n + 1) + j < (n + 1) * (n + 1) = row_low (n + 1) (n + 1) i j (omega arith) (omega arith) in
    let b = row_low ((n + 1) * (n + 1)) P d (i * (n + 1) + j) ld a in
    omega arith

less : (N d r e t : ℕ) → r < N → d < e → d * N + r < e * N + t
less N d r e t lr l = let a : suc d * N ≤ e * N = mul-le-mul_right N l in omega arith

pub row_unique : (N d r e t : ℕ) → r < N → t < N → d * N + r ≡ e * N + t → (d ≡ e) × (r ≡ t)
row_unique N d r e t lr lt eq =
    ⊎_elim (λ (s : d ≡ e). (s, let m : d * N ≡ e * N = ap (λ z. z * N) s in omega arith))
    (⊎_elim (λ (h : d < e). let a = less N d r e t lr h in absurd (omega arith)) (λ (h : e < d). let a = less N e t d r lt h in absurd (omega arith)))
    (cases_order d e)

-- an entry has one place, one origin and one end
pub entry_unique :
    (n d i j e k l : ℕ) → i ≤ n → j ≤ n → k ≤ n → l ≤ n → entry_at n d i j ≡ entry_at n e k l → (d ≡ e) × (i ≡ k) × (j ≡ l)
entry_unique n d i j e k l li lj lk ll eq =
    let a : i * (n + 1) + j < (n + 1) * (n + 1) = row_low (n + 1) (n + 1) i j (omega arith) (omega arith) in
    let b : k * (n + 1) + l < (n + 1) * (n + 1) = row_low (n + 1) (n + 1) k l (omega arith) (omega arith) in
    let u = row_unique ((n + 1) * (n + 1)) d (i * (n + 1) + j) e (k * (n + 1) + l) a b (omega arith) in
    let v = row_unique (n + 1) i j k l (omega arith) (omega arith) u.1 in
    (u.0, v.0, v.1)
