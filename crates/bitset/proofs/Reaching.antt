-- What steps come to.
use Rattle.std.proofs.Common.{ℕ}
use Rattle.bitset.specs.Steps.{Reached, reached_none, reached_more}

-- what holds of 0 and stays true with each step holds of what the steps come to
pub reached_all : {R : ℕ → ℕ → Type 0} (P : ℕ → Type 0) → P 0 → ((a b : ℕ) → P a → R a b → P b) → {n : ℕ} → Reached R n → P n
reached_all P none more reached_none = none
reached_all P none more (reached_more {a} {b} was step) = more a b (reached_all P none more was) step
