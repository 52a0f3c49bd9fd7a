-- Relations that take in more, step by step. Assumes nothing.
use Rattle.std.specs.Prelude.{ℕ, ◌<◌, ◌⊎◌, ◌↔◌}

-- after the step, the relation holds what it held before and what is new
abbrev pub Adds : (ℕ → ℕ → Type 0) → (ℕ → ℕ → Type 0) → (ℕ → ℕ → Type 0) → Type 0
Adds before after new = (x y : ℕ) → after x y ↔ (before x y ⊎ new x y)

-- after n steps
abbrev pub Gathers : (ℕ → ℕ → Type 0) → (ℕ → ℕ → Type 0) → ℕ → (ℕ → ℕ → ℕ → Type 0) → Type 0
Gathers before after n new = Adds before after (λ x y. (k : ℕ) × (k < n) × new k x y)

-- the step of a number below the count
abbrev pub AnyBelow : ℕ → (ℕ → ℕ → ℕ → Type 0) → ℕ → ℕ → Type 0
AnyBelow count step set next = (k : ℕ) × (k < count) × step set k next

-- what steps of R come to, beginning with no number
pub data Reached (R : ℕ → ℕ → Type 0) : ℕ → Type 0 where
  reached_none : Reached R 0
  reached_more : {a b : ℕ} → Reached R a → R a b → Reached R b
