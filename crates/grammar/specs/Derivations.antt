-- Which nonterminals derive the empty list and which lead to which, by the productions alone. Assumes nothing.
use Rattle.std.specs.Prelude.{◌≡◌, ℕ, ◌<◌, List, length}
use Rattle.grammar.specs.Grammar.{Production, Nonterminal, At, left_at, right_at}
use Rattle.grammar.specs.Order.{Closure}

-- s derives the empty list: some production of s has on its right only symbols that do
pub data Nullable (ps : List Production) : ℕ → Type 0 where
  nullable : {p s : ℕ} → p < length ps → left_at ps p ≡ s → ((k x : ℕ) → At (right_at ps p) k x → Nullable ps x) → Nullable ps s

-- a production of A has B at one position and at all others symbols that derive the empty list
pub record Leads (ps : List Production) (A B : ℕ) : Type 0 where
  pub by : ℕ
  pub known : by < length ps
  pub of : left_at ps by ≡ A
  pub place : ℕ
  pub has : At (right_at ps by) place B
  pub below : Nonterminal B
  pub others : (k x : ℕ) → At (right_at ps by) k x → (¬ (k ≡ place)) → Nullable ps x

-- in one step or more
abbrev pub LeadsOn : List Production → ℕ → ℕ → Type 0
LeadsOn ps = Closure (Leads ps)
