-- What tables mean, from the truncated form and back.
use Rattle.std.proofs.Common.{◌≡◌, ℕ, ◌≤◌}
use mathlib.Core.HLevel.{⊥_prop}
use mathlib.Core.Logic.{∥∥₁_elim}
use native.Mathlib.Bridge.{le_prop}
use native.Mathlib.Nat.{ℕ_set}
use Rattle.grammar.specs.Grammar.{Grammar}
use Rattle.grammar.specs.Items.{Live}
use Rattle.tables.specs.declared.tables.Tables.{Tables}
use Rattle.tables.specs.Meaning.{Means, Meant}

pub means_to : {t : Tables} {g : Grammar} → Means t g → Meant t g
means_to m = ∣ m ∣₁

module _ {t : Tables} {g : Grammar} (meant : Meant t g) where
  same : {x y : ℕ} → (Means t g → x ≡ y) → x ≡ y
  same {x} {y} f = ∥∥₁_elim meant (ℕ_set x y) f

  most : {x y : ℕ} → (Means t g → x ≤ y) → x ≤ y
  most f = ∥∥₁_elim meant le_prop f

  never : (Means t g → ⊥) → ⊥
  never f = ∥∥₁_elim meant ⊥_prop f

  pub means_from : ((q : ℕ) → Dec (Live g q)) → Means t g
  means_from decided =
      let alive : (q : ℕ) → (Means t g → Live g q) → Live g q = λ q f. elim (decided q) [ yes l ↦ l | no n ↦ absurd (never (λ m. n (f m))) ] in
      record {
        known = same (λ m. m.known);
        start = same (λ m. m.start);
        next = λ p l. same (λ m. m.next p l);
        final = λ p l. same (λ m. m.final p l);
        waits = λ p k q lp lk lq. (
          λ h. (
            (most (λ m. ((m.waits p k q lp lk lq).0 h).0.0), same (λ m. ((m.waits p k q lp lk lq).0 h).0.1)),
            most (λ m. ((m.waits p k q lp lk lq).0 h).1),
            λ c. never (λ m. ((m.waits p k q lp lk lq).0 h).2 c),
          ),
          λ h. same (λ m. (m.waits p k q lp lk lq).1 h),
        );
        short = λ q d lq ld h. (most (λ m. (m.short q d lq ld h).0), most (λ m. (m.short q d lq ld h).1));
        lives = λ q lq. (λ h. alive q (λ m. (m.lives q lq).0 h), λ l. same (λ m. (m.lives q lq).1 l));
        kinds_short = λ a d la ld h. (most (λ m. (m.kinds_short a d la ld h).0), most (λ m. (m.kinds_short a d la ld h).1));
        starts = λ p lp. (
          λ h. (alive p (λ m. ((m.starts p lp).0 h).0), same (λ m. ((m.starts p lp).0 h).1)),
          λ h. same (λ m. (m.starts p lp).1 h),
        );
        befores = λ p k a lp lk la. (
          λ h. (most (λ m. ((m.befores p k a lp lk la).0 h).0), same (λ m. ((m.befores p k a lp lk la).0 h).1)),
          λ h. same (λ m. (m.befores p k a lp lk la).1 h),
        );
        ranks = λ A B l. most (λ m. m.ranks A B l);
        ranks_small = λ A. most (λ m. m.ranks_small A);
      }
