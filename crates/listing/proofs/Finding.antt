-- What `find_map` gives over a range of numbers.
use Rattle.std.proofs.Common.{◌≡◌, ℕ, ◌+◌, ◌-◌, ◌<◌, ◌≤◌, Option, Some, None, MatchOption, IsTrue, IfSome, IsSomeAnd, ap, ◌∙◌, subst, arith}
use denote.Param.Members.{Mut, Called}
use Rattle.std.specs.Option.{option_map}
use Rattle.std.specs.declared.ops.Range.{Range}
use Rattle.std.specs.Iterator.Runs.{Run, SomeRun, CallKeepsClosure, AllItemsGive, IsFirstToGive}
use Rattle.std.proofs.iter.Yields.{nat_range_steps}
use Rattle.std.proofs.iter.runs.Sources.{range_runs}

same : (o : Option ℕ) (n : ℕ) → option_map (λ y. y) o ≡ Some n → o ≡ Some n
same None n e = cc
same (Some x) n e = e

-- the item at a place of a run over a range
item : (p : Run nat_range_steps) (k m : ℕ) → k < p.len → p.from.start + k ≡ m → p.at k ≡ Some m
item p k m l e = same (p.at k) (p.from.start + k) ((range_runs p p.seen).3 k l) ∙ ap Some e

module _
    {F B : Type 0}
    {g : Mut F (ℕ × Unit {0}) (Option B)}
    (f : F)
    (keeps : CallKeepsClosure g f)
    (No : ℕ → Type 0)
    (Yes : ℕ → B → Type 0)
    (no : (m : ℕ) → Called g f (m, tt) None f → No m)
    (yes : (m : ℕ) (y : B) → Called g f (m, tt) (Some y) f → Yes m y)
    (s : Range ℕ) where
  pub found_in_range :
      (r : Option B) →
      SomeRun nat_range_steps s (λ p. MatchOption r (IsTrue p.whole × AllItemsGive p g f None)
      (λ y. (i : ℕ) × (i < p.len) × (p.len ≡ i + 1) × IsFirstToGive p g f (Some y) None i)) →
      MatchOption r ((m : ℕ) → s.start ≤ m → m < s.end → No m)
      (λ y. (m : ℕ) × (s.start ≤ m) × (m < s.end) × Yes m y × ((l : ℕ) → s.start ≤ l → l < m → No l))
  found_in_range None (p, from, (whole, all)) = λ m low high.
      let a = ap (λ (x : Range ℕ). x.start) from in
      let b = ap (λ (x : Range ℕ). x.end) from in
      let n = (range_runs p p.seen).1 whole in
      no m (subst (λ o. IfSome o (λ x. Called g f (x, tt) None f)) (item p (m - s.start) m (omega arith) (omega arith)) (all keeps (m - s.start)))
  found_in_range (Some y) (p, from, (i, l, len, first)) =
      let a = ap (λ (x : Range ℕ). x.start) from in
      let b = ap (λ (x : Range ℕ). x.end) from in
      let n = (range_runs p p.seen).0 in (
        s.start + i,
        omega arith,
        omega arith,
        yes (s.start + i) y
            (subst (λ o. IsSomeAnd o (λ x. Called g f (x, tt) (Some y) f)) (item p i (s.start + i) l (omega arith)) (first keeps).0),
        λ m low high.
            no m (subst (λ o. IsSomeAnd o (λ x. Called g f (x, tt) None f)) (item p (m - s.start) m (omega arith) (omega arith))
            ((first keeps).1 (m - s.start) (omega arith))),
      )
