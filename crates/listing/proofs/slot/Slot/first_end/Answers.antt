use Rattle.std.proofs.Common.{rules, ◌≡◌, ℕ, ◌+◌, ◌<◌, ◌≤◌, Option, Some, None, MatchOption, sym, subst, arith}
use Rattle.listing.specs.declared.node.Node.{Node}
use Rattle.listing.specs.Asked.{IsNode, CanBe, FirstEnd, NoEnd}
use Rattle.listing.proofs.Finding.{found_in_range}
use Rattle.listing.proofs.slot.Slot.first_end.Goals as goal

ending :
    (n : Node) (next q e : ℕ) (r : Option Node) →
    MatchOption r ((m : ℕ) → e ≤ m → m < n.end + 1 → ¬ CanBe n next q e m)
    (λ x. (m : ℕ) × (e ≤ m) × (m < n.end + 1) × (IsNode x n.sources q e × (x.end ≡ m) × CanBe n next q e m)
    × ((l : ℕ) → e ≤ l → l < m → ¬ CanBe n next q e l)) →
    MatchOption r (NoEnd n e next q) (λ x. IsNode x n.sources q e × FirstEnd n e next q x.end)
ending n next q e None none = λ m low high. none m low (omega arith)
ending n next q e (Some x) (m, low, high, (is, ends, can), sooner) =
    (is, subst (FirstEnd n e next q) (sym ends) (record { order = low; within = omega arith; can = can; sooner = sooner }))

pub returns : goal.returns
returns c =
    let n = c.args.self.now.node in
    let next = c.args.self.now.next in
    let q = c.args.q in
    let e = c.args.start in
    ending n next q e _ (found_in_range _ (λ a r f' k. search rules) (λ m. ¬ CanBe n next q e m)
    (λ m (x : Node). IsNode x n.sources q e × (x.end ≡ m) × CanBe n next q e m) (λ m k. search rules) (λ m y k. search rules) _ _ c.find_map.ensures.runs)
