use Rattle.std.proofs.Common.{◌≡◌, ℕ, ◌+◌, ◌<◌, ◌≤◌, List, length, get_or, Option, Some, None, MatchOption, sym, refl, subst, ⊎_elim, arith, rules}
use Rattle.std.proofs.lemmas.Bool.{cases_lt}
use Rattle.bitset.specs.Bits.{Has}
use Rattle.score.specs.Tails.{Tail}
use Rattle.score.proofs.tails.tail.Goals as goal

module _ (set : ℕ) (xs : List ℕ) where
  -- behind the last symbol that is not in the set
  tail_behind :
      (k : ℕ) → k < length xs → (¬ Has set (get_or xs k 0)) → ((m : ℕ) → k < m → m < length xs → Has set (get_or xs m 0)) → Tail (Has set) xs (k + 1)
  tail_behind k low out all = record {
    within = omega arith;
    behind = λ m y l at. subst (Has set) at.1 (all m (omega arith) at.0);
    least = λ j h.
        ⊎_elim (λ (l : j < k + 1). absurd (out (h k (get_or xs k 0) (omega arith) (low, refl)))) (λ (l : k + 1 ≤ j). l) (cases_lt j (k + 1));
  }

  -- everywhere, if there is none
  tail_all : ((m : ℕ) → m < length xs → Has set (get_or xs m 0)) → Tail (Has set) xs 0
  tail_all all = record {
    within = omega arith;
    behind = λ m y l at. subst (Has set) at.1 (all m at.0);
    least = λ j h. omega arith;
  }

  -- so wherever the last symbol that is not in the set stands
  tail_by_last :
      (o : Option ℕ) (t : ℕ) →
      MatchOption o ((m : ℕ) → m < length xs → Has set (get_or xs m 0))
      (λ k. (k < length xs) × (¬ Has set (get_or xs k 0)) × ((m : ℕ) → k < m → m < length xs → Has set (get_or xs m 0))) →
      MatchOption o (t ≡ 0) (λ k. t ≡ k + 1) →
      Tail (Has set) xs t
  tail_by_last None t all e = subst (Tail (Has set) xs) (sym e) (tail_all all)
  tail_by_last (Some k) t (low, out, all) e = subst (Tail (Has set) xs) (sym e) (tail_behind k low out all)

pub returns : goal.returns
returns c = tail_by_last c.args.set c.args.right.now c.rposition.result c.map_or.result (search rules) (search rules)
