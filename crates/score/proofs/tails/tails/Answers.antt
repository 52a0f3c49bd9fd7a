use Rattle.std.proofs.Common.{ℕ, ◌↔◌, List, arith, rules}
use Rattle.grammar.specs.Grammar.{right_at}
use Rattle.grammar.specs.Model.{productions}
use Rattle.bitset.specs.Bits.{Has}
use Rattle.tables.proofs.Counting.{made_from, stored_at}
use Rattle.score.specs.Tails.{Tail}
use Rattle.score.proofs.tails.tails.Goals as goal

tail_by : (P Q : ℕ → Type 0) (xs : List ℕ) (t : ℕ) → ((y : ℕ) → P y ↔ Q y) → Tail P xs t → Tail Q xs t
tail_by P Q xs t same h = record {
  within = h.within;
  behind = λ k y l at. (same y).0 (h.behind k y l at);
  least = λ k all. h.least k (λ m y l at. (same y).1 (all m y l at));
}

pub returns : goal.returns
returns c p l =
    let ps = c.args.productions.now in
    let stored = stored_at ps p l in
    tail_by _ _ _ _ c.nullable-empty.ensures
    (made_from _ _ (λ k y. Tail (Has c.nullable-empty.result) (right_at (productions ps) k) y)
    (λ k y q called. search rules) c.from_fn.result 0 32 c.from_fn.ensures.items.each p (omega arith)
    (omega (arith, c.requires.few, stored)))
