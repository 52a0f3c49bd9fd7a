use Rattle.std.proofs.Common.{◌≡◌, ℕ, ◌<◌, ◌≤◌, List, [], length, get_or, Bor, Option, Some, None, MatchOption, sym, refl, ap, subst, arith, rules}
use Rattle.std.proofs.lemmas.List.{get_or_past, length-map}
use Rattle.grammar.specs.declared.production.Production.{Production as Stored}
use Rattle.grammar.specs.Grammar.{Production, no_production, right_at}
use Rattle.grammar.specs.Model.{production, productions}
use Rattle.tables.proofs.Counting.{right_is}
use Rattle.score.specs.Tails.{Tail}
use Rattle.score.proofs.tails.tail_at.Goals as goal

module _ (P : ℕ → Type 0) (ps : List Stored) (p t : ℕ) where
  -- no symbol stands where there is no production
  past : length ps ≤ p → t ≡ 0 → Tail P (right_at (productions ps) p) t
  past l e =
      let none : right_at (productions ps) p ≡ [] =
      ap (λ (x : Production). x.right) (get_or_past (productions ps) p no_production (omega (arith, length-map ps production))) in
      subst (λ xs. Tail P xs t) (sym none) (record { within = omega arith; behind = λ k y l at. absurd (omega (arith, at.0)); least = λ k h. omega arith })

  tail_by_look_up :
      (o : Option (Bor Stored)) →
      MatchOption o (length ps ≤ p) (λ d. (p < length ps) × (d.now ≡ get_or ps p d.now)) →
      MatchOption o (t ≡ 0) (λ d. Tail P (production d.now).right t) →
      Tail P (right_at (productions ps) p) t
  tail_by_look_up None l e = past l e
  tail_by_look_up (Some d) l h = subst (λ xs. Tail P xs t) (right_is ps p d.now l.0 l.1 _ refl) h

pub returns : goal.returns
returns c = tail_by_look_up _ c.args.productions.now c.args.p c.map_or.result c.get.result (search rules) (search rules)
