use Rattle.std.proofs.Common.{◌≡◌, ℕ, suc, ◌*◌, ◌≤◌, length, Ok, sym, subst, arith}
use Rattle.grammar.specs.Grammar.{Grammar, places}
use Rattle.draft.specs.Sealed.{sealed_model}
use Rattle.theory.specs.Claims.{Sentence}
use Rattle.scales.specs.declared.values.Count.{Count}
use Rattle.scales.specs.ThreeScales.{count}
use Rattle.score_theory.specs.Scores.{Score}
use Rattle.small_grammars.specs.Parses.{Trees}
use Rattle.small_grammars.proofs.Examples.{small_lines}
use Rattle.reading.specs.Readings.{Long}
use Rattle.clients.proofs.Conditions.{or_and}
use Rattle.clients.proofs.Answering.{trees_sentence}
use Rattle.clients.proofs.or_and_counted.Goals as goal

pub returns : goal.returns
returns c =
    let counted : (g : Grammar) (n : ℕ) → Trees g or_and (suc n) → sealed_model c.args.grammar.now ≡ g → Long c.args.chart.now → places g.productions * 36 ≤ length c.args.counts.now → (v : Count) × (c.score_words.result ≡ Ok v) × (v.value ≡ suc n) = λ g n t m l room. (
      t.scored.0,
      c.score_words.ensures.scored t.scored.0 l (omega arith)
          (subst (λ g. Sentence g or_and) (sym m) (trees_sentence g or_and n t))
          (subst (λ (g : Grammar). places g.productions * 36 ≤ length c.args.counts.now) (sym m) room)
          (subst (λ g. Score count g or_and t.scored.0) (sym m) t.scored.1),
      t.scored.2,
    ) in
    record {
      conditions = counted _ 0 small_lines.conditions_trees;
      unruled = counted _ 1 small_lines.unruled_conditions_trees;
      short = λ n. c.score_words.ensures.short n;
    }
