use Rattle.std.proofs.Common.{◌*◌, ◌≤◌, length, sym, subst, arith}
use Rattle.grammar.specs.Grammar.{Grammar, places}
use Rattle.theory.specs.Claims.{Sentence}
use Rattle.scales.specs.ThreeScales.{price}
use Rattle.score_theory.specs.Scores.{Score}
use Rattle.small_grammars.proofs.Examples.{small_lines}
use Rattle.clients.proofs.Conditions.{or_and}
use Rattle.clients.proofs.Answering.{lists_sentence}
use Rattle.clients.proofs.or_and_priced.Goals as goal

pub returns : goal.returns
returns c =
    let costs = small_lines.conditions_costs in
    record {
      conditions = λ m l room. (
        costs.0,
        c.score_words.ensures.scored costs.0 l (omega arith)
            (subst (λ g. Sentence g or_and) (sym m) (lists_sentence _ _ _ small_lines.conditions_lists))
            (subst (λ (g : Grammar). places g.productions * 36 ≤ length c.args.prices.now) (sym m) room)
            (subst (λ g. Score price g or_and costs.0) (sym m) costs.1),
        costs.2,
      );
      short = λ n. c.score_words.ensures.short n;
    }
