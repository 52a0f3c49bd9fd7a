use Rattle.std.proofs.Common.{◌≡◌, ℕ, suc, List, subst, arith, rules, tests}
use Rattle.std.proofs.lemmas.Bool.{MatchBool-at_true, MatchBool-at_false}
use Rattle.std.proofs.lemmas.Iterator.{cases_from_any, YieldsList-from_slice}
use Rattle.grammar.specs.Grammar.{Rule}
use Rattle.grammar.specs.Order.{Says}
use Rattle.draft.specs.Stored.{SameRule}
use Rattle.draft.proofs.Rules.{no_numbered, says_it, said_by}
use Rattle.draft.proofs.draft.Draft.has_rule.Goals as goal

pub returns : goal.returns
returns c =
    let xs = c.rules.result.now in
    let upper = c.args.other.now.upper in
    let relation = c.args.other.now.relation in
    let lower = c.args.other.now.lower in
    let found =
    cases_from_any _ _ _ (λ x. SameRule x upper relation lower) (λ x. ¬ SameRule x upper relation lower) c.any.ensures.ran (YieldsList-from_slice xs cc) (λ x q k. search (rules, tests)) (λ x q k. search (rules, tests)) in
    record {
      yes = λ t.
          subst (λ (rs : List Rule). (p : ℕ) × (q : ℕ) × (upper ≡ suc p) × (lower ≡ suc q) × Says rs p relation q) c.rules.ensures.rules
          (let k = MatchBool-at_true _ _ t found in says_it xs _ c.rules.ensures.numbers upper relation lower k.0 no_numbered k.1 (k.2 no_numbered));
      no = λ f.
          subst (λ (rs : List Rule). ¬ ((p : ℕ) × (q : ℕ) × (upper ≡ suc p) × (lower ≡ suc q) × Says rs p relation q)) c.rules.ensures.rules
          (λ s. let k = said_by xs _ c.rules.ensures.numbers upper relation lower no_numbered s in MatchBool-at_false _ _ f found k.0 no_numbered (omega arith) k.1 k.2);
    }
