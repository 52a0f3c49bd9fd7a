use Rattle.std.proofs.Common.{◌≡◌, ℕ, ◌<◌, ◌≤◌, get_or, subst, ⊎_elim, arith, rules, tests}
use Rattle.std.proofs.lemmas.List.{get_or_past}
use Rattle.std.proofs.lemmas.Bool.{cases_lt}
use Rattle.grammar.specs.Derivations.{Leads}
use Rattle.grammar.specs.Model.{productions}
use Rattle.grammar.specs.Order.{Closure, closure_one, closure_more}
use Rattle.bitset.specs.Relations.{Holds}
use Rattle.derivations.proofs.Closing.{closure_iff}
use Rattle.tables.specs.Ranks.{count_below, row_of}
use Rattle.tables.proofs.Counting.{made_from}
use Rattle.tables.proofs.Falling.{count_small, count_less}
use Rattle.tables.proofs.source.Source.ranks.Goals as goal

pub returns : goal.returns
returns c =
    let ps = productions c.args.self.now.productions.now in
    let rows = c.close.new.self in
    let ranks = c.from_fn.result in
    let long = c.from_fn.ensures.items.long in
    let count : (A : ℕ) → A < 16 → get_or ranks A 0 ≡ count_below (row_of rows A) 16 =
    λ A l.
    made_from _ _ (λ k y. y ≡ count_below (row_of rows k) 16) (λ k y q called. search (rules, tests)) ranks 0 16 c.from_fn.ensures.items.each A
    (omega arith) (omega (arith, l)) in
    let same = closure_iff (Holds c.leads-rows.result) (Leads ps) c.leads-rows.ensures in
    let on : (A B : ℕ) → Holds rows A B → Closure (Leads ps) A B = λ A B h. (same A B).0 ((c.close.ensures A B).0 h) in
    let back : (A B : ℕ) → Closure (Leads ps) A B → Holds rows A B = λ A B h. (c.close.ensures A B).1 ((same A B).1 h) in
    record {
      falls = λ A B step.
          let low : A < 16 = subst (λ n. n < 16) step.of (c.args.self.now.lefts step.by step.known) in
          let less =
          count_less (row_of rows B) (row_of rows A) (λ x h. back A x (closure_more step (on B x h))) 16 B step.below (back A B (closure_one step))
          (λ h. c.args.self.now.acyclic B (on B B h)) in
          omega (arith, less, count A low, count B step.below);
      small = λ A.
          ⊎_elim (λ (l : A < 16). omega (arith, count A l, count_small (row_of rows A) 16))
          (λ (l : 16 ≤ A). omega (arith, get_or_past ranks A 0 (omega (arith, l, long))))
          (cases_lt A 16);
    }
