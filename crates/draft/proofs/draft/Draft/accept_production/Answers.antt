use Rattle.std.proofs.Common.{ℕ, suc, List, sym, ◌∙◌, ap, refl, subst, arith}
use Rattle.std.proofs.lemmas.List.{length-map}
use Rattle.grammar.specs.declared.production.Production.{Production as Stored}
use Rattle.grammar.specs.Grammar.{Production}
use Rattle.grammar.specs.Model.{production}
use Rattle.grammar.specs.Derivations.{LeadsOn}
use Rattle.grammar.specs.Sound.{WellFormed, Acyclic}
use Rattle.draft.specs.Calls.{Loops, ProductionCause, leads_to_itself}
use Rattle.draft.specs.Model.{model}
use Rattle.draft.specs.Stored.{grammar}
use Rattle.draft.proofs.Accepting.{well_formed, taken_back, longer, grown, lefts, numbers_still}
use Rattle.draft.proofs.Causes.{production_none}
use Rattle.draft.proofs.Growing.{production_kept}
use Rattle.draft.proofs.Tables.{short}
use Rattle.draft.proofs.draft.Draft.accept_production.Goals as goal
use Rattle.draft.proofs.draft.Draft.accept_production.Goals.{Else-leads_to_itself}

pub leads_to_itself-requires : goal.leads_to_itself-requires
leads_to_itself-requires c =
    lefts c.args.self.now c.args.p c.as_slice.result.now (c.as_slice.ensures.value ∙ c.push.ensures.items) c.requires.range

pub returns-then-leads_to_itself : goal.returns-then-leads_to_itself
returns-then-leads_to_itself c =
    let d = c.args.self.now in
    let p = c.args.p in
    let h = c.if-leads_to_itself.ensures.yes refl in (
      leads_to_itself (h.0, subst (λ (ps : List Production). LeadsOn ps h.0 h.0) (longer d p _ (c.as_slice.ensures.value ∙ c.push.ensures.items)) h.1),
      production_none (model d) (production p) 5
          (record { range = λ _. c.requires.range; long = λ _. short p; room = λ _. c.requires.room; repeats = λ _. c.requires.fresh; loops = λ l. absurd (omega arith) }),
      ap (λ (ps : List Stored). grammar d.start ps d.rules.items) (taken_back d.productions.items p _ _ c.push.ensures.items c.pop.ensures.rest),
    )

-- with the production there is still no nonterminal that leads to itself
loops_none : (c : Else-leads_to_itself) → ¬ Loops (model c.args.self.now) (production c.args.p)
loops_none c h =
    subst Acyclic (longer c.args.self.now c.args.p _ (c.as_slice.ensures.value ∙ c.push.ensures.items)) (c.if-leads_to_itself.ensures.no refl) h.0 h.1

kept : (c : Else-leads_to_itself) → WellFormed (grammar c.args.self.now.start c.push.new.self.items c.args.self.now.rules.items)
kept c =
    let d = c.args.self.now in
    let p = c.args.p in
    subst WellFormed (sym (grown d p _ c.push.ensures.items))
    (production_kept (model d) (production p) (well_formed d) c.requires.range (short p) c.requires.room c.requires.fresh (loops_none c) p.priced)

pub invariant_of-self-else-leads_to_itself : goal.invariant_of-self-else-leads_to_itself
invariant_of-self-else-leads_to_itself c =
    let d = c.args.self.now in
    let w = kept c in
    record {
      numbers = numbers_still d c.args.p _ c.push.ensures.items;
      small = w.small;
      starts = d.starts;
      sides = w.sides;
      symbols = w.symbols;
      prices = w.prices;
      apart = w.apart;
      named = w.named;
      unrepeated = w.unrepeated;
      acyclic = w.acyclic;
      ordered = w.ordered;
    }

-- no cause applies
causes_none : (c : Else-leads_to_itself) (n : ℕ) → ¬ ProductionCause (model c.args.self.now) (production c.args.p) n
causes_none c n =
    production_none (model c.args.self.now) (production c.args.p) (suc n)
    (record { range = λ _. c.requires.range; long = λ _. short c.args.p; room = λ _. c.requires.room; repeats = λ _. c.requires.fresh; loops = λ _. loops_none c }) n (omega arith)

pub returns : goal.returns
returns c =
    let d = c.args.self.now in
    let p = c.args.p in (
      causes_none c.before.before,
      (c.len.ensures.value ∙ sym (length-map c.push.new.self.items production), grown d p _ c.push.ensures.items),
    )
