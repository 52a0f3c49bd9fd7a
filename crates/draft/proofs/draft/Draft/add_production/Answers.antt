use Rattle.std.proofs.Common.{◌≡◌, ℕ, ◌<◌, List, length, Some, Err, Option, Result, MatchOption, sym, refl, ap, ◌∙◌, subst}
use Rattle.std.specs.Option.{ok_or}
use Rattle.std.proofs.lemmas.Result.{err_from_is_err_and}
use Rattle.grammar.specs.declared.production.Production.{Production as Stored}
use Rattle.grammar.specs.declared.refusals.DraftRefusal.{DraftRefusal}
use Rattle.grammar.specs.declared.refusals.DraftRefusal.TheVariants.{LongRight}
use Rattle.grammar.specs.Model.{production}
use Rattle.grammar.specs.Grammar.{Production}
use Rattle.draft.specs.Calls.{OutOfRange, TooLong, NoRoom, Repeats, AddsProduction, symbol_out_of_range, right_too_long, productions_full, sides_repeated}
use Rattle.draft.specs.Model.{model}
use Rattle.draft.proofs.Causes.{below_one, below_two, below_three, below_four, production_none}
use Rattle.draft.proofs.Tables.{short}
use Rattle.draft.proofs.draft.Draft.add_production.Goals as goal

-- the production that the call asks for
abbrev asked : ℕ → List ℕ → ℕ → Production
asked left right price = record { left = left; right = right; price = price }

pub returns-then-not-in_range : goal.returns-then-not-in_range
returns-then-not-in_range c =
    let g = model c.args.self.now in
    let p = asked c.args.left c.args.right.now c.args.price in
    (symbol_out_of_range (c.if-not-in_range.ensures.no refl), production_none g p 1 (below_one g p), refl)

-- the production that was made is the one that is asked for
made : (left : ℕ) (right : List ℕ) (price : ℕ) (o : Option Stored) (p : Stored) → o ≡ Some p → MatchOption o (6 < length right) (λ p. production p ≡ asked left right price) → production p ≡ asked left right price
made left right price o p e m = subst (λ o. MatchOption o (6 < length right) (λ p. production p ≡ asked left right price)) e m

same_err : (d e : DraftRefusal) → ◌≡◌ {A = Result Stored DraftRefusal} (Err d) (Err e) → d ≡ e
same_err d e h = cc

pub returns-in_err-production : goal.returns-in_err-production
returns-in_err-production c =
    let g = model c.args.self.now in
    let p = asked c.args.left c.args.right.now c.args.price in
    let none = c.in_err-production.ensures.ok_part in
    let r = err_from_is_err_and c.from_residual.result c.from_residual.ensures.1 in
    let long : TooLong p = subst (λ o. MatchOption o (TooLong p) (λ q. production q ≡ p)) none c.new.ensures in
    let e : c.from_residual.result ≡ Err LongRight = r.1 ∙ ap Err (r.2 ∙ same_err _ _ (c.in_err-production.ensures.value ∙ ap (λ o. ok_or o LongRight) none)) in
    subst (λ a. AddsProduction g p a g) (sym e) (right_too_long long, production_none g p 2 (below_two g p (c.if-not-in_range.ensures.yes refl)), refl)

pub returns-then-not-has_room : goal.returns-then-not-has_room
returns-then-not-has_room c =
    let g = model c.args.self.now in
    let p = asked c.args.left c.args.right.now c.args.price in
    let e = made _ _ _ _ _ c.in_ok-production.ensures.ok_part c.new.ensures in (
      productions_full (subst (NoRoom g) e (c.if-not-has_room.ensures.no refl)),
      production_none g p 3 (below_three g p (c.if-not-in_range.ensures.yes refl) (λ h. short c.in_ok-production.production (subst TooLong (sym e) h))),
      refl,
    )

pub returns-then-has_sides : goal.returns-then-has_sides
returns-then-has_sides c =
    let g = model c.args.self.now in
    let p = asked c.args.left c.args.right.now c.args.price in
    let e = made _ _ _ _ _ c.in_ok-production.ensures.ok_part c.new.ensures in (
      sides_repeated (subst (Repeats g) e (c.if-has_sides.ensures.yes refl)),
      production_none g p 4
          (below_four g p (c.if-not-in_range.ensures.yes refl) (λ h. short c.in_ok-production.production (subst TooLong (sym e) h)) (λ h. c.if-not-has_room.ensures.yes refl (subst (NoRoom g) (sym e) h))),
      refl,
    )

pub accept_production-requires : goal.accept_production-requires
accept_production-requires c =
    let g = model c.args.self.now in
    let e = made _ _ _ _ _ c.in_ok-production.ensures.ok_part c.new.ensures in
    record {
      range = λ h. c.if-not-in_range.ensures.yes refl (subst OutOfRange e h);
      room = c.if-not-has_room.ensures.yes refl;
      fresh = c.if-has_sides.ensures.no refl;
    }
