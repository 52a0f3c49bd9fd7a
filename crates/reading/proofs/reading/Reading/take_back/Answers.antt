use Rattle.std.proofs.Common.{◌≡◌, ℕ, suc, ◌+◌, List, [], ◌∷◌, ◌++◌, length, Err, Option, MatchOption, Result, sym, refl, ap, ◌∙◌, subst, arith}
use Rattle.std.proofs.lemmas.List.{length_push}
use Rattle.std.proofs.lemmas.Result.{err_from_is_err_and}
use Rattle.std.specs.Option.{ok_or}
use Rattle.grammar.specs.declared.refusals.ReadingRefusal.{ReadingRefusal}
use Rattle.grammar.specs.declared.refusals.ReadingRefusal.TheVariants.{NoWord}
use Rattle.grammar.specs.Bytes.{items}
use Rattle.chart.specs.Chart.{Charted}
use Rattle.reading.specs.Calls.{TakesBack, no_word}
use Rattle.reading.specs.Readings.{words, cells, grammar_of, tables_of}
use Rattle.reading.proofs.Stepping.{refused_change, taken_change}
use Rattle.reading.proofs.Words.{back_none}
use Rattle.reading.proofs.reading.Reading.take_back.Goals as goal

-- a refusal, by the equation that `?` gives
same_err : (d e : ReadingRefusal) → ◌≡◌ {A = Result ℕ ReadingRefusal} (Err d) (Err e) → d ≡ e
same_err d e h = cc

pub returns-in_err-ok_or : goal.returns-in_err-ok_or
returns-in_err-ok_or c =
    let r = c.args.self.now in
    let ws = words r in
    let none = c.in_err-ok_or.ensures.ok_part in
    let p = err_from_is_err_and c.from_residual-in_err-ok_or.result c.from_residual-in_err-ok_or.ensures.1 in
    let e : c.from_residual-in_err-ok_or.result ≡ Err NoWord = p.1 ∙ ap Err (p.2 ∙ same_err _ _ (c.in_err-ok_or.ensures.value ∙ ap (λ o. ok_or o NoWord) none)) in
    let left = subst (λ (o : Option ℕ). MatchOption o ((ws ≡ []) × (items c.pop.new.self ≡ [])) (λ kind. ws ≡ items c.pop.new.self ++ kind ∷ [])) none c.pop.ensures in
    refused_change (TakesBack ws) r _ c.in_ok-cells.ensures.0 refl refl NoWord _ e (left.1 ∙ sym left.0) refl (λ m. (no_word left.0, back_none ws 12 (λ l. absurd (omega arith)), refl))

pub returns : goal.returns
returns c =
    let r = c.args.self.now in
    let ws = words r in
    let us = items c.pop.new.self in
    let kind = c.in_ok-ok_or.field-0 in
    let count = c.len-count.ensures.value in
    let split = subst (λ (o : Option ℕ). MatchOption o ((ws ≡ []) × (us ≡ [])) (λ a. ws ≡ us ++ a ∷ [])) c.in_ok-ok_or.ensures.ok_part c.pop.ensures in
    let size : length ws ≡ length us + 1 = ap length split ∙ length_push us kind in
    taken_change (TakesBack ws) r _ c.in_ok-cells.ensures.0 refl refl _ (tables_of r) refl c.take_back.auto.cells c.take_back.ensures.rest
    (λ m chart. (
      (λ x. back_none ws (suc x) (λ _ e. omega (arith, ap length e)) x (omega arith), (omega arith, (kind, split))),
      c.take_back.ensures.charted (tables_of r) (grammar_of r) us kind m (omega arith) (subst (λ (vs : List ℕ). Charted (tables_of r) (grammar_of r) vs (cells r)) split chart),
    ))
