use Rattle.std.proofs.Common.{◌≡◌, ℕ, Bool, true, false, ◌↔◌, IsTrue, suc, ◌+◌, ◌<◌, ◌≤◌, List, length, Err, Option, MatchOption, Result, sym, refl, ap, ◌∙◌, subst, arith}
use Rattle.std.proofs.lemmas.Bool.{both_ways}
use Rattle.std.proofs.lemmas.List.{length_push}
use Rattle.std.proofs.lemmas.Result.{err_from_is_err_and}
use Rattle.std.specs.Option.{ok_or}
use Rattle.grammar.specs.declared.refusals.ReadingRefusal.{ReadingRefusal}
use Rattle.grammar.specs.declared.refusals.ReadingRefusal.TheVariants.{LineFull, NoKind, NothingBegins}
use Rattle.grammar.specs.Grammar.{Kind}
use Rattle.chart.specs.Chart.{Charted}
use Rattle.reading.specs.Calls.{Puts, line_full, no_kind, nothing_begins}
use Rattle.reading.specs.Readings.{words, grammar_of}
use Rattle.reading.proofs.Sealed.{means_at, charted_at}
use Rattle.reading.proofs.Stepping.{refused_change, taken_change, few_words}
use Rattle.reading.proofs.Words.{put_none, viable, awaited, with_kind}
use Rattle.reading.proofs.reading.Reading.put.Goals as goal

-- what the test for room says
full : (r : Bool) (ws : List ℕ) → IsTrue r ↔ (length ws ≡ 48) → r ≡ true → 48 ≤ length ws
full r ws b e = let n = b.0 e in omega arith

few : (r : Bool) (ws : List ℕ) → IsTrue r ↔ (length ws ≡ 48) → length ws ≤ 48 → r ≡ false → length ws < 48
few r ws b l e = let n : ¬ (length ws ≡ 48) = λ h. both_ways r e (b.1 h) in omega arith

pub returns-then-is_full : goal.returns-then-is_full
returns-then-is_full c =
    let r = c.args.self.now in
    let ws = words r in
    refused_change (Puts (grammar_of r) ws c.args.kind) r _ c.in_ok-cells.ensures.0 refl refl LineFull _ refl refl refl
    (λ m. (line_full (full _ ws c.if-is_full.ensures.full refl), put_none (grammar_of r) ws c.args.kind 9 (λ l. absurd (omega arith)) (λ l. absurd (omega arith)) (λ l. absurd (omega arith)), refl))

-- a refusal, by the equation that `?` gives
same_err : (d e : ReadingRefusal) → ◌≡◌ {A = Result ℕ ReadingRefusal} (Err d) (Err e) → d ≡ e
same_err d e h = cc

-- what the number of a kind says of it
abbrev Numbered : ℕ → Option ℕ → Type 0
Numbered kind o = MatchOption o (¬ Kind kind) (λ index. (index < 32) × (16 + index ≡ kind))

pub returns-in_err-index : goal.returns-in_err-index
returns-in_err-index c =
    let r = c.args.self.now in
    let ws = words r in
    let kind = c.args.kind in
    let room = few _ ws c.if-is_full.ensures.full (few_words r) refl in
    let none = c.in_err-index.ensures.ok_part in
    let no : ¬ Kind kind = subst (Numbered kind) none c.index_of.ensures in
    let p = err_from_is_err_and c.from_residual-in_err-index.result c.from_residual-in_err-index.ensures.1 in
    let e : c.from_residual-in_err-index.result ≡ Err NoKind = p.1 ∙ ap Err (p.2 ∙ same_err _ _ (c.in_err-index.ensures.value ∙ ap (λ o. ok_or o NoKind) none)) in
    refused_change (Puts (grammar_of r) ws kind) r _ c.in_ok-cells.ensures.0 refl refl NoKind _ e refl refl
    (λ m. (no_kind no, put_none (grammar_of r) ws kind 10 (λ _ l. omega arith) (λ l. absurd (omega arith)) (λ l. absurd (omega arith)), refl))

pub returns-then-not-put : goal.returns-then-not-put
returns-then-not-put c =
    let r = c.args.self.now in
    let g = grammar_of r in
    let ws = words r in
    let kind = c.args.kind in
    let size = c.len-count.ensures.value in
    let room = few _ ws c.if-is_full.ensures.full (few_words r) refl in
    let index = c.in_ok-index.index in
    let i = subst (Numbered kind) c.in_ok-index.ensures.ok_part c.index_of.ensures in
    let k : Kind kind = (omega arith, omega arith) in
    let f = c.if-not-put.ensures.refused refl in
    refused_change (Puts g ws kind) r _ c.in_ok-cells.ensures.0 refl refl NothingBegins _ refl refl f.0
    (λ m. (
      nothing_begins (λ v. f.1 g ws (means_at r.grammar.now _ c.tables.ensures) (sym size) (charted_at r.grammar.now _ c.tables.ensures m) (awaited g ws kind index k i.1 v)),
      put_none g ws kind 11 (λ _ l. omega arith) (λ _. k) (λ l. absurd (omega arith)),
      refl,
    ))

pub returns : goal.returns
returns c =
    let r = c.args.self.now in
    let g = grammar_of r in
    let ws = words r in
    let kind = c.args.kind in
    let size = c.len-count.ensures.value in
    let room = few _ ws c.if-is_full.ensures.full (few_words r) refl in
    let index = c.in_ok-index.index in
    let i = subst (Numbered kind) c.in_ok-index.ensures.ok_part c.index_of.ensures in
    let k : Kind kind = (omega arith, omega arith) in
    let more = c.push.ensures in
    let grown = ap length more ∙ length_push ws kind in
    taken_change (Puts g ws kind) r _ c.in_ok-cells.ensures.0 refl refl _ _ c.tables.ensures c.put.auto.cells c.if-not-put.ensures.rest
    (λ m chart.
    let w = c.if-not-put.ensures.taken refl g ws m (sym size) chart in (
      (λ x. put_none g ws kind (suc x) (λ _ l. omega arith) (λ _. k) (λ _. viable g ws kind index k i.1 w.0) x (omega arith), (omega arith, more)),
      subst (λ (vs : List ℕ). Charted c.tables.result.now g vs c.put.new.cells) (with_kind g ws kind index k i.1 ∙ sym more) w.1,
    ))
