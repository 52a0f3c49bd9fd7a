use Rattle.std.proofs.Common.{◌≡◌, Err}
use Rattle.std.proofs.lemmas.Result.{err_from_is_err_and}
use Rattle.grammar.specs.declared.refusals.ReadingRefusal.TheVariants.{NothingBegins}
use Rattle.grammar.specs.Grammar.{Grammar}
use Rattle.draft.specs.Sealed.{sealed_model}
use Rattle.reading.specs.Readings.{Long}
use Rattle.clients.proofs.Calls.{opened_stands, opened_short, put_long, never}
use Rattle.clients.proofs.Comparisons.{Compares, nonassociative, left_and_right, put_name, put_is, put_name_2, put_is_2}
use Rattle.clients.proofs.second_is_refused.Goals as goal

pub returns-in_err-put : goal.returns-in_err-put
returns-in_err-put c =
    let o = c.open-reading.ensures in
    let never_here : (g : Grammar) → Compares g → sealed_model c.args.grammar.now ≡ g → Long c.args.chart.now → ⊥ = λ g d m l.
    let a1 = put_name g d _ _ _ c.put.ensures (opened_stands _ _ _ g o.opened o.grammar m l) in
    never _ _ _ a1.0 c.in_err-put.was in
    record {
      nonassociative = λ m l. absurd (never_here _ nonassociative m l);
      left_and_right = λ m l. absurd (never_here _ left_and_right m l);
      short = λ n.
          let p = err_from_is_err_and c.from_residual.result c.from_residual.ensures.1 in
          rw (p.1, p.2) (c.in_err-put.ensures.short (opened_short _ _ o.opened n));
    }

pub returns-in_err-put-2 : goal.returns-in_err-put-2
returns-in_err-put-2 c =
    let o = c.open-reading.ensures in
    let never_here : (g : Grammar) → Compares g → sealed_model c.args.grammar.now ≡ g → Long c.args.chart.now → ⊥ = λ g d m l.
    let a1 = put_name g d _ _ _ c.put.ensures (opened_stands _ _ _ g o.opened o.grammar m l) in
    let a2 = put_is g d _ _ _ c.put-2.ensures a1.1 in
    never _ _ _ a2.0 c.in_err-put-2.was in
    record {
      nonassociative = λ m l. absurd (never_here _ nonassociative m l);
      left_and_right = λ m l. absurd (never_here _ left_and_right m l);
      short = λ n. absurd (put_long _ _ _ _ _ o.opened c.in_ok-put.ensures n);
    }

pub returns-in_err-put-3 : goal.returns-in_err-put-3
returns-in_err-put-3 c =
    let o = c.open-reading.ensures in
    let never_here : (g : Grammar) → Compares g → sealed_model c.args.grammar.now ≡ g → Long c.args.chart.now → ⊥ = λ g d m l.
    let a1 = put_name g d _ _ _ c.put.ensures (opened_stands _ _ _ g o.opened o.grammar m l) in
    let a2 = put_is g d _ _ _ c.put-2.ensures a1.1 in
    let a3 = put_name_2 g d _ _ _ c.put-3.ensures a2.1 in
    never _ _ _ a3.0 c.in_err-put-3.was in
    record {
      nonassociative = λ m l. absurd (never_here _ nonassociative m l);
      left_and_right = λ m l. absurd (never_here _ left_and_right m l);
      short = λ n. absurd (put_long _ _ _ _ _ o.opened c.in_ok-put.ensures n);
    }

pub returns : goal.returns
returns c =
    let o = c.open-reading.ensures in
    let refused : (g : Grammar) → Compares g → sealed_model c.args.grammar.now ≡ g → Long c.args.chart.now → c.put-4.result ≡ Err NothingBegins = λ g d m l.
    let a1 = put_name g d _ _ _ c.put.ensures (opened_stands _ _ _ g o.opened o.grammar m l) in
    let a2 = put_is g d _ _ _ c.put-2.ensures a1.1 in
    let a3 = put_name_2 g d _ _ _ c.put-3.ensures a2.1 in
    put_is_2 g d _ _ _ c.put-4.ensures a3.1 in
    record {
      nonassociative = λ m l. refused _ nonassociative m l;
      left_and_right = λ m l. refused _ left_and_right m l;
      short = λ n. absurd (put_long _ _ _ _ _ o.opened c.in_ok-put.ensures n);
    }
