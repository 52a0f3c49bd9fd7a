use Rattle.std.proofs.Common.{◌≡◌, ℕ, Some, None, Option, Err, Result, sym, ap, ◌∙◌, subst, rules}
use Rattle.std.specs.Option.{ok_or}
use Rattle.std.proofs.lemmas.Result.{err_from_is_err_and}
use Rattle.grammar.specs.declared.refusals.ReadingRefusal.{ReadingRefusal}
use Rattle.grammar.specs.declared.refusals.Refusal.TheVariants.{Reading as Layer}
use Rattle.spellings.specs.Model.{words}
use Rattle.reading.specs.Readings.{Put}
use Rattle.lines.specs.declared.fault.LineFault.{LineFault}
use Rattle.lines.specs.Kinds.{FindsKind}
use Rattle.lines.specs.Model.{word_of}
use Rattle.lines.specs.Lines.{PutsWord, fault, unknown, refused, taken}
use Rattle.lines.proofs.Mapping.{ok_mapped, err_mapped}
use Rattle.lines.proofs.put_word.Goals as goal

-- an error of `ok_or` is the one that was given
given : (o : Option ℕ) (x y : LineFault) → Err x ≡ ok_or o y → x ≡ y
given (Some a) x y h = absurd (cc)
given None x y h = cc

pub returns-in_err-kind : goal.returns-in_err-kind
returns-in_err-kind c =
    let ss = words c.args.spellings.now in
    let w = word_of c.args.word in
    let e = err_from_is_err_and c.from_residual.result c.from_residual.ensures.1 in
    let k = c.in_err-kind.ensures in
    subst (λ v. PutsWord ss c.args.reading.now (w, c.args.place) v c.args.reading.now)
    (sym (e.1 ∙ ap Err (e.2 ∙ given c.kind_of.result _ _ k.value ∙ c.unknown_word.ensures)))
    (unknown (subst (FindsKind ss w) k.ok_part c.kind_of.ensures))

pub returns-in_err-map_err : goal.returns-in_err-map_err
returns-in_err-map_err c =
    let ss = words c.args.spellings.now in
    let w = word_of c.args.word in
    let r = c.args.reading.now in
    let at = c.args.place in
    let kind = c.in_ok-kind.kind in
    let e = err_from_is_err_and c.from_residual-in_err-map_err.result c.from_residual-in_err-map_err.ensures.1 in
    let m = err_mapped c.map_err.result _ c.put.result _ c.map_err.ensures.cases c.in_err-map_err.was in
    let told : c.in_err-map_err.field-0.0 ≡ fault (Layer m.0) at = search rules in
    subst (λ v. PutsWord ss r (w, at) v c.put.new.self) (sym (e.1 ∙ ap Err (e.2 ∙ told)))
    (refused (subst (FindsKind ss w) c.in_ok-kind.ensures.ok_part c.kind_of.ensures) (subst (λ (a : Result ℕ ReadingRefusal). Put r kind a c.put.new.self) m.1 c.put.ensures))

pub returns : goal.returns
returns c =
    let ss = words c.args.spellings.now in
    let w = word_of c.args.word in
    let m = ok_mapped c.map_err.result _ c.put.result _ c.map_err.ensures.cases c.in_ok-map_err.was in
    taken (subst (FindsKind ss w) c.in_ok-kind.ensures.ok_part c.kind_of.ensures) (subst (λ (a : Result ℕ ReadingRefusal). Put c.args.reading.now c.in_ok-kind.kind a c.put.new.self) m c.put.ensures)
