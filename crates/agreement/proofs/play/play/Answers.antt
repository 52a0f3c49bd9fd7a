use Rattle.std.proofs.Common.{◌≡◌, ◌<◌, length, take, drop, refl, ◌∙◌, subst, arith, length-set}
use Rattle.std.proofs.lemmas.List.{length-take-le, take-take}
use borrow.Author.Rules.{scaled_Fits}
use Rattle.agreement.specs.Histories.{lent, ListsInto, ScoresInto, Played, played_none}
use Rattle.agreement.proofs.Playing.{played_next, later_kept, goes_on}
use Rattle.agreement.proofs.play.play.Goals as goal

pub loop-i-init : goal.loop-i-init
loop-i-init g c = (played_none, refl, refl)

pub offset_bounds-answers-i : goal.offset_bounds-answers-i
offset_bounds-answers-i g c =
    let count = c.min-count.ensures in
    let size = length-take-le c.min-count.result c.args.calls.now (omega arith) in
    let more = c.loop-i-test.true in
    let inside : c.loop-i.i < length c.args.answers.now = omega arith in
    scaled_Fits c.loop-i.i (length c.args.answers.now) _ inside c.well_formed.1.1.1.1.0.1

pub loop-i-preserved : goal.loop-i-preserved
loop-i-preserved g c =
    let count = c.min-count.ensures in
    let made = take c.min-count.result c.args.calls.now in
    let few = length-take-le c.min-count.result c.args.calls.now (omega arith) in
    let more = c.loop-i-test.true in
    let held = c.loop-i.invariant in
    let size = held.2 in
    let l : c.loop-i.i < length made = omega arith in
    let m : c.loop-i.i < length c.loop-i.answers = omega arith in (
      played_next _ _ _ _ _ _ made c.loop-i.answers c.loop-i.i _ c.make.result l m held.0 c.make.ensures,
      later_kept c.args.answers.now c.loop-i.answers c.loop-i.i c.make.result held.1,
      length-set c.loop-i.answers c.loop-i.i c.make.result ∙ size,
    )

pub returns : goal.returns
returns g c =
    let held = c.loop-i.invariant in
    let count = c.min-count.ensures in
    let few = length-take-le c.min-count.result c.args.calls.now (omega arith) in
    let end = c.loop-i.auto.i-end in
    let far = c.loop-i-test.false in
    let all : c.loop-i.i ≡ c.min-count.result = omega arith in
    let whole = take-take c.min-count.result c.min-count.result c.args.calls.now (omega arith) in
    let played = subst (λ cs. Played ListsInto (ScoresInto g.S.Semiring.scale) c.args.reading.now (lent c.args.records.now c.args.table.now) cs (take c.min-count.result c.loop-i.answers) c.loop-i.reading (lent c.loop-i.records c.loop-i.table)) whole
    (subst (λ n. Played ListsInto (ScoresInto g.S.Semiring.scale) c.args.reading.now (lent c.args.records.now c.args.table.now) (take n (take c.min-count.result c.args.calls.now)) (take n c.loop-i.answers) c.loop-i.reading (lent c.loop-i.records c.loop-i.table)) all held.0) in
    record {
      count = c.min-count.ensures;
      played = played;
      later = subst (λ n. drop n c.loop-i.answers ≡ drop n c.args.answers.now) all held.1;
      history = λ cs xs h. goes_on _ h played;
    }
