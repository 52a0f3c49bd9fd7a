use Rattle.std.proofs.Common.{ℕ, ◌+◌, ◌∷◌, [], ◌++◌, List, drop, get_or, ap, arith, rules}
use Rattle.std.proofs.lemmas.List.{length_push}
use Rattle.theory.specs.Claims.{Awaited}
use Rattle.chart.proofs.Halves.{some_place, no_place}
use Rattle.chart.proofs.Words.{awaited, put_charted}
use Rattle.chart.proofs.Fronts.{back_length, front_back, front_charted, where_front, charted_whole, rest_kept}
use Rattle.chart.proofs.put.Goals as goal

pub returns-then-gather-places_of-eq0-clause-refused : goal.returns-then-gather-places_of-eq0-clause-refused
returns-then-gather-places_of-eq0-clause-refused c _ =
    let lent = c.in-Some.ensures.cases in
    let cells = c.args.cells.now in
    let front = c.in-Some.cells.now in (
      front_back cells front lent.enough lent.same,
      where_front cells front lent.enough lent.same c.args.t.now c.args.n (omega arith) (λ g ws. ¬ Awaited g ws (16 + c.args.kind))
          (λ g ws m len chart w.
          no_place _ _ c.if-gather-places_of-eq0.true
          ((awaited c.args.t.now c.args.n c.args.kind _ _ front (omega arith) (omega arith) c.gather.ensures c.places_of.ensures
          g ws m len chart).1 w)),
    )

pub returns-clause-taken : goal.returns-clause-taken
returns-clause-taken c _ g ws m len chart =
    let lent = c.in-Some.ensures.cases in
    let t = c.args.t.now in
    let n = c.args.n in
    let kind = c.args.kind in
    let cells = c.args.cells.now in
    let front = c.in-Some.cells.now in
    let marked = front_charted cells front lent.enough lent.same t g ws m (omega arith) chart in (
      (awaited t n kind _ _ front (omega arith) (omega arith) c.gather.ensures c.places_of.ensures g ws m len marked).0
          (some_place _ _ (omega arith) c.if-gather-places_of-eq0.false),
      charted_whole t g (ws ++ (16 + kind) ∷ []) c.close_column.new.cells (drop 4802 cells) m
          (omega (arith, length_push ws (16 + kind))) (back_length cells front lent.enough lent.same _ (search rules))
          (put_charted t n kind (omega arith) front c.scan.new.cells c.close_column.new.cells
          c.scan.ensures c.close_column.ensures.closed g ws m len marked),
    )

pub returns-then-gather-places_of-eq0-clause-rest : goal.returns-then-gather-places_of-eq0-clause-rest
returns-then-gather-places_of-eq0-clause-rest c k l =
    let lent = c.in-Some.ensures.cases in
    ap (λ (xs : List ℕ). get_or xs k 0) (front_back c.args.cells.now c.in-Some.cells.now lent.enough lent.same)

pub returns-clause-rest : goal.returns-clause-rest
returns-clause-rest c =
    let lent = c.in-Some.ensures.cases in
    rest_kept c.args.cells.now c.close_column.new.cells
    (back_length c.args.cells.now c.in-Some.cells.now lent.enough lent.same _ (search rules))
