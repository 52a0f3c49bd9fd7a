use Rattle.std.proofs.Common.{rules, ◌≡◌, ◌<◌, ◌≤◌, [], length, get_or, set, refl, ap, ◌∙◌, arith, length-set}
use Rattle.std.proofs.lemmas.Result.{err_from_is_err_and}
use Rattle.grammar.specs.Grammar.{right_of, size_of}
use Rattle.listing_theory.specs.Listings.{entry}
use Rattle.listing_theory.proofs.Fronts.{front_begins}
use Rattle.listing.proofs.Meaning.{known_in, size_same, symbol_same}
use Rattle.listing.proofs.Writing.{first_written, length_tail}
use Rattle.listing.proofs.Walks.{no_room_at_all, front_word_more, done, front_none, child_stepped, child_broke}
use Rattle.listing.proofs.node.Node.+list.Goals.{in-Some+in_ok-count, in_default}
use Rattle.listing.proofs.node.Node.+list.Goals as goal

pub returns-then-is_empty-clause-listed : goal.returns-then-is_empty-clause-listed
returns-then-is_empty-clause-listed t c g of item can =
    let n = c.args.self.now in
    let none : length c.args.records.now ≡ 0 = search rules in
    no_room_at_all n.sources g of n.production n.start n.end c.args.records.now (known_in n.sources g of n.production n.known) item can none

pub loop-place-init : goal.loop-place-init
loop-place-init t c =
    let n = c.args.self.now in
    let some : 0 < length c.args.records.now = search rules in (
      omega arith,
      simp length-set (omega arith),
      omega (arith, n.within, n.sources.few, n.order),
      λ g of item can. (
        [],
        front_begins _ _ _ _ _ can,
        ap (set c.args.records.now 0) c.from.ensures ∙ first_written c.args.records.now (entry n.production n.start n.end) some,
        omega arith,
      ),
    )

pub loop-place-preserved-then-symbol-ge16 : goal.loop-place-preserved-then-symbol-ge16
loop-place-preserved-then-symbol-ge16 t c =
    let n = c.args.self.now in
    let right = c.right-symbol-items.ensures.is in
    let k = c.loop-place.place in
    let kept = c.loop-place.invariant in (
      kept.0,
      kept.1,
      omega (arith, kept.2),
      λ g of item can.
          let i = kept.3 g of item can in
          let l : k < size_of g n.production = omega (arith, c.loop-place-test.true, ap length right, size_same n.sources g of n.production) in
          let high : 16 ≤ get_or (right_of g n.production) k 0 =
          omega (arith, c.if-symbol-ge16.true, ap (λ xs. get_or xs k 0) right, symbol_same n.sources g of n.production k) in
          (i.0, front_word_more n.sources g of (known_in n.sources g of n.production n.known) item i.1 l high, i.2, i.3),
    )

pub loop-place-preserved : goal.loop-place-preserved
loop-place-preserved t c =
    let n = c.args.self.now in
    let right = c.right-symbol-items.ensures.is in
    let k = c.loop-place.place in
    let kept = c.loop-place.invariant in
    elim c.match-next_child.branch [
      | in-Some+in_ok-count w ↦
          let child = w.in-Some.ensures in (
            omega (arith, kept.0, w.count-is),
            omega (arith, kept.1, w.count-is, w.in_ok-count.ensures.room, length_tail c.loop-place.count c.loop-place.records, c.match-next_child.auto.records),
            omega (arith, w.start-is, child.1.first.within, n.within, n.sources.few),
            λ g of item can.
                let i = kept.3 g of item can in
                let l : k < size_of g n.production = omega (arith, c.loop-place-test.true, ap length right, size_same n.sources g of n.production) in
                child_stepped n g of c.rows-rows.result c.rows-rows.ensures item can l i.1 w.in-Some.child child.0 child.1 c.args.records.now
                c.loop-place.records w.list.new.records c.loop-place.count i.2 i.3 kept.1 w.in_ok-count.field-0 c.match-next_child.count
                c.match-next_child.start c.match-next_child.records (w.in_ok-count.ensures.listed g) w.records-is w.count-is w.start-is,
          )
      | in_default w ↦ (
        omega (arith, kept.0, w.count-is),
        omega (arith, kept.1, w.count-is, c.match-next_child.auto.records),
        omega (arith, kept.2, w.start-is),
        λ g of item can.
            let i = kept.3 g of item can in
            let l : k < size_of g n.production = omega (arith, c.loop-place-test.true, ap length right, size_same n.sources g of n.production) in
            let low : get_or (right_of g n.production) k 0 < 16 =
            omega (arith, c.if-symbol-ge16.false, ap (λ xs. get_or xs k 0) right, symbol_same n.sources g of n.production k) in
            absurd (front_none n g of c.rows-rows.result c.rows-rows.ensures item can l i.1 low w.in_default.ensures),
      )
    ]

pub returns-in_err-count-clause-listed : goal.returns-in_err-count-clause-listed
returns-in_err-count-clause-listed t c g of item can =
    let n = c.args.self.now in
    let r = err_from_is_err_and c.from_residual.result c.from_residual.ensures.1 in
    let i = c.loop-place.invariant.3 g of item can in
    let l : c.loop-place.place < size_of g n.production =
    omega (arith, c.loop-place-test.true, ap length c.right-symbol-items.ensures.is, size_same n.sources g of n.production) in
    let child = c.in-Some.ensures in
    rw (r.1, r.2)
    (child_broke n g of c.rows-rows.result c.rows-rows.ensures item can l i.1 c.in-Some.child child.0 child.1 c.args.records.now
    c.loop-place.records c.list.new.records c.loop-place.count i.2 i.3 c.loop-place.invariant.1 c.in_err-count.field-0.0 _
    (c.in_err-count.ensures.listed g) refl)

pub returns-clause-listed : goal.returns-clause-listed
returns-clause-listed t c g of item can =
    let n = c.args.self.now in
    let i = c.loop-place.invariant.3 g of item can in
    done n.sources g of (known_in n.sources g of n.production n.known) item i.1 c.args.records.now c.loop-place.records c.loop-place.count
    (omega (arith, c.loop-place-test.false, ap length c.right-symbol-items.ensures.is, c.loop-place.auto.place-end, size_same n.sources g of n.production))
    i.2 i.3 c.loop-place.invariant.1
