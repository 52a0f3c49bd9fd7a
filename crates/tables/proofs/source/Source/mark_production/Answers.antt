use Rattle.std.proofs.Common.{◌≡◌, ◌+◌, get_or, length, sym, ap, ◌∙◌, subst, arith}
use Rattle.grammar.specs.Grammar.{Grammar, right_at}
use Rattle.grammar.specs.Model.{productions, rules}
use Rattle.bitset.specs.Bits.{Has}
use Rattle.derivations.specs.Steps.{Gathers}
use Rattle.derivations.proofs.Gathering.{gathers_more}
use Rattle.tables.specs.Entries.{Entry, WaitsFor}
use Rattle.tables.specs.Sets.{Marked}
use Rattle.tables.proofs.Counting.{right_there, known_at, place_small}
use Rattle.tables.proofs.Tabulating.{adds_same}
use Rattle.tables.proofs.source.Source.mark_production.Goals as goal

pub admitted-requires : goal.admitted-requires
admitted-requires c =
    let ps = c.args.self.now.productions.now in
    let size = ap length (right_there ps c.args.p c.index-self-p.result c.requires _ c.right-k-end.ensures) in
    record {
      parent = c.requires;
      position = omega (arith, size, c.loop-k-test.true);
    }

-- the place of position k
pub overflow_add-first : goal.overflow_add-first
overflow_add-first c =
    let self = c.args.self.now in
    let size = ap length (right_there self.productions.now c.args.p c.index-self-p.result c.requires _ c.right-k-end.ensures) in
    omega (arith, place_small self.productions.now self.first c.args.p c.loop-k.k self.begins self.small c.requires (omega (arith, size, c.loop-k-test.true)))

pub mark_each-requires : goal.mark_each-requires
mark_each-requires c =
    let self = c.args.self.now in
    let size = ap length (right_there self.productions.now c.args.p c.index-self-p.result c.requires _ c.right-k-end.ensures) in
    omega (arith, place_small self.productions.now self.first c.args.p c.loop-k.k self.begins self.small c.requires (omega (arith, size, c.loop-k-test.true)))

pub loop-k-preserved : goal.loop-k-preserved
loop-k-preserved c start =
    let ps = productions c.args.self.now.productions.now in
    let g : Grammar = record { start = start; productions = ps; rules = rules c.args.self.now.rules.now } in
    let p = c.args.p in
    let k = c.loop-k.k in
    let set = c.admitted.result in
    let mid = Marked c.loop-k.waits in
    let after = Marked c.mark_each.new.cells in
    let place = ap (λ n. n + k) (c.args.self.now.begins c.args.p (known_at c.args.self.now.productions.now c.args.p c.requires)) in
    let step =
    adds_same mid after (λ x e. Has set x × (e ≡ get_or c.args.self.now.first c.args.p 0 + k)) (Entry ps (WaitsFor g) p k) c.mark_each.ensures
    (λ x e. (λ h. ((c.admitted.ensures start x).0 h.0, h.1 ∙ place), λ h. ((c.admitted.ensures start x).1 h.0, h.1 ∙ sym place))) in
    gathers_more (Marked c.args.waits.now) mid after k (Entry ps (WaitsFor g) p) (c.loop-k.invariant start) step

pub returns : goal.returns
returns c start =
    let ps = c.args.self.now.productions.now in
    let g : Grammar = record { start = start; productions = productions ps; rules = rules c.args.self.now.rules.now } in
    let p = c.args.p in
    let size = ap length (right_there ps p c.index-self-p.result c.requires _ c.right-k-end.ensures) in
    let all : c.loop-k.k ≡ length (right_at (productions ps) p) = omega (arith, size) in
    subst (λ n. Gathers (Marked c.args.waits.now) (Marked c.loop-k.waits) n (Entry (productions ps) (WaitsFor g) p)) all (c.loop-k.invariant start)
