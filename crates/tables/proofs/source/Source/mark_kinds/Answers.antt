use Rattle.std.proofs.Common.{◌≡◌, ◌+◌, ◌<◌, get_or, length, sym, ap, ◌∙◌, subst, arith}
use Rattle.grammar.specs.Grammar.{right_at}
use Rattle.grammar.specs.Model.{productions}
use Rattle.derivations.specs.Steps.{Gathers}
use Rattle.derivations.proofs.Gathering.{gathers_more}
use Rattle.tables.specs.Entries.{Entry, KindNext}
use Rattle.tables.specs.Sets.{Marked}
use Rattle.tables.proofs.Counting.{right_there, known_at, place_small}
use Rattle.tables.proofs.Tabulating.{adds_same}
use Rattle.tables.proofs.source.Source.mark_kinds.Goals as goal

pub overflow_add-first : goal.overflow_add-first
overflow_add-first c =
    let self = c.args.self.now in
    let ps = self.productions.now in
    let right = right_there ps c.args.p c.index-self-p.result c.requires _ c.right-symbol-items.ensures in
    omega (arith, place_small ps self.first c.args.p c.loop-k.k self.begins self.small c.requires (omega (arith, ap length right, c.loop-k-test.true)))

pub mark_kind-requires : goal.mark_kind-requires
mark_kind-requires c =
    let self = c.args.self.now in
    let ps = self.productions.now in
    let p = c.args.p in
    let k = c.loop-k.k in
    let right = right_there ps p c.index-self-p.result c.requires _ c.right-symbol-items.ensures in
    let inside : k < length (right_at (productions ps) p) = omega (arith, ap length right, c.loop-k-test.true) in (
      omega (arith, self.symbols p k (known_at ps p c.requires) inside, ap (λ xs. get_or xs k 0) right),
      place_small ps self.first p k self.begins self.small c.requires inside,
    )

pub loop-k-preserved : goal.loop-k-preserved
loop-k-preserved c =
    let self = c.args.self.now in
    let ps = productions self.productions.now in
    let p = c.args.p in
    let k = c.loop-k.k in
    let items = c.right-symbol-items.result.now in
    let right = right_there self.productions.now p c.index-self-p.result c.requires items c.right-symbol-items.ensures in
    let symbol = ap (λ xs. get_or xs k 0) right in
    let place = ap (λ n. n + k) (self.begins p (known_at self.productions.now p c.requires)) in
    let mid = Marked c.loop-k.before in
    let after = Marked c.mark_kind.new.before in
    gathers_more (Marked c.args.before.now) mid after k (Entry ps (KindNext ps) p) c.loop-k.invariant
    (adds_same mid after (λ x e. (get_or items k 0 ≡ 16 + x) × (e ≡ get_or self.first p 0 + k)) (Entry ps (KindNext ps) p k) c.mark_kind.ensures
    (λ x e. (λ h. ((omega (arith, ap length right, c.loop-k-test.true), sym symbol ∙ h.0), h.1 ∙ place), λ h. (symbol ∙ h.0.1, h.1 ∙ sym place))))

pub returns : goal.returns
returns c =
    let ps = productions c.args.self.now.productions.now in
    let right = right_there c.args.self.now.productions.now c.args.p c.index-self-p.result c.requires _ c.right-symbol-items.ensures in
    let all : c.loop-k.k ≡ length (right_at ps c.args.p) = omega (arith, ap length right) in
    subst (λ n. Gathers (Marked c.args.before.now) (Marked c.loop-k.before) n (Entry ps (KindNext ps) c.args.p)) all c.loop-k.invariant
