use Rattle.std.proofs.Common.{ℕ, length, get_or, sym, refl, ap, ◌∙◌, arith}
use Rattle.std.proofs.lemmas.Bool.{eqb-true, not-true, not-false}
use Rattle.grammar.specs.Grammar.{Grammar}
use Rattle.grammar.specs.Model.{productions, rules}
use Rattle.tables.proofs.Counting.{right_there, left_there, known_at}
use Rattle.tables.proofs.source.Source.admits.Goals as goal

pub bounds-right-k : goal.bounds-right-k
bounds-right-k c =
    let ps = c.args.self.now.productions.now in
    let e = right_there ps c.args.p c.index-self-p.result c.requires.parent _ c.right-right.ensures in
    omega (arith, ap length e, c.requires.position)

pub returns-else-right-k : goal.returns-else-right-k
returns-else-right-k c =
    let ps = c.args.self.now.productions.now in
    let e = right_there ps c.args.p c.index-self-p.result c.requires.parent _ c.right-right.ensures in
    let f = left_there ps c.args.q c.index-self-q.result c.requires.child _ c.left.ensures in
    record { yes = λ t. absurd (c.if-right-k.false (eqb-true _ _ t)); no = λ _ start h. c.if-right-k.false (ap (λ xs. get_or xs c.args.k 0) e ∙ h.0.1 ∙ sym f) }

pub returns-then-right-k : goal.returns-then-right-k
returns-then-right-k c =
    let ps = c.args.self.now.productions.now in
    let e = right_there ps c.args.p c.index-self-p.result c.requires.parent _ c.right-right.ensures in
    let f = left_there ps c.args.q c.index-self-q.result c.requires.child _ c.left.ensures in
    let g : ℕ → Grammar = λ start. record { start = start; productions = productions ps; rules = rules c.args.self.now.rules.now } in
    record {
      yes = λ t start. (
        (c.requires.position, ap (λ xs. get_or xs c.args.k 0) (sym e) ∙ c.if-right-k.true ∙ f),
        c.args.self.now.lefts c.args.q (known_at ps c.args.q c.requires.child),
        c.conflict.ensures.no (not-true _ t) (g start) refl (sym (ap length e)),
      );
      no = λ t start h. h.2 (c.conflict.ensures.yes (not-false _ t) (g start) refl (sym (ap length e)));
    }
