use Rattle.std.proofs.Common.{◌≡◌, ℕ, List, ◌∷◌, decimal, sym, ◌∙◌}
use Rattle.syntax.specs.Syntax.{sign}
use Rattle.file_lines.proofs.RuleLines.{no_rule, rule_apart, rule_joined}
use Rattle.file_lines.proofs.reading.read_rule.Goals as goal

head : (x y : ℕ) (s t : List ℕ) → x ∷ 32 ∷ s ≡ y ∷ 32 ∷ t → x ≡ y
head x y s t e = cc

tail : (x y : ℕ) (s t : List ℕ) → x ∷ 32 ∷ s ≡ y ∷ 32 ∷ t → s ≡ t
tail x y s t e = cc

pub returns-in_err-first : goal.returns-in_err-first
returns-in_err-first c = rw c.from_residual.ensures (no_rule c.args.line.now c.in_err-first.ensures)

pub returns-in_err-sign : goal.returns-in_err-sign
returns-in_err-sign c =
    let k = c.in_ok-first.ensures in
    rw c.from_residual-in_err-sign.ensures
    (λ upper r lower f. c.in_err-sign.ensures (sign r) (decimal lower) (rule_apart c.args.line.now _ _ k.0 k.1 upper r lower f).1)

pub returns-in_err-upper : goal.returns-in_err-upper
returns-in_err-upper c =
    let k = c.in_ok-first.ensures in
    rw c.from_residual-in_err-upper.ensures
    (λ upper r lower f. c.in_err-upper.ensures upper f.0.0 (rule_apart c.args.line.now _ _ k.0 k.1 upper r lower f).0)

pub returns-in_err-relation : goal.returns-in_err-relation
returns-in_err-relation c =
    let k = c.in_ok-first.ensures in
    let s = c.in_ok-sign.ensures in
    rw c.from_residual-in_err-relation.ensures
    (λ upper r lower f. c.in_err-relation.ensures r tt (head _ _ _ _ (sym s ∙ (rule_apart c.args.line.now _ _ k.0 k.1 upper r lower f).1)))

pub returns-in_err-lower : goal.returns-in_err-lower
returns-in_err-lower c =
    let k = c.in_ok-first.ensures in
    let s = c.in_ok-sign.ensures in
    rw c.from_residual-in_err-lower.ensures
    (λ upper r lower f. c.in_err-lower.ensures lower f.0.1 (tail _ _ _ _ (sym s ∙ (rule_apart c.args.line.now _ _ k.0 k.1 upper r lower f).1)))

pub returns : goal.returns
returns c =
    let k = c.in_ok-first.ensures in
    let u = c.in_ok-upper.ensures in
    let r = c.in_ok-relation.ensures in
    let l = c.in_ok-lower.ensures in
    rule_joined c.args.line.now _ _ k.0 k.1 c.in_ok-upper.upper c.in_ok-relation.relation c.in_ok-lower.lower _ _ u.0 l.0 u.1 c.in_ok-sign.ensures r.1 l.1
