use Rattle.std.proofs.Common.{◌≡◌, ℕ, ◌+◌, ◌*◌, ◌/◌, ◌%◌, ◌^◌, sym, ap, ◌∙◌, set, get_or, arith, rules}
use lib.Bits.{bit_or}
use lib.Seq.{set-get_or}
use Rattle.std.proofs.lemmas.Nat.{one_shl}
use Rattle.std.proofs.lemmas.Bool.{eqb-true, eqb-false, not-true, not-false}
use Rattle.bitset.proofs.Digits.{or_same, or_one_has}
use Rattle.bitset.proofs.cells.mark.Goals as goal

-- `1 << (d % 64)`
one : (d : ℕ) → (1 * 2 ^ (d % 64)) % 2 ^ 64 ≡ 2 ^ (d % 64)
one d = one_shl (d % 64) 64 (omega arith)

pub returns-clause-same : goal.returns-clause-same
returns-clause-same c =
    let at = 2 * c.args.x + c.args.d / 64 in
    c.join.ensures.same ∙ ap (λ n. set c.args.cells.now at (bit_or (get_or c.args.cells.now at 0) n)) (one c.args.d)

pub returns-clause-adds : goal.returns-clause-adds
returns-clause-adds c =
    let old = get_or c.args.cells.now (2 * c.args.x + c.args.d / 64) 0 in
    let holds = or_one_has old (c.args.d % 64) in
    let same = returns-clause-same c in
    rw same (search rules)

pub returns-clause-yes : goal.returns-clause-yes
returns-clause-yes c t h =
    let old = get_or c.args.cells.now (2 * c.args.x + c.args.d / 64) 0 in
    eqb-false _ old (not-true _ (sym c.join.ensures.value ∙ t)) (ap (bit_or old) (one c.args.d) ∙ or_same old (c.args.d % 64) h.1)

pub returns-clause-no : goal.returns-clause-no
returns-clause-no c t =
    let cells = c.args.cells.now in
    let at = 2 * c.args.x + c.args.d / 64 in
    c.join.ensures.same ∙ ap (set cells at) (eqb-true _ (get_or cells at 0) (not-false _ (sym c.join.ensures.value ∙ t))) ∙ set-get_or cells at 0
