use Rattle.std.proofs.Common.{◌/◌, ◌^◌, sym, ◌∙◌, inl, inr, ⊎_elim}
use Rattle.bitset.specs.Bits.{bit, Has}
use Rattle.bitset.proofs.Digits.{and_one, or_has}
use Rattle.bitset.proofs.rows.methods.joined.Goals as goal

pub returns-then-row-m-eq1 : goal.returns-then-row-m-eq1
unfolding bit
returns-then-row-m-eq1 c q =
    let row = c.args.row in
    let middle = c.args.middle in
    let has : Has row c.args.m = sym (and_one (row / 2 ^ c.args.m)) ∙ c.if-row-m-eq1.true in (
      λ h. ⊎_elim (λ (y : Has row q). inl y) (λ (y : Has middle q). inr (has, y)) ((or_has row middle q).0 h),
      λ h. (or_has row middle q).1 (⊎_elim (λ (y : Has row q). inl y) (λ (y : Has row c.args.m × Has middle q). inr y.1) h),
    )

pub returns-else-row-m-eq1 : goal.returns-else-row-m-eq1
unfolding bit
returns-else-row-m-eq1 c q =
    let row = c.args.row in (
      λ h. inl h,
      λ h. ⊎_elim (λ (y : Has row q). y)
          (λ (y : Has row c.args.m × Has c.args.middle q). absurd (c.if-row-m-eq1.false (and_one (row / 2 ^ c.args.m) ∙ y.0))) h,
    )
