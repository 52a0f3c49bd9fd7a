use Rattle.std.proofs.Common.{◌≡◌, ◌%◌, ◌*◌, ◌^◌, ◌<◌, ◌≤◌, ◌⊎◌, ◌↔◌, sym, ◌∙◌, ap, subst, arith}
use lib.Bits.{bit_or}
use Rattle.std.proofs.lemmas.Nat.{one_shl, pow_below, or_lt}
use Rattle.bitset.specs.Bits.{Has}
use Rattle.bitset.proofs.Digits.{or_grows, or_one_has}
use Rattle.bitset.proofs.with.Goals as goal

pub narrowed-requires : goal.narrowed-requires
narrowed-requires g c =
    let w = g.S.Bits.width in
    let x = c.args.x in
    let one : (1 * 2 ^ x) % 2 ^ 64 ≡ 2 ^ x = one_shl x 64 (omega (arith, c.requires, g.met.S.Bits.fits)) in
    or_lt w c.widened.result _ c.widened.ensures.narrow (subst (λ n. n < 2 ^ w) (sym one) (pow_below x w c.requires))

pub returns : goal.returns
returns g c =
    let s = g.S.Bits.number c.args.set in
    let x = c.args.x in
    let one : (1 * 2 ^ x) % 2 ^ 64 ≡ 2 ^ x = one_shl x 64 (omega (arith, c.requires, g.met.S.Bits.fits)) in
    let new : g.S.Bits.number c.narrowed.result ≡ bit_or s (2 ^ x) = c.narrowed.ensures ∙ ap (λ n. bit_or c.widened.result n) one ∙ ap (λ n. bit_or n (2 ^ x)) c.widened.ensures.same in
    record {
      holds = λ y. subst (λ n. Has n y ↔ (Has s y ⊎ (y ≡ x))) (sym new) (or_one_has s x y);
      grows = subst (λ n. s ≤ n) (sym new) (or_grows s _);
      bits = new;
    }
