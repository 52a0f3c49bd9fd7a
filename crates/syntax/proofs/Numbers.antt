-- Digits, and the numbers up to 65535 in decimal.
use Rattle.std.proofs.Common.{◌≡◌, ℕ, ◌+◌, ◌-◌, ◌*◌, ◌^◌, ◌<◌, ◌≤◌, List, length, get_or, take, decimal, sym, ap, ◌∙◌, ⊎_elim, arith}
use Rattle.std.specs.Str.Parse.{AllDigits, digits_value}
use Rattle.std.specs.Int.{IsInRange}
use Rattle.std.specs.Char.{digit_value as digitValue}
use Rattle.std.proofs.lemmas.Bool.Decides.{nat_tests}
use Rattle.std.proofs.lemmas.List.{length-take}
use Rattle.std.proofs.lemmas.Bool.{cases_eq}
use Rattle.std.proofs.lemmas.Int.Digits.{digits_more, digits_value_more}
use Rattle.std.proofs.lemmas.Fmt.{decimal_digit, length-decimal-le, decimal_nonempty, first_decimal, digits_decimal, digits_value-decimal, decimal-digits_value}
use Rattle.std.proofs.lemmas.Str.Parse.{IsNumeralModel, numerals_by_value, tells_digits, digits_value_short}

decimal_digits : IsNumeralModel (AllDigits 10) (digits_value 10)
decimal_digits = numerals_by_value _ tells_digits

digit_value : (c : ℕ) → IsInRange 48 57 c → digitValue c ≡ c - 48
digit_value c h = grind (arith, nat_tests)

-- five digits write less than a hundred thousand
five_digits : (ds : List ℕ) → AllDigits 10 ds → length ds ≤ 5 → digits_value 10 ds < 100000
five_digits ds h l = digits_value_short decimal_digits ds 5 h l

pub front_small : (ds : List ℕ) (i : ℕ) → length ds ≤ 5 → AllDigits 10 (take i ds) → digits_value 10 (take i ds) < 100000
front_small ds i h d = five_digits (take i ds) d (omega (arith, length-take i ds))

-- one digit more
pub digits_step :
    (ds : List ℕ) (i n d : ℕ) →
    i < length ds →
    IsInRange 48 57 (get_or ds i 0) →
    d ≡ get_or ds i 0 - 48 →
    AllDigits 10 (take i ds) →
    n ≡ digits_value 10 (take i ds) →
    AllDigits 10 (take (i + 1) ds) × (10 * n + d ≡ digits_value 10 (take (i + 1) ds))
digits_step ds i n d l h e some same =
    let v = digit_value (get_or ds i 0) h in
    (digits_more 10 ds i l some (omega (arith, v)), omega (arith, v, digits_value_more 10 ds i l))

-- what a number looks like in decimal
pub record NumeralShape (n : ℕ) (bs : List ℕ) : Type 0 where
  pub some : 0 < length bs
  pub short : length bs ≤ 5
  pub no_zero : get_or bs 0 0 ≡ 48 → length bs ≡ 1
  pub digits : AllDigits 10 bs
  pub value_is : digits_value 10 bs ≡ n

zero_alone : (n : ℕ) → n < 2 ^ 64 → get_or (decimal n) 0 0 ≡ 48 → length (decimal n) ≡ 1
zero_alone n small z =
    ⊎_elim
    (λ (e : n ≡ 0). ap (λ m. length (decimal m)) e ∙ ap length (decimal_digit 0 (omega arith)))
    (λ (f : n ≡ 0 → ⊥). absurd (omega (arith, first_decimal n (omega arith) small)))
    (cases_eq n 0)

pub decimal_shape : (n : ℕ) → n ≤ 65535 → NumeralShape n (decimal n)
decimal_shape n h =
    let small : n < 2 ^ 64 = omega arith in
    record {
      some = decimal_nonempty n small;
      short = length-decimal-le 5 n (omega arith) (omega arith) small;
      no_zero = zero_alone n small;
      digits = digits_decimal decimal_digits n small;
      value_is = digits_value-decimal decimal_digits n small;
    }

pub shape_of : (n : ℕ) (bs : List ℕ) → n ≤ 65535 → bs ≡ decimal n → NumeralShape n bs
shape_of n bs h e = rw e (decimal_shape n h)

-- what looks so is the number in decimal
pub shape_decimal : (n : ℕ) (bs : List ℕ) → NumeralShape n bs → bs ≡ decimal n
shape_decimal n bs s =
    let low = five_digits bs s.digits s.short in
    sym (decimal-digits_value decimal_digits bs s.digits s.some s.no_zero (omega arith)) ∙ ap decimal s.value_is
