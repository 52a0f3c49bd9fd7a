-- The three scales: whether there is a tree, how many there are, and the smallest price. Assumes nothing.
use Rattle.std.specs.Prelude.{ℕ, ◌+◌, ◌*◌, min, Bool, true, false, ◌&&◌, ◌||◌}
use Rattle.std.proofs.Math.Nat.{le_trans, min-le_left, min-le_right}
use Rattle.scales.specs.declared.values.YesNo.{YesNo}
use Rattle.scales.specs.declared.values.Count.{Count}
use Rattle.scales.specs.declared.values.Price.{Price}
use Rattle.scales.specs.Scales.{Scale}

-- yes or no
abbrev pub answer : Bool → YesNo
answer b = record { yes = b }

-- every price is yes; a sum is yes where one of the two is, a product where both are
abbrev pub yes_no : Scale YesNo
yes_no = record {
  none = answer false;
  one = answer true;
  plus = λ x y. answer (x.yes || y.yes);
  times = λ x y. answer (x.yes && y.yes);
  value = λ n. answer true;
}

-- the number n, or 4,294,967,295 where n is greater
abbrev pub counted : ℕ → Count
counted n = record { value = min n 4294967295; fits = min-le_right n 4294967295 }

-- every price counts one; sums and products stop at 4,294,967,295
abbrev pub count : Scale Count
count = record {
  none = counted 0;
  one = counted 1;
  plus = λ x y. counted (x.value + y.value);
  times = λ x y. counted (x.value * y.value);
  value = λ n. counted 1;
}

-- the price n; 4,294,967,295 and every greater one stand for none
abbrev pub priced : ℕ → Price
priced n = record { value = min n 4294967295; fits = min-le_right n 4294967295 }

-- the smaller of two prices
abbrev pub smaller : Price → Price → Price
smaller x y = record { value = min x.value y.value; fits = le_trans (min-le_left x.value y.value) x.fits }

-- every price is itself; a sum is the smaller of the two, and a product adds them
abbrev pub price : Scale Price
price = record {
  none = priced 4294967295;
  one = priced 0;
  plus = smaller;
  times = λ x y. priced (x.value + y.value);
  value = priced;
}
