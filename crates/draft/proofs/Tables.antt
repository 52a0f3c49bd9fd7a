-- The first n of an array's elements, each by what it stands for. Assumes nothing.
use Rattle.std.proofs.Common.{◌≡◌, ℕ, ◌+◌, ◌<◌, ◌≤◌, List, [], ◌∷◌, ◌++◌, map, length, get_or, take, set, sym, ap, ◌∙◌, subst, arith}
use Rattle.std.proofs.lemmas.List.{length-map, length-take-le, get_or-map, get_or-take, take_more_set, map_push}
use Rattle.grammar.specs.declared.production.Production.{Production as Stored}
use Rattle.grammar.specs.Model.{production}
use Rattle.grammar.proofs.Sizes.{few_symbols}

module _ {X Y : Type 0} (f : X → Y) (xs : List X) where
  pub counted : (n : ℕ) → n ≤ length xs → n ≡ length (map f (take n xs))
  counted n h = sym (length-map (take n xs) f ∙ length-take-le n xs h)

  pub looked : (n i : ℕ) (d : X) (e : Y) → i < n → n ≤ length xs → f (get_or xs i d) ≡ get_or (map f (take n xs)) i e
  looked n i d e h l = sym (get_or-map f (take n xs) i d e (omega (arith, length-take-le n xs l)) ∙ ap f (get_or-take n xs i d h))

  pub pushed : (n : ℕ) (x : X) → n < length xs → map f (take (n + 1) (set xs n x)) ≡ map f (take n xs) ++ f x ∷ []
  pushed n x h = ap (map f) (take_more_set xs n x h) ∙ map_push f (take n xs) x

-- what is true of an element of a list is true of what it stands for
pub one_stands : {X Y : Type 0} (f : X → Y) (P : Y → Type 0) (xs : List X) (e : Y) (k : ℕ) (d : X) → k < length xs → P (f (get_or xs k d)) → P (get_or (map f xs) k e)
one_stands f P xs e k d h p = subst P (sym (get_or-map f xs k d e h)) p

-- what is true of no element of a list is true of none that the elements stand for
pub none_stands : {X Y : Type 0} (f : X → Y) (P : Y → Type 0) (xs : List X) (e : Y) → ((k : ℕ) (d : X) → k < length xs → ¬ P (f (get_or xs k d))) → (k : ℕ) → k < length (map f xs) → ¬ P (get_or (map f xs) k e)
none_stands f P [] e none k l p = omega arith
none_stands f P (x ∷ xs) e none k l p =
    let h : k < length (x ∷ xs) = omega (arith, length-map (x ∷ xs) f) in
    none k x h (subst P (get_or-map f (x ∷ xs) k x e h) p)

-- a stored production's right side has at most six symbols
pub short : (p : Stored) → ¬ (6 < length (production p).right)
short p h = omega (arith, few_symbols p)
