-- The items of a slice, each by what it stands for. Assumes nothing.
use Rattle.std.proofs.Common.{◌≡◌, ℕ, ◌<◌, List, map, length, get_or, sym, ap, ◌∙◌}
use Rattle.std.proofs.lemmas.List.{length-map, get_or-map}

module _ {X Y : Type 0} (f : X → Y) (xs : List X) (ys : List Y) (e : map f xs ≡ ys) where
  pub as_many : length xs ≡ length ys
  as_many = sym (length-map xs f) ∙ ap length e

  pub item_at : (i : ℕ) (d : X) (y : Y) → i < length xs → f (get_or xs i d) ≡ get_or ys i y
  item_at i d y h = sym (get_or-map f xs i d y h) ∙ ap (λ (l : List Y). get_or l i y) e
