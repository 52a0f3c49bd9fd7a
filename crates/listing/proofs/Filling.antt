-- The row behind the last symbol of a node, from which its other rows are made.
use Rattle.std.proofs.Common.{◌≡◌, ℕ, ◌<◌, ◌⊎◌, ◌↔◌, List, length, get_or, set, sym, ap, ◌∙◌, subst, inl, inr, arith}
use Rattle.std.proofs.lemmas.List.{get_or-set_same}
use Rattle.bitset.specs.Bits.{Has}
use Rattle.bitset.proofs.Digits.{none_of_zero}
use Rattle.listing.specs.declared.node.Node.{Node}
use Rattle.listing.specs.Asked.{right_in, RowsFrom}

-- the row behind the last symbol
pub rows_begin :
    (n : Node) (blank : List ℕ) (k row : ℕ) →
    k ≡ length (right_in n.sources n.production) →
    k < length blank →
    ((m : ℕ) → Has row m ↔ (Has 0 m ⊎ (m ≡ n.end))) →
    RowsFrom n k (set blank k row)
rows_begin n blank k row size l is =
    let there : get_or (set blank k row) (length (right_in n.sources n.production)) 0 ≡ row = ap (λ i. get_or (set blank k row) i 0) (sym size) ∙
    get_or-set_same blank k row 0 l in
    record {
      last =
          λ e. subst (λ x. Has x e ↔ (e ≡ n.end)) (sym there)
          ((λ h. elim ((is e).0 h) [ inl z ↦ absurd (none_of_zero e z) | inr y ↦ y ]), λ h. (is e).1 (inr h));
      each = λ r a b. absurd (omega arith);
    }
