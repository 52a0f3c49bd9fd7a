-- What is written of reports. Assumes nothing.
use Rattle.std.proofs.Common.{◌≡◌, List, ℕ, [], ◌++◌, None, Some, Option, sym, refl, ap, ◌∙◌, append_assoc, append-nil, subst}
use Rattle.std.specs.Io.KnownBytes.{Appends, Consumes, IsAtEnd}
use Rattle.std.proofs.lemmas.List.Concat.{flat_map-append}
use Rattle.std.specs.Prelude.{IfSome}
use Rattle.walk.specs.declared.scores.LineReport.{LineReport}
use Rattle.walk.specs.Sessions.{written}

-- nothing is appended
pub none_appended : (a : Option (List ℕ)) → Appends a a []
none_appended None = tt
none_appended (Some xs) = sym (append-nil xs)

-- one text is appended after the other
pub both_appended : (a b c : Option (List ℕ)) (xs ys : List ℕ) → Appends a b xs → Appends b c ys → Appends a c (xs ++ ys)
both_appended None b c xs ys h k = tt
both_appended (Some x) None c xs ys h k = absurd h
both_appended (Some x) (Some y) None xs ys h k = absurd k
both_appended (Some x) (Some y) (Some z) xs ys h k = k ∙ ap (λ (l : List ℕ). l ++ ys) h ∙ append_assoc x xs ys

-- nothing is read
pub none_read : (a : Option (List ℕ)) → Consumes a a []
none_read None = tt
none_read (Some xs) = refl

-- one text is read after the other
pub both_read : (a b c : Option (List ℕ)) (xs ys : List ℕ) → Consumes a b xs → Consumes b c ys → Consumes a c (xs ++ ys)
both_read None b c xs ys h k = tt
both_read (Some x) None c xs ys h k = absurd h
both_read (Some x) (Some y) None xs ys h k = absurd k
both_read (Some x) (Some y) (Some z) xs ys h k = h ∙ ap (λ (l : List ℕ). xs ++ l) k ∙ sym (append_assoc xs ys z)

-- all is read
pub all_read : (a b : Option (List ℕ)) (xs : List ℕ) (P : List ℕ → Type 0) → Consumes a b xs → IsAtEnd b → P xs → IfSome a P
all_read None b xs P h e p = tt
all_read (Some x) None xs P h e p = absurd h
all_read (Some x) (Some y) xs P h e p = subst P (sym (h ∙ ap (λ (l : List ℕ). xs ++ l) e ∙ append-nil xs)) p

-- reports and then more of them
pub more_written : (rs qs : List LineReport) → written rs ++ written qs ≡ written (rs ++ qs)
more_written rs qs = sym (flat_map-append _ rs qs)

pub reports_appended : (a b c : Option (List ℕ)) (rs qs : List LineReport) → Appends a b (written rs) → Appends b c (written qs) → Appends a c (written (rs ++ qs))
reports_appended a b c rs qs h k = subst (Appends a c) (more_written rs qs) (both_appended a b c _ _ h k)
