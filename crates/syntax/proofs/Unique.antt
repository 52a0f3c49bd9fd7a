-- Different values are written differently.
use Rattle.std.proofs.Common.{◌≡◌, ℕ, ◌≤◌, [], ◌∷◌, ◌++◌, length, get_or, decimal, sym, refl, ap, arith, length-append}
use Rattle.std.proofs.lemmas.List.{append_cancel_right}
use Rattle.std.proofs.lemmas.Fmt.{decimal_injective as same_from_decimal}
use Rattle.grammar.specs.declared.rule.Relation.{Relation}
use Rattle.grammar.specs.declared.rule.Relation.TheVariants.{Priority, Left, Right, NonAssoc}
use Rattle.syntax.specs.Syntax.{Spelling, literal, name, num, Symbol, nonterminal, spelled, letter, spelling_text, symbol_text, sign}

pub decimal_injective : (m n : ℕ) → m ≤ 65535 → n ≤ 65535 → decimal m ≡ decimal n → m ≡ n
decimal_injective m n h k e = same_from_decimal m n (omega arith) (omega arith) e

pub letter_injective : (s t : ℕ) → letter s ≡ letter t → s ≡ t
letter_injective s t e = omega (arith, ap (λ l. get_or l 0 0) e)

pub spelling_injective : (v w : Spelling) → spelling_text v ≡ spelling_text w → v ≡ w
spelling_injective (literal xs) (literal ys) e =
    let t : xs ++ 34 ∷ [] ≡ ys ++ 34 ∷ [] = cc in
    ap literal (append_cancel_right xs ys (34 ∷ []) t)
spelling_injective (literal xs) name e = absurd (omega (arith, ap (λ l. get_or l 0 0) e))
spelling_injective (literal xs) num e = absurd (omega (arith, ap (λ l. get_or l 0 0) e))
spelling_injective name (literal ys) e = absurd (omega (arith, ap (λ l. get_or l 0 0) e))
spelling_injective name name e = refl
spelling_injective name num e = absurd (omega (arith, ap length e))
spelling_injective num (literal ys) e = absurd (omega (arith, ap (λ l. get_or l 0 0) e))
spelling_injective num name e = absurd (omega (arith, ap length e))
spelling_injective num num e = refl

-- a spelling is longer than a letter
pub spelling_long : (w : Spelling) → 2 ≤ length (spelling_text w)
spelling_long (literal bs) = simp length-append (omega arith)
spelling_long name = omega arith
spelling_long num = omega arith

pub letter_no_spelling : (s : ℕ) (w : Spelling) → letter s ≡ spelling_text w → ⊥
letter_no_spelling s w e = omega (arith, ap length e, spelling_long w)

pub symbol_injective : (s t : Symbol) → symbol_text s ≡ symbol_text t → s ≡ t
symbol_injective (nonterminal s) (nonterminal t) e = ap nonterminal (letter_injective s t e)
symbol_injective (nonterminal s) (spelled w) e = absurd (letter_no_spelling s w e)
symbol_injective (spelled v) (nonterminal t) e = absurd (letter_no_spelling t v (sym e))
symbol_injective (spelled v) (spelled w) e = ap spelled (spelling_injective v w e)

pub sign_injective : (r q : Relation) → sign r ≡ sign q → r ≡ q
sign_injective Priority Priority e = refl
sign_injective Priority Left e = absurd (omega arith)
sign_injective Priority Right e = absurd (omega arith)
sign_injective Priority NonAssoc e = absurd (omega arith)
sign_injective Left Priority e = absurd (omega arith)
sign_injective Left Left e = refl
sign_injective Left Right e = absurd (omega arith)
sign_injective Left NonAssoc e = absurd (omega arith)
sign_injective Right Priority e = absurd (omega arith)
sign_injective Right Left e = absurd (omega arith)
sign_injective Right Right e = refl
sign_injective Right NonAssoc e = absurd (omega arith)
sign_injective NonAssoc Priority e = absurd (omega arith)
sign_injective NonAssoc Left e = absurd (omega arith)
sign_injective NonAssoc Right e = absurd (omega arith)
sign_injective NonAssoc NonAssoc e = refl
