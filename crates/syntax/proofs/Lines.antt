-- Lines: the bytes of each form step by step, their length, and that a line has one form at most.
use Rattle.std.proofs.Common.{◌≡◌, ℕ, suc, ◌+◌, ◌*◌, ◌≤◌, List, [], ◌∷◌, ◌++◌, length, get_or, decimal, sym, refl, ap, ◌∙◌, arith, length-append}
use Rattle.std.proofs.lemmas.List.{get_or_at, get_or_append_left}
use Rattle.std.proofs.lemmas.Str.Parse.{digit_at}
use Rattle.std.proofs.lemmas.Fmt.{decimal_digit, length-decimal-le}
use Rattle.grammar.specs.declared.rule.Relation.{Relation}
use Rattle.syntax.specs.Syntax.{Spelling, literal, name, num, Symbol, nonterminal, spelled, Line, word_line, production_line, rule_line, ValidSpelling, ValidSymbol, ValidSymbols, Valid, spelling_text, symbol_text, sign, spaced, right_parts, render, mark_line}
use Rattle.syntax.specs.Free.{FreeOf}
use Rattle.syntax.proofs.Numbers.{decimal_shape}
use Rattle.syntax.proofs.Unique.{decimal_injective, spelling_injective, spelling_long, symbol_injective, sign_injective}
use Rattle.syntax.proofs.Free.{part_no_space, from_one, symbol_part, decimal_part}

-- a text before the first b is determined
pub before_first :
    (b : ℕ) (x y rest other : List ℕ) →
    FreeOf b x →
    FreeOf b y →
    x ++ b ∷ rest ≡ y ++ b ∷ other →
    (x ≡ y) × (rest ≡ other)
before_first b [] [] rest other f g e = (refl, cc)
before_first b [] (c ∷ y) rest other f g e = absurd (g 0 (omega arith) (sym (ap (λ l. get_or l 0 0) e)))
before_first b (a ∷ x) [] rest other f g e = absurd (f 0 (omega arith) (ap (λ l. get_or l 0 0) e))
before_first b (a ∷ x) (c ∷ y) rest other f g e =
    let same : a ≡ c = cc in
    let tails : x ++ b ∷ rest ≡ y ++ b ∷ other = cc in
    let t = before_first b x y rest other (λ k l. f (suc k) (omega arith)) (λ k l. g (suc k) (omega arith)) tails in
    (cc, t.1)

-- a text in which b does not stand has no b behind a part of it
pub no_first : (b : ℕ) (x y rest : List ℕ) → FreeOf b x → ¬ (x ≡ y ++ b ∷ rest)
no_first b x y rest f e =
    f (length y) (omega (arith, ap length e, length-append y (b ∷ rest))) (ap (λ l. get_or l (length y) 0) e ∙ get_or_at y b rest 0 (length y) refl)

-- a production's right side, one symbol after the other
pub right_cons : (s : Symbol) (ss : List Symbol) (price : ℕ) → spaced (right_parts (s ∷ ss) price) ≡ symbol_text s ++ 32 ∷ spaced (right_parts ss price)
right_cons s [] price = refl
right_cons s (t ∷ ss) price = refl

pub right_nil : (price : ℕ) → spaced (right_parts [] price) ≡ 59 ∷ 32 ∷ decimal price
right_nil price = refl

-- the forms of lines, in bytes
pub render_word : (w : Spelling) → render (word_line w) ≡ 119 ∷ 111 ∷ 114 ∷ 100 ∷ 32 ∷ spelling_text w
render_word w = refl

pub render_production :
    (left : ℕ) (ss : List Symbol) (price : ℕ) →
    render (production_line left ss price) ≡ (65 + left) ∷ 32 ∷ 61 ∷ 32 ∷ spaced (right_parts ss price)
render_production left [] price = refl
render_production left (s ∷ ss) price = refl

pub render_rule : (upper : ℕ) (r : Relation) (lower : ℕ) → render (rule_line upper r lower) ≡ decimal upper ++ 32 ∷ sign r ∷ 32 ∷ decimal lower
render_rule upper r lower = refl

pub mark_bytes : mark_line ≡ 82 ∷ 66 ∷ 75 ∷ 32 ∷ 49 ∷ []
mark_bytes = ap (λ l. 82 ∷ 66 ∷ 75 ∷ 32 ∷ l) (decimal_digit 1 (omega arith))

-- a semicolon is no symbol
pub no_semicolon : (s : Symbol) → ¬ (59 ∷ [] ≡ symbol_text s)
no_semicolon (nonterminal s) e = omega (arith, ap (λ l. get_or l 0 0) e)
no_semicolon (spelled w) e = omega (arith, ap length e, spelling_long w)

semicolon_free : FreeOf 32 (59 ∷ [])
semicolon_free = part_no_space (59 ∷ []) (omega arith, from_one 33 59 (omega arith))

symbol_free : (s : Symbol) → ValidSymbol s → FreeOf 32 (symbol_text s)
symbol_free s v = part_no_space (symbol_text s) (symbol_part s v)

-- the right side determines its symbols and its price
pub right_injective :
    (ss ts : List Symbol) (p q : ℕ) →
    ValidSymbols ss →
    ValidSymbols ts →
    p ≤ 65535 →
    q ≤ 65535 →
    spaced (right_parts ss p) ≡ spaced (right_parts ts q) →
    (ss ≡ ts) × (p ≡ q)
right_injective [] [] p q v w h k e =
    let same : decimal p ≡ decimal q = cc in
    (refl, decimal_injective p q h k same)
right_injective [] (t ∷ ts) p q v w h k e =
    absurd (no_semicolon t (before_first 32 (59 ∷ []) (symbol_text t) (decimal p) _ semicolon_free (symbol_free t w.0) (e ∙ right_cons t ts q)).0)
right_injective (s ∷ ss) [] p q v w h k e =
    absurd (no_semicolon s (before_first 32 (59 ∷ []) (symbol_text s) (decimal q) _ semicolon_free (symbol_free s v.0) (sym e ∙ right_cons s ss p)).0)
right_injective (s ∷ ss) (t ∷ ts) p q v w h k e =
    let c = before_first 32 (symbol_text s) (symbol_text t) _ _ (symbol_free s v.0) (symbol_free t w.0) (sym (right_cons s ss p) ∙ e ∙ right_cons t ts q) in
    let head = symbol_injective s t c.0 in
    let rest = right_injective ss ts p q v.1 w.1 h k c.1 in
    (cc, rest.1)

-- the first byte of a rule's line is a digit
rule_first : (upper : ℕ) (r : Relation) (lower : ℕ) → upper ≤ 65535 → get_or (render (rule_line upper r lower)) 0 0 ≤ 57
rule_first upper r lower h =
    let d = decimal_shape upper h in
    rw (get_or_append_left (decimal upper) (32 ∷ sign r ∷ 32 ∷ decimal lower) 0 0 d.some) (digit_at (decimal upper) 0 d.digits d.some).1

production_first : (left : ℕ) (ss : List Symbol) (price : ℕ) → get_or (render (production_line left ss price)) 0 0 ≡ 65 + left
production_first left ss price = ap (λ l. get_or l 0 0) (render_production left ss price)

rule_injective :
    (a b c d : ℕ) (r q : Relation) →
    Valid (rule_line a r b) →
    Valid (rule_line c q d) →
    render (rule_line a r b) ≡ render (rule_line c q d) →
    rule_line a r b ≡ rule_line c q d
rule_injective a b c d r q v w e =
    let s = before_first 32 (decimal a) (decimal c) _ _ (part_no_space _ (decimal_part a v.0)) (part_no_space _ (decimal_part c w.0)) e in
    let upper = decimal_injective a c v.0 w.0 s.0 in
    let signs : sign r ≡ sign q = ap (λ l. get_or l 0 0) s.1 in
    let tails : decimal b ≡ decimal d = let t = s.1 in cc in
    let relation = sign_injective r q signs in
    let lower = decimal_injective b d v.1 w.1 tails in
    cc

-- a line has one form at most
pub render_injective : (f g : Line) → Valid f → Valid g → render f ≡ render g → f ≡ g
render_injective (word_line v) (word_line w) a b e =
    let same : spelling_text v ≡ spelling_text w = cc in
    ap word_line (spelling_injective v w same)
render_injective (word_line v) (production_line l ss p) a b e = absurd (omega (arith, ap (λ t. get_or t 0 0) e, production_first l ss p))
render_injective (word_line v) (rule_line u r d) a b e = absurd (omega (arith, ap (λ t. get_or t 0 0) e, rule_first u r d b.0))
render_injective (production_line l ss p) (word_line w) a b e = absurd (omega (arith, ap (λ t. get_or t 0 0) e, production_first l ss p))
render_injective (production_line l ss p) (production_line m ts q) a b e =
    let whole = sym (render_production l ss p) ∙ e ∙ render_production m ts q in
    let lefts : l ≡ m = omega (arith, ap (λ t. get_or t 0 0) whole) in
    let tails : spaced (right_parts ss p) ≡ spaced (right_parts ts q) = cc in
    let right = right_injective ss ts p q a.1 b.1 a.2 b.2 tails in
    cc
render_injective (production_line l ss p) (rule_line u r d) a b e =
    absurd (omega (arith, ap (λ t. get_or t 0 0) e, production_first l ss p, rule_first u r d b.0))
render_injective (rule_line u r d) (word_line w) a b e = absurd (omega (arith, ap (λ t. get_or t 0 0) e, rule_first u r d a.0))
render_injective (rule_line u r d) (production_line l ss p) a b e =
    absurd (omega (arith, ap (λ t. get_or t 0 0) e, production_first l ss p, rule_first u r d a.0))
render_injective (rule_line u r d) (rule_line x q y) a b e = rule_injective u d x y r q a b e

-- how long a line is at most

pub spelling_length : (w : Spelling) → ValidSpelling w → length (spelling_text w) ≤ 10
spelling_length (literal bs) v = omega (arith, v.1, length-append bs (34 ∷ []))
spelling_length name v = omega arith
spelling_length num v = omega arith

pub symbol_length : (s : Symbol) → ValidSymbol s → length (symbol_text s) ≤ 10
symbol_length (nonterminal s) v = omega arith
symbol_length (spelled w) v = spelling_length w v

pub right_length : (ss : List Symbol) (price : ℕ) → ValidSymbols ss → price ≤ 65535 → length (spaced (right_parts ss price)) ≤ 11 * length ss + 7
right_length [] price v h = omega (arith, (decimal_shape price h).short)
right_length (s ∷ ss) price v h =
    let n = length-append (symbol_text s) (32 ∷ spaced (right_parts ss price)) in
    omega (arith, ap length (right_cons s ss price), n, symbol_length s v.0, right_length ss price v.1 h)

pub word_length : (w : Spelling) → ValidSpelling w → length (render (word_line w)) ≤ 15
word_length w v = omega (arith, spelling_length w v)

pub production_length :
    (left : ℕ) (ss : List Symbol) (price : ℕ) →
    Valid (production_line left ss price) →
    length (render (production_line left ss price)) ≤ 4 + 11 * length ss + 7
production_length left ss price v = omega (arith, ap length (render_production left ss price), right_length ss price v.1 v.2)

pub rule_length : (upper : ℕ) (r : Relation) (lower : ℕ) → upper ≤ 99 → lower ≤ 99 → length (render (rule_line upper r lower)) ≤ 7
rule_length upper r lower h k =
    let a = length-decimal-le 2 upper (omega arith) (omega arith) (omega arith) in
    let b = length-decimal-le 2 lower (omega arith) (omega arith) (omega arith) in
    omega (arith, length-append (decimal upper) (32 ∷ sign r ∷ 32 ∷ decimal lower))
