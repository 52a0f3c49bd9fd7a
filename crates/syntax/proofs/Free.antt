-- Which bytes stand in the parts of a line and in a whole line.
use Rattle.std.proofs.Common.{ℕ, ◌+◌, ◌<◌, ◌≤◌, List, [], ◌∷◌, ◌++◌, length, codes, decimal, All, arith}
use Rattle.std.proofs.lemmas.List.Elements.{All-get_or, All-from_get_or, All-nil, All-cons, All-head, All-tail, All-append, All-weaker, All-from_recursion}
use Rattle.std.proofs.lemmas.Str.Parse.{digit_at}
use Rattle.grammar.specs.declared.rule.Relation.{Relation}
use Rattle.grammar.specs.declared.rule.Relation.TheVariants.{Priority, Left, Right, NonAssoc}
use Rattle.syntax.specs.Syntax.{Spelling, literal, name, num, Symbol, nonterminal, spelled, Line, word_line, production_line, rule_line, ValidSpelling, ValidSymbol, ValidSymbols, Valid, letter, spelling_text, symbol_text, sign, spaced, right_parts, parts, render, mark_line, start_line}
use Rattle.syntax.specs.Free.{FreeOf}
use Rattle.syntax.proofs.Numbers.{decimal_shape}

-- every byte of the text is n or more
abbrev pub From : ℕ → List ℕ → Type 0
From n bs = All (λ b. n ≤ b) bs

-- the same of a byte and of more bytes
pub from_cons : (n b : ℕ) (bs : List ℕ) → n ≤ b → From n bs → From n (b ∷ bs)
from_cons n b bs h f = All-cons (λ c. n ≤ c) b bs h f

pub from_one : (n b : ℕ) → n ≤ b → From n (b ∷ [])
from_one n b h = from_cons n b [] h (All-nil (λ c. n ≤ c))

-- a byte below all of the text's does not stand in it
pub free_below : (b n : ℕ) (bs : List ℕ) → b < n → From n bs → FreeOf b bs
free_below b n bs h f k l e = omega (arith, All-get_or (λ c. n ≤ c) bs k 0 l f)

-- parts have no byte below 33

pub from_sign : (r : Relation) → From 33 (sign r ∷ [])
from_sign Priority = from_one 33 _ (omega arith)
from_sign Left = from_one 33 _ (omega arith)
from_sign Right = from_one 33 _ (omega arith)
from_sign NonAssoc = from_one 33 _ (omega arith)

pub from_decimal : (n : ℕ) → n ≤ 65535 → From 33 (decimal n)
from_decimal n h = All-from_get_or (λ b. 33 ≤ b) (decimal n) 0 (λ k l. omega (arith, (digit_at (decimal n) k (decimal_shape n h).digits l).0))

pub from_spelling : (w : Spelling) → ValidSpelling w → From 33 (spelling_text w)
from_spelling (literal bs) v =
    from_cons 33 34 (bs ++ 34 ∷ []) (omega arith)
    (All-append (λ b. 33 ≤ b) bs (34 ∷ []) (All-from_get_or (λ b. 33 ≤ b) bs 0 (λ k l. (v.2 k l).0)) (from_one 33 34 (omega arith)))
from_spelling name v = All-from_recursion (λ b. 33 ≤ b) (codes "NAME") (omega arith, (omega arith, (omega arith, (omega arith, tt))))
from_spelling num v = All-from_recursion (λ b. 33 ≤ b) (codes "NUM") (omega arith, (omega arith, (omega arith, tt)))

-- a part: not empty, and with no byte below 33
abbrev pub Part : List ℕ → Type 0
Part p = (1 ≤ length p) × From 33 p

byte_part : (b : ℕ) → 33 ≤ b → Part (b ∷ [])
byte_part b h = (omega arith, from_one 33 b h)

pub letter_part : (s : ℕ) → Part (letter s)
letter_part s = byte_part (65 + s) (omega arith)

pub spelling_part : (w : Spelling) → ValidSpelling w → Part (spelling_text w)
spelling_part (literal bs) v = (omega arith, from_spelling (literal bs) v)
spelling_part name v = (omega arith, from_spelling name v)
spelling_part num v = (omega arith, from_spelling num v)

pub symbol_part : (s : Symbol) → ValidSymbol s → Part (symbol_text s)
symbol_part (nonterminal s) v = letter_part s
symbol_part (spelled w) v = spelling_part w v

pub decimal_part : (n : ℕ) → n ≤ 65535 → Part (decimal n)
decimal_part n h = ((decimal_shape n h).some, from_decimal n h)

right_are_parts : (ss : List Symbol) (price : ℕ) → ValidSymbols ss → price ≤ 65535 → All Part (right_parts ss price)
right_are_parts [] price v h = All-from_recursion Part (right_parts [] price) (byte_part 59 (omega arith), (decimal_part price h, tt))
right_are_parts (s ∷ ss) price v h = All-cons Part (symbol_text s) (right_parts ss price) (symbol_part s v.0) (right_are_parts ss price v.1 h)

word_part : Part (codes "word")
word_part =
    (omega arith, All-from_recursion (λ b. 33 ≤ b) (codes "word") (omega arith, (omega arith, (omega arith, (omega arith, tt)))))

-- each part of a valid line is a part
pub are_parts : (form : Line) → Valid form → All Part (parts form)
are_parts (word_line w) v = All-from_recursion Part (parts (word_line w)) (word_part, (spelling_part w v, tt))
are_parts (production_line left ss price) v =
    All-cons Part (letter left) ((61 ∷ []) ∷ right_parts ss price) (letter_part left)
    (All-cons Part (61 ∷ []) (right_parts ss price) (byte_part 61 (omega arith)) (right_are_parts ss price v.1 v.2))
are_parts (rule_line upper r lower) v =
    All-from_recursion Part (parts (rule_line upper r lower)) (decimal_part upper v.0, ((omega arith, from_sign r), (decimal_part lower v.1, tt)))

-- a part has no space
pub part_no_space : (p : List ℕ) → Part p → FreeOf 32 p
part_no_space p h = free_below 32 33 p (omega arith) h.1

-- no part of a valid line is empty or has a space
pub parts_no_space : (form : Line) → Valid form → All (λ p. (1 ≤ length p) × FreeOf 32 p) (parts form)
parts_no_space form v = All-weaker Part (λ p. (1 ≤ length p) × FreeOf 32 p) (λ p h. (h.0, part_no_space p h)) (parts form) (are_parts form v)

wider : (bs : List ℕ) → From 33 bs → From 32 bs
wider bs f = All-weaker (λ b. 33 ≤ b) (λ b. 32 ≤ b) (λ b h. omega arith) bs f

from_spaced : (ps : List (List ℕ)) → All Part ps → From 32 (spaced ps)
from_spaced [] v = All-nil (λ b. 32 ≤ b)
from_spaced (p ∷ []) v = wider p (All-head Part p [] v).1
from_spaced (p ∷ q ∷ ps) v =
    All-append (λ b. 32 ≤ b) p (32 ∷ spaced (q ∷ ps)) (wider p (All-head Part p (q ∷ ps) v).1)
    (from_cons 32 32 (spaced (q ∷ ps)) (omega arith) (from_spaced (q ∷ ps) (All-tail Part p (q ∷ ps) v)))

no_feed : (ps : List (List ℕ)) → All Part ps → FreeOf 10 (spaced ps)
no_feed ps v = free_below 10 32 (spaced ps) (omega arith) (from_spaced ps v)

-- no line has a line feed
pub render_no_feed : (form : Line) → Valid form → FreeOf 10 (render form)
render_no_feed form v = no_feed (parts form) (are_parts form v)

mark_part : Part (codes "RBK")
mark_part = (omega arith, All-from_recursion (λ b. 33 ≤ b) (codes "RBK") (omega arith, (omega arith, (omega arith, tt))))

pub mark_no_feed : FreeOf 10 mark_line
mark_no_feed =
    let ps = codes "RBK" ∷ decimal 1 ∷ [] in
    no_feed ps (All-from_recursion Part ps (mark_part, (decimal_part 1 (omega arith), tt)))

start_part : Part (codes "start")
start_part =
    (omega arith, All-from_recursion (λ b. 33 ≤ b) (codes "start") (omega arith, (omega arith, (omega arith, (omega arith, (omega arith, tt))))))

pub start_no_feed : (s : ℕ) → FreeOf 10 (start_line s)
start_no_feed s =
    let ps = codes "start" ∷ letter s ∷ [] in
    no_feed ps (All-from_recursion Part ps (start_part, (letter_part s, tt)))
