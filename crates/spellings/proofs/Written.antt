-- Symbols and productions as they are written. Assumes nothing.
use Rattle.std.proofs.Common.{◌≡◌, ℕ, ◌+◌, ◌-◌, ◌<◌, ◌≤◌, ltb, List, [], ◌∷◌, ◌++◌, map, length, get_or, decimal, ap, ◌∙◌, arith}
use native.Mathlib.Decide.{dec_lt}
use Rattle.std.proofs.lemmas.Bool.{cond-true, cond-false, lt-ltb, le-ltb}
use Rattle.std.proofs.lemmas.List.{append_assoc}
use Rattle.grammar.specs.Grammar.{Production}
use Rattle.syntax.specs.Syntax.{Spelling, name, Symbol, nonterminal, spelled, production_line, spaced, right_parts, symbol_text, letter, render}
use Rattle.syntax.specs.Model.{spelling}
use Rattle.syntax.proofs.Lines.{right_cons, right_nil, render_production}
use Rattle.draft.proofs.Tables.{counted}
use Rattle.file_model.specs.Spelled.{written}
use Rattle.file_model.specs.Files.{production_form, ended}
use Rattle.spellings.specs.declared.spellings.Spellings.{Spellings}
use Rattle.spellings.specs.Model.{words}
use Rattle.spellings.specs.Writing.{symbol_parts}

-- a production's right side: its symbols, then the price
pub right_bytes : (ss : List Symbol) (price : ℕ) → spaced (right_parts ss price) ≡ symbol_parts ss ++ (59 ∷ 32 ∷ decimal price)
right_bytes [] price = right_nil price
right_bytes (s ∷ ss) price =
    right_cons s ss price
    ∙ ap (λ t. symbol_text s ++ 32 ∷ t) (right_bytes ss price)
    ∙ simp append_assoc

line_bytes :
    (left : ℕ) (ss : List Symbol) (price : ℕ) →
    ended (render (production_line left ss price))
    ≡ (letter left ++ 32 ∷ 61 ∷ 32 ∷ []) ++ (symbol_parts ss ++ (59 ∷ 32 ∷ ended (decimal price)))
line_bytes left ss price =
    ap ended (render_production left ss price)
    ∙ ap (λ t. (65 + left) ∷ 32 ∷ 61 ∷ 32 ∷ ended t) (right_bytes ss price)
    ∙ ap (λ t. (65 + left) ∷ 32 ∷ 61 ∷ 32 ∷ t) (append_assoc (symbol_parts ss) (59 ∷ 32 ∷ decimal price) (10 ∷ []))

-- a production's line, of its parts
pub production_bytes :
    (ws : List Spelling) (p : Production) (left price : ℕ) (right : List ℕ) →
    left ≡ p.left →
    right ≡ p.right →
    price ≡ p.price →
    ended (render (production_form ws p))
    ≡ (letter left ++ 32 ∷ 61 ∷ 32 ∷ []) ++ (symbol_parts (map (written ws) right) ++ (59 ∷ 32 ∷ ended (decimal price)))
production_bytes ws p left price right e f g = rw (e, f, g) (line_bytes p.left (map (written ws) p.right) p.price)

-- how a nonterminal and a kind are written
pub written_nonterminal : (ws : List Spelling) (x : ℕ) → x < 16 → written ws x ≡ nonterminal x
written_nonterminal ws x h = cond-true (ltb x 16) (nonterminal x) (spelled (get_or ws (x - 16) name)) (lt-ltb x 16 h)

pub written_kind : (ws : List Spelling) (x k : ℕ) → x ≡ 16 + k → written ws x ≡ spelled (get_or ws k name)
written_kind ws x k e =
    cond-false (ltb x 16) (nonterminal x) (spelled (get_or ws (x - 16) name)) (le-ltb x 16 (omega arith)) ∙ ap (λ (i : ℕ). spelled (get_or ws i name)) (omega arith)

-- a symbol that is no kind among n
pub no_kind : (x n : ℕ) → x < 16 + n → ((k : ℕ) → x ≡ 16 + k → n ≤ k) → x < 16
no_kind x n h none = elim (dec_lt x 16) [ yes l ↦ l | no l ↦ omega (arith, none (x - 16) (omega arith)) ]

-- there are at most 32 spellings
pub few_words : (s : Spellings) → length (words s) ≤ 32
few_words s = let h = counted spelling s.words s.count (omega arith) in omega arith
