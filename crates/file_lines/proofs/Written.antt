-- The bytes of a grammar file, written one after the other. Assumes nothing.
use Rattle.std.proofs.Common.{◌≡◌, ℕ, ◌+◌, ◌-◌, ◌<◌, List, [], ◌∷◌, ◌++◌, map, length, get_or, take, drop, IsErrAnd, Ok, Err, decimal, Result, sym, refl, ap, ◌∙◌, arith}
use Rattle.std.specs.List.{flat_map}
use Rattle.std.proofs.lemmas.List.{append_assoc, map-append, map_more, flat_map_more, take-append-drop}
use Rattle.grammar.specs.declared.rule.Rule.{Rule as Numbered}
use Rattle.grammar.specs.declared.refusals.FileRefusal.{FileRefusal}
use Rattle.grammar.specs.Model.{rule}
use Rattle.syntax.specs.Syntax.{Line, rule_line, letter, sign, render, mark_line, start_line}
use Rattle.syntax.specs.declared.text.TextWriter.{TextWriter}
use Rattle.syntax.specs.Writing.{Writes}
use Rattle.syntax.proofs.Lines.{mark_bytes}
use Rattle.syntax.proofs.Writes.{overlaid_none, writes_on, writes_exit}
use Rattle.file_model.specs.Files.{rule_form, ended}

-- no bytes
pub writes_none : (w : TextWriter) → Writes w [] (Ok tt) w
writes_none w = (record { lent = refl; text = sym (overlaid_none w.out.now w.end) }, omega arith)

pub joined_append : {X A : Type 0} (f : X → List A) (xs ys : List X) → flat_map f (xs ++ ys) ≡ flat_map f xs ++ flat_map f ys
joined_append f [] ys = refl
joined_append f (x ∷ xs) ys = ap (λ t. f x ++ t) (joined_append f xs ys) ∙ sym (append_assoc (f x) (flat_map f xs) (flat_map f ys))

-- a loop that writes the bytes f (g x) of each x of a list
module _ {X Y : Type 0} (g : X → Y) (f : Y → List ℕ) (xs : List X) (w : TextWriter) where
  -- what is written after the turns before i
  abbrev pub WrittenTo : ℕ → Result (Unit {0}) FileRefusal → TextWriter → Type 0
  WrittenTo i a v = Writes w (flat_map f (map g (take i xs))) a v

  -- the next turn
  pub turned :
      (u v : TextWriter) (i : ℕ) (d x : X) (a : Result (Unit {0}) FileRefusal) →
      i < length xs →
      x ≡ get_or xs i d →
      WrittenTo i (Ok tt) u →
      Writes u (f (g x)) a v →
      WrittenTo (i + 1) a v
  turned u v i d x a l e h k =
      writes_on w u v (flat_map f (map g (take i xs))) (f (g x)) _ a
      (ap (flat_map f) (map_more g xs i d l)
      ∙ sym (flat_map_more f [] (map g (take i xs)) (g (get_or xs i d)))
      ∙ ap (λ (y : X). flat_map f (map g (take i xs)) ++ f (g y)) (sym e))
      h
      k

  -- the bytes of the first i, then those of the others
  front_first : (i : ℕ) → flat_map f (map g xs) ≡ flat_map f (map g (take i xs)) ++ flat_map f (map g (drop i xs))
  front_first i =
      ap (λ (t : List X). flat_map f (map g t)) (sym (take-append-drop i xs))
      ∙ ap (flat_map f) (map-append g (take i xs) (drop i xs))
      ∙ joined_append f (map g (take i xs)) (map g (drop i xs))

  -- the exit of a `?` in a turn
  pub stopped :
      (a : Result (Unit {0}) FileRefusal) (k : FileRefusal) →
      IsErrAnd a (λ y. y ≡ k) →
      (u v : TextWriter) (i : ℕ) (d x : X) →
      i < length xs →
      x ≡ get_or xs i d →
      WrittenTo i (Ok tt) u →
      Writes u (f (g x)) (Err k) v →
      Writes w (flat_map f (map g xs)) a v
  stopped a k h u v i d x l e p q =
      writes_exit a k h w v (flat_map f (map g (take (i + 1) xs))) (flat_map f (map g (drop (i + 1) xs))) _ (front_first (i + 1))
      (turned u v i d x (Err k) l e p q)

-- a form's line, with its end
abbrev pub line : Line → List ℕ
line form = ended (render form)

-- the first two lines
pub head_bytes :
    (s : ℕ) →
    ended mark_line ++ ended (start_line s)
    ≡ (82 ∷ 66 ∷ 75 ∷ 32 ∷ 49 ∷ 10 ∷ 115 ∷ 116 ∷ 97 ∷ 114 ∷ 116 ∷ 32 ∷ []) ++ (letter s ++ 10 ∷ [])
head_bytes s = ap (λ (t : List ℕ). ended t ++ ended (start_line s)) mark_bytes

-- a rule's line, of its numbers, which count from 1
pub rule_bytes :
    (x : Numbered) (upper lower : ℕ) →
    upper ≡ x.upper →
    lower ≡ x.lower →
    0 < x.upper →
    0 < x.lower →
    ended (render (rule_form (rule x))) ≡ decimal upper ++ ((32 ∷ sign x.relation ∷ 32 ∷ []) ++ ended (decimal lower))
rule_bytes x upper lower e f h l =
    ap (λ (n : ℕ). ended (render (rule_line n x.relation (x.lower - 1 + 1)))) (omega arith)
    ∙ ap (λ (n : ℕ). ended (render (rule_line upper x.relation n))) (omega arith)
    ∙ append_assoc (decimal upper) (32 ∷ sign x.relation ∷ 32 ∷ decimal lower) (10 ∷ [])
