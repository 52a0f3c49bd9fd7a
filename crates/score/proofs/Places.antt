-- The places and the entries of an input.
use Rattle.std.proofs.Common.{◌≡◌, ℕ, ◌+◌, ◌<◌, ◌≤◌, List, length, get_or, sym, ap, ◌∙◌, arith}
use Rattle.std.proofs.lemmas.List.{get_or-map}
use Rattle.grammar.specs.declared.production.Production.{Production as Stored}
use Rattle.grammar.specs.Grammar.{Production, no_production, production_at, right_at, places}
use Rattle.grammar.specs.Model.{production, productions}
use Rattle.tables.proofs.Counting.{last_low, place_unique, stored_at}
use Rattle.score.specs.Inputs.{productions_in, words_in, Inside, HasEntry, place_in, index_in, entries_in}
use Rattle.score.specs.declared.input.Input.{Input}
use Rattle.score.specs.declared.entry.Entry.{Entry}
use Rattle.score.proofs.Indices.{entry_low, entry_unique}

module _ (x : Input) where
  pub place_low : (p k : ℕ) → p < length (productions_in x) → k ≤ length (right_at (productions_in x) p) → place_in x p k < places (productions_in x)
  place_low p k kp lk = let a = last_low (productions_in x) p kp in omega arith

  -- every entry lies in the table
  pub index_low : (p k i j : ℕ) → Inside x p k i j → index_in x p k i j < entries_in x
  index_low p k i j h =
      entry_low (length (words_in x)) (places (productions_in x)) (place_in x p k) i j (place_low p k h.0 h.1) h.2 h.3

  pub index_below :
      (e : Entry) → HasEntry x e → (k size : ℕ) → k ≡ index_in x e.production e.dot e.span.start e.span.end → entries_in x ≤ size → k < size
  index_below e h k size is room = let a = index_low e.production e.dot e.span.start e.span.end h in omega arith

  -- no two are one
  pub index_unique :
      (p k i j q l m n : ℕ) → Inside x p k i j → Inside x q l m n → index_in x p k i j ≡ index_in x q l m n →
      (p ≡ q) × (k ≡ l) × (i ≡ m) × (j ≡ n)
  index_unique p k i j q l m n h t e =
      let u = entry_unique (length (words_in x)) (place_in x p k) i j (place_in x q l) m n h.2 h.3 t.2 t.3 e in
      let v = place_unique (productions_in x) p k q l h.0 h.1 t.0 t.1 u.0 in
      (v.0, v.1, u.1, u.2)

-- what the methods of a stored production answer
module _ (ps : List Stored) (q : ℕ) (d : Stored) (l : q < length (productions ps)) where
  read_at : production (get_or ps q d) ≡ production_at (productions ps) q
  read_at = sym (get_or-map production ps q d no_production (stored_at ps q l))

  pub read_right : (v : List ℕ) → v ≡ (production (get_or ps q d)).right → v ≡ right_at (productions ps) q
  read_right v e = e ∙ ap (λ (p : Production). p.right) read_at

  pub read_places : (v : ℕ) → v ≡ length (production (get_or ps q d)).right + 1 → v ≡ length (right_at (productions ps) q) + 1
  read_places v e = e ∙ ap (λ (p : Production). length p.right + 1) read_at
