-- What an item says: its first symbols span the words from its origin to its end, and all its children go on to a tree of the grammar.
use Rattle.std.proofs.Common.{◌≡◌, ℕ, suc, ◌≤◌, List, [], ◌∷◌, ◌++◌, length, take, sym, refl, ◌∙◌, append_assoc, append-nil, arith}
use Rattle.grammar.specs.Grammar.{Grammar, size_of}
use Rattle.grammar.specs.Trees.{Tree, node, Forest, bare, with_leaf, with_tree, words, words_of, Covers, covers_none, covers_leaf, covers_tree, Whole, free_node}
use Rattle.grammar.specs.Items.{Live, Item, init, predict, scan, complete}
use Rattle.theory.specs.Claims.{Spans}
use Rattle.theory.proofs.Lists.{take_at}
use Rattle.theory.proofs.Extending.{live_known, live_extends}

-- the production of an item is live
pub item_live : {g : Grammar} {ws : List ℕ} {p k i j : ℕ} → Item g ws p k i j → Live g p
item_live (init alive is) = alive
item_live (predict up at low ok alive) = alive
item_live (scan before at kind here) = item_live before
item_live (complete before child at low ok) = item_live before

-- the ranges of an item's numbers
pub record InRange (g : Grammar) (n p k i j : ℕ) : Type 0 where
  pub dots : k ≤ size_of g p
  pub origins : i ≤ n
  pub ends : j ≤ n

pub item_range : {g : Grammar} {ws : List ℕ} {p k i j : ℕ} → Item g ws p k i j → InRange g (length ws) p k i j
item_range (init alive is) = record { dots = omega arith; origins = omega arith; ends = omega arith }
item_range (predict up at low ok alive) = let r = item_range up in record { dots = omega arith; origins = r.ends; ends = r.ends }
item_range (scan before at kind here) = let r = item_range before in record { dots = at.0; origins = r.origins; ends = here.0 }
item_range (complete before child at low ok) = let r = item_range before in let c = item_range child in record { dots = at.0; origins = r.origins; ends = c.ends }

-- the production of an item is predicted at its origin
pub item_predicted : {g : Grammar} {ws : List ℕ} {p k i j : ℕ} → Item g ws p k i j → Item g ws p 0 i i
item_predicted (init alive is) = init alive is
item_predicted (predict up at low ok alive) = predict up at low ok alive
item_predicted (scan before at kind here) = item_predicted before
item_predicted (complete before child at low ok) = item_predicted before

-- the first k symbols of an item span its words
pub item_spans : {g : Grammar} {ws : List ℕ} {p k i j : ℕ} → Item g ws p k i j → Spans g ws p k i j
item_spans (init alive is) = (bare, covers_none, omega arith, refl)
item_spans {ws = ws} (predict {i = i} up at low ok alive) = (bare, covers_none, (item_range up).ends, sym (append-nil (take i ws)))
item_spans {ws = ws} (scan {h = h} {i = i} {a = a} before at kind here) =
    let s = item_spans before in
    (with_leaf s.0 a, covers_leaf s.1 at kind, here.0, take_at ws i a here ∙ rw s.3 (append_assoc (take h ws) (words_of s.0) (a ∷ [])))
item_spans {ws = ws} (complete {h = h} {q = q} before child at low ok) =
    let s = item_spans before in
    let t = item_spans child in (
      with_tree s.0 (node q t.0),
      covers_tree s.1 at low ok (live_known (item_live child)) t.1,
      t.2,
      t.3 ∙ rw s.3 (append_assoc (take h ws) (words_of s.0) (words_of t.0)),
    )

-- all the children of p, behind the first i words, go on to a tree of the grammar
abbrev pub Context : Grammar → List ℕ → ℕ → ℕ → Type 0
Context g ws p i =
    (f : Forest) → Covers g p (size_of g p) f → (t : Tree) × (more : List ℕ) × Whole g t × (words t ≡ take i ws ++ (words_of f ++ more))

pub item_context : {g : Grammar} {ws : List ℕ} {p k i j : ℕ} → Item g ws p k i j → Context g ws p i
item_context (init {p = p} alive is) f c =
    (node p f, [], record { top = p; is_free = free_node (live_known alive) c; starts = is }, sym (append-nil (words_of f)))
item_context {g} {ws} (predict {p = p} {k = k} {q = q} up at low ok alive) below c =
    let s = item_spans up in
    let f = with_tree s.0 (node q below) in
    let cf = covers_tree s.1 at low ok (live_known alive) c in
    let all = live_extends g p (suc k) (item_live up) at.0 f cf in
    let t = item_context up all.0 all.2 in
    (t.0, all.1 ++ t.1, t.2, t.3 ∙ rw (all.3, s.3) (simp append_assoc))
item_context (scan before at kind here) f c = item_context before f c
item_context (complete before child at low ok) f c = item_context before f c
