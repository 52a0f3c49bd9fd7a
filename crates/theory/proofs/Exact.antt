-- Items say exactly what conflict-free trees do.
use Rattle.std.proofs.Common.{◌≡◌, ℕ, suc, List, [], ◌∷◌, ◌++◌, length, take, drop, sym, refl, ap, ◌∙◌, subst, append_assoc, append-nil, arith, take-append-drop, take_all}
use Rattle.std.proofs.lemmas.List.{length-take-le}
use Rattle.grammar.specs.Grammar.{Grammar, Kind, left_of}
use Rattle.grammar.specs.Trees.{Tree, node, with_leaf, words, words_of, covers_leaf, Free, free_node}
use Rattle.grammar.specs.Items.{Item, init}
use Rattle.theory.specs.Claims.{Accepted, Sentence, Sentences, Awaited, Viable, ViableKinds, Spans, ItemsExact}
use Rattle.theory.proofs.Extending.{live_extends, covers_live, live_known}
use Rattle.theory.proofs.Sound.{item_live, item_range, item_predicted, item_spans, item_context}
use Rattle.theory.proofs.Complete.{covers_item, covers_awaits}

-- ---- sentences

accepted_sentence : (g : Grammar) (ws : List ℕ) → Accepted g ws → Sentence g ws
accepted_sentence g ws h =
    let p = h.0 in
    let s = item_spans h.1 in
    (node p s.0, record { top = p; is_free = free_node (live_known (item_live h.1)) s.1; starts = h.2 }, sym s.3 ∙ take_all (length ws) ws (omega arith))

free_accepted : {g : Grammar} {ws : List ℕ} {q : ℕ} {t : Tree} → Free g q t → left_of g q ≡ g.start → words t ≡ ws → Accepted g ws
free_accepted {g} {ws} (free_node {q = q} {f = f} known c) is e =
    let item = covers_item c ws [] [] (sym e ∙ sym (append-nil (words_of f))) (init (covers_live known c) is) in
    (q, rw e at item, is)

pub sentences : Sentences
sentences g ws = (accepted_sentence g ws, λ h. free_accepted h.1.is_free h.1.starts h.2)

-- ---- viable kinds

regroup : (t pre h f r m ws : List ℕ) (a : ℕ) → t ≡ pre ++ (h ++ m) → h ≡ (f ++ (a ∷ [])) ++ r → ws ≡ pre ++ f → t ≡ ws ++ (a ∷ (r ++ m))
regroup t pre h f r m ws a e₁ e₂ e₃ = e₁ ∙ rw (e₂, e₃) (simp append_assoc)

awaited_viable : (g : Grammar) (ws : List ℕ) (a : ℕ) → Kind a → Awaited g ws a → Viable g ws a
awaited_viable g ws a kind h =
    let p = h.0 in
    let k = h.1 in
    let item = h.3 in
    let at = h.4 in
    let s = item_spans item in
    let all = live_extends g p (suc k) (item_live item) at.0 (with_leaf s.0 a) (covers_leaf s.1 at kind) in
    let t = item_context item all.0 all.2 in
    let n : take (length ws) ws ≡ ws = take_all (length ws) ws (omega arith) in (
      t.0,
      all.1 ++ t.1,
      t.2,
      regroup (words t.0) (take h.2 ws) (words_of all.0) (words_of s.0) all.1 t.1 ws a t.3 all.3 (sym n ∙ s.3),
    )

free_awaits :
    {g : Grammar} {ws : List ℕ} {q : ℕ} {t : Tree} (a : ℕ) (rest : List ℕ) →
    Free g q t →
    left_of g q ≡ g.start →
    words t ≡ ws ++ (a ∷ rest) →
    Awaited g ws a
free_awaits {ws = ws} a rest (free_node known c) is e = covers_awaits c ws [] ws a rest refl e (init (covers_live known c) is)

pub viable_kinds : ViableKinds
viable_kinds g ws a kind = (awaited_viable g ws a kind, λ h. free_awaits a h.1 h.2.is_free h.2.starts h.3)

-- ---- items

-- where p is predicted at i, a span from i to j has its item
pub spans_item : {g : Grammar} {ws : List ℕ} {p k i j : ℕ} → Item g ws p 0 i i → Spans g ws p k i j → Item g ws p k i j
spans_item {g} {ws} {p} {k} {i} {j} from s =
    let li : length (take i ws) ≡ i = length-take-le i ws (item_range from).origins in
    let lj : length (take i ws ++ words_of s.0) ≡ j = ap length (sym s.3) ∙ length-take-le j ws s.2 in
    let split : ws ≡ take i ws ++ (words_of s.0 ++ drop j ws) =
    sym (take-append-drop j ws) ∙ ap (λ l. l ++ drop j ws) s.3 ∙ append_assoc (take i ws) (words_of s.0) (drop j ws) in
    let item = covers_item s.1 ws (take i ws) (drop j ws) split (subst (λ n. Item g ws p 0 n n) (sym li) from) in
    subst (λ n. Item g ws p k i n) lj (subst (λ n. Item g ws p k n (length (take i ws ++ words_of s.0))) li item)

pub items_exact : ItemsExact
items_exact g ws p k i j = (λ h. (item_predicted h, item_spans h), λ h. spans_item h.0 h.1)
