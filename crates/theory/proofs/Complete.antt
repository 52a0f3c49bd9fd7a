-- Every beginning of a conflict-free tree that stands in the words has its item.
use Rattle.std.proofs.Common.{◌≡◌, ℕ, suc, ◌+◌, List, [], ◌∷◌, ◌++◌, length, sym, ap, ◌∙◌, subst, inl, inr, append_assoc, append-nil, arith, length-append}
use Rattle.grammar.specs.Grammar.{Grammar}
use Rattle.grammar.specs.Trees.{Forest, words_of, Covers, covers_none, covers_leaf, covers_tree}
use Rattle.grammar.specs.Items.{Item, predict, scan, complete}
use Rattle.theory.specs.Claims.{Awaited}
use Rattle.theory.proofs.Lists.{at_split, append_split, one_split}
use Rattle.theory.proofs.Extending.{covers_live}

-- where p is predicted behind the words pre, a way through its first k symbols whose words stand there has its item
pub covers_item :
    {g : Grammar} {p k : ℕ} {f : Forest} →
    Covers g p k f →
    (ws pre post : List ℕ) →
    ws ≡ pre ++ (words_of f ++ post) →
    Item g ws p 0 (length pre) (length pre) →
    Item g ws p k (length pre) (length (pre ++ words_of f))
covers_item covers_none ws pre post e from = rw append-nil from
covers_item {g} (covers_leaf {p = p} {k = k} {a = a} {f = f} c at kind) ws pre post e from =
    let before = covers_item c ws pre (a ∷ post) (e ∙ simp append_assoc) from in
    let here = at_split ws (pre ++ words_of f) a post (e ∙ simp append_assoc) in
    let ends : suc (length (pre ++ words_of f)) ≡ length (pre ++ (words_of f ++ (a ∷ []))) = simp length-append (omega arith) in
    subst (λ n. Item g ws p (suc k) (length pre) n) ends (scan before at kind here)
covers_item {g} (covers_tree {p = p} {k = k} {f = f} {h = h} c at low ok known below) ws pre post e from =
    let before = covers_item c ws pre (words_of h ++ post) (e ∙ simp append_assoc) from in
    let start = predict before at low ok (covers_live known below) in
    let child = covers_item below ws (pre ++ words_of f) post (e ∙ simp append_assoc) start in
    subst (λ l. Item g ws p (suc k) (length pre) (length l)) (append_assoc pre (words_of f) (words_of h)) (complete before child at low ok)

-- where p is predicted behind the words pre, and the words of such a way go on past the end, their next kind is awaited
pub covers_awaits :
    {g : Grammar} {p k : ℕ} {f : Forest} →
    Covers g p k f →
    (ws pre us : List ℕ) (a : ℕ) (rest : List ℕ) →
    ws ≡ pre ++ us →
    words_of f ≡ us ++ (a ∷ rest) →
    Item g ws p 0 (length pre) (length pre) →
    Awaited g ws a
covers_awaits covers_none ws pre us a rest e is from = let l : 0 ≡ length us + suc (length rest) = ap length is ∙ length-append us (a ∷ rest) in absurd (omega arith)
covers_awaits {g} (covers_leaf {p = p} {k = k} {a = x} {f = f} c at kind) ws pre us a rest e is from =
    elim (append_split (words_of f) (x ∷ []) us a rest is) [
      | inl h ↦ covers_awaits c ws pre us a h.0 e h.1 from
      | inr h ↦
          let alone = one_split x h.0 a rest h.2 in
          let us_is : us ≡ words_of f = h.1 ∙ rw alone.0 (append-nil (words_of f)) in
          let all : ws ≡ pre ++ words_of f = e ∙ rw us_is in
          let before = covers_item c ws pre [] (all ∙ rw append-nil) from in
          (p, k, length pre, subst (λ l. Item g ws p k (length pre) (length l)) (sym all) before, (at.0, at.1 ∙ alone.1))
    ]
covers_awaits (covers_tree {f = f} {h = below} c at low ok known cb) ws pre us a rest e is from =
    elim (append_split (words_of f) (words_of below) us a rest is) [
      | inl h ↦ covers_awaits c ws pre us a h.0 e h.1 from
      | inr h ↦
          let m = h.0 in
          let before = covers_item c ws pre m (e ∙ rw h.1) from in
          let start = predict before at low ok (covers_live known cb) in
          covers_awaits cb ws (pre ++ words_of f) m a rest (e ∙ rw h.1 (sym (append_assoc pre (words_of f) m))) h.2 start
    ]
