-- Ways for the symbols from a position on, and trees.
use Rattle.std.proofs.Common.{◌≡◌, ℕ, suc, ◌+◌, ◌≤◌, List, [], ◌∷◌, ◌++◌, length, take, drop, sym, refl, ap, ◌∙◌, subst, append_assoc, append-nil, add-zero, arith, length-append}
use Rattle.std.proofs.lemmas.List.{take-append-drop, length-take-le}
use Rattle.listing_theory.specs.declared.record.Record.{Record}
use Rattle.grammar.specs.Grammar.{Grammar, At, size_of}
use Rattle.grammar.specs.Trees.{node, Forest, bare, with_leaf, with_tree, words_of, Covers, covers_none, covers_leaf, covers_tree}
use Rattle.listing_theory.specs.Listings.{entry, listings}
use Rattle.listing_theory.specs.Ways.{Between, Rest, rest_end, rest_kind, rest_tree}
use Rattle.theory.proofs.Lists.{take_at, at_split}

-- ---- spans

pub span_none : (ws : List ℕ) (i : ℕ) → Between ws i i []
span_none ws i = (sym (add-zero i), sym (append-nil (take i ws)))

pub span_word : (ws : List ℕ) (i s a : ℕ) (us : List ℕ) → Between ws i s us → At ws s a → Between ws i (suc s) (us ++ (a ∷ []))
span_word ws i s a us h here = (simp length-append (omega arith), take_at ws s a here ∙ rw h.1 (append_assoc (take i ws) us (a ∷ [])))

pub span_join : (ws : List ℕ) (i s j : ℕ) (us vs : List ℕ) → Between ws i s us → Between ws s j vs → Between ws i j (us ++ vs)
span_join ws i s j us vs h k = (simp length-append (omega arith), k.1 ∙ rw h.1 (append_assoc (take i ws) us vs))

-- ---- from trees to ways

cast_records :
    (L xs : List Record) (inner : Forest) (q m s e n : ℕ) →
    m ≡ s →
    e ≡ n →
    L ++ (entry q m e ∷ ((listings m inner ++ []) ++ xs)) ≡ (L ++ (entry q s n ∷ listings s inner)) ++ xs
cast_records L xs inner q m s e n a g = rw (a, g) (rw (append-nil, append_assoc))

rest_of_split :
    {g : Grammar} {p k : ℕ} {f : Forest} →
    Covers g p k f →
    (ws pre post : List ℕ) →
    ws ≡ pre ++ (words_of f ++ post) →
    (j : ℕ) (xs : List Record) →
    Rest g ws p k (length (pre ++ words_of f)) j xs →
    Rest g ws p 0 (length pre) j (listings (length pre) f ++ xs)
rest_of_split {g} {p} covers_none ws pre post e j xs rest = subst (λ l. Rest g ws p 0 (length l) j xs) (append-nil pre) rest
rest_of_split {g} {p} (covers_leaf {k = k} {a = a} {f = f} c at kind) ws pre post e j xs rest =
    let here = at_split ws (pre ++ words_of f) a post (e ∙ simp append_assoc) in
    let ends : length (pre ++ (words_of f ++ (a ∷ []))) ≡ suc (length (pre ++ words_of f)) = simp length-append (omega arith) in
    rest_of_split c ws pre (a ∷ post) (e ∙ simp append_assoc) j xs (rest_kind at kind here (subst (λ n. Rest g ws p (suc k) n j xs) ends rest))
rest_of_split {g} {p} (covers_tree {k = k} {q = q} {f = f} {h = inner} c at low ok known cg) ws pre post e j xs rest =
    let mid = pre ++ words_of f in
    let m = length mid in
    let n = length (mid ++ words_of inner) in
    let child = rest_of_split cg ws mid post (e ∙ simp append_assoc) n [] (rest_end refl refl) in
    let behind = subst (λ l. Rest g ws p (suc k) (length l) j xs) (sym (append_assoc pre (words_of f) (words_of inner))) rest in
    let all = rest_of_split c ws pre (words_of inner ++ post) (e ∙ simp append_assoc) j _ (rest_tree at low ok known child behind refl) in
    subst
    (Rest g ws p 0 (length pre) j)
    (cast_records (listings (length pre) f) xs inner q m (length pre + length (words_of f)) n
    (length pre + length (words_of f) + length (words_of inner)) (length-append pre (words_of f)) (simp length-append (omega arith)))
    all

-- children for the first k symbols over the words from i to s, before a way for the others
pub rest_of_ways :
    {g : Grammar} {p k : ℕ} {f : Forest} →
    Covers g p k f →
    (ws : List ℕ) (i s j : ℕ) (xs : List Record) →
    i ≤ length ws →
    Between ws i s (words_of f) →
    Rest g ws p k s j xs →
    Rest g ws p 0 i j (listings i f ++ xs)
rest_of_ways {g} {p} {k} {f} c ws i s j xs h spells rest =
    let n = length-take-le i ws h in
    let split : ws ≡ take i ws ++ (words_of f ++ drop s ws) = sym (take-append-drop s ws) ∙ ap (λ l. l ++ drop s ws) spells.1 ∙
    append_assoc (take i ws) (words_of f) (drop s ws) in
    let ends : s ≡ length (take i ws ++ words_of f) = simp length-append (omega arith) in
    subst
    (λ m. Rest g ws p 0 m j (listings m f ++ xs))
    n
    (rest_of_split c ws (take i ws) (drop s ws) split j xs (subst (λ m. Rest g ws p k m j xs) ends rest))

pub rest_of_all :
    {g : Grammar} {p : ℕ} {f : Forest} →
    Covers g p (size_of g p) f →
    (ws : List ℕ) (i j : ℕ) →
    i ≤ length ws →
    Between ws i j (words_of f) →
    Rest g ws p 0 i j (listings i f)
rest_of_all {g} {p} {f} c ws i j h spells =
    subst (Rest g ws p 0 i j) (append-nil (listings i f)) (rest_of_ways c ws i j j [] h spells (rest_end refl refl))

-- ---- from ways to trees

abbrev pub Grown : Grammar → List ℕ → ℕ → ℕ → ℕ → List Record → Type 0
Grown g ws p i j xs = (inner : Forest) × Covers g p (size_of g p) inner × Between ws i j (words_of inner) × (listings i inner ≡ xs)

regroup :
    (L ys xs zs ls : List Record) (q s m e n : ℕ) →
    s ≡ m →
    e ≡ n →
    zs ≡ entry q s e ∷ (ys ++ xs) →
    ls ≡ ys →
    (L ++ (entry q m n ∷ ls)) ++ xs ≡ L ++ zs
regroup L ys xs zs ls q s m e n a g c d = rw (c, d, a, g) (append_assoc L (entry q m n ∷ ys) xs)

pub ways_of_rest :
    {g : Grammar} {ws : List ℕ} {p k s j : ℕ} {xs : List Record} →
    Rest g ws p k s j xs →
    (i : ℕ) (f : Forest) →
    Covers g p k f →
    Between ws i s (words_of f) →
    Grown g ws p i j (listings i f ++ xs)
ways_of_rest {g} {ws} {p} (rest_end at_end same) i f c spells =
    (f, subst (λ m. Covers g p m f) at_end c, subst (λ m. Between ws i m (words_of f)) same spells, sym (append-nil (listings i f)))
ways_of_rest {g} {ws} {p} (rest_kind {s = s} {a = a} at kind here rest) i f c spells =
    ways_of_rest rest i (with_leaf f a) (covers_leaf c at kind) (span_word ws i s a (words_of f) spells here)
ways_of_rest {g} {ws} {p} {xs = zs} (rest_tree {s = s} {e = e} {q = q} {ys = ys} {xs = xs} at low ok known child rest is) i f c spells =
    let t = ways_of_rest child s bare covers_none (span_none ws s) in
    let inner = t.0 in
    let all = ways_of_rest rest i (with_tree f (node q inner)) (covers_tree c at low ok known t.1)
    (span_join ws i s e (words_of f) (words_of inner) spells t.2) in
    let m : s ≡ i + length (words_of f) = spells.0 in
    let n : e ≡ i + length (words_of f) + length (words_of inner) = t.2.0 ∙ ap (λ x. x + length (words_of inner)) m in
    let ls : listings (i + length (words_of f)) inner ≡ ys = ap (λ x. listings x inner) (sym m) ∙ t.3 in
    (all.0, all.1, all.2, all.3 ∙ regroup (listings i f) ys xs zs _ q s _ e _ m n is ls)

pub all_of_rest : {g : Grammar} {ws : List ℕ} {p i j : ℕ} {xs : List Record} → Rest g ws p 0 i j xs → Grown g ws p i j xs
all_of_rest {ws = ws} {i = i} rest = ways_of_rest rest i bare covers_none (span_none ws i)
