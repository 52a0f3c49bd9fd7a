-- Items of whole productions, and ways.
use Rattle.std.proofs.Common.{◌≡◌, ℕ, suc, ◌+◌, ◌≤◌, List, ◌++◌, length, take, drop, sym, ap, ◌∙◌, subst, append_assoc, arith, length-append}
use Rattle.std.proofs.lemmas.List.{take-append-drop, length-take-le}
use Rattle.grammar.specs.Grammar.{Grammar, Known, left_of, size_of}
use Rattle.grammar.specs.Trees.{Forest, words_of, Covers}
use Rattle.grammar.specs.Items.{Item, init, predict, scan, complete}
use Rattle.listing_theory.specs.Listings.{listings}
use Rattle.listing_theory.specs.Ways.{Between, Reach}
use Rattle.listing_theory.proofs.Firsts.{FitsAt}
use Rattle.theory.proofs.Extending.{covers_live}
use Rattle.theory.proofs.Sound.{item_spans}
use Rattle.theory.proofs.Complete.{covers_item}
use Rattle.listing_theory.proofs.Bridge.{all_of_rest, rest_of_all}

pub item_inside : {g : Grammar} {ws : List ℕ} {p k i j : ℕ} → Item g ws p k i j → (i ≤ j) × (j ≤ length ws)
item_inside (init alive is) = (omega arith, omega arith)
item_inside (predict up at low free alive) = let r = item_inside up in (omega arith, r.1)
item_inside (scan before at kind here) = let r = item_inside before in let l = here.0 in (omega arith, omega arith)
item_inside (complete before child at low free) = let r = item_inside before in let t = item_inside child in (omega arith, t.1)

-- children for the first k symbols, over the words from i to s
pub item_of_ways :
    {g : Grammar} {p k : ℕ} {f : Forest} →
    Covers g p k f →
    (ws : List ℕ) (i s : ℕ) →
    i ≤ length ws →
    Between ws i s (words_of f) →
    Item g ws p 0 i i →
    Item g ws p k i s
item_of_ways {g} {p} {k} {f} c ws i s h spells from =
    let n = length-take-le i ws h in
    let split : ws ≡ take i ws ++ (words_of f ++ drop s ws) = sym (take-append-drop s ws) ∙ ap (λ l. l ++ drop s ws) spells.1 ∙
    append_assoc (take i ws) (words_of f) (drop s ws) in
    let ends : length (take i ws ++ words_of f) ≡ s = simp length-append (omega arith) in
    let from' : Item g ws p 0 (length (take i ws)) (length (take i ws)) = subst (λ m. Item g ws p 0 m m) (sym n) from in
    subst (λ m. Item g ws p k m s) n (subst (Item g ws p k (length (take i ws))) ends (covers_item c ws (take i ws) (drop s ws) split from'))

pub item_of_reach : {g : Grammar} {ws : List ℕ} {q s e : ℕ} → Item g ws q 0 s s → Reach g ws q 0 s e → Item g ws q (size_of g q) s e
item_of_reach {ws = ws} {s = s} {e = e} from can =
    let inner = all_of_rest can.1 in item_of_ways inner.1 ws s e (item_inside from).1 inner.2 from

pub reach_of_item : {g : Grammar} {ws : List ℕ} {q s e : ℕ} → Item g ws q (size_of g q) s e → Reach g ws q 0 s e
reach_of_item {ws = ws} {s = s} {e = e} item =
    let f = item_spans item in
    let l = item_inside item in
    let n₁ = length-take-le s ws (omega arith) in
    let n₂ = length-take-le e ws l.1 in
    let n₃ : length (take e ws) ≡ length (take s ws) + length (words_of f.0) = ap length f.3 ∙ length-append (take s ws) (words_of f.0) in
    (listings s f.0, rest_of_all f.1 ws s e (omega arith) (omega arith, f.3))

-- a production that fits at position k of p, behind an item of p
pub predicted : {g : Grammar} {ws : List ℕ} {p k i s q e : ℕ} → Item g ws p k i s → FitsAt g p k q → Reach g ws q 0 s e → Item g ws q 0 s s
predicted item fits can = predict item fits.1 fits.2 fits.3 (covers_live fits.0 (all_of_rest can.1).1)

pub rooted : {g : Grammar} {ws : List ℕ} {p e : ℕ} → Known g p → left_of g p ≡ g.start → Reach g ws p 0 0 e → Item g ws p 0 0 0
rooted known starts can = init (covers_live known (all_of_rest can.1).1) starts

pub completed :
    {g : Grammar} {ws : List ℕ} {p k i s q e : ℕ} →
    Item g ws p k i s →
    FitsAt g p k q →
    Item g ws q (size_of g q) s e →
    Item g ws p (suc k) i e
completed item fits child = complete item child fits.1 fits.2 fits.3
