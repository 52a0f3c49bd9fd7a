-- What an item says of its production, its dot, its origin and its end, and which words it depends on.
use Rattle.std.proofs.Common.{◌≡◌, ℕ, ◌-◌, ◌<◌, ◌≤◌, List, [], ◌∷◌, ◌++◌, length, get_or, sym, ap, ◌∙◌, subst, arith, length-append}
use Rattle.std.proofs.lemmas.List.{get_or_append_left, get_or-append_right}
use Rattle.grammar.specs.Grammar.{Grammar, At, Known, size_of}
use Rattle.grammar.specs.Items.{Live, live, Item, init, predict, scan, complete}

pub live_known : {g : Grammar} {p : ℕ} → Live g p → Known g p
live_known (live known fills) = known

pub item_live : {g : Grammar} {ws : List ℕ} {p k i j : ℕ} → Item g ws p k i j → Live g p
item_live (init alive is) = alive
item_live (predict up at non free alive) = alive
item_live (scan before at kind here) = item_live before
item_live (complete before child at non free) = item_live before

pub item_known : {g : Grammar} {ws : List ℕ} {p k i j : ℕ} → Item g ws p k i j → Known g p
item_known item = live_known (item_live item)

pub item_dot : {g : Grammar} {ws : List ℕ} {p k i j : ℕ} → Item g ws p k i j → k ≤ size_of g p
item_dot (init alive is) = omega arith
item_dot (predict up at non free alive) = omega arith
item_dot (scan before at kind here) = let l = at.0 in omega arith
item_dot (complete before child at non free) = let l = at.0 in omega arith

pub item_order : {g : Grammar} {ws : List ℕ} {p k i j : ℕ} → Item g ws p k i j → i ≤ j
item_order (init alive is) = omega arith
item_order (predict up at non free alive) = omega arith
item_order (scan before at kind here) = let l = item_order before in omega arith
item_order (complete before child at non free) = let l = item_order before in let m = item_order child in omega arith

pub item_end : {g : Grammar} {ws : List ℕ} {p k i j : ℕ} → Item g ws p k i j → j ≤ length ws
item_end (init alive is) = omega arith
item_end (predict up at non free alive) = item_end up
item_end (scan before at kind here) = let l = here.0 in omega arith
item_end (complete before child at non free) = item_end child

-- an item at equal numbers
pub item_at :
    {g : Grammar} {ws : List ℕ} {p q k l i h j e : ℕ} → p ≡ q → k ≡ l → i ≡ h → j ≡ e → Item g ws q l h e →
    Item g ws p k i j
item_at {g} {ws} {p} {q} {k} {l} {i} {h} {j} {e} a c d f t =
    subst (λ z. Item g ws z k i j) (sym a)
    (subst (λ z. Item g ws q z i j) (sym c) (subst (λ z. Item g ws q l z j) (sym d) (subst (Item g ws q l h) (sym f) t)))

-- ---- an item depends only on the words up to its end

at_more : (ws us : List ℕ) (i a : ℕ) → At ws i a → At (ws ++ us) i a
at_more ws us i a h = let l = h.0 in (omega (arith, length-append ws us), get_or_append_left ws us 0 i l ∙ h.1)

at_front : (ws us : List ℕ) (i a : ℕ) → i < length ws → At (ws ++ us) i a → At ws i a
at_front ws us i a l h = (l, sym (get_or_append_left ws us 0 i l) ∙ h.1)

pub at_last : (ws : List ℕ) (a n : ℕ) → length ws ≡ n → At (ws ++ a ∷ []) n a
at_last ws a n e =
    let z : n - n ≡ 0 = omega arith in
    (omega (arith, length-append ws (a ∷ [])), get_or-append_right ws (a ∷ []) n n 0 e (omega arith) ∙ ap (λ i. get_or (a ∷ []) i 0) z)

pub item_more : {g : Grammar} (ws us : List ℕ) {p k i j : ℕ} → Item g ws p k i j → Item g (ws ++ us) p k i j
item_more ws us (init alive is) = init alive is
item_more ws us (predict up at non ok alive) = predict (item_more ws us up) at non ok alive
item_more ws us (scan {i = i} {a = a} before at kind here) = scan (item_more ws us before) at kind (at_more ws us i a here)
item_more ws us (complete before child at non ok) = complete (item_more ws us before) (item_more ws us child) at non ok

pub item_front : {g : Grammar} (ws us : List ℕ) {p k i j : ℕ} → Item g (ws ++ us) p k i j → j ≤ length ws → Item g ws p k i j
item_front ws us (init alive is) l = init alive is
item_front ws us (predict up at non ok alive) l = predict (item_front ws us up l) at non ok alive
item_front ws us (scan {i = i} {a = a} before at kind here) l =
    scan (item_front ws us before (omega arith)) at kind (at_front ws us i a (omega arith) here)
item_front ws us (complete before child at non ok) l =
    let o = item_order child in complete (item_front ws us before (omega arith)) (item_front ws us child l) at non ok
