-- The smallest listing, the number of trees and the cost of words, checked by computation.
use Rattle.std.proofs.Common.{◌≡◌, ℕ, Bool, true, not, ◌&&◌, eqb, List, length, sym, refl, subst}
use Rattle.std.proofs.lemmas.Bool.{and_parts, eqb-true}
use Rattle.std.proofs.lemmas.Bool.Decides.{Decides-not}
use Rattle.grammar.specs.Grammar.{Grammar}
use Rattle.grammar.specs.Trees.{Tree}
use Rattle.theory.specs.Claims.{Parse}
use Rattle.scales.specs.Scales.{Scale}
use Rattle.listing_theory.specs.declared.record.Record.{Record}
use Rattle.listing_theory.specs.Listings.{listing, Before}
use Rattle.score_theory.specs.Totals.{Enumerates}
use Rattle.score_theory.specs.Scores.{product, sum_on, Score}
use Rattle.scales.specs.ThreeScales.{count, price}
use Rattle.small_grammars.specs.Parses.{Lists, Trees, Costs}
use Rattle.small_grammars.proofs.Sets.{any, all, decides_any, decides_all, all_of}
use Rattle.small_grammars.proofs.Orders.{same_records, decides_records, before, decides_before}
use Rattle.small_grammars.proofs.Parses.{parses, parses_checked, enumerated}

-- ---- listings

-- xs is the listing of one of the trees, and no tree has a listing before it
abbrev smallest : List Record → List Tree → Bool
smallest xs ts = any (λ t. same_records (listing 0 t) xs) ts && all (λ t. not (before (listing 0 t) xs)) ts

abbrev lists : Grammar → List ℕ → List Record → Bool
lists g ws xs = parses_checked g ws && smallest xs (parses g ws)

smallest_lists : (g : Grammar) (ws : List ℕ) (xs : List Record) (ts : List Tree) → Enumerates (Parse g ws) ts → smallest xs ts ≡ true → Lists g ws xs
smallest_lists g ws xs ts h e =
    let r = and_parts (any (λ t. same_records (listing 0 t) xs) ts) (all (λ t. not (before (listing 0 t) xs)) ts) e in
    let one = (decides_any (λ t. same_records (listing 0 t) xs) (λ t. decides_records (listing 0 t) xs) ts).0 r.0 in
    let none = (decides_all (λ t. not (before (listing 0 t) xs)) (λ t. Decides-not _ (decides_before (listing 0 t) xs)) ts).0 r.1 in
    let t = one.0 in
    let least : (u : Tree) → Parse g ws u → ¬ Before (listing 0 u) xs = λ u p. all_of (λ u. ¬ Before (listing 0 u) xs) ts none ((h.each u).1 p) in
    (t, record { parse = (h.each t).0 one.1; least = λ u p. subst (λ ys. ¬ Before (listing 0 u) ys) (sym one.2) (least u p) }, one.2)

-- a passing check gives the smallest listing
pub listed : (g : Grammar) (ws : List ℕ) (xs : List Record) → lists g ws xs ≡ true → Lists g ws xs
listed g ws xs e =
    let r = and_parts (parses_checked g ws) (smallest xs (parses g ws)) e in
    smallest_lists g ws xs (parses g ws) (enumerated g ws r.0) r.1

-- ---- scores

-- the sum over all trees, on a scale
abbrev pub score_of : {S : Type 0} → Scale S → Grammar → List ℕ → S
score_of s g ws = sum_on s (product s g) (parses g ws)

scored : {S : Type 0} (s : Scale S) (g : Grammar) (ws : List ℕ) → parses_checked g ws ≡ true → Score s g ws (score_of s g ws)
scored s g ws e = record { trees = parses g ws; all = enumerated g ws e; is = refl }

abbrev has_trees : Grammar → List ℕ → ℕ → Bool
has_trees g ws n = parses_checked g ws && (eqb (length (parses g ws)) n && eqb (score_of count g ws).value n)

-- a passing check gives the number of trees
pub trees : (g : Grammar) (ws : List ℕ) (n : ℕ) → has_trees g ws n ≡ true → Trees g ws n
trees g ws n e =
    let r = and_parts (parses_checked g ws) (eqb (length (parses g ws)) n && eqb (score_of count g ws).value n) e in
    let s = and_parts (eqb (length (parses g ws)) n) (eqb (score_of count g ws).value n) r.1 in
    record {
      members = parses g ws;
      all = enumerated g ws r.0;
      many = eqb-true (length (parses g ws)) n s.0;
      scored = (score_of count g ws, scored count g ws r.0, eqb-true (score_of count g ws).value n s.1);
    }

abbrev has_cost : Grammar → List ℕ → ℕ → Bool
has_cost g ws n = parses_checked g ws && eqb (score_of price g ws).value n

-- a passing check gives the cost
pub costs : (g : Grammar) (ws : List ℕ) (n : ℕ) → has_cost g ws n ≡ true → Costs g ws n
costs g ws n e =
    let r = and_parts (parses_checked g ws) (eqb (score_of price g ws).value n) e in
    (score_of price g ws, scored price g ws r.0, eqb-true (score_of price g ws).value n r.1)
