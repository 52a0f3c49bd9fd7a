-- What may come next, checked by computation.
use Rattle.std.proofs.Common.{◌≡◌, ℕ, ◌+◌, ◌/◌, ◌%◌, ◌^◌, ◌<◌, Bool, true, ◌&&◌, eqb, List, Decides, sym, ◌∙◌, arith}
use mathlib.Core.Bool.{beq}
use Rattle.std.proofs.lemmas.Bool.{and_parts}
use Rattle.std.proofs.lemmas.Bool.Decides.{Decides-eqb}
use Rattle.bitset.specs.Bits.{bit, Has}
use Rattle.grammar.specs.Grammar.{Grammar}
use Rattle.theory.specs.Claims.{Accepted, Awaited}
use Rattle.theory.proofs.Exact.{sentences, viable_kinds}
use Rattle.small_grammars.specs.Next.{Next}
use Rattle.small_grammars.proofs.Sets.{any, all_below, decides_all_below, decides_beq}
use Rattle.small_grammars.proofs.Conflicts.{above, above_closed, above_exact}
use Rattle.small_grammars.proofs.Lives.{lives, lives_closed, live_exact}
use Rattle.small_grammars.proofs.Entries.{Entry, accepts, awaits}
use Rattle.small_grammars.proofs.Charts.{entries, entries_closed, decides_accepted, decides_awaited}

-- bit b of c is 1
abbrev has : ℕ → ℕ → Bool
has c b = eqb (c / 2 ^ b % 2) 1

decides_has : (c b : ℕ) → Decides (has c b) (Has c b)
unfolding bit
decides_has c b = Decides-eqb (c / 2 ^ b % 2) 1

-- the answers are those that the entries E give
abbrev answers : Grammar → List ℕ → List Entry → Bool → ℕ → Bool
answers g ws E sentence mask = beq sentence (any (accepts g ws) E) && all_below (λ b. beq (has mask b) (any (awaits g ws (16 + b)) E)) 32

-- the pairs, productions and entries that are found are closed, and the answers are those that the entries give
abbrev check : Grammar → List ℕ → Bool → ℕ → Bool
check g ws sentence mask =
    let A = above g in
    let L = lives g A in
    above_closed g && (lives_closed g A && (entries_closed g A L ws && answers g ws (entries g A L ws) sentence mask))

same_below : (f h : ℕ → Bool) (n : ℕ) → all_below (λ b. beq (f b) (h b)) n ≡ true → (b : ℕ) → b < n → f b ≡ h b
same_below f h n = (decides_all_below (λ b. beq (f b) (h b)) (λ b. decides_beq (f b) (h b)) n).0

answered :
    (g : Grammar) (ws : List ℕ) (E : List Entry) (sentence : Bool) (mask : ℕ) →
    Decides (any (accepts g ws) E) (Accepted g ws) →
    ((a : ℕ) → Decides (any (awaits g ws a) E) (Awaited g ws a)) →
    answers g ws E sentence mask ≡ true →
    Next g ws sentence mask
answered g ws E sentence mask accepted awaited e =
    let both = and_parts (beq sentence (any (accepts g ws) E)) (all_below (λ b. beq (has mask b) (any (awaits g ws (16 + b)) E)) 32) e in
    let same = (decides_beq sentence (any (accepts g ws) E)).0 both.0 in
    let bits = same_below (has mask) (λ b. any (awaits g ws (16 + b)) E) 32 both.1 in
    record {
      ends = (λ h. (sentences g ws).0 (accepted.0 (sym same ∙ h)), λ h. same ∙ accepted.1 ((sentences g ws).1 h));
      kinds = λ b l.
          let viable = viable_kinds g ws (16 + b) (omega arith) in (
            λ h. viable.0 ((awaited (16 + b)).0 (sym (bits b l) ∙ (decides_has mask b).1 h)),
            λ h. (decides_has mask b).0 (bits b l ∙ (awaited (16 + b)).1 (viable.1 h)),
          );
    }

-- a passing check gives the answers
pub checked : (g : Grammar) (ws : List ℕ) (sentence : Bool) (mask : ℕ) → check g ws sentence mask ≡ true → Next g ws sentence mask
checked g ws sentence mask e =
    let A = above g in
    let L = lives g A in
    let E = entries g A L ws in
    let r = and_parts (above_closed g) (lives_closed g A && (entries_closed g A L ws && answers g ws E sentence mask)) e in
    let s = and_parts (lives_closed g A) (entries_closed g A L ws && answers g ws E sentence mask) r.1 in
    let t = and_parts (entries_closed g A L ws) (answers g ws E sentence mask) s.1 in
    let exact = above_exact g r.0 in
    let alive = live_exact g A exact s.0 in
    answered g ws E sentence mask (decides_accepted g A L ws exact alive t.0) (decides_awaited g A L ws exact alive t.0) t.1
