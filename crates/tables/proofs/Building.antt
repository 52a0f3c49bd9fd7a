-- Tables whose parts are those of a grammar.
use Rattle.std.proofs.Common.{◌≡◌, ℕ, suc, ◌+◌, ◌-◌, ◌*◌, ◌<◌, ◌≤◌, ◌↔◌, List, length, get_or, sym, ap, subst, add-one, arith}
use Rattle.grammar.specs.declared.production.Production.{Production as Stored}
use Rattle.grammar.specs.declared.rule.Rule.{Rule as Numbered}
use Rattle.grammar.specs.Grammar.{Grammar, Known, left_at, size_of, places}
use Rattle.grammar.specs.Derivations.{Leads}
use Rattle.grammar.specs.Items.{Live}
use Rattle.bitset.specs.Bits.{Has}
use Rattle.tables.specs.declared.tables.Tables.{Tables}
use Rattle.tables.specs.Entries.{Tabulates, WaitsFor, KindNext}
use Rattle.tables.specs.Meaning.{Means, Placed, first_of, last_of}
use Rattle.tables.specs.Places.{Firsts, Lasts, first_place}
use Rattle.tables.specs.Sets.{InSet}
use Rattle.tables.specs.Stored.{grammar_of}
use Rattle.tables.proofs.Counting.{place_next}
use Rattle.tables.proofs.Tabulating.{entry_at, entry_placed}

-- what the parts of the tables are
pub record Parts (t : Tables) (g : Grammar) : Type 0 where
  pub known : t.count ≡ length g.productions
  pub small : places g.productions ≤ 128
  pub zero : get_or t.first 0 0 ≡ 0
  pub firsts : Firsts g.productions t.first
  pub lasts : Lasts g.productions t.last
  pub waits : Tabulates g.productions (WaitsFor g) t.waits
  pub before : Tabulates g.productions (KindNext g.productions) t.before
  pub live : (q : ℕ) → Has t.live q ↔ Live g q
  pub starts : (p : ℕ) → Has t.starts p ↔ (Known g p × Has t.live p × (left_at g.productions p ≡ g.start))
  pub ranks : (A B : ℕ) → Leads g.productions A B → get_or t.ranks B 0 < get_or t.ranks A 0
  pub ranks_small : (A : ℕ) → get_or t.ranks A 0 ≤ 16

module _ (t : Tables) (g : Grammar) (parts : Parts t g) where
  -- a table is read at the first places that the tables have
  entry :
      (has : ℕ → ℕ → ℕ → Type 0) (cells : List ℕ) →
      Tabulates g.productions has cells →
      (p k x : ℕ) →
      Known g p →
      k ≤ size_of g p →
      InSet cells (2 * x) (first_of t p + k) ↔ ((k < size_of g p) × has p k x)
  entry has cells table p k x lp lk =
      subst (λ n. InSet cells (2 * x) (n + k) ↔ ((k < size_of g p) × has p k x)) (sym (parts.firsts p lp))
      (entry_at g.productions has cells table parts.small p k x lp lk)

  placed : (has : ℕ → ℕ → ℕ → Type 0) (cells : List ℕ) → Tabulates g.productions has cells → (x d : ℕ) → d < 128 → InSet cells (2 * x) d → Placed t d
  placed has cells table x d l h =
      let p = entry_placed g.productions has cells table x d (l, h) in
      let n = length g.productions - 1 in
      let last = parts.lasts n (omega (arith, p.0)) in
      let same : last_of t (t.count - 1) ≡ last_of t n = ap (λ m. last_of t (m - 1)) parts.known in
      (omega (arith, p.0, parts.known), omega (arith, p.1, last, same))

  pub means : Means t g
  means =
      record {
        known = parts.known;
        start = parts.zero;
        next = λ p l.
            omega
            (arith, parts.firsts (suc p) l, parts.lasts p (omega arith), place_next g.productions p (omega arith), ap (first_place g.productions) (add-one p));
        final = λ p l. omega (arith, parts.firsts p l, parts.lasts p l);
        waits = λ p k q lp lk lq.
            let e = entry (WaitsFor g) t.waits parts.waits p k q lp lk in (λ h. (e.0 h).1.1, λ h. e.1 (h.0.0, (lq, h)));
        short = λ q d lq. placed (WaitsFor g) t.waits parts.waits q d;
        lives = λ q _. parts.live q;
        kinds_short = λ a d la. placed (KindNext g.productions) t.before parts.before a d;
        starts = λ p lp. (
          λ h. let s = (parts.starts p).0 h in ((parts.live p).0 s.1, s.2),
          λ h. (parts.starts p).1 (lp, (parts.live p).1 h.0, h.1),
        );
        befores = λ p k a lp lk la.
            let e = entry (KindNext g.productions) t.before parts.before p k a lp lk in (λ h. (e.0 h).1, λ h. e.1 (h.0, h));
        ranks = parts.ranks;
        ranks_small = parts.ranks_small;
      }

-- tables mean the same for the same productions and rules
pub means_same :
    (t : Tables) (start : ℕ) (ps ps' : List Stored) (rs rs' : List Numbered) →
    ps ≡ ps' →
    rs ≡ rs' →
    Means t (grammar_of start ps rs) →
    Means t (grammar_of start ps' rs')
means_same t start ps ps' rs rs' e f m =
    subst (λ (xs : List Stored). Means t (grammar_of start xs rs')) e (subst (λ (xs : List Numbered). Means t (grammar_of start ps xs)) f m)
