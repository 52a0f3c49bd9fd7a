-- What a set of nonterminals that derive the empty list says of which nonterminals lead to which.
use Rattle.std.proofs.Common.{ℕ, ◌<◌, ◌↔◌, List, length, sym}
use Rattle.grammar.specs.Grammar.{Production, production_at}
use Rattle.grammar.specs.Derivations.{Nullable, Leads}
use Rattle.bitset.specs.Bits.{Has}
use Rattle.derivations.specs.Steps.{Passes}

-- by the production p, or that of index p, x leads to y
abbrev pub PassesSome : ℕ → Production → ℕ → ℕ → Type 0
PassesSome set p x y = (k : ℕ) × (k < length p.right) × Passes set p k x y

abbrev pub PassesAt : ℕ → List Production → ℕ → ℕ → ℕ → Type 0
PassesAt set ps p = PassesSome set (production_at ps p)

pub passes_leads :
    (set : ℕ) (ps : List Production) →
    ((s : ℕ) → Has set s ↔ Nullable ps s) →
    (A B : ℕ) →
    ((p : ℕ) × (p < length ps) × PassesAt set ps p A B) ↔ Leads ps A B
passes_leads set ps null A B = (
  λ t.
      let by = t.2.2 in
      record {
        by = t.0;
        known = t.1;
        of = sym by.0;
        place = t.2.0;
        has = by.1;
        below = by.2;
        others = λ k x at not. (null x).0 (by.3 k x at not);
      },
  λ l. (l.by, l.known, (l.place, l.has.0, (sym l.of, l.has, l.below, λ k x at not. (null x).1 (l.others k x at not)))),
)
