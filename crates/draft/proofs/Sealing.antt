-- A draft as its tables are built, and a sealed grammar. Assumes nothing.
use Rattle.std.proofs.Common.{◌≡◌, List, length, sym, ap, ◌∙◌, subst, arith}
use Rattle.grammar.specs.declared.production.Production.{Production as Stored}
use Rattle.grammar.specs.declared.rule.Rule.{Rule as Numbered}
use Rattle.grammar.specs.Grammar.{Production, Rule}
use Rattle.grammar.specs.Model.{productions, rules}
use Rattle.grammar.specs.Sound.{WellFormed}
use Rattle.derivations.specs.Ranges.{Numbers}
use Rattle.tables.specs.Stored.{grammar_of}
use Rattle.tables.specs.Meaning.{Means}
use Rattle.tables.proofs.Truncating.{means_from}
use Rattle.theory.proofs.Live.{live?}
use Rattle.draft.specs.declared.draft.Draft.{Draft}
use Rattle.draft.specs.declared.sealed.Grammar.{Grammar as Sealed}
use Rattle.draft.specs.Model.{model}
use Rattle.draft.specs.Sealed.{sealed_model}
use Rattle.draft.specs.Stored.{Numbers as NumbersUpTo}
use Rattle.draft.proofs.Accepting.{well_formed}

-- the parts of a draft, as slices hand them out
module _ (d : Draft) (ps : List Stored) (rs : List Numbered) (e : productions ps ≡ (model d).productions) (f : rules rs ≡ (model d).rules) where
  pub handed : grammar_of d.start ps rs ≡ model d
  handed = ap (λ (qs : List Production). record { start = d.start; productions = qs; rules = rules rs }) e ∙ ap (λ (xs : List Rule). record { start = d.start; productions = (model d).productions; rules = xs }) f

  pub formed : WellFormed (grammar_of d.start ps rs)
  formed = subst WellFormed (sym handed) (well_formed d)

-- the numbers of a draft's rules are small
pub numbers : (d : Draft) (rs : List Numbered) → NumbersUpTo rs (length rs) (length (model d).productions) → Numbers rs
numbers d rs up k e h =
    let m = up k e h in
    let s = d.small.0 in
    (m.0, omega (arith, m.1), m.2, omega (arith, m.3))

-- the tables of a sealed grammar are those of its grammar
pub means : (g : Sealed) → Means g.tables (sealed_model g)
means g = means_from g.meant (live? (sealed_model g) g.draft.named)
