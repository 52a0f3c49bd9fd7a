-- What a sealed grammar hands out is the grammar's. Assumes nothing.
use Rattle.std.proofs.Common.{◌≡◌, ◌≤◌, List, length, sym, ap, ◌∙◌, subst}
use Rattle.std.proofs.lemmas.List.{length-map}
use Rattle.grammar.specs.declared.production.Production.{Production as Stored}
use Rattle.grammar.specs.Grammar.{places}
use Rattle.grammar.specs.Model.{production, productions as productions_of}
use Rattle.grammar.specs.Sound.{WellFormed}
use Rattle.derivations.specs.Ranges.{Lefts}
use Rattle.tables.specs.declared.tables.Tables.{Tables}
use Rattle.tables.specs.Places.{Firsts}
use Rattle.draft.specs.declared.draft.Draft.{Draft}
use Rattle.draft.specs.declared.sealed.Grammar.{Grammar as Sealed}
use Rattle.draft.specs.Model.{model}
use Rattle.draft.specs.Sealed.{sealed_model}
use Rattle.draft.proofs.Accepting.{well_formed}
use Rattle.score.proofs.Meant.{firsts_meant}
use Rattle.reading.proofs.Sealed.{means_at}

-- a sealed grammar is well-formed
pub formed : (g : Sealed) → WellFormed (sealed_model g)
formed g = well_formed g.draft

-- the draft and its productions
module _ (g : Sealed) (d : Draft) (e : d ≡ g.draft) (ps : List Stored) (f : productions_of ps ≡ (model d).productions) where
  pub productions_at : (sealed_model g).productions ≡ productions_of ps
  productions_at = sym (f ∙ ap (λ (x : Draft). (model x).productions) e)

  pub start_at : (sealed_model g).start ≡ (model d).start
  start_at = sym (ap (λ (x : Draft). (model x).start) e)

  module _ (t : Tables) (s : t ≡ g.tables) where
    pub counted : t.count ≡ length ps
    counted = (means_at g t s).known ∙ ap length productions_at ∙ length-map ps production

    pub few : length (productions_of ps) ≤ 32
    few = subst (λ qs. length qs ≤ 32) productions_at (formed g).small.0

    pub small : places (productions_of ps) ≤ 128
    small = subst (λ qs. places qs ≤ 128) productions_at (formed g).small.1

    pub lefts : Lefts (productions_of ps)
    lefts = subst Lefts productions_at (λ p l. ((formed g).sides p l).0)

    pub firsts : Firsts (productions_of ps) t.first
    firsts = subst (λ qs. Firsts qs t.first) productions_at (firsts_meant t (sealed_model g) (means_at g t s))
