-- The lines of a sound spelled grammar's productions are taken.
use Rattle.std.proofs.Common.{◌≡◌, ℕ, suc, ◌+◌, ◌<◌, ◌≤◌, List, [], ◌∷◌, ◌++◌, map, length, get_or, Ok, sym, refl, ap, ◌∙◌, subst, inl, inr, arith}
use Rattle.std.proofs.lemmas.List.{length-map}
use Rattle.grammar.specs.Grammar.{Production, Nonterminal, no_production, production_at, places}
use Rattle.grammar.specs.Derivations.{LeadsOn}
use Rattle.draft.specs.Calls.{Repeats, ProductionCause}
use Rattle.draft.proofs.Causes.{production_none}
use Rattle.syntax.proofs.Lines.{production_length}
use Rattle.file_model.specs.Spelled.{Spelled, Unspelled, SoundSpelled, written}
use Rattle.file_model.specs.Files.{production_form}
use Rattle.file_model.proofs.Prefixes.{count_at, element_at, earlier_at, taken_in, places_more, leads_on_more}
use Rattle.file_model.proofs.Taken.{Taken, AllTaken, taken_each}
use Rattle.file_model.proofs.Words.{written_right}

-- with the spellings of s, its start and these productions, and no rule
abbrev pub with_productions : Spelled → List Production → Spelled
with_productions s ps = record { draft = record { start = s.draft.start; productions = ps; rules = [] }; spellings = s.spellings }

module _ (s : Spelled) (sound : SoundSpelled s) (all_spelled : ¬ Unspelled s) where
  abbrev ps : List Production
  ps = s.draft.productions

  module _ (before : List Production) (p : Production) (rest : List Production) (e : ps ≡ before ++ p ∷ rest) where
    abbrev index : ℕ
    index = length before

    known : index < length ps
    known = omega (arith, count_at ps before p rest e)

    here : production_at ps index ≡ p
    here = element_at ps before p rest e no_production

    sides_fit : Nonterminal p.left × (length p.right ≤ 6)
    sides_fit = subst (λ (q : Production). Nonterminal q.left × (length q.right ≤ 6)) here (sound.draft.sides index known)

    symbols_fit : (k : ℕ) → k < length p.right → get_or p.right k 0 < 48
    symbols_fit = subst (λ (q : Production). (k : ℕ) → k < length q.right → get_or q.right k 0 < 48) here (λ k. sound.draft.symbols index k known)

    price_fits : p.price ≤ 65535
    price_fits = subst (λ (q : Production). q.price ≤ 65535) here (sound.draft.prices index known)

    symbols_spelled : (k : ℕ) → k < length p.right → ¬ (16 + length s.spellings ≤ get_or p.right k 0)
    symbols_spelled =
        subst (λ (q : Production). (k : ℕ) → k < length q.right → ¬ (16 + length s.spellings ≤ get_or q.right k 0)) here
        (λ k l h. all_spelled (index, k, known, l, h))

    few_places : places (before ++ p ∷ []) ≤ 128
    few_places = omega (arith, ap places (taken_in ps before p rest e), places_more (before ++ p ∷ []) rest, sound.draft.small.1)

    new_sides : ¬ Repeats (with_productions s before).draft p
    new_sides r =
        let q = r.0 in
        let there : production_at ps q ≡ production_at before q = earlier_at ps before p rest e q no_production r.1 in
        let same = sound.draft.apart q index (
          omega (arith, known, r.1),
          known,
          ap (λ (x : Production). x.left) there ∙ r.2 ∙ sym (ap (λ (x : Production). x.left) here),
          ap (λ (x : Production). x.right) there ∙ r.3 ∙ sym (ap (λ (x : Production). x.right) here),
        ) in
        omega (arith, r.1)

    no_loop : (A : ℕ) → ¬ LeadsOn (before ++ p ∷ []) A A
    no_loop A h = sound.draft.acyclic A (subst (λ l. LeadsOn l A A) (sym (taken_in ps before p rest e)) (leads_on_more (before ++ p ∷ []) rest A A h))

    new_production : (n : ℕ) → ¬ ProductionCause (with_productions s before).draft p n
    new_production n =
        production_none (with_productions s before).draft p (suc n)
        (record {
          range = λ _ o. elim o [ inl h ↦ omega (arith, sides_fit.0) | inr h ↦ omega (arith, h.2, symbols_fit h.0 h.1) ];
          long = λ _ h. omega (arith, sides_fit.1);
          room = λ _ o. elim o [ inl h ↦ omega (arith, known, sound.draft.small.0) | inr h ↦ omega (arith, few_places) ];
          repeats = λ _. new_sides;
          loops = λ _ h. no_loop h.0 h.1;
        })
        n (omega arith)

    production_taken : Taken (with_productions s before) (production_form s.spellings p) (with_productions s (before ++ p ∷ []))
    production_taken =
        let ws = s.spellings in
        let w = written_right ws sound.spellings p.right (λ k l. let h = symbols_spelled k l in omega arith) in
        let long = production_length p.left (map (written ws) p.right) p.price (sides_fit.0, w.1, price_fits) in
        record {
          valid = (sides_fit.0, w.1, price_fits);
          short = omega (arith, length-map p.right (written ws), sides_fit.1);
          does = inr (p.right, Ok (length (before ++ p ∷ [])), w.0, (new_production, (refl, refl)), refl, refl);
        }

  pub productions_taken : AllTaken (with_productions s []) (map (production_form s.spellings) ps) (with_productions s ps)
  productions_taken = taken_each (with_productions s) (production_form s.spellings) ps production_taken
