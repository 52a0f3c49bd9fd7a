-- The lines of sound spellings are taken, and what is written with them stands for the symbols.
use Rattle.std.proofs.Common.{◌≡◌, ℕ, suc, ◌+◌, ◌-◌, ◌<◌, ltb, List, [], ◌∷◌, ◌++◌, map, length, get_or, Ok, sym, refl, ◌∙◌, subst, arith}
use Rattle.std.proofs.lemmas.Bool.{ltb-true, ltb-false, cond_both}
use Rattle.grammar.specs.Grammar.{Grammar}
use Rattle.syntax.specs.Syntax.{Spelling, name, nonterminal, spelled, word_line, ValidSpelling, ValidSymbol, ValidSymbols}
use Rattle.syntax.proofs.Lines.{word_length}
use Rattle.file_model.specs.Spelled.{DeclareCause, declared_before, spellings_full, StandsFor, RightSide, SoundSpellings, written}
use Rattle.file_model.proofs.Prefixes.{count_at, element_at, earlier_at}
use Rattle.file_model.proofs.Taken.{Taken, AllTaken, taken_each}

module _ (ws : List Spelling) (sound : SoundSpellings ws) where
  module _ (before : List Spelling) (w : Spelling) (rest : List Spelling) (e : ws ≡ before ++ w ∷ rest) where
    new_word : (n : ℕ) → ¬ DeclareCause before w n
    new_word n (declared_before d) =
        sound.once d.0 (length before) d.1.within (omega (arith, count_at ws before w rest e))
        (earlier_at ws before w rest e d.0 name d.1.within ∙ d.1.is ∙ sym (element_at ws before w rest e name))
    new_word n (spellings_full h) = omega (arith, count_at ws before w rest e, sound.few)

    word_taken : (g : Grammar) → Taken (record { draft = g; spellings = before }) (word_line w) (record { draft = g; spellings = before ++ w ∷ [] })
    word_taken g =
        let known : length before < length ws = omega (arith, count_at ws before w rest e) in
        let valid = subst ValidSpelling (element_at ws before w rest e name) (sound.valid (length before) known) in
        record {
          valid = valid;
          short = omega (arith, word_length w valid);
          does = (Ok (16 + length before), (new_word, (refl, refl)), refl, refl);
        }

  pub words_taken : (g : Grammar) → AllTaken (record { draft = g; spellings = [] }) (map word_line ws) (record { draft = g; spellings = ws })
  words_taken g = taken_each (λ before. record { draft = g; spellings = before }) word_line ws (λ before w rest e. word_taken before w rest e g)

  written_stands : (x : ℕ) → x < 16 + length ws → StandsFor ws (written ws x) x × ValidSymbol (written ws x)
  written_stands x h =
      cond_both (ltb x 16) (nonterminal x) (spelled (get_or ws (x - 16) name)) (λ s. StandsFor ws s x × ValidSymbol s)
      (λ t. (refl, ltb-true x 16 t))
      (λ f.
      let high = ltb-false x 16 f in
      let l : x - 16 < length ws = omega arith in
      ((x - 16, record { within = l; is = refl; new = λ j below. sound.once j (x - 16) below l }, omega arith), sound.valid (x - 16) l))

  pub written_right :
      (xs : List ℕ) →
      ((k : ℕ) → k < length xs → get_or xs k 0 < 16 + length ws) →
      RightSide ws (map (written ws) xs) xs × ValidSymbols (map (written ws) xs)
  written_right [] h = (refl, tt)
  written_right (x ∷ xs) h =
      let s = written_stands x (h 0 (omega arith)) in
      let t = written_right xs (λ k l. h (suc k) (omega arith)) in
      ((x, xs, s.0, t.0, refl), (s.1, t.1))
