-- Spellings as they are declared. Assumes nothing.
use Rattle.std.proofs.Common.{◌≡◌, ℕ, ◌+◌, ◌<◌, ◌≤◌, ◌≢◌, List, length, get_or, set, sym, ap, ◌∙◌, subst, arith}
use native.Mathlib.Decide.{dec_lt}
use Rattle.std.proofs.lemmas.List.{get_or-set_same, get_or-set_other}
use Rattle.syntax.specs.declared.spelling.Spelling.{Spelling as Stored}
use Rattle.syntax.specs.declared.spelling.Spelling.TheVariants.{Name}
use Rattle.syntax.specs.Syntax.{Spelling, name, ValidSpelling}
use Rattle.syntax.specs.Model.{spelling}
use Rattle.draft.proofs.Tables.{counted, looked}
use Rattle.file_model.specs.Spelled.{Declared, DeclareCause, declared_before, spellings_full, SoundSpellings}
use Rattle.spellings.specs.declared.spellings.Spellings.{Spellings}
use Rattle.spellings.specs.Model.{words}
use Rattle.syntax.proofs.Stored.{spelling_valid}
use Rattle.spellings.specs.Stored.{spellings, Distinct}

pub none_below : (ws : List Spelling) (w : Spelling) (n : ℕ) → n < 19 → ¬ DeclareCause ws w n
none_below ws w n l (declared_before h) = omega arith
none_below ws w n l (spellings_full h) = omega arith

pub none_at_all : (ws : List Spelling) (w : Spelling) → (¬ Declared ws w) → length ws < 32 → (n : ℕ) → ¬ DeclareCause ws w n
none_at_all ws w fresh room n (declared_before h) = fresh h
none_at_all ws w fresh room n (spellings_full h) = omega arith

module _ (xs : List Stored) (n : ℕ) (room : n ≤ length xs) (once : Distinct xs n) where
  -- a spelling that is there stands first where it is
  pub declared_at : (w : Spelling) (k : ℕ) (d : Stored) → k < n → spelling (get_or xs k d) ≡ w → Declared (spellings xs n) w
  declared_at w k d l e = (
    k,
    record {
      within = omega (arith, counted spelling xs n room);
      is = sym (looked spelling xs n k d name l room) ∙ e;
      new = λ j h s. once j k d (h, l) (looked spelling xs n j d name (omega arith) room ∙ s ∙ sym e);
    },
  )

  pub distinct_more : (x : Stored) → n < length xs → (¬ Declared (spellings xs n) (spelling x)) → Distinct (set xs n x) (n + 1)
  distinct_more x h fresh j k d b e =
      let nj : j ≢ n = omega (arith, b.0, b.1) in
      let ej = get_or-set_other xs n j x d nj in
      elim (dec_lt k n) [
        | yes l ↦
            let nk : k ≢ n = omega arith in
            once j k d (b.0, l) (sym (ap spelling ej) ∙ e ∙ ap spelling (get_or-set_other xs n k x d nk))
        | no l ↦
            let last : k ≡ n = omega (arith, b.1) in
            let ek : get_or (set xs n x) k d ≡ x = ap (λ (i : ℕ). get_or (set xs n x) i d) last ∙ get_or-set_same xs n x d h in
            fresh (declared_at (spelling x) j d (omega (arith, b.0)) (sym (ap spelling ej) ∙ e ∙ ap spelling ek))
      ]

-- the facts of the spellings' type
pub sound_spellings : (s : Spellings) → SoundSpellings (words s)
sound_spellings s =
    let n = counted spelling s.words s.count (omega arith) in
    record {
      few = omega (arith, n);
      valid = λ k h. subst ValidSpelling (looked spelling s.words s.count k Name name (omega (arith, n)) (omega arith)) (spelling_valid (get_or s.words k Name));
      once = λ j k l h e.
          s.once j k Name (l, omega (arith, n))
          (looked spelling s.words s.count j Name name (omega (arith, n)) (omega arith) ∙ e ∙ sym (looked spelling s.words s.count k Name name (omega (arith, n)) (omega arith)));
    }
