use Rattle.std.proofs.Common.{◌≡◌, ℕ, zero, suc, ◌++◌, ◌*◌, ◌+◌, ◌-◌, ◌≤◌, List, [], ◌∷◌, length, take, drop, get_or, refl, ap, ◌∙◌, arith, rules}
use Rattle.std.proofs.lemmas.List.{get_or_append_left, get_or-append_right, get_or-drop, length-append, length-drop, length-take-le}
use Rattle.std.specs.List.{FoldsTo}
use Rattle.scales.specs.Scales.{Scale}
use Rattle.score.specs.Inputs.{entries_in}
use Rattle.score.specs.Filling.{Blank}
use Rattle.score.proofs.sums.Sums.clear.Goals as goal

-- calls that give one value make a list of it
all_are : {F S : Type 0} (R : F → S → F → Type 0) (v : S) → ((p : F) (x : S) (q : F) → R p x q → x ≡ v) → (p : F) (xs : List S) (q : F) → FoldsTo R p xs q → (k : ℕ) → get_or xs k v ≡ v
all_are R v is p [] q h k = refl
all_are R v is p (x ∷ xs) q h zero = is p x h.0 h.1
all_are R v is p (x ∷ xs) q h (suc k) = all_are R v is h.0 xs q h.2 k

module _ {S : Type 0} (s : Scale S) (t new : List S) (n m : ℕ) (room : m ≤ length t) (e : n ≡ m) (size : length new ≡ length (take n t)) where
  long : length new ≡ n
  long = size ∙ length-take-le n t (omega arith)

  cleared : ((k : ℕ) → get_or new k s.none ≡ s.none) → Blank s m t (new ++ drop n t)
  cleared is = record {
    size = length-append new (drop n t) ∙ omega (arith, length-drop n t, long);
    none = λ k l. get_or_append_left new (drop n t) s.none k (omega (arith, long)) ∙ is k;
    later = λ k d l.
        let back : n + (k - n) ≡ k = omega arith in
        get_or-append_right new (drop n t) n k d long (omega arith) ∙ get_or-drop n t (k - n) d ∙ ap (λ z. get_or t z d) back;
  }

pub returns-clause-blank : goal.returns-clause-blank
returns-clause-blank g c =
    let s = g.S.Semiring.scale in
    let count : c.place_count.result * c.per_place.result ≡ entries_in c.args.self.now.input.now = search rules in
    cleared s c.args.self.now.table.now c.fill_with.new.self (c.place_count.result * c.per_place.result) _ c.args.self.now.room count
    c.fill_with.ensures.len (all_are _ s.none (λ p y q h. search rules) _ _ _ c.fill_with.ensures.ran.1)
