-- The kinds of the sorts of words. Assumes nothing.
use Rattle.std.proofs.Common.{ℕ, List, Some, None, Option, subst, inl, inr, MatchOption}
use Rattle.syntax.specs.Syntax.{Spelling, literal, name, num, ValidSpelling}
use Rattle.file_model.specs.Spelled.{Declared}
use Rattle.spellings.specs.declared.spellings.Spellings.{Spellings}
use Rattle.spellings.specs.Model.{words}
use Rattle.spellings.proofs.Words.{sound_spellings}
use Rattle.lines.specs.Cuts.{name as name_word, number as number_word, mark as mark_word, stray as stray_word}
use Rattle.lines.specs.Kinds.{KindBy, KindOf, by_literal, by_number, by_name, FindsKind, FindsRunKind}

-- what can't be a literal is not declared
pub not_declared : (s : Spellings) (bs : List ℕ) → (¬ ValidSpelling (literal bs)) → ¬ Declared (words s) (literal bs)
not_declared s bs n d = n (subst ValidSpelling d.1.is ((sound_spellings s).valid d.0 d.1.within))

module _ (ss : List Spelling) (bs : List ℕ) where
  no_name : (kind : ℕ) → (¬ Declared ss (literal bs)) → (¬ Declared ss name) → KindOf ss (name_word bs) kind → ⊥
  no_name kind a b (by_literal i k) = a (k.0, k.1)
  no_name kind a b (by_name n k) = b (k.0, k.1)

  no_number : (kind : ℕ) → (¬ Declared ss (literal bs)) → (¬ Declared ss num) → KindOf ss (number_word bs) kind → ⊥
  no_number kind a b (by_literal i k) = a (k.0, k.1)
  no_number kind a b (by_number n k) = b (k.0, k.1)

  no_mark : (kind : ℕ) → (¬ Declared ss (literal bs)) → KindOf ss (mark_word bs) kind → ⊥
  no_mark kind a (by_literal i k) = a (k.0, k.1)

  pub no_stray : (kind : ℕ) → KindOf ss (stray_word bs) kind → ⊥
  no_stray kind (by_literal i k) = i

  pub name_kind : (o : Option ℕ) → FindsRunKind ss bs name o → FindsKind ss (name_word bs) o
  name_kind (Some kind) (inl k) = by_literal tt k
  name_kind (Some kind) (inr h) = by_name h.0 h.1
  name_kind None h = λ kind k. no_name kind h.0 h.1 k

  pub number_kind : (o : Option ℕ) → FindsRunKind ss bs num o → FindsKind ss (number_word bs) o
  number_kind (Some kind) (inl k) = by_literal tt k
  number_kind (Some kind) (inr h) = by_number h.0 h.1
  number_kind None h = λ kind k. no_number kind h.0 h.1 k

  pub mark_kind : (o : Option ℕ) → MatchOption o (¬ Declared ss (literal bs)) (KindBy ss (literal bs)) → FindsKind ss (mark_word bs) o
  mark_kind (Some kind) k = by_literal tt k
  mark_kind None h = λ kind k. no_mark kind h k
