use Rattle.std.proofs.Common.{◌+◌, refl, ap, arith, length-set, rules}
use Rattle.syntax.specs.Model.{spelling}
use Rattle.draft.proofs.Tables.{counted, pushed}
use Rattle.file_model.specs.Spelled.{Declared, declared_before, spellings_full}
use Rattle.spellings.specs.Model.{words}
use Rattle.spellings.proofs.Words.{none_below, none_at_all, distinct_more}
use Rattle.spellings.proofs.spellings.Spellings.declare.Goals as goal

pub returns-then-self-ge32 : goal.returns-then-self-ge32
returns-then-self-ge32 c =
    let s = c.args.self.now in
    (spellings_full (omega (arith, counted spelling s.words s.count (omega arith))), none_below (words s) (spelling c.args.word), refl)

pub returns-then-is_some : goal.returns-then-is_some
returns-then-is_some c =
    let s = c.args.self.now in
    let found : Declared (words s) (spelling c.args.word) = search rules in
    (declared_before found, none_below (words s) (spelling c.args.word), refl)

pub invariant_of-self : goal.invariant_of-self
invariant_of-self c =
    let s = c.args.self.now in
    let none : ¬ Declared (words s) (spelling c.args.word) = search rules in
    record {
      room = simp length-set s.room;
      few = omega arith;
      once = distinct_more s.words s.count (omega arith) s.once c.args.word (omega arith) none;
    }

pub returns : goal.returns
returns c =
    let s = c.args.self.now in
    let none : ¬ Declared (words s) (spelling c.args.word) = search rules in
    let n = counted spelling s.words s.count (omega arith) in (
      none_at_all (words s) (spelling c.args.word) none (omega (arith, n)),
      (ap (λ k. 16 + k) n, pushed spelling s.words s.count c.args.word (omega arith)),
    )
