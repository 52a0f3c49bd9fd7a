-- Readings that were opened for a book. Assumes nothing.
use Rattle.std.proofs.Common.{◌≡◌, ℕ, List, length, Ok, Err, sym, ap, ◌∙◌, subst, arith}
use Rattle.grammar.specs.declared.refusals.Refusal.{Refusal}
use Rattle.grammar.specs.Refusals.{number}
use Rattle.grammar.specs.Grammar.{Grammar}
use Rattle.draft.specs.declared.sealed.Grammar.{Grammar as Sealed}
use Rattle.draft.specs.Sealed.{sealed_model}
use Rattle.file_model.specs.Spelled.{Spelled}
use Rattle.reading.specs.declared.reading.Reading.{Reading}
use Rattle.reading.specs.Readings.{words, grammar_of, Long, Opened}
use Rattle.agreement.proofs.Working.{Ready}
use Rattle.lines.specs.Lines.{PutsLine, PutsKinds, fault}
use Rattle.lines.proofs.Putting.{line_kinds, still_ready}
use Rattle.engine.specs.Answers.{packed, Lists, Opens, ReadsBy, line_refused, line_put}

pub opens : (chart : List ℕ) (g : Sealed) (r : Reading) (m : Grammar) → Long chart → Opened chart r → r.grammar.now ≡ g → sealed_model g ≡ m → Opens m r
opens chart g r m l o e f = record { chart = chart; long = l; opened = o; grammar = ap sealed_model e ∙ f }

module _ {g : Grammar} {r q : Reading} (o : Opens g r) (k : PutsKinds r q) where
  pub ready : Ready g q
  ready = still_ready k (record { long = let z = o.opened.size in let l = o.long in omega arith; marks = o.opened.marks o.long; grammar = o.grammar })

module _ (s : Spelled) (line before : List ℕ) (r q : Reading) (o : Opens s.draft r) where
  pub refused_line : (e : Refusal) (place a n : ℕ) → PutsLine s.spellings line r (Err (fault e place)) q → a ≡ packed n place → n ≡ number e → ReadsBy s line before a before
  refused_line e place a n p f h = subst (λ x. ReadsBy s line before x before) (sym (f ∙ ap (λ (x : ℕ). packed x place) h)) (line_refused o p)

  pub put_line : (n a : ℕ) (after : List ℕ) → PutsLine s.spellings line r (Ok n) q → Lists (grammar_of q) (words q) (length line) before a after → ReadsBy s line before a after
  put_line n a after p l = line_put o p (subst (λ g. Lists g (words q) (length line) before a after) (ready o (line_kinds p)).grammar l)
