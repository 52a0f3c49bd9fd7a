use Rattle.std.proofs.Common.{◌<◌, length, sym, refl, ◌∙◌, arith}
use Rattle.syntax.specs.declared.spelling.Spelling.TheVariants.{Name}
use Rattle.syntax.specs.Syntax.{name}
use Rattle.syntax.specs.Model.{spelling}
use Rattle.spellings.specs.Model.{words}
use Rattle.spellings.proofs.Items.{as_many, item_at}
use Rattle.spellings.proofs.spellings.Spellings.kind_of.Goals as goal

pub returns-in_err-index : goal.returns-in_err-index
returns-in_err-index c =
    let ws = words c.args.self.now in
    let e = c.words.ensures.value in
    rw c.from_residual.ensures
    (λ d. let w = d.1.within in
    let h : d.0 < length c.words.result.now = omega (arith, as_many spelling _ ws e) in
    c.in_err-index.ensures d.0 Name h (item_at spelling _ ws e d.0 Name name h ∙ d.1.is))

pub returns : goal.returns
returns c =
    let ws = words c.args.self.now in
    let e = c.words.ensures.value in
    let i = c.in_ok-index.index in
    let f = c.in_ok-index.ensures in
    let n = as_many spelling _ ws e in (
      i,
      record {
        within = omega (arith, f.0);
        is = sym (item_at spelling _ ws e i Name name f.0) ∙ f.1 Name;
        new = λ j h s. let l : j < length c.words.result.now = omega (arith, f.0) in f.2 j Name h (item_at spelling _ ws e j Name name l ∙ s);
      },
      refl,
    )
