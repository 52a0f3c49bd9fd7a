use Rattle.std.proofs.Common.{sym, subst}
use Rattle.spellings.specs.Model.{words}
use Rattle.lines.specs.declared.word.Word.{Word as Stored}
use Rattle.lines.specs.Kinds.{FindsKind}
use Rattle.lines.specs.Model.{word_of}
use Rattle.lines.proofs.Kinding.{no_stray, name_kind, number_kind, mark_kind}
use Rattle.lines.proofs.kinds.kind_of.Goals as goal

pub returns-in-Name : goal.returns-in-Name
returns-in-Name c =
    let ss = words c.args.spellings.now in
    subst (λ (w : Stored). FindsKind ss (word_of w) c.run_kind.result) (sym c.in-Name.is) (name_kind ss c.in-Name.bytes.now c.run_kind.result c.run_kind.ensures)

pub returns-in-Number : goal.returns-in-Number
returns-in-Number c =
    let ss = words c.args.spellings.now in
    subst (λ (w : Stored). FindsKind ss (word_of w) c.run_kind-in-Number.result) (sym c.in-Number.is) (number_kind ss c.in-Number.bytes.now c.run_kind-in-Number.result c.run_kind-in-Number.ensures)

pub returns-in-Mark : goal.returns-in-Mark
returns-in-Mark c =
    let ss = words c.args.spellings.now in
    subst (λ (w : Stored). FindsKind ss (word_of w) c.literal_kind.result) (sym c.in-Mark.is) (mark_kind ss c.in-Mark.bytes.now c.literal_kind.result c.literal_kind.ensures)

pub returns-in-Stray : goal.returns-in-Stray
returns-in-Stray c = rw c.in-Stray.is (no_stray (words c.args.spellings.now) c.in-Stray.field-0.now)
