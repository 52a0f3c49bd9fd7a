use Rattle.std.proofs.Common.{ℕ, sym, ap, ◌∙◌, subst}
use Rattle.engine.specs.Answers.{packed, Answers, book_refused, book_read}
use Rattle.engine.proofs.Bounds.{book_line}
use Rattle.engine.proofs.wembatogy_read.Goals as goal

pub pack-requires : goal.pack-requires
pack-requires c = book_line c.in-Err.ensures

pub returns-in-Ok : goal.returns-in-Ok
returns-in-Ok c = book_read c.in-Ok.ensures c.read_by.ensures

pub returns-in-Err : goal.returns-in-Err
returns-in-Err c =
    subst (λ (a : ℕ). Answers c.args.book.now c.args.line.now c.args.output.now a c.args.output.now)
    (sym (c.pack.ensures ∙ ap (λ (n : ℕ). packed n c.in-Err.fault.line) c.number.ensures))
    (book_refused c.in-Err.ensures)
