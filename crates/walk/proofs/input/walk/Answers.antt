use Rattle.std.proofs.Common.{subst}
use Rattle.std.proofs.lemmas.Result.{on_ok_weaker}
use Rattle.reports.specs.Reports.{Printed}
use Rattle.walk.proofs.Taking.{kept_printed, walked, refused}
use Rattle.walk.proofs.input.walk.Goals as goal

pub returns-in_ok-flush-in-Some : goal.returns-in_ok-flush-in-Some
returns-in_ok-flush-in-Some g c =
    let contents = g.W.Write.contents in
    let printed = subst (λ found. Printed c.args.text.now found (contents c.args.out.now) (contents c.print_book.new.out)) c.in-Some.is c.in_ok-book.ensures in
    let kept = kept_printed c.args.text.now c.in-Some.book (contents c.args.out.now) (contents c.print_book.new.out) (contents c.flush.new.self) printed c.flush.ensures.bytes in
    on_ok_weaker c.judge_lines.result
    (walked c.args.text.now (g.R.Read.remaining c.args.input.now) c.in-Some.book (contents c.args.out.now) (contents c.flush.new.self) _ kept)
    c.judge_lines.ensures

pub returns-in-None : goal.returns-in-None
returns-in-None g c =
    let contents = g.W.Write.contents in
    let printed = subst (λ found. Printed c.args.text.now found (contents c.args.out.now) (contents c.print_book.new.out)) c.in-None.is c.in_ok-book.ensures in
    refused c.args.text.now (g.R.Read.remaining c.args.input.now) (contents c.args.out.now) (contents c.print_book.new.out) printed
