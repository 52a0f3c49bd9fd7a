use Rattle.std.proofs.Common.{Ok, ap, ◌∙◌, arith}
use Rattle.syntax.specs.Syntax.{word_line, name}
use Rattle.syntax.specs.Model.{spelling}
use Rattle.spellings.specs.Model.{words}
use Rattle.file_lines.proofs.Written.{writes_none, turned, stopped, line}
use Rattle.spellings.proofs.Items.{as_many, item_at}
use Rattle.spellings.proofs.spellings.Spellings.put_words.Goals as goal

pub loop-word-init : goal.loop-word-init
loop-word-init c = writes_none c.args.out.now

pub returns-in_err-put_word_line : goal.returns-in_err-put_word_line
returns-in_err-put_word_line c =
    let ws = words c.args.self.now in
    let e = c.words-word-items.ensures.value in
    let i = c.loop-word.word-index in
    stopped word_line line ws c.args.out.now _ _ c.from_residual.ensures.1 c.loop-word.out c.put_word_line.new.out i name (spelling c.word-item.result)
    (omega (arith, as_many spelling _ ws e))
    (ap spelling c.word-item.is ∙ item_at spelling _ ws e i _ name c.loop-word-test.true)
    c.loop-word.invariant
    c.in_err-put_word_line.ensures

pub loop-word-preserved : goal.loop-word-preserved
loop-word-preserved c =
    let ws = words c.args.self.now in
    let e = c.words-word-items.ensures.value in
    let i = c.loop-word.word-index in
    turned word_line line ws c.args.out.now c.loop-word.out c.put_word_line.new.out i name (spelling c.word-item.result) (Ok tt)
    (omega (arith, as_many spelling _ ws e))
    (ap spelling c.word-item.is ∙ item_at spelling _ ws e i _ name c.loop-word-test.true)
    c.loop-word.invariant
    c.in_ok-put_word_line.ensures
