use Rattle.std.proofs.Common.{ap, ◌∙◌, length-set, take_all}
use Rattle.engine.specs.Answers.{written}
use Rattle.engine.proofs.Writing.{write_more}
use Rattle.engine.proofs.write_records.Goals as goal

pub loop-i-preserved : goal.loop-i-preserved
loop-i-preserved c = (
  write_more c.args.records.now c.args.output.now c.loop-i.i _ c.loop-i-test.true c.requires c.loop-i.output c.loop-i.invariant.0,
  simp length-set c.loop-i.invariant.1,
)

pub returns : goal.returns
returns c = c.loop-i.invariant.0 ∙ ap (λ xs. written xs c.args.output.now) (take_all c.loop-i.i c.args.records.now c.loop-i-test.false)
