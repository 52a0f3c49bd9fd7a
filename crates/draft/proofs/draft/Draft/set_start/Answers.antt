use Rattle.std.proofs.Common.{suc, refl, arith}
use Rattle.draft.specs.Calls.{start_out_of_range}
use Rattle.draft.proofs.Causes.{start_none}
use Rattle.draft.proofs.draft.Draft.set_start.Goals as goal

pub returns-then-symbol-gt15 : goal.returns-then-symbol-gt15
returns-then-symbol-gt15 c = (start_out_of_range (omega arith), start_none c.args.symbol 1 (λ l. absurd (omega arith)), refl)

pub returns : goal.returns
returns c = (λ n. start_none c.args.symbol (suc n) (λ l h. omega arith) n (omega arith), (refl, refl))
