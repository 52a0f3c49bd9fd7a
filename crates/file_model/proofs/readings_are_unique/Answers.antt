use Rattle.file_model.proofs.Unique.{reads_once}
use Rattle.file_model.proofs.readings_are_unique.Goals as goal

pub returns : goal.returns
returns c = reads_once
