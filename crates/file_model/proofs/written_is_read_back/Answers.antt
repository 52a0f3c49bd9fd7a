use Rattle.file_model.proofs.Back.{written_is_read_back}
use Rattle.file_model.proofs.written_is_read_back.Goals as goal

pub returns : goal.returns
returns c = written_is_read_back
