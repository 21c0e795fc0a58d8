use Rattle.executor.proofs.ReadParts.{loaded_of_came}
use Rattle.executor.proofs.finishing.gathered_piece.Goals as goal

pub returns : goal.returns
returns c = loaded_of_came c.into_made.result c.args.gathering.came c.into_made.ensures
