use Rattle.entry_table.proofs.Files.{files-fit}
use Rattle.entry_table.proofs.laws.new_ids_fit.Goals as goal

pub returns : goal.returns
returns c = λ next_id next_file news ids last files. files-fit next_id next_file news ids last files
