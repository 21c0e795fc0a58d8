use Rattle.growth_laws.proofs.AddedRows.{unchanged, scan_grows}
use Rattle.growth_laws.proofs.added.rows_added_to_leaves.Goals as goal

pub returns : goal.returns
returns c = record { unchanged = unchanged; scan = scan_grows }
