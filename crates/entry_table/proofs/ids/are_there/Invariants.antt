-- The ids that are left are there where all are.
use Rattle.std.proofs.Common.{◌≡◌, length}
use Rattle.std.specs.List.{list_all}
use Rattle.entry_table.specs.Ids.{is_there}
use Rattle.entry_table.proofs.ids.are_there.Given as goal

abbrev pub invariant-loop-rest : goal.invariant-loop-rest
invariant-loop-rest l = list_all (is_there l.entries) l.ids ≡ list_all (is_there l.entries) l.rest

abbrev pub decreases-loop-rest : goal.decreases-loop-rest
decreases-loop-rest l = length l.rest
