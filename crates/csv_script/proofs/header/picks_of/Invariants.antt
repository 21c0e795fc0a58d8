-- The places of the columns so far.
use Rattle.std.proofs.Common.{take}
use Rattle.csv.specs.Records.{fields_of}
use Rattle.csv_script.specs.Records.{ArePicks}
use Rattle.csv_script.proofs.header.picks_of.Given as goal

abbrev pub invariant-loop-at : goal.invariant-loop-at
invariant-loop-at l = ArePicks (fields_of l.header) (take l.at l.columns) l.picks.items
