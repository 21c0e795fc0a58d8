-- The one field so far that is the name.
use Rattle.csv.specs.Records.{fields_of}
use Rattle.csv_script.proofs.PlaceLemmas.{IsFoundBelow}
use Rattle.csv_script.proofs.header.place_of.Given as goal

abbrev pub invariant-loop-place : goal.invariant-loop-place
invariant-loop-place l = IsFoundBelow l.name (fields_of l.header) l.place l.found
