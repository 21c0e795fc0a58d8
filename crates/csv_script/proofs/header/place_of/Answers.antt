-- What was found of all fields.
use Rattle.std.proofs.Common.{◌≤◌, length, arith}
use Rattle.csv.specs.Records.{fields_of}
use Rattle.csv_script.proofs.PlaceLemmas.{none_found, IsAt-found}
use Rattle.csv_script.proofs.header.place_of.Goals as goal

pub returns-in-Some-clause-ok : goal.returns-in-Some-clause-ok
returns-in-Some-clause-ok c =
    let all : length (fields_of c.args.header.now) ≤ c.loop-place.place = omega arith in
    IsAt-found c.args.name.now (fields_of c.args.header.now) c.loop-place.place c.loop-place.found c.in-Some.place c.loop-place.invariant c.in-Some.is all

pub returns-in-None-clause-refused : goal.returns-in-None-clause-refused
returns-in-None-clause-refused c k =
    let all : length (fields_of c.args.header.now) ≤ c.loop-place.place = omega arith in
    none_found c.args.name.now (fields_of c.args.header.now) c.loop-place.place c.loop-place.found c.loop-place.invariant c.in-None.is all k
