-- The laws of the reading, at these bytes.
use Rattle.std.proofs.Common.{arith}
use Rattle.record_codec.proofs.Told.{found, few, only, place}
use Rattle.record_codec.proofs.reading.read_change.Goals as goal

pub returns-clause-found : goal.returns-clause-found
returns-clause-found c = found c.args.form c.args.bytes.now c.read.result (λ i. omega (arith, c.type_inv.bytes i)) c.read.ensures

pub returns-clause-few : goal.returns-clause-few
returns-clause-few c = few c.args.form c.args.bytes.now c.read.result (found c.args.form c.args.bytes.now c.read.result (λ i. omega (arith, c.type_inv.bytes i)) c.read.ensures)

pub returns-clause-only : goal.returns-clause-only
returns-clause-only c = λ change has e. only c.args.form c.args.bytes.now c.read.result change has e c.read.ensures

pub returns-clause-place : goal.returns-clause-place
returns-clause-place c = place c.args.form c.args.bytes.now c.read.result (λ i. omega (arith, c.type_inv.bytes i)) c.read.ensures
