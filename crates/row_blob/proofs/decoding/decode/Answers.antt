-- The laws of the reading, at these bytes.
use Rattle.std.proofs.Common.{arith}
use Rattle.row_blob.proofs.KeptLaws.{is_found, is_read}
use Rattle.row_blob.proofs.Places.{is_place}
use Rattle.row_blob.proofs.decoding.decode.Goals as goal

pub returns-clause-found : goal.returns-clause-found
returns-clause-found c = is_found c.args.shape.now c.args.bytes.now c.read.result (λ i. omega (arith, c.type_inv.bytes i)) c.read.ensures

pub returns-clause-only : goal.returns-clause-only
returns-clause-only c = λ kept fits e. is_read c.args.shape.now c.args.bytes.now c.read.result kept fits e c.read.ensures

pub returns-clause-place : goal.returns-clause-place
returns-clause-place c = is_place c.args.shape.now c.args.bytes.now c.read.result (λ i. omega (arith, c.type_inv.bytes i)) c.read.ensures
