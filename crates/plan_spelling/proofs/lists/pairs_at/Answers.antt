-- What each call of the closure gives.
use Rattle.std.proofs.Common.{rules}
use Rattle.std.proofs.lemmas.Result.{err_from_is_err_and}
use Rattle.byte_formats.specs.Format.{byte}
use Rattle.byte_formats.proofs.Loop.{counted_reads, counted_fails}
use Rattle.plan_spelling.specs.Formats.{pair_format}
use Rattle.plan_spelling.proofs.lists.pairs_at.Goals as goal

pub returns : goal.returns
returns c =
    rw c.new.ensures
    (counted_reads byte pair_format c.in_ok-count.count c.in_ok-pairs.pairs.items c.args.bytes.now c.in_ok-count.rest.now c.in_ok-pairs.rest.now c.in_ok-count.ensures
    (c.in_ok-pairs.ensures pair_format.read (λ bytes r e. search rules)))

pub returns-in_err-pairs : goal.returns-in_err-pairs
returns-in_err-pairs c =
    let p = err_from_is_err_and c.from_residual-in_err-pairs.result c.from_residual-in_err-pairs.ensures.1 in
    rw (p.1, p.2)
    (counted_fails byte pair_format c.in_err-pairs.field-0.0 c.in_ok-count.count c.args.bytes.now c.in_ok-count.rest.now c.in_ok-count.ensures
    (c.in_err-pairs.ensures pair_format.read (λ bytes r e. search rules)))
