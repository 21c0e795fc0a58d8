-- One entry more at each turn.
use Rattle.std.proofs.Common.{ℕ}
use Rattle.std.proofs.lemmas.Result.{err_from_is_err_and}
use Rattle.catalog_types.specs.PlainEntry.{PlainEntry}
use Rattle.record_codec.specs.Formats.{entry_from}
use Rattle.record_codec.proofs.ChainLoop.{chain_start, chain_more, chain_end, chain_fails}
use Rattle.record_codec.proofs.entries.so_many_entries_at.Goals as goal

abbrev id_of : ℕ → PlainEntry → ℕ
id_of previous e = e.id

pub loop-init : goal.loop-init
loop-init c = rw c.new-entries.ensures.items (chain_start entry_from id_of c.args.count 0 c.args.bytes.now)

pub returns-in_err-entry : goal.returns-in_err-entry
returns-in_err-entry c =
    let p = err_from_is_err_and c.from_residual.result c.from_residual.ensures.1 in
    rw (p.1, p.2)
    (chain_fails entry_from id_of c.in_err-entry.field-0.0 c.args.count c.loop.counter 0 c.loop.previous c.loop.entries.items c.loop.rest.now c.args.bytes.now c.loop-test.true c.in_err-entry.ensures c.loop.invariant)

pub loop-preserved : goal.loop-preserved
loop-preserved c =
    rw (c.in_ok-push.ensures.items, c.id_of-previous.ensures)
    (chain_more entry_from id_of c.args.count c.loop.counter 0 c.loop.previous c.loop.entries.items c.loop.rest.now c.in_ok-entry.entry c.in_ok-entry.after.now c.args.bytes.now c.loop-test.true c.in_ok-entry.ensures c.loop.invariant)

pub returns : goal.returns
returns c = chain_end entry_from id_of c.args.count c.loop.counter 0 c.loop.previous c.loop.entries.items c.loop.rest.now c.args.bytes.now c.loop-test.false c.loop.invariant
