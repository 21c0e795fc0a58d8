use Rattle.std.proofs.Common.{◌≡◌, ◌∙◌, false, true, sym}
use Rattle.entry_table.specs.Restoring.{is_fresh}
use Rattle.entry_table.proofs.Restored.{differ-is, stale-is, none-left}
use Rattle.entry_table.proofs.restoring.differ.Goals as goal

pub returns-then-not-branch : goal.returns-then-not-branch
returns-then-not-branch c =
    let l = c.loop-rest in
    let e = c.entry-item.result in
    let stale : is_fresh l.seen.keys e ≡ false = sym c.in_ok-is_fresh.ensures.fresh ∙ c.if-not-branch.true in
    differ-is c.args.entries.now false c.requires (sym (l.invariant.fresh ∙ stale-is l.seen.keys l.rest.now e c.in-len1-up.len_at_least c.entry-item.is stale))

pub returns : goal.returns
returns c =
    let l = c.loop-rest in
    differ-is c.args.entries.now true c.requires (sym (l.invariant.fresh ∙ none-left l.seen.keys l.rest.now c.in_default.len_below))
