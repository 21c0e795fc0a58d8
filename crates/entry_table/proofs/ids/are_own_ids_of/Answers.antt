-- Ids that differ and are there are no more than the entries.
use Rattle.std.proofs.Common.{arith}
use Rattle.entry_table.proofs.OwnIds.{own-few}
use Rattle.entry_table.proofs.ids.are_own_ids_of.Goals as goal

pub returns-then-ids-entries : goal.returns-then-ids-entries
returns-then-ids-entries c = (
  λ e. absurd cc,
  λ own. absurd (omega (arith, own-few c.args.entries.now c.args.ids.now own, c.if-ids-entries.true)),
)
