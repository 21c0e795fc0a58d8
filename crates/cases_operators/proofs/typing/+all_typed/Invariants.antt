-- Each step is on a shorter list.
use Rattle.std.proofs.Common.{length}
use Rattle.cases_operators.proofs.typing.+all_typed.Given as goal

abbrev pub decreases-all_typed : goal.decreases-all_typed
decreases-all_typed l = length l.rows.now
