-- Each step is on a shorter list.
use Rattle.std.proofs.Common.{length}
use Rattle.cases_operators.proofs.typing.+are_typed.Given as goal

abbrev pub decreases-are_typed : goal.decreases-are_typed
decreases-are_typed l = length l.rows.now
