-- Each step is on a shorter list.
use Rattle.std.proofs.Common.{length}
use Rattle.cases_operators.proofs.typing.+columns_typed.Given as goal

abbrev pub decreases-columns_typed : goal.decreases-columns_typed
decreases-columns_typed l = length l.columns.now
