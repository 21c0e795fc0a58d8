use Rattle.std.proofs.Common.{length}
use Rattle.cases_executor.proofs.within.+are_filed.Given as goal

abbrev pub decreases-are_filed : goal.decreases-are_filed
decreases-are_filed l = length l.results.now
