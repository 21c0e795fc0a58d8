use Rattle.admission.proofs.Recorded.{all-may-be-kept}
use Rattle.admission.proofs.laws.admitted_results_may_be_kept.Goals as goal

pub returns : goal.returns
returns c = λ entries dropped file mades admitted few timed admits. all-may-be-kept entries dropped file few mades admitted timed admits
