use Rattle.rewriter.proofs.LeastParts.{least_of_forms}
use Rattle.rewriter.proofs.laws.least_of_forms.Goals as goal

pub returns : goal.returns
returns c = least_of_forms
