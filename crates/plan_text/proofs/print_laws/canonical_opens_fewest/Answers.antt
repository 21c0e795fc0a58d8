use Rattle.plan_text.proofs.CanonicalSpelled.{canonical_opens_fewest}
use Rattle.plan_text.proofs.print_laws.canonical_opens_fewest.Goals as goal

pub returns : goal.returns
returns c = canonical_opens_fewest
