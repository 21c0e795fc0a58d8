use Rattle.plan_text.proofs.CanonicalTokens.{canonical_spells}
use Rattle.plan_text.proofs.print_laws.canonical_spells.Goals as goal

pub returns : goal.returns
returns c = canonical_spells
