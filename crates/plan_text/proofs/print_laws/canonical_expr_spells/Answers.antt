use Rattle.plan_text.proofs.CanonicalTokens.{canonical_expr_spells}
use Rattle.plan_text.proofs.print_laws.canonical_expr_spells.Goals as goal

pub returns : goal.returns
returns c = canonical_expr_spells
