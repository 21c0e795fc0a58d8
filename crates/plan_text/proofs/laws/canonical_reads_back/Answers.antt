use Rattle.plan_text.specs.Canonical.{canonical_text}
use Rattle.plan_text.proofs.CanonicalTokens.{canonical_spells}
use Rattle.plan_text.proofs.Texts.{one_plan_of_text}
use Rattle.plan_text.proofs.laws.canonical_reads_back.Goals as goal

pub returns : goal.returns
returns c plan other text s t = one_plan_of_text other plan (canonical_text plan) t (canonical_spells plan text s)
