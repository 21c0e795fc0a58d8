use Rattle.plan_laws.proofs.KeptRows.{kept_rows}
use Rattle.plan_laws.proofs.kept.rows_of_kept_forms.Goals as goal

pub returns : goal.returns
returns c = kept_rows
