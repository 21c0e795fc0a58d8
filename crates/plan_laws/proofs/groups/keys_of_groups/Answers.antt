use Rattle.std.proofs.Common.{sym, map}
use Rattle.rows_core.specs.Value.{row_eq}
use Rattle.plan_core.specs.Columns.{columns_of}
use Rattle.plan_laws.proofs.FirstOfEqual.{differ, has_all, has_no_more}
use Rattle.rows_core.specs.Equality.{row_eq-Decides}
use Rattle.plan_laws.proofs.Members.{kept, was_there, mapped, mapped_from}
use Rattle.plan_laws.proofs.groups.keys_of_groups.Goals as goal

pub returns-clause-differ : goal.returns-clause-differ
returns-clause-differ c = λ keys rows. differ (map (columns_of keys) rows)

pub returns-clause-each : goal.returns-clause-each
returns-clause-each c = λ keys rows row at. has_all (map (columns_of keys) rows) (columns_of keys row) (mapped (columns_of keys) rows row at)

pub returns-clause-no_other : goal.returns-clause-no_other
returns-clause-no_other c = λ keys rows key at. mapped_from (columns_of keys) rows key (has_no_more (map (columns_of keys) rows) key at)

pub returns-clause-members : goal.returns-clause-members
returns-clause-members c = λ keys rows key row. (
  λ at. let both = was_there (λ r. row_eq key (columns_of keys r)) rows row at in (both.0, sym ((row_eq-Decides key (columns_of keys row)).0 both.1)),
  λ both. kept (λ r. row_eq key (columns_of keys r)) rows row both.0 ((row_eq-Decides key (columns_of keys row)).1 (sym both.1)),
)
