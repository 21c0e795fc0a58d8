use Rattle.std.proofs.Common.{sym, ap, ◌∙◌, ◌++◌}
use Rattle.plan_core.specs.Distinct.{distinct_rows}
use Rattle.plan_laws.proofs.JoinedRows.{distinct_joined, new_to_distinct}
use Rattle.plan_laws.proofs.growth_of_rows.first_of_equal_rows_of_joined_lists.Goals as goal

pub returns-clause-old_first : goal.returns-clause-old_first
returns-clause-old_first c = λ a b. distinct_joined a b ∙ ap (λ l. distinct_rows a ++ l) (sym (new_to_distinct a b))

pub returns-clause-all_asked : goal.returns-clause-all_asked
returns-clause-all_asked c = new_to_distinct
