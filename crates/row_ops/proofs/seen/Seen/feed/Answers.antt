use Rattle.std.proofs.Common.{ap, sym, ◌∙◌, ◌++◌}
use Rattle.indexmap.specs.IndexSet.{insert_all}
use Rattle.plan_core.specs.Columns.{Rows}
use Rattle.plan_laws.specs.GrowthOfRows.{new_rows}
use Rattle.row_ops.proofs.Sets.{derived_eq, set_with_rows}
use Rattle.row_ops.proofs.seen.Seen.feed.Goals as goal

pub returns-clause-first : goal.returns-clause-first
returns-clause-first c =
    c.in_ok-append.ensures.keys ∙ ap (insert_all derived_eq c.self.inside.rows.keys) c.in_ok-further.ensures
    ∙ set_with_rows c.self.inside.rows.keys c.args.rows.items
    ∙ ap (λ (keys : Rows). keys ++ new_rows keys c.args.rows.items) c.self.view_is

pub returns-clause-joined : goal.returns-clause-joined
returns-clause-joined c = λ fed is.
    c.in_ok-append.ensures.keys ∙ ap (insert_all derived_eq c.self.inside.rows.keys) c.in_ok-further.ensures
    ∙ set_with_rows c.self.inside.rows.keys c.args.rows.items
    ∙ ap (λ (keys : Rows). keys ++ new_rows keys c.args.rows.items) (c.self.view_is ∙ is)
    ∙ sym (c.first_of_equal_rows_of_joined_lists.ensures.old_first fed c.args.rows.items)
