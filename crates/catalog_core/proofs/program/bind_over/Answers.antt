use Rattle.std.proofs.Common.{map, subst, ℕ, List}
use Rattle.rows_core.specs.declared.schema.Column.{Column}
use Rattle.plan_binder.specs.Binding.{Binds, binding}
use Rattle.catalog_core.specs.Programs as table
use Rattle.catalog_core.specs.Streams.{columns_of, states_of}
use Rattle.catalog_core.proofs.Places.{names-states, columns-states}
use Rattle.catalog_core.proofs.program.bind_over.Goals as goal

pub returns : goal.returns
returns c =
    subst (λ (columns : List (List Column)). Binds c.bind.result (binding (table.names_of (states_of c.args.streams.now)) columns c.args.plan.now)) (columns-states c.args.streams.now)
    (subst (λ (names : List (List ℕ)). Binds c.bind.result (binding names (map columns_of c.args.streams.now) c.args.plan.now)) (names-states c.args.streams.now) c.bind.ensures)
