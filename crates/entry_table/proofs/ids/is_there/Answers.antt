use Rattle.std.proofs.Common.{◌∙◌, ◌==◌, ap}
use Rattle.std.specs.Option.{is_some}
use Rattle.catalog_types.specs.PlainEntry.{PlainEntry}
use Rattle.entry_table.proofs.Places.{has-place}
use Rattle.entry_table.proofs.ids.is_there.Goals as goal

pub returns : goal.returns
returns c =
    c.is_some.ensures ∙ ap is_some c.place_of.ensures.place ∙ has-place (λ (e : PlainEntry). e.id == c.args.id) c.args.entries.now
