-- What the making of a stream records, or why it is refused: the first case that holds.
use Rattle.std.specs.Prelude.{ℕ, nat_le, nat_lt, is_some, if◌then◌else◌, List, length, Result, Ok, Err}
use Rattle.rows_core.specs.declared.schema.Column.{Column}
use Rattle.rows_core.specs.Schema.{has_repeat}
use Rattle.catalog_types.specs.declared.change.Change.{Change}
use Rattle.catalog_types.specs.declared.change.Change.TheVariants as change
use Rattle.catalog_core.specs.Table.{Table, place_of}
use Rattle.rows_core.specs.Limits.{most_ticks, most_streams}
use Rattle.script_text.specs.declared.answer.LimitKind.TheVariants as limit
use Rattle.script_text.specs.declared.answer.Refusal.{Refusal}
use Rattle.script_text.specs.declared.answer.Refusal.TheVariants.{Limit, Exists, IllTyped}

-- the most columns of a stream
abbrev pub most_columns : ℕ
most_columns = 32

-- one more stream, behind the others
abbrev pub adding : Table → List ℕ → List Column → Result Change Refusal
adding t name columns =
    if nat_le most_streams (length t.streams) then Err (Limit limit.Streams) else
    if nat_le most_ticks t.tick then Err (Limit limit.Commands) else
    Ok (change.Stream name columns)

abbrev pub making : Table → List ℕ → List Column → Result Change Refusal
making t name columns =
    if is_some (place_of t.streams name) then Err (Exists name) else
    if has_repeat columns then Err IllTyped else
    if nat_lt most_columns (length columns) then Err (Limit limit.Columns) else
    adding t name columns
