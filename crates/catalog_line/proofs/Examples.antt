-- What the line is for small tables, to the byte.
use Rattle.std.proofs.Common.{◌≡◌, refl, List, [], ◌∷◌, codes}
use Rattle.std.specs.Fmt.{digits}
use Rattle.rows_core.specs.declared.kind.Kind.TheVariants as kind
use Rattle.rows_core.specs.declared.schema.Column.{Column}
use Rattle.serde_json.proofs.OnLiterals.{serde_json_on_literals}
use Rattle.catalog_core.specs.Table.{Table, empty_table, new_stream, table_with}
use Rattle.catalog_line.specs.CatalogData.{stream_data, catalog_data}
use Rattle.catalog_line.specs.CatalogText.{catalog_text}

empty : catalog_text empty_table ≡ codes "{\"entries\":[],\"programs\":[],\"streams\":[],\"tick\":0}"
unfolding catalog_data digits serde_json_on_literals
empty = refl

-- stream orders (id:int, item:text, qty:int)
abbrev orders : List Column
orders =
    record { name = codes "id"; kind = kind.Int } ∷ record { name = codes "item"; kind = kind.Text } ∷ record { name = codes "qty"; kind = kind.Int } ∷ []

abbrev with_orders : Table
with_orders = table_with 1 1 1 (new_stream (codes "orders") orders ∷ []) [] []

one_stream : catalog_text with_orders
    ≡ codes "{\"entries\":[],\"programs\":[],\"streams\":[{\"columns\":[[\"id\",\"int\"],[\"item\",\"text\"],[\"qty\",\"int\"]],\"extents\":0,\"name\":\"orders\",\"rows\":0}],\"tick\":1}"
unfolding catalog_data stream_data digits serde_json_on_literals
one_stream = refl
