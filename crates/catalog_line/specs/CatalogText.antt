-- The line that tells the catalogue, without its LF.
use Rattle.std.specs.Prelude.{ℕ, List}
use Rattle.serde_json.specs.Written.{compact_text}
use Rattle.catalog_core.specs.Table.{Table}
use Rattle.catalog_line.specs.CatalogData.{catalog_data}

-- the catalogue as JSON with no space
abbrev pub catalog_text : Table → List ℕ
catalog_text t = compact_text (catalog_data t)
