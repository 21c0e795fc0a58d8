-- The value has no float, so its text is known to the byte.
use Rattle.std.proofs.Common.{◌∙◌, ap}
use Rattle.serde_json.specs.Written.{compact_text, has_float}
use Rattle.catalog_core.specs.Catalogs.{table_of}
use Rattle.catalog_line.proofs.NoFloats.{catalog-has_none}
use Rattle.catalog_line.proofs.line.catalog_line.Goals as goal

pub returns : goal.returns
returns c =
    c.new.ensures ∙ c.in_ok-to_vec.ensures.text (ap has_float c.in_ok-value.ensures ∙ catalog-has_none (table_of c.args.catalog.now)) ∙ ap compact_text c.in_ok-value.ensures
