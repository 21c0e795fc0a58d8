-- What the table records of a command.
use Rattle.std.specs.Prelude.{◌≡◌, ℕ, ◌^◌, ◌<◌, List, length}
use Rattle.catalog_types.specs.declared.change.Change.{Change}
use Rattle.catalog_core.specs.Table.{Table, Fits}
use Rattle.record_codec.specs.Spelling.{change_spelling, HasChangeSpelling}

-- the change fits the table, and these bytes are its spelling
pub record IsRecordOf (t : Table) (change : Change) (body : List ℕ) : Type 0 where
  pub fits : Fits change t
  pub spelled : HasChangeSpelling change
  pub is_body : body ≡ change_spelling change
  pub short : length body < 2 ^ 29
