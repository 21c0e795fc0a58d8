-- What has a spelling in a form has one in the newest, and a checkpoint tells its form.
use Rattle.std.proofs.Common.{◌≡◌, List, [], ◌∷◌, refl}
use Rattle.std.specs.List.{AllByRecursion}
use Rattle.rows_core.specs.declared.schema.Column.{Column}
use Rattle.catalog_types.specs.declared.change.Change.{Change}
use Rattle.catalog_types.specs.declared.change.Change.TheVariants.{Stream, Append, Work, Collect, Checkpoint}
use Rattle.catalog_types.specs.declared.snapshot.Snapshot.{Snapshot}
use Rattle.catalog_types.specs.declared.snapshot.StreamState.{StreamState}
use Rattle.record_codec.specs.declared.form.Form.{Form}
use Rattle.record_codec.specs.declared.form.Form.TheVariants as form
use Rattle.record_codec.specs.Forms.{form_of, newest}
use Rattle.record_codec.specs.Spelling.{spelling_in, IsColumn, HasStreamSpelling, HasSpellingIn, HasChangeSpelling}

columns_newer : (f : Form) (columns : List Column) → AllByRecursion (IsColumn f) columns → AllByRecursion (IsColumn newest) columns
columns_newer f [] are = tt
columns_newer f (c ∷ columns) are = ((are.0.0, tt), columns_newer f columns are.1)

streams_newer : (f : Form) (streams : List StreamState) → AllByRecursion (HasStreamSpelling f) streams → AllByRecursion (HasStreamSpelling newest) streams
streams_newer f [] have = tt
streams_newer f (s ∷ streams) have = ((have.0.0, (have.0.1.0, columns_newer f s.columns have.0.1.1), have.0.2), streams_newer f streams have.1)

pub newer : (f : Form) (change : Change) → HasSpellingIn f change → HasChangeSpelling change
newer f (Stream name columns) has = (has.0, (has.1.0, columns_newer f columns has.1.1))
newer f (Append stream extent) has = has
newer f (Work program reads dropped kept) has = has
newer f (Collect ids) has = has
newer f (Checkpoint whole) has = (has.0, has.1, has.2, (has.3.0, streams_newer f whole.streams has.3.1), has.4, has.5)

pub told : (f : Form) (whole : Snapshot) → form_of (spelling_in f (Checkpoint whole)) ≡ f
told form.First whole = refl
told form.Second whole = refl
