-- No number of the catalogue's JSON is a float, so that its text is known to the byte.
use Rattle.std.proofs.Common.{◌≡◌, refl, ap, ℕ, false, ◌||◌, List, [], ◌∷◌, map}
use Rattle.std.specs.List.{zip}
use Rattle.serde_json.specs.Data.{Data}
use Rattle.serde_json.specs.Written.{has_float}
use Rattle.rows_core.specs.declared.cut.Cut.{Cut}
use Rattle.plan_core.specs.PlainPlan.{leaves}
use Rattle.plan_text.specs.Answer.{text_reading}
use Rattle.catalog_types.specs.PlainEntry.{PlainEntry}
use Rattle.catalog_types.specs.declared.program.Program.{Program}
use Rattle.catalog_types.specs.declared.snapshot.StreamState.{StreamState}
use Rattle.catalog_core.specs.Table.{Table}
use Rattle.catalog_line.specs.CatalogData.{list_of, cut_data, cuts_data, column_data, stream_data, leaf_names, program_data, name_at, entry_data, catalog_data}

list-has_none : {A : Type 0} (told : A → Data) → ((x : A) → has_float (told x) ≡ false) → (xs : List A) → has_float (list_of told xs) ≡ false
list-has_none told none [] = refl
list-has_none told none (x ∷ xs) = λ i. none x i || list-has_none told none xs i

cuts-have_none : (names : List (List ℕ)) (cuts : List Cut) → has_float (cuts_data names cuts) ≡ false
cuts-have_none names cuts = list-has_none cut_data (λ leaf. refl) (zip names cuts)

stream-has_none : (stream : StreamState) → has_float (stream_data stream) ≡ false
unfolding stream_data
stream-has_none stream = ap (λ b. b || false) (list-has_none column_data (λ column. refl) stream.columns)

program-has_none : (program : Program) → has_float (program_data program) ≡ false
unfolding program_data
program-has_none program = ap (λ b. b || false) (cuts-have_none (leaf_names (text_reading program.text)) program.cuts)

entry-has_none : (streams : List StreamState) (e : PlainEntry) → has_float (entry_data streams e) ≡ false
unfolding entry_data
entry-has_none streams e = ap (λ b. b || false) (cuts-have_none (map (name_at streams) (leaves e.plan)) e.cuts)

pub catalog-has_none : (t : Table) → has_float (catalog_data t) ≡ false
unfolding catalog_data
catalog-has_none t = λ i.
    list-has_none (entry_data t.streams) (entry-has_none t.streams) t.entries i
    || (list-has_none program_data program-has_none t.programs i || (list-has_none stream_data stream-has_none t.streams i || false))
