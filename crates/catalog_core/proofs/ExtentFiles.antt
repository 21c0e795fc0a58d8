-- The files of a table's extents, and their lengths.
use Rattle.std.proofs.Common.{◌≡◌, refl, ℕ, zero, suc, List, [], ◌∷◌, length, map, slice_get, unwrap_or, arith}
use Rattle.std.specs.Prelude.{slice_index}
use Rattle.std.specs.Option.{option_map}
use Rattle.std.proofs.lemmas.List.{length-map}
use Rattle.rows_core.specs.declared.cut.Cut.{Cut}
use Rattle.rows_core.specs.declared.file_ref.FileRef.{FileRef}
use Rattle.estimator.specs.Bytes.{lengths_at, AreInStreams}
use Rattle.catalog_types.specs.declared.extent.Extent.{Extent}
use Rattle.catalog_types.specs.declared.snapshot.StreamState.{StreamState}
use Rattle.catalog_core.specs.Named.{lengths_of, no_file}
use Rattle.catalog_core.specs.Programs.{extents_at, AreCuts}

-- the file of one of these extents
abbrev file_in : List Extent → ℕ → FileRef
file_in extents number = unwrap_or (option_map (λ extent. extent.file) (slice_get extents number)) no_file

pub as-many-lengths : (streams : List StreamState) (place : ℕ) → length (lengths_at (lengths_of streams) place) ≡ length (extents_at streams place)
as-many-lengths [] place = refl
as-many-lengths (x ∷ xs) zero = length-map x.extents (λ (extent : Extent). extent.file.len)
as-many-lengths (x ∷ xs) (suc place) = as-many-lengths xs place

length-in : (extents : List Extent) (number : ℕ) → slice_index (map (λ extent. extent.file.len) extents) number ≡ (file_in extents number).len
length-in [] number = refl
length-in (x ∷ xs) zero = refl
length-in (x ∷ xs) (suc number) = length-in xs number

pub length-is : (streams : List StreamState) (place number : ℕ) → slice_index (lengths_at (lengths_of streams) place) number ≡ (file_in (extents_at streams place) number).len
length-is [] place number = refl
length-is (x ∷ xs) zero number = length-in x.extents number
length-is (x ∷ xs) (suc place) number = length-is xs place number

pub cuts-in : (streams : List StreamState) (leaves : List ℕ) (cuts : List Cut) → AreCuts streams leaves cuts → AreInStreams (lengths_of streams) leaves cuts
cuts-in streams [] [] are = tt
cuts-in streams [] (cut ∷ cuts) are = absurd are
cuts-in streams (leaf ∷ leaves) [] are = absurd are
cuts-in streams (leaf ∷ leaves) (cut ∷ cuts) are =
    (are.0.0, (let many = as-many-lengths streams leaf in omega (arith, are.0.1, many)), cuts-in streams leaves cuts are.1)
