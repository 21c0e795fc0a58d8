-- The files of a table have numbers of their own.
use Rattle.std.specs.Prelude.{ℕ, ◌<◌, ◌==◌, List, ◌++◌, map}
use Rattle.std.specs.Coded.{le_prop}
use Rattle.std.specs.List.{AllByRecursion, AllByRecursion-prop, IsDistinct, flat_map}
use Rattle.std.proofs.lemmas.Map.Keys.{IsDistinct-prop}
use Rattle.catalog_types.specs.PlainEntry.{PlainEntry}
use Rattle.catalog_types.specs.declared.snapshot.StreamState.{StreamState}

-- the files of all extents, and those of the kept results
abbrev pub extent_files : List StreamState → List ℕ
extent_files streams = flat_map (λ stream. map (λ extent. extent.file.file) stream.extents) streams

abbrev pub result_files : List PlainEntry → List ℕ
result_files entries = map (λ e. e.file.file) entries

abbrev pub files_in : List StreamState → List PlainEntry → List ℕ
files_in streams entries = extent_files streams ++ result_files entries

-- it was given before the next one
abbrev pub IsGiven : ℕ → ℕ → Type 0
IsGiven next file = (0 < file) × (file < next)

-- each was given before the next one, and no two are the same
pub record HaveOwnFiles (next : ℕ) (streams : List StreamState) (entries : List PlainEntry) : Type 0 where
  pub given : AllByRecursion (IsGiven next) (files_in streams entries)
  pub differ : IsDistinct (λ a b. a == b) (files_in streams entries)

-- ---- each of these facts has one proof, so that it may stand in a field

pub IsGiven-prop : (next file : ℕ) → IsProp (IsGiven next file)
IsGiven-prop next file x y = λ i. (le_prop x.0 y.0 i, le_prop x.1 y.1 i)

pub HaveOwnFiles-prop : (next : ℕ) (streams : List StreamState) (entries : List PlainEntry) → IsProp (HaveOwnFiles next streams entries)
HaveOwnFiles-prop next streams entries x y = λ i. record {
  given = AllByRecursion-prop (IsGiven next) (IsGiven-prop next) (files_in streams entries) x.given y.given i;
  differ = IsDistinct-prop (λ a b. a == b) (files_in streams entries) x.differ y.differ i;
}
