-- The ids that an index has under digests.
use Rattle.std.specs.Prelude.{◌≡◌, ℕ, List, IsTrue}
use Rattle.std.specs.Coded.{Coded-set, coded_list, coded_ℕ}
use Rattle.std.specs.List.{AllByRecursion, filter}
use Rattle.rows_core.specs.declared.file_ref.Digest.{Digest}
use Rattle.catalog_types.specs.PlainEntry.{PlainEntry}
use Rattle.fingerprints.specs.Keys.{program_key}
use Rattle.cache_index.specs.declared.index.CacheIndex.{CacheIndex}
use Rattle.cache_index.specs.Ids.{ids_of, ascend_above}
use Rattle.cache_index.specs.Lists.{ids_under, same_digest}
use Rattle.cache_index.specs.Lists as lists

-- under a program key
abbrev pub of_program : CacheIndex → Digest → List ℕ
of_program index program = ids_under index.programs program

-- under a program-and-data key
abbrev pub under : CacheIndex → Digest → List ℕ
under index key = ids_under index.keys key

-- so many more entries fit without memory
abbrev pub HasRoom : ℕ → CacheIndex → Type 0
HasRoom more index = lists.HasRoom more index.programs × lists.HasRoom more index.keys

-- ---- the index of entries

abbrev pub ids_of_program : List PlainEntry → Digest → List ℕ
ids_of_program entries program = ids_of (filter (λ e. same_digest e.program program) entries)

abbrev pub ids_of_key : List PlainEntry → Digest → List ℕ
ids_of_key entries key = ids_of (filter (λ e. same_digest e.key key) entries)

-- under each digest are the ids of the entries that have it, in their order
pub record IsIndexOf (entries : List PlainEntry) (index : CacheIndex) : Type 0 where
  pub programs : (program : Digest) → of_program index program ≡ ids_of_program entries program
  pub keys : (key : Digest) → under index key ≡ ids_of_key entries key

-- what look-ups through the index rest on: the ids ascend, and the program key of each entry is that of its plan
pub record IsSearchable (entries : List PlainEntry) (index : CacheIndex) : Type 0 where
  pub indexed : IsIndexOf entries index
  pub ascend : IsTrue (ascend_above 0 (ids_of entries))
  pub keyed : AllByRecursion (λ e. e.program ≡ program_key e.plan) entries

pub IsIndexOf-prop : (entries : List PlainEntry) (index : CacheIndex) → IsProp (IsIndexOf entries index)
IsIndexOf-prop entries index x y = λ i. record {
  programs = λ program. Coded-set (coded_list coded_ℕ) _ _ (x.programs program) (y.programs program) i;
  keys = λ key. Coded-set (coded_list coded_ℕ) _ _ (x.keys key) (y.keys key) i;
}
