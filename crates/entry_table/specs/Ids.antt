-- Lists of ids, and the entries that they name.
pub use Rattle.cache_index.specs.Ids.{ids_of, ascend_above, left_of as without}
pub use Rattle.cache_index.specs.Lists.{is_among}
use Rattle.std.specs.Prelude.{ℕ, Bool, true, not, ◌&&◌, ◌==◌, List, [], ◌∷◌, IsTrue}
use Rattle.std.specs.List.{list_all, list_any}
use Rattle.catalog_types.specs.PlainEntry.{PlainEntry}

-- an entry has this id
abbrev pub is_there : List PlainEntry → ℕ → Bool
is_there entries id = list_any (λ e. e.id == id) entries

-- strictly ascending ids, from 1 on, of entries that are there
pub record AreIdsOf (entries : List PlainEntry) (ids : List ℕ) : Type 0 where
  pub ascend : IsTrue (ascend_above 0 ids)
  pub there : IsTrue (list_all (is_there entries) ids)

-- none stands there twice
abbrev pub differ : List ℕ → Bool
differ [] = true
differ (id ∷ ids) = not (is_among ids id) && differ ids

-- the ids, in any order, of entries that are there, each once
pub record AreOwnIdsOf (entries : List PlainEntry) (ids : List ℕ) : Type 0 where
  pub differ : IsTrue (differ ids)
  pub there : IsTrue (list_all (is_there entries) ids)
