-- The ids that lists have under a digest, and room for more of them.
use Rattle.std.specs.Prelude.{◌≡◌, ◌==◌, ℕ, ◌+◌, ◌≤◌, Bool, not, List, [], ◌∷◌, length, if◌then◌else◌, Vec, vec_capacity, IfSome}
use Rattle.std.specs.List.{All, filter, list_any}
use Rattle.std.specs.Option.{option_map_or}
use Rattle.std.specs.declared.alloc.Global.{Global}
use Rattle.indexmap.specs.IndexMap.{IndexMap, get, spare}
use Rattle.rows_core.specs.declared.file_ref.Digest.{Digest}
use Rattle.rows_core.specs.contracts.file_ref.DigestPartialEq.TheImpl as derived
use Rattle.cache_index.specs.declared.lists.IdLists.{IdLists}

-- what `==` says of two digests
abbrev pub same_digest : Digest → Digest → Bool
same_digest = derived.eq-value.it

-- it is one of the ids
abbrev pub is_among : List ℕ → ℕ → Bool
is_among ids id = list_any (λ other. other == id) ids

abbrev pub Ids : Type 0
Ids = Vec ℕ Global

abbrev pub ids_in : {S : Type 0} → IndexMap Digest Ids S → Digest → List ℕ
ids_in lists digest = option_map_or (λ ids. ids.items) (get same_digest lists digest) []

abbrev pub ids_under : IdLists → Digest → List ℕ
ids_under index digest = ids_in index.lists digest

-- what comes behind the ids under a digest, where this id is put under its own
abbrev pub added : Digest → ℕ → Digest → List ℕ
added own id digest = if same_digest own digest then id ∷ [] else []

-- what is left where these are taken out
abbrev pub others : List ℕ → List ℕ → List ℕ
others ids list = filter (λ id. not (is_among ids id)) list

-- ---- room for ids that come next, so that they want no memory

abbrev pub HasPlaces : ℕ → Ids → Type 0
HasPlaces more ids = length ids.items + more ≤ vec_capacity ids

-- so has the list under each digest
abbrev pub HavePlaces : {S : Type 0} → ℕ → IndexMap Digest Ids S → Type 0
HavePlaces more lists = (digest : Digest) → IfSome (get same_digest lists digest) (HasPlaces more)

abbrev pub IsSpare : ℕ → Ids → Type 0
IsSpare more ids = (ids.items ≡ []) × HasPlaces more ids

-- so many ids more fit, whatever their digests
pub record HasRoom (more : ℕ) (index : IdLists) : Type 0 where
  pub digests : more ≤ spare index.lists
  pub places : HavePlaces more index.lists
  pub lists : more ≤ length index.spare.items
  pub each : All (IsSpare more) index.spare.items
