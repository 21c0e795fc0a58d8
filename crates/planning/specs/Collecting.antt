-- What a collection takes, and what is recorded of it.
use Rattle.std.specs.Prelude.{◌≡◌, ℕ, ◌+◌, ◌^◌, ◌<◌, ◌≤◌, List, length, map, sum_by}
use Rattle.rows_core.specs.declared.file_ref.FileRef.{FileRef}
use Rattle.rewrite_core.specs.Files.{Result}
use Rattle.catalog_types.specs.declared.change.Change.TheVariants as change
use Rattle.collector.specs.Victims.{Collection, AreVictims}
use Rattle.rows_core.specs.Limits.{most_entries}
use Rattle.catalog_core.specs.Named.{file_at}
use Rattle.catalog_core.specs.Table.{Table, Fits}
use Rattle.record_codec.specs.Spelling.{change_spelling, HasChangeSpelling}
use Rattle.planning.specs.declared.collecting.CollectionPlan.{CollectionPlan}

-- the collection that is the next command: these ids are held, and nothing is leased
abbrev pub collection_of : Table → List ℕ → Collection
collection_of t held = record { now = t.tick + 1; pinned = held; lease = 0 }

-- the file of the kept result with this id
abbrev pub file_of : Table → ℕ → FileRef
file_of t id = file_at t (Result id)

-- the numbers of the files of these kept results, in the same order
abbrev pub files_of : Table → List ℕ → List ℕ
files_of t ids = map (λ id. (file_of t id).file) ids

-- how many bytes these files have together
abbrev pub bytes_of : Table → List ℕ → ℕ
bytes_of t ids = sum_by (λ id. (file_of t id).len) ids

-- These ids go, in this order, where so many bytes are wanted, and their files have so many bytes.
pub record IsCollection (t : Table) (held : List ℕ) (wanted : ℕ) (ids : List ℕ) (bytes : ℕ) : Type 0 where
  pub victims : AreVictims t.entries (collection_of t held) wanted ids
  pub is_bytes : bytes ≡ bytes_of t ids

-- The ids of the collection are recorded as they go, in the same order. The change of them fits the table; its bytes are its
-- spelling, and are few. The files are those of the results that go.
pub record IsCollectionPlan (t : Table) (held : List ℕ) (wanted : ℕ) (plan : CollectionPlan) : Type 0 where
  pub collection : IsCollection t held wanted plan.ids.items plan.bytes
  pub change : plan.change ≡ change.Collect plan.ids.items
  pub fits : Fits plan.change t
  pub spelled : HasChangeSpelling plan.change
  pub is_body : plan.body.items ≡ change_spelling plan.change
  pub short : length plan.body.items < 2 ^ 29
  pub files : plan.files.items ≡ files_of t plan.ids.items
  pub few : length plan.ids.items ≤ most_entries
