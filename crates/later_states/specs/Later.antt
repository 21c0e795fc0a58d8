-- Tables and states that come later, by commands that spare some kept results: streams grow, and those kept results stay.
use Rattle.std.specs.Prelude.{◌≡◌, ℕ, List, [], ◌∷◌, ◌++◌}
use Rattle.std.specs.List.{Contains}
use Rattle.catalog_types.specs.PlainEntry.{PlainEntry}
use Rattle.catalog_types.specs.declared.change.Change.{Change}
use Rattle.catalog_types.specs.declared.change.Change.TheVariants.{Work, Collect}
use Rattle.catalog_types.specs.declared.extent.Extent as of_table
use Rattle.catalog_types.specs.declared.snapshot.StreamState.{StreamState}
use Rattle.catalog_core.specs.Table.{Table}
use Rattle.folder.specs.State.{Extent, Stream, State, table}

-- each of these ids is held
abbrev pub AreHeld : List ℕ → List ℕ → Type 0
AreHeld held ids = (id : ℕ) → Contains ids id → Contains held id

-- none of these ids is
abbrev pub AreFree : List ℕ → List ℕ → Type 0
AreFree held ids = (id : ℕ) → Contains ids id → Contains held id → ⊥

-- the change evicts none of the held kept results
abbrev pub SparesHeld : List ℕ → Change → Type 0
SparesHeld held (Work program reads dropped kept) = AreFree held dropped
SparesHeld held (Collect ids) = AreFree held ids
SparesHeld held _ = Unit {0}

-- ---- tables

-- the same stream, with further extents behind its own, or none
pub record IsGrown (old new : StreamState) : Type 0 where
  pub name : new.name ≡ old.name
  pub columns : new.columns ≡ old.columns
  pub more : List of_table.Extent
  pub extents : new.extents ≡ old.extents ++ more

-- each stream stands grown at its place among the new ones, which may be more
abbrev pub AreGrown : List StreamState → List StreamState → Type 0
AreGrown [] news = Unit {0}
AreGrown (old ∷ olds) [] = ⊥
AreGrown (old ∷ olds) (new ∷ news) = IsGrown old new × AreGrown olds news

-- the same kept result: how often and when it was last used may differ
pub record IsSameResult (old new : PlainEntry) : Type 0 where
  pub id : new.id ≡ old.id
  pub plan : new.plan ≡ old.plan
  pub cuts : new.cuts ≡ old.cuts
  pub file : new.file ≡ old.file
  pub machine : new.machine ≡ old.machine

-- each kept result that is held is one of the new ones
abbrev pub StayKept : List ℕ → List PlainEntry → List PlainEntry → Type 0
StayKept held olds news = (e : PlainEntry) → Contains olds e → Contains held e.id → (f : PlainEntry) × Contains news f × IsSameResult e f

-- the second table comes later than the first, by commands that spare the held kept results
pub record IsLater (held : List ℕ) (t u : Table) : Type 0 where
  pub streams : AreGrown t.streams u.streams
  pub kept : StayKept held t.entries u.entries

-- ---- states

-- each stream stands at its place among the new ones, with further extents behind its own, or none
abbrev pub HaveMoreRows : List Stream → List Stream → Type 0
HaveMoreRows [] news = Unit {0}
HaveMoreRows (old ∷ olds) [] = ⊥
HaveMoreRows (old ∷ olds) (new ∷ news) = ((more : List Extent) × (new.extents ≡ old.extents ++ more)) × HaveMoreRows olds news

-- the second state comes later than the first: its table does, and the rows of each stream stand in front of further ones
pub record IsLaterState (held : List ℕ) (s u : State) : Type 0 where
  pub tables : IsLater held (table s) (table u)
  pub rows : HaveMoreRows s.streams u.streams
