-- Kept results over the streams of a table: of which plans and cuts they may be, and what their keys are made of.
use Rattle.std.specs.Prelude.{List, map, IsOk}
use Rattle.rows_core.specs.declared.cut.Cut.{Cut}
use Rattle.rows_core.specs.declared.file_ref.Digest.{Digest}
use Rattle.plan_core.specs.PlainPlan.{PlainPlan, leaves}
use Rattle.plan_core.specs.PlanTyping.{plan_typing}
use Rattle.catalog_types.specs.PlainEntry.{PlainEntry, PlainNewEntry}
use Rattle.catalog_types.specs.declared.extent.Extent.{Extent}
use Rattle.catalog_types.specs.declared.snapshot.StreamState.{StreamState}
use Rattle.entry_table.specs.Keyed.{Digests}
use Rattle.catalog_core.specs.Programs.{kinds_of_streams, AreCuts}

-- the plan has a typing, and the cuts are one interval for each of its leaves, up to the present extents at most
pub record IsOver (streams : List StreamState) (plan : PlainPlan) (cuts : List Cut) : Type 0 where
  pub typed : IsOk (plan_typing (kinds_of_streams streams) plan)
  pub are_cuts : AreCuts streams (leaves plan) cuts

abbrev pub IsResultOver : List StreamState → PlainNewEntry → Type 0
IsResultOver streams new = IsOver streams new.plan new.cuts

abbrev pub IsEntryOver : List StreamState → PlainEntry → Type 0
IsEntryOver streams e = IsOver streams e.plan e.cuts

-- the digests of a stream's extents, in the order of appending
abbrev pub extent_digests : List Extent → List Digest
extent_digests extents = map (λ extent. extent.file.digest) extents

-- those of each stream
abbrev pub digests_of : List StreamState → Digests
digests_of streams = map (λ stream. extent_digests stream.extents) streams
