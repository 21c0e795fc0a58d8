-- The pieces of a rewriting over the kept results of a table.
use Rattle.std.specs.Prelude.{◌≡◌, List, length, Contains}
use Rattle.growth_laws.specs.Pieces.{Piece, Entry, Gathered}
use Rattle.growth_laws.specs.There.{ExtentCounts, IsWithin}
use Rattle.catalog_types.specs.PlainEntry.{PlainEntry}
use Rattle.catalog_types.specs.declared.snapshot.StreamState.{StreamState}
use Rattle.catalog_core.specs.Programs.{extents_at}
use Rattle.catalog_core.specs.Table.{Table}

-- how many extents each stream has
abbrev pub counts_of : List StreamState → ExtentCounts
counts_of streams = λ stream. length (extents_at streams stream)

-- a kept result of the plan has the id; or each interval ends within the extents of its leaf's stream
abbrev pub IsPieceOf : Table → Piece → Type 0
IsPieceOf t (Entry plan id) = (e : PlainEntry) × Contains t.entries e × (e.plan ≡ plan) × (e.id ≡ id)
IsPieceOf t (Gathered plan cuts) = IsWithin (counts_of t.streams) plan cuts
