-- The limits within which a catalogue stays, as far as the length of a change's spelling hangs on them.
use Rattle.std.specs.Prelude.{ℕ, ◌+◌, ◌≤◌, List, [], ◌∷◌, length, Option, Some, None}
use Rattle.std.specs.List.{AllByRecursion}
use Rattle.plan_spelling.specs.Spelling.{plan_spelling}
use Rattle.catalog_types.specs.PlainEntry.{PlainEntry, PlainNewEntry}
use Rattle.catalog_types.specs.declared.change.Change.{Change}
use Rattle.catalog_types.specs.declared.change.Change.TheVariants.{Stream, Append, Work, Collect, Checkpoint}
use Rattle.catalog_types.specs.declared.program.Program.{Program}
use Rattle.catalog_types.specs.declared.snapshot.StreamState.{StreamState}

-- at most 65,536 bytes
abbrev pub IsShort : List ℕ → Type 0
IsShort bytes = length bytes ≤ 65536

abbrev pub AreAtMost : {A : Type 0} → ℕ → (A → Type 0) → List A → Type 0
AreAtMost limit P items = (length items ≤ limit) × AllByRecursion P items

abbrev pub HasShortText : Program → Type 0
HasShortText p = IsShort p.text

abbrev pub HasShortTextIf : Option Program → Type 0
HasShortTextIf None = Unit {0}
HasShortTextIf (Some program) = HasShortText program

abbrev pub HasShortPlan : PlainNewEntry → Type 0
HasShortPlan e = IsShort (plan_spelling e.plan)

abbrev pub KeepsShortPlan : PlainEntry → Type 0
KeepsShortPlan e = IsShort (plan_spelling e.plan)

-- the extents of all streams
abbrev pub extent_count : List StreamState → ℕ
extent_count [] = 0
extent_count (s ∷ streams) = length s.extents + extent_count streams

-- At most 4,096 kept results, 1,024 streams, 262,144 extents and 1,024 programs; each text of a program and each plan's
-- spelling has at most 65,536 bytes.
abbrev pub IsWithinLimits : Change → Type 0
IsWithinLimits (Stream name columns) = Unit {0}
IsWithinLimits (Append stream extent) = Unit {0}
IsWithinLimits (Work program reads dropped kept) =
    HasShortTextIf program × (length reads ≤ 4096) × (length dropped ≤ 4096) × AreAtMost 4096 HasShortPlan kept
IsWithinLimits (Collect ids) = length ids ≤ 4096
IsWithinLimits (Checkpoint whole) =
    (length whole.streams ≤ 1024) × (extent_count whole.streams ≤ 262144)
    × AreAtMost 1024 HasShortText whole.programs × AreAtMost 4096 KeepsShortPlan whole.entries
