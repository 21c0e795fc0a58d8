-- Each change that has a spelling keeps a table spelled.
use Rattle.std.proofs.Common.{ℕ, zero, suc, ◌+◌, ◌<◌, List, [], ◌∷◌, ◌++◌, length, Option, None, Some, length-append, arith}
use Rattle.std.specs.List.{AllByRecursion}
use Rattle.catalog_types.specs.PlainEntry.{PlainEntry, PlainNewEntry}
use Rattle.catalog_types.specs.declared.change.Change.{Change}
use Rattle.catalog_types.specs.declared.change.Change.TheVariants.{Stream, Append, Work, Collect, Checkpoint}
use Rattle.catalog_types.specs.declared.extent.Extent.{Extent}
use Rattle.catalog_types.specs.declared.program.Program.{Program}
use Rattle.catalog_types.specs.declared.snapshot.StreamState.{StreamState}
use Rattle.entry_table.specs.Ids.{without}
use Rattle.entry_table.specs.Keyed.{Digests}
use Rattle.entry_table.specs.Work.{with_uses, new_entries}
use Rattle.entry_table.proofs.Growth.{all-append, all-without, all-used}
use Rattle.record_codec.specs.Forms.{newest}
use Rattle.record_codec.specs.Spelling.{HasExtentSpelling, HasProgramSpelling, HasProgramIfSpelling, HasNewEntrySpelling, HasStreamSpelling, HasChangeSpelling}
use Rattle.catalog_core.specs.IsTable.{IsTable}
use Rattle.catalog_core.specs.Programs.{extents_at, below, above, is_below}
use Rattle.catalog_core.specs.Results.{digests_of}
use Rattle.catalog_core.specs.Table.{Table, new_stream, with_extent, updated, with_stored, Fits, after}
use Rattle.rows_core.specs.Limits.{most_extents}
use Rattle.catalog_core.proofs.StoredPrograms.{all-filtered}
use Rattle.folder.specs.Spelled.{IsSpelledEntry, IsSpelledTable}
use Rattle.folder.proofs.Restored.{restored-spelled}

all-behind : {A : Type 0} (P : A → Type 0) (xs ys : List A) → AllByRecursion P xs → AllByRecursion P ys → AllByRecursion P (xs ++ ys)
all-behind P [] ys front rest = rest
all-behind P (x ∷ xs) ys front rest = (front.0, all-behind P xs ys front.1 rest)

-- ---- streams

-- an extent more, where there were few enough
extent-more : (stream : StreamState) (extent : Extent) → HasExtentSpelling extent → length stream.extents < most_extents → HasStreamSpelling newest stream → HasStreamSpelling newest (with_extent extent stream)
extent-more stream extent has few spelled =
    let long = length-append stream.extents (extent ∷ []) in
    (spelled.0, spelled.1, (omega (arith, few, long), all-behind HasExtentSpelling stream.extents (extent ∷ []) spelled.2.1 (has, tt)))

extent-at : (streams : List StreamState) (place : ℕ) (extent : Extent) → HasExtentSpelling extent → length (extents_at streams place) < most_extents → AllByRecursion (HasStreamSpelling newest) streams
    → AllByRecursion (HasStreamSpelling newest) (updated (with_extent extent) streams place)
extent-at [] place extent has few spelled = tt
extent-at (s ∷ streams) zero extent has few spelled = (extent-more s extent has few spelled.0, spelled.1)
extent-at (s ∷ streams) (suc n) extent has few spelled = (spelled.0, extent-at streams n extent has few spelled.1)

-- ---- programs

stored-spelled : (program : Option Program) (programs : List Program) → HasProgramIfSpelling program → AllByRecursion HasProgramSpelling programs → AllByRecursion HasProgramSpelling (with_stored program programs)
stored-spelled None programs has spelled = spelled
stored-spelled (Some program) programs has spelled =
    all-behind HasProgramSpelling (below program.name programs) (program ∷ above program.name programs)
    (all-filtered HasProgramSpelling (λ other. is_below other.name program.name) programs spelled)
    (has, all-filtered HasProgramSpelling (λ other. is_below program.name other.name) programs spelled)

-- ---- kept results

news-spelled : (digests : Digests) (tick id : ℕ) (news : List PlainNewEntry) → AllByRecursion HasNewEntrySpelling news → AllByRecursion IsSpelledEntry (new_entries digests tick id news)
news-spelled digests tick id [] has = tt
news-spelled digests tick id (new ∷ news) has = (has.0, news-spelled digests tick (id + 1) news has.1)

work-spelled : (digests : Digests) (tick id : ℕ) (reads dropped : List ℕ) (news : List PlainNewEntry) (entries : List PlainEntry) → AllByRecursion HasNewEntrySpelling news
    → AllByRecursion IsSpelledEntry entries → AllByRecursion IsSpelledEntry (with_uses tick reads (without dropped entries) ++ new_entries digests tick id news)
work-spelled digests tick id reads dropped news entries has spelled =
    all-append IsSpelledEntry (with_uses tick reads (without dropped entries)) (new_entries digests tick id news)
    (all-used IsSpelledEntry IsSpelledEntry tick reads (λ e it. (it, it)) (without dropped entries) (all-without IsSpelledEntry dropped entries spelled))
    (news-spelled digests tick id news has)

-- ---- the whole

pub stays-spelled : (c : Change) (t : Table) → HasChangeSpelling c → Fits c t → IsTable t → IsSpelledTable t → IsSpelledTable (after c t)
stays-spelled (Stream name columns) t has fits is spelled = record {
  streams = all-behind (HasStreamSpelling newest) t.streams (new_stream name columns ∷ []) spelled.streams ((has.0, has.1, (omega arith, tt)), tt);
  programs = spelled.programs;
  entries = spelled.entries;
}
stays-spelled (Append place extent) t has fits is spelled = record {
  streams = extent-at t.streams place extent has.1 fits.has_place.1 spelled.streams;
  programs = spelled.programs;
  entries = spelled.entries;
}
stays-spelled (Work program reads dropped kept) t has fits is spelled = record {
  streams = spelled.streams;
  programs = stored-spelled program t.programs has.0 spelled.programs;
  entries = work-spelled (digests_of t.streams) (t.tick + 1) t.next_id reads dropped kept t.entries has.3.1 spelled.entries;
}
stays-spelled (Collect ids) t has fits is spelled = record {
  streams = spelled.streams;
  programs = spelled.programs;
  entries = all-without IsSpelledEntry ids t.entries spelled.entries;
}
stays-spelled (Checkpoint whole) t has fits is spelled = restored-spelled whole has
