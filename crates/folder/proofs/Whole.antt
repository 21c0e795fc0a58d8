-- A table whose parts have spellings has one as a checkpoint.
use Rattle.std.proofs.Common.{◌≡◌, ℕ, ◌≤◌, true, nat_lt, List, [], ◌∷◌, arith}
use Rattle.std.specs.List.{AllByRecursion, list_all}
use Rattle.std.proofs.lemmas.Bool.{and_parts, ltb-true}
use Rattle.catalog_types.specs.PlainEntry.{PlainEntry}
use Rattle.entry_table.specs.AreKept.{IsEntry, IsPast}
use Rattle.entry_table.specs.Ids.{ids_of}
use Rattle.record_codec.specs.Forms.{newest}
use Rattle.record_codec.specs.Spelling.{HasEntrySpelling, HasSnapshotSpelling}
use Rattle.catalog_core.specs.IsTable.{IsTable}
use Rattle.catalog_core.specs.Table.{Table}
use Rattle.rows_core.specs.Limits.{file_end, most_ticks}
use Rattle.folder.specs.Spelled.{IsSpelledEntry, IsSpelledTable}
use Rattle.folder.proofs.Order.{by-name, by-id}

-- its id, its uses and its ticks are numbers of four bytes
entry-spelled : (next tick : ℕ) (e : PlainEntry) → next ≤ file_end → tick ≤ most_ticks → nat_lt e.id next ≡ true → IsEntry e → IsPast tick e → IsSpelledEntry e
    → HasEntrySpelling e
entry-spelled next tick e last counted below is past spelled =
    let id = ltb-true e.id next below in
    let uses = is.counted in
    let made = past.0 in
    let used = past.1 in
    (omega (arith, id, last), spelled, omega (arith, uses), omega (arith, used, counted), omega (arith, made, used, counted))

entries-spelled : (next tick : ℕ) (entries : List PlainEntry) → next ≤ file_end → tick ≤ most_ticks → list_all (λ id. nat_lt id next) (ids_of entries) ≡ true → AllByRecursion IsEntry entries
    → AllByRecursion (IsPast tick) entries → AllByRecursion IsSpelledEntry entries → AllByRecursion HasEntrySpelling entries
entries-spelled next tick [] last counted below are past spelled = tt
entries-spelled next tick (e ∷ entries) last counted below are past spelled =
    let parts = and_parts (nat_lt e.id next) (list_all (λ id. nat_lt id next) (ids_of entries)) below in
    (entry-spelled next tick e last counted parts.0 are.0 past.0 spelled.0, entries-spelled next tick entries last counted parts.1 are.1 past.1 spelled.1)

pub whole-spelled : (t : Table) → IsTable t → IsSpelledTable t → HasSnapshotSpelling newest t
whole-spelled t is spelled =
    let counted = is.counted in
    let last = is.last_file in
    let ids = is.ids in
    let few-streams = is.few_streams in
    let few-programs = is.few_programs in
    let few-entries = is.kept.few in
    let next : t.next_id ≤ file_end = omega (arith, ids, last) in (
      omega (arith, counted),
      omega (arith, last),
      omega (arith, next),
      (omega (arith, few-streams), spelled.streams),
      ((omega (arith, few-programs), spelled.programs), by-name t.programs is.by_name),
      ((omega (arith, few-entries), entries-spelled t.next_id t.tick t.entries next counted is.kept.below is.kept.are_entries is.past spelled.entries), by-id 0 t.entries is.kept.ascend),
    )
