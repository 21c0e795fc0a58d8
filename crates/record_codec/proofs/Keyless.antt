-- A change without the keys of its entries is spelled as the change, and has a spelling where the change has.
use Rattle.std.proofs.Common.{◌≡◌, ℕ, suc, ◌^◌, ◌<◌, List, [], ◌∷◌, ◌++◌, length, map, refl, sym, ap, subst, ◌∙◌}
use Rattle.std.specs.Int.{w32, w64, to_be_bytes}
use Rattle.std.specs.List.{flat_map, AllByRecursion}
use Rattle.catalog_types.specs.PlainEntry.{PlainEntry}
use Rattle.catalog_types.specs.declared.change.Change.{Change}
use Rattle.catalog_types.specs.declared.change.Change.TheVariants as change
use Rattle.catalog_types.specs.declared.snapshot.Snapshot.{Snapshot}
use Rattle.record_codec.specs.Spelling.{listed, entry_spelling, program_spelling, stream_spelling, snapshot_spelling, spelling_in, HasEntrySpelling, HasSnapshotSpelling, HasSpellingIn, AreById, keyless_entry, keyless_snapshot, keyless}
use Rattle.record_codec.specs.declared.form.Form.{Form}
use Rattle.record_codec.specs.Forms.{checkpoint_byte}
use Rattle.record_codec.specs.Formats.{IsSpelledIn}

length_keyless : (entries : List PlainEntry) → length (map keyless_entry entries) ≡ length entries
length_keyless [] = refl
length_keyless (e ∷ entries) = ap (λ (n : ℕ). suc n) (length_keyless entries)

entries_spelled : (entries : List PlainEntry) → flat_map entry_spelling (map keyless_entry entries) ≡ flat_map entry_spelling entries
entries_spelled [] = refl
entries_spelled (e ∷ entries) = ap (λ (l : List ℕ). entry_spelling e ++ l) (entries_spelled entries)

entries_have : (entries : List PlainEntry) → AllByRecursion HasEntrySpelling entries → AllByRecursion HasEntrySpelling (map keyless_entry entries)
entries_have [] have = tt
entries_have (e ∷ entries) have = (have.0, entries_have entries have.1)

entries_by_id : (id : ℕ) (entries : List PlainEntry) → AreById id entries → AreById id (map keyless_entry entries)
entries_by_id id [] are = tt
entries_by_id id (e ∷ entries) are = (are.0, entries_by_id e.id entries are.1)

entries_twice : (entries : List PlainEntry) → map keyless_entry (map keyless_entry entries) ≡ map keyless_entry entries
entries_twice [] = refl
entries_twice (e ∷ entries) = ap (λ (l : List PlainEntry). keyless_entry e ∷ l) (entries_twice entries)

listed_entries : (entries : List PlainEntry) → listed entry_spelling (map keyless_entry entries) ≡ listed entry_spelling entries
listed_entries entries = λ i. to_be_bytes w32 (length_keyless entries i) ++ entries_spelled entries i

-- a checkpoint's spelling ends in that of its entries
snapshot_spelled : (s : Snapshot) → snapshot_spelling (keyless_snapshot s) ≡ snapshot_spelling s
snapshot_spelled s =
    ap
    (λ (l : List ℕ). to_be_bytes w32 s.tick ++ (to_be_bytes w64 s.next_file ++ (to_be_bytes w64 s.next_id ++ (listed stream_spelling s.streams ++ (listed program_spelling s.programs ++ l)))))
    (listed_entries s.entries)

snapshot_has : (f : Form) (s : Snapshot) → HasSnapshotSpelling f s → HasSnapshotSpelling f (keyless_snapshot s)
snapshot_has f s has =
    (has.0, has.1, has.2, has.3, has.4, ((subst (λ (n : ℕ). n < 2 ^ 32) (sym (length_keyless s.entries)) has.5.0.0, entries_have s.entries has.5.0.1), entries_by_id 0 s.entries has.5.1))

pub keyless_spelled : (f : Form) (c : Change) → spelling_in f (keyless c) ≡ spelling_in f c
keyless_spelled f (change.Stream name columns) = refl
keyless_spelled f (change.Append stream extent) = refl
keyless_spelled f (change.Work program reads dropped kept) = refl
keyless_spelled f (change.Collect ids) = refl
keyless_spelled f (change.Checkpoint whole) = ap (λ (l : List ℕ). checkpoint_byte f ∷ l) (snapshot_spelled whole)

pub keyless_is : (f : Form) (c : Change) → HasSpellingIn f c → IsSpelledIn f (keyless c)
keyless_is f (change.Stream name columns) has = (has, refl)
keyless_is f (change.Append stream extent) has = (has, refl)
keyless_is f (change.Work program reads dropped kept) has = (has, refl)
keyless_is f (change.Collect ids) has = (has, refl)
keyless_is f (change.Checkpoint whole) has =
    (snapshot_has f whole has, ap (λ (entries : List PlainEntry). change.Checkpoint (record { tick = whole.tick; next_file = whole.next_file; next_id = whole.next_id; streams = whole.streams; programs = whole.programs; entries = entries })) (entries_twice whole.entries))
