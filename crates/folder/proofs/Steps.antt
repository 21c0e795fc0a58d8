-- The states that follow from one, as next states of a store.
use Rattle.std.proofs.Common.{◌≡◌, inl, inr, ℕ, List, [], length, take, Option, refl, sym, ap, subst, ◌∙◌}
use Rattle.std.proofs.Math.Seq.{take-length}
use Rattle.std.specs.List.{AllByRecursion}
use Rattle.outside_traits.specs.View.{View, Now, Only}
use Rattle.rows_core.specs.declared.file_ref.FileRef.{FileRef}
use Rattle.rows_core.specs.declared.schema.Column.{Column}
use Rattle.rows_core.specs.declared.value.Value.{Value}
use Rattle.row_blob.specs.Spelling.{kept_spelling}
use Rattle.catalog_types.specs.PlainEntry.{PlainNewEntry}
use Rattle.catalog_types.specs.declared.change.Change.TheVariants as change
use Rattle.catalog_types.specs.declared.program.Program.{Program}
use Rattle.catalog_core.specs.Table.{Fits}
use Rattle.catalog_core.proofs.AskedResults.{all-at}
use Rattle.folder.specs.State.{State, IsValid, extent_of, table, file_bytes}
use Rattle.folder.specs.Sound.{Care, Shown, Whole, Holds}
use Rattle.folder.specs.Left.{IsSettled}
use Rattle.folder.specs.Standing.{IsNext}
use Rattle.folder.specs.Next.{with_stream, with_rows, with_run, with_work, with_collection, new_extent, AreRowsOf, IsReadyResult}
use Rattle.folder.proofs.NextStates.{table-with_stream, table-with_rows, table-with_work, table-with_collection, names-with_stream, names-with_rows, valid-with_stream, valid-with_rows}
use Rattle.folder.proofs.ResultStates.{names-with_work, names-with_collection, valid-with_work, valid-with_collection, one-form, new-ref, work-is-run}

-- a file that has its bytes holds them, however much is known of it
pub holds_bytes : (care : Care) (at : FileRef) (bytes file : List ℕ) → at.len ≡ length bytes → file ≡ bytes → Holds care at bytes file
holds_bytes care at bytes file len is = by care (ap (λ (l : List ℕ). take at.len l) is ∙ ap (λ n. take n bytes) len ∙ take-length bytes)
  where
    by : (c : Care) → take at.len file ≡ bytes → Holds c at bytes file
    by Whole e = e
    by Shown e = λ digest. e

module _ (care : Care) (v : View) (s : State) (settled : IsSettled care v s) (valid : IsValid s) where
  pub next_stream : (name : List ℕ) (columns : List Column) → Fits (change.Stream name columns) (table s) → IsNext care v s (change.Stream name columns) (with_stream s name columns)
  next_stream name columns fits = record {
    step = ((refl, fits), table-with_stream s name columns);
    valid = valid-with_stream s name columns valid;
    ready = λ image is at bytes names. (settled image is).holds at bytes (names-with_stream s name columns valid at bytes names);
  }

  pub next_work : (program : Option Program) (reads dropped : List ℕ) (kept : List PlainNewEntry) → Fits (change.Work program reads dropped kept) (table s)
      → AllByRecursion (IsReadyResult v s.streams) kept → IsNext care v s (change.Work program reads dropped kept) (with_work s program reads dropped kept)
  next_work program reads dropped kept fits ready = record {
    step = ((refl, fits), table-with_work s program reads dropped kept);
    valid = valid-with_work v s valid program reads dropped kept fits ready;
    ready = λ image is at bytes names. elim (names-with_work s program reads dropped kept at bytes names) [
      | inl old ↦ (settled image is).holds at bytes old
      | inr new ↦
          let one = all-at (IsReadyResult v s.streams) kept new.new ready new.has in
          let number : at.file ≡ new.new.file.file = ap (λ (r : FileRef). r.file) new.at_is in
          let same : kept_spelling one.0 ≡ bytes = ap kept_spelling (sym (one-form v s.streams kept at bytes new one)) ∙ sym new.bytes_are in
          let len : at.len ≡ length bytes = ap (λ (r : FileRef). r.len) (new-ref v s.streams kept at bytes new one) in
          holds_bytes care at bytes (image at.file) len (ap image number ∙ one.2 (image new.new.file.file) (is new.new.file.file) ∙ same)
    ];
  }

  pub next_run : (program : Option Program) → Fits (change.Work program [] [] []) (table s) → IsNext care v s (change.Work program [] [] []) (with_run s program)
  next_run program fits = subst (λ (x : State). IsNext care v s (change.Work program [] [] []) x) (work-is-run s program) (next_work program [] [] [] fits tt)

  pub next_collection : (ids : List ℕ) → Fits (change.Collect ids) (table s) → IsNext care v s (change.Collect ids) (with_collection s ids)
  next_collection ids fits = record {
    step = ((refl, fits), table-with_collection s ids);
    valid = valid-with_collection v s valid ids;
    ready = λ image is at bytes names. (settled image is).holds at bytes (names-with_collection s ids at bytes names);
  }

  pub next_rows : (place : ℕ) (rows : List (List Value)) → Fits (change.Append place (extent_of (new_extent s.next_file rows))) (table s) → AreRowsOf s place rows
      → Only (file_bytes rows) (Now v s.next_file) → IsNext care v s (change.Append place (extent_of (new_extent s.next_file rows))) (with_rows s place rows)
  next_rows place rows fits typed only = record {
    step = ((refl, fits), table-with_rows s place rows);
    valid = valid-with_rows s place rows fits.is_next.numbered typed valid;
    ready = λ image is at bytes names. elim (names-with_rows s place rows valid at bytes names) [
      | inl old ↦ (settled image is).holds at bytes old
      | inr new ↦
          let number : at.file ≡ s.next_file = ap (λ (r : FileRef). r.file) new.0 in
          let len : at.len ≡ length bytes = ap (λ (r : FileRef). r.len) new.0 ∙ ap length (sym new.1) in
          holds_bytes care at bytes (image at.file) len (ap image number ∙ only (image s.next_file) (is s.next_file) ∙ sym new.1)
    ];
  }
