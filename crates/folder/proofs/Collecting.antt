-- The files of the kept results that a collection takes out.
use Rattle.std.proofs.Common.{◌≡◌, ◌≢◌, ◌∙◌, sym, ap, ℕ, ◌<◌, true, not, List}
use Rattle.std.specs.Prelude.{IsTrue}
use Rattle.std.specs.List.{Contains}
use Rattle.std.proofs.lemmas.Bool.{false≢true}
use Rattle.plan_laws.proofs.Members.{was_there}
use Rattle.catalog_types.specs.PlainEntry.{PlainEntry}
use Rattle.catalog_types.specs.declared.change.Change.TheVariants as change
use Rattle.catalog_types.specs.declared.extent.Extent.{Extent}
use Rattle.catalog_types.specs.declared.snapshot.StreamState.{StreamState}
use Rattle.entry_table.specs.Ids.{is_among}
use Rattle.catalog_core.specs.Table.{Table, after}
use Rattle.folder.specs.Removing.{IsFree}

-- what is left has none of the ids
left_out : (ids : List ℕ) (id : ℕ) → not (is_among ids id) ≡ true → is_among ids id ≡ true → ⊥
left_out ids id left among = false≢true (sym (ap not among) ∙ left)

pub went_free : (t : Table) (ids : List ℕ) (e : PlainEntry) → (0 < e.file.file) × (e.file.file < t.next_file)
    → ((other : PlainEntry) → Contains t.entries other → e.file.file ≡ other.file.file → e ≡ other)
    → ((stream : StreamState) (extent : Extent) → Contains t.streams stream → Contains stream.extents extent → e.file.file ≢ extent.file.file)
    → IsTrue (is_among ids e.id) → IsFree (after (change.Collect ids) t) e.file.file
went_free t ids e given own apart among = record {
  given = given;
  no_extent = λ stream extent has of_stream is. apart stream extent has of_stream (sym is);
  no_result = λ other has is.
      let was = was_there (λ (x : PlainEntry). not (is_among ids x.id)) t.entries other has in
      let same : e ≡ other = own other was.0 (sym is) in
      left_out ids other.id was.1 (ap (λ (x : PlainEntry). is_among ids x.id) (sym same) ∙ among);
}
