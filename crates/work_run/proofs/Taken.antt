-- The bytes that are taken of a state's files are those that its table keeps.
use Rattle.std.proofs.Common.{◌≡◌, ◌||◌, refl, sym, ap, ◌∙◌, subst, inl, inr, ℕ, ◌+◌, ◌-◌, ◌^◌, ◌<◌, ◌==◌, min, Bool, true, false, List, [], ◌∷◌, length, sum_by, arith}
use Rattle.std.specs.List.{AllByRecursion, Contains}
use Rattle.std.proofs.lemmas.Bool.{eqb-true, false≢true}
use Rattle.std.proofs.lemmas.List.Sums.{sum_by-cons}
use Rattle.rows_core.specs.declared.file_ref.FileRef.{FileRef}
use Rattle.row_blob.specs.Spelling.{kept_spelling}
use Rattle.row_blob.specs.declared.kept.Kept.{Kept}
use Rattle.row_blob.specs.declared.kept.Kept.TheVariants as kept
use Rattle.outside_traits.specs.View.{Counts}
use Rattle.estimator.specs.Bytes.{capped}
use Rattle.rewrite_core.specs.Files.{FileName, Extent, Result}
use Rattle.rewrite_core.proofs.Looking.{Contains-first, Contains-behind}
use Rattle.growth_laws.specs.KeptResults.{KeptResult}
use Rattle.growth_laws.specs.Lists.{extents_of}
use Rattle.catalog_types.specs.PlainEntry.{PlainEntry}
use Rattle.catalog_core.specs.IsTable.{IsTable}
use Rattle.catalog_core.specs.Named.{HasFile, file_at, machine_at, bytes_named}
use Rattle.catalog_core.specs.Table.{Table}
use Rattle.entry_table.specs.Ids.{is_there}
use Rattle.executor.specs.Running.{held_bytes, HaveTaken}
use Rattle.folder.specs.State.{State, IsValid, table, extents_in, file_bytes}
use Rattle.folder.specs.Files.{form_of, results_in}
use Rattle.folder.proofs.GrownStreams.{as-long, entry-in}
use Rattle.folder.proofs.HeldForms.{slice_has, result-with, extent-at, rows-there}
use Rattle.work_run.specs.Ends.{CountsRead}
use Rattle.work_run.proofs.Held.{extent-file}

-- ---- the entry with an id that is there

pub entry-there : (es : List PlainEntry) (id : ℕ) → is_there es id ≡ true → (e : PlainEntry) × Contains es e × (e.id ≡ id)
entry-there [] id there = absurd (false≢true there)
entry-there (e ∷ es) id there = by (e.id == id) refl there (λ behind. entry-there es id behind)
  where
    by : (b : Bool) → (e.id == id) ≡ b → (b || is_there es id) ≡ true → (is_there es id ≡ true → (x : PlainEntry) × Contains es x × (x.id ≡ id)) → (x : PlainEntry) × Contains (e ∷ es) x × (x.id ≡ id)
    by true same there among = (e, Contains-first e es, eqb-true e.id id same)
    by false same there among = let x = among there in (x.0, Contains-behind e es x.0 x.1, x.2)

-- ---- the bytes of one file

module _ (found : (t : Table) (e : PlainEntry) → IsTable t → Contains t.entries e → (file_at t (Result e.id) ≡ e.file) × (machine_at t e.id ≡ e.machine))
    (s : State) (valid : IsValid s) (is_table : IsTable (table s)) where
  extent-bytes : (place number : ℕ) → HasFile (table s) (Extent place number) → held_bytes (extents_in s.streams) (results_in s) (Extent place number) ≡ (file_at (table s) (Extent place number)).len
  unfolding file_bytes
  extent-bytes place number has =
      let low : number < length (extents_of (extents_in s.streams) place) = (let long = as-long s.streams place in omega (arith, has, long)) in
      let at = extent-at s.streams place number low in
      let ref = valid.refs at.1.file (file_bytes at.1.rows) (inl (record { stream = at.0; extent = at.1; has = (slice_has s.streams place at.0 at.2, slice_has at.0.extents number at.1 at.3); at_is = refl; bytes_are = refl })) in
      ap (λ r. length (kept_spelling (kept.Rows r))) (rows-there s place number at.0 at.1 at.2 at.3)
      ∙ sym (ap (λ (f : FileRef). f.len) ref) ∙ sym (ap (λ (f : FileRef). f.len) (extent-file s place number at.0 at.1 at.2 at.3))

  result-bytes : (id : ℕ) → HasFile (table s) (Result id) → held_bytes (extents_in s.streams) (results_in s) (Result id) ≡ (file_at (table s) (Result id)).len
  result-bytes id there =
      let x = entry-there s.entries id there in
      subst (λ (i : ℕ). held_bytes (extents_in s.streams) (results_in s) (Result i) ≡ (file_at (table s) (Result i)).len) x.2 (own x.0 x.1)
    where
      own : (e : PlainEntry) → Contains s.entries e → held_bytes (extents_in s.streams) (results_in s) (Result e.id) ≡ (file_at (table s) (Result e.id)).len
      own e has =
          let is = entry-in s e valid has in
          let form : (results_in s e.id).form ≡ is.0 = ap (λ (r : KeptResult). r.form) (result-with s e is_table.kept has) ∙ ap form_of is.1.result.form in
          let ref = valid.refs e.file (kept_spelling is.0) (inr (record { entry = e; has = has; form = is.0; form_is = is.1.result.form; at_is = refl; bytes_are = refl })) in
          ap (λ (k : Kept). length (kept_spelling k)) form ∙ sym (ap (λ (f : FileRef). f.len) ref) ∙ sym (ap (λ (f : FileRef). f.len) (found (table s) e is_table has).0)

  pub file-bytes : (name : FileName) → HasFile (table s) name → held_bytes (extents_in s.streams) (results_in s) name ≡ (file_at (table s) name).len
  file-bytes (Extent place number) has = extent-bytes place number has
  file-bytes (Result id) has = result-bytes id has

  pub all-bytes : (names : List FileName) → AllByRecursion (HasFile (table s)) names → sum_by (held_bytes (extents_in s.streams) (results_in s)) names ≡ bytes_named (table s) names
  all-bytes [] all = refl
  all-bytes (name ∷ names) all =
      omega (
        arith,
        sum_by-cons (held_bytes (extents_in s.streams) (results_in s)) name names,
        sum_by-cons (λ (n : FileName). (file_at (table s) n).len) name names,
        file-bytes name all.0,
        all-bytes names all.1,
      )

  -- ---- what was taken

  pub counts-read : (names : List FileName) (read : ℕ) (old new : Counts) → AllByRecursion (HasFile (table s)) names → read ≡ capped (bytes_named (table s) names)
      → HaveTaken (extents_in s.streams) (results_in s) names old new → CountsRead read old new
  counts-read [] read old new all is taken = inr (is, taken)
  counts-read (name ∷ names) read old new all is taken =
      let rose : new.taken ≡ min (old.taken + sum_by (held_bytes (extents_in s.streams) (results_in s)) (name ∷ names)) (2 ^ 64 - 1) = taken in
      let told : read ≡ min (bytes_named (table s) (name ∷ names)) (2 ^ 64 - 1) = is in
      inl (omega (arith, rose, told, all-bytes (name ∷ names) all))
