-- Why the files of a rewriting over a state's kept results aren't read.
use Rattle.std.proofs.Common.{◌≡◌, ◌≢◌, refl, sym, ap, ◌∙◌, subst, inl, inr, ℕ, ◌<◌, List, take, length, arith}
use Rattle.std.specs.List.{AllByRecursion, Contains}
use Rattle.rows_core.specs.declared.file_ref.Digest.{Digest}
use Rattle.rows_core.specs.declared.file_ref.FileRef.{FileRef}
use Rattle.row_blob.specs.Kept.{IsKept}
use Rattle.row_blob.specs.Spelling.{kept_spelling}
use Rattle.row_blob.specs.declared.kept.Kept.{Kept}
use Rattle.row_blob.specs.declared.kept.Kept.TheVariants as kept
use Rattle.row_blob.specs.declared.shape.Shape.{Shape}
use Rattle.extent_files.specs.Files.{digest_of}
use Rattle.outside_traits.specs.View.{Counts}
use Rattle.plan_core.specs.PlainPlan.{Scan}
use Rattle.plan_laws.specs.PlanShape.{plan_shape}
use Rattle.rewrite_core.specs.Files.{FileName, Extent, Result}
use Rattle.growth_laws.specs.Lists.{extents_of}
use Rattle.growth_laws.specs.Pieces.{Piece, Entry}
use Rattle.catalog_types.specs.PlainEntry.{PlainEntry}
use Rattle.catalog_core.specs.IsTable.{IsTable}
use Rattle.catalog_core.specs.Named.{HasFile, file_at, machine_at}
use Rattle.catalog_core.specs.Table.{Table}
use Rattle.catalog_core.proofs.AskedResults.{all-at}
use Rattle.extent_files.specs.declared.read_refusal.ReadRefusal.TheVariants as read
use Rattle.executor.specs.Running.{EndsBy, EndsOver, IsShapeOf}
use Rattle.folder.specs.Files.{IsPieceIn}
use Rattle.folder.specs.Sound.{Care, Shown, Whole, Holds, IsSound}
use Rattle.folder.specs.State.{State, Names, table, kinds_in, extents_in, file_bytes}
use Rattle.folder.specs.Damage.{ShowsDamage}
use Rattle.folder.proofs.GrownStreams.{as-long, entry-in}
use Rattle.folder.proofs.HeldForms.{slice_has, extent-at, shape-there}
use Rattle.work_run.specs.Ends.{sources_of}
use Rattle.work_run.proofs.Held.{extent-file}
use Rattle.work_run.proofs.Taken.{entry-there}

-- a file of the state, and the form that its bytes are to spell
record IsFileOf (s : State) (at : FileRef) (of : Shape) : Type 0 where
  form : Kept
  names : Names s at (kept_spelling form)
  of_shape : IsKept of form

-- the bytes are those that the file is to have, where they have the kept digest
held-bytes : (care : Care) (at : FileRef) (bytes file : List ℕ) → Holds care at bytes file → digest_of (take at.len file) ≡ at.digest → take at.len file ≡ bytes
held-bytes Whole at bytes file holds digest = holds
held-bytes Shown at bytes file holds digest = holds digest

module _ (found : (t : Table) (e : PlainEntry) → IsTable t → Contains t.entries e → (file_at t (Result e.id) ≡ e.file) × (machine_at t e.id ≡ e.machine))
    (care : Care) (files : ℕ → List ℕ) (s : State) (sound : IsSound care files s) (is_table : IsTable (table s)) where
  -- ---- named files

  extent-is : (place number : ℕ) → HasFile (table s) (Extent place number) → IsFileOf s (file_at (table s) (Extent place number)) (plan_shape (kinds_in s.streams) (Scan place))
  unfolding file_bytes
  extent-is place number has =
      let low : number < length (extents_of (extents_in s.streams) place) = (let long = as-long s.streams place in omega (arith, has, long)) in
      let at = extent-at s.streams place number low in
      let there : Contains s.streams at.0 × Contains at.0.extents at.1 = (slice_has s.streams place at.0 at.2, slice_has at.0.extents number at.1 at.3) in
      record {
        form = kept.Rows at.1.rows;
        names = inl (record { stream = at.0; extent = at.1; has = there; at_is = extent-file s place number at.0 at.1 at.2 at.3; bytes_are = refl });
        of_shape = subst (λ (of : Shape). IsKept of (kept.Rows at.1.rows)) (sym (shape-there s.streams place at.0 at.2)) (sound.valid.rows at.0 at.1 there);
      }

  entry-is : (e : PlainEntry) → Contains s.entries e → IsFileOf s (file_at (table s) (Result e.id)) (plan_shape (kinds_in s.streams) e.plan)
  entry-is e has =
      let is = entry-in s e sound.valid has in
      record { form = is.0; names = inr (record { entry = e; has = has; form = is.0; form_is = is.1.result.form; at_is = (found (table s) e is_table has).0; bytes_are = refl }); of_shape = is.1.of_shape }

  named-bytes : (name : FileName) → HasFile (table s) name → (bytes : List ℕ) × Names s (file_at (table s) name) bytes
  named-bytes (Extent place number) has = let is = extent-is place number has in (kept_spelling is.form, is.names)
  named-bytes (Result id) has =
      let e = entry-there s.entries id has in
      subst (λ (i : ℕ). (bytes : List ℕ) × Names s (file_at (table s) (Result i)) bytes) e.2 (let is = entry-is e.0 e.1 in (kept_spelling is.form, is.names))

  -- ---- damage

  pub damage-shown : (names : List FileName) → AllByRecursion (HasFile (table s)) names → (pieces : List Piece) (old new : Counts) (file : ℕ) (digest other : Digest) (taken : ℕ)
      → EndsBy (file_at (table s)) names old new (read.Damaged file digest other taken) → EndsOver (sources_of (table s) files) pieces names (read.Damaged file digest other taken) → ShowsDamage care s file digest other
  damage-shown names all pieces old new file digest other taken (cause_name, cause_among, kept_is, differs, same, took) (name, among, digest_is, found_is, whole) =
      let at : FileRef = file_at (table s) name in
      let bytes = named-bytes name (all-at (HasFile (table s)) names name all among.0) in
      let apart : other ≢ digest = λ (e : other ≡ digest). differs (e ∙ kept_is) in
      record {
        may = must_show care at bytes.0 (sound.holds at bytes.0 bytes.1) (ap (λ (f : FileRef). f.digest) (sound.valid.refs at bytes.0 bytes.1)) digest_is found_is apart;
        at = at;
        bytes = bytes.0;
        names = bytes.1;
        file_is = among.1;
        kept_is = digest_is;
        differs = apart;
      }
    where
      must_show : (care : Care) (at : FileRef) (bytes : List ℕ) → Holds care at bytes (files at.file) → at.digest ≡ digest_of bytes → digest ≡ at.digest → other ≡ digest_of (take at.len (files at.file)) → other ≢ digest → care ≡ Shown
      must_show Shown at bytes holds ref digest_is found_is apart = refl
      must_show Whole at bytes holds ref digest_is found_is apart = absurd (apart (found_is ∙ ap digest_of holds ∙ sym ref ∙ sym digest_is))

  -- ---- unreadable bytes

  shaped-file : (pieces : List Piece) → AllByRecursion (IsPieceIn s) pieces → (name : FileName) (of : Shape) → HasFile (table s) name → IsShapeOf (kinds_in s.streams) pieces name of → IsFileOf s (file_at (table s) name) of
  shaped-file pieces in_state (Extent place number) of has is = subst (λ (x : Shape). IsFileOf s (file_at (table s) (Extent place number)) x) (sym is) (extent-is place number has)
  shaped-file pieces in_state (Result id) of has (plan, among, is) =
      let piece = all-at (IsPieceIn s) pieces (Entry plan id) in_state among in
      subst (λ (x : Shape). IsFileOf s (file_at (table s) (Result id)) x) (ap (plan_shape (kinds_in s.streams)) piece.2 ∙ sym is)
      (subst (λ (i : ℕ). IsFileOf s (file_at (table s) (Result i)) (plan_shape (kinds_in s.streams) piece.0.plan)) piece.3 (entry-is piece.0 piece.1))

  pub none-unreadable : (names : List FileName) → AllByRecursion (HasFile (table s)) names → (pieces : List Piece) → AllByRecursion (IsPieceIn s) pieces → (file place taken : ℕ)
      → EndsOver (sources_of (table s) files) pieces names (read.Unreadable file place taken) → ⊥
  none-unreadable names all pieces in_state file place taken (name, of, among, shape_is, digest, spells_none, whole) =
      let at : FileRef = file_at (table s) name in
      let is = shaped-file pieces in_state name of (all-at (HasFile (table s)) names name all among.0) shape_is in
      spells_none.0 is.form (is.of_shape, held-bytes care at (kept_spelling is.form) (files at.file) (sound.holds at (kept_spelling is.form) is.names) digest)
