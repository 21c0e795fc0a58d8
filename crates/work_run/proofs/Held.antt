-- The files of a state hold what a rewriting over its kept results is read from.
use Rattle.std.proofs.Common.{◌≡◌, refl, sym, ap, ◌∙◌, subst, ℕ, ◌<◌, ◌≤◌, true, List, [], ◌∷◌, length, map, slice_get, Option, Some, unwrap_or, arith}
use Rattle.std.specs.List.{AllByRecursion, Contains}
use Rattle.std.specs.Option.{option_map}
use Rattle.std.proofs.lemmas.Option.{slice_get-map}
use Rattle.rows_core.specs.declared.file_ref.FileRef.{FileRef}
use Rattle.row_blob.specs.declared.kept.Kept.{Kept}
use Rattle.row_blob.specs.declared.kept.Kept.TheVariants as kept
use Rattle.row_blob.specs.declared.shape.Shape.{Shape}
use Rattle.plan_core.specs.PlainPlan.{PlainPlan, Scan, leaves}
use Rattle.plan_core.specs.PlanTyping.{Kinds}
use Rattle.plan_laws.specs.PlanShape.{plan_shape}
use Rattle.rewrite_core.specs.Files.{Result}
use Rattle.rewrite_core.specs.Files as name
use Rattle.growth_laws.specs.Lists.{extents_of}
use Rattle.growth_laws.specs.Pieces.{Piece, Entry, Gathered}
use Rattle.catalog_types.specs.PlainEntry.{PlainEntry}
use Rattle.catalog_types.specs.declared.extent.Extent as of_table
use Rattle.catalog_types.specs.declared.snapshot.StreamState.{StreamState}
use Rattle.catalog_core.specs.IsTable.{IsTable}
use Rattle.catalog_core.specs.Named.{file_at, machine_at, no_file}
use Rattle.catalog_core.specs.Programs.{extents_at}
use Rattle.catalog_core.specs.Table.{Table}
use Rattle.entry_table.specs.AreKept.{AreKept}
use Rattle.entry_table.specs.Work.{kept_with}
use Rattle.executor.specs.Reads.{MayBeRead, HoldsOnly}
use Rattle.executor.specs.Sources.{Sources, HoldsPiece, HoldFiles}
use Rattle.executor.specs.Sources as executor
use Rattle.folder.specs.Sound.{Care, IsSound}
use Rattle.folder.specs.State.{Stream, Extent, State, table, stream_of, extent_of, states_of, kinds_in, extents_in}
use Rattle.folder.specs.Files.{results_in, IsPieceIn, SpellsOnly, HoldsExtent, HoldsResult}
use Rattle.work_run.specs.Ends.{sources_of}

-- ---- where files stand

pub extent-file : (s : State) (place number : ℕ) (x : Stream) (e : Extent) → slice_get s.streams place ≡ Some x → slice_get x.extents number ≡ Some e → file_at (table s) (name.Extent place number) ≡ e.file
extent-file s place number x e is has =
    let state : slice_get (states_of s.streams) place ≡ Some (stream_of x) = slice_get-map stream_of s.streams place ∙ ap (option_map stream_of) is in
    let there : extents_at (states_of s.streams) place ≡ map extent_of x.extents = ap (λ (o : Option StreamState). unwrap_or (option_map (λ y. y.extents) o) []) state in
    let at : slice_get (map extent_of x.extents) number ≡ Some (extent_of e) = slice_get-map extent_of x.extents number ∙ ap (option_map extent_of) has in
    ap (λ (xs : List of_table.Extent). unwrap_or (option_map (λ (y : of_table.Extent). y.file) (slice_get xs number)) no_file) there
    ∙ ap (λ (o : Option of_table.Extent). unwrap_or (option_map (λ (y : of_table.Extent). y.file) o) no_file) at

-- no other form is read than the one that the bytes of the kept digest spell
held-only : (of : Shape) (at : FileRef) (file : List ℕ) (form : Kept) → SpellsOnly of at file form → HoldsOnly true of at file form
held-only of at file form only = λ (read : Kept) (may : MayBeRead true of at file read). only read (may.of_shape, may.spelled refl) may.digest

-- the one stream of a list
abbrev first_of : List ℕ → ℕ
first_of streams = unwrap_or (slice_get streams 0) 0

one-stream : (leaves : List ℕ) (a b : ℕ) → leaves ≡ a ∷ [] → leaves ≡ b ∷ [] → a ≡ b
one-stream leaves a b is same = ap first_of (sym is ∙ same)

module _ (found : (t : Table) (e : PlainEntry) → IsTable t → Contains t.entries e → (file_at t (Result e.id) ≡ e.file) × (machine_at t e.id ≡ e.machine))
    (extents : (care : Care) (files : ℕ → List ℕ) (s : State) (place number : ℕ) → IsSound care files s → number < length (extents_of (extents_in s.streams) place) → HoldsExtent files s place number)
    (results : (care : Care) (files : ℕ → List ℕ) (s : State) (e : PlainEntry) → IsSound care files s → AreKept (kept_with s.next_id s.entries) → Contains s.entries e → HoldsResult files s e)
    (care : Care) (files : ℕ → List ℕ) (s : State) (sound : IsSound care files s) (is_table : IsTable (table s)) where
  abbrev from : Sources
  from = sources_of (table s) files

  abbrev kinds : List Kinds
  kinds = kinds_in s.streams

  entry-held : (e : PlainEntry) → Contains s.entries e → HoldsPiece from (extents_in s.streams) (results_in s) (Entry e.plan e.id)
  entry-held e has =
      let held = results care files s e sound is_table.kept has in
      let at = found (table s) e is_table has in (
        subst (λ (f : FileRef). HoldsOnly true (plan_shape kinds e.plan) f (files f.file) (results_in s e.id).form) (sym at.0)
            (held-only (plan_shape kinds e.plan) e.file (files e.file.file) (results_in s e.id).form held.only),
        at.1 ∙ held.machine,
      )

  extent-held : (place number : ℕ) → number < length (extents_of (extents_in s.streams) place) → executor.HoldsExtent from (extents_in s.streams) place number
  extent-held place number low =
      let held = extents care files s place number sound low in
      subst (λ (f : FileRef). HoldsOnly true (plan_shape kinds (Scan place)) f (files f.file) (kept.Rows (executor.extent_rows (extents_in s.streams) place number)))
      (sym (extent-file s place number held.stream held.extent held.at_place held.numbered))
      (held-only (plan_shape kinds (Scan place)) held.extent.file (files held.extent.file.file) _ held.only)

  piece-held : (piece : Piece) → IsPieceIn s piece → HoldsPiece from (extents_in s.streams) (results_in s) piece
  piece-held (Entry plan id) (e, has, plan_is, id_is) =
      subst (λ (i : ℕ). HoldsPiece from (extents_in s.streams) (results_in s) (Entry plan i)) id_is
      (subst (λ (p : PlainPlan). HoldsPiece from (extents_in s.streams) (results_in s) (Entry p e.id)) plan_is (entry-held e has))
  piece-held (Gathered plan cuts) (stream, cut, leaf, cuts_are, within) =
      λ (other : ℕ) (is : leaves plan ≡ other ∷ []). (
        cut,
        cuts_are,
        λ (number : ℕ) (low : cut.from ≤ number) (high : number < cut.to).
            subst (λ (place : ℕ). executor.HoldsExtent from (extents_in s.streams) place number) (one-stream (leaves plan) stream other leaf is)
            (extent-held stream number (omega (arith, high, within))),
      )

  pub pieces-held : (pieces : List Piece) → AllByRecursion (IsPieceIn s) pieces → HoldFiles from (extents_in s.streams) (results_in s) pieces
  pieces-held [] all = tt
  pieces-held (piece ∷ pieces) all = (piece-held piece all.0, pieces-held pieces all.1)
