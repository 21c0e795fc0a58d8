-- The forms that the files of a state hold, and the kept results by their ids.
use Rattle.std.proofs.Common.{◌≡◌, inl, inr, refl, sym, ap, ◌∙◌, subst, ℕ, zero, suc, ◌<◌, nat_lt, true, List, [], ◌∷◌, length, take, slice_get, Option, Some, Ok, unwrap_or, arith}
use Rattle.std.specs.List.{Contains, AllByRecursion}
use Rattle.std.specs.Option.{option_map}
use Rattle.std.proofs.lemmas.List.{length-map}
use Rattle.std.proofs.lemmas.Option.{slice_get-map, slice_get_within, get_or_from_slice_get}
use Rattle.std.proofs.lemmas.Bool.{ltb-true, and_parts}
use Rattle.rows_core.specs.declared.file_ref.FileRef.{FileRef}
use Rattle.rows_core.specs.Schema.{kinds_of}
use Rattle.row_blob.specs.Kept.{IsKept}
use Rattle.row_blob.specs.Spelling.{kept_spelling}
use Rattle.row_blob.specs.declared.kept.Kept.{Kept}
use Rattle.row_blob.specs.declared.kept.Kept.TheVariants as kept
use Rattle.row_blob.specs.declared.shape.Shape.{Shape}
use Rattle.row_blob.specs.declared.shape.Shape.TheVariants as shape
use Rattle.extent_files.specs.Files.{digest_of}
use Rattle.plan_core.specs.PlainPlan.{Scan}
use Rattle.plan_core.specs.PlanTyping.{Kinds}
use Rattle.plan_laws.specs.KeptForm.{kept_form}
use Rattle.plan_laws.specs.PlanShape.{plan_shape}
use Rattle.rewrite_core.specs.Entries.{Entry}
use Rattle.growth_laws.specs.KeptResults as growth
use Rattle.growth_laws.specs.KeptResults.{KeptResult, IsResultOf}
use Rattle.growth_laws.specs.Lists.{extents_of}
use Rattle.cache_index.specs.Asked.{asked}
use Rattle.cache_index.proofs.Searching.{all-map}
use Rattle.catalog_types.specs.PlainEntry.{PlainEntry}
use Rattle.catalog_types.specs.declared.snapshot.StreamState.{StreamState}
use Rattle.entry_table.specs.AreKept.{AreKept}
use Rattle.entry_table.specs.Ids.{ids_of, ascend_above}
use Rattle.entry_table.specs.Work.{kept_with}
use Rattle.catalog_core.proofs.AskedResults.{find-own}
use Rattle.folder.specs.State.{Stream, Extent, State, HasExtent, Names, IsValid, stream_of, states_of, kinds_in, rows_in, extents_in, lists_in, file_bytes}
use Rattle.folder.specs.Sound.{Care, Shown, Whole, Holds, IsSound}
use Rattle.folder.specs.Files.{form_of, result_of, no_result, results_in, extent_rows, SpellsOnly, HoldsExtent, HoldsResult}
use Rattle.folder.proofs.GrownStreams.{entry-in}
use Rattle.folder.proofs.PieceLemmas.{asked-is}

-- what stands at a place stands in the list
pub slice_has : {A : Type 0} (xs : List A) (i : ℕ) (x : A) → slice_get xs i ≡ Some x → Contains xs x
slice_has xs i x is = (i, slice_get_within xs i x is, get_or_from_slice_get xs i x x is)

-- bytes of the kept digest, read of a file that holds its bytes, are these
pub holds_read : (care : Care) (at : FileRef) (bytes file read : List ℕ) → Holds care at bytes file → read ≡ take at.len file → digest_of read ≡ at.digest → read ≡ bytes
holds_read Whole at bytes file read holds is digest = is ∙ holds
holds_read Shown at bytes file read holds is digest = is ∙ holds (ap digest_of (sym is) ∙ digest)

-- ---- the kept result with an id

above-all : (low : ℕ) (es : List PlainEntry) → ascend_above low (ids_of es) ≡ true → AllByRecursion (λ e. low < e.id) es
above-all low [] up = tt
above-all low (e ∷ es) up =
    let parts = and_parts (nat_lt low e.id) (ascend_above e.id (ids_of es)) up in
    let less : low < e.id = ltb-true low e.id parts.0 in
    (less, all-map (λ (x : PlainEntry). e.id < x.id) (λ x. low < x.id) (λ x more. omega (arith, less, more)) es (above-all e.id es parts.1))

pub result-with : (s : State) (e : PlainEntry) → AreKept (kept_with s.next_id s.entries) → Contains s.entries e → results_in s e.id ≡ result_of s.streams e
result-with s e are has = ap (λ (o : Option PlainEntry). unwrap_or (option_map (result_of s.streams) o) no_result) (find-own 0 s.entries e are.ascend has)

own-result : (s : State) (e : PlainEntry) → IsValid s → Contains s.entries e → IsResultOf (extents_in s.streams) e.plan e.cuts (result_of s.streams e)
own-result s e valid has =
    let is = (entry-in s e valid has).1.result in
    record { form = subst (λ (k : Kept). kept_form e.plan (lists_in s.streams e.plan e.cuts) ≡ Ok k) (sym (ap form_of is.form)) is.form; machine = is.machine }

pub kept-results : (s : State) (without : List ℕ) → IsValid s → AreKept (kept_with s.next_id s.entries) → growth.AreKept (extents_in s.streams) (results_in s) (asked without s.entries)
kept-results s without valid are x has =
    let e = asked-is without s.entries x has in
    subst (λ (y : Entry). IsResultOf (extents_in s.streams) y.plan y.cuts (results_in s y.id)) e.2
    (subst (λ (r : KeptResult). IsResultOf (extents_in s.streams) e.0.plan e.0.cuts r) (sym (result-with s e.0 are e.1)) (own-result s e.0 valid e.1))

-- ---- extents

pub rows-there : (s : State) (stream number : ℕ) (x : Stream) (e : Extent) → slice_get s.streams stream ≡ Some x → slice_get x.extents number ≡ Some e → extent_rows s stream number ≡ e.rows
rows-there s stream number x e is has =
    let there : slice_get (extents_in s.streams) stream ≡ Some (rows_in x) = slice_get-map rows_in s.streams stream ∙ ap (option_map rows_in) is in
    let at : slice_get (rows_in x) number ≡ Some e.rows = slice_get-map (λ (e : Extent). e.rows) x.extents number ∙ ap (option_map (λ (e : Extent). e.rows)) has in
    ap (λ o. unwrap_or (slice_get (unwrap_or o []) number) []) there ∙ ap (λ o. unwrap_or o []) at

pub shape-there : (streams : List Stream) (stream : ℕ) (x : Stream) → slice_get streams stream ≡ Some x → plan_shape (kinds_in streams) (Scan stream) ≡ shape.Rows (kinds_of x.columns)
shape-there streams stream x is =
    let state : slice_get (states_of streams) stream ≡ Some (stream_of x) = slice_get-map stream_of streams stream ∙ ap (option_map stream_of) is in
    let kinds : slice_get (kinds_in streams) stream ≡ Some (kinds_of x.columns) =
    slice_get-map (λ (y : StreamState). kinds_of y.columns) (states_of streams) stream ∙ ap (option_map (λ (y : StreamState). kinds_of y.columns)) state in
    ap (λ (o : Option Kinds). shape.Rows (unwrap_or o [])) kinds

got : {A : Type 0} (xs : List A) (n : ℕ) → n < length xs → (x : A) × (slice_get xs n ≡ Some x)
got [] n low = absurd (omega (arith, low))
got (x ∷ xs) zero low = (x, refl)
got (x ∷ xs) (suc n) low = got xs n (omega (arith, low))

pub extent-at : (streams : List Stream) (place number : ℕ) → number < length (extents_of (extents_in streams) place)
    → (x : Stream) × (e : Extent) × (slice_get streams place ≡ Some x) × (slice_get x.extents number ≡ Some e)
extent-at [] place number low = absurd (omega (arith, low))
extent-at (x ∷ xs) zero number low =
    let long = length-map x.extents (λ (e : Extent). e.rows) in
    let e = got x.extents number (omega (arith, low, long)) in
    (x, e.0, refl, e.1)
extent-at (x ∷ xs) (suc place) number low = extent-at xs place number low

-- ---- what the files hold

module _ (one : (shape : Shape) (a b : Kept) → IsKept shape a → IsKept shape b → kept_spelling a ≡ kept_spelling b → a ≡ b)
    (care : Care) (files : ℕ → List ℕ) (s : State) (sound : IsSound care files s) where
  named-only : (at : FileRef) (bytes : List ℕ) (of : Shape) (form : Kept) → Names s at bytes → bytes ≡ kept_spelling form → IsKept of form → SpellsOnly of at (files at.file) form
  named-only at bytes of form names is kept read spells digest =
      one of read form spells.0 kept (holds_read care at bytes (files at.file) (kept_spelling read) (sound.holds at bytes names) (sym spells.1) digest ∙ is)

  extent-only : (stream number : ℕ) (x : Stream) (e : Extent) → slice_get s.streams stream ≡ Some x → slice_get x.extents number ≡ Some e
      → SpellsOnly (plan_shape (kinds_in s.streams) (Scan stream)) e.file (files e.file.file) (kept.Rows (extent_rows s stream number))
  unfolding file_bytes
  extent-only stream number x e is has =
      let there : HasExtent s x e = (slice_has s.streams stream x is, slice_has x.extents number e has) in
      let rows = rows-there s stream number x e is has in
      named-only e.file (file_bytes e.rows) (plan_shape (kinds_in s.streams) (Scan stream)) (kept.Rows (extent_rows s stream number))
      (inl (record { stream = x; extent = e; has = there; at_is = refl; bytes_are = refl })) (ap (λ r. kept_spelling (kept.Rows r)) (sym rows))
      (subst (λ (k : Kept). IsKept (plan_shape (kinds_in s.streams) (Scan stream)) k) (ap kept.Rows (sym rows))
      (subst (λ (of : Shape). IsKept of (kept.Rows e.rows)) (sym (shape-there s.streams stream x is)) (sound.valid.rows x e there)))

  pub holds-extent : (place number : ℕ) → number < length (extents_of (extents_in s.streams) place) → HoldsExtent files s place number
  holds-extent place number low =
      let at = extent-at s.streams place number low in
      record { stream = at.0; extent = at.1; at_place = at.2; numbered = at.3; only = extent-only place number at.0 at.1 at.2 at.3 }

  pub holds-result : (e : PlainEntry) → AreKept (kept_with s.next_id s.entries) → Contains s.entries e → HoldsResult files s e
  holds-result e are has =
      let is = entry-in s e sound.valid has in
      let same : results_in s e.id ≡ result_of s.streams e = result-with s e are has in
      let form : is.0 ≡ (results_in s e.id).form = sym (ap form_of is.1.result.form) ∙ sym (ap (λ (r : KeptResult). r.form) same) in
      record {
        only = subst (λ (k : Kept). SpellsOnly (plan_shape (kinds_in s.streams) e.plan) e.file (files e.file.file) k) form
            (named-only e.file (kept_spelling is.0) (plan_shape (kinds_in s.streams) e.plan) is.0
            (inr (record { entry = e; has = has; form = is.0; form_is = is.1.result.form; at_is = refl; bytes_are = refl })) refl is.1.of_shape);
        machine = sym (ap (λ (r : KeptResult). r.machine) same);
      }
