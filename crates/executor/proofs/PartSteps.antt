-- A part of which the next file is read.
use Rattle.std.proofs.Common.{◌≡◌, ◌≢◌, refl, sym, ap, ◌∙◌, subst, ℕ, zero, suc, ◌+◌, ◌-◌, ◌<◌, ◌≤◌, Bool, List, [], ◌∷◌, ◌++◌, length, Box, Option, None, Some, arith}
use Rattle.std.specs.Option.{IfSome}
use Rattle.std.specs.declared.alloc.Global.{Global}
use Rattle.rows_core.specs.declared.cut.Cut.{Cut}
use Rattle.rows_core.specs.declared.file_ref.FileRef.{FileRef}
use Rattle.row_blob.specs.Kept.{IsKept}
use Rattle.row_blob.specs.Spelling.{kept_spelling}
use Rattle.row_blob.specs.declared.kept.Kept.{Kept}
use Rattle.row_blob.specs.declared.kept.Kept.TheVariants as form
use Rattle.row_blob.specs.declared.shape.Shape.{Shape}
use Rattle.outside_traits.specs.View.{Counts}
use Rattle.outside_traits.specs.Calls.{CountsTaken}
use Rattle.plan_core.specs.Columns.{Rows}
use Rattle.plan_core.specs.declared.plan.Plan as code
use Rattle.plan_core.specs.PlainPlan.{PlainPlan, Scan, leaves, plan_of}
use Rattle.plan_core.specs.PlanTyping.{Kinds}
use Rattle.plan_core.specs.TypedRows.{AreOfStreams}
use Rattle.plan_laws.specs.PlanShape.{plan_shape}
use Rattle.plan_laws.specs.TypedOn.{IsTypedOn}
use Rattle.rewrite_core.specs.Files.{FileName, Extent, Result, extents_from}
use Rattle.growth_laws.specs.KeptResults.{KeptResult, KeptResults}
use Rattle.growth_laws.specs.Lists.{Extents, extents_of, interval_rows}
use Rattle.growth_laws.specs.Pieces.{Piece, Entry, Gathered}
use Rattle.gathering.specs.Gathered.{Gathers}
use Rattle.gathering.specs.Gathered as so_far
use Rattle.result_ops.specs.declared.made.Made.{Made}
use Rattle.result_ops.specs.Bounds.{IsBounded}
use Rattle.result_ops.specs.Fitting.{IsFit, StandsInOrder}
use Rattle.executor.specs.Pieces.{HasTyping}
use Rattle.executor.specs.Reads.{IsOfForm}
use Rattle.executor.specs.Loading.{IsFitLoad}
use Rattle.executor.specs.Progress.{Loaded, loaded_as, files_left, next_shape, IsStreamPart, IsPartOf, IsLoadOf, up_to, HasRead, LoadsNow, FeedsNow}
use Rattle.executor.specs.Sources.{sources, HoldsPiece, extent_rows, HasTaken}
use Rattle.executor.specs.declared.part.Part.{Part}
use Rattle.executor.specs.declared.part.Part.TheVariants as part
use Rattle.executor.proofs.ExtentRows.{next_rows}
use Rattle.executor.proofs.StreamTypes.{scan_typed, extent_of_stream, extent_typed}

-- ---- what is left

some_left : (stream next count : ℕ) → extents_from stream next count ≢ [] → (m : ℕ) × (count ≡ suc m)
some_left stream next zero left = absurd (left refl)
some_left stream next (suc m) left = (m, refl)

pub is_before : (stream next end : ℕ) → extents_from stream next (end - next) ≢ [] → next < end
is_before stream next end left = let some = some_left stream next (end - next) left in let more : end - next ≡ suc some.0 = some.1 in omega arith

pub one_less : (stream next end : ℕ) → extents_from stream next (end - next) ≢ []
    → extents_from stream next (end - next) ≡ Extent stream next ∷ extents_from stream (next + 1) (end - (next + 1))
one_less stream next end left =
    let before : next < end = is_before stream next end left in
    let count : end - next ≡ suc (end - (next + 1)) = omega arith in ap (extents_from stream next) count

pub first_extent : (stream next count : ℕ) (name : FileName) (others : List FileName) → extents_from stream next count ≡ name ∷ others → Extent stream next ≡ name
first_extent stream next zero name others left = absurd (cc)
first_extent stream next (suc m) name others left = cc

pub extent_found : (F : Shape → FileName → Type 0) (schemas : List Kinds) (p : Part) (gathering : so_far.Gathered) (stream next end : ℕ) → p ≡ part.Gathered gathering stream next end
    → F (plan_shape schemas (Scan stream)) (Extent stream next) → (name : FileName) (others : List FileName) → files_left p ≡ name ∷ others → F (next_shape schemas p) name
extent_found F schemas p gathering stream next end is found name others left =
    subst (λ (q : Part). F (next_shape schemas q) name) (sym is)
    (subst (λ (n : FileName). F (plan_shape schemas (Scan stream)) n) (first_extent stream next (end - next) name others (ap files_left (sym is) ∙ left)) found)

-- ---- kept results

module _ (plan : Box code.Plan Global) (id : ℕ) where
  pub unread : (loaded : Option Loaded) → files_left (part.Entry plan id loaded) ≢ [] → files_left (part.Entry plan id loaded) ≡ Result id ∷ []
  unread None left = refl
  unread (Some l) left = absurd (left refl)

  pub read_now : (before loaded : Option Loaded) (l : Loaded) → files_left (part.Entry plan id before) ≢ [] → loaded ≡ Some l
      → files_left (part.Entry plan id before) ≡ Result id ∷ files_left (part.Entry plan id loaded)
  read_now before loaded l left is = unread before left ∙ ap (λ (o : Option Loaded). Result id ∷ files_left (part.Entry plan id o)) (sym is)

  entry_name : (loaded : Option Loaded) (name : FileName) (others : List FileName) → files_left (part.Entry plan id loaded) ≡ name ∷ others → Result id ≡ name
  entry_name None name others left = cc
  entry_name (Some l) name others left = absurd (cc)

  -- what is found where it is unread
  pub entry_found : (F : Shape → FileName → Type 0) (schemas : List Kinds) (p : Part) (loaded : Option Loaded) → p ≡ part.Entry plan id loaded → F (plan_shape schemas (plan_of plan.value)) (Result id)
      → (name : FileName) (others : List FileName) → files_left p ≡ name ∷ others → F (next_shape schemas p) name
  entry_found F schemas p loaded is found name others left =
      subst (λ (q : Part). F (next_shape schemas q) name) (sym is)
      (subst (λ (n : FileName). F (plan_shape schemas (plan_of plan.value)) n) (entry_name loaded name others (ap files_left (sym is) ∙ left)) found)

  pub entry_part : (schemas : List Kinds) (piece : Piece) (before loaded : Option Loaded) → IfSome loaded (IsFitLoad schemas (plan_of plan.value)) → IsPartOf schemas piece (part.Entry plan id before)
      → IsPartOf schemas piece (part.Entry plan id loaded)
  entry_part schemas (Entry p n) before loaded fit is =
      (is.0, is.1, record { typed = is.2.typed; fit = subst (λ (q : PlainPlan). IfSome loaded (IsFitLoad schemas q)) is.0 fit })
  entry_part schemas (Gathered p cuts) before loaded fit is = absurd is

  pub entry_typed : (schemas : List Kinds) (piece : Piece) (before : Option Loaded) → IsPartOf schemas piece (part.Entry plan id before) → HasTyping schemas (plan_of plan.value)
  entry_typed schemas (Entry p n) before is = subst (λ (q : PlainPlan). HasTyping schemas q) (sym is.0) is.2.typed
  entry_typed schemas (Gathered p cuts) before is = absurd is

pub loaded_fit : (schemas : List Kinds) (plan : PlainPlan) (o : Option Made) → IfSome o (λ made. IsFit schemas plan made.kept × StandsInOrder made.kept) → IsFitLoad schemas plan (loaded_as o)
loaded_fit schemas plan None fit = tt
loaded_fit schemas plan (Some made) fit = fit

load_of : (plan : PlainPlan) (result : KeptResult) (kept : Kept) (machine : ℕ) (o : Option Made) → kept ≡ result.form → machine ≡ result.machine → IsOfForm plan kept machine o → IsLoadOf plan result (loaded_as o)
load_of plan result kept machine None same time is = λ bounded. is (subst (λ (k : Kept). IsBounded plan k) (sym same) bounded)
load_of plan result kept machine (Some made) same time is = (is.0 ∙ same, is.1 ∙ ap (λ n. n - 1) time)

-- ---- extents

module _ (schemas : List Kinds) (stream : ℕ) (plan : PlainPlan) (gathering : so_far.Gathered) (is : IsStreamPart schemas plan gathering stream) where
  pub scanned : HasTyping schemas (Scan stream)
  scanned = scan_typed schemas stream plan is.one is.typed is.of_stream

  pub fed_typed : (rows : Rows) → IsKept (plan_shape schemas (Scan stream)) (form.Rows rows) → IsTypedOn gathering.plan (rows ∷ [])
  fed_typed rows of_shape = subst (λ (p : PlainPlan). IsTypedOn p (rows ∷ [])) (sym is.of_plan) (extent_typed schemas stream plan rows is.typed is.of_stream of_shape)

  pub fed_of_stream : (rows : Rows) → IsKept (plan_shape schemas (Scan stream)) (form.Rows rows) → AreOfStreams schemas (leaves gathering.plan) (rows ∷ [])
  fed_of_stream rows of_shape =
      subst (λ (p : PlainPlan). AreOfStreams schemas (leaves p) (rows ∷ [])) (sym is.of_plan) (extent_of_stream schemas stream plan rows is.of_stream of_shape)

  pub further : (rows : Rows) (after : so_far.Gathered) → after.plan ≡ gathering.plan → ((fed : Rows) → Gathers schemas fed gathering → Gathers schemas (fed ++ rows) after) → IsStreamPart schemas plan after stream
  further rows after same feeds = record {
    typed = is.typed;
    one = is.one;
    of_plan = same ∙ is.of_plan;
    of_stream = is.of_stream;
    fed = is.fed ++ rows;
    gathers = feeds is.fed is.gathers;
  }

-- ---- what is read of a piece

module _ (tells : Bool) (files : ℕ → List ℕ) (places : FileName → FileRef) (machines : ℕ → ℕ) (schemas : List Kinds) (extents : Extents) (results : KeptResults) (old new : Counts) where
  entry_here : (plan : PlainPlan) (id : ℕ) (loaded : Option Loaded) → HoldsPiece (sources tells files places machines schemas) extents results (Entry plan id)
      → LoadsNow tells plan (plan_shape schemas plan) (places (Result id)) (files (places (Result id)).file) (machines id) old new loaded
      → IfSome loaded (IsLoadOf plan (results id)) × HasTaken extents results (Result id) old new
  entry_here plan id loaded holds now =
      let same : now.loads.form ≡ (results id).form = holds.0 now.loads.form now.loads.read in (
        subst (λ (o : Option Loaded). IfSome o (IsLoadOf plan (results id))) (sym now.loaded_is) (load_of plan (results id) now.loads.form (machines id) now.made same holds.1 now.loads.made),
        subst (λ (k : Kept). CountsTaken (length (kept_spelling k)) old new) same now.loads.taken,
      )

  pub entry_read : (piece : Piece) (boxed : Box code.Plan Global) (id : ℕ) (before loaded : Option Loaded)
      → LoadsNow tells (plan_of boxed.value) (plan_shape schemas (plan_of boxed.value)) (places (Result id)) (files (places (Result id)).file) (machines id) old new loaded
      → HoldsPiece (sources tells files places machines schemas) extents results piece → IsPartOf schemas piece (part.Entry boxed id before)
      → HasRead schemas extents results piece (part.Entry boxed id loaded) × HasTaken extents results (Result id) old new
  entry_read (Entry plan id') boxed id before loaded now holds is =
      let of_plan = subst (λ (p : PlainPlan). HoldsPiece (sources tells files places machines schemas) extents results (Entry p id')) (sym is.0) holds in
      let of_id = subst (λ (n : ℕ). HoldsPiece (sources tells files places machines schemas) extents results (Entry (plan_of boxed.value) n)) (sym is.1) of_plan in
      let both = entry_here (plan_of boxed.value) id loaded of_id now in (
        subst (λ (n : ℕ). IfSome loaded (IsLoadOf plan (results n))) is.1 (subst (λ (p : PlainPlan). IfSome loaded (IsLoadOf p (results id))) is.0 both.0),
        both.1,
      )
  entry_read (Gathered plan cuts) boxed id before loaded now holds is = absurd is

  same_rows : (a b : Rows) → form.Rows a ≡ form.Rows b → a ≡ b
  same_rows a b e = cc

  pub stream_read : (piece : Piece) (gathering after : so_far.Gathered) (stream next end : ℕ) → extents_from stream next (end - next) ≢ []
      → FeedsNow tells schemas stream (places (Extent stream next)) (files (places (Extent stream next)).file) old new gathering after
      → HoldsPiece (sources tells files places machines schemas) extents results piece → IsPartOf schemas piece (part.Gathered gathering stream next end)
      → HasRead schemas extents results piece (part.Gathered gathering stream next end)
      → HasRead schemas extents results piece (part.Gathered after stream (next + 1) end) × HasTaken extents results (Extent stream next) old new
  stream_read (Entry plan id) gathering after stream next end left now holds is read = absurd is
  stream_read (Gathered plan cuts) gathering after stream next end left now holds is read =
      let held = holds stream is.of_stream in
      let here = read held.0 held.1 in
      let before : next < end = is_before stream next end left in
      let within : next < held.0.to = subst (λ n. next < n) here.ends before in
      let same : form.Rows now.rows ≡ form.Rows (extent_rows extents stream next) = held.2 next here.begun within (form.Rows now.rows) now.read in (
        (λ (cut : Cut) (one : cuts ≡ cut ∷ []).
            let there = read cut one in
            let up : next < cut.to = subst (λ n. next < n) there.ends before in
            let begun : cut.from ≤ next = there.begun in
            let rows : interval_rows (extents_of extents stream) (up_to cut (next + 1)) ≡ interval_rows (extents_of extents stream) (up_to cut next) ++ now.rows =
            next_rows extents stream cut next begun ∙ ap (λ r. interval_rows (extents_of extents stream) (up_to cut next) ++ r) (sym (same_rows now.rows (extent_rows extents stream next) same)) in
            record {
              ends = there.ends;
              begun = omega arith;
              within = omega arith;
              gathers = subst (λ (r : Rows). Gathers schemas r after) (sym rows) (now.gathers (interval_rows (extents_of extents stream) (up_to cut next)) there.gathers);
            }),
        subst (λ (k : Kept). CountsTaken (length (kept_spelling k)) old new) same now.taken,
      )

module _ (schemas : List Kinds) (stream next end : ℕ) where
  pub stream_of_part : (piece : Piece) (gathering : so_far.Gathered) → IsPartOf schemas piece (part.Gathered gathering stream next end)
      → (plan : PlainPlan) × IsStreamPart schemas plan gathering stream
  stream_of_part (Entry p n) gathering is = absurd is
  stream_of_part (Gathered plan cuts) gathering is = (plan, is)

  pub stream_part : (piece : Piece) (gathering after : so_far.Gathered) (tells : Bool) (at : FileRef) (file : List ℕ) (old new : Counts) (n : ℕ) → after.plan ≡ gathering.plan
      → FeedsNow tells schemas stream at file old new gathering after → IsPartOf schemas piece (part.Gathered gathering stream next end) → IsPartOf schemas piece (part.Gathered after stream n end)
  stream_part (Entry p n) gathering after tells at file old new m same now is = absurd is
  stream_part (Gathered plan cuts) gathering after tells at file old new m same now is = further schemas stream plan gathering is now.rows after same now.gathers
