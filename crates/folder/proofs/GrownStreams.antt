-- Streams that grow: the rows at a cut that ends within their extents stay, and so do the kept results.
use Rattle.std.proofs.Common.{◌≡◌, refl, sym, ap, ◌∙◌, subst, ℕ, zero, suc, ◌-◌, ◌≤◌, List, [], ◌∷◌, ◌++◌, length, map, take, drop, length-drop, Option, None, Some, Result, Ok, IsOk, arith}
use Rattle.std.specs.Prelude.{slice_range, unwrap_or}
use Rattle.std.specs.List.{Contains, flat_map}
use Rattle.std.proofs.lemmas.List.{length-map, take-append-le}
use Rattle.rows_core.specs.declared.cut.Cut.{Cut}
use Rattle.row_blob.specs.Kept.{IsKept}
use Rattle.row_blob.specs.declared.kept.Kept.{Kept}
use Rattle.row_blob.specs.declared.shape.Shape.{Shape}
use Rattle.row_blob.specs.declared.shape.Shape.TheVariants.{Rows as OfRows, Groups, Tagged}
use Rattle.plan_core.specs.Columns.{Rows}
use Rattle.plan_core.specs.MachineTime.{machine_time}
use Rattle.plan_core.specs.declared.refusal.PlanRefusal.{PlanRefusal}
use Rattle.plan_core.specs.PlainPlan.{PlainPlan, Scan, Filter, Project, Distinct, Group, Join, Concat, Order, leaves}
use Rattle.plan_core.specs.PlanTyping.{Kinds, plan_kinds, plan_typing, absent_stream, present_or, typed_or, group_kinds, join_kinds}
use Rattle.plan_canon.specs.PlanRules.{plan_step}
use Rattle.plan_canon.proofs.Later.{kinds_still}
use Rattle.plan_laws.specs.KeptForm.{kept_form}
use Rattle.plan_laws.specs.PlanShape.{kinds_given, kind_at, acc_kind_of, plan_shape}
use Rattle.plan_laws.proofs.TypedPlans.{and_then}
use Rattle.plan_laws.proofs.Answers.{both_some}
use Rattle.estimator.specs.Cuts.{Cuts}
use Rattle.growth_laws.specs.Lists.{extents_of, interval_rows, lists_at}
use Rattle.catalog_types.specs.PlainEntry.{PlainEntry}
use Rattle.catalog_core.specs.Programs.{extents_at, AreCuts}
use Rattle.catalog_core.specs.Results.{IsOver}
use Rattle.catalog_core.proofs.AskedResults.{all-at}
use Rattle.folder.specs.State.{Extent, Stream, State, IsEntryOf, IsValid, extent_of, states_of, kinds_in, extents_in, lists_in}

-- ---- the rows at a cut

drop-front : {A : Type 0} (n : ℕ) (xs ys : List A) → n ≤ length xs → drop n (xs ++ ys) ≡ drop n xs ++ ys
drop-front zero xs ys low = refl
drop-front (suc n) [] ys low = absurd (omega (arith, low))
drop-front (suc n) (x ∷ xs) ys low = drop-front n xs ys (omega (arith, low))

range-stays : {A : Type 0} (xs ys : List A) (a b : ℕ) → a ≤ b → b ≤ length xs → slice_range (xs ++ ys) a b ≡ slice_range xs a b
range-stays xs ys a b order within =
    let left : length (drop a xs) ≡ length xs - a = length-drop a xs in
    ap (take (b - a)) (drop-front a xs ys (omega (arith, order, within))) ∙ take-append-le (b - a) (drop a xs) ys (omega (arith, left, order, within))

-- each stream has its extents, and more behind them
abbrev pub Grow : List Stream → List Stream → Type 0
Grow old new = (leaf : ℕ) → (more : List Rows) × (extents_of (extents_in new) leaf ≡ extents_of (extents_in old) leaf ++ more)

pub as-long : (streams : List Stream) (leaf : ℕ) → length (extents_at (states_of streams) leaf) ≡ length (extents_of (extents_in streams) leaf)
as-long [] leaf = refl
as-long (x ∷ xs) zero = length-map x.extents extent_of ∙ sym (length-map x.extents (λ (e : Extent). e.rows))
as-long (x ∷ xs) (suc leaf) = as-long xs leaf

module _ (old new : List Stream) (grow : Grow old new) where
  interval-stays : (leaf : ℕ) (cut : Cut) → cut.from ≤ cut.to → cut.to ≤ length (extents_at (states_of old) leaf)
      → interval_rows (extents_of (extents_in new) leaf) cut ≡ interval_rows (extents_of (extents_in old) leaf) cut
  interval-stays leaf cut order within =
      let long = as-long old leaf in
      ap (λ (l : List Rows). flat_map (λ rows. rows) (slice_range l cut.from cut.to)) (grow leaf).1
      ∙ ap (flat_map (λ rows. rows)) (range-stays (extents_of (extents_in old) leaf) (grow leaf).0 cut.from cut.to order (omega (arith, within, long)))

  lists-stay : (leaves : List ℕ) (cuts : Cuts) → AreCuts (states_of old) leaves cuts → lists_at (extents_in new) leaves cuts ≡ lists_at (extents_in old) leaves cuts
  lists-stay [] [] are = refl
  lists-stay [] (cut ∷ cuts) are = absurd are
  lists-stay (leaf ∷ leaves) [] are = absurd are
  lists-stay (leaf ∷ leaves) (cut ∷ cuts) are = λ i. interval-stays leaf cut are.0.0 are.0.1 i ∷ lists-stay leaves cuts are.1 i

  -- a result that is kept stays
  pub entry-stays : (e : PlainEntry) → plan_step (kinds_in new) e.plan ≡ plan_step (kinds_in old) e.plan → plan_shape (kinds_in new) e.plan ≡ plan_shape (kinds_in old) e.plan
      → IsOver (states_of new) e.plan e.cuts → IsEntryOf old e → IsEntryOf new e
  entry-stays e step shape over is =
      let same : lists_in new e.plan e.cuts ≡ lists_in old e.plan e.cuts = lists-stay (leaves e.plan) e.cuts is.1.over.are_cuts in (
        is.0,
        record {
          normal = step ∙ is.1.normal;
          over = over;
          of_shape = subst (λ (s : Shape). IsKept s is.0) (sym shape) is.1.of_shape;
          result = record { form = ap (kept_form e.plan) same ∙ is.1.result.form; machine = is.1.result.machine ∙ ap (machine_time e.plan) (sym same) };
          within = is.1.within;
        },
      )

  -- so does its form
  pub form-before : (e : PlainEntry) (form : Kept) → IsOver (states_of old) e.plan e.cuts → kept_form e.plan (lists_in new e.plan e.cuts) ≡ Ok form → kept_form e.plan (lists_in old e.plan e.cuts) ≡ Ok form
  form-before e form over is = ap (kept_form e.plan) (sym (lists-stay (leaves e.plan) e.cuts over.are_cuts)) ∙ is

-- ---- a list's elements

-- a kept result of a valid state
pub entry-in : (s : State) (e : PlainEntry) → IsValid s → Contains s.entries e → IsEntryOf s.streams e
entry-in s e valid has = all-at (IsEntryOf s.streams) s.entries e valid.results has

-- ---- kinds of further streams

some-kinds : (absent : Option ℕ) (kinds : Option Kinds) (next : Kinds → Result Kinds PlanRefusal) → IsOk (present_or absent (typed_or kinds next)) → (k : Kinds) × (kinds ≡ Some k)
some-kinds (Some stream) kinds next is = absurd (cc)
some-kinds None None next is = absurd (cc)
some-kinds None (Some k) next is = (k, refl)

-- a plan with a typing has kinds
pub kinds-of-typed : (schemas : List Kinds) (p : PlainPlan) → IsOk (plan_typing schemas p) → (k : Kinds) × (plan_kinds schemas p ≡ Some k)
kinds-of-typed schemas p is = some-kinds (absent_stream schemas p) (plan_kinds schemas p) _ is

module _ (schemas more : List Kinds) where
  given-still : (p : PlainPlan) (k : Kinds) → plan_kinds schemas p ≡ Some k → kinds_given (schemas ++ more) p ≡ kinds_given schemas p
  given-still p k h = ap (λ (o : Option Kinds). unwrap_or o []) (kinds_still schemas more p k h ∙ sym h)

  pub shape-still : (p : PlainPlan) (k : Kinds) → plan_kinds schemas p ≡ Some k → plan_shape (schemas ++ more) p ≡ plan_shape schemas p
  shape-still (Scan stream) k h = ap OfRows (given-still (Scan stream) k h)
  shape-still (Filter p test) k h = ap OfRows (given-still (Filter p test) k h)
  shape-still (Project p columns) k h = ap OfRows (given-still (Project p columns) k h)
  shape-still (Distinct p) k h = ap OfRows (given-still (Distinct p) k h)
  shape-still (Group p keys aggs) k h =
      let j = and_then (group_kinds keys aggs) (plan_kinds schemas p) k h in
      ap (λ (ks : Kinds). Groups (map (kind_at ks) keys) (map (acc_kind_of ks) aggs)) (given-still p j.0 j.1)
  shape-still (Join p q on) k h =
      let j = both_some (join_kinds on) (plan_kinds schemas p) (plan_kinds schemas q) k h in
      λ i. Tagged (given-still p j.0 j.2 i ++ given-still q j.1 j.3 i)
  shape-still (Concat p q) k h = ap OfRows (given-still (Concat p q) k h)
  shape-still (Order p keys) k h = ap OfRows (given-still (Order p keys) k h)
