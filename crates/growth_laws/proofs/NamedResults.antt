-- Which results a tree may name.
use Rattle.std.proofs.Common.{◌≡◌, refl, sym, ap, ◌∙◌, subst, ◌+◌, List, ◌++◌, Result, Ok, Err, arith}
use Rattle.std.proofs.lemmas.List.{append_cancel_left}
use Rattle.std.specs.Prelude.{IfOk}
use Rattle.rows_core.specs.declared.overflow.Overflow.{Overflow}
use Rattle.row_blob.specs.declared.kept.Kept.{Kept}
use Rattle.plan_core.specs.Columns.{Rows}
use Rattle.plan_core.specs.ExpressionValue.{◌>>=◌}
use Rattle.plan_core.specs.MachineTime.{rows_taken_in, machine_time}
use Rattle.plan_core.specs.PlainPlan.{PlainPlan, Scan, Filter, Project, Distinct, Group, Join, Concat, Order}
use Rattle.plan_core.specs.PlanMeaning.{plan_meaning}
use Rattle.plan_laws.specs.KeptForm.{kept_form}
use Rattle.estimator.specs.Cuts.{Cuts}
use Rattle.rewrite_core.specs.declared.rewriting.Hit.{Hit}
use Rattle.rewrite_core.specs.Entries.{Entries, AreSound, entry_of}
use Rattle.rewrite_core.specs.IsRewriting.{Naming, IsRewriting, IsWay, IsDelta, IsDeltaWay, among, OfOne, OfTwo, OfSides, OfTail, OfDeltaTail, OfDistinctChild, lefts, rights}
use Rattle.rewrite_core.specs.PlainRewriting.{PlainRewriting, Node, PlainWay, One, Two, Read, Tail, LeftGrew, RightGrew, BothGrew, PlainDelta, Change, PlainDeltaWay, Unchanged, NewRows, OfChild, OfDistinct, OfJoin}
use Rattle.rewrite_core.specs.PlainRewriting as tree
use Rattle.growth_laws.specs.Growth.{Added, Made, Extends, IsMade, whole_made, machine_of, rows_of_made}
use Rattle.growth_laws.specs.KeptResults.{KeptResults, IsResultOf, AreKept, kept_among}
use Rattle.growth_laws.specs.Lists.{Extents}
use Rattle.growth_laws.proofs.AddedRows.{ok_is, not_both}
use Rattle.growth_laws.proofs.ComputedNodes.{means, fails}
use Rattle.growth_laws.proofs.MadeTrees.{AreResults}

pub as_named : (extents : Extents) (results : KeptResults) → AreResults extents results (kept_among extents results)
as_named extents results = record {
  whole = λ plan cuts hit named. named.1;
  earlier = λ plan cuts hit named. named.1;
  intervals = λ plan cuts hit named. named.0;
}

pub rows_so : (plan : PlainPlan) (lists : List Rows) (given : Result Made Overflow) → IsMade plan lists given → rows_of_made given ≡ plan_meaning plan lists
rows_so plan lists (Ok made) is = sym (means plan lists made is)
rows_so plan lists (Err e) is = sym (fails plan lists e is)

pub machine_so : (plan : PlainPlan) (lists : List Rows) (given : Result Made Overflow) → IsMade plan lists given → IfOk given (λ made. machine_of made ≡ machine_time plan lists)
machine_so plan lists (Ok made) is = ap (λ taken. 1 + taken) (sym is.1)
machine_so plan lists (Err e) is = tt

-- ---- one result

abbrev with_rows : PlainPlan → List Rows → Result Kept Overflow → Result Made Overflow
with_rows plan lists given = given >>= λ form. Ok (record { kept = form; taken_in = rows_taken_in plan lists })

pub is_whole : (plan : PlainPlan) (lists : List Rows) (given : Result Made Overflow) → IsMade plan lists given → given ≡ whole_made plan lists
is_whole plan lists (Ok made) is = sym (ap (with_rows plan lists) is.0 ∙ ap (λ taken. Ok (record { kept = made.kept; taken_in = taken })) is.1)
is_whole plan lists (Err e) is = sym (ap (with_rows plan lists) is)

whole_is : (plan : PlainPlan) (lists : List Rows) (form : Result Kept Overflow) → kept_form plan lists ≡ form → IsMade plan lists (with_rows plan lists form)
whole_is plan lists (Ok form) is = (is, refl)
whole_is plan lists (Err e) is = is

pub made_whole : (plan : PlainPlan) (lists : List Rows) (given : Result Made Overflow) → given ≡ whole_made plan lists → IsMade plan lists given
made_whole plan lists given is = subst (IsMade plan lists) (sym is) (whole_is plan lists (kept_form plan lists) refl)

-- ---- one addition

ok_parts : (a b : Added) → a.rows ≡ b.rows → a.taken_in ≡ b.taken_in → ◌≡◌ {A = Result Added Overflow} (Ok a) (Ok b)
ok_parts a b rows taken = λ i. Ok (record { rows = rows i; taken_in = taken i })

pub one_added : (plan : PlainPlan) (before after : List Rows) (rows : Rows) (a b : Result Added Overflow) → plan_meaning plan before ≡ Ok rows
    → Extends plan before after a → Extends plan before after b → a ≡ b
one_added plan before after rows (Ok a) (Ok b) gave first second =
    let one = first rows gave in
    let other = second rows gave in
    let taken = one.takes_in in
    let same = other.takes_in in
    ok_parts a b (append_cancel_left rows a.rows b.rows (ok_is (plan_meaning plan after) (rows ++ a.rows) (rows ++ b.rows) one.gives other.gives)) (omega (arith, taken, same))
one_added plan before after rows (Ok a) (Err e) gave first second = not_both (plan_meaning plan after) (rows ++ a.rows) e (first rows gave).gives (second rows gave)
one_added plan before after rows (Err e) (Ok b) gave first second = not_both (plan_meaning plan after) (rows ++ b.rows) e (second rows gave).gives (first rows gave)
one_added plan before after rows (Err e) (Err f) gave first second = refl

-- ---- other names

module _ (P Q : PlainPlan → Type 0) (f : (plan : PlainPlan) → P plan → Q plan) where
  of_one : (plan : PlainPlan) → OfOne P plan → OfOne Q plan
  of_one (Filter child test) is = f child is
  of_one (Project child columns) is = f child is
  of_one (Distinct child) is = f child is
  of_one (Group child keys aggs) is = f child is
  of_one (Order child keys) is = f child is
  of_one (Scan stream) is = absurd is
  of_one (Join left right on) is = absurd is
  of_one (Concat left right) is = absurd is

  of_distinct : (plan : PlainPlan) → OfDistinctChild P plan → OfDistinctChild Q plan
  of_distinct (Distinct child) is = f child is
  of_distinct (Scan stream) is = absurd is
  of_distinct (Filter child test) is = absurd is
  of_distinct (Project child columns) is = absurd is
  of_distinct (Group child keys aggs) is = absurd is
  of_distinct (Join left right on) is = absurd is
  of_distinct (Concat left right) is = absurd is
  of_distinct (Order child keys) is = absurd is

module _ (P Q : PlainPlan → PlainPlan → Type 0) (f : (left right : PlainPlan) → P left right → Q left right) where
  of_sides : (plan : PlainPlan) → OfSides P plan → OfSides Q plan
  of_sides (Join left right on) is = f left right is
  of_sides (Scan stream) is = absurd is
  of_sides (Filter child test) is = absurd is
  of_sides (Project child columns) is = absurd is
  of_sides (Distinct child) is = absurd is
  of_sides (Group child keys aggs) is = absurd is
  of_sides (Concat left right) is = absurd is
  of_sides (Order child keys) is = absurd is

  of_two : (plan : PlainPlan) → OfTwo P plan → OfTwo Q plan
  of_two (Join left right on) is = f left right is
  of_two (Concat left right) is = f left right is
  of_two (Scan stream) is = absurd is
  of_two (Filter child test) is = absurd is
  of_two (Project child columns) is = absurd is
  of_two (Distinct child) is = absurd is
  of_two (Group child keys aggs) is = absurd is
  of_two (Order child keys) is = absurd is

module _ (P Q : PlainPlan → Cuts → Cuts → Type 0) (f : (plan : PlainPlan) (old new : Cuts) → P plan old new → Q plan old new) (old new : Cuts) where
  of_tail : (plan : PlainPlan) → OfTail P plan old new → OfTail Q plan old new
  of_tail (Filter child test) is = f child old new is
  of_tail (Project child columns) is = f child old new is
  of_tail (Distinct child) is = f child old new is
  of_tail (Group child keys aggs) is = f child old new is
  of_tail (Order child keys) is = f child old new is
  of_tail (Concat left right) is = (is.0, f right (rights left old) (rights left new) is.1)
  of_tail (Scan stream) is = absurd is
  of_tail (Join left right on) is = absurd is

  of_delta_tail : (plan : PlainPlan) → OfDeltaTail P plan old new → OfDeltaTail Q plan old new
  of_delta_tail (Filter child test) is = f child old new is
  of_delta_tail (Project child columns) is = f child old new is
  of_delta_tail (Concat left right) is = (is.0, f right (rights left old) (rights left new) is.1)
  of_delta_tail (Scan stream) is = absurd is
  of_delta_tail (Distinct child) is = absurd is
  of_delta_tail (Group child keys aggs) is = absurd is
  of_delta_tail (Join left right on) is = absurd is
  of_delta_tail (Order child keys) is = absurd is

module _ (names others : Naming) (whole : (plan : PlainPlan) (cuts : Cuts) (hit : Hit) → names.whole plan cuts hit → others.whole plan cuts hit)
    (earlier : (plan : PlainPlan) (cuts : Cuts) (hit : Hit) → names.earlier plan cuts hit → others.earlier plan cuts hit) where
  mutual
    -- a rewriting over some names is one over names that allow more
    pub renamed : (r : PlainRewriting) (plan : PlainPlan) (cuts : Cuts) → IsRewriting names plan cuts r → IsRewriting others plan cuts r
    renamed (Node p c way) plan cuts is = (is.0, is.1, way_renamed way plan cuts is.2)

    way_renamed : (way : PlainWay) (plan : PlainPlan) (cuts : Cuts) → IsWay names plan cuts way → IsWay others plan cuts way
    way_renamed tree.Scan plan cuts is = is
    way_renamed (One r) plan cuts is = of_one _ _ (λ child. renamed r child cuts) plan is
    way_renamed (Two l r) plan cuts is = of_two _ _ (λ left right both. (renamed l left (lefts left cuts) both.0, renamed r right (rights left cuts) both.1)) plan is
    way_renamed (Read hit) plan cuts is = whole plan cuts hit is
    way_renamed (Tail hit d) plan cuts is = (earlier plan cuts hit is.0, of_tail _ _ (λ child old new. delta_renamed d child old new) hit.cuts cuts plan is.1)
    way_renamed (LeftGrew hit d r) plan cuts is = (
      earlier plan cuts hit is.0,
      of_sides _ _ (λ left right all. (all.0, delta_renamed d left (lefts left hit.cuts) (lefts left cuts) all.1, renamed r right (rights left cuts) all.2)) plan is.1,
    )
    way_renamed (RightGrew hit l d) plan cuts is = (
      earlier plan cuts hit is.0,
      of_sides _ _ (λ left right all. (all.0, renamed l left (lefts left cuts) all.1, delta_renamed d right (rights left hit.cuts) (rights left cuts) all.2)) plan is.1,
    )
    way_renamed (BothGrew hit l rd ld r) plan cuts is = (
      earlier plan cuts hit is.0,
      of_sides _ _ (λ left right all. (
        all.0,
        all.1,
        renamed l left (lefts left hit.cuts) all.2,
        delta_renamed rd right (rights left hit.cuts) (rights left cuts) all.3,
        delta_renamed ld left (lefts left hit.cuts) (lefts left cuts) all.4,
        renamed r right (rights left cuts) all.5,
      )) plan is.1,
    )

    delta_renamed : (d : PlainDelta) (plan : PlainPlan) (old new : Cuts) → IsDelta names plan old new d → IsDelta others plan old new d
    delta_renamed (Change p o n way) plan old new is = (is.0, is.1, is.2, delta_way_renamed way plan old new is.3)

    delta_way_renamed : (way : PlainDeltaWay) (plan : PlainPlan) (old new : Cuts) → IsDeltaWay names plan old new way → IsDeltaWay others plan old new way
    delta_way_renamed Unchanged plan old new is = is
    delta_way_renamed NewRows plan old new is = is
    delta_way_renamed (OfChild d) plan old new is = (is.0, of_delta_tail _ _ (λ child o n. delta_renamed d child o n) old new plan is.1)
    delta_way_renamed (OfDistinct r d) plan old new is = (is.0, renamed r plan old is.1, of_distinct _ _ (λ child. delta_renamed d child old new) plan is.2)
    delta_way_renamed (OfJoin d r) plan old new is = (
      is.0,
      of_sides _ _ (λ left right all. (all.0, delta_renamed d left (lefts left old) (lefts left new) all.1, renamed r right (rights left new) all.2)) plan is.1,
    )

-- ---- entries

pub of_entries : (extents : Extents) (results : KeptResults) (entries : Entries) (plan : PlainPlan) (cuts : Cuts) (r : PlainRewriting) → AreSound entries → AreKept extents results entries
    → IsRewriting (among entries) plan cuts r → IsRewriting (kept_among extents results) plan cuts r
of_entries extents results entries plan cuts r sound kept is =
    renamed (among entries) (kept_among extents results)
    (λ plan cuts hit named. (named.here, subst (λ c. IsResultOf extents plan c (results hit.id)) named.here (kept (entry_of plan hit) named.kept)))
    (λ plan cuts hit named. (sound.intervals (entry_of plan hit) named.candidate.kept, kept (entry_of plan hit) named.candidate.kept)) r plan cuts is
