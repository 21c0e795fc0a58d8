-- What a node answers, of what its parts and its step have answered.
use Rattle.std.proofs.Common.{◌≡◌, sym, ap, subst, ℕ, ◌+◌, ◌≤◌, ◌⊎◌, inl, inr, List, ◌++◌, reverse, Result, Ok, Err, arith}
use Rattle.rows_core.specs.declared.overflow.Overflow.{Overflow}
use Rattle.plan_core.specs.PlainPlan.{PlainPlan}
use Rattle.estimator.specs.Cuts.{Cuts}
use Rattle.rewrite_core.specs.declared.rewriting.Hit.{Hit}
use Rattle.rewrite_core.specs.PlainRewriting.{PlainRewriting, Node, PlainWay, One, Two, Tail, LeftGrew, RightGrew, BothGrew, PlainDelta, Change, OfChild, OfDistinct, OfJoin}
use Rattle.growth_laws.specs.Growth as laws
use Rattle.growth_laws.specs.KeptResults.{KeptResults}
use Rattle.growth_laws.specs.Lists.{Extents}
use Rattle.growth_laws.specs.Making.{made_before, taken_in_of, made_of_one, computed_one, made_of_two, computed_two, made_of_grown, grown_one, made_of_left, grown_left, made_of_right, grown_right, made_of_both, grown_both, added_of_child, passed_delta, added_of_distinct, distinct_delta, added_of_join, join_delta}
use Rattle.growth_laws.specs.Parts.{plan_at}
use Rattle.growth_laws.specs.Pieces.{Piece, pieces_of, pieces_of_delta}
use Rattle.growth_laws.specs.Trees.{made_by, made_in, added_by}
use Rattle.result_ops.specs.declared.made.Made.{Made}
use Rattle.result_ops.specs.declared.made.Added.{Added}
use Rattle.result_ops.specs.declared.refusal.MakeRefusal.{MakeRefusal}
use Rattle.result_ops.specs.Bounds.{limit, PassesBounds}
use Rattle.result_ops.specs.Steps.{made_of, added_of, Makes, MakesGrown, Adds, taken_of_one, taken_of_two}
use Rattle.executor.specs.Evaluating.{Tree, Computed, Grown, DeltaTree, Passed}
use Rattle.executor.specs.Laws.{GivesValid, MakesResults, AddsResults}
use Rattle.executor.specs.Loading.{Loads, HoldAll}
use Rattle.executor.specs.Parts.{pieces_behind}
use Rattle.executor.specs.Passing.{Passes, DeltaPasses}
use Rattle.executor.proofs.Above as law
use Rattle.executor.proofs.Loads.{hold_two, hold_four}
use Rattle.executor.proofs.Steps.{makes_more, adds_more, made_stops, added_stops, made_stops_added, added_stops_added, on_ok}

module _ (makes : MakesResults) (adds : AddsResults) (valid : GivesValid) where
  -- ---- computed nodes

  module _ (plan : PlainPlan) (cuts : Cuts) (r : PlainRewriting) (before mid : Loads) where
    pub one_stops : (e : MakeRefusal) → Tree r before mid (Err e) → Computed plan cuts (One r) before mid (Err e)
    one_stops e first = λ extents results rest held.
        let part = first extents results rest held in
        (made_stops _ _ (law.one_lifts makes adds valid extents results plan cuts r) e plan (computed_one plan (made_by extents results r)) (plan_at r) (made_by extents results r) (λ f. ap (computed_one plan) f) part.0, tt)

    pub one_done : (made : Made) (result : Result Made MakeRefusal) → Tree r before mid (Ok made) → Makes (limit ≤ taken_of_one (made_of made)) plan (made_of_one plan (made_of made)) result
        → Computed plan cuts (One r) before mid result
    one_done made result first step = λ extents results rest held.
        let part = first extents results rest held in (
          subst (λ given. Makes (Passes extents results (Node plan cuts (One r))) plan given result) (sym (ap (computed_one plan) part.0.0))
              (makes_more _ _ (law.one_over makes adds valid extents results plan cuts r (made_of made) part.0.0) plan (made_of_one plan (made_of made)) result step),
          on_ok _ result part.1,
        )

  module _ (plan : PlainPlan) (cuts : Cuts) (l r : PlainRewriting) (before mid after : Loads) where
    pub two_stops : (e : MakeRefusal) → Tree l before mid (Err e) → Computed plan cuts (Two l r) before mid (Err e)
    two_stops e first = λ extents results rest held.
        let part = first extents results (pieces_of r ++ rest) (hold_two extents results (reverse before) (pieces_of l) (pieces_of r) rest held) in (
          made_stops _ _ (λ passes. law.two_lift makes adds valid extents results plan cuts l r (inl passes)) e plan (computed_two plan (made_by extents results l) (made_by extents results r)) (plan_at l) (made_by extents results l)
              (λ f. ap (λ m. computed_two plan m (made_by extents results r)) f) part.0,
          tt,
        )

    pub two_stops_then : (a : Made) (e : MakeRefusal) → Tree l before mid (Ok a) → Tree r mid after (Err e) → Computed plan cuts (Two l r) before after (Err e)
    two_stops_then a e first second = λ extents results rest held.
        let part = first extents results (pieces_of r ++ rest) (hold_two extents results (reverse before) (pieces_of l) (pieces_of r) rest held) in
        let next = second extents results rest part.1 in (
          made_stops _ _ (λ passes. law.two_lift makes adds valid extents results plan cuts l r (inr passes)) e plan (computed_two plan (made_by extents results l) (made_by extents results r)) (plan_at r) (made_by extents results r)
              (λ f. λ i. computed_two plan (part.0.0 i) (f i)) next.0,
          tt,
        )

    pub two_done : (a b : Made) (result : Result Made MakeRefusal) → Tree l before mid (Ok a) → Tree r mid after (Ok b) → Makes (limit ≤ taken_of_two (made_of a) (made_of b)) plan (made_of_two plan (made_of a) (made_of b)) result
        → Computed plan cuts (Two l r) before after result
    two_done a b result first second step = λ extents results rest held.
        let part = first extents results (pieces_of r ++ rest) (hold_two extents results (reverse before) (pieces_of l) (pieces_of r) rest held) in
        let next = second extents results rest part.1 in
        let path : computed_two plan (made_by extents results l) (made_by extents results r) ≡ made_of_two plan (made_of a) (made_of b) = λ i. computed_two plan (part.0.0 i) (next.0.0 i) in (
          subst (λ given. Makes (Passes extents results (Node plan cuts (Two l r))) plan given result) (sym path)
              (makes_more _ _ (law.two_over makes adds valid extents results plan cuts l r (made_of a) (made_of b) part.0.0 next.0.0) plan (made_of_two plan (made_of a) (made_of b)) result step),
          on_ok _ result next.1,
        )

  -- ---- grown nodes

  module _ (plan : PlainPlan) (cuts : Cuts) (hit : Hit) (way : PlainWay) (old : Made) (extents : Extents) (results : KeptResults) (e : made_before (results hit.id) ≡ made_of old) where
    -- a step that passes the limit, or the bounds
    grown_makes : (n : ℕ) (given : Result laws.Made Overflow) (result : Result Made MakeRefusal) → made_in extents results plan cuts way ≡ given
        → (limit ≤ (made_before (results hit.id)).taken_in + n → Passes extents results (Node plan cuts way)) → MakesGrown (old.taken_in + n) plan given result
        → Makes (Passes extents results (Node plan cuts way)) plan (made_in extents results plan cuts way) result
    grown_makes n given result path over step =
        subst (λ given. Makes (Passes extents results (Node plan cuts way)) plan given result) (sym path)
        (makes_more ((limit ≤ old.taken_in + n) ⊎ PassesBounds plan given) (Passes extents results (Node plan cuts way)) by plan given result step)
      where
        by : (limit ≤ old.taken_in + n) ⊎ PassesBounds plan given → Passes extents results (Node plan cuts way)
        by (inl is) = over (let t = ap (λ (m : laws.Made). m.taken_in) e in omega (arith, t, is))
        by (inr is) = law.above_passes makes adds valid extents results plan cuts way (law.outside_is_above makes adds valid extents results plan (made_in extents results plan cuts way) (subst (PassesBounds plan) (sym path) is))

    -- a step that passes the limit
    right_makes : (n : ℕ) (given : Result laws.Made Overflow) (result : Result Made MakeRefusal) → made_in extents results plan cuts way ≡ given
        → (limit ≤ (made_before (results hit.id)).taken_in + n → Passes extents results (Node plan cuts way)) → Makes (limit ≤ old.taken_in + n) plan given result
        → Makes (Passes extents results (Node plan cuts way)) plan (made_in extents results plan cuts way) result
    right_makes n given result path over step =
        subst (λ given. Makes (Passes extents results (Node plan cuts way)) plan given result) (sym path)
        (makes_more (limit ≤ old.taken_in + n) (Passes extents results (Node plan cuts way)) (λ is. over (let t = ap (λ (m : laws.Made). m.taken_in) e in omega (arith, t, is))) plan given result step)

  module _ (plan : PlainPlan) (cuts : Cuts) (hit : Hit) (old : Made) (before : Loads) where
    module _ (d : PlainDelta) (mid : Loads) where
      pub tail_stops : (e : MakeRefusal) → DeltaTree d before mid (Err e) → Grown plan cuts hit (Tail hit d) old before mid (Err e)
      tail_stops e first = λ extents results rest same held.
          let part = first extents results rest held in (
            added_stops _ _ (law.tail_lifts makes adds valid extents results plan cuts hit d) e plan (grown_one plan (made_before (results hit.id)) (added_by extents results d)) (added_by extents results d)
                (λ f. ap (grown_one plan (made_before (results hit.id))) f) part.0,
            tt,
          )

      pub tail_done : (added : Added) (result : Result Made MakeRefusal) → DeltaTree d before mid (Ok added)
          → MakesGrown (old.taken_in + taken_in_of (added_of added)) plan (made_of_grown plan (made_of old) (added_of added)) result → Grown plan cuts hit (Tail hit d) old before mid result
      tail_done added result first step = λ extents results rest same held.
          let part = first extents results rest held in (
            grown_makes plan cuts hit (Tail hit d) old extents results same (taken_in_of (added_of added)) (made_of_grown plan (made_of old) (added_of added)) result (λ i. grown_one plan (same i) (part.0.0 i))
                (law.tail_over makes adds valid extents results plan cuts hit d (added_of added) part.0.0) step,
            on_ok _ result part.1,
          )

    module _ (d : PlainDelta) (r : PlainRewriting) (mid after : Loads) where
      pub left_stops : (e : MakeRefusal) → DeltaTree d before mid (Err e) → Grown plan cuts hit (LeftGrew hit d r) old before mid (Err e)
      left_stops e first = λ extents results rest same held.
          let part = first extents results (pieces_of r ++ rest) (hold_two extents results (reverse before) (pieces_of_delta d) (pieces_of r) rest held) in (
            added_stops _ _ (λ passes. law.left_lift makes adds valid extents results plan cuts hit d r (inl passes)) e plan (grown_left plan (made_before (results hit.id)) (added_by extents results d) (made_by extents results r)) (added_by extents results d)
                (λ f. ap (λ a. grown_left plan (made_before (results hit.id)) a (made_by extents results r)) f) part.0,
            tt,
          )

      pub left_stops_then : (added : Added) (e : MakeRefusal) → DeltaTree d before mid (Ok added) → Tree r mid after (Err e) → Grown plan cuts hit (LeftGrew hit d r) old before after (Err e)
      left_stops_then added e first second = λ extents results rest same held.
          let part = first extents results (pieces_of r ++ rest) (hold_two extents results (reverse before) (pieces_of_delta d) (pieces_of r) rest held) in
          let next = second extents results rest part.1 in (
            made_stops _ _ (λ passes. law.left_lift makes adds valid extents results plan cuts hit d r (inr passes)) e plan (grown_left plan (made_before (results hit.id)) (added_by extents results d) (made_by extents results r)) (plan_at r) (made_by extents results r)
                (λ f. λ i. grown_left plan (made_before (results hit.id)) (part.0.0 i) (f i)) next.0,
            tt,
          )

      pub left_done : (added : Added) (made : Made) (result : Result Made MakeRefusal) → DeltaTree d before mid (Ok added) → Tree r mid after (Ok made)
          → MakesGrown (old.taken_in + taken_in_of (added_of added)) plan (made_of_left plan (made_of old) (added_of added) (made_of made)) result → Grown plan cuts hit (LeftGrew hit d r) old before after result
      left_done added made result first second step = λ extents results rest same held.
          let part = first extents results (pieces_of r ++ rest) (hold_two extents results (reverse before) (pieces_of_delta d) (pieces_of r) rest held) in
          let next = second extents results rest part.1 in (
            grown_makes plan cuts hit (LeftGrew hit d r) old extents results same (taken_in_of (added_of added)) (made_of_left plan (made_of old) (added_of added) (made_of made)) result (λ i. grown_left plan (same i) (part.0.0 i) (next.0.0 i))
                (law.left_over makes adds valid extents results plan cuts hit d r (added_of added) part.0.0) step,
            on_ok _ result next.1,
          )

    module _ (l : PlainRewriting) (d : PlainDelta) (mid after : Loads) where
      pub right_stops : (e : MakeRefusal) → Tree l before mid (Err e) → Grown plan cuts hit (RightGrew hit l d) old before mid (Err e)
      right_stops e first = λ extents results rest same held.
          let part = first extents results (pieces_of_delta d ++ rest) (hold_two extents results (reverse before) (pieces_of l) (pieces_of_delta d) rest held) in (
            made_stops _ _ (λ passes. law.right_lift makes adds valid extents results plan cuts hit l d (inl passes)) e plan (grown_right plan (made_before (results hit.id)) (made_by extents results l) (added_by extents results d)) (plan_at l) (made_by extents results l)
                (λ f. ap (λ m. grown_right plan (made_before (results hit.id)) m (added_by extents results d)) f) part.0,
            tt,
          )

      pub right_stops_then : (made : Made) (e : MakeRefusal) → Tree l before mid (Ok made) → DeltaTree d mid after (Err e) → Grown plan cuts hit (RightGrew hit l d) old before after (Err e)
      right_stops_then made e first second = λ extents results rest same held.
          let part = first extents results (pieces_of_delta d ++ rest) (hold_two extents results (reverse before) (pieces_of l) (pieces_of_delta d) rest held) in
          let next = second extents results rest part.1 in (
            added_stops _ _ (λ passes. law.right_lift makes adds valid extents results plan cuts hit l d (inr passes)) e plan (grown_right plan (made_before (results hit.id)) (made_by extents results l) (added_by extents results d)) (added_by extents results d)
                (λ f. λ i. grown_right plan (made_before (results hit.id)) (part.0.0 i) (f i)) next.0,
            tt,
          )

      pub right_done : (made : Made) (added : Added) (result : Result Made MakeRefusal) → Tree l before mid (Ok made) → DeltaTree d mid after (Ok added)
          → Makes (limit ≤ old.taken_in + taken_in_of (added_of added)) plan (made_of_right plan (made_of old) (made_of made) (added_of added)) result → Grown plan cuts hit (RightGrew hit l d) old before after result
      right_done made added result first second step = λ extents results rest same held.
          let part = first extents results (pieces_of_delta d ++ rest) (hold_two extents results (reverse before) (pieces_of l) (pieces_of_delta d) rest held) in
          let next = second extents results rest part.1 in (
            right_makes plan cuts hit (RightGrew hit l d) old extents results same (taken_in_of (added_of added)) (made_of_right plan (made_of old) (made_of made) (added_of added)) result (λ i. grown_right plan (same i) (part.0.0 i) (next.0.0 i))
                (law.right_over makes adds valid extents results plan cuts hit l d (added_of added) next.0.0) step,
            on_ok _ result next.1,
          )

    module _ (l : PlainRewriting) (rd ld : PlainDelta) (r : PlainRewriting) (a b c after : Loads) where
      four_held : (extents : Extents) (results : KeptResults) (rest : List Piece) → HoldAll extents results (pieces_behind (BothGrew hit l rd ld r) ++ rest) (reverse before)
          → HoldAll extents results (pieces_of l ++ (pieces_of_delta rd ++ (pieces_of_delta ld ++ (pieces_of r ++ rest)))) (reverse before)
      four_held extents results rest held = hold_four extents results (reverse before) (pieces_of l) (pieces_of_delta rd) (pieces_of_delta ld) (pieces_of r) rest held

      pub both_stops : (e : MakeRefusal) → Tree l before a (Err e) → Grown plan cuts hit (BothGrew hit l rd ld r) old before a (Err e)
      both_stops e first = λ extents results rest same held.
          let part = first extents results _ (four_held extents results rest held) in
          let old = made_before (results hit.id) in (
            made_stops _ _ (λ passes. law.both_lift makes adds valid extents results plan cuts hit l rd ld r (inl (inl passes))) e plan
                (grown_both plan old (made_by extents results l) (added_by extents results rd) (added_by extents results ld) (made_by extents results r)) (plan_at l) (made_by extents results l)
                (λ f. ap (λ m. grown_both plan old m (added_by extents results rd) (added_by extents results ld) (made_by extents results r)) f) part.0,
            tt,
          )

      pub both_stops_second : (old_left : Made) (e : MakeRefusal) → Tree l before a (Ok old_left) → DeltaTree rd a b (Err e) → Grown plan cuts hit (BothGrew hit l rd ld r) old before b (Err e)
      both_stops_second old_left e first second = λ extents results rest same held.
          let one = first extents results _ (four_held extents results rest held) in
          let two = second extents results _ one.1 in
          let old = made_before (results hit.id) in (
            added_stops _ _ (λ passes. law.both_lift makes adds valid extents results plan cuts hit l rd ld r (inl (inr passes))) e plan
                (grown_both plan old (made_by extents results l) (added_by extents results rd) (added_by extents results ld) (made_by extents results r)) (added_by extents results rd)
                (λ f. λ i. grown_both plan old (one.0.0 i) (f i) (added_by extents results ld) (made_by extents results r)) two.0,
            tt,
          )

      pub both_stops_third : (old_left : Made) (right_added : Added) (e : MakeRefusal) → Tree l before a (Ok old_left) → DeltaTree rd a b (Ok right_added) → DeltaTree ld b c (Err e)
          → Grown plan cuts hit (BothGrew hit l rd ld r) old before c (Err e)
      both_stops_third old_left right_added e first second third = λ extents results rest same held.
          let one = first extents results _ (four_held extents results rest held) in
          let two = second extents results _ one.1 in
          let three = third extents results _ two.1 in
          let old = made_before (results hit.id) in (
            added_stops _ _ (λ passes. law.both_lift makes adds valid extents results plan cuts hit l rd ld r (inr (inl passes))) e plan
                (grown_both plan old (made_by extents results l) (added_by extents results rd) (added_by extents results ld) (made_by extents results r)) (added_by extents results ld)
                (λ f. λ i. grown_both plan old (one.0.0 i) (two.0.0 i) (f i) (made_by extents results r)) three.0,
            tt,
          )

      pub both_stops_last : (old_left : Made) (right_added left_added : Added) (e : MakeRefusal) → Tree l before a (Ok old_left) → DeltaTree rd a b (Ok right_added) → DeltaTree ld b c (Ok left_added) → Tree r c after (Err e)
          → Grown plan cuts hit (BothGrew hit l rd ld r) old before after (Err e)
      both_stops_last old_left right_added left_added e first second third last = λ extents results rest same held.
          let one = first extents results _ (four_held extents results rest held) in
          let two = second extents results _ one.1 in
          let three = third extents results _ two.1 in
          let four = last extents results rest three.1 in
          let old = made_before (results hit.id) in (
            made_stops _ _ (λ passes. law.both_lift makes adds valid extents results plan cuts hit l rd ld r (inr (inr passes))) e plan
                (grown_both plan old (made_by extents results l) (added_by extents results rd) (added_by extents results ld) (made_by extents results r)) (plan_at r) (made_by extents results r)
                (λ f. λ i. grown_both plan old (one.0.0 i) (two.0.0 i) (three.0.0 i) (f i)) four.0,
            tt,
          )

      pub both_done : (old_left : Made) (right_added left_added : Added) (right : Made) (result : Result Made MakeRefusal) → Tree l before a (Ok old_left) → DeltaTree rd a b (Ok right_added) → DeltaTree ld b c (Ok left_added)
          → Tree r c after (Ok right)
          → MakesGrown (old.taken_in + (taken_in_of (added_of left_added) + taken_in_of (added_of right_added))) plan
          (made_of_both plan (made_of old) (made_of old_left) (added_of right_added) (added_of left_added) (made_of right)) result
          → Grown plan cuts hit (BothGrew hit l rd ld r) old before after result
      both_done old_left right_added left_added right result first second third last step = λ extents results rest same held.
          let one = first extents results _ (four_held extents results rest held) in
          let two = second extents results _ one.1 in
          let three = third extents results _ two.1 in
          let four = last extents results rest three.1 in (
            grown_makes plan cuts hit (BothGrew hit l rd ld r) old extents results same (taken_in_of (added_of left_added) + taken_in_of (added_of right_added))
                (made_of_both plan (made_of old) (made_of old_left) (added_of right_added) (added_of left_added) (made_of right)) result
                (λ i. grown_both plan (same i) (one.0.0 i) (two.0.0 i) (three.0.0 i) (four.0.0 i))
                (law.both_over makes adds valid extents results plan cuts hit l rd ld r (added_of right_added) (added_of left_added) two.0.0 three.0.0) step,
            on_ok _ result four.1,
          )

  -- ---- deltas

  module _ (plan : PlainPlan) (old new : Cuts) (d : PlainDelta) (before mid : Loads) where
    pub child_stops : (e : MakeRefusal) → DeltaTree d before mid (Err e) → Passed plan old new (OfChild d) before mid (Err e)
    child_stops e first = λ extents results rest held.
        let part = first extents results rest held in
        (added_stops_added _ _ (law.child_lifts makes adds valid extents results plan old new d) e (passed_delta plan (added_by extents results d)) (added_by extents results d) (λ f. ap (passed_delta plan) f) part.0, tt)

    pub child_done : (added : Added) (result : Result Added MakeRefusal) → DeltaTree d before mid (Ok added) → Adds (limit ≤ taken_in_of (added_of added)) (added_of_child plan (added_of added)) result
        → Passed plan old new (OfChild d) before mid result
    child_done added result first step = λ extents results rest held.
        let part = first extents results rest held in (
          subst (λ given. Adds (DeltaPasses extents results (Change plan old new (OfChild d))) given result) (sym (ap (passed_delta plan) part.0.0))
              (adds_more _ _ (law.child_over makes adds valid extents results plan old new d (added_of added) part.0.0) (added_of_child plan (added_of added)) result step),
          on_ok _ result part.1,
        )

  module _ (plan : PlainPlan) (old new : Cuts) (before mid after : Loads) where
    module _ (r : PlainRewriting) (d : PlainDelta) where
      pub distinct_stops : (e : MakeRefusal) → Tree r before mid (Err e) → Passed plan old new (OfDistinct r d) before mid (Err e)
      distinct_stops e first = λ extents results rest held.
          let part = first extents results (pieces_of_delta d ++ rest) (hold_two extents results (reverse before) (pieces_of r) (pieces_of_delta d) rest held) in (
            made_stops_added _ _ (law.distinct_lifts_old makes adds valid extents results plan old new d r) e (distinct_delta (made_by extents results r) (added_by extents results d)) (plan_at r) (made_by extents results r)
                (λ f. ap (λ m. distinct_delta m (added_by extents results d)) f) part.0,
            tt,
          )

      pub distinct_stops_then : (made : Made) (e : MakeRefusal) → Tree r before mid (Ok made) → DeltaTree d mid after (Err e) → Passed plan old new (OfDistinct r d) before after (Err e)
      distinct_stops_then made e first second = λ extents results rest held.
          let part = first extents results (pieces_of_delta d ++ rest) (hold_two extents results (reverse before) (pieces_of r) (pieces_of_delta d) rest held) in
          let next = second extents results rest part.1 in (
            added_stops_added _ _ (law.distinct_lifts makes adds valid extents results plan old new d r) e (distinct_delta (made_by extents results r) (added_by extents results d)) (added_by extents results d)
                (λ f. λ i. distinct_delta (part.0.0 i) (f i)) next.0,
            tt,
          )

      pub distinct_done : (made : Made) (added : Added) (result : Result Added MakeRefusal) → Tree r before mid (Ok made) → DeltaTree d mid after (Ok added)
          → Adds (limit ≤ taken_in_of (added_of added)) (added_of_distinct (made_of made) (added_of added)) result → Passed plan old new (OfDistinct r d) before after result
      distinct_done made added result first second step = λ extents results rest held.
          let part = first extents results (pieces_of_delta d ++ rest) (hold_two extents results (reverse before) (pieces_of r) (pieces_of_delta d) rest held) in
          let next = second extents results rest part.1 in
          let path : distinct_delta (made_by extents results r) (added_by extents results d) ≡ added_of_distinct (made_of made) (added_of added) = λ i. distinct_delta (part.0.0 i) (next.0.0 i) in (
            subst (λ given. Adds (DeltaPasses extents results (Change plan old new (OfDistinct r d))) given result) (sym path)
                (adds_more _ _ (law.distinct_over makes adds valid extents results plan old new d r (added_of added) next.0.0) (added_of_distinct (made_of made) (added_of added)) result step),
            on_ok _ result next.1,
          )

    module _ (d : PlainDelta) (r : PlainRewriting) where
      pub join_stops : (e : MakeRefusal) → DeltaTree d before mid (Err e) → Passed plan old new (OfJoin d r) before mid (Err e)
      join_stops e first = λ extents results rest held.
          let part = first extents results (pieces_of r ++ rest) (hold_two extents results (reverse before) (pieces_of_delta d) (pieces_of r) rest held) in (
            added_stops_added _ _ (λ passes. law.join_lifts makes adds valid extents results plan old new d r (inl passes)) e (join_delta plan (added_by extents results d) (made_by extents results r)) (added_by extents results d)
                (λ f. ap (λ a. join_delta plan a (made_by extents results r)) f) part.0,
            tt,
          )

      pub join_stops_then : (added : Added) (e : MakeRefusal) → DeltaTree d before mid (Ok added) → Tree r mid after (Err e) → Passed plan old new (OfJoin d r) before after (Err e)
      join_stops_then added e first second = λ extents results rest held.
          let part = first extents results (pieces_of r ++ rest) (hold_two extents results (reverse before) (pieces_of_delta d) (pieces_of r) rest held) in
          let next = second extents results rest part.1 in (
            made_stops_added _ _ (λ passes. law.join_lifts makes adds valid extents results plan old new d r (inr passes)) e (join_delta plan (added_by extents results d) (made_by extents results r)) (plan_at r) (made_by extents results r)
                (λ f. λ i. join_delta plan (part.0.0 i) (f i)) next.0,
            tt,
          )

      pub join_done : (added : Added) (made : Made) (result : Result Added MakeRefusal) → DeltaTree d before mid (Ok added) → Tree r mid after (Ok made)
          → Adds (limit ≤ taken_in_of (added_of added)) (added_of_join plan (added_of added) (made_of made)) result → Passed plan old new (OfJoin d r) before after result
      join_done added made result first second step = λ extents results rest held.
          let part = first extents results (pieces_of r ++ rest) (hold_two extents results (reverse before) (pieces_of_delta d) (pieces_of r) rest held) in
          let next = second extents results rest part.1 in
          let path : join_delta plan (added_by extents results d) (made_by extents results r) ≡ added_of_join plan (added_of added) (made_of made) = λ i. join_delta plan (part.0.0 i) (next.0.0 i) in (
            subst (λ given. Adds (DeltaPasses extents results (Change plan old new (OfJoin d r))) given result) (sym path)
                (adds_more _ _ (law.join_over makes adds valid extents results plan old new d r (added_of added) part.0.0) (added_of_join plan (added_of added) (made_of made)) result step),
            on_ok _ result next.1,
          )
