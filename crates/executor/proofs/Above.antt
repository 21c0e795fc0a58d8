-- A machine time of a part is within the limit where that of the whole is: so a part that passes a bound shows that the whole
-- passes it.
use Rattle.std.proofs.Common.{◌≡◌, ◌≢◌, refl, sym, ap, subst, ◌∙◌, ℕ, ◌+◌, ◌≤◌, ◌⊎◌, inl, inr, List, take, drop, true, Result, Ok, Err, arith}
use Rattle.std.proofs.lemmas.Bool.{false≢true}
use Rattle.rows_core.specs.declared.overflow.Overflow.{Overflow}
use Rattle.row_blob.specs.declared.kept.Kept.{Kept}
use Rattle.plan_core.specs.Columns.{Rows}
use Rattle.plan_core.specs.MachineTime.{rows_taken_in}
use Rattle.plan_core.specs.PlainPlan.{PlainPlan, leaves, leaf_count}
use Rattle.plan_core.specs.PlainPlan as plan
use Rattle.plan_core.specs.PlanMeaning.{plan_meaning}
use Rattle.plan_laws.specs.KeptForm.{kept_form, rows_of_kept}
use Rattle.plan_laws.proofs.GrowingTwo.{stays}
use Rattle.plan_laws.proofs.Answers.{both_ok}
use Rattle.plan_laws.proofs.KeptRows.{kept_rows as rows_are}
use Rattle.estimator.specs.Cuts.{Cuts, AreIntervals}
use Rattle.rewrite_core.specs.declared.rewriting.Hit.{Hit}
use Rattle.rewrite_core.specs.IsRewriting.{Naming, IsRewriting, IsDelta, IsDeltaWay, OfTwo, OfSides, lefts, rights}
use Rattle.rewrite_core.specs.PlainRewriting.{PlainRewriting, Node, PlainWay, One, Two, Tail, LeftGrew, RightGrew, BothGrew, PlainDelta, Change, PlainDeltaWay, NewRows, OfChild, OfDistinct, OfJoin}
use Rattle.growth_laws.specs.Growth.{Added, Made, Extends, IsMade}
use Rattle.growth_laws.specs.KeptResults.{KeptResults, IsResultOf, kept_among}
use Rattle.growth_laws.specs.Lists.{Extents, plan_lists}
use Rattle.growth_laws.specs.Making.{kept_rows, made_before, nothing_added, taken_in_of}
use Rattle.growth_laws.specs.Pieces.{is_chain_delta, as_added}
use Rattle.growth_laws.specs.Trees.{made_by, made_in, added_by}
use Rattle.growth_laws.proofs.PieceResults.{subst_both}
use Rattle.growth_laws.proofs.TreeOwners.{from_one, from_two}
use Rattle.growth_laws.proofs.TreeParts.{first_intervals, other_intervals}
use Rattle.result_ops.specs.Bounds.{limit, IsBounded, PassesBounds}
use Rattle.result_ops.specs.Steps.{taken_of_one, taken_of_two}
use Rattle.executor.specs.Laws.{GivesValid, MakesResults, AddsResults}
use Rattle.executor.specs.Loading.{IsAbove}
use Rattle.executor.specs.Passing.{IsStored, IsTyped, IsWithin, Passes, DeltaPasses}
use Rattle.executor.proofs.Bounded.{bounded, lists_valid}
use Rattle.executor.proofs.Needs.{Needs, Gave, GrowsBy, needs_one, needs_two, lists_one, lists_two, AreLists, gave_one, gave_two, taken_one, taken_two, more_one, more_two}
use Rattle.executor.proofs.PlanParts.{OfOneOrRight, in_one, in_two, distinct_as_one, sides_as_two, tail_as, passed_as}

module _ (makes : MakesResults) (adds : AddsResults) (valid : GivesValid) (extents : Extents) (results : KeptResults) where
  abbrev Names : Naming
  Names = kept_among extents results

  abbrev L : PlainPlan → Cuts → List Rows
  L = plan_lists extents

  abbrev N : PlainPlan → Cuts → Type 0
  N = Needs extents results

  result_made : (plan : PlainPlan) (cuts : Cuts) (id : ℕ) → IsResultOf extents plan cuts (results id) → IsMade plan (L plan cuts) (Ok (made_before (results id)))
  result_made plan cuts id is = (is.form, let e = is.machine in omega (arith, e))

  -- ---- what is above the limit or outside of the bounds

  pub never_above : (plan : PlainPlan) (cuts : Cuts) (given : Result Made Overflow) → IsMade plan (L plan cuts) given → IsAbove plan given → N plan cuts → ⊥
  never_above plan cuts given made above needs = by (subst (IsMade plan (L plan cuts)) above.1 made) above.2
    where
      by : IsMade plan (L plan cuts) (Ok above.0) → (limit ≤ above.0.taken_in) ⊎ (IsBounded plan above.0.kept → ⊥) → ⊥
      by is (inl over) = let e = is.1 in let within = needs.1 in omega (arith, e, within, over)
      by is (inr outside) = outside (bounded valid plan (L plan cuts) above.0.kept needs.0.1 needs.0.0.literals (lists_valid extents needs.0.0.valid (leaves plan) cuts) needs.1 is.0)

  pub outside_is_above : (plan : PlainPlan) (given : Result Made Overflow) → PassesBounds plan given → IsAbove plan given
  outside_is_above plan (Ok made) passes = (made, refl, inr passes)
  outside_is_above plan (Err e) passes = absurd passes

  pub above_passes : (plan : PlainPlan) (cuts : Cuts) (way : PlainWay) → IsAbove plan (made_in extents results plan cuts way) → Passes extents results (Node plan cuts way)
  above_passes plan cuts way above = λ is stored typed within. never_above plan cuts (made_in extents results plan cuts way) (makes extents results plan cuts (Node plan cuts way) is) above ((stored, typed), within)

  -- the earlier result that a tree names
  hit_needs : (plan : PlainPlan) (cuts : Cuts) (hit : Hit) → N plan cuts → IsResultOf extents plan hit.cuts (results hit.id) → N plan hit.cuts
  hit_needs plan cuts hit needs is = (needs.0, let e = is.machine in let within = needs.0.0.within hit.id in omega (arith, e, within))

  pub old_above : (plan : PlainPlan) (cuts : Cuts) (hit : Hit) → IsAbove plan (Ok (made_before (results hit.id))) → Names.earlier plan cuts hit → N plan cuts → ⊥
  old_above plan cuts hit above named needs =
      never_above plan hit.cuts (Ok (made_before (results hit.id))) (result_made plan hit.cuts hit.id named.1) above (hit_needs plan cuts hit needs named.1)

  -- ---- a part that passes the limit

  at : (r : PlainRewriting) (plan : PlainPlan) (cuts : Cuts) → Passes extents results r → IsRewriting Names plan cuts r → N plan cuts → ⊥
  at (Node p c way) plan cuts passes is needs =
      subst_both (λ q d. IsRewriting Names q d (Node p c way) → IsStored extents results q → IsTyped q → IsWithin extents q d → ⊥) p plan c cuts is.0 is.1 passes is needs.0.0 needs.0.1 needs.1

  delta_at : (d : PlainDelta) (plan : PlainPlan) (old new : Cuts) → DeltaPasses extents results d → IsDelta Names plan old new d → AreIntervals old → Gave plan (L plan old) → N plan old → N plan new → ⊥
  delta_at (Change p o n way) plan old new passes is intervals gave needs also =
      let At : PlainPlan → Cuts → Cuts → Type 0 = λ q a b.
      IsDelta Names q a b (Change p o n way) → AreIntervals a → IsStored extents results q → IsTyped q → (rows : Rows) → plan_meaning q (L q a) ≡ Ok rows → IsWithin extents q a → IsWithin extents q b → ⊥ in
      (subst (λ b. At plan old b) is.2 (subst (λ a. At plan a n) is.1 (subst (λ q. At q o n) is.0 passes))) is intervals needs.0.0 needs.0.1 gave.0 gave.1 needs.1 also.1

  made_at : (r : PlainRewriting) (plan : PlainPlan) (cuts : Cuts) (made : Made) → made_by extents results r ≡ Ok made → IsRewriting Names plan cuts r → IsMade plan (L plan cuts) (Ok made)
  made_at r plan cuts made e is = subst (IsMade plan (L plan cuts)) e (makes extents results plan cuts r is)

  grows_at : (d : PlainDelta) (plan : PlainPlan) (old new : Cuts) (added : Added) → added_by extents results d ≡ Ok added → IsDelta Names plan old new d → AreIntervals old → Gave plan (L plan old) → GrowsBy plan (L plan old) (L plan new) added
  grows_at d plan old new added e is intervals gave = (gave.0, subst (Extends plan (L plan old) (L plan new)) e (adds extents results plan old new d intervals is) gave.0 gave.1)

  -- ---- computed nodes

  module _ (plan : PlainPlan) (cuts : Cuts) (r : PlainRewriting) where
    pub one_lifts : Passes extents results r → Passes extents results (Node plan cuts (One r))
    one_lifts passes = λ is stored typed within.
        from_one _ ⊥ (λ input all. at r input cuts passes all.0 all.1) plan (needs_one extents results plan cuts ((stored, typed), within) (λ input. IsRewriting Names input cuts r) is.2)

    pub one_over : (made : Made) → made_by extents results r ≡ Ok made → limit ≤ taken_of_one made → Passes extents results (Node plan cuts (One r))
    one_over made e over = λ is stored typed within.
        let input = in_one _ (λ input. IsMade input (L plan cuts) (Ok made))
        (λ input all. subst (λ lists. IsMade input lists (Ok made)) (sym (all.1 cuts)) (made_at r input cuts made e all.0)) plan (lists_one extents (λ input. IsRewriting Names input cuts r) plan is.2) in
        let taken = taken_one plan (L plan cuts) made input in omega (arith, taken, within, over)

  module _ (plan : PlainPlan) (cuts : Cuts) (l r : PlainRewriting) where
    pub two_lift : Passes extents results l ⊎ Passes extents results r → Passes extents results (Node plan cuts (Two l r))
    two_lift passes = λ is stored typed within.
        from_two _ ⊥ (λ left right all. by left right all passes) plan
        (needs_two extents results plan cuts ((stored, typed), within) (λ left right. IsRewriting Names left (lefts left cuts) l × IsRewriting Names right (rights left cuts) r) is.2)
      where
        by : (left right : PlainPlan) → (IsRewriting Names left (lefts left cuts) l × IsRewriting Names right (rights left cuts) r) × N left (lefts left cuts) × N right (rights left cuts)
            → Passes extents results l ⊎ Passes extents results r → ⊥
        by left right all (inl passes) = at l left (lefts left cuts) passes all.0.0 all.1
        by left right all (inr passes) = at r right (rights left cuts) passes all.0.1 all.2

    pub two_over : (a b : Made) → made_by extents results l ≡ Ok a → made_by extents results r ≡ Ok b → limit ≤ taken_of_two a b → Passes extents results (Node plan cuts (Two l r))
    two_over a b e f over = λ is stored typed within.
        let inputs = in_two _ (λ left right. IsMade left (take (leaf_count left) (L plan cuts)) (Ok a) × IsMade right (drop (leaf_count left) (L plan cuts)) (Ok b))
        (λ left right all. (
          subst (λ lists. IsMade left lists (Ok a)) (sym (all.1.first cuts)) (made_at l left (lefts left cuts) a e all.0.0),
          subst (λ lists. IsMade right lists (Ok b)) (sym (all.1.second cuts)) (made_at r right (rights left cuts) b f all.0.1),
        )) plan (lists_two extents (λ left right. IsRewriting Names left (lefts left cuts) l × IsRewriting Names right (rights left cuts) r) plan is.2) in
        let taken = taken_two plan (L plan cuts) a b inputs in omega (arith, taken, within, over)

  -- ---- one of two inputs

  abbrev Firsts : PlainPlan → PlainPlan → Cuts → List Rows
  Firsts plan left cuts = take (leaf_count left) (L plan cuts)

  abbrev Seconds : PlainPlan → PlainPlan → Cuts → List Rows
  Seconds plan left cuts = drop (leaf_count left) (L plan cuts)

  module _ (plan left right : PlainPlan) (lists : AreLists extents plan left right) (old new : Cuts) where
    left_gave : Gave left (Firsts plan left old) → Gave left (L left (lefts left old))
    left_gave gave = subst (Gave left) (lists.first old) gave

    right_gave : Gave right (Seconds plan left old) → Gave right (L right (rights left old))
    right_gave gave = subst (Gave right) (lists.second old) gave

    left_grows : (d : PlainDelta) (added : Added) → added_by extents results d ≡ Ok added → IsDelta Names left (lefts left old) (lefts left new) d → AreIntervals old → Gave left (Firsts plan left old) → GrowsBy left (Firsts plan left old) (Firsts plan left new) added
    left_grows d added e is intervals gave =
        subst_both (λ a b. GrowsBy left a b added) (L left (lefts left old)) (Firsts plan left old) (L left (lefts left new)) (Firsts plan left new) (sym (lists.first old)) (sym (lists.first new))
        (grows_at d left (lefts left old) (lefts left new) added e is (first_intervals (leaf_count left) old intervals) (left_gave gave))

    right_grows : (d : PlainDelta) (added : Added) → added_by extents results d ≡ Ok added → IsDelta Names right (rights left old) (rights left new) d → AreIntervals old → Gave right (Seconds plan left old) → GrowsBy right (Seconds plan left old) (Seconds plan left new) added
    right_grows d added e is intervals gave =
        subst_both (λ a b. GrowsBy right a b added) (L right (rights left old)) (Seconds plan left old) (L right (rights left new)) (Seconds plan left new) (sym (lists.second old)) (sym (lists.second new))
        (grows_at d right (rights left old) (rights left new) added e is (other_intervals (leaf_count left) old intervals) (right_gave gave))

    left_stays : lefts left old ≡ lefts left new → Gave left (Firsts plan left old) → GrowsBy left (Firsts plan left old) (Firsts plan left new) nothing_added
    left_stays same gave = (gave.0, stays left (Firsts plan left old) (Firsts plan left new) gave.0 (lists.first old ∙ ap (L left) same ∙ sym (lists.first new)) gave.1)

    right_stays : rights left old ≡ rights left new → Gave right (Seconds plan left old) → GrowsBy right (Seconds plan left old) (Seconds plan left new) nothing_added
    right_stays same gave = (gave.0, stays right (Seconds plan left old) (Seconds plan left new) gave.0 (lists.second old ∙ ap (L right) same ∙ sym (lists.second new)) gave.1)

  -- both have grown by so much
  abbrev BothGrow : PlainPlan → Cuts → Cuts → Added → Added → PlainPlan → PlainPlan → Type 0
  BothGrow plan old new a b left right = GrowsBy left (Firsts plan left old) (Firsts plan left new) a × GrowsBy right (Seconds plan left old) (Seconds plan left new) b

  -- ---- an input that has grown

  module _ (d : PlainDelta) (plan : PlainPlan) (old new : Cuts) where
    abbrev IsPart : PlainPlan → Cuts → Cuts → Type 0
    IsPart input o n = IsDelta Names input o n d

    tail_never : (form : Kept) → kept_form plan (L plan old) ≡ Ok form → AreIntervals old → N plan old → N plan new → DeltaPasses extents results d → OfOneOrRight IsPart old new plan → ⊥
    tail_never form gave intervals needs also passes (inl is) =
        from_one _ ⊥ (λ input all. delta_at d input old new passes all.0.0.0.0 intervals (subst (Gave input) (all.0.0.0.1 old) all.0.0.1) all.0.1 all.1) plan
        (needs_one extents results plan new also _ (needs_one extents results plan old needs _ (gave_one _ plan (L plan old) form gave (lists_one extents (λ input. IsPart input old new) plan is))))
    tail_never form gave intervals needs also passes (inr is) =
        from_two _ ⊥ (λ left right all. delta_at d right (rights left old) (rights left new) passes all.0.0.0.0.1 (other_intervals (leaf_count left) old intervals)
        (subst (Gave right) (all.0.0.0.1.second old) all.0.0.2) all.0.2 all.2) plan
        (needs_two extents results plan new also _ (needs_two extents results plan old needs _ (gave_two _ plan (L plan old) form gave
        (lists_two extents (λ left right. (lefts left old ≡ lefts left new) × IsPart right (rights left old) (rights left new)) plan is))))

    tail_more : (form : Kept) → kept_form plan (L plan old) ≡ Ok form → AreIntervals old → (added : Added) → added_by extents results d ≡ Ok added → OfOneOrRight IsPart old new plan
        → rows_taken_in plan (L plan new) ≡ rows_taken_in plan (L plan old) + taken_in_of added
    tail_more form gave intervals added e (inl is) =
        more_one (L plan old) (L plan new) plan added
        (in_one _ (λ input. GrowsBy input (L plan old) (L plan new) added)
        (λ input all. subst_both (λ a b. GrowsBy input a b added) (L input old) (L plan old) (L input new) (L plan new) (sym (all.0.1 old)) (sym (all.0.1 new))
        (grows_at d input old new added e all.0.0 intervals (subst (Gave input) (all.0.1 old) all.1))) plan
        (gave_one _ plan (L plan old) form gave (lists_one extents (λ input. IsPart input old new) plan is)))
    tail_more form gave intervals added e (inr is) =
        let more = more_two (L plan old) (L plan new) plan nothing_added added
        (in_two _ (BothGrow plan old new nothing_added added)
        (λ left right all. (left_stays plan left right all.0.1 old new all.0.0.0 all.1, right_grows plan left right all.0.1 old new d added e all.0.0.1 intervals all.2)) plan
        (gave_two _ plan (L plan old) form gave (lists_two extents (λ left right. (lefts left old ≡ lefts left new) × IsPart right (rights left old) (rights left new)) plan is))) in omega (arith, more)

  -- ---- inputs of a join that have grown

  module _ (plan : PlainPlan) (old new : Cuts) (form : Kept) (gave : kept_form plan (L plan old) ≡ Ok form) (intervals : AreIntervals old) where
    sides_gave : (P : PlainPlan → PlainPlan → Type 0) → OfSides P plan → OfTwo (λ left right. (P left right × AreLists extents plan left right) × Gave left (Firsts plan left old) × Gave right (Seconds plan left old)) plan
    sides_gave P is = gave_two (λ left right. P left right × AreLists extents plan left right) plan (L plan old) form gave (lists_two extents P plan (sides_as_two P plan is))

    -- all that its inputs need
    record AreSides (P : PlainPlan → PlainPlan → Type 0) (left right : PlainPlan) : Type 0 where
      is : P left right
      left_gave_old : Gave left (L left (lefts left old))
      right_gave_old : Gave right (L right (rights left old))
      left_old : N left (lefts left old)
      right_old : N right (rights left old)
      left_new : N left (lefts left new)
      right_new : N right (rights left new)

    sides_all : (P : PlainPlan → PlainPlan → Type 0) → N plan old → N plan new → OfSides P plan → OfTwo (AreSides P) plan
    sides_all P needs also is =
        in_two _ (AreSides P)
        (λ left right all. record {
          is = all.0.0.0.0;
          left_gave_old = left_gave plan left right all.0.0.0.1 old new all.0.0.1;
          right_gave_old = right_gave plan left right all.0.0.0.1 old new all.0.0.2;
          left_old = all.0.1;
          right_old = all.0.2;
          left_new = all.1;
          right_new = all.2;
        }) plan
        (needs_two extents results plan new also _ (needs_two extents results plan old needs _ (sides_gave P is)))

    -- the left one
    module _ (d : PlainDelta) (r : PlainRewriting) where
      abbrev IsLeft : PlainPlan → PlainPlan → Type 0
      IsLeft left right = (rights left old ≡ rights left new) × IsDelta Names left (lefts left old) (lefts left new) d × IsRewriting Names right (rights left new) r

      left_never : DeltaPasses extents results d ⊎ Passes extents results r → N plan old → N plan new → OfSides IsLeft plan → ⊥
      left_never passes needs also is = from_two _ ⊥ (λ left right all. by left right all passes) plan (sides_all IsLeft needs also is)
        where
          by : (left right : PlainPlan) → AreSides IsLeft left right → DeltaPasses extents results d ⊎ Passes extents results r → ⊥
          by left right all (inl passes) = delta_at d left (lefts left old) (lefts left new) passes all.is.1 (first_intervals (leaf_count left) old intervals) all.left_gave_old all.left_old all.left_new
          by left right all (inr passes) = at r right (rights left new) passes all.is.2 all.right_new

      left_more : (added : Added) → added_by extents results d ≡ Ok added → OfSides IsLeft plan → rows_taken_in plan (L plan new) ≡ rows_taken_in plan (L plan old) + taken_in_of added
      left_more added e is =
          let more = more_two (L plan old) (L plan new) plan added nothing_added
          (in_two _ (BothGrow plan old new added nothing_added)
          (λ left right all. (left_grows plan left right all.0.1 old new d added e all.0.0.1 intervals all.1, right_stays plan left right all.0.1 old new all.0.0.0 all.2)) plan (sides_gave IsLeft is)) in omega (arith, more)

    -- the right one
    module _ (l : PlainRewriting) (d : PlainDelta) where
      abbrev IsRight : PlainPlan → PlainPlan → Type 0
      IsRight left right = (lefts left old ≡ lefts left new) × IsRewriting Names left (lefts left new) l × IsDelta Names right (rights left old) (rights left new) d

      right_never : Passes extents results l ⊎ DeltaPasses extents results d → N plan old → N plan new → OfSides IsRight plan → ⊥
      right_never passes needs also is = from_two _ ⊥ (λ left right all. by left right all passes) plan (sides_all IsRight needs also is)
        where
          by : (left right : PlainPlan) → AreSides IsRight left right → Passes extents results l ⊎ DeltaPasses extents results d → ⊥
          by left right all (inl passes) = at l left (lefts left new) passes all.is.1 all.left_new
          by left right all (inr passes) = delta_at d right (rights left old) (rights left new) passes all.is.2 (other_intervals (leaf_count left) old intervals) all.right_gave_old all.right_old all.right_new

      right_more : (added : Added) → added_by extents results d ≡ Ok added → OfSides IsRight plan → rows_taken_in plan (L plan new) ≡ rows_taken_in plan (L plan old) + taken_in_of added
      right_more added e is =
          let more = more_two (L plan old) (L plan new) plan nothing_added added
          (in_two _ (BothGrow plan old new nothing_added added)
          (λ left right all. (left_stays plan left right all.0.1 old new all.0.0.0 all.1, right_grows plan left right all.0.1 old new d added e all.0.0.2 intervals all.2)) plan (sides_gave IsRight is)) in omega (arith, more)

    -- both
    module _ (l : PlainRewriting) (rd ld : PlainDelta) (r : PlainRewriting) where
      abbrev AreBoth : PlainPlan → PlainPlan → Type 0
      AreBoth left right = (lefts left old ≢ lefts left new) × (rights left old ≢ rights left new) × IsRewriting Names left (lefts left old) l
          × IsDelta Names right (rights left old) (rights left new) rd × IsDelta Names left (lefts left old) (lefts left new) ld × IsRewriting Names right (rights left new) r

      abbrev pub SomePasses : Type 0
      SomePasses = (Passes extents results l ⊎ DeltaPasses extents results rd) ⊎ (DeltaPasses extents results ld ⊎ Passes extents results r)

      both_never : SomePasses → N plan old → N plan new → OfSides AreBoth plan → ⊥
      both_never passes needs also is = from_two _ ⊥ (λ left right all. by left right all passes) plan (sides_all AreBoth needs also is)
        where
          by : (left right : PlainPlan) → AreSides AreBoth left right → SomePasses → ⊥
          by left right all (inl (inl passes)) = at l left (lefts left old) passes all.is.2 all.left_old
          by left right all (inl (inr passes)) = delta_at rd right (rights left old) (rights left new) passes all.is.3 (other_intervals (leaf_count left) old intervals) all.right_gave_old all.right_old all.right_new
          by left right all (inr (inl passes)) = delta_at ld left (lefts left old) (lefts left new) passes all.is.4 (first_intervals (leaf_count left) old intervals) all.left_gave_old all.left_old all.left_new
          by left right all (inr (inr passes)) = at r right (rights left new) passes all.is.5 all.right_new

      both_more : (right_added left_added : Added) → added_by extents results rd ≡ Ok right_added → added_by extents results ld ≡ Ok left_added → OfSides AreBoth plan
          → rows_taken_in plan (L plan new) ≡ rows_taken_in plan (L plan old) + (taken_in_of left_added + taken_in_of right_added)
      both_more right_added left_added e f is =
          more_two (L plan old) (L plan new) plan left_added right_added
          (in_two _ (BothGrow plan old new left_added right_added)
          (λ left right all. (left_grows plan left right all.0.1 old new ld left_added f all.0.0.4 intervals all.1, right_grows plan left right all.0.1 old new rd right_added e all.0.0.3 intervals all.2)) plan (sides_gave AreBoth is))

  -- ---- a grown node

  -- the earlier result gave its form
  hit_form : (plan : PlainPlan) (cuts : Cuts) (hit : Hit) → Names.earlier plan cuts hit → kept_form plan (L plan hit.cuts) ≡ Ok (made_before (results hit.id)).kept
  hit_form plan cuts hit named = named.1.form

  hit_taken : (plan : PlainPlan) (cuts : Cuts) (hit : Hit) → Names.earlier plan cuts hit → rows_taken_in plan (L plan hit.cuts) ≡ (made_before (results hit.id)).taken_in
  hit_taken plan cuts hit named = (result_made plan hit.cuts hit.id named.1).1

  module _ (plan : PlainPlan) (cuts : Cuts) (hit : Hit) where
    abbrev Old : Made
    Old = made_before (results hit.id)

    module _ (d : PlainDelta) where
      pub tail_lifts : DeltaPasses extents results d → Passes extents results (Node plan cuts (Tail hit d))
      tail_lifts passes = λ is stored typed within.
          let needs : N plan cuts = ((stored, typed), within) in
          tail_never d plan hit.cuts cuts Old.kept (hit_form plan cuts hit is.2.0) is.2.0.0 (hit_needs plan cuts hit needs is.2.0.1) needs passes (tail_as (IsPart d plan hit.cuts cuts) hit.cuts cuts plan is.2.1)

      pub tail_over : (added : Added) → added_by extents results d ≡ Ok added → limit ≤ Old.taken_in + taken_in_of added → Passes extents results (Node plan cuts (Tail hit d))
      tail_over added e over = λ is stored typed within.
          let more = tail_more d plan hit.cuts cuts Old.kept (hit_form plan cuts hit is.2.0) is.2.0.0 added e (tail_as (IsPart d plan hit.cuts cuts) hit.cuts cuts plan is.2.1) in
          let before = hit_taken plan cuts hit is.2.0 in omega (arith, more, before, within, over)

    pub left_lift : (d : PlainDelta) (r : PlainRewriting) → DeltaPasses extents results d ⊎ Passes extents results r → Passes extents results (Node plan cuts (LeftGrew hit d r))
    left_lift d r passes = λ is stored typed within.
        let needs : N plan cuts = ((stored, typed), within) in
        left_never plan hit.cuts cuts Old.kept (hit_form plan cuts hit is.2.0) is.2.0.0 d r passes (hit_needs plan cuts hit needs is.2.0.1) needs is.2.1

    pub left_over : (d : PlainDelta) (r : PlainRewriting) (added : Added) → added_by extents results d ≡ Ok added → limit ≤ Old.taken_in + taken_in_of added → Passes extents results (Node plan cuts (LeftGrew hit d r))
    left_over d r added e over = λ is stored typed within.
        let more = left_more plan hit.cuts cuts Old.kept (hit_form plan cuts hit is.2.0) is.2.0.0 d r added e is.2.1 in
        let before = hit_taken plan cuts hit is.2.0 in omega (arith, more, before, within, over)

    pub right_lift : (l : PlainRewriting) (d : PlainDelta) → Passes extents results l ⊎ DeltaPasses extents results d → Passes extents results (Node plan cuts (RightGrew hit l d))
    right_lift l d passes = λ is stored typed within.
        let needs : N plan cuts = ((stored, typed), within) in
        right_never plan hit.cuts cuts Old.kept (hit_form plan cuts hit is.2.0) is.2.0.0 l d passes (hit_needs plan cuts hit needs is.2.0.1) needs is.2.1

    pub right_over : (l : PlainRewriting) (d : PlainDelta) (added : Added) → added_by extents results d ≡ Ok added → limit ≤ Old.taken_in + taken_in_of added → Passes extents results (Node plan cuts (RightGrew hit l d))
    right_over l d added e over = λ is stored typed within.
        let more = right_more plan hit.cuts cuts Old.kept (hit_form plan cuts hit is.2.0) is.2.0.0 l d added e is.2.1 in
        let before = hit_taken plan cuts hit is.2.0 in omega (arith, more, before, within, over)

    module _ (l : PlainRewriting) (rd ld : PlainDelta) (r : PlainRewriting) where
      pub both_lift : (Passes extents results l ⊎ DeltaPasses extents results rd) ⊎ (DeltaPasses extents results ld ⊎ Passes extents results r) → Passes extents results (Node plan cuts (BothGrew hit l rd ld r))
      both_lift passes = λ is stored typed within.
          let needs : N plan cuts = ((stored, typed), within) in
          both_never plan hit.cuts cuts Old.kept (hit_form plan cuts hit is.2.0) is.2.0.0 l rd ld r passes (hit_needs plan cuts hit needs is.2.0.1) needs is.2.1

      pub both_over : (right_added left_added : Added) → added_by extents results rd ≡ Ok right_added → added_by extents results ld ≡ Ok left_added
          → limit ≤ Old.taken_in + (taken_in_of left_added + taken_in_of right_added) → Passes extents results (Node plan cuts (BothGrew hit l rd ld r))
      both_over right_added left_added e f over = λ is stored typed within.
          let more = both_more plan hit.cuts cuts Old.kept (hit_form plan cuts hit is.2.0) is.2.0.0 l rd ld r right_added left_added e f is.2.1 in
          let before = hit_taken plan cuts hit is.2.0 in omega (arith, more, before, within, over)

    pub old_lifts : (way : PlainWay) → (IsRewriting Names plan cuts (Node plan cuts way) → Names.earlier plan cuts hit) → IsAbove plan (Ok Old) → Passes extents results (Node plan cuts way)
    old_lifts way named above = λ is stored typed within. old_above plan cuts hit above (named is) ((stored, typed), within)

  -- ---- deltas of one input

  -- what is kept of a result, where it gave rows
  form_given : (plan : PlainPlan) (lists : List Rows) (given : Rows) → plan_meaning plan lists ≡ Ok given → (form : Kept) × (kept_form plan lists ≡ Ok form)
  form_given plan lists given e = let r = both_ok (kept_form plan lists) rows_of_kept given (rows_are plan lists ∙ e) in (r.0, r.1)

  module _ (plan : PlainPlan) (old new : Cuts) (d : PlainDelta) where
    pub child_lifts : DeltaPasses extents results d → DeltaPasses extents results (Change plan old new (OfChild d))
    child_lifts passes = λ is intervals stored typed given gave within also.
        let form = form_given plan (L plan old) given gave in
        tail_never d plan old new form.0 form.1 intervals ((stored, typed), within) ((stored, typed), also) passes (passed_as (IsPart d plan old new) old new plan is.3.1)

    pub child_over : (added : Added) → added_by extents results d ≡ Ok added → limit ≤ taken_in_of added → DeltaPasses extents results (Change plan old new (OfChild d))
    child_over added e over = λ is intervals stored typed given gave within also.
        let form = form_given plan (L plan old) given gave in
        let more = tail_more d plan old new form.0 form.1 intervals added e (passed_as (IsPart d plan old new) old new plan is.3.1) in omega (arith, more, also, over)

    module _ (r : PlainRewriting) where
      pub distinct_lifts_old : Passes extents results r → DeltaPasses extents results (Change plan old new (OfDistinct r d))
      distinct_lifts_old passes = λ is intervals stored typed given gave within also. at r plan old passes is.3.1 ((stored, typed), within)

      pub distinct_lifts : DeltaPasses extents results d → DeltaPasses extents results (Change plan old new (OfDistinct r d))
      distinct_lifts passes = λ is intervals stored typed given gave within also.
          let form = form_given plan (L plan old) given gave in
          tail_never d plan old new form.0 form.1 intervals ((stored, typed), within) ((stored, typed), also) passes (inl (distinct_as_one (λ child. IsPart d plan old new child old new) plan is.3.2))

      pub distinct_over : (added : Added) → added_by extents results d ≡ Ok added → limit ≤ taken_in_of added → DeltaPasses extents results (Change plan old new (OfDistinct r d))
      distinct_over added e over = λ is intervals stored typed given gave within also.
          let form = form_given plan (L plan old) given gave in
          let more = tail_more d plan old new form.0 form.1 intervals added e (inl (distinct_as_one (λ child. IsPart d plan old new child old new) plan is.3.2)) in omega (arith, more, also, over)

      pub join_lifts : DeltaPasses extents results d ⊎ Passes extents results r → DeltaPasses extents results (Change plan old new (OfJoin d r))
      join_lifts passes = λ is intervals stored typed given gave within also.
          let form = form_given plan (L plan old) given gave in
          left_never plan old new form.0 form.1 intervals d r passes ((stored, typed), within) ((stored, typed), also) is.3.1

      pub join_over : (added : Added) → added_by extents results d ≡ Ok added → limit ≤ taken_in_of added → DeltaPasses extents results (Change plan old new (OfJoin d r))
      join_over added e over = λ is intervals stored typed given gave within also.
          let form = form_given plan (L plan old) given gave in
          let more = left_more plan old new form.0 form.1 intervals d r added e is.3.1 in omega (arith, more, also, over)

  -- ---- a delta that is gathered

  chain_is_bounded : (p : PlainPlan) (old new : Cuts) (way : PlainDeltaWay) → is_chain_delta (Change p old new way) ≡ true → IsDeltaWay Names p old new way → (form : Kept) → IsBounded p form
  chain_is_bounded (plan.Scan stream) old new way chain is form = tt
  chain_is_bounded (plan.Filter child test) old new way chain is form = tt
  chain_is_bounded (plan.Project child columns) old new way chain is form = tt
  chain_is_bounded (plan.Distinct child) old new way chain is form = tt
  chain_is_bounded (plan.Concat left right) old new way chain is form = tt
  chain_is_bounded (plan.Order child keys) old new way chain is form = tt
  chain_is_bounded (plan.Group child keys aggs) old new NewRows chain is form = absurd is.0
  chain_is_bounded (plan.Group child keys aggs) old new _ chain is form = absurd (false≢true chain)
  chain_is_bounded (plan.Join left right on) old new NewRows chain is form = absurd is.0
  chain_is_bounded (plan.Join left right on) old new _ chain is form = absurd (false≢true chain)

  pub chain_passes : (p : PlainPlan) (old new : Cuts) (way : PlainDeltaWay) (given : Result Made Overflow) → is_chain_delta (Change p old new way) ≡ true → added_by extents results (Change p old new way) ≡ as_added given → IsAbove p given
      → DeltaPasses extents results (Change p old new way)
  chain_passes p old new way given chain e above = λ is intervals stored typed rows gave within also. by is intervals rows gave also above.2
    where
      by : IsDelta Names p old new (Change p old new way) → AreIntervals old → (rows : Rows) → plan_meaning p (L p old) ≡ Ok rows → IsWithin extents p new → (limit ≤ above.0.taken_in) ⊎ (IsBounded p above.0.kept → ⊥) → ⊥
      by is intervals rows gave also (inl over) =
          let grown = grows_at (Change p old new way) p old new (record { rows = kept_rows above.0.kept; taken_in = above.0.taken_in }) (e ∙ ap as_added above.1) is intervals (rows, gave) in
          let more = grown.1.takes_in in omega (arith, more, also, over)
      by is intervals rows gave also (inr outside) = outside (chain_is_bounded p old new way chain is.3 above.0.kept)
