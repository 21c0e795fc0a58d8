-- The trees whose results are recorded are parts of the rewriting.
use Rattle.std.proofs.Common.{Bool, true, false, cond, List, [], ◌∷◌, ◌++◌}
use Rattle.std.specs.List.{AllByRecursion}
use Rattle.plan_laws.proofs.ValidPlans.{all-append}
use Rattle.rewrite_core.specs.PlainRewriting.{PlainRewriting, Node, PlainWay, Scan, One, Two, Read, Tail, LeftGrew, RightGrew, BothGrew, PlainDelta, Change, PlainDeltaWay, Unchanged, NewRows, OfChild, OfDistinct, OfJoin}
use Rattle.growth_laws.specs.Parts.{parts_of, parts_in, parts_of_delta, parts_in_delta}
use Rattle.growth_laws.specs.Pieces.{is_gathered, is_chain_delta}
use Rattle.executor.specs.Recording.{is_recorded, if_recorded, recorded_of, recorded_in, recorded_of_delta, recorded_in_delta, recorded_below}

module _ (P : PlainRewriting → Type 0) where
  abbrev All : List PlainRewriting → Type 0
  All = AllByRecursion P

  of_both : (xs ys : List PlainRewriting) → All (xs ++ ys) → All xs × All ys
  of_both [] ys all = (tt, all)
  of_both (x ∷ xs) ys all = let rest = of_both xs ys all.1 in ((all.0, rest.0), rest.1)

  unless : (b : Bool) (trees : List PlainRewriting) → All trees → All (cond b [] trees)
  unless true trees all = tt
  unless false trees all = all

  itself : (b : Bool) (tree : PlainRewriting) → P tree → All (if_recorded b tree)
  itself true tree is = (is, tt)
  itself false tree is = tt

  -- of two lists of parts
  two : (xs ys us vs : List PlainRewriting) → (All xs → All us) → (All ys → All vs) → All (xs ++ ys) → All (us ++ vs)
  two xs ys us vs f g all = let both = of_both xs ys all in all-append P us vs (f both.0) (g both.1)

  mutual
    pub all_recorded : (r : PlainRewriting) → All (parts_of r) → All (recorded_of r)
    all_recorded (Node p c way) all =
        all-append P (cond (is_gathered (Node p c way)) [] (recorded_in way)) (if_recorded (is_recorded (Node p c way)) (Node p c way))
        (unless (is_gathered (Node p c way)) (recorded_in way) (all_in way all.1)) (itself (is_recorded (Node p c way)) (Node p c way) all.0)

    all_in : (way : PlainWay) → All (parts_in way) → All (recorded_in way)
    all_in Scan all = tt
    all_in (One r) all = all_recorded r all
    all_in (Two l r) all = two (parts_of l) (parts_of r) (recorded_of l) (recorded_of r) (all_recorded l) (all_recorded r) all
    all_in (Read hit) all = tt
    all_in (Tail hit d) all = all_of_delta d all
    all_in (LeftGrew hit d r) all = two (parts_of_delta d) (parts_of r) (recorded_of_delta d) (recorded_of r) (all_of_delta d) (all_recorded r) all
    all_in (RightGrew hit l d) all = two (parts_of l) (parts_of_delta d) (recorded_of l) (recorded_of_delta d) (all_recorded l) (all_of_delta d) all
    all_in (BothGrew hit l rd ld r) all =
        two (parts_of l ++ parts_of_delta rd ++ parts_of_delta ld) (parts_of r) (recorded_of l ++ recorded_of_delta rd ++ recorded_of_delta ld) (recorded_of r)
        (two (parts_of l ++ parts_of_delta rd) (parts_of_delta ld) (recorded_of l ++ recorded_of_delta rd) (recorded_of_delta ld)
        (two (parts_of l) (parts_of_delta rd) (recorded_of l) (recorded_of_delta rd) (all_recorded l) (all_of_delta rd)) (all_of_delta ld)) (all_recorded r) all

    all_of_delta : (d : PlainDelta) → All (parts_of_delta d) → All (recorded_of_delta d)
    all_of_delta (Change p old new way) all = unless (is_chain_delta (Change p old new way)) (recorded_in_delta way) (all_in_delta way all)

    all_in_delta : (way : PlainDeltaWay) → All (parts_in_delta way) → All (recorded_in_delta way)
    all_in_delta Unchanged all = tt
    all_in_delta NewRows all = tt
    all_in_delta (OfChild d) all = all_of_delta d all
    all_in_delta (OfDistinct r d) all = two (parts_of r) (parts_of_delta d) (recorded_of r) (recorded_of_delta d) (all_recorded r) (all_of_delta d) all
    all_in_delta (OfJoin d r) all = two (parts_of_delta d) (parts_of r) (recorded_of_delta d) (recorded_of r) (all_of_delta d) (all_recorded r) all

  pub all_below : (r : PlainRewriting) → All (parts_of r) → All (recorded_below r)
  all_below (Node p c way) all = unless (is_gathered (Node p c way)) (recorded_in way) (all_in way all.1)
