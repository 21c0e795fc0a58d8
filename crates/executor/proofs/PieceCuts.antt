-- The pieces of a rewriting on a cut of one interval for each leaf: each gathered one has one interval for each leaf too.
use Rattle.std.proofs.Common.{◌≡◌, refl, sym, ap, ◌∙◌, subst, ℕ, ◌+◌, ◌-◌, min, Bool, true, false, cond, List, [], ◌∷◌, ◌++◌, length, length-drop, arith}
use Rattle.std.proofs.lemmas.List.{length-append, length-take}
use Rattle.std.specs.List.{AllByRecursion}
use Rattle.rows_core.specs.declared.cut.Cut.{Cut}
use Rattle.plan_core.specs.PlainPlan.{PlainPlan, leaves, leaf_count}
use Rattle.plan_core.specs.PlainPlan as plan
use Rattle.plan_core.specs.PlanTyping.{Kinds}
use Rattle.estimator.specs.Cuts.{Cuts, added_cuts}
use Rattle.rewrite_core.specs.IsRewriting.{IsRewriting, IsWay, IsDelta, IsDeltaWay, IsLonger, lefts, rights, whichever}
use Rattle.rewrite_core.specs.PlainRewriting.{PlainRewriting, Node, PlainWay, Scan, One, Two, Read, Tail, LeftGrew, RightGrew, BothGrew, PlainDelta, Change, PlainDeltaWay, Unchanged, NewRows, OfChild, OfDistinct, OfJoin}
use Rattle.growth_laws.specs.Chains.{IsChain, IsOneStream}
use Rattle.growth_laws.specs.Pieces.{Piece, Entry, Gathered, is_gathered, is_chain_delta, pieces_of, pieces_in, pieces_of_delta, pieces_in_delta}
use Rattle.executor.specs.Pieces.{IsPiece}
use Rattle.executor.specs.Loads.{HasOneCut}
use Rattle.executor.specs.Progress.{IsPartOf, ArePartsOf}
use Rattle.executor.specs.declared.part.Part.{Part}
use Rattle.executor.specs.declared.part.Part.TheVariants as part

-- one interval for each leaf
abbrev Fits : PlainPlan → Cuts → Type 0
Fits q c = length c ≡ leaf_count q

abbrev pub HasCuts : Piece → Type 0
HasCuts (Entry plan id) = Unit {0}
HasCuts (Gathered plan cuts) = length cuts ≡ leaf_count plan

abbrev Have : List Piece → Type 0
Have = AllByRecursion HasCuts

-- ---- of two inputs

module _ (left right : PlainPlan) where
  count : length (leaves left ++ leaves right) ≡ leaf_count left + leaf_count right
  count = length-append (leaves left) (leaves right)

  left_fits : (c : Cuts) → length c ≡ length (leaves left ++ leaves right) → Fits left (lefts left c)
  left_fits c fits = let whole : length c ≡ leaf_count left + leaf_count right = fits ∙ count in omega (arith, whole, length-take (leaf_count left) c)

  right_fits : (c : Cuts) → length c ≡ length (leaves left ++ leaves right) → Fits right (rights left c)
  right_fits c fits = let whole : length c ≡ leaf_count left + leaf_count right = fits ∙ count in omega (arith, whole, length-drop (leaf_count left) c)

  -- where both parts have one for each leaf, so has the whole
  whole_fits : (c : Cuts) → Fits left (lefts left c) → Fits right (rights left c) → length c ≡ length (leaves left ++ leaves right)
  whole_fits c first second =
      let taken : min (leaf_count left) (length c) ≡ leaf_count left = sym (length-take (leaf_count left) c) ∙ first in
      let dropped : length c - leaf_count left ≡ leaf_count right = sym (length-drop (leaf_count left) c) ∙ second in
      let whole : length c ≡ leaf_count left + leaf_count right = omega (arith, taken, dropped) in whole ∙ sym count

  same_left : (old new : Cuts) → lefts left old ≡ lefts left new → Fits left (lefts left new) → Fits left (lefts left old)
  same_left old new same fits = ap length same ∙ fits

  same_right : (old new : Cuts) → rights left old ≡ rights left new → Fits right (rights left new) → Fits right (rights left old)
  same_right old new same fits = ap length same ∙ fits

-- ---- the earlier cut of a delta has one for each leaf too

first_single : (stream : ℕ) (old new : Cuts) → IsLonger old new → Fits (plan.Scan stream) old
first_single stream [] new is = absurd is
first_single stream (o ∷ []) [] is = absurd is
first_single stream (o ∷ []) (n ∷ []) is = refl
first_single stream (o ∷ []) (n ∷ m ∷ ns) is = absurd is
first_single stream (o ∷ p ∷ os) new is = absurd is

mutual
  old_fits : (d : PlainDelta) (q : PlainPlan) (old new : Cuts) → IsDelta whichever q old new d → Fits q new → Fits q old
  old_fits (Change p o n way) q old new is fits = way_fits way q old new is.3 fits

  way_fits : (way : PlainDeltaWay) (q : PlainPlan) (old new : Cuts) → IsDeltaWay whichever q old new way → Fits q new → Fits q old
  way_fits Unchanged q old new is fits = ap length is ∙ fits
  way_fits NewRows (plan.Scan stream) old new is fits = first_single stream old new is.1
  way_fits NewRows _ old new is fits = absurd is.0
  way_fits (OfChild d) (plan.Filter child test) old new is fits = old_fits d child old new is.1 fits
  way_fits (OfChild d) (plan.Project child columns) old new is fits = old_fits d child old new is.1 fits
  way_fits (OfChild d) (plan.Concat left right) old new is fits =
      whole_fits left right old (same_left left right old new is.1.0 (left_fits left right new fits))
      (old_fits d right (rights left old) (rights left new) is.1.1 (right_fits left right new fits))
  way_fits (OfChild d) _ old new is fits = absurd is.1
  way_fits (OfDistinct r d) (plan.Distinct child) old new is fits = old_fits d child old new is.2 fits
  way_fits (OfDistinct r d) _ old new is fits = absurd is.2
  way_fits (OfJoin d r) (plan.Join left right on) old new is fits =
      whole_fits left right old (old_fits d left (lefts left old) (lefts left new) is.1.1 (left_fits left right new fits))
      (same_right left right old new is.1.0 (right_fits left right new fits))
  way_fits (OfJoin d r) _ old new is fits = absurd is.1

-- ---- the pieces

both : (xs ys : List Piece) → Have xs → Have ys → Have (xs ++ ys)
both [] ys all more = more
both (x ∷ xs) ys all more = (all.0, both xs ys all.1 more)

chosen : (b : Bool) (plan : PlainPlan) (cuts : Cuts) (pieces : List Piece) → Fits plan cuts → Have pieces → Have (cond b (Gathered plan cuts ∷ []) pieces)
chosen true plan cuts pieces fits parts = (fits, tt)
chosen false plan cuts pieces fits parts = parts

added_length : (old new : Cuts) (n : ℕ) → length old ≡ n → length new ≡ n → length (added_cuts old new) ≡ n
added_length [] [] n a b = a
added_length [] (c ∷ cs) n a b = a
added_length (o ∷ os) [] n a b = b
added_length (o ∷ os) (c ∷ cs) n a b =
    let first : length os ≡ n - 1 = omega (arith, a) in let second : length cs ≡ n - 1 = omega (arith, b) in
    let rest : length (added_cuts os cs) ≡ n - 1 = added_length os cs (n - 1) first second in omega (arith, rest, a)

mutual
  pub pieces_have : (r : PlainRewriting) (q : PlainPlan) (c : Cuts) → IsRewriting whichever q c r → Fits q c → Have (pieces_of r)
  pieces_have (Node p cuts way) q c is fits =
      let of_plan : Fits p c = subst (λ (x : PlainPlan). Fits x c) (sym is.0) fits in
      let here : Fits p cuts = subst (λ (x : Cuts). Fits p x) (sym is.1) of_plan in
      chosen (is_gathered (Node p cuts way)) p cuts (pieces_in p way) here (way_have p way q c is.2 fits)

  way_have : (p : PlainPlan) (way : PlainWay) (q : PlainPlan) (c : Cuts) → IsWay whichever q c way → Fits q c → Have (pieces_in p way)
  way_have p Scan q c is fits = tt
  way_have p (One r) (plan.Filter child test) c is fits = pieces_have r child c is fits
  way_have p (One r) (plan.Project child columns) c is fits = pieces_have r child c is fits
  way_have p (One r) (plan.Distinct child) c is fits = pieces_have r child c is fits
  way_have p (One r) (plan.Group child keys aggs) c is fits = pieces_have r child c is fits
  way_have p (One r) (plan.Order child keys) c is fits = pieces_have r child c is fits
  way_have p (One r) _ c is fits = absurd is
  way_have p (Two l r) (plan.Join left right on) c is fits =
      both (pieces_of l) (pieces_of r) (pieces_have l left (lefts left c) is.0 (left_fits left right c fits)) (pieces_have r right (rights left c) is.1 (right_fits left right c fits))
  way_have p (Two l r) (plan.Concat left right) c is fits =
      both (pieces_of l) (pieces_of r) (pieces_have l left (lefts left c) is.0 (left_fits left right c fits)) (pieces_have r right (rights left c) is.1 (right_fits left right c fits))
  way_have p (Two l r) _ c is fits = absurd is
  way_have p (Read hit) q c is fits = (tt, tt)
  way_have p (Tail hit d) (plan.Filter child test) c is fits = (tt, delta_have d child hit.cuts c is.1 fits)
  way_have p (Tail hit d) (plan.Project child columns) c is fits = (tt, delta_have d child hit.cuts c is.1 fits)
  way_have p (Tail hit d) (plan.Distinct child) c is fits = (tt, delta_have d child hit.cuts c is.1 fits)
  way_have p (Tail hit d) (plan.Group child keys aggs) c is fits = (tt, delta_have d child hit.cuts c is.1 fits)
  way_have p (Tail hit d) (plan.Order child keys) c is fits = (tt, delta_have d child hit.cuts c is.1 fits)
  way_have p (Tail hit d) (plan.Concat left right) c is fits = (tt, delta_have d right (rights left hit.cuts) (rights left c) is.1.1 (right_fits left right c fits))
  way_have p (Tail hit d) _ c is fits = absurd is.1
  way_have p (LeftGrew hit d r) (plan.Join left right on) c is fits = (
    tt,
    both (pieces_of_delta d) (pieces_of r) (delta_have d left (lefts left hit.cuts) (lefts left c) is.1.1 (left_fits left right c fits))
        (pieces_have r right (rights left c) is.1.2 (right_fits left right c fits)),
  )
  way_have p (LeftGrew hit d r) _ c is fits = absurd is.1
  way_have p (RightGrew hit l d) (plan.Join left right on) c is fits = (
    tt,
    both (pieces_of l) (pieces_of_delta d) (pieces_have l left (lefts left c) is.1.1 (left_fits left right c fits))
        (delta_have d right (rights left hit.cuts) (rights left c) is.1.2 (right_fits left right c fits)),
  )
  way_have p (RightGrew hit l d) _ c is fits = absurd is.1
  way_have p (BothGrew hit l rd ld r) (plan.Join left right on) c is fits =
      let first : Fits left (lefts left c) = left_fits left right c fits in
      let second : Fits right (rights left c) = right_fits left right c fits in (
        tt,
        both (pieces_of l ++ pieces_of_delta rd ++ pieces_of_delta ld) (pieces_of r)
            (both (pieces_of l ++ pieces_of_delta rd) (pieces_of_delta ld)
            (both (pieces_of l) (pieces_of_delta rd) (pieces_have l left (lefts left hit.cuts) is.1.2 (old_fits ld left (lefts left hit.cuts) (lefts left c) is.1.4 first))
            (delta_have rd right (rights left hit.cuts) (rights left c) is.1.3 second)) (delta_have ld left (lefts left hit.cuts) (lefts left c) is.1.4 first))
            (pieces_have r right (rights left c) is.1.5 second),
      )
  way_have p (BothGrew hit l rd ld r) _ c is fits = absurd is.1

  delta_have : (d : PlainDelta) (q : PlainPlan) (old new : Cuts) → IsDelta whichever q old new d → Fits q new → Have (pieces_of_delta d)
  delta_have (Change p o n way) q old new is fits =
      let before : Fits q old = old_fits (Change p o n way) q old new is fits in
      let count : leaf_count q ≡ leaf_count p = ap leaf_count (sym is.0) in
      let olds : length o ≡ leaf_count p = ap length is.1 ∙ before ∙ count in
      let news : length n ≡ leaf_count p = ap length is.2 ∙ fits ∙ count in
      chosen (is_chain_delta (Change p o n way)) p (added_cuts o n) (pieces_in_delta way) (added_length o n (leaf_count p) olds news) (delta_way_have way q old new is.3 fits before)

  delta_way_have : (way : PlainDeltaWay) (q : PlainPlan) (old new : Cuts) → IsDeltaWay whichever q old new way → Fits q new → Fits q old → Have (pieces_in_delta way)
  delta_way_have Unchanged q old new is fits before = tt
  delta_way_have NewRows q old new is fits before = tt
  delta_way_have (OfChild d) (plan.Filter child test) old new is fits before = delta_have d child old new is.1 fits
  delta_way_have (OfChild d) (plan.Project child columns) old new is fits before = delta_have d child old new is.1 fits
  delta_way_have (OfChild d) (plan.Concat left right) old new is fits before = delta_have d right (rights left old) (rights left new) is.1.1 (right_fits left right new fits)
  delta_way_have (OfChild d) _ old new is fits before = absurd is.1
  delta_way_have (OfDistinct r d) (plan.Distinct child) old new is fits before =
      both (pieces_of r) (pieces_of_delta d) (pieces_have r (plan.Distinct child) old is.1 before) (delta_have d child old new is.2 fits)
  delta_way_have (OfDistinct r d) _ old new is fits before = absurd is.2
  delta_way_have (OfJoin d r) (plan.Join left right on) old new is fits before =
      both (pieces_of_delta d) (pieces_of r) (delta_have d left (lefts left old) (lefts left new) is.1.1 (left_fits left right new fits))
      (pieces_have r right (rights left new) is.1.2 (right_fits left right new fits))
  delta_way_have (OfJoin d r) _ old new is fits before = absurd is.1

-- ---- one stream has one leaf

one_leaf : (q : PlainPlan) → IsChain q → leaf_count q ≡ 1
one_leaf (plan.Scan stream) is = refl
one_leaf (plan.Filter child test) is = one_leaf child is
one_leaf (plan.Project child columns) is = one_leaf child is
one_leaf _ is = absurd is

one_stream : (q : PlainPlan) → IsOneStream q → leaf_count q ≡ 1
one_stream (plan.Distinct child) is = one_leaf child is
one_stream (plan.Group child keys aggs) is = one_leaf child is
one_stream (plan.Scan stream) is = refl
one_stream (plan.Filter child test) is = one_leaf child is
one_stream (plan.Project child columns) is = one_leaf child is
one_stream _ is = absurd is

only_cut : (cuts : Cuts) → length cuts ≡ 1 → (cut : Cut) × (cuts ≡ cut ∷ [])
only_cut [] is = absurd (omega (arith, is))
only_cut (cut ∷ []) is = (cut, refl)
only_cut (cut ∷ next ∷ cuts) is = absurd (omega (arith, is))

pub one_cut : (plan : PlainPlan) (cuts : Cuts) → IsOneStream plan → length cuts ≡ leaf_count plan → HasOneCut (Gathered plan cuts)
one_cut plan cuts one fits = only_cut cuts (fits ∙ one_stream plan one)

piece_cut : (schemas : List Kinds) (piece : Piece) → IsPiece schemas piece → HasCuts piece → HasOneCut piece
piece_cut schemas (Entry plan id) is has = tt
piece_cut schemas (Gathered plan cuts) is has = one_cut plan cuts is.1 has

pub pieces_cut : (schemas : List Kinds) (pieces : List Piece) → AllByRecursion (IsPiece schemas) pieces → Have pieces → AllByRecursion HasOneCut pieces
pieces_cut schemas [] are have = tt
pieces_cut schemas (piece ∷ pieces) are have = (piece_cut schemas piece are.0 have.0, pieces_cut schemas pieces are.1 have.1)

-- the same of the pieces of which these are parts
part_cut : (schemas : List Kinds) (piece : Piece) (p : Part) → IsPartOf schemas piece p → HasCuts piece → HasOneCut piece
part_cut schemas (Entry plan id) p is has = tt
part_cut schemas (Gathered plan cuts) (part.Entry boxed id loaded) is has = absurd is
part_cut schemas (Gathered plan cuts) (part.Gathered gathering stream next end) is has = one_cut plan cuts is.one has

pub parts_cut : (schemas : List Kinds) (pieces : List Piece) (parts : List Part) → ArePartsOf schemas pieces parts → Have pieces → AllByRecursion HasOneCut pieces
parts_cut schemas [] parts are have = tt
parts_cut schemas (piece ∷ pieces) [] are have = absurd are
parts_cut schemas (piece ∷ pieces) (p ∷ parts) are have = (part_cut schemas piece p are.0 have.0, parts_cut schemas pieces parts are.1 have.1)
