-- The places at which a rewriting makes a result, and the rewritings that make it.
use Rattle.std.proofs.Common.{◌≡◌, refl, sym, ap, ◌∙◌, subst, Bool, true, false, cond, ◌&&◌, ◌||◌, ◌==◌, List, [], ◌∷◌, ◌++◌}
use Rattle.std.proofs.lemmas.Bool.{eqb-true, and_parts}
use Rattle.std.specs.Cmp.{IsTotalOrder}
use Rattle.std.specs.List.{AllByRecursion, list_any}
use Rattle.rows_core.specs.declared.order.Key.{Key}
use Rattle.rows_core.specs.RowOrder.{row_cmp}
use Rattle.plan_core.specs.PlainPlan.{PlainPlan, Scan, Filter, Project, Distinct, Group, Join, Concat, Order}
use Rattle.estimator.specs.Cuts.{Cuts}
use Rattle.rewrite_core.specs.IsRewriting.{Naming, IsRewriting, IsWay, IsDelta, IsDeltaWay, OfOne, OfTwo, OfSides, OfTail, OfDeltaTail, OfDistinctChild, lefts, rights}
use Rattle.rewrite_core.specs.PlainRewriting.{PlainRewriting, Node, PlainWay, One, Two, Read, Tail, LeftGrew, RightGrew, BothGrew, PlainDelta, Change, PlainDeltaWay, Unchanged, NewRows, OfChild, OfDistinct, OfJoin}
use Rattle.rewrite_core.specs.PlainRewriting as tree
use Rattle.growth_laws.specs.KeptResults.{KeptResults, kept_among}
use Rattle.growth_laws.specs.Lists.{Extents}
use Rattle.growth_laws.specs.MadePlaces.{Place, places, Standing, nowhere, both_standing, before_tail, standing_of, standing_in, standing_of_delta, standing_in_delta, same_cuts, is_made_at, counts_below, counts_at_root, if_made, made_from, IsMadeBy}
use Rattle.growth_laws.specs.Parts.{plan_at, cuts_at, IsOwn}
use Rattle.plan_laws.proofs.ValidPlans.{all-append}
use Rattle.growth_laws.proofs.TreeOwners.{own}

module _ (extents : Extents) (results : KeptResults) where
  -- a tree that may stand at a place of this plan
  pub record Fits (plan : PlainPlan) (part : PlainRewriting) : Type 0 where
    pub of : plan_at part ≡ plan
    pub own_result : IsOwn extents results part

  abbrev pub All : PlainPlan → List PlainRewriting → Type 0
  All plan = AllByRecursion (Fits plan)

  abbrev pub Aligned : List Place → Standing → Type 0
  Aligned [] [] = Unit {0}
  Aligned (at ∷ ps) (trees ∷ standing) = All at.plan trees × Aligned ps standing
  Aligned _ _ = ⊥

  behind : (ps qs : List Place) (xs ys : Standing) → Aligned ps xs → Aligned qs ys → Aligned (ps ++ qs) (xs ++ ys)
  behind [] qs [] ys first second = second
  behind [] qs (x ∷ xs) ys first second = absurd first
  behind (p ∷ ps) qs [] ys first second = absurd first
  behind (p ∷ ps) qs (x ∷ xs) ys first second = (first.0, behind ps qs xs ys first.1 second)

  together : (ps : List Place) (xs ys : Standing) → Aligned ps xs → Aligned ps ys → Aligned ps (both_standing xs ys)
  together [] [] [] first second = tt
  together [] (x ∷ xs) ys first second = absurd first
  together [] [] (y ∷ ys) first second = absurd second
  together (p ∷ ps) [] ys first second = absurd first
  together (p ∷ ps) (x ∷ xs) [] first second = absurd second
  together (p ∷ ps) (x ∷ xs) (y ∷ ys) first second = (all-append (Fits p.plan) x y first.0 second.0, together ps xs ys first.1 second.1)

  no_trees : (plan : PlainPlan) (cuts : Cuts) → Aligned (places plan cuts) (nowhere plan)
  no_trees (Scan stream) cuts = (tt, tt)
  no_trees (Filter child test) cuts = behind (places child cuts) _ (nowhere child) _ (no_trees child cuts) (tt, tt)
  no_trees (Project child columns) cuts = behind (places child cuts) _ (nowhere child) _ (no_trees child cuts) (tt, tt)
  no_trees (Distinct child) cuts = behind (places child cuts) _ (nowhere child) _ (no_trees child cuts) (tt, tt)
  no_trees (Group child keys aggs) cuts = behind (places child cuts) _ (nowhere child) _ (no_trees child cuts) (tt, tt)
  no_trees (Order child keys) cuts = behind (places child cuts) _ (nowhere child) _ (no_trees child cuts) (tt, tt)
  no_trees (Join left right on) cuts =
      behind (places left (lefts left cuts)) _ (nowhere left) _ (no_trees left (lefts left cuts)) (behind (places right (rights left cuts)) _ (nowhere right) _ (no_trees right (rights left cuts)) (tt, tt))
  no_trees (Concat left right) cuts =
      behind (places left (lefts left cuts)) _ (nowhere left) _ (no_trees left (lefts left cuts)) (behind (places right (rights left cuts)) _ (nowhere right) _ (no_trees right (rights left cuts)) (tt, tt))

  -- ---- by the plan

  module _ (cuts : Cuts) (root : List PlainRewriting) (xs : Standing) where
    module _ (P : PlainPlan → Type 0) (f : (child : PlainPlan) → P child → Aligned (places child cuts) xs) where
      one_aligned : (plan : PlainPlan) → OfOne P plan → All plan root → Aligned (places plan cuts) (xs ++ root ∷ [])
      one_aligned (Scan stream) is at = absurd is
      one_aligned (Filter child test) is at = behind (places child cuts) _ xs _ (f child is) (at, tt)
      one_aligned (Project child columns) is at = behind (places child cuts) _ xs _ (f child is) (at, tt)
      one_aligned (Distinct child) is at = behind (places child cuts) _ xs _ (f child is) (at, tt)
      one_aligned (Group child keys aggs) is at = behind (places child cuts) _ xs _ (f child is) (at, tt)
      one_aligned (Join left right on) is at = absurd is
      one_aligned (Concat left right) is at = absurd is
      one_aligned (Order child keys) is at = behind (places child cuts) _ xs _ (f child is) (at, tt)

      distinct_aligned : (plan : PlainPlan) → OfDistinctChild P plan → All plan root → Aligned (places plan cuts) (xs ++ root ∷ [])
      distinct_aligned (Scan stream) is at = absurd is
      distinct_aligned (Filter child test) is at = absurd is
      distinct_aligned (Project child columns) is at = absurd is
      distinct_aligned (Distinct child) is at = behind (places child cuts) _ xs _ (f child is) (at, tt)
      distinct_aligned (Group child keys aggs) is at = absurd is
      distinct_aligned (Join left right on) is at = absurd is
      distinct_aligned (Concat left right) is at = absurd is
      distinct_aligned (Order child keys) is at = absurd is

    module _ (P : PlainPlan → Cuts → Cuts → Type 0) (f : (child : PlainPlan) (own old new : Cuts) → P child old new → Aligned (places child own) xs) (old new : Cuts) where
      tail_aligned : (plan : PlainPlan) → OfTail P plan old new → All plan root → Aligned (places plan cuts) (before_tail plan ++ (xs ++ root ∷ []))
      tail_aligned (Scan stream) is at = absurd is
      tail_aligned (Filter child test) is at = behind (places child cuts) _ xs _ (f child cuts old new is) (at, tt)
      tail_aligned (Project child columns) is at = behind (places child cuts) _ xs _ (f child cuts old new is) (at, tt)
      tail_aligned (Distinct child) is at = behind (places child cuts) _ xs _ (f child cuts old new is) (at, tt)
      tail_aligned (Group child keys aggs) is at = behind (places child cuts) _ xs _ (f child cuts old new is) (at, tt)
      tail_aligned (Join left right on) is at = absurd is
      tail_aligned (Concat left right) is at = behind (places left (lefts left cuts)) _ (nowhere left) _ (no_trees left (lefts left cuts)) (behind (places right (rights left cuts)) _ xs _ (f right (rights left cuts) (rights left old) (rights left new) is.1) (at, tt))
      tail_aligned (Order child keys) is at = behind (places child cuts) _ xs _ (f child cuts old new is) (at, tt)

      delta_tail_aligned : (plan : PlainPlan) → OfDeltaTail P plan old new → All plan root → Aligned (places plan cuts) (before_tail plan ++ (xs ++ root ∷ []))
      delta_tail_aligned (Scan stream) is at = absurd is
      delta_tail_aligned (Filter child test) is at = behind (places child cuts) _ xs _ (f child cuts old new is) (at, tt)
      delta_tail_aligned (Project child columns) is at = behind (places child cuts) _ xs _ (f child cuts old new is) (at, tt)
      delta_tail_aligned (Distinct child) is at = absurd is
      delta_tail_aligned (Group child keys aggs) is at = absurd is
      delta_tail_aligned (Join left right on) is at = absurd is
      delta_tail_aligned (Concat left right) is at = behind (places left (lefts left cuts)) _ (nowhere left) _ (no_trees left (lefts left cuts)) (behind (places right (rights left cuts)) _ xs _ (f right (rights left cuts) (rights left old) (rights left new) is.1) (at, tt))
      delta_tail_aligned (Order child keys) is at = absurd is

    module _ (ys : Standing) (P : PlainPlan → PlainPlan → Type 0)
        (f : (left right : PlainPlan) → P left right → Aligned (places left (lefts left cuts)) xs × Aligned (places right (rights left cuts)) ys) where
      two_aligned : (plan : PlainPlan) → OfTwo P plan → All plan root → Aligned (places plan cuts) (xs ++ (ys ++ root ∷ []))
      two_aligned (Scan stream) is at = absurd is
      two_aligned (Filter child test) is at = absurd is
      two_aligned (Project child columns) is at = absurd is
      two_aligned (Distinct child) is at = absurd is
      two_aligned (Group child keys aggs) is at = absurd is
      two_aligned (Join left right on) is at = let parts = f left right is in behind (places left (lefts left cuts)) _ xs _ parts.0 (behind (places right (rights left cuts)) _ ys _ parts.1 (at, tt))
      two_aligned (Concat left right) is at = let parts = f left right is in behind (places left (lefts left cuts)) _ xs _ parts.0 (behind (places right (rights left cuts)) _ ys _ parts.1 (at, tt))
      two_aligned (Order child keys) is at = absurd is

      sides_aligned : (plan : PlainPlan) → OfSides P plan → All plan root → Aligned (places plan cuts) (xs ++ (ys ++ root ∷ []))
      sides_aligned (Scan stream) is at = absurd is
      sides_aligned (Filter child test) is at = absurd is
      sides_aligned (Project child columns) is at = absurd is
      sides_aligned (Distinct child) is at = absurd is
      sides_aligned (Group child keys aggs) is at = absurd is
      sides_aligned (Join left right on) is at = let parts = f left right is in behind (places left (lefts left cuts)) _ xs _ parts.0 (behind (places right (rights left cuts)) _ ys _ parts.1 (at, tt))
      sides_aligned (Concat left right) is at = absurd is
      sides_aligned (Order child keys) is at = absurd is

  scan_aligned : (plan : PlainPlan) (cuts : Cuts) (root : List PlainRewriting) → IsWay (kept_among extents results) plan cuts tree.Scan → All plan root → (own_cuts : Cuts) → Aligned (places plan own_cuts) (root ∷ [])
  scan_aligned (Scan stream) cuts root is at own_cuts = (at, tt)
  scan_aligned (Filter child test) cuts root is at own_cuts = absurd is
  scan_aligned (Project child columns) cuts root is at own_cuts = absurd is
  scan_aligned (Distinct child) cuts root is at own_cuts = absurd is
  scan_aligned (Group child keys aggs) cuts root is at own_cuts = absurd is
  scan_aligned (Join left right on) cuts root is at own_cuts = absurd is
  scan_aligned (Concat left right) cuts root is at own_cuts = absurd is
  scan_aligned (Order child keys) cuts root is at own_cuts = absurd is

  -- ---- the trees

  module _ (total : (keys : List Key) → IsTotalOrder (row_cmp keys)) where
    abbrev pub Names : Naming
    Names = kept_among extents results

    mutual
      pub tree_aligned : (r : PlainRewriting) (plan : PlainPlan) (cuts at : Cuts) → IsRewriting Names plan cuts r → Aligned (places plan at) (standing_of r)
      tree_aligned (Node p c way) plan cuts at is =
          let mine : IsRewriting Names p c (Node p c way) = subst (λ q. IsRewriting Names q c (Node p c way)) (sym is.0) (subst (λ d. IsRewriting Names plan d (Node p c way)) (sym is.1) is) in
          let fits : Fits plan (Node p c way) = record { of = is.0; own_result = own extents results total p c way mine } in
          subst (λ q. Aligned (places plan at) (standing_in q way (Node p c way ∷ []))) (sym is.0) (way_aligned way plan cuts at (Node p c way ∷ []) (fits, tt) is.2)

      way_aligned : (way : PlainWay) (plan : PlainPlan) (cuts at : Cuts) (root : List PlainRewriting) → All plan root → IsWay Names plan cuts way → Aligned (places plan at) (standing_in plan way root)
      way_aligned tree.Scan plan cuts at root fits is = scan_aligned plan cuts root is fits at
      way_aligned (One r) plan cuts at root fits is = one_aligned at root (standing_of r) _ (λ child. tree_aligned r child cuts at) plan is fits
      way_aligned (Two l r) plan cuts at root fits is =
          two_aligned at root (standing_of l) (standing_of r) _
          (λ left right all. (tree_aligned l left (lefts left cuts) (lefts left at) all.0, tree_aligned r right (rights left cuts) (rights left at) all.1)) plan is fits
      way_aligned (Read hit) plan cuts at root fits is = no_trees plan at
      way_aligned (Tail hit d) plan cuts at root fits is =
          tail_aligned at root (standing_of_delta d) _ (λ child own old new. delta_aligned d child old new own) hit.cuts cuts plan is.1 fits
      way_aligned (LeftGrew hit d r) plan cuts at root fits is =
          sides_aligned at root (standing_of_delta d) (standing_of r) _
          (λ left right all. (delta_aligned d left (lefts left hit.cuts) (lefts left cuts) (lefts left at) all.1, tree_aligned r right (rights left cuts) (rights left at) all.2)) plan is.1 fits
      way_aligned (RightGrew hit l d) plan cuts at root fits is =
          sides_aligned at root (standing_of l) (standing_of_delta d) _
          (λ left right all. (tree_aligned l left (lefts left cuts) (lefts left at) all.1, delta_aligned d right (rights left hit.cuts) (rights left cuts) (rights left at) all.2)) plan is.1 fits
      way_aligned (BothGrew hit l rd ld r) plan cuts at root fits is =
          sides_aligned at root (both_standing (standing_of l) (standing_of_delta ld)) (both_standing (standing_of_delta rd) (standing_of r)) _
          (λ left right all. (
            together (places left (lefts left at)) (standing_of l) (standing_of_delta ld) (tree_aligned l left (lefts left hit.cuts) (lefts left at) all.2)
                (delta_aligned ld left (lefts left hit.cuts) (lefts left cuts) (lefts left at) all.4),
            together (places right (rights left at)) (standing_of_delta rd) (standing_of r) (delta_aligned rd right (rights left hit.cuts) (rights left cuts) (rights left at) all.3)
                (tree_aligned r right (rights left cuts) (rights left at) all.5),
          )) plan is.1 fits

      delta_aligned : (d : PlainDelta) (plan : PlainPlan) (old new at : Cuts) → IsDelta Names plan old new d → Aligned (places plan at) (standing_of_delta d)
      delta_aligned (Change p o n way) plan old new at is =
          subst (λ q. Aligned (places plan at) (standing_in_delta q way)) (sym is.0) (delta_way_aligned way plan old new at is.3)

      delta_way_aligned : (way : PlainDeltaWay) (plan : PlainPlan) (old new at : Cuts) → IsDeltaWay Names plan old new way → Aligned (places plan at) (standing_in_delta plan way)
      delta_way_aligned Unchanged plan old new at is = no_trees plan at
      delta_way_aligned NewRows plan old new at is = no_trees plan at
      delta_way_aligned (OfChild d) plan old new at is =
          delta_tail_aligned at [] (standing_of_delta d) _ (λ child own o n. delta_aligned d child o n own) old new plan is.1 tt
      delta_way_aligned (OfDistinct r d) plan old new at is =
          together (places plan at) (standing_of r) (standing_of_delta d ++ [] ∷ []) (tree_aligned r plan old at is.1)
          (distinct_aligned at [] (standing_of_delta d) _ (λ child. delta_aligned d child old new at) plan is.2 tt)
      delta_way_aligned (OfJoin d r) plan old new at is =
          sides_aligned at [] (standing_of_delta d) (standing_of r) _
          (λ left right all. (delta_aligned d left (lefts left old) (lefts left new) (lefts left at) all.1, tree_aligned r right (rights left new) (rights left at) all.2)) plan is.1 tt

  -- ---- the made places

  cuts_are : (a b : Cuts) → same_cuts a b ≡ true → a ≡ b
  cuts_are [] [] is = refl
  cuts_are [] (b ∷ news) is = absurd (cc)
  cuts_are (a ∷ olds) [] is = absurd (cc)
  cuts_are (a ∷ olds) (b ∷ news) is =
      let front = and_parts ((a.from == b.from) && (a.to == b.to)) (same_cuts olds news) is in
      let ends = and_parts (a.from == b.from) (a.to == b.to) front.0 in
      let from = eqb-true a.from b.from ends.0 in
      let to = eqb-true a.to b.to ends.1 in
      let rest = cuts_are olds news front.1 in
      λ i. record { from = from i; to = to i } ∷ rest i

  found : (at : Place) (trees : List PlainRewriting) → All at.plan trees → list_any (is_made_at at) trees ≡ true → IsMadeBy extents results at
  found at [] fits is = absurd (cc)
  found at (t ∷ trees) fits is = by (same_cuts (cuts_at t) at.cuts) refl (found at trees fits.1)
    where
      by : (b : Bool) → same_cuts (cuts_at t) at.cuts ≡ b → (list_any (is_made_at at) trees ≡ true → IsMadeBy extents results at) → IsMadeBy extents results at
      by true same rest = (t, record { of = fits.0.of; cuts = cuts_are (cuts_at t) at.cuts same; own_result = fits.0.own_result })
      by false same rest = rest (sym (ap (λ b. b || list_any (is_made_at at) trees) same) ∙ is)

  maybe : (counts : Bool) (at : Place) (trees : List PlainRewriting) (others : List Place) → All at.plan trees → AllByRecursion (IsMadeBy extents results) others → AllByRecursion (IsMadeBy extents results) (if_made counts at trees others)
  maybe counts at trees others fits rest = by (counts && list_any (is_made_at at) trees) refl
    where
      by : (b : Bool) → (counts && list_any (is_made_at at) trees) ≡ b → AllByRecursion (IsMadeBy extents results) (cond b (at ∷ others) others)
      by true is = (found at trees fits (and_parts counts (list_any (is_made_at at) trees) is).1, rest)
      by false is = rest

  pub made_ones : (ps : List Place) (xs : Standing) → Aligned ps xs → AllByRecursion (IsMadeBy extents results) (made_from ps xs)
  made_ones [] xs aligned = tt
  made_ones (p ∷ []) [] aligned = tt
  made_ones (p ∷ []) (x ∷ []) aligned = maybe (counts_at_root p.plan) p x [] aligned.0 tt
  made_ones (p ∷ []) (x ∷ y ∷ ys) aligned = tt
  made_ones (p ∷ q ∷ ps) [] aligned = tt
  made_ones (p ∷ q ∷ ps) (x ∷ xs) aligned = maybe (counts_below p.plan) p x (made_from (q ∷ ps) xs) aligned.0 (made_ones (q ∷ ps) xs aligned.1)
