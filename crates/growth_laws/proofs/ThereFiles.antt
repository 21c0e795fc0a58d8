-- The files that a rewriting over entries names, at a cut within the extents, are there.
use Rattle.std.proofs.Common.{◌≡◌, refl, sym, subst, inl, inr, ◌⊎◌, ℕ, zero, suc, ◌+◌, ◌-◌, ◌<◌, List, [], ◌∷◌, ◌++◌, length, take, drop, arith}
use Rattle.std.specs.List.{AllByRecursion}
use Rattle.plan_core.specs.PlainPlan.{PlainPlan, leaves}
use Rattle.plan_core.specs.PlainPlan as plan
use Rattle.estimator.specs.Cuts.{Cuts, AreAtOrBefore}
use Rattle.rewrite_core.specs.declared.rewriting.Hit.{Hit}
use Rattle.rewrite_core.specs.Entries.{Entries, IsEarlier, entry_of}
use Rattle.rewrite_core.specs.Files.{FileName, Result, extents_from, scan_files, new_files, files_of, way_files, delta_files, delta_way_files}
use Rattle.rewrite_core.specs.IsRewriting.{IsRewriting, IsWay, IsDelta, IsDeltaWay, OfOne, OfTwo, OfSides, OfTail, OfDeltaTail, OfDistinctChild, lefts, rights, among}
use Rattle.rewrite_core.specs.PlainRewriting.{PlainRewriting, Node, PlainWay, Scan, One, Two, Read, Tail, LeftGrew, RightGrew, BothGrew, PlainDelta, Change, PlainDeltaWay, Unchanged, NewRows, OfChild, OfDistinct, OfJoin}
use Rattle.growth_laws.specs.There.{ExtentCounts, IsThere, EndWithin, IsWithin}

-- ---- the inputs of a plan

-- a plan of one input has its leaves
abbrev IsOver : (PlainPlan → Type 0) → PlainPlan → Type 0
IsOver P q = (child : PlainPlan) × (leaves q ≡ leaves child) × P child

abbrev IsOverTwo : (PlainPlan → PlainPlan → Type 0) → PlainPlan → Type 0
IsOverTwo P q = (left : PlainPlan) × (right : PlainPlan) × (leaves q ≡ leaves left ++ leaves right) × P left right

over_one : (P : PlainPlan → Type 0) (q : PlainPlan) → OfOne P q → IsOver P q
over_one P (plan.Filter child test) is = (child, refl, is)
over_one P (plan.Project child columns) is = (child, refl, is)
over_one P (plan.Distinct child) is = (child, refl, is)
over_one P (plan.Group child keys aggs) is = (child, refl, is)
over_one P (plan.Order child keys) is = (child, refl, is)
over_one P _ is = absurd is

over_two : (P : PlainPlan → PlainPlan → Type 0) (q : PlainPlan) → OfTwo P q → IsOverTwo P q
over_two P (plan.Join left right on) is = (left, right, refl, is)
over_two P (plan.Concat left right) is = (left, right, refl, is)
over_two P _ is = absurd is

over_sides : (P : PlainPlan → PlainPlan → Type 0) (q : PlainPlan) → OfSides P q → IsOverTwo P q
over_sides P (plan.Join left right on) is = (left, right, refl, is)
over_sides P _ is = absurd is

-- a delta's plan is the only input, at the same cuts, or the right one
abbrev IsOverTail : (PlainPlan → Cuts → Cuts → Type 0) → PlainPlan → Cuts → Cuts → Type 0
IsOverTail P q old new = IsOver (λ child. P child old new) q ⊎ IsOverTwo (λ left right. P right (rights left old) (rights left new)) q

over_tail : (P : PlainPlan → Cuts → Cuts → Type 0) (q : PlainPlan) (old new : Cuts) → OfTail P q old new → IsOverTail P q old new
over_tail P (plan.Filter child test) old new is = inl (child, refl, is)
over_tail P (plan.Project child columns) old new is = inl (child, refl, is)
over_tail P (plan.Distinct child) old new is = inl (child, refl, is)
over_tail P (plan.Group child keys aggs) old new is = inl (child, refl, is)
over_tail P (plan.Order child keys) old new is = inl (child, refl, is)
over_tail P (plan.Concat left right) old new is = inr (left, right, refl, is.1)
over_tail P _ old new is = absurd is

over_delta_tail : (P : PlainPlan → Cuts → Cuts → Type 0) (q : PlainPlan) (old new : Cuts) → OfDeltaTail P q old new → IsOverTail P q old new
over_delta_tail P (plan.Filter child test) old new is = inl (child, refl, is)
over_delta_tail P (plan.Project child columns) old new is = inl (child, refl, is)
over_delta_tail P (plan.Concat left right) old new is = inr (left, right, refl, is.1)
over_delta_tail P _ old new is = absurd is

over_distinct : (P : PlainPlan → Type 0) (q : PlainPlan) → OfDistinctChild P q → IsOver P q
over_distinct P (plan.Distinct child) is = (child, refl, is)
over_distinct P _ is = absurd is

module _ (entries : Entries) (counts : ExtentCounts) where
  -- ---- cuts within the extents

  first_within : (xs ys : List ℕ) (cuts : Cuts) → EndWithin counts (xs ++ ys) cuts → EndWithin counts xs (take (length xs) cuts)
  first_within [] ys [] within = tt
  first_within [] ys (cut ∷ cuts) within = tt
  first_within (x ∷ xs) ys [] within = absurd within
  first_within (x ∷ xs) ys (cut ∷ cuts) within = (within.0, first_within xs ys cuts within.1)

  rest_within : (xs ys : List ℕ) (cuts : Cuts) → EndWithin counts (xs ++ ys) cuts → EndWithin counts ys (drop (length xs) cuts)
  rest_within [] ys [] within = within
  rest_within [] ys (cut ∷ cuts) within = within
  rest_within (x ∷ xs) ys [] within = absurd within
  rest_within (x ∷ xs) ys (cut ∷ cuts) within = rest_within xs ys cuts within.1

  before_within : (streams : List ℕ) (olds news : Cuts) → AreAtOrBefore olds news → EndWithin counts streams news → EndWithin counts streams olds
  before_within [] [] [] before within = tt
  before_within [] [] (new ∷ news) before within = absurd before
  before_within [] (old ∷ olds) [] before within = absurd before
  before_within [] (old ∷ olds) (new ∷ news) before within = absurd within
  before_within (s ∷ streams) [] [] before within = absurd within
  before_within (s ∷ streams) [] (new ∷ news) before within = absurd before
  before_within (s ∷ streams) (old ∷ olds) [] before within = absurd before
  before_within (s ∷ streams) (old ∷ olds) (new ∷ news) before within = (omega (arith, before.1, within.0), before_within streams olds news before.2 within.1)

  of_child : (q child : PlainPlan) (cuts : Cuts) → leaves q ≡ leaves child → IsWithin counts q cuts → IsWithin counts child cuts
  of_child q child cuts same within = subst (λ (streams : List ℕ). EndWithin counts streams cuts) same within

  of_left : (q left right : PlainPlan) (cuts : Cuts) → leaves q ≡ leaves left ++ leaves right → IsWithin counts q cuts → IsWithin counts left (lefts left cuts)
  of_left q left right cuts same within = first_within (leaves left) (leaves right) cuts (subst (λ (streams : List ℕ). EndWithin counts streams cuts) same within)

  of_right : (q left right : PlainPlan) (cuts : Cuts) → leaves q ≡ leaves left ++ leaves right → IsWithin counts q cuts → IsWithin counts right (rights left cuts)
  of_right q left right cuts same within = rest_within (leaves left) (leaves right) cuts (subst (λ (streams : List ℕ). EndWithin counts streams cuts) same within)

  -- the plan that a delta is of, with its cuts
  record IsPart (P : PlainPlan → Cuts → Cuts → Type 0) : Type 0 where
    plan : PlainPlan
    old : Cuts
    new : Cuts
    is : P plan old new
    old_within : IsWithin counts plan old
    new_within : IsWithin counts plan new

  tail_part : (P : PlainPlan → Cuts → Cuts → Type 0) (q : PlainPlan) (old new : Cuts) → IsOverTail P q old new → IsWithin counts q old → IsWithin counts q new → IsPart P
  tail_part P q old new (inl one) before within = record {
    plan = one.0;
    old = old;
    new = new;
    is = one.2;
    old_within = of_child q one.0 old one.1 before;
    new_within = of_child q one.0 new one.1 within;
  }
  tail_part P q old new (inr two) before within = record {
    plan = two.1;
    old = rights two.0 old;
    new = rights two.0 new;
    is = two.3;
    old_within = of_right q two.0 two.1 old two.2 before;
    new_within = of_right q two.0 two.1 new two.2 within;
  }

  -- ---- files that are there

  abbrev Are : List FileName → Type 0
  Are = AllByRecursion (IsThere entries counts)

  both : (xs ys : List FileName) → Are xs → Are ys → Are (xs ++ ys)
  both [] ys first second = second
  both (x ∷ xs) ys first second = (first.0, both xs ys first.1 second)

  extents_there : (stream number count : ℕ) → ((k : ℕ) → k < count → number + k < counts stream) → Are (extents_from stream number count)
  extents_there stream number zero there = tt
  extents_there stream number (suc count) there =
      ((let first = there 0 (omega arith) in omega (arith, first)), extents_there stream (number + 1) count (λ k less. (let next = there (suc k) (omega (arith, less)) in omega (arith, next))))

  scan_there : (q : PlainPlan) (c : Cuts) → IsWithin counts q c → Are (scan_files q c)
  scan_there (plan.Scan stream) [] within = tt
  scan_there (plan.Scan stream) (cut ∷ []) within = extents_there stream cut.from (cut.to - cut.from) (λ k less. omega (arith, less, within.0))
  scan_there (plan.Scan stream) (cut ∷ d ∷ cuts) within = tt
  scan_there _ c within = tt

  new_there : (q : PlainPlan) (old new : Cuts) → IsWithin counts q new → Are (new_files q old new)
  new_there (plan.Scan stream) (o ∷ []) (n ∷ []) within = extents_there stream o.to (n.to - o.to) (λ k less. omega (arith, less, within.0))
  new_there _ _ _ within = tt

  named : (q : PlainPlan) (c : Cuts) (hit : Hit) → IsEarlier entries q c hit → IsThere entries counts (Result hit.id)
  named q c hit is = (entry_of q hit, is.candidate.kept, refl)

  older : (q : PlainPlan) (c : Cuts) (hit : Hit) → IsEarlier entries q c hit → IsWithin counts q c → IsWithin counts q hit.cuts
  older q c hit is within = before_within (leaves q) hit.cuts c is.candidate.before within

  mutual
    pub files_there : (r : PlainRewriting) (q : PlainPlan) (c : Cuts) → IsRewriting (among entries) q c r → IsWithin counts q c → Are (files_of r)
    files_there (Node p cuts way) q c is within =
        subst (λ (x : PlainPlan). Are (way_files x cuts way)) (sym is.0) (subst (λ (x : Cuts). Are (way_files q x way)) (sym is.1) (way_there way q c is.2 within))

    way_there : (way : PlainWay) (q : PlainPlan) (c : Cuts) → IsWay (among entries) q c way → IsWithin counts q c → Are (way_files q c way)
    way_there Scan q c is within = scan_there q c within
    way_there (One r) q c is within = let one = over_one _ q is in files_there r one.0 c one.2 (of_child q one.0 c one.1 within)
    way_there (Two l r) q c is within =
        let two = over_two _ q is in
        both (files_of l) (files_of r) (files_there l two.0 (lefts two.0 c) two.3.0 (of_left q two.0 two.1 c two.2 within))
        (files_there r two.1 (rights two.0 c) two.3.1 (of_right q two.0 two.1 c two.2 within))
    way_there (Read hit) q c is within = ((entry_of q hit, is.kept, refl), tt)
    way_there (Tail hit d) q c is within =
        let part = tail_part (λ child o n. IsDelta (among entries) child o n d) q hit.cuts c (over_tail (λ child o n. IsDelta (among entries) child o n d) q hit.cuts c is.1) (older q c hit is.0 within) within in
        (named q c hit is.0, delta_there d part.plan part.old part.new part.is part.old_within part.new_within)
    way_there (LeftGrew hit d r) q c is within =
        let two = over_sides _ q is.1 in
        let old = older q c hit is.0 within in (
          named q c hit is.0,
          both (delta_files d) (files_of r)
              (delta_there d two.0 (lefts two.0 hit.cuts) (lefts two.0 c) two.3.1 (of_left q two.0 two.1 hit.cuts two.2 old) (of_left q two.0 two.1 c two.2 within))
              (files_there r two.1 (rights two.0 c) two.3.2 (of_right q two.0 two.1 c two.2 within)),
        )
    way_there (RightGrew hit l d) q c is within =
        let two = over_sides _ q is.1 in
        let old = older q c hit is.0 within in (
          named q c hit is.0,
          both (files_of l) (delta_files d)
              (files_there l two.0 (lefts two.0 c) two.3.1 (of_left q two.0 two.1 c two.2 within))
              (delta_there d two.1 (rights two.0 hit.cuts) (rights two.0 c) two.3.2 (of_right q two.0 two.1 hit.cuts two.2 old) (of_right q two.0 two.1 c two.2 within)),
        )
    way_there (BothGrew hit l rd ld r) q c is within =
        let two = over_sides _ q is.1 in
        let old = older q c hit is.0 within in
        let old_left = of_left q two.0 two.1 hit.cuts two.2 old in
        let old_right = of_right q two.0 two.1 hit.cuts two.2 old in
        let new_left = of_left q two.0 two.1 c two.2 within in
        let new_right = of_right q two.0 two.1 c two.2 within in (
          named q c hit is.0,
          both (files_of l ++ delta_files rd ++ delta_files ld) (files_of r)
              (both (files_of l ++ delta_files rd) (delta_files ld)
              (both (files_of l) (delta_files rd) (files_there l two.0 (lefts two.0 hit.cuts) two.3.2 old_left)
              (delta_there rd two.1 (rights two.0 hit.cuts) (rights two.0 c) two.3.3 old_right new_right))
              (delta_there ld two.0 (lefts two.0 hit.cuts) (lefts two.0 c) two.3.4 old_left new_left))
              (files_there r two.1 (rights two.0 c) two.3.5 new_right),
        )

    delta_there : (d : PlainDelta) (q : PlainPlan) (old new : Cuts) → IsDelta (among entries) q old new d → IsWithin counts q old → IsWithin counts q new → Are (delta_files d)
    delta_there (Change p o n way) q old new is before within =
        subst (λ (x : PlainPlan). Are (delta_way_files x o n way)) (sym is.0) (subst (λ (x : Cuts). Are (delta_way_files q x n way)) (sym is.1)
        (subst (λ (x : Cuts). Are (delta_way_files q old x way)) (sym is.2) (delta_way_there way q old new is.3 before within)))

    delta_way_there : (way : PlainDeltaWay) (q : PlainPlan) (old new : Cuts) → IsDeltaWay (among entries) q old new way → IsWithin counts q old → IsWithin counts q new → Are (delta_way_files q old new way)
    delta_way_there Unchanged q old new is before within = tt
    delta_way_there NewRows q old new is before within = new_there q old new within
    delta_way_there (OfChild d) q old new is before within =
        let part = tail_part (λ child o n. IsDelta (among entries) child o n d) q old new (over_delta_tail (λ child o n. IsDelta (among entries) child o n d) q old new is.1) before within in delta_there d part.plan part.old part.new part.is part.old_within part.new_within
    delta_way_there (OfDistinct r d) q old new is before within =
        let one = over_distinct _ q is.2 in
        both (files_of r) (delta_files d) (files_there r q old is.1 before) (delta_there d one.0 old new one.2 (of_child q one.0 old one.1 before) (of_child q one.0 new one.1 within))
    delta_way_there (OfJoin d r) q old new is before within =
        let two = over_sides _ q is.1 in
        both (delta_files d) (files_of r)
        (delta_there d two.0 (lefts two.0 old) (lefts two.0 new) two.3.1 (of_left q two.0 two.1 old two.2 before) (of_left q two.0 two.1 new two.2 within))
        (files_there r two.1 (rights two.0 new) two.3.2 (of_right q two.0 two.1 new two.2 within))
