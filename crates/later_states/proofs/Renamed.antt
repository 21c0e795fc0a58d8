-- A rewriting over some kept results is one over others, where those that it names are named alike.
use Rattle.std.proofs.Common.{subst, ℕ, List, ◌++◌}
use Rattle.std.specs.List.{AllByRecursion}
use Rattle.plan_core.specs.PlainPlan.{PlainPlan, Filter, Project, Distinct, Group, Join, Concat, Order}
use Rattle.estimator.specs.Cuts.{Cuts}
use Rattle.rewrite_core.specs.declared.rewriting.Hit.{Hit}
use Rattle.rewrite_core.specs.Files.{FileName, ids_in, files_of, way_files, delta_files, delta_way_files}
use Rattle.rewrite_core.specs.IsRewriting.{Naming, IsRewriting, IsWay, IsDelta, IsDeltaWay, OfOne, OfTwo, OfSides, OfTail, OfDeltaTail, OfDistinctChild, lefts, rights}
use Rattle.rewrite_core.specs.PlainRewriting.{PlainRewriting, Node, PlainWay, Scan, One, Two, Read, Tail, LeftGrew, RightGrew, BothGrew, PlainDelta, Change, PlainDeltaWay, Unchanged, NewRows, OfChild, OfDistinct, OfJoin}
use Rattle.rewrite_core.proofs.FileLemmas.{ids_of_joined}
use Rattle.catalog_core.proofs.Typings.{sides}

-- ---- what holds of the inputs

module _ {P Q : PlainPlan → Type 0} (f : (plan : PlainPlan) → P plan → Q plan) where
  of_one : (plan : PlainPlan) → OfOne P plan → OfOne Q plan
  of_one (Filter child test) is = f child is
  of_one (Project child columns) is = f child is
  of_one (Distinct child) is = f child is
  of_one (Group child keys aggs) is = f child is
  of_one (Order child keys) is = f child is
  of_one _ is = absurd is

  of_distinct : (plan : PlainPlan) → OfDistinctChild P plan → OfDistinctChild Q plan
  of_distinct (Distinct child) is = f child is
  of_distinct _ is = absurd is

module _ {P Q : PlainPlan → PlainPlan → Type 0} (f : (left right : PlainPlan) → P left right → Q left right) where
  of_sides : (plan : PlainPlan) → OfSides P plan → OfSides Q plan
  of_sides (Join left right on) is = f left right is
  of_sides _ is = absurd is

  of_two : (plan : PlainPlan) → OfTwo P plan → OfTwo Q plan
  of_two (Join left right on) is = f left right is
  of_two (Concat left right) is = f left right is
  of_two _ is = absurd is

module _ {P Q : PlainPlan → Cuts → Cuts → Type 0} (f : (plan : PlainPlan) (old new : Cuts) → P plan old new → Q plan old new) (old new : Cuts) where
  of_tail : (plan : PlainPlan) → OfTail P plan old new → OfTail Q plan old new
  of_tail (Filter child test) is = f child old new is
  of_tail (Project child columns) is = f child old new is
  of_tail (Distinct child) is = f child old new is
  of_tail (Group child keys aggs) is = f child old new is
  of_tail (Order child keys) is = f child old new is
  of_tail (Concat left right) is = (is.0, f right (rights left old) (rights left new) is.1)
  of_tail _ is = absurd is

  of_delta_tail : (plan : PlainPlan) → OfDeltaTail P plan old new → OfDeltaTail Q plan old new
  of_delta_tail (Filter child test) is = f child old new is
  of_delta_tail (Project child columns) is = f child old new is
  of_delta_tail (Concat left right) is = (is.0, f right (rights left old) (rights left new) is.1)
  of_delta_tail _ is = absurd is

-- ---- the names alone change

module _ (names others : Naming) (P : ℕ → Type 0) (whole : (plan : PlainPlan) (cuts : Cuts) (hit : Hit) → P hit.id → names.whole plan cuts hit → others.whole plan cuts hit)
    (earlier : (plan : PlainPlan) (cuts : Cuts) (hit : Hit) → P hit.id → names.earlier plan cuts hit → others.earlier plan cuts hit) where
  -- it holds of the id of each kept result among the files
  abbrev Are : List FileName → Type 0
  Are files = AllByRecursion P (ids_in files)

  split : (xs ys : List FileName) → Are (xs ++ ys) → Are xs × Are ys
  split xs ys all = sides P (ids_in xs) (ids_in ys) (subst (AllByRecursion P) (ids_of_joined xs ys) all)

  mutual
    pub renamed-where : (r : PlainRewriting) (q : PlainPlan) (c : Cuts) → Are (files_of r) → IsRewriting names q c r → IsRewriting others q c r
    renamed-where (Node p cuts way) q c of is = (is.0, is.1, way-renamed way p cuts q c of is.2)

    way-renamed : (way : PlainWay) (p : PlainPlan) (cuts : Cuts) (q : PlainPlan) (c : Cuts) → Are (way_files p cuts way) → IsWay names q c way → IsWay others q c way
    way-renamed Scan p cuts q c of is = is
    way-renamed (One r) p cuts q c of is = of_one (λ child. renamed-where r child c of) q is
    way-renamed (Two l r) p cuts q c of is =
        let two = split (files_of l) (files_of r) of in
        of_two (λ left right both. (renamed-where l left (lefts left c) two.0 both.0, renamed-where r right (rights left c) two.1 both.1)) q is
    way-renamed (Read hit) p cuts q c of is = whole q c hit of.0 is
    way-renamed (Tail hit d) p cuts q c of is = (earlier q c hit of.0 is.0, of_tail (λ child o n. delta-renamed d child o n of.1) hit.cuts c q is.1)
    way-renamed (LeftGrew hit d r) p cuts q c of is =
        let two = split (delta_files d) (files_of r) of.1 in (
          earlier q c hit of.0 is.0,
          of_sides (λ left right all. (all.0, delta-renamed d left (lefts left hit.cuts) (lefts left c) two.0 all.1, renamed-where r right (rights left c) two.1 all.2)) q is.1,
        )
    way-renamed (RightGrew hit l d) p cuts q c of is =
        let two = split (files_of l) (delta_files d) of.1 in (
          earlier q c hit of.0 is.0,
          of_sides (λ left right all. (all.0, renamed-where l left (lefts left c) two.0 all.1, delta-renamed d right (rights left hit.cuts) (rights left c) two.1 all.2)) q is.1,
        )
    way-renamed (BothGrew hit l rd ld r) p cuts q c of is =
        let last = split (files_of l ++ delta_files rd ++ delta_files ld) (files_of r) of.1 in
        let third = split (files_of l ++ delta_files rd) (delta_files ld) last.0 in
        let two = split (files_of l) (delta_files rd) third.0 in (
          earlier q c hit of.0 is.0,
          of_sides (λ left right all. (
            all.0,
            all.1,
            renamed-where l left (lefts left hit.cuts) two.0 all.2,
            delta-renamed rd right (rights left hit.cuts) (rights left c) two.1 all.3,
            delta-renamed ld left (lefts left hit.cuts) (lefts left c) third.1 all.4,
            renamed-where r right (rights left c) last.1 all.5,
          )) q is.1,
        )

    delta-renamed : (d : PlainDelta) (q : PlainPlan) (old new : Cuts) → Are (delta_files d) → IsDelta names q old new d → IsDelta others q old new d
    delta-renamed (Change p o n way) q old new of is = (is.0, is.1, is.2, delta-way-renamed way p o n q old new of is.3)

    delta-way-renamed : (way : PlainDeltaWay) (p : PlainPlan) (o n : Cuts) (q : PlainPlan) (old new : Cuts) → Are (delta_way_files p o n way) → IsDeltaWay names q old new way → IsDeltaWay others q old new way
    delta-way-renamed Unchanged p o n q old new of is = is
    delta-way-renamed NewRows p o n q old new of is = is
    delta-way-renamed (OfChild d) p o n q old new of is = (is.0, of_delta_tail (λ child a b. delta-renamed d child a b of) old new q is.1)
    delta-way-renamed (OfDistinct r d) p o n q old new of is =
        let two = split (files_of r) (delta_files d) of in
        (is.0, renamed-where r q old two.0 is.1, of_distinct (λ child. delta-renamed d child old new two.1) q is.2)
    delta-way-renamed (OfJoin d r) p o n q old new of is =
        let two = split (delta_files d) (files_of r) of in (
          is.0,
          of_sides (λ left right all. (all.0, delta-renamed d left (lefts left old) (lefts left new) two.0 all.1, renamed-where r right (rights left new) two.1 all.2)) q is.1,
        )
