-- The pieces of a typed rewriting: their plans are typed, and those that are gathered are of one stream.
use Rattle.std.proofs.Common.{◌≡◌, refl, sym, subst, Bool, true, false, cond, List, [], ◌∷◌, ◌++◌}
use Rattle.std.specs.List.{AllByRecursion}
use Rattle.std.proofs.lemmas.Bool.{false≢true}
use Rattle.plan_core.specs.PlainPlan.{PlainPlan}
use Rattle.plan_core.specs.PlainPlan as plan
use Rattle.plan_core.specs.PlanTyping.{Kinds}
use Rattle.estimator.specs.Cuts.{Cuts, added_cuts}
use Rattle.rewrite_core.specs.IsRewriting.{IsRewriting, IsWay, IsDelta, IsDeltaWay, OfOne, OfTwo, OfSides, OfTail, OfDeltaTail, OfDistinctChild, IsScan, lefts, rights, whichever}
use Rattle.rewrite_core.specs.PlainRewriting.{PlainRewriting, Node, PlainWay, Scan, One, Two, Read, Tail, LeftGrew, RightGrew, BothGrew, PlainDelta, Change, PlainDeltaWay, Unchanged, NewRows, OfChild, OfDistinct, OfJoin}
use Rattle.growth_laws.specs.Chains.{IsChain, IsOneStream}
use Rattle.growth_laws.specs.Pieces.{Piece, Gathered, is_chain_of, is_gathered, is_chain_delta, pieces_of, pieces_in, pieces_of_delta, pieces_in_delta}
use Rattle.growth_laws.proofs.PieceResults.{subst_both}
use Rattle.executor.specs.Pieces.{HasTyping, IsPiece}
use Rattle.executor.proofs.Typings.{of_filter, of_project, of_distinct, of_group, of_order, of_join, of_concat}

-- ---- what is gathered is of one stream

chain_of_scan : (q : PlainPlan) → IsScan q → IsChain q
chain_of_scan (plan.Scan stream) is = tt
chain_of_scan _ is = absurd is

chain : (r : PlainRewriting) (q : PlainPlan) (c : Cuts) → IsRewriting whichever q c r → is_chain_of r ≡ true → IsChain q
chain (Node p cuts Scan) q c (e, f, is) whole = chain_of_scan q is
chain (Node (plan.Filter child test) cuts (One r)) q c (e, f, is) whole =
    let of = subst (λ q. OfOne (λ child. IsRewriting whichever child c r) q) (sym e) is in subst IsChain e (chain r child c of whole)
chain (Node (plan.Project child columns) cuts (One r)) q c (e, f, is) whole =
    let of = subst (λ q. OfOne (λ child. IsRewriting whichever child c r) q) (sym e) is in subst IsChain e (chain r child c of whole)
chain (Node _ cuts _) q c is whole = absurd (false≢true whole)

chain_is_one : (q : PlainPlan) → IsChain q → IsOneStream q
chain_is_one (plan.Scan stream) is = is
chain_is_one (plan.Filter child test) is = is
chain_is_one (plan.Project child columns) is = is
chain_is_one _ is = absurd is

one_stream : (r : PlainRewriting) (q : PlainPlan) (c : Cuts) → IsRewriting whichever q c r → is_gathered r ≡ true → IsOneStream q
one_stream (Node (plan.Group child keys aggs) cuts (One r)) q c (e, f, is) whole =
    let of = subst (λ q. OfOne (λ child. IsRewriting whichever child c r) q) (sym e) is in subst IsOneStream e (chain r child c of whole)
one_stream (Node (plan.Distinct child) cuts (One r)) q c (e, f, is) whole =
    let of = subst (λ q. OfOne (λ child. IsRewriting whichever child c r) q) (sym e) is in subst IsOneStream e (chain r child c of whole)
one_stream (Node p cuts way) q c is whole = chain_is_one q (chain (Node p cuts way) q c is whole)

chain_delta : (d : PlainDelta) (q : PlainPlan) (old new : Cuts) → IsDelta whichever q old new d → is_chain_delta d ≡ true → IsChain q
chain_delta (Change p o n NewRows) q old new (e, f, g, is) whole = chain_of_scan q is.0
chain_delta (Change (plan.Filter child test) o n (OfChild d)) q old new (e, f, g, is) whole =
    let of = subst (λ q. OfDeltaTail (λ child o n. IsDelta whichever child o n d) q old new) (sym e) is.1 in subst IsChain e (chain_delta d child old new of whole)
chain_delta (Change (plan.Project child columns) o n (OfChild d)) q old new (e, f, g, is) whole =
    let of = subst (λ q. OfDeltaTail (λ child o n. IsDelta whichever child o n d) q old new) (sym e) is.1 in subst IsChain e (chain_delta d child old new of whole)
chain_delta (Change _ o n _) q old new is whole = absurd (false≢true whole)

-- ---- whole trees

module _ (schemas : List Kinds) where
  abbrev Typed : PlainPlan → Type 0
  Typed = HasTyping schemas

  abbrev Are : List Piece → Type 0
  Are = AllByRecursion (IsPiece schemas)

  both : (xs ys : List Piece) → Are xs → Are ys → Are (xs ++ ys)
  both [] ys all more = more
  both (x ∷ xs) ys all more = (all.0, both xs ys all.1 more)

  one_child : {P : PlainPlan → Type 0} (q : PlainPlan) → Typed q → OfOne P q → (child : PlainPlan) × Typed child × P child
  one_child (plan.Filter child test) typed is = (child, of_filter schemas child test typed, is)
  one_child (plan.Project child columns) typed is = (child, of_project schemas child columns typed, is)
  one_child (plan.Distinct child) typed is = (child, of_distinct schemas child typed, is)
  one_child (plan.Group child keys aggs) typed is = (child, of_group schemas child keys aggs typed, is)
  one_child (plan.Order child keys) typed is = (child, of_order schemas child keys typed, is)
  one_child _ typed is = absurd is

  two_children : {P : PlainPlan → PlainPlan → Type 0} (q : PlainPlan) → Typed q → OfTwo P q → (left right : PlainPlan) × Typed left × Typed right × P left right
  two_children (plan.Join left right on) typed is = let both = of_join schemas left right on typed in (left, right, both.0, both.1, is)
  two_children (plan.Concat left right) typed is = let both = of_concat schemas left right typed in (left, right, both.0, both.1, is)
  two_children _ typed is = absurd is

  two_sides : {P : PlainPlan → PlainPlan → Type 0} (q : PlainPlan) → Typed q → OfSides P q → (left right : PlainPlan) × Typed left × Typed right × P left right
  two_sides (plan.Join left right on) typed is = let both = of_join schemas left right on typed in (left, right, both.0, both.1, is)
  two_sides _ typed is = absurd is

  tail_child : {P : PlainPlan → Cuts → Cuts → Type 0} (q : PlainPlan) (old new : Cuts) → Typed q → OfTail P q old new → (child : PlainPlan) × (o n : Cuts) × Typed child × P child o n
  tail_child (plan.Filter child test) old new typed is = (child, old, new, of_filter schemas child test typed, is)
  tail_child (plan.Project child columns) old new typed is = (child, old, new, of_project schemas child columns typed, is)
  tail_child (plan.Distinct child) old new typed is = (child, old, new, of_distinct schemas child typed, is)
  tail_child (plan.Group child keys aggs) old new typed is = (child, old, new, of_group schemas child keys aggs typed, is)
  tail_child (plan.Order child keys) old new typed is = (child, old, new, of_order schemas child keys typed, is)
  tail_child (plan.Concat left right) old new typed is = (right, rights left old, rights left new, (of_concat schemas left right typed).1, is.1)
  tail_child _ old new typed is = absurd is

  passed_child : {P : PlainPlan → Cuts → Cuts → Type 0} (q : PlainPlan) (old new : Cuts) → Typed q → OfDeltaTail P q old new → (child : PlainPlan) × (o n : Cuts) × Typed child × P child o n
  passed_child (plan.Filter child test) old new typed is = (child, old, new, of_filter schemas child test typed, is)
  passed_child (plan.Project child columns) old new typed is = (child, old, new, of_project schemas child columns typed, is)
  passed_child (plan.Concat left right) old new typed is = (right, rights left old, rights left new, (of_concat schemas left right typed).1, is.1)
  passed_child _ old new typed is = absurd is

  distinct_child : {P : PlainPlan → Type 0} (q : PlainPlan) → Typed q → OfDistinctChild P q → (child : PlainPlan) × Typed child × P child
  distinct_child (plan.Distinct child) typed is = (child, of_distinct schemas child typed, is)
  distinct_child _ typed is = absurd is

  chosen : (b : Bool) (piece : Piece) (pieces : List Piece) → (b ≡ true → IsPiece schemas piece) → Are pieces → Are (cond b (piece ∷ []) pieces)
  chosen true piece pieces whole parts = (whole refl, tt)
  chosen false piece pieces whole parts = parts

  mutual
    pub pieces_are : (r : PlainRewriting) (q : PlainPlan) (c : Cuts) → IsRewriting whichever q c r → Typed q → Are (pieces_of r)
    pieces_are (Node p cuts way) q c (e, f, is) typed =
        let here : Typed p = subst Typed (sym e) typed in
        let of : IsWay whichever p cuts way = subst_both (λ q c. IsWay whichever q c way) q p c cuts (sym e) (sym f) is in
        chosen (is_gathered (Node p cuts way)) (Gathered p cuts) (pieces_in p way) (λ whole. (here, one_stream (Node p cuts way) p cuts (refl, refl, of) whole)) (way_pieces p cuts way of here)

    way_pieces : (p : PlainPlan) (c : Cuts) (way : PlainWay) → IsWay whichever p c way → Typed p → Are (pieces_in p way)
    way_pieces p c Scan is typed = tt
    way_pieces p c (One r) is typed = let of = one_child p typed is in pieces_are r of.0 c of.2 of.1
    way_pieces p c (Two l r) is typed =
        let of = two_children p typed is in
        both (pieces_of l) (pieces_of r) (pieces_are l of.0 (lefts of.0 c) of.4.0 of.2) (pieces_are r of.1 (rights of.0 c) of.4.1 of.3)
    way_pieces p c (Read hit) is typed = (typed, tt)
    way_pieces p c (Tail hit d) is typed = let of = tail_child p hit.cuts c typed is.1 in (typed, delta_pieces d of.0 of.1 of.2 of.4 of.3)
    way_pieces p c (LeftGrew hit d r) is typed =
        let of = two_sides p typed is.1 in
        (typed, both (pieces_of_delta d) (pieces_of r) (delta_pieces d of.0 (lefts of.0 hit.cuts) (lefts of.0 c) of.4.1 of.2) (pieces_are r of.1 (rights of.0 c) of.4.2 of.3))
    way_pieces p c (RightGrew hit l d) is typed =
        let of = two_sides p typed is.1 in
        (typed, both (pieces_of l) (pieces_of_delta d) (pieces_are l of.0 (lefts of.0 c) of.4.1 of.2) (delta_pieces d of.1 (rights of.0 hit.cuts) (rights of.0 c) of.4.2 of.3))
    way_pieces p c (BothGrew hit l rd ld r) is typed =
        let of = two_sides p typed is.1 in (
          typed,
          both (pieces_of l ++ pieces_of_delta rd ++ pieces_of_delta ld) (pieces_of r)
              (both (pieces_of l ++ pieces_of_delta rd) (pieces_of_delta ld)
              (both (pieces_of l) (pieces_of_delta rd) (pieces_are l of.0 (lefts of.0 hit.cuts) of.4.2 of.2) (delta_pieces rd of.1 (rights of.0 hit.cuts) (rights of.0 c) of.4.3 of.3))
              (delta_pieces ld of.0 (lefts of.0 hit.cuts) (lefts of.0 c) of.4.4 of.2)) (pieces_are r of.1 (rights of.0 c) of.4.5 of.3),
        )

    pub delta_pieces : (d : PlainDelta) (q : PlainPlan) (old new : Cuts) → IsDelta whichever q old new d → Typed q → Are (pieces_of_delta d)
    delta_pieces (Change p o n way) q old new (e, f, g, is) typed =
        let here : Typed p = subst Typed (sym e) typed in
        let of : IsDeltaWay whichever p o n way = subst (λ q. IsDeltaWay whichever q o n way) (sym e) (subst_both (λ o n. IsDeltaWay whichever q o n way) old o new n (sym f) (sym g) is) in
        chosen (is_chain_delta (Change p o n way)) (Gathered p (added_cuts o n)) (pieces_in_delta way)
        (λ whole. (here, chain_is_one p (chain_delta (Change p o n way) p o n (refl, refl, refl, of) whole))) (delta_way_pieces p o n way of here)

    delta_way_pieces : (p : PlainPlan) (o n : Cuts) (way : PlainDeltaWay) → IsDeltaWay whichever p o n way → Typed p → Are (pieces_in_delta way)
    delta_way_pieces p o n Unchanged is typed = tt
    delta_way_pieces p o n NewRows is typed = tt
    delta_way_pieces p o n (OfChild d) is typed = let of = passed_child p o n typed is.1 in delta_pieces d of.0 of.1 of.2 of.4 of.3
    delta_way_pieces p o n (OfDistinct r d) is typed =
        let of = distinct_child p typed is.2 in both (pieces_of r) (pieces_of_delta d) (pieces_are r p o is.1 typed) (delta_pieces d of.0 o n of.2 of.1)
    delta_way_pieces p o n (OfJoin d r) is typed =
        let of = two_sides p typed is.1 in
        both (pieces_of_delta d) (pieces_of r) (delta_pieces d of.0 (lefts of.0 o) (lefts of.0 n) of.4.1 of.2) (pieces_are r of.1 (rights of.0 n) of.4.2 of.3)
