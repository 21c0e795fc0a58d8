-- What holds of each kept result, and of what is gathered at each cut, holds of each piece of a rewriting.
use Rattle.std.proofs.Common.{◌≡◌, ◌≢◌, sym, subst, Bool, true, false, cond, List, [], ◌∷◌, ◌++◌}
use Rattle.std.specs.List.{AllByRecursion, Contains}
use Rattle.plan_core.specs.PlainPlan.{PlainPlan}
use Rattle.plan_laws.proofs.ValidPlans.{all-append}
use Rattle.estimator.specs.Bytes.{Lengths, IsCutOf}
use Rattle.estimator.specs.Cuts.{Cuts, added_cuts}
use Rattle.rewrite_core.specs.declared.rewriting.Hit.{Hit}
use Rattle.rewrite_core.specs.Entries.{Entries, entry_of}
use Rattle.rewrite_core.specs.IsRewriting.{Naming, IsRewriting, IsWay, IsDelta, IsDeltaWay, lefts, rights}
use Rattle.rewrite_core.specs.PlainRewriting.{PlainRewriting, Node, PlainWay, Scan, One, Two, Read, Tail, LeftGrew, RightGrew, BothGrew, PlainDelta, Change, PlainDeltaWay, Unchanged, NewRows, OfChild, OfDistinct, OfJoin}
use Rattle.rewriter.specs.InStreams.{AreCutsOf, IsInStreams, IsWayInStreams, IsDeltaInStreams, IsDeltaWayInStreams}
use Rattle.growth_laws.specs.Pieces.{Piece, Entry, Gathered, is_gathered, is_chain_delta, pieces_of, pieces_in, pieces_of_delta, pieces_in_delta}
use Rattle.growth_laws.proofs.TreeOwners.{from_one, from_two, from_sides, from_tail, from_delta_tail, from_distinct}
use Rattle.plan_choice.specs.Taken.{kept_in}

module _ (entries : Entries) (lengths : Lengths) (Holds : Piece → Type 0)
    (kept : (plan : PlainPlan) (hit : Hit) → Contains entries (entry_of plan hit) → Holds (Entry plan hit.id))
    (whole : (plan : PlainPlan) (cuts : Cuts) → IsCutOf lengths plan cuts → Holds (Gathered plan cuts))
    (added : (plan : PlainPlan) (old new : Cuts) → AreCutsOf lengths plan old new → Holds (Gathered plan (added_cuts old new))) where
  abbrev names : Naming
  names = kept_in entries

  abbrev Are : List Piece → Type 0
  Are = AllByRecursion Holds

  both : (xs ys : List Piece) → Are xs → Are ys → Are (xs ++ ys)
  both = all-append Holds

  named : (p q : PlainPlan) (hit : Hit) → p ≡ q → Contains entries (entry_of q hit) → Holds (Entry p hit.id)
  named p q hit same has = subst (λ (x : PlainPlan). Holds (Entry x hit.id)) (sym same) (kept q hit has)

  by_gathered : (b : Bool) (plan : PlainPlan) (cuts : Cuts) (pieces : List Piece) → Holds (Gathered plan cuts) → Are pieces → Are (cond b (Gathered plan cuts ∷ []) pieces)
  by_gathered true plan cuts pieces one parts = (one, tt)
  by_gathered false plan cuts pieces one parts = parts

  mutual
    pub pieces_hold : (r : PlainRewriting) (q : PlainPlan) (c : Cuts) → IsRewriting names q c r → IsInStreams lengths r → Are (pieces_of r)
    pieces_hold (Node p cuts way) q c is within =
        by_gathered (is_gathered (Node p cuts way)) p cuts (pieces_in p way) (whole p cuts within.0) (way_pieces_hold way p cuts q c is.0 is.2 within.1)

    way_pieces_hold : (way : PlainWay) (p : PlainPlan) (cuts : Cuts) (q : PlainPlan) (c : Cuts) → p ≡ q → IsWay names q c way → IsWayInStreams lengths p cuts way → Are (pieces_in p way)
    way_pieces_hold Scan p cuts q c same is within = tt
    way_pieces_hold (One r) p cuts q c same is within =
        from_one (λ child. IsRewriting names child c r) (Are (pieces_of r)) (λ child of. pieces_hold r child c of within) q is
    way_pieces_hold (Two l r) p cuts q c same is within =
        from_two (λ left right. IsRewriting names left (lefts left c) l × IsRewriting names right (rights left c) r) (Are (pieces_of l ++ pieces_of r))
        (λ left right of. both (pieces_of l) (pieces_of r) (pieces_hold l left (lefts left c) of.0 within.0) (pieces_hold r right (rights left c) of.1 within.1)) q is
    way_pieces_hold (Read hit) p cuts q c same is within = (named p q hit same is.kept, tt)
    way_pieces_hold (Tail hit d) p cuts q c same is within = (
      named p q hit same is.0.kept,
      from_tail (λ child o n. IsDelta names child o n d) (Are (pieces_of_delta d)) (λ child o n of. delta_pieces_hold d child o n of within.1) hit.cuts c q is.1,
    )
    way_pieces_hold (LeftGrew hit d r) p cuts q c same is within = (
      named p q hit same is.0.kept,
      from_sides (λ left right. (rights left hit.cuts ≡ rights left c) × IsDelta names left (lefts left hit.cuts) (lefts left c) d × IsRewriting names right (rights left c) r)
          (Are (pieces_of_delta d ++ pieces_of r))
          (λ left right of. both (pieces_of_delta d) (pieces_of r) (delta_pieces_hold d left (lefts left hit.cuts) (lefts left c) of.1 within.1) (pieces_hold r right (rights left c) of.2 within.2)) q is.1,
    )
    way_pieces_hold (RightGrew hit l d) p cuts q c same is within = (
      named p q hit same is.0.kept,
      from_sides (λ left right. (lefts left hit.cuts ≡ lefts left c) × IsRewriting names left (lefts left c) l × IsDelta names right (rights left hit.cuts) (rights left c) d)
          (Are (pieces_of l ++ pieces_of_delta d))
          (λ left right of. both (pieces_of l) (pieces_of_delta d) (pieces_hold l left (lefts left c) of.1 within.1) (delta_pieces_hold d right (rights left hit.cuts) (rights left c) of.2 within.2)) q is.1,
    )
    way_pieces_hold (BothGrew hit l rd ld r) p cuts q c same is within = (
      named p q hit same is.0.kept,
      from_sides (λ left right. (lefts left hit.cuts ≢ lefts left c) × (rights left hit.cuts ≢ rights left c)
          × IsRewriting names left (lefts left hit.cuts) l × IsDelta names right (rights left hit.cuts) (rights left c) rd
          × IsDelta names left (lefts left hit.cuts) (lefts left c) ld × IsRewriting names right (rights left c) r)
          (Are (pieces_of l ++ pieces_of_delta rd ++ pieces_of_delta ld ++ pieces_of r))
          (λ left right of. both (pieces_of l ++ pieces_of_delta rd ++ pieces_of_delta ld) (pieces_of r)
          (both (pieces_of l ++ pieces_of_delta rd) (pieces_of_delta ld)
          (both (pieces_of l) (pieces_of_delta rd) (pieces_hold l left (lefts left hit.cuts) of.2 within.1) (delta_pieces_hold rd right (rights left hit.cuts) (rights left c) of.3 within.2))
          (delta_pieces_hold ld left (lefts left hit.cuts) (lefts left c) of.4 within.3)) (pieces_hold r right (rights left c) of.5 within.4)) q is.1,
    )

    delta_pieces_hold : (d : PlainDelta) (q : PlainPlan) (old new : Cuts) → IsDelta names q old new d → IsDeltaInStreams lengths d → Are (pieces_of_delta d)
    delta_pieces_hold (Change p o n way) q old new is within =
        by_gathered (is_chain_delta (Change p o n way)) p (added_cuts o n) (pieces_in_delta way) (added p o n within.0) (delta_way_pieces_hold way p o n q old new is.3 within.1)

    delta_way_pieces_hold : (way : PlainDeltaWay) (p : PlainPlan) (o n : Cuts) (q : PlainPlan) (old new : Cuts) → IsDeltaWay names q old new way → IsDeltaWayInStreams lengths p o n way → Are (pieces_in_delta way)
    delta_way_pieces_hold Unchanged p o n q old new is within = tt
    delta_way_pieces_hold NewRows p o n q old new is within = tt
    delta_way_pieces_hold (OfChild d) p o n q old new is within =
        from_delta_tail (λ child a b. IsDelta names child a b d) (Are (pieces_of_delta d)) (λ child a b of. delta_pieces_hold d child a b of within) old new q is.1
    delta_way_pieces_hold (OfDistinct r d) p o n q old new is within =
        from_distinct (λ child. IsDelta names child old new d) (Are (pieces_of r ++ pieces_of_delta d))
        (λ child of. both (pieces_of r) (pieces_of_delta d) (pieces_hold r q old is.1 within.0) (delta_pieces_hold d child old new of within.1)) q is.2
    delta_way_pieces_hold (OfJoin d r) p o n q old new is within =
        from_sides (λ left right. (rights left old ≡ rights left new) × IsDelta names left (lefts left old) (lefts left new) d × IsRewriting names right (rights left new) r)
        (Are (pieces_of_delta d ++ pieces_of r))
        (λ left right of. both (pieces_of_delta d) (pieces_of r) (delta_pieces_hold d left (lefts left old) (lefts left new) of.1 within.0) (pieces_hold r right (rights left new) of.2 within.1)) q is.1
