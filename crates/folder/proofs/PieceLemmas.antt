-- The pieces of a rewriting over a state's kept results, at a cut that ends within the extents.
use Rattle.std.proofs.Common.{◌≡◌, inl, inr, refl, sym, ap, ◌∙◌, subst, ℕ, Bool, true, false, cond, List, [], ◌∷◌, ◌++◌, length, map, take, drop, arith}
use Rattle.std.specs.List.{Contains, AllByRecursion, filter}
use Rattle.std.proofs.lemmas.Bool.{false≢true}
use Rattle.rows_core.specs.declared.cut.Cut.{Cut}
use Rattle.plan_core.specs.PlainPlan.{PlainPlan, leaves}
use Rattle.plan_core.specs.PlainPlan as plan
use Rattle.estimator.specs.Cuts.{Cuts, added_cuts}
use Rattle.rewrite_core.specs.declared.rewriting.Hit.{Hit}
use Rattle.rewrite_core.specs.Entries as rewrite
use Rattle.rewrite_core.specs.IsRewriting.{Naming, among, IsRewriting, IsWay, IsDelta, IsDeltaWay, OfOne, OfTwo, OfSides, OfTail, OfDeltaTail, OfDistinctChild, IsScan, lefts, rights}
use Rattle.rewrite_core.specs.PlainRewriting.{PlainRewriting, Node, PlainWay, Scan, One, Two, Read, Tail, LeftGrew, RightGrew, BothGrew, PlainDelta, Change, PlainDeltaWay, Unchanged, NewRows, OfChild, OfDistinct, OfJoin}
use Rattle.rewrite_core.proofs.Looking.{Contains-first, Contains-behind, Contains-cons_cases}
use Rattle.plan_laws.proofs.ValidPlans.{all-append}
use Rattle.growth_laws.specs.Pieces.{Piece, Entry, Gathered, is_chain_of, is_gathered, is_chain_delta, pieces_of, pieces_in, pieces_of_delta, pieces_in_delta}
use Rattle.growth_laws.proofs.PieceResults.{subst_both}
use Rattle.cache_index.specs.Asked.{entry, is_asked, asked}
use Rattle.catalog_types.specs.PlainEntry.{PlainEntry}
use Rattle.catalog_types.specs.declared.snapshot.StreamState.{StreamState}
use Rattle.catalog_core.specs.Programs.{AreCuts, IsCut}
use Rattle.folder.specs.State.{State, IsValid, states_of}
use Rattle.folder.specs.Files.{IsPieceIn}
use Rattle.folder.proofs.GrownStreams.{as-long, entry-in}

-- ---- cuts of two inputs

module _ (streams : List StreamState) where
  left-cuts : (xs ys : List ℕ) (cuts : Cuts) → AreCuts streams (xs ++ ys) cuts → AreCuts streams xs (take (length xs) cuts)
  left-cuts [] ys cuts are = tt
  left-cuts (x ∷ xs) ys [] are = absurd are
  left-cuts (x ∷ xs) ys (cut ∷ cuts) are = (are.0, left-cuts xs ys cuts are.1)

  right-cuts : (xs ys : List ℕ) (cuts : Cuts) → AreCuts streams (xs ++ ys) cuts → AreCuts streams ys (drop (length xs) cuts)
  right-cuts [] ys cuts are = are
  right-cuts (x ∷ xs) ys [] are = absurd are
  right-cuts (x ∷ xs) ys (cut ∷ cuts) are = right-cuts xs ys cuts are.1

  -- one interval of one leaf
  one-cut : (leaf : ℕ) (ls : List ℕ) (cuts : Cuts) → ls ≡ leaf ∷ [] → AreCuts streams ls cuts → (cut : Cut) × (cuts ≡ cut ∷ []) × IsCut streams leaf cut
  one-cut leaf ls cuts is are = by cuts (subst (λ (l : List ℕ). AreCuts streams l cuts) is are)
    where
      by : (cuts : Cuts) → AreCuts streams (leaf ∷ []) cuts → (cut : Cut) × (cuts ≡ cut ∷ []) × IsCut streams leaf cut
      by [] are = absurd are
      by (cut ∷ []) are = (cut, refl, are.0)
      by (cut ∷ next ∷ cuts) are = absurd are.1

  -- the cuts of a plan end within its streams
  abbrev Within : PlainPlan → Cuts → Type 0
  Within p cuts = AreCuts streams (leaves p) cuts

-- ---- inputs, and their leaves

one_child : {P : PlainPlan → Type 0} (q : PlainPlan) → OfOne P q → (child : PlainPlan) × P child × (leaves q ≡ leaves child)
one_child (plan.Filter child test) is = (child, is, refl)
one_child (plan.Project child columns) is = (child, is, refl)
one_child (plan.Distinct child) is = (child, is, refl)
one_child (plan.Group child keys aggs) is = (child, is, refl)
one_child (plan.Order child keys) is = (child, is, refl)
one_child _ is = absurd is

two_children : {P : PlainPlan → PlainPlan → Type 0} (q : PlainPlan) → OfTwo P q → (left right : PlainPlan) × P left right × (leaves q ≡ leaves left ++ leaves right)
two_children (plan.Join left right on) is = (left, right, is, refl)
two_children (plan.Concat left right) is = (left, right, is, refl)
two_children _ is = absurd is

two_sides : {P : PlainPlan → PlainPlan → Type 0} (q : PlainPlan) → OfSides P q → (left right : PlainPlan) × P left right × (leaves q ≡ leaves left ++ leaves right)
two_sides (plan.Join left right on) is = (left, right, is, refl)
two_sides _ is = absurd is

distinct_child : {P : PlainPlan → Type 0} (q : PlainPlan) → OfDistinctChild P q → (child : PlainPlan) × P child × (leaves q ≡ leaves child)
distinct_child (plan.Distinct child) is = (child, is, refl)
distinct_child _ is = absurd is

module _ (streams : List StreamState) where
  tail_child : {P : PlainPlan → Cuts → Cuts → Type 0} (q : PlainPlan) (old new : Cuts) → OfTail P q old new → Within streams q old → Within streams q new
      → (child : PlainPlan) × (o n : Cuts) × P child o n × Within streams child o × Within streams child n
  tail_child (plan.Filter child test) old new is a b = (child, old, new, is, a, b)
  tail_child (plan.Project child columns) old new is a b = (child, old, new, is, a, b)
  tail_child (plan.Distinct child) old new is a b = (child, old, new, is, a, b)
  tail_child (plan.Group child keys aggs) old new is a b = (child, old, new, is, a, b)
  tail_child (plan.Order child keys) old new is a b = (child, old, new, is, a, b)
  tail_child (plan.Concat left right) old new is a b =
      (right, rights left old, rights left new, is.1, right-cuts streams (leaves left) (leaves right) old a, right-cuts streams (leaves left) (leaves right) new b)
  tail_child _ old new is a b = absurd is

  passed_child : {P : PlainPlan → Cuts → Cuts → Type 0} (q : PlainPlan) (old new : Cuts) → OfDeltaTail P q old new → Within streams q old → Within streams q new
      → (child : PlainPlan) × (o n : Cuts) × P child o n × Within streams child o × Within streams child n
  passed_child (plan.Filter child test) old new is a b = (child, old, new, is, a, b)
  passed_child (plan.Project child columns) old new is a b = (child, old, new, is, a, b)
  passed_child (plan.Concat left right) old new is a b =
      (right, rights left old, rights left new, is.1, right-cuts streams (leaves left) (leaves right) old a, right-cuts streams (leaves left) (leaves right) new b)
  passed_child _ old new is a b = absurd is

-- ---- gathered pieces are of one stream

abbrev IsOfOne : PlainPlan → Type 0
IsOfOne p = (stream : ℕ) × (leaves p ≡ stream ∷ [])

scan_one : (q : PlainPlan) → IsScan q → IsOfOne q
scan_one (plan.Scan stream) is = (stream, refl)
scan_one _ is = absurd is

module _ (names : Naming) where
  chain_one : (r : PlainRewriting) (q : PlainPlan) (c : Cuts) → IsRewriting names q c r → is_chain_of r ≡ true → IsOfOne q
  chain_one (Node p cuts Scan) q c (e, f, is) chain = scan_one q is
  chain_one (Node (plan.Filter child test) cuts (One r)) q c (e, f, is) chain =
      subst IsOfOne e (chain_one r child c (subst (λ q. OfOne (λ child. IsRewriting names child c r) q) (sym e) is) chain)
  chain_one (Node (plan.Project child columns) cuts (One r)) q c (e, f, is) chain =
      subst IsOfOne e (chain_one r child c (subst (λ q. OfOne (λ child. IsRewriting names child c r) q) (sym e) is) chain)
  chain_one (Node _ cuts _) q c is chain = absurd (false≢true chain)

  gathered_one : (r : PlainRewriting) (q : PlainPlan) (c : Cuts) → IsRewriting names q c r → is_gathered r ≡ true → IsOfOne q
  gathered_one (Node (plan.Group child keys aggs) cuts (One r)) q c (e, f, is) chain =
      subst IsOfOne e (chain_one r child c (subst (λ q. OfOne (λ child. IsRewriting names child c r) q) (sym e) is) chain)
  gathered_one (Node (plan.Distinct child) cuts (One r)) q c (e, f, is) chain =
      subst IsOfOne e (chain_one r child c (subst (λ q. OfOne (λ child. IsRewriting names child c r) q) (sym e) is) chain)
  gathered_one (Node p cuts way) q c is chain = chain_one (Node p cuts way) q c is chain

  delta_one : (d : PlainDelta) (q : PlainPlan) (old new : Cuts) → IsDelta names q old new d → is_chain_delta d ≡ true → IsOfOne q
  delta_one (Change p o n NewRows) q old new (e, f, g, is) chain = scan_one q is.0
  delta_one (Change (plan.Filter child test) o n (OfChild d)) q old new (e, f, g, is) chain =
      subst IsOfOne e (delta_one d child old new (subst (λ q. OfDeltaTail (λ child o n. IsDelta names child o n d) q old new) (sym e) is.1) chain)
  delta_one (Change (plan.Project child columns) o n (OfChild d)) q old new (e, f, g, is) chain =
      subst IsOfOne e (delta_one d child old new (subst (λ q. OfDeltaTail (λ child o n. IsDelta names child o n d) q old new) (sym e) is.1) chain)
  delta_one (Change _ o n _) q old new is chain = absurd (false≢true chain)

-- ---- the kept results that are asked

pub asked-is : (without : List ℕ) (es : List PlainEntry) (y : rewrite.Entry) → Contains (asked without es) y → (e : PlainEntry) × Contains es e × (entry e ≡ y)
asked-is without [] y has = absurd (omega (arith, has.1))
asked-is without (x ∷ xs) y has = by (is_asked without x) has (asked-is without xs y)
  where
    by : (b : Bool) → Contains (map entry (cond b (x ∷ filter (is_asked without) xs) (filter (is_asked without) xs))) y
        → (Contains (asked without xs) y → (e : PlainEntry) × Contains xs e × (entry e ≡ y)) → (e : PlainEntry) × Contains (x ∷ xs) e × (entry e ≡ y)
    by true has rest = elim (Contains-cons_cases (entry x) (asked without xs) y has) [
      | inl is ↦ (x, Contains-first x xs, is)
      | inr more ↦ let e = rest more in (e.0, Contains-behind x xs e.0 e.1, e.2)
    ]
    by false has rest = let e = rest has in (e.0, Contains-behind x xs e.0 e.1, e.2)

module _ (s : State) (valid : IsValid s) (without : List ℕ) where
  abbrev names : Naming
  names = among (asked without s.entries)

  abbrev IsIn : PlainPlan → Cuts → Type 0
  IsIn p cuts = Within (states_of s.streams) p cuts

  abbrev Are : List Piece → Type 0
  Are pieces = AllByRecursion (IsPieceIn s) pieces

  -- a kept result that is named
  named : (q : PlainPlan) (hit : Hit) → Contains (asked without s.entries) (rewrite.entry_of q hit) → IsPieceIn s (Entry q hit.id) × IsIn q hit.cuts
  named q hit has =
      let e = asked-is without s.entries (rewrite.entry_of q hit) has in
      let same_plan : e.0.plan ≡ q = ap (λ (x : rewrite.Entry). x.plan) e.2 in
      let same_cuts : e.0.cuts ≡ hit.cuts = ap (λ (x : rewrite.Entry). x.cuts) e.2 in (
        (e.0, e.1, same_plan, ap (λ (x : rewrite.Entry). x.id) e.2),
        subst_both IsIn e.0.plan q e.0.cuts hit.cuts same_plan same_cuts (entry-in s e.0 valid e.1).1.over.are_cuts,
      )

  piece-of : (p q : PlainPlan) (hit : Hit) → p ≡ q → IsPieceIn s (Entry q hit.id) → IsPieceIn s (Entry p hit.id)
  piece-of p q hit same piece = (piece.0, piece.1, piece.2 ∙ sym same, piece.3)

  -- one interval that ends within the extents
  one-piece : (p : PlainPlan) (cuts : Cuts) → IsOfOne p → IsIn p cuts → IsPieceIn s (Gathered p cuts)
  one-piece p cuts one within =
      let cut = one-cut (states_of s.streams) one.0 (leaves p) cuts one.1 within in
      (one.0, cut.0, one.1, cut.1, (let long = as-long s.streams one.0 in omega (arith, cut.2.1, long)))

  added-piece : (p : PlainPlan) (old new : Cuts) → IsOfOne p → IsIn p old → IsIn p new → IsPieceIn s (Gathered p (added_cuts old new))
  added-piece p old new one a b =
      let o = one-cut (states_of s.streams) one.0 (leaves p) old one.1 a in
      let n = one-cut (states_of s.streams) one.0 (leaves p) new one.1 b in
      (one.0, record { from = o.0.to; to = n.0.to }, one.1, (λ i. added_cuts (o.1 i) (n.1 i)), (let long = as-long s.streams one.0 in omega (arith, n.2.1, long)))

  left-in : (q left right : PlainPlan) (c : Cuts) → leaves q ≡ leaves left ++ leaves right → IsIn q c → IsIn left (lefts left c)
  left-in q left right c same within =
      left-cuts (states_of s.streams) (leaves left) (leaves right) c (subst (λ (l : List ℕ). AreCuts (states_of s.streams) l c) same within)

  right-in : (q left right : PlainPlan) (c : Cuts) → leaves q ≡ leaves left ++ leaves right → IsIn q c → IsIn right (rights left c)
  right-in q left right c same within =
      right-cuts (states_of s.streams) (leaves left) (leaves right) c (subst (λ (l : List ℕ). AreCuts (states_of s.streams) l c) same within)

  child-in : (q child : PlainPlan) (c : Cuts) → leaves q ≡ leaves child → IsIn q c → IsIn child c
  child-in q child c same within = subst (λ (l : List ℕ). AreCuts (states_of s.streams) l c) same within

  by_gathered : (b : Bool) (p : PlainPlan) (c : Cuts) (pieces : List Piece) → (b ≡ true → IsPieceIn s (Gathered p c)) → Are pieces → Are (cond b (Gathered p c ∷ []) pieces)
  by_gathered true p c pieces whole parts = (whole refl, tt)
  by_gathered false p c pieces whole parts = parts

  mutual
    pub pieces_are : (r : PlainRewriting) (q : PlainPlan) (c : Cuts) → IsRewriting names q c r → IsIn q c → Are (pieces_of r)
    pieces_are (Node p cuts way) q c (e, f, is) within =
        let in_here : IsIn p cuts = subst_both IsIn q p c cuts (sym e) (sym f) within in
        by_gathered (is_gathered (Node p cuts way)) p cuts (pieces_in p way)
        (λ whole. one-piece p cuts (subst IsOfOne (sym e) (gathered_one names (Node p cuts way) q c (e, f, is) whole)) in_here) (way_pieces p way q c e is within)

    way_pieces : (p : PlainPlan) (way : PlainWay) (q : PlainPlan) (c : Cuts) → p ≡ q → IsWay names q c way → IsIn q c → Are (pieces_in p way)
    way_pieces p Scan q c e is within = tt
    way_pieces p (One r) q c e is within = let of = one_child q is in pieces_are r of.0 c of.1 (child-in q of.0 c of.2 within)
    way_pieces p (Two l r) q c e is within =
        let of = two_children q is in
        all-append (IsPieceIn s) (pieces_of l) (pieces_of r) (pieces_are l of.0 (lefts of.0 c) of.2.0 (left-in q of.0 of.1 c of.3 within))
        (pieces_are r of.1 (rights of.0 c) of.2.1 (right-in q of.0 of.1 c of.3 within))
    way_pieces p (Read hit) q c e is within = (piece-of p q hit e (named q hit is.kept).0, tt)
    way_pieces p (Tail hit d) q c e is within =
        let hit_is = named q hit is.0.candidate.kept in
        let of = tail_child (states_of s.streams) q hit.cuts c is.1 hit_is.1 within in
        (piece-of p q hit e hit_is.0, delta_pieces d of.0 of.1 of.2 of.3 of.4 of.5)
    way_pieces p (LeftGrew hit d r) q c e is within =
        let hit_is = named q hit is.0.candidate.kept in
        let of = two_sides q is.1 in (
          piece-of p q hit e hit_is.0,
          all-append (IsPieceIn s) (pieces_of_delta d) (pieces_of r)
              (delta_pieces d of.0 (lefts of.0 hit.cuts) (lefts of.0 c) of.2.1 (left-in q of.0 of.1 hit.cuts of.3 hit_is.1) (left-in q of.0 of.1 c of.3 within))
              (pieces_are r of.1 (rights of.0 c) of.2.2 (right-in q of.0 of.1 c of.3 within)),
        )
    way_pieces p (RightGrew hit l d) q c e is within =
        let hit_is = named q hit is.0.candidate.kept in
        let of = two_sides q is.1 in (
          piece-of p q hit e hit_is.0,
          all-append (IsPieceIn s) (pieces_of l) (pieces_of_delta d)
              (pieces_are l of.0 (lefts of.0 c) of.2.1 (left-in q of.0 of.1 c of.3 within))
              (delta_pieces d of.1 (rights of.0 hit.cuts) (rights of.0 c) of.2.2 (right-in q of.0 of.1 hit.cuts of.3 hit_is.1) (right-in q of.0 of.1 c of.3 within)),
        )
    way_pieces p (BothGrew hit l rd ld r) q c e is within =
        let hit_is = named q hit is.0.candidate.kept in
        let of = two_sides q is.1 in
        let old_left = left-in q of.0 of.1 hit.cuts of.3 hit_is.1 in
        let old_right = right-in q of.0 of.1 hit.cuts of.3 hit_is.1 in
        let new_left = left-in q of.0 of.1 c of.3 within in
        let new_right = right-in q of.0 of.1 c of.3 within in (
          piece-of p q hit e hit_is.0,
          all-append (IsPieceIn s) (pieces_of l ++ pieces_of_delta rd ++ pieces_of_delta ld) (pieces_of r)
              (all-append (IsPieceIn s) (pieces_of l ++ pieces_of_delta rd) (pieces_of_delta ld)
              (all-append (IsPieceIn s) (pieces_of l) (pieces_of_delta rd) (pieces_are l of.0 (lefts of.0 hit.cuts) of.2.2 old_left)
              (delta_pieces rd of.1 (rights of.0 hit.cuts) (rights of.0 c) of.2.3 old_right new_right))
              (delta_pieces ld of.0 (lefts of.0 hit.cuts) (lefts of.0 c) of.2.4 old_left new_left)) (pieces_are r of.1 (rights of.0 c) of.2.5 new_right),
        )

    delta_pieces : (d : PlainDelta) (q : PlainPlan) (old new : Cuts) → IsDelta names q old new d → IsIn q old → IsIn q new → Are (pieces_of_delta d)
    delta_pieces (Change p o n way) q old new (e, f, g, is) a b =
        let in_old : IsIn p o = subst_both IsIn q p old o (sym e) (sym f) a in
        let in_new : IsIn p n = subst_both IsIn q p new n (sym e) (sym g) b in
        by_gathered (is_chain_delta (Change p o n way)) p (added_cuts o n) (pieces_in_delta way)
        (λ whole. added-piece p o n (subst IsOfOne (sym e) (delta_one names (Change p o n way) q old new (e, f, g, is) whole)) in_old in_new) (delta_way_pieces way q old new is a b)

    delta_way_pieces : (way : PlainDeltaWay) (q : PlainPlan) (old new : Cuts) → IsDeltaWay names q old new way → IsIn q old → IsIn q new → Are (pieces_in_delta way)
    delta_way_pieces Unchanged q old new is a b = tt
    delta_way_pieces NewRows q old new is a b = tt
    delta_way_pieces (OfChild d) q old new is a b = let of = passed_child (states_of s.streams) q old new is.1 a b in delta_pieces d of.0 of.1 of.2 of.3 of.4 of.5
    delta_way_pieces (OfDistinct r d) q old new is a b =
        let of = distinct_child q is.2 in
        all-append (IsPieceIn s) (pieces_of r) (pieces_of_delta d) (pieces_are r q old is.1 a) (delta_pieces d of.0 old new of.1 (child-in q of.0 old of.2 a) (child-in q of.0 new of.2 b))
    delta_way_pieces (OfJoin d r) q old new is a b =
        let of = two_sides q is.1 in
        all-append (IsPieceIn s) (pieces_of_delta d) (pieces_of r)
        (delta_pieces d of.0 (lefts of.0 old) (lefts of.0 new) of.2.1 (left-in q of.0 of.1 old of.3 a) (left-in q of.0 of.1 new of.3 b))
        (pieces_are r of.1 (rights of.0 new) of.2.2 (right-in q of.0 of.1 new of.3 b))
