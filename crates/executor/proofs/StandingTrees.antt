-- Each tree that stands at a place and counts below a root is recorded.
use Rattle.std.proofs.Common.{◌≡◌, refl, sym, ap, subst, ◌∙◌, Bool, true, false, cond, ◌&&◌, ◌||◌, ◌==◌, List, [], ◌∷◌, ◌++◌}
use Rattle.std.proofs.lemmas.Bool.{false≢true, eqb-true, and_parts}
use Rattle.std.proofs.lemmas.List.Elements.{Contains-append_left, Contains-append_right, Contains-push}
use Rattle.std.specs.List.{AllByRecursion, Contains, list_any}
use Rattle.plan_core.specs.PlainPlan.{PlainPlan}
use Rattle.plan_core.specs.PlainPlan as plan
use Rattle.plan_laws.proofs.ValidPlans.{all-append}
use Rattle.estimator.specs.Cuts.{Cuts}
use Rattle.rewrite_core.specs.IsRewriting.{Naming, IsRewriting, IsWay, IsDelta, IsDeltaWay, IsScan, OfOne, OfTwo, OfSides, OfTail, OfDeltaTail, OfDistinctChild, lefts, rights}
use Rattle.rewrite_core.specs.PlainRewriting.{PlainRewriting, Node, PlainWay, Scan, One, Two, Read, Tail, LeftGrew, RightGrew, BothGrew, PlainDelta, Change, PlainDeltaWay, Unchanged, NewRows, OfChild, OfDistinct, OfJoin}
use Rattle.growth_laws.specs.KeptResults.{KeptResults, kept_among}
use Rattle.growth_laws.specs.Lists.{Extents}
use Rattle.growth_laws.specs.MadePlaces.{Place, Standing, nowhere, both_standing, before_tail, with_root, standing_of, standing_in, standing_of_delta, standing_in_delta, same_cuts, is_made_at, counts_below, counts_at_root, if_made, made_from}
use Rattle.growth_laws.specs.Parts.{plan_at, cuts_at}
use Rattle.growth_laws.specs.Pieces.{is_chain_of, is_gathered, is_chain_delta}
use Rattle.growth_laws.proofs.MadeOnes.{Fits, Aligned}
use Rattle.executor.specs.Operators.{gathers}
use Rattle.executor.specs.Recording.{is_made, is_recorded, if_recorded, recorded_of, recorded_in, recorded_of_delta, recorded_in_delta, IsFoundBelow}
use Rattle.executor.proofs.GatheredTrees.{as_chain, gathered_one}

-- ---- what is gathered records nothing on the way

second : (a b : Bool) → (a && b) ≡ true → b ≡ true
second true b is = is
second false b is = absurd (false≢true is)

module _ (names : Naming) where
  chain_scan : (p q : PlainPlan) (c d : Cuts) → IsRewriting names p c (Node q d Scan) → recorded_of (Node q d Scan) ≡ []
  chain_scan p (plan.Scan stream) c d is = refl
  chain_scan p (plan.Filter child test) c d is = absurd (subst IsScan (sym is.0) is.2)
  chain_scan p (plan.Project child columns) c d is = absurd (subst IsScan (sym is.0) is.2)
  chain_scan p (plan.Distinct child) c d is = absurd (subst IsScan (sym is.0) is.2)
  chain_scan p (plan.Group child keys aggs) c d is = absurd (subst IsScan (sym is.0) is.2)
  chain_scan p (plan.Join left right on) c d is = absurd (subst IsScan (sym is.0) is.2)
  chain_scan p (plan.Concat left right) c d is = absurd (subst IsScan (sym is.0) is.2)
  chain_scan p (plan.Order child keys) c d is = absurd (subst IsScan (sym is.0) is.2)

chain_over : (q : PlainPlan) (d : Cuts) (r : PlainRewriting) → is_chain_of (Node q d (One r)) ≡ true → recorded_of (Node q d (One r)) ≡ []
chain_over (plan.Scan stream) d r chain = absurd (false≢true chain)
chain_over (plan.Filter child test) d r chain = ap (λ b. cond b [] (recorded_of r) ++ []) chain
chain_over (plan.Project child columns) d r chain = ap (λ b. cond b [] (recorded_of r) ++ []) chain
chain_over (plan.Distinct child) d r chain = absurd (false≢true chain)
chain_over (plan.Group child keys aggs) d r chain = absurd (false≢true chain)
chain_over (plan.Join left right on) d r chain = absurd (false≢true chain)
chain_over (plan.Concat left right) d r chain = absurd (false≢true chain)
chain_over (plan.Order child keys) d r chain = absurd (false≢true chain)

module _ (names : Naming) where
  chain_unrecorded : (r : PlainRewriting) (p : PlainPlan) (c : Cuts) → is_chain_of r ≡ true → IsRewriting names p c r → recorded_of r ≡ []
  chain_unrecorded (Node q d Scan) p c chain is = chain_scan names p q c d is
  chain_unrecorded (Node q d (One r)) p c chain is = chain_over q d r chain
  chain_unrecorded (Node q d (Two l r)) p c chain is = absurd (false≢true chain)
  chain_unrecorded (Node q d (Read hit)) p c chain is = absurd (false≢true chain)
  chain_unrecorded (Node q d (Tail hit e)) p c chain is = absurd (false≢true chain)
  chain_unrecorded (Node q d (LeftGrew hit e r)) p c chain is = absurd (false≢true chain)
  chain_unrecorded (Node q d (RightGrew hit l e)) p c chain is = absurd (false≢true chain)
  chain_unrecorded (Node q d (BothGrew hit l rd ld r)) p c chain is = absurd (false≢true chain)

chain_below : (q : PlainPlan) (o n : Cuts) (d : PlainDelta) → is_chain_delta (Change q o n (OfChild d)) ≡ true → is_chain_delta d ≡ true
chain_below (plan.Scan stream) o n d chain = absurd (false≢true chain)
chain_below (plan.Filter child test) o n d chain = chain
chain_below (plan.Project child columns) o n d chain = chain
chain_below (plan.Distinct child) o n d chain = absurd (false≢true chain)
chain_below (plan.Group child keys aggs) o n d chain = absurd (false≢true chain)
chain_below (plan.Join left right on) o n d chain = absurd (false≢true chain)
chain_below (plan.Concat left right) o n d chain = absurd (false≢true chain)
chain_below (plan.Order child keys) o n d chain = absurd (false≢true chain)

delta_unrecorded : (d : PlainDelta) → is_chain_delta d ≡ true → recorded_of_delta d ≡ []
delta_unrecorded (Change q o n way) chain = ap (λ b. cond b [] (recorded_in_delta way)) chain

-- ---- by the plan

module _ (B : Type 0) where
  of_one : (P : PlainPlan → Type 0) → ((child : PlainPlan) → P child → B) → (p : PlainPlan) → OfOne P p → B
  of_one P f (plan.Scan stream) is = absurd is
  of_one P f (plan.Filter child test) is = f child is
  of_one P f (plan.Project child columns) is = f child is
  of_one P f (plan.Distinct child) is = f child is
  of_one P f (plan.Group child keys aggs) is = f child is
  of_one P f (plan.Join left right on) is = absurd is
  of_one P f (plan.Concat left right) is = absurd is
  of_one P f (plan.Order child keys) is = f child is

  of_distinct : (P : PlainPlan → Type 0) → ((child : PlainPlan) → P child → B) → (p : PlainPlan) → OfDistinctChild P p → B
  of_distinct P f (plan.Scan stream) is = absurd is
  of_distinct P f (plan.Filter child test) is = absurd is
  of_distinct P f (plan.Project child columns) is = absurd is
  of_distinct P f (plan.Distinct child) is = f child is
  of_distinct P f (plan.Group child keys aggs) is = absurd is
  of_distinct P f (plan.Join left right on) is = absurd is
  of_distinct P f (plan.Concat left right) is = absurd is
  of_distinct P f (plan.Order child keys) is = absurd is

  of_two : (P : PlainPlan → PlainPlan → Type 0) → ((left right : PlainPlan) → P left right → B) → (p : PlainPlan) → OfTwo P p → B
  of_two P f (plan.Scan stream) is = absurd is
  of_two P f (plan.Filter child test) is = absurd is
  of_two P f (plan.Project child columns) is = absurd is
  of_two P f (plan.Distinct child) is = absurd is
  of_two P f (plan.Group child keys aggs) is = absurd is
  of_two P f (plan.Join left right on) is = f left right is
  of_two P f (plan.Concat left right) is = f left right is
  of_two P f (plan.Order child keys) is = absurd is

  of_sides : (P : PlainPlan → PlainPlan → Type 0) → ((left right : PlainPlan) → P left right → B) → (p : PlainPlan) → OfSides P p → B
  of_sides P f (plan.Scan stream) is = absurd is
  of_sides P f (plan.Filter child test) is = absurd is
  of_sides P f (plan.Project child columns) is = absurd is
  of_sides P f (plan.Distinct child) is = absurd is
  of_sides P f (plan.Group child keys aggs) is = absurd is
  of_sides P f (plan.Join left right on) is = f left right is
  of_sides P f (plan.Concat left right) is = absurd is
  of_sides P f (plan.Order child keys) is = absurd is

  module _ (P : PlainPlan → Cuts → Cuts → Type 0) (f : (child : PlainPlan) (old new : Cuts) → P child old new → B) where
    of_tail : (p : PlainPlan) (old new : Cuts) → OfTail P p old new → B
    of_tail (plan.Scan stream) old new is = absurd is
    of_tail (plan.Filter child test) old new is = f child old new is
    of_tail (plan.Project child columns) old new is = f child old new is
    of_tail (plan.Distinct child) old new is = f child old new is
    of_tail (plan.Group child keys aggs) old new is = f child old new is
    of_tail (plan.Join left right on) old new is = absurd is
    of_tail (plan.Concat left right) old new is = f right (rights left old) (rights left new) is.1
    of_tail (plan.Order child keys) old new is = f child old new is

    of_delta_tail : (p : PlainPlan) (old new : Cuts) → OfDeltaTail P p old new → B
    of_delta_tail (plan.Scan stream) old new is = absurd is
    of_delta_tail (plan.Filter child test) old new is = f child old new is
    of_delta_tail (plan.Project child columns) old new is = f child old new is
    of_delta_tail (plan.Distinct child) old new is = absurd is
    of_delta_tail (plan.Group child keys aggs) old new is = absurd is
    of_delta_tail (plan.Join left right on) old new is = absurd is
    of_delta_tail (plan.Concat left right) old new is = f right (rights left old) (rights left new) is.1
    of_delta_tail (plan.Order child keys) old new is = absurd is

-- ---- the trees

module _ (names : Naming) (In : PlainRewriting → Type 0) where
  abbrev All : List PlainRewriting → Type 0
  All = AllByRecursion In

  abbrev pub Counted : PlainRewriting → Type 0
  Counted t = counts_below (plan_at t) ≡ true → In t

  abbrev pub AllCounted : Standing → Type 0
  AllCounted = AllByRecursion (AllByRecursion Counted)

  of_both : (xs ys : List PlainRewriting) → All (xs ++ ys) → All xs × All ys
  of_both [] ys all = (tt, all)
  of_both (x ∷ xs) ys all = let rest = of_both xs ys all.1 in ((all.0, rest.0), rest.1)

  behind : (xs ys : Standing) → AllCounted xs → AllCounted ys → AllCounted (xs ++ ys)
  behind xs ys first rest = all-append (AllByRecursion Counted) xs ys first rest

  rooted : (root : List PlainRewriting) (xs : Standing) → AllByRecursion Counted root → AllCounted xs → AllCounted (with_root root xs)
  rooted root xs here all = behind xs (root ∷ []) all (here, tt)

  none : (p : PlainPlan) → AllCounted (nowhere p)
  none (plan.Scan stream) = (tt, tt)
  none (plan.Filter child test) = rooted [] (nowhere child) tt (none child)
  none (plan.Project child columns) = rooted [] (nowhere child) tt (none child)
  none (plan.Distinct child) = rooted [] (nowhere child) tt (none child)
  none (plan.Group child keys aggs) = rooted [] (nowhere child) tt (none child)
  none (plan.Join left right on) = behind (nowhere left) (nowhere right ++ [] ∷ []) (none left) (rooted [] (nowhere right) tt (none right))
  none (plan.Concat left right) = behind (nowhere left) (nowhere right ++ [] ∷ []) (none left) (rooted [] (nowhere right) tt (none right))
  none (plan.Order child keys) = rooted [] (nowhere child) tt (none child)

  tail_none : (p : PlainPlan) → AllCounted (before_tail p)
  tail_none (plan.Scan stream) = tt
  tail_none (plan.Filter child test) = tt
  tail_none (plan.Project child columns) = tt
  tail_none (plan.Distinct child) = tt
  tail_none (plan.Group child keys aggs) = tt
  tail_none (plan.Join left right on) = tt
  tail_none (plan.Concat left right) = none left
  tail_none (plan.Order child keys) = tt

  both : (xs ys : Standing) → AllCounted xs → AllCounted ys → AllCounted (both_standing xs ys)
  both [] [] first rest = tt
  both [] (y ∷ ys) first rest = tt
  both (x ∷ xs) [] first rest = tt
  both (x ∷ xs) (y ∷ ys) first rest = (all-append Counted x y first.0 rest.0, both xs ys first.1 rest.1)

  -- what is recorded below, also where it is gathered
  below : (b : Bool) (trees : List PlainRewriting) → All (cond b [] trees) → (b ≡ true → All trees) → All trees
  below true trees all f = f refl
  below false trees all f = all

  gathered_way : (way : PlainWay) (q : PlainPlan) (d c : Cuts) → is_gathered (Node q d way) ≡ true → IsWay names q c way → All (recorded_in way)
  gathered_way Scan q d c is way = tt
  gathered_way (One r) q d c is way =
      of_one (All (recorded_of r)) (λ child. IsRewriting names child c r)
      (λ child of. subst All (sym (chain_unrecorded names r child c (second (gathers q) (is_chain_of r) (sym (gathered_one q d r) ∙ is)) of)) tt) q way
  gathered_way (Two l r) q d c is way = absurd (false≢true (sym (as_chain q d (Two l r) tt) ∙ is))
  gathered_way (Read hit) q d c is way = tt
  gathered_way (Tail hit e) q d c is way = absurd (false≢true (sym (as_chain q d (Tail hit e) tt) ∙ is))
  gathered_way (LeftGrew hit e r) q d c is way = absurd (false≢true (sym (as_chain q d (LeftGrew hit e r) tt) ∙ is))
  gathered_way (RightGrew hit l e) q d c is way = absurd (false≢true (sym (as_chain q d (RightGrew hit l e) tt) ∙ is))
  gathered_way (BothGrew hit l rd ld r) q d c is way = absurd (false≢true (sym (as_chain q d (BothGrew hit l rd ld r) tt) ∙ is))

  chain_way : (way : PlainDeltaWay) (q : PlainPlan) (o n : Cuts) → is_chain_delta (Change q o n way) ≡ true → All (recorded_in_delta way)
  chain_way Unchanged q o n is = tt
  chain_way NewRows q o n is = tt
  chain_way (OfChild d) q o n is = subst All (sym (delta_unrecorded d (chain_below q o n d is))) tt
  chain_way (OfDistinct r d) q o n is = absurd (false≢true is)
  chain_way (OfJoin d r) q o n is = absurd (false≢true is)

  -- the tree itself
  itself : (made counts : Bool) (tree : PlainRewriting) → made ≡ true → All (if_recorded (made && counts) tree) → counts ≡ true → In tree
  itself true true tree is all counts = all.0
  itself true false tree is all counts = absurd (false≢true counts)
  itself false b tree is all counts = absurd (false≢true is)

  mutual
    pub tree_counted : (r : PlainRewriting) (p : PlainPlan) (c : Cuts) → IsRewriting names p c r → All (recorded_of r) → AllCounted (standing_of r)
    tree_counted (Node q d way) p c is all =
        let parts = of_both (cond (is_gathered (Node q d way)) [] (recorded_in way)) (if_recorded (is_recorded (Node q d way)) (Node q d way)) all in
        let mine : IsWay names q c way = subst (λ p. IsWay names p c way) (sym is.0) is.2 in
        way_counted way q c (Node q d way) (λ made counts. itself (is_made way) (counts_below q) (Node q d way) made parts.1 counts) mine
        (below (is_gathered (Node q d way)) (recorded_in way) parts.0 (λ gathered. gathered_way way q d c gathered mine))

    way_counted : (way : PlainWay) (p : PlainPlan) (c : Cuts) (root : PlainRewriting) → (is_made way ≡ true → Counted root) → IsWay names p c way → All (recorded_in way) → AllCounted (standing_in p way (root ∷ []))
    way_counted Scan p c root own is all = rooted (root ∷ []) [] (own refl, tt) tt
    way_counted (One r) p c root own is all =
        rooted (root ∷ []) (standing_of r) (own refl, tt) (of_one (AllCounted (standing_of r)) (λ child. IsRewriting names child c r) (λ child of. tree_counted r child c of all) p is)
    way_counted (Two l r) p c root own is all =
        let parts = of_both (recorded_of l) (recorded_of r) all in
        let found = of_two (AllCounted (standing_of l) × AllCounted (standing_of r)) (λ left right. IsRewriting names left (lefts left c) l × IsRewriting names right (rights left c) r)
        (λ left right of. (tree_counted l left (lefts left c) of.0 parts.0, tree_counted r right (rights left c) of.1 parts.1)) p is in
        behind (standing_of l) (with_root (root ∷ []) (standing_of r)) found.0 (rooted (root ∷ []) (standing_of r) (own refl, tt) found.1)
    way_counted (Read hit) p c root own is all = none p
    way_counted (Tail hit d) p c root own is all =
        behind (before_tail p) (with_root (root ∷ []) (standing_of_delta d)) (tail_none p)
        (rooted (root ∷ []) (standing_of_delta d) (own refl, tt)
        (of_tail (AllCounted (standing_of_delta d)) (λ child old new. IsDelta names child old new d) (λ child old new of. delta_counted d child old new of all) p hit.cuts c is.1))
    way_counted (LeftGrew hit d r) p c root own is all =
        let parts = of_both (recorded_of_delta d) (recorded_of r) all in
        let found = of_sides (AllCounted (standing_of_delta d) × AllCounted (standing_of r)) _
        (λ left right of. (delta_counted d left (lefts left hit.cuts) (lefts left c) of.1 parts.0, tree_counted r right (rights left c) of.2 parts.1)) p is.1 in
        behind (standing_of_delta d) (with_root (root ∷ []) (standing_of r)) found.0 (rooted (root ∷ []) (standing_of r) (own refl, tt) found.1)
    way_counted (RightGrew hit l d) p c root own is all =
        let parts = of_both (recorded_of l) (recorded_of_delta d) all in
        let found = of_sides (AllCounted (standing_of l) × AllCounted (standing_of_delta d)) _
        (λ left right of. (tree_counted l left (lefts left c) of.1 parts.0, delta_counted d right (rights left hit.cuts) (rights left c) of.2 parts.1)) p is.1 in
        behind (standing_of l) (with_root (root ∷ []) (standing_of_delta d)) found.0 (rooted (root ∷ []) (standing_of_delta d) (own refl, tt) found.1)
    way_counted (BothGrew hit l rd ld r) p c root own is all =
        let last = of_both (recorded_of l ++ recorded_of_delta rd ++ recorded_of_delta ld) (recorded_of r) all in
        let more = of_both (recorded_of l ++ recorded_of_delta rd) (recorded_of_delta ld) last.0 in
        let first = of_both (recorded_of l) (recorded_of_delta rd) more.0 in
        let found = of_sides ((AllCounted (standing_of l) × AllCounted (standing_of_delta rd)) × (AllCounted (standing_of_delta ld) × AllCounted (standing_of r))) _
        (λ left right of. (
          (tree_counted l left (lefts left hit.cuts) of.2 first.0, delta_counted rd right (rights left hit.cuts) (rights left c) of.3 first.1),
          (delta_counted ld left (lefts left hit.cuts) (lefts left c) of.4 more.1, tree_counted r right (rights left c) of.5 last.1),
        )) p is.1 in
        behind (both_standing (standing_of l) (standing_of_delta ld)) (with_root (root ∷ []) (both_standing (standing_of_delta rd) (standing_of r)))
        (both (standing_of l) (standing_of_delta ld) found.0.0 found.1.0)
        (rooted (root ∷ []) (both_standing (standing_of_delta rd) (standing_of r)) (own refl, tt) (both (standing_of_delta rd) (standing_of r) found.0.1 found.1.1))

    delta_counted : (d : PlainDelta) (p : PlainPlan) (old new : Cuts) → IsDelta names p old new d → All (recorded_of_delta d) → AllCounted (standing_of_delta d)
    delta_counted (Change q o n way) p old new is all =
        delta_way_counted way q old new (subst (λ p. IsDeltaWay names p old new way) (sym is.0) is.3)
        (below (is_chain_delta (Change q o n way)) (recorded_in_delta way) all (λ chain. chain_way way q o n chain))

    delta_way_counted : (way : PlainDeltaWay) (p : PlainPlan) (old new : Cuts) → IsDeltaWay names p old new way → All (recorded_in_delta way) → AllCounted (standing_in_delta p way)
    delta_way_counted Unchanged p old new is all = none p
    delta_way_counted NewRows p old new is all = none p
    delta_way_counted (OfChild d) p old new is all =
        behind (before_tail p) (with_root [] (standing_of_delta d)) (tail_none p)
        (rooted [] (standing_of_delta d) tt (of_delta_tail (AllCounted (standing_of_delta d)) (λ child o n. IsDelta names child o n d) (λ child o n of. delta_counted d child o n of all) p old new is.1))
    delta_way_counted (OfDistinct r d) p old new is all =
        let parts = of_both (recorded_of r) (recorded_of_delta d) all in
        both (standing_of r) (with_root [] (standing_of_delta d)) (tree_counted r p old is.1 parts.0)
        (rooted [] (standing_of_delta d) tt (of_distinct (AllCounted (standing_of_delta d)) (λ child. IsDelta names child old new d) (λ child of. delta_counted d child old new of parts.1) p is.2))
    delta_way_counted (OfJoin d r) p old new is all =
        let parts = of_both (recorded_of_delta d) (recorded_of r) all in
        let found = of_sides (AllCounted (standing_of_delta d) × AllCounted (standing_of r)) _
        (λ left right of. (delta_counted d left (lefts left old) (lefts left new) of.1 parts.0, tree_counted r right (rights left new) of.2 parts.1)) p is.1 in
        behind (standing_of_delta d) (with_root [] (standing_of r)) found.0 (rooted [] (standing_of r) tt found.1)

-- ---- the made places

module _ {X : Type 0} where
  wider : (x : X) (xs ys : List X) → AllByRecursion (Contains xs) ys → AllByRecursion (Contains (x ∷ xs)) ys
  wider x xs [] all = tt
  wider x xs (y ∷ ys) all = (Contains-append_right (x ∷ []) xs y all.0, wider x xs ys all.1)

  -- each element is one of the list
  pub each_in : (xs : List X) → AllByRecursion (Contains xs) xs
  each_in [] = tt
  each_in (x ∷ xs) = (Contains-append_left (x ∷ []) xs x (Contains-push [] x), wider x xs xs (each_in xs))

same_intervals : (a b : Cuts) → same_cuts a b ≡ true → a ≡ b
same_intervals [] [] is = refl
same_intervals [] (b ∷ news) is = absurd (false≢true is)
same_intervals (a ∷ olds) [] is = absurd (false≢true is)
same_intervals (a ∷ olds) (b ∷ news) is =
    let front = and_parts ((a.from == b.from) && (a.to == b.to)) (same_cuts olds news) is in
    let ends = and_parts (a.from == b.from) (a.to == b.to) front.0 in
    let from = eqb-true a.from b.from ends.0 in
    let to = eqb-true a.to b.to ends.1 in
    let rest = same_intervals olds news front.1 in
    λ i. record { from = from i; to = to i } ∷ rest i

module _ (extents : Extents) (results : KeptResults) (trees : List PlainRewriting) where
  abbrev Named : Naming
  Named = kept_among extents results

  abbrev Here : PlainRewriting → Type 0
  Here = Contains trees

  found : (at : Place) (standing : List PlainRewriting) → AllByRecursion (Fits extents results at.plan) standing → AllByRecursion (Counted Named Here) standing → list_any (is_made_at at) standing ≡ true → IsFoundBelow trees at
  found at [] fits all is = absurd (false≢true is)
  found at (t ∷ standing) fits all is = by (same_cuts (cuts_at t) at.cuts) refl (found at standing fits.1 all.1)
    where
      by : (b : Bool) → same_cuts (cuts_at t) at.cuts ≡ b → (list_any (is_made_at at) standing ≡ true → IsFoundBelow trees at) → IsFoundBelow trees at
      by true same rest = λ counts. (t, all.0 (ap counts_below fits.0.of ∙ counts), fits.0.of, same_intervals (cuts_at t) at.cuts same)
      by false same rest = rest (sym (ap (λ b. b || list_any (is_made_at at) standing) same) ∙ is)

  maybe : (counts : Bool) (at : Place) (standing : List PlainRewriting) (others : List Place) → AllByRecursion (Fits extents results at.plan) standing → AllByRecursion (Counted Named Here) standing
      → AllByRecursion (IsFoundBelow trees) others → AllByRecursion (IsFoundBelow trees) (if_made counts at standing others)
  maybe counts at standing others fits all rest = by (counts && list_any (is_made_at at) standing) refl
    where
      by : (b : Bool) → (counts && list_any (is_made_at at) standing) ≡ b → AllByRecursion (IsFoundBelow trees) (cond b (at ∷ others) others)
      by true is = (found at standing fits all (and_parts counts (list_any (is_made_at at) standing) is).1, rest)
      by false is = rest

  pub places_found : (ps : List Place) (xs : Standing) → Aligned extents results ps xs → AllCounted Named Here xs → AllByRecursion (IsFoundBelow trees) (made_from ps xs)
  places_found [] xs aligned all = tt
  places_found (p ∷ []) [] aligned all = tt
  places_found (p ∷ []) (x ∷ []) aligned all = maybe (counts_at_root p.plan) p x [] aligned.0 all.0 tt
  places_found (p ∷ []) (x ∷ y ∷ ys) aligned all = tt
  places_found (p ∷ q ∷ ps) [] aligned all = tt
  places_found (p ∷ q ∷ ps) (x ∷ xs) aligned all = maybe (counts_below p.plan) p x (made_from (q ∷ ps) xs) aligned.0 all.0 (places_found (q ∷ ps) xs aligned.1 all.1)
