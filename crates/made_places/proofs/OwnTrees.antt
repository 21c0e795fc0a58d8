-- The places that count and have a tree of their own cut are made.
use Rattle.std.proofs.Common.{◌≡◌, refl, sym, ap, ◌∙◌, subst, inl, inr, ℕ, ◌+◌, ◌<◌, Bool, true, false, cond, ◌&&◌, ◌||◌, List, [], ◌∷◌, ◌++◌, Contains, zip, arith}
use Rattle.std.specs.Prelude.{IsTrue}
use Rattle.std.specs.Cmp.Lexicographic.{pointwise_decides}
use Rattle.std.specs.List.{AllByRecursion, list_any}
use Rattle.plan_core.specs.Nesting.{node_count}
use Rattle.plan_core.specs.PlainPlan.{PlainPlan, Scan, Filter, Project, Distinct, Group, Join, Concat, Order}
use Rattle.plan_laws.proofs.ValidPlans.{all-append}
use Rattle.estimator.specs.Cuts.{Cuts}
use Rattle.rewrite_core.specs.IsRewriting.{IsRewriting, whichever, lefts, rights}
use Rattle.rewrite_core.specs.PlainRewriting.{PlainRewriting, Node}
use Rattle.rewrite_core.proofs.Looking.{Contains-first, Contains-behind, Contains-cons_cases, Contains-none, never}
use Rattle.growth_laws.specs.MadePlaces.{Place, place, places, Standing, standing_of, is_made_at, counts_below, counts_at_root, if_made, made_from, made_places}
use Rattle.growth_laws.specs.Parts.{cuts_at}
use Rattle.made_places.specs.Picking.{places_below}
use Rattle.made_places.specs.Standing.{Counts, HasOwnTree}
use Rattle.made_places.proofs.Covered.{Covers, tree_covers}
use Rattle.made_places.proofs.Found.{cut_decides}
use Rattle.made_places.proofs.PickLemmas.{places_are}

-- ---- the plans below the root have fewer nodes

abbrev IsSmaller : ℕ → Place → Type 0
IsSmaller n at = node_count at.plan < n

less_child : (a n : ℕ) → 1 + a < n → a < n
less_child a n less = omega (arith, less)

less_left : (a b n : ℕ) → 1 + a + b < n → a < n
less_left a b n less = omega (arith, less)

less_right : (a b n : ℕ) → 1 + a + b < n → b < n
less_right a b n less = omega (arith, less)

-- the places of an input, and one more
with_root : (n : ℕ) (ps : List Place) (at : Place) → AllByRecursion (IsSmaller n) ps → IsSmaller n at → AllByRecursion (IsSmaller n) (ps ++ at ∷ [])
with_root n ps at all less = all-append (IsSmaller n) ps (at ∷ []) all (less, tt)

smaller_places : (plan : PlainPlan) (cuts : Cuts) (n : ℕ) → node_count plan < n → AllByRecursion (IsSmaller n) (places plan cuts)
smaller_places (Scan stream) cuts n less = (less, tt)
smaller_places (Filter child test) cuts n less = with_root n (places child cuts) (place (Filter child test) cuts) (smaller_places child cuts n (less_child (node_count child) n less)) less
smaller_places (Project child columns) cuts n less = with_root n (places child cuts) (place (Project child columns) cuts) (smaller_places child cuts n (less_child (node_count child) n less)) less
smaller_places (Distinct child) cuts n less = with_root n (places child cuts) (place (Distinct child) cuts) (smaller_places child cuts n (less_child (node_count child) n less)) less
smaller_places (Group child keys aggs) cuts n less = with_root n (places child cuts) (place (Group child keys aggs) cuts) (smaller_places child cuts n (less_child (node_count child) n less)) less
smaller_places (Order child keys) cuts n less = with_root n (places child cuts) (place (Order child keys) cuts) (smaller_places child cuts n (less_child (node_count child) n less)) less
smaller_places (Join left right on) cuts n less =
    all-append (IsSmaller n) (places left (lefts left cuts)) _ (smaller_places left (lefts left cuts) n (less_left (node_count left) (node_count right) n less))
    (with_root n (places right (rights left cuts)) (place (Join left right on) cuts) (smaller_places right (rights left cuts) n (less_right (node_count left) (node_count right) n less)) less)
smaller_places (Concat left right) cuts n less =
    all-append (IsSmaller n) (places left (lefts left cuts)) _ (smaller_places left (lefts left cuts) n (less_left (node_count left) (node_count right) n less))
    (with_root n (places right (rights left cuts)) (place (Concat left right) cuts) (smaller_places right (rights left cuts) n (less_right (node_count left) (node_count right) n less)) less)

smaller_below : (plan : PlainPlan) (cuts : Cuts) → AllByRecursion (IsSmaller (node_count plan)) (places_below plan cuts)
smaller_below (Scan stream) cuts = tt
smaller_below (Filter child test) cuts = smaller_places child cuts (1 + node_count child) (omega arith)
smaller_below (Project child columns) cuts = smaller_places child cuts (1 + node_count child) (omega arith)
smaller_below (Distinct child) cuts = smaller_places child cuts (1 + node_count child) (omega arith)
smaller_below (Group child keys aggs) cuts = smaller_places child cuts (1 + node_count child) (omega arith)
smaller_below (Order child keys) cuts = smaller_places child cuts (1 + node_count child) (omega arith)
smaller_below (Join left right on) cuts =
    let n : ℕ = 1 + node_count left + node_count right in
    all-append (IsSmaller n) (places left (lefts left cuts)) _ (smaller_places left (lefts left cuts) n (omega arith)) (smaller_places right (rights left cuts) n (omega arith))
smaller_below (Concat left right) cuts =
    let n : ℕ = 1 + node_count left + node_count right in
    all-append (IsSmaller n) (places left (lefts left cuts)) _ (smaller_places left (lefts left cuts) n (omega arith)) (smaller_places right (rights left cuts) n (omega arith))

-- ---- which places count

also_at_root : (plan : PlainPlan) → IsTrue (counts_below plan) → IsTrue (counts_at_root plan)
also_at_root (Scan stream) is = is
also_at_root _ is = refl

counts_as_root : (root at : Place) → Counts root at → root ≡ at → IsTrue (counts_at_root root.plan)
counts_as_root root at (inl is) same = is.1
counts_as_root root at (inr is) same = also_at_root root.plan (subst (λ (p : Place). IsTrue (counts_below p.plan)) (sym same) is)

counts_below_root : (root at p : Place) → Counts root at → IsSmaller (node_count root.plan) p → p ≡ at → IsTrue (counts_below p.plan)
counts_below_root root at p (inl is) less same =
    let all : node_count p.plan ≡ node_count root.plan = ap (λ (q : Place). node_count q.plan) (same ∙ is.0) in absurd (omega (arith, less, all))
counts_below_root root at p (inr is) less same = subst (λ (q : Place). IsTrue (counts_below q.plan)) (sym same) is

-- ---- a tree of the place's own cut is found

or_right : (a b : Bool) → IsTrue b → IsTrue (a || b)
or_right true b is = refl
or_right false b is = is

own_found : (at : Place) (trees : List PlainRewriting) (tree : PlainRewriting) → Contains trees tree → cuts_at tree ≡ at.cuts → IsTrue (list_any (is_made_at at) trees)
own_found at [] tree has own = absurd (Contains-none tree has)
own_found at (first ∷ trees) tree has own = elim (Contains-cons_cases first trees tree has) [
  | inl same ↦ ap (λ (made : Bool). made || list_any (is_made_at at) trees) ((pointwise_decides cut_decides (cuts_at first) at.cuts).1 (ap cuts_at same ∙ own))
  | inr behind ↦ or_right (is_made_at at first) (list_any (is_made_at at) trees) (own_found at trees tree behind own)
]

-- ---- the places that are made

if_first : (counts own : Bool) (at : Place) (others : List Place) → IsTrue counts → IsTrue own → Contains (cond (counts && own) (at ∷ others) others) at
if_first true true at others is also = Contains-first at others
if_first true false at others is also = absurd (never also)
if_first false own at others is also = absurd (never is)

if_behind : (counts own : Bool) (at : Place) (others : List Place) (q : Place) → Contains others q → Contains (cond (counts && own) (at ∷ others) others) q
if_behind true true at others q has = Contains-behind at others q has
if_behind true false at others q has = has
if_behind false own at others q has = has

first_is_made : (counts : Bool) (p at : Place) (x trees : List PlainRewriting) (others : List Place) → IsTrue counts → IsTrue (list_any (is_made_at at) trees) → p ≡ at → x ≡ trees
    → Contains (if_made counts p x others) at
first_is_made counts p at x trees others is own same of =
    subst (Contains (if_made counts p x others)) same (if_first counts (list_any (is_made_at p) x) p others is ((λ i. list_any (is_made_at (same i)) (of i)) ∙ own))

module _ (root at : Place) (trees : List PlainRewriting) (counts : Counts root at) (own : IsTrue (list_any (is_made_at at) trees)) where
  among_made : (ps : List Place) (xs : Standing) → Covers (ps ++ root ∷ []) xs → AllByRecursion (IsSmaller (node_count root.plan)) ps → Contains (zip (ps ++ root ∷ []) xs) (at, trees)
      → Contains (made_from (ps ++ root ∷ []) xs) at
  among_made [] [] covers smaller has = absurd covers
  among_made [] (x ∷ y ∷ ys) covers smaller has = absurd covers
  among_made [] (x ∷ []) covers smaller has = elim (Contains-cons_cases (root, x) [] (at, trees) has) [
    | inl first ↦ let same = ap (λ pair. pair.0) first in first_is_made (counts_at_root root.plan) root at x trees [] (counts_as_root root at counts same) own same (ap (λ pair. pair.1) first)
    | inr behind ↦ absurd (Contains-none (at, trees) behind)
  ]
  among_made (p ∷ ps) [] covers smaller has = absurd covers
  among_made (p ∷ []) (x ∷ xs) covers smaller has =
      let others : List Place = made_from (root ∷ []) xs in
      elim (Contains-cons_cases (p, x) (zip (root ∷ []) xs) (at, trees) has) [
        | inl first ↦ let same = ap (λ pair. pair.0) first in first_is_made (counts_below p.plan) p at x trees others (counts_below_root root at p counts smaller.0 same) own same (ap (λ pair. pair.1) first)
        | inr behind ↦ if_behind (counts_below p.plan) (list_any (is_made_at p) x) p others at (among_made [] xs covers tt behind)
      ]
  among_made (p ∷ q ∷ ps) (x ∷ xs) covers smaller has =
      let others : List Place = made_from (q ∷ (ps ++ root ∷ [])) xs in
      elim (Contains-cons_cases (p, x) (zip (q ∷ (ps ++ root ∷ [])) xs) (at, trees) has) [
        | inl first ↦ let same = ap (λ pair. pair.0) first in first_is_made (counts_below p.plan) p at x trees others (counts_below_root root at p counts smaller.0 same) own same (ap (λ pair. pair.1) first)
        | inr behind ↦ if_behind (counts_below p.plan) (list_any (is_made_at p) x) p others at (among_made (q ∷ ps) xs covers smaller.1 behind)
      ]

covers_plan : (plan : PlainPlan) (cuts : Cuts) (r : PlainRewriting) → IsRewriting whichever plan cuts r → Covers (places plan cuts) (standing_of r)
covers_plan plan cuts (Node p c way) is =
    let r : PlainRewriting = Node p c way in
    subst (λ q. Covers (places q cuts) (standing_of r)) is.0 (tree_covers r cuts (cuts, subst (λ q. IsRewriting whichever q cuts r) (sym is.0) is))

pub own_trees_are_made : (plan : PlainPlan) (cuts : Cuts) (r : PlainRewriting) (at : Place) → IsRewriting whichever plan cuts r → Counts (place plan cuts) at → HasOwnTree plan cuts r at
    → Contains (made_places plan cuts r) at
own_trees_are_made plan cuts r at is counts has =
    let below : List Place = places_below plan cuts in
    let root : Place = place plan cuts in
    let xs : Standing = standing_of r in
    let split : places plan cuts ≡ below ++ root ∷ [] = places_are plan cuts in
    let own = own_found at has.trees has.tree has.stands has.own in
    let covers : Covers (below ++ root ∷ []) xs = subst (λ (ps : List Place). Covers ps xs) split (covers_plan plan cuts r is) in
    let there : Contains (zip (below ++ root ∷ []) xs) (at, has.trees) = subst (λ (ps : List Place). Contains (zip ps xs) (at, has.trees)) split has.there in
    subst (λ (ps : List Place). Contains (made_from ps xs) at) (sym split) (among_made root at has.trees counts own below xs covers (smaller_below plan cuts) there)
