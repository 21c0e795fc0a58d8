-- The places that are picked of those that stand behind each other, and those that a rewriting makes.
use Rattle.std.proofs.Common.{◌≡◌, refl, sym, ap, subst, ◌∙◌, Bool, true, false, ◌&&◌, cond, List, [], ◌∷◌, ◌++◌, length, drop}
use Rattle.std.specs.List.{list_any}
use Rattle.std.proofs.lemmas.List.{append_assoc, append-nil, map-append}
use Rattle.plan_core.specs.PlainPlan.{PlainPlan, Scan, Filter, Project, Distinct, Group, Join, Concat, Order}
use Rattle.estimator.specs.Cuts.{Cuts}
use Rattle.rewrite_core.specs.IsRewriting.{lefts, rights}
use Rattle.rewrite_core.specs.PlainRewriting.{PlainRewriting}
use Rattle.growth_laws.specs.MadePlaces.{Place, place, places, Standing, is_made_at, standing_of, counts_below, counts_at_root, if_made, made_from, made_places}
use Rattle.growth_laws.specs.Parts.{plan_at}
use Rattle.made_places.specs.Formed.{IsFormed}
use Rattle.made_places.specs.Marks.{marks}
use Rattle.made_places.specs.Picking.{places_below, if_marked, picked}
use Rattle.made_places.proofs.Covered.{Covers, tree_covers}

-- ---- places behind each other

abbrev no_marks : List Bool
no_marks = []

drop_none : (ps : List Place) → drop (length ps) no_marks ≡ no_marks
drop_none [] = refl
drop_none (p ∷ ps) = refl

pub drop_both : (ps qs : List Place) (ms : List Bool) → drop (length (ps ++ qs)) ms ≡ drop (length qs) (drop (length ps) ms)
drop_both [] qs ms = refl
drop_both (p ∷ ps) qs [] = sym (drop_none qs)
drop_both (p ∷ ps) qs (m ∷ ms) = drop_both ps qs ms

picked_none : (ps : List Place) → picked ps [] ≡ []
picked_none [] = refl
picked_none (p ∷ ps) = refl

pub picked_both : (ps qs : List Place) (ms : List Bool) → picked (ps ++ qs) ms ≡ picked ps ms ++ picked qs (drop (length ps) ms)
picked_both [] qs ms = refl
picked_both (p ∷ ps) qs [] = sym (picked_none qs)
picked_both (p ∷ ps) qs (m ∷ ms) =
    let first : List Place = if_marked (counts_below p.plan) p (m ∷ ms) in
    ap (λ (l : List Place). first ++ l) (picked_both ps qs ms) ∙ sym (append_assoc first (picked ps ms) (picked qs (drop (length ps) ms)))

-- ---- the root behind the places below it

pub places_are : (plan : PlainPlan) (at : Cuts) → places plan at ≡ places_below plan at ++ place plan at ∷ []
places_are (Scan stream) at = refl
places_are (Filter child test) at = refl
places_are (Project child columns) at = refl
places_are (Distinct child) at = refl
places_are (Group child keys aggs) at = refl
places_are (Join left right on) at = sym (append_assoc (places left (lefts left at)) (places right (rights left at)) _)
places_are (Concat left right) at = sym (append_assoc (places left (lefts left at)) (places right (rights left at)) _)
places_are (Order child keys) at = refl

only_picked : (at : Place) (ms : List Bool) → picked (at ∷ []) ms ≡ if_marked (counts_below at.plan) at ms
only_picked at [] = refl
only_picked at (m ∷ ms) = append-nil (if_marked (counts_below at.plan) at (m ∷ ms))

pub tree_picked : (plan : PlainPlan) (at : Cuts) (ms : List Bool)
    → picked (places plan at) ms ≡ picked (places_below plan at) ms ++ if_marked (counts_below plan) (place plan at) (drop (length (places_below plan at)) ms)
tree_picked plan at ms =
    let rest : List Bool = drop (length (places_below plan at)) ms in
    ap (λ (ps : List Place). picked ps ms) (places_are plan at) ∙ picked_both (places_below plan at) (place plan at ∷ []) ms
    ∙ ap (λ (l : List Place). picked (places_below plan at) ms ++ l) (only_picked (place plan at) rest)

pub tree_rest : (plan : PlainPlan) (at : Cuts) (ms : List Bool) → drop (length (places plan at)) ms ≡ drop 1 (drop (length (places_below plan at)) ms)
tree_rest plan at ms = ap (λ (ps : List Place). drop (length ps) ms) (places_are plan at) ∙ drop_both (places_below plan at) (place plan at ∷ []) ms

pub ruleset of_picked = (append_assoc, append-nil, map-append, picked_both, drop_both)

pub ruleset of_trees = (append_assoc, tree_picked, tree_rest)

-- ---- the made places

if_picked : (counts made : Bool) (at : Place) (others : List Place) → cond (counts && made) (at ∷ others) others ≡ cond (counts && made) (at ∷ []) [] ++ others
if_picked true true at others = refl
if_picked true false at others = refl
if_picked false made at others = refl

first_made : (p : Place) (x : List PlainRewriting) (ms : List Bool) (others behind root : List Place) → others ≡ behind ++ root
    → if_made (counts_below p.plan) p x others ≡ (if_marked (counts_below p.plan) p (list_any (is_made_at p) x ∷ ms) ++ behind) ++ root
first_made p x ms others behind root is =
    let first : List Place = if_marked (counts_below p.plan) p (list_any (is_made_at p) x ∷ ms) in
    if_picked (counts_below p.plan) (list_any (is_made_at p) x) p others ∙ ap (λ (l : List Place). first ++ l) is ∙ sym (append_assoc first behind root)

made_with_root : (ps : List Place) (at : Place) (xs : Standing) → Covers (ps ++ at ∷ []) xs
    → made_from (ps ++ at ∷ []) xs ≡ picked ps (marks (ps ++ at ∷ []) xs) ++ if_marked (counts_at_root at.plan) at (drop (length ps) (marks (ps ++ at ∷ []) xs))
made_with_root [] at [] is = absurd is
made_with_root [] at (x ∷ []) is = refl
made_with_root [] at (x ∷ y ∷ ys) is = absurd is
made_with_root (p ∷ ps) at [] is = absurd is
made_with_root (p ∷ []) at (x ∷ xs) is =
    let ms : List Bool = marks (at ∷ []) xs in
    first_made p x ms (made_from (at ∷ []) xs) (picked [] ms) (if_marked (counts_at_root at.plan) at (drop 0 ms)) (made_with_root [] at xs is)
made_with_root (p ∷ q ∷ ps) at (x ∷ xs) is =
    let ms : List Bool = marks (q ∷ (ps ++ at ∷ [])) xs in
    first_made p x ms (made_from (q ∷ (ps ++ at ∷ [])) xs) (picked (q ∷ ps) ms) (if_marked (counts_at_root at.plan) at (drop (length (q ∷ ps)) ms)) (made_with_root (q ∷ ps) at xs is)

pub made_are_picked : (r : PlainRewriting) (cuts : Cuts) (ms : List Bool) → IsFormed r → ms ≡ marks (places (plan_at r) cuts) (standing_of r)
    → picked (places_below (plan_at r) cuts) ms ++ if_marked (counts_at_root (plan_at r)) (place (plan_at r) cuts) (drop (length (places_below (plan_at r) cuts)) ms)
    ≡ made_places (plan_at r) cuts r
made_are_picked r cuts ms is are =
    let below : List Place = places_below (plan_at r) cuts in
    let at : Place = place (plan_at r) cuts in
    let xs : Standing = standing_of r in
    let split : places (plan_at r) cuts ≡ below ++ at ∷ [] = places_are (plan_at r) cuts in
    let same : ms ≡ marks (below ++ at ∷ []) xs = are ∙ ap (λ (ps : List Place). marks ps xs) split in
    let covers : Covers (below ++ at ∷ []) xs = subst (λ (ps : List Place). Covers ps xs) split (tree_covers r cuts is) in
    ap (λ (l : List Bool). picked below l ++ if_marked (counts_at_root at.plan) at (drop (length below) l)) same
    ∙ sym (made_with_root below at xs covers) ∙ ap (λ (ps : List Place). made_from ps xs) (sym split)
