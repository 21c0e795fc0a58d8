-- Over sound results: what was made below a rewriting is what is kept of results, and at each made place something was made.
use Rattle.std.proofs.Common.{◌≡◌, refl, sym, ap, ◌∙◌, subst, ℕ, ◌+◌, ◌≤◌, ◌⊎◌, inl, inr, Bool, true, false, cond, ◌&&◌, min, List, [], ◌∷◌, ◌++◌, Ok, Result, arith}
use Rattle.std.specs.List.{AllByRecursion, Contains, list_any}
use Rattle.std.proofs.lemmas.List.Elements.{All-from_recursion, All-contains, Contains-append_cases, Contains-append_left, Contains-append_right}
use Rattle.row_blob.specs.declared.kept.Kept.{Kept}
use Rattle.row_blob.specs.Kept.{AreEach}
use Rattle.plan_core.specs.Columns.{Rows}
use Rattle.plan_core.specs.MachineTime.{machine_time}
use Rattle.plan_core.specs.PlainPlan.{PlainPlan, plan_of}
use Rattle.plan_core.specs.PlainPlan as plan
use Rattle.estimator.specs.Cuts.{Cuts}
use Rattle.rewrite_core.specs.IsRewriting.{lefts, rights}
use Rattle.rewrite_core.specs.PlainRewriting.{PlainRewriting, Node}
use Rattle.rewrite_core.proofs.Looking.{Contains-first, Contains-behind}
use Rattle.growth_laws.specs.Growth.{IsMade}
use Rattle.growth_laws.specs.KeptResults.{KeptResults}
use Rattle.growth_laws.specs.Lists.{Extents, plan_lists}
use Rattle.growth_laws.specs.MadePlaces.{Place, place, places, Standing, standing_of, is_made_at, counts_below, counts_at_root, if_made, made_from, made_places}
use Rattle.growth_laws.specs.Parts.{plan_at, cuts_at, parts_of, IsOwn}
use Rattle.growth_laws.specs.Trees.{made_by}
use Rattle.result_ops.specs.Bounds.{limit}
use Rattle.result_ops.specs.Steps.{made_of}
use Rattle.result_ops.specs.declared.made.Made.{Made}
use Rattle.executor.specs.Recording.{is_recorded, if_recorded, recorded_of, recorded_below, AreMade, IsAmong, IsFoundBelow}
use Rattle.executor.specs.declared.recording.MadePlace.{MadePlace}
use Rattle.executor.proofs.RecordedParts.{all_below}
use Rattle.executor.specs.Outcomes.{IsMadeAt, IsAnyMadeAt, IsResultAt, IsKeptOf, KeepsAt, IsKeptAt}
use Rattle.executor.specs.declared.outcome.KeptPlace.{KeptPlace}

-- ---- a made place counts below a root, or is the root

abbrev CountsOr : Place → Place → Type 0
CountsOr root at = (counts_below at.plan ≡ true) ⊎ (at ≡ root)

first_true : (a b : Bool) → (a && b) ≡ true → a ≡ true
first_true true b is = refl
first_true false b is = is

chosen : (root at : Place) (counts : Bool) (trees : List PlainRewriting) (others : List Place) → (counts ≡ true → CountsOr root at) → AllByRecursion (CountsOr root) others
    → AllByRecursion (CountsOr root) (if_made counts at trees others)
chosen root at counts trees others gives rest = both (counts && list_any (is_made_at at) trees) (λ is. gives (first_true counts (list_any (is_made_at at) trees) is))
  where
    both : (b : Bool) → (b ≡ true → CountsOr root at) → AllByRecursion (CountsOr root) (cond b (at ∷ others) others)
    both true is = (is refl, rest)
    both false is = rest

from_places : (root : Place) (before : List Place) (standing : Standing) → AllByRecursion (CountsOr root) (made_from (before ++ root ∷ []) standing)
from_places root [] [] = tt
from_places root [] (trees ∷ []) = chosen root root (counts_at_root root.plan) trees [] (λ is. inr refl) tt
from_places root [] (trees ∷ more ∷ standing) = tt
from_places root (at ∷ []) [] = tt
from_places root (at ∷ []) (trees ∷ standing) = chosen root at (counts_below at.plan) trees (made_from (root ∷ []) standing) (λ is. inl is) (from_places root [] standing)
from_places root (at ∷ next ∷ before) [] = tt
from_places root (at ∷ next ∷ before) (trees ∷ standing) =
    chosen root at (counts_below at.plan) trees (made_from ((next ∷ before) ++ root ∷ []) standing) (λ is. inl is) (from_places root (next ∷ before) standing)

abbrev EndsIn : Place → List Place → Type 0
EndsIn root all = (before : List Place) × (all ≡ before ++ root ∷ [])

after_two : (xs ys : List Place) (root : Place) → EndsIn root (xs ++ (ys ++ root ∷ []))
after_two [] ys root = (ys, refl)
after_two (x ∷ xs) ys root = let rest = after_two xs ys root in (x ∷ rest.0, ap (λ (l : List Place). x ∷ l) rest.1)

root_last : (p : PlainPlan) (c : Cuts) → EndsIn (place p c) (places p c)
root_last (plan.Scan stream) c = ([], refl)
root_last (plan.Filter child test) c = (places child c, refl)
root_last (plan.Project child columns) c = (places child c, refl)
root_last (plan.Distinct child) c = (places child c, refl)
root_last (plan.Group child keys aggs) c = (places child c, refl)
root_last (plan.Join left right on) c = after_two (places left (lefts left c)) (places right (rights left c)) (place (plan.Join left right on) c)
root_last (plan.Concat left right) c = after_two (places left (lefts left c)) (places right (rights left c)) (place (plan.Concat left right) c)
root_last (plan.Order child keys) c = (places child c, refl)

counted : (p : PlainPlan) (c : Cuts) (r : PlainRewriting) → AllByRecursion (CountsOr (place p c)) (made_places p c r)
counted p c r =
    let last = root_last p c in
    subst (λ (all : List Place). AllByRecursion (CountsOr (place p c)) (made_from all (standing_of r))) (sym last.1) (from_places (place p c) last.0 (standing_of r))

-- ---- one was made there

module _ (extents : Extents) (results : KeptResults) where
  abbrev IsOfTree : List MadePlace → PlainRewriting → Type 0
  IsOfTree found tree = (made : MadePlace) × Contains found made × (plan_of made.plan ≡ plan_at tree) × (made.cuts ≡ cuts_at tree)

  more_found : (m : MadePlace) (found : List MadePlace) (trees : List PlainRewriting) → AllByRecursion (IsOfTree found) trees → AllByRecursion (IsOfTree (m ∷ found)) trees
  more_found m found [] all = tt
  more_found m found (tree ∷ trees) all = ((all.0.0, Contains-behind m found all.0.0 all.0.1, all.0.2, all.0.3), more_found m found trees all.1)

  of_tree : (trees : List PlainRewriting) (found : List MadePlace) → AreMade extents results trees found
      → AllByRecursion (IsOfTree found) trees
  of_tree [] [] are = tt
  of_tree [] (m ∷ found) are = absurd are
  of_tree (tree ∷ trees) [] are = absurd are
  of_tree (tree ∷ trees) (m ∷ found) are = ((m, Contains-first m found, are.0.0, are.0.1), more_found m found trees (of_tree trees found are.1))

  module _ (p : PlainPlan) (c : Cuts) (own : MadePlace) (found : List MadePlace) (here : IsMadeAt (place p c) own) where
    module _ (r : PlainRewriting) (of_plan : plan_at r ≡ p) (of_cuts : cuts_at r ≡ c) (are : AreMade extents results (recorded_below r) found) where
      below : (at : Place) (tree : PlainRewriting) → Contains (recorded_below r) tree → plan_at tree ≡ at.plan → cuts_at tree ≡ at.cuts → IsAnyMadeAt (own ∷ found) at
      below at tree is of_tree_plan of_tree_cuts =
          let one = All-contains (IsOfTree found) (recorded_below r) tree (All-from_recursion (IsOfTree found) (recorded_below r) (of_tree (recorded_below r) found are)) is in
          (one.0, Contains-behind own found one.0 one.1, (one.2 ∙ of_tree_plan, one.3 ∙ of_tree_cuts))

      at_root : (at : Place) → p ≡ at.plan → c ≡ at.cuts → IsAnyMadeAt (own ∷ found) at
      at_root at same_plan same_cuts = (own, Contains-first own found, (here.0 ∙ same_plan, here.1 ∙ same_cuts))

      itself : (b : Bool) (at : Place) (tree : PlainRewriting) → Contains (if_recorded b r) tree → plan_at tree ≡ at.plan → cuts_at tree ≡ at.cuts → IsAnyMadeAt (own ∷ found) at
      itself true at tree is of_tree_plan of_tree_cuts =
          let same : tree ≡ r = All-contains (λ t. t ≡ r) (r ∷ []) tree (All-from_recursion (λ t. t ≡ r) (r ∷ []) (refl, tt)) is in
          at_root at (sym of_plan ∙ sym (ap plan_at same) ∙ of_tree_plan) (sym of_cuts ∙ sym (ap cuts_at same) ∙ of_tree_cuts)
      itself false at tree is of_tree_plan of_tree_cuts =
          absurd (All-contains (λ t. ⊥) [] tree (All-from_recursion (λ t. ⊥) [] tt) is)

  -- the tree itself or one below it
  pub any_made : (r : PlainRewriting) (own : MadePlace) (found : List MadePlace) → IsMadeAt (place (plan_at r) (cuts_at r)) own → AreMade extents results (recorded_below r) found
      → AllByRecursion (IsFoundBelow (recorded_of r)) (made_places (plan_at r) (cuts_at r) r) → AllByRecursion (IsAnyMadeAt (own ∷ found)) (made_places (plan_at r) (cuts_at r) r)
  any_made (Node p c way) own found here are found_below = all (made_places p c (Node p c way)) (counted p c (Node p c way)) found_below
    where
      one : (at : Place) → CountsOr (place p c) at → IsFoundBelow (recorded_of (Node p c way)) at → IsAnyMadeAt (own ∷ found) at
      one at (inr same) is = at_root p c own found here (Node p c way) refl refl are at (sym (ap (λ (a : Place). a.plan) same)) (sym (ap (λ (a : Place). a.cuts) same))
      one at (inl counts) is =
          let among = is counts in
          elim (Contains-append_cases (recorded_below (Node p c way)) (if_recorded (is_recorded (Node p c way)) (Node p c way)) among.0 among.1) [
            | inl lower ↦ below p c own found here (Node p c way) refl refl are at among.0 lower among.2 among.3
            | inr root ↦ itself p c own found here (Node p c way) refl refl are (is_recorded (Node p c way)) at among.0 root among.2 among.3
          ]

      all : (ats : List Place) → AllByRecursion (CountsOr (place p c)) ats → AllByRecursion (IsFoundBelow (recorded_of (Node p c way))) ats → AllByRecursion (IsAnyMadeAt (own ∷ found)) ats
      all [] counts is = tt
      all (at ∷ ats) counts is = (one at counts.0 is.0, all ats counts.1 is.1)

  -- ---- and each is what is kept of its result

  abbrev Within : PlainRewriting → Type 0
  Within tree = machine_time (plan_at tree) (plan_lists extents (plan_at tree) (cuts_at tree)) ≤ limit

  result_of : (tree : PlainRewriting) (m : MadePlace) → plan_of m.plan ≡ plan_at tree → m.cuts ≡ cuts_at tree → made_by extents results tree ≡ Ok (made_of m.made)
      → IsMade (plan_at tree) (plan_lists extents (plan_at tree) (cuts_at tree)) (made_by extents results tree) → Within tree → IsResultAt extents m
  result_of tree m same_plan same_cuts made is within =
      let of_cuts = subst (λ (c : Cuts). IsMade (plan_at tree) (plan_lists extents (plan_at tree) c) (Ok (made_of m.made)) × (machine_time (plan_at tree) (plan_lists extents (plan_at tree) c) ≤ limit)) (sym same_cuts)
      (subst (IsMade (plan_at tree) (plan_lists extents (plan_at tree) (cuts_at tree))) made is, within) in
      subst (λ (p : PlainPlan). IsMade p (plan_lists extents p m.cuts) (Ok (made_of m.made)) × (machine_time p (plan_lists extents p m.cuts) ≤ limit)) (sym same_plan) of_cuts

  results_below : (trees : List PlainRewriting) (found : List MadePlace) → AreMade extents results trees found → AllByRecursion (IsOwn extents results) trees → AllByRecursion Within trees
      → AllByRecursion (IsResultAt extents) found
  results_below [] [] are own within = tt
  results_below [] (m ∷ found) are own within = absurd are
  results_below (tree ∷ trees) [] are own within = absurd are
  results_below (tree ∷ trees) (m ∷ found) are own within =
      (result_of tree m are.0.0 are.0.1 are.0.2 own.0.made within.0, results_below trees found are.1 own.1 within.1)

  pub all_results : (r : PlainRewriting) (own : MadePlace) (found : List MadePlace) → IsMadeAt (place (plan_at r) (cuts_at r)) own → made_by extents results r ≡ Ok (made_of own.made)
      → IsMade (plan_at r) (plan_lists extents (plan_at r) (cuts_at r)) (made_by extents results r) → AreMade extents results (recorded_below r) found
      → AllByRecursion (IsOwn extents results) (recorded_below r) → AllByRecursion Within (parts_of r) → Within r → AllByRecursion (IsResultAt extents) (own ∷ found)
  all_results r own found here made is are owns within root =
      (result_of r own here.0 here.1 made is root, results_below (recorded_below r) found are owns (all_below Within r within))

-- ---- what is kept of them

kept_at : (extents : Extents) (mades : List MadePlace) (at : Place) (kept : KeptPlace) → AllByRecursion (IsResultAt extents) mades → KeepsAt mades at kept → IsKeptAt extents at kept
kept_at extents mades at kept all keeps =
    let m : MadePlace = keeps.0 in
    let is = keeps.3 in
    let good : IsResultAt extents m = All-contains (IsResultAt extents) mades m (All-from_recursion (IsResultAt extents) mades all) keeps.1 in
    let of_plan = subst (λ (p : PlainPlan). IsMade p (plan_lists extents p m.cuts) (Ok (made_of m.made)) × (machine_time p (plan_lists extents p m.cuts) ≤ limit)) keeps.2.0 good in
    let there = subst (λ (c : Cuts). IsMade at.plan (plan_lists extents at.plan c) (Ok (made_of m.made)) × (machine_time at.plan (plan_lists extents at.plan c) ≤ limit)) keeps.2.1 of_plan in
    record {
      plan = is.plan;
      cuts = is.cuts;
      result = record {
        form = there.0.0 ∙ ap Ok (sym is.form);
        machine = exact kept.machine m.made.taken_in (machine_time at.plan (plan_lists extents at.plan at.cuts)) is.machine (ap (λ n. 1 + n) there.0.1) there.1;
      };
    }
  where
    exact : (machine taken time : ℕ) → machine ≡ min (taken + 1) limit → time ≡ 1 + taken → time ≤ limit → machine ≡ time
    exact machine taken time is made within = omega (arith, is, made, within)

pub kept_each : (extents : Extents) (mades : List MadePlace) (ats : List Place) (kept : List KeptPlace) → AllByRecursion (IsResultAt extents) mades → AreEach (KeepsAt mades) ats kept → AreEach (IsKeptAt extents) ats kept
kept_each extents mades [] [] all each = tt
kept_each extents mades [] (k ∷ kept) all each = absurd each
kept_each extents mades (at ∷ ats) [] all each = absurd each
kept_each extents mades (at ∷ ats) (k ∷ kept) all each = (kept_at extents mades at k all each.0, kept_each extents mades ats kept all each.1)
