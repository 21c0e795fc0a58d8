-- What is kept at one place more, and what is found among one result more.
use Rattle.std.proofs.Common.{◌≡◌, refl, sym, ap, ◌∙◌, subst, ℕ, ◌+◌, ◌-◌, ◌<◌, ◌≤◌, min, inl, inr, List, [], ◌∷◌, ◌++◌, Option, Some, None, map, length, take, drop, get_or, arith}
use Rattle.std.proofs.Math.Seq.{take-length}
use Rattle.std.specs.List.{AllByRecursion, Contains}
use Rattle.std.proofs.lemmas.List.Elements.{All-contains, All-from_recursion, Contains-append_cases}
use Rattle.row_blob.specs.Kept.{AreEach}
use Rattle.plan_core.specs.PlainPlan.{PlainPlan, plan_of}
use Rattle.plan_laws.proofs.ValidPlans.{all-append}
use Rattle.estimator.specs.Cuts.{Cuts}
use Rattle.rewrite_core.proofs.Looking.{Contains-first, Contains-behind}
use Rattle.growth_laws.specs.MadePlaces.{Place, place}
use Rattle.made_places.specs.Picking.{place_of, places_said}
use Rattle.made_places.specs.declared.place.Place as code
use Rattle.result_ops.specs.Bounds.{limit}
use Rattle.executor.specs.declared.recording.MadePlace.{MadePlace}
use Rattle.executor.specs.Outcomes.{IsMadeAt, IsAnyMadeAt, FindsAt, KeepsAt, KeepEach, PutsKept, IsKeptFrom}
use Rattle.executor.specs.declared.outcome.KeptPlace.{KeptPlace}
use Rattle.executor.proofs.Joined.{each_more}

pub finds_more : (m : MadePlace) (mades : List MadePlace) (at : Place) (found : Option MadePlace) → (IsMadeAt at m → ⊥) → FindsAt mades at found → FindsAt (m ∷ mades) at found
finds_more m mades at (Some made) not is = (Contains-behind m mades made is.0, is.1)
finds_more m mades at None not is = λ (made : MadePlace) (among : Contains (m ∷ mades) made) (made_at : IsMadeAt at made).
    elim (Contains-append_cases (m ∷ []) mades made among) [
      | inl first ↦
          let same : made ≡ m = All-contains (λ (x : MadePlace). x ≡ m) (m ∷ []) made (All-from_recursion (λ (x : MadePlace). x ≡ m) (m ∷ []) (refl, tt)) first in
          not (subst (λ (x : MadePlace). IsMadeAt at x) same made_at)
      | inr other ↦ is made other made_at
    ]

-- the first one isn't it
pub finds_behind : (mades : List MadePlace) (m : MadePlace) (at : Place) (found : Option MadePlace) → 1 ≤ length mades → m ≡ get_or mades 0 m → (IsMadeAt at m → ⊥)
    → FindsAt (take (length mades - 1) (drop 1 mades)) at found → FindsAt mades at found
finds_behind [] m at found some is not finds = absurd (omega (arith, some))
finds_behind (x ∷ mades) m at found some is not finds =
    let count : length (x ∷ mades) - 1 ≡ length mades = omega arith in
    let rest : take (length (x ∷ mades) - 1) mades ≡ mades = ap (λ n. take n mades) count ∙ take-length mades in
    finds_more x mades at found (λ (made_at : IsMadeAt at x). not (subst (λ (y : MadePlace). IsMadeAt at y) (sym is) made_at)) (subst (λ (l : List MadePlace). FindsAt l at found) rest finds)

module _ (mades : List MadePlace) where
  split_said : (ps : List code.Place) (p : code.Place) → AllByRecursion (IsAnyMadeAt mades) (places_said (ps ++ p ∷ [])) → AllByRecursion (IsAnyMadeAt mades) (places_said ps) × IsAnyMadeAt mades (place_of p)
  split_said [] p all = (tt, all.0)
  split_said (q ∷ ps) p all = let rest = split_said ps p all.1 in ((all.0, rest.0), rest.1)

  pub keep_more : (ps : List code.Place) (p : code.Place) (before after : List KeptPlace) → KeepEach mades (places_said ps) before → PutsKept mades (place_of p) before after
      → KeepEach mades (places_said (ps ++ p ∷ [])) after
  keep_more ps p before after keep puts = λ (all : AllByRecursion (IsAnyMadeAt mades) (places_said (ps ++ p ∷ []))).
      let parts = split_said ps p all in
      elim puts [
        | inl put ↦
            subst (λ (kept : List KeptPlace). AreEach (KeepsAt mades) (places_said (ps ++ p ∷ [])) kept) (sym put.1)
            (each_more place_of (KeepsAt mades) ps before p put.0 (keep parts.0) put.2)
        | inr none ↦ absurd (none.1 parts.1)
      ]

  -- ---- what is kept is of these places

  has_time : (machine taken : ℕ) → machine ≡ min (taken + 1) limit → 0 < machine
  has_time machine taken is = omega (arith, is)

  within_limit : (machine taken : ℕ) → machine ≡ min (taken + 1) limit → machine ≤ limit
  within_limit machine taken is = omega (arith, is)

  kept_from : (places : List Place) (at : Place) (kept : KeptPlace) → Contains places at → KeepsAt mades at kept → IsKeptFrom places kept
  kept_from places at kept among keeps =
      let is = keeps.3 in
      let of_plan : Contains places (place (plan_of kept.plan) at.cuts) = subst (λ (p : PlainPlan). Contains places (place p at.cuts)) (sym is.plan) among in (
        subst (λ (c : Cuts). Contains places (place (plan_of kept.plan) c)) (sym is.cuts) of_plan,
        has_time kept.machine keeps.0.made.taken_in is.machine,
        within_limit kept.machine keeps.0.made.taken_in is.machine,
      )

  -- it was one of the places
  pub said_among : (before : List code.Place) (p : code.Place) (rest all : List code.Place) → before ++ p ∷ rest ≡ all → Contains (places_said all) (place_of p)
  said_among before p rest all whole = subst (λ (l : List code.Place). Contains (places_said l) (place_of p)) whole (among before)
    where
      among : (qs : List code.Place) → Contains (places_said (qs ++ p ∷ rest)) (place_of p)
      among [] = Contains-first (place_of p) (places_said rest)
      among (q ∷ qs) = Contains-behind (place_of q) (places_said (qs ++ p ∷ rest)) (place_of p) (among qs)

  pub from_more : (places : List Place) (at : Place) (before after : List KeptPlace) → Contains places at → AllByRecursion (IsKeptFrom places) before → PutsKept mades at before after
      → AllByRecursion (IsKeptFrom places) after
  from_more places at before after among so_far puts = elim puts [
    | inl put ↦
        subst (AllByRecursion (IsKeptFrom places)) (sym put.1)
        (all-append (IsKeptFrom places) before (put.0 ∷ []) so_far (kept_from places at put.0 among put.2, tt))
    | inr none ↦ subst (AllByRecursion (IsKeptFrom places)) (sym none.0) so_far
  ]
