-- Worked rewritings that grow: which they are, and that a window that begins elsewhere isn't grown into.
use Rattle.std.proofs.Common.{◌≡◌, ◌≢◌, inl, inr, ◌<◌, [], ◌∷◌, refl, sym, ap, ◌∙◌, subst, arith, None}
use Rattle.plan_core.specs.PlainPlan.{PlainPlan}
use Rattle.estimator.specs.Cuts.{Cuts, AreIntervals, AreAtOrBefore, reach}
use Rattle.rewrite_core.specs.declared.rewriting.Hit.{Hit}
use Rattle.rewrite_core.specs.Entries.{entry_of, IsEarlier}
use Rattle.rewrite_core.specs.IsRewriting.{Naming, IsRewriting, IsWay, IsDelta, IsLonger, among, whichever}
use Rattle.rewrite_core.specs.PlainRewriting.{Tail, PlainDelta, Change, Unchanged, NewRows, OfChild, OfDistinct, OfJoin}
use Rattle.rewrite_core.specs.Examples.{scan, times_ten, self_join, up_to, old_cuts, new_cuts, scan_delta, project_delta, grown, window, kept_at, only_at, grown_from}
use Rattle.rewrite_core.proofs.Looking.{best_first, no_best, Contains-cons_cases, Contains-none}

-- cuts that reach differently far differ
pub apart : (old new : Cuts) → reach old < reach new → old ≢ new
apart old new further same = let e = ap reach same in absurd (omega (arith, further, e))

-- ---- a join of which both inputs grew

scan_grew : IsDelta whichever scan (up_to 1 ∷ []) (up_to 2 ∷ []) scan_delta
scan_grew = (refl, refl, refl, (tt, (refl, omega arith)))

project_grew : IsDelta whichever times_ten (up_to 1 ∷ []) (up_to 2 ∷ []) project_delta
project_grew = (refl, refl, refl, (apart (up_to 1 ∷ []) (up_to 2 ∷ []) (omega arith), scan_grew))

pub grown_is : IsRewriting whichever self_join new_cuts grown
grown_is =
    let input : (up_to 1 ∷ []) ≢ (up_to 2 ∷ []) = apart (up_to 1 ∷ []) (up_to 2 ∷ []) (omega arith) in
    let earlier : (old_cuts ≢ new_cuts) × AreIntervals old_cuts = (apart old_cuts new_cuts (omega arith), (omega arith, (omega arith, tt))) in
    (refl, refl, (earlier, (input, input, (refl, refl, tt), project_grew, scan_grew, (refl, refl, (refl, refl, tt)))))

-- ---- windows

-- the one entry that is kept is the earlier one
earlier_of_one : (plan : PlainPlan) (cuts : Cuts) (hit : Hit) → hit.cuts ≢ cuts → AreAtOrBefore hit.cuts cuts → IsEarlier (entry_of plan hit ∷ []) plan cuts hit
earlier_of_one plan cuts hit other before = best_first (entry_of plan hit) [] plan cuts None hit (refl, other, before) tt refl (no_best plan cuts)

-- from the same beginning, though it isn't the first extent
pub window_is_earlier : IsEarlier (only_at (window 1 2)) times_ten (window 1 3) (kept_at (window 1 2))
window_is_earlier = earlier_of_one times_ten (window 1 3) (kept_at (window 1 2)) (apart (window 1 2) (window 1 3) (omega arith)) (omega arith, omega arith, tt)

pub window_is_grown : IsRewriting (among (only_at (window 1 2))) times_ten (window 1 3) (grown_from (window 1 2))
window_is_grown = (refl, refl, (window_is_earlier, (refl, refl, refl, (tt, (refl, omega arith)))))

-- from another beginning: the entry is the earlier one, and yet nothing grows from it
pub moved_is_earlier : IsEarlier (only_at (window 0 2)) times_ten (window 1 3) (kept_at (window 0 2))
moved_is_earlier = earlier_of_one times_ten (window 1 3) (kept_at (window 0 2)) (apart (window 0 2) (window 1 3) (omega arith)) (omega arith, omega arith, tt)

pub no_delta_of_moved : (names : Naming) (d : PlainDelta) (old : Cuts) → old ≡ window 0 2 → IsDelta names scan old (window 1 3) d → ⊥
no_delta_of_moved names (Change p o n Unchanged) old at is = apart (window 0 2) (window 1 3) (omega arith) (sym at ∙ is.3)
no_delta_of_moved names (Change p o n NewRows) old at is =
    let longer : IsLonger (window 0 2) (window 1 3) = subst (λ cuts. IsLonger cuts (window 1 3)) at is.3.1 in absurd (omega (arith, longer.0))
no_delta_of_moved names (Change p o n (OfChild d)) old at is = absurd is.3.1
no_delta_of_moved names (Change p o n (OfDistinct r d)) old at is = absurd is.3.2
no_delta_of_moved names (Change p o n (OfJoin d r)) old at is = absurd is.3.1

pub moved_isnt_grown : (hit : Hit) (d : PlainDelta) → IsWay (among (only_at (window 0 2))) times_ten (window 1 3) (Tail hit d) → ⊥
moved_isnt_grown hit d is = no_delta_of_moved (among (only_at (window 0 2))) d hit.cuts cuts_are is.1
  where
    cuts_are : hit.cuts ≡ window 0 2
    cuts_are = elim (Contains-cons_cases (entry_of times_ten (kept_at (window 0 2))) [] (entry_of times_ten hit) is.0.candidate.kept) [
      | inl first ↦ sym (ap (λ entry. entry.cuts) first)
      | inr behind ↦ absurd (Contains-none _ behind)
    ]
