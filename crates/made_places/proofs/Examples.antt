-- Worked rewritings: one that grows from a window with the same beginning is formed, and one that grows from another isn't.
use Rattle.std.proofs.Common.{refl, sym, subst, arith}
use Rattle.estimator.specs.Cuts.{Cuts}
use Rattle.rewrite_core.specs.Examples.{scan, window, grown_from}
use Rattle.rewrite_core.specs.IsRewriting.{IsDelta, whichever}
use Rattle.rewrite_core.specs.PlainRewriting.{PlainDelta, Change, NewRows}
use Rattle.rewrite_core.proofs.Examples.{apart, no_delta_of_moved}
use Rattle.made_places.specs.Formed.{IsFormed}

pub window_is_formed : IsFormed (grown_from (window 1 2))
window_is_formed = (window 1 3, (refl, refl, ((apart (window 1 2) (window 1 3) (omega arith), (omega arith, tt)), (refl, refl, refl, (tt, (refl, omega arith))))))

pub moved_isnt_formed : IsFormed (grown_from (window 0 2)) → ⊥
moved_isnt_formed is =
    let d : PlainDelta = Change scan (window 0 2) (window 1 3) NewRows in
    no_delta_of_moved whichever d (window 0 2) refl (subst (λ (cuts : Cuts). IsDelta whichever scan (window 0 2) cuts d) (sym is.1.1) is.1.2.1)
