-- Worked rewritings, each with its estimate: the definitions compute them.
use Rattle.std.specs.Prelude.{◌≡◌, refl, ℕ, [], ◌∷◌}
use Rattle.rows_core.specs.declared.cut.Cut.{Cut}
use Rattle.plan_core.specs.PlainPlan.{PlainPlan}
use Rattle.plan_core.specs.PlainPlan as plan
use Rattle.rewrite_core.specs.declared.rewriting.Hit.{Hit}
use Rattle.estimator.specs.Cuts.{Cuts}
use Rattle.estimator.specs.Bytes.{Lengths}
use Rattle.rewrite_core.specs.PlainRewriting.{PlainRewriting, Node, Scan, One, Two, Tail, BothGrew, PlainDelta, Change, NewRows, OfChild}
use Rattle.rewrite_core.specs.Entries.{Entries, entry_of}
use Rattle.rewrite_core.specs.Estimate.{estimate_of}
use Rattle.rewrite_core.specs.IsRewriting.{IsRewriting, whichever}

abbrev pub up_to : ℕ → Cut
up_to n = record { from = 0; to = n }

-- a join whose two inputs are the same stream, which grew: a stream of extents of 64, 32 and 16 bytes
abbrev pub lengths : Lengths
lengths = (64 ∷ 32 ∷ 16 ∷ []) ∷ []

abbrev pub scan : PlainPlan
scan = plan.Scan 0

abbrev pub times_ten : PlainPlan
times_ten = plan.Project scan []

abbrev pub self_join : PlainPlan
self_join = plan.Join scan times_ten ((0, 0) ∷ [])

abbrev pub old_cuts : Cuts
old_cuts = up_to 1 ∷ up_to 1 ∷ []

abbrev pub new_cuts : Cuts
new_cuts = up_to 2 ∷ up_to 2 ∷ []

abbrev hit : Hit
hit = record { id = 1; cuts = old_cuts; len = 48 }

abbrev scanned : ℕ → PlainRewriting
scanned n = Node scan (up_to n ∷ []) Scan

abbrev projected : ℕ → PlainRewriting
projected n = Node times_ten (up_to n ∷ []) (One (scanned n))

abbrev pub scan_delta : PlainDelta
scan_delta = Change scan (up_to 1 ∷ []) (up_to 2 ∷ []) NewRows

abbrev pub project_delta : PlainDelta
project_delta = Change times_ten (up_to 1 ∷ []) (up_to 2 ∷ []) (OfChild scan_delta)

abbrev pub grown : PlainRewriting
grown = Node self_join new_cuts (BothGrew hit (scanned 1) project_delta scan_delta (projected 2))

abbrev computed : PlainRewriting
computed = Node self_join new_cuts (Two (scanned 2) (projected 2))

pub grown_costs : estimate_of lengths grown ≡ 464
grown_costs = refl

pub computed_costs : estimate_of lengths computed ≡ 480
computed_costs = refl

pub computed_is : IsRewriting whichever self_join new_cuts computed
computed_is = (refl, refl, ((refl, refl, tt), (refl, refl, (refl, refl, tt))))

-- ---- windows that don't begin at the first extent: a projection of the second and the third extent

abbrev pub window : ℕ → ℕ → Cuts
window from to = record { from = from; to = to } ∷ []

-- what is kept of it at an earlier window
abbrev pub kept_at : Cuts → Hit
kept_at cuts = record { id = 2; cuts = cuts; len = 24 }

-- and nothing else is kept
abbrev pub only_at : Cuts → Entries
only_at cuts = entry_of times_ten (kept_at cuts) ∷ []

abbrev pub grown_from : Cuts → PlainRewriting
grown_from old = Node times_ten (window 1 3) (Tail (kept_at old) (Change scan old (window 1 3) NewRows))

pub grown_window_costs : estimate_of lengths (grown_from (window 1 2)) ≡ 56
grown_window_costs = refl
