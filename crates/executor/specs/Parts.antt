-- The parts of rewritings and deltas, and the pieces that they are read in.
use Rattle.std.specs.Prelude.{List, [], ◌++◌}
use Rattle.plan_core.specs.PlainPlan.{PlainPlan}
use Rattle.estimator.specs.Cuts.{Cuts}
use Rattle.rewrite_core.specs.IsRewriting.{IsRewriting, IsDelta, whichever}
use Rattle.rewrite_core.specs.PlainRewriting.{PlainRewriting, PlainWay, Tail, LeftGrew, RightGrew, BothGrew, PlainDelta, Change}
use Rattle.growth_laws.specs.Parts.{plan_at, cuts_at}
use Rattle.growth_laws.specs.Pieces.{Piece, pieces_of, pieces_of_delta}

abbrev pub delta_plan : PlainDelta → PlainPlan
delta_plan (Change plan old new way) = plan

abbrev pub old_cuts : PlainDelta → Cuts
old_cuts (Change plan old new way) = old

abbrev pub new_cuts : PlainDelta → Cuts
new_cuts (Change plan old new way) = new

-- it is a rewriting of its own plan at its own cut
abbrev pub IsFormed : PlainRewriting → Type 0
IsFormed r = IsRewriting whichever (plan_at r) (cuts_at r) r

abbrev pub IsFormedDelta : PlainDelta → Type 0
IsFormedDelta d = IsDelta whichever (delta_plan d) (old_cuts d) (new_cuts d) d

-- those of a grown result behind its earlier one
abbrev pub pieces_behind : PlainWay → List Piece
pieces_behind (Tail hit d) = pieces_of_delta d
pieces_behind (LeftGrew hit d r) = pieces_of_delta d ++ pieces_of r
pieces_behind (RightGrew hit l d) = pieces_of l ++ pieces_of_delta d
pieces_behind (BothGrew hit l rd ld r) = pieces_of l ++ pieces_of_delta rd ++ pieces_of_delta ld ++ pieces_of r
pieces_behind _ = []
