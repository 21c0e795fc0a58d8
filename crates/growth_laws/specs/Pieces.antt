-- The pieces that a rewriting is read in: a kept result, or the extents of one stream, whose rows go through the operators
-- over it at once, one extent after another.
use Rattle.std.specs.Prelude.{ℕ, ◌-◌, Bool, true, false, List, [], ◌∷◌, ◌++◌, Result, Ok, if◌then◌else◌}
use Rattle.rows_core.specs.declared.overflow.Overflow.{Overflow}
use Rattle.plan_core.specs.ExpressionValue.{◌>>=◌}
use Rattle.plan_core.specs.PlainPlan.{PlainPlan, leaves}
use Rattle.plan_core.specs.PlainPlan as plan
use Rattle.estimator.specs.Cuts.{Cuts, added_cuts}
use Rattle.rewrite_core.specs.Files.{FileName, Extent, Result as ResultFile, extents_from}
use Rattle.rewrite_core.specs.PlainRewriting.{PlainRewriting, Node, PlainWay, Scan, One, Two, Read, Tail, LeftGrew, RightGrew, BothGrew, PlainDelta, Change, PlainDeltaWay, Unchanged, NewRows, OfChild, OfDistinct, OfJoin}
use Rattle.growth_laws.specs.Growth.{Added, Made, whole_made}
use Rattle.growth_laws.specs.KeptResults.{KeptResults}
use Rattle.growth_laws.specs.Lists.{Extents, plan_lists}
use Rattle.growth_laws.specs.Making.{kept_rows, made_before}

-- the kept result of a plan, by its id; or a plan over the extents of its one stream in this interval
pub data Piece : Type 0 where
  Entry : PlainPlan → ℕ → Piece
  Gathered : PlainPlan → Cuts → Piece

-- a computed scan, with computed filters and projections over it, or none
abbrev pub is_chain_of : PlainRewriting → Bool
is_chain_of (Node plan cuts Scan) = true
is_chain_of (Node (plan.Filter child test) cuts (One r)) = is_chain_of r
is_chain_of (Node (plan.Project child columns) cuts (One r)) = is_chain_of r
is_chain_of _ = false

-- such a one, or a computed grouping or distinct over it
abbrev pub is_gathered : PlainRewriting → Bool
is_gathered (Node (plan.Group child keys aggs) cuts (One r)) = is_chain_of r
is_gathered (Node (plan.Distinct child) cuts (One r)) = is_chain_of r
is_gathered r = is_chain_of r

-- new extents, with filters and projections over them, or none
abbrev pub is_chain_delta : PlainDelta → Bool
is_chain_delta (Change plan old new NewRows) = true
is_chain_delta (Change (plan.Filter child test) old new (OfChild d)) = is_chain_delta d
is_chain_delta (Change (plan.Project child columns) old new (OfChild d)) = is_chain_delta d
is_chain_delta _ = false

abbrev mutual
  pub pieces_of : PlainRewriting → List Piece
  pieces_of (Node p c way) = if is_gathered (Node p c way) then Gathered p c ∷ [] else pieces_in p way

  pub pieces_in : PlainPlan → PlainWay → List Piece
  pieces_in p Scan = []
  pieces_in p (One r) = pieces_of r
  pieces_in p (Two l r) = pieces_of l ++ pieces_of r
  pieces_in p (Read hit) = Entry p hit.id ∷ []
  pieces_in p (Tail hit d) = Entry p hit.id ∷ pieces_of_delta d
  pieces_in p (LeftGrew hit d r) = Entry p hit.id ∷ (pieces_of_delta d ++ pieces_of r)
  pieces_in p (RightGrew hit l d) = Entry p hit.id ∷ (pieces_of l ++ pieces_of_delta d)
  pieces_in p (BothGrew hit l rd ld r) = Entry p hit.id ∷ (pieces_of l ++ pieces_of_delta rd ++ pieces_of_delta ld ++ pieces_of r)

  pub pieces_of_delta : PlainDelta → List Piece
  pieces_of_delta (Change p old new way) =
      if is_chain_delta (Change p old new way) then Gathered p (added_cuts old new) ∷ [] else pieces_in_delta way

  pub pieces_in_delta : PlainDeltaWay → List Piece
  pieces_in_delta Unchanged = []
  pieces_in_delta NewRows = []
  pieces_in_delta (OfChild d) = pieces_of_delta d
  pieces_in_delta (OfDistinct r d) = pieces_of r ++ pieces_of_delta d
  pieces_in_delta (OfJoin d r) = pieces_of_delta d ++ pieces_of r

-- ---- the files of a piece

-- the extents of a plan's one stream in its interval
abbrev pub gathered_files : List ℕ → Cuts → List FileName
gathered_files (stream ∷ []) (cut ∷ []) = extents_from stream cut.from (cut.to - cut.from)
gathered_files _ _ = []

abbrev pub piece_files : Piece → List FileName
piece_files (Entry plan id) = ResultFile id ∷ []
piece_files (Gathered plan cuts) = gathered_files (leaves plan) cuts

-- ---- what is made of a piece

abbrev pub made_of_piece : Extents → KeptResults → Piece → Result Made Overflow
made_of_piece extents results (Entry plan id) = Ok (made_before (results id))
made_of_piece extents results (Gathered plan cuts) = whole_made plan (plan_lists extents plan cuts)

-- what is made of new extents is added
abbrev pub as_added : Result Made Overflow → Result Added Overflow
as_added given = do
  made ← given
  Ok (record { rows = kept_rows made.kept; taken_in = made.taken_in })
