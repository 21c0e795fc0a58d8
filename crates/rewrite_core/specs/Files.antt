-- The files that a rewriting names, in the order in which they are read: the parts of a grown result in the order in
-- which they stand in the tree, a left input before a right one, and extents ascending. The order is this project's own.
use Rattle.std.specs.Prelude.{◌↔◌, ℕ, zero, suc, ◌+◌, ◌-◌, List, [], ◌∷◌, ◌++◌, Contains}
use Rattle.std.specs.List.Sorted.{IsStrictlyIncreasing}
use Rattle.plan_core.specs.PlainPlan.{PlainPlan}
use Rattle.plan_core.specs.PlainPlan as plan
use Rattle.estimator.specs.Cuts.{Cuts}
use Rattle.rewrite_core.specs.PlainRewriting.{PlainRewriting, Node, PlainWay, Scan, One, Two, Read, Tail, LeftGrew, RightGrew, BothGrew, PlainDelta, Change, PlainDeltaWay, Unchanged, NewRows, OfChild, OfDistinct, OfJoin}

-- the file of a stream's extent, or of a kept result
pub data FileName : Type 0 where
  Extent : ℕ → ℕ → FileName
  Result : ℕ → FileName

-- so many extents of a stream, from this one on
abbrev pub extents_from : ℕ → ℕ → ℕ → List FileName
extents_from stream number zero = []
extents_from stream number (suc count) = Extent stream number ∷ extents_from stream (number + 1) count

-- the extents of a scan
abbrev pub scan_files : PlainPlan → Cuts → List FileName
scan_files (plan.Scan stream) (cut ∷ []) = extents_from stream cut.from (cut.to - cut.from)
scan_files _ _ = []

-- the extents that a scan has at the new cut behind the old one
abbrev pub new_files : PlainPlan → Cuts → Cuts → List FileName
new_files (plan.Scan stream) (old ∷ []) (new ∷ []) = extents_from stream old.to (new.to - old.to)
new_files _ _ _ = []

abbrev mutual
  pub files_of : PlainRewriting → List FileName
  files_of (Node p c way) = way_files p c way

  pub way_files : PlainPlan → Cuts → PlainWay → List FileName
  way_files p c Scan = scan_files p c
  way_files p c (One r) = files_of r
  way_files p c (Two l r) = files_of l ++ files_of r
  way_files p c (Read hit) = Result hit.id ∷ []
  way_files p c (Tail hit d) = Result hit.id ∷ delta_files d
  way_files p c (LeftGrew hit d r) = Result hit.id ∷ (delta_files d ++ files_of r)
  way_files p c (RightGrew hit l d) = Result hit.id ∷ (files_of l ++ delta_files d)
  way_files p c (BothGrew hit l rd ld r) = Result hit.id ∷ (files_of l ++ delta_files rd ++ delta_files ld ++ files_of r)

  pub delta_files : PlainDelta → List FileName
  delta_files (Change p old new way) = delta_way_files p old new way

  pub delta_way_files : PlainPlan → Cuts → Cuts → PlainDeltaWay → List FileName
  delta_way_files p old new Unchanged = []
  delta_way_files p old new NewRows = new_files p old new
  delta_way_files p old new (OfChild d) = delta_files d
  delta_way_files p old new (OfDistinct r d) = files_of r ++ delta_files d
  delta_way_files p old new (OfJoin d r) = delta_files d ++ files_of r

-- the ids of the kept results among the files
abbrev pub ids_in : List FileName → List ℕ
ids_in [] = []
ids_in (Extent stream number ∷ files) = ids_in files
ids_in (Result id ∷ files) = id ∷ ids_in files

-- these are the ids that a rewriting names, ascending, each once
pub record AreIdsOf (files : List FileName) (ids : List ℕ) : Type 0 where
  pub ascend : IsStrictlyIncreasing ids
  pub named : (id : ℕ) → Contains ids id ↔ Contains (ids_in files) id
