-- What a rewriting is estimated to cost, and the bytes that it reads. The estimate is this project's own.
use Rattle.std.specs.Prelude.{ℕ, ◌+◌, ◌≤◌}
use Rattle.plan_core.specs.PlainPlan.{PlainPlan}
use Rattle.estimator.specs.Cuts.{Cuts}
use Rattle.estimator.specs.Bytes.{Lengths, whole_bytes, new_bytes, capped}
use Rattle.rewrite_core.specs.PlainRewriting.{PlainRewriting, Node, PlainWay, Scan, One, Two, Read, Tail, LeftGrew, RightGrew, BothGrew, PlainDelta, Change, PlainDeltaWay, Unchanged, NewRows, OfChild, OfDistinct, OfJoin}
use Rattle.rewrite_core.specs.Entries.{Entries}
use Rattle.rewrite_core.specs.IsRewriting.{IsRewriting, IsDelta, among}

abbrev mutual
  pub cost : Lengths → PlainRewriting → ℕ
  cost lengths (Node p c way) = way_cost lengths p c way

  pub way_cost : Lengths → PlainPlan → Cuts → PlainWay → ℕ
  way_cost lengths p c Scan = whole_bytes lengths p c
  way_cost lengths p c (One r) = cost lengths r + whole_bytes lengths p c
  way_cost lengths p c (Two l r) = cost lengths l + cost lengths r + whole_bytes lengths p c
  way_cost lengths p c (Read hit) = hit.len
  way_cost lengths p c (Tail hit d) = hit.len + delta_cost lengths d + new_bytes lengths p hit.cuts c
  way_cost lengths p c (LeftGrew hit d r) = hit.len + delta_cost lengths d + cost lengths r + new_bytes lengths p hit.cuts c
  way_cost lengths p c (RightGrew hit l d) = hit.len + cost lengths l + delta_cost lengths d + new_bytes lengths p hit.cuts c
  way_cost lengths p c (BothGrew hit l rd ld r) =
      hit.len + cost lengths l + delta_cost lengths rd + delta_cost lengths ld + cost lengths r + new_bytes lengths p hit.cuts c

  pub delta_cost : Lengths → PlainDelta → ℕ
  delta_cost lengths (Change p old new way) = delta_way_cost lengths p old new way

  pub delta_way_cost : Lengths → PlainPlan → Cuts → Cuts → PlainDeltaWay → ℕ
  delta_way_cost lengths p old new Unchanged = 0
  delta_way_cost lengths p old new NewRows = new_bytes lengths p old new
  delta_way_cost lengths p old new (OfChild d) = delta_cost lengths d + new_bytes lengths p old new
  delta_way_cost lengths p old new (OfDistinct r d) = cost lengths r + delta_cost lengths d + new_bytes lengths p old new
  delta_way_cost lengths p old new (OfJoin d r) = delta_cost lengths d + cost lengths r + new_bytes lengths p old new

abbrev pub estimate_of : Lengths → PlainRewriting → ℕ
estimate_of lengths r = capped (cost lengths r)

abbrev pub delta_estimate : Lengths → PlainDelta → ℕ
delta_estimate lengths d = capped (delta_cost lengths d)

-- It is a rewriting, and no other one has a smaller estimate.
pub record IsLeast (entries : Entries) (lengths : Lengths) (q : PlainPlan) (c : Cuts) (r : PlainRewriting) : Type 0 where
  pub is : IsRewriting (among entries) q c r
  pub least : (other : PlainRewriting) → IsRewriting (among entries) q c other → estimate_of lengths r ≤ estimate_of lengths other

pub record IsLeastDelta (entries : Entries) (lengths : Lengths) (q : PlainPlan) (old new : Cuts) (d : PlainDelta) : Type 0 where
  pub is : IsDelta (among entries) q old new d
  pub least : (other : PlainDelta) → IsDelta (among entries) q old new other → delta_estimate lengths d ≤ delta_estimate lengths other
