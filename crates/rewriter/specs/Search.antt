-- What the search answers: the form of a least rewriting, and the estimates of least trees.
use Rattle.std.specs.Prelude.{◌≡◌, ◌≢◌, ℕ, ◌≤◌, Option, Some, None}
use Rattle.plan_core.specs.PlainPlan.{PlainPlan, plan_of}
use Rattle.estimator.specs.Bytes.{Lengths, whole_bytes, new_bytes, capped}
use Rattle.estimator.specs.Cuts.{Cuts}
use Rattle.rewrite_core.specs.Entries.{Entries}
use Rattle.rewrite_core.specs.Estimate.{estimate_of, delta_estimate, IsLeastDelta}
use Rattle.rewrite_core.specs.IsRewriting.{IsRewriting, among}
use Rattle.rewrite_core.specs.PlainRewriting.{PlainRewriting, PlainWay, PlainDelta}
use Rattle.rewriter.specs.declared.parts.Part.{Part}
use Rattle.rewriter.specs.declared.parts.Stretch.{Stretch}
use Rattle.rewriter.specs.declared.priced.Choice.{Choice}
use Rattle.rewriter.specs.declared.priced.Form.{Form}
use Rattle.rewriter.specs.declared.priced.Form.TheVariants as form
use Rattle.rewriter.specs.declared.priced.PairPrice.{PairPrice}
use Rattle.rewriter.specs.declared.priced.Price.{Price}
use Rattle.rewriter.specs.Choosing.{CostMore}
use Rattle.rewriter.specs.Forms.{IsComputed, IsRead, IsGrown, IsLeastOf, HasNone, HasNoDelta}

-- the estimate of a least rewriting of a form
pub record IsEstimate (Ways : PlainWay → Type 0) (entries : Entries) (lengths : Lengths) (q : PlainPlan) (c : Cuts) (n : ℕ) : Type 0 where
  pub of : PlainRewriting
  pub least : IsLeastOf Ways entries lengths q c of
  pub estimate : n ≡ estimate_of lengths of

-- the estimate of a least rewriting of a form, or there is none
abbrev pub IsEstimateIfAny : (PlainWay → Type 0) → Entries → Lengths → PlainPlan → Cuts → Option ℕ → Type 0
IsEstimateIfAny Ways entries lengths q c None = HasNone Ways entries q c
IsEstimateIfAny Ways entries lengths q c (Some n) = IsEstimate Ways entries lengths q c n

-- the estimate of a least rewriting that computes the plan's node, and the bytes under the plan
pub record IsComputedPrice (entries : Entries) (lengths : Lengths) (q : PlainPlan) (c : Cuts) (price : Price) : Type 0 where
  pub estimate : IsEstimate IsComputed entries lengths q c price.estimate
  pub bytes : price.bytes ≡ capped (whole_bytes lengths q c)

-- the estimate of a least delta, and the new bytes under the plan
pub record IsDeltaPrice (entries : Entries) (lengths : Lengths) (q : PlainPlan) (old new : Cuts) (price : Price) : Type 0 where
  pub of : PlainDelta
  pub least : IsLeastDelta entries lengths q old new of
  pub estimate : price.estimate ≡ delta_estimate lengths of
  pub bytes : price.bytes ≡ capped (new_bytes lengths q old new)

-- the price of a least delta, or there is none
abbrev pub IsDeltaPriceIfAny : Entries → Lengths → PlainPlan → Cuts → Cuts → Option Price → Type 0
IsDeltaPriceIfAny entries lengths q old new None = HasNoDelta entries q old new
IsDeltaPriceIfAny entries lengths q old new (Some price) = IsDeltaPrice entries lengths q old new price

-- the ways of a form
abbrev pub ways_of : Form → PlainWay → Type 0
ways_of form.Computed = IsComputed
ways_of form.Read = IsRead
ways_of form.Grown = IsGrown

-- A least rewriting of this form has the estimate, and no rewriting of any form has a smaller one. Of equal
-- estimates to compute comes before to read, and that before to grow. The bytes are those under the plan.
pub record IsChoice (entries : Entries) (lengths : Lengths) (q : PlainPlan) (c : Cuts) (choice : Choice) : Type 0 where
  pub of : PlainRewriting
  pub least_of : IsLeastOf (ways_of choice.form) entries lengths q c of
  pub estimate : choice.estimate ≡ estimate_of lengths of
  pub bytes : choice.bytes ≡ capped (whole_bytes lengths q c)
  pub least : (other : PlainRewriting) → IsRewriting (among entries) q c other → choice.estimate ≤ estimate_of lengths other
  pub computed_first : choice.form ≢ form.Computed → CostMore IsComputed entries lengths q c choice.estimate
  pub read_second : choice.form ≡ form.Grown → CostMore IsRead entries lengths q c choice.estimate

-- the price of a least delta between these cuts, and the choice at this cut
pub record IsPairPrice (entries : Entries) (lengths : Lengths) (s : Stretch) (p : Part) (pair : PairPrice) : Type 0 where
  pub delta : IsDeltaPrice entries lengths (plan_of s.plan.now) s.old.now s.new.now pair.delta
  pub best : IsChoice entries lengths (plan_of p.plan.now) p.cuts.now pair.best

-- the prices, or there is no such delta
abbrev pub IsPairPriceIfAny : Entries → Lengths → Stretch → Part → Option PairPrice → Type 0
IsPairPriceIfAny entries lengths s p None = HasNoDelta entries (plan_of s.plan.now) s.old.now s.new.now
IsPairPriceIfAny entries lengths s p (Some pair) = IsPairPrice entries lengths s p pair
