-- The cheapest of forms.
use Rattle.std.specs.Prelude.{◌≡◌, ℕ, ◌≤◌, ◌<◌, ◌⊎◌, Option, Some, None}
use Rattle.plan_core.specs.PlainPlan.{PlainPlan}
use Rattle.estimator.specs.Bytes.{Lengths}
use Rattle.estimator.specs.Cuts.{Cuts}
use Rattle.rewrite_core.specs.Entries.{Entries}
use Rattle.rewrite_core.specs.Estimate.{estimate_of}
use Rattle.rewrite_core.specs.IsRewriting.{IsRewriting, among}
use Rattle.rewrite_core.specs.PlainRewriting.{PlainRewriting, PlainWay}
use Rattle.rewriter.specs.declared.priced.Choice.{Choice}
use Rattle.rewriter.specs.declared.priced.Form.{Form}
use Rattle.rewriter.specs.Forms.{way_in}

-- the result is the choice, or this form where it is cheaper
abbrev pub IsCheaper : Choice → Form → Option ℕ → Choice → Type 0
IsCheaper choice form None result = result ≡ choice
IsCheaper choice form (Some estimate) result =
    ((result ≡ choice) × (choice.estimate ≤ estimate))
    ⊎ ((result ≡ record { form = form; estimate = estimate; bytes = choice.bytes }) × (estimate < choice.estimate))

-- each rewriting of this form has at least this estimate
abbrev pub CostAtLeast : (PlainWay → Type 0) → Entries → Lengths → PlainPlan → Cuts → ℕ → Type 0
CostAtLeast Ways entries lengths q c n = (other : PlainRewriting) → IsRewriting (among entries) q c other → Ways (way_in other) → n ≤ estimate_of lengths other

-- each rewriting of this form has a greater estimate
abbrev pub CostMore : (PlainWay → Type 0) → Entries → Lengths → PlainPlan → Cuts → ℕ → Type 0
CostMore Ways entries lengths q c n = (other : PlainRewriting) → IsRewriting (among entries) q c other → Ways (way_in other) → n < estimate_of lengths other
