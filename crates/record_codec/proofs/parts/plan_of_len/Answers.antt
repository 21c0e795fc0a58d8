-- Within these bytes reading stops where it does in a plan's own.
use Rattle.std.proofs.Common.{ℕ, ◌-◌, ◌∙◌, length, Err, take, sym, ap, arith}
use Rattle.record_codec.proofs.InnerPlan.{stops_from}
use Rattle.record_codec.proofs.parts.plan_of_len.Goals as goal

pub returns-in-Err-NotPlan : goal.returns-in-Err-NotPlan
returns-in-Err-NotPlan c =
    stops_from c.args.len c.args.bytes.now c.split_at.result.0.now c.in-Err-NotPlan.at c.in-Err-NotPlan.field-0 (λ i. omega (arith, c.type_inv.bytes i)) (c.split_at.ensures.front ∙ ap (λ (n : ℕ). take n c.args.bytes.now) c.min.ensures) c.in-Err-NotPlan.ensures.exact c.in-Err-NotPlan.field-0-is
    ∙ ap (λ (n : ℕ). Err (length c.args.bytes.now - n)) (sym c.in-Err-NotPlan.at-is) ∙ ap Err (sym c.saturating_sub.ensures)
