-- The floor is the quotient that is cut off towards 0, or one below it.
use Rattle.std.proofs.Common.{◌∙◌, sym, FitsSigned, w64}
use Rattle.std.proofs.lemmas.Int.{to_z-of_z}
use Rattle.scalar_ops.proofs.Rounding.{floor_div-one_below, floor_div-same}
use Rattle.scalar_ops.proofs.division.floor_div.Goals as goal

pub returns-then-is_rounded_up : goal.returns-then-is_rounded_up
returns-then-is_rounded_up c =
    let in_a : FitsSigned w64 c.args.a = c.ranges.a in
    let in_b : FitsSigned w64 c.args.b = c.ranges.b in
    let divided = simp to_z-of_z at c.in_ok-quotient.ensures in
    floor_div-one_below c.args.a c.args.b _ c.requires in_a divided.0.1 divided.1 (sym (simp to_z-of_z at c.is_rounded_up.ensures) ∙ c.if-is_rounded_up.true)

pub returns-else-is_rounded_up : goal.returns-else-is_rounded_up
returns-else-is_rounded_up c =
    let in_a : FitsSigned w64 c.args.a = c.ranges.a in
    let in_b : FitsSigned w64 c.args.b = c.ranges.b in
    let divided = simp to_z-of_z at c.in_ok-quotient.ensures in
    floor_div-same c.args.a c.args.b _ c.requires in_a divided.0.1 divided.1 (sym (simp to_z-of_z at c.is_rounded_up.ensures) ∙ c.if-is_rounded_up.false)
