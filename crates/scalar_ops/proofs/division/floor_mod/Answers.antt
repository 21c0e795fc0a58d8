-- The rest is that of the quotient that is cut off towards 0, or one divisor more.
use Rattle.std.proofs.Common.{◌∙◌, sym, ap, FitsSigned, w64, to_z, of_z, ◌+ℤ◌}
use Rattle.std.specs.Int.RustNames.{int_rem}
use Rattle.std.proofs.lemmas.Int.{to_z-of_z}
use Rattle.scalar_ops.proofs.Rounding.{floor_mod-made_up, floor_mod-same}
use Rattle.scalar_ops.proofs.division.floor_mod.Goals as goal

pub returns-then-is_rounded_up : goal.returns-then-is_rounded_up
returns-then-is_rounded_up c =
    let in_a : FitsSigned w64 c.args.a = c.ranges.a in
    let in_b : FitsSigned w64 c.args.b = c.ranges.b in
    let up = sym (simp to_z-of_z at c.is_rounded_up.ensures) ∙ c.if-is_rounded_up.true in
    ap (λ a. to_z w64 (of_z w64 (to_z w64 (of_z w64 (int_rem a (to_z w64 (of_z w64 c.args.b)))) +ℤ to_z w64 (of_z w64 c.args.b)))) (to_z-of_z w64 c.args.a in_a)
    ∙ ap (λ b. to_z w64 (of_z w64 (to_z w64 (of_z w64 (int_rem c.args.a b)) +ℤ b))) (to_z-of_z w64 c.args.b in_b)
    ∙ floor_mod-made_up c.args.a c.args.b c.requires in_a in_b up

pub returns-else-is_rounded_up : goal.returns-else-is_rounded_up
returns-else-is_rounded_up c =
    let in_a : FitsSigned w64 c.args.a = c.ranges.a in
    let in_b : FitsSigned w64 c.args.b = c.ranges.b in
    let up = sym (simp to_z-of_z at c.is_rounded_up.ensures) ∙ c.if-is_rounded_up.false in
    ap (λ a. to_z w64 (of_z w64 (int_rem a (to_z w64 (of_z w64 c.args.b))))) (to_z-of_z w64 c.args.a in_a)
    ∙ ap (λ b. to_z w64 (of_z w64 (int_rem c.args.a b))) (to_z-of_z w64 c.args.b in_b)
    ∙ floor_mod-same c.args.a c.args.b c.requires in_a up
