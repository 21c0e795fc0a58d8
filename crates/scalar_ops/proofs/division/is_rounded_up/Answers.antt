-- Only a quotient of numbers of other signs that leaves a rest is rounded up.
use Rattle.std.proofs.Common.{◌∙◌, sym, FitsSigned, w64}
use Rattle.std.proofs.lemmas.Int.{to_z-of_z}
use Rattle.scalar_ops.proofs.Rounding.{is_rounded_up-same_signs, is_rounded_up-other_signs}
use Rattle.scalar_ops.proofs.division.is_rounded_up.Goals as goal

pub returns-then-a-b : goal.returns-then-a-b
returns-then-a-b c =
    let in_a : FitsSigned w64 c.args.a = c.ranges.a in
    let in_b : FitsSigned w64 c.args.b = c.ranges.b in
    let signs = is_rounded_up-other_signs c.args.a c.args.b (simp to_z-of_z at c.if-a-b.true) in
    let first = simp to_z-of_z at c.unsigned_abs.ensures.value in
    let second = simp to_z-of_z at c.unsigned_abs-then-a-b.ensures.value in
    rw (first, second) (sym signs)

pub returns-else-a-b : goal.returns-else-a-b
returns-else-a-b c =
    let in_a : FitsSigned w64 c.args.a = c.ranges.a in
    let in_b : FitsSigned w64 c.args.b = c.ranges.b in
    c.if-a-b.false ∙ sym (is_rounded_up-same_signs c.args.a c.args.b (simp to_z-of_z at c.if-a-b.false))
