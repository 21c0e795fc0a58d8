use Rattle.std.proofs.Common.{◌≡◌, ◌++◌, subst, OnOk}
use Rattle.join_ops.proofs.Keys.{found_rows}
use Rattle.join_ops.proofs.joining.join_found.Goals as goal

pub returns-in-Some : goal.returns-in-Some
returns-in-Some c =
    subst (λ l. OnOk c.join_row.result (c.join_row.new.joined.items ≡ c.args.joined.now.items ++ l))
    (found_rows (λ right. record { left = c.args.position; row = c.args.left.now ++ right }) c.args.index.now c.args.key.now c.in-Some.rights.now c.as_slice.result.now c.in-Some.ensures.value c.as_slice.ensures.value)
    c.join_row.ensures
