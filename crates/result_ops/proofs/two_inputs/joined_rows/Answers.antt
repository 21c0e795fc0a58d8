use Rattle.std.proofs.Common.{◌≡◌, ap, map, subst, ◌∙◌, IfOk}
use Rattle.plan_laws.proofs.KeptRows.{join_kept}
use Rattle.result_ops.proofs.two_inputs.joined_rows.Goals as goal

pub returns : goal.returns
returns c =
    subst (λ l. IfOk c.rows_of_tagged.result (λ rows. rows.items ≡ l))
    (ap (map (λ tagged. tagged.row)) (c.new.ensures ∙ c.in_ok-tagged.ensures) ∙ join_kept 0 c.args.on.now c.args.lefts.now c.args.rights.now)
    c.rows_of_tagged.ensures
