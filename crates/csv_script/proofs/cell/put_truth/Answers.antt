-- The field says this value.
use Rattle.std.proofs.Common.{◌≡◌, ◌++◌, ℕ, List, true, ap, ◌∙◌, refl, rules}
use Rattle.std.specs.Result.{is_ok}
use Rattle.rows_core.specs.declared.value.Value.TheVariants.{Bool as Truth}
use Rattle.csv_script.proofs.cell.put_truth.Goals as goal

pub returns-clause-ok : goal.returns-clause-ok
returns-clause-ok c =
    let good : is_ok c.extend_from_slice.result ≡ true = search rules in
    let items = rw good at c.extend_from_slice.ensures.items in (
      Truth c.in-Some._truth,
      record { kind_is = refl; loose = search rules; short = tt; text = c.in-Some.ensures.found },
      items ∙ ap (λ (t : List ℕ). c.args.line.now.items ++ t) c.in-Some.ensures.found,
    )
