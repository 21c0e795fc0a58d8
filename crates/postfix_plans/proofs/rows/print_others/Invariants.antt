-- The lines so far stand behind the text that was there.
use Rattle.std.proofs.Common.{◌≡◌, ◌++◌, take, codes}
use Rattle.std.specs.List.{flat_map}
use Rattle.row_text.specs.RowSpelling.{row_spelling}
use Rattle.postfix_plans.proofs.rows.print_others.Given as goal

abbrev pub invariant-loop-row : goal.invariant-loop-row
invariant-loop-row l =
    l.text.items ≡ l.initial.text.items ++ flat_map (λ row. codes " / " ++ row_spelling row) (take l.row-index l.rows)
