-- What is read in the turns that are left is what is read in all.
use Rattle.std.proofs.Common.{◌≡◌, ◌-◌}
use Rattle.plan_text.specs.Draft.{limits}
use Rattle.plan_text.specs.PlanDraft.{seen_columns, with_column}
use Rattle.plan_text.specs.declared.parser.Terminal.TheVariants.{Comma}
use Rattle.plan_text.specs.Reader.{terminal_at, repeated}
use Rattle.plan_text.specs.PlanReading.{item_onto, column_at, columns_at}
use Rattle.plan_text.proofs.parser.Parser.columns.Given as goal

abbrev pub invariant-loop : goal.invariant-loop
invariant-loop l =
    columns_at limits l.levels l.fn.self.rest.now
    ≡ repeated (terminal_at Comma) (λ _. item_onto (column_at limits l.levels) (with_column limits)) (l.turns - l.counter) (seen_columns l.columns) l.self.rest.now
