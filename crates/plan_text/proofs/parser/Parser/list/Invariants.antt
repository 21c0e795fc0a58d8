-- What is read in the turns that are left is what is read in all.
use Rattle.std.proofs.Common.{◌≡◌, ◌-◌, []}
use Rattle.plan_text.specs.declared.parser.Terminal.TheVariants.{Comma}
use Rattle.plan_text.specs.Reader.{terminal_at, repeated}
use Rattle.plan_text.specs.PlanReading.{item_onto, list_at, at_end}
use Rattle.plan_text.proofs.parser.Parser.list.Given as goal

abbrev pub invariant-loop : goal.invariant-loop
invariant-loop g l =
    let item = g.T.Item.item_at l.levels in
    list_at item at_end [] l.fn.self.rest.now ≡ repeated (terminal_at Comma) (λ _. item_onto item at_end) (l.turns - l.counter) l.items.items l.self.rest.now
