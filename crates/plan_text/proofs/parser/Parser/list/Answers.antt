use Rattle.std.proofs.Common.{rules, ◌≡◌, ◌∙◌, ◌+◌, [], length, Some, None, Err, subst, sym, ap}
use Rattle.plan_text.specs.declared.parser.Terminal.TheVariants.{Comma}
use Rattle.plan_text.specs.Reader.{Reads, terminal_at}
use Rattle.plan_text.specs.PlanReading.{items_of, item_onto, list_at, at_end}
use Rattle.plan_text.proofs.RepeatLemmas.{ends, goes_on, fails, out_of_turns, Reads-fail}
use Rattle.plan_text.proofs.parser.Parser.list.Goals as goal

pub returns-then-not-pass : goal.returns-then-not-pass
returns-then-not-pass g c =
    let l = c.loop in
    let item = g.T.Item.item_at c.args.levels in
    let none : (terminal_at Comma l.self.rest.now ≡ None) × (c.pass.new.self.rest.now ≡ l.self.rest.now) = search rules in
    ends (terminal_at Comma) (λ _. item_onto item at_end) (list_at item at_end [] c.args.self.now.rest.now) (length c.item_onto.new.self.rest.now + 1) l.counter l.items.items l.self.rest.now l.invariant c.loop-test.true none.0 ∙ ap (λ r. Some (l.items.items, r)) (sym none.1)

pub returns-in_err-items-2 : goal.returns-in_err-items-2
returns-in_err-items-2 g c =
    let l = c.loop in
    let item = g.T.Item.item_at c.args.levels in
    let whole = list_at item at_end [] c.args.self.now.rest.now in
    let behind = c.pass.new.self.rest.now in
    let left = c.item_onto-in-loop.new.self.rest.now in
    let found : (terminal_at Comma) l.self.rest.now ≡ Some (tt, behind) = search rules in
    let failed = fails (terminal_at Comma) (λ _. item_onto item at_end) whole (length c.item_onto.new.self.rest.now + 1) l.counter l.items.items l.self.rest.now l.invariant c.loop-test.true tt behind found in
    let read = Reads-fail c.in_err-items-2.field-0.0 items_of items_of left left (item_onto item at_end l.items.items behind) whole failed c.in_err-items-2.ensures in
    let same : c.from_residual-in_err-items-2.result ≡ Err c.in_err-items-2.field-0.0 = search rules in
    subst (λ r. Reads items_of r left whole) (sym same) read

pub loop-preserved : goal.loop-preserved
loop-preserved g c =
    let l = c.loop in
    let item = g.T.Item.item_at c.args.levels in
    let found : (terminal_at Comma) l.self.rest.now ≡ Some (tt, c.pass.new.self.rest.now) = search rules in
    goes_on (terminal_at Comma) (λ _. item_onto item at_end) (list_at item at_end [] c.args.self.now.rest.now) (length c.item_onto.new.self.rest.now + 1) l.counter l.items.items l.self.rest.now l.invariant c.loop-test.true tt c.pass.new.self.rest.now found c.in_ok-items-2.items.items c.item_onto-in-loop.new.self.rest.now c.in_ok-items-2.ensures

pub returns : goal.returns
returns g c =
    let l = c.loop in
    let item = g.T.Item.item_at c.args.levels in
    out_of_turns (terminal_at Comma) (λ _. item_onto item at_end) (list_at item at_end [] c.args.self.now.rest.now) (length c.item_onto.new.self.rest.now + 1) l.counter l.items.items l.self.rest.now l.invariant (search rules)
