use Rattle.std.proofs.Common.{rules, ◌≡◌, ◌∙◌, ◌+◌, length, Some, None, Err, subst, sym, ap}
use Rattle.plan_text.specs.Draft.{limits}
use Rattle.plan_text.specs.PlanDraft.{seen_columns, with_column}
use Rattle.plan_text.specs.declared.parser.Terminal.TheVariants.{Comma}
use Rattle.plan_text.specs.Reader.{Reads, terminal_at}
use Rattle.plan_text.specs.PlanReading.{item_onto, column_at, columns_at}
use Rattle.plan_text.proofs.RepeatLemmas.{ends, goes_on, fails, out_of_turns, Reads-fail}
use Rattle.plan_text.proofs.parser.Parser.columns.Goals as goal

pub returns-then-not-pass : goal.returns-then-not-pass
returns-then-not-pass c =
    let l = c.loop in
    let step = item_onto (column_at limits c.args.levels) (with_column limits) in
    let none : (terminal_at Comma l.self.rest.now ≡ None) × (c.pass.new.self.rest.now ≡ l.self.rest.now) = search rules in
    ends (terminal_at Comma) (λ _. step) (columns_at limits c.args.levels c.args.self.now.rest.now) (length c.column_onto.new.self.rest.now + 1) l.counter (seen_columns l.columns) l.self.rest.now l.invariant c.loop-test.true none.0 ∙ ap (λ r. Some (seen_columns l.columns, r)) (sym none.1)

pub returns-in_err-columns-2 : goal.returns-in_err-columns-2
returns-in_err-columns-2 c =
    let l = c.loop in
    let step = item_onto (column_at limits c.args.levels) (with_column limits) in
    let whole = columns_at limits c.args.levels c.args.self.now.rest.now in
    let behind = c.pass.new.self.rest.now in
    let left = c.column_onto-in-loop.new.self.rest.now in
    let found : (terminal_at Comma) l.self.rest.now ≡ Some (tt, behind) = search rules in
    let failed = fails (terminal_at Comma) (λ _. step) whole (length c.column_onto.new.self.rest.now + 1) l.counter (seen_columns l.columns) l.self.rest.now l.invariant c.loop-test.true tt behind found in
    let read = Reads-fail c.in_err-columns-2.field-0.0 seen_columns seen_columns left left (step (seen_columns l.columns) behind) whole failed c.in_err-columns-2.ensures in
    let same : c.from_residual-in_err-columns-2.result ≡ Err c.in_err-columns-2.field-0.0 = search rules in
    subst (λ r. Reads seen_columns r left whole) (sym same) read

pub loop-preserved : goal.loop-preserved
loop-preserved c =
    let l = c.loop in
    let step = item_onto (column_at limits c.args.levels) (with_column limits) in
    let found : (terminal_at Comma) l.self.rest.now ≡ Some (tt, c.pass.new.self.rest.now) = search rules in
    goes_on (terminal_at Comma) (λ _. step) (columns_at limits c.args.levels c.args.self.now.rest.now) (length c.column_onto.new.self.rest.now + 1) l.counter (seen_columns l.columns) l.self.rest.now l.invariant c.loop-test.true tt c.pass.new.self.rest.now found (seen_columns c.in_ok-columns-2.columns) c.column_onto-in-loop.new.self.rest.now c.in_ok-columns-2.ensures

pub returns : goal.returns
returns c =
    let l = c.loop in
    let step = item_onto (column_at limits c.args.levels) (with_column limits) in
    out_of_turns (terminal_at Comma) (λ _. step) (columns_at limits c.args.levels c.args.self.now.rest.now) (length c.column_onto.new.self.rest.now + 1) l.counter (seen_columns l.columns) l.self.rest.now l.invariant (search rules)
