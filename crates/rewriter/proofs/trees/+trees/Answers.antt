use Rattle.std.proofs.Common.{rules}
use Rattle.plan_core.specs.PlainPlan.{plan_of}
use Rattle.rewrite_core.specs.Estimate.{IsLeast, IsLeastDelta}
use Rattle.rewrite_core.specs.PlainRewriting.{rewriting_of, delta_of}
use Rattle.rewriter.specs.declared.priced.Form.TheVariants as form
use Rattle.rewriter.specs.Forms.{IsComputed, IsGrown, IsLeastOf}
use Rattle.rewriter.proofs.AlongTrees.{made_along, ok_along}
use Rattle.rewriter.proofs.Choices.{least_by_form, form_there}
use Rattle.rewriter.proofs.LeastParts as law
use Rattle.rewriter.proofs.Ranges.{cut_length}
use Rattle.rewriter.proofs.trees.+trees.Goals as goal

pub least_tree-returns-in-Computed-clause-answer : goal.least_tree-returns-in-Computed-clause-answer
least_tree-returns-in-Computed-clause-answer g t c =
    ok_along (λ t. IsLeastOf IsComputed (g.L.Lookup.entries c.args.lookup.now) (g.Z.Sizes.lengths c.args.sizes.now) (plan_of c.args.part.plan.now) c.args.part.cuts.now (rewriting_of t.value)) (λ t. IsLeast (g.L.Lookup.entries c.args.lookup.now) (g.Z.Sizes.lengths c.args.sizes.now) (plan_of c.args.part.plan.now) c.args.part.cuts.now (rewriting_of t.value)) c.computed_tree.result
    (λ t l. least_by_form (g.L.Lookup.entries c.args.lookup.now) (g.Z.Sizes.lengths c.args.sizes.now) (plan_of c.args.part.plan.now) c.args.part.cuts.now c.in_ok-choice.choice form.Computed c.in-Computed.is c.in_ok-choice.ensures.answer (rewriting_of t.value) l) c.computed_tree.ensures.answer

pub least_tree-returns-in-Read-clause-answer : goal.least_tree-returns-in-Read-clause-answer
least_tree-returns-in-Read-clause-answer g t c =
    ok_along _ (λ t. IsLeast (g.L.Lookup.entries c.args.lookup.now) (g.Z.Sizes.lengths c.args.sizes.now) (plan_of c.args.part.plan.now) c.args.part.cuts.now (rewriting_of t.value)) c.read_tree.result
    (λ t l. least_by_form (g.L.Lookup.entries c.args.lookup.now) (g.Z.Sizes.lengths c.args.sizes.now) (plan_of c.args.part.plan.now) c.args.part.cuts.now c.in_ok-choice.choice form.Read c.in-Read.is c.in_ok-choice.ensures.answer (rewriting_of t.value) (l (g.Z.Sizes.lengths c.args.sizes.now))) c.read_tree.ensures

pub least_tree-returns-in-Grown-clause-answer : goal.least_tree-returns-in-Grown-clause-answer
least_tree-returns-in-Grown-clause-answer g t c =
    ok_along (λ t. IsLeastOf IsGrown (g.L.Lookup.entries c.args.lookup.now) (g.Z.Sizes.lengths c.args.sizes.now) (plan_of c.args.part.plan.now) c.args.part.cuts.now (rewriting_of t.value)) (λ t. IsLeast (g.L.Lookup.entries c.args.lookup.now) (g.Z.Sizes.lengths c.args.sizes.now) (plan_of c.args.part.plan.now) c.args.part.cuts.now (rewriting_of t.value)) c.grown_tree.result
    (λ t l. least_by_form (g.L.Lookup.entries c.args.lookup.now) (g.Z.Sizes.lengths c.args.sizes.now) (plan_of c.args.part.plan.now) c.args.part.cuts.now c.in_ok-choice.choice form.Grown c.in-Grown.is c.in_ok-choice.ensures.answer (rewriting_of t.value) l) c.grown_tree.ensures.answer

pub least_tree-read_tree-requires-clause-there : goal.least_tree-read_tree-requires-clause-there
least_tree-read_tree-requires-clause-there g t c =
    form_there (g.L.Lookup.entries c.args.lookup.now) (g.Z.Sizes.lengths c.args.sizes.now) (plan_of c.args.part.plan.now) c.args.part.cuts.now c.in_ok-choice.choice form.Read c.in-Read.is c.in_ok-choice.ensures.answer

pub least_tree-grown_tree-requires : goal.least_tree-grown_tree-requires
least_tree-grown_tree-requires g t c κs within =
    let there = form_there (g.L.Lookup.entries c.args.lookup.now) (g.Z.Sizes.lengths c.args.sizes.now) (plan_of c.args.part.plan.now) c.args.part.cuts.now c.in_ok-choice.choice form.Grown c.in-Grown.is c.in_ok-choice.ensures.answer in search rules

pub computed_tree-inputs_of-requires : goal.computed_tree-inputs_of-requires
computed_tree-inputs_of-requires g t c =
    cut_length (g.Z.Sizes.lengths c.args.sizes.now) (plan_of c.args.part.plan.now) c.args.part.cuts.now c.requires.cuts

pub computed_tree-returns-in-Stream-clause-answer : goal.computed_tree-returns-in-Stream-clause-answer
computed_tree-returns-in-Stream-clause-answer g t c =
    made_along (IsLeastOf IsComputed (g.L.Lookup.entries c.args.lookup.now) (g.Z.Sizes.lengths c.args.sizes.now) (plan_of c.args.part.plan.now) c.args.part.cuts.now) (λ t. rewriting_of t.value) _ c.node.result (law.computed_scan (g.L.Lookup.entries c.args.lookup.now) (g.Z.Sizes.lengths c.args.sizes.now) (plan_of c.args.part.plan.now) c.args.part.cuts.now (c.in-Stream.ensures (g.L.Lookup.entries c.args.lookup.now) (g.Z.Sizes.lengths c.args.sizes.now) c.requires.cuts)) c.node.ensures

pub computed_tree-least_tree-requires : goal.computed_tree-least_tree-requires
computed_tree-least_tree-requires g t c κs within =
    let cut = (c.in-One.ensures (g.L.Lookup.entries c.args.lookup.now) (g.Z.Sizes.lengths c.args.sizes.now) c.requires.cuts).input.cuts in
    let lower = (c.in-One.ensures (g.L.Lookup.entries c.args.lookup.now) (g.Z.Sizes.lengths c.args.sizes.now) c.requires.cuts).input.lower in search rules

pub computed_tree-returns-in_ok-tree-in-One-clause-answer : goal.computed_tree-returns-in_ok-tree-in-One-clause-answer
computed_tree-returns-in_ok-tree-in-One-clause-answer g t c =
    made_along (IsLeastOf IsComputed (g.L.Lookup.entries c.args.lookup.now) (g.Z.Sizes.lengths c.args.sizes.now) (plan_of c.args.part.plan.now) c.args.part.cuts.now) (λ t. rewriting_of t.value) _ c.node-in-One.result ((c.in-One.ensures (g.L.Lookup.entries c.args.lookup.now) (g.Z.Sizes.lengths c.args.sizes.now) c.requires.cuts).makes _ c.in_ok-tree-in-One.ensures.answer) c.node-in-One.ensures

pub computed_tree-least_tree-requires-in-Two : goal.computed_tree-least_tree-requires-in-Two
computed_tree-least_tree-requires-in-Two g t c κs within =
    let cut = (c.in-Two.ensures (g.L.Lookup.entries c.args.lookup.now) (g.Z.Sizes.lengths c.args.sizes.now) c.requires.cuts).left.cuts in
    let lower = (c.in-Two.ensures (g.L.Lookup.entries c.args.lookup.now) (g.Z.Sizes.lengths c.args.sizes.now) c.requires.cuts).left.lower in search rules

pub computed_tree-least_tree-requires-in-Two-2 : goal.computed_tree-least_tree-requires-in-Two-2
computed_tree-least_tree-requires-in-Two-2 g t c κs within =
    let cut = (c.in-Two.ensures (g.L.Lookup.entries c.args.lookup.now) (g.Z.Sizes.lengths c.args.sizes.now) c.requires.cuts).right.cuts in
    let lower = (c.in-Two.ensures (g.L.Lookup.entries c.args.lookup.now) (g.Z.Sizes.lengths c.args.sizes.now) c.requires.cuts).right.lower in
    let found = c.in_ok-first-in-Two.ensures.found in search rules

pub computed_tree-returns-in_ok-second-in-Two-clause-answer : goal.computed_tree-returns-in_ok-second-in-Two-clause-answer
computed_tree-returns-in_ok-second-in-Two-clause-answer g t c =
    made_along (IsLeastOf IsComputed (g.L.Lookup.entries c.args.lookup.now) (g.Z.Sizes.lengths c.args.sizes.now) (plan_of c.args.part.plan.now) c.args.part.cuts.now) (λ t. rewriting_of t.value) _ c.node-in-Two.result ((c.in-Two.ensures (g.L.Lookup.entries c.args.lookup.now) (g.Z.Sizes.lengths c.args.sizes.now) c.requires.cuts).makes _ _ c.in_ok-first-in-Two.ensures.answer c.in_ok-second-in-Two.ensures.answer) c.node-in-Two.ensures

pub grown_tree-unreachable-requires : goal.grown_tree-unreachable-requires
grown_tree-unreachable-requires g t c =
    c.requires.there (law.grown_none (g.L.Lookup.entries c.args.lookup.now) (g.Z.Sizes.lengths c.args.sizes.now) (plan_of c.args.part.plan.now) c.args.part.cuts.now (rw c.in-None.is at c.in_ok-earlier.ensures))

pub tree_from-growth_of-requires-clause-old : goal.tree_from-growth_of-requires-clause-old
tree_from-growth_of-requires-clause-old g t c =
    c.requires.sound.leaves _ c.requires.hit.candidate.kept

pub tree_from-growth_of-requires-clause-new : goal.tree_from-growth_of-requires-clause-new
tree_from-growth_of-requires-clause-new g t c =
    cut_length (g.Z.Sizes.lengths c.args.sizes.now) (plan_of c.args.part.plan.now) c.args.part.cuts.now c.requires.cuts

pub tree_from-unreachable-requires : goal.tree_from-unreachable-requires
tree_from-unreachable-requires g t c =
    c.requires.there (c.in-Never.ensures (g.L.Lookup.entries c.args.lookup.now) (g.Z.Sizes.lengths c.args.sizes.now) c.requires.sound c.requires.cuts c.requires.hit)

pub tree_from-delta_tree-requires : goal.tree_from-delta_tree-requires
tree_from-delta_tree-requires g t c κs within =
    let cut = (c.in-Tail.ensures (g.L.Lookup.entries c.args.lookup.now) (g.Z.Sizes.lengths c.args.sizes.now) c.requires.sound c.requires.cuts c.requires.hit).stretch.cuts in
    let lower = (c.in-Tail.ensures (g.L.Lookup.entries c.args.lookup.now) (g.Z.Sizes.lengths c.args.sizes.now) c.requires.sound c.requires.cuts c.requires.hit).stretch.lower in
    let none = (c.in-Tail.ensures (g.L.Lookup.entries c.args.lookup.now) (g.Z.Sizes.lengths c.args.sizes.now) c.requires.sound c.requires.cuts c.requires.hit).none in search rules

pub tree_from-returns-in_ok-delta-in-Tail-clause-answer : goal.tree_from-returns-in_ok-delta-in-Tail-clause-answer
tree_from-returns-in_ok-delta-in-Tail-clause-answer g t c =
    made_along (IsLeastOf IsGrown (g.L.Lookup.entries c.args.lookup.now) (g.Z.Sizes.lengths c.args.sizes.now) (plan_of c.args.part.plan.now) c.args.part.cuts.now) (λ t. rewriting_of t.value) _ c.tail.result ((c.in-Tail.ensures (g.L.Lookup.entries c.args.lookup.now) (g.Z.Sizes.lengths c.args.sizes.now) c.requires.sound c.requires.cuts c.requires.hit).makes _ c.in_ok-delta-in-Tail.ensures.answer) c.tail.ensures

pub tree_from-delta_tree-requires-in-Left : goal.tree_from-delta_tree-requires-in-Left
tree_from-delta_tree-requires-in-Left g t c κs within =
    let cut = (c.in-Left.ensures (g.L.Lookup.entries c.args.lookup.now) (g.Z.Sizes.lengths c.args.sizes.now) c.requires.sound c.requires.cuts c.requires.hit).stretch.cuts in
    let lower = (c.in-Left.ensures (g.L.Lookup.entries c.args.lookup.now) (g.Z.Sizes.lengths c.args.sizes.now) c.requires.sound c.requires.cuts c.requires.hit).stretch.lower in
    let none = (c.in-Left.ensures (g.L.Lookup.entries c.args.lookup.now) (g.Z.Sizes.lengths c.args.sizes.now) c.requires.sound c.requires.cuts c.requires.hit).none in search rules

pub tree_from-least_tree-requires : goal.tree_from-least_tree-requires
tree_from-least_tree-requires g t c κs within =
    let cut = (c.in-Left.ensures (g.L.Lookup.entries c.args.lookup.now) (g.Z.Sizes.lengths c.args.sizes.now) c.requires.sound c.requires.cuts c.requires.hit).part.cuts in
    let lower = (c.in-Left.ensures (g.L.Lookup.entries c.args.lookup.now) (g.Z.Sizes.lengths c.args.sizes.now) c.requires.sound c.requires.cuts c.requires.hit).part.lower in
    let found = c.in_ok-delta-in-Left.ensures.found in search rules

pub tree_from-returns-in_ok-tree-in-Left-clause-answer : goal.tree_from-returns-in_ok-tree-in-Left-clause-answer
tree_from-returns-in_ok-tree-in-Left-clause-answer g t c =
    made_along (IsLeastOf IsGrown (g.L.Lookup.entries c.args.lookup.now) (g.Z.Sizes.lengths c.args.sizes.now) (plan_of c.args.part.plan.now) c.args.part.cuts.now) (λ t. rewriting_of t.value) _ c.left_grew.result ((c.in-Left.ensures (g.L.Lookup.entries c.args.lookup.now) (g.Z.Sizes.lengths c.args.sizes.now) c.requires.sound c.requires.cuts c.requires.hit).makes _ _ c.in_ok-delta-in-Left.ensures.answer c.in_ok-tree-in-Left.ensures.answer) c.left_grew.ensures

pub tree_from-least_tree-requires-in-Right : goal.tree_from-least_tree-requires-in-Right
tree_from-least_tree-requires-in-Right g t c κs within =
    let cut = (c.in-Right.ensures (g.L.Lookup.entries c.args.lookup.now) (g.Z.Sizes.lengths c.args.sizes.now) c.requires.sound c.requires.cuts c.requires.hit).part.cuts in
    let lower = (c.in-Right.ensures (g.L.Lookup.entries c.args.lookup.now) (g.Z.Sizes.lengths c.args.sizes.now) c.requires.sound c.requires.cuts c.requires.hit).part.lower in search rules

pub tree_from-delta_tree-requires-in-Right : goal.tree_from-delta_tree-requires-in-Right
tree_from-delta_tree-requires-in-Right g t c κs within =
    let cut = (c.in-Right.ensures (g.L.Lookup.entries c.args.lookup.now) (g.Z.Sizes.lengths c.args.sizes.now) c.requires.sound c.requires.cuts c.requires.hit).stretch.cuts in
    let lower = (c.in-Right.ensures (g.L.Lookup.entries c.args.lookup.now) (g.Z.Sizes.lengths c.args.sizes.now) c.requires.sound c.requires.cuts c.requires.hit).stretch.lower in
    let none = (c.in-Right.ensures (g.L.Lookup.entries c.args.lookup.now) (g.Z.Sizes.lengths c.args.sizes.now) c.requires.sound c.requires.cuts c.requires.hit).none in
    let found = c.in_ok-tree-in-Right.ensures.found in search rules

pub tree_from-returns-in_ok-delta-in-Right-clause-answer : goal.tree_from-returns-in_ok-delta-in-Right-clause-answer
tree_from-returns-in_ok-delta-in-Right-clause-answer g t c =
    made_along (IsLeastOf IsGrown (g.L.Lookup.entries c.args.lookup.now) (g.Z.Sizes.lengths c.args.sizes.now) (plan_of c.args.part.plan.now) c.args.part.cuts.now) (λ t. rewriting_of t.value) _ c.right_grew.result ((c.in-Right.ensures (g.L.Lookup.entries c.args.lookup.now) (g.Z.Sizes.lengths c.args.sizes.now) c.requires.sound c.requires.cuts c.requires.hit).makes _ _ c.in_ok-delta-in-Right.ensures.answer c.in_ok-tree-in-Right.ensures.answer) c.right_grew.ensures

pub tree_from-least_tree-requires-in-Both : goal.tree_from-least_tree-requires-in-Both
tree_from-least_tree-requires-in-Both g t c κs within =
    let cut = (c.in-Both.ensures (g.L.Lookup.entries c.args.lookup.now) (g.Z.Sizes.lengths c.args.sizes.now) c.requires.sound c.requires.cuts c.requires.hit).old_left.cuts in
    let lower = (c.in-Both.ensures (g.L.Lookup.entries c.args.lookup.now) (g.Z.Sizes.lengths c.args.sizes.now) c.requires.sound c.requires.cuts c.requires.hit).old_left.lower in search rules

pub tree_from-delta_tree-requires-in-Both : goal.tree_from-delta_tree-requires-in-Both
tree_from-delta_tree-requires-in-Both g t c κs within =
    let cut = (c.in-Both.ensures (g.L.Lookup.entries c.args.lookup.now) (g.Z.Sizes.lengths c.args.sizes.now) c.requires.sound c.requires.cuts c.requires.hit).right_delta.cuts in
    let lower = (c.in-Both.ensures (g.L.Lookup.entries c.args.lookup.now) (g.Z.Sizes.lengths c.args.sizes.now) c.requires.sound c.requires.cuts c.requires.hit).right_delta.lower in
    let none = (c.in-Both.ensures (g.L.Lookup.entries c.args.lookup.now) (g.Z.Sizes.lengths c.args.sizes.now) c.requires.sound c.requires.cuts c.requires.hit).none_right in
    let found = c.in_ok-old_left-in-Both.ensures.found in search rules

pub tree_from-delta_tree-requires-in-Both-2 : goal.tree_from-delta_tree-requires-in-Both-2
tree_from-delta_tree-requires-in-Both-2 g t c κs within =
    let cut = (c.in-Both.ensures (g.L.Lookup.entries c.args.lookup.now) (g.Z.Sizes.lengths c.args.sizes.now) c.requires.sound c.requires.cuts c.requires.hit).left_delta.cuts in
    let lower = (c.in-Both.ensures (g.L.Lookup.entries c.args.lookup.now) (g.Z.Sizes.lengths c.args.sizes.now) c.requires.sound c.requires.cuts c.requires.hit).left_delta.lower in
    let none = (c.in-Both.ensures (g.L.Lookup.entries c.args.lookup.now) (g.Z.Sizes.lengths c.args.sizes.now) c.requires.sound c.requires.cuts c.requires.hit).none_left in
    let found = c.in_ok-more_right-in-Both.ensures.found in search rules

pub tree_from-least_tree-requires-in-Both-2 : goal.tree_from-least_tree-requires-in-Both-2
tree_from-least_tree-requires-in-Both-2 g t c κs within =
    let cut = (c.in-Both.ensures (g.L.Lookup.entries c.args.lookup.now) (g.Z.Sizes.lengths c.args.sizes.now) c.requires.sound c.requires.cuts c.requires.hit).right.cuts in
    let lower = (c.in-Both.ensures (g.L.Lookup.entries c.args.lookup.now) (g.Z.Sizes.lengths c.args.sizes.now) c.requires.sound c.requires.cuts c.requires.hit).right.lower in
    let found = c.in_ok-more_left-in-Both.ensures.found in search rules

pub tree_from-returns-in_ok-right-in-Both-clause-answer : goal.tree_from-returns-in_ok-right-in-Both-clause-answer
tree_from-returns-in_ok-right-in-Both-clause-answer g t c =
    made_along (IsLeastOf IsGrown (g.L.Lookup.entries c.args.lookup.now) (g.Z.Sizes.lengths c.args.sizes.now) (plan_of c.args.part.plan.now) c.args.part.cuts.now) (λ t. rewriting_of t.value) _ c.both_grew.result ((c.in-Both.ensures (g.L.Lookup.entries c.args.lookup.now) (g.Z.Sizes.lengths c.args.sizes.now) c.requires.sound c.requires.cuts c.requires.hit).makes _ _ _ _ c.in_ok-old_left-in-Both.ensures.answer c.in_ok-more_right-in-Both.ensures.answer c.in_ok-more_left-in-Both.ensures.answer c.in_ok-right-in-Both.ensures.answer) c.both_grew.ensures

pub delta_tree-increase_of-requires-clause-old : goal.delta_tree-increase_of-requires-clause-old
delta_tree-increase_of-requires-clause-old g t c =
    cut_length (g.Z.Sizes.lengths c.args.sizes.now) (plan_of c.args.stretch.plan.now) c.args.stretch.old.now c.requires.cuts.before

pub delta_tree-increase_of-requires-clause-new : goal.delta_tree-increase_of-requires-clause-new
delta_tree-increase_of-requires-clause-new g t c =
    cut_length (g.Z.Sizes.lengths c.args.sizes.now) (plan_of c.args.stretch.plan.now) c.args.stretch.new.now c.requires.cuts.after

pub delta_tree-unreachable-requires : goal.delta_tree-unreachable-requires
delta_tree-unreachable-requires g t c =
    c.requires.there (c.in-Never.ensures (g.L.Lookup.entries c.args.lookup.now) (g.Z.Sizes.lengths c.args.sizes.now) c.requires.cuts)

pub delta_tree-returns-in-Unchanged-clause-answer : goal.delta_tree-returns-in-Unchanged-clause-answer
delta_tree-returns-in-Unchanged-clause-answer g t c =
    made_along (IsLeastDelta (g.L.Lookup.entries c.args.lookup.now) (g.Z.Sizes.lengths c.args.sizes.now) (plan_of c.args.stretch.plan.now) c.args.stretch.old.now c.args.stretch.new.now) (λ t. delta_of t.value) _ c.change.result (law.delta_unchanged (g.L.Lookup.entries c.args.lookup.now) (g.Z.Sizes.lengths c.args.sizes.now) (plan_of c.args.stretch.plan.now) c.args.stretch.old.now c.args.stretch.new.now (c.in-Unchanged.ensures (g.L.Lookup.entries c.args.lookup.now) (g.Z.Sizes.lengths c.args.sizes.now) c.requires.cuts)) c.change.ensures

pub delta_tree-returns-in-NewRows-clause-answer : goal.delta_tree-returns-in-NewRows-clause-answer
delta_tree-returns-in-NewRows-clause-answer g t c =
    made_along (IsLeastDelta (g.L.Lookup.entries c.args.lookup.now) (g.Z.Sizes.lengths c.args.sizes.now) (plan_of c.args.stretch.plan.now) c.args.stretch.old.now c.args.stretch.new.now) (λ t. delta_of t.value) _ c.change-in-NewRows.result (law.delta_scan (g.L.Lookup.entries c.args.lookup.now) (g.Z.Sizes.lengths c.args.sizes.now) (plan_of c.args.stretch.plan.now) c.args.stretch.old.now c.args.stretch.new.now (c.in-NewRows.ensures (g.L.Lookup.entries c.args.lookup.now) (g.Z.Sizes.lengths c.args.sizes.now) c.requires.cuts).0 (c.in-NewRows.ensures (g.L.Lookup.entries c.args.lookup.now) (g.Z.Sizes.lengths c.args.sizes.now) c.requires.cuts).1) c.change-in-NewRows.ensures

pub delta_tree-delta_tree-requires : goal.delta_tree-delta_tree-requires
delta_tree-delta_tree-requires g t c κs within =
    let cut = (c.in-Child.ensures (g.L.Lookup.entries c.args.lookup.now) (g.Z.Sizes.lengths c.args.sizes.now) c.requires.cuts).stretch.cuts in
    let lower = (c.in-Child.ensures (g.L.Lookup.entries c.args.lookup.now) (g.Z.Sizes.lengths c.args.sizes.now) c.requires.cuts).stretch.lower in
    let none = (c.in-Child.ensures (g.L.Lookup.entries c.args.lookup.now) (g.Z.Sizes.lengths c.args.sizes.now) c.requires.cuts).none in search rules

pub delta_tree-returns-in_ok-delta-in-Child-clause-answer : goal.delta_tree-returns-in_ok-delta-in-Child-clause-answer
delta_tree-returns-in_ok-delta-in-Child-clause-answer g t c =
    made_along (IsLeastDelta (g.L.Lookup.entries c.args.lookup.now) (g.Z.Sizes.lengths c.args.sizes.now) (plan_of c.args.stretch.plan.now) c.args.stretch.old.now c.args.stretch.new.now) (λ t. delta_of t.value) _ c.change-in-Child.result ((c.in-Child.ensures (g.L.Lookup.entries c.args.lookup.now) (g.Z.Sizes.lengths c.args.sizes.now) c.requires.cuts).makes _ c.in_ok-delta-in-Child.ensures.answer) c.change-in-Child.ensures

pub delta_tree-least_tree-requires : goal.delta_tree-least_tree-requires
delta_tree-least_tree-requires g t c κs within =
    let cut = (c.in-Distinct.ensures (g.L.Lookup.entries c.args.lookup.now) (g.Z.Sizes.lengths c.args.sizes.now) c.requires.cuts).part.cuts in
    let within_plan = (c.in-Distinct.ensures (g.L.Lookup.entries c.args.lookup.now) (g.Z.Sizes.lengths c.args.sizes.now) c.requires.cuts).part.within in search rules

pub delta_tree-delta_tree-requires-in-Distinct : goal.delta_tree-delta_tree-requires-in-Distinct
delta_tree-delta_tree-requires-in-Distinct g t c κs within =
    let cut = (c.in-Distinct.ensures (g.L.Lookup.entries c.args.lookup.now) (g.Z.Sizes.lengths c.args.sizes.now) c.requires.cuts).stretch.cuts in
    let lower = (c.in-Distinct.ensures (g.L.Lookup.entries c.args.lookup.now) (g.Z.Sizes.lengths c.args.sizes.now) c.requires.cuts).stretch.lower in
    let none = (c.in-Distinct.ensures (g.L.Lookup.entries c.args.lookup.now) (g.Z.Sizes.lengths c.args.sizes.now) c.requires.cuts).none in
    let found = c.in_ok-old-in-Distinct.ensures.found in search rules

pub delta_tree-returns-in_ok-child-in-Distinct-clause-answer : goal.delta_tree-returns-in_ok-child-in-Distinct-clause-answer
delta_tree-returns-in_ok-child-in-Distinct-clause-answer g t c =
    made_along (IsLeastDelta (g.L.Lookup.entries c.args.lookup.now) (g.Z.Sizes.lengths c.args.sizes.now) (plan_of c.args.stretch.plan.now) c.args.stretch.old.now c.args.stretch.new.now) (λ t. delta_of t.value) _ c.change-in-Distinct.result ((c.in-Distinct.ensures (g.L.Lookup.entries c.args.lookup.now) (g.Z.Sizes.lengths c.args.sizes.now) c.requires.cuts).makes _ _ c.in_ok-child-in-Distinct.ensures.answer c.in_ok-old-in-Distinct.ensures.answer) c.change-in-Distinct.ensures

pub delta_tree-delta_tree-requires-in-Join : goal.delta_tree-delta_tree-requires-in-Join
delta_tree-delta_tree-requires-in-Join g t c κs within =
    let cut = (c.in-Join.ensures (g.L.Lookup.entries c.args.lookup.now) (g.Z.Sizes.lengths c.args.sizes.now) c.requires.cuts).stretch.cuts in
    let lower = (c.in-Join.ensures (g.L.Lookup.entries c.args.lookup.now) (g.Z.Sizes.lengths c.args.sizes.now) c.requires.cuts).stretch.lower in
    let none = (c.in-Join.ensures (g.L.Lookup.entries c.args.lookup.now) (g.Z.Sizes.lengths c.args.sizes.now) c.requires.cuts).none in search rules

pub delta_tree-least_tree-requires-in-Join : goal.delta_tree-least_tree-requires-in-Join
delta_tree-least_tree-requires-in-Join g t c κs within =
    let cut = (c.in-Join.ensures (g.L.Lookup.entries c.args.lookup.now) (g.Z.Sizes.lengths c.args.sizes.now) c.requires.cuts).part.cuts in
    let within_plan = (c.in-Join.ensures (g.L.Lookup.entries c.args.lookup.now) (g.Z.Sizes.lengths c.args.sizes.now) c.requires.cuts).part.within in
    let found = c.in_ok-left-in-Join.ensures.found in search rules

pub delta_tree-returns-in_ok-right-in-Join-clause-answer : goal.delta_tree-returns-in_ok-right-in-Join-clause-answer
delta_tree-returns-in_ok-right-in-Join-clause-answer g t c =
    made_along (IsLeastDelta (g.L.Lookup.entries c.args.lookup.now) (g.Z.Sizes.lengths c.args.sizes.now) (plan_of c.args.stretch.plan.now) c.args.stretch.old.now c.args.stretch.new.now) (λ t. delta_of t.value) _ c.change-in-Join.result ((c.in-Join.ensures (g.L.Lookup.entries c.args.lookup.now) (g.Z.Sizes.lengths c.args.sizes.now) c.requires.cuts).makes _ _ c.in_ok-left-in-Join.ensures.answer c.in_ok-right-in-Join.ensures.answer) c.change-in-Join.ensures
