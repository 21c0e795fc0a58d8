use Rattle.std.proofs.Common.{sym, subst, ap, ◌∙◌}
use Rattle.plan_core.specs.PlainPlan.{plan_of}
use Rattle.estimator.specs.Bytes.{IsCutOf, new_bytes, capped}
use Rattle.estimator.specs.Cuts.{EndAtOrBefore}
use Rattle.rewriter.specs.Choosing.{CostAtLeast}
use Rattle.rewriter.specs.Forms.{IsGrown}
use Rattle.rewriter.proofs.LeastCosts.{to_grow}
use Rattle.rewriter.proofs.Ranges.{hit_cuts}
use Rattle.rewriter.proofs.bounds.least_from.Goals as goal

pub new_bytes-bytes-requires-clause-old : goal.new_bytes-bytes-requires-clause-old
new_bytes-bytes-requires-clause-old g c =
    let cuts = hit_cuts (g.Z.Sizes.lengths c.args.sizes.now) (g.L.Lookup.entries c.args.lookup.now) (plan_of c.args.part.plan.now) c.args.part.cuts.now c.args.hit.now c.requires.sound c.requires.hit c.requires.cuts in
    subst (IsCutOf (g.Z.Sizes.lengths c.args.sizes.now) (plan_of c.args.part.plan.now)) (sym c.items.ensures) cuts.before

pub new_bytes-bytes-requires-clause-grows : goal.new_bytes-bytes-requires-clause-grows
new_bytes-bytes-requires-clause-grows g c =
    let cuts = hit_cuts (g.Z.Sizes.lengths c.args.sizes.now) (g.L.Lookup.entries c.args.lookup.now) (plan_of c.args.part.plan.now) c.args.part.cuts.now c.args.hit.now c.requires.sound c.requires.hit c.requires.cuts in
    subst (λ old. EndAtOrBefore old c.args.part.cuts.now) (sym c.items.ensures) cuts.grows

pub returns : goal.returns
returns g c =
    let bytes = c.new_bytes-bytes.ensures ∙ ap (λ old. capped (new_bytes (g.Z.Sizes.lengths c.args.sizes.now) (plan_of c.args.part.plan.now) old c.args.part.cuts.now)) c.items.ensures in
    subst (CostAtLeast IsGrown (g.L.Lookup.entries c.args.lookup.now) (g.Z.Sizes.lengths c.args.sizes.now) (plan_of c.args.part.plan.now) c.args.part.cuts.now) (sym (c.plus.ensures _ _ c.file_len.ensures bytes))
    (to_grow (g.L.Lookup.entries c.args.lookup.now) (g.Z.Sizes.lengths c.args.sizes.now) (plan_of c.args.part.plan.now) c.args.part.cuts.now c.requires.sound c.args.hit.now c.requires.hit)
