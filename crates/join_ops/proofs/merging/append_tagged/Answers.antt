use Rattle.std.proofs.Common.{sym, ap, ◌∙◌, ◌++◌}
use Rattle.plan_laws.specs.KeptForm.{tagged_from}
use Rattle.plan_laws.proofs.TaggedMerge.{left_grows}
use Rattle.join_ops.proofs.merging.append_tagged.Goals as goal

pub returns-clause-joins : goal.returns-clause-joins
returns-clause-joins c = λ first on lefts more rights old_is new_is.
    c.in_ok-append.ensures.items ∙ ap (λ l. l ++ c.args.new.items) old_is
    ∙ ap (λ l. tagged_from first on lefts rights ++ l) new_is ∙ sym (left_grows first on lefts more rights)
