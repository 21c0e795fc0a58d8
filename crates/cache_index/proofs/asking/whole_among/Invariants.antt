-- What is told of the ids that are left is so of all.
use Rattle.std.proofs.Common.{length, Option}
use Rattle.plan_core.specs.PlainPlan.{plan_of}
use Rattle.rewrite_core.specs.declared.rewriting.Hit.{Hit}
use Rattle.rewrite_core.specs.Entries.{AnswersWhole}
use Rattle.cache_index.specs.Asked.{asked}
use Rattle.cache_index.specs.Ids.{listed}
use Rattle.cache_index.proofs.asking.whole_among.Given as goal

abbrev pub invariant-loop-rest : goal.invariant-loop-rest
invariant-loop-rest l = (found : Option Hit) → AnswersWhole (asked l.without (listed l.rest l.entries)) (plan_of l.plan) l.cuts found → AnswersWhole (asked l.without (listed l.ids l.entries)) (plan_of l.plan) l.cuts found

abbrev pub decreases-loop-rest : goal.decreases-loop-rest
decreases-loop-rest l = length l.rest
