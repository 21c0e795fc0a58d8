use Rattle.std.proofs.Common.{sym, subst, ◌≤◌, [], length, arith}
use Rattle.std.specs.List.{AllByRecursion}
use Rattle.plan_core.specs.Nesting.{nesting}
use Rattle.plan_core.specs.PlainPlan.{PlainPlan, leaves}
use Rattle.plan_core.specs.PlanTyping.{plan_typing}
use Rattle.plan_canon.specs.Normal.{MeanTheSame}
use Rattle.estimator.proofs.Sums.{streams_length}
use Rattle.growth_laws.specs.Pieces.{pieces_of}
use Rattle.rewrite_core.specs.Files.{files_of}
use Rattle.rewriter.proofs.Formed.{in_streams}
use Rattle.cache_index.specs.Asked.{asked}
use Rattle.catalog_core.specs.Named.{HasFile, lengths_of}
use Rattle.catalog_core.specs.Programs.{kinds_of_streams}
use Rattle.plan_choice.proofs.KeptIds.{few_ids, ids_are_of}
use Rattle.plan_choice.proofs.NormalForms.{form_cuts, form_leaves, form_typed, normal_is, where_ok}
use Rattle.plan_choice.proofs.PieceFiles.{files_there, ids_there, pieces_of_table}
use Rattle.plan_choice.proofs.Serving.{kept_formed}
use Rattle.plan_choice.proofs.laws.serving_rewritings.Goals as goal

pub returns-clause-formed : goal.returns-clause-formed
returns-clause-formed c = λ t plan normal cuts r table serves.
    kept_formed (asked [] t.entries) normal cuts r (c.kept_results_of_tables.ensures.sound t [] table) serves.over

pub returns-clause-over : goal.returns-clause-over
returns-clause-over c = λ t plan normal cuts r serves typed are. record {
  typed = form_typed (kinds_of_streams t.streams) plan normal serves.normal typed;
  are_cuts = form_cuts t.streams plan normal cuts serves.normal are;
}

pub returns-clause-length : goal.returns-clause-length
returns-clause-length c = λ t plan normal cuts r serves are.
    streams_length (lengths_of t.streams) (leaves normal) cuts (c.cuts_of_tables.ensures.cuts t normal cuts (form_cuts t.streams plan normal cuts serves.normal are))

pub returns-clause-leaves : goal.returns-clause-leaves
returns-clause-leaves c = λ t plan normal cuts r serves. form_leaves (kinds_of_streams t.streams) plan normal serves.normal

pub returns-clause-normal : goal.returns-clause-normal
returns-clause-normal c = λ t plan normal cuts r serves. serves.normal.1

pub returns-clause-meaning : goal.returns-clause-meaning
returns-clause-meaning c = λ t plan normal cuts r serves typed.
    let kinds = kinds_of_streams t.streams in
    subst (MeanTheSame kinds plan) (normal_is kinds plan normal serves.normal)
    (where_ok _ (plan_typing kinds plan) (λ k is. c.normal_plans_mean_the_same.ensures.meaning kinds plan k is) typed)

pub returns-clause-deep : goal.returns-clause-deep
returns-clause-deep c = λ t plan normal cuts r serves nodes exprs.
    let kinds = kinds_of_streams t.streams in
    subst (λ (q : PlainPlan). nesting q ≤ 1024) (normal_is kinds plan normal serves.normal) (c.normal_plans_are_not_deep.ensures.limits kinds plan nodes exprs)

pub returns-clause-pieces : goal.returns-clause-pieces
returns-clause-pieces c = λ t plan normal cuts r table serves are.
    let formed = kept_formed (asked [] t.entries) normal cuts r (c.kept_results_of_tables.ensures.sound t [] table) serves.over in
    pieces_of_table t (c.cuts_of_tables.ensures.counts t) r normal cuts serves.over
    (in_streams (lengths_of t.streams) normal cuts r formed (c.cuts_of_tables.ensures.cuts t normal cuts (form_cuts t.streams plan normal cuts serves.normal are)))

pub returns-clause-there : goal.returns-clause-there
returns-clause-there c = λ t plan normal cuts r table serves are.
    let formed = kept_formed (asked [] t.entries) normal cuts r (c.kept_results_of_tables.ensures.sound t [] table) serves.over in
    subst (AllByRecursion (HasFile t)) (sym (c.files_of_pieces.ensures.rewriting normal cuts r formed)) (files_there t (pieces_of r) (returns-clause-pieces c t plan normal cuts r table serves are))

pub returns-clause-ids : goal.returns-clause-ids
returns-clause-ids c = λ t plan normal cuts r ids table serves are named.
    ids_are_of t.entries table.kept.ascend (files_of r) ids (ids_there t (files_of r) (returns-clause-there c t plan normal cuts r table serves are)) named

pub returns-clause-few : goal.returns-clause-few
returns-clause-few c = λ t plan normal cuts r ids table serves are named.
    let few = few_ids t.entries ids table.kept.ascend (returns-clause-ids c t plan normal cuts r ids table serves are named) in
    let most : length t.entries ≤ 4096 = table.kept.few in
    omega (arith, few, most)
