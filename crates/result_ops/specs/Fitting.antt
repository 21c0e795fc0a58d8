-- What is kept of a typed plan's result: in the plan's form, with values of the kinds of its columns, and within bounds. The file of a result holds it so, and so does each step leave it.
use Rattle.std.specs.Prelude.{◌≡◌, List, ◌++◌, map, IsSome, All}
use Rattle.rows_core.specs.declared.kind.Kind as kind
use Rattle.rows_core.specs.Value.{kind_of}
use Rattle.row_blob.specs.declared.kept.Acc.{Acc}
use Rattle.row_blob.specs.declared.kept.Acc.TheVariants as acc
use Rattle.row_blob.specs.declared.kept.GroupRow.{GroupRow}
use Rattle.row_blob.specs.declared.kept.Kept.{Kept}
use Rattle.row_blob.specs.declared.kept.Kept.TheVariants as kept
use Rattle.plan_core.specs.PlainPlan.{PlainPlan, Filter, Project, Distinct, Group, Concat, Order}
use Rattle.plan_core.specs.Columns.{Rows}
use Rattle.plan_core.specs.PlanTyping.{Kinds, plan_kinds}
use Rattle.plan_core.specs.TypedRows.{HaveKinds}
use Rattle.plan_laws.specs.GrowthOfJoins.{AscendsByPosition}
use Rattle.plan_laws.specs.PlanShape.{kinds_given}
use Rattle.rewrite_core.specs.IsRewriting.{OfOne, OfTwo}
use Rattle.growth_laws.specs.Making.{IsFormOf}
use Rattle.result_ops.specs.Bounds.{IsBounded}

-- the kind of the value that an accumulator comes to
abbrev pub kind_of_acc : Acc → kind.Kind
kind_of_acc (acc.Pick value) = kind_of value
kind_of_acc _ = kind.TheVariants.Int

abbrev pub kinds_of_group : GroupRow → Kinds
kinds_of_group group = map kind_of group.key ++ map kind_of_acc group.accs

-- the values of what is kept have these kinds
abbrev pub IsOfKinds : Kinds → Kept → Type 0
IsOfKinds kinds (kept.Rows rows) = HaveKinds kinds rows
IsOfKinds kinds (kept.Groups groups) = All (λ group. kinds_of_group group ≡ kinds) groups
IsOfKinds kinds (kept.Tagged lefts rows) = All (λ tagged. map kind_of tagged.row ≡ kinds) rows

-- rows of a join stand by the positions of their left rows
abbrev pub StandsInOrder : Kept → Type 0
StandsInOrder (kept.Tagged lefts rows) = AscendsByPosition rows
StandsInOrder _ = Unit {0}

pub record IsFit (schemas : List Kinds) (plan : PlainPlan) (form : Kept) : Type 0 where
  pub form_is : IsFormOf plan form
  pub kinds_are : IsOfKinds (kinds_given schemas plan) form
  pub bounded : IsBounded plan form

-- the plan has a typing over some streams, and what is kept of its input is fit
abbrev pub HasFitInput : PlainPlan → Kept → Type 0
HasFitInput plan form = (schemas : List Kinds) × IsSome (plan_kinds schemas plan) × OfOne (λ input. IsFit schemas input form) plan

-- and what is kept of its two inputs
abbrev pub HasFitInputs : PlainPlan → Kept → Kept → Type 0
HasFitInputs plan left right =
    (schemas : List Kinds) × IsSome (plan_kinds schemas plan)
    × OfTwo (λ first second. IsFit schemas first left × IsFit schemas second right) plan

-- what holds of the input whose new rows the operator passes on
abbrev pub OfPassed : (PlainPlan → Type 0) → PlainPlan → Type 0
OfPassed P (Filter child test) = P child
OfPassed P (Project child columns) = P child
OfPassed P (Concat left right) = P right
OfPassed P _ = ⊥

-- what holds of the input behind whose rows new ones came, where the result grows with them
abbrev pub OfGrown : (PlainPlan → Type 0) → PlainPlan → Type 0
OfGrown P (Filter child test) = P child
OfGrown P (Project child columns) = P child
OfGrown P (Distinct child) = P child
OfGrown P (Group child keys aggs) = P child
OfGrown P (Concat left right) = P right
OfGrown P (Order child keys) = P child
OfGrown P _ = ⊥

-- the rows have the kinds of the plan's columns
abbrev pub FitRows : List Kinds → Rows → PlainPlan → Type 0
FitRows schemas rows plan = HaveKinds (kinds_given schemas plan) rows

-- its rows can be read
abbrev pub IsReadable : PlainPlan → Kept → Type 0
IsReadable plan form = IsFormOf plan form × IsBounded plan form
