-- What typing gives of a plan, beside its definition.
use Rattle.std.specs.Prelude.{◌≡◌, Bool, List, Option, None, Some}
use Rattle.plan_core.specs.declared.plan_types.Typing.{Typing}
use Rattle.plan_core.specs.PlainPlan.{PlainPlan}
use Rattle.plan_core.specs.PlanTyping.{Kinds, plan_kinds, has_too_many}

abbrev pub typing_with : Bool → Kinds → Typing
typing_with too_many kinds = record { kinds = kinds; too_many = too_many }

-- the kinds, and whether there are too many columns, keys or pairs; or that there is no typing
abbrev pub IsTypingOf : List Kinds → PlainPlan → Option Typing → Type 0
IsTypingOf schemas plan None = plan_kinds schemas plan ≡ None
IsTypingOf schemas plan (Some typing) = (plan_kinds schemas plan ≡ Some typing.kinds) × (has_too_many schemas plan ≡ typing.too_many)
