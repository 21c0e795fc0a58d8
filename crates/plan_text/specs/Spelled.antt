-- What a whole text spells.
use Rattle.std.specs.Prelude.{ℕ, List, []}
use Rattle.plan_text.specs.declared.token.Token.{Token}
use Rattle.plan_text.specs.Token.{AreTokens}
use Rattle.plan_text.specs.PlainNamed.{PlainExpr, PlainTree}
use Rattle.plan_text.specs.Operators.{E}
use Rattle.plan_text.specs.Grammar.{Spells, SpellsPlan}
use Rattle.plan_text.specs.Counts.{IsWithinLimits}

-- The text spells the expression, with at most 32 levels open.
pub record SpellsExpr (e : PlainExpr) (text : List ℕ) : Type 0 where
  pub tokens : List Token
  pub are : AreTokens tokens text
  pub spells : Spells E 32 e tokens []

-- The text spells the plan, with at most 32 levels open.
pub record SpellsText (plan : PlainTree) (text : List ℕ) : Type 0 where
  pub tokens : List Token
  pub are : AreTokens tokens text
  pub spells : SpellsPlan 32 plan tokens []

-- some text within the limits spells the plan
abbrev pub IsWritten : PlainTree → Type 0
IsWritten plan = ((text : List ℕ) × SpellsText plan text) × IsWithinLimits plan
