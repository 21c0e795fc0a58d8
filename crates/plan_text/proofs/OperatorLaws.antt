-- What holds of each operator of the table.
use Rattle.std.proofs.Common.{◌≡◌, ◌≢◌, subst, ◌<◌, ◌≤◌, Some, arith}
use Rattle.scalar_ops.specs.declared.table.Op.{Op}
use Rattle.scalar_ops.specs.declared.table.Op.TheVariants as op
use Rattle.plan_text.specs.declared.token.Token.{Token}
use Rattle.plan_text.specs.declared.token.Token.TheVariants.{Word, Mark}
use Rattle.plan_text.specs.declared.token.Mark as the_mark
use Rattle.plan_text.specs.declared.token.Mark.TheVariants as mark
use Rattle.plan_text.specs.declared.token.Word.TheVariants as word
use Rattle.plan_text.specs.declared.operator.Infix.{Infix}
use Rattle.plan_text.specs.Operators.{UN, NOT, comparing, summing, multiplying, conjunction, disjunction, mark_infix, infix_of}

-- its left operand is of no looser rule than its own, its right one of a tighter rule, and no prefix has its rule
pub record Fits (o : Infix) : Type 0 where
  pub left : o.left ≤ o.rule
  pub right : o.right < o.rule
  pub no_un : o.rule ≢ UN
  pub no_not : o.rule ≢ NOT

compares : (o : Op) → Fits (comparing o)
compares o = record { left = omega arith; right = omega arith; no_un = λ e. omega (arith, e); no_not = λ e. omega (arith, e) }

sums : (o : Op) → Fits (summing o)
sums o = record { left = omega arith; right = omega arith; no_un = λ e. omega (arith, e); no_not = λ e. omega (arith, e) }

multiplies : (o : Op) → Fits (multiplying o)
multiplies o = record { left = omega arith; right = omega arith; no_un = λ e. omega (arith, e); no_not = λ e. omega (arith, e) }

mark_fits : (m : the_mark.Mark) (o : Infix) → mark_infix m ≡ Some o → Fits o
mark_fits mark.Equal o e = let same : comparing op.Eq ≡ o = cc in subst Fits same (compares op.Eq)
mark_fits mark.NotEqual o e = let same : comparing op.Ne ≡ o = cc in subst Fits same (compares op.Ne)
mark_fits mark.Less o e = let same : comparing op.Lt ≡ o = cc in subst Fits same (compares op.Lt)
mark_fits mark.LessEqual o e = let same : comparing op.Le ≡ o = cc in subst Fits same (compares op.Le)
mark_fits mark.Greater o e = let same : comparing op.Gt ≡ o = cc in subst Fits same (compares op.Gt)
mark_fits mark.GreaterEqual o e = let same : comparing op.Ge ≡ o = cc in subst Fits same (compares op.Ge)
mark_fits mark.Plus o e = let same : summing op.Add ≡ o = cc in subst Fits same (sums op.Add)
mark_fits mark.Minus o e = let same : summing op.Sub ≡ o = cc in subst Fits same (sums op.Sub)
mark_fits mark.Sign o e = let same : summing op.Sub ≡ o = cc in subst Fits same (sums op.Sub)
mark_fits mark.Times o e = let same : multiplying op.Mul ≡ o = cc in subst Fits same (multiplies op.Mul)
mark_fits mark.Divide o e = let same : multiplying op.Div ≡ o = cc in subst Fits same (multiplies op.Div)
mark_fits mark.Rest o e = let same : multiplying op.Mod ≡ o = cc in subst Fits same (multiplies op.Mod)
mark_fits _ o e = absurd (cc)

pub infix_fits : (t : Token) (o : Infix) → infix_of t ≡ Some o → Fits o
infix_fits (Word word.Or) o e = let same : disjunction ≡ o = cc in subst Fits same fits
  where
    fits : Fits disjunction
    fits = record { left = omega arith; right = omega arith; no_un = λ e. omega (arith, e); no_not = λ e. omega (arith, e) }
infix_fits (Word word.And) o e = let same : conjunction ≡ o = cc in subst Fits same fits
  where
    fits : Fits conjunction
    fits = record { left = omega arith; right = omega arith; no_un = λ e. omega (arith, e); no_not = λ e. omega (arith, e) }
infix_fits (Mark m) o e = mark_fits m o e
infix_fits _ o e = absurd (cc)
