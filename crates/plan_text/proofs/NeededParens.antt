-- Printed parentheses are needed: where an expression's own rule is looser, each text of it by a rule is in parentheses.
use Rattle.std.proofs.Common.{◌≡◌, refl, sym, ap, ◌∙◌, ℕ, ◌<◌, List, Some, arith}
use Rattle.scalar_ops.specs.declared.table.Op.{Op}
use Rattle.scalar_ops.specs.declared.table.Op.TheVariants as op
use Rattle.plan_text.specs.declared.token.Token.{Token}
use Rattle.plan_text.specs.declared.token.Token.TheVariants.{Word, Mark}
use Rattle.plan_text.specs.declared.token.Mark.TheVariants as mark
use Rattle.plan_text.specs.declared.token.Word as the_word
use Rattle.plan_text.specs.declared.token.Word.TheVariants as word
use Rattle.plan_text.specs.declared.operator.Prefix.{Prefix}
use Rattle.plan_text.specs.PlainNamed.{PlainExpr}
use Rattle.plan_text.specs.Operators.{Rule, ATOM, UN, NOT, prefix_of, call1_op}
use Rattle.plan_text.specs.Grammar as g
use Rattle.plan_text.specs.Grammar.{Spells}
use Rattle.plan_text.specs.Canonical.{form_rule, call1_rule, rule_of, StandsInParens}
use Rattle.plan_text.proofs.CanonicalSpelled.{operator_found, call2_form}

prefix_rule : (t : Token) (p : Prefix) → prefix_of t ≡ Some p → call1_rule p.op ≡ p.rule
prefix_rule (Word word.Not) p e = let same : record { rule = NOT; op = op.Not } ≡ p = cc e in ap (λ (p : Prefix). call1_rule p.op) (sym same) ∙ ap (λ (p : Prefix). p.rule) same
prefix_rule (Mark mark.Minus) p e = let same : record { rule = UN; op = op.Neg } ≡ p = cc e in ap (λ (p : Prefix). call1_rule p.op) (sym same) ∙ ap (λ (p : Prefix). p.rule) same
prefix_rule _ p e = absurd (cc e)

one_argument_rule : (w : the_word.Word) (o : Op) → call1_op w ≡ Some o → call1_rule o ≡ ATOM
one_argument_rule word.Len o e = let same : op.Len ≡ o = cc in ap call1_rule (sym same)
one_argument_rule word.Abs o e = let same : op.Abs ≡ o = cc in ap call1_rule (sym same)
one_argument_rule _ o e = absurd (cc)

-- a rule is no looser than itself
module _ (own rule : Rule) where
  not_looser : own ≡ rule → rule < own → ⊥
  not_looser same less = omega (arith, less, same)

pub needed : {rule : Rule} {n : ℕ} {e : PlainExpr} {from rest : List Token} → Spells rule n e from rest → rule < rule_of e → StandsInParens n e from rest
needed (g.looser h s) less = needed s (omega (arith, h, less))
needed (g.operation t {o = o} e s u) less = absurd (not_looser _ o.rule (ap form_rule (operator_found t o e).2) less)
needed (g.prefixed t {p = p} e s) less = absurd (not_looser (call1_rule p.op) p.rule (prefix_rule t p e) less)
needed (g.an_int fits) less = absurd (omega (arith, less))
needed (g.a_minus_int e fits) less = absurd (omega (arith, less))
needed g.a_text less = absurd (omega (arith, less))
needed g.a_truth less = absurd (omega (arith, less))
needed g.a_column less = absurd (omega (arith, less))
needed (g.in_parens {n = n} {mid = mid} s) less = record { inner = n; level = refl; inside = mid; opens = refl; spells = s }
needed (g.call1 w {o = o} e s) less = absurd (not_looser (call1_rule o) ATOM (one_argument_rule w o e) less)
needed (g.call2 w {o = o} e s t) less = absurd (not_looser _ ATOM (ap form_rule (call2_form w o e)) less)
needed (g.choice s t u) less = absurd (omega (arith, less))
