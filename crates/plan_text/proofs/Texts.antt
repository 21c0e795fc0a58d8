-- What a text spells as an expression or as a plan, within the limits or beyond them.
use Rattle.std.proofs.Common.{◌≡◌, ℕ, ◌≤◌, ◌<◌, arith, List, true}
use Rattle.std.proofs.lemmas.Bool.Decides.{nat_tests}
use Rattle.plan_text.specs.declared.limit.PlanLimit.{PlanLimit}
use Rattle.plan_text.specs.declared.limit.PlanLimit.TheVariants.{Exprs, Nodes, Wide}
use Rattle.plan_text.specs.PlainNamed.{PlainExpr, PlainTree}
use Rattle.plan_text.specs.Counts.{expr_nodes, IsFirstPassed, IsWithinLimits}
use Rattle.plan_text.specs.Operators.{E}
use Rattle.plan_text.specs.Grammar.{Spells, EndsExpr, SpellsPlan, EndsPlan}
use Rattle.plan_text.specs.Spelled.{SpellsExpr, SpellsText}
use Rattle.plan_text.specs.declared.counts.Counts.{Counts}
use Rattle.plan_text.specs.Draft.{counts, limits, are_within}
use Rattle.plan_text.specs.Reading.{expr_at, inner}
use Rattle.plan_text.proofs.ExprReading.{read_is_spelled, spelled_is_read}
use Rattle.plan_text.proofs.Whole.{ReadsSpelled, ReadsTexts, IsPassed, one_in_text}
use Rattle.plan_text.specs.Answer.{AsPlan, text_reading}
use Rattle.plan_text.specs.PlanDraft.{counts_of}
use Rattle.plan_text.specs.PlanReading.{plan_at}
use Rattle.plan_text.proofs.Plans.{read_plan_is_spelled, spelled_plan_is_read}
use Rattle.plan_text.proofs.Whole as whole

abbrev pub exprs_of : PlainExpr → Counts
exprs_of e = counts 0 0 (expr_nodes e)

-- the reader and the grammar say the same of expressions
pub exprs_read : (levels : ℕ) → ReadsSpelled exprs_of (Spells E levels) EndsExpr (λ most. expr_at most (inner most levels))
exprs_read n = record {
  sound = λ most from rest d q. let s = read_is_spelled most n from rest d q in (s.expr, s.is, s.spells);
  complete = λ most e from rest ends s. spelled_is_read most n e from rest ends s;
}

abbrev pub IsTooLong : PlanLimit → PlainExpr → Type 0
IsTooLong what e = (what ≡ Exprs) × (512 < expr_nodes e)

exprs_passed : (what : PlanLimit) (e : PlainExpr) → IsPassed what (exprs_of e) → IsTooLong what e
exprs_passed what e s = let many = s.0 in let first = s.1 in (grind (arith, nat_tests, many, first), grind (arith, nat_tests, many))

too_long : (what : PlanLimit) (e : PlainExpr) → IsTooLong what e → IsPassed what (exprs_of e)
too_long what e s = let is = s.0 in let many = s.1 in (grind (arith, nat_tests, many), grind (arith, nat_tests, is))

pub expr_texts : ReadsTexts exprs_of (Spells E 32) EndsExpr (λ most. expr_at most (inner most 32)) SpellsExpr (λ e. expr_nodes e ≤ 512) IsTooLong
expr_texts = record {
  reads = exprs_read 32;
  ends = tt;
  opened = λ e text s. (s.tokens, s.are, s.spells);
  closed = λ e text s. record { tokens = s.0; are = s.1; spells = s.2 };
  within = λ e. (λ w. grind (arith, nat_tests, w), λ le. grind (arith, nat_tests, le));
  passes = λ what e. (exprs_passed what e, too_long what e);
}

-- the reader and the grammar say the same of plans
pub plans_read : (levels : ℕ) → ReadsSpelled counts_of (SpellsPlan levels) EndsPlan (λ most. plan_at most levels)
plans_read n = record {
  sound = λ most from rest d q. let s = read_plan_is_spelled most n from rest d q in (s.plan, s.is, s.spells);
  complete = λ most p from rest ends s. spelled_plan_is_read most n p from rest ends s;
}

passed : (what : PlanLimit) (p : PlainTree) → IsPassed what (counts_of p) → IsFirstPassed what p
passed Nodes p s = let first = s.1 in grind (arith, nat_tests, first)
passed Wide p s = let first = s.1 in (grind (arith, nat_tests, first), grind (arith, nat_tests, first))
passed Exprs p s = let many = s.0 in let first = s.1 in (grind (arith, nat_tests, first), grind (arith, nat_tests, first), grind (arith, nat_tests, many, first))

first_passed : (what : PlanLimit) (p : PlainTree) → IsFirstPassed what p → IsPassed what (counts_of p)
first_passed Nodes p s = (grind (arith, nat_tests, s), grind (arith, nat_tests, s))
first_passed Wide p s = let few = s.0 in let many = s.1 in (grind (arith, nat_tests, many), grind (arith, nat_tests, few, many))
first_passed Exprs p s = let few = s.0 in let narrow = s.1 in let many = s.2 in (grind (arith, nat_tests, many), grind (arith, nat_tests, few, narrow))

within : (p : PlainTree) → are_within limits (counts_of p) ≡ true → IsWithinLimits p
within p w = (grind (arith, nat_tests, w), grind (arith, nat_tests, w), grind (arith, nat_tests, w))

is_within : (p : PlainTree) → IsWithinLimits p → are_within limits (counts_of p) ≡ true
is_within p w = let few = w.0 in let narrow = w.1 in let small = w.2 in grind (arith, nat_tests, few, narrow, small)

pub plan_texts : ReadsTexts counts_of (SpellsPlan 32) EndsPlan (λ most. plan_at most 32) SpellsText IsWithinLimits IsFirstPassed
plan_texts = record {
  reads = plans_read 32;
  ends = tt;
  opened = λ p text s. (s.tokens, s.are, s.spells);
  closed = λ p text s. record { tokens = s.0; are = s.1; spells = s.2 };
  within = λ p. (within p, is_within p);
  passes = λ what p. (passed what p, first_passed what p);
}

-- a text that is read as a plan spells it
pub reading_plan : (text : List ℕ) (p : PlainTree) → text_reading text ≡ AsPlan p → SpellsText p text × IsWithinLimits p
reading_plan text = whole.reading_plan plan_texts text

pub one_plan_of_text : (p q : PlainTree) (text : List ℕ) → SpellsText p text → SpellsText q text → p ≡ q
one_plan_of_text p q text = one_in_text plan_texts text p q
