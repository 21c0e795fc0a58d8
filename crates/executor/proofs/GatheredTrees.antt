-- Which trees are gathered, by the way and then by the plan.
use Rattle.std.proofs.Common.{◌≡◌, refl, false, ◌&&◌}
use Rattle.plan_core.specs.PlainPlan.{PlainPlan}
use Rattle.plan_core.specs.PlainPlan as plan
use Rattle.estimator.specs.Cuts.{Cuts}
use Rattle.rewrite_core.specs.declared.rewriting.Hit.{Hit}
use Rattle.rewrite_core.specs.declared.rewriting.Parts as parts
use Rattle.rewrite_core.specs.PlainRewriting.{PlainRewriting, Node, PlainWay, Scan, One, Two, Read, grown_way}
use Rattle.growth_laws.specs.Pieces.{is_chain_of, is_gathered}
use Rattle.growth_laws.proofs.PieceFiles.{scan_is_gathered}
use Rattle.executor.specs.Operators.{is_row_wise, gathers}

pub chain_one : (p : PlainPlan) (c : Cuts) (r : PlainRewriting) → is_chain_of (Node p c (One r)) ≡ (is_row_wise p && is_chain_of r)
chain_one (plan.Scan stream) c r = refl
chain_one (plan.Filter child test) c r = refl
chain_one (plan.Project child columns) c r = refl
chain_one (plan.Distinct child) c r = refl
chain_one (plan.Group child keys aggs) c r = refl
chain_one (plan.Join left right on) c r = refl
chain_one (plan.Concat left right) c r = refl
chain_one (plan.Order child keys) c r = refl

pub chain_grown : (p : PlainPlan) (c : Cuts) (hit : Hit) (of : parts.Parts) → is_chain_of (Node p c (grown_way hit of)) ≡ false
chain_grown p c hit (parts.Tail' _ _ _ _) = refl
chain_grown p c hit (parts.LeftGrew' _ _ _ _ _ _ _) = refl
chain_grown p c hit (parts.RightGrew' _ _ _ _ _ _ _) = refl
chain_grown p c hit (parts.BothGrew' _ _ _ _ _ _ _ _ _ _ _ _ _ _) = refl

pub gathered_one : (p : PlainPlan) (c : Cuts) (r : PlainRewriting) → is_gathered (Node p c (One r)) ≡ (gathers p && is_chain_of r)
gathered_one (plan.Scan stream) c r = refl
gathered_one (plan.Filter child test) c r = refl
gathered_one (plan.Project child columns) c r = refl
gathered_one (plan.Distinct child) c r = refl
gathered_one (plan.Group child keys aggs) c r = refl
gathered_one (plan.Join left right on) c r = refl
gathered_one (plan.Concat left right) c r = refl
gathered_one (plan.Order child keys) c r = refl

abbrev IsNotOne : PlainWay → Type 0
IsNotOne (One r) = ⊥
IsNotOne _ = Unit {0}

pub as_chain : (p : PlainPlan) (c : Cuts) (way : PlainWay) → IsNotOne way → is_gathered (Node p c way) ≡ is_chain_of (Node p c way)
as_chain (plan.Distinct child) c (One r) is = absurd is
as_chain (plan.Distinct child) c _ is = refl
as_chain (plan.Group child keys aggs) c (One r) is = absurd is
as_chain (plan.Group child keys aggs) c _ is = refl
as_chain (plan.Scan stream) c way is = refl
as_chain (plan.Filter child test) c way is = refl
as_chain (plan.Project child columns) c way is = refl
as_chain (plan.Join left right on) c way is = refl
as_chain (plan.Concat left right) c way is = refl
as_chain (plan.Order child keys) c way is = refl

pub gathered_two : (p : PlainPlan) (c : Cuts) (l r : PlainRewriting) → is_gathered (Node p c (Two l r)) ≡ false
gathered_two p c l r = as_chain p c (Two l r) tt

pub gathered_read : (p : PlainPlan) (c : Cuts) (hit : Hit) → is_gathered (Node p c (Read hit)) ≡ false
gathered_read p c hit = as_chain p c (Read hit) tt

pub gathered_grown : (p : PlainPlan) (c : Cuts) (hit : Hit) (of : parts.Parts) → is_gathered (Node p c (grown_way hit of)) ≡ false
gathered_grown p c hit (parts.Tail' a b d e) = as_chain p c (grown_way hit (parts.Tail' a b d e)) tt
gathered_grown p c hit (parts.LeftGrew' a b d e f g h) = as_chain p c (grown_way hit (parts.LeftGrew' a b d e f g h)) tt
gathered_grown p c hit (parts.RightGrew' a b d e f g h) = as_chain p c (grown_way hit (parts.RightGrew' a b d e f g h)) tt
gathered_grown p c hit (parts.BothGrew' a b d e f g h i j k l m n o) = as_chain p c (grown_way hit (parts.BothGrew' a b d e f g h i j k l m n o)) tt

pub ruleset of_gathered = (scan_is_gathered, gathered_one, gathered_two, gathered_read, gathered_grown)
