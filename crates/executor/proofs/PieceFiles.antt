-- How many files pieces have.
use Rattle.std.proofs.Common.{◌≡◌, ◌≢◌, ℕ, ◌+◌, ◌-◌, ◌≤◌, List, [], ◌∷◌, ◌++◌, length, refl, arith, length-append}
use Rattle.std.specs.List.{flat_map}
use Rattle.plan_core.specs.PlainPlan.{PlainPlan, Scan, Filter, Project, Distinct, Group, Join, Concat, Order, leaves, leaf_count}
use Rattle.rows_core.specs.declared.cut.Cut.{Cut}
use Rattle.estimator.specs.Cuts.{Cuts}
use Rattle.rewrite_core.proofs.FileLemmas.{length_of_extents}
use Rattle.growth_laws.specs.Pieces.{Piece, piece_files, gathered_files}

pub gathered_in_one : (streams : List ℕ) (cut : Cut) → length streams ≡ 1 → length (gathered_files streams (cut ∷ [])) ≡ cut.to - cut.from
gathered_in_one [] cut is = absurd (cc)
gathered_in_one (stream ∷ []) cut is = length_of_extents stream cut.from (cut.to - cut.from)
gathered_in_one (stream ∷ next ∷ streams) cut is = absurd (omega arith)

pub gathered_in_none : (streams : List ℕ) (cut : Cut) → length streams ≢ 1 → length (gathered_files streams (cut ∷ [])) ≡ 0
gathered_in_none [] cut is = refl
gathered_in_none (stream ∷ []) cut is = absurd (is refl)
gathered_in_none (stream ∷ next ∷ streams) cut is = refl

pub no_cut : (streams : List ℕ) → gathered_files streams [] ≡ []
no_cut [] = refl
no_cut (stream ∷ []) = refl
no_cut (stream ∷ next ∷ streams) = refl

pub two_cuts : (streams : List ℕ) (first second : Cut) (cuts : Cuts) → gathered_files streams (first ∷ second ∷ cuts) ≡ []
two_cuts [] first second cuts = refl
two_cuts (stream ∷ []) first second cuts = refl
two_cuts (stream ∷ next ∷ streams) first second cuts = refl

pub ruleset of_gathered_files = (gathered_in_one, gathered_in_none, no_cut, two_cuts)

pub length_of_joined : (piece : Piece) (pieces : List Piece) → length (flat_map piece_files (piece ∷ pieces)) ≡ length (piece_files piece) + length (flat_map piece_files pieces)
length_of_joined piece pieces = length-append (piece_files piece) (flat_map piece_files pieces)

has_leaf : (p : PlainPlan) → 1 ≤ leaf_count p
has_leaf (Scan stream) = omega arith
has_leaf (Filter child test) = has_leaf child
has_leaf (Project child columns) = has_leaf child
has_leaf (Distinct child) = has_leaf child
has_leaf (Group child keys aggs) = has_leaf child
has_leaf (Join l r on) = omega (arith, has_leaf l, length-append (leaves l) (leaves r))
has_leaf (Concat l r) = omega (arith, has_leaf l, length-append (leaves l) (leaves r))
has_leaf (Order child keys) = has_leaf child

pub two_inputs : (l r : PlainPlan) → length (leaves l ++ leaves r) ≢ 1
two_inputs l r is = omega (arith, has_leaf l, has_leaf r, length-append (leaves l) (leaves r), is)

pub ruleset of_two_inputs = (two_inputs)
