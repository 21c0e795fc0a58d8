-- The rows of rewritings without a grown part.
use Rattle.std.proofs.Common.{◌≡◌, refl, ap, ◌∙◌, ℕ, ◌+◌, length, Result, Ok, Err}
use Rattle.rows_core.specs.declared.overflow.Overflow.{Overflow}
use Rattle.row_blob.specs.declared.kept.Kept.{Kept}
use Rattle.plan_core.specs.Columns.{Rows}
use Rattle.plan_core.specs.ExpressionValue.{◌>>=◌}
use Rattle.plan_core.specs.Filter.{filter_rows}
use Rattle.plan_core.specs.Project.{project_rows}
use Rattle.plan_core.specs.PlainPlan.{PlainPlan, Scan, Filter, Project, Distinct, Group, Join, Concat, Order}
use Rattle.plan_laws.specs.KeptForm.{rows_of_kept}
use Rattle.plan_laws.proofs.KeptRows.{groups_kept, join_kept}
use Rattle.estimator.specs.Cuts.{Cuts}
use Rattle.rewrite_core.specs.PlainRewriting.{PlainRewriting, Node, PlainWay, One, Two, Read, Tail, LeftGrew, RightGrew, BothGrew}
use Rattle.rewrite_core.specs.PlainRewriting as tree
use Rattle.growth_laws.specs.Given.{rows_of_one, rows_of_two, IsUngrown, IsUngrownWay, rows_given_by, rows_given_in}
use Rattle.growth_laws.specs.Growth.{Made, rows_of_made}
use Rattle.growth_laws.specs.KeptResults.{KeptResults}
use Rattle.growth_laws.specs.Lists.{Extents}
use Rattle.growth_laws.specs.Making.{as_rows, with_taken_in, kept_of_one, computed_one, kept_of_two, computed_two}
use Rattle.growth_laws.specs.Trees.{made_by, made_in}

rows_back : (given : Result Rows Overflow) → (as_rows given >>= rows_of_kept) ≡ given
rows_back (Ok rows) = refl
rows_back (Err e) = refl

one_back : (plan : PlainPlan) (rows : Rows) → (kept_of_one plan rows >>= rows_of_kept) ≡ rows_of_one plan rows
one_back (Filter child test) rows = rows_back (filter_rows test rows)
one_back (Project child columns) rows = rows_back (project_rows columns rows)
one_back (Distinct child) rows = refl
one_back (Group child keys aggs) rows = groups_kept keys aggs rows
one_back (Order child keys) rows = refl
one_back (Scan stream) rows = refl
one_back (Join left right on) rows = refl
one_back (Concat left right) rows = refl

two_back : (plan : PlainPlan) (lefts rights : Rows) → rows_of_kept (kept_of_two plan lefts rights) ≡ Ok (rows_of_two plan lefts rights)
two_back (Join left right on) lefts rights = ap Ok (join_kept 0 on lefts rights)
two_back (Concat left right) lefts rights = refl
two_back (Scan stream) lefts rights = refl
two_back (Filter child test) lefts rights = refl
two_back (Project child columns) lefts rights = refl
two_back (Distinct child) lefts rights = refl
two_back (Group child keys aggs) lefts rights = refl
two_back (Order child keys) lefts rights = refl

untimed : (taken_in : ℕ) (given : Result Kept Overflow) → rows_of_made (with_taken_in taken_in given) ≡ (given >>= rows_of_kept)
untimed taken_in (Ok form) = refl
untimed taken_in (Err e) = refl

one_rows : (plan : PlainPlan) (given : Result Made Overflow) → rows_of_made (computed_one plan given) ≡ (rows_of_made given >>= rows_of_one plan)
one_rows plan (Err e) = refl
one_rows plan (Ok child) = by (rows_of_kept child.kept)
  where
    by : (rows : Result Rows Overflow) → rows_of_made (rows >>= λ rows. with_taken_in (length rows + child.taken_in) (kept_of_one plan rows)) ≡ (rows >>= rows_of_one plan)
    by (Ok rows) = untimed (length rows + child.taken_in) (kept_of_one plan rows) ∙ one_back plan rows
    by (Err e) = refl

two_rows : (plan : PlainPlan) (a b : Result Made Overflow) → rows_of_made (computed_two plan a b) ≡ (rows_of_made a >>= λ lefts. rows_of_made b >>= λ rights. Ok (rows_of_two plan lefts rights))
two_rows plan (Err e) b = refl
two_rows plan (Ok left) (Err e) = by (rows_of_kept left.kept)
  where
    by : (lefts : Result Rows Overflow) → rows_of_made (Err e) ≡ (lefts >>= λ lefts. rows_of_made (Err e) >>= λ rights. Ok (rows_of_two plan lefts rights))
    by (Ok lefts) = refl
    by (Err f) = refl
two_rows plan (Ok left) (Ok right) = by (rows_of_kept left.kept) (rows_of_kept right.kept)
  where
    by : (lefts rights : Result Rows Overflow)
        → rows_of_made (lefts >>= λ lefts. rights >>= λ rights. Ok (record { kept = kept_of_two plan lefts rights; taken_in = length lefts + left.taken_in + (length rights + right.taken_in) }))
        ≡ (lefts >>= λ lefts. rights >>= λ rights. Ok (rows_of_two plan lefts rights))
    by (Ok lefts) (Ok rights) = two_back plan lefts rights
    by (Ok lefts) (Err e) = refl
    by (Err e) rights = refl

module _ (extents : Extents) (results : KeptResults) where
  mutual
    pub given_rows : (r : PlainRewriting) → IsUngrown r → rows_of_made (made_by extents results r) ≡ rows_given_by extents results r
    given_rows (Node plan cuts way) is = given_way way plan cuts is

    given_way : (way : PlainWay) (plan : PlainPlan) (cuts : Cuts) → IsUngrownWay way → rows_of_made (made_in extents results plan cuts way) ≡ rows_given_in extents results plan cuts way
    given_way tree.Scan plan cuts is = refl
    given_way (One r) plan cuts is = one_rows plan (made_by extents results r) ∙ ap (λ rows. rows >>= rows_of_one plan) (given_rows r is)
    given_way (Two l r) plan cuts is =
        two_rows plan (made_by extents results l) (made_by extents results r)
        ∙ ap (λ lefts. lefts >>= λ lefts. rows_of_made (made_by extents results r) >>= λ rights. Ok (rows_of_two plan lefts rights)) (given_rows l is.0)
        ∙ ap (λ rights. rows_given_by extents results l >>= λ lefts. rights >>= λ rights. Ok (rows_of_two plan lefts rights)) (given_rows r is.1)
    given_way (Read hit) plan cuts is = refl
    given_way (Tail hit d) plan cuts is = absurd is
    given_way (LeftGrew hit d r) plan cuts is = absurd is
    given_way (RightGrew hit l d) plan cuts is = absurd is
    given_way (BothGrew hit l rd ld r) plan cuts is = absurd is
