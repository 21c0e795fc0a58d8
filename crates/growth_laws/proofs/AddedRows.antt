-- What comes behind the rows of a plan's result, where its lists have grown.
use Rattle.std.proofs.Common.{◌≡◌, refl, sym, ap, ◌∙◌, subst, ℕ, List, [], ◌∷◌, ◌++◌, take, drop, Result, Ok, Err, arith}
use Rattle.rows_core.specs.declared.overflow.Overflow.{Overflow}
use Rattle.plan_core.specs.Columns.{Rows}
use Rattle.plan_core.specs.Distinct.{distinct_rows}
use Rattle.plan_core.specs.ExpressionValue.{◌>>=◌}
use Rattle.plan_core.specs.Filter.{filter_rows}
use Rattle.plan_core.specs.Join.{join_rows}
use Rattle.plan_core.specs.PlainExpr.{PlainExpr}
use Rattle.plan_core.specs.PlainPlan.{PlainPlan, Scan, Filter, Project, Distinct, Group, Join, Concat, Order, leaf_count}
use Rattle.plan_core.specs.PlanMeaning.{plan_meaning}
use Rattle.plan_core.specs.Project.{project_rows}
use Rattle.plan_laws.specs.GrowthOfRows.{Grows, new_rows}
use Rattle.plan_laws.specs.KeptForm.{rows_of_kept}
use Rattle.plan_laws.proofs.Answers.{both_ok}
use Rattle.plan_laws.proofs.Growing.{filter_grows, filter_fails, project_grows, project_fails, distinct_grows}
use Rattle.plan_laws.proofs.GrowingTwo.{stays, join_grows, concat_grows}
use Rattle.rewrite_core.specs.IsRewriting.{OfDistinctChild, OfSides}
use Rattle.growth_laws.specs.Growth.{Added, Made, Extends, IsMade, OfPassedInput}
use Rattle.growth_laws.specs.Making.{with_rows_taken_in, nothing_added, new_extents, taken_in_of, passed_delta, distinct_delta, join_delta}
use Rattle.growth_laws.proofs.ComputedNodes.{means, fails}

pub unchanged : (plan : PlainPlan) (lists : List Rows) → Extends plan lists lists (Ok nothing_added)
unchanged plan lists = λ rows gave. stays plan lists lists rows refl gave

pub scan_grows : (stream : ℕ) (old new : Rows) → Extends (Scan stream) (old ∷ []) ((old ++ new) ∷ []) (Ok (new_extents (new ∷ [])))
scan_grows stream old new = λ rows gave. record {
  gave = gave;
  gives = ap (λ r. r >>= λ rows. Ok (rows ++ new)) gave;
  takes_in = omega arith;
}

-- the input gave rows where the operator did
pub gave_first : {A : Type 0} (m : Result Rows Overflow) (f : Rows → Result A Overflow) (x : A) → (m >>= f) ≡ Ok x → (rows : Rows) × (m ≡ Ok rows) × (f rows ≡ Ok x)
gave_first m f x is = both_ok m f x is

-- ---- tests, columns

module _ (child : PlainPlan) (before after : List Rows) where
  filter_behind : (test : PlainExpr) (added : Added) → Extends child before after (Ok added) → (more : Result Rows Overflow) → filter_rows test added.rows ≡ more
      → Extends (Filter child test) before after (with_rows_taken_in (taken_in_of added) more)
  filter_behind test added grows (Ok more) is = λ rows gave.
      let below = gave_first (plan_meaning child before) (filter_rows test) rows gave in
      filter_grows child before after below.0 added.rows added.taken_in (grows below.0 below.1) test rows more below.2 is
  filter_behind test added grows (Err e) is = λ rows gave.
      let below = gave_first (plan_meaning child before) (filter_rows test) rows gave in
      filter_fails child before after below.0 added.rows added.taken_in (grows below.0 below.1) test is

  filter_extends : (test : PlainExpr) (given : Result Added Overflow) → Extends child before after given → Extends (Filter child test) before after (passed_delta (Filter child test) given)
  filter_extends test (Ok added) grows = filter_behind test added grows (filter_rows test added.rows) refl
  filter_extends test (Err e) grows = λ rows gave.
      let below = gave_first (plan_meaning child before) (filter_rows test) rows gave in
      ap (λ m. m >>= filter_rows test) (grows below.0 below.1)

  project_behind : (columns : List PlainExpr) (added : Added) → Extends child before after (Ok added) → (more : Result Rows Overflow) → project_rows columns added.rows ≡ more
      → Extends (Project child columns) before after (with_rows_taken_in (taken_in_of added) more)
  project_behind columns added grows (Ok more) is = λ rows gave.
      let below = gave_first (plan_meaning child before) (project_rows columns) rows gave in
      project_grows child before after below.0 added.rows added.taken_in (grows below.0 below.1) columns rows more below.2 is
  project_behind columns added grows (Err e) is = λ rows gave.
      let below = gave_first (plan_meaning child before) (project_rows columns) rows gave in
      project_fails child before after below.0 added.rows added.taken_in (grows below.0 below.1) columns is

  project_extends : (columns : List PlainExpr) (given : Result Added Overflow) → Extends child before after given → Extends (Project child columns) before after (passed_delta (Project child columns) given)
  project_extends columns (Ok added) grows = project_behind columns added grows (project_rows columns added.rows) refl
  project_extends columns (Err e) grows = λ rows gave.
      let below = gave_first (plan_meaning child before) (project_rows columns) rows gave in
      ap (λ m. m >>= project_rows columns) (grows below.0 below.1)

-- ---- the right rows of a concatenation

abbrev one_behind : Result Rows Overflow → Result Rows Overflow → Result Rows Overflow
one_behind m n = m >>= λ l. n >>= λ r. Ok (l ++ r)

pub concat_extends : (left right : PlainPlan) (before after : List Rows) (given : Result Added Overflow) → take (leaf_count left) before ≡ take (leaf_count left) after
    → Extends right (drop (leaf_count left) before) (drop (leaf_count left) after) given → Extends (Concat left right) before after (passed_delta (Concat left right) given)
concat_extends left right before after (Ok added) same grows = λ rows gave.
    let n = leaf_count left in
    let first = gave_first (plan_meaning left (take n before)) (λ l. plan_meaning right (drop n before) >>= λ r. Ok (l ++ r)) rows gave in
    let second = gave_first (plan_meaning right (drop n before)) (λ r. Ok (first.0 ++ r)) rows first.2 in
    let grown = concat_grows left right before after second.0 added.rows first.0 added.taken_in same first.1 (grows second.0 second.1) in
    let both : first.0 ++ second.0 ≡ rows = let e = second.2 in cc in
    subst (λ old. Grows (Concat left right) before after old added.rows (taken_in_of added)) both grown
concat_extends left right before after (Err e) same grows = λ rows gave.
    let n = leaf_count left in
    let first = gave_first (plan_meaning left (take n before)) (λ l. plan_meaning right (drop n before) >>= λ r. Ok (l ++ r)) rows gave in
    let second = gave_first (plan_meaning right (drop n before)) (λ r. Ok (first.0 ++ r)) rows first.2 in
    ap (λ m. m >>= λ l. plan_meaning right (drop n after) >>= λ r. Ok (l ++ r)) (ap (plan_meaning left) (sym same) ∙ first.1) ∙ ap (λ m. m >>= λ r. Ok (first.0 ++ r)) (grows second.0 second.1)

pub passed_extends : (plan : PlainPlan) (before after : List Rows) (given : Result Added Overflow) → OfPassedInput (λ input old new. Extends input old new given) plan before after
    → Extends plan before after (passed_delta plan given)
passed_extends (Filter child test) before after given is = filter_extends child before after test given is
passed_extends (Project child columns) before after given is = project_extends child before after columns given is
passed_extends (Concat left right) before after given is = concat_extends left right before after given is.0 is.1
passed_extends (Scan stream) before after given is = absurd is
passed_extends (Distinct child) before after given is = absurd is
passed_extends (Group child keys aggs) before after given is = absurd is
passed_extends (Join left right on) before after given is = absurd is
passed_extends (Order child keys) before after given is = absurd is

-- ---- the first of equal rows

pub ok_is : {A : Type 0} (m : Result A Overflow) (x y : A) → m ≡ Ok x → m ≡ Ok y → x ≡ y
ok_is m x y is so = let e = sym is ∙ so in cc

pub not_both : {A B : Type 0} (m : Result A Overflow) (x : A) (e : Overflow) → m ≡ Ok x → m ≡ Err e → B
not_both m x e is so = let h = sym is ∙ so in absurd (cc)

module _ (child : PlainPlan) (before after : List Rows) where
  distinct_behind : (old : Made) (added : Added) → IsMade (Distinct child) before (Ok old) → Extends child before after (Ok added)
      → (olds : Result Rows Overflow) → rows_of_kept old.kept ≡ olds
      → Extends (Distinct child) before after (olds >>= λ olds. Ok (record { rows = new_rows olds added.rows; taken_in = taken_in_of added }))
  distinct_behind old added is grows (Ok olds) so = λ rows gave.
      let below = gave_first (plan_meaning child before) (λ rows. Ok (distinct_rows rows)) rows gave in
      let grown = distinct_grows child before after below.0 added.rows added.taken_in (grows below.0 below.1) in
      let here : distinct_rows below.0 ≡ rows = ok_is (plan_meaning (Distinct child) before) (distinct_rows below.0) rows (ap (λ r. r >>= λ rows. Ok (distinct_rows rows)) below.1) gave in
      let there : rows ≡ olds = ok_is (plan_meaning (Distinct child) before) rows olds gave (means (Distinct child) before old is ∙ so) in
      subst (λ l. Grows (Distinct child) before after rows (new_rows l added.rows) (taken_in_of added)) there
      (subst (λ l. Grows (Distinct child) before after l (new_rows l added.rows) (taken_in_of added)) here grown)
  distinct_behind old added is grows (Err e) so = λ rows gave.
      not_both (plan_meaning (Distinct child) before) rows e gave (means (Distinct child) before old is ∙ so)

  pub distinct_extends : (made : Result Made Overflow) (given : Result Added Overflow) → IsMade (Distinct child) before made → Extends child before after given
      → Extends (Distinct child) before after (distinct_delta made given)
  distinct_extends (Ok old) (Ok added) is grows = distinct_behind old added is grows (rows_of_kept old.kept) refl
  distinct_extends (Ok old) (Err e) is grows = λ rows gave.
      let below = gave_first (plan_meaning child before) (λ rows. Ok (distinct_rows rows)) rows gave in
      ap (λ m. m >>= λ rows. Ok (distinct_rows rows)) (grows below.0 below.1)
  distinct_extends (Err e) given is grows = λ rows gave. not_both (plan_meaning (Distinct child) before) rows e gave (fails (Distinct child) before e is)

-- ---- the new left rows of a join

module _ (left right : PlainPlan) (on : List (ℕ × ℕ)) (before after : List Rows) (same : drop (leaf_count left) before ≡ drop (leaf_count left) after) where
  -- the rows that both inputs gave
  inputs : (rows : Rows) → plan_meaning (Join left right on) before ≡ Ok rows
      → (l : Rows) × (r : Rows) × (plan_meaning left (take (leaf_count left) before) ≡ Ok l) × (plan_meaning right (drop (leaf_count left) before) ≡ Ok r) × (join_rows on l r ≡ rows)
  inputs rows gave =
      let n = leaf_count left in
      let first = gave_first (plan_meaning left (take n before)) (λ l. plan_meaning right (drop n before) >>= λ r. Ok (join_rows on l r)) rows gave in
      let second = gave_first (plan_meaning right (drop n before)) (λ r. Ok (join_rows on first.0 r)) rows first.2 in
      let both : join_rows on first.0 second.0 ≡ rows = let e = second.2 in cc in
      (first.0, second.0, first.1, second.1, both)

  join_behind : (added : Added) (other : Made) → Extends left (take (leaf_count left) before) (take (leaf_count left) after) (Ok added) → IsMade right (drop (leaf_count left) after) (Ok other)
      → (rights : Result Rows Overflow) → rows_of_kept other.kept ≡ rights
      → Extends (Join left right on) before after (rights >>= λ rights. Ok (record { rows = join_rows on added.rows rights; taken_in = taken_in_of added }))
  join_behind added other grows is (Ok rights) so = λ rows gave.
      let n = leaf_count left in
      let both = inputs rows gave in
      let grown = join_grows left right on before after both.0 added.rows both.1 added.taken_in (grows both.0 both.2) same both.3 in
      let here : both.1 ≡ rights = ok_is (plan_meaning right (drop n before)) both.1 rights both.3 (ap (plan_meaning right) same ∙ means right (drop n after) other is ∙ so) in
      subst (λ l. Grows (Join left right on) before after rows (join_rows on added.rows l) (taken_in_of added)) here
      (subst (λ l. Grows (Join left right on) before after l (join_rows on added.rows both.1) (taken_in_of added)) both.4 grown)
  join_behind added other grows is (Err e) so = λ rows gave.
      let n = leaf_count left in
      let both = inputs rows gave in
      not_both (plan_meaning right (drop n before)) both.1 e both.3 (ap (plan_meaning right) same ∙ means right (drop n after) other is ∙ so)

  pub join_extends : (given : Result Added Overflow) (made : Result Made Overflow) → Extends left (take (leaf_count left) before) (take (leaf_count left) after) given → IsMade right (drop (leaf_count left) after) made
      → Extends (Join left right on) before after (join_delta (Join left right on) given made)
  join_extends (Ok added) (Ok other) grows is = join_behind added other grows is (rows_of_kept other.kept) refl
  join_extends (Ok added) (Err e) grows is = λ rows gave.
      let n = leaf_count left in
      let both = inputs rows gave in
      not_both (plan_meaning right (drop n before)) both.1 e both.3 (ap (plan_meaning right) same ∙ fails right (drop n after) e is)
  join_extends (Err e) made grows is = λ rows gave.
      let n = leaf_count left in
      let both = inputs rows gave in
      ap (λ m. m >>= λ l. plan_meaning right (drop n after) >>= λ r. Ok (join_rows on l r)) (grows both.0 both.2)

-- ---- by the plan

pub distinct_added : (plan : PlainPlan) (before after : List Rows) (made : Result Made Overflow) (given : Result Added Overflow) → IsMade plan before made
    → OfDistinctChild (λ child. Extends child before after given) plan → Extends plan before after (distinct_delta made given)
distinct_added (Distinct child) before after made given is grows = distinct_extends child before after made given is grows
distinct_added (Scan stream) before after made given is grows = absurd grows
distinct_added (Filter child test) before after made given is grows = absurd grows
distinct_added (Project child columns) before after made given is grows = absurd grows
distinct_added (Group child keys aggs) before after made given is grows = absurd grows
distinct_added (Join left right on) before after made given is grows = absurd grows
distinct_added (Concat left right) before after made given is grows = absurd grows
distinct_added (Order child keys) before after made given is grows = absurd grows

pub join_added : (plan : PlainPlan) (before after : List Rows) (given : Result Added Overflow) (made : Result Made Overflow)
    → OfSides (λ left right. (drop (leaf_count left) before ≡ drop (leaf_count left) after)
    × Extends left (take (leaf_count left) before) (take (leaf_count left) after) given × IsMade right (drop (leaf_count left) after) made) plan
    → Extends plan before after (join_delta plan given made)
join_added (Join left right on) before after given made is = join_extends left right on before after is.0 given made is.1 is.2
join_added (Scan stream) before after given made is = absurd is
join_added (Filter child test) before after given made is = absurd is
join_added (Project child columns) before after given made is = absurd is
join_added (Distinct child) before after given made is = absurd is
join_added (Group child keys aggs) before after given made is = absurd is
join_added (Concat left right) before after given made is = absurd is
join_added (Order child keys) before after given made is = absurd is
