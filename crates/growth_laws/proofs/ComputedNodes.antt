-- What a computed node makes is what is kept of its plan's result.
use Rattle.std.proofs.Common.{◌≡◌, refl, sym, ap, ◌∙◌, ◌+◌, List, ◌++◌, length, take, drop, Result, Ok, Err, arith}
use Rattle.rows_core.specs.declared.overflow.Overflow.{Overflow}
use Rattle.row_blob.specs.declared.kept.Kept.{Kept}
use Rattle.row_blob.specs.declared.kept.Kept.TheVariants as kept
use Rattle.plan_core.specs.Columns.{Rows}
use Rattle.plan_core.specs.ExpressionValue.{◌>>=◌}
use Rattle.plan_core.specs.Filter.{filter_rows}
use Rattle.plan_core.specs.MachineTime.{row_count, rows_given, rows_taken_in}
use Rattle.plan_core.specs.PlainPlan.{PlainPlan, Scan, Filter, Project, Distinct, Group, Join, Concat, Order, leaf_count}
use Rattle.plan_core.specs.PlanMeaning.{plan_meaning}
use Rattle.plan_core.specs.Project.{project_rows}
use Rattle.plan_core.specs.Distinct.{distinct_rows}
use Rattle.plan_core.specs.StableOrder.{order_rows}
use Rattle.plan_laws.specs.KeptForm.{kept_form, rows_of_kept}
use Rattle.plan_laws.proofs.KeptRows.{kept_rows}
use Rattle.rewrite_core.specs.IsRewriting.{OfOne, OfTwo, IsScan}
use Rattle.growth_laws.specs.Growth.{Made, IsMade}
use Rattle.growth_laws.specs.Making.{scanned, with_taken_in, kept_of_one, computed_one, kept_of_two, computed_two}

-- there is one overflow
pub one_overflow : (e f : Overflow) → e ≡ f
one_overflow e f = refl

pub one_after_other : {A B C : Type 0} (m : Result A Overflow) (f : A → Result B Overflow) (g : B → Result C Overflow) → ((m >>= f) >>= g) ≡ (m >>= λ x. f x >>= g)
one_after_other (Ok x) f g = refl
one_after_other (Err e) f g = refl

-- the rows of what was made are the plan's
pub means : (plan : PlainPlan) (lists : List Rows) (made : Made) → IsMade plan lists (Ok made) → plan_meaning plan lists ≡ rows_of_kept made.kept
means plan lists made is = sym (kept_rows plan lists) ∙ ap (λ form. form >>= rows_of_kept) is.0

pub fails : (plan : PlainPlan) (lists : List Rows) (e : Overflow) → IsMade plan lists (Err e) → plan_meaning plan lists ≡ Err e
fails plan lists e is = sym (kept_rows plan lists) ∙ ap (λ form. form >>= rows_of_kept) is

module _ (plan child : PlainPlan) (lists : List Rows) (form : kept_form plan lists ≡ (plan_meaning child lists >>= kept_of_one plan))
    (takes_in : rows_taken_in plan lists ≡ rows_given child lists + rows_taken_in child lists) where
  over : (rows : Result Rows Overflow) → plan_meaning child lists ≡ rows → kept_form plan lists ≡ (rows >>= kept_of_one plan)
  over rows is = form ∙ ap (λ m. m >>= kept_of_one plan) is

  module _ (below : Made) (is : IsMade child lists (Ok below)) where
    kept_so : (rows : Rows) → plan_meaning child lists ≡ Ok rows → (form : Result Kept Overflow) → kept_form plan lists ≡ form → IsMade plan lists (with_taken_in (length rows + below.taken_in) form)
    kept_so rows gave (Err e) so = so
    kept_so rows gave (Ok form) so =
        let given : rows_given child lists ≡ length rows = ap row_count gave in
        let before : rows_taken_in child lists ≡ below.taken_in = is.1 in
        let more = takes_in in
        (so, omega (arith, more, given, before))

    made_so : (rows : Result Rows Overflow) → plan_meaning child lists ≡ rows → IsMade plan lists (rows >>= λ rows. with_taken_in (length rows + below.taken_in) (kept_of_one plan rows))
    made_so (Err e) gave = over (Err e) gave
    made_so (Ok rows) gave = kept_so rows gave (kept_of_one plan rows) (over (Ok rows) gave)

  made_one : (given : Result Made Overflow) → IsMade child lists given → IsMade plan lists (computed_one plan given)
  made_one (Err e) is = over (Err e) (fails child lists e is)
  made_one (Ok below) is = made_so below is (rows_of_kept below.kept) (means child lists below is)

pub one_made : (plan : PlainPlan) (lists : List Rows) (given : Result Made Overflow) → OfOne (λ child. IsMade child lists given) plan → IsMade plan lists (computed_one plan given)
one_made (Filter child test) lists given is =
    made_one (Filter child test) child lists (one_after_other (plan_meaning child lists) (filter_rows test) (λ rows. Ok (kept.Rows rows))) refl given is
one_made (Project child columns) lists given is =
    made_one (Project child columns) child lists (one_after_other (plan_meaning child lists) (project_rows columns) (λ rows. Ok (kept.Rows rows))) refl given is
one_made (Distinct child) lists given is =
    made_one (Distinct child) child lists (one_after_other (plan_meaning child lists) (λ rows. Ok (distinct_rows rows)) (λ rows. Ok (kept.Rows rows))) refl given is
one_made (Group child keys aggs) lists given is = made_one (Group child keys aggs) child lists refl refl given is
one_made (Order child keys) lists given is =
    made_one (Order child keys) child lists (one_after_other (plan_meaning child lists) (λ rows. Ok (order_rows keys rows)) (λ rows. Ok (kept.Rows rows))) refl given is
one_made (Scan stream) lists given is = absurd is
one_made (Join left right on) lists given is = absurd is
one_made (Concat left right) lists given is = absurd is

-- ---- two inputs

-- an overflow of the second, whatever the first is
pub second_fails : {A : Type 0} (m n : Result Rows Overflow) (f : Rows → Rows → Result A Overflow) (e : Overflow) → n ≡ Err e → (m >>= λ x. n >>= f x) ≡ Err e
second_fails (Ok x) n f e is = ap (λ n. n >>= f x) is
second_fails (Err g) n f e is = refl

module _ (plan left right : PlainPlan) (lists lefts rights : List Rows)
    (form : kept_form plan lists ≡ (plan_meaning left lefts >>= λ l. plan_meaning right rights >>= λ r. Ok (kept_of_two plan l r)))
    (takes_in : rows_taken_in plan lists ≡ rows_given left lefts + rows_taken_in left lefts + (rows_given right rights + rows_taken_in right rights)) where
  over_two : (l r : Result Rows Overflow) → plan_meaning left lefts ≡ l → plan_meaning right rights ≡ r → kept_form plan lists ≡ (l >>= λ l. r >>= λ r. Ok (kept_of_two plan l r))
  over_two l r is so =
      form ∙ ap (λ m. m >>= λ l. plan_meaning right rights >>= λ r. Ok (kept_of_two plan l r)) is
      ∙ ap (λ m. l >>= λ l. m >>= λ r. Ok (kept_of_two plan l r)) so

  made_so_two : (a b : Made) → IsMade left lefts (Ok a) → IsMade right rights (Ok b) → (l r : Result Rows Overflow) → plan_meaning left lefts ≡ l → plan_meaning right rights ≡ r
      → IsMade plan lists (l >>= λ l. r >>= λ r. Ok (record { kept = kept_of_two plan l r; taken_in = length l + a.taken_in + (length r + b.taken_in) }))
  made_so_two a b is so (Err e) r gave gives = over_two (Err e) r gave gives
  made_so_two a b is so (Ok l) (Err e) gave gives = over_two (Ok l) (Err e) gave gives
  made_so_two a b is so (Ok l) (Ok r) gave gives =
      let given_left : rows_given left lefts ≡ length l = ap row_count gave in
      let given_right : rows_given right rights ≡ length r = ap row_count gives in
      let before_left : rows_taken_in left lefts ≡ a.taken_in = is.1 in
      let before_right : rows_taken_in right rights ≡ b.taken_in = so.1 in
      let more = takes_in in
      (over_two (Ok l) (Ok r) gave gives, omega (arith, more, given_left, given_right, before_left, before_right))

  made_two : (a b : Result Made Overflow) → IsMade left lefts a → IsMade right rights b → IsMade plan lists (computed_two plan a b)
  made_two (Err e) b is so = over_two (Err e) (plan_meaning right rights) (fails left lefts e is) refl
  made_two (Ok a) (Err e) is so =
      form ∙ second_fails (plan_meaning left lefts) (plan_meaning right rights) (λ l r. Ok (kept_of_two plan l r)) e (fails right rights e so)
  made_two (Ok a) (Ok b) is so = made_so_two a b is so (rows_of_kept a.kept) (rows_of_kept b.kept) (means left lefts a is) (means right rights b so)

-- the rows of two, one behind the other, as they are kept
joined_kept : (m n : Result Rows Overflow) → ((m >>= λ l. n >>= λ r. Ok (l ++ r)) >>= λ rows. Ok (kept.Rows rows)) ≡ (m >>= λ l. n >>= λ r. Ok (kept.Rows (l ++ r)))
joined_kept (Ok l) (Ok r) = refl
joined_kept (Ok l) (Err e) = refl
joined_kept (Err e) n = refl

pub two_made : (plan : PlainPlan) (lists : List Rows) (a b : Result Made Overflow)
    → OfTwo (λ left right. IsMade left (take (leaf_count left) lists) a × IsMade right (drop (leaf_count left) lists) b) plan
    → IsMade plan lists (computed_two plan a b)
two_made (Join left right on) lists a b is =
    made_two (Join left right on) left right lists (take (leaf_count left) lists) (drop (leaf_count left) lists) refl refl a b is.0 is.1
two_made (Concat left right) lists a b is =
    let lefts = take (leaf_count left) lists in
    let rights = drop (leaf_count left) lists in
    made_two (Concat left right) left right lists lefts rights (joined_kept (plan_meaning left lefts) (plan_meaning right rights)) refl a b is.0 is.1
two_made (Scan stream) lists a b is = absurd is
two_made (Filter child test) lists a b is = absurd is
two_made (Project child columns) lists a b is = absurd is
two_made (Distinct child) lists a b is = absurd is
two_made (Group child keys aggs) lists a b is = absurd is
two_made (Order child keys) lists a b is = absurd is

-- ---- a scan

pub scan_made : (plan : PlainPlan) (lists : List Rows) → IsScan plan → IsMade plan lists (Ok (scanned lists))
scan_made (Scan stream) lists is = (refl, refl)
scan_made (Join left right on) lists is = absurd is
scan_made (Concat left right) lists is = absurd is
scan_made (Filter child test) lists is = absurd is
scan_made (Project child columns) lists is = absurd is
scan_made (Distinct child) lists is = absurd is
scan_made (Group child keys aggs) lists is = absurd is
scan_made (Order child keys) lists is = absurd is
