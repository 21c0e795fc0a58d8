-- What plans with two inputs give and take in on longer lists.
use Rattle.std.proofs.Common.{◌≡◌, refl, sym, ap, ◌∙◌, ℕ, ◌+◌, List, [], ◌++◌, append-nil, map, length, take, drop, append_assoc, length-append, Result, Ok, arith}
use Rattle.std.specs.List.{filter}
use Rattle.std.proofs.lemmas.Grind.{flat_map-append}
use Rattle.rows_core.specs.declared.overflow.Overflow.{Overflow}
use Rattle.plan_core.specs.Columns.{Rows}
use Rattle.plan_core.specs.ExpressionValue.{◌>>=◌}
use Rattle.plan_core.specs.Join.{rows_agree, join_rows}
use Rattle.plan_core.specs.MachineTime.{row_count, rows_given, rows_taken_in}
use Rattle.plan_core.specs.PlainPlan.{PlainPlan, Join, Concat, leaf_count}
use Rattle.plan_core.specs.PlanMeaning.{plan_meaning}
use Rattle.plan_laws.specs.GrowthOfRows.{Grows}

-- what f gives of two that have rows
of_both : (m n : Result Rows Overflow) (f : Rows → Rows → Rows) (a b : Rows) → m ≡ Ok a → n ≡ Ok b → (m >>= λ x. n >>= λ y. Ok (f x y)) ≡ Ok (f a b)
of_both m n f a b e g = ap (λ r. r >>= λ x. n >>= λ y. Ok (f x y)) e ∙ ap (λ r. r >>= λ y. Ok (f a y)) g

-- a plan that stays as it is
pub stays : (plan : PlainPlan) (before after : List Rows) (rows : Rows) → before ≡ after → plan_meaning plan before ≡ Ok rows → Grows plan before after rows [] 0
stays plan before after rows same gave = record {
  gave = gave;
  gives = ap (plan_meaning plan) (sym same) ∙ gave ∙ ap Ok (sym (append-nil rows));
  takes_in = let e = ap (rows_taken_in plan) (sym same) in omega (arith, e);
}

-- the rows that a plan gives before and after
given_before : (plan : PlainPlan) (before after : List Rows) (old new : Rows) (more : ℕ) → Grows plan before after old new more → rows_given plan before ≡ length old
given_before plan before after old new more grows = ap row_count grows.gave

given_after : (plan : PlainPlan) (before after : List Rows) (old new : Rows) (more : ℕ) → Grows plan before after old new more → rows_given plan after ≡ length old + length new
given_after plan before after old new more grows = ap row_count grows.gives ∙ length-append old new

module _ (left right : PlainPlan) (before after : List Rows) (left_old left_new right_old right_new : Rows) (left_more right_more : ℕ)
    (lefts : Grows left (take (leaf_count left) before) (take (leaf_count left) after) left_old left_new left_more)
    (rights : Grows right (drop (leaf_count left) before) (drop (leaf_count left) after) right_old right_new right_more) where
  -- what is taken in of both
  two_more : (plan : PlainPlan) → rows_taken_in plan before ≡ rows_given left (take (leaf_count left) before) + rows_taken_in left (take (leaf_count left) before)
      + (rows_given right (drop (leaf_count left) before) + rows_taken_in right (drop (leaf_count left) before))
      → rows_taken_in plan after ≡ rows_given left (take (leaf_count left) after) + rows_taken_in left (take (leaf_count left) after)
      + (rows_given right (drop (leaf_count left) after) + rows_taken_in right (drop (leaf_count left) after))
      → rows_taken_in plan after ≡ rows_taken_in plan before + (length left_new + left_more + (length right_new + right_more))
  two_more plan b a =
      let lb = given_before left _ _ _ _ _ lefts in let la = given_after left _ _ _ _ _ lefts in let lt = lefts.takes_in in
      let rb = given_before right _ _ _ _ _ rights in let ra = given_after right _ _ _ _ _ rights in let rt = rights.takes_in in
      omega (arith, b, a, lb, la, lt, rb, ra, rt)

  pub join_takes_in : (on : List (ℕ × ℕ)) → rows_taken_in (Join left right on) after ≡ rows_taken_in (Join left right on) before + (length left_new + left_more + (length right_new + right_more))
  join_takes_in on = two_more (Join left right on) refl refl

  pub concat_takes_in : rows_taken_in (Concat left right) after ≡ rows_taken_in (Concat left right) before + (length left_new + left_more + (length right_new + right_more))
  concat_takes_in = two_more (Concat left right) refl refl

pub join_grows : (left right : PlainPlan) (on : List (ℕ × ℕ)) (before after : List Rows) (old new rights : Rows) (more : ℕ)
    → Grows left (take (leaf_count left) before) (take (leaf_count left) after) old new more → drop (leaf_count left) before ≡ drop (leaf_count left) after
    → plan_meaning right (drop (leaf_count left) before) ≡ Ok rights → Grows (Join left right on) before after (join_rows on old rights) (join_rows on new rights) (length new + more)
join_grows left right on before after old new rights more grows same gave =
    let n = leaf_count left in
    let right_stays = stays right (drop n before) (drop n after) rights same gave in
    record {
      gave = of_both (plan_meaning left (take n before)) (plan_meaning right (drop n before)) (join_rows on) old rights grows.gave gave;
      gives = of_both (plan_meaning left (take n after)) (plan_meaning right (drop n after)) (join_rows on) (old ++ new) rights grows.gives (ap (plan_meaning right) (sym same) ∙ gave)
          ∙ ap Ok (flat_map-append (λ left. map (λ right. left ++ right) (filter (rows_agree on left) rights)) old new);
      takes_in = let e = join_takes_in left right before after old new rights [] more 0 grows right_stays on in e ∙ ap (λ k. rows_taken_in (Join left right on) before + k) (omega arith);
    }

pub concat_grows : (left right : PlainPlan) (before after : List Rows) (old new lefts : Rows) (more : ℕ)
    → take (leaf_count left) before ≡ take (leaf_count left) after → plan_meaning left (take (leaf_count left) before) ≡ Ok lefts
    → Grows right (drop (leaf_count left) before) (drop (leaf_count left) after) old new more → Grows (Concat left right) before after (lefts ++ old) new (length new + more)
concat_grows left right before after old new lefts more same gave grows =
    let n = leaf_count left in
    let left_stays = stays left (take n before) (take n after) lefts same gave in
    record {
      gave = of_both (plan_meaning left (take n before)) (plan_meaning right (drop n before)) (λ a b. a ++ b) lefts old gave grows.gave;
      gives = of_both (plan_meaning left (take n after)) (plan_meaning right (drop n after)) (λ a b. a ++ b) lefts (old ++ new) (ap (plan_meaning left) (sym same) ∙ gave) grows.gives
          ∙ ap Ok (sym (append_assoc lefts old new));
      takes_in = let e = concat_takes_in left right before after lefts [] old new 0 more left_stays grows in e ∙ ap (λ k. rows_taken_in (Concat left right) before + k) (omega arith);
    }
