-- What is made of the earlier result of a join and of the rows that have come on one side or on both.
use Rattle.std.proofs.Common.{◌≡◌, refl, sym, ap, ◌∙◌, ℕ, ◌+◌, List, [], ◌++◌, length, take, drop, length-append, Result, Ok, Err, arith}
use Rattle.rows_core.specs.declared.overflow.Overflow.{Overflow}
use Rattle.row_blob.specs.declared.kept.Kept.{Kept}
use Rattle.row_blob.specs.declared.kept.Kept.TheVariants as kept
use Rattle.plan_core.specs.Columns.{Rows}
use Rattle.plan_core.specs.ExpressionValue.{◌>>=◌}
use Rattle.plan_core.specs.MachineTime.{rows_taken_in}
use Rattle.plan_core.specs.PlainPlan.{PlainPlan, Scan, Filter, Project, Distinct, Group, Join, Concat, Order, leaf_count}
use Rattle.plan_core.specs.PlanMeaning.{plan_meaning}
use Rattle.plan_laws.specs.GrowthOfJoins.{merge_by_position}
use Rattle.plan_laws.specs.GrowthOfRows.{Grows}
use Rattle.plan_laws.specs.KeptForm.{kept_form, tagged_from, rows_of_kept}
use Rattle.plan_laws.proofs.GrowingTwo.{stays, join_takes_in}
use Rattle.plan_laws.proofs.TaggedMerge.{left_grows, right_grows, both_grow}
use Rattle.rewrite_core.specs.IsRewriting.{OfSides}
use Rattle.growth_laws.specs.Growth.{Added, Made, Extends, IsMade}
use Rattle.growth_laws.specs.Making.{kept_tagged, left_length, taken_in_of, with_new_lefts, with_new_rights, grown_left, grown_right, grown_both}
use Rattle.growth_laws.proofs.AddedRows.{gave_first, ok_is, not_both}
use Rattle.growth_laws.proofs.ComputedNodes.{means, fails, second_fails}

counted_on : (on : List (ℕ × ℕ)) (l news rights : Rows) → tagged_from (0 + length l) on news rights ≡ tagged_from (length l) on news rights
counted_on on l news rights = ap (λ n. tagged_from n on news rights) (omega arith)

module _ (left right : PlainPlan) (on : List (ℕ × ℕ)) where
  abbrev pub form_of : Rows → Rows → Kept
  form_of l r = kept.Tagged (length l) (tagged_from 0 on l r)

  form_is : (lists : List Rows) (l r : Rows) → plan_meaning left (take (leaf_count left) lists) ≡ Ok l → plan_meaning right (drop (leaf_count left) lists) ≡ Ok r → kept_form (Join left right on) lists ≡ Ok (form_of l r)
  form_is lists l r gave gives =
      ap (λ m. m >>= λ l. plan_meaning right (drop (leaf_count left) lists) >>= λ r. Ok (form_of l r)) gave ∙ ap (λ m. m >>= λ r. Ok (form_of l r)) gives

  left_fails : (lists : List Rows) (e : Overflow) → plan_meaning left (take (leaf_count left) lists) ≡ Err e → kept_form (Join left right on) lists ≡ Err e
  left_fails lists e is = ap (λ m. m >>= λ l. plan_meaning right (drop (leaf_count left) lists) >>= λ r. Ok (form_of l r)) is

  right_fails : (lists : List Rows) (e : Overflow) → plan_meaning right (drop (leaf_count left) lists) ≡ Err e → kept_form (Join left right on) lists ≡ Err e
  right_fails lists e is = second_fails (plan_meaning left (take (leaf_count left) lists)) (plan_meaning right (drop (leaf_count left) lists)) (λ l r. Ok (form_of l r)) e is

  module _ (before after : List Rows) (old : Made) (is : IsMade (Join left right on) before (Ok old)) where
    -- what both inputs gave
    pub inputs : (l : Rows) × (r : Rows) × (plan_meaning left (take (leaf_count left) before) ≡ Ok l) × (plan_meaning right (drop (leaf_count left) before) ≡ Ok r) × (form_of l r ≡ old.kept)
    inputs =
        let n = leaf_count left in
        let first = gave_first (plan_meaning left (take n before)) (λ l. plan_meaning right (drop n before) >>= λ r. Ok (form_of l r)) old.kept is.0 in
        let second = gave_first (plan_meaning right (drop n before)) (λ r. Ok (form_of first.0 r)) old.kept first.2 in
        (first.0, second.0, first.1, second.1, ok_is (Ok (form_of first.0 second.0)) (form_of first.0 second.0) old.kept refl second.2)

    takes_in : (ln rn : Rows) (lm rm : ℕ) → Grows left (take (leaf_count left) before) (take (leaf_count left) after) inputs.0 ln lm → Grows right (drop (leaf_count left) before) (drop (leaf_count left) after) inputs.1 rn rm
        → rows_taken_in (Join left right on) after ≡ old.taken_in + (length ln + lm + (length rn + rm))
    takes_in ln rn lm rm lefts rights =
        join_takes_in left right before after inputs.0 ln inputs.1 rn lm rm lefts rights on ∙ ap (λ taken. taken + (length ln + lm + (length rn + rm))) is.1

    -- ---- the left input

    module _ (same : drop (leaf_count left) before ≡ drop (leaf_count left) after) where
      right_is : plan_meaning right (drop (leaf_count left) after) ≡ Ok inputs.1
      right_is = ap (plan_meaning right) (sym same) ∙ inputs.3

      left_so : (added : Added) → Extends left (take (leaf_count left) before) (take (leaf_count left) after) (Ok added) → (rights : Result Rows Overflow) → plan_meaning right (drop (leaf_count left) after) ≡ rights
          → IsMade (Join left right on) after (rights >>= λ rights. Ok (record { kept = with_new_lefts on (left_length old.kept) (kept_tagged old.kept) added.rows rights; taken_in = old.taken_in + taken_in_of added }))
      left_so added grows (Ok rights) gives =
          let n = leaf_count left in
          let l = inputs.0 in
          let r = inputs.1 in
          let grown = grows l inputs.2 in
          let other : r ≡ rights = ok_is (plan_meaning right (drop n after)) r rights right_is gives in
          let more = takes_in added.rows [] added.taken_in 0 grown (stays right (drop n before) (drop n after) r same inputs.3) in (
            form_is after (l ++ added.rows) rights grown.gives gives
                ∙ ap (λ k. Ok (kept.Tagged k (tagged_from 0 on (l ++ added.rows) rights))) (length-append l added.rows)
                ∙ ap (λ rows. Ok (kept.Tagged (length l + length added.rows) rows)) (left_grows 0 on l added.rows rights ∙ ap (λ rows. tagged_from 0 on l rights ++ rows) (counted_on on l added.rows rights)
                ∙ ap (λ other. tagged_from 0 on l other ++ tagged_from (length l) on added.rows rights) (sym other))
                ∙ ap (λ form. Ok (with_new_lefts on (left_length form) (kept_tagged form) added.rows rights)) inputs.4,
            more ∙ ap (λ k. old.taken_in + k) (omega arith),
          )
      left_so added grows (Err e) gives = not_both (plan_meaning right (drop (leaf_count left) after)) inputs.1 e right_is gives

      pub left_made : (given : Result Added Overflow) (made : Result Made Overflow) → Extends left (take (leaf_count left) before) (take (leaf_count left) after) given → IsMade right (drop (leaf_count left) after) made
          → IsMade (Join left right on) after (grown_left (Join left right on) old given made)
      left_made (Ok added) (Ok other) grows so = left_so added grows (rows_of_kept other.kept) (means right (drop (leaf_count left) after) other so)
      left_made (Ok added) (Err e) grows so = not_both (plan_meaning right (drop (leaf_count left) after)) inputs.1 e right_is (fails right (drop (leaf_count left) after) e so)
      left_made (Err e) made grows so = left_fails after e (grows inputs.0 inputs.2)

    -- ---- the right input

    module _ (same : take (leaf_count left) before ≡ take (leaf_count left) after) where
      left_is : plan_meaning left (take (leaf_count left) after) ≡ Ok inputs.0
      left_is = ap (plan_meaning left) (sym same) ∙ inputs.2

      right_so : (added : Added) → Extends right (drop (leaf_count left) before) (drop (leaf_count left) after) (Ok added) → (lefts : Result Rows Overflow) → plan_meaning left (take (leaf_count left) after) ≡ lefts
          → IsMade (Join left right on) after (lefts >>= λ lefts. Ok (record { kept = kept.Tagged (left_length old.kept) (with_new_rights on (kept_tagged old.kept) lefts added.rows); taken_in = old.taken_in + taken_in_of added }))
      right_so added grows (Ok lefts) gives =
          let n = leaf_count left in
          let l = inputs.0 in
          let r = inputs.1 in
          let grown = grows r inputs.3 in
          let other : l ≡ lefts = ok_is (plan_meaning left (take n after)) l lefts left_is gives in
          let more = takes_in [] added.rows 0 added.taken_in (stays left (take n before) (take n after) l same inputs.2) grown in (
            form_is after l (r ++ added.rows) left_is grown.gives
                ∙ ap (λ rows. Ok (kept.Tagged (length l) rows)) (right_grows 0 on l r added.rows)
                ∙ ap (λ form. Ok (kept.Tagged (left_length form) (with_new_rights on (kept_tagged form) l added.rows))) inputs.4
                ∙ ap (λ other. Ok (kept.Tagged (left_length old.kept) (with_new_rights on (kept_tagged old.kept) other added.rows))) other,
            more ∙ ap (λ k. old.taken_in + k) (omega arith),
          )
      right_so added grows (Err e) gives = not_both (plan_meaning left (take (leaf_count left) after)) inputs.0 e left_is gives

      pub right_made : (made : Result Made Overflow) (given : Result Added Overflow) → IsMade left (take (leaf_count left) after) made → Extends right (drop (leaf_count left) before) (drop (leaf_count left) after) given
          → IsMade (Join left right on) after (grown_right (Join left right on) old made given)
      right_made (Ok other) (Ok added) so grows = right_so added grows (rows_of_kept other.kept) (means left (take (leaf_count left) after) other so)
      right_made (Ok other) (Err e) so grows = right_fails after e (grows inputs.1 inputs.3)
      right_made (Err e) given so grows = not_both (plan_meaning left (take (leaf_count left) after)) inputs.0 e left_is (fails left (take (leaf_count left) after) e so)

    -- ---- both inputs

    module _ (right_added left_added : Added) (rights_grow : Extends right (drop (leaf_count left) before) (drop (leaf_count left) after) (Ok right_added))
        (lefts_grow : Extends left (take (leaf_count left) before) (take (leaf_count left) after) (Ok left_added)) where
      both_so : (lefts rights : Rows) → plan_meaning left (take (leaf_count left) before) ≡ Ok lefts → plan_meaning right (drop (leaf_count left) after) ≡ Ok rights
          → IsMade (Join left right on) after (Ok (record {
            kept = with_new_lefts on (left_length old.kept) (with_new_rights on (kept_tagged old.kept) lefts right_added.rows) left_added.rows rights;
            taken_in = old.taken_in + (taken_in_of left_added + taken_in_of right_added);
          }))
      both_so lefts rights gave gives =
          let n = leaf_count left in
          let l = inputs.0 in
          let r = inputs.1 in
          let ln = left_added.rows in
          let rn = right_added.rows in
          let left_grown = lefts_grow l inputs.2 in
          let right_grown = rights_grow r inputs.3 in
          let one : l ≡ lefts = ok_is (plan_meaning left (take n before)) l lefts inputs.2 gave in
          let other : r ++ rn ≡ rights = ok_is (plan_meaning right (drop n after)) (r ++ rn) rights right_grown.gives gives in (
            form_is after (l ++ ln) (r ++ rn) left_grown.gives right_grown.gives
                ∙ ap (λ k. Ok (kept.Tagged k (tagged_from 0 on (l ++ ln) (r ++ rn)))) (length-append l ln)
                ∙ ap (λ rows. Ok (kept.Tagged (length l + length ln) rows)) (both_grow 0 on l ln r rn
                ∙ ap (λ rows. merge_by_position (tagged_from 0 on l r) (tagged_from 0 on l rn) ++ rows) (counted_on on l ln (r ++ rn)))
                ∙ ap (λ form. Ok (with_new_lefts on (left_length form) (with_new_rights on (kept_tagged form) l rn) ln (r ++ rn))) inputs.4
                ∙ ap (λ one. Ok (with_new_lefts on (left_length old.kept) (with_new_rights on (kept_tagged old.kept) one rn) ln (r ++ rn))) one
                ∙ ap (λ other. Ok (with_new_lefts on (left_length old.kept) (with_new_rights on (kept_tagged old.kept) lefts rn) ln other)) other,
            takes_in ln rn left_added.taken_in right_added.taken_in left_grown right_grown,
          )

      both_given : (lefts rights : Result Rows Overflow) → plan_meaning left (take (leaf_count left) before) ≡ lefts → plan_meaning right (drop (leaf_count left) after) ≡ rights
          → IsMade (Join left right on) after (lefts >>= λ lefts. rights >>= λ rights. Ok (record {
            kept = with_new_lefts on (left_length old.kept) (with_new_rights on (kept_tagged old.kept) lefts right_added.rows) left_added.rows rights;
            taken_in = old.taken_in + (taken_in_of left_added + taken_in_of right_added);
          }))
      both_given (Ok lefts) (Ok rights) gave gives = both_so lefts rights gave gives
      both_given (Ok lefts) (Err e) gave gives = right_fails after e gives
      both_given (Err e) rights gave gives = not_both (plan_meaning left (take (leaf_count left) before)) inputs.0 e inputs.2 gave

    pub both_made : (first : Result Made Overflow) (right_given left_given : Result Added Overflow) (second : Result Made Overflow) → IsMade left (take (leaf_count left) before) first
        → Extends right (drop (leaf_count left) before) (drop (leaf_count left) after) right_given → Extends left (take (leaf_count left) before) (take (leaf_count left) after) left_given
        → IsMade right (drop (leaf_count left) after) second → IsMade (Join left right on) after (grown_both (Join left right on) old first right_given left_given second)
    both_made (Err e) right_given left_given second a b c d = not_both (plan_meaning left (take (leaf_count left) before)) inputs.0 e inputs.2 (fails left (take (leaf_count left) before) e a)
    both_made (Ok one) (Err e) left_given second a b c d = right_fails after e (b inputs.1 inputs.3)
    both_made (Ok one) (Ok right_added) (Err e) second a b c d = left_fails after e (c inputs.0 inputs.2)
    both_made (Ok one) (Ok right_added) (Ok left_added) (Err e) a b c d = right_fails after e (fails right (drop (leaf_count left) after) e d)
    both_made (Ok one) (Ok right_added) (Ok left_added) (Ok other) a b c d =
        both_given right_added left_added b c (rows_of_kept one.kept) (rows_of_kept other.kept) (means left (take (leaf_count left) before) one a) (means right (drop (leaf_count left) after) other d)

-- ---- by the plan

module _ (before after : List Rows) (old : Made) where
  pub grown_on_the_left : (plan : PlainPlan) (given : Result Added Overflow) (made : Result Made Overflow) → IsMade plan before (Ok old)
      → OfSides (λ left right. (drop (leaf_count left) before ≡ drop (leaf_count left) after)
      × Extends left (take (leaf_count left) before) (take (leaf_count left) after) given × IsMade right (drop (leaf_count left) after) made) plan
      → IsMade plan after (grown_left plan old given made)
  grown_on_the_left (Join left right on) given made is so = left_made left right on before after old is so.0 given made so.1 so.2
  grown_on_the_left (Scan stream) given made is so = absurd so
  grown_on_the_left (Filter child test) given made is so = absurd so
  grown_on_the_left (Project child columns) given made is so = absurd so
  grown_on_the_left (Distinct child) given made is so = absurd so
  grown_on_the_left (Group child keys aggs) given made is so = absurd so
  grown_on_the_left (Concat left right) given made is so = absurd so
  grown_on_the_left (Order child keys) given made is so = absurd so

  pub grown_on_the_right : (plan : PlainPlan) (made : Result Made Overflow) (given : Result Added Overflow) → IsMade plan before (Ok old)
      → OfSides (λ left right. (take (leaf_count left) before ≡ take (leaf_count left) after)
      × IsMade left (take (leaf_count left) after) made × Extends right (drop (leaf_count left) before) (drop (leaf_count left) after) given) plan
      → IsMade plan after (grown_right plan old made given)
  grown_on_the_right (Join left right on) made given is so = right_made left right on before after old is so.0 made given so.1 so.2
  grown_on_the_right (Scan stream) made given is so = absurd so
  grown_on_the_right (Filter child test) made given is so = absurd so
  grown_on_the_right (Project child columns) made given is so = absurd so
  grown_on_the_right (Distinct child) made given is so = absurd so
  grown_on_the_right (Group child keys aggs) made given is so = absurd so
  grown_on_the_right (Concat left right) made given is so = absurd so
  grown_on_the_right (Order child keys) made given is so = absurd so

  pub grown_on_both : (plan : PlainPlan) (first : Result Made Overflow) (right_given left_given : Result Added Overflow) (second : Result Made Overflow) → IsMade plan before (Ok old)
      → OfSides (λ left right. IsMade left (take (leaf_count left) before) first
      × Extends right (drop (leaf_count left) before) (drop (leaf_count left) after) right_given
      × Extends left (take (leaf_count left) before) (take (leaf_count left) after) left_given × IsMade right (drop (leaf_count left) after) second) plan
      → IsMade plan after (grown_both plan old first right_given left_given second)
  grown_on_both (Join left right on) first right_given left_given second is so = both_made left right on before after old is first right_given left_given second so.0 so.1 so.2 so.3
  grown_on_both (Scan stream) first right_given left_given second is so = absurd so
  grown_on_both (Filter child test) first right_given left_given second is so = absurd so
  grown_on_both (Project child columns) first right_given left_given second is so = absurd so
  grown_on_both (Distinct child) first right_given left_given second is so = absurd so
  grown_on_both (Group child keys aggs) first right_given left_given second is so = absurd so
  grown_on_both (Concat left right) first right_given left_given second is so = absurd so
  grown_on_both (Order child keys) first right_given left_given second is so = absurd so
