-- What the rows of one more extent make of what was made of the earlier ones.
use Rattle.std.proofs.Common.{◌≡◌, refl, sym, ap, ◌∙◌, subst, ℕ, ◌+◌, [], ◌∷◌, ◌++◌, Result, Ok, Err, arith}
use Rattle.rows_core.specs.declared.overflow.Overflow.{Overflow}
use Rattle.scalar_ops.specs.Meaning.{overflow}
use Rattle.row_blob.specs.declared.kept.Kept.{Kept}
use Rattle.row_blob.specs.declared.kept.Kept.TheVariants as kept
use Rattle.plan_core.specs.Columns.{Rows}
use Rattle.plan_core.specs.Distinct.{distinct_rows}
use Rattle.plan_core.specs.ExpressionValue.{◌>>=◌}
use Rattle.plan_core.specs.MachineTime.{row_count, rows_given, rows_taken_in}
use Rattle.plan_core.specs.PlainPlan.{PlainPlan, Scan, Filter, Project, Distinct, Group, Join, Concat, Order}
use Rattle.plan_core.specs.PlanMeaning.{plan_meaning}
use Rattle.plan_laws.specs.GrowthOfGroups.{groups_of}
use Rattle.plan_laws.specs.GrowthOfRows.{joined}
use Rattle.growth_laws.specs.Chains.{IsChain, IsOneStream}
use Rattle.growth_laws.specs.Growth.{Made, whole_made}
use Rattle.growth_laws.proofs.ChainRows.{chain_joined, chain_takes_in, joined_counted}
use Rattle.result_ops.specs.declared.stop.Stop.{Stop}
use Rattle.result_ops.specs.declared.stop.Stop.TheVariants as stop
use Rattle.gathering.specs.Holding.{chain_of, made_of_chain, Follows}
use Rattle.gathering.specs.Steps.{counted}

pub chain_is : (plan : PlainPlan) → IsOneStream plan → IsChain (chain_of plan)
chain_is (Scan stream) is = is
chain_is (Filter child test) is = is
chain_is (Project child columns) is = is
chain_is (Distinct child) is = is
chain_is (Group child keys aggs) is = is
chain_is (Join left right on) is = absurd is
chain_is (Concat left right) is = absurd is
chain_is (Order child keys) is = absurd is

-- what the chain gives of a list
abbrev pub given : PlainPlan → Rows → Result Rows Overflow
given plan rows = plan_meaning (chain_of plan) (rows ∷ [])

-- ---- the whole is what the plan keeps of the chain's rows

abbrev with_form : ℕ → Kept → Result Made Overflow
with_form taken_in form = Ok (record { kept = form; taken_in = taken_in })

abbrev pub made_from : PlainPlan → Result Rows Overflow → ℕ → Result Made Overflow
made_from plan given taken_in = given >>= λ rows. Ok (made_of_chain plan rows taken_in)

kept_once : (m : Result Rows Overflow) (form : Rows → Kept) (n : ℕ) → ((m >>= λ rows. Ok (form rows)) >>= with_form n) ≡ (m >>= λ rows. with_form n (form rows))
kept_once (Ok rows) form n = refl
kept_once (Err e) form n = refl

kept_twice : (m : Result Rows Overflow) (n : ℕ) → (((m >>= λ rows. Ok (distinct_rows rows)) >>= λ rows. Ok (kept.Rows rows)) >>= with_form n) ≡ (m >>= λ rows. with_form n (kept.Rows (distinct_rows rows)))
kept_twice (Ok rows) n = refl
kept_twice (Err e) n = refl

pub whole_of : (plan : PlainPlan) → IsOneStream plan → (rows : Rows) → whole_made plan (rows ∷ []) ≡ made_from plan (given plan rows) (rows_taken_in plan (rows ∷ []))
whole_of (Scan stream) is rows = refl
whole_of (Filter child test) is rows = kept_once (plan_meaning (Filter child test) (rows ∷ [])) kept.Rows (rows_taken_in (Filter child test) (rows ∷ []))
whole_of (Project child columns) is rows = kept_once (plan_meaning (Project child columns) (rows ∷ [])) kept.Rows (rows_taken_in (Project child columns) (rows ∷ []))
whole_of (Distinct child) is rows = kept_twice (plan_meaning child (rows ∷ [])) (rows_taken_in (Distinct child) (rows ∷ []))
whole_of (Group child keys aggs) is rows =
    kept_once (plan_meaning child (rows ∷ [])) (λ given. kept.Groups (groups_of keys aggs given)) (rows_taken_in (Group child keys aggs) (rows ∷ []))
whole_of (Join left right on) is rows = absurd is
whole_of (Concat left right) is rows = absurd is
whole_of (Order child keys) is rows = absurd is

-- ---- one list and then another one

operator_takes_in : (child : PlainPlan) → IsChain child → (a b rows : Rows) → plan_meaning child ((a ++ b) ∷ []) ≡ Ok rows
    → rows_given child ((a ++ b) ∷ []) + rows_taken_in child ((a ++ b) ∷ []) ≡ rows_given child (a ∷ []) + rows_taken_in child (a ∷ []) + (rows_given child (b ∷ []) + rows_taken_in child (b ∷ []))
operator_takes_in child is a b rows gave =
    let joins = chain_joined child is a b in
    let counts : rows_given child ((a ++ b) ∷ []) ≡ rows_given child (a ∷ []) + rows_given child (b ∷ []) =
    ap row_count joins ∙ joined_counted (plan_meaning child (a ∷ [])) (plan_meaning child (b ∷ [])) rows (sym joins ∙ gave) in
    omega (arith, counts, chain_takes_in child is a b rows gave)

pub takes_in_both : (plan : PlainPlan) → IsOneStream plan → (a b rows : Rows) → given plan (a ++ b) ≡ Ok rows → rows_taken_in plan ((a ++ b) ∷ []) ≡ rows_taken_in plan (a ∷ []) + rows_taken_in plan (b ∷ [])
takes_in_both (Scan stream) is a b rows gave = chain_takes_in (Scan stream) is a b rows gave
takes_in_both (Filter child test) is a b rows gave = chain_takes_in (Filter child test) is a b rows gave
takes_in_both (Project child columns) is a b rows gave = chain_takes_in (Project child columns) is a b rows gave
takes_in_both (Distinct child) is a b rows gave = operator_takes_in child is a b rows gave
takes_in_both (Group child keys aggs) is a b rows gave = operator_takes_in child is a b rows gave
takes_in_both (Join left right on) is a b rows gave = absurd is
takes_in_both (Concat left right) is a b rows gave = absurd is
takes_in_both (Order child keys) is a b rows gave = absurd is

module _ (plan : PlainPlan) (is : IsOneStream plan) (fed rows : Rows) where
  joins : given plan (fed ++ rows) ≡ joined (given plan fed) (given plan rows)
  joins = chain_joined (chain_of plan) (chain_is plan is) fed rows

  both_made : (olds news : Rows) → given plan fed ≡ Ok olds → given plan rows ≡ Ok news
      → whole_made plan ((fed ++ rows) ∷ []) ≡ Ok (made_of_chain plan (olds ++ news) (rows_taken_in plan (fed ∷ []) + rows_taken_in plan (rows ∷ [])))
  both_made olds news old new =
      let both : given plan (fed ++ rows) ≡ Ok (olds ++ news) = joins ∙ (λ i. joined (old i) (new i)) in
      whole_of plan is (fed ++ rows) ∙ (λ i. made_from plan (both i) (takes_in_both plan is fed rows (olds ++ news) both i))

  fails : given plan (fed ++ rows) ≡ Err overflow → whole_made plan ((fed ++ rows) ∷ []) ≡ Err overflow
  fails err = whole_of plan is (fed ++ rows) ∙ ap (λ m. made_from plan m (rows_taken_in plan ((fed ++ rows) ∷ []))) err

  old_made : (olds : Rows) → given plan fed ≡ Ok olds → whole_made plan (fed ∷ []) ≡ Ok (made_of_chain plan olds (rows_taken_in plan (fed ∷ [])))
  old_made olds old = whole_of plan is fed ∙ ap (λ m. made_from plan m (rows_taken_in plan (fed ∷ []))) old

  old_failed : (e : Overflow) → given plan fed ≡ Err e → whole_made plan (fed ∷ []) ≡ Err e
  old_failed e old = whole_of plan is fed ∙ ap (λ m. made_from plan m (rows_taken_in plan (fed ∷ []))) old

  -- an earlier overflow has come
  is_overflowed : (e : Overflow) (came : Result Made Stop) → Follows (Err e) came → (came ≡ Err stop.Overflow) × (e ≡ overflow)
  is_overflowed e (Ok made) follows = absurd (cc)
  is_overflowed e (Err stop.Machine) (made, is_ok, above) = absurd (cc)
  is_overflowed e (Err stop.Overflow) follows = (refl, cc)

  -- the further rows pass the chain
  pub passed_follow : (news : Rows) (count : ℕ) (old new : Result Made Stop) → given plan rows ≡ Ok news → count ≡ counted (rows_taken_in plan (rows ∷ [])) → (old ≡ Err stop.Overflow → ⊥)
      → ((before : Rows) (taken_in more : ℕ) → count ≡ counted more → Follows (Ok (made_of_chain plan before taken_in)) old → Follows (Ok (made_of_chain plan (before ++ news) (taken_in + more))) new)
      → Follows (whole_made plan (fed ∷ [])) old → Follows (whole_made plan ((fed ++ rows) ∷ [])) new
  passed_follow news count old new passed counts going step follows = by (given plan fed) refl
    where
      by : (m : Result Rows Overflow) → given plan fed ≡ m → Follows (whole_made plan ((fed ++ rows) ∷ [])) new
      by (Ok olds) is_given =
          subst (λ g. Follows g new) (sym (both_made olds news is_given passed))
          (step olds (rows_taken_in plan (fed ∷ [])) (rows_taken_in plan (rows ∷ [])) counts (subst (λ g. Follows g old) (old_made olds is_given) follows))
      by (Err e) is_given = absurd (going (is_overflowed e old (subst (λ g. Follows g old) (old_failed e is_given) follows)).0)

  -- the further rows are an overflow
  pub failed_follow : (old : Result Made Stop) → given plan rows ≡ Err overflow → Follows (whole_made plan (fed ∷ [])) old → whole_made plan ((fed ++ rows) ∷ []) ≡ Err overflow
  failed_follow old failed follows = by (given plan fed) refl
    where
      by : (m : Result Rows Overflow) → given plan fed ≡ m → whole_made plan ((fed ++ rows) ∷ []) ≡ Err overflow
      by (Ok olds) is_given = fails (joins ∙ (λ i. joined (is_given i) (failed i)))
      by (Err e) is_given =
          fails (joins ∙ ap (λ m. joined m (given plan rows)) is_given ∙ ap Err (is_overflowed e old (subst (λ g. Follows g old) (old_failed e is_given) follows)).1)

  -- the earlier ones were
  pub stopped_follow : whole_made plan (fed ∷ []) ≡ Err overflow → whole_made plan ((fed ++ rows) ∷ []) ≡ Err overflow
  stopped_follow stopped = by (given plan fed) refl
    where
      by : (m : Result Rows Overflow) → given plan fed ≡ m → whole_made plan ((fed ++ rows) ∷ []) ≡ Err overflow
      by (Ok olds) is_given = let h = old_made olds is_given in absurd (cc)
      by (Err e) is_given =
          fails (joins ∙ ap (λ m. joined m (given plan rows)) is_given ∙ ap Err (is_overflowed e (Err stop.Overflow) (sym (old_failed e is_given) ∙ stopped)).1)
