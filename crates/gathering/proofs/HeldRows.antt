-- How many rows or groups are held.
use Rattle.std.proofs.Common.{◌≡◌, refl, sym, ap, ◌∙◌, ℕ, List, [], ◌∷◌, length, Result, Ok, Err}
use Rattle.std.proofs.lemmas.List.{length-map}
use Rattle.rows_core.specs.declared.overflow.Overflow.{Overflow}
use Rattle.row_blob.specs.declared.kept.Kept.TheVariants as kept
use Rattle.plan_core.specs.declared.agg.Agg.{Agg}
use Rattle.plan_core.specs.Columns.{Rows}
use Rattle.plan_core.specs.Distinct.{distinct_rows}
use Rattle.plan_core.specs.Group.{keys_of}
use Rattle.plan_core.specs.MachineTime.{row_count, rows_given, rows_taken_in}
use Rattle.plan_core.specs.PlainPlan.{PlainPlan, Scan, Filter, Project, Distinct, Group, Join, Concat, Order}
use Rattle.plan_core.specs.PlanMeaning.{plan_meaning}
use Rattle.plan_laws.specs.KeptForm.{kept_group}
use Rattle.growth_laws.specs.Chains.{IsChain, IsOneStream}
use Rattle.growth_laws.specs.Growth.{Made, whole_made}
use Rattle.gathering.specs.Gathered.{kept_length}
use Rattle.gathering.specs.Holding.{kept_of_chain, made_of_chain}
use Rattle.gathering.proofs.Extents.{given, made_from, whole_of}

-- what is kept of the rows that the chain gives is what was made
kept_is : (plan : PlainPlan) (m : Result Rows Overflow) (n : ℕ) (made : Made) (rows : Rows) → made_from plan m n ≡ Ok made → m ≡ Ok rows → kept_of_chain plan rows ≡ made.kept
kept_is plan m n made rows is gave =
    let same : Ok (made_of_chain plan rows n) ≡ Ok made = ap (λ r. made_from plan r n) (sym gave) ∙ is in
    let one : made_of_chain plan rows n ≡ made = cc in
    ap (λ m. m.kept) one

made_kept : (plan : PlainPlan) → IsOneStream plan → (fed rows : Rows) (made : Made) → whole_made plan (fed ∷ []) ≡ Ok made → given plan fed ≡ Ok rows → kept_of_chain plan rows ≡ made.kept
made_kept plan is fed rows made made_is gave = kept_is plan (given plan fed) (rows_taken_in plan (fed ∷ [])) made rows (sym (whole_of plan is fed) ∙ made_is) gave

-- where all was made, the chain gave rows
chain_gave : (m : Result Rows Overflow) (plan : PlainPlan) (n : ℕ) (made : Made) → made_from plan m n ≡ Ok made → (rows : Rows) × (m ≡ Ok rows)
chain_gave (Ok rows) plan n made is = (rows, refl)
chain_gave (Err e) plan n made is = absurd (cc)

all_held : (plan : PlainPlan) → IsOneStream plan → ((rows : Rows) → kept_of_chain plan rows ≡ kept.Rows rows) → (fed : Rows) (made : Made) → whole_made plan (fed ∷ []) ≡ Ok made → kept_length made.kept ≡ row_count (given plan fed)
all_held plan is all fed made made_is =
    let gave = chain_gave (given plan fed) plan (rows_taken_in plan (fed ∷ [])) made (sym (whole_of plan is fed) ∙ made_is) in
    ap kept_length (sym (made_kept plan is fed gave.0 made made_is gave.1) ∙ all gave.0) ∙ ap row_count (sym gave.1)

pub chain_held : (plan : PlainPlan) → IsChain plan → (fed : Rows) (made : Made) → whole_made plan (fed ∷ []) ≡ Ok made → kept_length made.kept ≡ rows_given plan (fed ∷ [])
chain_held (Scan stream) is fed made made_is = all_held (Scan stream) is (λ rows. refl) fed made made_is
chain_held (Filter child test) is fed made made_is = all_held (Filter child test) is (λ rows. refl) fed made made_is
chain_held (Project child columns) is fed made made_is = all_held (Project child columns) is (λ rows. refl) fed made made_is
chain_held (Distinct child) is fed made made_is = absurd is
chain_held (Group child keys aggs) is fed made made_is = absurd is
chain_held (Join left right on) is fed made made_is = absurd is
chain_held (Concat left right) is fed made made_is = absurd is
chain_held (Order child keys) is fed made made_is = absurd is

pub distinct_held : (child : PlainPlan) → IsChain child → (fed rows : Rows) (made : Made) → whole_made (Distinct child) (fed ∷ []) ≡ Ok made → plan_meaning child (fed ∷ []) ≡ Ok rows
    → kept_length made.kept ≡ length (distinct_rows rows)
distinct_held child is fed rows made made_is gave = ap kept_length (sym (made_kept (Distinct child) is fed rows made made_is gave))

pub group_held : (child : PlainPlan) (keys : List ℕ) (aggs : List Agg) → IsChain child → (fed rows : Rows) (made : Made) → whole_made (Group child keys aggs) (fed ∷ []) ≡ Ok made → plan_meaning child (fed ∷ []) ≡ Ok rows
    → kept_length made.kept ≡ length (keys_of keys rows)
group_held child keys aggs is fed rows made made_is gave =
    ap kept_length (sym (made_kept (Group child keys aggs) is fed rows made made_is gave)) ∙ length-map (keys_of keys rows) (kept_group keys aggs rows)
