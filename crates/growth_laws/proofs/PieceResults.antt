-- What is made of a piece that is gathered from one stream's extents.
use Rattle.std.proofs.Common.{◌≡◌, refl, sym, ap, ◌∙◌, subst, ℕ, ◌+◌, Bool, true, false, List, length, Result, Ok, Err}
use Rattle.std.proofs.lemmas.Bool.{false≢true}
use Rattle.rows_core.specs.declared.overflow.Overflow.{Overflow}
use Rattle.row_blob.specs.declared.kept.Kept.{Kept}
use Rattle.plan_core.specs.Columns.{Rows}
use Rattle.plan_core.specs.ExpressionValue.{◌>>=◌}
use Rattle.plan_core.specs.Filter.{filter_rows}
use Rattle.plan_core.specs.MachineTime.{row_count, rows_given, rows_taken_in}
use Rattle.plan_core.specs.PlainPlan.{PlainPlan}
use Rattle.plan_core.specs.PlainPlan as plan
use Rattle.plan_core.specs.PlanMeaning.{plan_meaning}
use Rattle.plan_core.specs.Project.{project_rows}
use Rattle.plan_laws.specs.KeptForm.{kept_form}
use Rattle.estimator.specs.Cuts.{Cuts, added_cuts}
use Rattle.rewrite_core.specs.IsRewriting.{IsRewriting, IsDelta, OfOne, OfDeltaTail, IsScan, whichever}
use Rattle.rewrite_core.specs.PlainRewriting.{PlainRewriting, Node, Scan, One, PlainDelta, Change, NewRows, OfChild}
use Rattle.growth_laws.specs.Growth.{Added, Made, IsMade, whole_made}
use Rattle.growth_laws.specs.KeptResults.{KeptResults}
use Rattle.growth_laws.specs.Lists.{Extents, plan_lists}
use Rattle.growth_laws.specs.Making.{as_rows, new_extents, taken_in_of, with_rows_taken_in, added_of_child, passed_delta}
use Rattle.growth_laws.specs.Pieces.{is_chain_of, is_gathered, is_chain_delta, as_added}
use Rattle.growth_laws.specs.Trees.{made_by, made_in, added_by, added_in}
use Rattle.growth_laws.proofs.ComputedNodes.{one_after_other, one_made, scan_made}
use Rattle.growth_laws.proofs.NamedResults.{is_whole}

pub subst_both : {A B : Type 0} (P : A → B → Type 0) (a x : A) (b y : B) → a ≡ x → b ≡ y → P a b → P x y
subst_both P a x b y e f has = subst (λ y. P x y) f (subst (λ x. P x b) e has)

-- ---- rewritings

module _ (extents : Extents) (results : KeptResults) where
  abbrev IsMadeAt : PlainRewriting → PlainPlan → Cuts → Type 0
  IsMadeAt r q c = IsMade q (plan_lists extents q c) (made_by extents results r)

  chain_made : (r : PlainRewriting) (q : PlainPlan) (c : Cuts) → IsRewriting whichever q c r → is_chain_of r ≡ true → IsMadeAt r q c
  chain_made (Node p cuts Scan) q c (e, f, is) chain =
      subst_both (IsMadeAt (Node p cuts Scan)) p q cuts c e f (scan_made p (plan_lists extents p cuts) (subst IsScan (sym e) is))
  chain_made (Node (plan.Filter child test) cuts (One r)) q c (e, f, is) chain =
      let of = subst_both (λ q c. OfOne (λ child. IsRewriting whichever child c r) q) q (plan.Filter child test) c cuts (sym e) (sym f) is in
      subst_both (IsMadeAt (Node (plan.Filter child test) cuts (One r))) (plan.Filter child test) q cuts c e f
      (one_made (plan.Filter child test) (plan_lists extents child cuts) (made_by extents results r) (chain_made r child cuts of chain))
  chain_made (Node (plan.Project child columns) cuts (One r)) q c (e, f, is) chain =
      let of = subst_both (λ q c. OfOne (λ child. IsRewriting whichever child c r) q) q (plan.Project child columns) c cuts (sym e) (sym f) is in
      subst_both (IsMadeAt (Node (plan.Project child columns) cuts (One r))) (plan.Project child columns) q cuts c e f
      (one_made (plan.Project child columns) (plan_lists extents child cuts) (made_by extents results r) (chain_made r child cuts of chain))
  chain_made (Node _ cuts _) q c is chain = absurd (false≢true chain)

  gathered_made : (r : PlainRewriting) (q : PlainPlan) (c : Cuts) → IsRewriting whichever q c r → is_gathered r ≡ true → IsMadeAt r q c
  gathered_made (Node (plan.Group child keys aggs) cuts (One r)) q c (e, f, is) chain =
      let of = subst_both (λ q c. OfOne (λ child. IsRewriting whichever child c r) q) q (plan.Group child keys aggs) c cuts (sym e) (sym f) is in
      subst_both (IsMadeAt (Node (plan.Group child keys aggs) cuts (One r))) (plan.Group child keys aggs) q cuts c e f
      (one_made (plan.Group child keys aggs) (plan_lists extents child cuts) (made_by extents results r) (chain_made r child cuts of chain))
  gathered_made (Node (plan.Distinct child) cuts (One r)) q c (e, f, is) chain =
      let of = subst_both (λ q c. OfOne (λ child. IsRewriting whichever child c r) q) q (plan.Distinct child) c cuts (sym e) (sym f) is in
      subst_both (IsMadeAt (Node (plan.Distinct child) cuts (One r))) (plan.Distinct child) q cuts c e f
      (one_made (plan.Distinct child) (plan_lists extents child cuts) (made_by extents results r) (chain_made r child cuts of chain))
  gathered_made (Node p cuts way) q c is chain = chain_made (Node p cuts way) q c is chain

  pub gathered : (plan : PlainPlan) (cuts : Cuts) (r : PlainRewriting) → IsRewriting whichever plan cuts r → is_gathered r ≡ true → made_by extents results r ≡ whole_made plan (plan_lists extents plan cuts)
  gathered plan cuts r is chain = is_whole plan (plan_lists extents plan cuts) (made_by extents results r) (gathered_made r plan cuts is chain)

-- ---- deltas

abbrev given_of : ℕ → Result Kept Overflow → Result Made Overflow
given_of n r = r >>= λ form. Ok (record { kept = form; taken_in = n })

rows_added : (n : ℕ) (r : Result Rows Overflow) → with_rows_taken_in n r ≡ as_added (given_of n (as_rows r))
rows_added n (Ok rows) = refl
rows_added n (Err e) = refl

-- an operator passes the rows of a chain on
passed_as : (p child : PlainPlan) (f : Rows → Result Rows Overflow) (lists : List Rows) → ((added : Added) → added_of_child p added ≡ with_rows_taken_in (taken_in_of added) (f added.rows))
    → kept_form child lists ≡ as_rows (plan_meaning child lists) → kept_form p lists ≡ as_rows (plan_meaning child lists >>= f) → rows_taken_in p lists ≡ rows_given child lists + rows_taken_in child lists
    → passed_delta p (as_added (whole_made child lists)) ≡ as_added (whole_made p lists)
passed_as p child f lists passes form_child form takes = by (plan_meaning child lists) refl
  where
    t : ℕ
    t = rows_taken_in child lists

    by : (m : Result Rows Overflow) → plan_meaning child lists ≡ m → passed_delta p (as_added (whole_made child lists)) ≡ as_added (whole_made p lists)
    by (Ok rows) e =
        ap (λ k. passed_delta p (as_added (given_of t k))) (form_child ∙ ap as_rows e) ∙ passes (record { rows = rows; taken_in = t }) ∙ rows_added (length rows + t) (f rows)
        ∙ sym (ap (λ k. as_added (given_of (rows_taken_in p lists) k)) (form ∙ ap (λ m. as_rows (m >>= f)) e) ∙ ap (λ n. as_added (given_of n (as_rows (f rows)))) (takes ∙ ap (λ m. row_count m + t) e))
    by (Err o) e =
        ap (λ k. passed_delta p (as_added (given_of t k))) (form_child ∙ ap as_rows e)
        ∙ sym (ap (λ k. as_added (given_of (rows_taken_in p lists) k)) (form ∙ ap (λ m. as_rows (m >>= f)) e))

scan_added : (p : PlainPlan) → IsScan p → (lists : List Rows) → Ok (new_extents lists) ≡ as_added (whole_made p lists)
scan_added (plan.Scan stream) is lists = refl
scan_added _ is lists = absurd is

scan_form : (p : PlainPlan) → IsScan p → (lists : List Rows) → kept_form p lists ≡ as_rows (plan_meaning p lists)
scan_form (plan.Scan stream) is lists = refl
scan_form _ is lists = absurd is

delta_form : (d : PlainDelta) (q : PlainPlan) (old new : Cuts) → IsDelta whichever q old new d → is_chain_delta d ≡ true → (lists : List Rows) → kept_form q lists ≡ as_rows (plan_meaning q lists)
delta_form (Change p o n NewRows) q old new (e, f, g, is) chain lists = scan_form q is.0 lists
delta_form (Change (plan.Filter child test) o n (OfChild d)) q old new (e, f, g, is) chain lists = subst (λ q. kept_form q lists ≡ as_rows (plan_meaning q lists)) e refl
delta_form (Change (plan.Project child columns) o n (OfChild d)) q old new (e, f, g, is) chain lists = subst (λ q. kept_form q lists ≡ as_rows (plan_meaning q lists)) e refl
delta_form (Change _ o n _) q old new is chain lists = absurd (false≢true chain)

module _ (extents : Extents) (results : KeptResults) where
  abbrev IsAddedAt : PlainDelta → PlainPlan → Cuts → Cuts → Type 0
  IsAddedAt d q old new = added_by extents results d ≡ as_added (whole_made q (plan_lists extents q (added_cuts old new)))

  moved : (d : PlainDelta) (p q : PlainPlan) (o old n new : Cuts) → p ≡ q → o ≡ old → n ≡ new → IsAddedAt d p o n → IsAddedAt d q old new
  moved d p q o old n new e f g has = subst (λ q. IsAddedAt d q old new) e (subst_both (IsAddedAt d p) o old n new f g has)

  pub chain_added : (d : PlainDelta) (q : PlainPlan) (old new : Cuts) → IsDelta whichever q old new d → is_chain_delta d ≡ true → IsAddedAt d q old new
  chain_added (Change p o n NewRows) q old new (e, f, g, is) chain =
      moved (Change p o n NewRows) p q o old n new e f g (scan_added p (subst IsScan (sym e) is.0) (plan_lists extents p (added_cuts o n)))
  chain_added (Change (plan.Filter child test) o n (OfChild d)) q old new (e, f, g, is) chain =
      let lists = plan_lists extents child (added_cuts o n) in
      let of = subst (λ q. OfDeltaTail (λ child o n. IsDelta whichever child o n d) q o n) (sym e) (subst_both (λ o n. OfDeltaTail (λ child o n. IsDelta whichever child o n d) q o n) old o new n (sym f) (sym g) is.1) in
      moved (Change (plan.Filter child test) o n (OfChild d)) (plan.Filter child test) q o old n new e f g
      (ap (passed_delta (plan.Filter child test)) (chain_added d child o n of chain)
      ∙ passed_as (plan.Filter child test) child (filter_rows test) lists (λ added. refl) (delta_form d child o n of chain lists) refl refl)
  chain_added (Change (plan.Project child columns) o n (OfChild d)) q old new (e, f, g, is) chain =
      let lists = plan_lists extents child (added_cuts o n) in
      let of = subst (λ q. OfDeltaTail (λ child o n. IsDelta whichever child o n d) q o n) (sym e) (subst_both (λ o n. OfDeltaTail (λ child o n. IsDelta whichever child o n d) q o n) old o new n (sym f) (sym g) is.1) in
      moved (Change (plan.Project child columns) o n (OfChild d)) (plan.Project child columns) q o old n new e f g
      (ap (passed_delta (plan.Project child columns)) (chain_added d child o n of chain)
      ∙ passed_as (plan.Project child columns) child (project_rows columns) lists (λ added. refl) (delta_form d child o n of chain lists) refl refl)
  chain_added (Change _ o n _) q old new is chain = absurd (false≢true chain)
