-- What is kept of an operation is made of what is kept of its operands.
use Rattle.std.proofs.Common.{◌≡◌, refl, sym, ap, ◌∙◌, ℕ, ◌+◌, Bool, true, false, cond, List, [], ◌∷◌, ◌++◌, Some, None, arith}
use Rattle.std.proofs.lemmas.Bool.Decides.{nat_tests}
use Rattle.std.proofs.lemmas.List.Sums.{sum_by_push}
use Rattle.std.specs.List.{sum_by}
use Rattle.std.specs.Option.{option_zip}
use Rattle.plan_text.specs.declared.plan.NamedResult.{NamedResult}
use Rattle.plan_text.specs.declared.plan.NamedPair.{NamedPair}
use Rattle.plan_text.specs.declared.plan.NamedKey.{NamedKey}
use Rattle.plan_text.specs.PlainNamed as plain
use Rattle.plan_text.specs.PlainNamed.{PlainExpr, PlainColumn, PlainTree}
use Rattle.plan_text.specs.Counts.{expr_nodes}
use Rattle.plan_text.specs.declared.counts.Counts.{Counts}
use Rattle.plan_text.specs.Draft.{counts, up_to, capped, plus, are_within, kept, drafted, paired, mapped, stepped, a_node, draft_of, with1, with2, with3}
use Rattle.plan_text.specs.PlanDraft.{columns_draft_of, with_column, counts_of, plan_draft_of, narrow, wide, where_draft, select_draft, distinct_draft, group_draft, join_draft, concat_draft, order_draft}

up_to-sum : (m a b : ℕ) → up_to m (up_to m a + up_to m b) ≡ up_to m (a + b)
up_to-sum m a b = grind (arith, nat_tests)

capped-plus : (most c d : Counts) → capped most (plus (capped most c) (capped most d)) ≡ capped most (plus c d)
capped-plus most c d = λ i. counts (up_to-sum most.nodes c.nodes d.nodes i) (up_to-sum most.wide c.wide d.wide i) (up_to-sum most.exprs c.exprs d.exprs i)

within_both : (most c d : Counts) → are_within most (capped most (plus c d)) ≡ true → (are_within most (capped most c) ≡ true) × (are_within most (capped most d) ≡ true)
within_both most c d e = (grind (arith, nat_tests, e), grind (arith, nat_tests, e))

zip_kept : {A B : Type 0} (x : A) (y : B) (w a b : Bool) → (w ≡ true → (a ≡ true) × (b ≡ true)) → cond w (option_zip (cond a (Some x) None) (cond b (Some y) None)) None ≡ cond w (Some (x, y)) None
zip_kept x y false a b e = refl
zip_kept x y true a b e = let p = e refl in λ i. option_zip (cond (p.0 i) (Some x) None) (cond (p.1 i) (Some y) None)

-- of two parts
pub paired-is : {A B : Type 0} (most c d : Counts) (x : A) (y : B) → paired most (drafted most x c) (drafted most y d) ≡ drafted most (x, y) (plus c d)
paired-is most c d x y =
    let within = are_within most (capped most (plus c d)) in
    ap (kept most (option_zip (drafted most x c).part (drafted most y d).part)) (capped-plus most c d)
    ∙ (λ i. record { part = zip_kept x y within (are_within most (capped most c)) (are_within most (capped most d)) (within_both most c d) i; counts = capped most (plus c d) })

mapped-is : {A B : Type 0} (most c : Counts) (make : A → B) (x : A) → mapped make (drafted most x c) ≡ drafted most (make x) c
mapped-is most c make x = grind (arith, nat_tests)

stepped-is : {A B : Type 0} (most more c : Counts) (make : A → B) (x : A) → stepped most more make (drafted most x c) ≡ drafted most (make x) (plus more c)
stepped-is most more c make x = grind (arith, nat_tests)

abbrev Same : Counts → Counts → Type 0
Same c d = (c.nodes ≡ d.nodes) × (c.wide ≡ d.wide) × (c.exprs ≡ d.exprs)

-- of what is made of a part, and of two, with the counts of what is made
stepped-to : {A B : Type 0} (most more c d : Counts) (make : A → B) (x : A) → Same (plus more c) d → stepped most more make (drafted most x c) ≡ drafted most (make x) d
stepped-to most more c d make x same = stepped-is most more c make x ∙ (λ i. drafted most (make x) (counts (same.0 i) (same.1 i) (same.2 i)))

pair-to : {A B C : Type 0} (most more c d k : Counts) (make : A × B → C) (x : A) (y : B) → Same (plus more (plus c d)) k → stepped most more make (paired most (drafted most x c) (drafted most y d)) ≡ drafted most (make (x, y)) k
pair-to most more c d k make x y same = ap (stepped most more make) (paired-is most c d x y) ∙ stepped-to most more (plus c d) k make (x, y) same

-- a part that is kept whole is told by what is kept
pub one_part : {A : Type 0} (most c d : Counts) (x y : A) → are_within most c ≡ true → drafted most x c ≡ drafted most y d → x ≡ y
one_part most c d x y within same = grind (arith, nat_tests, within, same)

-- of each operation of expressions
module _ (most : Counts) where
  abbrev exprs : PlainExpr → Counts
  exprs e = counts 0 0 (expr_nodes e)

  pub with1-draft : (make : PlainExpr → PlainExpr) (a : PlainExpr) → with1 most make (draft_of most a) ≡ drafted most (make a) (counts 0 0 (1 + expr_nodes a))
  with1-draft make a = stepped-is most a_node (exprs a) make a

  pub with2-draft : (make : PlainExpr → PlainExpr → PlainExpr) (a b : PlainExpr) → with2 most make (draft_of most a) (draft_of most b) ≡ drafted most (make a b) (counts 0 0 (1 + (expr_nodes a + expr_nodes b)))
  with2-draft make a b = pair-to most a_node (exprs a) (exprs b) (counts 0 0 (1 + (expr_nodes a + expr_nodes b))) (λ p. make p.0 p.1) a b (refl, refl, refl)

  pub with3-draft : (make : PlainExpr → PlainExpr → PlainExpr → PlainExpr) (a b c : PlainExpr) → with3 most make (draft_of most a) (draft_of most b) (draft_of most c) ≡ drafted most (make a b c) (counts 0 0 (1 + (expr_nodes a + (expr_nodes b + expr_nodes c))))
  with3-draft make a b c =
      ap (λ d. stepped most a_node (λ p. make p.0 p.1.0 p.1.1) (paired most (draft_of most a) d)) (paired-is most (exprs b) (exprs c) b c)
      ∙ pair-to most a_node (exprs a) (plus (exprs b) (exprs c)) (counts 0 0 (1 + (expr_nodes a + (expr_nodes b + expr_nodes c)))) (λ p. make p.0 p.1.0 p.1.1) a (b, c) (refl, refl, refl)

-- of columns
abbrev nodes_in_all : List PlainColumn → ℕ
nodes_in_all columns = sum_by (λ column. expr_nodes column.expr) columns

abbrev and_column : List ℕ → List PlainColumn × PlainExpr → List PlainColumn
and_column name p = p.0 ++ record { name = name; expr = p.1 } ∷ []

pub one_column_more : (most : Counts) (columns : List PlainColumn) (x : PlainColumn) → with_column most (columns_draft_of most columns) (x.name, draft_of most x.expr) ≡ columns_draft_of most (columns ++ x ∷ [])
one_column_more most columns x =
    let n = nodes_in_all columns in
    let e = expr_nodes x.expr in
    let sum : n + e ≡ nodes_in_all (columns ++ x ∷ []) = sym (sum_by_push (λ column. expr_nodes column.expr) columns x) in
    ap (mapped (and_column x.name)) (paired-is most (counts 0 0 n) (counts 0 0 e) columns x.expr)
    ∙ mapped-is most (counts 0 0 (n + e)) (and_column x.name) (columns, x.expr)
    ∙ (λ i. drafted most (columns ++ x ∷ []) (counts 0 0 (sum i)))

-- of each operator of plans
module _ (most : Counts) (p : PlainTree) where
  pub where_kept : (test : PlainExpr) → where_draft most (plan_draft_of most p) (draft_of most test) ≡ plan_draft_of most (plain.Where p test)
  where_kept test = pair-to most narrow (counts_of p) (counts 0 0 (expr_nodes test)) (counts_of (plain.Where p test)) (λ q. plain.Where q.0 q.1) p test (omega arith)

  pub select_kept : (columns : List PlainColumn) → select_draft most (plan_draft_of most p) (columns_draft_of most columns) ≡ plan_draft_of most (plain.Select p columns)
  select_kept columns = pair-to most narrow (counts_of p) (counts 0 0 (nodes_in_all columns)) (counts_of (plain.Select p columns)) (λ q. plain.Select q.0 q.1) p columns (omega arith)

  pub distinct_kept : distinct_draft most (plan_draft_of most p) ≡ plan_draft_of most (plain.Distinct p)
  distinct_kept = stepped-to most wide (counts_of p) (counts_of (plain.Distinct p)) plain.Distinct p (omega arith)

  pub group_kept : (keys : List (List ℕ)) (results : List NamedResult) → group_draft most (plan_draft_of most p) keys results ≡ plan_draft_of most (plain.Group p keys results)
  group_kept keys results = stepped-to most narrow (counts_of p) (counts_of (plain.Group p keys results)) (λ q. plain.Group q keys results) p (omega arith)

  pub order_kept : (keys : List NamedKey) → order_draft most (plan_draft_of most p) keys ≡ plan_draft_of most (plain.Order p keys)
  order_kept keys = stepped-to most narrow (counts_of p) (counts_of (plain.Order p keys)) (λ q. plain.Order q keys) p (omega arith)

  pub join_kept : (q : PlainTree) (on : List NamedPair) → join_draft most (plan_draft_of most p) (plan_draft_of most q) on ≡ plan_draft_of most (plain.Join p q on)
  join_kept q on = pair-to most wide (counts_of p) (counts_of q) (counts_of (plain.Join p q on)) (λ r. plain.Join r.0 r.1 on) p q (omega arith)

  pub concat_kept : (q : PlainTree) → concat_draft most (plan_draft_of most p) (plan_draft_of most q) ≡ plan_draft_of most (plain.Concat p q)
  concat_kept q = pair-to most wide (counts_of p) (counts_of q) (counts_of (plain.Concat p q)) (λ r. plain.Concat r.0 r.1) p q (omega arith)
