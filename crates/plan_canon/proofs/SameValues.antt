-- Each rule of expressions, and each step, keeps the kind and the values.
use Rattle.std.proofs.Common.{◌≡◌, refl, sym, ap, ◌∙◌, subst, ℕ, Bool, true, false, ◌&&◌, not, cond, List, [], ◌∷◌, map, Option, None, Some, IfSome, Result, Ok, Err}
use Rattle.std.specs.Option.{option_map, option_and_then, is_some}
use Rattle.rows_core.specs.declared.overflow.Overflow.{Overflow}
use Rattle.rows_core.specs.declared.kind.Kind as column
use Rattle.rows_core.specs.Value.{kind_of}
use Rattle.scalar_ops.specs.declared.cell.Cell.{Cell}
use Rattle.scalar_ops.specs.declared.cell.Cell.TheVariants as cell
use Rattle.scalar_ops.specs.declared.cell.CellKind.{CellKind}
use Rattle.scalar_ops.specs.declared.cell.CellKind.TheVariants as kind
use Rattle.scalar_ops.specs.Cells.{kind_of_cell}
use Rattle.scalar_ops.specs.Meaning.{meaning, op_at}
use Rattle.plan_core.specs.PlainExpr.{PlainExpr, Column, Literal, Call1, Call2, And, Or, If}
use Rattle.plan_core.specs.Columns.{Row}
use Rattle.plan_core.specs.ExpressionKind.{expression_kind, call_kind, both_truths, choice_kind, same_cell_kind, of_both, is_division, is_divisor}
use Rattle.plan_core.specs.ExpressionValue.{◌>>=◌, expression_value}
use Rattle.plan_core.specs.ExpressionValue.{is_true as holds}
use Rattle.plan_core.proofs.ValueKinds.{typed_value}
use Rattle.plan_laws.proofs.TypedPlans.{and_then}
use Rattle.plan_laws.proofs.Answers.{both_some}
use Rattle.plan_canon.specs.ExprRules.{truth, is_true, is_false, cell_given, call1_rule, call2_rule, and_to_the_left, or_to_the_left, and_rule, or_rule, if_rule, expr_step}
use Rattle.plan_canon.proofs.Reached.{inside, each_of, both_of}

pub true_is : (a : PlainExpr) → is_true a ≡ true → a ≡ truth true
true_is (Literal (cell.Bool true)) e = refl
true_is (Literal (cell.Bool false)) e = absurd cc
true_is _ e = absurd cc

pub false_is : (a : PlainExpr) → is_false a ≡ true → a ≡ truth false
false_is (Literal (cell.Bool true)) e = absurd cc
false_is (Literal (cell.Bool false)) e = refl
false_is _ e = absurd cc

-- ---- kinds

given_value : (typed : Bool) (r : Result Cell Overflow) (c : Cell) → cond typed (cell_given r) None ≡ Some c → r ≡ Ok c
given_value true (Ok d) c e = let same : d ≡ c = cc in ap Ok same
given_value true (Err o) c e = absurd cc
given_value false r c e = absurd cc

-- the value of a call of literals
pub call1_value : (op : ℕ) (a : PlainExpr) (c : Cell) → call1_rule op a ≡ Some c → (row : Row) → expression_value (Call1 op a) row ≡ Ok c
call1_value op (Literal x) c e row = given_value (is_some (expression_kind [] (Call1 op (Literal x)))) (meaning op (x ∷ [])) c e
call1_value op _ c e row = absurd cc

pub call2_value : (op : ℕ) (a b : PlainExpr) (c : Cell) → call2_rule op a b ≡ Some c → (row : Row) → expression_value (Call2 op a b) row ≡ Ok c
call2_value op (Literal x) (Literal y) c e row = given_value (is_some (expression_kind [] (Call2 op (Literal x) (Literal y)))) (meaning op (x ∷ y ∷ [])) c e
call2_value op (Literal x) _ c e row = absurd cc
call2_value op _ b c e row = absurd cc

-- a call of literals has its kind over any columns
call1_kind : (kinds : List column.Kind) (op : ℕ) (a : PlainExpr) (c : Cell) (k : CellKind) → call1_rule op a ≡ Some c → expression_kind kinds (Call1 op a) ≡ Some k → kind_of_cell c ≡ k
call1_kind kinds op (Literal x) c k e typed = typed_value (Call1 op (Literal x)) [] k c typed (call1_value op (Literal x) c e [])
call1_kind kinds op _ c k e typed = absurd cc

call2_kind : (kinds : List column.Kind) (op : ℕ) (a b : PlainExpr) (c : Cell) (k : CellKind) → call2_rule op a b ≡ Some c → expression_kind kinds (Call2 op a b) ≡ Some k → kind_of_cell c ≡ k
call2_kind kinds op (Literal x) (Literal y) c k e typed = typed_value (Call2 op (Literal x) (Literal y)) [] k c typed (call2_value op (Literal x) (Literal y) c e [])
call2_kind kinds op (Literal x) _ c k e typed = absurd cc
call2_kind kinds op _ b c k e typed = absurd cc

pub truths : (o p : Option CellKind) (k : CellKind) → both_truths o p ≡ Some k → (o ≡ Some kind.Bool) × (p ≡ Some kind.Bool) × (kind.Bool ≡ k)
truths (Some kind.Bool) (Some kind.Bool) k e = (refl, refl, cc)
truths _ _ k e = absurd cc

same_kinds : (k : CellKind) → same_cell_kind k k ≡ true
same_kinds kind.Int = refl
same_kinds kind.Text = refl
same_kinds kind.Bool = refl

one_of : (j l k : CellKind) → cond (same_cell_kind j l) (Some j) None ≡ Some k → (Some j ≡ Some k) × (Some l ≡ Some k)
one_of kind.Int kind.Int k e = (e, e)
one_of kind.Text kind.Text k e = (e, e)
one_of kind.Bool kind.Bool k e = (e, e)
one_of _ _ k e = absurd cc

pub choices : (o p q : Option CellKind) (k : CellKind) → choice_kind o p q ≡ Some k → (o ≡ Some kind.Bool) × (p ≡ Some k) × (q ≡ Some k)
choices (Some kind.Bool) (Some j) (Some l) k e = let is = one_of j l k e in (refl, is.0, is.1)
choices _ _ _ k e = absurd cc

-- what a division asks of its divisor, and the kind
pub unless : (d v : Bool) (o : Option CellKind) (k : CellKind) → cond (d && not v) None o ≡ Some k → (o ≡ Some k) × (d ≡ true → v ≡ true)
unless true true o k e = (e, λ p. refl)
unless true false o k e = absurd cc
unless false v o k e = (e, λ p. absurd cc)

pub allowed : (d v : Bool) (o : Option CellKind) (k : CellKind) → o ≡ Some k → (d ≡ true → v ≡ true) → cond (d && not v) None o ≡ Some k
allowed true v o k e h = ap (λ v. cond (not v) None o) (h refl) ∙ e
allowed false v o k e h = e

-- a literal has no step
divisor_step : (b : PlainExpr) → IfSome (expr_step b) (λ x. is_divisor b ≡ true → is_divisor x ≡ true)
divisor_step (Literal c) = tt
divisor_step b = each_of (λ x. is_divisor b ≡ true → is_divisor x ≡ true) (expr_step b) (λ x step e. absurd cc)

module _ (kinds : List column.Kind) where
  abbrev pub HasKind : PlainExpr → CellKind → Type 0
  HasKind e k = expression_kind kinds e ≡ Some k

  pub both : {A : Type 0} (f : Option CellKind → Option CellKind → A) {o p q r : Option CellKind} → o ≡ q → p ≡ r → f o p ≡ f q r
  both f e h = λ i. f (e i) (h i)

  pub if_kind : (c a b : PlainExpr) (k : CellKind) → HasKind c kind.Bool → HasKind a k → HasKind b k → HasKind (If c a b) k
  if_kind c a b k hc ha hb = (λ i. choice_kind (hc i) (ha i) (hb i)) ∙ ap (λ t. cond t (Some k) None) (same_kinds k)

  -- ---- rules

  computed_kind : (o : Option Cell) (k : CellKind) → ((c : Cell) → o ≡ Some c → kind_of_cell c ≡ k) → IfSome (option_map Literal o) (λ x. HasKind x k)
  computed_kind None k h = tt
  computed_kind (Some c) k h = ap Some (h c refl)

  and_left_kind : (a b : PlainExpr) → HasKind a kind.Bool → HasKind b kind.Bool → IfSome (and_to_the_left a b) (λ x. HasKind x kind.Bool)
  and_left_kind a (And b c) ha hb =
      let parts = truths (expression_kind kinds b) (expression_kind kinds c) kind.Bool hb in
      both both_truths (both both_truths ha parts.0) parts.1
  and_left_kind a _ ha hb = tt

  or_left_kind : (a b : PlainExpr) → HasKind a kind.Bool → HasKind b kind.Bool → IfSome (or_to_the_left a b) (λ x. HasKind x kind.Bool)
  or_left_kind a (Or b c) ha hb =
      let parts = truths (expression_kind kinds b) (expression_kind kinds c) kind.Bool hb in
      both both_truths (both both_truths ha parts.0) parts.1
  or_left_kind a _ ha hb = tt

  flat_kind : (t u f w : Bool) (a b : PlainExpr) (left : Option PlainExpr) → HasKind a kind.Bool → HasKind b kind.Bool → IfSome left (λ x. HasKind x kind.Bool)
      → IfSome (cond t (Some b) (cond u (Some a) (cond f (Some (truth w)) left))) (λ x. HasKind x kind.Bool)
  flat_kind true u f w a b left ha hb hl = hb
  flat_kind false true f w a b left ha hb hl = ha
  flat_kind false false true w a b left ha hb hl = refl
  flat_kind false false false w a b left ha hb hl = hl

  and_rule_kind : (a b : PlainExpr) (k : CellKind) → HasKind (And a b) k → IfSome (and_rule a b) (λ x. HasKind x k)
  and_rule_kind a b k h =
      let parts = truths (expression_kind kinds a) (expression_kind kinds b) k h in
      subst (λ k. IfSome (and_rule a b) (λ x. HasKind x k)) parts.2
      (flat_kind (is_true a) (is_true b) (is_false a) false a b (and_to_the_left a b) parts.0 parts.1 (and_left_kind a b parts.0 parts.1))

  or_rule_kind : (a b : PlainExpr) (k : CellKind) → HasKind (Or a b) k → IfSome (or_rule a b) (λ x. HasKind x k)
  or_rule_kind a b k h =
      let parts = truths (expression_kind kinds a) (expression_kind kinds b) k h in
      subst (λ k. IfSome (or_rule a b) (λ x. HasKind x k)) parts.2
      (flat_kind (is_false a) (is_false b) (is_true a) true a b (or_to_the_left a b) parts.0 parts.1 (or_left_kind a b parts.0 parts.1))

  if_rule_kind : (c a b : PlainExpr) (k : CellKind) → HasKind a k → HasKind b k → IfSome (if_rule c a b) (λ x. HasKind x k)
  if_rule_kind c a b k ha hb = by (is_true c) (is_false c)
    where
      by : (t f : Bool) → IfSome (cond t (Some a) (cond f (Some b) None)) (λ x. HasKind x k)
      by true f = ha
      by false true = hb
      by false false = tt

  -- ---- steps

  pub step_kind : (e : PlainExpr) (k : CellKind) → HasKind e k → IfSome (expr_step e) (λ x. HasKind x k)
  step_kind (Column i) k h = tt
  step_kind (Literal c) k h = tt
  step_kind (Call1 op a) k h =
      let arg = and_then (λ j. call_kind op (j ∷ [])) (expression_kind kinds a) k h in
      inside (λ x. HasKind x arg.0) (λ x. HasKind x k) (Call1 op) (expr_step a) _ (λ x is. ap (option_and_then (λ j. call_kind op (j ∷ []))) is ∙ arg.2) (step_kind a arg.0 arg.1)
      (computed_kind (call1_rule op a) k (λ c e. call1_kind kinds op a c k e h))
  step_kind (Call2 op a b) k h =
      let whole = unless (is_division (op_at op)) (is_divisor b) _ k h in
      let args = both_some (λ j l. call_kind op (j ∷ l ∷ [])) (expression_kind kinds a) (expression_kind kinds b) k whole.0 in
      inside (λ x. HasKind x args.0) (λ x. HasKind x k) (λ x. Call2 op x b) (expr_step a) _
      (λ x is. allowed (is_division (op_at op)) (is_divisor b) _ k (both (of_both (λ j l. call_kind op (j ∷ l ∷ []))) is args.3 ∙ args.4) whole.1)
      (step_kind a args.0 args.2)
      (inside (λ x. HasKind x args.1 × (is_divisor b ≡ true → is_divisor x ≡ true)) (λ x. HasKind x k) (Call2 op a) (expr_step b) _
      (λ x is. allowed (is_division (op_at op)) (is_divisor x) _ k (both (of_both (λ j l. call_kind op (j ∷ l ∷ []))) args.2 is.0 ∙ args.4) (λ d. is.1 (whole.1 d)))
      (both_of (λ x. HasKind x args.1) (λ x. is_divisor b ≡ true → is_divisor x ≡ true) (expr_step b) (step_kind b args.1 args.3) (divisor_step b))
      (computed_kind (call2_rule op a b) k (λ c e. call2_kind kinds op a b c k e h)))
  step_kind (And a b) k h =
      let parts = truths (expression_kind kinds a) (expression_kind kinds b) k h in
      inside (λ x. HasKind x kind.Bool) (λ x. HasKind x k) (λ x. And x b) (expr_step a) _ (λ x is. both both_truths is parts.1 ∙ ap Some parts.2) (step_kind a kind.Bool parts.0)
      (inside (λ x. HasKind x kind.Bool) (λ x. HasKind x k) (And a) (expr_step b) _ (λ x is. both both_truths parts.0 is ∙ ap Some parts.2) (step_kind b kind.Bool parts.1)
      (and_rule_kind a b k h))
  step_kind (Or a b) k h =
      let parts = truths (expression_kind kinds a) (expression_kind kinds b) k h in
      inside (λ x. HasKind x kind.Bool) (λ x. HasKind x k) (λ x. Or x b) (expr_step a) _ (λ x is. both both_truths is parts.1 ∙ ap Some parts.2) (step_kind a kind.Bool parts.0)
      (inside (λ x. HasKind x kind.Bool) (λ x. HasKind x k) (Or a) (expr_step b) _ (λ x is. both both_truths parts.0 is ∙ ap Some parts.2) (step_kind b kind.Bool parts.1)
      (or_rule_kind a b k h))
  step_kind (If c a b) k h =
      let parts = choices (expression_kind kinds c) (expression_kind kinds a) (expression_kind kinds b) k h in
      inside (λ x. HasKind x kind.Bool) (λ x. HasKind x k) (λ x. If x a b) (expr_step c) _ (λ x is. if_kind x a b k is parts.1 parts.2) (step_kind c kind.Bool parts.0)
      (inside (λ x. HasKind x k) (λ x. HasKind x k) (λ x. If c x b) (expr_step a) _ (λ x is. if_kind c x b k parts.0 is parts.2) (step_kind a k parts.1)
      (inside (λ x. HasKind x k) (λ x. HasKind x k) (If c a) (expr_step b) _ (λ x is. if_kind c a x k parts.0 parts.1 is) (step_kind b k parts.2)
      (if_rule_kind c a b k parts.1 parts.2)))

-- ---- values

abbrev Given : Type 0
Given = Result Cell Overflow

abbrev and_value : Given → Given → Given
and_value x y = x >>= λ c. cond (holds c) y (Ok (cell.Bool false))

abbrev or_value : Given → Given → Given
or_value x y = x >>= λ c. cond (holds c) (Ok (cell.Bool true)) y

and_assoc : (x y z : Given) → and_value (and_value x y) z ≡ and_value x (and_value y z)
and_assoc (Err o) y z = refl
and_assoc (Ok c) y z = by (holds c)
  where
    by : (b : Bool) → and_value (cond b y (Ok (cell.Bool false))) z ≡ cond b (and_value y z) (Ok (cell.Bool false))
    by true = refl
    by false = refl

or_assoc : (x y z : Given) → or_value (or_value x y) z ≡ or_value x (or_value y z)
or_assoc (Err o) y z = refl
or_assoc (Ok c) y z = by (holds c)
  where
    by : (b : Bool) → or_value (cond b (Ok (cell.Bool true)) y) z ≡ cond b (Ok (cell.Bool true)) (or_value y z)
    by true = refl
    by false = refl

-- a truth value is itself `and true`, and `or false`
and_true : (x : Given) → ((c : Cell) → x ≡ Ok c → kind_of_cell c ≡ kind.Bool) → x ≡ and_value x (Ok (cell.Bool true))
and_true (Err o) h = refl
and_true (Ok (cell.Bool true)) h = refl
and_true (Ok (cell.Bool false)) h = refl
and_true (Ok c) h = let e = h c refl in absurd cc

or_false : (x : Given) → ((c : Cell) → x ≡ Ok c → kind_of_cell c ≡ kind.Bool) → x ≡ or_value x (Ok (cell.Bool false))
or_false (Err o) h = refl
or_false (Ok (cell.Bool true)) h = refl
or_false (Ok (cell.Bool false)) h = refl
or_false (Ok c) h = let e = h c refl in absurd cc

module _ (row : Row) where
  abbrev Value : PlainExpr → Given
  Value e = expression_value e row

  abbrev IsTest : PlainExpr → Type 0
  IsTest e = expression_kind (map kind_of row) e ≡ Some kind.Bool

  is_truth : (e : PlainExpr) → IsTest e → (c : Cell) → Value e ≡ Ok c → kind_of_cell c ≡ kind.Bool
  is_truth e typed c is = typed_value e row kind.Bool c typed is

  -- ---- rules

  pub with_true : (a : PlainExpr) → IsTest a → Value a ≡ Value (And a (truth true))
  with_true a typed = and_true (Value a) (is_truth a typed)

  pub with_false : (a : PlainExpr) → IsTest a → Value a ≡ Value (Or a (truth false))
  with_false a typed = or_false (Value a) (is_truth a typed)

  pub and_left_value : (a b c : PlainExpr) → Value (And (And a b) c) ≡ Value (And a (And b c))
  and_left_value a b c = and_assoc (Value a) (Value b) (Value c)

  pub or_left_value : (a b c : PlainExpr) → Value (Or (Or a b) c) ≡ Value (Or a (Or b c))
  or_left_value a b c = or_assoc (Value a) (Value b) (Value c)

  computed_value : (o : Option Cell) (v : Given) → ((c : Cell) → o ≡ Some c → v ≡ Ok c) → IfSome (option_map Literal o) (λ x. Value x ≡ v)
  computed_value None v h = tt
  computed_value (Some c) v h = sym (h c refl)

  and_rule_value : (a b : PlainExpr) → IsTest a → IfSome (and_rule a b) (λ x. Value x ≡ Value (And a b))
  and_rule_value a b ha = by (is_true a) (is_true b) (is_false a) refl refl refl
    where
      left : (b : PlainExpr) → IfSome (and_to_the_left a b) (λ x. Value x ≡ Value (And a b))
      left (And b c) = and_left_value a b c
      left _ = tt

      by : (t u f : Bool) → is_true a ≡ t → is_true b ≡ u → is_false a ≡ f
          → IfSome (cond t (Some b) (cond u (Some a) (cond f (Some (truth false)) (and_to_the_left a b)))) (λ x. Value x ≡ Value (And a b))
      by true u f p q r = sym (ap (λ x. Value (And x b)) (true_is a p))
      by false true f p q r = with_true a ha ∙ sym (ap (λ x. Value (And a x)) (true_is b q))
      by false false true p q r = sym (ap (λ x. Value (And x b)) (false_is a r))
      by false false false p q r = left b

  or_rule_value : (a b : PlainExpr) → IsTest a → IfSome (or_rule a b) (λ x. Value x ≡ Value (Or a b))
  or_rule_value a b ha = by (is_false a) (is_false b) (is_true a) refl refl refl
    where
      left : (b : PlainExpr) → IfSome (or_to_the_left a b) (λ x. Value x ≡ Value (Or a b))
      left (Or b c) = or_left_value a b c
      left _ = tt

      by : (t u f : Bool) → is_false a ≡ t → is_false b ≡ u → is_true a ≡ f
          → IfSome (cond t (Some b) (cond u (Some a) (cond f (Some (truth true)) (or_to_the_left a b)))) (λ x. Value x ≡ Value (Or a b))
      by true u f p q r = sym (ap (λ x. Value (Or x b)) (false_is a p))
      by false true f p q r = with_false a ha ∙ sym (ap (λ x. Value (Or a x)) (false_is b q))
      by false false true p q r = sym (ap (λ x. Value (Or x b)) (true_is a r))
      by false false false p q r = left b

  if_rule_value : (c a b : PlainExpr) → IfSome (if_rule c a b) (λ x. Value x ≡ Value (If c a b))
  if_rule_value c a b = by (is_true c) (is_false c) refl refl
    where
      by : (t f : Bool) → is_true c ≡ t → is_false c ≡ f → IfSome (cond t (Some a) (cond f (Some b) None)) (λ x. Value x ≡ Value (If c a b))
      by true f p q = sym (ap (λ x. Value (If x a b)) (true_is c p))
      by false true p q = sym (ap (λ x. Value (If x a b)) (false_is c q))
      by false false p q = tt

  -- ---- steps

  pub step_value : (e : PlainExpr) (k : CellKind) → expression_kind (map kind_of row) e ≡ Some k → IfSome (expr_step e) (λ x. Value x ≡ Value e)
  step_value (Column i) k h = tt
  step_value (Literal c) k h = tt
  step_value (Call1 op a) k h =
      let arg = and_then (λ j. call_kind op (j ∷ [])) (expression_kind (map kind_of row) a) k h in
      inside (λ x. Value x ≡ Value a) (λ x. Value x ≡ Value (Call1 op a)) (Call1 op) (expr_step a) _ (λ x is. ap (λ v. v >>= λ x. meaning op (x ∷ [])) is) (step_value a arg.0 arg.1)
      (computed_value (call1_rule op a) (Value (Call1 op a)) (λ c e. call1_value op a c e row))
  step_value (Call2 op a b) k h =
      let whole = unless (is_division (op_at op)) (is_divisor b) _ k h in
      let args = both_some (λ j l. call_kind op (j ∷ l ∷ [])) (expression_kind (map kind_of row) a) (expression_kind (map kind_of row) b) k whole.0 in
      inside (λ x. Value x ≡ Value a) (λ x. Value x ≡ Value (Call2 op a b)) (λ x. Call2 op x b) (expr_step a) _
      (λ x is. ap (λ v. v >>= λ x. Value b >>= λ y. meaning op (x ∷ y ∷ [])) is) (step_value a args.0 args.2)
      (inside (λ x. Value x ≡ Value b) (λ x. Value x ≡ Value (Call2 op a b)) (Call2 op a) (expr_step b) _
      (λ x is. ap (λ w. Value a >>= λ x. w >>= λ y. meaning op (x ∷ y ∷ [])) is) (step_value b args.1 args.3)
      (computed_value (call2_rule op a b) (Value (Call2 op a b)) (λ c e. call2_value op a b c e row)))
  step_value (And a b) k h =
      let parts = truths (expression_kind (map kind_of row) a) (expression_kind (map kind_of row) b) k h in
      inside (λ x. Value x ≡ Value a) (λ x. Value x ≡ Value (And a b)) (λ x. And x b) (expr_step a) _ (λ x is. ap (λ v. and_value v (Value b)) is) (step_value a kind.Bool parts.0)
      (inside (λ x. Value x ≡ Value b) (λ x. Value x ≡ Value (And a b)) (And a) (expr_step b) _ (λ x is. ap (and_value (Value a)) is) (step_value b kind.Bool parts.1)
      (and_rule_value a b parts.0))
  step_value (Or a b) k h =
      let parts = truths (expression_kind (map kind_of row) a) (expression_kind (map kind_of row) b) k h in
      inside (λ x. Value x ≡ Value a) (λ x. Value x ≡ Value (Or a b)) (λ x. Or x b) (expr_step a) _ (λ x is. ap (λ v. or_value v (Value b)) is) (step_value a kind.Bool parts.0)
      (inside (λ x. Value x ≡ Value b) (λ x. Value x ≡ Value (Or a b)) (Or a) (expr_step b) _ (λ x is. ap (or_value (Value a)) is) (step_value b kind.Bool parts.1)
      (or_rule_value a b parts.0))
  step_value (If c a b) k h =
      let parts = choices (expression_kind (map kind_of row) c) (expression_kind (map kind_of row) a) (expression_kind (map kind_of row) b) k h in
      inside (λ x. Value x ≡ Value c) (λ x. Value x ≡ Value (If c a b)) (λ x. If x a b) (expr_step c) _
      (λ x is. ap (λ v. v >>= λ t. cond (holds t) (Value a) (Value b)) is) (step_value c kind.Bool parts.0)
      (inside (λ x. Value x ≡ Value a) (λ x. Value x ≡ Value (If c a b)) (λ x. If c x b) (expr_step a) _
      (λ x is. ap (λ v. Value c >>= λ t. cond (holds t) v (Value b)) is) (step_value a k parts.1)
      (inside (λ x. Value x ≡ Value b) (λ x. Value x ≡ Value (If c a b)) (If c a) (expr_step b) _
      (λ x is. ap (λ v. Value c >>= λ t. cond (holds t) (Value a) v) is) (step_value b k parts.2)
      (if_rule_value c a b)))
