-- Worked plans, each with the rows that it gives: the definitions compute them.
use Rattle.std.specs.Prelude.{◌≡◌, refl, ℕ, pos, negsuc, true, false, List, [], ◌∷◌, ◌++◌, Ok, Err, codes}
use Rattle.rows_core.specs.declared.kind.Kind.TheVariants as kind
use Rattle.rows_core.specs.declared.order.Key.{Key}
use Rattle.rows_core.specs.declared.value.Value.{Value}
use Rattle.rows_core.specs.declared.value.Value.TheVariants as value
use Rattle.scalar_ops.specs.declared.cell.Cell.TheVariants as cell
use Rattle.scalar_ops.specs.Meaning.{overflow}
use Rattle.plan_core.specs.declared.agg.Agg.TheVariants.{Count, Sum, Min, Max, First, Last, Avg}
use Rattle.plan_core.specs.declared.refusal.PlanRefusal.TheVariants.{Unknown, IllTyped}
use Rattle.plan_core.specs.PlainExpr.{PlainExpr, Column, Literal, Call2, And, Or, If}
use Rattle.plan_core.specs.PlainPlan.{PlainPlan, Scan, Filter, Project, Distinct, Group, Join, Concat, Order, leaves}
use Rattle.plan_core.specs.Columns.{Rows}
use Rattle.plan_core.specs.ExpressionValue.{expression_value}
use Rattle.plan_core.specs.PlanTyping.{Kinds, plan_typing}
use Rattle.plan_core.specs.PlanMeaning.{plan_meaning}
use Rattle.plan_core.specs.MachineTime.{machine_time}

abbrev int : ℕ → Value
int n = value.Int (pos n)

-- -n - 1
abbrev below_zero : ℕ → Value
below_zero n = value.Int (negsuc n)

abbrev text : List ℕ → Value
text bytes = value.Text bytes

abbrev number : ℕ → PlainExpr
number n = Literal (cell.Int (pos n))

abbrev minus_one : PlainExpr
minus_one = Literal (cell.Int (negsuc 0))

abbrev add : PlainExpr → PlainExpr → PlainExpr
add = Call2 0

abbrev times : PlainExpr → PlainExpr → PlainExpr
times = Call2 2

abbrev over : PlainExpr → PlainExpr → PlainExpr
over = Call2 5

abbrev rest : PlainExpr → PlainExpr → PlainExpr
rest = Call2 6

abbrev equal : PlainExpr → PlainExpr → PlainExpr
equal = Call2 9

abbrev below : PlainExpr → PlainExpr → PlainExpr
below = Call2 13

abbrev above : PlainExpr → PlainExpr → PlainExpr
above = Call2 17

-- rows of one number each
abbrev column : List ℕ → Rows
column [] = []
column (n ∷ ns) = (int n ∷ []) ∷ column ns

abbrev up : ℕ → Key
up column = record { column = column; down = false }

abbrev down : ℕ → Key
down column = record { column = column; down = true }

-- ---- groups: the keys in the order in which they first occur

abbrev orders : Rows
orders =
    (int 1 ∷ text (codes "tea") ∷ int 2 ∷ [])
    ∷ (int 2 ∷ text (codes "cup") ∷ int 5 ∷ [])
    ∷ (int 3 ∷ text (codes "tea") ∷ int 4 ∷ []) ∷ []

abbrev sums_by_item : PlainPlan
sums_by_item = Group (Scan 0) (1 ∷ []) (Sum 2 ∷ [])

pub sums : plan_meaning sums_by_item (orders ∷ []) ≡ Ok ((text (codes "tea") ∷ int 6 ∷ []) ∷ (text (codes "cup") ∷ int 5 ∷ []) ∷ [])
sums = refl

pub sums_time : machine_time sums_by_item (orders ∷ []) ≡ 4
sums_time = refl

pub all_aggregates :
    plan_meaning (Group (Scan 0) (1 ∷ []) (Count ∷ Min 2 ∷ Max 2 ∷ First 0 ∷ Last 0 ∷ Avg 2 ∷ [])) (orders ∷ [])
    ≡ Ok ((text (codes "tea") ∷ int 2 ∷ int 2 ∷ int 4 ∷ int 1 ∷ int 3 ∷ int 3 ∷ [])
    ∷ (text (codes "cup") ∷ int 1 ∷ int 5 ∷ int 5 ∷ int 2 ∷ int 2 ∷ int 5 ∷ []) ∷ [])
all_aggregates = refl

-- no row, no group
pub no_groups : plan_meaning (Group (Scan 0) (0 ∷ []) (Count ∷ [])) ([] ∷ []) ≡ Ok []
no_groups = refl

-- ---- sums are exact, and an average is the floor

abbrev sum_by_first : PlainPlan
sum_by_first = Group (Scan 0) (0 ∷ []) (Sum 1 ∷ [])

abbrev nearly_too_much : Rows
nearly_too_much = (int 1 ∷ int 9223372036854775807 ∷ []) ∷ (int 1 ∷ int 1 ∷ []) ∷ []

pub sum_too_much : plan_meaning sum_by_first (nearly_too_much ∷ []) ≡ Err overflow
sum_too_much = refl

pub sum_back_in_range :
    plan_meaning sum_by_first ((nearly_too_much ++ (int 1 ∷ below_zero 0 ∷ []) ∷ []) ∷ [])
    ≡ Ok ((int 1 ∷ int 9223372036854775807 ∷ []) ∷ [])
sum_back_in_range = refl

-- the average of -3 and 2 is -1
pub floor_of_average :
    plan_meaning (Group (Scan 0) (0 ∷ []) (Avg 1 ∷ [])) (((int 1 ∷ below_zero 2 ∷ []) ∷ (int 1 ∷ int 2 ∷ []) ∷ []) ∷ [])
    ≡ Ok ((int 1 ∷ below_zero 0 ∷ []) ∷ [])
floor_of_average = refl

-- ---- a column that is an overflow, though nothing uses it

pub unused_overflow :
    plan_meaning (Project (Project (Scan 0) (add (Column 0) (number 1) ∷ Column 0 ∷ [])) (Column 1 ∷ []))
    (column (9223372036854775807 ∷ []) ∷ [])
    ≡ Err overflow
unused_overflow = refl

-- ---- tests and columns

abbrev points : Rows
points = (int 2 ∷ int 4 ∷ []) ∷ (int 2 ∷ int 9 ∷ []) ∷ (int 0 ∷ int 1 ∷ []) ∷ []

abbrev corner : PlainPlan
corner = Filter (Scan 0) (And (above (Column 0) (number 1)) (below (Column 1) (number 5)))

pub filtered : plan_meaning corner (points ∷ []) ≡ Ok ((int 2 ∷ int 4 ∷ []) ∷ [])
filtered = refl

pub filtered_twice :
    plan_meaning (Filter (Filter (Scan 0) (above (Column 0) (number 1))) (below (Column 1) (number 5))) (points ∷ [])
    ≡ plan_meaning corner (points ∷ [])
filtered_twice = refl

pub projected :
    plan_meaning (Project corner (add (times (Column 0) (number 10)) (Column 1) ∷ [])) (points ∷ [])
    ≡ Ok ((int 24 ∷ []) ∷ [])
projected = refl

-- ---- joins

abbrev lefts : Rows
lefts = (int 1 ∷ text (codes "a") ∷ []) ∷ (int 2 ∷ text (codes "b") ∷ []) ∷ []

abbrev rights : Rows
rights = (int 1 ∷ int 10 ∷ []) ∷ (int 2 ∷ int 20 ∷ []) ∷ (int 1 ∷ int 11 ∷ []) ∷ []

-- in the order of the left rows
pub joined :
    plan_meaning (Join (Scan 0) (Scan 1) ((0, 0) ∷ [])) (lefts ∷ rights ∷ [])
    ≡ Ok ((int 1 ∷ text (codes "a") ∷ int 1 ∷ int 10 ∷ [])
    ∷ (int 1 ∷ text (codes "a") ∷ int 1 ∷ int 11 ∷ [])
    ∷ (int 2 ∷ text (codes "b") ∷ int 2 ∷ int 20 ∷ []) ∷ [])
joined = refl

-- 1, two left rows and three right ones
pub join_time : machine_time (Join (Scan 0) (Scan 1) ((0, 0) ∷ [])) (lefts ∷ rights ∷ []) ≡ 6
join_time = refl

abbrev self_join : PlainPlan
self_join = Join (Scan 0) (Project (Scan 0) (times (Column 0) (number 10) ∷ [])) ((0, 0) ∷ [])

abbrev steps : Rows
steps = column (1 ∷ 2 ∷ 3 ∷ 10 ∷ 4 ∷ 5 ∷ 20 ∷ 1 ∷ [])

-- each leaf has its own list, also where both are of one stream
pub joined_with_itself :
    plan_meaning self_join (steps ∷ steps ∷ [])
    ≡ Ok ((int 10 ∷ int 10 ∷ []) ∷ (int 10 ∷ int 10 ∷ []) ∷ (int 20 ∷ int 20 ∷ []) ∷ [])
joined_with_itself = refl

pub leaves_of_a_self_join : leaves self_join ≡ 0 ∷ 0 ∷ []
leaves_of_a_self_join = refl

-- ---- the first of equal rows, and ties in an order

pub different : plan_meaning (Distinct (Scan 0)) (column (1 ∷ 2 ∷ 1 ∷ 2 ∷ 3 ∷ []) ∷ []) ≡ Ok (column (1 ∷ 2 ∷ 3 ∷ []))
different = refl

abbrev tied : Rows
tied = (int 2 ∷ text (codes "a") ∷ []) ∷ (int 1 ∷ text (codes "b") ∷ []) ∷ (int 2 ∷ text (codes "c") ∷ []) ∷ []

pub ordered_down :
    plan_meaning (Order (Scan 0) (down 0 ∷ [])) (tied ∷ [])
    ≡ Ok ((int 2 ∷ text (codes "a") ∷ []) ∷ (int 2 ∷ text (codes "c") ∷ []) ∷ (int 1 ∷ text (codes "b") ∷ []) ∷ [])
ordered_down = refl

pub ordered_by_two :
    plan_meaning (Order (Scan 0) (up 0 ∷ down 1 ∷ [])) (tied ∷ [])
    ≡ Ok ((int 1 ∷ text (codes "b") ∷ []) ∷ (int 2 ∷ text (codes "c") ∷ []) ∷ (int 2 ∷ text (codes "a") ∷ []) ∷ [])
ordered_by_two = refl

pub different_and_ordered :
    plan_meaning (Order (Distinct (Scan 0)) (down 0 ∷ [])) (column (1 ∷ 2 ∷ 1 ∷ []) ∷ []) ≡ Ok (column (2 ∷ 1 ∷ []))
different_and_ordered = refl

pub different_and_ordered_time : machine_time (Order (Distinct (Scan 0)) (down 0 ∷ [])) (column (1 ∷ 2 ∷ 1 ∷ []) ∷ []) ≡ 6
different_and_ordered_time = refl

-- ---- one list behind the other

pub doubled :
    plan_meaning (Concat (Scan 0) (Scan 0)) (column (1 ∷ 2 ∷ []) ∷ column (1 ∷ 2 ∷ []) ∷ []) ≡ Ok (column (1 ∷ 2 ∷ 1 ∷ 2 ∷ []))
doubled = refl

-- 1, two left rows, and two right ones, which a filter took in before
pub concat_time :
    machine_time (Concat (Scan 0) (Filter (Scan 0) (above (Column 0) (number 0)))) (column (1 ∷ 2 ∷ []) ∷ column (1 ∷ 2 ∷ []) ∷ []) ≡ 7
concat_time = refl

-- the inner projection takes in two rows and is an overflow: the outer one takes in none
pub overflow_time :
    machine_time (Project (Project (Scan 0) (add (Column 0) (number 1) ∷ Column 0 ∷ [])) (Column 1 ∷ []))
    (column (9223372036854775807 ∷ 1 ∷ []) ∷ [])
    ≡ 3
overflow_time = refl

-- ---- the ends of i64

abbrev least : Rows
least = (below_zero 9223372036854775807 ∷ []) ∷ []

pub rest_of_the_least : plan_meaning (Project (Scan 0) (rest (Column 0) minus_one ∷ [])) (least ∷ []) ≡ Ok ((int 0 ∷ []) ∷ [])
rest_of_the_least = refl

pub quotient_of_the_least : plan_meaning (Project (Scan 0) (over (Column 0) minus_one ∷ [])) (least ∷ []) ≡ Err overflow
quotient_of_the_least = refl

pub floors_of_the_least :
    plan_meaning (Project (Scan 0) (over (Column 0) (number 2) ∷ rest (Column 0) (number 3) ∷ [])) (least ∷ [])
    ≡ Ok ((below_zero 4611686018427387903 ∷ int 1 ∷ []) ∷ [])
floors_of_the_least = refl

-- ---- only the part that is needed: the number above the greatest is an overflow

abbrev too_much : PlainExpr
too_much = equal (add (number 9223372036854775807) (number 1)) (number 0)

abbrev yes : PlainExpr
yes = Literal (cell.Bool true)

abbrev no : PlainExpr
no = Literal (cell.Bool false)

pub false_and : expression_value (And no too_much) [] ≡ Ok (cell.Bool false)
false_and = refl

pub true_and : expression_value (And yes too_much) [] ≡ Err overflow
true_and = refl

pub true_or : expression_value (Or yes too_much) [] ≡ Ok (cell.Bool true)
true_or = refl

pub if_true : expression_value (If yes (number 1) (add (number 9223372036854775807) (number 1))) [] ≡ Ok (cell.Int (pos 1))
if_true = refl

pub if_false : expression_value (If no (number 1) (add (number 9223372036854775807) (number 1))) [] ≡ Err overflow
if_false = refl

-- ---- typing

abbrev streams : List Kinds
streams = (kind.Int ∷ kind.Text ∷ kind.Int ∷ []) ∷ (kind.Int ∷ []) ∷ []

pub typed : plan_typing streams sums_by_item ≡ Ok (kind.Text ∷ kind.Int ∷ [])
typed = refl

-- an absent stream comes before a fault of the types
pub unknown_first : plan_typing streams (Filter (Join (Scan 0) (Scan 7) ((0, 0) ∷ [])) (Column 9)) ≡ Err (Unknown 7)
unknown_first = refl

-- a text isn't above a number
pub text_above_a_number : plan_typing streams (Filter (Scan 0) (above (Column 1) (number 1))) ≡ Err IllTyped
text_above_a_number = refl

pub division_by_zero : plan_typing streams (Filter (Scan 0) (equal (over (Column 0) (number 0)) (number 1))) ≡ Err IllTyped
division_by_zero = refl

pub division_by_a_column : plan_typing streams (Project (Scan 0) (over (Column 0) (Column 2) ∷ [])) ≡ Err IllTyped
division_by_a_column = refl

pub concat_of_other_kinds : plan_typing streams (Concat (Scan 0) (Scan 1)) ≡ Err IllTyped
concat_of_other_kinds = refl

pub group_without_aggregates : plan_typing streams (Group (Scan 0) (1 ∷ []) []) ≡ Err IllTyped
group_without_aggregates = refl
