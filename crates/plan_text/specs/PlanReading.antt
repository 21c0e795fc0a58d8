-- How tokens are read as a plan, rule by rule: what is read at their front, and what stands behind it. Plans within `most` are
-- kept. The laws that tie it to the grammar are in proofs.
use Prim.Native.Nat.{zero, suc}
use Rattle.std.specs.Prelude.{ℕ, List, [], ◌∷◌, ◌++◌, Option, None, Some, true, false, codes, bytes_eq, if◌then◌else◌, Vec}
use Rattle.std.specs.declared.alloc.Global.{Global}
use Rattle.std.specs.Option.{option_map}
use Rattle.plan_text.specs.declared.token.Token.TheVariants.{Name, Word, Mark}
use Rattle.plan_text.specs.declared.token.Mark.TheVariants as mark
use Rattle.plan_text.specs.declared.token.Word.TheVariants as word
use Rattle.plan_text.specs.declared.plan.AggFunction as agg_function
use Rattle.plan_text.specs.declared.plan.AggFunction.TheVariants as function
use Rattle.plan_text.specs.declared.plan.NamedAgg.{NamedAgg}
use Rattle.plan_text.specs.declared.plan.NamedAgg.TheVariants as agg
use Rattle.plan_text.specs.declared.plan.NamedResult.{NamedResult}
use Rattle.plan_text.specs.declared.plan.NamedPair.{NamedPair}
use Rattle.plan_text.specs.declared.plan.NamedKey.{NamedKey}
use Rattle.plan_text.specs.declared.counts.Counts.{Counts}
use Rattle.plan_text.specs.Draft.{PlainDraft}
use Rattle.plan_text.specs.declared.parser.Terminal.TheVariants.{Bar, Close, Comma, On, Open, With}
use Rattle.plan_text.specs.Reader.{ReaderOf, and_then, terminal_at, up_to, all_repeated}
use Rattle.plan_text.specs.Reading.{expr_at, inner}
use Rattle.plan_text.specs.PlanDraft.{PlanDraft, ColumnsDraft, columns_draft_of, with_column, from_draft, where_draft, select_draft, distinct_draft, group_draft, join_draft, concat_draft, order_draft}

-- an item more, onto the ones before
abbrev pub item_onto : {A S : Type 0} → (ReaderOf A) → (S → A → S) → S → ReaderOf S
item_onto item add s ts = and_then (item ts) (λ x rest. Some (add s x, rest))

-- one item or more, with a comma between any two
abbrev pub list_at : {A S : Type 0} → (ReaderOf A) → (S → A → S) → S → ReaderOf S
list_at item add s ts = and_then (item_onto item add s ts) (all_repeated (terminal_at Comma) (λ _. item_onto item add))

abbrev pub at_end : {A : Type 0} → List A → A → List A
at_end xs x = xs ++ x ∷ []

-- NAME
abbrev pub name_at : ReaderOf (List ℕ)
name_at (Name name ∷ rest) = Some (name, rest)
name_at _ = None

-- NAME =
abbrev pub named_at : ReaderOf (List ℕ)
named_at (Name name ∷ Mark mark.Equal ∷ rest) = Some (name, rest)
named_at _ = None

-- NAME = E
abbrev pub column_at : Counts → ℕ → ReaderOf (List ℕ × PlainDraft)
column_at most levels ts = and_then (named_at ts) (λ name behind. and_then (expr_at most (inner most levels) behind) (λ e rest. Some ((name, e), rest)))

abbrev pub columns_at : Counts → ℕ → ReaderOf ColumnsDraft
columns_at most levels = list_at (column_at most levels) (with_column most) (columns_draft_of most [])

-- NAME = NAME
abbrev pub pair_at : ReaderOf NamedPair
pair_at ts = and_then (named_at ts) (λ left behind. and_then (name_at behind) (λ right rest. Some (record { left = left; right = right }, rest)))

-- NAME [desc]
abbrev pub key_of : List ℕ → ReaderOf NamedKey
key_of column (Word word.Desc ∷ rest) = Some (record { column = column; down = true }, rest)
key_of column rest = Some (record { column = column; down = false }, rest)

abbrev pub key_at : ReaderOf NamedKey
key_at ts = and_then (name_at ts) key_of

-- the functions of a column by their names
abbrev pub function_named : List ℕ → Option agg_function.AggFunction
function_named name =
    if bytes_eq name (codes "sum") then Some function.Sum else if bytes_eq name (codes "min") then Some function.Min
    else if bytes_eq name (codes "max") then Some function.Max else if bytes_eq name (codes "first") then Some function.First
    else if bytes_eq name (codes "last") then Some function.Last else if bytes_eq name (codes "avg") then Some function.Avg else None

abbrev pub agg_of : List ℕ → List ℕ → Option NamedAgg
agg_of name column = option_map (λ f. agg.Of f column) (function_named name)

abbrev pub count_of : List ℕ → Option NamedAgg
count_of name = if bytes_eq name (codes "count") then Some agg.Count else None

-- the aggregate, if there is one, up to the parenthesis that closes
abbrev pub closed_at : Option NamedAgg → ReaderOf NamedAgg
closed_at agg ts = up_to (terminal_at Close) (option_map (λ a. (a, ts)) agg)

-- what stands in the parentheses of the aggregate with this name, up to the one that closes
abbrev pub argument_at : List ℕ → ReaderOf NamedAgg
argument_at name (Name column ∷ ts) = closed_at (agg_of name column) ts
argument_at name ts = closed_at (count_of name) ts

-- count ( ) | sum ( NAME ) and so on; the parentheses are a level
abbrev pub agg_at : ℕ → ReaderOf NamedAgg
agg_at zero ts = None
agg_at (suc levels) ts = and_then (name_at ts) (λ name behind. and_then (terminal_at Open behind) (λ _. argument_at name))

-- NAME = AGG
abbrev pub result_at : ℕ → ReaderOf NamedResult
result_at levels ts = and_then (named_at ts) (λ name behind. and_then (agg_at levels behind) (λ a rest. Some (record { name = name; agg = a }, rest)))

abbrev pub names_at : ReaderOf (List (List ℕ))
names_at = list_at name_at at_end []

abbrev pub results_at : ℕ → ReaderOf (List NamedResult)
results_at levels = list_at (result_at levels) at_end []

abbrev pub pairs_at : ReaderOf (List NamedPair)
pairs_at = list_at pair_at at_end []

abbrev pub keys_at : ReaderOf (List NamedKey)
keys_at = list_at key_at at_end []

abbrev pub PlanReader : Type 0
PlanReader = ReaderOf PlanDraft

-- ( PLAN )
abbrev pub inner_plan_at : PlanReader → PlanReader
inner_plan_at inner ts = and_then (terminal_at Open ts) (λ _ mid. up_to (terminal_at Close) (inner mid))

abbrev pub where_at : Counts → ℕ → PlanDraft → PlanReader
where_at most levels d ts = and_then (expr_at most (inner most levels) ts) (λ test rest. Some (where_draft most d test, rest))

abbrev pub select_at : Counts → ℕ → PlanDraft → PlanReader
select_at most levels d ts = and_then (columns_at most levels ts) (λ columns rest. Some (select_draft most d columns, rest))

abbrev pub group_at : Counts → ℕ → PlanDraft → PlanReader
group_at most levels d ts =
    and_then (up_to (terminal_at With) (names_at ts)) (λ keys next. and_then (results_at levels next) (λ results rest. Some (group_draft most d keys results, rest)))

abbrev pub join_at : Counts → PlanReader → PlanDraft → PlanReader
join_at most inner d ts =
    and_then (up_to (terminal_at On) (inner_plan_at inner ts)) (λ right next. and_then (pairs_at next) (λ on rest. Some (join_draft most d right on, rest)))

abbrev pub concat_at : Counts → PlanReader → PlanDraft → PlanReader
concat_at most inner d ts = and_then (inner_plan_at inner ts) (λ right rest. Some (concat_draft most d right, rest))

abbrev pub order_at : Counts → PlanDraft → PlanReader
order_at most d ts = and_then (keys_at ts) (λ keys rest. Some (order_draft most d keys, rest))

-- a stage on a plan; within parentheses plans are read by the reader that is given
abbrev pub stage_at : Counts → PlanReader → ℕ → PlanDraft → PlanReader
stage_at most inner levels d (Word word.Where ∷ ts) = where_at most levels d ts
stage_at most inner levels d (Word word.Select ∷ ts) = select_at most levels d ts
stage_at most inner levels d (Word word.Distinct ∷ ts) = Some (distinct_draft most d, ts)
stage_at most inner levels d (Word word.Group ∷ ts) = group_at most levels d ts
stage_at most inner levels d (Word word.Join ∷ ts) = join_at most inner d ts
stage_at most inner levels d (Word word.Concat ∷ ts) = concat_at most inner d ts
stage_at most inner levels d (Word word.Order ∷ ts) = order_at most d ts
stage_at most inner levels d _ = None

-- from NAME
abbrev pub from_at : Counts → PlanReader
from_at most (Word word.From ∷ ts) = and_then (name_at ts) (λ name rest. Some (from_draft most name, rest))
from_at most _ = None

-- from NAME { | STAGE }
abbrev pub plan_with : Counts → PlanReader → ℕ → PlanReader
plan_with most inner levels ts = and_then (from_at most ts) (all_repeated (terminal_at Bar) (λ _. stage_at most inner levels))

-- the reader within parentheses, where this many levels may be open in all
unfoldable pub inner_plan : Counts → ℕ → PlanReader
inner_plan most zero ts = None
inner_plan most (suc levels) ts = plan_with most (inner_plan most levels) levels ts

-- a plan with at most so many levels open
abbrev pub plan_at : Counts → ℕ → PlanReader
plan_at most levels = plan_with most (inner_plan most levels) levels

-- what a list of the code says
abbrev pub items_of : {A : Type 0} → Vec A Global → List A
items_of v = v.items
