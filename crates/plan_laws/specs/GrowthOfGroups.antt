-- What becomes of groups where further rows stand behind the first ones: an old group goes on with what the new rows give
-- for its key, and the groups with new keys follow in their order.
use Rattle.std.specs.Prelude.{ℕ, ◌+◌, ◌+ℤ◌, Bool, not, List, [], ◌∷◌, ◌++◌, map, Option, Some, None, filter, find}
use Rattle.std.specs.List.{list_any}
use Rattle.rows_core.specs.declared.value.Value.{Value}
use Rattle.rows_core.specs.Value.{row_eq}
use Rattle.row_blob.specs.declared.kept.Acc.{Acc}
use Rattle.row_blob.specs.declared.kept.Acc.TheVariants as acc
use Rattle.row_blob.specs.declared.kept.GroupRow.{GroupRow}
use Rattle.row_blob.specs.Kept.{keys_of as group_keys}
use Rattle.plan_core.specs.declared.agg.Agg.{Agg}
use Rattle.plan_core.specs.declared.agg.Agg.TheVariants.{Min, Max, Last}
use Rattle.plan_core.specs.Aggregate.{lesser, greater}
use Rattle.plan_core.specs.Columns.{Row, Rows}
use Rattle.plan_core.specs.Group.{keys_of}
use Rattle.plan_laws.specs.KeptForm.{kept_group}

-- what is kept of the groups of rows, in the order in which their keys first occur
abbrev pub groups_of : List ℕ → List Agg → Rows → List GroupRow
groups_of keys aggs rows = map (kept_group keys aggs rows) (keys_of keys rows)

-- the value that is picked of all rows, from those that are picked of the old and of the new ones
abbrev pub joined_value : Agg → Value → Value → Value
joined_value (Min column) old new = lesser old new
joined_value (Max column) old new = greater old new
joined_value (Last column) old new = new
joined_value _ old new = old

-- counts and sums add up; both are of the same aggregate
abbrev pub joined_acc : Agg → Acc → Acc → Acc
joined_acc agg (acc.Count n) (acc.Count m) = acc.Count (n + m)
joined_acc agg (acc.Sum s) (acc.Sum t) = acc.Sum (s +ℤ t)
joined_acc agg (acc.Avg s n) (acc.Avg t m) = acc.Avg (s +ℤ t) (n + m)
joined_acc agg (acc.Pick v) (acc.Pick w) = acc.Pick (joined_value agg v w)
joined_acc agg old new = old

abbrev pub joined_accs : List Agg → List Acc → List Acc → List Acc
joined_accs (agg ∷ aggs) (old ∷ olds) (new ∷ news) = joined_acc agg old new ∷ joined_accs aggs olds news
joined_accs _ _ _ = []

-- the group with this key
abbrev pub group_with : Row → List GroupRow → Option GroupRow
group_with key groups = find (λ group. row_eq key group.key) groups

-- an old group, and the new one of the same key where there is one
abbrev pub joined_group : List Agg → GroupRow → Option GroupRow → GroupRow
joined_group aggs old None = old
joined_group aggs old (Some new) = record { key = old.key; accs = joined_accs aggs old.accs new.accs }

-- whether no old group has its key
abbrev pub is_new : List GroupRow → GroupRow → Bool
is_new olds group = not (list_any (row_eq group.key) (group_keys olds))

-- each old group joined with the new one of its key, and then the new groups whose keys no old one has
abbrev pub merged_groups : List Agg → List GroupRow → List GroupRow → List GroupRow
merged_groups aggs olds news = map (λ old. joined_group aggs old (group_with old.key news)) olds ++ filter (is_new olds) news
