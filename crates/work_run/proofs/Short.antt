-- The lists that a table's streams give at a cut are short.
use Rattle.std.proofs.Common.{◌≡◌, refl, ℕ, zero, suc, ◌-◌, ◌*◌, ◌^◌, ◌<◌, ◌≤◌, List, [], ◌∷◌, length, map, take, drop, sum_by, length-append, arith}
use Rattle.std.specs.List.{AllByRecursion, flat_map}
use Rattle.std.proofs.lemmas.List.Sums.{sum_by-cons}
use Rattle.rows_core.specs.declared.cut.Cut.{Cut}
use Rattle.plan_core.specs.Columns.{Rows}
use Rattle.growth_laws.specs.Lists.{extents_of, interval_rows, lists_at}
use Rattle.estimator.specs.Cuts.{Cuts}
use Rattle.plan_laws.specs.ValidRows.{AreShortLists}
use Rattle.catalog_types.specs.declared.extent.Extent as of_table
use Rattle.catalog_core.specs.IsTable.{IsTable, IsStream}
use Rattle.catalog_core.specs.Table.{row_count}
use Rattle.folder.specs.State.{Stream, Extent, State, table, stream_of, extent_of, states_of, rows_in, extents_in}

-- the rows of some lists among others are as many at most
abbrev all_rows : List Rows → Rows
all_rows lists = flat_map (λ rows. rows) lists

fewer-taken : (n : ℕ) (lists : List Rows) → length (all_rows (take n lists)) ≤ length (all_rows lists)
fewer-taken zero lists = omega arith
fewer-taken (suc n) [] = omega arith
fewer-taken (suc n) (rows ∷ lists) = omega (arith, length-append rows (all_rows (take n lists)), length-append rows (all_rows lists), fewer-taken n lists)

fewer-left : (n : ℕ) (lists : List Rows) → length (all_rows (drop n lists)) ≤ length (all_rows lists)
fewer-left zero lists = omega arith
fewer-left (suc n) [] = omega arith
fewer-left (suc n) (rows ∷ lists) = omega (arith, length-append rows (all_rows lists), fewer-left n lists)

fewer-between : (lists : List Rows) (cut : Cut) → length (interval_rows lists cut) ≤ length (all_rows lists)
fewer-between lists cut = omega (arith, fewer-taken (cut.to - cut.from) (drop cut.from lists), fewer-left cut.from lists)

-- a stream's rows are counted by its table
counted : (es : List Extent) → length (all_rows (map (λ (e : Extent). e.rows) es)) ≡ sum_by (λ (e : of_table.Extent). e.rows) (map extent_of es)
counted [] = refl
counted (e ∷ es) =
    omega (arith, length-append e.rows (all_rows (map (λ (e : Extent). e.rows) es)), sum_by-cons (λ (e : of_table.Extent). e.rows) (extent_of e) (map extent_of es), counted es)

short-stream : (x : Stream) → IsStream (stream_of x) → length (all_rows (rows_in x)) < 2 ^ 64
short-stream x is = bound (length (all_rows (rows_in x))) (row_count (stream_of x)) (length (map extent_of x.extents)) (counted x.extents) is.rows is.extents
  where
    bound : (rows count extents : ℕ) → rows ≡ count → count ≤ extents * 4294967295 → extents ≤ 65535 → rows < 2 ^ 64
    bound rows count extents same most few = omega (arith, same, most, few)

short-at : (streams : List Stream) → AllByRecursion IsStream (states_of streams) → (place : ℕ) → length (all_rows (extents_of (extents_in streams) place)) < 2 ^ 64
short-at [] are place = omega arith
short-at (x ∷ xs) are zero = short-stream x are.0
short-at (x ∷ xs) are (suc place) = short-at xs are.1 place

pub short-lists : (s : State) → IsTable (table s) → (leaves : List ℕ) (cuts : Cuts) → AreShortLists (lists_at (extents_in s.streams) leaves cuts)
short-lists s is [] cuts = tt
short-lists s is (leaf ∷ leaves) [] = tt
short-lists s is (leaf ∷ leaves) (cut ∷ cuts) =
    (omega (arith, fewer-between (extents_of (extents_in s.streams) leaf) cut, short-at s.streams is.are_streams leaf), short-lists s is leaves cuts)
