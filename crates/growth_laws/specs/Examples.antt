-- Worked results, each grown by a rewriting from the earlier one: the definitions compute them, and the same of the whole
-- lists.
use Rattle.std.specs.Prelude.{◌≡◌, refl, ℕ, pos, true, false, List, [], ◌∷◌, Result, Ok, Err}
use Rattle.rows_core.specs.declared.cut.Cut.{Cut}
use Rattle.rows_core.specs.declared.overflow.Overflow.{Overflow}
use Rattle.rows_core.specs.declared.value.Value.TheVariants.{Int}
use Rattle.row_blob.specs.declared.kept.Acc.TheVariants as acc
use Rattle.row_blob.specs.declared.kept.GroupRow.{GroupRow}
use Rattle.row_blob.specs.declared.kept.Kept.{Kept}
use Rattle.row_blob.specs.declared.kept.Kept.TheVariants as kept
use Rattle.row_blob.specs.declared.kept.TaggedRow.{TaggedRow}
use Rattle.scalar_ops.specs.declared.cell.Cell.TheVariants as cell
use Rattle.scalar_ops.specs.Meaning.{overflow}
use Rattle.plan_core.specs.declared.agg.Agg.TheVariants.{Count, Sum}
use Rattle.plan_core.specs.Columns.{Rows}
use Rattle.plan_core.specs.PlainExpr.{Column, Literal, Call2}
use Rattle.plan_core.specs.PlainPlan.{PlainPlan}
use Rattle.plan_core.specs.PlainPlan as plan
use Rattle.estimator.specs.Cuts.{Cuts}
use Rattle.rewrite_core.specs.declared.rewriting.Hit.{Hit}
use Rattle.rewrite_core.specs.PlainRewriting.{PlainRewriting, Node, Scan, One, Two, Read, Tail, LeftGrew, RightGrew, BothGrew, PlainDelta, Change, NewRows, OfChild, OfDistinct, OfJoin}
use Rattle.rewrite_core.specs.Computed.{computed}
use Rattle.growth_laws.specs.Growth.{Made, whole_made}
use Rattle.growth_laws.specs.KeptResults.{KeptResults}
use Rattle.growth_laws.specs.Lists.{Extents, plan_lists}
use Rattle.growth_laws.specs.MadePlaces.{place, made_places}
use Rattle.growth_laws.specs.Pieces.{Entry, Gathered, pieces_of}
use Rattle.growth_laws.specs.Trees.{made_by}

-- rows of one number each
abbrev column : List ℕ → Rows
column [] = []
column (n ∷ ns) = (Int (pos n) ∷ []) ∷ column ns

-- a stream of two extents, and one of two others
abbrev extents : Extents
extents = (column (1 ∷ 2 ∷ []) ∷ column (2 ∷ 3 ∷ 0 ∷ []) ∷ []) ∷ (column (2 ∷ 1 ∷ []) ∷ column (1 ∷ []) ∷ []) ∷ []

abbrev up_to : ℕ → Cut
up_to n = record { from = 0; to = n }

-- the first extent of each leaf, and both
abbrev old : Cuts
old = up_to 1 ∷ []

abbrev new : Cuts
new = up_to 2 ∷ []

abbrev scan : ℕ → PlainPlan
scan = plan.Scan

-- what the definitions give of the whole lists
abbrev whole : PlainPlan → Cuts → Result Made Overflow
whole p cuts = whole_made p (plan_lists extents p cuts)

-- one result is kept
abbrev keeping : Kept → ℕ → KeptResults
keeping form machine = λ id. record { form = form; machine = machine }

abbrev hit : Cuts → Hit
hit cuts = record { id = 1; cuts = cuts; len = 48 }

abbrev scanned : ℕ → ℕ → PlainRewriting
scanned stream n = Node (scan stream) (up_to n ∷ []) Scan

abbrev scan_delta : ℕ → PlainDelta
scan_delta stream = Change (scan stream) old new NewRows

-- grown by the delta of a scan
abbrev tail : PlainPlan → PlainRewriting
tail p = Node p new (Tail (hit old) (scan_delta 0))

abbrev rows : Rows → ℕ → Result Made Overflow
rows given taken_in = Ok (record { kept = kept.Rows given; taken_in = taken_in })

-- ---- one input

abbrev above_one : PlainPlan
above_one = plan.Filter (scan 0) (Call2 17 (Column 0) (Literal (cell.Int (pos 1))))

pub grown_filter : made_by extents (keeping (kept.Rows (column (2 ∷ []))) 3) (tail above_one) ≡ rows (column (2 ∷ 2 ∷ 3 ∷ [])) 5
grown_filter = refl

pub whole_filter : whole above_one new ≡ rows (column (2 ∷ 2 ∷ 3 ∷ [])) 5
whole_filter = refl

abbrev doubled : PlainPlan
doubled = plan.Project (scan 0) (Call2 0 (Column 0) (Column 0) ∷ [])

pub grown_project : made_by extents (keeping (kept.Rows (column (2 ∷ 4 ∷ []))) 3) (tail doubled) ≡ rows (column (2 ∷ 4 ∷ 4 ∷ 6 ∷ 0 ∷ [])) 5
grown_project = refl

-- 2 was there
abbrev once : PlainPlan
once = plan.Distinct (scan 0)

pub grown_distinct : made_by extents (keeping (kept.Rows (column (1 ∷ 2 ∷ []))) 3) (tail once) ≡ rows (column (1 ∷ 2 ∷ 3 ∷ 0 ∷ [])) 5
grown_distinct = refl

abbrev ordered : PlainPlan
ordered = plan.Order (scan 0) (record { column = 0; down = false } ∷ [])

pub grown_order : made_by extents (keeping (kept.Rows (column (1 ∷ 2 ∷ []))) 3) (tail ordered) ≡ rows (column (0 ∷ 1 ∷ 2 ∷ 2 ∷ 3 ∷ [])) 5
grown_order = refl

abbrev counted : PlainPlan
counted = plan.Group (scan 0) (0 ∷ []) (Count ∷ Sum 0 ∷ [])

abbrev group : ℕ → ℕ → ℕ → GroupRow
group key count sum = record { key = Int (pos key) ∷ []; accs = acc.Count count ∷ acc.Sum (pos sum) ∷ [] }

abbrev groups : Result Made Overflow
groups = Ok (record { kept = kept.Groups (group 1 1 1 ∷ group 2 2 4 ∷ group 3 1 3 ∷ group 0 1 0 ∷ []); taken_in = 5 })

pub grown_group : made_by extents (keeping (kept.Groups (group 1 1 1 ∷ group 2 1 2 ∷ [])) 3) (tail counted) ≡ groups
grown_group = refl

pub whole_group : whole counted new ≡ groups
whole_group = refl

-- ---- two inputs

-- the left stream is unchanged
abbrev both : PlainPlan
both = plan.Concat (scan 1) (scan 0)

abbrev right_grew : Cuts
right_grew = up_to 1 ∷ up_to 2 ∷ []

pub grown_concat :
    made_by extents (keeping (kept.Rows (column (2 ∷ 1 ∷ 1 ∷ 2 ∷ []))) 5) (Node both right_grew (Tail (hit (up_to 1 ∷ up_to 1 ∷ [])) (scan_delta 0)))
    ≡ rows (column (2 ∷ 1 ∷ 1 ∷ 2 ∷ 2 ∷ 3 ∷ 0 ∷ [])) 7
grown_concat = refl

abbrev joined : PlainPlan
joined = plan.Join (scan 1) (scan 0) ((0, 0) ∷ [])

-- the left row of this position, with one right row
abbrev pair : ℕ → ℕ → TaggedRow
pair position n = record { left = position; row = Int (pos n) ∷ Int (pos n) ∷ [] }

abbrev tagged : ℕ → List TaggedRow → ℕ → Result Made Overflow
tagged left given taken_in = Ok (record { kept = kept.Tagged left given; taken_in = taken_in })

abbrev join_kept : KeptResults
join_kept = keeping (kept.Tagged 2 (pair 0 2 ∷ pair 1 1 ∷ [])) 5

abbrev first_of_both : Cuts
first_of_both = up_to 1 ∷ up_to 1 ∷ []

-- the new left row stands behind the old ones, and its position is counted on
pub grown_left :
    made_by extents join_kept (Node joined (up_to 2 ∷ up_to 1 ∷ []) (LeftGrew (hit first_of_both) (scan_delta 1) (scanned 0 1)))
    ≡ tagged 3 (pair 0 2 ∷ pair 1 1 ∷ pair 2 1 ∷ []) 5
grown_left = refl

-- the new right row stands behind the old one of the same left row
pub grown_right :
    made_by extents join_kept (Node joined right_grew (RightGrew (hit first_of_both) (scanned 1 1) (scan_delta 0)))
    ≡ tagged 2 (pair 0 2 ∷ pair 0 2 ∷ pair 1 1 ∷ []) 7
grown_right = refl

abbrev new_of_both : Cuts
new_of_both = up_to 2 ∷ up_to 2 ∷ []

pub grown_both :
    made_by extents join_kept (Node joined new_of_both (BothGrew (hit first_of_both) (scanned 1 1) (scan_delta 0) (scan_delta 1) (scanned 0 2)))
    ≡ tagged 3 (pair 0 2 ∷ pair 0 2 ∷ pair 1 1 ∷ pair 2 1 ∷ []) 8
grown_both = refl

pub whole_both : whole joined new_of_both ≡ tagged 3 (pair 0 2 ∷ pair 0 2 ∷ pair 1 1 ∷ pair 2 1 ∷ []) 8
whole_both = refl

-- ---- deltas

-- a group over a distinct whose old rows are computed: 2 was there, so the groups of the new rows are of 3 and 0
abbrev counted_once : PlainPlan
counted_once = plan.Group once (0 ∷ []) (Count ∷ Sum 0 ∷ [])

pub grown_over_distinct :
    made_by extents (keeping (kept.Groups (group 1 1 1 ∷ group 2 1 2 ∷ [])) 5)
    (Node counted_once new (Tail (hit old) (Change once old new (OfDistinct (Node once old (One (scanned 0 1))) (scan_delta 0)))))
    ≡ Ok (record { kept = kept.Groups (group 1 1 1 ∷ group 2 1 2 ∷ group 3 1 3 ∷ group 0 1 0 ∷ []); taken_in = 9 })
grown_over_distinct = refl

pub whole_over_distinct : whole counted_once new ≡ Ok (record { kept = kept.Groups (group 1 1 1 ∷ group 2 1 2 ∷ group 3 1 3 ∷ group 0 1 0 ∷ []); taken_in = 9 })
whole_over_distinct = refl

-- a distinct over a join whose left input grew
abbrev joined_once : PlainPlan
joined_once = plan.Distinct joined

pub grown_over_join :
    made_by extents (keeping (kept.Rows ((pair 0 2).row ∷ (pair 1 1).row ∷ [])) 7)
    (Node joined_once (up_to 2 ∷ up_to 1 ∷ []) (Tail (hit first_of_both) (Change joined first_of_both (up_to 2 ∷ up_to 1 ∷ []) (OfJoin (scan_delta 1) (scanned 0 1)))))
    ≡ rows ((pair 0 2).row ∷ (pair 1 1).row ∷ []) 8
grown_over_join = refl

pub whole_over_join : whole joined_once (up_to 2 ∷ up_to 1 ∷ []) ≡ rows ((pair 0 2).row ∷ (pair 1 1).row ∷ []) 8
whole_over_join = refl

-- an order over a filter, whose delta is that of the filter
abbrev ordered_above : PlainPlan
ordered_above = plan.Order above_one (record { column = 0; down = true } ∷ [])

pub grown_over_filter :
    made_by extents (keeping (kept.Rows (column (2 ∷ []))) 4) (Node ordered_above new (Tail (hit old) (Change above_one old new (OfChild (scan_delta 0)))))
    ≡ rows (column (3 ∷ 2 ∷ 2 ∷ [])) 8
grown_over_filter = refl

pub whole_over_filter : whole ordered_above new ≡ rows (column (3 ∷ 2 ∷ 2 ∷ [])) 8
whole_over_filter = refl

-- ---- the places that are made

-- below the root a distinct counts, and a scan doesn't
pub made_computed : made_places counted_once new (computed counted_once new) ≡ place once new ∷ place counted_once new ∷ []
made_computed = refl

-- at the root a filter counts
pub made_filter : made_places above_one new (computed above_one new) ≡ place above_one new ∷ []
made_filter = refl

pub made_by_reading : made_places once new (Node once new (Read (hit new))) ≡ []
made_by_reading = refl

-- the distinct is computed at the earlier cut alone
pub made_grown :
    made_places counted_once new
    (Node counted_once new (Tail (hit old) (Change once old new (OfDistinct (Node once old (One (scanned 0 1))) (scan_delta 0)))))
    ≡ place counted_once new ∷ []
made_grown = refl

abbrev right_once : PlainPlan
right_once = plan.Distinct (scan 1)

abbrev with_right : PlainPlan
with_right = plan.Join (scan 0) right_once ((0, 0) ∷ [])

abbrev counted_join : PlainPlan
counted_join = plan.Group (plan.Distinct with_right) (0 ∷ []) (Count ∷ [])

abbrev left_cuts : Cuts
left_cuts = up_to 2 ∷ up_to 1 ∷ []

-- the distinct of the unchanged right stream is computed within a part at the earlier cut: for its place it is the own cut
abbrev within_earlier : PlainRewriting
within_earlier =
    Node (plan.Distinct with_right) first_of_both
    (One (Node with_right first_of_both (Two (scanned 0 1) (Node right_once (up_to 1 ∷ []) (One (scanned 1 1))))))

pub made_within_earlier :
    made_places counted_join left_cuts
    (Node counted_join left_cuts (Tail (hit first_of_both) (Change (plan.Distinct with_right) first_of_both left_cuts
    (OfDistinct within_earlier (Change with_right first_of_both left_cuts (OfJoin (scan_delta 0) (Node right_once (up_to 1 ∷ []) (Read (hit (up_to 1 ∷ []))))))))))
    ≡ place right_once (up_to 1 ∷ []) ∷ place counted_join left_cuts ∷ []
made_within_earlier = refl

-- ---- the pieces that are read

-- a group over a filter takes the rows of each extent in as soon as it is read
pub one_gathered :
    pieces_of (computed (plan.Group above_one (0 ∷ []) (Count ∷ [])) new) ≡ Gathered (plan.Group above_one (0 ∷ []) (Count ∷ [])) new ∷ []
one_gathered = refl

-- the kept result, then the old distinct's extent, then the new one
pub pieces_of_grown :
    pieces_of (Node counted_once new (Tail (hit old) (Change once old new (OfDistinct (Node once old (One (scanned 0 1))) (scan_delta 0)))))
    ≡ Entry counted_once 1 ∷ Gathered once old ∷ Gathered (scan 0) (record { from = 1; to = 2 } ∷ []) ∷ []
pieces_of_grown = refl

-- ---- overflow

-- the greatest number and one more, in the new rows alone
abbrev large : Extents
large = (column (1 ∷ []) ∷ column (9223372036854775807 ∷ []) ∷ []) ∷ []

pub grown_overflow : made_by large (keeping (kept.Rows (column (2 ∷ []))) 2) (tail doubled) ≡ Err overflow
grown_overflow = refl

-- a sum outside of i64 is kept, and the rows are an overflow
pub kept_past_i64 :
    made_by large (keeping (kept.Groups (record { key = []; accs = acc.Sum (pos 1) ∷ [] } ∷ [])) 2) (tail (plan.Group (scan 0) [] (Sum 0 ∷ [])))
    ≡ Ok (record { kept = kept.Groups (record { key = []; accs = acc.Sum (pos 9223372036854775808) ∷ [] } ∷ []); taken_in = 2 })
kept_past_i64 = refl
