-- What an append records fits the table.
use Rattle.std.proofs.Common.{◌≡◌, ℕ, ◌+◌, ◌<◌, ◌≤◌, Bool, true, false, nat_lt, nat_le, if◌then◌else◌, List, [], ◌∷◌, ◌++◌, length, map, slice_get, unwrap_or, get_or, Option, None, Some, IfSome, IfOk, Result, Ok, Err, refl, sym, ap, ◌∙◌, subst, inl, inr, arith}
use Rattle.std.specs.Int.{w32, to_be_bytes}
use Rattle.std.specs.List.{flat_map, list_any, AllByRecursion}
use Rattle.std.specs.Option.{option_map}
use Rattle.std.proofs.lemmas.Bool.Decides.{nat_tests}
use Rattle.std.proofs.lemmas.List.{length-append, length-map}
use Rattle.std.proofs.lemmas.List.Elements.{All-from_recursion, All-get_or}
use Rattle.std.proofs.lemmas.Option.{slice_get_cases}
use Rattle.std.proofs.lemmas.Bool.{or_parts}
use Rattle.rows_core.specs.declared.kind.Kind.{Kind}
use Rattle.rows_core.specs.declared.value.Value.{Value}
use Rattle.rows_core.specs.declared.value.Value.TheVariants.{Int, Text, Bool as Truth}
use Rattle.rows_core.specs.Schema.{kinds_of}
use Rattle.rows_core.specs.Value.{kind_of}
use Rattle.row_blob.specs.declared.kept.Kept.{Kept}
use Rattle.row_blob.specs.declared.kept.Kept.TheVariants as kept
use Rattle.row_blob.specs.declared.shape.Shape.TheVariants as shape
use Rattle.row_blob.specs.Kept.{IsValue, IsRow, IsKept, AreInOrder}
use Rattle.row_blob.specs.Spelling.{value_spelling, row_spelling, kept_spelling, header}
use Rattle.row_text.specs.RowSpelling as line
use Rattle.catalog_types.specs.declared.extent.Extent.{Extent}
use Rattle.catalog_types.specs.declared.change.Change.TheVariants as change
use Rattle.catalog_types.specs.declared.snapshot.StreamState.{StreamState}
use Rattle.catalog_core.specs.IsTable.{IsStream, IsTable}
use Rattle.catalog_core.specs.Programs.{extents_at}
use Rattle.catalog_core.specs.Table.{Table, FitsAppend, row_count, place_of, extent_count}
use Rattle.rows_core.specs.Limits.{most_ticks, file_end, most_extents, most_extents_in_all, most_extent_bytes}
use Rattle.record_codec.specs.Spelling.{extent_with}
use Rattle.script_text.specs.declared.answer.LimitKind.TheVariants as limit
use Rattle.script_text.specs.declared.answer.Refusal.{Refusal}
use Rattle.script_text.specs.declared.answer.Refusal.TheVariants as refusal
use Rattle.planning.specs.Rows.{Spell, Rows, BadLine, is_long, have_long}
use Rattle.planning.specs.declared.accepting.Accepted.{Accepted}
use Rattle.planning.specs.declared.append_plan.AppendPlan.{AppendPlan}
use Rattle.planning.specs.Appending.{Append, append_to, append_change, columns_at, file_of, file_bytes, extent_of, held, IsAppendingAt, IsAppending}
use Rattle.planning.specs.Recorded.{IsRecordOf}

-- ---- a row has a byte

some_byte : (value : Value) → 0 < length (value_spelling value)
some_byte (Truth true) = omega arith
some_byte (Truth false) = omega arith
some_byte (Int number) = let eight : length (value_spelling (Int number)) ≡ 8 = refl in omega (arith, eight)
some_byte (Text text) = let four : length (to_be_bytes w32 (length text)) ≡ 4 = refl in omega (arith, four, length-append (to_be_bytes w32 (length text)) text)

row_bytes : (row : List Value) → 0 < length row → 0 < length (row_spelling row)
row_bytes [] some = absurd (omega (arith, some))
row_bytes (value ∷ row) some = omega (arith, some_byte value, length-append (value_spelling value) (row_spelling row))

values_of : (kinds : List Kind) (row : List Value) → line.IsLooseRow kinds row → length row ≡ length kinds
values_of kinds row loose = sym (length-map row kind_of) ∙ ap length loose.0

-- rows of some column are at most as many as their bytes
rows_bytes : (kinds : List Kind) (rows : List (List Value)) → 0 < length kinds → AllByRecursion (line.IsLooseRow kinds) rows → length rows ≤ length (flat_map row_spelling rows)
rows_bytes kinds [] some loose = omega arith
rows_bytes kinds (row ∷ rows) some loose =
    omega (arith, row_bytes row (omega (arith, values_of kinds row loose.0, some)), rows_bytes kinds rows some loose.1, length-append (row_spelling row) (flat_map row_spelling rows))

-- ---- rows that lines spell, without a long text, are rows of their file

is_value : (value : Value) → line.IsLoose value → is_long value ≡ false → IsValue (kind_of value) value
is_value (Int number) loose short = loose
is_value (Truth truth) loose short = tt
is_value (Text text) loose short = (loose, (let bound : nat_lt 1000 (length text) ≡ false = short in grind (arith, nat_tests)))

is_row : (row : List Value) → AllByRecursion line.IsLoose row → list_any is_long row ≡ false → IsRow (map kind_of row) row
is_row [] loose short = tt
is_row (value ∷ row) loose short =
    let both = or_parts (is_long value) (list_any is_long row) short in
    (is_value value loose.0 both.0, is_row row loose.1 both.1)

are_rows : (kinds : List Kind) (before rows : List (List Value)) → AllByRecursion (line.IsLooseRow kinds) rows → have_long rows ≡ false → AreInOrder (λ before. IsRow kinds) before rows
are_rows kinds before [] loose short = tt
are_rows kinds before (row ∷ rows) loose short =
    let both = or_parts (list_any is_long row) (have_long rows) short in
    (subst (λ k. IsRow k row) loose.0.0 (is_row row loose.0.1 both.0), are_rows kinds (before ++ row ∷ []) rows loose.1 both.1)

-- ---- appending passes no limit

pub record IsWithin (t : Table) (place : ℕ) (rows : List (List Value)) : Type 0 where
  pub short : have_long rows ≡ false
  pub bytes : nat_lt most_extent_bytes (length (file_bytes rows)) ≡ false
  pub extents : nat_le most_extents (length (extents_at t.streams place)) ≡ false
  pub all_extents : nat_le most_extents_in_all (extent_count t.streams) ≡ false
  pub files : nat_le file_end t.next_file ≡ false
  pub ticks : nat_le most_ticks t.tick ≡ false

abbrev first_limit : Bool → Bool → Bool → Bool → Bool → Bool → Append → Result Append Refusal
first_limit long bytes extents all files ticks append =
    if long then Err (refusal.Limit limit.Text) else
    if bytes then Err (refusal.Limit limit.Extent) else
    if extents then Err (refusal.Limit limit.Extents) else
    if all then Err (refusal.Limit limit.AllExtents) else
    if files then Err (refusal.Limit limit.Files) else
    if ticks then Err (refusal.Limit limit.Commands) else
    Ok append

none_passed : (long bytes extents all files ticks : Bool) (append given : Append) → Ok given ≡ first_limit long bytes extents all files ticks append
    → (long ≡ false) × (bytes ≡ false) × (extents ≡ false) × (all ≡ false) × (files ≡ false) × (ticks ≡ false) × (given ≡ append)
none_passed true _ _ _ _ _ append given e = absurd (cc)
none_passed false true _ _ _ _ append given e = absurd (cc)
none_passed false false true _ _ _ append given e = absurd (cc)
none_passed false false false true _ _ append given e = absurd (cc)
none_passed false false false false true _ append given e = absurd (cc)
none_passed false false false false false true append given e = absurd (cc)
none_passed false false false false false false append given e = (refl, refl, refl, refl, refl, refl, cc)

-- the rows of an append that isn't refused
pub record IsAccepted (t : Table) (lines : List (List ℕ)) (append : Append) : Type 0 where
  pub spell : Spell (kinds_of (columns_at t.streams append.place)) lines append.rows
  pub within : IsWithin t append.place append.rows

accepted_at : (t : Table) (name : List ℕ) (lines : List (List ℕ)) (place : Option ℕ) (append : Append) → IsAppendingAt t place name lines (Ok append) → IsAccepted t lines append
accepted_at t name lines None append e = absurd (cc)
accepted_at t name lines (Some place) append (BadLine number, first, e) = absurd (cc)
accepted_at t name lines (Some place) append (Rows rows, spell, e) =
    let none = none_passed (have_long rows) (nat_lt most_extent_bytes (length (file_bytes rows))) (nat_le most_extents (length (extents_at t.streams place)))
    (nat_le most_extents_in_all (extent_count t.streams)) (nat_le file_end t.next_file) (nat_le most_ticks t.tick) (append_to place rows) append e in
    subst (IsAccepted t lines) (sym none.6) (record {
      spell = spell;
      within = record { short = none.0; bytes = none.1; extents = none.2; all_extents = none.3; files = none.4; ticks = none.5 };
    })

-- ---- what it records fits

module _ (t : Table) (place : ℕ) (is_table : IsTable t) (there : place < length t.streams) where
  -- the stream there has a column
  some_kind : 0 < length (kinds_of (columns_at t.streams place))
  some_kind = elim ((slice_get_cases t.streams place).1) [
    | inl found ↦ (
        let all = All-from_recursion IsStream t.streams is_table.are_streams in
        let stream : IsStream (get_or t.streams place found.0) = All-get_or IsStream t.streams place found.0 there all in
        let some : 0 < length found.0.columns = (subst IsStream found.3 stream).schema.0 in
        subst (λ o. 0 < length (kinds_of (unwrap_or (option_map (λ s. s.columns) o) []))) (sym found.2) (omega (arith, some, length-map found.0.columns (λ column. column.kind))))
    | inr past ↦ absurd (omega (arith, past.0, there))
  ]

  module _ (lines : List (List ℕ)) (some : 0 < length lines) (rows : List (List Value)) (accepted : IsAccepted t lines (append_to place rows)) where
    as_many : length lines ≡ length rows
    as_many = ap length accepted.spell.spelled ∙ length-map rows line.row_spelling

    few_bytes : length (file_bytes rows) ≤ most_extent_bytes
    few_bytes = let bytes = accepted.within.bytes in grind (arith, nat_tests)

    few_rows : length rows ≤ most_extent_bytes
    few_rows =
        let less = rows_bytes (kinds_of (columns_at t.streams place)) rows some_kind accepted.spell.loose in
        omega (arith, less, few_bytes, length-append (header 0 (length rows)) (flat_map row_spelling rows))

    pub fits_append : FitsAppend place (extent_of t rows) t
    fits_append = record {
      counted = (let ticks = accepted.within.ticks in grind (arith, nat_tests));
      is_next = record {
        next = refl;
        numbered = (let files = accepted.within.files in grind (arith, nat_tests));
        has_row = omega (arith, some, as_many);
        rows = omega (arith, few_rows);
        short = few_bytes;
      };
      has_place = (there, (let extents = accepted.within.extents in grind (arith, nat_tests)));
      room_in_all = (let all = accepted.within.all_extents in grind (arith, nat_tests));
    }

    kept_at_place : IsKept (shape.Rows (kinds_of (columns_at t.streams place))) (kept.Rows rows)
    kept_at_place = (omega (arith, few_rows), are_rows (kinds_of (columns_at t.streams place)) [] rows accepted.spell.loose accepted.within.short)

    -- the rows are of the stream's kinds
    pub kept_of_stream : IfSome (slice_get t.streams place) (λ stream. IsKept (shape.Rows (kinds_of stream.columns)) (kept.Rows rows))
    kept_of_stream = by (slice_get t.streams place) kept_at_place
      where
        by : (found : Option StreamState) → IsKept (shape.Rows (kinds_of (unwrap_or (option_map (λ s. s.columns) found) []))) (kept.Rows rows) → IfSome found (λ stream. IsKept (shape.Rows (kinds_of stream.columns)) (kept.Rows rows))
        by None is = tt
        by (Some stream) is = is

-- the rows of an append that isn't refused
pub accepted_of : (t : Table) (name : List ℕ) (lines : List (List ℕ)) (append : Append) → IsAppending t name lines (Ok append) → IsAccepted t lines append
accepted_of t name lines append appends = accepted_at t name lines (place_of t.streams name) append appends

-- ---- the plan of an append that isn't refused

-- what these rows, as their file keeps them and counted, record
abbrev pub extent_kept : Table → Accepted → Extent
extent_kept t accepted = extent_with (file_of t.next_file (kept_spelling accepted.kept)) accepted.count

module _ (t : Table) (name : List ℕ) (lines : List (List ℕ)) (accepted : Accepted) (is_table : IsTable t) (some : 0 < length lines) (there : accepted.place < length t.streams)
    (ok : (rows : List (List Value)) × (accepted.kept ≡ kept.Rows rows) × IsAppending t name lines (Ok (append_to accepted.place rows)) × (accepted.count ≡ length rows)) where
  is : IsAccepted t lines (append_to accepted.place ok.0)
  is = accepted_of t name lines (append_to accepted.place ok.0) ok.2

  pub fits_accepted : FitsAppend accepted.place (extent_kept t accepted) t
  fits_accepted =
      subst (λ (k : Kept). FitsAppend accepted.place (extent_with (file_of t.next_file (kept_spelling k)) accepted.count) t) (sym ok.1)
      (subst (λ (n : ℕ). FitsAppend accepted.place (extent_with (file_of t.next_file (file_bytes ok.0)) n) t) (sym ok.3)
      (fits_append t accepted.place is_table there lines some ok.0 is))

  pub plan_accepted : (r : Result AppendPlan Refusal)
      → IfOk r (λ plan. plan.recording.change ≡ change.Append accepted.place (extent_kept t accepted))
      → IfOk r (λ plan. IsRecordOf t plan.recording.change plan.recording.body.items)
      → IfOk r (λ plan. plan.bytes.items ≡ kept_spelling accepted.kept)
      → IfOk r (λ plan. plan.held ≡ unwrap_or (option_map row_count (slice_get t.streams accepted.place)) 0 + accepted.count)
      → IfOk r (λ plan. (append : Append) × IsAppending t name lines (Ok append) × (plan.recording.change ≡ append_change t append)
      × IsRecordOf t plan.recording.change plan.recording.body.items × (plan.bytes.items ≡ file_bytes append.rows) × (plan.held ≡ held t append)
      × IfSome (slice_get t.streams append.place) (λ stream. IsKept (shape.Rows (kinds_of stream.columns)) (kept.Rows append.rows)))
  plan_accepted (Err why) change_is recorded bytes_are held_is = tt
  plan_accepted (Ok plan) change_is recorded bytes_are held_is = (
    append_to accepted.place ok.0,
    ok.2,
    change_is
        ∙ ap (λ (k : Kept). change.Append accepted.place (extent_with (file_of t.next_file (kept_spelling k)) accepted.count)) ok.1
        ∙ ap (λ (n : ℕ). change.Append accepted.place (extent_with (file_of t.next_file (file_bytes ok.0)) n)) ok.3,
    recorded,
    bytes_are ∙ ap kept_spelling ok.1,
    held_is ∙ ap (λ (n : ℕ). unwrap_or (option_map row_count (slice_get t.streams accepted.place)) 0 + n) ok.3,
    kept_of_stream t accepted.place is_table there lines some ok.0 is,
  )
