-- Sets of rows in the order in which these were put in.
use Rattle.std.proofs.Common.{◌≡◌, refl, sym, ap, ◌∙◌, ℕ, ◌+◌, ◌<◌, Bool, true, false, true≢false, cond, not, ◌||◌, List, [], ◌∷◌, ◌++◌, length, get_or, take, append_assoc, append-nil, Bor, Result, Ok, Err, IfOk}
use Rattle.std.specs.List.{AllByRecursion, Contains, IsDistinct, filter, list_any}
use Rattle.std.proofs.lemmas.List.{take_more}
use Rattle.std.proofs.lemmas.List.Elements.{All-contains_itself, All-weaker, recursion_from_All}
use Rattle.std.proofs.lemmas.List.Folds.{list_any-append}
use Rattle.std.proofs.lemmas.Map.Made.{IsDistinct-from_AllPairs}
use Rattle.std.proofs.Math.Bool.{or-true, or-false}
use Rattle.indexmap.specs.IndexSet.{insert_key, insert_all}
use Rattle.rows_core.specs.contracts.row.RowPartialEq.TheImpl as derived
use Rattle.rows_core.specs.Equality.{row_eq-Decides, same_row-Decides}
use Rattle.rows_core.specs.Value.{row_eq}
use Rattle.plan_core.specs.Columns.{Row, Rows}
use Rattle.plan_core.specs.Distinct.{distinct_rows}
use Rattle.plan_laws.specs.GrowthOfRows.{has_row, new_rows}
use Rattle.plan_laws.proofs.FirstOfEqual.{differ, either_way, is_there, one_more, same_members, same_test}

-- `==` of rows
abbrev pub derived_eq : Row → Row → Bool
derived_eq = derived.eq-value.it

is_row_eq : derived_eq ≡ row_eq
is_row_eq = λ j a b. by a b j
  where
    by : (a b : Row) → derived_eq a b ≡ row_eq a b
    by a b = same_test _ _ (λ h. (row_eq-Decides a b).1 ((same_row-Decides a b).0 h)) (λ h. (same_row-Decides a b).1 ((row_eq-Decides a b).0 h))

put_in : (done : Rows) (row : Row) → insert_key row_eq (distinct_rows done) row ≡ distinct_rows (done ++ row ∷ [])
put_in done row =
    ap (λ b. cond b (distinct_rows done) (distinct_rows done ++ row ∷ [])) (same_members row done) ∙ by (list_any (row_eq row) done)
    ∙ sym (one_more done row)
  where
    by : (b : Bool) → cond b (distinct_rows done) (distinct_rows done ++ row ∷ []) ≡ distinct_rows done ++ cond b [] (row ∷ [])
    by true = sym (append-nil (distinct_rows done))
    by false = refl

all_put_in : (done rows : Rows) → insert_all row_eq (distinct_rows done) rows ≡ distinct_rows (done ++ rows)
all_put_in done [] = ap distinct_rows (sym (append-nil done))
all_put_in done (row ∷ rows) =
    ap (λ keys. insert_all row_eq keys rows) (put_in done row) ∙ all_put_in (done ++ row ∷ []) rows
    ∙ ap distinct_rows (append_assoc done (row ∷ []) rows)

-- a set has the first of equal rows that are put into it
pub set_of_rows : (rows : Rows) → insert_all derived_eq [] rows ≡ distinct_rows rows
set_of_rows rows = ap (λ (eq : Row → Row → Bool). insert_all eq [] rows) is_row_eq ∙ all_put_in [] rows

-- ---- the rows that a set has

any_last : {X : Type 0} (p : X → Bool) (xs : List X) (x : X) → list_any p (xs ++ x ∷ []) ≡ (list_any p xs || p x)
any_last p xs x = list_any-append p xs (x ∷ []) ∙ ap (λ b. list_any p xs || b) (or-false (p x))

-- one of the lent rows is equal to this one
abbrev pub lends : List (Bor Row) → Row → Bool
lends keys row = list_any (λ key. row_eq row key.now) keys

abbrev same_by : (Row → Row → Bool) → Bor Row → Bor Row → Bool
same_by eq a b = eq a.now b.now

abbrev same : Bor Row → Bor Row → Bool
same = same_by row_eq

-- `==` of lent rows
abbrev pub derived_same : Bor Row → Bor Row → Bool
derived_same = same_by derived_eq

lends_one_more : (keys : List (Bor Row)) (key : Bor Row) (row : Row) → lends (insert_key same keys key) row ≡ (lends keys row || row_eq row key.now)
lends_one_more keys key row = by (list_any (same key) keys) refl
  where
    there : list_any (same key) keys ≡ true → (b : Bool) → row_eq row key.now ≡ b → lends keys row ≡ (lends keys row || b)
    there has true e = let has_it : lends keys row ≡ true = ap (λ r. list_any (λ k. row_eq r k.now) keys) ((row_eq-Decides row key.now).0 e) ∙ has in has_it ∙ sym (or-true (lends keys row))
    there has false e = sym (or-false (lends keys row))

    by : (b : Bool) → list_any (same key) keys ≡ b → lends (cond b keys (keys ++ key ∷ [])) row ≡ (lends keys row || row_eq row key.now)
    by true e = there e (row_eq row key.now) refl
    by false e = any_last (λ k. row_eq row k.now) keys key

-- which of the rows of a set are lent so far
abbrev pub LendsThoseOf : Rows → List (Bor Row) → Rows → Type 0
LendsThoseOf set keys rows = (row : Row) → has_row set row ≡ true → lends keys row ≡ has_row rows row

module _ (set rows : Rows) (i : ℕ) (row : Row) (within : i < length rows) (is : row ≡ get_or rows i row) where
  with_next : (other : Row) → has_row (take (i + 1) rows) other ≡ (has_row (take i rows) other || row_eq other row)
  with_next other =
      ap (λ l. has_row l other) (take_more rows i row within) ∙ ap (λ r. has_row (take i rows ++ r ∷ []) other) (sym is)
      ∙ any_last (row_eq other) (take i rows) row

  pub lent_next : (keys next : List (Bor Row)) (key : Bor Row) → key.now ≡ row → next ≡ insert_key derived_same keys key → LendsThoseOf set keys (take i rows) → LendsThoseOf set next (take (i + 1) rows)
  lent_next keys next key at after so_far other has =
      ap (λ l. lends l other) (after ∙ ap (λ (eq : Row → Row → Bool). insert_key (same_by eq) keys key) is_row_eq) ∙ lends_one_more keys key other ∙ ap (λ r. lends keys other || row_eq other r) at
      ∙ ap (λ b. b || row_eq other row) (so_far other has) ∙ sym (with_next other)

  pub passed_next : (keys next : List (Bor Row)) → has_row set row ≡ false → next ≡ keys → LendsThoseOf set keys (take i rows) → LendsThoseOf set next (take (i + 1) rows)
  passed_next keys next absent after so_far other has = ap (λ l. lends l other) after ∙ so_far other has ∙ by (row_eq other row) refl ∙ sym (with_next other)
    where
      by : (b : Bool) → row_eq other row ≡ b → has_row (take i rows) other ≡ (has_row (take i rows) other || row_eq other row)
      by true e = absurd (true≢false (sym has ∙ ap (has_row set) ((row_eq-Decides other row).0 e) ∙ absent))
      by false e = sym (ap (λ b. has_row (take i rows) other || b) e ∙ or-false (has_row (take i rows) other))

-- ---- the rows that are left

alike_in : (p q : Row → Bool) (all rows : Rows) → ((row : Row) → has_row all row ≡ true → p row ≡ q row) → AllByRecursion (λ row. has_row all row ≡ true) rows → filter p rows ≡ filter q rows
alike_in p q all [] alike has = refl
alike_in p q all (row ∷ rows) alike has =
    ap (λ l. cond (p row) (row ∷ l) l) (alike_in p q all rows alike has.1) ∙ ap (λ b. cond b (row ∷ filter q rows) (filter q rows)) (alike row has.0)

has_its_own : (rows : Rows) → AllByRecursion (λ row. has_row rows row ≡ true) rows
has_its_own rows = recursion_from_All (λ row. has_row rows row ≡ true) rows (All-weaker (Contains rows) (λ row. has_row rows row ≡ true) (λ row at. is_there row rows at) rows (All-contains_itself rows))

-- the first of equal rows without the lent ones, where those of them that the old rows have are lent
pub left_new : (old rows : Rows) (keys : List (Bor Row)) → LendsThoseOf (distinct_rows rows) keys old → filter (λ row. not (lends keys row)) (distinct_rows rows) ≡ new_rows old rows
left_new old rows keys lent =
    alike_in (λ row. not (lends keys row)) (λ row. not (has_row old row)) (distinct_rows rows) (distinct_rows rows) (λ row has. ap not (lent row has)) (has_its_own (distinct_rows rows))

-- ---- rows that are put behind others

-- the row isn't among these
abbrev is_absent : Rows → Row → Bool
is_absent keys row = not (has_row keys row)

absent_still : (keys : Rows) (row other : Row) → row_eq row other ≡ false → is_absent (keys ++ row ∷ []) other ≡ is_absent keys other
absent_still keys row other apart =
    ap not (any_last (row_eq other) keys row ∙ ap (λ b. has_row keys other || b) (either_way other row ∙ apart) ∙ or-false (has_row keys other))

same_absent : (keys : Rows) (row : Row) (others : Rows) → AllByRecursion (λ other. row_eq row other ≡ false) others → filter (is_absent (keys ++ row ∷ [])) others ≡ filter (is_absent keys) others
same_absent keys row [] apart = refl
same_absent keys row (other ∷ others) apart =
    ap (λ l. cond (is_absent (keys ++ row ∷ []) other) (other ∷ l) l) (same_absent keys row others apart.1)
    ∙ ap (λ b. cond b (other ∷ filter (is_absent keys) others) (filter (is_absent keys) others)) (absent_still keys row other apart.0)

put_behind : (keys rows : Rows) → IsDistinct row_eq rows → insert_all row_eq keys rows ≡ keys ++ filter (is_absent keys) rows
unfolding IsDistinct
put_behind keys [] apart = sym (append-nil keys)
put_behind keys (row ∷ rows) apart = by (has_row keys row) (put_behind keys rows apart.1) (put_behind (keys ++ row ∷ []) rows apart.1)
  where
    absent : Rows
    absent = filter (is_absent keys) rows

    by : (b : Bool) → insert_all row_eq keys rows ≡ keys ++ absent → insert_all row_eq (keys ++ row ∷ []) rows ≡ (keys ++ row ∷ []) ++ filter (is_absent (keys ++ row ∷ [])) rows
        → insert_all row_eq (cond b keys (keys ++ row ∷ [])) rows ≡ keys ++ cond (not b) (row ∷ absent) absent
    by true known further = known
    by false known further = further ∙ ap (λ l. (keys ++ row ∷ []) ++ l) (same_absent keys row rows apart.0) ∙ append_assoc keys (row ∷ []) absent

-- a set that takes the first of equal rows has those that are new behind its own
pub set_with_rows : (keys rows : Rows) → insert_all derived_eq keys (distinct_rows rows) ≡ keys ++ new_rows keys rows
set_with_rows keys rows =
    ap (λ (eq : Row → Row → Bool). insert_all eq keys (distinct_rows rows)) is_row_eq
    ∙ put_behind keys (distinct_rows rows) (IsDistinct-from_AllPairs row_eq-Decides (distinct_rows rows) (differ rows))

pub if_ok_then : {A E : Type 0} (P Q : A → Type 0) (r : Result A E) → ((x : A) → P x → Q x) → IfOk r P → IfOk r Q
if_ok_then P Q (Ok x) then is = then x is
if_ok_then P Q (Err e) then is = tt
