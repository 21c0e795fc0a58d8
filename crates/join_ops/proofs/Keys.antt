-- Keys of lent values, and the rows under them.
use Rattle.std.proofs.Common.{◌≡◌, refl, sym, ap, ◌∙◌, ℕ, ◌+◌, ◌<◌, Bool, true, false, cond, ◌&&◌, List, [], ◌∷◌, ◌++◌, map, length, get_or, take, drop, None, Some, append-nil, append_assoc, arith}
use Rattle.std.specs.Bool.{Decides}
use Rattle.std.specs.Borrow.{Bor}
use Rattle.std.specs.Cmp.Derive.Mapped.{pointwise-map}
use Rattle.std.specs.List.{filter}
use Rattle.std.specs.Option.{option_map_or}
use Rattle.std.proofs.lemmas.List.{take_more, at_drop_more, map-append}
use Rattle.std.proofs.lemmas.List.Elements.{filter-append}
use Rattle.row_blob.specs.declared.kept.TaggedRow.{TaggedRow}
use Rattle.indexmap.specs.IndexMap.{IndexMap, get}
use Rattle.rows_core.specs.contracts.value.ValuePartialEq.TheImpl as derived
use Rattle.rows_core.specs.Equality.{row_eq-Decides, value_eq-Decides, same_row-Decides}
use Rattle.rows_core.specs.Value.{row_eq, value_eq}
use Rattle.plan_core.specs.Columns.{Row, Rows, column_of}
use Rattle.plan_core.specs.Join.{rows_agree}
use Rattle.plan_laws.specs.KeptForm.{tagged_from}
use Rattle.join_ops.specs.RowsByKey.{Key, LentRows, lent, same_key, rows_under, HasRowsByKey, left_values, right_values}

-- two tests of one fact
same_test : {P : Type 0} (a b : Bool) → Decides a P → Decides b P → a ≡ b
same_test true true p q = refl
same_test false false p q = refl
same_test true false p q = sym (q.1 (p.0 refl))
same_test false true p q = p.1 (q.0 refl)

turned : {X : Type 0} {x y : X} (b : Bool) → Decides b (x ≡ y) → Decides b (y ≡ x)
turned b d = (λ e. sym (d.0 e), λ e. d.1 (sym e))

-- ---- keys

same_key_is : (a b : Key) → same_key a b ≡ row_eq (lent a) (lent b)
same_key_is a b =
    sym (pointwise-map (λ r. r.now) derived.eq-value.it a.items b.items)
    ∙ same_test _ _ (same_row-Decides (lent a) (lent b)) (row_eq-Decides (lent a) (lent b))

-- equal keys have the same rows
same_rows_under : {S : Type 0} (index : IndexMap Key LentRows S) (a b : Key) → row_eq (lent a) (lent b) ≡ true → rows_under index a ≡ rows_under index b
same_rows_under index a b h =
    let equal : lent a ≡ lent b = (row_eq-Decides (lent a) (lent b)).0 h in
    let tests : same_key a ≡ same_key b = λ j k. (same_key_is a k ∙ ap (λ values. row_eq values (lent k)) equal ∙ sym (same_key_is b k)) j in
    ap (λ test. option_map_or lent (get (λ x y. test y) index a) []) tests

-- one more row under a key
pub one_more : {S : Type 0} (old new : IndexMap Key LentRows S) (key : Key) (rows : LentRows) (row : Row)
    → ((q : Key) → get same_key new q ≡ cond (same_key key q) (Some rows) (get same_key old q)) → lent rows ≡ rows_under old key ++ row ∷ []
    → (q : Key) → rows_under new q ≡ rows_under old q ++ cond (row_eq (lent key) (lent q)) (row ∷ []) []
one_more old new key rows row updates has q = by (row_eq (lent key) (lent q)) refl
  where
    found : rows_under new q ≡ option_map_or lent (cond (row_eq (lent key) (lent q)) (Some rows) (get same_key old q)) []
    found = ap (λ r. option_map_or lent r []) (updates q ∙ ap (λ b. cond b (Some rows) (get same_key old q)) (same_key_is key q))

    by : (b : Bool) → row_eq (lent key) (lent q) ≡ b → rows_under new q ≡ rows_under old q ++ cond b (row ∷ []) []
    by true e =
        found ∙ ap (λ b. option_map_or lent (cond b (Some rows) (get same_key old q)) []) e ∙ has
        ∙ ap (λ l. l ++ row ∷ []) (same_rows_under old key q e)
    by false e =
        found ∙ ap (λ b. option_map_or lent (cond b (Some rows) (get same_key old q)) []) e ∙ sym (append-nil (rows_under old q))

-- ---- all rows under their keys

pub rows_more : {S : Type 0} (on : List (ℕ × ℕ)) (rights : Rows) (old new : IndexMap Key LentRows S) (key : Key) (row : Row) (i : ℕ) → i < length rights → row ≡ get_or rights i row
    → lent key ≡ right_values on row → HasRowsByKey on (take i rights) old
    → ((q : Key) → rows_under new q ≡ rows_under old q ++ cond (row_eq (lent key) (lent q)) (row ∷ []) []) → HasRowsByKey on (take (i + 1) rights) new
rows_more on rights old new key row i within is values before after q =
    after q ∙ ap (λ l. l ++ cond (row_eq (lent key) (lent q)) (row ∷ []) []) (before q)
    ∙ ap (λ v. filter has (take i rights) ++ cond (row_eq v (lent q)) (row ∷ []) []) values
    ∙ sym (filter-append has (take i rights) (row ∷ []))
    ∙ ap (λ r. filter has (take i rights ++ r ∷ [])) is ∙ ap (filter has) (sym (take_more rights i row within))
  where
    has : Row → Bool
    has right = row_eq (right_values on right) (lent q)

-- ---- rows that agree

agrees : (on : List (ℕ × ℕ)) (left right : Row) → row_eq (right_values on right) (left_values on left) ≡ rows_agree on left right
agrees [] left right = refl
agrees (pair ∷ on) left right =
    let a = column_of right pair.1 in
    let b = column_of left pair.0 in
    ap (λ r. r && row_eq (right_values on right) (left_values on left)) (same_test _ _ (value_eq-Decides a b) (turned _ (value_eq-Decides b a)))
    ∙ ap (λ r. value_eq b a && r) (agrees on left right)

rows_agreeing : (on : List (ℕ × ℕ)) (left : Row) (rights : Rows) → filter (λ right. row_eq (right_values on right) (left_values on left)) rights ≡ filter (rows_agree on left) rights
rows_agreeing on left rights = ap (λ test. filter test rights) (λ j right. agrees on left right j)

-- one more left row
pub join_more : {S : Type 0} (first position : ℕ) (on : List (ℕ × ℕ)) (lefts rights : Rows) (joined next : List TaggedRow) (index : IndexMap Key LentRows S) (key : Key) (row : Row) (i : ℕ)
    → i < length lefts → row ≡ get_or lefts i row → position ≡ first + i → lent key ≡ left_values on row → HasRowsByKey on rights index
    → tagged_from first on lefts rights ≡ joined ++ tagged_from (first + i) on (drop i lefts) rights
    → next ≡ joined ++ map (λ right. record { left = position; row = row ++ right }) (rows_under index key)
    → tagged_from first on lefts rights ≡ next ++ tagged_from (first + (i + 1)) on (drop (i + 1) lefts) rights
join_more first position on lefts rights joined next index key row i within is at values has before after =
    let tags : ℕ → Rows → List TaggedRow = λ n l. map (λ right. record { left = n; row = row ++ right }) l in
    let agree = filter (rows_agree on row) rights in
    let rest = tagged_from (first + i + 1) on (drop (i + 1) lefts) rights in
    let e : first + i + 1 ≡ first + (i + 1) = omega arith in
    let found : rows_under index key ≡ agree =
    has key ∙ ap (λ v. filter (λ right. row_eq (right_values on right) v) rights) values ∙ rows_agreeing on row rights in
    before
    ∙ ap (λ l. joined ++ l) (at_drop_more (λ l. tagged_from (first + i) on l rights) lefts i row within ∙ ap (λ r. tagged_from (first + i) on (r ∷ drop (i + 1) lefts) rights) (sym is))
    ∙ sym (append_assoc joined (tags (first + i) agree) rest)
    ∙ ap (λ n. (joined ++ tags n agree) ++ rest) (sym at) ∙ ap (λ l. (joined ++ tags position l) ++ rest) (sym found) ∙ ap (λ l. l ++ rest) (sym after)
    ∙ ap (λ n. next ++ tagged_from n on (drop (i + 1) lefts) rights) e

-- ---- rows that are held

pub pushed : {S : Type 0} (index : IndexMap Key LentRows S) (key : Key) (found next : LentRows) (row : Bor Row) → Some found ≡ get same_key index key → next.items ≡ found.items ++ row ∷ []
    → lent next ≡ rows_under index key ++ row.now ∷ []
pushed index key found next row is after =
    ap (map (λ r. r.now)) after ∙ map-append (λ r. r.now) found.items (row ∷ []) ∙ ap (λ r. option_map_or lent r [] ++ row.now ∷ []) is

pub alone : {S : Type 0} (index : IndexMap Key LentRows S) (key : Key) (empty next : LentRows) (row : Bor Row) → None ≡ get same_key index key → empty.items ≡ [] → next.items ≡ empty.items ++ row ∷ []
    → lent next ≡ rows_under index key ++ row.now ∷ []
alone index key empty next row is none after =
    ap (map (λ r. r.now)) after ∙ ap (λ l. map (λ r. r.now) (l ++ row ∷ [])) none ∙ ap (λ r. option_map_or lent r [] ++ row.now ∷ []) is

-- what f gives of the rows under a key
pub found_rows : {S A : Type 0} (f : Row → A) (index : IndexMap Key LentRows S) (key : Key) (found : LentRows) (rights : List (Bor Row)) → Some found ≡ get same_key index key → rights ≡ found.items
    → map (λ right. f right.now) rights ≡ map f (rows_under index key)
found_rows f index key found rights is same =
    ap (map (λ right. f right.now)) same ∙ behind found.items ∙ ap (λ r. map f (option_map_or lent r [])) is
  where
    behind : (refs : List (Bor Row)) → map (λ right. f right.now) refs ≡ map f (map (λ r. r.now) refs)
    behind [] = refl
    behind (ref ∷ refs) = ap (λ l. f ref.now ∷ l) (behind refs)
