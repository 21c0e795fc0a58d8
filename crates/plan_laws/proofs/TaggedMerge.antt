-- The tagged join of longer lists, from those of their parts.
use Rattle.std.proofs.Common.{◌≡◌, refl, sym, ap, ◌∙◌, ℕ, ◌+◌, ◌<◌, ◌≤◌, subst, Bool, true, false, cond, not, List, [], ◌∷◌, ◌++◌, map, length, append_assoc, arith}
use Rattle.std.specs.Prelude.{nat_le, nat_lt}
use Rattle.std.specs.Cmp.{IsStrictWeakOrder}
use Rattle.std.specs.List.{filter, AllByRecursion}
use Rattle.std.proofs.lemmas.Bool.{leb-true, le-leb, ltb-true, ltb-false, le-ltb}
use Rattle.std.proofs.lemmas.List.{map-append}
use Rattle.std.proofs.lemmas.List.Elements.{filter-append, All-from_recursion}
use Rattle.std.proofs.lemmas.List.MinMax.{IsStrictWeakOrder-by_number}
use Rattle.plan_laws.specs.Merge.{merge_by}
use Rattle.row_blob.specs.declared.kept.TaggedRow.{TaggedRow}
use Rattle.plan_core.specs.Columns.{Row, Rows}
use Rattle.plan_core.specs.Join.{rows_agree}
use Rattle.plan_laws.specs.KeptForm.{tagged_from}
use Rattle.plan_laws.specs.GrowthOfJoins.{is_earlier, AscendsByPosition, ArePositionsWithin, IsMergedByPosition, merge_by_position}
use Rattle.plan_laws.proofs.Merging.{merge_has_both, merge_sorted, merge_stable, one_merge}
use Rattle.plan_laws.proofs.StableLists.{Ascends, NoneBelow, sorted_from_ascends}

-- ---- longer left rows

pub left_grows : (first : ℕ) (on : List (ℕ × ℕ)) (lefts more rights : Rows)
    → tagged_from first on (lefts ++ more) rights ≡ tagged_from first on lefts rights ++ tagged_from (first + length lefts) on more rights
left_grows first on [] more rights = let e : first ≡ first + 0 = omega arith in ap (λ n. tagged_from n on more rights) e
left_grows first on (left ∷ lefts) more rights =
    let here : List TaggedRow = map (λ right. record { left = first; row = left ++ right }) (filter (rows_agree on left) rights) in
    let e : first + 1 + length lefts ≡ first + length (left ∷ lefts) = omega arith in
    ap (λ l. here ++ l) (left_grows (first + 1) on lefts more rights)
    ∙ sym (append_assoc here (tagged_from (first + 1) on lefts rights) (tagged_from (first + 1 + length lefts) on more rights))
    ∙ ap (λ n. (here ++ tagged_from (first + 1) on lefts rights) ++ tagged_from n on more rights) e

-- ---- positions

-- all rows have this position
abbrev pub AreAt : ℕ → List TaggedRow → Type 0
AreAt position = AllByRecursion (λ tagged. tagged.left ≡ position)

-- no row has a position below this one
abbrev pub AreFrom : ℕ → List TaggedRow → Type 0
AreFrom position = AllByRecursion (λ tagged. position ≤ tagged.left)

from_earlier : (low high : ℕ) (rows : List TaggedRow) → low ≤ high → AreFrom high rows → AreFrom low rows
from_earlier low high [] le h = tt
from_earlier low high (row ∷ rows) le h = (omega (arith, le, h.0), from_earlier low high rows le h.1)

from_both : (position : ℕ) (a b : List TaggedRow) → AreFrom position a → AreFrom position b → AreFrom position (a ++ b)
from_both position [] b h k = k
from_both position (row ∷ a) b h k = (h.0, from_both position a b h.1 k)

from_its_place : (position : ℕ) (rows : List TaggedRow) → AreAt position rows → AreFrom position rows
from_its_place position [] h = tt
from_its_place position (row ∷ rows) h = let e = h.0 in (omega (arith, e), from_its_place position rows h.1)

tagged_at : (position : ℕ) (left : Row) (rights : Rows) → AreAt position (map (λ right. record { left = position; row = left ++ right }) rights)
tagged_at position left [] = tt
tagged_at position left (right ∷ rights) = (refl, tagged_at position left rights)

pub none_before : (position : ℕ) (on : List (ℕ × ℕ)) (lefts rights : Rows) → AreFrom position (tagged_from position on lefts rights)
none_before position on [] rights = tt
none_before position on (left ∷ lefts) rights =
    let agree = filter (rows_agree on left) rights in
    from_both position (map (λ right. record { left = position; row = left ++ right }) agree) (tagged_from (position + 1) on lefts rights)
    (from_its_place position _ (tagged_at position left agree))
    (from_earlier position (position + 1) _ (omega arith) (none_before (position + 1) on lefts rights))

-- ---- merges

le_false : (a b : ℕ) → b < a → nat_le a b ≡ false
le_false a b h = by (nat_le a b) refl
  where
    by : (r : Bool) → nat_le a b ≡ r → r ≡ false
    by true e = absurd (omega (arith, leb-true a b e, h))
    by false e = refl

le_not_lt : (a b : ℕ) → nat_le a b ≡ not (nat_lt b a)
le_not_lt a b = by (nat_lt b a) refl
  where
    by : (r : Bool) → nat_lt b a ≡ r → nat_le a b ≡ not r
    by true e = le_false a b (ltb-true b a e)
    by false e = le-leb a b (ltb-false b a e)

pub nothing_new : {X : Type 0} (first : X → X → Bool) (xs : List X) → merge_by first xs [] ≡ xs
nothing_new first [] = refl
nothing_new first (x ∷ xs) = refl

-- an old row that no new one is below comes first
first_old : (old : TaggedRow) (olds news : List TaggedRow) → AreFrom old.left news → merge_by_position (old ∷ olds) news ≡ old ∷ merge_by_position olds news
first_old old olds [] h = ap (λ l. old ∷ l) (sym (nothing_new (λ a b. nat_le a.left b.left) olds))
first_old old olds (new ∷ news) h =
    ap (λ b. cond b (old ∷ merge_by_position olds (new ∷ news)) (new ∷ merge_by_position (old ∷ olds) news)) (le-leb old.left new.left h.0)

olds_first : (position : ℕ) (olds others news : List TaggedRow) → AreAt position olds → AreFrom position news
    → merge_by_position (olds ++ others) news ≡ olds ++ merge_by_position others news
olds_first position [] others news at from = refl
olds_first position (old ∷ olds) others news at from =
    first_old old (olds ++ others) news (from_earlier old.left position news (let e = at.0 in omega (arith, e)) from)
    ∙ ap (λ l. old ∷ l) (olds_first position olds others news at.1 from)

news_first : (position : ℕ) (olds news others : List TaggedRow) → AreFrom (position + 1) olds → AreAt position news
    → merge_by_position olds (news ++ others) ≡ news ++ merge_by_position olds others
news_first position [] news others from at = refl
news_first position (old ∷ olds) [] others from at = refl
news_first position (old ∷ olds) (new ∷ news) others from at =
    ap (λ b. cond b (old ∷ merge_by_position olds (new ∷ news ++ others)) (new ∷ merge_by_position (old ∷ olds) (news ++ others)))
    (le_false old.left new.left (let e = at.0 in let f = from.0 in omega (arith, e, f)))
    ∙ ap (λ l. new ∷ l) (news_first position (old ∷ olds) news others from at.1)

-- ---- longer right rows

pub right_grows : (first : ℕ) (on : List (ℕ × ℕ)) (lefts rights more : Rows)
    → tagged_from first on lefts (rights ++ more) ≡ merge_by_position (tagged_from first on lefts rights) (tagged_from first on lefts more)
right_grows first on [] rights more = refl
right_grows first on (left ∷ lefts) rights more =
    let tag : Row → TaggedRow = λ right. record { left = first; row = left ++ right } in
    let a = map tag (filter (rows_agree on left) rights) in
    let b = map tag (filter (rows_agree on left) more) in
    let olds = tagged_from (first + 1) on lefts rights in
    let news = tagged_from (first + 1) on lefts more in
    let at_b : AreAt first b = tagged_at first left (filter (rows_agree on left) more) in
    ap (λ l. map tag l ++ tagged_from (first + 1) on lefts (rights ++ more)) (filter-append (rows_agree on left) rights more)
    ∙ ap (λ l. l ++ tagged_from (first + 1) on lefts (rights ++ more)) (map-append tag (filter (rows_agree on left) rights) (filter (rows_agree on left) more))
    ∙ append_assoc a b (tagged_from (first + 1) on lefts (rights ++ more))
    ∙ ap (λ l. a ++ (b ++ l)) (right_grows (first + 1) on lefts rights more)
    ∙ ap (λ l. a ++ l) (sym (news_first first olds b news (none_before (first + 1) on lefts rights) at_b))
    ∙ sym (olds_first first a olds (b ++ news) (tagged_at first left (filter (rows_agree on left) rights))
    (from_both first b news (from_its_place first b at_b) (from_earlier first (first + 1) news (omega arith) (none_before (first + 1) on lefts more))))

-- ---- both

pub both_grow : (first : ℕ) (on : List (ℕ × ℕ)) (lefts more_lefts rights more_rights : Rows)
    → tagged_from first on (lefts ++ more_lefts) (rights ++ more_rights)
    ≡ merge_by_position (tagged_from first on lefts rights) (tagged_from first on lefts more_rights) ++ tagged_from (first + length lefts) on more_lefts (rights ++ more_rights)
both_grow first on lefts more_lefts rights more_rights =
    left_grows first on lefts more_lefts (rights ++ more_rights)
    ∙ ap (λ l. l ++ tagged_from (first + length lefts) on more_lefts (rights ++ more_rights)) (right_grows first on lefts rights more_rights)

-- ---- positions ascend

not_earlier : (position : ℕ) (row : TaggedRow) (rows : List TaggedRow) → row.left ≡ position → AreFrom position rows → NoneBelow is_earlier row rows
not_earlier position row [] at from = tt
not_earlier position row (next ∷ rows) at from = (le-ltb next.left row.left (let f = from.0 in omega (arith, at, f)), not_earlier position row rows at from.1)

at_front : (position : ℕ) (rows others : List TaggedRow) → AreAt position rows → AreFrom position others → Ascends is_earlier others → Ascends is_earlier (rows ++ others)
at_front position [] others at from up = up
at_front position (row ∷ rows) others at from up =
    (not_earlier position row (rows ++ others) at.0 (from_both position rows others (from_its_place position rows at.1) from), at_front position rows others at.1 from up)

tagged_up : (first : ℕ) (on : List (ℕ × ℕ)) (lefts rights : Rows) → Ascends is_earlier (tagged_from first on lefts rights)
tagged_up first on [] rights = tt
tagged_up first on (left ∷ lefts) rights =
    at_front first _ _ (tagged_at first left (filter (rows_agree on left) rights))
    (from_earlier first (first + 1) _ (omega arith) (none_before (first + 1) on lefts rights)) (tagged_up (first + 1) on lefts rights)

pub tagged_ascends : (first : ℕ) (on : List (ℕ × ℕ)) (lefts rights : Rows) → AscendsByPosition (tagged_from first on lefts rights)
tagged_ascends first on lefts rights = sorted_from_ascends is_earlier _ (tagged_up first on lefts rights)

-- no row has a position at or above this one
abbrev pub AreBelow : ℕ → List TaggedRow → Type 0
AreBelow position = AllByRecursion (λ tagged. tagged.left < position)

below_both : (position : ℕ) (a b : List TaggedRow) → AreBelow position a → AreBelow position b → AreBelow position (a ++ b)
below_both position [] b h k = k
below_both position (row ∷ a) b h k = (h.0, below_both position a b h.1 k)

below_next : (position high : ℕ) (rows : List TaggedRow) → position < high → AreAt position rows → AreBelow high rows
below_next position high [] less at = tt
below_next position high (row ∷ rows) less at = let e = at.0 in (omega (arith, e, less), below_next position high rows less at.1)

pub none_past : (first : ℕ) (on : List (ℕ × ℕ)) (lefts rights : Rows) → AreBelow (first + length lefts) (tagged_from first on lefts rights)
none_past first on [] rights = tt
none_past first on (left ∷ lefts) rights =
    let high = first + length (left ∷ lefts) in
    let e : first + 1 + length lefts ≡ high = omega arith in
    below_both high _ _ (below_next first high _ (omega arith) (tagged_at first left (filter (rows_agree on left) rights)))
    (subst (λ n. AreBelow n (tagged_from (first + 1) on lefts rights)) e (none_past (first + 1) on lefts rights))

-- ---- the one merge

pub earlier_weak : IsStrictWeakOrder is_earlier
earlier_weak = IsStrictWeakOrder-by_number (λ tagged. tagged.left)

old_first : (a b : TaggedRow) → nat_le a.left b.left ≡ not (is_earlier b a)
old_first a b = le_not_lt a.left b.left

pub merges : (old new : List TaggedRow) → AscendsByPosition old → AscendsByPosition new → IsMergedByPosition old new (merge_by_position old new)
merges old new up_old up_new = record {
  permutation = merge_has_both (λ a b. nat_le a.left b.left) old new;
  ascends = merge_sorted is_earlier (λ a b. nat_le a.left b.left) earlier_weak old_first old new up_old up_new;
  stable = merge_stable is_earlier (λ a b. nat_le a.left b.left) earlier_weak old_first old new up_old;
}

pub only_merge : (old new merged : List TaggedRow) → AscendsByPosition old → AscendsByPosition new → IsMergedByPosition old new merged → merged ≡ merge_by_position old new
only_merge old new merged up_old up_new h =
    sym (one_merge is_earlier (λ a b. nat_le a.left b.left) earlier_weak old_first old new merged up_old up_new h.ascends h.stable)

pub merge_grows : (first : ℕ) (on : List (ℕ × ℕ)) (lefts rights more : Rows)
    → IsMergedByPosition (tagged_from first on lefts rights) (tagged_from first on lefts more) (tagged_from first on lefts (rights ++ more))
merge_grows first on lefts rights more =
    subst (IsMergedByPosition (tagged_from first on lefts rights) (tagged_from first on lefts more)) (sym (right_grows first on lefts rights more))
    (merges _ _ (tagged_ascends first on lefts rights) (tagged_ascends first on lefts more))

-- ---- positions within

both_bounds : (low high : ℕ) (rows : List TaggedRow) → AreFrom low rows → AreBelow high rows → AllByRecursion (λ tagged. (low ≤ tagged.left) × (tagged.left < high)) rows
both_bounds low high [] from below = tt
both_bounds low high (row ∷ rows) from below = ((from.0, below.0), both_bounds low high rows from.1 below.1)

pub positions_within : (first : ℕ) (on : List (ℕ × ℕ)) (lefts rights : Rows) → ArePositionsWithin first (first + length lefts) (tagged_from first on lefts rights)
positions_within first on lefts rights =
    All-from_recursion _ _ (both_bounds first (first + length lefts) _ (none_before first on lefts rights) (none_past first on lefts rights))
