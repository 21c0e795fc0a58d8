-- The kinds of a join's rows, also where it has grown.
use Rattle.std.proofs.Common.{◌≡◌, sym, subst, ℕ, List, [], ◌∷◌, ◌++◌, map, All, Result, Ok, Err, IfOk}
use Rattle.std.specs.List.{AllByRecursion}
use Rattle.std.proofs.lemmas.List.Elements.{All-from_recursion, recursion_from_All, All-append, All-map}
use Rattle.std.proofs.lemmas.List.Sorted.{All-permutation}
use Rattle.rows_core.specs.Value.{kind_of}
use Rattle.row_blob.specs.declared.kept.TaggedRow.{TaggedRow}
use Rattle.plan_core.specs.Columns.{Rows}
use Rattle.plan_core.specs.PlanTyping.{Kinds}
use Rattle.plan_core.specs.TypedRows.{HaveKinds}
use Rattle.plan_laws.specs.GrowthOfJoins.{AscendsByPosition, merge_by_position}
use Rattle.plan_laws.specs.KeptForm.{tagged_from}
use Rattle.plan_laws.proofs.KeptRows.{join_kept}
use Rattle.plan_laws.proofs.TaggedMerge.{merges}
use Rattle.plan_laws.proofs.TypedOperators.{HasKinds, join_typed}

-- the rows of the join have these kinds
abbrev pub AreTagged : Kinds → List TaggedRow → Type 0
AreTagged kinds rows = All (λ tagged. map kind_of tagged.row ≡ kinds) rows

pub without_positions : (kinds : Kinds) (rows : List TaggedRow) → AreTagged kinds rows → HaveKinds kinds (map (λ tagged. tagged.row) rows)
without_positions kinds rows have = All-map (HasKinds kinds) (λ tagged. tagged.row) rows have

with_positions : (kinds : Kinds) (rows : List TaggedRow) → AllByRecursion (HasKinds kinds) (map (λ tagged. tagged.row) rows) → AllByRecursion (λ tagged. map kind_of tagged.row ≡ kinds) rows
with_positions kinds [] have = tt
with_positions kinds (row ∷ rows) have = (have.0, with_positions kinds rows have.1)

pub join_kinds : (first : ℕ) (on : List (ℕ × ℕ)) (left_kinds right_kinds : Kinds) (lefts rights : Rows) → HaveKinds left_kinds lefts → HaveKinds right_kinds rights
    → AreTagged (left_kinds ++ right_kinds) (tagged_from first on lefts rights)
join_kinds first on left_kinds right_kinds lefts rights l r =
    let kinds = left_kinds ++ right_kinds in
    let rows = subst (HaveKinds kinds) (sym (join_kept first on lefts rights)) (join_typed on left_kinds right_kinds lefts rights (recursion_from_All (HasKinds left_kinds) lefts l) r) in
    All-from_recursion _ _ (with_positions kinds (tagged_from first on lefts rights) (recursion_from_All (HasKinds kinds) _ rows))

-- what holds of the rows of both lists holds of their merge
pub of_merge : (P : TaggedRow → Type 0) (old new : List TaggedRow) → AscendsByPosition old → AscendsByPosition new → All P old → All P new → All P (merge_by_position old new)
of_merge P old new up_old up_new of_old of_new = All-permutation P (old ++ new) (merge_by_position old new) (merges old new up_old up_new).permutation (All-append P old new of_old of_new)

pub of_ok : {A E : Type 0} {P Q : A → Type 0} (r : Result A E) → ((a : A) → P a → Q a) → IfOk r P → IfOk r Q
of_ok (Ok a) f has = f a has
of_ok (Err e) f has = tt
