-- The rows of a valid state, as the laws of plans and of growth ask for them.
use Rattle.std.proofs.Common.{◌≡◌, ℕ, zero, suc, ◌-◌, ◌≤◌, Bool, true, false, cond, List, [], ◌∷◌, ◌++◌, map, take, drop, slice_get, Some, IfSome, refl, ap, ◌∙◌, arith}
use Rattle.std.specs.List.{Contains, AllByRecursion, find, flat_map}
use Rattle.std.specs.Option.{option_map}
use Rattle.std.specs.Prelude.{unwrap_or, ◌==◌}
use Rattle.std.proofs.lemmas.List.Elements.{All-append, All-nil, All-from_recursion}
use Rattle.rows_core.specs.declared.cut.Cut.{Cut}
use Rattle.rows_core.specs.declared.kind.Kind.{Kind}
use Rattle.rows_core.specs.declared.kind.Kind.TheVariants as the_kind
use Rattle.rows_core.specs.declared.value.Value.{Value}
use Rattle.rows_core.specs.declared.value.Value.TheVariants.{Int, Text, Bool as Truth}
use Rattle.rows_core.specs.Schema.{kinds_of}
use Rattle.rows_core.specs.Value.{kind_of}
use Rattle.row_blob.specs.Kept.{IsKept, IsValue, IsRow, AreInOrder}
use Rattle.row_blob.specs.declared.kept.Kept.TheVariants as kept
use Rattle.row_blob.specs.declared.shape.Shape.TheVariants as shape
use Rattle.plan_core.specs.Columns.{Row, Rows}
use Rattle.plan_core.specs.PlanTyping.{Kinds}
use Rattle.plan_core.specs.TypedRows.{HaveKinds, AreOfStreams}
use Rattle.plan_laws.specs.ValidRows.{IsValidRow, AreValidRows}
use Rattle.plan_laws.specs.ValidRows as laws
use Rattle.estimator.specs.Cuts.{Cuts}
use Rattle.rewrite_core.proofs.Looking.{Contains-first, Contains-behind}
use Rattle.growth_laws.specs.Lists.{extents_of, interval_rows, lists_at}
use Rattle.catalog_types.specs.PlainEntry.{PlainEntry}
use Rattle.catalog_core.specs.Programs.{AreCuts}
use Rattle.folder.specs.State.{Extent, Stream, State, IsEntryOf, IsValid, states_of, kinds_in, rows_in, extents_in}
use Rattle.folder.specs.Files.{result_of, no_result, results_in}

all-mapped : {A B : Type 0} (f : A → B) (P : B → Type 0) (xs : List A) → ((x : A) → Contains xs x → P (f x)) → AllByRecursion P (map f xs)
all-mapped f P [] is = tt
all-mapped f P (x ∷ xs) is = (is x (Contains-first x xs), all-mapped f P xs (λ y has. is y (Contains-behind x xs y has)))

-- ---- valid rows

value-valid : (k : Kind) (v : Value) → IsValue k v → laws.IsValid v
value-valid the_kind.Int (Int n) is = is
value-valid the_kind.Text (Text t) is = is
value-valid the_kind.Bool (Truth b) is = tt
value-valid _ _ is = absurd is

row-valid : (kinds : List Kind) (row : Row) → IsRow kinds row → IsValidRow row
row-valid [] [] is = tt
row-valid [] (v ∷ row) is = absurd is
row-valid (k ∷ kinds) [] is = absurd is
row-valid (k ∷ kinds) (v ∷ row) is = (value-valid k v is.0, row-valid kinds row is.1)

rows-valid : (kinds : List Kind) (before rows : Rows) → AreInOrder (λ before. IsRow kinds) before rows → AreValidRows rows
rows-valid kinds before [] are = tt
rows-valid kinds before (row ∷ rows) are = (row-valid kinds row are.0, rows-valid kinds (before ++ row ∷ []) rows are.1)

pub extents-valid : (s : State) → IsValid s → AllByRecursion (AllByRecursion AreValidRows) (extents_in s.streams)
extents-valid s valid =
    all-mapped rows_in (AllByRecursion AreValidRows) s.streams
    (λ x has. all-mapped (λ (e : Extent). e.rows) AreValidRows x.extents (λ e had. rows-valid (kinds_of x.columns) [] e.rows (valid.rows x e (has, had)).1))

-- ---- typed lists

value_kind : (kind : Kind) (v : Value) → IsValue kind v → kind_of v ≡ kind
value_kind the_kind.Int (Int n) is = refl
value_kind the_kind.Text (Text t) is = refl
value_kind the_kind.Bool (Truth b) is = refl
value_kind _ _ is = absurd is

row_kinds : (kinds : List Kind) (row : List Value) → IsRow kinds row → map kind_of row ≡ kinds
row_kinds [] [] is = refl
row_kinds [] (v ∷ row) is = absurd is
row_kinds (kind ∷ kinds) [] is = absurd is
row_kinds (kind ∷ kinds) (v ∷ row) is = ap (λ k. k ∷ map kind_of row) (value_kind kind v is.0) ∙ ap (λ l. kind ∷ l) (row_kinds kinds row is.1)

rows_kinds : (kinds : List Kind) (before rows : List (List Value)) → AreInOrder (λ before. IsRow kinds) before rows → AllByRecursion (λ row. map kind_of row ≡ kinds) rows
rows_kinds kinds before [] are = tt
rows_kinds kinds before (row ∷ rows) are = (row_kinds kinds row are.0, rows_kinds kinds (before ++ row ∷ []) rows are.1)

-- rows of a kept form have its kinds
pub kept_kinds : (kinds : List Kind) (rows : List (List Value)) → IsKept (shape.Rows kinds) (kept.Rows rows) → HaveKinds kinds rows
kept_kinds kinds rows is = All-from_recursion (λ row. map kind_of row ≡ kinds) rows (rows_kinds kinds [] rows is.1)

all-take : {A : Type 0} (P : A → Type 0) (n : ℕ) (xs : List A) → AllByRecursion P xs → AllByRecursion P (take n xs)
all-take P zero xs all = tt
all-take P (suc n) [] all = tt
all-take P (suc n) (x ∷ xs) all = (all.0, all-take P n xs all.1)

all-drop : {A : Type 0} (P : A → Type 0) (n : ℕ) (xs : List A) → AllByRecursion P xs → AllByRecursion P (drop n xs)
all-drop P zero xs all = all
all-drop P (suc n) [] all = tt
all-drop P (suc n) (x ∷ xs) all = all-drop P n xs all.1

joined-kinds : (kinds : Kinds) (lists : List Rows) → AllByRecursion (HaveKinds kinds) lists → HaveKinds kinds (flat_map (λ rows. rows) lists)
joined-kinds kinds [] all = All-nil (λ (row : Row). map kind_of row ≡ kinds)
joined-kinds kinds (rows ∷ lists) all = All-append (λ (row : Row). map kind_of row ≡ kinds) rows (flat_map (λ rows. rows) lists) all.0 (joined-kinds kinds lists all.1)

-- the rows of each extent are of the stream's kinds
abbrev AreTyped : List Stream → Type 0
AreTyped streams = (x : Stream) (e : Extent) → Contains streams x → Contains x.extents e → IsKept (shape.Rows (kinds_of x.columns)) (kept.Rows e.rows)

stream-typed : (streams : List Stream) → AreTyped streams → (leaf : ℕ) (cut : Cut)
    → IfSome (slice_get (kinds_in streams) leaf) (λ kinds. HaveKinds kinds (interval_rows (extents_of (extents_in streams) leaf) cut))
stream-typed [] typed leaf cut = tt
stream-typed (x ∷ xs) typed zero cut =
    joined-kinds (kinds_of x.columns) (take (cut.to - cut.from) (drop cut.from (rows_in x)))
    (all-take (HaveKinds (kinds_of x.columns)) (cut.to - cut.from) (drop cut.from (rows_in x)) (all-drop (HaveKinds (kinds_of x.columns)) cut.from (rows_in x)
    (all-mapped (λ (e : Extent). e.rows) (HaveKinds (kinds_of x.columns)) x.extents (λ e had. kept_kinds (kinds_of x.columns) e.rows (typed x e (Contains-first x xs) had)))))
stream-typed (x ∷ xs) typed (suc leaf) cut = stream-typed xs (λ y e has had. typed y e (Contains-behind x xs y has) had) leaf cut

pub lists-typed : (s : State) → IsValid s → (leaves : List ℕ) (cuts : Cuts) → AreCuts (states_of s.streams) leaves cuts → AreOfStreams (kinds_in s.streams) leaves (lists_at (extents_in s.streams) leaves cuts)
lists-typed s valid [] [] are = tt
lists-typed s valid [] (cut ∷ cuts) are = absurd are
lists-typed s valid (leaf ∷ leaves) [] are = absurd are
lists-typed s valid (leaf ∷ leaves) (cut ∷ cuts) are =
    (stream-typed s.streams (λ x e has had. valid.rows x e (has, had)) leaf cut, lists-typed s valid leaves cuts are.1)

-- ---- machine times

found-within : (streams : List Stream) (id : ℕ) (es : List PlainEntry) → AllByRecursion (IsEntryOf streams) es
    → (unwrap_or (option_map (result_of streams) (find (λ e. e.id == id) es)) no_result).machine ≤ 4294967295
found-within streams id [] all = omega arith
found-within streams id (e ∷ es) all = by (e.id == id) (found-within streams id es all.1)
  where
    by : (b : Bool) → (unwrap_or (option_map (result_of streams) (find (λ e. e.id == id) es)) no_result).machine ≤ 4294967295
        → (unwrap_or (option_map (result_of streams) (cond b (Some e) (find (λ e. e.id == id) es))) no_result).machine ≤ 4294967295
    by true rest = all.0.1.within
    by false rest = rest

pub machines-within : (s : State) → IsValid s → (id : ℕ) → (results_in s id).machine ≤ 4294967295
machines-within s valid id = found-within s.streams id s.entries valid.results
