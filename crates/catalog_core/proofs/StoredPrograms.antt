-- Programs stay programs over the streams as these grow.
use Rattle.std.proofs.Common.{◌≡◌, refl, sym, ap, subst, ◌∙◌, ℕ, zero, suc, ◌≤◌, Bool, true, false, cond, nat_le, IsOk, bytes_eq, List, [], ◌∷◌, ◌++◌, length, Option, Some, Ok, arith}
use Rattle.std.specs.List.{AllByRecursion, filter}
use Rattle.std.proofs.lemmas.Bool.Decides.{nat_tests}
use Rattle.rows_core.specs.declared.cut.Cut.{Cut}
use Rattle.rows_core.specs.declared.schema.Column.{Column}
use Rattle.rows_core.specs.Schema.{kinds_of}
use Rattle.plan_core.specs.PlainPlan.{PlainPlan, leaves}
use Rattle.plan_core.specs.PlanTyping.{Kinds, plan_typing}
use Rattle.plan_text.specs.PlainNamed.{PlainTree}
use Rattle.plan_binder.specs.Binding.{binding}
use Rattle.catalog_types.specs.declared.extent.Extent.{Extent}
use Rattle.catalog_types.specs.declared.program.Program.{Program}
use Rattle.catalog_types.specs.declared.snapshot.StreamState.{StreamState}
use Rattle.cache_index.proofs.Searching.{all-map}
use Rattle.catalog_core.specs.Programs.{names_of, columns_of, kinds_of_streams, extents_at, below, above, is_below, with_program, AreCuts, IsProgram, IsStored, program_named}
use Rattle.catalog_core.specs.Table.{updated, with_extent}
use Rattle.catalog_core.proofs.Bindings.{bound-still}
use Rattle.catalog_core.proofs.OverStreams.{Grow, cuts-stay, extents-added, extents-grown, kinds-added, kinds-grown}
use Rattle.catalog_core.proofs.Typings.{typed_still}

-- ---- over streams that grow

abbrev StayBound : List StreamState → List StreamState → Type 0
StayBound streams others = (tree : PlainTree) (plan : PlainPlan) → binding (names_of streams) (columns_of streams) tree ≡ Ok plan → binding (names_of others) (columns_of others) tree ≡ Ok plan

abbrev StayTyped : List StreamState → List StreamState → Type 0
StayTyped streams others = (plan : PlainPlan) (kinds : Kinds) → plan_typing (kinds_of_streams streams) plan ≡ Ok kinds → plan_typing (kinds_of_streams others) plan ≡ Ok kinds

program-stays : (streams others : List StreamState) → Grow streams others → StayBound streams others → StayTyped streams others → (program : Program) → IsProgram streams program → IsProgram others program
program-stays streams others grow bound typed program is = record {
  plan = is.plan;
  is_plan = record {
    tree = is.is_plan.tree;
    canonical = is.is_plan.canonical;
    bound = bound is.is_plan.tree is.plan is.is_plan.bound;
    kinds = is.is_plan.kinds;
    typed = typed is.plan is.is_plan.kinds is.is_plan.typed;
  };
  are_cuts = cuts-stay streams others grow (leaves is.plan) program.cuts is.are_cuts;
  short = is.short;
}

all-stay : (streams others : List StreamState) → Grow streams others → StayBound streams others → StayTyped streams others → (programs : List Program) → AllByRecursion (IsStored streams) programs → AllByRecursion (IsStored others) programs
all-stay streams others grow bound typed programs all =
    all-map (IsStored streams) (IsStored others) (λ program stored none. stored (λ is. none (program-stays streams others grow bound typed program is))) programs all

-- ---- a stream more

columns-added : (streams : List StreamState) (s : StreamState) → columns_of (streams ++ s ∷ []) ≡ columns_of streams ++ s.columns ∷ []
columns-added [] s = refl
columns-added (x ∷ xs) s = ap (λ (columns : List (List Column)). x.columns ∷ columns) (columns-added xs s)

names-added : (streams : List StreamState) (s : StreamState) → names_of (streams ++ s ∷ []) ≡ names_of streams ++ s.name ∷ []
names-added [] s = refl
names-added (x ∷ xs) s = ap (λ (names : List (List ℕ)). x.name ∷ names) (names-added xs s)

pub as-many : (streams : List StreamState) → length (names_of streams) ≡ length (columns_of streams)
as-many [] = refl
as-many (x ∷ xs) = ap suc (as-many xs)

pub stored-stream : (streams : List StreamState) (s : StreamState) (programs : List Program) → AllByRecursion (IsStored streams) programs → AllByRecursion (IsStored (streams ++ s ∷ [])) programs
stored-stream streams s programs all =
    all-stay streams (streams ++ s ∷ []) (extents-added streams s)
    (λ tree plan bound. (λ i. binding (names-added streams s i) (columns-added streams s i) tree) ∙ bound-still (names_of streams) (s.name ∷ []) (columns_of streams) (s.columns ∷ []) tree plan (as-many streams) bound)
    (λ plan kinds typed. ap (λ (ks : List Kinds). plan_typing ks plan) (kinds-added streams s) ∙ typed_still (kinds_of_streams streams) (kinds_of s.columns ∷ []) plan (subst IsOk (sym typed) refl) ∙ typed)
    programs all

-- ---- an extent more

names-grown : (streams : List StreamState) (place : ℕ) (extent : Extent) → names_of (updated (with_extent extent) streams place) ≡ names_of streams
names-grown [] place extent = refl
names-grown (x ∷ xs) zero extent = refl
names-grown (x ∷ xs) (suc n) extent = ap (λ (names : List (List ℕ)). x.name ∷ names) (names-grown xs n extent)

columns-grown : (streams : List StreamState) (place : ℕ) (extent : Extent) → columns_of (updated (with_extent extent) streams place) ≡ columns_of streams
columns-grown [] place extent = refl
columns-grown (x ∷ xs) zero extent = refl
columns-grown (x ∷ xs) (suc n) extent = ap (λ (columns : List (List Column)). x.columns ∷ columns) (columns-grown xs n extent)

pub stored-append : (streams : List StreamState) (place : ℕ) (extent : Extent) (programs : List Program) → AllByRecursion (IsStored streams) programs
    → AllByRecursion (IsStored (updated (with_extent extent) streams place)) programs
stored-append streams place extent programs all =
    all-stay streams (updated (with_extent extent) streams place) (extents-grown streams place extent)
    (λ tree plan bound. (λ i. binding (names-grown streams place extent i) (columns-grown streams place extent i) tree) ∙ bound)
    (λ plan kinds typed. ap (λ (ks : List Kinds). plan_typing ks plan) (kinds-grown streams place extent) ∙ typed)
    programs all

-- ---- a program more

pub all-filtered : (P : Program → Type 0) (test : Program → Bool) (programs : List Program) → AllByRecursion P programs → AllByRecursion P (filter test programs)
all-filtered P test [] all = tt
all-filtered P test (x ∷ xs) all = by (test x) all.0 (all-filtered P test xs all.1)
  where
    by : (b : Bool) → P x → AllByRecursion P (filter test xs) → AllByRecursion P (cond b (x ∷ filter test xs) (filter test xs))
    by true first rest = (first, rest)
    by false first rest = rest

all-behind : (P : Program → Type 0) (xs ys : List Program) → AllByRecursion P xs → AllByRecursion P ys → AllByRecursion P (xs ++ ys)
all-behind P [] ys first rest = rest
all-behind P (x ∷ xs) ys first rest = (first.0, all-behind P xs ys first.1 rest)

pub stored-more : (streams : List StreamState) (program : Program) (programs : List Program) → IsProgram streams program → AllByRecursion (IsStored streams) programs → AllByRecursion (IsStored streams) (with_program program programs)
stored-more streams program programs is all =
    all-behind (IsStored streams) (below program.name programs) (program ∷ above program.name programs)
    (all-filtered (IsStored streams) (λ other. is_below other.name program.name) programs all)
    ((λ none. none is), all-filtered (IsStored streams) (λ other. is_below program.name other.name) programs all)

-- ---- the program of a name

pub stored-named : (streams : List StreamState) (programs : List Program) (name : List ℕ) (program : Program) → program_named programs name ≡ Some program → AllByRecursion (IsStored streams) programs → IsStored streams program
stored-named streams [] name program found all = absurd (cc)
stored-named streams (x ∷ xs) name program found all = by (bytes_eq x.name name) (λ rest. stored-named streams xs name program rest all.1) found
  where
    same : (x y : Program) → ◌≡◌ {A = Option Program} (Some x) (Some y) → x ≡ y
    same x y e = cc

    by : (b : Bool) → (program_named xs name ≡ Some program → IsStored streams program) → cond b (Some x) (program_named xs name) ≡ Some program → IsStored streams program
    by true rest found = subst (IsStored streams) (same x program found) all.0
    by false rest found = rest found

-- ---- what can't be otherwise

pub le-stable : (m n : ℕ) → ¬ (¬ (m ≤ n)) → m ≤ n
le-stable m n twice = by (nat_le m n) refl
  where
    by : (b : Bool) → nat_le m n ≡ b → m ≤ n
    by true e = grind (arith, nat_tests)
    by false e = absurd (twice (λ most. grind (arith, nat_tests)))

pub cuts-stable : (streams : List StreamState) (leaves : List ℕ) (cuts : List Cut) → ¬ (¬ (AreCuts streams leaves cuts)) → AreCuts streams leaves cuts
cuts-stable streams [] [] twice = tt
cuts-stable streams [] (cut ∷ cuts) twice = absurd (twice (λ are. are))
cuts-stable streams (leaf ∷ others) [] twice = absurd (twice (λ are. are))
cuts-stable streams (leaf ∷ others) (cut ∷ cuts) twice = (
  (le-stable cut.from cut.to (λ none. twice (λ are. none are.0.0)), le-stable cut.to (length (extents_at streams leaf)) (λ none. twice (λ are. none are.0.1))),
  cuts-stable streams others cuts (λ none. twice (λ are. none are.1)),
)
