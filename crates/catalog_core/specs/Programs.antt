-- Programs: the plan that a program's text is, and the programs in the byte order of their names.
use Rattle.std.specs.Prelude.{◌≡◌, ℕ, ◌≤◌, Bool, List, [], ◌∷◌, ◌++◌, length, map, filter, slice_get, bytes_eq, Option, unwrap_or, Ok}
use Rattle.std.specs.List.{find}
use Rattle.std.specs.Option.{option_map}
use Rattle.std.specs.Ordering.{is_lt, nat_cmp}
use Rattle.std.specs.List.Sorted.{IsStrictlySortedBy}
use Rattle.std.specs.Cmp.Lexicographic.{slice_cmp}
use Rattle.rows_core.specs.declared.cut.Cut.{Cut}
use Rattle.rows_core.specs.declared.schema.Column.{Column}
use Rattle.rows_core.specs.Schema.{kinds_of}
use Rattle.plan_core.specs.PlainPlan.{PlainPlan, leaves}
use Rattle.plan_core.specs.PlanTyping.{Kinds, plan_typing}
use Rattle.plan_text.specs.PlainNamed.{PlainTree}
use Rattle.plan_text.specs.Counts.{IsWithinLimits}
use Rattle.plan_text.specs.Spelled.{SpellsText}
use Rattle.plan_text.specs.Canonical.{canonical_text}
use Rattle.plan_binder.specs.Binding.{binding}
use Rattle.catalog_types.specs.declared.extent.Extent.{Extent}
use Rattle.catalog_types.specs.declared.program.Program.{Program}
use Rattle.catalog_types.specs.declared.snapshot.StreamState.{StreamState}

-- ---- what a plan sees of the streams

abbrev pub names_of : List StreamState → List (List ℕ)
names_of streams = map (λ stream. stream.name) streams

abbrev pub columns_of : List StreamState → List (List Column)
columns_of streams = map (λ stream. stream.columns) streams

abbrev pub kinds_of_streams : List StreamState → List Kinds
kinds_of_streams streams = map (λ stream. kinds_of stream.columns) streams

-- the extents of the stream at this place
abbrev pub extents_at : List StreamState → ℕ → List Extent
extents_at streams place = unwrap_or (option_map (λ stream. stream.extents) (slice_get streams place)) []

-- ---- a program over these streams

-- the text spells this plan with names, within the limits, and is its canonical text
abbrev pub IsCanonical : PlainTree → List ℕ → Type 0
IsCanonical tree text = SpellsText tree text × IsWithinLimits tree × (text ≡ canonical_text tree)

-- The text is the canonical text of a plan with names, which stand for streams and columns, and the plan has a typing.
pub record IsPlanOf (streams : List StreamState) (text : List ℕ) (plan : PlainPlan) : Type 0 where
  pub tree : PlainTree
  pub canonical : IsCanonical tree text
  pub bound : binding (names_of streams) (columns_of streams) tree ≡ Ok plan
  pub kinds : Kinds
  pub typed : plan_typing (kinds_of_streams streams) plan ≡ Ok kinds

-- an interval that ends at or before the end of this stream
abbrev pub IsCut : List StreamState → ℕ → Cut → Type 0
IsCut streams leaf cut = (cut.from ≤ cut.to) × (cut.to ≤ length (extents_at streams leaf))

-- one interval for each leaf, from the left
abbrev pub AreCuts : List StreamState → List ℕ → List Cut → Type 0
AreCuts streams [] [] = Unit {0}
AreCuts streams (leaf ∷ leaves) (cut ∷ cuts) = IsCut streams leaf cut × AreCuts streams leaves cuts
AreCuts streams _ _ = ⊥

-- the most bytes of a program's text
abbrev pub most_text_bytes : ℕ
most_text_bytes = 65536

pub record IsProgram (streams : List StreamState) (program : Program) : Type 0 where
  pub plan : PlainPlan
  pub is_plan : IsPlanOf streams program.text plan
  pub are_cuts : AreCuts streams (leaves plan) program.cuts
  pub short : length program.text ≤ most_text_bytes

-- It can't be that the program isn't one over the streams. What is denied twice has one proof, so that it may stand in a field.
abbrev pub IsStored : List StreamState → Program → Type 0
IsStored streams program = ¬ (¬ (IsProgram streams program))

-- ---- the programs by name

-- the first program of this name
abbrev pub program_named : List Program → List ℕ → Option Program
program_named programs name = find (λ program. bytes_eq program.name name) programs

-- in the byte order
abbrev pub is_below : List ℕ → List ℕ → Bool
is_below a b = is_lt (slice_cmp nat_cmp a b)

-- the programs whose names are below this one, and those whose names are above it
abbrev pub below : List ℕ → List Program → List Program
below name programs = filter (λ program. is_below program.name name) programs

abbrev pub above : List ℕ → List Program → List Program
above name programs = filter (λ program. is_below name program.name) programs

-- the program in its place among the others, and in place of the one that has its name
abbrev pub with_program : Program → List Program → List Program
with_program program programs = below program.name programs ++ program ∷ above program.name programs

-- in the byte order of their names, which differ
abbrev pub AreByName : List Program → Type 0
AreByName programs = IsStrictlySortedBy (slice_cmp nat_cmp) (map (λ program. program.name) programs)
