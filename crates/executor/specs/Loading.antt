-- What loaded pieces hold, and what a reader has made sure of.
use Rattle.std.specs.Prelude.{◌≡◌, ◌<◌, ◌≤◌, ◌⊎◌, List, [], ◌∷◌, Result, Ok, Err}
use Rattle.rows_core.specs.declared.overflow.Overflow.{Overflow}
use Rattle.scalar_ops.specs.Meaning.{overflow}
use Rattle.plan_core.specs.PlainPlan.{PlainPlan}
use Rattle.plan_core.specs.PlanTyping.{Kinds}
use Rattle.growth_laws.specs.Growth as laws
use Rattle.growth_laws.specs.KeptResults.{KeptResults}
use Rattle.growth_laws.specs.Lists.{Extents}
use Rattle.growth_laws.specs.Pieces.{Piece, Entry, Gathered, made_of_piece}
use Rattle.result_ops.specs.declared.made.Made.{Made}
use Rattle.result_ops.specs.declared.refusal.MakeRefusal.{MakeRefusal}
use Rattle.result_ops.specs.declared.refusal.MakeRefusal.TheVariants as refusal
use Rattle.result_ops.specs.Bounds.{limit, IsBounded}
use Rattle.result_ops.specs.Fitting.{IsFit, StandsInOrder}
use Rattle.result_ops.specs.Steps.{made_of}
use Rattle.result_ops.specs.declared.stop.Stop.{Stop}
use Rattle.result_ops.specs.declared.stop.Stop.TheVariants as stop

abbrev pub Loads : Type 0
Loads = List (Result Made Stop)

-- the plan of what is made of a piece
abbrev pub piece_plan : Piece → PlainPlan
piece_plan (Entry plan id) = plan
piece_plan (Gathered plan cuts) = plan

-- what the definitions give has a machine time above the limit, or lies outside of the bounds
abbrev pub IsAbove : PlainPlan → Result laws.Made Overflow → Type 0
IsAbove plan given = (made : laws.Made) × (given ≡ Ok made) × ((limit ≤ made.taken_in) ⊎ (IsBounded plan made.kept → ⊥))

-- a loaded piece is what the definitions give of it
abbrev pub Holds : PlainPlan → Result laws.Made Overflow → Result Made Stop → Type 0
Holds plan given (Ok made) = given ≡ Ok (made_of made)
Holds plan given (Err stop.Overflow) = given ≡ Err overflow
Holds plan given (Err stop.Machine) = IsAbove plan given

abbrev pub HoldsPiece : Extents → KeptResults → Piece → Result Made Stop → Type 0
HoldsPiece extents results piece loaded = Holds (piece_plan piece) (made_of_piece extents results piece) loaded

-- so many loaded pieces as pieces, each of them so
abbrev pub HoldAll : Extents → KeptResults → List Piece → Loads → Type 0
HoldAll extents results [] [] = Unit {0}
HoldAll extents results (piece ∷ pieces) (loaded ∷ loads) = HoldsPiece extents results piece loaded × HoldAll extents results pieces loads
HoldAll extents results _ _ = ⊥

-- a loaded piece is fit for the piece's plan, and stands in order
abbrev pub IsFitLoad : List Kinds → PlainPlan → Result Made Stop → Type 0
IsFitLoad schemas plan (Ok made) = IsFit schemas plan made.kept × StandsInOrder made.kept
IsFitLoad schemas plan (Err e) = Unit {0}

abbrev pub AreFit : List Kinds → List Piece → Loads → Type 0
AreFit schemas [] [] = Unit {0}
AreFit schemas (piece ∷ pieces) (loaded ∷ loads) = IsFitLoad schemas (piece_plan piece) loaded × AreFit schemas pieces loads
AreFit schemas _ _ = ⊥

-- what taking a piece answers
abbrev pub Took : PlainPlan → Result laws.Made Overflow → Result Made MakeRefusal → Type 0
Took plan given (Ok made) = (given ≡ Ok (made_of made)) × (made.taken_in < limit)
Took plan given (Err refusal.Overflow) = given ≡ Err overflow
Took plan given (Err refusal.Machine) = IsAbove plan given
Took plan given (Err refusal.Memory) = ⊥
