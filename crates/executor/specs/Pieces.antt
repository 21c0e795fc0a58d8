-- The pieces of a rewriting: those of the code as the laws of growth see them, and what is known of each.
use Rattle.std.specs.Prelude.{List, map, IsOk}
use Rattle.plan_core.specs.PlainPlan.{PlainPlan, plan_of}
use Rattle.plan_core.specs.PlanTyping.{Kinds, plan_typing}
use Rattle.growth_laws.specs.Chains.{IsOneStream}
use Rattle.growth_laws.specs.Pieces.{Piece, Entry, Gathered}
use Rattle.executor.specs.declared.piece.Piece as code
use Rattle.executor.specs.declared.piece.Piece.TheVariants as variant

abbrev pub piece_of : code.Piece → Piece
piece_of (variant.Entry plan id) = Entry (plan_of plan.value) id
piece_of (variant.Gathered plan cuts) = Gathered (plan_of plan.value) cuts

abbrev pub pieces_said : List code.Piece → List Piece
pieces_said = map piece_of

-- the plan has a typing over streams of these kinds
abbrev pub HasTyping : List Kinds → PlainPlan → Type 0
HasTyping schemas plan = IsOk (plan_typing schemas plan)

-- the piece's plan has a typing, and is of one stream where it is gathered
abbrev pub IsPiece : List Kinds → Piece → Type 0
IsPiece schemas (Entry plan id) = HasTyping schemas plan
IsPiece schemas (Gathered plan cuts) = HasTyping schemas plan × IsOneStream plan
