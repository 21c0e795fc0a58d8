-- What a part of which no file is left holds for what is made of the pieces.
use Rattle.std.specs.Prelude.{◌≡◌, [], ◌∷◌, Some, None, Ok, Err, Result as Outcome}
use Rattle.rows_core.specs.declared.cut.Cut.{Cut}
use Rattle.growth_laws.specs.Growth as laws
use Rattle.growth_laws.specs.Pieces.{Piece, Entry, Gathered}
use Rattle.result_ops.specs.declared.made.Made.{Made}
use Rattle.result_ops.specs.declared.stop.Stop.{Stop}
use Rattle.result_ops.specs.declared.stop.Stop.TheVariants as stop
use Rattle.executor.specs.declared.part.Part.{Part}
use Rattle.executor.specs.declared.part.Part.TheVariants as part

-- what was made of the rows that came
abbrev pub load_of_rows : Outcome laws.Made Stop → Outcome Made Stop
load_of_rows (Ok made) = Ok (record { kept = made.kept; taken_in = made.taken_in })
load_of_rows (Err s) = Err s

-- what is loaded of a part; of one that isn't read, nothing that may be worked on
abbrev pub load_of_part : Part → Outcome Made Stop
load_of_part (part.Entry plan id (Some loaded)) = loaded
load_of_part (part.Entry plan id None) = Err stop.Machine
load_of_part (part.Gathered gathering stream next end) = load_of_rows gathering.came

-- a gathered piece has one interval
abbrev pub HasOneCut : Piece → Type 0
HasOneCut (Entry plan id) = Unit {0}
HasOneCut (Gathered plan cuts) = (cut : Cut) × (cuts ≡ cut ∷ [])
