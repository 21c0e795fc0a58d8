-- Kinds of cells, and which cells a program holds.
use Rattle.std.specs.Prelude.{Bool, true, false, List, [], ◌∷◌, FitsSigned}
use Rattle.std.specs.Int.{w64}
use Rattle.rows_core.specs.Txt.{IsTxt}
use Rattle.scalar_ops.specs.declared.cell.Cell.{Cell}
use Rattle.scalar_ops.specs.declared.cell.Cell.TheVariants as cell
use Rattle.scalar_ops.specs.declared.cell.CellKind.{CellKind}
use Rattle.scalar_ops.specs.declared.cell.CellKind.TheVariants as kind

abbrev pub kind_of_cell : Cell → CellKind
kind_of_cell (cell.Int _) = kind.Int
kind_of_cell (cell.Text _) = kind.Text
kind_of_cell (cell.Bool _) = kind.Bool

abbrev pub same_cell_kind : CellKind → CellKind → Bool
same_cell_kind kind.Int kind.Int = true
same_cell_kind kind.Text kind.Text = true
same_cell_kind kind.Bool kind.Bool = true
same_cell_kind _ _ = false

-- a number in i64, a text of at most 1,000 bytes, or a truth value
abbrev pub IsCell : Cell → Type 0
IsCell (cell.Int z) = FitsSigned w64 z
IsCell (cell.Text t) = IsTxt t
IsCell (cell.Bool b) = Unit {0}

abbrev pub AreCells : List Cell → Type 0
AreCells [] = Unit {0}
AreCells (cell ∷ cells) = IsCell cell × AreCells cells
