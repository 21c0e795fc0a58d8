-- The numbers of the files of new results.
use Rattle.std.proofs.Common.{ℕ, ◌+◌, ◌≤◌, List, [], ◌∷◌, length, arith}
use Rattle.catalog_types.specs.PlainEntry.{PlainNewEntry}
use Rattle.entry_table.specs.Results.{HaveNextFiles}
use Rattle.rows_core.specs.Limits.{file_end}

pub files-fit : (id file : ℕ) (news : List PlainNewEntry) → id ≤ file → file ≤ file_end → HaveNextFiles file news → id + length news ≤ file_end
files-fit id file [] most last files = omega (arith, most, last)
files-fit id file (new ∷ news) most last files =
    let rest = files-fit (id + 1) (file + 1) news (omega (arith, most)) (omega (arith, files.1)) files.2 in
    omega (arith, rest)
