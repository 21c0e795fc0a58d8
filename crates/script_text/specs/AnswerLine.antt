-- A line of an answer's text, by what it tells.
use Rattle.std.specs.Prelude.{ℕ, ◌≤◌, length, List, ◌++◌, codes, decimal, ⊤}
use Rattle.row_text.specs.RowSpelling.{row_spelling}
use Rattle.script_text.specs.Answer.{refusal_line, ids_text, entry_line}
use Rattle.script_text.specs.declared.line_of_answer.AnswerLine.{AnswerLine}
use Rattle.script_text.specs.declared.line_of_answer.AnswerLine.TheVariants.{Ok, Held, Ready, Left, Count, Row, Used, Kept, Read, Evicted, Reclaimed, Entries, Entry, Catalog, Refused}

-- the line, without its LF
abbrev pub line_text : AnswerLine → List ℕ
line_text Ok = codes "ok"
line_text (Held rows) = codes "ok " ++ decimal rows
line_text (Ready files) = codes "ok " ++ decimal files
line_text (Left files) = codes "left " ++ decimal files
line_text (Count rows) = codes "rows " ++ decimal rows
line_text (Row row) = row_spelling row.now
line_text (Used ids) = codes "used " ++ ids_text ids.now
line_text (Kept ids) = codes "kept " ++ ids_text ids.now
line_text (Read bytes) = codes "read " ++ decimal bytes
line_text (Evicted ids) = codes "evicted " ++ ids_text ids.now
line_text (Reclaimed bytes) = codes "reclaimed " ++ decimal bytes
line_text (Entries entries) = codes "entries " ++ decimal entries
line_text (Entry entry) = entry_line entry.now
line_text (Catalog line) = line.now
line_text (Refused refusal) = refusal_line refusal.now

-- a line of a narrow answer, and of no catalogue
abbrev pub IsNarrowLine : AnswerLine → Type 0
IsNarrowLine (Row row) = length row.now ≤ 32
IsNarrowLine (Used ids) = length ids.now ≤ 4096
IsNarrowLine (Kept ids) = length ids.now ≤ 4096
IsNarrowLine (Evicted ids) = length ids.now ≤ 4096
IsNarrowLine (Catalog line) = ⊥
IsNarrowLine _ = ⊤
