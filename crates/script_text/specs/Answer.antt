-- The text of an answer.
use Rattle.std.specs.Prelude.{ℕ, ◌≤◌, length, All, Bool, if◌then◌else◌, List, [], ◌∷◌, ◌++◌, codes, decimal, flat_map, map, ⊤}
use Rattle.rows_core.specs.declared.value.Value.{Value}
use Rattle.hex.specs.Hex.{encode_lower}
use Rattle.rows_core.specs.declared.file_ref.Digest.{Digest}
use Rattle.row_text.specs.RowSpelling.{row_spelling}
use Rattle.script_text.specs.declared.answer.LimitKind.{LimitKind}
use Rattle.script_text.specs.declared.answer.LimitKind.TheVariants.{Line, Block, Nodes, Wide, Expr, Text, Extent, Columns, Streams, Extents, AllExtents, PlanText, Programs, Jobs, Files, Commands, Machine}
use Rattle.script_text.specs.declared.answer.Refusal.{Refusal}
use Rattle.script_text.specs.declared.answer.Refusal.TheVariants.{Limit, Syntax, Unknown, Exists, IllTyped, Row, Fault, Damaged, Unreadable, Overflow, Memory}
use Rattle.script_text.specs.declared.answer.EntrySummary.{EntrySummary}
use Rattle.script_text.specs.declared.answer.Answer.{Answer}
use Rattle.script_text.specs.declared.answer.Answer.TheVariants.{Ok, Held, Ready, Left, Result, Evicted, Entries, Catalog, Refused}

-- what is counted, and the most that there may be
abbrev pub limit_text : LimitKind → List ℕ
limit_text Line = codes "line 65536"
limit_text Block = codes "block 67108864"
limit_text Nodes = codes "nodes 40"
limit_text Wide = codes "wide 8"
limit_text Expr = codes "expr 512"
limit_text Text = codes "text 1000"
limit_text Extent = codes "extent 16777216"
limit_text Columns = codes "columns 32"
limit_text Streams = codes "streams 1024"
limit_text Extents = codes "extents 65535"
limit_text AllExtents = codes "allextents 262144"
limit_text PlanText = codes "plantext 65536"
limit_text Programs = codes "programs 1024"
limit_text Jobs = codes "jobs 64"
limit_text Files = codes "files 4294967295"
limit_text Commands = codes "commands 4294967295"
limit_text Machine = codes "machine 4294967295"

-- two digests, with one space between them, each in 64 hexadecimal digits
abbrev pub digests_text : Digest → Digest → List ℕ
digests_text kept found = encode_lower kept.bytes ++ 32 ∷ encode_lower found.bytes

abbrev pub refusal_line : Refusal → List ℕ
refusal_line (Limit kind) = codes "refused limit " ++ limit_text kind
refusal_line Syntax = codes "refused syntax"
refusal_line (Unknown name) = codes "refused unknown " ++ name
refusal_line (Exists name) = codes "refused exists " ++ name
refusal_line IllTyped = codes "refused type"
refusal_line (Row number) = codes "refused row " ++ decimal number
refusal_line Fault = codes "refused fault"
refusal_line (Damaged file kept found) = codes "refused damaged " ++ decimal file ++ 32 ∷ digests_text kept found
refusal_line (Unreadable file at) = codes "refused unreadable " ++ decimal file ++ 32 ∷ decimal at
refusal_line Overflow = codes "refused overflow"
refusal_line Memory = codes "refused memory"

-- numbers, with one space between two, or `none`
abbrev pub ids_text : List ℕ → List ℕ
ids_text [] = codes "none"
ids_text (id ∷ ids) = decimal id ++ flat_map (λ next. 32 ∷ decimal next) ids

-- the lines of rows; a quiet text leaves them out
abbrev pub row_lines : Bool → List (List Value) → List (List ℕ)
row_lines quiet rows = if quiet then [] else map row_spelling rows

-- the lines behind those of the rows
abbrev pub last_lines : List ℕ → List ℕ → ℕ → List (List ℕ)
last_lines used kept read = (codes "used " ++ ids_text used) ∷ (codes "kept " ++ ids_text kept) ∷ (codes "read " ++ decimal read) ∷ []

-- which kept results went, and the bytes that their files had
abbrev pub evicted_lines : List ℕ → ℕ → List (List ℕ)
evicted_lines ids bytes = (codes "evicted " ++ ids_text ids) ∷ (codes "reclaimed " ++ decimal bytes) ∷ []

-- ` WORD N`
abbrev pub told : List ℕ → ℕ → List ℕ
told word number = 32 ∷ (word ++ 32 ∷ decimal number)

-- what is told of a kept result
abbrev pub entry_line : EntrySummary → List ℕ
entry_line entry =
    decimal entry.id ++ (told (codes "size") entry.size ++ (told (codes "machine") entry.machine
    ++ (told (codes "uses") entry.uses ++ (told (codes "last") entry.last ++ told (codes "made") entry.made))))

-- how many kept results there are, and a line for each
abbrev pub entry_lines : List EntrySummary → List (List ℕ)
entry_lines entries = (codes "entries " ++ decimal (length entries)) ∷ map entry_line entries

-- the lines of the answer's text, without their LF; a quiet one leaves the row lines out
abbrev pub answer_lines : Bool → Answer → List (List ℕ)
answer_lines quiet Ok = codes "ok" ∷ []
answer_lines quiet (Held rows) = (codes "ok " ++ decimal rows) ∷ []
answer_lines quiet (Ready files) = (codes "ok " ++ decimal files) ∷ []
answer_lines quiet (Left files) = (codes "left " ++ decimal files) ∷ []
answer_lines quiet (Result rows used kept read) = (codes "rows " ++ decimal (length rows)) ∷ (row_lines quiet rows ++ last_lines used kept read)
answer_lines quiet (Evicted ids bytes) = evicted_lines ids bytes
answer_lines quiet (Entries entries) = entry_lines entries
answer_lines quiet (Catalog line) = line ∷ []
answer_lines quiet (Refused refusal) = refusal_line refusal ∷ []

-- a line with its LF
abbrev pub printed_line : List ℕ → List ℕ
printed_line line = line ++ 10 ∷ []

-- the most bytes of a line of an answer, with its LF
abbrev pub longest_printed_line : ℕ
longest_printed_line = 65536

abbrev pub IsShort : List ℕ → Type 0
IsShort line = length (printed_line line) ≤ longest_printed_line

-- each row of a result has at most 32 values, and an answer names at most 4,096 results that were used, kept or evicted
abbrev pub IsNarrow : Answer → Type 0
IsNarrow (Result rows used kept read) = All (λ row. length row ≤ 32) rows × (length used ≤ 4096) × (length kept ≤ 4096)
IsNarrow (Evicted ids bytes) = length ids ≤ 4096
IsNarrow _ = ⊤

-- each answer but the catalogue, which is one line, however much it tells
abbrev pub HasShortLines : Answer → Type 0
HasShortLines (Catalog line) = ⊥
HasShortLines _ = ⊤

-- the text of an answer; a quiet one leaves the row lines out
abbrev pub answer_text : Bool → Answer → List ℕ
answer_text quiet answer = flat_map printed_line (answer_lines quiet answer)
