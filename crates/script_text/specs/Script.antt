-- What a script spells: its commands, as functions of whole texts that go line by line.
use Rattle.std.specs.Prelude.{◌≡◌, ℕ, ◌+◌, ◌<◌, Bool, ◌&&◌, ◌||◌, ◌==◌, nat_le, if◌then◌else◌, List, [], ◌∷◌, ◌++◌, length, sum_by, Option, Some, None, Ok, Err, option_to_list, codes, bytes_eq, ◌⊎◌, ⊤}
use Rattle.std.specs.List.{slice_split, list_all}
use Rattle.plan_text.specs.Counts.{IsWithinLimits}
use Rattle.script_text.specs.Words.{is_skipped, begins_block, head_name}
use Rattle.script_text.specs.Dispatch.{line_command}
use Rattle.script_text.specs.Spelled.{Spelled, or_syntax}
use Rattle.script_text.specs.declared.answer.LimitKind.{LimitKind}
use Rattle.script_text.specs.declared.answer.LimitKind.TheVariants as limit
use Rattle.script_text.specs.declared.answer.Refusal.{Refusal}
use Rattle.script_text.specs.declared.answer.Refusal.TheVariants.{Limit, Syntax, Memory}
use Rattle.script_text.specs.declared.item.Command.{Command}
use Rattle.script_text.specs.declared.item.Command.TheVariants.{Stream, Append, Run, Fetch, Collect, Entries, Catalog, OpenJob, Step, Close, DropJob}
use Rattle.script_text.specs.declared.item.Item.{Item}
use Rattle.script_text.specs.declared.item.Item.TheVariants as item

-- the most bytes of a line, without its LF, and of the row lines of a block, with their LFs
abbrev pub longest_line : ℕ
longest_line = 65536

abbrev pub largest_block : ℕ
largest_block = 67108864

abbrev pub fits_line : List ℕ → Bool
fits_line line = nat_le (length line) longest_line

-- a block that isn't ended: its head line, and its row lines so far
pub record Block : Type 0 where
  pub head : List ℕ
  pub rows : List (List ℕ)

-- the bytes of row lines, with their LFs
abbrev pub block_len : List (List ℕ) → ℕ
block_len rows = sum_by (λ row. length row + 1) rows

-- each line fits
abbrev pub fit_lines : Block → Bool
fit_lines block = fits_line block.head && list_all fits_line block.rows

abbrev pub fits_block : Block → Bool
fits_block block = nat_le (block_len block.rows) largest_block

-- the limit that a line passes, if it does
abbrev pub line_limit : List ℕ → Option LimitKind
line_limit line = if fits_line line then None else Some limit.Line

-- the limit that a block passes: that on lines comes before that on blocks
abbrev pub block_limit : Block → Option LimitKind
block_limit block = if fit_lines block then (if fits_block block then None else Some limit.Block) else Some limit.Line

-- what a text spells: a limit comes before its grammar
abbrev pub spelled_item : Option LimitKind → Spelled → Item
spelled_item (Some kind) spelled = item.Refused (Limit kind)
spelled_item None (Ok command) = item.Command command
spelled_item None (Err why) = item.Refused why

-- an append of these row lines to the stream of this name; there is one row line or more
abbrev pub append_with : Option (List ℕ) → List (List ℕ) → Option Command
append_with (Some name) (row ∷ rows) = Some (Append name (row ∷ rows))
append_with (Some name) [] = None
append_with None rows = None

-- what a block spells that is ended
abbrev pub block_item : Block → Item
block_item block = spelled_item (block_limit block) (or_syntax (append_with (head_name block.head) block.rows))

-- what a line spells that is neither passed over nor of a block
abbrev pub command_item : List ℕ → Item
command_item line = spelled_item (line_limit line) (line_command line)

abbrev pub is_end : List ℕ → Bool
is_end line = bytes_eq line (codes "end")

-- the item that this line ends, after the lines before it left this block open, or none
abbrev pub line_item : Option Block → List ℕ → Option Item
line_item None line = if is_skipped line || begins_block line then None else Some (command_item line)
line_item (Some block) line = if is_end line then Some (block_item block) else None

-- the block that is open after this line
abbrev pub line_block : Option Block → List ℕ → Option Block
line_block None line = if begins_block line then Some (record { head = line; rows = [] }) else None
line_block (Some block) line = if is_end line then None else Some (record { head = block.head; rows = block.rows ++ line ∷ [] })

-- what a block spells that the script doesn't end
abbrev pub unended_item : Option Block → Option Item
unended_item None = None
unended_item (Some block) = Some (spelled_item (block_limit block) (Err Syntax))

-- the last line, which lacks its LF and is no line where it is empty
abbrev pub last_items : Option Block → List ℕ → List Item
last_items block [] = option_to_list (unended_item block)
last_items block (c ∷ cs) = option_to_list (line_item block (c ∷ cs)) ++ option_to_list (unended_item (line_block block (c ∷ cs)))

-- the items of the parts between LFs: of each line that is ended, and `last` of the part behind the last LF
abbrev pub items_of_lines : (Option Block → List ℕ → List Item) → Option Block → List (List ℕ) → List Item
items_of_lines last block [] = []
items_of_lines last block (rest ∷ []) = last block rest
items_of_lines last block (line ∷ next ∷ more) = option_to_list (line_item block line) ++ items_of_lines last (line_block block line) (next ∷ more)

abbrev pub is_newline : ℕ → Bool
is_newline c = c == 10

-- the commands that bytes spell behind an open block
unfoldable pub items_by : (Option Block → List ℕ → List Item) → Option Block → List ℕ → List Item
items_by last block bytes = items_of_lines last block (slice_split is_newline bytes)

-- a line that isn't ended spells nothing yet
abbrev pub no_items : Option Block → List ℕ → List Item
no_items block rest = []

-- the commands of these bytes, where more may come behind them
abbrev pub items_from : Option Block → List ℕ → List Item
items_from block bytes = items_by no_items block bytes

-- the same, where these bytes are the rest of the script
abbrev pub all_items_from : Option Block → List ℕ → List Item
all_items_from block bytes = items_by last_items block bytes

-- the commands that the front of a script spells, and those that the whole script spells
abbrev pub items : List ℕ → List Item
items bytes = items_from None bytes

abbrev pub all_items : List ℕ → List Item
all_items bytes = all_items_from None bytes

-- what the reader gives for what the bytes spell: for want of memory the refusal in its place
abbrev pub Given : Item → Item → Type 0
Given spelled given = (given ≡ spelled) ⊎ (given ≡ item.Refused Memory)

-- the text is a command with what is passed over before it, and the reader gives it as this item
pub record Completes (text : List ℕ) (given : Item) : Type 0 where
  pub spelled : Item
  pub is_given : Given spelled given
  pub goes_on : (more : List ℕ) → items (text ++ more) ≡ spelled ∷ items more
  pub ends : (more : List ℕ) → all_items (text ++ more) ≡ spelled ∷ all_items more

-- a stream has one column or more, an append one row line or more, and the plan of a run or a job passes no limit of plans as
-- written
abbrev pub IsWhole : Command → Type 0
IsWhole (Stream name columns) = 0 < length columns
IsWhole (Append name lines) = 0 < length lines
IsWhole (Run name plan) = IsWithinLimits plan
IsWhole (Fetch name as_run) = ⊤
IsWhole (Collect bytes) = ⊤
IsWhole Entries = ⊤
IsWhole Catalog = ⊤
IsWhole (OpenJob job name plan) = IsWithinLimits plan
IsWhole (Step job) = ⊤
IsWhole (Close job) = ⊤
IsWhole (DropJob job) = ⊤

abbrev pub IsWholeItem : Item → Type 0
IsWholeItem (item.Command command) = IsWhole command
IsWholeItem (item.Refused refusal) = ⊤

-- the bytes alone are the cause: a limit, or that they spell no command
abbrev pub IsForBytes : Refusal → Type 0
IsForBytes (Limit kind) = ⊤
IsForBytes Syntax = ⊤
IsForBytes _ = ⊥

abbrev pub IsRefusedForBytes : Item → Type 0
IsRefusedForBytes (item.Command command) = ⊤
IsRefusedForBytes (item.Refused refusal) = IsForBytes refusal
