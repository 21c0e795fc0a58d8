-- Each command that a script spells has a column, a row line, or a plan within the limits, and each refusal is for its bytes
-- alone.
use Rattle.std.proofs.Common.{◌≡◌, ℕ, ◌<◌, true, false, cond, ◌||◌, List, [], ◌∷◌, ◌++◌, length, Option, Some, None, Ok, Err, option_to_list, option_and_then, refl, sym, subst, arith}
use Rattle.std.specs.List.{before_first, after_first, slice_split, AllByRecursion}
use Rattle.std.specs.Prelude.{⊤}
use Rattle.std.proofs.lemmas.List.Splits.{length-slice_split}
use Rattle.rows_core.specs.declared.schema.Column.{Column}
use Rattle.script_text.specs.Words.{is_space, is_skipped, is_blank, name_if, only_name, begins_block, trimmed, behind_word, head_name}
use Rattle.script_text.specs.StreamLine.{is_mark, Parts, parts_at, column_of, columns_with, columns_of_parts, columns_of, columns_before, closed_columns, stream_with, stream_of_parts, stream_of}
use Rattle.script_text.specs.Dispatch.{behind_or, command_of, line_command}
use Rattle.script_text.specs.JobLine.{open_with}
use Rattle.script_text.specs.RunLine.{SpelledRun, run_with, run_of_text, run_named, run_of_parts, named_run, run_command}
use Rattle.script_text.specs.Spelled.{Spelled, or_syntax, then_spelled, spelled_by}
use Rattle.plan_text.specs.Counts.{IsWithinLimits}
use Rattle.plan_text.specs.Answer.{TextReading, AsPlan, AsTooLarge, AsNone, text_reading}
use Rattle.plan_text.proofs.Texts.{reading_plan}
use Rattle.script_text.specs.Script.{Block, block_limit, line_limit, spelled_item, append_with, command_item, is_end, line_item, line_block, unended_item, no_items, last_items, items_of_lines, is_newline, items_by, items, all_items, IsWhole, IsWholeItem, IsForBytes, IsRefusedForBytes}
use Rattle.script_text.specs.declared.answer.LimitKind.{LimitKind}
use Rattle.script_text.specs.declared.answer.Refusal.TheVariants.{Syntax}
use Rattle.script_text.specs.declared.item.Command.{Command}
use Rattle.script_text.specs.declared.item.Command.TheVariants.{Stream, Append, Run, Fetch, Collect, Entries, Catalog, OpenJob, Step, Close, DropJob}
use Rattle.script_text.specs.declared.item.Item.{Item}
use Rattle.script_text.proofs.CommandKinds.{Kind, OfStream, OfAppend, OfRun, OfFetch, OfCollect, OfEntries, OfCatalog, OfOpen, OfStep, OfClose, OfDrop, kind_of, word_of, command_by, by_kinds, line_kinds, IsSyntax, IsForBytes-syntax, Only, command_by-only}

-- columns, where there are any, are one or more
abbrev HasColumns : Option (List Column) → Type 0
HasColumns None = ⊤
HasColumns (Some columns) = 0 < length columns

HasColumns-with : (column : Option Column) (columns : Option (List Column)) → HasColumns (columns_with column columns)
HasColumns-with (Some column) (Some columns) = omega arith
HasColumns-with (Some column) None = tt
HasColumns-with None columns = tt

HasColumns-of : (text : List ℕ) → HasColumns (columns_of text)
unfolding columns_of
HasColumns-of text = by (slice_split (is_mark 44) text) (omega (arith, length-slice_split (is_mark 44) text))
  where
    by : (parts : List (List ℕ)) → 0 < length parts → HasColumns (columns_of_parts parts)
    by [] some = absurd (omega (arith, some))
    by (part ∷ parts) some = HasColumns-with (column_of part) (columns_of_parts parts)

HasColumns-closed : (parts : Option Parts) → HasColumns (option_and_then columns_before parts)
HasColumns-closed None = tt
HasColumns-closed (Some parts) = elim (is_blank parts.behind) as (λ b. HasColumns (cond b (columns_of parts.before) None)) [ true ↦ HasColumns-of parts.before | false ↦ tt ]

-- a command, where there is one, is whole
abbrev IsWholeIfAny : Option Command → Type 0
IsWholeIfAny None = ⊤
IsWholeIfAny (Some command) = IsWhole command

IsWhole-stream_with : (name : Option (List ℕ)) (columns : Option (List Column)) → HasColumns columns → IsWholeIfAny (stream_with name columns)
IsWhole-stream_with (Some name) (Some columns) some = some
IsWhole-stream_with (Some name) None some = tt
IsWhole-stream_with None columns some = tt

IsWhole-stream : (parts : Option Parts) → IsWholeIfAny (option_and_then stream_of_parts parts)
IsWhole-stream None = tt
IsWhole-stream (Some parts) = IsWhole-stream_with (only_name parts.before) (closed_columns parts.behind) (HasColumns-closed (parts_at 41 parts.behind))

IsWhole-line : (rest : Option (List ℕ)) → IsWholeIfAny (option_and_then stream_of rest)
IsWhole-line None = tt
IsWhole-line (Some rest) = IsWhole-stream (parts_at 40 rest)

IsWhole-append : (name : Option (List ℕ)) (rows : List (List ℕ)) → IsWholeIfAny (append_with name rows)
IsWhole-append (Some name) (row ∷ rows) = omega arith
IsWhole-append (Some name) [] = tt
IsWhole-append None rows = tt

-- what a text spells: a whole command, or a refusal for the bytes
abbrev IsSpelled : Spelled → Type 0
IsSpelled (Ok command) = IsWhole command
IsSpelled (Err why) = IsForBytes why

IsSpelled-or_syntax : (command : Option Command) → IsWholeIfAny command → IsSpelled (or_syntax command)
IsSpelled-or_syntax (Some command) whole = whole
IsSpelled-or_syntax None whole = tt

-- what a text is read as is within the limits
abbrev IsWithin : TextReading → Type 0
IsWithin (AsPlan plan) = IsWithinLimits plan
IsWithin (AsTooLarge what) = ⊤
IsWithin AsNone = ⊤

IsWithin-text : (text : List ℕ) (reading : TextReading) → text_reading text ≡ reading → IsWithin reading
IsWithin-text text (AsPlan plan) is = (reading_plan text plan is).1
IsWithin-text text (AsTooLarge what) is = tt
IsWithin-text text AsNone is = tt

-- a plan with its name is within the limits, or refused for the bytes
abbrev IsRunWithin : SpelledRun → Type 0
IsRunWithin (Ok run) = IsWithinLimits run.plan
IsRunWithin (Err why) = IsForBytes why

IsRunWithin-run_with : (name : List ℕ) (reading : TextReading) → IsWithin reading → IsRunWithin (run_with name reading)
IsRunWithin-run_with name (AsPlan plan) within = within
IsRunWithin-run_with name (AsTooLarge what) within = tt
IsRunWithin-run_with name AsNone within = tt

IsRunWithin-run_of_text : (name text : List ℕ) → IsRunWithin (run_of_text name text)
unfolding run_of_text
IsRunWithin-run_of_text name text = IsRunWithin-run_with name (text_reading text) (IsWithin-text text (text_reading text) refl)

IsRunWithin-named : (name : Option (List ℕ)) (text : List ℕ) → IsRunWithin (run_named name text)
IsRunWithin-named (Some name) text = IsRunWithin-run_of_text name text
IsRunWithin-named None text = tt

IsRunWithin-parts : (parts : Option Parts) → IsRunWithin (run_of_parts parts)
IsRunWithin-parts (Some parts) = IsRunWithin-named (only_name parts.before) parts.behind
IsRunWithin-parts None = tt

IsSpelled-run : (run : SpelledRun) → IsRunWithin run → IsSpelled (spelled_by run_command run)
IsSpelled-run (Ok run) within = within
IsSpelled-run (Err why) within = within

IsSpelled-open_with : (job : List ℕ) (run : SpelledRun) → IsRunWithin run → IsSpelled (open_with run job)
IsSpelled-open_with job (Ok run) within = within
IsSpelled-open_with job (Err why) within = within

IsSpelled-open : (job : Option (List ℕ)) (run : SpelledRun) → IsRunWithin run → IsSpelled (then_spelled (or_syntax job) (open_with run))
IsSpelled-open (Some job) run within = IsSpelled-open_with job run within
IsSpelled-open None run within = tt

IsSpelled-behind : (rest : Option (List ℕ)) (command : List ℕ → Spelled) (other : Spelled) → ((text : List ℕ) → IsSpelled (command text)) → IsSpelled other → IsSpelled (behind_or rest command other)
IsSpelled-behind (Some rest) command other is others = is rest
IsSpelled-behind None command other is others = others

-- the commands of which nothing is to be shown
abbrev IsPlain : Kind → Type 0
IsPlain OfStream = ⊥
IsPlain OfAppend = ⊥
IsPlain OfRun = ⊥
IsPlain OfOpen = ⊥
IsPlain _ = ⊤

IsWhole-plain : (command : Command) → IsPlain (kind_of command) → IsWhole command
IsWhole-plain (Stream name columns) plain = absurd plain
IsWhole-plain (Append name lines) plain = absurd plain
IsWhole-plain (Run name plan) plain = absurd plain
IsWhole-plain (Fetch name as_run) plain = tt
IsWhole-plain (Collect bytes) plain = tt
IsWhole-plain Entries plain = tt
IsWhole-plain Catalog plain = tt
IsWhole-plain (OpenJob job name plan) plain = absurd plain
IsWhole-plain (Step job) plain = tt
IsWhole-plain (Close job) plain = tt
IsWhole-plain (DropJob job) plain = tt

IsSpelled-plain : (kind : Kind) → IsPlain kind → (spelled : Spelled) → Only kind IsSyntax spelled → IsSpelled spelled
IsSpelled-plain kind plain (Ok command) is = IsWhole-plain command (subst IsPlain (sym is) plain)
IsSpelled-plain kind plain (Err why) is = IsForBytes-syntax why is

IsSpelled-kind : (kind : Kind) (rest : List ℕ) → IsSpelled (command_by kind rest)
IsSpelled-kind OfStream rest = IsSpelled-or_syntax (stream_of rest) (IsWhole-line (Some rest))
IsSpelled-kind OfAppend rest = tt
IsSpelled-kind OfRun rest = IsSpelled-run (named_run rest) (IsRunWithin-parts (parts_at 61 rest))
IsSpelled-kind OfFetch rest = IsSpelled-plain OfFetch tt (command_by OfFetch rest) (command_by-only OfFetch rest)
IsSpelled-kind OfCollect rest = IsSpelled-plain OfCollect tt (command_by OfCollect rest) (command_by-only OfCollect rest)
IsSpelled-kind OfEntries rest = IsSpelled-plain OfEntries tt (command_by OfEntries rest) (command_by-only OfEntries rest)
IsSpelled-kind OfCatalog rest = IsSpelled-plain OfCatalog tt (command_by OfCatalog rest) (command_by-only OfCatalog rest)
IsSpelled-kind OfOpen rest =
    let behind : List ℕ = after_first is_space (trimmed rest) in
    IsSpelled-open (name_if (before_first is_space (trimmed rest))) (named_run behind) (IsRunWithin-parts (parts_at 61 behind))
IsSpelled-kind OfStep rest = IsSpelled-plain OfStep tt (command_by OfStep rest) (command_by-only OfStep rest)
IsSpelled-kind OfClose rest = IsSpelled-plain OfClose tt (command_by OfClose rest) (command_by-only OfClose rest)
IsSpelled-kind OfDrop rest = IsSpelled-plain OfDrop tt (command_by OfDrop rest) (command_by-only OfDrop rest)

IsSpelled-kinds : (kinds : List Kind) (text : List ℕ) → IsSpelled (by_kinds kinds text)
IsSpelled-kinds [] text = tt
IsSpelled-kinds (kind ∷ kinds) text = IsSpelled-behind (behind_word (word_of kind) text) (command_by kind) (by_kinds kinds text) (IsSpelled-kind kind) (IsSpelled-kinds kinds text)

IsSpelled-command : (text : List ℕ) → IsSpelled (command_of text)
IsSpelled-command text = IsSpelled-kinds line_kinds text

-- what is read of a stream's line
pub stream_is_whole : (rest : List ℕ) (command : Command) → option_and_then stream_of (Some rest) ≡ Some command → IsWhole command
stream_is_whole rest command e = subst IsWholeIfAny e (IsWhole-line (Some rest))

-- what holds of the item of each text that spells something so holds of all items of a script
module _ (P : Item → Type 0) (holds : (limit : Option LimitKind) (spelled : Spelled) → IsSpelled spelled → P (spelled_item limit spelled)) where
  All-append : (front more : List Item) → AllByRecursion P front → AllByRecursion P more → AllByRecursion P (front ++ more)
  All-append [] more is rest = rest
  All-append (first ∷ front) more is rest = (is.0, All-append front more is.1 rest)

  All-line : (block : Option Block) (line : List ℕ) → AllByRecursion P (option_to_list (line_item block line))
  All-line None line =
      elim (is_skipped line || begins_block line) as (λ b. AllByRecursion P (option_to_list (cond b None (Some (command_item line))))) [
        | true ↦ tt
        | false ↦ (holds (line_limit line) (line_command line) (IsSpelled-command (trimmed line)), tt)
      ]
  All-line (Some block) line =
      elim (is_end line) as (λ b. AllByRecursion P (option_to_list (cond b (Some (spelled_item (block_limit block) (or_syntax (append_with (head_name block.head) block.rows)))) None))) [
        | true ↦ (holds (block_limit block) (or_syntax (append_with (head_name block.head) block.rows)) (IsSpelled-or_syntax (append_with (head_name block.head) block.rows) (IsWhole-append (head_name block.head) block.rows)), tt)
        | false ↦ tt
      ]

  All-unended : (block : Option Block) → AllByRecursion P (option_to_list (unended_item block))
  All-unended None = tt
  All-unended (Some block) = (holds (block_limit block) (Err Syntax) tt, tt)

  All-last : (block : Option Block) (line : List ℕ) → AllByRecursion P (last_items block line)
  All-last block [] = All-unended block
  All-last block (c ∷ cs) = All-append (option_to_list (line_item block (c ∷ cs))) _ (All-line block (c ∷ cs)) (All-unended (line_block block (c ∷ cs)))

  All-lines : (last : Option Block → List ℕ → List Item) → ((block : Option Block) (line : List ℕ) → AllByRecursion P (last block line)) → (block : Option Block) (lines : List (List ℕ)) → AllByRecursion P (items_of_lines last block lines)
  All-lines last ends block [] = tt
  All-lines last ends block (rest ∷ []) = ends block rest
  All-lines last ends block (line ∷ next ∷ more) = All-append (option_to_list (line_item block line)) _ (All-line block line) (All-lines last ends (line_block block line) (next ∷ more))

  All-items : (bytes : List ℕ) → AllByRecursion P (items bytes)
  unfolding items_by
  All-items bytes = All-lines no_items (λ block line. tt) None (slice_split is_newline bytes)

  All-all_items : (bytes : List ℕ) → AllByRecursion P (all_items bytes)
  unfolding items_by
  All-all_items bytes = All-lines last_items All-last None (slice_split is_newline bytes)

whole_spelled : (limit : Option LimitKind) (spelled : Spelled) → IsSpelled spelled → IsWholeItem (spelled_item limit spelled)
whole_spelled (Some kind) spelled is = tt
whole_spelled None (Ok command) is = is
whole_spelled None (Err why) is = tt

refused_spelled : (limit : Option LimitKind) (spelled : Spelled) → IsSpelled spelled → IsRefusedForBytes (spelled_item limit spelled)
refused_spelled (Some kind) spelled is = tt
refused_spelled None (Ok command) is = tt
refused_spelled None (Err why) is = is

pub items_are_whole : (bytes : List ℕ) → AllByRecursion IsWholeItem (items bytes)
items_are_whole bytes = All-items IsWholeItem whole_spelled bytes

pub all_items_are_whole : (bytes : List ℕ) → AllByRecursion IsWholeItem (all_items bytes)
all_items_are_whole bytes = All-all_items IsWholeItem whole_spelled bytes

pub items_refused : (bytes : List ℕ) → AllByRecursion IsRefusedForBytes (items bytes)
items_refused bytes = All-items IsRefusedForBytes refused_spelled bytes

pub all_items_refused : (bytes : List ℕ) → AllByRecursion IsRefusedForBytes (all_items bytes)
all_items_refused bytes = All-all_items IsRefusedForBytes refused_spelled bytes
