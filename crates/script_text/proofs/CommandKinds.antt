-- Which commands the first words stand for.
use Rattle.std.proofs.Common.{◌≡◌, ℕ, Bool, true, false, cond, List, [], ◌∷◌, codes, Option, Some, None, Result, Ok, Err, option_and_then, refl, sym, subst, inl, inr}
use Rattle.std.specs.Prelude.{◌⊎◌, ⊤}
use Rattle.std.specs.List.{before_first, after_first}
use Rattle.plan_text.specs.Answer.{TextReading, AsPlan, AsTooLarge, AsNone, text_reading}
use Rattle.rows_core.specs.declared.schema.Column.{Column}
use Rattle.script_text.specs.CollectLine.{number_of, collect_with, collect_of}
use Rattle.script_text.specs.Dispatch.{behind_or, stream_command, command_of}
use Rattle.script_text.specs.FetchLine.{as_run_of, fetch_with, fetch_of}
use Rattle.script_text.specs.ListLine.{entries_of, catalog_of}
use Rattle.script_text.specs.JobLine.{open_with, open_of, step_of, close_of, drop_of}
use Rattle.script_text.specs.RunLine.{SpelledRun, run_with, run_of_text, run_named, run_of_parts, named_run, run_command, run_of}
use Rattle.script_text.specs.Script.{IsForBytes}
use Rattle.script_text.specs.Spelled.{Spelled, or_syntax, then_spelled, spelled_by}
use Rattle.script_text.specs.StreamLine.{Parts, parts_at, closed_columns, stream_with, stream_of_parts}
use Rattle.script_text.specs.Words.{is_space, is_blank, trimmed, behind_word, name_if, only_name, only_word}
use Rattle.script_text.specs.declared.answer.LimitKind.{LimitKind}
use Rattle.script_text.specs.declared.answer.Refusal.{Refusal}
use Rattle.script_text.specs.declared.answer.Refusal.TheVariants.{Limit, Syntax, Unknown, Exists, IllTyped, Row, Fault, Damaged, Unreadable, Overflow, Memory}
use Rattle.script_text.specs.declared.item.Command.{Command}
use Rattle.script_text.specs.declared.item.Command.TheVariants.{Stream, Append, Run, Fetch, Collect, Entries, Catalog, OpenJob, Step, Close, DropJob}
use Rattle.script_text.proofs.Spellings.{StandsBehind, behind_word-whole}

-- the commands by their first words
pub data Kind : Type 0 where
  OfStream : Kind
  OfAppend : Kind
  OfRun : Kind
  OfFetch : Kind
  OfCollect : Kind
  OfEntries : Kind
  OfCatalog : Kind
  OfOpen : Kind
  OfStep : Kind
  OfClose : Kind
  OfDrop : Kind

abbrev pub kind_of : Command → Kind
kind_of (Stream name columns) = OfStream
kind_of (Append name lines) = OfAppend
kind_of (Run name plan) = OfRun
kind_of (Fetch name as_run) = OfFetch
kind_of (Collect bytes) = OfCollect
kind_of Entries = OfEntries
kind_of Catalog = OfCatalog
kind_of (OpenJob job name plan) = OfOpen
kind_of (Step job) = OfStep
kind_of (Close job) = OfClose
kind_of (DropJob job) = OfDrop

abbrev pub word_of : Kind → List ℕ
word_of OfStream = codes "stream"
word_of OfAppend = codes "append"
word_of OfRun = codes "run"
word_of OfFetch = codes "fetch"
word_of OfCollect = codes "collect"
word_of OfEntries = codes "entries"
word_of OfCatalog = codes "catalog"
word_of OfOpen = codes "open"
word_of OfStep = codes "step"
word_of OfClose = codes "close"
word_of OfDrop = codes "drop"

-- what stands behind the word, as the line of such a command; a block is no line
abbrev pub command_by : Kind → List ℕ → Spelled
command_by OfStream rest = stream_command rest
command_by OfAppend rest = Err Syntax
command_by OfRun rest = run_of rest
command_by OfFetch rest = fetch_of rest
command_by OfCollect rest = collect_of rest
command_by OfEntries rest = entries_of rest
command_by OfCatalog rest = catalog_of rest
command_by OfOpen rest = open_of rest
command_by OfStep rest = step_of rest
command_by OfClose rest = close_of rest
command_by OfDrop rest = drop_of rest

-- by the first of these words that a line begins with; by all of them this computes to what the line spells
abbrev pub by_kinds : List Kind → List ℕ → Spelled
by_kinds [] text = Err Syntax
by_kinds (kind ∷ kinds) text = behind_or (behind_word (word_of kind) text) (command_by kind) (by_kinds kinds text)

abbrev pub line_kinds : List Kind
line_kinds = OfStream ∷ OfRun ∷ OfFetch ∷ OfCollect ∷ OfEntries ∷ OfCatalog ∷ OfOpen ∷ OfStep ∷ OfClose ∷ OfDrop ∷ []

abbrev pub IsSyntax : Refusal → Type 0
IsSyntax Syntax = ⊤
IsSyntax _ = ⊥

pub IsForBytes-syntax : (why : Refusal) → IsSyntax why → IsForBytes why
IsForBytes-syntax (Limit kind) is = tt
IsForBytes-syntax Syntax is = tt
IsForBytes-syntax (Unknown name) is = is
IsForBytes-syntax (Exists name) is = is
IsForBytes-syntax IllTyped is = is
IsForBytes-syntax (Row number) is = is
IsForBytes-syntax Fault is = is
IsForBytes-syntax (Damaged file kept found) is = is
IsForBytes-syntax (Unreadable file at) is = is
IsForBytes-syntax Overflow is = is
IsForBytes-syntax Memory is = is

-- what the lines of a kind are refused for: those with a plan also for a limit
abbrev pub Why : Kind → Refusal → Type 0
Why OfStream = IsSyntax
Why OfAppend = IsSyntax
Why OfRun = IsForBytes
Why OfFetch = IsSyntax
Why OfCollect = IsSyntax
Why OfEntries = IsSyntax
Why OfCatalog = IsSyntax
Why OfOpen = IsForBytes
Why OfStep = IsSyntax
Why OfClose = IsSyntax
Why OfDrop = IsSyntax

-- a command of this kind, or such a refusal
abbrev pub Only : Kind → (Refusal → Type 0) → Spelled → Type 0
Only kind Is (Ok command) = kind_of command ≡ kind
Only kind Is (Err why) = Is why

-- where it is refused, then so
abbrev Refuses : {A : Type 0} → (Refusal → Type 0) → Result A Refusal → Type 0
Refuses Is (Ok part) = ⊤
Refuses Is (Err why) = Is why

-- a stream
stream_with-only : (name : Option (List ℕ)) (columns : Option (List Column)) → Only OfStream IsSyntax (or_syntax (stream_with name columns))
stream_with-only (Some name) (Some columns) = refl
stream_with-only (Some name) None = tt
stream_with-only None columns = tt

stream_command-only : (parts : Option Parts) → Only OfStream IsSyntax (or_syntax (option_and_then stream_of_parts parts))
stream_command-only (Some parts) = stream_with-only (only_name parts.before) (closed_columns parts.behind)
stream_command-only None = tt

-- a named plan
run_with-refuses : (name : List ℕ) (reading : TextReading) → Refuses IsForBytes (run_with name reading)
run_with-refuses name (AsPlan plan) = tt
run_with-refuses name (AsTooLarge what) = tt
run_with-refuses name AsNone = tt

run_of_text-refuses : (name text : List ℕ) → Refuses IsForBytes (run_of_text name text)
unfolding run_of_text
run_of_text-refuses name text = run_with-refuses name (text_reading text)

run_named-refuses : (name : Option (List ℕ)) (text : List ℕ) → Refuses IsForBytes (run_named name text)
run_named-refuses (Some name) text = run_of_text-refuses name text
run_named-refuses None text = tt

run_of_parts-refuses : (parts : Option Parts) → Refuses IsForBytes (run_of_parts parts)
run_of_parts-refuses (Some parts) = run_named-refuses (only_name parts.before) parts.behind
run_of_parts-refuses None = tt

run-only : (run : SpelledRun) → Refuses IsForBytes run → Only OfRun IsForBytes (spelled_by run_command run)
run-only (Ok run) refused = refl
run-only (Err why) refused = refused

open_with-only : (job : List ℕ) (run : SpelledRun) → Refuses IsForBytes run → Only OfOpen IsForBytes (open_with run job)
open_with-only job (Ok run) refused = refl
open_with-only job (Err why) refused = refused

open-only : (job : Option (List ℕ)) (run : SpelledRun) → Refuses IsForBytes run → Only OfOpen IsForBytes (then_spelled (or_syntax job) (open_with run))
open-only (Some job) run refused = open_with-only job run refused
open-only None run refused = tt

-- a job alone
job-only : (kind : Kind) (make : List ℕ → Command) → ((job : List ℕ) → kind_of (make job) ≡ kind) → (job : Option (List ℕ)) → Only kind IsSyntax (spelled_by make (or_syntax job))
job-only kind make is (Some job) = is job
job-only kind make is None = tt

-- what asks for what is kept
fetch_with-only : (name : Option (List ℕ)) (as_run : Option Bool) → Only OfFetch IsSyntax (fetch_with name as_run)
fetch_with-only (Some name) (Some as_run) = refl
fetch_with-only (Some name) None = tt
fetch_with-only None as_run = tt

collect_with-only : (bytes : Option ℕ) → Only OfCollect IsSyntax (collect_with bytes)
collect_with-only (Some bytes) = refl
collect_with-only None = tt

alone-only : (kind : Kind) (command : Command) → kind_of command ≡ kind → (blank : Bool) → Only kind IsSyntax (cond blank (Ok command) (Err Syntax))
alone-only kind command is true = is
alone-only kind command is false = tt

pub command_by-only : (kind : Kind) (rest : List ℕ) → Only kind (Why kind) (command_by kind rest)
command_by-only OfStream rest = stream_command-only (parts_at 40 rest)
command_by-only OfAppend rest = tt
command_by-only OfRun rest = run-only (named_run rest) (run_of_parts-refuses (parts_at 61 rest))
command_by-only OfFetch rest = fetch_with-only (name_if (before_first is_space (trimmed rest))) (as_run_of (after_first is_space (trimmed rest)))
command_by-only OfCollect rest = collect_with-only (option_and_then number_of (only_word rest))
command_by-only OfEntries rest = alone-only OfEntries Entries refl (is_blank rest)
command_by-only OfCatalog rest = alone-only OfCatalog Catalog refl (is_blank rest)
command_by-only OfOpen rest =
    let behind : List ℕ = after_first is_space (trimmed rest) in
    open-only (name_if (before_first is_space (trimmed rest))) (named_run behind) (run_of_parts-refuses (parts_at 61 behind))
command_by-only OfStep rest = job-only OfStep Step (λ job. refl) (only_name rest)
command_by-only OfClose rest = job-only OfClose Close (λ job. refl) (only_name rest)
command_by-only OfDrop rest = job-only OfDrop DropJob (λ job. refl) (only_name rest)

-- what stands behind a first word, where the line is read as its command
pub record ReadsBehind (text : List ℕ) (spelled : Spelled) (kind : Kind) : Type 0 where
  pub rest : List ℕ
  pub behind : StandsBehind (word_of kind) text rest
  pub is : command_by kind rest ≡ spelled

-- a command is read behind its own first word
by_kinds-command : (kinds : List Kind) (text : List ℕ) (command : Command) → by_kinds kinds text ≡ Ok command → ReadsBehind text (Ok command) (kind_of command)
by_kinds-command [] text command e = absurd (cc)
by_kinds-command (kind ∷ kinds) text command e = by (by_kinds-command kinds text command) (behind_word (word_of kind) text) refl e
  where
    by : (by_kinds kinds text ≡ Ok command → ReadsBehind text (Ok command) (kind_of command)) → (rest : Option (List ℕ)) → behind_word (word_of kind) text ≡ rest
        → behind_or rest (command_by kind) (by_kinds kinds text) ≡ Ok command → ReadsBehind text (Ok command) (kind_of command)
    by others (Some rest) at e =
        let same : kind_of command ≡ kind = subst (Only kind (Why kind)) e (command_by-only kind rest) in
        subst (ReadsBehind text (Ok command)) (sym same) (record { rest = rest; behind = behind_word-whole (word_of kind) text rest at; is = e })
    by others None at e = others e

pub reads_command : (line : List ℕ) (command : Command) → command_of (trimmed line) ≡ Ok command → ReadsBehind (trimmed line) (Ok command) (kind_of command)
reads_command line command e = by_kinds-command line_kinds (trimmed line) command e

-- and a limit behind one that has a plan
abbrev pub ReadsLimit : List ℕ → LimitKind → Type 0
ReadsLimit text limit = ReadsBehind text (Err (Limit limit)) OfRun ⊎ ReadsBehind text (Err (Limit limit)) OfOpen

limit_of_kind : (text : List ℕ) (limit : LimitKind) (kind : Kind) → Why kind (Limit limit) → ReadsBehind text (Err (Limit limit)) kind → ReadsLimit text limit
limit_of_kind text limit OfStream why reads = absurd why
limit_of_kind text limit OfAppend why reads = absurd why
limit_of_kind text limit OfRun why reads = inl reads
limit_of_kind text limit OfFetch why reads = absurd why
limit_of_kind text limit OfCollect why reads = absurd why
limit_of_kind text limit OfEntries why reads = absurd why
limit_of_kind text limit OfCatalog why reads = absurd why
limit_of_kind text limit OfOpen why reads = inr reads
limit_of_kind text limit OfStep why reads = absurd why
limit_of_kind text limit OfClose why reads = absurd why
limit_of_kind text limit OfDrop why reads = absurd why

by_kinds-limit : (kinds : List Kind) (text : List ℕ) (limit : LimitKind) → by_kinds kinds text ≡ Err (Limit limit) → ReadsLimit text limit
by_kinds-limit [] text limit e = absurd (cc)
by_kinds-limit (kind ∷ kinds) text limit e = by (by_kinds-limit kinds text limit) (behind_word (word_of kind) text) refl e
  where
    by : (by_kinds kinds text ≡ Err (Limit limit) → ReadsLimit text limit) → (rest : Option (List ℕ)) → behind_word (word_of kind) text ≡ rest
        → behind_or rest (command_by kind) (by_kinds kinds text) ≡ Err (Limit limit) → ReadsLimit text limit
    by others (Some rest) at e =
        let why : Why kind (Limit limit) = subst (Only kind (Why kind)) e (command_by-only kind rest) in
        limit_of_kind text limit kind why (record { rest = rest; behind = behind_word-whole (word_of kind) text rest at; is = e })
    by others None at e = others e

pub reads_limit : (line : List ℕ) (limit : LimitKind) → command_of (trimmed line) ≡ Err (Limit limit) → ReadsLimit (trimmed line) limit
reads_limit line limit e = by_kinds-limit line_kinds (trimmed line) limit e
