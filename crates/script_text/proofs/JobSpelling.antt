-- A line spells the opening of a job, or what is done with one, exactly where it is read so.
use Rattle.std.proofs.Common.{◌≡◌, ℕ, Bool, true, false, cond, List, [], ◌∷◌, ◌++◌, length, codes, Option, Some, None, Ok, Err, refl, sym, ap, ◌∙◌, subst, length-append, inl, inr, arith}
use Rattle.std.specs.Prelude.{◌⊎◌}
use Rattle.std.specs.List.{before_first, after_first}
use Rattle.plan_text.specs.PlainNamed.{PlainTree}
use Rattle.plan_text.specs.declared.limit.PlanLimit.{PlanLimit}
use Rattle.plan_text.specs.Answer.{TextReading, AsPlan, AsTooLarge, text_reading}
use Rattle.rows_core.specs.Name.{IsName, is_name}
use Rattle.script_text.specs.Dispatch.{command_of, line_command}
use Rattle.script_text.specs.JobLine.{job_of, open_with, open_of_words}
use Rattle.script_text.specs.RunLine.{SpelledRun, limit_of, run_of_text, named_run}
use Rattle.script_text.specs.Spelled.{or_syntax, then_spelled, spelled_by}
use Rattle.script_text.specs.Spelling.{SpellsStep, SpellsClose, SpellsDrop, SpellsOpenOf}
use Rattle.script_text.specs.Words.{is_space, trimmed, name_if, only_name}
use Rattle.script_text.specs.declared.answer.Refusal.TheVariants.{Limit}
use Rattle.script_text.specs.declared.item.Command.{Command}
use Rattle.script_text.specs.declared.item.Command.TheVariants.{OpenJob, Step, Close, DropJob}
use Rattle.script_text.proofs.CommandKinds.{ReadsBehind, reads_command, OfOpen}
use Rattle.script_text.proofs.KeptSpelling.{name_lacks, Spaced-read}
use Rattle.script_text.proofs.RunSpelling.{named_run-spelled, IsReadRun, ReadsRun-read, plan_reading, limit_reading}
use Rattle.script_text.proofs.Spellings.{begun, trimmed-spaces, trimmed-whole, trimmed-word, before_first-space, after_first-space, first_word-whole, StandsBehind}
use Rattle.script_text.proofs.StreamSpelling.{name_some, only_name-behind, SpellsName-read, SpellsWithName-read}

-- ---- a job alone

pub step-spelled : (job line : List ℕ) → SpellsStep job line → line_command line ≡ Ok (Step job)
step-spelled job line spells =
    ap command_of (begun spells.front (codes "step" ++ 32 ∷ spells.named) spells.before line spells.whole)
    ∙ ap (λ n. spelled_by Step (or_syntax n)) (only_name-behind (codes "step") job line spells)

pub close-spelled : (job line : List ℕ) → SpellsClose job line → line_command line ≡ Ok (Close job)
close-spelled job line spells =
    ap command_of (begun spells.front (codes "close" ++ 32 ∷ spells.named) spells.before line spells.whole)
    ∙ ap (λ n. spelled_by Close (or_syntax n)) (only_name-behind (codes "close") job line spells)

pub drop-spelled : (job line : List ℕ) → SpellsDrop job line → line_command line ≡ Ok (DropJob job)
drop-spelled job line spells =
    ap command_of (begun spells.front (codes "drop" ++ 32 ∷ spells.named) spells.before line spells.whole)
    ∙ ap (λ n. spelled_by DropJob (or_syntax n)) (only_name-behind (codes "drop") job line spells)

-- the job of a command that is read
module _ (make : List ℕ → Command) (same : (a b : List ℕ) → make a ≡ make b → a ≡ b) where
  job_is_read : (job rest : List ℕ) → spelled_by make (job_of rest) ≡ Ok (make job) → only_name rest ≡ Some job
  job_is_read job rest e = by (only_name rest) refl e
    where
      by : (name : Option (List ℕ)) → only_name rest ≡ name → spelled_by make (or_syntax name) ≡ Ok (make job) → only_name rest ≡ Some job
      by (Some name) is e = let made : make name ≡ make job = cc in is ∙ ap Some (same name job made)
      by None is e = absurd (cc)

same_step : (a b : List ℕ) → Step a ≡ Step b → a ≡ b
same_step a b e = cc

same_close : (a b : List ℕ) → Close a ≡ Close b → a ≡ b
same_close a b e = cc

same_drop : (a b : List ℕ) → DropJob a ≡ DropJob b → a ≡ b
same_drop a b e = cc

pub SpellsStep-read : (job line : List ℕ) → line_command line ≡ Ok (Step job) → SpellsStep job line
SpellsStep-read job line e =
    let read = reads_command line (Step job) e in
    SpellsWithName-read (codes "step") job line read.rest read.behind (job_is_read Step same_step job read.rest read.is)

pub SpellsClose-read : (job line : List ℕ) → line_command line ≡ Ok (Close job) → SpellsClose job line
SpellsClose-read job line e =
    let read = reads_command line (Close job) e in
    SpellsWithName-read (codes "close") job line read.rest read.behind (job_is_read Close same_close job read.rest read.is)

pub SpellsDrop-read : (job line : List ℕ) → line_command line ≡ Ok (DropJob job) → SpellsDrop job line
SpellsDrop-read job line e =
    let read = reads_command line (DropJob job) e in
    SpellsWithName-read (codes "drop") job line read.rest read.behind (job_is_read DropJob same_drop job read.rest read.is)

-- ---- the opening of a job

open_of_words-named : (job rest : List ℕ) (run : SpelledRun) → IsName job → named_run rest ≡ run → open_of_words (job ++ 32 ∷ rest) ≡ open_with run job
open_of_words-named job rest run is e =
    let none = name_lacks job is in
    let behind : List ℕ = after_first is_space (job ++ 32 ∷ rest) in
    ap (λ w. then_spelled (or_syntax (name_if w)) (open_with (named_run behind))) (before_first-space job rest none)
    ∙ ap (λ b. then_spelled (or_syntax (cond b (Some job) None)) (open_with (named_run behind))) is
    ∙ ap (λ t. open_with (named_run t) job) (after_first-space job rest none)
    ∙ ap (λ r. open_with r job) e

-- the line's command is what its text is read as
pub line_command-open : (job name text line : List ℕ) → SpellsOpenOf job name text line → line_command line ≡ open_with (run_of_text name text) job
line_command-open job name text line spells =
    let rest : List ℕ = spells.named ++ 61 ∷ text in
    ap command_of (begun spells.front (codes "open" ++ 32 ∷ (spells.between ++ (job ++ 32 ∷ rest))) spells.before line spells.whole)
    ∙ ap open_of_words (trimmed-spaces spells.between (job ++ 32 ∷ rest) spells.before_job ∙ trimmed-word job (32 ∷ rest) (name_some job spells.is_job) (name_lacks job spells.is_job))
    ∙ open_of_words-named job rest (run_of_text name text) spells.is_job (named_run-spelled name spells.named text spells.spells_name)

-- a line that is read so
pub record ReadsOpenLine (line job : List ℕ) (run : SpelledRun) : Type 0 where
  pub name : List ℕ
  pub text : List ℕ
  pub spells : SpellsOpenOf job name text line
  pub is : run_of_text name text ≡ run

-- the words of such a line: the job, and what stands behind it
record ReadsJob (text job : List ℕ) (run : SpelledRun) : Type 0 where
  is_job : IsName job
  named : before_first is_space text ≡ job
  reads : named_run (after_first is_space text) ≡ run

-- text without an equals sign names no plan
job_before : (text job : List ℕ) (run : SpelledRun) → IsReadRun run → ReadsJob text job run → text ≡ job ++ 32 ∷ after_first is_space text
job_before text job run is_run words = by (first_word-whole text)
  where
    by : (text ≡ before_first is_space text ++ 32 ∷ after_first is_space text) ⊎ ((text ≡ before_first is_space text) × (after_first is_space text ≡ [])) → text ≡ job ++ 32 ∷ after_first is_space text
    by (inl whole) = whole ∙ ap (λ n. n ++ 32 ∷ after_first is_space text) words.named
    by (inr whole) =
        let read = ReadsRun-read [] run is_run (ap named_run (sym whole.1) ∙ words.reads) in
        absurd (omega (arith, ap length read.parted, length-append read.before (61 ∷ read.text)))

open_line_read : (line rest job : List ℕ) (run : SpelledRun) → StandsBehind (codes "open") (trimmed line) rest → IsReadRun run → ReadsJob (trimmed rest) job run → ReadsOpenLine line job run
open_line_read line rest job run behind is_run words =
    let after : List ℕ = after_first is_space (trimmed rest) in
    let whole = job_before (trimmed rest) job run is_run words in
    let read = ReadsRun-read after run is_run words.reads in
    let spaced = Spaced-read rest behind.ends (omega (arith, ap length whole, length-append job (32 ∷ after))) in
    let cut = trimmed-whole line in
    let inner = trimmed-whole spaced.text in
    record {
      name = read.name;
      text = read.text;
      spells = record {
        front = cut.front;
        between = inner.front;
        named = read.before;
        before = cut.before;
        before_job = inner.before;
        is_job = words.is_job;
        spells_name = SpellsName-read read.name read.before read.named;
        whole = cut.whole ∙ ap (λ t. cut.front ++ t) (behind.whole ∙ ap (λ t. codes "open" ++ t) (spaced.whole ∙ ap (λ t. 32 ∷ t) (inner.whole ∙ ap (λ t. inner.front ++ t)
            (sym spaced.same ∙ whole ∙ ap (λ t. job ++ 32 ∷ t) read.parted))));
      };
      is = read.is;
    }

-- what the text of a line's job is read as
pub record ReadsJobText (line job name : List ℕ) (reading : TextReading) : Type 0 where
  pub text : List ℕ
  pub spells : SpellsOpenOf job name text line
  pub is : text_reading text ≡ reading

pub job_plan_is_read : (line job name : List ℕ) (plan : PlainTree) → line_command line ≡ Ok (OpenJob job name plan) → ReadsJobText line job name (AsPlan plan)
job_plan_is_read line job name plan e = by (is_name word) refl (named_run after) refl read.is
  where
    read : ReadsBehind (trimmed line) (Ok (OpenJob job name plan)) OfOpen
    read = reads_command line (OpenJob job name plan) e

    word : List ℕ
    word = before_first is_space (trimmed read.rest)

    after : List ℕ
    after = after_first is_space (trimmed read.rest)

    by : (b : Bool) → is_name word ≡ b → (run : SpelledRun) → named_run after ≡ run → then_spelled (or_syntax (cond b (Some word) None)) (open_with run) ≡ Ok (OpenJob job name plan) → ReadsJobText line job name (AsPlan plan)
    by true test (Ok run) is e =
        let same_job : word ≡ job = cc in
        let same_name : run.name ≡ name = cc in
        let same_plan : run.plan ≡ plan = cc in
        let read_line = open_line_read line read.rest job (Ok run) read.behind tt (record { is_job = subst IsName same_job test; named = same_job; reads = is }) in
        let reading = plan_reading read_line.name read_line.text run read_line.is in
        record {
          text = read_line.text;
          spells = subst (λ n. SpellsOpenOf job n read_line.text line) (reading.0 ∙ same_name) read_line.spells;
          is = reading.1 ∙ ap AsPlan same_plan;
        }
    by true test (Err why) is e = absurd (cc)
    by false test run is e = absurd (cc)

-- a job, a name and what the text behind them is read as
pub record ReadsLargeJob (line : List ℕ) (what : PlanLimit) : Type 0 where
  pub job : List ℕ
  pub name : List ℕ
  pub reads : ReadsJobText line job name (AsTooLarge what)

pub job_limit_is_read : (line : List ℕ) (what : PlanLimit) → ReadsBehind (trimmed line) (Err (Limit (limit_of what))) OfOpen → ReadsLargeJob line what
job_limit_is_read line what read = by (is_name word) refl (named_run after) refl read.is
  where
    word : List ℕ
    word = before_first is_space (trimmed read.rest)

    after : List ℕ
    after = after_first is_space (trimmed read.rest)

    by : (b : Bool) → is_name word ≡ b → (run : SpelledRun) → named_run after ≡ run → then_spelled (or_syntax (cond b (Some word) None)) (open_with run) ≡ Err (Limit (limit_of what)) → ReadsLargeJob line what
    by true test (Ok run) is e = absurd (cc)
    by true test (Err why) is e =
        let refused : named_run after ≡ Err (Limit (limit_of what)) = is ∙ (cc) in
        let read_line = open_line_read line read.rest word (Err (Limit (limit_of what))) read.behind tt (record { is_job = test; named = refl; reads = refused }) in
        record { job = word; name = read_line.name; reads = record { text = read_line.text; spells = read_line.spells; is = limit_reading read_line.name read_line.text what read_line.is } }
    by false test run is e = absurd (cc)
