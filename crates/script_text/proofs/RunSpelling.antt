-- A line spells a run, or one with a plan that is too large, exactly where it is read so.
use Rattle.std.proofs.Common.{◌≡◌, ℕ, List, ◌∷◌, ◌++◌, codes, Option, Some, None, Ok, Err, refl, sym, ap, ◌∙◌, subst}
use Rattle.std.specs.Prelude.{⊤}
use Rattle.plan_text.specs.PlainNamed.{PlainTree}
use Rattle.plan_text.specs.declared.limit.PlanLimit.{PlanLimit}
use Rattle.plan_text.specs.declared.limit.PlanLimit.TheVariants.{Nodes, Wide, Exprs}
use Rattle.plan_text.specs.Answer.{TextReading, AsPlan, AsTooLarge, AsNone, text_reading}
use Rattle.script_text.specs.Dispatch.{command_of, line_command}
use Rattle.script_text.specs.RunLine.{SpelledRun, limit_of, run_with, run_of_text, run_named, run_of_parts, named_run, run_command}
use Rattle.script_text.specs.Spelled.{spelled_by}
use Rattle.script_text.specs.Spelling.{SpellsName, SpellsRunOf}
use Rattle.script_text.specs.StreamLine.{Parts, parts_at}
use Rattle.script_text.specs.Words.{trimmed, only_name}
use Rattle.script_text.specs.declared.answer.Refusal.TheVariants.{Limit}
use Rattle.script_text.specs.declared.item.Command.TheVariants.{Run}
use Rattle.script_text.specs.declared.run_line.NamedRun.{NamedRun}
use Rattle.script_text.proofs.CommandKinds.{reads_command, ReadsBehind, OfRun}
use Rattle.script_text.proofs.Spellings.{begun, trimmed-whole, parts_at-first, parts_at-whole, StandsBehind}
use Rattle.script_text.proofs.StreamSpelling.{Lacks-padded, name_bytes, only_name-spelled, SpellsNamed-read}

-- ---- what `NAME = PLAN` spells is read so

pub named_run-spelled : (name named text : List ℕ) → SpellsName name named → named_run (named ++ 61 ∷ text) ≡ run_of_text name text
named_run-spelled name named text spells =
    ap run_of_parts (parts_at-first 61 named text (Lacks-padded 61 (refl, refl) name named (name_bytes name spells.is_name) spells.padded))
    ∙ ap (λ n. run_named n text) (only_name-spelled name named spells)

pub run_of_text-is : (name text : List ℕ) (reading : TextReading) → text_reading text ≡ reading → run_of_text name text ≡ run_with name reading
unfolding run_of_text
run_of_text-is name text reading e = ap (run_with name) e

-- a name with one more space before it
behind_space : (name named : List ℕ) → SpellsName name named → SpellsName name (32 ∷ named)
behind_space name named spells =
    let padded = spells.padded in
    record {
      is_name = spells.is_name;
      padded = record { front = 32 ∷ padded.front; back = padded.back; before = (refl, padded.before); behind = padded.behind; whole = ap (λ t. 32 ∷ t) padded.whole };
    }

-- the line's command is what its text is read as
pub line_command-run : (name text line : List ℕ) → SpellsRunOf name text line → line_command line ≡ spelled_by run_command (run_of_text name text)
line_command-run name text line spells =
    ap command_of (begun spells.front (codes "run" ++ 32 ∷ (spells.named ++ 61 ∷ text)) spells.before line spells.whole)
    ∙ ap (spelled_by run_command) (named_run-spelled name (32 ∷ spells.named) text (behind_space name spells.named spells.spells_name))

-- ---- a text that is read so spells it

-- a plan with its name, or a limit of the plan
abbrev pub IsReadRun : SpelledRun → Type 0
IsReadRun (Ok run) = ⊤
IsReadRun (Err (Limit kind)) = ⊤
IsReadRun (Err _) = ⊥

-- the parts of a text that is read so
pub record ReadsRun (rest : List ℕ) (run : SpelledRun) : Type 0 where
  pub before : List ℕ
  pub name : List ℕ
  pub text : List ℕ
  pub parted : rest ≡ before ++ 61 ∷ text
  pub named : only_name before ≡ Some name
  pub is : run_of_text name text ≡ run

pub ReadsRun-read : (rest : List ℕ) (run : SpelledRun) → IsReadRun run → named_run rest ≡ run → ReadsRun rest run
ReadsRun-read rest run is_run e = by (parts_at 61 rest) refl e
  where
    with_name : (parts : Parts) → parts_at 61 rest ≡ Some parts → (name : Option (List ℕ)) → only_name parts.before ≡ name → run_named name parts.behind ≡ run → ReadsRun rest run
    with_name parts parted (Some name) is e = record { before = parts.before; name = name; text = parts.behind; parted = parts_at-whole 61 rest parts parted; named = is; is = e }
    with_name parts parted None is e = absurd (subst IsReadRun (sym e) is_run)

    by : (parts : Option Parts) → parts_at 61 rest ≡ parts → run_of_parts parts ≡ run → ReadsRun rest run
    by (Some parts) parted e = with_name parts parted (only_name parts.before) refl e
    by None parted e = absurd (subst IsReadRun (sym e) is_run)

-- what the text of a plan is read as that goes by a name
pub plan_reading : (name text : List ℕ) (run : NamedRun) → run_of_text name text ≡ Ok run → (name ≡ run.name) × (text_reading text ≡ AsPlan run.plan)
unfolding run_of_text
plan_reading name text run e = by (text_reading text) refl e
  where
    by : (reading : TextReading) → text_reading text ≡ reading → run_with name reading ≡ Ok run → (name ≡ run.name) × (text_reading text ≡ AsPlan run.plan)
    by (AsPlan plan) is e =
        let same : record { name = name; plan = plan } ≡ run = cc in
        (ap (λ (r : NamedRun). r.name) same, is ∙ ap (λ (r : NamedRun). AsPlan r.plan) same)
    by (AsTooLarge what) is e = absurd (cc)
    by AsNone is e = absurd (cc)

same_limit : (a b : PlanLimit) → limit_of a ≡ limit_of b → a ≡ b
same_limit Nodes Nodes e = refl
same_limit Nodes Wide e = absurd (cc)
same_limit Nodes Exprs e = absurd (cc)
same_limit Wide Nodes e = absurd (cc)
same_limit Wide Wide e = refl
same_limit Wide Exprs e = absurd (cc)
same_limit Exprs Nodes e = absurd (cc)
same_limit Exprs Wide e = absurd (cc)
same_limit Exprs Exprs e = refl

pub limit_reading : (name text : List ℕ) (what : PlanLimit) → run_of_text name text ≡ Err (Limit (limit_of what)) → text_reading text ≡ AsTooLarge what
unfolding run_of_text
limit_reading name text what e = by (text_reading text) refl e
  where
    by : (reading : TextReading) → text_reading text ≡ reading → run_with name reading ≡ Err (Limit (limit_of what)) → text_reading text ≡ AsTooLarge what
    by (AsPlan plan) is e = absurd (cc)
    by (AsTooLarge other) is e =
        let same_kind : limit_of other ≡ limit_of what = cc in
        is ∙ ap AsTooLarge (same_limit other what same_kind)
    by AsNone is e = absurd (cc)

-- ---- the line of a run

-- a line that is read so
pub record ReadsRunLine (line : List ℕ) (run : SpelledRun) : Type 0 where
  pub name : List ℕ
  pub text : List ℕ
  pub spells : SpellsRunOf name text line
  pub is : run_of_text name text ≡ run

run_line_read : (line rest : List ℕ) → StandsBehind (codes "run") (trimmed line) rest → (run : SpelledRun) → IsReadRun run → named_run rest ≡ run → ReadsRunLine line run
run_line_read line rest behind run is_run e =
    let read = ReadsRun-read rest run is_run e in
    let cut = trimmed-whole line in
    let named = SpellsNamed-read 61 refl read.name rest read.before read.text behind.ends read.parted read.named in
    record {
      name = read.name;
      text = read.text;
      spells = record {
        front = cut.front;
        named = named.named;
        before = cut.before;
        spells_name = named.spells_name;
        whole = cut.whole ∙ ap (λ t. cut.front ++ t) (behind.whole ∙ ap (λ t. codes "run" ++ t) named.whole);
      };
      is = read.is;
    }

-- what the text of a line's run is read as
pub record ReadsText (line : List ℕ) (name : List ℕ) (reading : TextReading) : Type 0 where
  pub text : List ℕ
  pub spells : SpellsRunOf name text line
  pub is : text_reading text ≡ reading

pub plan_is_read : (line name : List ℕ) (plan : PlainTree) → line_command line ≡ Ok (Run name plan) → ReadsText line name (AsPlan plan)
plan_is_read line name plan e = by (named_run read.rest) refl read.is
  where
    read : ReadsBehind (trimmed line) (Ok (Run name plan)) OfRun
    read = reads_command line (Run name plan) e

    by : (run : SpelledRun) → named_run read.rest ≡ run → spelled_by run_command run ≡ Ok (Run name plan) → ReadsText line name (AsPlan plan)
    by (Ok run) is e =
        let same_name : run.name ≡ name = cc in
        let same_plan : run.plan ≡ plan = cc in
        let read_line = run_line_read line read.rest read.behind (Ok run) tt is in
        let reading = plan_reading read_line.name read_line.text run read_line.is in
        record {
          text = read_line.text;
          spells = subst (λ n. SpellsRunOf n read_line.text line) (reading.0 ∙ same_name) read_line.spells;
          is = reading.1 ∙ ap AsPlan same_plan;
        }
    by (Err why) is e = absurd (cc)

-- a name and what the text behind it is read as
pub record ReadsLarge (line : List ℕ) (what : PlanLimit) : Type 0 where
  pub name : List ℕ
  pub reads : ReadsText line name (AsTooLarge what)

pub limit_is_read : (line : List ℕ) (what : PlanLimit) → ReadsBehind (trimmed line) (Err (Limit (limit_of what))) OfRun → ReadsLarge line what
limit_is_read line what read = by (named_run read.rest) refl read.is
  where
    by : (run : SpelledRun) → named_run read.rest ≡ run → spelled_by run_command run ≡ Err (Limit (limit_of what)) → ReadsLarge line what
    by (Ok run) is e = absurd (cc)
    by (Err why) is e =
        let refused : named_run read.rest ≡ Err (Limit (limit_of what)) = is ∙ (cc) in
        let read_line = run_line_read line read.rest read.behind (Err (Limit (limit_of what))) tt refused in
        record { name = read_line.name; reads = record { text = read_line.text; spells = read_line.spells; is = limit_reading read_line.name read_line.text what read_line.is } }
