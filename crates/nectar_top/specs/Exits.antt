-- What stands at each exit of a run, by what its words ask for.
use Rattle.std.specs.Prelude.{◌≡◌, ◌⊎◌, ℕ, Bool, List, [], ◌++◌, Option, None, Some, IsSome, ⊤}
use Rattle.std.specs.List.{AllByRecursion}
use Rattle.std.specs.Io.KnownBytes.{Appends}
use Rattle.outside_traits.specs.View.{View}
use Rattle.command_words.specs.Told.{Told}
use Rattle.workload_gen.specs.Script.{generated_script}
use Rattle.script_text.specs.Script.{items, all_items}
use Rattle.folder.specs.State.{State}
use Rattle.nectar_top.specs.Crash.{Found, intact}
use Rattle.nectar_top.specs.Outside.{Outside}
use Rattle.nectar_top.specs.Refusals.{IsSparing}
use Rattle.nectar_top.specs.Run.{Answered, BrokenOff, IsDone, IsComplete, IsCutOff, IsTooLong, IsUnwritten, IsBroken, IsUnloaded}
use Rattle.nectar_top.specs.Sending.{SentInPart}
use Rattle.nectar_top.specs.Summary.{summary_of, summary_text}
use Rattle.nectar_top.specs.declared.exit.Exit.{Exit}
use Rattle.nectar_top.specs.declared.exit.Exit.TheVariants as exit

-- ---- the script of the source

-- the folder was not loaded: nothing was read of the script, and nothing written
pub record IsUntaken (found : Found) (u v : View) (begun now : Outside) : Type 0 where
  pub left : now.left ≡ begun.left
  pub written : now.written ≡ begun.written
  pub unloaded : IsUnloaded found u v

abbrev pub EndsOfScript : Found → View → View → Exit → Outside → Outside → Type 0
EndsOfScript found u v exit.Done begun now = IsDone found u v begun now
EndsOfScript found u v exit.SourceFault begun now = IsCutOff found u v begun now
EndsOfScript found u v exit.ScriptLimit begun now = IsTooLong found u v begun now
EndsOfScript found u v exit.SinkFault begun now = IsUnwritten found u v begun now
EndsOfScript found u v exit.StoreFault begun now = IsBroken found u v begun now ⊎ IsUntaken found u v begun now
EndsOfScript found u v exit.Memory begun now = IsUntaken found u v begun now
EndsOfScript found u v (exit.NotAStore file at) begun now = IsUntaken found u v begun now
EndsOfScript found u v exit.Usage begun now = ⊥

-- ---- a generated script, whose answers go nowhere

-- what they would write is let go of
abbrev pub let_go : Outside → Outside
let_go outside = record outside { written = None }

-- all its commands are answered, and what their answers come to is written
pub record IsSummed (number : ℕ) (found : Found) (u v : View) (begun now : Outside) : Type 0 where
  pub answered : Answered found u v (all_items (generated_script number)) (let_go begun) (let_go now)
  pub wrote : Appends begun.written now.written (summary_text (summary_of answered.answers))

-- a front of that is written, which lacks something
pub record IsSummedInPart (number : ℕ) (found : Found) (u v : View) (begun now : Outside) : Type 0 where
  pub answered : Answered found u v (all_items (generated_script number)) (let_go begun) (let_go now)
  pub sent : SentInPart begun.written now.written (summary_text (summary_of answered.answers))

-- the store failed in one of its commands, and nothing is written
pub record IsGeneratedBroken (number : ℕ) (found : Found) (u v : View) (begun now : Outside) : Type 0 where
  pub taken : List ℕ
  pub others : List ℕ
  pub whole : generated_script number ≡ taken ++ others
  pub answered : BrokenOff found u v (items taken) (let_go begun) (let_go now) ⊎ ((others ≡ []) × BrokenOff found u v (all_items taken) (let_go begun) (let_go now))
  pub written : now.written ≡ begun.written

abbrev pub EndsOfGenerated : ℕ → Found → View → View → Exit → Outside → Outside → Type 0
EndsOfGenerated number found u v exit.Done begun now = IsSummed number found u v begun now
EndsOfGenerated number found u v exit.SinkFault begun now = IsSummedInPart number found u v begun now
EndsOfGenerated number found u v exit.StoreFault begun now = IsGeneratedBroken number found u v begun now ⊎ IsUntaken found u v begun now
EndsOfGenerated number found u v exit.Memory begun now = IsUntaken found u v begun now
EndsOfGenerated number found u v (exit.NotAStore file at) begun now = IsUntaken found u v begun now
EndsOfGenerated number found u v _ begun now = ⊥

-- no exit of a run that reads no source
abbrev pub IsOfGenerated : Exit → Type 0
IsOfGenerated exit.Usage = ⊥
IsOfGenerated exit.SourceFault = ⊥
IsOfGenerated _ = ⊤

-- ---- by the words

abbrev pub EndsFor : Option ℕ → Found → View → View → Exit → Outside → Outside → Type 0
EndsFor None = EndsOfScript
EndsFor (Some number) = EndsOfGenerated number

-- where the words aren't accepted there was no run; the words say too whether the answers are quiet
abbrev pub EndsBy : Option Told → Found → View → View → Exit → (Bool → Outside) → (Bool → Outside) → Type 0
EndsBy None found u v e begun now = ⊤
EndsBy (Some asked) found u v e begun now = EndsFor asked.generate found u v e (begun asked.quiet) (now asked.quiet)

-- ---- where no call fails, over a folder of one state whose files hold their bytes

-- no answer is laid to the store
pub record IsSummedWhole (number : ℕ) (s : State) (u v : View) (begun now : Outside) : Type 0 where
  pub summed : IsSummed number (intact s) u v begun now
  pub sparing : AllByRecursion IsSparing summed.answered.answers

abbrev pub IsWholeFor : Option ℕ → State → View → View → Outside → Outside → Type 0
IsWholeFor None = IsComplete
IsWholeFor (Some number) = IsSummedWhole number

-- all is answered, or memory was refused
abbrev pub CompletesFor : Option ℕ → State → View → View → Exit → Outside → Outside → Type 0
CompletesFor generate s u v e begun now = ((e ≡ exit.Done) × IsWholeFor generate s u v begun now) ⊎ (e ≡ exit.Memory)

abbrev pub CompletesBy : Option Told → State → View → View → Exit → (Bool → Outside) → (Bool → Outside) → Type 0
CompletesBy None s u v e begun now = ⊤
CompletesBy (Some asked) s u v e begun now = CompletesFor asked.generate s u v e (begun asked.quiet) (now asked.quiet)

-- the words ask for a generated script
abbrev pub Generates : Option Told → Type 0
Generates None = ⊥
Generates (Some asked) = IsSome asked.generate
