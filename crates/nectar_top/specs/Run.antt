-- What a run of the program has done at each exit, from what the folder was found with, by what the source and the sink show
-- before it and after it, and by what the store's crashes leave. Where the source doesn't tell what it has left, some input
-- is meant.
use Rattle.std.specs.Prelude.{◌≡◌, ℕ, ◌<◌, ◌≤◌, List, ◌∷◌, [], ◌++◌, length, Option, Some, ◌⊎◌}
use Rattle.std.specs.List.{AllByRecursion}
use Rattle.std.specs.Io.KnownBytes.{Consumes, IsAtEnd, Appends}
use Rattle.outside_traits.specs.Bytes.{Takes}
use Rattle.outside_traits.specs.View.{View}
use Rattle.script_text.specs.Answer.{answer_text}
use Rattle.script_text.specs.Script.{items, all_items}
use Rattle.script_text.specs.declared.answer.Answer.{Answer}
use Rattle.script_text.specs.declared.item.Item.{Item}
use Rattle.folder.specs.State.{State}
use Rattle.folder.specs.Left.{Follows, IsLeft, Since}
use Rattle.session.specs.Machine.{Machine, without_jobs}
use Rattle.nectar_top.specs.Crash.{Found, Reaches, intact}
use Rattle.nectar_top.specs.Eviction.{WentIn, AreGone}
use Rattle.nectar_top.specs.Machine.{Step, Run, texts_of}
use Rattle.nectar_top.specs.Outside.{Outside}
use Rattle.nectar_top.specs.Refusals.{IsSparing, faults_in, RoseBy}

-- the most bytes of a script
abbrev pub longest_script : ℕ
longest_script = 1073741824

-- the source tells its whole script, which is no longer than that
abbrev pub IsShortScript : Option (List ℕ) → List ℕ → Type 0
IsShortScript left input = (left ≡ Some input) × (length input ≤ longest_script)

-- These commands, none left out, in another order or twice, were performed from the first state on, with no job open, and the text
-- of their answers was written, and nothing else. A failed read is told at most as often as the store's count of them rose, and where
-- none is told none has failed. No file is there of what collections evicted, unless a removal failed. The store is left with the
-- state after them.
pub record Answered (found : Found) (u v : View) (commands : List Item) (begun now : Outside) : Type 0 where
  pub answers : List Answer
  pub machine : Machine
  pub run : Run found.care (without_jobs found.first) commands answers machine
  pub wrote : Appends begun.written now.written (texts_of begun.quiet answers)
  pub faults : RoseBy (faults_in answers) begun.counts.reads now.counts.reads
  pub gone : AreGone (WentIn found.care (without_jobs found.first) commands answers machine run) v begun.counts now.counts
  pub left : IsLeft found.care v machine.state machine.state
  pub since : Reaches found commands answers u v

-- the whole input was taken, and all its commands are answered
pub record IsDone (found : Found) (u v : View) (begun now : Outside) : Type 0 where
  pub input : List ℕ
  pub took : Consumes begun.left now.left input
  pub at_end : IsAtEnd now.left
  pub within : length input ≤ longest_script
  pub answered : Answered found u v (all_items input) begun now

-- The same over a folder whose files all hold their bytes, where no answer is laid to the store.
pub record IsComplete (s : State) (u v : View) (begun now : Outside) : Type 0 where
  pub done : IsDone (intact s) u v begun now
  pub sparing : AllByRecursion IsSparing done.answered.answers

-- no more of the input came, and the commands of what was taken are answered
pub record IsCutOff (found : Found) (u v : View) (begun now : Outside) : Type 0 where
  pub taken : List ℕ
  pub took : Takes begun.left now.left taken
  pub within : length taken ≤ longest_script
  pub answered : Answered found u v (items taken) begun now

-- one byte more came than a script may have, and the commands before that byte are answered
pub record IsTooLong (found : Found) (u v : View) (begun now : Outside) : Type 0 where
  pub taken : List ℕ
  pub byte : ℕ
  pub took : Consumes begun.left now.left (taken ++ byte ∷ [])
  pub full : length taken ≡ longest_script
  pub answered : Answered found u v (items taken) begun now

-- The first of these commands were performed from the first state on, their answers but for the last one were written
-- whole, and of the last one a front that lacks something. The store is left with the state after them.
pub record AnsweredInPart (found : Found) (u v : View) (commands : List Item) (begun now : Outside) : Type 0 where
  pub performed : List Item
  pub others : List Item
  pub first : commands ≡ performed ++ others
  pub answers : List Answer
  pub last : Answer
  pub machine : Machine
  pub run : Run found.care (without_jobs found.first) performed (answers ++ last ∷ []) machine
  pub part : List ℕ
  pub rest : List ℕ
  pub last_text : answer_text begun.quiet last ≡ part ++ rest
  pub lacks : 0 < length rest
  pub wrote : Appends begun.written now.written (texts_of begun.quiet answers ++ part)
  pub faults : RoseBy (faults_in (answers ++ last ∷ [])) begun.counts.reads now.counts.reads
  pub gone : AreGone (WentIn found.care (without_jobs found.first) performed (answers ++ last ∷ []) machine run) v begun.counts now.counts
  pub left : IsLeft found.care v machine.state machine.state
  pub since : Reaches found performed (answers ++ last ∷ []) u v

-- The first of these commands were performed from the first state on, and their answers written whole. In the next one, which
-- would have been recorded, the store failed: nothing was written of its answer, and the store is left with the state before it and
-- the one after it.
pub record BrokenOff (found : Found) (u v : View) (commands : List Item) (begun now : Outside) : Type 0 where
  pub performed : List Item
  pub broken : Item
  pub others : List Item
  pub first : commands ≡ performed ++ broken ∷ others
  pub answers : List Answer
  pub machine : Machine
  pub run : Run found.care (without_jobs found.first) performed answers machine
  pub wrote : Appends begun.written now.written (texts_of begun.quiet answers)
  pub faults : RoseBy (faults_in answers) begun.counts.reads now.counts.reads
  pub gone : AreGone (WentIn found.care (without_jobs found.first) performed answers machine run) v begun.counts now.counts
  pub answer : Answer
  pub new : Machine
  pub step : Step found.care machine broken answer new
  pub recorded : Follows machine.state new.state
  pub left : IsLeft found.care v machine.state new.state ⊎ IsLeft found.care v new.state machine.state
  pub since : Reaches found (performed ++ broken ∷ []) (answers ++ answer ∷ []) u v

-- an answer could not be written whole
pub record IsUnwritten (found : Found) (u v : View) (begun now : Outside) : Type 0 where
  pub taken : List ℕ
  pub took : Consumes begun.left now.left taken
  pub within : length taken ≤ longest_script
  pub answered : AnsweredInPart found u v (items taken) begun now ⊎ (IsAtEnd now.left × AnsweredInPart found u v (all_items taken) begun now)

-- the store failed in a command
pub record IsBroken (found : Found) (u v : View) (begun now : Outside) : Type 0 where
  pub taken : List ℕ
  pub took : Consumes begun.left now.left taken
  pub within : length taken ≤ longest_script
  pub answered : BrokenOff found u v (items taken) begun now ⊎ (IsAtEnd now.left × BrokenOff found u v (all_items taken) begun now)

-- The folder was not loaded: each crash since leaves one of the states that it was found with, and so the store is left.
pub record IsUnloaded (found : Found) (u v : View) : Type 0 where
  pub left : IsLeft found.care v found.first found.other ⊎ IsLeft found.care v found.other found.first
  pub since : Since found.care found.first found.other u v
