-- A run of the program, as it takes more of the script.
use Rattle.std.proofs.Common.{◌≡◌, ◌⊎◌, ◌≤◌, ℕ, Bool, IfOk, OnErr, List, [], ◌∷◌, ◌++◌, Option, refl, sym, ap, ◌∙◌, subst, append_assoc, append-nil, inl, inr, arith}
use Rattle.std.specs.Prelude.{Result, Ok, Err}
use Rattle.std.specs.Io.KnownBytes.{Appends}
use Rattle.std.proofs.KnownBytes.{Appends-nil, Appends-trans}
use Rattle.std.proofs.lemmas.List.Concat.{flat_map-append}
use Rattle.outside_traits.specs.View.{View, Counts}
use Rattle.outside_traits.specs.declared.failed.Failed.{Failed}
use Rattle.script_text.specs.Answer.{answer_text}
use Rattle.script_text.specs.Reader.{Stands}
use Rattle.script_text.specs.Script.{items, all_items, Given, Completes}
use Rattle.script_text.specs.declared.answer.Answer.{Answer}
use Rattle.script_text.specs.declared.answer.Answer.TheVariants as answer
use Rattle.script_text.specs.declared.answer.Refusal.{Refusal}
use Rattle.script_text.specs.declared.answer.Refusal.TheVariants.{Memory}
use Rattle.script_text.specs.declared.item.Command.{Command}
use Rattle.script_text.specs.declared.item.Item.{Item}
use Rattle.script_text.specs.declared.item.Item.TheVariants as item
use Rattle.script_text.specs.declared.lines.Lines.{Lines}
use Rattle.script_text.proofs.ReaderLemmas.{items-unbroken}
use Rattle.folder.specs.Sound.{Care}
use Rattle.folder.specs.Folders.{table_in}
use Rattle.folder.specs.Left.{Since}
use Rattle.folder.specs.Removing.{IsFree}
use Rattle.folder.specs.State.{table}
use Rattle.folder_session.specs.Standing.{AreGoneSince, ChangesAtMost}
use Rattle.session.specs.Machine.{Machine, without_jobs}
use Rattle.session.specs.Standing as standing
use Rattle.session.specs.declared.session.Session.{Session}
use Rattle.nectar_top.specs.Crash.{Found, Reaches}
use Rattle.nectar_top.specs.Eviction.{Went, WentIn, AreGone}
use Rattle.nectar_top.specs.Machine.{Refuses, Step, Run, texts_of}
use Rattle.nectar_top.specs.Outside.{Outside, shown}
use Rattle.nectar_top.specs.Refusals.{IsSparingItem, fault_in, faults_in, RoseBy}
use Rattle.nectar_top.specs.Progress.{Progress, LeavesFree, Sends, SendsInPart, Breaks, BreaksOff, Performs}
use Rattle.nectar_top.specs.Run.{Answered, AnsweredInPart, BrokenOff}
use Rattle.nectar_top.specs.Summary.{of_answer, summary_of, together}
use Rattle.nectar_top.specs.declared.summary.Summary.{Summary}
use Rattle.nectar_top.proofs.SummaryLemmas.{summary_of-push}
use Rattle.nectar_top.proofs.CrashLemmas.{reaches_loaded, reaches_on, since_none}
use Rattle.nectar_top.proofs.EvictionLemmas.{changes_leave, gone_on, gone_still, gone_told, gone_weaker, is_table, none_went, step_free}
use Rattle.nectar_top.proofs.FaultLemmas.{rose_by_none, rose_by_since, faults-push, sparing_given, sparing_front, sparing_last}
use Rattle.nectar_top.proofs.RunLemmas.{Run-push, went_push}

-- a step on what the reader gave is one on what the bytes spell
pub Step-spelled : (care : Care) (old new : Machine) (spelled given : Item) (a : Answer) → Given spelled given → Step care old given a new → Step care old spelled a new
Step-spelled care old new spelled given a is step = elim is [
  | inl same ↦ subst (λ i. Step care old i a new) same step
  | inr none ↦ at spelled (refused (subst (λ i. Step care old i a new) none step))
]
  where
    refused : Step care old (item.Refused Memory) a new → Refuses Memory old a new
    refused s = elim s [ inl h ↦ h | inr h ↦ h ]

    at : (i : Item) → Refuses Memory old a new → Step care old i a new
    at (item.Command command) h = inr h
    at (item.Refused why) h = inr h

texts_of-push : (quiet : Bool) (answers : List Answer) (a : Answer) → texts_of quiet answers ++ answer_text quiet a ≡ texts_of quiet (answers ++ a ∷ [])
texts_of-push quiet answers a = ap (λ t. texts_of quiet answers ++ t) (sym (append-nil (answer_text quiet a))) ∙ sym (flat_map-append (answer_text quiet) answers (a ∷ []))

-- a step of the session is one of the machine
pub performs_item : (care : Care) (u v : View) (session : Session) (old : Machine) (i : Item) (command : Command) (before now : Counts) (result : Result (Session × Answer) Failed) → i ≡ item.Command command → standing.Stands care u session old
    → ChangesAtMost (standing.folder_of session) command u v → before.removes ≤ now.removes → IfOk result (λ next. AreGoneSince (table_in (standing.folder_of session)) (table_in (standing.folder_of next.0)) v before now)
    → IfOk result (λ next. standing.Performs care u v next.0 old command next.1) → IfOk result (λ next. Performs care u v old i next.0 next.1 before now)
performs_item care u v session old i command before now (Ok next) is stands changes removes gone p = record {
  new = p.new;
  step = subst (λ j. Step care old j next.1 p.new) (sym is) (inl p.step);
  stands = p.stands;
  since = p.since;
  leaves = changes_leave care u v session old command stands changes;
  removes = removes;
  gone = gone_told care u v session next.0 old p.new before now stands p.stands gone;
}
performs_item care u v session old i command before now (Err failed) is stands changes removes gone p = tt

-- one that was refused as it was read changes nothing
pub refused_item : (care : Care) (v : View) (old : Machine) (i : Item) (why : Refusal) (session : Session) (now : Counts) → i ≡ item.Refused why → standing.Stands care v session old
    → Performs care v v old i session (answer.Refused why) now now
refused_item care v old i why session now is stands = record {
  new = old;
  step = subst (λ j. Step care old j (answer.Refused why) old) (sym is) (inl refl);
  stands = stands;
  since = since_none care v old.state stands.base.left;
  leaves = λ file free. refl;
  removes = omega arith;
  gone = none_went old.state v now now;
}

pub breaks_item : (care : Care) (u v : View) (session : Session) (old : Machine) (i : Item) (command : Command) (before now : Counts) (result : Result (Session × Answer) Failed) → i ≡ item.Command command → standing.Stands care u session old
    → ChangesAtMost (standing.folder_of session) command u v → before.removes ≤ now.removes → OnErr result (standing.Breaks care u v old command) → OnErr result (Breaks care u v old i before now)
breaks_item care u v session old i command before now (Ok next) is stands changes removes p = tt
breaks_item care u v session old i command before now (Err failed) is stands changes removes p = record {
  answer = p.answer;
  new = p.new;
  step = subst (λ j. Step care old j p.answer p.new) (sym is) (inl p.step);
  recorded = p.recorded;
  left = p.left;
  since = p.since;
  leaves = changes_leave care u v session old command stands changes;
  removes = removes;
}

-- the commands are answered, and the answers come to this
abbrev pub AnsweredWith : Found → View → View → Summary → List Item → Outside → Outside → Type 0
AnsweredWith found u v summary commands begun now = (a : Answered found u v commands begun now) × (summary ≡ summary_of a.answers)

-- nothing was taken
pub Progress-new : (found : Found) (u v : View) (reader : Lines) (session : Session) (summary : Summary) (quiet : Bool) (left written : Option (List ℕ)) (old new : Counts) → Stands reader [] → summary ≡ summary_of [] → standing.Stands found.care v session (without_jobs found.first) → Since found.care found.first found.other u v → new.reads ≡ old.reads → old.removes ≤ new.removes
    → Progress found u v reader session summary [] (shown quiet left written old) (shown quiet left written new)
Progress-new found u v reader session summary quiet left written old new reads counted stands since same removes = record {
  done = [];
  part = [];
  commands = [];
  answers = [];
  machine = without_jobs found.first;
  whole = refl;
  goes_on = λ more. refl;
  ends = λ more. refl;
  run = refl;
  stands = stands;
  since = reaches_loaded found u v since;
  reads = reads;
  quiet = refl;
  wrote = Appends-nil written;
  counted = counted;
  faults = rose_by_none old.reads new.reads same;
  free = λ file went. absurd went;
  removes = removes;
  gone = inr (λ file went. absurd went);
}

module _ (found : Found) (u v : View) (reader : Lines) (session : Session) (summary : Summary) (taken : List ℕ) (begun now : Outside) (at : Progress found u v reader session summary taken begun now) where
  -- more was taken, and no command ended in it
  pub Progress-more : (reader' : Lines) (piece : List ℕ) → ((before : List ℕ) → Stands reader before → Stands reader' (before ++ piece)) → Progress found u v reader' session summary (taken ++ piece) begun now
  Progress-more reader' piece reads = record {
    done = at.done;
    part = at.part ++ piece;
    commands = at.commands;
    answers = at.answers;
    machine = at.machine;
    whole = ap (λ t. t ++ piece) at.whole ∙ append_assoc at.done at.part piece;
    goes_on = at.goes_on;
    ends = at.ends;
    run = at.run;
    stands = at.stands;
    since = at.since;
    reads = reads at.part at.reads;
    quiet = at.quiet;
    wrote = at.wrote;
    counted = at.counted;
    faults = at.faults;
    free = at.free;
    removes = at.removes;
    gone = at.gone;
  }

  -- one answer more was written, and counted
  wrote_next : (now' : Outside) (answer : Answer) → Appends now.written now'.written (answer_text now.quiet answer) → Appends begun.written now'.written (texts_of begun.quiet (at.answers ++ answer ∷ []))
  wrote_next now' answer wrote =
      subst (Appends begun.written now'.written) (texts_of-push begun.quiet at.answers answer)
      (Appends-trans begun.written now.written now'.written _ _ at.wrote (subst (λ q. Appends now.written now'.written (answer_text q answer)) at.quiet wrote))

  counted_next : (summary' : Summary) (answer : Answer) → summary' ≡ together summary (of_answer answer) → summary' ≡ summary_of (at.answers ++ answer ∷ [])
  counted_next summary' answer adds = adds ∙ ap (λ s. together s (of_answer answer)) at.counted ∙ summary_of-push at.answers answer

  -- the bytes taken and what comes behind the command that ends in them
  joined : (piece more : List ℕ) → (taken ++ piece) ++ more ≡ at.done ++ ((at.part ++ piece) ++ more)
  joined piece more = ap (λ t. (t ++ piece) ++ more) at.whole ∙ ap (λ t. t ++ more) (append_assoc at.done at.part piece) ∙ append_assoc at.done (at.part ++ piece) more

  -- one command more, which the reader gave so
  module _ (spelled given : Item) (is_given : Given spelled given) where
    run_next : (new : Machine) (answer : Answer) → Step found.care at.machine given answer new → Run found.care (without_jobs found.first) (at.commands ++ spelled ∷ []) (at.answers ++ answer ∷ []) new
    run_next new answer step = Run-push found.care (without_jobs found.first) at.machine new at.commands at.answers spelled answer at.run (Step-spelled found.care at.machine new spelled given answer is_given step)

    since_next : (w : View) (new : Machine) (answer : Answer) → Step found.care at.machine given answer new → Since found.care at.machine.state new.state v w → Reaches found (at.commands ++ spelled ∷ []) (at.answers ++ answer ∷ []) u w
    since_next w new answer step since = reaches_on found u v w at.commands at.answers spelled answer at.machine new at.run (run_next new answer step) at.since since

    -- what was answered so far, and this answer
    faults_next : (now' : Outside) (answer : Answer) → IsSparingItem spelled → (IsSparingItem given → RoseBy (fault_in answer) now.counts.reads now'.counts.reads) → RoseBy (faults_in (at.answers ++ answer ∷ [])) begun.counts.reads now'.counts.reads
    faults_next now' answer sparing rose = faults-push at.answers answer begun.counts.reads now.counts.reads now'.counts.reads at.faults (rose (sparing_given spelled given is_given sparing))

    -- what went so far, and with this command
    abbrev WentSoFar : (new : Machine) (answer : Answer) → Step found.care at.machine given answer new → ℕ → Type 0
    WentSoFar new answer step = WentIn found.care (without_jobs found.first) (at.commands ++ spelled ∷ []) (at.answers ++ answer ∷ []) new (run_next new answer step)

    went_before : (new : Machine) (answer : Answer) (step : Step found.care at.machine given answer new) (file : ℕ) → WentSoFar new answer step file
        → WentIn found.care (without_jobs found.first) at.commands at.answers at.machine at.run file ⊎ Went at.machine.state new.state file
    unfolding run_next
    went_before new answer step file went = elim (went_push found.care (without_jobs found.first) at.machine new at.commands at.answers spelled answer at.run (Step-spelled found.care at.machine new spelled given answer is_given step) file went) [
      | inl before ↦ inl before
      | inr last ↦ inr last
    ]

    free_next : (new : Machine) (answer : Answer) (step : Step found.care at.machine given answer new) (file : ℕ) → WentSoFar new answer step file → IsFree (table new.state) file
    free_next new answer step file went = elim (went_before new answer step file went) [
      | inl before ↦ (step_free found.care at.machine new given answer step).keeps file (at.free file before)
      | inr last ↦ (step_free found.care at.machine new given answer step).loses (is_table found.care v session at.machine at.stands) file last
    ]

    gone_next : (w : View) (now' : Outside) (new : Machine) (answer : Answer) (step : Step found.care at.machine given answer new) → LeavesFree at.machine.state v w → now.counts.removes ≤ now'.counts.removes
        → AreGone (Went at.machine.state new.state) w now.counts now'.counts → AreGone (WentSoFar new answer step) w begun.counts now'.counts
    gone_next w now' new answer step leaves removes gone =
        let so_far : ℕ → Type 0 = WentIn found.care (without_jobs found.first) at.commands at.answers at.machine at.run in
        gone_weaker (WentSoFar new answer step) (λ file. so_far file ⊎ Went at.machine.state new.state file) w begun.counts now'.counts (went_before new answer step)
        (gone_on so_far (Went at.machine.state new.state) at.machine.state v w begun.counts now.counts now'.counts at.free leaves at.removes removes at.gone gone)

  module _ (piece : List ℕ) (given : Item) (ended : Completes (at.part ++ piece) given) where
    items-ended : (more : List ℕ) → items ((taken ++ piece) ++ more) ≡ (at.commands ++ ended.spelled ∷ []) ++ items more
    items-ended more =
        ap items (joined piece more) ∙ at.goes_on ((at.part ++ piece) ++ more) ∙ ap (λ i. at.commands ++ i) (ended.goes_on more) ∙ sym (append_assoc at.commands (ended.spelled ∷ []) (items more))

    all_items-ended : (more : List ℕ) → all_items ((taken ++ piece) ++ more) ≡ (at.commands ++ ended.spelled ∷ []) ++ all_items more
    all_items-ended more =
        ap all_items (joined piece more) ∙ at.ends ((at.part ++ piece) ++ more) ∙ ap (λ i. at.commands ++ i) (ended.ends more) ∙ sym (append_assoc at.commands (ended.spelled ∷ []) (all_items more))

    -- a command ended, and was answered
    pub Progress-command : (w : View) (reader' : Lines) (session' : Session) (summary' : Summary) (now' : Outside) → Stands reader' [] → Sends found.care v w at.machine given session' summary summary' now now' → Progress found u w reader' session' summary' (taken ++ piece) begun now'
    Progress-command w reader' session' summary' now' reads sent = record {
      done = taken ++ piece;
      part = [];
      commands = at.commands ++ ended.spelled ∷ [];
      answers = at.answers ++ sent.answer ∷ [];
      machine = sent.performs.new;
      whole = sym (append-nil (taken ++ piece));
      goes_on = items-ended;
      ends = all_items-ended;
      run = run_next ended.spelled given ended.is_given sent.performs.new sent.answer sent.performs.step;
      stands = sent.performs.stands;
      since = since_next ended.spelled given ended.is_given w sent.performs.new sent.answer sent.performs.step sent.performs.since;
      reads = reads;
      quiet = sent.quiet ∙ at.quiet;
      wrote = wrote_next now' sent.answer sent.wrote;
      counted = counted_next summary' sent.answer sent.adds;
      faults = faults_next ended.spelled given ended.is_given now' sent.answer (sparing_front (at.part ++ piece) ended.spelled (ended.goes_on [])) sent.faults;
      gone = gone_next ended.spelled given ended.is_given w now' sent.performs.new sent.answer sent.performs.step sent.performs.leaves sent.performs.removes sent.performs.gone;
      free = free_next ended.spelled given ended.is_given sent.performs.new sent.answer sent.performs.step;
      removes = omega (arith, at.removes, sent.performs.removes);
    }

    -- a command ended, and its answer could not be written whole
    pub AnsweredInPart-command : (w : View) (now' : Outside) (more : List ℕ) → SendsInPart found.care v w at.machine given now now' → AnsweredInPart found u w (items ((taken ++ piece) ++ more)) begun now'
    AnsweredInPart-command w now' more sent = record {
      performed = at.commands ++ ended.spelled ∷ [];
      others = items more;
      first = items-ended more;
      answers = at.answers;
      last = sent.answer;
      machine = sent.performs.new;
      run = run_next ended.spelled given ended.is_given sent.performs.new sent.answer sent.performs.step;
      part = sent.sent.part;
      rest = sent.sent.rest;
      last_text = subst (λ q. answer_text q sent.answer ≡ sent.sent.part ++ sent.sent.rest) at.quiet sent.sent.whole;
      lacks = sent.sent.lacks;
      wrote = Appends-trans begun.written now.written now'.written _ _ at.wrote sent.sent.wrote;
      faults = faults_next ended.spelled given ended.is_given now' sent.answer (sparing_front (at.part ++ piece) ended.spelled (ended.goes_on [])) sent.faults;
      gone = gone_next ended.spelled given ended.is_given w now' sent.performs.new sent.answer sent.performs.step sent.performs.leaves sent.performs.removes sent.performs.gone;
      left = sent.performs.stands.base.left;
      since = since_next ended.spelled given ended.is_given w sent.performs.new sent.answer sent.performs.step sent.performs.since;
    }

    -- a command ended, and the store failed in it
    pub BrokenOff-command : (w : View) (now' : Outside) (more : List ℕ) → BreaksOff found.care v w at.machine given now now' → BrokenOff found u w (items ((taken ++ piece) ++ more)) begun now'
    BrokenOff-command w now' more broke = record {
      performed = at.commands;
      broken = ended.spelled;
      others = items more;
      first = items-ended more ∙ append_assoc at.commands (ended.spelled ∷ []) (items more);
      answers = at.answers;
      machine = at.machine;
      run = at.run;
      wrote = subst (λ o. Appends begun.written o (texts_of begun.quiet at.answers)) (sym broke.wrote) at.wrote;
      faults = rose_by_since (faults_in at.answers) begun.counts.reads now.counts.reads now'.counts.reads at.faults broke.counts;
      gone = gone_still (WentIn found.care (without_jobs found.first) at.commands at.answers at.machine at.run) at.machine.state v w begun.counts now.counts now'.counts at.free broke.breaks.leaves broke.breaks.removes at.gone;
      answer = broke.breaks.answer;
      new = broke.breaks.new;
      step = Step-spelled found.care at.machine broke.breaks.new ended.spelled given broke.breaks.answer ended.is_given broke.breaks.step;
      recorded = broke.breaks.recorded;
      left = broke.breaks.left;
      since = since_next ended.spelled given ended.is_given w broke.breaks.new broke.breaks.answer broke.breaks.step broke.breaks.since;
    }

  -- these are the commands that are ended
  all_answered : {commands : List Item} → at.commands ≡ commands → AnsweredWith found u v summary commands begun now
  all_answered same = subst (λ c. AnsweredWith found u v summary c begun now) same (record { answers = at.answers; machine = at.machine; run = at.run; wrote = at.wrote; faults = at.faults; gone = at.gone; left = at.stands.base.left; since = at.since }, at.counted)

  -- the commands that are ended are all that the bytes taken spell so far
  pub Answered-taken : Answered found u v (items taken) begun now
  Answered-taken =
      let quiet : items at.part ≡ [] = ap items (sym (append-nil at.part)) ∙ items-unbroken _ _ at.part [] _ at.reads (λ k d h. absurd (omega (arith, h))) in
      let all : items taken ≡ at.commands = ap items at.whole ∙ at.goes_on at.part ∙ ap (λ i. at.commands ++ i) quiet ∙ append-nil at.commands in
      (all_answered (sym all)).0

  all_items-taken : all_items taken ≡ at.commands ++ all_items at.part
  all_items-taken = ap all_items at.whole ∙ at.ends at.part

  -- the script ends, and leaves no command unfinished
  pub Answered-end : ((before : List ℕ) → Stands reader before → all_items before ≡ []) → AnsweredWith found u v summary (all_items taken) begun now
  Answered-end none =
      let all : all_items taken ≡ at.commands = all_items-taken ∙ ap (λ i. at.commands ++ i) (none at.part at.reads) ∙ append-nil at.commands in
      all_answered (sym all)

  module _ (given : Item) (last : (before : List ℕ) → Stands reader before → (spelled : Item) × Given spelled given × (all_items before ≡ spelled ∷ [])) where
    all_items-last : all_items taken ≡ at.commands ++ (last at.part at.reads).0 ∷ []
    all_items-last = all_items-taken ∙ ap (λ i. at.commands ++ i) (last at.part at.reads).2

    -- the script ends with a command, which was answered
    pub Answered-last : (w : View) (session' : Session) (summary' : Summary) (now' : Outside) → Sends found.care v w at.machine given session' summary summary' now now' → AnsweredWith found u w summary' (all_items taken) begun now'
    Answered-last w session' summary' now' sent = subst (λ c. AnsweredWith found u w summary' c begun now') (sym all_items-last) (
      record {
        answers = at.answers ++ sent.answer ∷ [];
        machine = sent.performs.new;
        run = run_next (last at.part at.reads).0 given (last at.part at.reads).1 sent.performs.new sent.answer sent.performs.step;
        wrote = wrote_next now' sent.answer sent.wrote;
        faults = faults_next (last at.part at.reads).0 given (last at.part at.reads).1 now' sent.answer (sparing_last at.part (last at.part at.reads).0 (last at.part at.reads).2) sent.faults;
        gone = gone_next (last at.part at.reads).0 given (last at.part at.reads).1 w now' sent.performs.new sent.answer sent.performs.step sent.performs.leaves sent.performs.removes sent.performs.gone;
        left = sent.performs.stands.base.left;
        since = since_next (last at.part at.reads).0 given (last at.part at.reads).1 w sent.performs.new sent.answer sent.performs.step sent.performs.since;
      },
      counted_next summary' sent.answer sent.adds,
    )

    pub AnsweredInPart-last : (w : View) (now' : Outside) → SendsInPart found.care v w at.machine given now now' → AnsweredInPart found u w (all_items taken) begun now'
    AnsweredInPart-last w now' sent = record {
      performed = at.commands ++ (last at.part at.reads).0 ∷ [];
      others = [];
      first = all_items-last ∙ sym (append-nil (at.commands ++ (last at.part at.reads).0 ∷ []));
      answers = at.answers;
      last = sent.answer;
      machine = sent.performs.new;
      run = run_next (last at.part at.reads).0 given (last at.part at.reads).1 sent.performs.new sent.answer sent.performs.step;
      part = sent.sent.part;
      rest = sent.sent.rest;
      last_text = subst (λ q. answer_text q sent.answer ≡ sent.sent.part ++ sent.sent.rest) at.quiet sent.sent.whole;
      lacks = sent.sent.lacks;
      wrote = Appends-trans begun.written now.written now'.written _ _ at.wrote sent.sent.wrote;
      faults = faults_next (last at.part at.reads).0 given (last at.part at.reads).1 now' sent.answer (sparing_last at.part (last at.part at.reads).0 (last at.part at.reads).2) sent.faults;
      gone = gone_next (last at.part at.reads).0 given (last at.part at.reads).1 w now' sent.performs.new sent.answer sent.performs.step sent.performs.leaves sent.performs.removes sent.performs.gone;
      left = sent.performs.stands.base.left;
      since = since_next (last at.part at.reads).0 given (last at.part at.reads).1 w sent.performs.new sent.answer sent.performs.step sent.performs.since;
    }

    pub BrokenOff-last : (w : View) (now' : Outside) → BreaksOff found.care v w at.machine given now now' → BrokenOff found u w (all_items taken) begun now'
    BrokenOff-last w now' broke =
        let one = last at.part at.reads in
        record {
          performed = at.commands;
          broken = one.0;
          others = [];
          first = all_items-last;
          answers = at.answers;
          machine = at.machine;
          run = at.run;
          wrote = subst (λ o. Appends begun.written o (texts_of begun.quiet at.answers)) (sym broke.wrote) at.wrote;
          faults = rose_by_since (faults_in at.answers) begun.counts.reads now.counts.reads now'.counts.reads at.faults broke.counts;
          gone = gone_still (WentIn found.care (without_jobs found.first) at.commands at.answers at.machine at.run) at.machine.state v w begun.counts now.counts now'.counts at.free broke.breaks.leaves broke.breaks.removes at.gone;
          answer = broke.breaks.answer;
          new = broke.breaks.new;
          step = Step-spelled found.care at.machine broke.breaks.new one.0 given broke.breaks.answer one.1 broke.breaks.step;
          recorded = broke.breaks.recorded;
          left = broke.breaks.left;
          since = since_next (last at.part at.reads).0 given (last at.part at.reads).1 w broke.breaks.new broke.breaks.answer broke.breaks.step broke.breaks.since;
        }
