-- Runs in which no call fails, over a folder whose files hold their bytes.
use Rattle.std.proofs.Common.{◌≡◌, ◌≤◌, ℕ, zero, suc, List, [], ◌∷◌, ◌++◌, length, length-append, Option, None, Some, refl, ap, subst, inl, inr, arith}
use Rattle.std.specs.List.{AllByRecursion}
use Rattle.std.specs.Io.KnownBytes.{Consumes}
use Rattle.std.proofs.lemmas.List.Sums.{sum_by-cons}
use Rattle.outside_traits.specs.Counts.{Rose}
use Rattle.outside_traits.specs.View.{View}
use Rattle.script_text.specs.Script.{all_items}
use Rattle.script_text.specs.declared.answer.Answer.{Answer}
use Rattle.script_text.specs.declared.answer.Answer.TheVariants as answer
use Rattle.script_text.specs.declared.answer.Refusal.TheVariants as refusal
use Rattle.script_text.specs.declared.item.Item.{Item}
use Rattle.script_text.specs.declared.item.Item.TheVariants as item
use Rattle.folder.specs.Sound.{Whole}
use Rattle.folder.specs.State.{State}
use Rattle.folder.specs.Left.{IsLeft}
use Rattle.folder.specs.Replay.{StopsReading}
use Rattle.folder.proofs.Loading.{reads_or_stops}
use Rattle.folder.proofs.Freed.{rose_before}
use Rattle.session.specs.Machine.{Machine, without_jobs}
use Rattle.nectar_top.specs.Crash.{intact}
use Rattle.nectar_top.specs.Loading.{HasLoadingCause}
use Rattle.nectar_top.specs.Machine.{Step, Run}
use Rattle.nectar_top.specs.Outside.{Outside, Faults, NoneFell, NoneFailed}
use Rattle.nectar_top.specs.Refusals.{IsSparing, IsSparingItem, fault_in, faults_in, RoseBy}
use Rattle.nectar_top.specs.Run.{longest_script, IsShortScript, IsDone, IsComplete}
use Rattle.nectar_top.specs.Turns.{Ends, HasCause}
use Rattle.nectar_top.specs.declared.exit.Exit.{Exit}
use Rattle.nectar_top.specs.declared.exit.Exit.TheVariants as exit
use Rattle.nectar_top.proofs.FaultLemmas.{all_items_are_sparing, not_a_fault}
use Rattle.session.proofs.SparingLemmas.{refused_spares, step_spares}

-- ---- answers

step_sparing : (old new : Machine) (i : Item) (a : Answer) → Step Whole old i a new → IsSparingItem i → fault_in a ≡ 0 → IsSparing a
step_sparing old new (item.Command command) (answer.Refused why) (inl step) sparing none = step_spares old new command why step (λ is. not_a_fault (answer.Refused why) none (ap answer.Refused is))
step_sparing old new (item.Command command) (answer.Refused why) (inr is) sparing none = refused_spares old why refusal.Memory new is tt
step_sparing old new (item.Refused w) (answer.Refused why) (inl is) sparing none = refused_spares old why w new is sparing
step_sparing old new (item.Refused w) (answer.Refused why) (inr is) sparing none = refused_spares old why refusal.Memory new is tt
step_sparing old new i answer.Ok step sparing none = tt
step_sparing old new i (answer.Held n) step sparing none = tt
step_sparing old new i (answer.Ready n) step sparing none = tt
step_sparing old new i (answer.Left n) step sparing none = tt
step_sparing old new i (answer.Result rows used kept read) step sparing none = tt
step_sparing old new i (answer.Evicted ids bytes) step sparing none = tt
step_sparing old new i (answer.Entries summaries) step sparing none = tt
step_sparing old new i (answer.Catalog line) step sparing none = tt

run_sparing : (old new : Machine) (commands : List Item) (answers : List Answer) → Run Whole old commands answers new → AllByRecursion IsSparingItem commands → faults_in answers ≡ 0 → AllByRecursion IsSparing answers
run_sparing old new [] [] run sparing none = tt
run_sparing old new [] (a ∷ answers) run sparing none = absurd run
run_sparing old new (c ∷ commands) [] run sparing none = absurd run
run_sparing old new (c ∷ commands) (a ∷ answers) run sparing none =
    let sum = sum_by-cons fault_in a answers in
    (step_sparing old run.0 c a run.1 sparing.0 (omega (arith, none, sum)), run_sparing run.0 new commands answers run.2 sparing.1 (omega (arith, none, sum)))

no_faults : (n a b : ℕ) → RoseBy n a b → (Rose a b → ⊥) → n ≡ 0
no_faults zero a b rose none = refl
no_faults (suc n) a b rose none = absurd (none (omega (arith, rose.0)))

-- ---- exits

-- as many bytes as the limit, and one more
pub too_long : (left left' : Option (List ℕ)) (input taken : List ℕ) (byte : ℕ) → left ≡ Some input → Consumes left left' (taken ++ byte ∷ []) → length taken ≡ longest_script → length input ≤ longest_script → ⊥
too_long left None input taken byte is took full within = absurd (subst (λ (o : Option (List ℕ)). Consumes o None (taken ++ byte ∷ [])) is took)
too_long left (Some rest) input taken byte is took full within =
    let whole : input ≡ (taken ++ byte ∷ []) ++ rest = subst (λ (o : Option (List ℕ)). Consumes o (Some rest) (taken ++ byte ∷ [])) is took in
    omega (arith, ap length whole, length-append (taken ++ byte ∷ []) rest, length-append taken (byte ∷ []), full, within)

pub done_spares : (s : State) (u v : View) (begun now : Outside) (done : IsDone (intact s) u v begun now) → (Rose begun.counts.reads now.counts.reads → ⊥) → AllByRecursion IsSparing done.answered.answers
done_spares s u v begun now done none =
    run_sparing (without_jobs s) done.answered.machine (all_items done.input) done.answered.answers done.answered.run (all_items_are_sparing done.input)
    (no_faults (faults_in done.answered.answers) begun.counts.reads now.counts.reads done.answered.faults none)

pub complete_done : (s : State) (u v : View) (begun now : Outside) → IsDone (intact s) u v begun now → (Rose begun.counts.reads now.counts.reads → ⊥) → IsComplete s u v begun now
complete_done s u v begun now done none = record { done = done; sparing = done_spares s u v begun now done none }

-- a run that serves commands is done
pub complete_served : (s : State) (u v : View) (e : Exit) (begun now : Outside) (input : List ℕ) (old mid new : Faults) → Ends (intact s) u v e begun now → IsShortScript begun.left input
    → NoneFell old mid → HasCause e mid new → NoneFailed old new → ⊥
complete_served s u v exit.SourceFault begun now input old mid new ends short fell cause none = none.source (rose_before old.source mid.source new.source fell.source cause.0)
complete_served s u v exit.SinkFault begun now input old mid new ends short fell cause none = none.sink (rose_before old.sink mid.sink new.sink fell.sink cause.0)
complete_served s u v exit.StoreFault begun now input old mid new ends short fell cause none = none.writes (rose_before old.store.writes mid.store.writes new.store.writes fell.store.writes cause)
complete_served s u v exit.ScriptLimit begun now input old mid new ends short fell cause none = too_long begun.left now.left input ends.taken ends.byte short.0 ends.took ends.full short.1
complete_served s u v exit.Done begun now input old mid new ends short fell cause none = ends
complete_served s u v exit.Usage begun now input old mid new ends short fell cause none = ends
complete_served s u v exit.Memory begun now input old mid new ends short fell cause none = ends
complete_served s u v (exit.NotAStore file at) begun now input old mid new ends short fell cause none = ends

-- a run that is ended before wants memory
pub complete_unserved : (s : State) (u : View) (e : Exit) (old new : Faults) → HasLoadingCause e old.store new.store → NoneFailed old new → IsLeft Whole u s s
    → ((file at : ℕ) → e ≡ exit.NotAStore file at → StopsReading u.files file at) → e ≡ exit.Memory
complete_unserved s u exit.Memory old new cause none left stops = refl
complete_unserved s u exit.StoreFault old new cause none left stops = absurd (elim cause [ inl reads ↦ none.reads reads | inr writes ↦ none.writes writes ])
complete_unserved s u (exit.NotAStore file at) old new cause none left stops = absurd (reads_or_stops u.files _ file at left.read.reading (stops file at refl))
complete_unserved s u exit.Done old new cause none left stops = absurd cause
complete_unserved s u exit.SourceFault old new cause none left stops = absurd cause
complete_unserved s u exit.SinkFault old new cause none left stops = absurd cause
complete_unserved s u exit.ScriptLimit old new cause none left stops = absurd cause
complete_unserved s u exit.Usage old new cause none left stops = absurd cause
