-- What stands at the exits of a run: of the source's script, and of a generated one.
use Rattle.std.proofs.Common.{◌≡◌, ◌⊎◌, ◌≤◌, ◌∙◌, ℕ, Bool, true, List, [], ◌++◌, length, append-nil, Option, None, Some, refl, sym, ap, subst, inl, inr, arith}
use Rattle.std.specs.Prelude.{IsSome}
use Rattle.std.specs.List.{AllByRecursion}
use Rattle.std.specs.Io.KnownBytes.{Consumes, IsAtEnd, Appends}
use Rattle.outside_traits.specs.Counts.{Rose}
use Rattle.outside_traits.specs.View.{View, Counts}
use Rattle.folder.specs.State.{State}
use Rattle.script_text.specs.Script.{items, all_items}
use Rattle.script_text.specs.declared.answer.Answer.{Answer}
use Rattle.script_text.specs.declared.item.Item.{Item}
use Rattle.workload_gen.specs.Script.{generated_script}
use Rattle.nectar_top.specs.Crash.{Found, intact}
use Rattle.nectar_top.specs.Exits.{IsUntaken, EndsOfScript, let_go, IsSummed, IsSummedInPart, IsGeneratedBroken, IsSummedWhole, EndsOfGenerated, IsOfGenerated, CompletesFor}
use Rattle.nectar_top.specs.Loading.{HasLoadingCause}
use Rattle.nectar_top.specs.Outside.{Outside, shown, Faults, faults, NoneFailed}
use Rattle.nectar_top.specs.Refusals.{IsSparing}
use Rattle.nectar_top.specs.Run.{longest_script, Answered, BrokenOff, IsBroken}
use Rattle.nectar_top.specs.Sending.{SentInPart}
use Rattle.nectar_top.specs.Summary.{summary_of, summary_text}
use Rattle.nectar_top.specs.Turns.{IsDoneWith, Ends, HasCause}
use Rattle.nectar_top.specs.declared.exit.Exit.{Exit}
use Rattle.nectar_top.specs.declared.exit.Exit.TheVariants as exit
use Rattle.nectar_top.specs.declared.summary.Summary.{Summary}
use Rattle.nectar_top.proofs.CompleteLemmas.{too_long, done_spares}

-- ---- the script of the source

pub served_ends : (found : Found) (u v : View) (e : Exit) (begun now : Outside) → Ends found u v e begun now → EndsOfScript found u v e begun now
served_ends found u v exit.SourceFault begun now ends = ends
served_ends found u v exit.ScriptLimit begun now ends = ends
served_ends found u v exit.SinkFault begun now ends = ends
served_ends found u v exit.StoreFault begun now ends = inl ends
served_ends found u v exit.Done begun now ends = absurd ends
served_ends found u v exit.Usage begun now ends = absurd ends
served_ends found u v exit.Memory begun now ends = absurd ends
served_ends found u v (exit.NotAStore file at) begun now ends = absurd ends

pub unloaded_ends : (found : Found) (u v : View) (e : Exit) (begun now : Outside) (a b : Counts) → HasLoadingCause e a b → IsUntaken found u v begun now → EndsOfScript found u v e begun now
unloaded_ends found u v exit.StoreFault begun now a b cause untaken = inr untaken
unloaded_ends found u v exit.Memory begun now a b cause untaken = untaken
unloaded_ends found u v (exit.NotAStore file at) begun now a b cause untaken = untaken
unloaded_ends found u v exit.Done begun now a b cause untaken = absurd cause
unloaded_ends found u v exit.Usage begun now a b cause untaken = absurd cause
unloaded_ends found u v exit.SourceFault begun now a b cause untaken = absurd cause
unloaded_ends found u v exit.SinkFault begun now a b cause untaken = absurd cause
unloaded_ends found u v exit.ScriptLimit begun now a b cause untaken = absurd cause

-- ---- a generated script

-- a count that is 0 hasn't risen
none_rose : Rose 0 0 → ⊥
none_rose rose = omega (arith, rose)

-- why a run ended that isn't done: a call failed, or the folder wasn't loaded, and the source and the sink are as they were
abbrev pub HasRunCause : Type 0 → Type 0 → Exit → Faults → Faults → Type 0
HasRunCause Source Sink e old new = HasCause e old new ⊎ (Source × Sink × HasLoadingCause e old.store new.store)

-- so does one whose source and sink don't fail
module _ (U V : Type 0) (c c' : Counts) where
  pub of_generated : (e : Exit) → HasRunCause U V e (faults 0 0 c) (faults 0 0 c') → IsOfGenerated e
  of_generated exit.SourceFault (inl cause) = absurd (none_rose cause.0)
  of_generated exit.SourceFault (inr cause) = absurd cause.2
  of_generated exit.Usage (inl cause) = absurd cause
  of_generated exit.Usage (inr cause) = absurd cause.2
  of_generated _ cause = tt

  pub not_done : (e : Exit) → HasRunCause U V e (faults 0 0 c) (faults 0 0 c') → e ≡ exit.Done → ⊥
  not_done e cause is = by (subst (λ x. HasRunCause U V x (faults 0 0 c) (faults 0 0 c')) is cause)
    where
      by : HasRunCause U V exit.Done (faults 0 0 c) (faults 0 0 c') → ⊥
      by (inl none) = none
      by (inr none) = none.2

  pub not_sink : (e : Exit) → HasRunCause U V e (faults 0 0 c) (faults 0 0 c') → e ≡ exit.SinkFault → ⊥
  not_sink e cause is = by (subst (λ x. HasRunCause U V x (faults 0 0 c) (faults 0 0 c')) is cause)
    where
      by : HasRunCause U V exit.SinkFault (faults 0 0 c) (faults 0 0 c') → ⊥
      by (inl rose) = none_rose rose.0
      by (inr none) = none.2

-- all bytes of a source that tells them were taken
all_taken : (script : List ℕ) (left : Option (List ℕ)) (input : List ℕ) → Consumes (Some script) left input → IsAtEnd left → input ≡ script
all_taken script None input took at_end = absurd took
all_taken script (Some rest) input took at_end = sym (took ∙ ap (λ r. input ++ r) at_end ∙ append-nil input)

module _ (number : ℕ) (script : List ℕ) (generated : script ≡ generated_script number) (found : Found) (u v : View) (c c' : Counts) (left : Option (List ℕ)) (quiet : Bool) (source : Option (List ℕ)) (w w' : Option (List ℕ)) where
  -- what the run of the script shows, and what is seen of it
  abbrev begun : Outside
  begun = shown true (Some script) None c

  abbrev now : Outside
  now = shown true left None c'

  abbrev seen : Outside
  seen = shown quiet source w c

  abbrev seen' : Outside
  seen' = shown quiet source w' c'

  beside : (commands : List Item) → Answered found u v commands begun now → Answered found u v commands (let_go seen) (let_go seen')
  beside commands a = record { answers = a.answers; machine = a.machine; run = a.run; wrote = tt; faults = a.faults; gone = a.gone; left = a.left; since = a.since }

  -- the commands are those of the whole script, their answers come to this, and something is true of them
  abbrev AnsweredAll : Summary → (List Answer → Type 0) → Type 0
  AnsweredAll summary Are = (a : Answered found u v (all_items (generated_script number)) (let_go seen) (let_go seen')) × (summary ≡ summary_of a.answers) × Are a.answers

  answered_all : (summary : Summary) (Are : List Answer → Type 0) (is : IsDoneWith found u v summary begun now) → Are is.0.answered.answers → AnsweredAll summary Are
  unfolding beside
  answered_all summary Are is are =
      subst (λ i. (a : Answered found u v (all_items i) (let_go seen) (let_go seen')) × (summary ≡ summary_of a.answers) × Are a.answers) (all_taken script left is.0.input is.0.took is.0.at_end ∙ generated)
      (beside (all_items is.0.input) is.0.answered, is.1, are)

  pub summed : (summary : Summary) → IsDoneWith found u v summary begun now → Appends w w' (summary_text summary) → IsSummed number found u v seen seen'
  summed summary is wrote =
      let all = answered_all summary (λ answers. Unit {0}) is tt in
      record { answered = all.0; wrote = subst (λ s. Appends w w' (summary_text s)) all.1 wrote }

  pub summed_in_part : (summary : Summary) → IsDoneWith found u v summary begun now → SentInPart w w' (summary_text summary) → IsSummedInPart number found u v seen seen'
  summed_in_part summary is sent =
      let all = answered_all summary (λ answers. Unit {0}) is tt in
      record { answered = all.0; sent = subst (λ s. SentInPart w w' (summary_text s)) all.1 sent }

  beside_broken : (commands : List Item) → BrokenOff found u v commands begun now → BrokenOff found u v commands (let_go seen) (let_go seen')
  beside_broken commands b = record {
    performed = b.performed;
    broken = b.broken;
    others = b.others;
    first = b.first;
    answers = b.answers;
    machine = b.machine;
    run = b.run;
    wrote = tt;
    faults = b.faults;
    gone = b.gone;
    answer = b.answer;
    new = b.new;
    step = b.step;
    recorded = b.recorded;
    left = b.left;
    since = b.since;
  }

  -- the script is what was taken, and the rest
  rest_of : (script : List ℕ) (left : Option (List ℕ)) (taken : List ℕ) → Consumes (Some script) left taken → (others : List ℕ) × (script ≡ taken ++ others) × (IsAtEnd left → others ≡ [])
  rest_of script None taken took = absurd took
  rest_of script (Some rest) taken took = (rest, took, λ at_end. at_end)

  generated_broken : IsBroken found u v begun now → w' ≡ w → IsGeneratedBroken number found u v seen seen'
  generated_broken is same =
      let rest = rest_of script left is.taken is.took in
      record {
        taken = is.taken;
        others = rest.0;
        whole = sym generated ∙ rest.1;
        answered = elim is.answered [
          | inl broken ↦ inl (beside_broken (items is.taken) broken)
          | inr broken ↦ inr (rest.2 broken.0, beside_broken (all_items is.taken) broken.1)
        ];
        written = same;
      }

  untaken : IsUntaken found u v begun now → w' ≡ w → IsUntaken found u v seen seen'
  untaken is same = record { left = refl; written = same; unloaded = is.unloaded }

  pub generated_ends : length script ≤ longest_script → (e : Exit) → EndsOfScript found u v e begun now → IsOfGenerated e → (e ≡ exit.Done → ⊥) → (e ≡ exit.SinkFault → ⊥) → w' ≡ w → EndsOfGenerated number found u v e seen seen'
  generated_ends short exit.StoreFault ends is done sink same = elim ends [
    | inl broken ↦ inl (generated_broken broken same)
    | inr unloaded ↦ inr (untaken unloaded same)
  ]
  generated_ends short exit.Memory ends is done sink same = untaken ends same
  generated_ends short (exit.NotAStore file at) ends is done sink same = untaken ends same
  generated_ends short exit.Done ends is done sink same = absurd (done refl)
  generated_ends short exit.SinkFault ends is done sink same = absurd (sink refl)
  generated_ends short exit.Usage ends is done sink same = absurd is
  generated_ends short exit.SourceFault ends is done sink same = absurd is
  generated_ends short exit.ScriptLimit ends is done sink same = absurd (too_long (Some script) left script ends.taken ends.byte refl ends.took ends.full short)

-- the same over a folder of one state whose files hold their bytes
pub summed_whole : (number : ℕ) (script : List ℕ) → script ≡ generated_script number → (s : State) (u v : View) (c c' : Counts) (left : Option (List ℕ)) (quiet : Bool) (source w w' : Option (List ℕ)) (summary : Summary)
    → IsDoneWith (intact s) u v summary (shown true (Some script) None c) (shown true left None c') → (Rose c.reads c'.reads → ⊥) → Appends w w' (summary_text summary) → IsSummedWhole number s u v (shown quiet source w c) (shown quiet source w' c')
summed_whole number script generated s u v c c' left quiet source w w' summary is none wrote =
    let all = answered_all number script generated (intact s) u v c c' left quiet source w w' summary (AllByRecursion IsSparing) is (done_spares s u v (shown true (Some script) None c) (shown true left None c') is.0 none) in
    record { summed = record { answered = all.0; wrote = subst (λ x. Appends w w' (summary_text x)) all.1 wrote }; sparing = all.2 }

-- no call of a source and a sink fails that count none
pub none_failed : (c c' : Counts) (source k k' : ℕ) → NoneFailed (faults source k c) (faults source k' c') → NoneFailed (faults 0 0 c) (faults 0 0 c')
none_failed c c' source k k' none = record { source = none_rose; sink = none_rose; reads = none.reads; writes = none.writes }

-- no number is asked for
pub not_some : (o : Option ℕ) → o ≡ None → IsSome o → ⊥
not_some (Some n) is some = absurd (cc)
not_some None is some = absurd (cc)

-- what completes a run is told by what is asked for
pub completes_at : (o p : Option ℕ) → o ≡ p → (s : State) (u v : View) (e : Exit) (begun now : Outside) → CompletesFor p s u v e begun now → CompletesFor o s u v e begun now
completes_at o p same s u v e begun now is = subst (λ (x : Option ℕ). CompletesFor x s u v e begun now) (sym same) is
