-- A run of the program from one read of the source to the next, and to its exit.
use Rattle.std.proofs.Common.{◌≡◌, ℕ, ◌≤◌, List, [], ◌∷◌, ◌++◌, length, take, drop, get_or, Option, Some, None, Result, Ok, Err, IfOk, IfErr, OnOk, Bool, IsTrue, refl, sym, ap, ◌∙◌, subst, append_assoc, append-nil, take-append-drop, inl, inr, arith}
use Rattle.std.specs.Io.KnownBytes.{Consumes, IsAtEnd}
use Rattle.std.proofs.KnownBytes.{Consumes-nil, Consumes-trans}
use Rattle.outside_traits.specs.Bytes.{KeepsOrForgets, Takes}
use Rattle.outside_traits.specs.View.{View, Counts}
use Rattle.script_text.specs.Reader.{Stands}
use Rattle.script_text.specs.Script.{items, all_items, Given, Completes}
use Rattle.script_text.specs.declared.item.Item.{Item}
use Rattle.script_text.specs.declared.lines.Lines.{Lines}
use Rattle.session.specs.Standing.{HoldsJobs}
use Rattle.session.specs.declared.session.Session.{Session}
use Rattle.nectar_top.specs.Crash.{Found}
use Rattle.nectar_top.specs.Outside.{Outside, shown, with_answer, Faults, NoneFell, NoWriteFailed}
use Rattle.nectar_top.specs.Progress.{Progress, Sends, Fails}
use Rattle.nectar_top.specs.Run.{longest_script, Answered, AnsweredInPart, BrokenOff}
use Rattle.nectar_top.specs.Turns.{Serving, IsDoneWith, Ends, HasCause}
use Rattle.nectar_top.specs.declared.exit.Exit.{Exit}
use Rattle.nectar_top.specs.declared.exit.Exit.TheVariants as exit
use Rattle.nectar_top.specs.declared.summary.Summary.{Summary}
use Rattle.nectar_top.proofs.ProgressLemmas.{AnsweredWith, Progress-more, Progress-command, AnsweredInPart-command, BrokenOff-command, Answered-taken, Answered-end, Answered-last, AnsweredInPart-last, BrokenOff-last}

-- what a failed read leaves
pub Takes-failed : (a b c : Option (List ℕ)) (bytes : List ℕ) → Consumes a b bytes → KeepsOrForgets b c → Takes a c bytes
Takes-failed None b c bytes p q = tt
Takes-failed (Some x) None c bytes p q = absurd p
Takes-failed (Some x) (Some y) None bytes p q = (y, p, tt)
Takes-failed (Some x) (Some y) (Some z) bytes p q = (y, p, q)

-- one byte
one_byte : (xs : List ℕ) → length xs ≡ 1 → xs ≡ get_or xs 0 0 ∷ []
one_byte [] e = absurd (omega (arith, e))
one_byte (x ∷ []) e = refl
one_byte (x ∷ y ∷ more) e = absurd (omega (arith, e))

-- nothing was read
pub Serving-new : (found : Found) (u v : View) (reader : Lines) (session : Session) (summary : Summary) (quiet : Bool) (left written : Option (List ℕ)) (old new : Counts) → Progress found u v reader session summary [] (shown quiet left written old) (shown quiet left written new)
    → Serving found u v reader session summary [] [] (shown quiet left written old) (shown quiet left written new)
Serving-new found u v reader session summary quiet left written old new progress = record { consumed = Consumes-nil left; progress = progress }

-- what is answered, and how far the run has come, does not speak of the source
Answered-beside : (found : Found) (u v : View) (commands : List Item) (begun : Outside) (quiet : Bool) (left left' written : Option (List ℕ)) (counts : Counts) → Answered found u v commands begun (shown quiet left written counts) → Answered found u v commands begun (shown quiet left' written counts)
Answered-beside found u v commands begun quiet left left' written counts a = record { answers = a.answers; machine = a.machine; run = a.run; wrote = a.wrote; faults = a.faults; gone = a.gone; left = a.left; since = a.since }

Progress-beside : (found : Found) (u v : View) (reader : Lines) (session : Session) (summary : Summary) (taken : List ℕ) (begun : Outside) (quiet : Bool) (left left' written : Option (List ℕ)) (counts : Counts) → Progress found u v reader session summary taken begun (shown quiet left written counts)
    → Progress found u v reader session summary taken begun (shown quiet left' written counts)
Progress-beside found u v reader session summary taken begun quiet left left' written counts p = record {
  done = p.done;
  part = p.part;
  commands = p.commands;
  answers = p.answers;
  machine = p.machine;
  whole = p.whole;
  goes_on = p.goes_on;
  ends = p.ends;
  run = p.run;
  stands = p.stands;
  since = p.since;
  reads = p.reads;
  quiet = p.quiet;
  wrote = p.wrote;
  counted = p.counted;
  faults = p.faults;
  free = p.free;
  removes = p.removes;
  gone = p.gone;
}

-- a read of the source, where all that came is served
module _ (found : Found) (u v : View) (reader : Lines) (session : Session) (summary : Summary) (served : List ℕ) (begun : Outside) (quiet : Bool) (left written : Option (List ℕ)) (counts : Counts) (at : Serving found u v reader session summary served [] begun (shown quiet left written counts)) where
  all : Consumes begun.left left served
  all = subst (Consumes begun.left left) (append-nil served) at.consumed

  -- more came
  pub Serving-read : (left' : Option (List ℕ)) (piece : List ℕ) → Consumes left left' piece → Serving found u v reader session summary served piece begun (shown quiet left' written counts)
  Serving-read left' piece consumed = record {
    consumed = Consumes-trans begun.left left left' served piece all consumed;
    progress = Progress-beside found u v reader session summary served begun quiet left left' written counts at.progress;
  }

  pub Ends-read : (left' : Option (List ℕ)) → length served ≤ longest_script → KeepsOrForgets left left' → Ends found u v exit.SourceFault begun (shown quiet left' written counts)
  Ends-read left' within kept = record {
    taken = served;
    took = Takes-failed begun.left left left' served all kept;
    within = within;
    answered = Answered-beside found u v (items served) begun quiet left left' written counts (Answered-taken found u v reader session summary served begun _ at.progress);
  }

  pub Ends-too_long : (left' : Option (List ℕ)) (bytes : List ℕ) → length served ≡ longest_script → length bytes ≡ 1 → Consumes left left' bytes → Ends found u v exit.ScriptLimit begun (shown quiet left' written counts)
  Ends-too_long left' bytes full one consumed = record {
    taken = served;
    byte = get_or bytes 0 0;
    took = subst (λ b. Consumes begun.left left' (served ++ b)) (one_byte bytes one) (Consumes-trans begun.left left left' served bytes all consumed);
    full = full;
    answered = Answered-beside found u v (items served) begun quiet left left' written counts (Answered-taken found u v reader session summary served begun _ at.progress);
  }

-- the server takes some of what came
module _ (found : Found) (u v : View) (reader : Lines) (session : Session) (summary : Summary) (served rest : List ℕ) (begun now : Outside) (at : Serving found u v reader session summary served rest begun now) where
  parted : (count : ℕ) → Consumes begun.left now.left ((served ++ take count rest) ++ drop count rest)
  parted count = subst (Consumes begun.left now.left) (ap (λ t. served ++ t) (sym (take-append-drop count rest)) ∙ sym (append_assoc served (take count rest) (drop count rest))) at.consumed

  -- no command ended
  pub Serving-more : (reader' : Lines) (count : ℕ) → ((before : List ℕ) → Stands reader before → Stands reader' (before ++ take count rest)) → Serving found u v reader' session summary (served ++ take count rest) (drop count rest) begun now
  Serving-more reader' count reads = record { consumed = parted count; progress = Progress-more found u v reader session summary served begun now at.progress reader' (take count rest) reads }

  module _ (w : View) (count : ℕ) (given : Item) (ended : Completes (at.progress.part ++ take count rest) given) where
    -- a command ended, and was answered
    pub Serving-command : (reader' : Lines) (session' : Session) (summary' : Summary) (written' : Option (List ℕ)) (counts' : Counts) → Stands reader' [] → Sends found.care v w at.progress.machine given session' summary summary' now (with_answer now written' counts')
        → Serving found u w reader' session' summary' (served ++ take count rest) (drop count rest) begun (with_answer now written' counts')
    Serving-command reader' session' summary' written' counts' reads sent = record {
      consumed = parted count;
      progress = Progress-command found u v reader session summary served begun now at.progress (take count rest) given ended w reader' session' summary' (with_answer now written' counts') reads sent;
    }

    -- the bytes of what was served and the rest
    whole : (served ++ take count rest) ++ drop count rest ≡ served ++ rest
    whole = append_assoc served (take count rest) (drop count rest) ∙ ap (λ t. served ++ t) (take-append-drop count rest)

    -- a command ended, and the run with it
    pub Ends-command : (exit : Exit) (written' : Option (List ℕ)) (counts' : Counts) → length (served ++ rest) ≤ longest_script → Fails exit found.care v w at.progress.machine given now (with_answer now written' counts') → Ends found u w exit begun (with_answer now written' counts')
    Ends-command exit.SinkFault written' counts' within sent = record {
      taken = served ++ rest;
      took = at.consumed;
      within = within;
      answered = inl (subst (λ t. AnsweredInPart found u w (items t) begun (with_answer now written' counts')) whole (AnsweredInPart-command found u v reader session summary served begun now at.progress (take count rest) given ended w (with_answer now written' counts') (drop count rest) sent));
    }
    Ends-command exit.StoreFault written' counts' within broke = record {
      taken = served ++ rest;
      took = at.consumed;
      within = within;
      answered = inl (subst (λ t. BrokenOff found u w (items t) begun (with_answer now written' counts')) whole (BrokenOff-command found u v reader session summary served begun now at.progress (take count rest) given ended w (with_answer now written' counts') (drop count rest) broke));
    }
    Ends-command _ written' counts' within failed = absurd failed

-- the script ends, and all of it is served
module _ (found : Found) (u v : View) (reader : Lines) (session : Session) (summary : Summary) (served : List ℕ) (begun now : Outside) (at : Serving found u v reader session summary served [] begun now) (at_end : IsAtEnd now.left) (within : length served ≤ longest_script) where
  taken_all : Consumes begun.left now.left served
  taken_all = subst (Consumes begun.left now.left) (append-nil served) at.consumed

  done_with : (w : View) (summary' : Summary) (now' : Outside) → now'.left ≡ now.left → AnsweredWith found u w summary' (all_items served) begun now' → IsDoneWith found u w summary' begun now'
  done_with w summary' now' same a = (
    record {
      input = served;
      took = subst (λ o. Consumes begun.left o served) (sym same) taken_all;
      at_end = subst IsAtEnd (sym same) at_end;
      within = within;
      answered = a.0;
    },
    a.1,
  )

  pub Done-none : ((before : List ℕ) → Stands reader before → all_items before ≡ []) → IsDoneWith found u v summary begun now
  Done-none none = done_with v summary now refl (Answered-end found u v reader session summary served begun now at.progress none)

  module _ (w : View) (given : Item) (last : (before : List ℕ) → Stands reader before → (spelled : Item) × Given spelled given × (all_items before ≡ spelled ∷ [])) where
    pub Done-last : (session' : Session) (summary' : Summary) (written' : Option (List ℕ)) (counts' : Counts) → Sends found.care v w at.progress.machine given session' summary summary' now (with_answer now written' counts')
        → IsDoneWith found u w summary' begun (with_answer now written' counts')
    Done-last session' summary' written' counts' sent =
        done_with w summary' (with_answer now written' counts') refl (Answered-last found u v reader session summary served begun now at.progress given last w session' summary' (with_answer now written' counts') sent)

    pub Ends-last-failed : (exit : Exit) (written' : Option (List ℕ)) (counts' : Counts) → Fails exit found.care v w at.progress.machine given now (with_answer now written' counts') → Ends found u w exit begun (with_answer now written' counts')
    Ends-last-failed exit.SinkFault written' counts' sent = record {
      taken = served;
      took = taken_all;
      within = within;
      answered = inr (at_end, AnsweredInPart-last found u v reader session summary served begun now at.progress given last w (with_answer now written' counts') sent);
    }
    Ends-last-failed exit.StoreFault written' counts' broke = record {
      taken = served;
      took = taken_all;
      within = within;
      answered = inr (at_end, BrokenOff-last found u v reader session summary served begun now at.progress given last w (with_answer now written' counts') broke);
    }
    Ends-last-failed _ written' counts' failed = absurd failed

-- so many bytes were taken, at least one a turn, over a store of this type
pub record ReadSoFar (D : Type 0) (view : D → View) (tells : Bool) (r0 r1 : Lines) (s0 s1 : Session) (m0 m1 : Summary) (v0 v1 : View) (start now : Outside) (f0 f1 : Faults) (count turn : ℕ) : Type 0 where
  pub within : count ≤ longest_script
  pub turns : turn ≤ count
  pub holds : HoldsJobs s1
  pub serving : IsTrue tells → (found : Found) (origin : D) (begun : Outside) → Serving found (view origin) v0 r0 s0 m0 [] [] begun start → (served : List ℕ) × (length served ≡ count) × Serving found (view origin) v1 r1 s1 m1 served [] begun now
  pub counts : NoneFell f0 f1
  pub writes : NoWriteFailed f0 f1

-- which count rose where that exit came
pub Cause-at : (exit : Exit) (old new : Faults) → HasCause exit old new → (other : Exit) → exit ≡ other → HasCause other old new
Cause-at exit old new cause other e = subst (λ x. HasCause x old new) e cause

-- what is said of a result is said otherwise
pub done_since : {A B : Type 0} {P Q : A → Type 0} (r : Result A B) → IfOk r P → ((a : A) → P a → Q a) → IfOk r Q
done_since (Ok a) is more = more a is
done_since (Err b) is more = tt

pub err_since : {A B : Type 0} {P Q : B → Type 0} (r : Result A B) → IfErr r P → ((b : B) → P b → Q b) → IfErr r Q
err_since (Ok a) is more = tt
err_since (Err b) is more = more b is

pub err_both : {A B : Type 0} {P Q R : B → Type 0} (r : Result A B) → IfErr r P → IfErr r Q → ((b : B) → P b → Q b → R b) → IfErr r R
err_both (Ok a) is also more = tt
err_both (Err b) is also more = more b is also

pub ok_since : {A B : Type 0} {P Q : Type 0} (r : Result A B) → OnOk r P → (P → Q) → OnOk r Q
ok_since (Ok a) is more = more is
ok_since (Err b) is more = tt
