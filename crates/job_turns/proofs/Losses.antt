-- A file of a job that is read, or isn't.
use Rattle.std.proofs.Common.{◌≡◌, ◌⊎◌, refl, sym, ap, ◌∙◌, subst, inl, inr, ℕ, ◌+◌, ◌-◌, ◌≤◌, List, [], ◌∷◌, ◌++◌, length, take, None, Some, arith}
use Rattle.std.specs.List.{Contains}
use Rattle.std.proofs.lemmas.List.{length-take}
use Rattle.rows_core.specs.declared.file_ref.FileRef.{FileRef}
use Rattle.row_blob.specs.declared.shape.Shape.{Shape}
use Rattle.outside_traits.specs.View.{Counts}
use Rattle.outside_traits.specs.Calls.{CountsTaken}
use Rattle.extent_files.specs.Reads.{HasCause, FoundIn}
use Rattle.extent_files.specs.declared.read_refusal.ReadRefusal.{ReadRefusal}
use Rattle.extent_files.specs.declared.read_refusal.ReadRefusal.TheVariants as read
use Rattle.plan_core.specs.PlainPlan.{PlainPlan}
use Rattle.estimator.specs.Bytes.{capped}
use Rattle.estimator.specs.Cuts.{Cuts}
use Rattle.rewrite_core.specs.Files.{FileName, Extent, Result, files_of}
use Rattle.rewrite_core.specs.PlainRewriting.{PlainRewriting}
use Rattle.catalog_types.specs.declared.program.Program.{Program}
use Rattle.catalog_core.specs.Named.{file_at, bytes_named}
use Rattle.catalog_core.specs.Table.{Table}
use Rattle.executor.specs.Progress.{left_in, result_of}
use Rattle.executor.specs.Runs.{IsOfExtent, of_reading}
use Rattle.executor.specs.declared.refusal.RunRefusal.{RunRefusal}
use Rattle.executor.proofs.RestShapes.{contains_middle}
use Rattle.folder.specs.Damage.{ShowsDamage}
use Rattle.folder.specs.Sound.{Care}
use Rattle.folder.specs.State.{State, table}
use Rattle.work_run.specs.Ends.{IsRefusedWork}
use Rattle.work_run.specs.Opened.{files_left, opened_rewriting}
use Rattle.work_run.proofs.OpenSteps.{rewriting-same}
use Rattle.work_turns.specs.Turns.{IsLost}
use Rattle.job_turns.specs.Jobs.{IsFresh}
use Rattle.job_turns.specs.Steps.{IsAsBefore, IsNotLost, NotesNext, given_of}
use Rattle.job_turns.specs.declared.job.JobWork.{JobWork}

some-is : (a b : ℕ) → Some a ≡ Some b → a ≡ b
some-is a b e = cc

-- ---- the kept result whose file is the next one

pub next-is : (name : FileName) (id : ℕ) → Some id ≡ result_of name → name ≡ Result id
next-is (Extent stream number) id is = absurd (cc)
next-is (Result other) id is = ap Result (sym (some-is id other is))

pub next-extent : (name : FileName) → None ≡ result_of name → (stream : ℕ) × (number : ℕ) × (name ≡ Extent stream number)
next-extent (Extent stream number) is = (stream, number, refl)
next-extent (Result other) is = absurd (cc)

-- ---- what a loss shows

module _ (at : FileRef) (given : ℕ) (first last : Counts) where
  pub loss-counts : (why : ReadRefusal) → given_of why ≡ Some given → HasCause at first last why → CountsTaken given first last
  loss-counts read.Fault of cause = absurd (cc)
  loss-counts (read.Damaged file kept found taken) of cause = subst (λ (n : ℕ). CountsTaken n first last) (some-is taken given of) cause.4
  loss-counts (read.Unreadable file place taken) of cause = subst (λ (n : ℕ). CountsTaken n first last) (some-is taken given of) cause.2
  loss-counts read.Memory of cause = absurd (cc)

  pub loss-looks : (why : ReadRefusal) → given_of why ≡ Some given → HasCause at first last why → last.reads ≡ first.reads
  loss-looks read.Fault of cause = absurd (cc)
  loss-looks (read.Damaged file kept found taken) of cause = cause.3
  loss-looks (read.Unreadable file place taken) of cause = cause.1
  loss-looks read.Memory of cause = absurd (cc)

  few : (file : List ℕ) (n : ℕ) → n ≡ given → n ≡ length (take at.len file) → given ≤ at.len
  few file n same is = let most = length-take at.len file in omega (arith, same, is, most)

  pub loss-few : (shape : Shape) (file : List ℕ) (why : ReadRefusal) → given_of why ≡ Some given → FoundIn shape at (take at.len file) first last why → given ≤ at.len
  loss-few shape file read.Fault of found = absurd (cc)
  loss-few shape file (read.Damaged number kept other taken) of found = few file taken (some-is taken given of) found.1
  loss-few shape file (read.Unreadable number place taken) of found = few file taken (some-is taken given of) found.2
  loss-few shape file read.Memory of found = absurd (cc)

pub loss-shows : (care : Care) (s : State) (t : Table) → t ≡ table s → (plan : PlainPlan) (cuts : Cuts) (id given : ℕ) (first last : Counts) (why : ReadRefusal) → given_of why ≡ Some given → HasCause (file_at t (Result id)) first last why
    → IsRefusedWork care s plan cuts (of_reading why) → IsLost care s id
loss-shows care s t same plan cuts id given first last read.Fault of cause refused = absurd (cc)
loss-shows care s t same plan cuts id given first last (read.Damaged file kept found taken) of cause refused = record {
  kept = kept;
  found = found;
  shows = subst (λ (f : ℕ). ShowsDamage care s f kept found) (cause.0 ∙ ap (λ (x : Table). (file_at x (Result id)).file) same) refused;
}
loss-shows care s t same plan cuts id given first last (read.Unreadable file place taken) of cause refused = absurd refused
loss-shows care s t same plan cuts id given first last read.Memory of cause refused = absurd (cc)

-- ---- why none is lost

module _ (t : Table) (r : PlainRewriting) (names left : List FileName) (split : files_of r ≡ names ++ left) (first last : Counts) where
  among : (stream number : ℕ) (others : List FileName) → left ≡ Extent stream number ∷ others → Contains (files_of r) (Extent stream number)
  among stream number others next =
      subst (λ (l : List FileName). Contains l (Extent stream number)) (sym (split ∙ ap (λ (l : List FileName). names ++ l) next)) (contains_middle names (Extent stream number) others)

  pub not-lost : (why : ReadRefusal) → ((name : FileName) (others : List FileName) → left ≡ name ∷ others → HasCause (file_at t name) first last why) → IsNotLost left why → IsOfExtent (file_at t) r (of_reading why)
  not-lost read.Fault cause is = tt
  not-lost (read.Damaged file kept found taken) cause (inl none) = absurd (cc)
  not-lost (read.Damaged file kept found taken) cause (inr (stream, number, others, next)) = (stream, number, (among stream number others next, (cause (Extent stream number) others next).0))
  not-lost (read.Unreadable file place taken) cause (inl none) = absurd (cc)
  not-lost (read.Unreadable file place taken) cause (inr (stream, number, others, next)) = (stream, number, (among stream number others next, (cause (Extent stream number) others next).0))
  not-lost read.Memory cause is = tt

-- ---- why it was refused

-- by want of memory for the choice, or as reading was
pub by-why : (P : RunRefusal → Type 0) (left : List FileName) (refusal why : ReadRefusal) → ((given : ℕ) → given_of refusal ≡ Some given → P (of_reading read.Memory)) → (IsNotLost left refusal → P (of_reading refusal))
    → ((why ≡ read.Memory) × (given : ℕ) × (given_of refusal ≡ Some given)) ⊎ ((why ≡ refusal) × IsNotLost left refusal) → P (of_reading why)
by-why P left refusal why wanted refused (inl (is, given, of)) = subst (λ (e : ReadRefusal). P (of_reading e)) (sym is) (wanted given of)
by-why P left refusal why wanted refused (inr (is, not)) = subst (λ (e : ReadRefusal). P (of_reading e)) (sym is) (refused not)

-- ---- what is noted, seen from before the file was tried

pub notes-back : (t : Table) (plan : PlainPlan) (id given : ℕ) (old half new : JobWork) → IsAsBefore old half → NotesNext t plan id given half new → NotesNext t plan id given old new
notes-back t plan id given old half new still notes =
    let left : files_left half.work ≡ files_left old.work = ap left_in still.parts in
    let same : opened_rewriting half.work ≡ opened_rewriting old.work = rewriting-same old.work half.work still.same in
    record {
      others = notes.others;
      next = sym left ∙ notes.next;
      notes = record {
        normal = notes.notes.normal ∙ still.normal;
        noted = notes.notes.noted ∙ ap (λ v. v.items ++ id ∷ []) still.noted;
        fresh = subst (λ n. IsFresh t new.noted.items plan n.plan old.work.program new.work) still.normal
            (subst (λ (p : Program). IsFresh t new.noted.items plan half.normal.plan p new.work) still.same.program notes.notes.fresh);
        before = notes.notes.before ∙ (λ i. capped (still.before i + (bytes_named t (files_of (same i)) - bytes_named t (left i)) + given));
      };
    }
