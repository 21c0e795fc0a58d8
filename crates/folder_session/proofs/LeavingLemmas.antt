-- What a command leaves as it was.
use Rattle.std.proofs.Common.{◌≡◌, ℕ, ◌+◌, ◌≤◌, List, Ok, Err, Result, IfOk, IsErrOf, OnErr, ◌⊎◌, refl, sym, subst, inl, inr, arith}
use Rattle.std.specs.List.{Contains}
use Rattle.rows_core.specs.declared.file_ref.FileRef.{FileRef}
use Rattle.outside_traits.specs.Counts.{Rose}
use Rattle.outside_traits.specs.View.{View, Counts}
use Rattle.outside_traits.specs.Runs.{Narrows, ChangesOnly}
use Rattle.outside_traits.specs.declared.failed.Failed.{Failed}
use Rattle.outside_traits.proofs.RunLemmas.{spans_none, spans_of, spans_on, spans_wider, spans_narrowed}
use Rattle.script_text.specs.declared.answer.Answer.{Answer}
use Rattle.script_text.specs.declared.answer.Refusal.{Refusal}
use Rattle.script_text.specs.declared.answer.Refusal.TheVariants as refusal
use Rattle.rewrite_core.specs.Files.{FileName}
use Rattle.catalog_core.specs.Table.{Table}
use Rattle.executor.specs.Runs.{HasRunCause}
use Rattle.executor.specs.declared.refusal.RunRefusal.{RunRefusal}
use Rattle.executor.specs.declared.refusal.RunRefusal.TheVariants as run
use Rattle.journal_store.specs.Journals.{generation_of}
use Rattle.journal_store.specs.Readings.{generation_file}
use Rattle.journal_store.specs.declared.journal.Journal.{Journal}
use Rattle.folder.specs.Folders.{journal_of, table_in}
use Rattle.folder.specs.Removing.{ChangesAmong}
use Rattle.folder.specs.Written.{IsFrom, ChangesFrom}
use Rattle.folder.specs.declared.folder.Folder.{Folder}
use Rattle.folder.proofs.FilesWritten.{counted_on}
use Rattle.folder_session.specs.declared.session.FolderSession.{FolderSession}
use Rattle.rows_core.specs.declared.schema.Column.{Column}
use Rattle.script_text.specs.declared.item.Command.{Command}
use Rattle.script_text.specs.declared.item.Command.TheVariants as command
use Rattle.folder_session.specs.Standing.{LeavesWhereRefused, IsAppended, IsChangedByWork, IsLogInUse, IsOfResult, IsWritten, AppendsAtMost, ChangesAtMost, MayChange, RecordsAndRemoves, WorkChangesAtMost, WritesAndRemoves, folder_of}
use Rattle.folder_session.specs.WorkRefusals.{refusal_of}

-- the answer is this one
pub leaves_given : (u v : View) (given : Answer) → LeavesWhereRefused given u v → (result : Result (FolderSession × Answer) Failed) → IfOk result (λ next. next.1 ≡ given) → IfOk result (λ next. LeavesWhereRefused next.1 u v)
leaves_given u v given leaves (Ok next) is = subst (λ (a : Answer). LeavesWhereRefused a u v) (sym is) leaves
leaves_given u v given leaves (Err failed) is = tt

-- ---- which files are written

module _ (folder : Folder) where
  -- a stream is made
  pub streams_log : (name : List ℕ) (columns : List Column) (u v : View) → ChangesOnly (generation_file (generation_of (journal_of folder))) u v → ChangesAtMost folder (command.Stream name columns) u v
  streams_log name columns u v run =
      spans_of (generation_file (generation_of (journal_of folder))) (λ x. Unit {0}) (MayChange folder (command.Stream name columns)) (λ image. Unit {0}) u v run refl (λ image here others. tt)

  -- an append, its file before the log
  pub appends_file : (u v : View) → ChangesOnly ((table_in folder).next_file + 0) u v → AppendsAtMost folder u v
  appends_file u v run = spans_of ((table_in folder).next_file + 0) (λ x. Unit {0}) (IsAppended folder) (λ image. Unit {0}) u v run (inr (omega arith)) (λ image here others. tt)

  pub appends_both : (u v w : View) → ChangesOnly ((table_in folder).next_file + 0) u v → ChangesOnly (generation_file (generation_of (journal_of folder))) v w → AppendsAtMost folder u w
  appends_both u v w first then =
      spans_on (IsAppended folder) (λ image. Unit {0}) u v w (appends_file u v first)
      (spans_of (generation_file (generation_of (journal_of folder))) (λ x. Unit {0}) (IsAppended folder) (λ image. Unit {0}) v w then (inl refl) (λ image here others. tt))

  -- a command that changes nothing
  pub changes_none : (c : Command) (v : View) → ChangesAtMost folder c v v
  changes_none c v = spans_none (MayChange folder c) (λ image. Unit {0}) v (λ image is. tt)

  -- what was only read, and what is written and removed behind it
  pub work_none : (v : View) → WorkChangesAtMost folder v v
  work_none v = spans_none (IsChangedByWork folder) (λ image. Unit {0}) v (λ image is. tt)

  pub work_reads : (u v : View) → Narrows u v → WorkChangesAtMost folder u v
  work_reads u v run = spans_narrowed (IsChangedByWork folder) (λ image. Unit {0}) u v run (λ image is. tt)

  pub work_on : (u v w : View) → WorkChangesAtMost folder u v → WorkChangesAtMost folder v w → WorkChangesAtMost folder u w
  work_on u v w first then = spans_on (IsChangedByWork folder) (λ image. Unit {0}) u v w first then

  -- the files that are removed are those of kept results
  pub work_removes : (files : List ℕ) → ((file : ℕ) → Contains files file → IsOfResult folder file) → (u v : View) → WritesAndRemoves folder files u v → WorkChangesAtMost folder u v
  work_removes files of u v run = spans_wider (λ file. IsWritten folder file ⊎ Contains files file) (IsChangedByWork folder) (λ image. Unit {0}) (λ image. Unit {0}) u v run
      (λ file is. elim is [ inl written ↦ inl written | inr gone ↦ inr (of file gone) ]) (λ image any others. tt)

  -- files that are written
  pub writes_more : (files : List ℕ) (u v : View) → ChangesFrom ((table_in folder).next_file + 0) u v → WritesAndRemoves folder files u v
  writes_more files u v run = spans_wider (IsFrom ((table_in folder).next_file + 0)) (λ file. IsWritten folder file ⊎ Contains files file) (λ image. Unit {0}) (λ image. Unit {0}) u v run
      (λ file is. let later = is.0 in inl (inr (omega (arith, later), is.1))) (λ image any others. tt)

  -- files that are written, and then a change that is recorded, and files that are removed
  pub writes_and_removes : (files : List ℕ) (u v w : View) → ChangesFrom ((table_in folder).next_file + 0) u v → RecordsAndRemoves folder files v w → WritesAndRemoves folder files u w
  writes_and_removes files u v w first then =
      spans_on (λ file. IsWritten folder file ⊎ Contains files file) (λ image. Unit {0}) u v w (writes_more files u v first)
      (spans_wider (λ file. IsLogInUse folder file ⊎ Contains files file) (λ file. IsWritten folder file ⊎ Contains files file) (λ image. Unit {0}) (λ image. Unit {0}) v w then
      (λ file is. elim is [ inl log ↦ inl (inl log) | inr gone ↦ inr gone ]) (λ image any others. tt))

  -- a change that is recorded, and files that are removed
  pub records_more : (files : List ℕ) (u v : View) → ChangesOnly (generation_file (generation_of (journal_of folder))) u v → RecordsAndRemoves folder files u v
  records_more files u v run = spans_of (generation_file (generation_of (journal_of folder))) (λ x. Unit {0}) (λ file. IsLogInUse folder file ⊎ Contains files file) (λ image. Unit {0}) u v run (inl refl) (λ image here others. tt)

  pub records_and_removes : (files : List ℕ) (u v w : View) → ChangesOnly (generation_file (generation_of (journal_of folder))) u v → ChangesAmong files v w → RecordsAndRemoves folder files u w
  records_and_removes files u v w first then =
      spans_on (λ file. IsLogInUse folder file ⊎ Contains files file) (λ image. Unit {0}) u v w (records_more files u v first)
      (spans_wider (Contains files) (λ file. IsLogInUse folder file ⊎ Contains files file) (λ image. Unit {0}) (λ image. Unit {0}) v w then (λ file gone. inr gone) (λ image any others. tt))

pub removes_prepared : (files : List ℕ) (u v : View) (session session' : FolderSession) → table_in (folder_of session') ≡ table_in (folder_of session) → journal_of (folder_of session') ≡ journal_of (folder_of session)
    → WritesAndRemoves (folder_of session') files u v → WritesAndRemoves (folder_of session) files u v
removes_prepared files u v session session' t j removes =
    spans_wider (λ file. IsWritten (folder_of session') file ⊎ Contains files file) (λ file. IsWritten (folder_of session) file ⊎ Contains files file) (λ image. Unit {0}) (λ image. Unit {0}) u v removes
    (λ file is. elim is [ inl written ↦ inl (either file written) | inr gone ↦ inr gone ]) (λ image any others. tt)
  where
    either : (file : ℕ) → IsWritten (folder_of session') file → IsWritten (folder_of session) file
    either file (inl log) = inl (subst (λ (x : Journal). file ≡ generation_file (generation_of x)) j log)
    either file (inr next) = inr (subst (λ (x : Table). IsFrom x.next_file file) t next)

pub appends_prepared : (u v : View) (session session' : FolderSession) → table_in (folder_of session') ≡ table_in (folder_of session) → journal_of (folder_of session') ≡ journal_of (folder_of session)
    → AppendsAtMost (folder_of session') u v → AppendsAtMost (folder_of session) u v
appends_prepared u v session session' t j appends =
    spans_wider (IsAppended (folder_of session')) (IsAppended (folder_of session)) (λ image. Unit {0}) (λ image. Unit {0}) u v appends (λ file is. either file is) (λ image any others. tt)
  where
    either : (file : ℕ) → IsAppended (folder_of session') file → IsAppended (folder_of session) file
    either file (inl log) = inl (subst (λ (x : Journal). file ≡ generation_file (generation_of x)) j log)
    either file (inr next) = inr (subst (λ (x : Table). file ≡ x.next_file) t next)

-- ---- counts of failed looks

pub failed_after : {T E : Type 0} (result : Result T E) (P : Type 0) → P → OnErr result P
failed_after (Ok x) P holds = tt
failed_after (Err e) P holds = holds

pub err_same : {T : Type 0} (x y : Refusal) → IsErrOf {T = T} (Err x) y → x ≡ y
err_same {T = T} x y is = let both : ◌≡◌ {A = Result T Refusal} (Err x) (Err y) = is in cc

module _ (places : FileName → FileRef) (names : List FileName) (old new : Counts) where
  pub unread_counts : (why : RunRefusal) → HasRunCause places names old new why → (refusal_of why ≡ refusal.Fault → ⊥) → new.reads ≡ old.reads
  unread_counts run.Fault cause other = absurd (other refl)
  unread_counts (run.Damaged file kept found taken) cause other = cause.4
  unread_counts (run.Unreadable file at taken) cause other = cause.2
  unread_counts run.Overflow cause other = cause
  unread_counts run.Machine cause other = cause
  unread_counts run.Memory cause other = cause

  pub fault_rose : (why : RunRefusal) → HasRunCause places names old new why → refusal_of why ≡ refusal.Fault → Rose old.reads new.reads
  fault_rose run.Fault cause is = cause
  fault_rose (run.Damaged file kept found taken) cause is = absurd (cc)
  fault_rose (run.Unreadable file at taken) cause is = absurd (cc)
  fault_rose run.Overflow cause is = absurd (cc)
  fault_rose run.Machine cause is = absurd (cc)
  fault_rose run.Memory cause is = absurd (cc)
