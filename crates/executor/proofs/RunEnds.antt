-- A run: its files are read, and then it is finished.
use Rattle.std.proofs.Common.{◌≡◌, sym, ap, ◌∙◌, subst, List, [], ◌++◌, length, Err, Result}
use Rattle.std.proofs.lemmas.List.{append-nil}
use Rattle.rows_core.specs.declared.file_ref.FileRef.{FileRef}
use Rattle.outside_traits.specs.View.{Counts}
use Rattle.extent_files.specs.declared.read_refusal.ReadRefusal.{ReadRefusal}
use Rattle.extent_files.specs.declared.read_refusal.ReadRefusal.TheVariants as read
use Rattle.result_ops.specs.declared.refusal.MakeRefusal.{MakeRefusal}
use Rattle.result_ops.specs.declared.refusal.MakeRefusal.TheVariants as made
use Rattle.plan_core.specs.Columns.{Rows}
use Rattle.plan_core.specs.PlainPlan.{leaf_count}
use Rattle.plan_core.specs.PlanTyping.{Kinds}
use Rattle.result_ops.specs.Fitting.{FitRows}
use Rattle.rewrite_core.specs.Files.{FileName, files_of}
use Rattle.rewrite_core.specs.PlainRewriting.{PlainRewriting}
use Rattle.growth_laws.specs.KeptResults.{KeptResults}
use Rattle.growth_laws.specs.Lists.{Extents}
use Rattle.growth_laws.specs.Parts.{plan_at, cuts_at}
use Rattle.growth_laws.specs.Pieces.{Piece, pieces_of}
use Rattle.executor.specs.Outcomes.{AreReadAs, Finishes, AreKeptFrom}
use Rattle.executor.specs.Progress.{left_in, ArePartsOf, HaveRead}
use Rattle.executor.specs.Running.{EndsBy, EndsOver, HaveTaken, ReadsOn}
use Rattle.executor.specs.Runs.{of_reading, of_making, HasRunCause, IsRunFound, Ends, EndsEarly}
use Rattle.executor.specs.Sources.{Sources, HoldFiles}
use Rattle.executor.specs.declared.outcome.KeptPlace.{KeptPlace}
use Rattle.executor.specs.declared.outcome.Outcome.{Outcome}
use Rattle.executor.specs.declared.part.Part.{Part}

-- ---- refusals

pub read_cause : (places : FileName → FileRef) (names : List FileName) (old new : Counts) (e : ReadRefusal) → EndsBy places names old new e → HasRunCause places names old new (of_reading e)
read_cause places names old new read.Fault is = is
read_cause places names old new (read.Damaged file kept found taken) is = is
read_cause places names old new (read.Unreadable file at taken) is = is
read_cause places names old new read.Memory is = is

pub read_found : (from : Sources) (pieces : List Piece) (names : List FileName) (e : ReadRefusal) → EndsOver from pieces names e → IsRunFound from pieces names (of_reading e)
read_found from pieces names read.Fault is = is
read_found from pieces names (read.Damaged file kept found taken) is = is
read_found from pieces names (read.Unreadable file at taken) is = is
read_found from pieces names read.Memory is = is

pub made_cause : (places : FileName → FileRef) (names : List FileName) (old new : Counts) (e : MakeRefusal) → new.reads ≡ old.reads → HasRunCause places names old new (of_making e)
made_cause places names old new made.Overflow same = same
made_cause places names old new made.Machine same = same
made_cause places names old new made.Memory same = same

pub made_found : (from : Sources) (pieces : List Piece) (names : List FileName) (e : MakeRefusal) → IsRunFound from pieces names (of_making e)
made_found from pieces names made.Overflow = tt
made_found from pieces names made.Machine = tt
made_found from pieces names made.Memory = tt

module _ (extents : Extents) (results : KeptResults) (r : PlainRewriting) (old new : Counts) where
  pub read_early : (e : ReadRefusal) → EndsEarly extents results r old new (of_reading e)
  read_early read.Fault = tt
  read_early (read.Damaged file kept found taken) = tt
  read_early (read.Unreadable file at taken) = tt
  read_early read.Memory = tt

  pub made_early : (e : MakeRefusal) → Ends extents results r old new (Err e) → EndsEarly extents results r old new (of_making e)
  made_early made.Overflow is = is
  made_early made.Machine is = is
  made_early made.Memory is = tt

-- the same of a rewriting that is seen as another one
pub finishes_as : (extents : Extents) (results : KeptResults) (a b : PlainRewriting) (result : Result Outcome MakeRefusal) → a ≡ b → Finishes extents results a result → Finishes extents results b result
finishes_as extents results a b result same is = subst (λ (r : PlainRewriting). Finishes extents results r result) same is

pub kinds_as : (schemas : List Kinds) (a b : PlainRewriting) (rows : Rows) → a ≡ b → FitRows schemas rows (plan_at a) → FitRows schemas rows (plan_at b)
kinds_as schemas a b rows same is = subst (λ (r : PlainRewriting). FitRows schemas rows (plan_at r)) same is

pub kept_from_as : (a b : PlainRewriting) (kept : List KeptPlace) → a ≡ b → AreKeptFrom a kept → AreKeptFrom b kept
kept_from_as a b kept same is = subst (λ (r : PlainRewriting). AreKeptFrom r kept) same is

-- ---- all files were read

module _ (from : Sources) (r : PlainRewriting) (before after : List Part) (old new : Counts) (on : ReadsOn from before after old new) (none : left_in after ≡ []) (all : left_in before ≡ files_of r) where
  names_are : on.names ≡ files_of r
  names_are = sym (append-nil on.names) ∙ ap (λ (l : List FileName). on.names ++ l) (sym none) ∙ sym on.left ∙ all

  pub all_read : (extents : Extents) (results : KeptResults) → HoldFiles from extents results (pieces_of r) → ArePartsOf from.schemas (pieces_of r) before
      → HaveRead from.schemas extents results (pieces_of r) before → length (cuts_at r) ≡ leaf_count (plan_at r)
      → AreReadAs from.schemas extents results r after × HaveTaken extents results (files_of r) old new
  all_read extents results hold are have cuts =
      let read = on.read extents results (pieces_of r) hold are have in (
        record { are = on.parts (pieces_of r) are; cuts = cuts; read = read.0 },
        subst (λ (names : List FileName). HaveTaken extents results names old new) names_are read.1,
      )
