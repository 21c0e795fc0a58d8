-- Which files are there of extents and of kept results, where they stand, and which rewritings can be run over them.
use Rattle.std.specs.Prelude.{ℕ, ◌<◌, List, [], length, slice_get, unwrap_or}
use Rattle.std.specs.List.{AllByRecursion}
use Rattle.rows_core.specs.declared.file_ref.FileRef.{FileRef}
use Rattle.plan_core.specs.PlainPlan.{plan_of}
use Rattle.estimator.specs.Bytes.{IsCutOf}
use Rattle.rewrite_core.specs.Entries.{Entry}
use Rattle.rewrite_core.specs.Files.{FileName, Extent, Result, files_of}
use Rattle.rewrite_core.specs.PlainRewriting.{rewriting_of}
use Rattle.rewrite_core.specs.declared.rewriting.Rewriting.{Rewriting}
use Rattle.executor.specs.Pieces.{HasTyping}
use Rattle.growth_laws.specs.There.{ExtentCounts}
use Rattle.executor.specs.Parts.{IsFormed}
use Rattle.cases_executor.specs.declared.shelf.KeptFile.{KeptFile}
use Rattle.cases_executor.specs.declared.shelf.Shelf.{Shelf}

-- the files of a stream's extents
abbrev pub extents_at : List (List FileRef) → ℕ → List FileRef
extents_at extents stream = unwrap_or (slice_get extents stream) []

abbrev pub counts_of : List (List FileRef) → ExtentCounts
counts_of extents stream = length (extents_at extents stream)

-- the extent is there, or the kept result
abbrev pub HasFile : List (List FileRef) → List KeptFile → FileName → Type 0
HasFile extents kept (Extent stream number) = number < counts_of extents stream
HasFile extents kept (Result id) = id < length kept

-- what isn't there stands nowhere
abbrev pub nowhere : FileRef
nowhere = record { file = 0; len = 0; digest = record { bytes = [] } }

-- the file of the kept result, and its machine time
abbrev pub kept_at : List KeptFile → ℕ → KeptFile
kept_at kept id = unwrap_or (slice_get kept id) (record { at = nowhere; machine = 0 })

abbrev pub file_of : List (List FileRef) → List KeptFile → FileName → FileRef
file_of extents kept (Extent stream number) = unwrap_or (slice_get (extents_at extents stream) number) nowhere
file_of extents kept (Result id) = (kept_at kept id).at

-- the entry's result is there
abbrev pub IsFiled : List KeptFile → Entry → Type 0
IsFiled kept entry = entry.id < length kept

-- it is a typed plan's rewriting at a cut within the extents, and each file that it names is there
pub record CanRun (shelf : Shelf) (tree : Rewriting) : Type 0 where
  pub formed : IsFormed (rewriting_of tree)
  pub cuts : IsCutOf shelf.lens.lens (plan_of tree.plan) tree.cuts
  pub typed : HasTyping shelf.schemas.kinds (plan_of tree.plan)
  pub there : AllByRecursion (HasFile shelf.extents shelf.kept.items) (files_of (rewriting_of tree))
