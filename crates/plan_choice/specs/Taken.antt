-- The rewriting that a run takes of a plan, and what is told of it.
use Rattle.std.specs.Prelude.{◌≡◌, []}
use Rattle.plan_core.specs.PlainPlan.{PlainPlan}
use Rattle.plan_canon.specs.Normal.{IsNormalFormOf}
use Rattle.estimator.specs.Bytes.{capped}
use Rattle.estimator.specs.Cuts.{Cuts}
use Rattle.rewrite_core.specs.Entries.{Entries, IsWhole, IsBefore}
use Rattle.rewrite_core.specs.Estimate.{IsLeast}
use Rattle.rewrite_core.specs.Files.{AreIdsOf, files_of}
use Rattle.rewrite_core.specs.IsRewriting.{IsRewriting, Naming}
use Rattle.rewrite_core.specs.PlainRewriting.{PlainRewriting, rewriting_of}
use Rattle.cache_index.specs.Asked.{asked}
use Rattle.catalog_core.specs.Named.{lengths_of, bytes_named}
use Rattle.catalog_core.specs.Programs.{kinds_of_streams}
use Rattle.catalog_core.specs.Table.{Table}
use Rattle.plan_choice.specs.declared.choosing.Choice.{Choice}

-- the kept results that a rewriting goes on naming as others come: of the plan at this cut, or at another one before it
abbrev pub kept_in : Entries → Naming
kept_in entries = record { whole = IsWhole entries; earlier = IsBefore entries }

-- A rewriting that serves for a plan at a cut of a table's streams: one of the plan's normal form over the table's kept results.
pub record Serves (t : Table) (plan form : PlainPlan) (cuts : Cuts) (r : PlainRewriting) : Type 0 where
  pub normal : IsNormalFormOf (kinds_of_streams t.streams) plan form
  pub over : IsRewriting (kept_in (asked [] t.entries)) form cuts r

-- The rewriting that is taken of a plan at a cut of a table's streams: one of the plan's normal form over the table's kept
-- results, of which none has a smaller estimate.
pub record IsTaken (t : Table) (plan form : PlainPlan) (cuts : Cuts) (r : PlainRewriting) : Type 0 where
  pub normal : IsNormalFormOf (kinds_of_streams t.streams) plan form
  pub least : IsLeast (asked [] t.entries) (lengths_of t.streams) form cuts r

-- With the ids of the kept results that it reads, ascending, each once, and the bytes of the files that it names, each as
-- often as it is named, cut at the greatest u64.
pub record IsChoice (t : Table) (plan : PlainPlan) (cuts : Cuts) (choice : Choice) : Type 0 where
  pub normal : PlainPlan
  pub taken : IsTaken t plan normal cuts (rewriting_of choice.rewriting)
  pub used : AreIdsOf (files_of (rewriting_of choice.rewriting)) choice.used.items
  pub read : choice.read ≡ capped (bytes_named t (files_of (rewriting_of choice.rewriting)))
