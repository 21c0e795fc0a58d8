-- What a piece of work that was run comes to, and why one isn't.
use Rattle.std.specs.Prelude.{◌≡◌, ◌⊎◌, ℕ, true, List, [], ◌∷◌, All, length, ◌≤◌, ⊤}
use Rattle.outside_traits.specs.View.{Counts}
use Rattle.outside_traits.specs.Calls.{CountsTaken}
use Rattle.plan_core.specs.Columns.{Rows}
use Rattle.row_blob.specs.Spelling.{kept_spelling}
use Rattle.row_blob.specs.declared.kept.Kept.{Kept}
use Rattle.plan_core.specs.PlainPlan.{PlainPlan}
use Rattle.estimator.specs.Cuts.{Cuts}
use Rattle.catalog_types.specs.PlainEntry.{PlainNewEntry}
use Rattle.catalog_core.specs.Table.{Table}
use Rattle.catalog_core.specs.Named.{file_at, machine_at}
use Rattle.catalog_core.specs.Programs.{kinds_of_streams}
use Rattle.executor.specs.Sources.{Sources, sources}
use Rattle.executor.specs.declared.refusal.RunRefusal.{RunRefusal}
use Rattle.executor.specs.declared.refusal.RunRefusal.TheVariants as run
use Rattle.folder.specs.Next.{IsNewResultOf}
use Rattle.folder.specs.Sound.{Care}
use Rattle.folder.specs.State.{Stream, State, table}
use Rattle.folder.specs.Damage.{ShowsDamage}
use Rattle.work_run.specs.Working.{Given, given, Overflows, IsDear}
use Rattle.work_run.specs.declared.work.Work.{Work}

-- what the files of a table's rewritings are read by, where the store tells its files
abbrev pub sources_of : Table → (ℕ → List ℕ) → Sources
sources_of t files = sources true files (file_at t) (machine_at t) (kinds_of_streams t.streams)

-- these bytes were taken; where no file is read nothing is counted
abbrev pub CountsRead : ℕ → Counts → Counts → Type 0
CountsRead bytes old new = CountsTaken bytes old new ⊎ ((bytes ≡ 0) × (new.taken ≡ old.taken))

-- each row has at most 32 values
abbrev pub HaveFewValues : Rows → Type 0
HaveFewValues rows = All (λ row. length row ≤ 32) rows

-- what is answered of it
abbrev pub given_of : Work → Given
given_of work = given work.rows.items work.used.items work.plan.kept.items work.read

-- the new results are those of their plans at their cuts, and these are the bytes of their files
abbrev pub AreNewFiles : List Stream → List PlainNewEntry → List (List ℕ) → Type 0
AreNewFiles streams [] [] = Unit {0}
AreNewFiles streams (new ∷ news) (bytes ∷ files) =
    ((form : Kept) × IsNewResultOf streams new form × (bytes ≡ kept_spelling form)) × AreNewFiles streams news files
AreNewFiles streams _ _ = ⊥

-- Why it doesn't come to an end over files of a state: by what the plan means, for want of memory, or since the files aren't
-- read. None of them has unreadable bytes.
abbrev pub IsRefusedWork : Care → State → PlainPlan → Cuts → RunRefusal → Type 0
IsRefusedWork care s plan cuts run.Overflow = Overflows s plan cuts
IsRefusedWork care s plan cuts run.Machine = IsDear s plan cuts
IsRefusedWork care s plan cuts run.Fault = ⊤
IsRefusedWork care s plan cuts (run.Damaged file kept found taken) = ShowsDamage care s file kept found
IsRefusedWork care s plan cuts (run.Unreadable file at taken) = ⊥
IsRefusedWork care s plan cuts run.Memory = ⊤
