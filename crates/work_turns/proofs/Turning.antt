-- A turn over a state's files that ends at the file of a kept result.
use Rattle.std.proofs.Common.{◌≡◌, refl, ap, ◌∙◌, subst, ℕ, ◌+◌, ◌≤◌, true, List, [], ◌∷◌, ◌++◌, arith}
use Rattle.std.specs.List.{AllByRecursion}
use Rattle.std.proofs.lemmas.List.Sums.{sum_by-cons}
use Rattle.rows_core.specs.declared.file_ref.FileRef.{FileRef}
use Rattle.outside_traits.specs.View.{Counts}
use Rattle.outside_traits.specs.Calls.{CountsTaken}
use Rattle.plan_core.specs.PlainPlan.{PlainPlan}
use Rattle.estimator.specs.Bytes.{capped}
use Rattle.estimator.specs.Cuts.{Cuts}
use Rattle.rewrite_core.specs.Files.{FileName, Result}
use Rattle.rewrite_core.specs.PlainRewriting.{PlainRewriting}
use Rattle.catalog_core.specs.IsTable.{IsTable}
use Rattle.catalog_core.specs.Named.{HasFile, file_at, bytes_named}
use Rattle.catalog_core.specs.Table.{Table}
use Rattle.catalog_core.proofs.Typings.{sides}
use Rattle.executor.specs.Runs.{IsOfFile, LosesResult}
use Rattle.executor.specs.declared.refusal.LostResult.{LostResult}
use Rattle.executor.specs.declared.refusal.RunRefusal.{RunRefusal}
use Rattle.executor.specs.declared.refusal.RunRefusal.TheVariants as run
use Rattle.folder.specs.Damage.{ShowsDamage}
use Rattle.folder.specs.Files.{results_in}
use Rattle.folder.specs.Sound.{Care, IsSound}
use Rattle.folder.specs.State.{State, table, extents_in}
use Rattle.plan_choice.specs.Leaving.{leaving_out}
use Rattle.plan_choice.specs.Taken.{IsTaken}
use Rattle.work_run.specs.Ends.{IsRefusedWork, sources_of}
use Rattle.work_turns.specs.Turns.{EndsTurn, IsLost}
use Rattle.work_turns.specs.declared.turns.TurnEnd.TheVariants as turn
use Rattle.work_run.proofs.Rooted.{IsRooted}
use Rattle.work_run.proofs.Taken.{all-bytes}
use Rattle.work_run.proofs.Worked.{FileLaws, hold, there}

-- one of the files that a rewriting names
pub named : (P : FileName → Type 0) (names before others : List FileName) (name : FileName) → names ≡ before ++ name ∷ others → AllByRecursion P names → P name
named P names before others name is all = (sides P before (name ∷ others) (subst (AllByRecursion P) is all)).1.0

-- the bytes of files that are left are what they were
pub bytes-left : ((t : Table) (ids : List ℕ) (name : FileName) → HasFile (leaving_out ids t) name → file_at (leaving_out ids t) name ≡ file_at t name) → (t : Table) (ids : List ℕ) (names : List FileName)
    → AllByRecursion (HasFile (leaving_out ids t)) names → bytes_named (leaving_out ids t) names ≡ bytes_named t names
bytes-left same t ids [] all = refl
bytes-left same t ids (name ∷ names) all =
    omega (
      arith,
      sum_by-cons (λ (n : FileName). (file_at (leaving_out ids t) n).len) name names,
      sum_by-cons (λ (n : FileName). (file_at t n).len) name names,
      ap (λ (f : FileRef). f.len) (same t ids name all.0),
      bytes-left same t ids names all.1,
    )

-- its file shows damage
lost-shows : (care : Care) (s : State) (t : Table) (same : t ≡ table s) (plan : PlainPlan) (cuts : Cuts) (id : ℕ) (why : RunRefusal) → IsOfFile (file_at t (Result id)) why → IsRefusedWork care s plan cuts why → IsLost care s id
lost-shows care s t same plan cuts id run.Overflow of refused = absurd of
lost-shows care s t same plan cuts id run.Machine of refused = absurd of
lost-shows care s t same plan cuts id run.Fault of refused = absurd of
lost-shows care s t same plan cuts id (run.Damaged file kept found taken) of refused = record {
  kept = kept;
  found = found;
  shows = subst (λ (f : ℕ). ShowsDamage care s f kept found) (of.0 ∙ ap (λ (x : Table). (file_at x (Result id)).file) same) refused;
}
lost-shows care s t same plan cuts id (run.Unreadable file at taken) of refused = absurd refused
lost-shows care s t same plan cuts id run.Memory of refused = absurd of

module _ (laws : FileLaws) (care : Care) (files : ℕ → List ℕ) (s : State) (sound : IsSound care files s) (t : Table) (same : t ≡ table s) (is_table : IsTable t) (left_out : List ℕ)
    (plan form : PlainPlan) (cuts : Cuts) (r : PlainRewriting) (root : IsRooted t plan r) (taken : IsTaken (leaving_out left_out t) plan form cuts r) where
  pub ends-lost : (old new : Counts) (why : RunRefusal) (lost : LostResult) → LosesResult (sources_of t files) r old new why lost → IsRefusedWork care s plan cuts why
      → EndsTurn care s left_out plan form cuts r old new (turn.Lost lost)
  ends-lost old new why lost loses refused =
      let front = (sides (HasFile (table s)) loses.before (Result lost.id ∷ loses.others) (subst (AllByRecursion (HasFile (table s))) loses.names (there laws care files s sound t same is_table plan r root))).0 in (
        bytes_named (table s) loses.before + loses.given,
        record {
          rewriting = r;
          taken = subst (λ (x : Table). IsTaken (leaving_out left_out x) plan form cuts r) same taken;
          before = loses.before;
          others = loses.others;
          names = loses.names;
          given = loses.given;
          few = subst (λ (x : Table). loses.given ≤ (file_at x (Result lost.id)).len) same (loses.few refl);
          bytes_are = refl;
        },
        lost-shows care s t same plan cuts lost.id why loses.of_file refused,
        loses.taken_is ∙ ap (λ (x : Table). capped (bytes_named x loses.before + loses.given)) same,
        subst (λ (n : ℕ). CountsTaken (n + loses.given) old new) (all-bytes laws.found s sound.valid (subst IsTable same is_table) loses.before front)
            (loses.took (extents_in s.streams) (results_in s) (hold laws care files s sound t same is_table plan r root true refl)),
      )
