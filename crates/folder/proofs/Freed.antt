-- Loading the logs of a folder, and then removing the files that it doesn't name.
use Rattle.std.proofs.Common.{◌≡◌, inl, inr, refl, sym, ap, subst, ◌∙◌, ℕ, ◌≤◌, Bool, true, false, List, length, arith}
use Rattle.std.specs.Prelude.{IsTrue, ◌↔◌, ◌⊎◌}
use Rattle.outside_traits.specs.Counts.{Rose}
use Rattle.outside_traits.specs.View.{View, Now}
use Rattle.outside_traits.specs.Runs.{Narrows, Spans}
use Rattle.outside_traits.proofs.RunLemmas.{spans_narrowed, spans_on}
use Rattle.folder.specs.Strays.{ChangesStrays}
use Rattle.journal_store.specs.Journals.{generation_of, had_root_of}
use Rattle.journal_store.specs.Readings.{IsJournalFile}
use Rattle.folder.specs.Folders.{journal_of, table_in, FolderMeans}
use Rattle.folder.specs.InUse.{MayStay, IsInUse, IsLoadedAsItIs}
use Rattle.folder.specs.Left.{IsLeft, IsLeftWith, Since}
use Rattle.folder.specs.Replay.{ReadsAs}
use Rattle.folder.specs.Sound.{Care}
use Rattle.folder.specs.State.{State}
use Rattle.folder.specs.Unnamed.{HasRoot, IsLogOrUnnamed, ChangesUnnamed, ChangesLogsOrUnnamed, named_in}
use Rattle.folder.specs.declared.folder.Folder.{Folder}
use Rattle.folder.proofs.Crash.{left_of_since, since_then_first}
use Rattle.folder.proofs.UnnamedFiles.{logs_or_unnamed, strays_alone, strays_stay, then_strays}

-- a failure that rose later has risen since
pub rose_before : (a b c : ℕ) → a ≤ b → Rose b c → Rose a c
rose_before a b c early rose = omega (arith, early, rose)

pub gone_before : {P : Type 0} (a b c : ℕ) → a ≤ b → Rose b c ⊎ P → Rose a c ⊎ P
gone_before a b c early (inl rose) = inl (rose_before a b c early rose)
gone_before a b c early (inr gone) = inr gone

stays_in_use : (v : View) (folder : Folder) (g : ℕ) (bodies : List (List ℕ)) → MayStay bodies → IsInUse v folder g bodies → generation_of (journal_of folder) ≡ g
stays_in_use v folder g bodies stays (inl left) = left.generation
stays_in_use v folder g bodies stays (inr next) = absurd (next.goes stays)

module _ (u v w : View) (folder : Folder) (run : ChangesStrays (named_in folder) v w) where
  -- only logs, and files that it doesn't name, are changed
  pub freed_alone : IsTrue (had_root_of (journal_of folder)) ↔ HasRoot u.files → ReadsAs u.files (table_in folder) → Spans IsJournalFile (λ image. Unit {0}) u v
      → (had_root_of (journal_of folder) ≡ false → Narrows v w) → ChangesLogsOrUnnamed u w
  freed_alone had reading logs none = by (had_root_of (journal_of folder)) refl
    where
      by : (b : Bool) → had_root_of (journal_of folder) ≡ b → ChangesLogsOrUnnamed u w
      by true is = then_strays (table_in folder) (generation_of (journal_of folder)) u v w (had.0 is) reading logs run
      by false is =
          spans_on (IsLogOrUnnamed u.files) (λ image. Unit {0}) u v w (logs_or_unnamed u v logs)
          (spans_narrowed (IsLogOrUnnamed u.files) (λ image. Unit {0}) v w (none is) (λ image now. tt))

  -- these alone, where no log was changed
  pub freed_finished : (as_it_is : IsLoadedAsItIs u.files) (reading : ReadsAs u.files (table_in folder)) → IsInUse v folder reading.generation reading.bodies → Narrows u v → ChangesUnnamed u w
  freed_finished as_it_is reading in_use narrow =
      strays_alone (table_in folder) (generation_of (journal_of folder)) u v w as_it_is.0 reading
      (stays_in_use v folder reading.generation reading.bodies (as_it_is.1 reading.generation reading.bodies reading.logs) in_use) narrow run

  module _ (care : Care) (a b : State) (law : (g : ℕ) → Now v g (v.files g)) (since : Since care a b u v) (means : FolderMeans care v folder a) where
    pub freed_since : Since care a b u w
    freed_since = since_then_first care a b u v w since (strays_stay v w (table_in folder) (journal_of folder) run care a law means)

    pub freed_left : ((g : ℕ) → Now w g (w.files g)) → IsLeft care u a b → IsLeftWith care w a b
    freed_left later left = left_of_since care u w a b left.apart later freed_since
