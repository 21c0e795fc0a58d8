-- Which files a folder names, and what a run that spares them leaves.
use Rattle.std.proofs.Common.{◌≡◌, ◌≢◌, ◌∙◌, inl, inr, refl, sym, ap, subst, ℕ, ◌+◌, ◌^◌, ◌<◌, ◌==◌, Bool, true, false, true≢false, List, [], ◌∷◌, ◌++◌, map, arith}
use Rattle.std.specs.Prelude.{IsTrue, not, ◌⊎◌}
use Rattle.std.specs.List.{Contains, flat_map}
use Rattle.std.specs.List.Sorted.{IsPermutation}
use Rattle.std.proofs.lemmas.List.Sorted.{list_any-IsPermutation}
use Rattle.std.proofs.lemmas.List.Elements.{Contains-append_left, Contains-append_right, Contains-append_cases}
use Rattle.outside_traits.specs.View.{View, Now}
use Rattle.outside_traits.specs.Runs.{Narrows, Spans}
use Rattle.outside_traits.proofs.RunLemmas.{spans_narrowed, spans_on, spans_wider, image_has}
use Rattle.folder.specs.Strays.{is_named, IsStray, ChangesStrays, OnlyNamed}
use Rattle.folder.proofs.Searching.{decides_named}
use Rattle.rows_core.specs.declared.file_ref.FileRef.{FileRef}
use Rattle.plan_laws.proofs.Members.{at_front, behind, front_or_behind, none_in_nothing, mapped}
use Rattle.catalog_core.specs.OwnFiles.{extent_files, result_files, files_in}
use Rattle.record_codec.specs.Forms.{newest}
use Rattle.catalog_core.specs.Table.{Table, empty_table}
use Rattle.journal_store.specs.Journals.{generation_of, Keeps}
use Rattle.journal_store.specs.Readings.{generation_file, users_file, is_journal_file, IsJournalFile}
use Rattle.journal_store.specs.declared.journal.Journal.{Journal}
use Rattle.journal_store.proofs.MakingLemmas.{log_is_journal}
use Rattle.folder.specs.Folders.{journal_of, table_in}
use Rattle.folder.specs.InUse.{IsInUse}
use Rattle.folder.specs.Left.{Everything, LeavesAlone, StaysSound}
use Rattle.folder.specs.Replay.{ReadsAs, Replays, due_in}
use Rattle.folder.specs.Sound.{Care, IsSound}
use Rattle.folder.specs.Standing.{Stands, Means}
use Rattle.folder.specs.State.{State, Names, extent_of, states_of, stream_of, table}
use Rattle.folder.specs.Unnamed.{HasRoot, IsLogOrUnnamed, IsUnnamed, ChangesUnnamed, ChangesLogsOrUnnamed, named_by}
use Rattle.folder.specs.declared.folder.Folder.{Folder}
use Rattle.folder.proofs.Frames.{holds_beside, root_is_journal}
use Rattle.folder.proofs.JournalLemmas.{few_in}
use Rattle.folder.proofs.Replays.{reads_of}

-- ---- what is named

flat_member : {X A : Type 0} (f : X → List A) (xs : List X) (x : X) (y : A) → Contains xs x → Contains (f x) y → Contains (flat_map f xs) y
flat_member f [] x y has there = absurd (none_in_nothing x has)
flat_member {X = X} f (z ∷ zs) x y has there = by (λ at. flat_member f zs x y at there) (front_or_behind z zs x has)
  where
    by : (Contains zs x → Contains (flat_map f zs) y) → (z ≡ x) ⊎ Contains zs x → Contains (f z ++ flat_map f zs) y
    by rest (inl here) = Contains-append_left (f z) (flat_map f zs) y (subst (λ (w : X). Contains (f w) y) (sym here) there)
    by rest (inr at) = Contains-append_right (f z) (flat_map f zs) y (rest at)

-- the files that stand behind those of the table
abbrev behind_files : ℕ → List ℕ
behind_files g = 0 ∷ generation_file g ∷ users_file ∷ []

pub names_root : (g : ℕ) (t : Table) → Contains (named_by g t) 0
names_root g t = Contains-append_right (files_in t.streams t.entries) (behind_files g) 0 (at_front 0 (generation_file g ∷ users_file ∷ []))

pub names_log : (g : ℕ) (t : Table) → Contains (named_by g t) (generation_file g)
names_log g t =
    Contains-append_right (files_in t.streams t.entries) (behind_files g) (generation_file g)
    (behind 0 (generation_file g ∷ users_file ∷ []) (generation_file g) (at_front (generation_file g) (users_file ∷ [])))

pub names_users : (g : ℕ) (t : Table) → Contains (named_by g t) users_file
names_users g t =
    Contains-append_right (files_in t.streams t.entries) (behind_files g) users_file
    (behind 0 (generation_file g ∷ users_file ∷ []) users_file (behind (generation_file g) (users_file ∷ []) users_file (at_front users_file [])))

-- the file of an extent or of a kept result
file_in : (s : State) (at : FileRef) (bytes : List ℕ) → Names s at bytes → Contains (files_in (states_of s.streams) s.entries) at.file
file_in s at bytes (inl names) =
    Contains-append_left (extent_files (states_of s.streams)) (result_files s.entries) at.file
    (subst (λ (r : FileRef). Contains (extent_files (states_of s.streams)) r.file) (sym names.at_is)
    (flat_member (λ stream. map (λ extent. extent.file.file) stream.extents) (states_of s.streams) (stream_of names.stream) names.extent.file.file
    (mapped stream_of s.streams names.stream names.has.0)
    (mapped (λ extent. extent.file.file) (map extent_of names.stream.extents) (extent_of names.extent) (mapped extent_of names.stream.extents names.extent names.has.1))))
file_in s at bytes (inr names) =
    Contains-append_right (extent_files (states_of s.streams)) (result_files s.entries) at.file
    (subst (λ (r : FileRef). Contains (result_files s.entries) r.file) (sym names.at_is) (mapped (λ e. e.file.file) s.entries names.entry names.has))

names_file : (g : ℕ) (s : State) (at : FileRef) (bytes : List ℕ) → Names s at bytes → Contains (named_by g (table s)) at.file
names_file g s at bytes names = Contains-append_left (files_in (states_of s.streams) s.entries) (behind_files g) at.file (file_in s at bytes names)

-- what is named is no stray
named_has : (named : List ℕ) (file : ℕ) → Contains named file → IsStray named file → ⊥
named_has named file has stray = true≢false (sym stray ∙ ap not ((decides_named named file).1 has))

-- the order of the numbers doesn't matter
named_alike : (a b : List ℕ) (file : ℕ) → IsPermutation a b → is_named a file ≡ is_named b file
named_alike a b file same = list_any-IsPermutation (λ other. other == file) a b same

pub strays_alike : (a b : List ℕ) (u v : View) → IsPermutation a b → ChangesStrays b u v → ChangesStrays a u v
strays_alike a b u v same run =
    spans_wider (IsStray b) (IsStray a) (λ image. Unit {0}) (λ image. Unit {0}) u v run (λ file stray. subst (λ x. IsTrue (not x)) (sym (named_alike a b file same)) stray) (λ image any others. tt)

pub gone_alike : {P : Type 0} (a b : List ℕ) (v : View) → IsPermutation a b → P ⊎ OnlyNamed v b → P ⊎ OnlyNamed v a
gone_alike a b v same (inl rose) = inl rose
gone_alike a b v same (inr only) = inr (λ file low there. subst IsTrue (sym (named_alike a b file same)) (only file low there))

-- ---- a run that spares it

module _ (u v : View) (t : Table) (journal : Journal) (run : ChangesStrays (named_by (generation_of journal) t) u v) where
  at_generation : (g : ℕ) → generation_of journal ≡ g → ChangesStrays (named_by g t) u v
  at_generation g is = subst (λ (n : ℕ). ChangesStrays (named_by n t) u v) is run

  now_before : (g file : ℕ) (x : List ℕ) → generation_of journal ≡ g → Contains (named_by g t) file → Now v file x → Now u file x
  now_before g file x is has now = (at_generation g is).others v.moment file x run.time.later (omega arith) (named_has (named_by g t) file has) now

  same_file : (g file : ℕ) → generation_of journal ≡ g → Contains (named_by g t) file → v.files file ≡ u.files file
  same_file g file is has = (at_generation g is).same file (named_has (named_by g t) file has)

  pub strays_keep : (g : ℕ) (bodies : List (List ℕ)) → Keeps u journal g bodies → Keeps v journal g bodies
  strays_keep g bodies keeps = record {
    is_generation = keeps.is_generation;
    end = keeps.end;
    root = λ x now. keeps.root x (now_before g 0 x keeps.is_generation (names_root g t) now);
    log = λ x now. keeps.log x (now_before g (generation_file g) x keeps.is_generation (names_log g t) now);
    few = keeps.few;
  }

  pub strays_stand : Stands u t journal → Stands v t journal
  strays_stand stands =
      let g = stands.generation in
      let is = stands.keeps.is_generation in
      record {
        generation = stands.generation;
        bodies = stands.bodies;
        form_is = stands.form_is;
        keeps = strays_keep stands.generation stands.bodies stands.keeps;
        replays = stands.replays;
        stable = record {
          root = λ x now. stands.stable.root x (now_before g 0 x is (names_root g t) now) ∙ sym (same_file g 0 is (names_root g t));
          log = λ x now. stands.stable.log x (now_before g (generation_file g) x is (names_log g t) now) ∙ sym (same_file g (generation_file g) is (names_log g t));
        };
      }

  module _ (care : Care) (s : State) (law : (g : ℕ) → Now u g (u.files g)) (means : Means care u t journal s) where
    abbrev g : ℕ
    g = means.stands.generation

    is : generation_of journal ≡ g
    is = means.stands.keeps.is_generation

    spared : (image : ℕ → List ℕ) → ((file : ℕ) → (IsStray (named_by g t) file → ⊥) → Now u file (image file)) → IsSound care image s
    spared image others = record {
      reading =
          reads_of newest image g means.stands.bodies (table s)
          (inl (record {
            root = means.stands.keeps.root (image 0) (others 0 (named_has (named_by g t) 0 (names_root g t)));
            log = means.stands.keeps.log (image (generation_file g)) (others (generation_file g) (named_has (named_by g t) (generation_file g) (names_log g t)));
            few = means.stands.keeps.few;
          }))
          means.stands.form_is (subst (λ x. Replays newest (due_in g) empty_table means.stands.bodies x) means.table_is means.stands.replays);
      valid = means.valid;
      holds = holds_beside care u (λ file. not (is_named (named_by g t) file)) law image others s (λ i now. (means.settled i now).holds)
          (λ at bytes names. named_has (named_by g t) at.file (subst (λ (x : Table). Contains (named_by g x) at.file) (sym means.table_is) (names_file g s at bytes names)));
    }

    -- each crash leaves the state as it was
    pub strays_stay : StaysSound care s u v
    strays_stay =
        spans_wider (IsStray (named_by g t)) Everything (λ image. Unit {0}) (λ image. IsSound care image s) u v (at_generation g is) (λ file stray. tt) (λ image any others. spared image others)

    pub strays_mean : Means care v t journal s
    strays_mean = record {
      table_is = means.table_is;
      stands = strays_stand means.stands;
      valid = means.valid;
      settled = image_has Everything (λ image. IsSound care image s) u v strays_stay;
    }

-- the generation in use stays in use
pub strays_use : (u v : View) (folder : Folder) → ChangesStrays (named_by (generation_of (journal_of folder)) (table_in folder)) u v
    → (g : ℕ) (bodies : List (List ℕ)) → IsInUse u folder g bodies → IsInUse v folder g bodies
strays_use u v folder run g bodies (inl left) = inl (record {
  stays = left.stays;
  generation = left.generation;
  keeps = strays_keep u v (table_in folder) (journal_of folder) run g bodies left.keeps;
})
strays_use u v folder run g bodies (inr next) = inr (record {
  goes = next.goes;
  generation = next.generation;
  body = next.body;
  spells = next.spells;
  keeps = strays_keep u v (table_in folder) (journal_of folder) run (g + 1) (next.body ∷ []) next.keeps;
})

-- ---- what such a run changes

module _ (files : ℕ → List ℕ) (t : Table) (has_root : HasRoot files) (reading : ReadsAs files t) where
  -- where that generation is in use it is unnamed
  pub stray_unnamed : (g file : ℕ) → g ≡ reading.generation → IsStray (named_by g t) file → IsUnnamed files file
  stray_unnamed g file is stray = record { has_root = has_root; t = t; reading = reading; stray = subst (λ (n : ℕ). IsStray (named_by n t) file) is stray }

  other_stray : (g file : ℕ) → is_journal_file file ≡ false → IsStray (named_by g t) file → IsStray (named_by reading.generation t) file
  other_stray g file plain stray = by (is_named (named_by reading.generation t) file) refl
    where
      no_users : users_file ≡ file → ⊥
      no_users is = named_has (named_by g t) file (subst (Contains (named_by g t)) is (names_users g t)) stray

      no_log : (h : ℕ) → h < 2 ^ 62 → Contains (behind_files h) file → ⊥
      no_log h few has = elim (front_or_behind 0 (generation_file h ∷ users_file ∷ []) file has) [
        | inl root ↦ true≢false (sym (subst IsJournalFile root root_is_journal) ∙ plain)
        | inr more ↦ elim (front_or_behind (generation_file h) (users_file ∷ []) file more) [
          | inl log ↦ true≢false (sym (subst IsJournalFile log (log_is_journal h few)) ∙ plain)
          | inr last ↦ elim (front_or_behind users_file [] file last) [
            | inl users ↦ no_users users
            | inr none ↦ none_in_nothing file none
          ]
        ]
      ]

      not_named : Contains (named_by reading.generation t) file → ⊥
      not_named has = elim (Contains-append_cases (files_in t.streams t.entries) (behind_files reading.generation) file has) [
        | inl of_table ↦ named_has (named_by g t) file (Contains-append_left (files_in t.streams t.entries) (behind_files g) file of_table) stray
        | inr of_journal ↦ no_log reading.generation (few_in files reading.generation reading.bodies reading.logs) of_journal
      ]

      by : (b : Bool) → is_named (named_by reading.generation t) file ≡ b → IsTrue (not b)
      by true is = absurd (not_named ((decides_named (named_by reading.generation t) file).0 is))
      by false is = refl

  -- and where another one came to be in use, it is a log or unnamed
  pub stray_log_or_unnamed : (g file : ℕ) → IsStray (named_by g t) file → IsLogOrUnnamed files file
  stray_log_or_unnamed g file stray = by (is_journal_file file) refl
    where
      by : (b : Bool) → is_journal_file file ≡ b → IsLogOrUnnamed files file
      by true log = inl log
      by false plain = inr (stray_unnamed reading.generation file refl (other_stray g file plain stray))

-- none was changed
pub unnamed_narrowed : (u v : View) → Narrows u v → ChangesUnnamed u v
unnamed_narrowed u v narrow = spans_narrowed (IsUnnamed u.files) (λ image. Unit {0}) u v narrow (λ image is. tt)

-- logs alone were
pub logs_or_unnamed : (u v : View) → Spans IsJournalFile (λ image. Unit {0}) u v → ChangesLogsOrUnnamed u v
logs_or_unnamed u v run = spans_wider IsJournalFile (IsLogOrUnnamed u.files) (λ image. Unit {0}) (λ image. Unit {0}) u v run (λ g log. inl log) (λ image any others. tt)

-- and then files that the folder doesn't name
pub then_strays : (t : Table) (g : ℕ) (u v w : View) → HasRoot u.files → ReadsAs u.files t → Spans IsJournalFile (λ image. Unit {0}) u v → ChangesStrays (named_by g t) v w → ChangesLogsOrUnnamed u w
then_strays t g u v w has_root reading logs run =
    spans_on (IsLogOrUnnamed u.files) (λ image. Unit {0}) u v w (logs_or_unnamed u v logs)
    (spans_wider (IsStray (named_by g t)) (IsLogOrUnnamed u.files) (λ image. Unit {0}) (λ image. Unit {0}) v w run (λ file stray. stray_log_or_unnamed u.files t has_root reading g file stray)
    (λ image any others. tt))

-- these alone, where the generation in use stayed
pub strays_alone : (t : Table) (g : ℕ) (u v w : View) (has_root : HasRoot u.files) (reading : ReadsAs u.files t) → g ≡ reading.generation → Narrows u v → ChangesStrays (named_by g t) v w → ChangesUnnamed u w
strays_alone t g u v w has_root reading is narrow run =
    spans_on (IsUnnamed u.files) (λ image. Unit {0}) u v w (unnamed_narrowed u v narrow)
    (spans_wider (IsStray (named_by g t)) (IsUnnamed u.files) (λ image. Unit {0}) (λ image. Unit {0}) v w run (λ file stray. stray_unnamed u.files t has_root reading g file is stray) (λ image any others. tt))

-- ---- the users' file

-- it is no log, and each folder names it
users_stay : (files : ℕ → List ℕ) (file : ℕ) → IsLogOrUnnamed files file → file ≡ users_file → ⊥
users_stay files file (inl log) is = true≢false (sym log ∙ ap is_journal_file is)
users_stay files file (inr unnamed) is =
    named_has (named_by unnamed.reading.generation unnamed.t) users_file (names_users unnamed.reading.generation unnamed.t)
    (subst (IsStray (named_by unnamed.reading.generation unnamed.t)) is unnamed.stray)

pub users_alone : (u v : View) → ChangesLogsOrUnnamed u v → LeavesAlone users_file u v
users_alone u v run =
    spans_wider (IsLogOrUnnamed u.files) (λ g. g ≢ users_file) (λ image. Unit {0}) (λ image. Unit {0}) u v run (λ g of is. users_stay u.files g of is) (λ image any others. tt)
