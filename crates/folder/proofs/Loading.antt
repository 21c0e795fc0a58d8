-- Loading a store that is left with one or two states.
use Rattle.std.proofs.Common.{◌≢◌, ◌≡◌, inl, inr, ℕ, ◌+◌, false, List, [], ◌∷◌, map, refl, sym, ap, ◌∙◌, subst, arith}
use Rattle.std.specs.List.{Contains}
use Rattle.outside_traits.specs.View.{View, IsImageAt}
use Rattle.outside_traits.specs.Runs.{Spans}
use Rattle.outside_traits.proofs.RunLemmas.{spans_wider, image_has}
use Rattle.rows_core.specs.declared.file_ref.FileRef.{FileRef}
use Rattle.catalog_types.specs.PlainEntry.{PlainEntry}
use Rattle.catalog_types.specs.declared.change.Change.{Change}
use Rattle.catalog_types.specs.declared.change.Change.TheVariants as change
use Rattle.record_codec.specs.declared.form.Form.{Form}
use Rattle.catalog_core.specs.Table.{Table, empty_table, after}
use Rattle.journal_store.specs.Readings.{generation_file, IsJournalFile}
use Rattle.journal_store.specs.Making.{IsLoading}
use Rattle.journal_store.specs.declared.journal.Journal.{Journal}
use Rattle.folder.specs.State.{Stream, State, Names, table, stream_of}
use Rattle.folder.specs.Replay.{form_in, Replays, ReadsAs, StopsReplay, StopsReading, due_in, is_checkpoint}
use Rattle.folder.specs.Sound.{Care, IsSound}
use Rattle.folder.specs.Left.{Follows, AreApart, IsSoundForOneOf, IsLeft, Everything, Since}
use Rattle.folder.specs.Standing.{StandsIn, MeansIn}
use Rattle.folder.proofs.Replays.{reads_of, replays_once, replays_or_stops, stops_once}
use Rattle.journal_store.proofs.OneReading.{have_once, have_or_stop, stop_once as stop_once_in_journal}
use Rattle.folder.proofs.JournalLemmas.{none_of_unfinished}

-- what these files have in use leads to a table, as what they also have in use does
same_replays : (x : Table) (g h : ℕ) (bodies others : List (List ℕ)) → (g ≡ h) × (bodies ≡ others) → Replays (form_in bodies) (due_in g) empty_table bodies x
    → Replays (form_in others) (due_in h) empty_table others x
same_replays x g h bodies others same run =
    subst (λ l. Replays (form_in l) (due_in h) empty_table l x) same.1 (subst (λ n. Replays (form_in bodies) (due_in n) empty_table bodies x) same.0 run)

-- files read as one table
pub reads_once : (files : ℕ → List ℕ) (x y : Table) → ReadsAs files x → ReadsAs files y → x ≡ y
reads_once files x y a b =
    let same = have_once files a.generation b.generation a.bodies b.bodies a.logs b.logs in
    replays_once (form_in b.bodies) (due_in b.generation) empty_table x y b.bodies (same_replays x a.generation b.generation a.bodies b.bodies same a.replays) b.replays

-- and where they do, nothing stops
pub reads_or_stops : (files : ℕ → List ℕ) (x : Table) (file at : ℕ) → ReadsAs files x → StopsReading files file at → ⊥
reads_or_stops files x file at a (inl stops) = have_or_stop files a.generation a.bodies file at a.logs stops
reads_or_stops files x file at a (inr b) =
    let same = have_once files a.generation b.generation a.bodies b.bodies a.logs b.logs in
    replays_or_stops (form_in b.bodies) (due_in b.generation) empty_table x 8 at b.bodies (same_replays x a.generation b.generation a.bodies b.bodies same a.replays) b.stops

-- reading stops at one place
pub stop_once : (files : ℕ → List ℕ) (file at g b : ℕ) → StopsReading files file at → StopsReading files g b → (file ≡ g) × (at ≡ b)
stop_once files file at g b (inl x) (inl y) = stop_once_in_journal files file at g b x y
stop_once files file at g b (inl x) (inr y) = absurd (have_or_stop files y.generation y.bodies file at y.logs x)
stop_once files file at g b (inr x) (inl y) = absurd (have_or_stop files x.generation x.bodies g b x.logs y)
stop_once files file at g b (inr x) (inr y) =
    let same = have_once files x.generation y.generation x.bodies y.bodies x.logs y.logs in
    let due : StopsReplay (form_in x.bodies) (due_in y.generation) empty_table 8 x.bodies at = subst (λ n. StopsReplay (form_in x.bodies) (due_in n) empty_table 8 x.bodies at) same.0 x.stops in (
      x.file_is ∙ ap generation_file same.0 ∙ sym y.file_is,
      stops_once (form_in y.bodies) (due_in y.generation) empty_table 8 at b y.bodies (subst (λ l. StopsReplay (form_in l) (due_in y.generation) empty_table 8 l at) same.1 due) y.stops,
    )

-- the files now and after each crash read as the table of a journal that stands
pub stands_reads : (f : Form) (v : View) (t : Table) (journal : Journal) (image : ℕ → List ℕ) → StandsIn f v t journal → IsImageAt v v.moment image → ReadsAs image t
stands_reads f v t journal image stands is =
    reads_of f image stands.generation stands.bodies t
    (inl (record { root = stands.keeps.root (image 0) (is 0); log = stands.keeps.log (image (generation_file stands.generation)) (is (generation_file stands.generation)); few = stands.keeps.few }))
    stands.form_is stands.replays

-- ---- states with one table

tick-after : (c : Change) (t : Table) → is_checkpoint c ≡ false → (after c t).tick ≡ t.tick + 1
tick-after (change.Stream name columns) t plain = refl
tick-after (change.Append stream extent) t plain = refl
tick-after (change.Work program reads dropped kept) t plain = refl
tick-after (change.Collect ids) t plain = refl
tick-after (change.Checkpoint whole) t plain = absurd (cc)

pub follows_apart : (a b : State) → Follows a b → a.tick ≢ b.tick
follows_apart a b follows same =
    let up : b.tick ≡ a.tick + 1 = ap (λ (t : Table). t.tick) follows.1.1 ∙ tick-after follows.0 (table a) follows.1.0.0 in
    absurd (omega (arith, up, same))

-- two states that are apart or one, and have one table, are one
pub apart_same : (a b : State) → AreApart a b → table a ≡ table b → a ≡ b
apart_same a b (inl same) is = same
apart_same a b (inr other) is = absurd (other (ap (λ (t : Table). t.tick) is))

-- ---- loading

none_in : (x : Stream) (xs : List Stream) → map stream_of xs ≡ [] → Contains xs x → ⊥
none_in x [] is has = absurd (omega (arith, has.1))
none_in x (y ∷ ys) is has = absurd (cc)

no_entry : (entries : List PlainEntry) (e : PlainEntry) → entries ≡ [] → Contains entries e → ⊥
no_entry [] e is has = absurd (omega (arith, has.1))
no_entry (x ∷ xs) e is has = absurd (cc)

-- a state with the empty table names no file
pub empty_names_none : (s : State) (at : FileRef) (bytes : List ℕ) → table s ≡ empty_table → Names s at bytes → ⊥
empty_names_none s at bytes is (inl names) = none_in names.stream s.streams (ap (λ (t : Table). t.streams) is) names.has.0
empty_names_none s at bytes is (inr names) = no_entry s.entries names.entry (ap (λ (t : Table). t.entries) is) names.has

module _ (care : Care) (u v : View) (a b : State) (left : IsLeft care u a b) (loading : Spans IsJournalFile (IsLoading u) u v) where
  loading_one : (image : ℕ → List ℕ) → IsLoading u image → IsSoundForOneOf care a b image
  loading_one image (inl now) = left.images image now
  loading_one image (inr making) =
      let none = none_of_unfinished u.files left.read.reading.generation left.read.reading.bodies left.read.reading.logs making.0 in
      let empty : Replays (form_in []) false empty_table [] (table a) = same_replays (table a) left.read.reading.generation 0 left.read.reading.bodies [] none left.read.reading.replays in
      inl (record {
        reading = record { generation = 0; bodies = []; logs = making.1; replays = empty };
        valid = left.read.valid;
        holds = λ at bytes names. absurd (empty_names_none a at bytes empty.1 names);
      })

  -- each crash since leaves files of the one state or of the other
  pub loading_since : Since care a b u v
  loading_since = spans_wider IsJournalFile Everything (IsLoading u) (IsSoundForOneOf care a b) u v loading (λ g is. tt) (λ image is others. loading_one image is)

  -- and once the table is loaded, of the first alone
  pub loaded_means : (f : Form) (t : Table) (journal : Journal) → StandsIn f v t journal → ReadsAs u.files t → MeansIn f care v t journal a
  loaded_means f t journal stands reading =
      let same : t ≡ table a = reads_once u.files t (table a) reading left.read.reading in
      record {
        table_is = same;
        stands = stands;
        valid = left.read.valid;
        settled = λ image is. elim (image_has Everything (IsSoundForOneOf care a b) u v loading_since image is) [
          | inl sound ↦ sound
          | inr sound ↦
              let tables : table a ≡ table b = sym same ∙ reads_once image t (table b) (stands_reads f v t journal image stands is) sound.reading in
              subst (λ s. IsSound care image s) (sym (apart_same a b left.apart tables)) sound
        ];
      }
