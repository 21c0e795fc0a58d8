-- From what was read of the journal to the folder.
use Rattle.std.proofs.Common.{◌≡◌, inl, inr, ℕ, ◌+◌, ◌^◌, ◌<◌, ◌≤◌, false, List, [], length, Result, Ok, Err, OnErr, OnOk, IfOk, IsErrOf, refl, sym, ap, ◌∙◌, subst, arith}
use Rattle.std.specs.Prelude.{Vec, IsTrue, ◌↔◌}
use Rattle.std.proofs.lemmas.Bool.{false≢true}
use Rattle.std.proofs.lemmas.List.{length-map}
use Rattle.std.specs.declared.alloc.Global.{Global}
use Rattle.outside_traits.specs.View.{View, Now}
use Rattle.outside_traits.specs.Runs.{Spans, Narrows}
use Rattle.gated_log.specs.Logs.{Reads, contents}
use Rattle.record_codec.specs.declared.form.Form.{Form}
use Rattle.catalog_core.specs.Table.{Table, empty_table}
use Rattle.journal_store.specs.Readings.{generation_file, generations, IsJournalFile, IsUnfinished, HaveBodies, LogHasAtMost}
use Rattle.journal_store.specs.Readings as of_journal
use Rattle.journal_store.specs.Making.{IsLoading, AreStable}
use Rattle.journal_store.specs.Journals.{generation_of, had_root_of, Keeps}
use Rattle.journal_store.specs.declared.journal.Journal.{Journal}
use Rattle.journal_store.specs.declared.refusal.JournalRefusal.{JournalRefusal}
use Rattle.journal_store.specs.declared.refusal.JournalRefusal.TheVariants as journal_refusal
use Rattle.folder.specs.State.{State}
use Rattle.folder.specs.Replay.{form_in, Replays, ReadsAs, StopsReading, StopsReplay, due_in}
use Rattle.folder.specs.Sound.{Care}
use Rattle.folder.specs.Left.{IsLeft, IsLeftWith}
use Rattle.folder.specs.Folders.{Gives, table_in, journal_of, FoundStands, FoundMeans}
use Rattle.folder.specs.Unnamed.{HasRoot}
use Rattle.folder.specs.declared.folder.Folder.{Folder}
use Rattle.folder.specs.declared.found.Found.{Found}
use Rattle.folder.specs.declared.refusal.LoadRefusal.{LoadRefusal}
use Rattle.folder.specs.declared.refusal.LoadRefusal.TheVariants as refusal
use Rattle.folder.specs.Spelled.{IsSpelledTable}
use Rattle.journal_store.proofs.OneReading.{have_once, root_once, unfinished_names}
use Rattle.folder.proofs.JournalLemmas.{none_of_unfinished}
use Rattle.folder.proofs.Crash.{left_of_since}
use Rattle.folder.proofs.Loading.{reads_or_stops, loading_since, loaded_means}
use Rattle.folder.proofs.SpelledLogs.{log_spelled}

abbrev pub Read : Type 0
Read = Result (Journal × Vec (Vec ℕ Global) Global) JournalRefusal

abbrev pub Loaded : Type 0
Loaded = Result Found LoadRefusal

abbrev pub HaveRead : View → Read → Type 0
HaveRead u read = IfOk read (λ p. HaveBodies u.files (generation_of p.0) (contents p.1.items))

pub load_reading : (u : View) (read : Read) (r : Loaded) → Gives read r → HaveRead u read → IfOk r (λ found. ReadsAs u.files (table_in found.folder))
load_reading u read (Err e) gives have = tt
load_reading u (Ok p) (Ok found) gives have = record { generation = generation_of p.0; bodies = contents p.1.items; logs = have; replays = gives.1 }
load_reading u (Err e) (Ok found) gives have = absurd gives

pub load_stands : (v : View) (read : Read) (r : Loaded) → Gives read r → IfOk read (λ p. Keeps v p.0 (generation_of p.0) (contents p.1.items)) → IfOk read (λ p. AreStable v (generation_of p.0))
    → IfOk r (λ found. FoundStands v found)
load_stands v read (Err e) gives keeps stable = tt
load_stands v (Ok p) (Ok found) gives keeps stable = record {
  generation = generation_of p.0;
  bodies = contents p.1.items;
  form_is = sym gives.3;
  keeps = subst (λ (j : Journal). Keeps v j (generation_of p.0) (contents p.1.items)) (sym gives.0) keeps;
  replays = subst (λ f. Replays f (due_in (generation_of p.0)) empty_table (contents p.1.items) (table_in found.folder)) (sym gives.3) gives.1;
  stable = stable;
}
load_stands v (Err e) (Ok found) gives keeps stable = absurd gives

module _ (care : Care) (u v : View) (a b : State) (left : IsLeft care u a b) (loading : Spans IsJournalFile (IsLoading u) u v) where
  pub load_means : (r : Loaded) → IfOk r (λ found. ReadsAs u.files (table_in found.folder)) → IfOk r (λ found. FoundStands v found) → IfOk r (λ found. FoundMeans care v found a)
  load_means (Err e) reading stands = tt
  load_means (Ok found) reading stands = loaded_means care u v a b left loading found.form (table_in found.folder) (journal_of found.folder) stands reading

  pub load_left : (r : Loaded) → ((g : ℕ) → Now v g (v.files g)) → OnErr r (IsLeftWith care v a b)
  load_left (Ok found) law = tt
  load_left (Err e) law = left_of_since care u v a b left.apart law (loading_since care u v a b left loading)

-- which refusal of the journal it was
was_not_a_store : (g b f a : ℕ) → refusal.NotAStore g b ≡ refusal.NotAStore f a → (f ≡ g) × (a ≡ b)
was_not_a_store g b f a is = (cc, cc)

err_of : (f a g b : ℕ) → (f ≡ g) × (a ≡ b) → IsErrOf {T = Journal × Vec (Vec ℕ Global) Global} (Err (journal_refusal.NotAStore f a)) (journal_refusal.NotAStore g b)
err_of f a g b same = ap (λ x. Err (journal_refusal.NotAStore x a)) same.0 ∙ ap (λ y. Err (journal_refusal.NotAStore g y)) same.1

none_stops : (f : Form) (t : Table) (at : ℕ) (g : ℕ) (bodies : List (List ℕ)) → (g ≡ 0) × (bodies ≡ []) → StopsReplay f (due_in g) t 8 bodies at → ⊥
none_stops f t at g bodies none stops =
    let first : StopsReplay f false t 8 bodies at = subst (λ n. StopsReplay f (due_in n) t 8 bodies at) none.0 stops in
    let empty : StopsReplay f false t 8 [] at = subst (λ l. StopsReplay f false t 8 l at) none.1 first in
    false≢true empty.0

-- a refusal of a place: the journal's, or the replay's
pub load_stops : (u : View) (file at : ℕ) (read : Read) → Gives read (Err (refusal.NotAStore file at)) → HaveRead u read
    → ((file at : ℕ) → IsErrOf read (journal_refusal.NotAStore file at) → of_journal.StopsReading u.files file at) → StopsReading u.files file at
load_stops u file at (Ok p) gives have journal = inr (record { generation = generation_of p.0; bodies = contents p.1.items; logs = have; file_is = gives.0; stops = gives.1 })
load_stops u file at (Err journal_refusal.Fault) gives have journal = absurd (cc)
load_stops u file at (Err (journal_refusal.NotAStore f a)) gives have journal = inl (journal file at (err_of f a file at (was_not_a_store file at f a gives)))
load_stops u file at (Err journal_refusal.Memory) gives have journal = absurd (cc)

pub load_unchanged : (u v : View) (file at : ℕ) (read : Read) → Gives read (Err (refusal.NotAStore file at)) → HaveRead u read
    → ((IsUnfinished (u.files 0) → ⊥) → Narrows u v) → ((file at : ℕ) → IsErrOf read (journal_refusal.NotAStore file at) → Narrows u v) → Narrows u v
load_unchanged u v file at (Ok p) gives have finished unchanged =
    finished (λ unfinished. none_stops (form_in (contents p.1.items)) empty_table at (generation_of p.0) (contents p.1.items) (none_of_unfinished u.files (generation_of p.0) (contents p.1.items) have unfinished) gives.1)
load_unchanged u v file at (Err journal_refusal.Fault) gives have finished unchanged = absurd (cc)
load_unchanged u v file at (Err (journal_refusal.NotAStore f a)) gives have finished unchanged = unchanged file at (err_of f a file at (was_not_a_store file at f a gives))
load_unchanged u v file at (Err journal_refusal.Memory) gives have finished unchanged = absurd (cc)

pub gave : (read : Read) (r : Loaded) (file at : ℕ) → Gives read r → IsErrOf r (refusal.NotAStore file at) → Gives read (Err (refusal.NotAStore file at))
gave read r file at gives is = subst (λ x. Gives read x) is gives

pub load_exactly : (u : View) (r : Result Folder LoadRefusal) → IfOk r (λ folder. ReadsAs u.files (table_in folder)) → (file at : ℕ) → StopsReading u.files file at → OnOk r ⊥
load_exactly u (Err e) reading file at stops = tt
load_exactly u (Ok folder) reading file at stops = reads_or_stops u.files (table_in folder) file at reading stops

pub load_ok : (P : Type 0) (read : Read) (r : Loaded) → Gives read r → OnOk read P → OnOk r P
load_ok P read (Err e) gives ok = tt
load_ok P (Ok p) (Ok found) gives ok = ok
load_ok P (Err e) (Ok found) gives ok = absurd gives

pub load_fault : (read : Read) (r : Loaded) → Gives read r → IsErrOf r refusal.Fault → IsErrOf read journal_refusal.Fault
load_fault read r gives is = by read (subst (λ x. Gives read x) is gives)
  where
    by : (read : Read) → Gives read (Err refusal.Fault) → IsErrOf read journal_refusal.Fault
    by (Ok p) gives = absurd gives
    by (Err journal_refusal.Fault) gives = refl
    by (Err (journal_refusal.NotAStore f a)) gives = absurd (cc)
    by (Err journal_refusal.Memory) gives = absurd (cc)

generation_once : (files : ℕ → List ℕ) (g h : ℕ) (bodies : List (List ℕ)) → HaveBodies files g bodies → Reads (generations h) (files 0) → h ≡ g
generation_once files g h bodies (inl made) reads = root_once h g (files 0) reads made.root
generation_once files g h bodies (inr unmade) reads = absurd (unfinished_names h (files 0) reads unmade.root)

-- the bytes of the root and of the log that it names
pub taken_of : (u : View) (taken more : ℕ) → ((n : ℕ) → LogHasAtMost u.files n → more ≤ taken + length (u.files 0) + n)
    → (g : ℕ) (bodies : List (List ℕ)) → HaveBodies u.files g bodies → more ≤ taken + length (u.files 0) + length (u.files (generation_file g))
taken_of u taken more most g bodies have =
    most (length (u.files (generation_file g))) (λ h reads.
    let same : length (u.files (generation_file h)) ≡ length (u.files (generation_file g)) =
    ap (λ n. length (u.files (generation_file n))) (generation_once u.files g h bodies have reads) in
    omega (arith, same))

-- what the files have in use, after each crash now
pub load_bodies : (u v : View) (read : Read) (r : Loaded) → Gives read r → HaveRead u read → IfOk read (λ p. Keeps v p.0 (generation_of p.0) (contents p.1.items))
    → (g : ℕ) (bodies : List (List ℕ)) → HaveBodies u.files g bodies
    → IfOk r (λ found. (generation_of (journal_of found.folder) ≡ g) × Keeps v (journal_of found.folder) g bodies × (found.bodies ≡ length bodies) × (found.form ≡ form_in bodies))
load_bodies u v read (Err e) gives have keeps g bodies is = tt
load_bodies u v (Err e) (Ok found) gives have keeps g bodies is = absurd gives
load_bodies u v (Ok p) (Ok found) gives have keeps g bodies is =
    let same = have_once u.files (generation_of p.0) g (contents p.1.items) bodies have is in
    let of_journal : generation_of (journal_of found.folder) ≡ generation_of p.0 = ap generation_of gives.0 in
    let kept : Keeps v (journal_of found.folder) (generation_of p.0) (contents p.1.items) = subst (λ (j : Journal). Keeps v j (generation_of p.0) (contents p.1.items)) (sym gives.0) keeps in (
      of_journal ∙ same.0,
      subst (λ (l : List (List ℕ)). Keeps v (journal_of found.folder) g l) same.1 (subst (λ n. Keeps v (journal_of found.folder) n (contents p.1.items)) same.0 kept),
      gives.2 ∙ sym (length-map p.1.items (λ (x : Vec ℕ Global). x.items)) ∙ ap length same.1,
      gives.3 ∙ ap form_in same.1,
    )

pub load_named : (read : Read) (r : Loaded) → Gives read r → IfOk read (λ p. generation_of p.0 < 2 ^ 60) → IfOk r (λ found. generation_of (journal_of found.folder) < 2 ^ 60)
load_named read (Err e) gives named = tt
load_named (Err e) (Ok found) gives named = absurd gives
load_named (Ok p) (Ok found) gives named = subst (λ (j : Journal). generation_of j < 2 ^ 60) (sym gives.0) named

pub load_had_root : (u : View) (read : Read) (r : Loaded) → Gives read r → IfOk read (λ p. IsTrue (had_root_of p.0) ↔ HasRoot u.files)
    → IfOk r (λ found. IsTrue (had_root_of (journal_of found.folder)) ↔ HasRoot u.files)
load_had_root u read (Err e) gives had = tt
load_had_root u (Err e) (Ok found) gives had = absurd gives
load_had_root u (Ok p) (Ok found) gives had = subst (λ (j : Journal). IsTrue (had_root_of j) ↔ HasRoot u.files) (sym gives.0) had

pub load_spelled : (read : Read) (r : Loaded) → Gives read r → IfOk r (λ found. IsSpelledTable (table_in found.folder))
load_spelled read (Err e) gives = tt
load_spelled (Err e) (Ok found) gives = absurd gives
load_spelled (Ok p) (Ok found) gives = log_spelled (form_in (contents p.1.items)) (due_in (generation_of p.0)) (contents p.1.items) (table_in found.folder) gives.1

-- ---- whether a result is one or a refusal

pub on_err : {T E P : Type 0} (r : Result T E) → P → OnErr r P
on_err (Ok x) holds = tt
on_err (Err e) holds = holds

pub on_ok : {T E P : Type 0} (r : Result T E) → P → OnOk r P
on_ok (Ok x) holds = holds
on_ok (Err e) holds = tt
