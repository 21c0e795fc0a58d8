-- The states that follow from one by a piece of work or a collection: their files, and that they are valid.
use Rattle.std.proofs.Common.{◌≡◌, ◌⊎◌, inl, inr, ℕ, ◌+◌, ◌<◌, ◌≤◌, List, [], ◌∷◌, length, Option, Result, Ok, refl, sym, ap, ◌∙◌, subst, arith}
use Rattle.std.specs.List.{Contains, AllByRecursion}
use Rattle.outside_traits.specs.View.{View}
use Rattle.rows_core.specs.declared.file_ref.FileRef.{FileRef}
use Rattle.row_blob.specs.Spelling.{kept_spelling}
use Rattle.row_blob.specs.declared.kept.Kept.{Kept}
use Rattle.rows_core.specs.declared.overflow.Overflow.{Overflow}
use Rattle.plan_core.specs.PlainPlan.{PlainPlan}
use Rattle.plan_laws.specs.KeptForm.{kept_form}
use Rattle.estimator.specs.Cuts.{Cuts}
use Rattle.catalog_types.specs.PlainEntry.{PlainEntry, PlainNewEntry}
use Rattle.catalog_types.specs.declared.change.Change.TheVariants as change
use Rattle.catalog_types.specs.declared.program.Program.{Program}
use Rattle.entry_table.specs.Ids.{without}
use Rattle.entry_table.specs.Keyed.{Digests, keys_of}
use Rattle.entry_table.specs.Results.{HaveNextFiles}
use Rattle.entry_table.specs.Work.{with_uses, new_entry, new_entries}
use Rattle.entry_table.proofs.Files.{files-fit}
use Rattle.entry_table.proofs.Growth.{all-append, all-without, all-used}
use Rattle.rewrite_core.proofs.Looking.{Contains-first, Contains-behind}
use Rattle.catalog_core.specs.Results.{digests_of}
use Rattle.catalog_core.specs.Table.{Fits}
use Rattle.catalog_core.proofs.IdleWork.{idle-after}
use Rattle.catalog_core.proofs.AskedResults.{all-at}
use Rattle.folder.specs.State.{Stream, State, Names, IsEntryOf, IsValid, lists_in, states_of, ref_of, table}
use Rattle.folder.specs.Next.{with_run, with_work, with_collection, worked, IsReadyResult}

-- ---- lists

all-self-from : {A : Type 0} (P : A → Type 0) (xs : List A) → ((x : A) → Contains xs x → P x) → AllByRecursion P xs
all-self-from P [] f = tt
all-self-from P (x ∷ xs) f = (f x (Contains-first x xs), all-self-from P xs (λ y has. f y (Contains-behind x xs y has)))

all-self : {A : Type 0} (xs : List A) → AllByRecursion (Contains xs) xs
all-self xs = all-self-from (Contains xs) xs (λ x has. has)

all-new : (P : PlainNewEntry → Type 0) (Q : PlainEntry → Type 0) (digests : Digests) (tick : ℕ) → ((id : ℕ) (new : PlainNewEntry) → P new → Q (new_entry tick id (keys_of digests new) new))
    → (id : ℕ) (news : List PlainNewEntry) → AllByRecursion P news → AllByRecursion Q (new_entries digests tick id news)
all-new P Q digests tick f id [] all = tt
all-new P Q digests tick f id (new ∷ news) all = (f id new all.0, all-new P Q digests tick f (id + 1) news all.1)

-- ---- where the kept results come from

-- a kept result of before, or a new one
abbrev IsSame : PlainPlan → Cuts → FileRef → PlainEntry → Type 0
IsSame plan cuts file e = (plan ≡ e.plan) × (cuts ≡ e.cuts) × (file ≡ e.file)

abbrev IsOld : List PlainEntry → PlainEntry → Type 0
IsOld entries e = (old : PlainEntry) × Contains entries old × IsSame old.plan old.cuts old.file e

abbrev IsNew : List PlainNewEntry → PlainEntry → Type 0
IsNew kept e = (new : PlainNewEntry) × Contains kept new × IsSame new.plan new.cuts new.file e

abbrev ComesFrom : List PlainEntry → List PlainNewEntry → PlainEntry → Type 0
ComesFrom entries kept e = IsOld entries e ⊎ IsNew kept e

module _ (s : State) (program : Option Program) (reads dropped : List ℕ) (kept : List PlainNewEntry) where
  all-come : AllByRecursion (ComesFrom s.entries kept) (worked s reads dropped kept).entries
  all-come =
      let digests : Digests = digests_of (states_of s.streams) in
      all-append (ComesFrom s.entries kept) (with_uses (s.tick + 1) reads (without dropped s.entries)) (new_entries digests (s.tick + 1) s.next_id kept)
      (all-used (Contains s.entries) (ComesFrom s.entries kept) (s.tick + 1) reads (λ e has. (inl (e, has, (refl, refl, refl)), inl (e, has, (refl, refl, refl))))
      (without dropped s.entries) (all-without (Contains s.entries) dropped s.entries (all-self s.entries)))
      (all-new (Contains kept) (ComesFrom s.entries kept) digests (s.tick + 1) (λ id new has. inr (new, has, (refl, refl, refl))) s.next_id kept (all-self kept))

-- ---- the files that they name

-- the file of a new result
pub record NamesNew (streams : List Stream) (kept : List PlainNewEntry) (at : FileRef) (bytes : List ℕ) : Type 0 where
  pub new : PlainNewEntry
  pub has : Contains kept new
  pub form : Kept
  pub form_is : kept_form new.plan (lists_in streams new.plan new.cuts) ≡ Ok form
  pub at_is : at ≡ new.file
  pub bytes_are : bytes ≡ kept_spelling form

form-moved : (streams : List Stream) (p q : PlainPlan) (c d : Cuts) (form : Kept) → p ≡ q → c ≡ d → kept_form q (lists_in streams q d) ≡ Ok form → kept_form p (lists_in streams p c) ≡ Ok form
form-moved streams p q c d form e f is = (λ i. kept_form (e i) (lists_in streams (e i) (f i))) ∙ is

pub names-with_work : (s : State) (program : Option Program) (reads dropped : List ℕ) (kept : List PlainNewEntry) (at : FileRef) (bytes : List ℕ) → Names (with_work s program reads dropped kept) at bytes
    → Names s at bytes ⊎ NamesNew s.streams kept at bytes
names-with_work s program reads dropped kept at bytes (inl names) =
    inl (inl (record { stream = names.stream; extent = names.extent; has = names.has; at_is = names.at_is; bytes_are = names.bytes_are }))
names-with_work s program reads dropped kept at bytes (inr names) =
    elim (all-at (ComesFrom s.entries kept) (worked s reads dropped kept).entries names.entry (all-come s program reads dropped kept) names.has) [
      | inl old ↦ inl (inr (record {
        entry = old.0;
        has = old.1;
        form = names.form;
        form_is = form-moved s.streams old.0.plan names.entry.plan old.0.cuts names.entry.cuts names.form old.2.0 old.2.1 names.form_is;
        at_is = names.at_is ∙ sym old.2.2;
        bytes_are = names.bytes_are;
      }))
      | inr new ↦ inr (record {
        new = new.0;
        has = new.1;
        form = names.form;
        form_is = form-moved s.streams new.0.plan names.entry.plan new.0.cuts names.entry.cuts names.form new.2.0 new.2.1 names.form_is;
        at_is = names.at_is ∙ sym new.2.2;
        bytes_are = names.bytes_are;
      })
    ]

pub names-with_collection : (s : State) (ids : List ℕ) (at : FileRef) (bytes : List ℕ) → Names (with_collection s ids) at bytes → Names s at bytes
names-with_collection s ids at bytes (inl names) = inl (record { stream = names.stream; extent = names.extent; has = names.has; at_is = names.at_is; bytes_are = names.bytes_are })
names-with_collection s ids at bytes (inr names) = inr (record {
  entry = names.entry;
  has = all-at (Contains s.entries) (without ids s.entries) names.entry (all-without (Contains s.entries) ids s.entries (all-self s.entries)) names.has;
  form = names.form;
  form_is = names.form_is;
  at_is = names.at_is;
  bytes_are = names.bytes_are;
})

-- ---- the files of new results

ok-same : (r : Result Kept Overflow) (x y : Kept) → r ≡ Ok x → r ≡ Ok y → x ≡ y
ok-same r x y is is' = cc

-- the form of a new result is the one that is ready
pub one-form : (v : View) (streams : List Stream) (kept : List PlainNewEntry) (at : FileRef) (bytes : List ℕ) (names : NamesNew streams kept at bytes) (ready : IsReadyResult v streams names.new) → names.form ≡ ready.0
one-form v streams kept at bytes names ready = ok-same (kept_form names.new.plan (lists_in streams names.new.plan names.new.cuts)) names.form ready.0 names.form_is ready.1.result.result.form

pub new-ref : (v : View) (streams : List Stream) (kept : List PlainNewEntry) (at : FileRef) (bytes : List ℕ) (names : NamesNew streams kept at bytes) → IsReadyResult v streams names.new → at ≡ ref_of at.file bytes
new-ref v streams kept at bytes names ready =
    let same : bytes ≡ kept_spelling ready.0 = names.bytes_are ∙ ap kept_spelling (one-form v streams kept at bytes names ready) in
    subst (λ (r : FileRef). r ≡ ref_of r.file bytes) (sym names.at_is) (ready.1.file_is ∙ ap (ref_of names.new.file.file) (sym same))

-- their numbers are given from this one on
files-given : (low file high : ℕ) (news : List PlainNewEntry) → low ≤ file → file + length news ≤ high → HaveNextFiles file news → AllByRecursion (λ new. (low ≤ new.file.file) × (new.file.file < high)) news
files-given low file high [] least most files = tt
files-given low file high (new ∷ news) least most files =
    let number : new.file.file ≡ file = files.0 in
    ((omega (arith, least, number), omega (arith, number, most)), files-given low (file + 1) high news (omega (arith, least)) (omega (arith, most)) files.2)

-- ---- they are valid

module _ (v : View) (s : State) (valid : IsValid s) where
  pub valid-with_work : (program : Option Program) (reads dropped : List ℕ) (kept : List PlainNewEntry) → Fits (change.Work program reads dropped kept) (table s)
      → AllByRecursion (IsReadyResult v s.streams) kept → IsValid (with_work s program reads dropped kept)
  valid-with_work program reads dropped kept fits ready =
      let files : HaveNextFiles s.next_file kept = fits.results.results.kept.files in
      let digests : Digests = digests_of (states_of s.streams) in
      record {
        refs = λ at bytes names. elim (names-with_work s program reads dropped kept at bytes names) [
          | inl old ↦ valid.refs at bytes old
          | inr new ↦ new-ref v s.streams kept at bytes new (all-at (IsReadyResult v s.streams) kept new.new ready new.has)
        ];
        given = λ at bytes names. elim (names-with_work s program reads dropped kept at bytes names) [
          | inl old ↦
              let before = valid.given at bytes old in
              let high : at.file < s.next_file = before.1 in
              (before.0, omega (arith, high))
          | inr new ↦
              let first : 0 < s.next_file = valid.first in
              let at_file : at.file ≡ new.new.file.file = ap (λ (r : FileRef). r.file) new.at_is in
              let between = all-at (λ (n : PlainNewEntry). (s.next_file ≤ n.file.file) × (n.file.file < s.next_file + length kept)) kept new.new
              (files-given s.next_file s.next_file (s.next_file + length kept) kept (omega arith) (omega arith) files) new.has in
              let low : s.next_file ≤ new.new.file.file = between.0 in
              let high : new.new.file.file < s.next_file + length kept = between.1 in
              (omega (arith, first, at_file, low), omega (arith, at_file, high))
        ];
        rows = valid.rows;
        results = all-append (IsEntryOf s.streams) (with_uses (s.tick + 1) reads (without dropped s.entries)) (new_entries digests (s.tick + 1) s.next_id kept)
            (all-used (IsEntryOf s.streams) (IsEntryOf s.streams) (s.tick + 1) reads (λ e is. (is, is)) (without dropped s.entries) (all-without (IsEntryOf s.streams) dropped s.entries valid.results))
            (all-new (IsReadyResult v s.streams) (IsEntryOf s.streams) digests (s.tick + 1) (λ id new is. (is.0, is.1.result)) s.next_id kept ready);
        first = omega (arith, valid.first);
        last = files-fit s.next_file s.next_file kept (omega arith) valid.last files;
      }

  pub valid-with_collection : (ids : List ℕ) → IsValid (with_collection s ids)
  valid-with_collection ids = record {
    refs = λ at bytes names. valid.refs at bytes (names-with_collection s ids at bytes names);
    given = λ at bytes names. valid.given at bytes (names-with_collection s ids at bytes names);
    rows = valid.rows;
    results = all-without (IsEntryOf s.streams) ids s.entries valid.results;
    first = valid.first;
    last = valid.last;
  }

-- ---- work without kept results is a run

pub work-is-run : (s : State) (program : Option Program) → with_work s program [] [] [] ≡ with_run s program
work-is-run s program =
    let same = idle-after program (table s) in
    λ i. record (with_run s program) { next_file = (same i).next_file; next_id = (same i).next_id; entries = (same i).entries }
