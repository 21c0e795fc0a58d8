-- A rewriting that names held kept results serves a later table too, and its files have the same bytes.
use Rattle.std.proofs.Common.{◌≡◌, refl, sym, ap, ◌∙◌, subst, inl, inr, ℕ, ◌+◌, ◌<◌, List, [], ◌∷◌, length, slice_get, Option, unwrap_or, get_or}
use Rattle.std.specs.List.{Contains, AllByRecursion}
use Rattle.std.specs.Option.{option_map}
use Rattle.std.proofs.lemmas.List.Elements.{Contains-get_or, recursion_from_All}
use Rattle.std.proofs.lemmas.List.Sums.{sum_by-cons}
use Rattle.plan_core.specs.PlainPlan.{PlainPlan}
use Rattle.estimator.specs.Cuts.{Cuts}
use Rattle.rewrite_core.specs.Entries as rewrite
use Rattle.rewrite_core.specs.Entries.{Entries, IsWhole, IsBefore, entry_of}
use Rattle.rewrite_core.specs.Files.{FileName, Extent, Result, AreIdsOf, ids_in, files_of}
use Rattle.rewrite_core.specs.IsRewriting.{IsRewriting}
use Rattle.rewrite_core.specs.PlainRewriting.{PlainRewriting}
use Rattle.rewrite_core.proofs.Looking.{Contains-first, Contains-behind, Contains-cons_cases, Contains-none}
use Rattle.cache_index.specs.Asked.{entry, asked}
use Rattle.catalog_types.specs.PlainEntry.{PlainEntry}
use Rattle.catalog_types.specs.declared.extent.Extent as of_table
use Rattle.catalog_core.specs.IsTable.{IsTable}
use Rattle.catalog_core.specs.Named.{HasFile, no_file, file_at, bytes_named}
use Rattle.catalog_core.specs.Programs.{extents_at}
use Rattle.catalog_core.specs.Table.{Table}
use Rattle.catalog_core.proofs.AskedResults.{asked-is, found-own}
use Rattle.catalog_core.proofs.Typings.{there_still}
use Rattle.plan_choice.specs.Taken.{kept_in}
use Rattle.work_run.proofs.Taken.{entry-there}
use Rattle.later_states.specs.Later.{IsSameResult, IsLater, AreHeld}
use Rattle.later_states.proofs.Renamed.{renamed-where}
use Rattle.later_states.proofs.Streams.{extents-grown}

-- ---- the kept results that are asked

-- each of them is, where none is left out
asked-has : (es : List PlainEntry) (e : PlainEntry) → Contains es e → Contains (asked [] es) (entry e)
asked-has [] e has = absurd (Contains-none e has)
asked-has (x ∷ xs) e has = elim (Contains-cons_cases x xs e has) [
  | inl same ↦ subst (λ (y : PlainEntry). Contains (asked [] (x ∷ xs)) (entry y)) same (Contains-first (entry x) (asked [] xs))
  | inr more ↦ Contains-behind (entry x) (asked [] xs) (entry e) (asked-has xs e more)
]

same-entry : (e f : PlainEntry) → IsSameResult e f → entry f ≡ entry e
same-entry e f is = λ i. record { id = is.id i; plan = is.plan i; cuts = is.cuts i; len = (is.file i).len }

module _ (held : List ℕ) (t u : Table) (later : IsLater held t u) where
  asked-stays : (x : rewrite.Entry) → Contains held x.id → Contains (asked [] t.entries) x → Contains (asked [] u.entries) x
  asked-stays x is has =
      let e = asked-is [] t.entries x has in
      let f = later.kept e.0 e.1 (subst (Contains held) (sym (ap (λ (y : rewrite.Entry). y.id) e.2)) is) in
      subst (Contains (asked [] u.entries)) (same-entry e.0 f.0 f.2 ∙ e.2) (asked-has u.entries f.0 f.1)

  -- a rewriting of held results stays one
  pub rewriting-stays : (r : PlainRewriting) (q : PlainPlan) (c : Cuts) → AllByRecursion (Contains held) (ids_in (files_of r)) → IsRewriting (kept_in (asked [] t.entries)) q c r
      → IsRewriting (kept_in (asked [] u.entries)) q c r
  rewriting-stays =
      renamed-where (kept_in (asked [] t.entries)) (kept_in (asked [] u.entries)) (Contains held)
      (λ q c hit is named. record { here = named.here; kept = asked-stays (entry_of q hit) is named.kept })
      (λ q c hit is named. record { kept = asked-stays (entry_of q hit) is named.kept; other = named.other; before = named.before })

-- ---- the ids that it names

pub all-held : (held : List ℕ) (r : PlainRewriting) (ids : List ℕ) → AreIdsOf (files_of r) ids → AreHeld held ids → AllByRecursion (Contains held) (ids_in (files_of r))
all-held held r ids of are =
    let named = ids_in (files_of r) in
    recursion_from_All (Contains held) named (λ k d low. are (get_or named k d) ((of.named (get_or named k d)).1 (Contains-get_or named k d low)))

-- ---- the files that it names

-- the kept result with this id
abbrev pub IsKeptId : Table → ℕ → Type 0
IsKeptId t id = (e : PlainEntry) × Contains t.entries e × (e.id ≡ id)

-- the file of an extent that is there, or of a kept result that is held
abbrev pub StaysFile : List ℕ → Table → FileName → Type 0
StaysFile held t (Extent stream number) = number < length (extents_at t.streams stream)
StaysFile held t (Result id) = Contains held id × IsKeptId t id

-- files that are there
pub files-stay : (held : List ℕ) (t : Table) (files : List FileName) → AllByRecursion (HasFile t) files → AllByRecursion (Contains held) (ids_in files) → AllByRecursion (StaysFile held t) files
files-stay held t [] there are = tt
files-stay held t (Extent stream number ∷ files) there are = (there.0, files-stay held t files there.1 are)
files-stay held t (Result id ∷ files) there are = ((are.0, entry-there t.entries id there.0), files-stay held t files there.1 are.1)

-- ---- their bytes

module _ (held : List ℕ) (t u : Table) (is_t : IsTable t) (is_u : IsTable u) (later : IsLater held t u) where
  pub kept-later : (id : ℕ) → Contains held id → IsKeptId t id → (e f : PlainEntry) × Contains t.entries e × Contains u.entries f × (e.id ≡ id) × IsSameResult e f
  kept-later id is e = let f = later.kept e.0 e.1 (subst (Contains held) (sym e.2) is) in (e.0, f.0, e.1, f.1, e.2, f.2)

  same-file : (name : FileName) → StaysFile held t name → file_at u name ≡ file_at t name
  same-file (Extent stream number) low =
      let more = extents-grown t.streams u.streams later.streams stream in
      ap (λ (o : Option of_table.Extent). unwrap_or (option_map (λ (e : of_table.Extent). e.file) o) no_file)
      (ap (λ (l : List of_table.Extent). slice_get l number) more.1 ∙ there_still (extents_at t.streams stream) more.0 number low)
  same-file (Result id) stays =
      let both = kept-later id stays.0 stays.1 in
      let old : file_at t (Result id) ≡ both.0.file = subst (λ (n : ℕ). file_at t (Result n) ≡ both.0.file) both.4 (found-own t both.0 is_t both.2).0 in
      let new : file_at u (Result id) ≡ both.1.file =
      subst (λ (n : ℕ). file_at u (Result n) ≡ both.1.file) (both.5.id ∙ both.4) (found-own u both.1 is_u both.3).0 in
      new ∙ both.5.file ∙ sym old

  pub same-bytes : (files : List FileName) → AllByRecursion (StaysFile held t) files → bytes_named u files ≡ bytes_named t files
  same-bytes [] stay = refl
  same-bytes (name ∷ files) stay =
      sum_by-cons (λ name. (file_at u name).len) name files
      ∙ (λ i. (same-file name stay.0 i).len + same-bytes files stay.1 i)
      ∙ sym (sum_by-cons (λ name. (file_at t name).len) name files)
