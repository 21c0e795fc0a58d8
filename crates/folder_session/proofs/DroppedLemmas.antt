-- The kept results that work drops, and their files.
use Rattle.std.proofs.Common.{◌≡◌, ◌≢◌, ◌⊎◌, refl, sym, ap, ◌∙◌, subst, inl, inr, ℕ, ◌+◌, ◌<◌, ◌≤◌, ◌==◌, Bool, true, false, not, cond, List, [], ◌∷◌, ◌++◌, map, Option, Result, Ok, Err, IfOk, OnOk, arith}
use Rattle.std.specs.List.{All, AllByRecursion, Contains}
use Rattle.std.proofs.lemmas.Bool.{eq-eqb, false≢true}
use Rattle.std.proofs.lemmas.List.Elements.{All-contains, All-from_recursion, Contains-append_cases, Contains-append_left}
use Rattle.std.proofs.lemmas.List.Folds.{list_any_at}
use Rattle.outside_traits.specs.Counts.{Rose}
use Rattle.outside_traits.specs.View.{View, Counts}
use Rattle.outside_traits.specs.declared.failed.Failed.{Failed}
use Rattle.plan_laws.proofs.Members.{at_front, behind, front_or_behind, kept, mapped, mapped_from, none_in_nothing, was_there}
use Rattle.catalog_types.specs.PlainEntry.{PlainEntry, PlainNewEntry}
use Rattle.catalog_types.specs.declared.change.Change.TheVariants as change
use Rattle.catalog_types.specs.declared.extent.Extent.{Extent}
use Rattle.catalog_types.specs.declared.program.Program.{Program}
use Rattle.catalog_types.specs.declared.snapshot.StreamState.{StreamState}
use Rattle.entry_table.specs.Ids.{is_among, is_there, without}
use Rattle.entry_table.specs.Keyed.{Digests, keys_of}
use Rattle.entry_table.specs.Results.{HaveNextFiles}
use Rattle.entry_table.specs.Work.{new_entries, new_entry, used, with_use, with_uses}
use Rattle.catalog_core.specs.IsTable.{IsTable}
use Rattle.catalog_core.specs.Results.{digests_of}
use Rattle.catalog_core.specs.Table.{Table, after}
use Rattle.folder.specs.Removing.{IsFree}
use Rattle.folder.specs.Removing as removing
use Rattle.later_states.specs.Later.{IsLater}
use Rattle.work_turns.specs.Ends.{entries_among, files_among}
use Rattle.script_text.specs.declared.answer.Answer.{Answer}
use Rattle.folder.specs.Folders.{table_in}
use Rattle.folder_session.specs.Standing.{AreGoneSince, folder_of}
use Rattle.folder_session.specs.declared.session.FolderSession.{FolderSession}

-- ---- files that the table names no more

-- each kept result after work is an old one that isn't dropped, or has one of the next files
pub used_file : (tick : ℕ) (reads : List ℕ) (e : PlainEntry) → ((used tick reads e).id ≡ e.id) × ((used tick reads e).file ≡ e.file)
used_file tick reads e = by (is_among reads e.id)
  where
    by : (b : Bool) → ((cond b (with_use tick e) e).id ≡ e.id) × ((cond b (with_use tick e) e).file ≡ e.file)
    by true = (refl, refl)
    by false = (refl, refl)

next_files : (digests : Digests) (tick id : ℕ) (news : List PlainNewEntry) (file : ℕ) → HaveNextFiles file news → (e : PlainEntry) → Contains (new_entries digests tick id news) e → file ≤ e.file.file
next_files digests tick id [] file next e has = absurd (none_in_nothing e has)
next_files digests tick id (new ∷ news) file next e has = elim (front_or_behind (new_entry tick id (keys_of digests new) new) (new_entries digests tick (id + 1) news) e has) [
  | inl here ↦ (let own : e.file.file ≡ file = ap (λ (x : PlainEntry). x.file.file) (sym here) ∙ next.0 in omega (arith, own))
  | inr later ↦ (let more = next_files digests tick (id + 1) news (file + 1) next.2 e later in omega (arith, more))
]

-- what is known of a table's files
pub record FilesOfTables : Type 0 where
  pub given : (t : Table) (e : PlainEntry) → IsTable t → Contains t.entries e → (0 < e.file.file) × (e.file.file < t.next_file)
  pub own : (t : Table) (e other : PlainEntry) → IsTable t → Contains t.entries e → Contains t.entries other → e.file.file ≡ other.file.file → e ≡ other
  pub apart : (t : Table) (e : PlainEntry) (stream : StreamState) (extent : Extent) → IsTable t → Contains t.entries e → Contains t.streams stream → Contains stream.extents extent → e.file.file ≢ extent.file.file

module _ (laws : FilesOfTables) (t : Table) (is_table : IsTable t) (program : Option Program) (reads dropped : List ℕ) (news : List PlainNewEntry) (next : HaveNextFiles t.next_file news) where
  abbrev Next : Table
  Next = after (change.Work program reads dropped news) t

  -- one that is dropped isn't among the old ones, nor has it one of the next files
  not_old : (e : PlainEntry) → Contains t.entries e → is_among dropped e.id ≡ true → (other : PlainEntry) → other.file.file ≡ e.file.file → Contains (with_uses (t.tick + 1) reads (without dropped t.entries)) other → ⊥
  not_old e has among other same old =
      let from = mapped_from (used (t.tick + 1) reads) (without dropped t.entries) other old in
      let was = was_there (λ (x : PlainEntry). not (is_among dropped x.id)) t.entries from.0 from.1 in
      let file : from.0.file.file ≡ other.file.file = ap (λ f. f.file) (sym (used_file (t.tick + 1) reads from.0).1) ∙ ap (λ (x : PlainEntry). x.file.file) from.2 in
      let one : e ≡ from.0 = laws.own t e from.0 is_table has was.0 (sym (file ∙ same)) in
      false≢true (ap not (sym (ap (λ (x : PlainEntry). is_among dropped x.id) (sym one) ∙ among)) ∙ was.1)

  not_new : (e : PlainEntry) → Contains t.entries e → (other : PlainEntry) → other.file.file ≡ e.file.file → Contains (new_entries (digests_of t.streams) (t.tick + 1) t.next_id news) other → ⊥
  not_new e has other same new =
      let high = next_files (digests_of t.streams) (t.tick + 1) t.next_id news t.next_file next other new in
      let low = (laws.given t e is_table has).1 in
      omega (arith, high, low, same)

  went_free : (e : PlainEntry) → Contains t.entries e → is_among dropped e.id ≡ true → IsFree Next e.file.file
  went_free e has among =
      let low = laws.given t e is_table has in
      record {
        given = (low.0, (let below = low.1 in omega (arith, below)));
        no_extent = λ stream extent of_table of_stream is. laws.apart t e stream extent is_table has of_table of_stream (sym is);
        no_result = λ other there same. elim (Contains-append_cases (with_uses (t.tick + 1) reads (without dropped t.entries)) (new_entries (digests_of t.streams) (t.tick + 1) t.next_id news) other there) [
          | inl old ↦ not_old e has among other same old
          | inr new ↦ not_new e has other same new
        ];
      }

  all_free : (es : List PlainEntry) → ((e : PlainEntry) → Contains es e → Contains t.entries e × (is_among dropped e.id ≡ true)) → AllByRecursion (IsFree Next) (map (λ (e : PlainEntry). e.file.file) es)
  all_free [] each = tt
  all_free (e ∷ es) each = (let first = each e (at_front e es) in went_free e first.0 first.1, all_free es (λ x has. each x (behind e es x has)))

  -- the files of those that are dropped are free
  pub dropped_files_free : All (IsFree Next) (files_among dropped t.entries)
  dropped_files_free = All-from_recursion (IsFree Next) _ (all_free (entries_among dropped t.entries) (λ e has. was_there (λ (x : PlainEntry). is_among dropped x.id) t.entries e has))

-- they are those of kept results
pub file_of_dropped : (dropped : List ℕ) (es : List PlainEntry) (file : ℕ) → Contains (files_among dropped es) file → (e : PlainEntry) × Contains es e × (e.file.file ≡ file)
file_of_dropped dropped es file has =
    let from = mapped_from (λ (e : PlainEntry). e.file.file) (entries_among dropped es) file has in
    (from.0, (was_there (λ (x : PlainEntry). is_among dropped x.id) es from.0 from.1).0, from.2)

-- ---- kept results that are there no more

pub there_of : (es : List PlainEntry) (id : ℕ) (e : PlainEntry) → Contains es e → e.id ≡ id → is_there es id ≡ true
there_of es id e has same = list_any_at (λ (x : PlainEntry). x.id == id) es has.0 e has.1 (ap (λ (x : PlainEntry). x.id == id) has.2 ∙ eq-eqb e.id id same)

-- who isn't there after work was dropped
stays_there : (tick : ℕ) (reads dropped : List ℕ) (es news : List PlainEntry) (e : PlainEntry) → Contains es e → is_among dropped e.id ≡ false → is_there (with_uses tick reads (without dropped es) ++ news) e.id ≡ true
stays_there tick reads dropped es news e has free =
    let stays = kept (λ (x : PlainEntry). not (is_among dropped x.id)) es e has (ap not free) in
    there_of (with_uses tick reads (without dropped es) ++ news) e.id (used tick reads e)
    (Contains-append_left (with_uses tick reads (without dropped es)) news (used tick reads e) (mapped (used tick reads) (without dropped es) e stays)) (used_file tick reads e).0

pub was_dropped : (tick : ℕ) (reads dropped : List ℕ) (es news : List PlainEntry) (e : PlainEntry) → Contains es e → is_there (with_uses tick reads (without dropped es) ++ news) e.id ≡ false → is_among dropped e.id ≡ true
was_dropped tick reads dropped es news e has out = by (is_among dropped e.id) refl
  where
    by : (b : Bool) → is_among dropped e.id ≡ b → b ≡ true
    by true is = refl
    by false is = absurd (false≢true (sym out ∙ stays_there tick reads dropped es news e has is))

-- and who isn't there without some was one of them
pub was_taken : (ids : List ℕ) (es : List PlainEntry) (e : PlainEntry) → Contains es e → is_there (without ids es) e.id ≡ false → is_among ids e.id ≡ true
was_taken ids es e has out = by (is_among ids e.id) refl
  where
    by : (b : Bool) → is_among ids e.id ≡ b → b ≡ true
    by true is = refl
    by false is = absurd (false≢true (sym out ∙ there_of (without ids es) e.id e (kept (λ (x : PlainEntry). not (is_among ids x.id)) es e has (ap not is)) refl))

-- the file of one that is dropped is among theirs
pub dropped_file : (dropped : List ℕ) (es : List PlainEntry) (e : PlainEntry) → Contains es e → is_among dropped e.id ≡ true → Contains (files_among dropped es) e.file.file
dropped_file dropped es e has among = mapped (λ (x : PlainEntry). x.file.file) (entries_among dropped es) e (kept (λ (x : PlainEntry). is_among dropped x.id) es e has among)

-- ---- their files are gone

-- of those that the first table has and the second one hasn't each has one of these files
abbrev pub HaveFiles : Table → Table → List ℕ → Type 0
HaveFiles t u files = (e : PlainEntry) → Contains t.entries e → is_there u.entries e.id ≡ false → Contains files e.file.file

pub gone_told : (t u : Table) (files : List ℕ) → HaveFiles t u files → (v : View) (old new : Counts) (result : Result (FolderSession × Answer) Failed) → IfOk result (λ next. table_in (folder_of next.0) ≡ u)
    → OnOk result (Rose old.removes new.removes ⊎ removing.AreGone v files) → IfOk result (λ next. AreGoneSince t (table_in (folder_of next.0)) v old new)
gone_told t u files have v old new (Ok next) same (inl rose) = inl rose
gone_told t u files have v old new (Ok next) same (inr gone) = inr (λ e has out. All-contains (λ (n : ℕ). v.there n ≡ false) files e.file.file gone (have e has (ap (λ (x : Table). is_there x.entries e.id) (sym same) ∙ out)))
gone_told t u files have v old new (Err failed) same gone = tt

-- what was removed since an earlier moment
pub gone_behind : {T E : Type 0} (files : List ℕ) (v : View) (mid new : Counts) (old : Counts) (result : Result T E) → mid.removes ≡ old.removes → OnOk result (Rose mid.removes new.removes ⊎ removing.AreGone v files) → OnOk result (Rose old.removes new.removes ⊎ removing.AreGone v files)
gone_behind files v mid new old (Ok x) same gone = subst (λ (n : ℕ). Rose n new.removes ⊎ removing.AreGone v files) same gone
gone_behind files v mid new old (Err e) same gone = tt

-- files were read before it
pub gone_read : (t u : Table) (v : View) (old mid new : Counts) → mid.removes ≡ old.removes → AreGoneSince t u v mid new → AreGoneSince t u v old new
gone_read t u v old mid new same (inl rose) = inl (subst (λ (n : ℕ). Rose n new.removes) same rose)
gone_read t u v old mid new same (inr gone) = inr gone

-- from a session that is the same but for the memory that it has taken
pub gone_as_prepared : (t u : Table) → u ≡ t → (v : View) (old new : Counts) (result : Result (FolderSession × Answer) Failed) → IfOk result (λ next. AreGoneSince u (table_in (folder_of next.0)) v old new) → IfOk result (λ next. AreGoneSince t (table_in (folder_of next.0)) v old new)
gone_as_prepared t u same v old new (Ok next) gone = subst (λ (x : Table). AreGoneSince x (table_in (folder_of next.0)) v old new) same gone
gone_as_prepared t u same v old new (Err failed) gone = tt

-- ---- none went

-- where the table is as it was
pub gone_from_none : (t u : Table) → u ≡ t → (v : View) (old new : Counts) → AreGoneSince t u v old new
gone_from_none t u same v old new = inr (λ e has out. absurd (false≢true (sym out ∙ ap (λ (x : Table). is_there x.entries e.id) same ∙ there_of t.entries e.id e has refl)))

-- where each kept result stays, whichever is held
pub gone_from_later : (t u : Table) → ((held : List ℕ) → IsLater held t u) → (v : View) (old new : Counts) → AreGoneSince t u v old new
gone_from_later t u later v old new = inr (λ e has out.
    let stays = (later (e.id ∷ [])).kept e has (at_front e.id []) in
    absurd (false≢true (sym out ∙ there_of u.entries e.id stays.0 stays.1 stays.2.id)))

pub none_gone : (t : Table) (v : View) (old new : Counts) (result : Result (FolderSession × Answer) Failed) → ((held : List ℕ) → IfOk result (λ next. IsLater held t (table_in (folder_of next.0)))) → IfOk result (λ next. AreGoneSince t (table_in (folder_of next.0)) v old new)
none_gone t v old new (Ok next) later = gone_from_later t (table_in (folder_of next.0)) later v old new
none_gone t v old new (Err failed) later = tt
