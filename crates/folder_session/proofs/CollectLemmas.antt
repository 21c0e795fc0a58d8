-- A collection, and what is told of kept results.
use Rattle.std.proofs.Common.{◌≡◌, ◌⊎◌, ◌↔◌, inl, inr, refl, sym, ap, ◌∙◌, subst, ℕ, ◌==◌, ◌||◌, nat_le, Bool, true, false, IsTrue, List, [], ◌∷◌, map, Err, IsErrOf, arith}
use Rattle.std.specs.List.{All, AllByRecursion, Contains}
use Rattle.std.proofs.lemmas.Bool.{eqb-true}
use Rattle.std.proofs.lemmas.Bool.Decides.{nat_tests}
use Rattle.std.proofs.lemmas.List.Elements.{All-from_recursion}
use Rattle.outside_traits.specs.View.{View}
use Rattle.outside_traits.proofs.RunLemmas.{narrows_none, spans_wider}
use Rattle.rewrite_core.proofs.Looking.{Contains-first, Contains-behind, Contains-cons_cases}
use Rattle.catalog_types.specs.PlainEntry.{PlainEntry}
use Rattle.catalog_types.specs.declared.change.Change.{Change}
use Rattle.catalog_types.specs.declared.change.Change.TheVariants as change
use Rattle.entry_table.specs.Ids.{is_among, is_there}
use Rattle.catalog_core.specs.IsTable.{IsTable}
use Rattle.catalog_core.specs.Table.{Table, Fits, FitsCollection, after}
use Rattle.rows_core.specs.Limits.{most_ticks}
use Rattle.catalog_core.proofs.AskedResults.{found-own}
use Rattle.planning.specs.Collecting.{IsCollection, IsCollectionPlan, file_of, files_of}
use Rattle.planning.specs.declared.collecting.CollectionPlan.{CollectionPlan}
use Rattle.planning.specs.declared.collection_refusal.CollectionRefusal.{CollectionRefusal}
use Rattle.planning.specs.declared.collection_refusal.CollectionRefusal.TheVariants as collection
use Rattle.script_text.specs.Answer.{IsNarrow}
use Rattle.script_text.specs.declared.answer.Answer.{Answer}
use Rattle.script_text.specs.declared.answer.Answer.TheVariants as answer
use Rattle.script_text.specs.declared.answer.Refusal.TheVariants as refusal
use Rattle.script_text.specs.declared.answer.LimitKind.TheVariants as limit
use Rattle.script_text.specs.declared.item.Command.{Command}
use Rattle.script_text.specs.declared.item.Command.TheVariants as command
use Rattle.planning.specs.Recorded.{IsRecordOf}
use Rattle.planning.proofs.Fetches.{not_full}
use Rattle.journal_store.specs.Journals.{generation_of}
use Rattle.journal_store.specs.Readings.{generation_file}
use Rattle.journal_store.specs.declared.journal.Journal.{Journal}
use Rattle.folder.specs.declared.folder.Folder.{Folder}
use Rattle.folder.specs.Folders.{journal_of, table_in}
use Rattle.folder.specs.Next.{with_collection}
use Rattle.folder.specs.Removing.{IsFree}
use Rattle.folder.specs.Replay.{is_checkpoint}
use Rattle.folder.specs.Sound.{Care}
use Rattle.folder.specs.Standing.{IsNext}
use Rattle.later_states.proofs.Tables.{among-has}
use Rattle.folder.specs.State.{State, table}
use Rattle.folder_session.specs.declared.session.FolderSession.{FolderSession}
use Rattle.folder_session.specs.Causes.{SparesStore, TellsOfNoFile}
use Rattle.folder_session.specs.Machine as machine
use Rattle.folder_session.specs.Machine.{outcome, refused, IsEvent, CollectsTo}
use Rattle.folder_session.specs.Standing.{Stands, Performs, IsLogInUse, LeavesWhereRefused, MayChange, ChangesAtMost, RecordsAndRemoves, folder_of}
use Rattle.folder_session.specs.WorkRefusals.{collection_refusal}
use Rattle.folder_session.proofs.DroppedLemmas.{HaveFiles, was_taken}
use Rattle.folder_session.proofs.StepLemmas.{since_none, want_event}

-- ---- what is told

-- what the table tells, or there was no memory for it
abbrev pub Tells : (Table → Answer) → Table → Answer → Type 0
Tells told t given = (given ≡ told t) ⊎ (given ≡ answer.Refused refusal.Memory)

module _ (care : Care) (v : View) (session session' : FolderSession) (s : State) (stands : Stands care v session s) (same : session' ≡ session) (held : List ℕ) (c : Command) (told : Table → Answer)
    (performs : machine.Performs care held s c (outcome (told (table s)) s)) where
  pub tells_list : (given : Answer) → Tells told (table_in (folder_of session)) given → Performs care v v held session' s c given
  tells_list given (inl is) = record {
    new = s;
    step = inl (subst (λ (a : Answer). machine.Performs care held s c (outcome a s)) (sym (is ∙ ap told stands.means.table_is)) performs);
    stands = subst (λ (x : FolderSession). Stands care v x s) (sym same) stands;
    since = since_none care v session s stands;
  }
  tells_list given (inr none) = record {
    new = s;
    step = inr (refusal.Memory, want_event care s c, (λ i. outcome (none i) s));
    stands = subst (λ (x : FolderSession). Stands care v x s) (sym same) stands;
    since = since_none care v session s stands;
  }

module _ (told : Table → Answer) (t : Table) (given : Answer) (tells : Tells told t given) where
  told_or : (P : Answer → Type 0) → P (told t) → P (answer.Refused refusal.Memory) → P given
  told_or P is none = elim tells [
    | inl same ↦ subst P (sym same) is
    | inr want ↦ subst P (sym want) none
  ]

  pub list_tells : TellsOfNoFile (told t) → TellsOfNoFile given
  list_tells is = told_or TellsOfNoFile is tt

  pub list_narrow : IsNarrow (told t) → IsNarrow given
  list_narrow is = told_or IsNarrow is tt

  pub list_leaves : (v : View) → LeavesWhereRefused (told t) v v → LeavesWhereRefused given v v
  list_leaves v is = told_or (λ a. LeavesWhereRefused a v v) is (narrows_none v)

-- ---- what a collection answers

is_full : (ticks : ℕ) → ticks ≡ most_ticks → nat_le most_ticks ticks ≡ true
is_full ticks most = by (nat_le most_ticks ticks) refl
  where
    by : (b : Bool) → nat_le most_ticks ticks ≡ b → b ≡ true
    by true is = refl
    by false is = absurd (grind (arith, nat_tests))

module _ (care : Care) (held : List ℕ) (t : Table) (s : State) (same : t ≡ table s) (reclaim : ℕ) where
  pub collected_err : (why : CollectionRefusal) → IsErrOf {T = CollectionPlan} (Err why) collection.Commands ↔ (t.tick ≡ most_ticks)
      → machine.Performs care held s (command.Collect reclaim) (refused s (collection_refusal why)) ⊎ IsEvent care s (command.Collect reclaim) (collection_refusal why)
  collected_err collection.Commands exactly =
      let full : t.tick ≡ most_ticks = exactly.0 refl in
      let ticks : s.tick ≡ most_ticks = ap (λ (x : Table). x.tick) (sym same) ∙ full in
      inl (subst (λ b. CollectsTo b held s reclaim (refused s (refusal.Limit limit.Commands))) (sym (is_full s.tick ticks)) refl)
  collected_err collection.Memory exactly = inr tt

  pub collected_ok : (plan : CollectionPlan) → IsCollectionPlan t held reclaim plan → machine.Performs care held s (command.Collect reclaim) (outcome (answer.Evicted plan.ids.items plan.bytes) (with_collection s plan.ids.items))
  collected_ok plan is =
      let fits : FitsCollection plan.ids.items t = subst (λ (c : Change). Fits c t) is.change is.fits in
      let low = fits.counted in
      let ticks = ap (λ (x : Table). x.tick) same in
      subst (λ b. CollectsTo b held s reclaim (outcome (answer.Evicted plan.ids.items plan.bytes) (with_collection s plan.ids.items))) (sym (not_full s.tick (omega (arith, low, ticks))))
      (plan.ids.items, plan.bytes, subst (λ (x : Table). IsCollection x held reclaim plan.ids.items plan.bytes) same is.collection, refl)

pub collection_spares : (why : CollectionRefusal) → SparesStore (collection_refusal why)
collection_spares collection.Commands = tt
collection_spares collection.Memory = tt

-- ---- what is recorded

pub collection_recorded : (t : Table) (held : List ℕ) (reclaim : ℕ) (plan : CollectionPlan) → IsCollectionPlan t held reclaim plan → IsRecordOf t plan.change plan.body.items
collection_recorded t held reclaim plan is = record { fits = is.fits; spelled = is.spelled; is_body = is.is_body; short = is.short }

pub collection_no_checkpoint : (t : Table) (held : List ℕ) (reclaim : ℕ) (plan : CollectionPlan) → IsCollectionPlan t held reclaim plan → is_checkpoint plan.change ≡ false
collection_no_checkpoint t held reclaim plan is = ap is_checkpoint is.change

-- the state without the ids follows from this one by what is recorded
pub next_collection : (care : Care) (v : View) (s : State) (t : Table) → t ≡ table s → (held : List ℕ) (reclaim : ℕ) (plan : CollectionPlan) → IsCollectionPlan t held reclaim plan
    → (Fits (change.Collect plan.ids.items) (table s) → IsNext care v s (change.Collect plan.ids.items) (with_collection s plan.ids.items)) → IsNext care v s plan.change (with_collection s plan.ids.items)
next_collection care v s t same held reclaim plan is next =
    let fits = subst (λ (x : Table). Fits (change.Collect plan.ids.items) x) same (subst (λ (c : Change). Fits c t) is.change is.fits) in
    subst (λ (c : Change). IsNext care v s c (with_collection s plan.ids.items)) (sym is.change) (next fits)

-- ---- the files of the results that went

abbrev NamesFree : Type 0
NamesFree = (t : Table) (ids : List ℕ) (e : PlainEntry) → IsTable t → Contains t.entries e → IsTrue (is_among ids e.id) → IsFree (after (change.Collect ids) t) e.file.file

module _ (names_free : NamesFree) (t : Table) (is_table : IsTable t) (held : List ℕ) (reclaim : ℕ) (plan : CollectionPlan) (is : IsCollectionPlan t held reclaim plan) where
  abbrev Next : Table
  Next = after (change.Collect plan.ids.items) t

  goes : (e : PlainEntry) → Contains is.collection.victims.taken e → IsFree Next (file_of t e.id).file
  goes e has =
      let there = (is.collection.victims.can_go e has).0 in
      let same : (file_of t e.id).file ≡ e.file.file = ap (λ file. file.file) (found-own t e is_table there).0 in
      let named : is_among plan.ids.items e.id ≡ true = subst (λ (ids : List ℕ). is_among ids e.id ≡ true) (sym is.collection.victims.named) (among-has _ e.id (contains_map is.collection.victims.taken has)) in
      subst (IsFree Next) (sym same) (names_free t plan.ids.items e is_table there named)
    where
      contains_map : (es : List PlainEntry) → Contains es e → Contains (map (λ (x : PlainEntry). x.id) es) e.id
      contains_map [] has = absurd (omega (arith, has.1))
      contains_map (x ∷ es) has = elim (Contains-cons_cases x es e has) [
        | inl is ↦ subst (λ (id : ℕ). Contains (x.id ∷ map (λ (y : PlainEntry). y.id) es) id) (ap (λ (y : PlainEntry). y.id) is) (Contains-first x.id (map (λ (y : PlainEntry). y.id) es))
        | inr more ↦ Contains-behind x.id (map (λ (y : PlainEntry). y.id) es) e.id (contains_map es more)
      ]

  all_go : (es : List PlainEntry) → ((e : PlainEntry) → Contains es e → IsFree Next (file_of t e.id).file) → AllByRecursion (IsFree Next) (files_of t (map (λ (e : PlainEntry). e.id) es))
  all_go [] each = tt
  all_go (e ∷ es) each = (each e (Contains-first e es), all_go es (λ x has. each x (Contains-behind e es x has)))

  pub files_free : All (IsFree (after plan.change t)) plan.files.items
  files_free =
      let files : plan.files.items ≡ files_of t (map (λ (e : PlainEntry). e.id) is.collection.victims.taken) = is.files ∙ ap (files_of t) is.collection.victims.named in
      subst (λ (c : Change). All (IsFree (after c t)) plan.files.items) (sym is.change)
      (subst (All (IsFree Next)) (sym files) (All-from_recursion (IsFree Next) _ (all_go is.collection.victims.taken goes)))

-- they are the files of kept results, and of those that went
module _ (t : Table) (is_table : IsTable t) (held : List ℕ) (reclaim : ℕ) (plan : CollectionPlan) (is : IsCollectionPlan t held reclaim plan) where
  pub have_files : HaveFiles t (after plan.change t) plan.files.items
  have_files e has out =
      let named : is_among plan.ids.items e.id ≡ true = was_taken plan.ids.items t.entries e has (ap (λ (c : Change). is_there (after c t).entries e.id) (sym is.change) ∙ out) in
      subst (λ (files : List ℕ). Contains files e.file.file) (sym is.files)
      (subst (λ (n : ℕ). Contains (files_of t plan.ids.items) n) (ap (λ file. file.file) (found-own t e is_table has).0) (contains_files plan.ids.items e.id named))
    where
      contains_files : (ids : List ℕ) (id : ℕ) → is_among ids id ≡ true → Contains (files_of t ids) (file_of t id).file
      contains_files [] id named = absurd cc
      contains_files (x ∷ ids) id named = by (x == id) refl named (contains_files ids id)
        where
          by : (b : Bool) → (x == id) ≡ b → b || is_among ids id ≡ true → (is_among ids id ≡ true → Contains (files_of t ids) (file_of t id).file) → Contains (files_of t (x ∷ ids)) (file_of t id).file
          by true same named rest = subst (λ (y : ℕ). Contains (files_of t (x ∷ ids)) (file_of t y).file) (eqb-true x id same) (Contains-first (file_of t x).file (files_of t ids))
          by false same named rest = Contains-behind (file_of t x).file (files_of t ids) (file_of t id).file (rest named)

  -- each of them is a kept result's
  of_results : (es : List PlainEntry) → ((e : PlainEntry) → Contains es e → Contains t.entries e) → (file : ℕ) → Contains (files_of t (map (λ (e : PlainEntry). e.id) es)) file → (e : PlainEntry) × Contains t.entries e × (e.file.file ≡ file)
  of_results [] each file has = absurd (omega (arith, has.1))
  of_results (e ∷ es) each file has = elim (Contains-cons_cases (file_of t e.id).file (files_of t (map (λ (x : PlainEntry). x.id) es)) file has) [
    | inl is ↦ (let there = each e (Contains-first e es) in (e, there, ap (λ file. file.file) (sym (found-own t e is_table there).0) ∙ is))
    | inr more ↦ of_results es (λ x in'. each x (Contains-behind e es x in')) file more
  ]

  pub file_of_result : (file : ℕ) → Contains plan.files.items file → (e : PlainEntry) × Contains t.entries e × (e.file.file ≡ file)
  file_of_result file has =
      of_results is.collection.victims.taken (λ e in'. (is.collection.victims.can_go e in').0) file
      (subst (λ (files : List ℕ). Contains files file) (is.files ∙ ap (files_of t) is.collection.victims.named) has)

-- ---- which files are changed

-- a collection that is recorded and whose files are then removed
module _ (t : Table) (held : List ℕ) (reclaim : ℕ) (plan : CollectionPlan) (is_table : IsTable t) (is : IsCollectionPlan t held reclaim plan) (folder : Folder) (same : t ≡ table_in folder) (u v : View) where
  pub changes_collected : (wanted : ℕ) → RecordsAndRemoves folder plan.files.items u v → ChangesAtMost folder (command.Collect wanted) u v
  changes_collected wanted run = spans_wider (λ file. IsLogInUse folder file ⊎ Contains plan.files.items file) (MayChange folder (command.Collect wanted)) (λ image. Unit {0}) (λ image. Unit {0}) u v run
      (λ file may. elim may [
        | inl log ↦ inl log
        | inr has ↦ inr (let of = file_of_result t is_table held reclaim plan is file has in (of.0, subst (λ (x : Table). Contains x.entries of.0) same of.1, of.2))
      ])
      (λ image any others. tt)

-- a session that is the same but for the memory that it has taken
pub changes_prepared : (u v : View) (wanted : ℕ) (session session' : FolderSession) → table_in (folder_of session') ≡ table_in (folder_of session) → journal_of (folder_of session') ≡ journal_of (folder_of session)
    → ChangesAtMost (folder_of session') (command.Collect wanted) u v → ChangesAtMost (folder_of session) (command.Collect wanted) u v
changes_prepared u v wanted session session' t j changes =
    spans_wider (MayChange (folder_of session') (command.Collect wanted)) (MayChange (folder_of session) (command.Collect wanted)) (λ image. Unit {0}) (λ image. Unit {0}) u v changes
    (λ file is. either file is) (λ image any others. tt)
  where
    either : (file : ℕ) → MayChange (folder_of session') (command.Collect wanted) file → MayChange (folder_of session) (command.Collect wanted) file
    either file (inl log) = inl (subst (λ (x : Journal). file ≡ generation_file (generation_of x)) j log)
    either file (inr of) = inr (of.0, subst (λ (x : Table). Contains x.entries of.0) t of.1, of.2)
