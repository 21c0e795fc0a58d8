-- Which refusals are laid to the store.
use Rattle.std.proofs.Common.{◌≡◌, ◌⊎◌, ℕ, Bool, true, false, cond, List, [], ◌∷◌, Option, None, Some, Ok, Err, Result, IfErr, refl, sym, ap, ◌∙◌, subst, inl, inr}
use Rattle.std.specs.Prelude.{nat_le, nat_lt, is_some, length, IsTrue}
use Rattle.std.specs.List.{AllByRecursion}
use Rattle.rows_core.specs.declared.file_ref.Digest.{Digest}
use Rattle.rows_core.specs.declared.file_ref.FileRef.{FileRef}
use Rattle.rows_core.specs.declared.schema.Column.{Column}
use Rattle.rows_core.specs.declared.value.Value.{Value}
use Rattle.rows_core.specs.Schema.{has_repeat}
use Rattle.catalog_types.specs.declared.change.Change.{Change}
use Rattle.catalog_types.specs.declared.change.Change.TheVariants as change
use Rattle.outside_traits.specs.View.{Counts}
use Rattle.catalog_types.specs.declared.program.Program.{Program}
use Rattle.estimator.specs.Cuts.{Cuts}
use Rattle.catalog_core.specs.Named.{file_at}
use Rattle.catalog_core.specs.Programs.{extents_at, most_text_bytes, program_named, with_program}
use Rattle.catalog_core.specs.Table.{Table, place_of, extent_count}
use Rattle.rows_core.specs.Limits.{most_ticks, most_streams, most_programs, file_end, most_extents, most_extents_in_all, most_extent_bytes}
use Rattle.plan_binder.specs.declared.refusal.BindRefusal.{BindRefusal}
use Rattle.plan_binder.specs.declared.refusal.BindRefusal.TheVariants as binding
use Rattle.plan_core.specs.declared.refusal.PlanRefusal.{PlanRefusal}
use Rattle.plan_core.specs.declared.refusal.PlanRefusal.TheVariants as typing
use Rattle.plan_core.specs.PlainPlan.{PlainPlan}
use Rattle.plan_core.specs.PlanTyping.{Kinds}
use Rattle.plan_text.specs.PlainNamed.{PlainTree}
use Rattle.rewrite_core.specs.Files.{FileName, files_of}
use Rattle.rewrite_core.specs.PlainRewriting.{PlainRewriting}
use Rattle.growth_laws.specs.Pieces.{pieces_of}
use Rattle.executor.specs.Runs.{HasRunCause, IsRunFound}
use Rattle.executor.specs.declared.refusal.RunRefusal.{RunRefusal}
use Rattle.executor.specs.declared.refusal.RunRefusal.TheVariants as run
use Rattle.planning.specs.Appending.{Append, held, append_to, file_bytes, appending, appending_read, IsAppending, IsAppendingAt}
use Rattle.planning.specs.Fetching.{IsFetching, IsFetchOfAny, counted, fetched_cuts}
use Rattle.planning.specs.Making.{making, most_columns}
use Rattle.planning.specs.Rows.{Reading, BadLine, have_long}
use Rattle.planning.specs.Rows as rows
use Rattle.planning.specs.Running.{Run, Target, bound_plan, typing_of, unbound, untyped, storing, run_of, running_typed, running_bound, running}
use Rattle.script_text.specs.declared.answer.Answer.{Answer}
use Rattle.script_text.specs.declared.answer.Answer.TheVariants as answer
use Rattle.script_text.specs.declared.answer.LimitKind.TheVariants as limit
use Rattle.script_text.specs.declared.answer.Refusal.{Refusal}
use Rattle.script_text.specs.declared.answer.Refusal.TheVariants as refusal
use Rattle.script_text.specs.declared.item.Command.{Command}
use Rattle.script_text.specs.declared.item.Command.TheVariants as command
use Rattle.folder.specs.Sound.{Care, Shown, Whole}
use Rattle.folder.specs.State.{State, table}
use Rattle.work_run.specs.Ends.{sources_of}
use Rattle.work_turns.specs.Turns.{HasCauseInTurns, IsLost}
use Rattle.folder_session.specs.declared.wanting.Purpose.{Purpose}
use Rattle.folder_session.specs.declared.wanting.Purpose.TheVariants as purpose
use Rattle.folder_session.specs.Machine.{Outcome, outcome, refused, made, appended, RunsTo, FetchesTo, CollectsTo, IsWorkOn, Performs, IsWant, IsFileEvent, IsEvent, Step}
use Rattle.folder_session.specs.Causes.{SparesStore, TellsOfNoFile, IsOfFiles, IsOfRun, IsOfFetch, HasByteCause}
use Rattle.folder_session.specs.Wanted.{IsNoWorkOf, IsWorkOf, cuts_for}
use Rattle.folder_session.specs.WorkRefusals.{refusal_of}
use Rattle.folder_session.specs.Working.{IsFoundFor}

-- ---- what planning refuses is laid to the command

pub spares_if : {C : Type 0} (b : Bool) (x y : Result C Refusal) → IfErr x SparesStore → IfErr y SparesStore → IfErr (cond b x y) SparesStore
spares_if true x y first second = first
spares_if false x y first second = second

making_spares : (t : Table) (name : List ℕ) (columns : List Column) → IfErr (making t name columns) SparesStore
making_spares t name columns =
    let by_ticks : Result Change Refusal = cond (nat_le most_ticks t.tick) (Err (refusal.Limit limit.Commands)) (Ok (change.Stream name columns)) in
    let by_streams : Result Change Refusal = cond (nat_le most_streams (length t.streams)) (Err (refusal.Limit limit.Streams)) by_ticks in
    let by_columns : Result Change Refusal = cond (nat_lt most_columns (length columns)) (Err (refusal.Limit limit.Columns)) by_streams in
    let by_names : Result Change Refusal = cond (has_repeat columns) (Err refusal.IllTyped) by_columns in
    spares_if {C = Change} (is_some (place_of t.streams name)) (Err (refusal.Exists name)) by_names tt
    (spares_if {C = Change} (has_repeat columns) (Err refusal.IllTyped) by_columns tt
    (spares_if {C = Change} (nat_lt most_columns (length columns)) (Err (refusal.Limit limit.Columns)) by_streams tt
    (spares_if {C = Change} (nat_le most_streams (length t.streams)) (Err (refusal.Limit limit.Streams)) by_ticks tt
    (spares_if {C = Change} (nat_le most_ticks t.tick) (Err (refusal.Limit limit.Commands)) (Ok (change.Stream name columns)) tt tt))))

appending_spares : (t : Table) (place : ℕ) (read : List (List Value)) → IfErr (appending t place read) SparesStore
appending_spares t place read =
    let by_ticks : Result Append Refusal = cond (nat_le most_ticks t.tick) (Err (refusal.Limit limit.Commands)) (Ok (append_to place read)) in
    let by_files : Result Append Refusal = cond (nat_le file_end t.next_file) (Err (refusal.Limit limit.Files)) by_ticks in
    let by_all : Result Append Refusal = cond (nat_le most_extents_in_all (extent_count t.streams)) (Err (refusal.Limit limit.AllExtents)) by_files in
    let by_extents : Result Append Refusal = cond (nat_le most_extents (length (extents_at t.streams place))) (Err (refusal.Limit limit.Extents)) by_all in
    let by_bytes : Result Append Refusal = cond (nat_lt most_extent_bytes (length (file_bytes read))) (Err (refusal.Limit limit.Extent)) by_extents in
    spares_if {C = Append} (have_long read) (Err (refusal.Limit limit.Text)) by_bytes tt
    (spares_if {C = Append} (nat_lt most_extent_bytes (length (file_bytes read))) (Err (refusal.Limit limit.Extent)) by_extents tt
    (spares_if {C = Append} (nat_le most_extents (length (extents_at t.streams place))) (Err (refusal.Limit limit.Extents)) by_all tt
    (spares_if {C = Append} (nat_le most_extents_in_all (extent_count t.streams)) (Err (refusal.Limit limit.AllExtents)) by_files tt
    (spares_if {C = Append} (nat_le file_end t.next_file) (Err (refusal.Limit limit.Files)) by_ticks tt
    (spares_if {C = Append} (nat_le most_ticks t.tick) (Err (refusal.Limit limit.Commands)) (Ok (append_to place read)) tt tt)))))

appending_read_spares : (t : Table) (place : ℕ) (read : Reading) → IfErr (appending_read t place read) SparesStore
appending_read_spares t place (BadLine number) = tt
appending_read_spares t place (rows.Rows read) = appending_spares t place read

appending_at_spares : (t : Table) (place : Option ℕ) (name : List ℕ) (lines : List (List ℕ)) (given : Result Append Refusal) → IsAppendingAt t place name lines given → IfErr given SparesStore
appending_at_spares t None name lines given is = subst (λ (g : Result Append Refusal). IfErr g SparesStore) (sym is) tt
appending_at_spares t (Some place) name lines given is = subst (λ (g : Result Append Refusal). IfErr g SparesStore) (sym is.2) (appending_read_spares t place is.0)

pub storing_spares : (t : Table) (run : Run) → IfErr (storing t run) SparesStore
storing_spares t run =
    let by_ticks : Result Run Refusal = cond (nat_le most_ticks t.tick) (Err (refusal.Limit limit.Commands)) (Ok run) in
    let by_programs : Result Run Refusal = cond (nat_lt most_programs (length (with_program run.program t.programs))) (Err (refusal.Limit limit.Programs)) by_ticks in
    spares_if {C = Run} (nat_lt most_text_bytes (length run.program.text)) (Err (refusal.Limit limit.PlanText)) by_programs tt
    (spares_if {C = Run} (nat_lt most_programs (length (with_program run.program t.programs))) (Err (refusal.Limit limit.Programs)) by_ticks tt
    (spares_if {C = Run} (nat_le most_ticks t.tick) (Err (refusal.Limit limit.Commands)) (Ok run) tt tt))

pub untyped_spares : (why : PlanRefusal) → SparesStore (untyped why)
untyped_spares (typing.Unknown number) = tt
untyped_spares typing.IllTyped = tt
untyped_spares typing.TooMany = tt
untyped_spares typing.Memory = tt

pub unbound_spares : (why : BindRefusal) → SparesStore (unbound why)
unbound_spares (binding.Unknown name) = tt
unbound_spares binding.IllTyped = tt
unbound_spares binding.Memory = tt

typed_spares : (t : Table) (run : Run) (kinds : Result Kinds PlanRefusal) → IfErr (running_typed t run kinds) SparesStore
typed_spares t run (Ok kinds) = storing_spares t run
typed_spares t run (Err why) = untyped_spares why

bound_spares : (t : Table) (name : List ℕ) (tree : PlainTree) (plan : Result PlainPlan BindRefusal) → IfErr (running_bound t name tree plan) SparesStore
bound_spares t name tree (Ok plan) = typed_spares t (run_of t.streams name tree plan) (typing_of t.streams plan)
bound_spares t name tree (Err why) = unbound_spares why

abbrev IsMemory : Refusal → Type 0
IsMemory why = why ≡ refusal.Memory

planned_spares : {C : Type 0} (planned : Result C Refusal) (why : Refusal) → IfErr planned SparesStore → planned ≡ Err why ⊎ IsMemory why → SparesStore why
planned_spares {C = C} planned why spares (inl is) = subst (λ (r : Result C Refusal). IfErr r SparesStore) is spares
planned_spares planned why spares (inr none) = subst SparesStore (sym none) tt

pub making_refuses : (t : Table) (name : List ℕ) (columns : List Column) (why : Refusal) → making t name columns ≡ Err why ⊎ IsMemory why → SparesStore why
making_refuses t name columns why either = planned_spares (making t name columns) why (making_spares t name columns) either

pub appending_refuses : (t : Table) (name : List ℕ) (lines : List (List ℕ)) (why : Refusal) → IsAppending t name lines (Err why) ⊎ IsMemory why → SparesStore why
appending_refuses t name lines why (inl is) = appending_at_spares t (place_of t.streams name) name lines (Err why) is
appending_refuses t name lines why (inr none) = subst SparesStore (sym none) tt

running_refuses : (t : Table) (name : List ℕ) (tree : PlainTree) (why : Refusal) → running t name tree ≡ Err why ⊎ IsMemory why → SparesStore why
running_refuses t name tree why either = planned_spares (running t name tree) why (bound_spares t name tree (bound_plan t.streams tree)) either

fetch_of_spares : (t : Table) (target : Target) (why : Refusal) → counted t target ≡ Err why → SparesStore why
fetch_of_spares t target why is =
    planned_spares (counted t target) why (spares_if {C = Target} (nat_le most_ticks t.tick) (Err (refusal.Limit limit.Commands)) (Ok target) tt tt) (inl is)

fetch_of_any_spares : (t : Table) (name : List ℕ) (as_run : Bool) (found : Option Program) (why : Refusal) → IsFetchOfAny t name as_run found (Err why) → SparesStore why
fetch_of_any_spares t name as_run (Some program) why is = fetch_of_spares t (record { plan = is.plan; cuts = fetched_cuts as_run t.streams program is.plan }) why (sym is.planned_is)
fetch_of_any_spares t name as_run None why is = planned_spares {C = Target} (Err (refusal.Unknown name)) why tt (inl (sym is))

fetching_spares : (t : Table) (name : List ℕ) (as_run : Bool) (why : Refusal) → IsFetching t name as_run (Err why) → SparesStore why
fetching_spares t name as_run why is = fetch_of_any_spares t name as_run (program_named t.programs name) why is

fetching_refuses : (t : Table) (name : List ℕ) (as_run : Bool) (why : Refusal) → IsFetching t name as_run (Err why) ⊎ IsMemory why → SparesStore why
fetching_refuses t name as_run why (inl is) = fetching_spares t name as_run why is
fetching_refuses t name as_run why (inr none) = subst SparesStore (sym none) tt

-- ---- answers by the bytes of files

module _ (t : Table) (files : ℕ → List ℕ) where
  -- what is refused before, and want of memory
  of_spared : (planned : Result Run Refusal) (why : Refusal) → SparesStore why → IsOfRun t planned files why
  of_spared (Err w) why spares = spares
  of_spared (Ok run) (refusal.Damaged file kept found) spares = absurd spares
  of_spared (Ok run) (refusal.Unreadable file at) spares = absurd spares
  of_spared (Ok run) _ spares = tt

  -- by the rewritings that are taken
  of_taken : (run : Run) (why : Refusal) → IsFoundFor t run.plan run.program.cuts files why → IsOfRun t (Ok run) files why
  of_taken run (refusal.Damaged file kept found) is = is
  of_taken run (refusal.Unreadable file at) is = is
  of_taken run _ is = tt

  -- a fetch
  fetch_spared : (name : List ℕ) (as_run : Bool) (why : Refusal) → SparesStore why → IsOfFetch t name as_run files why
  fetch_spared name as_run refusal.Fault spares = absurd spares
  fetch_spared name as_run (refusal.Damaged file kept found) spares = absurd spares
  fetch_spared name as_run (refusal.Unreadable file at) spares = absurd spares
  fetch_spared name as_run _ spares = tt

  fetch_taken : (name : List ℕ) (as_run : Bool) (target : Target) → IsFetching t name as_run (Ok target) → (why : Refusal) → IsFoundFor t target.plan target.cuts files why → IsOfFetch t name as_run files why
  fetch_taken name as_run target planned refusal.Fault is = (target, planned)
  fetch_taken name as_run target planned (refusal.Damaged file kept found) is = (target, planned, is)
  fetch_taken name as_run target planned (refusal.Unreadable file at) is = (target, planned, is)
  fetch_taken name as_run target planned _ is = tt

  -- an answer whose refusal, if it is one, isn't laid to the store
  spared : (c : Command) (given : Answer) → ((why : Refusal) → given ≡ answer.Refused why → SparesStore why) → HasByteCause t c files given
  spared (command.Run name tree) (answer.Refused why) spares = of_spared (running t name tree) why (spares why refl)
  spared (command.Fetch name as_run) (answer.Refused why) spares = fetch_spared name as_run why (spares why refl)
  spared _ (answer.Refused why) spares = spares why refl
  spared _ _ spares = tt

  -- that tells of no file
  pub no_file_causes : (c : Command) (given : Answer) → TellsOfNoFile given → HasByteCause t c files given
  no_file_causes c given tells = spared c given (λ why is. subst TellsOfNoFile is tells)

  -- want of memory
  pub want_causes : (c : Command) → HasByteCause t c files (answer.Refused refusal.Memory)
  want_causes c = no_file_causes c (answer.Refused refusal.Memory) tt

  -- of a run or a fetch that is refused before its work
  no_work_spares : (c : Command) (why : Refusal) → IsNoWorkOf t c why → SparesStore why
  no_work_spares (command.Run name tree) why either = running_refuses t name tree why either
  no_work_spares (command.Fetch name as_run) why either = fetching_refuses t name as_run why either
  no_work_spares _ why none = absurd none

  pub no_work_causes : (c : Command) (why : Refusal) → IsNoWorkOf t c why → HasByteCause t c files (answer.Refused why)
  no_work_causes c why either = spared c (answer.Refused why) (λ w is. subst TellsOfNoFile is (no_work_spares c why either))

  -- of one whose files aren't read
  pub work_causes : (c : Command) (plan : PlainPlan) (aim : Purpose) → IsWorkOf t c plan aim → (why : Refusal) → IsFoundFor t plan (cuts_for aim) files why → HasByteCause t c files (answer.Refused why)
  work_causes (command.Run name tree) plan (purpose.Run program) is why found = subst (λ (planned : Result Run Refusal). IsOfRun t planned files why) (sym is) (of_taken (record { plan = plan; program = program }) why found)
  work_causes (command.Fetch name as_run) plan (purpose.Fetch cuts) is why found = fetch_taken name as_run (record { plan = plan; cuts = cuts }) is why found
  work_causes _ plan _ is why found = absurd is

  -- ---- work

  -- why its files aren't read
  pub work_found : (r : PlainRewriting) (places : FileName → FileRef) (old new : Counts) (why : RunRefusal) → HasRunCause places (files_of r) old new why → IsRunFound (sources_of t files) (pieces_of r) (files_of r) why
      → IsOfFiles t r files (refusal_of why)
  work_found r places old new (run.Damaged file kept found taken) cause is = (taken, is, λ (same : found ≡ kept). cause.3 (same ∙ cause.2))
  work_found r places old new (run.Unreadable file at taken) cause is = (taken, is)
  work_found r places old new run.Overflow cause is = tt
  work_found r places old new run.Machine cause is = tt
  work_found r places old new run.Fault cause is = tt
  work_found r places old new run.Memory cause is = tt

  -- why turns have no last one
  pub turns_found : (plan form : PlainPlan) (cuts : Cuts) (old new : Counts) (tells : Bool) → IsTrue tells → (why : RunRefusal) → HasCauseInTurns tells t plan form cuts files old new why → IsFoundFor t plan cuts files (refusal_of why)
  turns_found plan form cuts old new tells told (run.Damaged file kept found taken) is = record {
    form = form;
    rewriting = is.rewriting;
    after = is.after;
    of_files = work_found is.rewriting (file_at t) old new (run.Damaged file kept found taken) is.cause (is.found told);
    of_extent = is.of_extent;
  }
  turns_found plan form cuts old new tells told (run.Unreadable file at taken) is = record {
    form = form;
    rewriting = is.rewriting;
    after = is.after;
    of_files = work_found is.rewriting (file_at t) old new (run.Unreadable file at taken) is.cause (is.found told);
    of_extent = is.of_extent;
  }
  turns_found plan form cuts old new tells told run.Overflow is = tt
  turns_found plan form cuts old new tells told run.Machine is = tt
  turns_found plan form cuts old new tells told run.Fault is = tt
  turns_found plan form cuts old new tells told run.Memory is = tt

-- ---- so is what the machine does where there is memory and each file is read

-- the refusal that is answered is the one that was planned
spares_same : (s : State) (why w : Refusal) (new : State) → outcome (answer.Refused why) new ≡ refused s w → SparesStore w → SparesStore why
spares_same s why w new is spares =
    let same : answer.Refused why ≡ answer.Refused w = ap (λ (o : Outcome). o.answer) is in
    let one : w ≡ why = cc in
    subst SparesStore one spares

made_spares : (s : State) (name : List ℕ) (columns : List Column) (planned : Result Change Refusal) (why : Refusal) (new : State) → IfErr planned SparesStore → outcome (answer.Refused why) new ≡ made s name columns planned → SparesStore why
made_spares s name columns (Ok change) why new spares is =
    let same : answer.Refused why ≡ answer.Ok = ap (λ (o : Outcome). o.answer) is in
    absurd (cc)
made_spares s name columns (Err w) why new spares is = spares_same s why w new is spares

appended_spares : (s : State) (planned : Result Append Refusal) (why : Refusal) (new : State) → IfErr planned SparesStore → outcome (answer.Refused why) new ≡ appended s planned → SparesStore why
appended_spares s (Ok a) why new spares is =
    let same : answer.Refused why ≡ answer.Held (held (table s) a) = ap (λ (o : Outcome). o.answer) is in
    absurd (cc)
appended_spares s (Err w) why new spares is = spares_same s why w new is spares

on_spares : (care : Care) (s : State) (program : Option Program) (plan : PlainPlan) (cuts : Cuts) (why : Refusal) (new : State) → IsWorkOn care s program plan cuts (answer.Refused why) new → SparesStore why
on_spares care s program plan cuts refusal.Fault new is = absurd is
on_spares care s program plan cuts (refusal.Damaged file kept found) new is = absurd is
on_spares care s program plan cuts (refusal.Unreadable file at) new is = absurd is
on_spares care s program plan cuts _ new is = tt

ran_spares : (care : Care) (s : State) (planned : Result Run Refusal) (why : Refusal) (new : State) → IfErr planned SparesStore → RunsTo care s planned (outcome (answer.Refused why) new) → SparesStore why
ran_spares care s (Ok run) why new spares is = on_spares care s (Some run.program) run.plan run.program.cuts why new is
ran_spares care s (Err w) why new spares is = spares_same s why w new is spares

fetched_spares : (care : Care) (s : State) (name : List ℕ) (as_run : Bool) (planned : Result Target Refusal) (why : Refusal) (new : State) → IsFetching (table s) name as_run planned → FetchesTo care s planned (outcome (answer.Refused why) new) → SparesStore why
fetched_spares care s name as_run (Ok target) why new planned is = on_spares care s None target.plan target.cuts why new is
fetched_spares care s name as_run (Err w) why new planned is = spares_same s why w new is (fetching_spares (table s) name as_run w planned)

collected_spares : (full : Bool) (held : List ℕ) (s : State) (reclaim : ℕ) (why : Refusal) (new : State) → CollectsTo full held s reclaim (outcome (answer.Refused why) new) → SparesStore why
collected_spares true held s reclaim why new is = spares_same s why (refusal.Limit limit.Commands) new is tt
collected_spares false held s reclaim why new is =
    let same : answer.Refused why ≡ answer.Evicted is.0 is.1 = ap (λ (o : Outcome). o.answer) is.3 in
    absurd (cc)

pub performed_spares : (care : Care) (held : List ℕ) (s : State) (c : Command) (why : Refusal) (new : State) → Performs care held s c (outcome (answer.Refused why) new) → SparesStore why
performed_spares care held s (command.Stream name columns) why new is = made_spares s name columns (making (table s) name columns) why new (making_spares (table s) name columns) is
performed_spares care held s (command.Append name lines) why new is = appended_spares s is.0 why new (appending_at_spares (table s) (place_of (table s).streams name) name lines is.0 is.1) is.2
performed_spares care held s (command.Run name tree) why new is = ran_spares care s (running (table s) name tree) why new (bound_spares (table s) name tree (bound_plan (table s).streams tree)) is
performed_spares care held s (command.Fetch name as_run) why new is = fetched_spares care s name as_run is.0 why new is.1 is.2
performed_spares care held s (command.Collect reclaim) why new is = collected_spares (nat_le most_ticks s.tick) held s reclaim why new is
performed_spares care held s command.Entries why new is =
    let same : answer.Refused why ≡ answer.Entries _ = ap (λ (o : Outcome). o.answer) is in
    absurd (cc)
performed_spares care held s command.Catalog why new is =
    let same : answer.Refused why ≡ answer.Catalog _ = ap (λ (o : Outcome). o.answer) is in
    absurd (cc)
performed_spares care held s _ why new is = absurd is

-- ---- what comes in the course of a command: want of memory, a failed read, and damage where files may show it

want_spares : (why : Refusal) → IsWant why → SparesStore why
want_spares refusal.Memory want = tt
want_spares _ want = absurd want

pub file_event_spares : (s : State) (why : Refusal) → IsFileEvent Whole s why → (why ≡ refusal.Fault → ⊥) → SparesStore why
file_event_spares s refusal.Fault event none = none refl
file_event_spares s (refusal.Damaged file kept found) event none =
    let may : Whole ≡ Shown = event.may in
    absurd (cc)
file_event_spares s why event none = want_spares why event

event_spares : (s : State) (c : Command) (why : Refusal) → IsEvent Whole s c why → (why ≡ refusal.Fault → ⊥) → SparesStore why
event_spares s (command.Stream name columns) why event none = want_spares why event
event_spares s (command.Append name lines) why event none = want_spares why event
event_spares s (command.Run name tree) why event none = file_event_spares s why event.0 none
event_spares s (command.Fetch name as_run) why event none = file_event_spares s why event.0 none
event_spares s (command.Collect reclaim) why event none = want_spares why event
event_spares s _ why event none = want_spares why event

-- where the files hold their bytes no refusal but that of a failed read is laid to the store
pub step_spares : (held : List ℕ) (s new : State) (c : Command) (why : Refusal) → Step Whole held s c (answer.Refused why) new → (why ≡ refusal.Fault → ⊥) → SparesStore why
step_spares held s new c why (inl performs) none = performed_spares Whole held s c why new performs
step_spares held s new c why (inr event) none =
    let same : answer.Refused why ≡ answer.Refused event.0 = ap (λ (o : Outcome). o.answer) event.2 in
    let one : event.0 ≡ why = cc in
    event_spares s c why (subst (IsEvent Whole s c) one event.1) none

-- and never is one for unreadable bytes
pub never_unreadable : (care : Care) (held : List ℕ) (s new : State) (c : Command) (file at : ℕ) → Step care held s c (answer.Refused (refusal.Unreadable file at)) new → ⊥
never_unreadable care held s new c file at (inl performs) = performed_spares care held s c (refusal.Unreadable file at) new performs
never_unreadable care held s new c file at (inr event) =
    let same : answer.Refused (refusal.Unreadable file at) ≡ answer.Refused event.0 = ap (λ (o : Outcome). o.answer) event.2 in
    let one : event.0 ≡ refusal.Unreadable file at = cc in
    unread c (subst (IsEvent care s c) one event.1)
  where
    unread : (c : Command) → IsEvent care s c (refusal.Unreadable file at) → ⊥
    unread (command.Stream name columns) is = is
    unread (command.Append name lines) is = is
    unread (command.Run name tree) is = is.0
    unread (command.Fetch name as_run) is = is.0
    unread (command.Collect reclaim) is = is
    unread _ is = is

pub never_damaged : (held : List ℕ) (s new : State) (c : Command) (file : ℕ) (kept found : Digest) → Step Whole held s c (answer.Refused (refusal.Damaged file kept found)) new → ⊥
never_damaged held s new c file kept found step = step_spares held s new c (refusal.Damaged file kept found) step (λ is. absurd (cc))

-- nor is a kept result lost
pub never_lost : (s : State) (lost : List ℕ) → AllByRecursion (IsLost Whole s) lost → lost ≡ []
never_lost s [] shown = refl
never_lost s (id ∷ lost) shown =
    let may : Whole ≡ Shown = shown.0.shows.may in
    absurd (cc)
