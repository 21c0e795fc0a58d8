-- A command that leaves no choice has one outcome, and each refusal comes where its cause holds.
use Rattle.std.proofs.Common.{◌≡◌, ◌≤◌, ℕ, nat_le, Bool, true, false, List, Option, None, Some, Result, Ok, Err, refl, sym, ap, ◌∙◌, subst, ◌⊎◌, inl, inr, arith}
use Rattle.scalar_ops.specs.Meaning.{overflow}
use Rattle.catalog_types.specs.declared.change.Change.{Change}
use Rattle.catalog_types.specs.declared.program.Program.{Program}
use Rattle.std.proofs.lemmas.Bool.Decides.{nat_tests}
use Rattle.plan_text.specs.PlainNamed.{PlainTree}
use Rattle.plan_text.specs.Spelled.{SpellsText}
use Rattle.catalog_types.specs.declared.snapshot.StreamState.{StreamState}
use Rattle.catalog_core.specs.IsTable.{IsTable}
use Rattle.catalog_core.specs.Programs.{program_named, IsPlanOf}
use Rattle.catalog_core.specs.Table.{Table, place_of}
use Rattle.rows_core.specs.Limits.{most_ticks}
use Rattle.catalog_core.proofs.Texts.{one-bound}
use Rattle.planning.specs.Collecting.{IsCollection}
use Rattle.plan_core.specs.Columns.{Rows}
use Rattle.plan_core.specs.MachineTime.{machine_time}
use Rattle.plan_core.specs.PlainPlan.{PlainPlan}
use Rattle.plan_core.specs.PlanTyping.{Kinds}
use Rattle.plan_canon.specs.Normal.{IsNormalFormOf}
use Rattle.estimator.specs.Cuts.{Cuts}
use Rattle.rows_core.specs.declared.overflow.Overflow.{Overflow}
use Rattle.rows_core.specs.declared.schema.Column.{Column}
use Rattle.planning.specs.Appending.{Append, IsAppending}
use Rattle.planning.specs.Fetching.{IsFetching, IsFetchOfAny, counted, fetched_cuts}
use Rattle.planning.specs.Making.{making}
use Rattle.planning.specs.Running.{Run, Target, running}
use Rattle.script_text.specs.declared.answer.Answer.{Answer}
use Rattle.script_text.specs.declared.answer.Answer.TheVariants as answer
use Rattle.script_text.specs.declared.answer.Answer.TheVariants.{Refused}
use Rattle.script_text.specs.declared.answer.LimitKind.TheVariants as limit
use Rattle.script_text.specs.declared.answer.Refusal.{Refusal}
use Rattle.script_text.specs.declared.answer.Refusal.TheVariants as refusal
use Rattle.script_text.specs.declared.item.Command.{Command}
use Rattle.script_text.specs.declared.item.Command.TheVariants as command
use Rattle.growth_laws.proofs.AddedRows.{ok_is}
use Rattle.folder.specs.Sound.{Care}
use Rattle.folder.specs.Next.{with_collection}
use Rattle.folder.specs.State.{State, table, kinds_in, lists_in}
use Rattle.work_run.specs.Working.{Overflows, IsDear, given}
use Rattle.rows_core.specs.Limits.{most_machine_time}
use Rattle.work_turns.specs.Ends.{WorksInTurns}
use Rattle.folder_session.specs.Machine.{Outcome, outcome, refused, made, appended, RunsTo, FetchesTo, CollectsTo, IsWorkOn, Performs, Step}
use Rattle.folder_session.specs.Outcomes.{AgreeOn, Agree}
use Rattle.folder_session.specs.Refusals.{IsRefusedOn, IsRunRefused, IsFetchRefused, IsCollectionRefused, IsRefusedFor, IsOtherEvent, HasTwoRefusals, RunHasNoChoice, HasNoChoice}
use Rattle.folder_session.proofs.OneReading.{one_append}

-- ---- work, by what it met

data WorksAs (care : Care) (s : State) (program : Option Program) (plan : PlainPlan) (cuts : Cuts) (told : Answer) (new : State) : Type 0 where
  Gave : (rows : Rows) (used kept : List ℕ) (read : ℕ) (form : PlainPlan) → told ≡ answer.Result rows used kept read → WorksInTurns care s program plan form cuts (given rows used kept read) new → WorksAs care s program plan cuts told new
  Overflowed : told ≡ Refused refusal.Overflow → new ≡ s → Overflows s plan cuts → WorksAs care s program plan cuts told new
  Passed : told ≡ Refused (refusal.Limit limit.Machine) → new ≡ s → IsDear s plan cuts → WorksAs care s program plan cuts told new

ok_or_not : {A : Type 0} (r : Result A Overflow) (x : A) → r ≡ Ok x → r ≡ Err overflow → ⊥
ok_or_not r x is not = cc

abbrev pub HaveOneNormalForm : Type 0
HaveOneNormalForm = (schemas : List Kinds) (plan one other : PlainPlan) → IsNormalFormOf schemas plan one → IsNormalFormOf schemas plan other → one ≡ other

-- an outcome agrees with itself
agree_self : (told : Answer) (state : State) → AgreeOn told state told state
agree_self (answer.Result rows used kept read) state = (refl, record { tick = refl; streams = refl; programs = refl })
agree_self (Refused why) state = (refl, refl)
agree_self answer.Ok state = (refl, refl)
agree_self (answer.Held n) state = (refl, refl)
agree_self (answer.Evicted ids bytes) state = (refl, refl)
agree_self (answer.Entries summaries) state = (refl, refl)
agree_self (answer.Catalog line) state = (refl, refl)
agree_self (answer.Ready n) state = (refl, refl)
agree_self (answer.Left n) state = (refl, refl)

agree_same : (x y : Answer) (a b : State) → x ≡ y → a ≡ b → AgreeOn x a y b
agree_same x y a b told state = subst (λ (z : Answer). AgreeOn x a z b) told (subst (λ (z : State). AgreeOn x a x z) state (agree_self x a))

outcomes_agree : (x y : Outcome) → x ≡ y → Agree x y
outcomes_agree x y same = agree_same x.answer y.answer x.state y.state (ap (λ o. o.answer) same) (ap (λ o. o.state) same)

module _ (one : HaveOneNormalForm) (care : Care) (s : State) (program : Option Program) (plan : PlainPlan) (cuts : Cuts) where
  abbrev As : Answer → State → Type 0
  As told new = WorksAs care s program plan cuts told new

  works_as : (told : Answer) (new : State) → IsWorkOn care s program plan cuts told new → As told new
  works_as (answer.Result rows used kept read) new works = Gave rows used kept read works.0 refl works.1
  works_as (Refused refusal.Overflow) new works = Overflowed refl works.1 works.0
  works_as (Refused (refusal.Limit limit.Machine)) new works = Passed refl works.1 works.0
  works_as _ new works = absurd works

  -- the machine time of work that is done isn't above the limit
  not_dear : (rows : Rows) (used kept : List ℕ) (read : ℕ) (form : PlainPlan) (new : State) → WorksInTurns care s program plan form cuts (given rows used kept read) new → IsDear s plan cuts → ⊥
  not_dear rows used kept read form new works dear =
      let same : form ≡ dear.normal = one (kinds_in s.streams) plan form dear.normal works.taken.normal dear.is_normal in
      let within : machine_time dear.normal (lists_in s.streams dear.normal cuts) ≤ most_machine_time = subst (λ (p : PlainPlan). machine_time p (lists_in s.streams p cuts) ≤ most_machine_time) same works.within in
      let above = dear.above in
      omega (arith, within, above)

  results_agree : (rows others : Rows) (used kept used_by kept_by : List ℕ) (read read_by : ℕ) (form other : PlainPlan) (a b : State) → WorksInTurns care s program plan form cuts (given rows used kept read) a → WorksInTurns care s program plan other cuts (given others used_by kept_by read_by) b
      → AgreeOn (answer.Result rows used kept read) a (answer.Result others used_by kept_by read_by) b
  results_agree rows others used kept used_by kept_by read read_by form other a b first second = (
    ok_is _ rows others first.rows second.rows,
    record {
      tick = ap (λ x. x.tick) first.after ∙ sym (ap (λ x. x.tick) second.after);
      streams = ap (λ x. x.streams) first.after ∙ sym (ap (λ x. x.streams) second.after);
      programs = ap (λ x. x.programs) first.after ∙ sym (ap (λ x. x.programs) second.after);
    },
  )

  module _ (x y : Answer) (a b : State) where
    by_kinds : (Overflows s plan cuts × IsDear s plan cuts → ⊥) → As x a → As y b → AgreeOn x a y b
    by_kinds single (Gave rows used kept read form is works) (Gave others used_by kept_by read_by other is' works') =
        subst (λ (z : Answer). AgreeOn z a y b) (sym is) (subst (λ (z : Answer). AgreeOn (answer.Result rows used kept read) a z b) (sym is') (results_agree rows others used kept used_by kept_by read read_by form other a b works works'))
    by_kinds single (Gave rows used kept read form is works) (Overflowed is' state' over') = absurd (ok_or_not _ rows works.rows over')
    by_kinds single (Gave rows used kept read form is works) (Passed is' state' dear') = absurd (not_dear rows used kept read form a works dear')
    by_kinds single (Overflowed is state over) (Gave others used kept read form is' works') = absurd (ok_or_not _ others works'.rows over)
    by_kinds single (Overflowed is state over) (Overflowed is' state' over') = agree_same x y a b (is ∙ sym is') (state ∙ sym state')
    by_kinds single (Overflowed is state over) (Passed is' state' dear') = absurd (single (over, dear'))
    by_kinds single (Passed is state dear) (Gave others used kept read form is' works') = absurd (not_dear others used kept read form b works' dear)
    by_kinds single (Passed is state dear) (Overflowed is' state' over') = absurd (single (over', dear))
    by_kinds single (Passed is state dear) (Passed is' state' dear') = agree_same x y a b (is ∙ sym is') (state ∙ sym state')

-- ---- one outcome

module _ (one : HaveOneNormalForm) (care : Care) (s : State) (a b : Outcome) where
  one_run : (planned : Result Run Refusal) → RunHasNoChoice s planned → RunsTo care s planned a → RunsTo care s planned b → Agree a b
  one_run (Ok run) single p q =
      by_kinds one care s (Some run.program) run.plan run.program.cuts a.answer b.answer a.state b.state single
      (works_as one care s (Some run.program) run.plan run.program.cuts a.answer a.state p) (works_as one care s (Some run.program) run.plan run.program.cuts b.answer b.state q)
  one_run (Err why) single p q = outcomes_agree a b (p ∙ sym q)

  one_fetch : (planned : Result Target Refusal) → ((target : Target) → planned ≡ Ok target → HasTwoRefusals s target.plan target.cuts → ⊥) → FetchesTo care s planned a → FetchesTo care s planned b → Agree a b
  one_fetch (Ok target) single p q =
      by_kinds one care s None target.plan target.cuts a.answer b.answer a.state b.state (single target refl)
      (works_as one care s None target.plan target.cuts a.answer a.state p) (works_as one care s None target.plan target.cuts b.answer b.state q)
  one_fetch (Err why) single p q = outcomes_agree a b (p ∙ sym q)

-- ---- a name stands for one plan

abbrev pub HaveOnePlan : Type 0
HaveOnePlan = (p q : PlainTree) (text : List ℕ) → SpellsText p text → SpellsText q text → p ≡ q

one_plan_of : HaveOnePlan → (streams : List StreamState) (text : List ℕ) (plan other : PlainPlan) → IsPlanOf streams text plan → IsPlanOf streams text other → other ≡ plan
one_plan_of texts streams text plan other is also =
    one-bound streams text is.tree plan other (λ tree canonical. texts tree is.tree text canonical.0 is.canonical.0) is.bound also

one_fetch_of : HaveOnePlan → (t : Table) (name : List ℕ) (as_run : Bool) (found : Option Program) (one other : Result Target Refusal) → IsFetchOfAny t name as_run found one → IsFetchOfAny t name as_run found other → other ≡ one
one_fetch_of texts t name as_run (Some program) one other is also =
    also.planned_is ∙ ap (λ (plan : PlainPlan). counted t (record { plan = plan; cuts = fetched_cuts as_run t.streams program plan })) (one_plan_of texts t.streams program.text is.plan also.plan is.is_plan also.is_plan) ∙ sym is.planned_is
one_fetch_of texts t name as_run None one other is also = also ∙ sym is

one_fetching : HaveOnePlan → (t : Table) (name : List ℕ) (as_run : Bool) (one other : Result Target Refusal) → IsFetching t name as_run one → IsFetching t name as_run other → other ≡ one
one_fetching texts t name as_run one other is also = one_fetch_of texts t name as_run (program_named t.programs name) one other is also

-- ---- one collection

abbrev pub HaveOneCollection : Type 0
HaveOneCollection = (t : Table) (held : List ℕ) (wanted : ℕ) → IsTable t → (ids others : List ℕ) (bytes more : ℕ)
    → IsCollection t held wanted ids bytes → IsCollection t held wanted others more → (ids ≡ others) × (bytes ≡ more)

one_collected : HaveOneCollection → (full : Bool) (held : List ℕ) (s : State) (reclaim : ℕ) (a b : Outcome) → IsTable (table s) → CollectsTo full held s reclaim a → CollectsTo full held s reclaim b → Agree a b
one_collected once true held s reclaim a b ranked p q = outcomes_agree a b (p ∙ sym q)
one_collected once false held s reclaim a b ranked p q =
    let same = once (table s) held reclaim ranked p.0 q.0 p.1 q.1 p.2 q.2 in
    outcomes_agree a b (p.3 ∙ (λ i. outcome (answer.Evicted (same.0 i) (same.1 i)) (with_collection s (same.0 i))) ∙ sym q.3)

pub same_outcome : HaveOneNormalForm → HaveOnePlan → HaveOneCollection → (care : Care) (held : List ℕ) (s : State) (given_to : Command) (a b : Outcome) → HasNoChoice s given_to → Performs care held s given_to a → Performs care held s given_to b → Agree a b
same_outcome one texts once care held s (command.Stream name columns) a b none p q = outcomes_agree a b (p ∙ sym q)
same_outcome one texts once care held s (command.Append name lines) a b none p q =
    outcomes_agree a b (p.2 ∙ ap (appended s) (one_append (table s) (place_of (table s).streams name) name lines p.0 q.0 p.1 q.1) ∙ sym q.2)
same_outcome one texts once care held s (command.Run name tree) a b single p q = one_run one care s a b (running (table s) name tree) single p q
same_outcome one texts once care held s (command.Fetch name as_run) a b single p q =
    one_fetch one care s a b p.0 (λ target is. single target (subst (IsFetching (table s) name as_run) is p.1)) p.2
    (subst (λ (planned : Result Target Refusal). FetchesTo care s planned b) (one_fetching texts (table s) name as_run p.0 q.0 p.1 q.1) q.2)
same_outcome one texts once care held s (command.Collect reclaim) a b ranked p q = one_collected once (nat_le most_ticks s.tick) held s reclaim a b ranked p q
same_outcome one texts once care held s command.Entries a b none p q = outcomes_agree a b (p ∙ sym q)
same_outcome one texts once care held s command.Catalog a b none p q = outcomes_agree a b (p ∙ sym q)
same_outcome one texts once care held s _ a b none p q = absurd p

-- ---- where the cause of a refusal holds

-- that refusal comes, or the other one of a run that has two
abbrev GivesOrOther : State → Refusal → Outcome → Type 0
GivesOrOther s why told = (told ≡ refused s why) ⊎ ((other : Refusal) × IsOtherEvent why other × (told ≡ refused s other))

module _ (one : HaveOneNormalForm) (care : Care) (held : List ℕ) (s : State) (told : Outcome) where
  is_refused : (other : Refusal) → told.answer ≡ Refused other → told.state ≡ s → told ≡ refused s other
  is_refused other answers states = λ i. outcome (answers i) (states i)

  comes : (program : Option Program) (plan : PlainPlan) (cuts : Cuts) (why : Refusal) → WorksAs care s program plan cuts told.answer told.state → IsRefusedOn s plan cuts why → GivesOrOther s why told
  comes program plan cuts refusal.Overflow (Gave rows used kept read form is works) over = absurd (ok_or_not _ rows works.rows over)
  comes program plan cuts refusal.Overflow (Overflowed is state over') over = inl (is_refused refusal.Overflow is state)
  comes program plan cuts refusal.Overflow (Passed is state dear) over = inr (refusal.Limit limit.Machine, refl, is_refused (refusal.Limit limit.Machine) is state)
  comes program plan cuts (refusal.Limit limit.Machine) (Gave rows used kept read form is works) dear = absurd (not_dear one care s program plan cuts rows used kept read form told.state works dear)
  comes program plan cuts (refusal.Limit limit.Machine) (Overflowed is state over) dear = inr (refusal.Overflow, refl, is_refused refusal.Overflow is state)
  comes program plan cuts (refusal.Limit limit.Machine) (Passed is state dear') dear = inl (is_refused (refusal.Limit limit.Machine) is state)
  comes program plan cuts _ met none = absurd none

  run_exactly : (why : Refusal) (planned : Result Run Refusal) → RunsTo care s planned told → IsRunRefused s planned why → GivesOrOther s why told
  run_exactly why (Ok run) done holds = comes (Some run.program) run.plan run.program.cuts why (works_as one care s (Some run.program) run.plan run.program.cuts told.answer told.state done) holds
  run_exactly why (Err planned) done holds = inl (done ∙ ap (refused s) holds)

  fetch_exactly : (why : Refusal) (planned : Result Target Refusal) → FetchesTo care s planned told → IsFetchRefused s planned why → GivesOrOther s why told
  fetch_exactly why (Ok target) done holds = comes None target.plan target.cuts why (works_as one care s None target.plan target.cuts told.answer told.state done) holds
  fetch_exactly why (Err planned) done holds = inl (done ∙ ap (refused s) holds)

  collection_exactly : (why : Refusal) (full : Bool) (reclaim : ℕ) → full ≡ nat_le most_ticks s.tick → CollectsTo full held s reclaim told → IsCollectionRefused s why → GivesOrOther s why told
  collection_exactly (refusal.Limit limit.Commands) true reclaim is done most = inl done
  collection_exactly (refusal.Limit limit.Commands) false reclaim is done most = absurd (grind (arith, nat_tests))
  collection_exactly _ full reclaim is done none = absurd none

pub refused_exactly : HaveOneNormalForm → HaveOnePlan → (care : Care) (held : List ℕ) (s : State) (given_to : Command) (told : Outcome) (why : Refusal) → Performs care held s given_to told → IsRefusedFor s given_to why → GivesOrOther s why told
refused_exactly one texts care held s (command.Stream name columns) told why done holds = inl (done ∙ ap (made s name columns) holds)
refused_exactly one texts care held s (command.Append name lines) told why done holds = inl (done.2 ∙ ap (appended s) (one_append (table s) (place_of (table s).streams name) name lines done.0 (Err why) done.1 holds))
refused_exactly one texts care held s (command.Run name tree) told why done holds = run_exactly one care held s told why (running (table s) name tree) done holds
refused_exactly one texts care held s (command.Fetch name as_run) told why done holds =
    fetch_exactly one care held s told why done.0 done.2 (subst (λ (planned : Result Target Refusal). IsFetchRefused s planned why) (one_fetching texts (table s) name as_run done.0 holds.0 done.1 holds.1) holds.2)
refused_exactly one texts care held s (command.Collect reclaim) told why done holds = collection_exactly one care held s told why (nat_le most_ticks s.tick) reclaim refl done holds
refused_exactly one texts care held s _ told why done holds = absurd holds

-- ---- the cause of a refusal

-- what is refused for one reason isn't refused for another
same_refusal : (s new : State) (why told : Refusal) → outcome (Refused why) new ≡ refused s told → told ≡ why
same_refusal s new why told e = let answers : Refused why ≡ Refused told = ap (λ o. o.answer) e in cc

module _ (s new : State) (why : Refusal) where
  made_cause : (name : List ℕ) (columns : List Column) (planned : Result Change Refusal) → outcome (Refused why) new ≡ made s name columns planned → planned ≡ Err why
  made_cause name columns (Ok change) e = let answers : Refused why ≡ answer.Ok = ap (λ o. o.answer) e in absurd (cc)
  made_cause name columns (Err told) e = ap Err (same_refusal s new why told e)

  appended_cause : (planned : Result Append Refusal) → outcome (Refused why) new ≡ appended s planned → planned ≡ Err why
  appended_cause (Ok append) e = let answers : Refused why ≡ answer.Held _ = ap (λ o. o.answer) e in absurd (cc)
  appended_cause (Err told) e = ap Err (same_refusal s new why told e)

  work_cause : (care : Care) (program : Option Program) (plan : PlainPlan) (cuts : Cuts) (w : Refusal) → IsWorkOn care s program plan cuts (Refused w) new → IsRefusedOn s plan cuts w × (new ≡ s)
  work_cause care program plan cuts refusal.Overflow is = is
  work_cause care program plan cuts (refusal.Limit limit.Machine) is = is
  work_cause care program plan cuts _ is = absurd is

  run_cause : (care : Care) (planned : Result Run Refusal) → RunsTo care s planned (outcome (Refused why) new) → IsRunRefused s planned why
  run_cause care (Ok run) done = (work_cause care (Some run.program) run.plan run.program.cuts why done).0
  run_cause care (Err told) done = same_refusal s new why told done

  fetch_cause : (care : Care) (planned : Result Target Refusal) → FetchesTo care s planned (outcome (Refused why) new) → IsFetchRefused s planned why
  fetch_cause care (Ok target) done = (work_cause care None target.plan target.cuts why done).0
  fetch_cause care (Err told) done = same_refusal s new why told done

  collection_cause : (full : Bool) (held : List ℕ) (reclaim : ℕ) → full ≡ nat_le most_ticks s.tick → CollectsTo full held s reclaim (outcome (Refused why) new) → IsCollectionRefused s why
  collection_cause true held reclaim is done = subst (IsCollectionRefused s) (same_refusal s new why (refusal.Limit limit.Commands) done) (grind (arith, nat_tests))
  collection_cause false held reclaim is done = let answers : Refused why ≡ answer.Evicted done.0 done.1 = ap (λ o. o.answer) done.3 in absurd (cc)

  refused_cause : (care : Care) (held : List ℕ) (given_to : Command) → Performs care held s given_to (outcome (Refused why) new) → IsRefusedFor s given_to why
  refused_cause care held (command.Stream name columns) done = made_cause name columns (making (table s) name columns) done
  refused_cause care held (command.Append name lines) done = subst (λ planned. IsAppending (table s) name lines planned) (appended_cause done.0 done.2) done.1
  refused_cause care held (command.Run name tree) done = run_cause care (running (table s) name tree) done
  refused_cause care held (command.Fetch name as_run) done = (done.0, done.1, fetch_cause care done.0 done.2)
  refused_cause care held (command.Collect reclaim) done = collection_cause (nat_le most_ticks s.tick) held reclaim refl done
  refused_cause care held command.Entries done = let answers : Refused why ≡ answer.Entries _ = ap (λ o. o.answer) done in absurd (cc)
  refused_cause care held command.Catalog done = let answers : Refused why ≡ answer.Catalog _ = ap (λ o. o.answer) done in absurd (cc)
  refused_cause care held _ done = absurd done

pub cause_of : (care : Care) (held : List ℕ) (s new : State) (given_to : Command) (why : Refusal) → Performs care held s given_to (outcome (Refused why) new) → IsRefusedFor s given_to why
cause_of care held s new given_to why done = refused_cause s new why care held given_to done

-- ---- no refusal changes the state

module _ (s new : State) (why : Refusal) where
  made_keeps : (name : List ℕ) (columns : List Column) (planned : Result Change Refusal) → outcome (Refused why) new ≡ made s name columns planned → new ≡ s
  made_keeps name columns (Ok change) e = let answers : Refused why ≡ answer.Ok = ap (λ o. o.answer) e in absurd (cc)
  made_keeps name columns (Err told) e = ap (λ o. o.state) e

  appended_keeps : (planned : Result Append Refusal) → outcome (Refused why) new ≡ appended s planned → new ≡ s
  appended_keeps (Ok append) e = let answers : Refused why ≡ answer.Held _ = ap (λ o. o.answer) e in absurd (cc)
  appended_keeps (Err told) e = ap (λ o. o.state) e

  run_keeps : (care : Care) (planned : Result Run Refusal) → RunsTo care s planned (outcome (Refused why) new) → new ≡ s
  run_keeps care (Ok run) done = (work_cause s new why care (Some run.program) run.plan run.program.cuts why done).1
  run_keeps care (Err told) done = ap (λ o. o.state) done

  fetch_keeps : (care : Care) (planned : Result Target Refusal) → FetchesTo care s planned (outcome (Refused why) new) → new ≡ s
  fetch_keeps care (Ok target) done = (work_cause s new why care None target.plan target.cuts why done).1
  fetch_keeps care (Err told) done = ap (λ o. o.state) done

  collection_keeps : (full : Bool) (held : List ℕ) (reclaim : ℕ) → CollectsTo full held s reclaim (outcome (Refused why) new) → new ≡ s
  collection_keeps true held reclaim done = ap (λ o. o.state) done
  collection_keeps false held reclaim done = let answers : Refused why ≡ answer.Evicted done.0 done.1 = ap (λ o. o.answer) done.3 in absurd (cc)

  performed_keeps : (care : Care) (held : List ℕ) (given_to : Command) → Performs care held s given_to (outcome (Refused why) new) → new ≡ s
  performed_keeps care held (command.Stream name columns) done = made_keeps name columns (making (table s) name columns) done
  performed_keeps care held (command.Append name lines) done = appended_keeps done.0 done.2
  performed_keeps care held (command.Run name tree) done = run_keeps care (running (table s) name tree) done
  performed_keeps care held (command.Fetch name as_run) done = fetch_keeps care done.0 done.2
  performed_keeps care held (command.Collect reclaim) done = collection_keeps (nat_le most_ticks s.tick) held reclaim done
  performed_keeps care held command.Entries done = ap (λ o. o.state) done
  performed_keeps care held command.Catalog done = ap (λ o. o.state) done
  performed_keeps care held _ done = absurd done

pub state_kept : (care : Care) (held : List ℕ) (s new : State) (given_to : Command) (why : Refusal) → Step care held s given_to (Refused why) new → new ≡ s
state_kept care held s new given_to why step = elim step [
  | inl done ↦ performed_keeps s new why care held given_to done
  | inr event ↦ ap (λ o. o.state) event.2
]
