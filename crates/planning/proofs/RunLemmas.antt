-- A run: the streams that its plan names, and why it is refused.
use Rattle.std.proofs.Common.{◌≡◌, ◌≤◌, ◌<◌, ◌⊎◌, ℕ, Bool, true, false, cond, nat_le, List, [], ◌∷◌, length, map, Option, None, Some, Ok, Err, Result, IfErr, refl, sym, ap, ◌∙◌, subst, inl, inr, arith}
use Rattle.std.specs.Prelude.{bytes_eq}
use Rattle.std.specs.List.{find}
use Rattle.std.proofs.lemmas.Bool.Decides.{nat_tests}
use Rattle.std.proofs.lemmas.List.{length-map}
use Rattle.std.proofs.lemmas.List.Quantifiers.{position-Some}
use Rattle.rows_core.specs.declared.schema.Column.{Column}
use Rattle.rows_core.specs.Schema.{kinds_of}
use Rattle.plan_core.specs.declared.refusal.PlanRefusal.{PlanRefusal}
use Rattle.plan_core.specs.declared.refusal.PlanRefusal.TheVariants as typing
use Rattle.plan_core.specs.declared.refusal.PlanRefusal.TheVariants.{Unknown}
use Rattle.plan_core.specs.PlainPlan.{PlainPlan, leaves}
use Rattle.plan_core.specs.PlanTyping.{Kinds, absent_stream, plan_kinds, has_too_many, present_or, typed_or}
use Rattle.plan_core.specs.TypedPlan.{TypedPlan, MeansTyping}
use Rattle.plan_text.specs.PlainNamed.{PlainTree, streams_of}
use Rattle.plan_binder.specs.declared.refusal.BindRefusal.{BindRefusal}
use Rattle.plan_binder.specs.declared.refusal.BindRefusal.TheVariants as binding
use Rattle.plan_binder.specs.Binding as binder
use Rattle.plan_binder.specs.Binding.{Names, Bound, bound_tree, place_of, plan_or_ill_typed}
use Rattle.catalog_types.specs.declared.snapshot.StreamState.{StreamState}
use Rattle.catalog_core.specs.Programs.{names_of, columns_of, kinds_of_streams}
use Rattle.catalog_core.specs.Table.{Table}
use Rattle.script_text.specs.declared.answer.Refusal.{Refusal}
use Rattle.script_text.specs.declared.answer.LimitKind.TheVariants as limit
use Rattle.script_text.specs.declared.answer.Refusal.TheVariants.{Memory, Limit, Fault}
use Rattle.planning.specs.Running.{Run, bound_plan, typing_of, unbound, untyped, typed_refusal, bound_refusal, plan_refusal, running, running_bound, running_typed, run_of, storing}

-- ---- the streams of a bound plan are there

none_absent : (streams : Names) (count : ℕ) → length streams ≤ count → (numbers : List ℕ) (names : List (List ℕ)) → map Some numbers ≡ map (place_of streams) names → find (λ stream. nat_le count stream) numbers ≡ None
none_absent streams count as_many [] names is = refl
none_absent streams count as_many (n ∷ ns) [] is = absurd (cc)
none_absent streams count as_many (n ∷ ns) (s ∷ ss) is =
    let head : place_of streams s ≡ Some n = cc in
    let tail : map Some ns ≡ map (place_of streams) ss = cc in
    let place = position-Some (λ other. bytes_eq other s) streams n [] head in
    let below : n < length streams = place.0 in
    let there : nat_le count n ≡ false = grind (arith, nat_tests) in
    ap (λ b. cond b (Some n) (find (λ stream. nat_le count stream) ns)) there ∙ none_absent streams count as_many ns ss tail

-- the plan is that of the names
record IsBound (bound : Option Bound) (plan : PlainPlan) : Type 0 where
  found : Bound
  there : bound ≡ Some found
  same : found.plan ≡ plan

bound_parts : (absent : Option (List ℕ)) (bound : Option Bound) (plan : PlainPlan) → binder.present_or absent (plan_or_ill_typed bound) ≡ Ok plan → IsBound bound plan
bound_parts (Some name) bound plan e = absurd (cc)
bound_parts None None plan e = absurd (cc)
bound_parts None (Some found) plan e = record { found = found; there = refl; same = cc }

-- no stream is missing
no_unknown : (absent : Option ℕ) (found : Option Kinds) (many : Bool) (n : ℕ) → absent ≡ None → present_or absent (typed_or found (λ kinds. cond many (Err typing.TooMany) (Ok kinds))) ≡ Err (Unknown n) → ⊥
no_unknown (Some stream) found many n none e = absurd (cc)
no_unknown None None many n none e = absurd (cc)
no_unknown None (Some kinds) true n none e = absurd (cc)
no_unknown None (Some kinds) false n none e = absurd (cc)

abbrev pub LeavesAreTheStreams : Type 0
LeavesAreTheStreams = (streams : Names) (schemas : List (List Column)) (tree : PlainTree) (b : Bound) → bound_tree streams schemas tree ≡ Some b → map Some (leaves b.plan) ≡ map (place_of streams) (streams_of tree)

module _ (streams : List StreamState) (tree : PlainTree) (plan : PlainPlan) (bound : bound_plan streams tree ≡ Ok plan) where
  none_is_absent : LeavesAreTheStreams → absent_stream (kinds_of_streams streams) plan ≡ None
  none_is_absent law =
      let names = names_of streams in
      let schemas = columns_of streams in
      let parts = bound_parts (binder.absent_stream names tree) (bound_tree names schemas tree) plan bound in
      let leaves_are : map Some (leaves plan) ≡ map (place_of names) (streams_of tree) = ap (λ p. map Some (leaves p)) (sym parts.same) ∙ law names schemas tree parts.found parts.there in
      none_absent names (length (kinds_of_streams streams)) (omega (arith, length-map streams (λ stream. stream.name), length-map streams (λ stream. kinds_of stream.columns))) (leaves plan) (streams_of tree) leaves_are

  pub never_unknown : LeavesAreTheStreams → (n : ℕ) → typing_of streams plan ≡ Err (Unknown n) → ⊥
  never_unknown law n e =
      no_unknown (absent_stream (kinds_of_streams streams) plan) (plan_kinds (kinds_of_streams streams) plan) (has_too_many (kinds_of_streams streams) plan) n (none_is_absent law) e

-- ---- the functions of a run

-- what a typing says that refuses
abbrev pub typing_refusal : PlanRefusal → Result Kinds PlanRefusal → Type 0
typing_refusal why typed = MeansTyping {A = TypedPlan} (λ t. t.kinds) (Err why) typed

module _ (streams : List StreamState) (tree : PlainTree) where
  -- a plan whose names stand for nothing
  pub refused_unbound : (why : BindRefusal) → binder.Binds (Err why) (bound_plan streams tree) → (plan_refusal streams tree ≡ Some (unbound why)) ⊎ (unbound why ≡ Memory)
  refused_unbound (binding.Unknown name) is = inl (ap (bound_refusal streams) is)
  refused_unbound binding.IllTyped is = inl (ap (bound_refusal streams) is)
  refused_unbound binding.Memory is = inr refl

  -- a bound plan
  pub IfErr-bound : (plan : PlainPlan) → bound_plan streams tree ≡ Ok plan → (r : Result TypedPlan Refusal) → IfErr r (λ why. (typed_refusal (typing_of streams plan) ≡ Some why) ⊎ (why ≡ Memory))
      → IfErr r (λ why. (plan_refusal streams tree ≡ Some why) ⊎ (why ≡ Memory))
  IfErr-bound plan bound (Ok typed) h = tt
  IfErr-bound plan bound (Err why) h = elim h [ inl is ↦ inl (ap (bound_refusal streams) bound ∙ is) | inr none ↦ inr none ]

module _ (t : Table) (name : List ℕ) (tree : PlainTree) where
  -- a plan that has a typing
  pub running-stored : (plan : PlainPlan) (kinds : Kinds) → bound_plan t.streams tree ≡ Ok plan → typing_of t.streams plan ≡ Ok kinds → running t name tree ≡ storing t (run_of t.streams name tree plan)
  running-stored plan kinds bound typed = ap (running_bound t name tree) bound ∙ ap (running_typed t (run_of t.streams name tree plan)) typed

  -- a plan that is refused
  typed-refused : (run : Run) (typed : Result Kinds PlanRefusal) (why : Refusal) → typed_refusal typed ≡ Some why → running_typed t run typed ≡ Err why
  typed-refused run (Ok kinds) why e = absurd (cc)
  typed-refused run (Err refused) why e = let same : untyped refused ≡ why = cc in ap Err same

  bound-refused : (bound : Result PlainPlan BindRefusal) (why : Refusal) → bound_refusal t.streams bound ≡ Some why → running_bound t name tree bound ≡ Err why
  bound-refused (Ok plan) why e = typed-refused (run_of t.streams name tree plan) (typing_of t.streams plan) why e
  bound-refused (Err refused) why e = let same : unbound refused ≡ why = cc in ap Err same

  pub running-refused : (why : Refusal) → (plan_refusal t.streams tree ≡ Some why) ⊎ (why ≡ Memory) → (running t name tree ≡ Err why) ⊎ (why ≡ Memory)
  running-refused why h = elim h [ inl is ↦ inl (bound-refused (bound_plan t.streams tree) why is) | inr none ↦ inr none ]

-- ---- no run is refused for a fault of the store

no_fault_stored : (a b c : Bool) (run : Run) → cond a (Err (Limit limit.PlanText)) (cond b (Err (Limit limit.Programs)) (cond c (Err (Limit limit.Commands)) (Ok run))) ≡ Err Fault → ⊥
no_fault_stored true b c run e = absurd (cc)
no_fault_stored false true c run e = absurd (cc)
no_fault_stored false false true run e = absurd (cc)
no_fault_stored false false false run e = absurd (cc)

no_fault_typed : (t : Table) (run : Run) (typed : Result Kinds PlanRefusal) → running_typed t run typed ≡ Err Fault → ⊥
no_fault_typed t run (Ok kinds) e = no_fault_stored _ _ _ run e
no_fault_typed t run (Err (typing.Unknown number)) e = absurd (cc)
no_fault_typed t run (Err typing.IllTyped) e = absurd (cc)
no_fault_typed t run (Err typing.TooMany) e = absurd (cc)
no_fault_typed t run (Err typing.Memory) e = absurd (cc)

no_fault_bound : (t : Table) (name : List ℕ) (tree : PlainTree) (bound : Result PlainPlan BindRefusal) → running_bound t name tree bound ≡ Err Fault → ⊥
no_fault_bound t name tree (Ok plan) e = no_fault_typed t (run_of t.streams name tree plan) (typing_of t.streams plan) e
no_fault_bound t name tree (Err (binding.Unknown stream)) e = absurd (cc)
no_fault_bound t name tree (Err binding.IllTyped) e = absurd (cc)
no_fault_bound t name tree (Err binding.Memory) e = absurd (cc)

pub no_fault : {A : Type 0} (t : Table) (name : List ℕ) (tree : PlainTree) (r : Result A Refusal) → IfErr r (λ why. (running t name tree ≡ Err why) ⊎ (why ≡ Memory)) → r ≡ Err Fault → ⊥
no_fault t name tree r given is =
    elim (subst (λ r. IfErr r (λ why. (running t name tree ≡ Err why) ⊎ (why ≡ Memory))) is given) [ inl e ↦ no_fault_bound t name tree (bound_plan t.streams tree) e | inr none ↦ absurd (cc) ]
