-- Tables without some results: of two lists of them, and as tables go on.
use Rattle.std.proofs.Common.{◌≡◌, refl, sym, ap, ◌∙◌, subst, inl, inr, ℕ, ◌-◌, ◌==◌, ◌||◌, Bool, true, false, not, cond, List, [], ◌∷◌, ◌++◌}
use Rattle.std.specs.List.{AllByRecursion, Contains}
use Rattle.std.proofs.lemmas.List.Folds.{list_any-append}
use Rattle.plan_core.specs.PlainPlan.{PlainPlan}
use Rattle.estimator.specs.Bytes.{capped}
use Rattle.rewrite_core.specs.Files.{files_of}
use Rattle.rewrite_core.proofs.Looking.{Contains-first, Contains-behind, Contains-cons_cases, Contains-none}
use Rattle.catalog_types.specs.PlainEntry.{PlainEntry}
use Rattle.catalog_core.specs.IsTable.{IsTable}
use Rattle.catalog_core.specs.Named.{HasFile}
use Rattle.catalog_core.specs.Table.{Table}
use Rattle.catalog_core.proofs.Typings.{sides}
use Rattle.entry_table.specs.Ids.{is_among, without}
use Rattle.later_states.specs.Later.{AreHeld, IsLater}
use Rattle.later_states.proofs.Kept.{StaysFile, same-bytes}
use Rattle.later_states.proofs.Opened.{names-stay}
use Rattle.plan_choice.specs.Leaving.{leaving_out}
use Rattle.work_run.specs.Opened.{IsOpen, files_left, opened_rewriting}
use Rattle.job_turns.specs.Jobs.{IsJob, bytes_read}
use Rattle.job_turns.specs.declared.job.JobWork.{JobWork}

-- ---- two lists of results

among-both : (ids others : List ℕ) (id : ℕ) → is_among (ids ++ others) id ≡ (is_among ids id || is_among others id)
among-both ids others id = list_any-append (λ (x : ℕ). x == id) ids others

pub without-both : (ids others : List ℕ) (es : List PlainEntry) → without (ids ++ others) es ≡ without others (without ids es)
without-both ids others [] = refl
without-both ids others (e ∷ es) =
    ap (λ (b : Bool). cond (not b) (e ∷ without (ids ++ others) es) (without (ids ++ others) es)) (among-both ids others e.id)
    ∙ by (is_among ids e.id) (is_among others e.id) refl (without-both ids others es)
  where
    by : (b c : Bool) → is_among others e.id ≡ c → without (ids ++ others) es ≡ without others (without ids es)
        → cond (not (b || c)) (e ∷ without (ids ++ others) es) (without (ids ++ others) es) ≡ without others (cond (not b) (e ∷ without ids es) (without ids es))
    by true c is rest = rest
    by false true is rest = rest ∙ sym (ap (λ (b : Bool). cond (not b) (e ∷ without others (without ids es)) (without others (without ids es))) is)
    by false false is rest = ap (λ (l : List PlainEntry). e ∷ l) rest ∙ sym (ap (λ (b : Bool). cond (not b) (e ∷ without others (without ids es)) (without others (without ids es))) is)

pub leaving-both : (ids others : List ℕ) (t : Table) → leaving_out (ids ++ others) t ≡ leaving_out others (leaving_out ids t)
leaving-both ids others t = ap (λ (es : List PlainEntry). let kept : Table = record t { entries = es } in kept) (without-both ids others t.entries)

-- ---- entries that are left

-- an entry that is left is one of all, whose id isn't among those that are left out
pub left-has : (ids : List ℕ) (es : List PlainEntry) (e : PlainEntry) → Contains (without ids es) e → Contains es e × (is_among ids e.id ≡ false)
left-has ids [] e has = absurd (Contains-none e has)
left-has ids (x ∷ xs) e has = by (is_among ids x.id) refl has (left-has ids xs e)
  where
    by : (b : Bool) → is_among ids x.id ≡ b → Contains (cond (not b) (x ∷ without ids xs) (without ids xs)) e → (Contains (without ids xs) e → Contains xs e × (is_among ids e.id ≡ false))
        → Contains (x ∷ xs) e × (is_among ids e.id ≡ false)
    by true is has rest = let more = rest has in (Contains-behind x xs e more.0, more.1)
    by false is has rest = elim (Contains-cons_cases x (without ids xs) e has) [
      | inl same ↦ (subst (Contains (x ∷ xs)) same (Contains-first x xs), subst (λ (y : PlainEntry). is_among ids y.id ≡ false) same is)
      | inr more ↦ (let one = rest more in (Contains-behind x xs e one.0, one.1))
    ]

pub has-left : (ids : List ℕ) (es : List PlainEntry) (e : PlainEntry) → Contains es e → is_among ids e.id ≡ false → Contains (without ids es) e
has-left ids [] e has free = absurd (Contains-none e has)
has-left ids (x ∷ xs) e has free = elim (Contains-cons_cases x xs e has) [
  | inl same ↦ subst (λ (b : Bool). Contains (cond (not b) (x ∷ without ids xs) (without ids xs)) e) (sym (ap (λ (y : PlainEntry). is_among ids y.id) same ∙ free)) (subst (Contains (x ∷ without ids xs)) same (Contains-first x (without ids xs)))
  | inr more ↦ by (is_among ids x.id) (has-left ids xs e more free)
]
  where
    by : (b : Bool) → Contains (without ids xs) e → Contains (cond (not b) (x ∷ without ids xs) (without ids xs)) e
    by true rest = rest
    by false rest = Contains-behind x (without ids xs) e rest

-- ---- later tables

pub later-left : (held ids : List ℕ) (t u : Table) → IsLater held t u → IsLater held (leaving_out ids t) (leaving_out ids u)
later-left held ids t u later = record {
  streams = later.streams;
  kept = λ e has is.
      let was = left-has ids t.entries e has in
      let now = later.kept e was.0 is in
      (now.0, has-left ids u.entries now.0 now.1 (ap (is_among ids) now.2.id ∙ was.1), now.2);
}

module _ (held : List ℕ) (t u : Table) (is_t : IsTable t) (is_u : IsTable u) (later : IsLater held t u) (plan : PlainPlan) (job : JobWork) (are : AreHeld held job.work.used.items) (is : IsJob t plan job)
    (whole : IsOpen t plan job.work) (there : AllByRecursion (HasFile t) (files_of (opened_rewriting job.work)))
    (open_later : (old : IsOpen (leaving_out job.noted.items t) plan job.work) → (new : IsOpen (leaving_out job.noted.items u) plan job.work) × (new.normal ≡ old.normal)) where
  stay : AllByRecursion (StaysFile held t) (files_of (opened_rewriting job.work))
  stay = names-stay held t plan job.work whole are there

  left-stay : AllByRecursion (StaysFile held t) (files_left job.work)
  left-stay = (sides (StaysFile held t) whole.names (files_left job.work) (subst (AllByRecursion (StaysFile held t)) whole.rest stay)).1

  same-read : bytes_read u job.work ≡ bytes_read t job.work
  same-read = λ i. same-bytes held t u is_t is_u later (files_of (opened_rewriting job.work)) stay i - same-bytes held t u is_t is_u later (files_left job.work) left-stay i

  pub job-later : IsJob u plan job
  job-later =
      let now = open_later is.is_open in
      record { is_open = now.0; form_is = now.1 ∙ is.form_is; counted = is.counted ∙ ap capped (sym same-read); cut = is.cut }
