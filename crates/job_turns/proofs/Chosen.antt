-- Work of a rewriting that is taken anew.
use Rattle.std.proofs.Common.{◌≡◌, refl, sym, ap, ◌∙◌, subst, ℕ, ◌==◌, ◌||◌, Bool, true, false, List, [], ◌∷◌, ◌++◌, inl, inr}
use Rattle.std.specs.List.{Contains, list_all, list_any}
use Rattle.std.proofs.lemmas.Bool.{false≢true, and_parts}
use Rattle.std.proofs.lemmas.List.Folds.{list_any-append, list_any_at}
use Rattle.std.proofs.Math.Bool.{or-true}
use Rattle.plan_core.specs.PlainPlan.{PlainPlan, plan_of}
use Rattle.plan_core.specs.PlanTyping.{Kinds}
use Rattle.plan_canon.specs.Normal.{IsNormalFormOf}
use Rattle.estimator.specs.Cuts.{Cuts}
use Rattle.rewrite_core.specs.Files.{AreIdsOf, files_of}
use Rattle.rewrite_core.specs.PlainRewriting.{PlainRewriting, rewriting_of}
use Rattle.rewrite_core.proofs.Looking.{Contains-cons_cases, Contains-none}
use Rattle.growth_laws.specs.Parts.{plan_at}
use Rattle.growth_laws.specs.Pieces.{pieces_of}
use Rattle.executor.specs.Pieces.{HasTyping}
use Rattle.catalog_types.specs.PlainEntry.{PlainEntry}
use Rattle.catalog_types.specs.declared.program.Program.{Program}
use Rattle.catalog_core.specs.Programs.{IsProgram, kinds_of_streams}
use Rattle.catalog_core.specs.Table.{Table}
use Rattle.entry_table.specs.Ids as kept
use Rattle.entry_table.specs.Ids.{is_among, is_there, without}
use Rattle.executor.specs.Progress.{ArePartsOf, HaveRead}
use Rattle.folder.specs.Files.{results_in}
use Rattle.folder.specs.State.{State, kinds_in, extents_in}
use Rattle.later_states.specs.Later.{AreFree}
use Rattle.later_states.proofs.Tables.{among-has, among-is}
use Rattle.plan_choice.specs.Leaving.{leaving_out}
use Rattle.plan_choice.specs.Taken.{IsChoice, IsTaken}
use Rattle.plan_choice.specs.declared.choosing.Choice.{Choice}
use Rattle.work_plan.specs.Fitting.{IsFit}
use Rattle.work_run.specs.Opened.{IsOpen, files_left, opened_rewriting}
use Rattle.work_run.specs.declared.open.OpenWork.{OpenWork}
use Rattle.work_run.proofs.OpenSteps.{opens}
use Rattle.work_run.proofs.Rooted.{IsRooted, TakenServe, chosen_root, chosen_serves, open_plan, plan_is}
use Rattle.work_run.proofs.Taken.{entry-there}
use Rattle.work_turns.specs.Turns.{IsChosenOf}
use Rattle.work_turns.proofs.LeftOut.{left_plan, left_taken, LeftServe}
use Rattle.plan_laws.proofs.Members.{at_front, behind}
use Rattle.job_turns.specs.Jobs.{HaveOneOf, IsFresh, Suits}
use Rattle.job_turns.proofs.Later.{left-has}

-- ---- what suits, and fresh work, of the same parts

pub suits-as : (t : Table) (plan form same : PlainPlan) (program other : Program) → same ≡ form → other ≡ program → Suits t plan form program.cuts → Suits t plan same other.cuts
suits-as t plan form same program other form_is program_is suits =
    subst (λ (q : PlainPlan). Suits t plan q other.cuts) (sym form_is) (subst (λ (p : Program). Suits t plan form p.cuts) (sym program_is) suits)

pub fresh-as : (t : Table) (ids others : List ℕ) (plan form same : PlainPlan) (program other : Program) (work : OpenWork) → ids ≡ others → form ≡ same → program ≡ other → IsFresh t ids plan form program work
    → IsFresh t others plan same other work
fresh-as t ids others plan form same program other work ids_are form_is program_is is =
    subst (λ (l : List ℕ). IsFresh t l plan same other work) ids_are
    (subst (λ (q : PlainPlan). IsFresh t ids plan q other work) form_is (subst (λ (p : Program). IsFresh t ids plan form p work) program_is is))

-- ---- the choice

module _ (serve : TakenServe) (t : Table) (ids : List ℕ) (plan form : PlainPlan) (cuts : Cuts) (suits : Suits t plan form cuts) (choice : Choice)
    (chosen : IsNormalFormOf (kinds_of_streams t.streams) plan form → IsChoice (leaving_out ids t) plan cuts choice) (form_is : plan_of choice.rewriting.plan ≡ form) where
  is_choice : IsChoice (leaving_out ids t) plan cuts choice
  is_choice = chosen suits.normal

  same_form : is_choice.normal ≡ form
  same_form =
      sym (plan_is _ is_choice.normal cuts (rewriting_of choice.rewriting) (serve (leaving_out ids t) plan is_choice.normal cuts (rewriting_of choice.rewriting) is_choice.taken).over) ∙ form_is

  pub is-chosen : IsChosenOf t ids plan form cuts choice
  is-chosen = record {
    chosen = record {
      choice_is = is_choice;
      typed = suits.typed;
      are_cuts = suits.are_cuts;
      fit = subst (λ (q : PlainPlan). IsFit t.streams q cuts) (sym same_form) suits.fit;
    };
    form_is = same_form;
  }

-- ---- the work

module _ (serve : TakenServe) (more : LeftServe) (t : Table) (ids : List ℕ) (plan form : PlainPlan) (program : Program) (choice : Choice) (is : IsChosenOf t ids plan form program.cuts choice) (is_program : IsProgram t.streams program)
    (work : OpenWork) (program_is : work.program ≡ program) (rewriting_is : opened_rewriting work ≡ rewriting_of choice.rewriting) (used : work.used ≡ choice.used) (read : work.read ≡ choice.read) where
  abbrev r : PlainRewriting
  r = rewriting_of choice.rewriting

  root : IsRooted (leaving_out ids t) plan r
  root = chosen_root serve (leaving_out ids t) plan program.cuts choice is.chosen

  pub fresh-work : files_left work ≡ files_of r → work.job.taken ≡ 0
      → ((kinds : List Kinds) → HasTyping kinds (plan_at r) → ArePartsOf kinds (pieces_of r) work.job.parts.items)
      → ((s : State) → HasTyping (kinds_in s.streams) (plan_at r) → HaveRead (kinds_in s.streams) (extents_in s.streams) (results_in s) (pieces_of r) work.job.parts.items) → IsFresh t ids plan form program work
  fresh-work left taken parts have =
      let opened : IsOpen (leaving_out ids t) plan work =
      opens (leaving_out ids t) plan work program r program_is rewriting_is is.chosen.choice_is.normal (chosen_serves serve (leaving_out ids t) plan program.cuts choice is.chosen)
      (subst (λ u. AreIdsOf (files_of r) u.items) (sym used) is.chosen.choice_is.used) (read ∙ is.chosen.choice_is.read) is.chosen.typed is.chosen.are_cuts is.chosen.fit is_program (parts (kinds_of_streams t.streams) root.fit.over.typed) []
      (sym left) in
      record {
        program_is = program_is;
        taken = subst (IsTaken (leaving_out ids t) plan form program.cuts) (sym rewriting_is) (left_taken serve more t ids plan form program.cuts choice is);
        is_open = opened;
        form_is = sym (open_plan (leaving_out ids t) plan work opened) ∙ ap plan_at rewriting_is ∙ left_plan serve more t ids plan form program.cuts choice is;
        unread = left ∙ ap files_of (sym rewriting_is);
        uncounted = taken;
        read = λ s same.
            subst (λ (x : PlainRewriting). HaveRead (kinds_in s.streams) (extents_in s.streams) (results_in s) (pieces_of x) work.job.parts.items) (sym rewriting_is)
            (have s (subst (λ (x : Table). HasTyping (kinds_of_streams x.streams) (plan_at r)) same root.fit.over.typed));
      }

-- ---- ids that are left out aren't used

listed : (p : ℕ → Bool) (ids : List ℕ) (id : ℕ) → list_all p ids ≡ true → Contains ids id → p id ≡ true
listed p [] id all has = absurd (Contains-none id has)
listed p (x ∷ xs) id all has =
    let parts = and_parts (p x) (list_all p xs) all in
    elim (Contains-cons_cases x xs id has) [
      | inl same ↦ subst (λ (i : ℕ). p i ≡ true) same parts.0
      | inr more ↦ listed p xs id parts.1 more
    ]

pub spared : (ids dropped : List ℕ) (es : List PlainEntry) (used : List ℕ) → kept.AreIdsOf (without (ids ++ dropped) es) used → AreFree used dropped
spared ids dropped es used are = λ id gone is.
    let e = entry-there (without (ids ++ dropped) es) id (listed (is_there (without (ids ++ dropped) es)) used id are.there is) in
    let free : is_among (ids ++ dropped) id ≡ false = subst (λ (i : ℕ). is_among (ids ++ dropped) i ≡ false) e.2 (left-has (ids ++ dropped) es e.0 e.1).1 in
    let has : is_among (ids ++ dropped) id ≡ true = list_any-append (λ (x : ℕ). x == id) ids dropped ∙ ap (λ (b : Bool). is_among ids id || b) (among-has dropped id gone) ∙ or-true (is_among ids id) in
    false≢true (sym free ∙ has)

-- ---- whether one of some ids is among others

pub none-of : (ids others : List ℕ) → list_any (is_among others) ids ≡ false → AreFree ids others
none-of ids others none = λ id is has. false≢true (sym none ∙ list_any_at (is_among others) ids has.0 id has.1 (ap (is_among others) has.2 ∙ among-has others id is))

pub one-of : (ids others : List ℕ) → list_any (is_among others) ids ≡ true → HaveOneOf ids others
one-of [] others is = absurd (false≢true is)
one-of (x ∷ ids) others is = by (is_among others x) refl is (one-of ids others)
  where
    by : (b : Bool) → is_among others x ≡ b → (b || list_any (is_among others) ids) ≡ true → (list_any (is_among others) ids ≡ true → HaveOneOf ids others) → HaveOneOf (x ∷ ids) others
    by true among any rest = (x, at_front x ids, among-is others x among)
    by false among any rest = (let of = rest any in (of.0, behind x ids of.0 of.1, of.2))
