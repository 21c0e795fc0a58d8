-- Open work stays open as the table goes on.
use Rattle.std.proofs.Common.{◌≡◌, refl, sym, ap, ◌∙◌, subst, ℕ, List}
use Rattle.std.specs.List.{AllByRecursion, Contains}
use Rattle.plan_core.specs.PlainPlan.{PlainPlan, leaves}
use Rattle.plan_core.specs.PlanTyping.{Kinds}
use Rattle.plan_canon.specs.Normal.{IsNormalFormOf}
use Rattle.plan_canon.specs.PlanRules.{plan_step}
use Rattle.estimator.specs.Bytes.{capped}
use Rattle.rewrite_core.specs.Files.{files_of, ids_in}
use Rattle.rewrite_core.specs.PlainRewriting.{PlainRewriting}
use Rattle.growth_laws.specs.Pieces.{pieces_of}
use Rattle.executor.specs.Progress.{ArePartsOf}
use Rattle.catalog_core.specs.IsTable.{IsTable}
use Rattle.catalog_core.specs.Named.{HasFile}
use Rattle.catalog_core.specs.Programs.{kinds_of_streams}
use Rattle.catalog_core.specs.Table.{Table}
use Rattle.plan_choice.proofs.NormalForms.{form_typed}
use Rattle.work_run.specs.Opened.{IsOpen, opened_rewriting}
use Rattle.work_run.specs.declared.open.OpenWork.{OpenWork}
use Rattle.later_states.specs.Later.{IsLater, AreHeld}
use Rattle.later_states.proofs.Kept.{StaysFile, all-held, files-stay, rewriting-stays, same-bytes}
use Rattle.later_states.proofs.Parts.{parts-still}
use Rattle.later_states.proofs.Streams.{kinds-grown, cuts-grown, typed-grown, over-grown, program-grown}
use Rattle.later_states.proofs.Typed.{form-still, step-still}

module _ (held : List ℕ) (t : Table) (plan : PlainPlan) (work : OpenWork) (is : IsOpen t plan work) (are : AreHeld held work.used.items) (there : AllByRecursion (HasFile t) (files_of (opened_rewriting work))) where
  abbrev kinds : List Kinds
  kinds = kinds_of_streams t.streams

  abbrev r : PlainRewriting
  r = opened_rewriting work

  held-ids : AllByRecursion (Contains held) (ids_in (files_of r))
  held-ids = all-held held r work.used.items is.used are

  -- each file that it names stays
  pub names-stay : AllByRecursion (StaysFile held t) (files_of r)
  names-stay = files-stay held t (files_of r) there held-ids

  pub open-stays : (u : Table) → IsTable t → IsTable u → IsLater held t u → (new : IsOpen u plan work) × (new.normal ≡ is.normal)
  open-stays u is_t is_u later =
      let more = kinds-grown t.streams u.streams later.streams in
      let form = form_typed kinds plan is.normal is.serves.normal is.typed in (
        record {
          normal = is.normal;
          serves = record {
            normal = subst (λ (ks : List Kinds). IsNormalFormOf ks plan is.normal) (sym more.1) (form-still kinds more.0 plan is.normal is.typed form is.serves.normal);
            over = rewriting-stays held t u later r is.normal work.program.cuts held-ids is.serves.over;
          };
          used = is.used;
          read = is.read ∙ ap capped (sym (same-bytes held t u is_t is_u later (files_of r) names-stay));
          typed = typed-grown t.streams u.streams later.streams plan is.typed;
          are_cuts = cuts-grown t.streams u.streams later.streams (leaves plan) work.program.cuts is.are_cuts;
          fit = record {
            over = over-grown t.streams u.streams later.streams is.normal work.program.cuts is.fit.over;
            normal = ap (λ (ks : List Kinds). plan_step ks is.normal) more.1 ∙ step-still kinds more.0 is.normal form ∙ is.fit.normal;
            spelled = is.fit.spelled;
            literals = is.fit.literals;
            deep = is.fit.deep;
            few = is.fit.few;
          };
          program = program-grown t.streams u.streams later.streams work.program is.program;
          parts = subst (λ (ks : List Kinds). ArePartsOf ks (pieces_of r) work.job.parts.items) (sym more.1) (parts-still kinds more.0 (pieces_of r) work.job.parts.items is.parts);
          names = is.names;
          rest = is.rest;
        },
        refl,
      )
