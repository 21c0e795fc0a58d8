use Rattle.std.proofs.Common.{◌≡◌, ◌⊎◌, inr, refl, sym, ap, ◌∙◌, subst, ℕ, List, Ok, Err}
use Rattle.std.specs.Option.{is_some}
use Rattle.catalog_core.specs.Catalogs.{table_of}
use Rattle.catalog_core.specs.Table.{Table}
use Rattle.planning.specs.Opening.{opening}
use Rattle.script_text.specs.declared.answer.Answer.TheVariants as answer
use Rattle.script_text.specs.declared.answer.Refusal.TheVariants as refusal
use Rattle.script_text.specs.declared.item.Command.TheVariants as command
use Rattle.session.specs.Jobs.{AreHeldOver, IsJob}
use Rattle.session.specs.Standing.{jobs_of}
use Rattle.session.proofs.HoldLemmas.{open_there, holds_with, admitted_held, admitted_narrow, admitted_spares}
use Rattle.session.proofs.OpenLemmas.{opens, opens_refused, stays}
use Rattle.session.proofs.Places.{as_many}
use Rattle.session.proofs.SparingLemmas.{opens_sparing}
use Rattle.session.proofs.session.Session.open_job.Goals as goal

pub returns-in_default-clause-ok : goal.returns-in_default-clause-ok
returns-in_default-clause-ok g c = λ care store m stands.
    stays care (g.D.Store.view store) c.args.self c.args.self m (command.OpenJob c.args.job c.args.name c.args.plan.now) (answer.Refused refusal.Memory) stands refl refl (inr (refusal.Memory, tt, refl, refl))

pub returns-in-Ok-opened-clause-ok : goal.returns-in-Ok-opened-clause-ok
returns-in-Ok-opened-clause-ok g c = λ care store m stands.
    let opened = c.in-Ok-opened.ensures.ok in
    let self = c.args.self in
    opens care (g.D.Store.view store) self c.admit.result.0 m stands c.admit.ensures.base (table_of c.catalog.result.now) (c.catalog.ensures ∙ stands.base.means.table_is) c.args.job c.args.name c.args.plan.now
    c.is_some.result c.count.result
    (c.is_some.ensures ∙ ap is_some c.place_of.ensures ∙ open_there m.state c.args.job m.jobs (jobs_of self) stands.jobs)
    (c.count.ensures ∙ sym (as_many (IsJob m.state) m.jobs (jobs_of self) stands.jobs))
    opened.0 c.in-Ok-opened.work c.admit.result.1
    (subst (λ (job : List ℕ). opening (table_of c.catalog.result.now) c.is_some.result c.count.result job c.args.name c.args.plan.now ≡ Ok opened.0) c.in-Ok.ensures opened.1)
    opened.2 c.admit.ensures.admitted

pub returns-in-Err-clause-ok : goal.returns-in-Err-clause-ok
returns-in-Err-clause-ok g c = λ care store m stands.
    let self = c.args.self in
    let v = g.D.Store.view store in
    stays care v self self m (command.OpenJob c.args.job c.args.name c.args.plan.now) (answer.Refused c.in-Err.refusal) stands refl refl
    (opens_refused care v self self m stands refl (table_of c.catalog.result.now) (c.catalog.ensures ∙ stands.base.means.table_is) c.args.job c.args.name c.args.plan.now
    c.is_some.result c.count.result
    (c.is_some.ensures ∙ ap is_some c.place_of.ensures ∙ open_there m.state c.args.job m.jobs (jobs_of self) stands.jobs)
    (c.count.ensures ∙ sym (as_many (IsJob m.state) m.jobs (jobs_of self) stands.jobs))
    c.in-Err.refusal
    (subst (λ (job : List ℕ). (opening (table_of c.catalog.result.now) c.is_some.result c.count.result job c.args.name c.args.plan.now ≡ Err c.in-Err.refusal) ⊎ (c.in-Err.refusal ≡ refusal.Memory)) c.in-Ok.ensures c.in-Err.ensures.err))

pub returns-in-Ok-opened-clause-holds : goal.returns-in-Ok-opened-clause-holds
returns-in-Ok-opened-clause-holds g c =
    let t = table_of c.catalog.result.now in
    let self = c.args.self in
    let opened = c.in-Ok-opened.ensures.ok in
    holds_with self c.admit.result.0 c.admit.ensures.base
    (subst (λ (x : Table). AreHeldOver x (jobs_of c.admit.result.0)) c.catalog.ensures
    (admitted_held t opened.0 c.in-Ok-opened.work c.args.job (jobs_of self) (jobs_of c.admit.result.0) c.admit.result.1 opened.2 c.admit.ensures.admitted
    (subst (λ (x : Table). AreHeldOver x (jobs_of self)) (sym c.catalog.ensures) c.requires.holds)))

pub returns-in-Ok-opened-clause-narrow : goal.returns-in-Ok-opened-clause-narrow
returns-in-Ok-opened-clause-narrow g c = admitted_narrow c.in-Ok-opened.work c.args.job (jobs_of c.args.self) (jobs_of c.admit.result.0) c.admit.result.1 c.admit.ensures.admitted

pub returns-in-Ok-opened-clause-of_no_file : goal.returns-in-Ok-opened-clause-of_no_file
returns-in-Ok-opened-clause-of_no_file g c = admitted_spares c.in-Ok-opened.work c.args.job (jobs_of c.args.self) (jobs_of c.admit.result.0) c.admit.result.1 c.admit.ensures.admitted

pub returns-in-Err-clause-of_no_file : goal.returns-in-Err-clause-of_no_file
returns-in-Err-clause-of_no_file g c = opens_sparing (table_of c.catalog.result.now) c.is_some.result c.count.result c.in-Ok.asked c.args.name c.args.plan.now c.in-Err.refusal c.in-Err.ensures.err
