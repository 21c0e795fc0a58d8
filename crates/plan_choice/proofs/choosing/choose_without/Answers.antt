use Rattle.std.proofs.Common.{◌≡◌, sym, subst, ap, ◌∙◌, []}
use Rattle.plan_core.specs.Literals.{HasValidLiterals}
use Rattle.plan_core.specs.PlainPlan.{plan_of}
use Rattle.estimator.specs.Bytes.{capped}
use Rattle.plan_spelling.specs.Spelling.{HasPlanSpelling}
use Rattle.rewrite_core.specs.Entries.{Entries}
use Rattle.rewrite_core.specs.Estimate.{IsLeast}
use Rattle.rewrite_core.specs.IsRewriting.{IsRewriting, among, whichever}
use Rattle.rewrite_core.specs.PlainRewriting.{rewriting_of, way_of}
use Rattle.cache_index.specs.Asked.{asked}
use Rattle.catalog_core.specs.Catalogs.{table_of}
use Rattle.catalog_core.specs.Named.{lengths_of}
use Rattle.plan_choice.specs.Leaving.{leaving_out}
use Rattle.plan_choice.proofs.OwnParts.{own_cuts, own_rewriting}
use Rattle.plan_choice.proofs.Serving.{among_kept, kept_formed}
use Rattle.plan_choice.proofs.choosing.choose_without.Goals as goal

pub reads-read-requires-clause-formed : goal.reads-read-requires-clause-formed
reads-read-requires-clause-formed c =
    let t = table_of c.args.catalog.now in
    let r = c.in_ok-rewriting.rewriting in
    let normal = c.args.normal.now.plan in
    let entries = asked c.args.left_out.now t.entries in
    let sound = c.kept_results_of_tables.ensures.sound t c.args.left_out.now c.args.catalog.now.sound in
    let formed = kept_formed entries normal c.args.cuts.now (rewriting_of r) sound (among_kept entries normal c.args.cuts.now (rewriting_of r) c.in_ok-rewriting.ensures.is) in
    own_rewriting whichever normal (plan_of r.plan) c.args.cuts.now r.cuts (way_of r.way) formed

pub reads-read-requires-clause-cuts : goal.reads-read-requires-clause-cuts
reads-read-requires-clause-cuts c =
    let t = table_of c.args.catalog.now in
    let r = c.in_ok-rewriting.rewriting in
    let normal = c.args.normal.now.plan in
    own_cuts (among (asked c.args.left_out.now t.entries)) normal (plan_of r.plan) c.args.cuts.now r.cuts (way_of r.way) c.in_ok-rewriting.ensures.is (lengths_of t.streams)
    (c.cuts_of_tables.ensures.cuts t normal c.args.cuts.now c.requires)

pub returns-clause-chosen : goal.returns-clause-chosen
returns-clause-chosen c = λ plan is_normal.
    let t = table_of c.args.catalog.now in
    let left = leaving_out c.args.left_out.now t in
    let r = c.in_ok-rewriting.rewriting in
    let normal = c.args.normal.now.plan in
    let same : asked c.args.left_out.now t.entries ≡ asked [] left.entries = sym (c.results_are_left_out.ensures.asked t c.args.left_out.now) in
    let least = subst (λ (es : Entries). IsLeast es (lengths_of t.streams) normal c.args.cuts.now (rewriting_of r)) same c.in_ok-rewriting.ensures in
    record {
      normal = normal;
      taken = record { normal = is_normal; least = least };
      used = c.in_ok-used.ensures;
      read = c.reads-read.ensures ∙ ap capped (c.bytes_of_named_files.ensures left normal c.args.cuts.now (rewriting_of r) (c.results_are_left_out.ensures.table t c.args.left_out.now c.args.catalog.now.sound) least.is c.requires);
    }

pub returns-clause-form : goal.returns-clause-form
returns-clause-form c = c.in_ok-rewriting.ensures.is.0

pub returns-clause-spelled : goal.returns-clause-spelled
returns-clause-spelled c = subst HasPlanSpelling (sym c.in_ok-rewriting.ensures.is.0) c.typed_plan_has_spelling.ensures

pub returns-clause-literals : goal.returns-clause-literals
returns-clause-literals c = subst HasValidLiterals (sym c.in_ok-rewriting.ensures.is.0) c.know_literals.ensures
