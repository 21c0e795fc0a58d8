use Rattle.std.proofs.Common.{◌≡◌, ◌∙◌, length, sym, subst, refl, arith}
use Rattle.gated_log.specs.Logs.{contents}
use Rattle.catalog_core.specs.Table.{empty_table}
use Rattle.catalog_core.specs.Catalogs.{table_of}
use Rattle.folder.specs.Replay.{StopsReplay, due_in, form_in}
use Rattle.folder.proofs.Going.{going_from, going_on, going_stops, going_fits, going_due, front_below, stops_at, err_same}
use Rattle.folder.proofs.replay.replay.Goals as goal

pub loop-i-init : goal.loop-i-init
loop-i-init c = going_from (form_in (contents c.args.bodies.now)) (due_in c.args.generation) c.args.bodies.now (due_in c.args.generation) (table_of c.new-catalog.result) refl c.new-catalog.ensures

pub place-requires-clause-fits : goal.place-requires-clause-fits
place-requires-clause-fits c = front_below c.args.bodies.now c.loop-i.i c.requires

pub behind-requires : goal.behind-requires
behind-requires c =
    let stops = rw c.form_in-form.ensures at c.in-Err.ensures.stops in
    going_fits (form_in (contents c.args.bodies.now)) (due_in c.args.generation) c.args.bodies.now c.loop-i.i c.loop-i.due (table_of c.loop-i.catalog) c.loop-i.invariant
    c.index-bodies-i.result c.loop-i-test.true c.index-bodies-i.is c.deref.result.now c.place.result c.in-Err.refusal c.deref.ensures.value c.place.ensures stops c.requires

pub returns-in-Err-clause-stops : goal.returns-in-Err-clause-stops
returns-in-Err-clause-stops c = λ at is.
    let stops = rw c.form_in-form.ensures at c.in-Err.ensures.stops in
    going_stops (form_in (contents c.args.bodies.now)) (due_in c.args.generation) c.args.bodies.now c.loop-i.i c.loop-i.due (table_of c.loop-i.catalog) c.loop-i.invariant
    c.index-bodies-i.result c.loop-i-test.true c.index-bodies-i.is c.deref.result.now c.place.result c.in-Err.refusal c.deref.ensures.value c.place.ensures stops at
    (sym c.behind.ensures ∙ err_same _ _ is)

pub loop-i-preserved : goal.loop-i-preserved
loop-i-preserved c =
    let made = rw c.form_in-form.ensures at c.in-Ok.ensures.made in
    going_on (form_in (contents c.args.bodies.now)) (due_in c.args.generation) c.args.bodies.now c.loop-i.i c.loop-i.due (table_of c.loop-i.catalog) c.loop-i.invariant
    c.index-bodies-i.result c.loop-i-test.true c.index-bodies-i.is (table_of c.make.new.catalog) c.deref.result.now made.0 c.deref.ensures.value made.1 made.2 made.3

pub returns-then-due-clause-stops : goal.returns-then-due-clause-stops
returns-then-due-clause-stops c = λ at is.
    let end : c.loop-i.i ≡ length c.args.bodies.now = omega (arith, c.loop-i.auto.i-end, c.loop-i-test.false) in
    subst (λ n. StopsReplay (form_in (contents c.args.bodies.now)) (due_in c.args.generation) empty_table 8 (contents c.args.bodies.now) n) (stops_at 8 at (err_same _ _ is))
    (going_due (form_in (contents c.args.bodies.now)) (due_in c.args.generation) c.args.bodies.now c.loop-i.i c.loop-i.due (table_of c.loop-i.catalog) c.loop-i.invariant c.if-due.true end)
