use Rattle.std.proofs.Common.{rules, ◌≡◌, ◌∙◌, sym, ap, subst, arith, length, List, ◌∷◌, ◌++◌, take, drop}
use Rattle.catalog_types.specs.declared.program.Program.{Program}
use Rattle.catalog_core.specs.Programs.{below}
use Rattle.catalog_core.proofs.ByName.{place-within, placed, HasNameAt, inserted}
use Rattle.catalog_core.proofs.programs.store.Goals as goal

pub insert-requires : goal.insert-requires
insert-requires c =
    let count = c.count_below-place.ensures ∙ ap (λ (ps : List Program). length (below c.args.program.name ps)) c.as_slice.ensures.value in
    let within = place-within c.args.program.name c.args.programs.now.items in
    omega (arith, count, within, c.args.programs.now.ok.0)

pub returns-then-has_name_at : goal.returns-then-has_name_at
returns-then-has_name_at c =
    let count = c.count_below-place.ensures ∙ ap (λ (ps : List Program). length (below c.args.program.name ps)) c.as_slice.ensures.value in
    let at = subst (λ (ps : List Program). HasNameAt ps c.count_below-place.result c.args.program.name) c.as_slice-2.ensures.value (c.has_name_at.ensures.0 c.if-has_name_at.true) in
    placed c.args.program c.args.programs.now.items c.count_below-place.result c.requires.order count at

pub returns-in-Ok : goal.returns-in-Ok
returns-in-Ok c =
    let count = c.count_below-place.ensures ∙ ap (λ (ps : List Program). length (below c.args.program.name ps)) c.as_slice.ensures.value in
    let put : c.insert.new.self.items ≡ take c.count_below-place.result c.args.programs.now.items ++ c.args.program ∷ drop c.count_below-place.result c.args.programs.now.items = search rules in
    put ∙ inserted c.args.program c.args.programs.now.items c.count_below-place.result c.requires.order count
    (λ p there same. search (rules, c.has_name_at.ensures.1 (subst (λ (ps : List Program). HasNameAt ps c.count_below-place.result c.args.program.name) (sym c.as_slice-2.ensures.value) (p, there, same)), c.if-has_name_at.false))
