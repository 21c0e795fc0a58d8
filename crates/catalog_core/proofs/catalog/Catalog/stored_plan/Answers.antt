use Rattle.std.proofs.Common.{sym, subst, List}
use Rattle.std.specs.List.{AllByRecursion}
use Rattle.catalog_core.specs.Programs.{IsStored}
use Rattle.catalog_core.specs.Streams.{states_of}
use Rattle.catalog_core.specs.declared.stream.CatalogStream.{CatalogStream}
use Rattle.catalog_core.proofs.StoredPrograms.{stored-named}
use Rattle.catalog_core.proofs.catalog.Catalog.stored_plan.Goals as goal

pub stored_plan-requires-clause-stored : goal.stored_plan-requires-clause-stored
stored_plan-requires-clause-stored c =
    subst (λ (streams : List CatalogStream). IsStored (states_of streams) c.in-Some.program.now) (sym c.as_slice-streams.ensures.value)
    (stored-named (states_of c.args.self.now.streams.items) c.as_slice.result.now c.args.name.now c.in-Some.program.now (sym c.in-Some.ensures)
    (subst (AllByRecursion (IsStored (states_of c.args.self.now.streams.items))) (sym c.as_slice.ensures.value) c.args.self.now.sound.stored))
