use Rattle.catalog_core.specs.Catalogs.{table_of}
use Rattle.catalog_core.proofs.Kept.{tick-keeps}
use Rattle.catalog_core.proofs.catalog.Catalog.add_tick.Goals as goal

pub invariant_of-self : goal.invariant_of-self
invariant_of-self c = record {
  named = c.args.self.now.named;
  kinds = c.args.self.now.kinds;
  counted = c.args.self.now.counted;
  sound = tick-keeps (table_of c.args.self.now) c.requires c.args.self.now.sound;
}
