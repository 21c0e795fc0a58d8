-- What contracts see of a catalogue.
use Rattle.std.specs.Prelude.{ℕ, List, map}
use Rattle.collector.specs.Candidates.{standing}
use Rattle.collector.specs.Standing.{Standing}
use Rattle.catalog_page.specs.declared.catalogue.Catalogue.{Catalogue}
use Rattle.catalog_page.specs.declared.catalogue.Kept.{Kept}
use Rattle.catalog_page.specs.declared.catalogue.LeafCut.{LeafCut}
use Rattle.catalog_page.specs.declared.catalogue.ProgramLine.{ProgramLine}
use Rattle.catalog_page.specs.declared.catalogue.StreamLine.{StreamLine}

-- a kept result: what a collection at the next tick goes by, the extents, the key of the plan, the machine time, the uses, and
-- the ticks of the last use and of the making
pub record PlainKept : Type 0 where
  pub standing : Standing
  pub cuts : List LeafCut
  pub key : List ℕ
  pub machine : ℕ
  pub uses : ℕ
  pub last : ℕ
  pub made : ℕ

pub record PlainCatalogue : Type 0 where
  pub streams : List StreamLine
  pub programs : List ProgramLine
  pub results : List PlainKept
  pub tick : ℕ

abbrev pub kept_of : Kept → PlainKept
kept_of k = record {
  standing = standing k.standing;
  cuts = k.cuts;
  key = k.key;
  machine = k.machine;
  uses = k.uses;
  last = k.last;
  made = k.made;
}

abbrev pub catalogue_of : Catalogue → PlainCatalogue
catalogue_of c = record {
  streams = c.streams.items;
  programs = c.programs.items;
  results = map kept_of c.results.items;
  tick = c.tick;
}
