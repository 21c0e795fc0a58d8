-- That kept results are ordered by their standings.
use Rattle.std.proofs.Common.{Bool}
use Rattle.std.specs.Cmp.{IsStrictWeakOrder}
use Rattle.std.specs.Ordering.{is_lt}
use Rattle.collector.specs.Candidates.{standing}
use Rattle.collector.specs.Standing.{standing_cmp}
use Rattle.collector.proofs.Orders.{candidates_rank}
use Rattle.catalog_page.specs.declared.catalogue.Kept.{Kept}

abbrev pub comes_first : Kept → Kept → Bool
comes_first k l = is_lt (standing_cmp (standing k.standing) (standing l.standing))

pub kept_rank : IsStrictWeakOrder comes_first
kept_rank = record {
  one_way = λ k l is. candidates_rank.one_way k.standing l.standing is;
  chain = λ k l m first second. candidates_rank.chain k.standing l.standing m.standing first second;
}
