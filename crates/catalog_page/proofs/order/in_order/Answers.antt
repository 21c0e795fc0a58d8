use Rattle.std.proofs.Common.{rules}
use Rattle.std.proofs.lemmas.Fn.{always_returns_same}
use Rattle.catalog_page.proofs.KeptOrder.{kept_rank, comes_first}
use Rattle.catalog_page.proofs.order.in_order.Goals as goal

pub returns : goal.returns
returns c =
    let compares = always_returns_same _ _ _ (λ a r q k. search rules) in
    record { same = c.sort_by.ensures.permutation; in_order = c.in_ok-sort_by.ensures.sorted comes_first kept_rank compares }
