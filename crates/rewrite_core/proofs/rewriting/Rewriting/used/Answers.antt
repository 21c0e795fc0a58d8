use Rattle.std.proofs.Common.{ℕ, List, ◌++◌, ap, ◌∙◌}
use Rattle.rewrite_core.specs.Files.{files_of, ids_in}
use Rattle.rewrite_core.specs.PlainRewriting.{rewriting_of}
use Rattle.rewrite_core.proofs.Ids.{ids_found}
use Rattle.rewrite_core.proofs.rewriting.Rewriting.used.Goals as goal

pub returns : goal.returns
returns c =
    let found = c.in_ok-put_ids.ensures ∙ ap (λ (l : List ℕ). l ++ ids_in (files_of (rewriting_of c.args.self.now))) c.new-ids.ensures.items in
    ids_found (files_of (rewriting_of c.args.self.now)) c.put_ids.new.to.items c.sort_unstable.new.self.items c.dedup.new.self.items found
    c.sort_unstable.ensures.permutation c.sort_unstable.ensures.sorted c.dedup.ensures.filtered
