use Rattle.std.proofs.Common.{rules, ◌∙◌, sym, ap, subst, List, ℕ, map, IsPermutation}
use Rattle.std.proofs.lemmas.Fn.{always_returns_same}
use Rattle.collector.specs.Standing.{first_enough}
use Rattle.collector.specs.declared.candidate.Candidate.{Candidate}
use Rattle.collector.proofs.Orders.{comes_first, candidates_rank}
use Rattle.collector.proofs.Taking.{victims_of_candidates}
use Rattle.collector.proofs.collection.victims.Goals as goal

pub returns : goal.returns
returns c =
    let compares = always_returns_same _ _ _ (λ a r q k. search rules) in
    victims_of_candidates c.args.entries.now (record { now = c.args.now; pinned = c.args.pinned.now; lease = c.args.lease }) c.deref.result.now c.args.reclaim
    c.in_ok-candidates.candidates.items c.sort_by.new.self.items c.in_ok-ids.ids.items c.requires
    (subst (λ (ids : List ℕ). IsPermutation c.args.pinned.now ids) (sym c.deref.ensures.value) c.in_ok-held.ensures.same) c.in_ok-candidates.ensures
    c.sort_by.ensures.permutation (c.in_ok-sort_by.ensures.sorted comes_first candidates_rank compares)
    (c.in_ok-ids.ensures ∙ ap (λ (cs : List Candidate). map (λ x. x.id) (first_enough (λ x. x.size) c.args.reclaim cs)) c.deref-2.ensures.value)
