use Rattle.std.proofs.Common.{rules, not, arith}
use Rattle.cache_index.specs.Lists.{is_among}
use Rattle.cache_index.proofs.Retained.{ids_left, places_left}
use Rattle.cache_index.proofs.lists.IdLists.remove.Goals as goal

pub returns-clause-ids : goal.returns-clause-ids
returns-clause-ids c digest =
    ids_left _ (λ id. not (is_among c.args.ids.now id)) _ (λ k v b w g t. search rules) c.args.self.now.lists.entries c.retain.new.self.entries c.len.ensures.unique c.retain.ensures.filtered digest

pub returns-clause-room : goal.returns-clause-room
returns-clause-room c more has = record {
  digests = (let kept = c.retain.ensures.room.0 in omega (arith, kept, has.digests));
  places = λ digest. places_left _ (λ id. not (is_among c.args.ids.now id)) _ (λ k v b w g t. search rules) c.args.self.now.lists.entries c.retain.new.self.entries c.len.ensures.unique c.retain.ensures.filtered digest more (has.places digest);
  lists = has.lists;
  each = has.each;
}
