use Rattle.std.proofs.Common.{rules, arith}
use Rattle.catalog_core.proofs.ByName.{one-more-at-most, room-is}
use Rattle.catalog_core.proofs.programs.has_room_for.Goals as goal

pub returns-then-programs-lt-MAX_PROGRAMS : goal.returns-then-programs-lt-MAX_PROGRAMS
returns-then-programs-lt-MAX_PROGRAMS c =
    let more = one-more-at-most c.args.program.now c.args.programs.now in
    (λ low. grind (arith, more, c.if-programs-lt-MAX_PROGRAMS.true), λ few. search rules)

pub returns-else-programs-lt-MAX_PROGRAMS : goal.returns-else-programs-lt-MAX_PROGRAMS
returns-else-programs-lt-MAX_PROGRAMS c =
    room-is c.args.program.now c.args.programs.now c.count_below.result c.has_name_at.result c.requires.order c.count_below.ensures c.has_name_at.ensures c.requires.few (omega (arith, c.if-programs-lt-MAX_PROGRAMS.false))
