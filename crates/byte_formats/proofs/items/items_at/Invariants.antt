-- What was read, and then what is read behind it, is all that is read.
use Rattle.std.proofs.Common.{ℕ, List}
use Rattle.byte_formats.specs.Reading.{Gives, Read}
use Rattle.byte_formats.proofs.Loop.{HasRead}
use Rattle.byte_formats.proofs.items.items_at.Given as goal

abbrev pub invariant-loop : goal.invariant-loop
invariant-loop g l =
    (read : List ℕ → Read _) → ((bytes : _) (r : _) → goal.F-post g l.item bytes r → Gives (λ x. (x.0, x.1.now)) r (read bytes.now))
    → HasRead read l.count l.counter l.items.items l.rest l.bytes
