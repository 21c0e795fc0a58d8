-- What was read, and then what is read behind it, is all that is read.
use Rattle.std.proofs.Common.{map}
use Rattle.plan_core.specs.PlainExpr.{expr_of}
use Rattle.byte_formats.proofs.Loop.{HasRead}
use Rattle.plan_spelling.specs.Formats.{expr_format}
use Rattle.plan_spelling.proofs.lists.so_many_exprs_at.Given as goal

abbrev pub invariant-loop : goal.invariant-loop
invariant-loop l = HasRead (expr_format l.depth).read l.count l.counter (map expr_of l.exprs.items) l.rest l.bytes
