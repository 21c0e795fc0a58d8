-- A name has 64 bytes at most.
use Rattle.std.proofs.Common.{ap, length, arith}
use Rattle.byte_formats.proofs.Names.{name_parts}
use Rattle.byte_formats.proofs.put.put_name.Goals as goal

pub overflow_cast-bytes : goal.overflow_cast-bytes
overflow_cast-bytes c = let few = (name_parts c.args.name.now c.bytes-bytes.ensures.name).few in omega (arith, ap length c.bytes-bytes.ensures.bytes)
