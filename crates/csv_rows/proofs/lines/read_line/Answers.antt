-- The line up to its LF.
use Rattle.std.proofs.Common.{◌∙◌}
use Rattle.csv_rows.proofs.LineLemmas.{IsLine-whole, IsNext-read}
use Rattle.csv_rows.proofs.lines.read_line.Goals as goal

pub returns-in-Ok-clause-next : goal.returns-in-Ok-clause-next
returns-in-Ok-clause-next g c is bytes known =
    let read = rw (known, c.clear.ensures.items) at c.in-Ok.ensures.bytes in
    let rest = rw known at c.in-Ok.ensures.rest in
    IsNext-read bytes _ c.cut_end.new.line.items _ read (c.cut_end.ensures.cut is) rest

pub returns-in-Ok-clause-none : goal.returns-in-Ok-clause-none
returns-in-Ok-clause-none g c none bytes known =
    let read = rw (known, c.clear.ensures.items) at c.in-Ok.ensures.bytes in
    IsLine-whole bytes (λ front h. c.cut_end.ensures.none none front (read ∙ h))
