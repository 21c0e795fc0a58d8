use Rattle.std.proofs.Common.{◌≡◌, ◌∙◌, take, sym, ap, subst, length}
use Rattle.extent_files.specs.Files.{digest_of}
use Rattle.outside_traits.specs.Calls.{CountsTaken}
use Rattle.extent_files.specs.Reads.{FoundIn}
use Rattle.extent_files.proofs.Found.{undecoded}
use Rattle.extent_files.proofs.reading.read_kept.Goals as goal

pub returns-in-Ok-clause-found : goal.returns-in-Ok-clause-found
returns-in-Ok-clause-found g c = λ told.
    let bytes = take c.args.at.now.len ((g.D.Store.view c.args.store.now).files c.args.at.now.file) in
    let read = c.deref.ensures.value in
    let count : c.len.result ≡ length c.deref.result.now = c.len.ensures ∙ c.in-Ok.bytes.ok.0 ∙ ap length (sym read) in
    subst (FoundIn c.args.shape.now c.args.at.now bytes (g.D.Store.counts c.args.store.now) (g.D.Store.counts c.read_file.new.store)) (sym c.of_blob.ensures)
    (undecoded c.args.shape.now c.args.at.now bytes c.deref.result.now c.len.result (g.D.Store.counts c.args.store.now) (g.D.Store.counts c.read_file.new.store) c.in-Err-decode.refusal
    count (read ∙ c.in-Ok.ensures.bytes told) (ap digest_of read ∙ c.in-Ok.ensures.digest)
    (subst (λ l. CountsTaken (length l) (g.D.Store.counts c.args.store.now) (g.D.Store.counts c.read_file.new.store)) (sym read) c.in-Ok.ensures.taken)
    c.in-Err-decode.ensures.place c.in-Err-decode.ensures.only)
