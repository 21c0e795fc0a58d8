use Rattle.std.proofs.Common.{refl, List, ℕ, ◌∙◌, ap, length, take, arith}
use Rattle.std.proofs.lemmas.List.{take_all}
use Rattle.cases_store.proofs.Undamaged.{not_damaged}
use Rattle.cases_store.proofs.crashes.file_after_a_crash.Goals as goal

pub returns-clause-damaged : goal.returns-clause-damaged
returns-clause-damaged c =
    let whole = c.in_ok-write_file.ensures.stable refl _ (c.in-Ok.ensures.image c.args.file) in
    not_damaged c.read_file-read.result _ _ _ (record { reads = _; writes = 0; removes = 0; taken = _ }) (record { reads = _; writes = 0; removes = 0; taken = _ })
    c.digest_of-digest.ensures
    (ap (λ (l : List ℕ). take (length c.args.bytes.now) l) whole ∙ take_all (length c.args.bytes.now) c.args.bytes.now (omega arith))
    c.read_file-read.ensures.cause (c.read_file-read.ensures.found refl)
