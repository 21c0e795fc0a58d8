use Rattle.std.proofs.Common.{◌≡◌, sym, subst, ◌<◌, List, ◌∷◌, length, arith}
use Rattle.rewrite_core.specs.Files.{FileName}
use Rattle.executor.specs.declared.part.Part.{Part}
use Rattle.executor.specs.Firsts.{IsFirst}
use Rattle.executor.specs.Progress.{files_left, left_in, result_of}
use Rattle.executor.proofs.NextParts.{left_of_next, next_name}
use Rattle.executor.proofs.Updates.{is_within}
use Rattle.executor.proofs.job.Job.next_result.Goals as goal

pub index-requires : goal.index-requires
index-requires c =
    let within : c.next_of-next.result < length c.args.self.now.parts.items =
    is_within files_left c.args.self.now.parts.items c.next_of-next.result (subst (λ (xs : List Part). IsFirst files_left xs c.next_of-next.result) c.as_slice.ensures.value c.next_of-next.ensures) in
    omega (arith, c.args.self.now.parts.ok.0)

pub result_in-requires : goal.result_in-requires
result_in-requires c =
    left_of_next c.args.self.now.parts.items c.next_of-next.result c.index.result.now
    (subst (λ (xs : List Part). IsFirst files_left xs c.next_of-next.result) c.as_slice.ensures.value c.next_of-next.ensures) c.index.ensures

pub returns : goal.returns
returns c =
    next_name c.args.self.now.parts.items c.next_of-next.result c.index.result.now
    (subst (λ (xs : List Part). IsFirst files_left xs c.next_of-next.result) c.as_slice.ensures.value c.next_of-next.ensures) c.index.ensures
    (λ (n : FileName). c.result_in.result ≡ result_of n) c.result_in.ensures
