use Rattle.std.proofs.Common.{◌≡◌, ◌+◌, ◌++◌, ◌∷◌, [], List, Option, Some, length, slice_get, sym, ap, ◌∙◌, slice_set, append_assoc, length-append, arith}
use Rattle.std.specs.Vec.Iter.{into_iter_items}
use Rattle.job_table.specs.Jobs.{put_each}
use Rattle.job_table.specs.declared.table.OpenJob.{OpenJob}
use Rattle.job_table.proofs.Putting.{as-many, none-more, one-more}
use Rattle.job_table.proofs.table.JobTable.put_each.Goals.{in-Some-next, in_default}
use Rattle.job_table.proofs.table.JobTable.put_each.Goals as goal

pub put_at-requires : goal.put_at-requires
put_at-requires g c =
    let at = c.loop-next in
    let rest = into_iter_items c.next.new.self in
    let steps : into_iter_items at.next-iterator ≡ c.in-Some.next ∷ rest = c.in-Some.ensures.steps.0 in
    let whole : at.yielded ++ c.in-Some.next ∷ rest ≡ c.args.nexts.items = ap (λ (l : List (Option g.row.J.Denot)). at.yielded ++ l) (sym steps) ∙ at.invariant.whole in
    let total : length at.yielded + length (c.in-Some.next ∷ rest) ≡ length c.args.nexts.items = sym (length-append at.yielded (c.in-Some.next ∷ rest)) ∙ ap length whole in
    let long = ap length at.invariant.put ∙ as-many c.args.self.now.jobs.items at.yielded in
    let place = at.invariant.at in
    let most = c.requires in
    omega (arith, total, long, place, most)

pub loop-next-preserved : goal.loop-next-preserved
loop-next-preserved g c =
    let at = c.loop-next in
    let olds = c.args.self.now.jobs.items in
    let rest = into_iter_items c.next.new.self in
    let steps : into_iter_items at.next-iterator ≡ c.in-Some.next ∷ rest = c.in-Some.ensures.steps.0 in
    let whole : at.yielded ++ c.in-Some.next ∷ rest ≡ c.args.nexts.items = ap (λ (l : List (Option g.row.J.Denot)). at.yielded ++ l) (sym steps) ∙ at.invariant.whole in
    record {
      whole = append_assoc at.yielded (c.in-Some.next ∷ []) rest ∙ whole;
      left = (let was = at.invariant.left in let gone = c.in-Some.ensures.steps.1 in let short = ap length steps in omega arith);
      at = (let was = at.invariant.at in let more = length-append at.yielded (c.in-Some.next ∷ []) in omega (arith, was, more));
      put = elim c.match-next-2.branch [
        | in-Some-next w ↦
            (let put = w.put_at.ensures in
            let before : OpenJob g.row.J.Denot = record { name = put.0; job = w.put_at.result } in
            let after : OpenJob g.row.J.Denot = record { name = put.0; job = w.in-Some-next.job } in
            let stood : slice_get (put_each olds at.yielded) (length at.yielded) ≡ Some before = sym (λ i. slice_get (at.invariant.put i) (at.invariant.at i)) ∙ put.1.0 in
            ap (λ s. s.jobs.items) w.self-is ∙ put.1.1 ∙ (λ i. slice_set (at.invariant.put i) (at.invariant.at i) after) ∙ sym (one-more w.in-Some-next.job w.put_at.result put.0 olds at.yielded stood)
            ∙ ap (λ (n : Option g.row.J.Denot). put_each olds (at.yielded ++ n ∷ [])) (sym w.in-Some-next.is))
        | in_default w ↦ ap (λ s. s.jobs.items) w.self-is ∙ at.invariant.put ∙ sym (none-more olds at.yielded) ∙ ap (λ (n : Option g.row.J.Denot). put_each olds (at.yielded ++ n ∷ [])) (sym w.in_default.is)
      ];
    }
