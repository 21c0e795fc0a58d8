-- Each tag's own row.
use Rattle.std.proofs.Common.{◌≡◌, sym, subst}
use Rattle.byte_formats.specs.Reading.{Gives}
use Rattle.record_codec.specs.Reading.{change_behind}
use Rattle.record_codec.proofs.reading.change_behind.Goals as goal

pub returns-in-Stream : goal.returns-in-Stream
returns-in-Stream c = subst (λ tag. Gives (λ x. (x.0, x.1.now)) c.stream_at.result (change_behind c.args.form tag c.args.bytes.now)) (sym c.in-Stream.is) c.stream_at.ensures

pub returns-in-Append : goal.returns-in-Append
returns-in-Append c = subst (λ tag. Gives (λ x. (x.0, x.1.now)) c.append_at.result (change_behind c.args.form tag c.args.bytes.now)) (sym c.in-Append.is) c.append_at.ensures

pub returns-in-Work : goal.returns-in-Work
returns-in-Work c = subst (λ tag. Gives (λ x. (x.0, x.1.now)) c.work_at.result (change_behind c.args.form tag c.args.bytes.now)) (sym c.in-Work.is) c.work_at.ensures

pub returns-in-Collect : goal.returns-in-Collect
returns-in-Collect c = subst (λ tag. Gives (λ x. (x.0, x.1.now)) c.collect_at.result (change_behind c.args.form tag c.args.bytes.now)) (sym c.in-Collect.is) c.collect_at.ensures

pub returns-in-Checkpoint : goal.returns-in-Checkpoint
returns-in-Checkpoint c = subst (λ tag. Gives (λ x. (x.0, x.1.now)) c.checkpoint_at.result (change_behind c.args.form tag c.args.bytes.now)) (sym c.in-Checkpoint.is) c.checkpoint_at.ensures
