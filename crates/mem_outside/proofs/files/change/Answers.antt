use Rattle.std.proofs.Common.{◌+◌, length, ap, ◌∙◌, arith, rules}
use Rattle.std.proofs.lemmas.List.{length_push}
use Rattle.mem_outside.proofs.Histories.{next_kept, next_shown, next_past}
use Rattle.mem_outside.proofs.files.change.Goals as goal

pub returns-clause-history : goal.returns-clause-history
returns-clause-history c =
    next_kept c.args.history.now.undo.items c.push.new.self.items c.args.history.now.synced c.last_sync-history.result c.number-number.result c.in_ok-earlier.earlier c.args.all
    (record { state = c.args.state; made = c.len-made.result + 1 }) c.args.history.now.versions.entries c.insert.new.self.entries
    (search rules) c.in_ok-earlier.ensures.entries c.number-number.ensures c.last_sync-history.ensures (omega arith) c.requires.history

pub returns-clause-current : goal.returns-clause-current
returns-clause-current c =
    next_shown c.args.history.now.undo.items c.push.new.self.items c.args.history.now.synced c.last_sync-history.result c.number-number.result c.in_ok-earlier.earlier c.args.all
    (record { state = c.args.state; made = c.len-made.result + 1 }) c.args.history.now.versions.entries c.insert.new.self.entries
    (search rules) c.in_ok-earlier.ensures.entries c.number-number.ensures c.last_sync-history.ensures (omega arith) c.requires.history

pub returns-clause-past : goal.returns-clause-past
returns-clause-past c =
    next_past c.args.history.now.undo.items c.push.new.self.items c.args.history.now.synced c.last_sync-history.result c.number-number.result c.in_ok-earlier.earlier c.args.all
    (record { state = c.args.state; made = c.len-made.result + 1 }) c.args.history.now.versions.entries c.insert.new.self.entries
    (search rules) c.in_ok-earlier.ensures.entries c.number-number.ensures c.last_sync-history.ensures (omega arith) c.in_ok-earlier.ensures.old

pub returns-clause-moment : goal.returns-clause-moment
returns-clause-moment c = ap length (returns-clause-past c) ∙ length_push _ _
