use Rattle.std.proofs.Common.{◌≡◌, ◌-◌, ◌+◌, inl, ℕ, List, length, ◌∙◌, arith}
use Rattle.outside_traits.specs.View.{View, Now}
use Rattle.outside_traits.specs.Calls.{Acts, Torn}
use Rattle.outside_traits.specs.Runs.{Touches}
use Rattle.outside_traits.proofs.RunLemmas.{one_call, synced}
use Rattle.gated_log.specs.Logs.{front}
use Rattle.gated_log.specs.Stands.{IsStaged, IsBeforeOrAfter}
use Rattle.gated_log.proofs.Crash.{staged_reads, gate_torn, gate_opened}
use Rattle.gated_log.proofs.log.Log.open_gate.Goals as goal

gate_written : (file end : ℕ) (ps : List (List ℕ)) (body rest : List ℕ) (v0 v1 : View) → end ≡ length (front ps) + 1 → ((x : List ℕ) → Now v0 file x → IsStaged ps body rest x)
    → Acts file (Torn (end - 1) 1) v0 v1 → Touches file (IsBeforeOrAfter ps body) v0 v1
gate_written file end ps body rest v0 v1 end_is staged acts =
    one_call file (IsBeforeOrAfter ps body) (Torn (end - 1) 1) v0 v1 acts
    (λ x now. inl (staged_reads ps body rest x (staged x now)))
    (λ d x now torn. gate_torn ps body rest (end - 1) d x (omega (arith, end_is)) (staged d now) torn)

pub returns-in_err-write-clause-crash : goal.returns-in_err-write-clause-crash
returns-in_err-write-clause-crash g c = λ bodies body rest end_is staged.
    gate_written c.args.self.now.file c.args.self.now.end bodies body rest _ _ end_is staged c.write.ensures.acts

pub returns-in_err-sync-clause-crash : goal.returns-in_err-sync-clause-crash
returns-in_err-sync-clause-crash g c = λ bodies body rest end_is staged.
    synced c.args.self.now.file (IsBeforeOrAfter bodies body) _ _ _
    (gate_written c.args.self.now.file c.args.self.now.end bodies body rest _ _ end_is staged c.write.ensures.acts) c.sync.ensures.acts

pub returns-clause-crash : goal.returns-clause-crash
returns-clause-crash g c = λ bodies body rest end_is staged.
    synced c.args.self.now.file (IsBeforeOrAfter bodies body) _ _ _
    (gate_written c.args.self.now.file c.args.self.now.end bodies body rest _ _ end_is staged c.write.ensures.acts) c.sync.ensures.acts

pub returns-clause-opened : goal.returns-clause-opened
returns-clause-opened g c = λ told bodies body rest end_is staged x now.
    let first = staged _ (g.met.D.Store.reads_outcome c.args.store.now c.args.self.now.file) in
    gate_opened bodies body rest (c.args.self.now.end - 1) _ x (omega (arith, end_is)) first
    (c.in_ok-sync.ensures.stable told x now ∙ c.in_ok-write.ensures.written told)
