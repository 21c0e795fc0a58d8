-- Why a journal isn't loaded.
use Rattle.std.specs.Prelude.{ℕ}
use Rattle.gated_log.specs.declared.refusal.LogRefusal.{LogRefusal}
use Rattle.gated_log.specs.declared.refusal.LogRefusal.TheVariants as log_refusal
use Rattle.journal_store.specs.declared.refusal.JournalRefusal.{JournalRefusal}
use Rattle.journal_store.specs.declared.refusal.JournalRefusal.TheVariants.{Fault, NotAStore, Memory}

-- why a log of the journal isn't read, as a reason why the journal isn't loaded
abbrev pub refusal_in : ℕ → LogRefusal → JournalRefusal
refusal_in file log_refusal.Fault = Fault
refusal_in file (log_refusal.NotLog at) = NotAStore file at
refusal_in file log_refusal.Memory = Memory
