-- Why work isn't done and nothing is collected, as a refusal of the command.
use Rattle.planning.specs.declared.collection_refusal.CollectionRefusal.{CollectionRefusal}
use Rattle.planning.specs.declared.collection_refusal.CollectionRefusal.TheVariants as collection
use Rattle.executor.specs.declared.refusal.RunRefusal.{RunRefusal}
use Rattle.executor.specs.declared.refusal.RunRefusal.TheVariants as run
use Rattle.script_text.specs.declared.answer.LimitKind.TheVariants as limit
use Rattle.script_text.specs.declared.answer.Refusal.{Refusal}
use Rattle.script_text.specs.declared.answer.Refusal.TheVariants as refusal

abbrev pub refusal_of : RunRefusal → Refusal
refusal_of run.Overflow = refusal.Overflow
refusal_of run.Machine = refusal.Limit limit.Machine
refusal_of run.Fault = refusal.Fault
refusal_of (run.Damaged file kept found taken) = refusal.Damaged file kept found
refusal_of (run.Unreadable file at taken) = refusal.Unreadable file at
refusal_of run.Memory = refusal.Memory

abbrev pub collection_refusal : CollectionRefusal → Refusal
collection_refusal collection.Commands = refusal.Limit limit.Commands
collection_refusal collection.Memory = refusal.Memory
