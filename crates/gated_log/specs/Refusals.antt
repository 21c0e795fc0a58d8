-- Why a log isn't read.
use Rattle.outside_traits.specs.declared.front.Unread.{Unread}
use Rattle.outside_traits.specs.declared.front.Unread.TheVariants as unread
use Rattle.gated_log.specs.declared.refusal.LogRefusal.{LogRefusal}
use Rattle.gated_log.specs.declared.refusal.LogRefusal.TheVariants.{Fault, Memory}

-- why its bytes weren't read, as a reason why the log isn't
abbrev pub unread_as : Unread → LogRefusal
unread_as unread.Fault = Fault
unread_as unread.Memory = Memory
