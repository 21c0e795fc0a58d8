-- What ends a run before its first command.
use Rattle.std.specs.Prelude.{◌⊎◌, ⊤}
use Rattle.outside_traits.specs.Counts.{Rose}
use Rattle.outside_traits.specs.View.{Counts}
use Rattle.folder.specs.declared.refusal.LoadRefusal.{LoadRefusal}
use Rattle.folder.specs.declared.refusal.LoadRefusal.TheVariants as refusal
use Rattle.nectar_top.specs.declared.exit.Exit.{Exit}
use Rattle.nectar_top.specs.declared.exit.Exit.TheVariants as exit

-- the exit of a run whose folder isn't loaded
abbrev pub exit_of : LoadRefusal → Exit
exit_of refusal.Fault = exit.StoreFault
exit_of (refusal.NotAStore file at) = exit.NotAStore file at
exit_of refusal.Memory = exit.Memory

-- exits before the script is read
abbrev pub WereNotTaken : Exit → Type 0
WereNotTaken exit.Usage = ⊤
WereNotTaken exit.Memory = ⊤
WereNotTaken (exit.NotAStore file at) = ⊤
WereNotTaken _ = ⊥

-- which count rose where a run ends so while its folder is loaded
abbrev pub HasLoadingCause : Exit → Counts → Counts → Type 0
HasLoadingCause exit.StoreFault old new = Rose old.reads new.reads ⊎ Rose old.writes new.writes
HasLoadingCause exit.Memory old new = ⊤
HasLoadingCause (exit.NotAStore file at) old new = ⊤
HasLoadingCause _ old new = ⊥
