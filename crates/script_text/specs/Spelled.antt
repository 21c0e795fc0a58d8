-- What a text spells.
use Rattle.std.specs.Prelude.{◌≡◌, Option, Some, None, Result, Ok, Err, ◌⊎◌}
use Rattle.script_text.specs.declared.answer.Refusal.{Refusal}
use Rattle.script_text.specs.declared.answer.Refusal.TheVariants.{Syntax, Memory}
use Rattle.script_text.specs.declared.item.Command.{Command}

-- a command, or why there is none: a limit that it passes, or that no command is spelled so
abbrev pub Spelled : Type 0
Spelled = Result Command Refusal

abbrev pub or_syntax : {A : Type 0} → Option A → Result A Refusal
or_syntax (Some part) = Ok part
or_syntax None = Err Syntax

-- what is spelled by a part, where the part is
abbrev pub then_spelled : {A B : Type 0} → Result A Refusal → (A → Result B Refusal) → Result B Refusal
then_spelled (Ok part) next = next part
then_spelled (Err why) next = Err why

-- the command that is made of a part
abbrev pub spelled_by : {A : Type 0} → (A → Command) → Result A Refusal → Spelled
spelled_by make part = then_spelled part (λ p. Ok (make p))

-- what is read where the bytes spell this: that, or nothing for want of memory
abbrev pub IsReadOf : {A : Type 0} → Result A Refusal → Result A Refusal → Type 0
IsReadOf spelled read = (read ≡ spelled) ⊎ (read ≡ Err Memory)
