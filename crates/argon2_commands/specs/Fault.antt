-- How a fault is reported.
use Rattle.std.specs.Prelude.{ℕ, List, [], ◌++◌, codes, ⊤}
use Rattle.argon2_standard.specs.Views.Messages.{message_of}
use Rattle.argon2_commands.specs.declared.fault.Fault.{Fault}
use Rattle.argon2_standard.specs.declared.error.Error.TheVariants.{OutOfMemory}
use Rattle.argon2_commands.specs.declared.fault.Fault.TheVariants.{Usage, Input, Refused, Output, OutputShort}

-- 2 for an error and for lack of memory, 3 for a usage error, 4 if a stream failed for another reason
abbrev pub fault_status : Fault → ℕ
fault_status (Refused error) = 2
fault_status Usage = 3
fault_status Input = 4
fault_status Output = 4
fault_status OutputShort = 2

-- nothing was written before the fault
abbrev pub IsBeforeOutput : Fault → Type 0
IsBeforeOutput (Refused error) = ⊤
IsBeforeOutput Usage = ⊤
IsBeforeOutput Input = ⊤
IsBeforeOutput Output = ⊥
IsBeforeOutput OutputShort = ⊥

-- the line of a fault; where the output cannot be written, none
abbrev pub line_of : Fault → List ℕ
line_of (Refused error) = message_of error ++ codes "\n"
line_of Usage = codes "usage\n"
line_of Input = codes "input\n"
line_of Output = []
line_of OutputShort = message_of OutOfMemory ++ codes "\n"
