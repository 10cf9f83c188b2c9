-- The exit status of a program.
use Rattle.std.specs.Prelude.{ℕ, Result, Ok, Err}
use Rattle.rlp_lines.specs.{declared.serving.RunFault.RunFault, declared.serving.RunFault.TheVariants.{Memory, Read, Write}}

-- the exit status after a fault
abbrev pub status_of : RunFault → ℕ
status_of Memory = 1
status_of Read = 2
status_of Write = 3

-- the exit status after a run
abbrev pub exit_status : Result (Unit {0}) RunFault → ℕ
exit_status (Ok end) = 0
exit_status (Err fault) = status_of fault
