-- What a fault prints.
use Rattle.std.specs.Prelude.{ℕ, List, ◌++◌, codes, Option, Some, None}
use Rattle.rlp_reading.specs.Views.Text.{error_name}
use Rattle.rlp_stream.specs.{declared.fault.ReadFault.ReadFault, declared.fault.ReadFault.TheVariants.{Io, TooLong, Truncated, Faulty, OutOfMemory}}

-- the printed text of a fault; nothing is said of the text of a reader's own fault
abbrev pub read_fault_text : ReadFault → Option (List ℕ)
read_fault_text (Io e) = None
read_fault_text TooLong = Some (codes "TooLong")
read_fault_text Truncated = Some (codes "Truncated")
read_fault_text (Faulty e) = Some (codes "Faulty(" ++ error_name e ++ codes ")")
read_fault_text OutOfMemory = Some (codes "OutOfMemory")
