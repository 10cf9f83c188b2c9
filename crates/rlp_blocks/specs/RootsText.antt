-- What is printed of the faults of bodies.
use Rattle.std.specs.Prelude.{ℕ, List, codes}
use Rattle.rlp_blocks.specs.declared.roots.{BodyFault.BodyFault}
use Rattle.rlp_blocks.specs.declared.roots.BodyFault.TheVariants as fault

-- the printed text of a fault: the name of its variant
abbrev pub body_fault_text : BodyFault → List ℕ
body_fault_text fault.Transactions = codes "Transactions"
body_fault_text fault.Ommers = codes "Ommers"
body_fault_text fault.Withdrawals = codes "Withdrawals"
body_fault_text fault.NoWithdrawals = codes "NoWithdrawals"
body_fault_text fault.NeedlessWithdrawals = codes "NeedlessWithdrawals"
body_fault_text fault.OutOfMemory = codes "OutOfMemory"
