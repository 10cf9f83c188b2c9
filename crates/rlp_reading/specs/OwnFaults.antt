-- Readings whose faults are all faults of the bytes.
use Rattle.std.specs.Prelude.{ℕ, ◌≢◌, IfErr, List}
use Rattle.rlp_reading.specs.{Form.{FieldsReading, Reading, out_of_memory}, Views.View.View}

-- No view has the fault `OutOfMemory`: if memory isn't refused, a view gives a value, or has a fault of its bytes.
abbrev pub HasOwnFaults : {A : Type 0} → Reading A → Type 0
HasOwnFaults r = (v : View) → IfErr (r.read v).result (λ f. f ≢ out_of_memory)

-- The same for fields: no list of views has the fault `OutOfMemory`.
abbrev pub HaveOwnFaults : {P : Type 0} → FieldsReading P → Type 0
HaveOwnFaults r = (vs : List View) → IfErr (r.read vs).result (λ t. t.1 ≢ out_of_memory)
