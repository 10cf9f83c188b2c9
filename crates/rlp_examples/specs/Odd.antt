-- How odd numbers are read.
use Rattle.std.specs.Prelude.{ℕ, ◌%◌, ◌==◌, if◌then◌else◌, false, codes, Result, Ok, Err}
use Rattle.rlp.specs.{Values.Value.number_item, Form.{Fault, Reading, custom, go_on, here, number}}
use Rattle.rlp_examples.specs.declared.odd.Odd.{Odd}

-- an odd number, or the fault of an even number
abbrev pub odd_of : ℕ → Result ℕ Fault
odd_of n = if n % 2 == 0 then Err (custom (codes "even")) else Ok n

-- a number of at most eight bytes that is odd
abbrev pub odd : Reading Odd
odd = record {
  M = ℕ;
  seen = λ (o : Odd). o.0;
  item = number_item;
  read = λ v. go_on ((number 8).reading.read v) (λ n. here (odd_of n));
  takes_memory = false;
  Allocates = λ v. ⊥;
}
