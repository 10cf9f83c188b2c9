-- What the writing functions leave in the caller's array of bytes.
use Rattle.std.specs.Prelude.{ℕ, ◌≡◌, ◌+◌, ◌-◌, ◌<◌, ◌≤◌, ◌^◌, ◌++◌, min, List, length, take, drop}

-- The array begins with e, which has `count` bytes. Or the array has too few elements, or e is too long for any array; then the array is as it was.
pub data IsWritten (e old new : List ℕ) (old_count count status : ℕ) : Type 0 where
  done : length e ≤ length old → count ≡ length e → new ≡ e ++ drop (length e) old → status ≡ 0 → IsWritten e old new old_count count status
  no_room : length old < length e → count ≡ length e → new ≡ old → status ≡ 13 → IsWritten e old new old_count count status
  too_long : 2 ^ 64 ≤ length e → count ≡ old_count → new ≡ old → status ≡ 10 → IsWritten e old new old_count count status

-- The bytes e are put at the place n, if there is room for them. The place behind them is m, or the greatest number if that is too small for the place.
pub record IsPut (old : List ℕ) (n : ℕ) (e new : List ℕ) (m : ℕ) : Type 0 where
  pub end : m ≡ min (n + length e) (2 ^ 64 - 1)
  pub same_len : length new ≡ length old
  pub filled : n + length e ≤ length old → new ≡ take n old ++ (e ++ drop (n + length e) old)

-- The array begins with the text e, which has `count` bytes. Or the array has too few elements; then it is as it was.
pub data IsTextWritten (e old new : List ℕ) (count status : ℕ) : Type 0 where
  done : length e ≤ length old → count ≡ length e → new ≡ e ++ drop (length e) old → status ≡ 0 → IsTextWritten e old new count status
  no_room : length old < length e → count ≡ min (length e) (2 ^ 64 - 1) → new ≡ old → status ≡ 13 → IsTextWritten e old new count status
