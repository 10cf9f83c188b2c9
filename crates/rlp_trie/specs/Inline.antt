-- Nodes of the trie that are kept in their parents.
use Rattle.std.specs.Prelude.{ℕ, ◌≡◌, ◌≤◌, true, false, List, length}
use Rattle.rlp.specs.{DecoderError.DecoderError, DecoderError.TheVariants.{RlpExpectedToBeList, RlpIsTooBig}, Format.Framing.begins_as_list}

-- Why a raw item isn't a node that is kept in its parent: it is a string, or a list of 32 bytes or more.
pub data IsInlineFault (b : List ℕ) : DecoderError → Type 0 where
  kept_string : begins_as_list b ≡ false → IsInlineFault b RlpExpectedToBeList
  kept_too_long : begins_as_list b ≡ true → 32 ≤ length b → IsInlineFault b RlpIsTooBig

pub ruleset inline_faults = (kept_string, kept_too_long)
