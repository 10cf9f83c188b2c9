use Rattle.std.proofs.Common.{◌≢◌, ℕ, ◌-◌, ◌<◌, get_or}
use Rattle.rlp_tool.proofs.script.place_of.Given as goal

-- no such byte so far
abbrev pub invariant-loop-at : goal.invariant-loop-at
invariant-loop-at l = (k : ℕ) → k < l.at → get_or l.text k 0 ≢ l.byte

abbrev pub decreases-loop-at : goal.decreases-loop-at
decreases-loop-at l = 16 - l.at
