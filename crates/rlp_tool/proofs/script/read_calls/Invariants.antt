use Rattle.std.proofs.Common.{◌≡◌}
use Rattle.rlp_tool.specs.{Pieces.{left_len, pieces_left}, Script.{calls_in, prepend, script}, StreamCalls.calls_of_bytes}
use Rattle.rlp_tool.proofs.script.read_calls.Given as goal

-- the pieces so far are the calls, and those that are left decide
abbrev pub invariant-loop-left : goal.invariant-loop-left
invariant-loop-left l = script l.text ≡ prepend (calls_of_bytes l.calls.items) (calls_in (pieces_left l.left))

abbrev pub decreases-loop-left : goal.decreases-loop-left
decreases-loop-left l = left_len l.left
