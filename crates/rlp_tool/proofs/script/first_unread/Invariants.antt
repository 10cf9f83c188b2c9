use Rattle.std.proofs.Common.{◌+◌, ◌≤◌}
use Rattle.rlp_tool.specs.{Pieces.{left_len, pieces_left}, Script.calls_in}
use Rattle.rlp_tool.proofs.CutLemmas.{AreRead}
use Rattle.rlp_tool.proofs.script.first_unread.Given as goal

-- the pieces so far are calls
abbrev pub invariant-loop-left : goal.invariant-loop-left
invariant-loop-left l = record {
  read : AreRead l.first l.place (calls_in (pieces_left l.pieces)) (calls_in (pieces_left l.left));
  within : l.place + left_len l.left ≤ l.first + left_len l.pieces;
}

abbrev pub decreases-loop-left : goal.decreases-loop-left
decreases-loop-left l = left_len l.left
