use Rattle.std.proofs.Common.{◌≡◌, ◌+◌, ◌≤◌, replicate}
use Rattle.rlp.specs.Streams.Stream.{finalize_unbounded_list}
use Rattle.rlp_tool.specs.{Pieces.{left_len, pieces_left}, Script.{calls_in, prepend}}
use Rattle.rlp_tool.proofs.script.leading_finishes.Given as goal

-- the pieces so far are `e`
abbrev pub invariant-loop-left : goal.invariant-loop-left
invariant-loop-left l = record {
  split : calls_in (pieces_left l.pieces) ≡ prepend (replicate l.count finalize_unbounded_list) (calls_in (pieces_left l.left));
  shorter : l.count + left_len l.left ≤ left_len l.pieces;
}

abbrev pub decreases-loop-left : goal.decreases-loop-left
decreases-loop-left l = left_len l.left
