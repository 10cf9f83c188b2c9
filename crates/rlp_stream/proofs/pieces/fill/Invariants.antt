-- The first bytes are those from before and what the reader gave.
use Rattle.std.proofs.Common.{◌≤◌, ◌-◌, take, vec_len, vec_items}
use Rattle.rlp_stream.specs.Pieces.{AppendsRead}
use Rattle.rlp_stream.proofs.pieces.fill.Given as goal

abbrev pub invariant-loop-filled : goal.invariant-loop-filled
invariant-loop-filled g l = record {
  within : l.filled ≤ vec_len l.out;
  ends : vec_len l.out ≤ l.end;
  read : AppendsRead (g.R.Read.remaining l.fn.reader) (g.R.Read.remaining l.reader) (vec_items l.fn.out) (take l.filled (vec_items l.out));
}

abbrev pub decreases-loop-filled : goal.decreases-loop-filled
decreases-loop-filled g l = l.end - l.filled
