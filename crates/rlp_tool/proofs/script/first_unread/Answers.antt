use Rattle.std.proofs.Common.{◌∙◌, ◌++◌, [], ap, arith}
use Rattle.rlp_tool.specs.{Pieces.{piece_call, pieces_left}, Script.{calls_in, prepend}}
use Rattle.rlp_tool.proofs.CutLemmas.{left_some, none_read, one_read, read-next, read-stray}
use Rattle.rlp_tool.proofs.script.first_unread.Goals as goal

pub loop-left-init : goal.loop-left-init
loop-left-init c = record { read = none_read _ _; within = omega arith }

pub loop-left-preserved : goal.loop-left-preserved
loop-left-preserved c = record {
  read = one_read _ _ (piece_call c.in-Some-piece.field-0) _ _ _ (read-next _ c.next_piece.result.1 _ _ _ _ c.in-Some.is c.next_piece.ensures.cut c.in-Some-piece.is c.next_piece.ensures.read)
      c.loop-left.invariant.read;
  within = omega (arith, c.loop-left.invariant.within, c.next_piece.ensures.shorter, left_some c.loop-left.left c.in-Some.rest c.in-Some.is);
}

pub returns-in_default-piece : goal.returns-in_default-piece
returns-in_default-piece c =
    let read = c.loop-left.invariant.read in (
      read.calls,
      read.parts ∙ ap (prepend read.calls) (read-stray _ c.next_piece.result.1 _ _ _ c.in-Some.is c.next_piece.ensures.cut c.in_default-piece.is c.next_piece.ensures.read),
      read.counted,
    )

pub returns : goal.returns
returns c =
    let read = c.loop-left.invariant.read in
    (read.calls ++ [], read.parts ∙ ap (λ o. prepend read.calls (calls_in (pieces_left o))) c.in_default.is)
