use Rattle.std.proofs.{Common.{◌≡◌, ◌∙◌, ◌+◌, ◌∷◌, [], List, Ok, Err, Vec, ℕ, ap, append-nil, arith, length, sym}, lemmas.List.length-map}
use Rattle.std.specs.declared.alloc.Global.{Global}
use Rattle.rlp_tool.specs.{declared.calls.StreamCall.StreamCall, Pieces.{piece_call, pieces_left}, Script.{calls_in, prepend}, StreamCalls.{call_of_bytes, calls_of_bytes}}
use Rattle.rlp_tool.proofs.CutLemmas.{prepend-append, prepend-nil, read-next, read-stray}
use Rattle.rlp_tool.proofs.script.read_calls.Goals as goal

pub loop-left-init : goal.loop-left-init
loop-left-init c =
    let left = calls_in (pieces_left c.pieces_of-left.result) in
    c.pieces_of-left.ensures.all ∙ sym (prepend-nil left)
    ∙ ap (λ (calls : List (StreamCall (Vec ℕ Global))). prepend (calls_of_bytes calls) left) (sym c.new-calls.ensures.items)

pub loop-left-preserved : goal.loop-left-preserved
loop-left-preserved c =
    let old = calls_of_bytes c.loop-left.calls.items in
    let call = piece_call c.in-Some-piece.piece in
    let left = calls_in (pieces_left c.next_piece.result.1) in
    c.loop-left.invariant ∙ ap (prepend old) (read-next _ c.next_piece.result.1 _ _ _ _ c.in-Some.is c.next_piece.ensures.cut c.in-Some-piece.is c.next_piece.ensures.read)
    ∙ sym (prepend-append old (call ∷ []) left) ∙ ap (λ cs. prepend cs left) (sym c.in-Ok.ensures)

pub returns-in_default-piece-clause-refused : goal.returns-in_default-piece-clause-refused
returns-in_default-piece-clause-refused c =
    let old = calls_of_bytes c.loop-left.calls.items in
    let place : length old + 1 ≡ c.len.result + 1 = omega (arith, c.len.ensures, length-map c.loop-left.calls.items call_of_bytes) in
    c.loop-left.invariant
    ∙ ap (prepend old) (read-stray _ c.next_piece.result.1 _ _ _ c.in-Some.is c.next_piece.ensures.cut c.in_default-piece.is c.next_piece.ensures.read)
    ∙ ap (λ (n : ℕ). Err n) place

pub returns-clause-ok : goal.returns-clause-ok
returns-clause-ok c =
    let calls = calls_of_bytes c.loop-left.calls.items in
    c.loop-left.invariant ∙ ap (λ o. prepend calls (calls_in (pieces_left o))) c.in_default.is ∙ ap (λ cs. Ok cs) (append-nil calls)
