use Rattle.rlp_tool.proofs.CallsLemmas.{script_made, script_stops, script_unread}
use Rattle.rlp_tool.proofs.making.make_script.Goals as goal

pub returns-in-Some-clause-refused : goal.returns-in-Some-clause-refused
returns-in-Some-clause-refused c = script_unread c.args.text.now _ _ _ _ _ c.pieces_of.ensures.all
    (rw c.empty_stream-stream.ensures at c.make_calls-made.ensures.made) _ c.in-Some.ensures

pub returns-in-Ok-clause-ok : goal.returns-in-Ok-clause-ok
returns-in-Ok-clause-ok c = script_made c.args.text.now _ _ _ _ _ c.pieces_of.ensures.all
    (rw c.empty_stream-stream.ensures at c.make_calls-made.ensures.made) _ c.in-Ok.is c.make_calls-made.ensures.ended c.in_default.ensures

pub returns-in-Err-clause-refused : goal.returns-in-Err-clause-refused
returns-in-Err-clause-refused c = script_stops c.args.text.now _ _ _ _ _ c.pieces_of.ensures.all
    (rw c.empty_stream-stream.ensures at c.make_calls-made.ensures.made) _ c.in-Err.is c.in_default.ensures
