-- The calls of a stream for `StreamCall`s.
use Rattle.std.specs.{Prelude.{ℕ, List, map, Vec}, declared.alloc.Global.Global}
use Rattle.rlp.specs.{Format.Encoding.{Item, string, list_of}, Streams.Stream.{Call, append, append_raw, begin_list, begin_unbounded_list, finalize_unbounded_list, clear}}
use Rattle.rlp_tool.specs.{declared.calls.StreamCall.{StreamCall}, declared.calls.StreamCall.TheVariants.{Value, Values, Raw, Begin, BeginUnbounded, Finish, Clear}}

-- the call of a stream, with `item` for the item of a value: a value is appended, and values are appended as their list
abbrev pub call_of : {E : Type 0} → (E → Item) → StreamCall E → Call
call_of item (Value v) = append (item v)
call_of item (Values vs) = append (list_of (map item vs.items))
call_of item (Raw bytes count) = append_raw bytes.items count
call_of item (Begin count) = begin_list count
call_of item BeginUnbounded = begin_unbounded_list
call_of item Finish = finalize_unbounded_list
call_of item Clear = clear

-- the calls of a stream, in order
abbrev pub calls_of : {E : Type 0} → (E → Item) → List (StreamCall E) → List Call
calls_of item calls = map (call_of item) calls

-- the calls of a stream for values that are byte strings, each written as the string of its bytes
abbrev pub call_of_bytes : StreamCall (Vec ℕ Global) → Call
call_of_bytes call = call_of (λ v. string v.items) call

abbrev pub calls_of_bytes : List (StreamCall (Vec ℕ Global)) → List Call
calls_of_bytes calls = map call_of_bytes calls
