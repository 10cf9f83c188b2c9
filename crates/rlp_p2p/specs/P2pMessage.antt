-- The messages of `p2p`, and how those that keep a connection are written and read.
use Rattle.std.proofs.Common.{inl, inr}
use Rattle.std.specs.Prelude.{◌⊎◌, refl}
use Rattle.rlp.specs.Codec.{Codec, end, struct_of}
use Rattle.rlp_p2p.specs.{Disconnect.disconnect, Hello.hello, Message.{Bodies, Table, and_message, last_message}}
use Rattle.rlp_p2p.specs.{declared.disconnect.Disconnect.Disconnect, declared.hello.Hello.Hello, declared.p2p_message.P2pMessage.P2pMessage}
use Rattle.rlp_p2p.specs.{declared.p2p_message.Ping.Ping, declared.p2p_message.Pong.Pong}
use Rattle.rlp_p2p.specs.declared.p2p_message.P2pMessage.TheVariants as message

-- [] of RLPx: the list of no items
abbrev pub ping : Codec Ping
ping = struct_of end

-- [] of RLPx: the list of no items
abbrev pub pong : Codec Pong
pong = struct_of end

-- the types of the bodies
abbrev pub P2pBody : Type 0
P2pBody = Hello ⊎ (Disconnect ⊎ (Ping ⊎ Pong))

-- the bodies with their numbers: Hello (0x00), Disconnect (0x01), Ping (0x02) and Pong (0x03) of RLPx
abbrev pub p2p_bodies : Bodies P2pBody
p2p_bodies =
    and_message 0x00 refl hello (
    and_message 0x01 refl disconnect (
    and_message 0x02 refl ping (
    last_message 0x03 refl pong)))

-- the body of a message
abbrev pub p2p_body : P2pMessage → P2pBody
p2p_body (message.Hello m) = inl m
p2p_body (message.Disconnect m) = inr (inl m)
p2p_body (message.Ping m) = inr (inr (inl m))
p2p_body (message.Pong m) = inr (inr (inr m))

-- the messages of p2p
abbrev pub p2p : Table P2pMessage
p2p = record { Body = P2pBody; bodies = p2p_bodies; body = p2p_body }
