-- How the end of a connection is written and read.
use Rattle.std.specs.Prelude.{ℕ, ◌≢◌, ◌<◌, ⊤, ◌⊎◌, Option, Some, refl}
use Rattle.std.proofs.Common.{inl, inr}
use Rattle.rlp.specs.{Codec.{Codec, Fields, newtype, number, optional, struct_of}, Codec.list_or_string}
use Rattle.rlp_p2p.specs.{declared.disconnect.Disconnect.Disconnect, declared.disconnect.Disconnect.TheVariants.{Bare, Listed}}
use Rattle.rlp_p2p.specs.declared.disconnect.DisconnectReason.{DisconnectReason}
use Rattle.rlp_p2p.specs.declared.disconnect.DisconnectReason.TheVariants.{AlreadyConnected, ClientQuitting, IncompatibleVersion, NullIdentity, Other, OwnIdentity, PingTimeout, ProtocolBreach, Requested, SubprotocolError, TcpError, TooManyPeers, UnexpectedIdentity, UselessPeer}

-- the numbers of the reasons in RLPx
abbrev pub reason_number : DisconnectReason → ℕ
reason_number Requested = 0
reason_number TcpError = 1
reason_number ProtocolBreach = 2
reason_number UselessPeer = 3
reason_number TooManyPeers = 4
reason_number AlreadyConnected = 5
reason_number IncompatibleVersion = 6
reason_number NullIdentity = 7
reason_number ClientQuitting = 8
reason_number UnexpectedIdentity = 9
reason_number OwnIdentity = 10
reason_number PingTimeout = 11
reason_number SubprotocolError = 16
reason_number (Other n) = n

-- the reason has its name, unless its number has none
abbrev pub NamedIfPossible : DisconnectReason → Type 0
NamedIfPossible (Other n) = (11 < n) × (n ≢ 16)
NamedIfPossible reason = ⊤

-- the string of its number
abbrev pub reason : Codec DisconnectReason
reason = newtype reason_number (number 1)

-- [reason: P] of RLPx: the one field, which is optional
abbrev pub listed_fields : Fields (Option DisconnectReason)
listed_fields = optional (λ (r : Option DisconnectReason). r) reason

-- the reason in the list, or the reason alone
abbrev pub form : Disconnect → Option DisconnectReason ⊎ DisconnectReason
form (Listed r) = inl r
form (Bare r) = inr r

-- the reason of a disconnect, in a list or alone; an empty list has none
abbrev pub told_reason : Disconnect → Option DisconnectReason
told_reason (Listed r) = r
told_reason (Bare r) = Some r

-- the list of the reason or of nothing, or the string of the reason
abbrev pub disconnect : Codec Disconnect
disconnect = newtype form (list_or_string (struct_of listed_fields) reason (λ r. refl) (λ r. refl))
