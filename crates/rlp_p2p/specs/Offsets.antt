-- Which ids the messages of a capability have on a connection.
use Rattle.std.specs.Prelude.{ℕ, ◌+◌, ◌==◌, ◌&&◌, ◌||◌, not, nat_lt, if◌then◌else◌, Bool, true, List, [], ◌∷◌, map, sum_by, Option, Some, None}
use Rattle.std.specs.{Cmp.Lexicographic.slice_cmp, List.{list_all, list_any}, Ordering.{is_lt, nat_cmp}, Str.bytes_eq, Vec.vec_items}
use Rattle.rlp_p2p.specs.{declared.hello.Capability.Capability, declared.hello.Hello.Hello, declared.offsets.Protocol.Protocol}

-- a capability in a greeting: its name, and its version
pub record Named : Type 0 where
  pub name : List ℕ
  pub version : ℕ

-- a capability that a client speaks: its name, its version, and the number of ids of its messages
pub record Known : Type 0 where
  pub name : List ℕ
  pub version : ℕ
  pub ids : ℕ

abbrev pub named_of : Capability → Named
named_of c = record { name = vec_items c.name; version = c.version }

abbrev pub known_of : Protocol → Known
known_of p = record { name = p.name.now; version = p.version; ids = p.ids }

-- the capabilities in a greeting
abbrev pub offered : Hello → List Named
offered h = map named_of (vec_items h.capabilities)

-- whether a capability has this name and this version
abbrev pub is_named : List ℕ → ℕ → Named → Bool
is_named name version c = (c.version == version) && bytes_eq c.name name

-- whether one of the capabilities has this name and this version
abbrev pub speaks : List Named → List ℕ → ℕ → Bool
speaks theirs name version = list_any (is_named name version) theirs

-- whether both clients have a capability, and it has this name and a higher version
abbrev pub supersedes : List Named → List ℕ → ℕ → Known → Bool
supersedes theirs name version p = nat_lt version p.version && (bytes_eq p.name name && speaks theirs p.name p.version)

-- whether both clients have a capability with this name and a higher version
abbrev pub is_superseded : List Known → List Named → List ℕ → ℕ → Bool
is_superseded ours theirs name version = list_any (supersedes theirs name version) ours

-- whether the peer has a capability with this name and this version too, and no higher version is shared
abbrev pub is_used : List Known → List Named → List ℕ → ℕ → Bool
is_used ours theirs name version = speaks theirs name version && not (is_superseded ours theirs name version)

-- whether a name comes before another in alphabetic order: of two names that begin alike, the one with the lower byte first
abbrev pub comes_before : List ℕ → List ℕ → Bool
comes_before name other = is_lt (slice_cmp nat_cmp name other)

-- the number of ids that a capability takes before the capability of this name
abbrev pub ids_before : List Known → List Named → List ℕ → Known → ℕ
ids_before ours theirs name p = if comes_before p.name name && is_used ours theirs p.name p.version then p.ids else 0

-- the offset of the capability with this name: the ids from 0x10 on are given to the shared capabilities, in alphabetic order of the names
abbrev pub offset_of : List Known → List Named → List ℕ → ℕ
offset_of ours theirs name = 0x10 + sum_by (ids_before ours theirs name) ours

-- the capabilities in the greeting of a client that speaks these capabilities
abbrev pub announced : List Known → List Named
announced ours = map (λ p. record { name = p.name; version = p.version }) ours

-- whether both clients have a capability with this name and this version, and no higher version is shared
abbrev pub is_shared : List Known → List Named → List ℕ → ℕ → Bool
is_shared ours theirs name version = speaks (announced ours) name version && is_used ours theirs name version

-- the offset, if the capability has an offset and it is below 2^8
abbrev pub byte_if : Bool → ℕ → Option ℕ
byte_if used offset = if used && nat_lt offset 0x100 then Some offset else None

-- the offset of the capability with this name and this version, if it is shared and its offset is below 2^8
abbrev pub shared_offset : List Known → List Named → List ℕ → ℕ → Option ℕ
shared_offset ours theirs name version = byte_if (is_shared ours theirs name version) (offset_of ours theirs name)

-- ---- for the law of the two ends of a connection

-- whether a capability has the same name and version as another
abbrev pub is_same : Known → Known → Bool
is_same p q = (q.version == p.version) && bytes_eq q.name p.name

-- whether each name and version is listed once
abbrev pub lists_each_once : List Known → Bool
lists_each_once [] = true
lists_each_once (p ∷ more) = not (list_any (is_same p) more) && lists_each_once more

-- whether clients that speak these capabilities know the same number of ids for each capability that both have
abbrev pub know_same_ids : List Known → List Known → Bool
know_same_ids ours theirs = list_all (λ p. list_all (λ q. not (is_same p q) || (p.ids == q.ids)) theirs) ours
