use Rattle.std.proofs.Common.{◌≡◌, ◌++◌, drop, false, string_bytes}
use Rattle.rlp_show.specs.Json.{camel}
use Rattle.rlp_show.proofs.json.put_camel.Given as goal

-- the rest of the name is left to write
abbrev pub invariant-loop-byte : goal.invariant-loop-byte
invariant-loop-byte l = string_bytes l.out ++ camel l.after (drop l.byte-index l.name) ≡ string_bytes l.fn.out ++ camel false l.name
