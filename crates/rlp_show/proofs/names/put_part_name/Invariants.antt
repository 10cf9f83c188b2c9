use Rattle.std.proofs.Common.{◌≡◌, string_bytes, length}
use Rattle.rlp_show.specs.Names.{naming}
use Rattle.rlp_show.proofs.names.put_part_name.Given as goal

abbrev pub invariant-loop-index : goal.invariant-loop-index
invariant-loop-index l = naming l.part l.here l.rest (string_bytes l.name) ≡ naming l.fn.part l.fn.item l.fn.path (string_bytes l.fn.name)

abbrev pub decreases-loop-index : goal.decreases-loop-index
decreases-loop-index l = length l.rest
