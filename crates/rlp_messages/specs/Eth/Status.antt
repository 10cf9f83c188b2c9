-- How messages that say what a client knows are written and read.
use Rattle.rlp.specs.Codec.{Codec, byte_array, end, field, newtype, number, struct_of, uint}
use Rattle.rlp_messages.specs.{declared.eth.status.ForkHash.ForkHash, declared.eth.status.ForkId.ForkId, declared.eth.status.Status68.Status68}
use Rattle.rlp_messages.specs.declared.eth.status.Status69.{Status69}
use Rattle.rlp_records.specs.Hash.{hash}

-- the string of its 4 bytes
abbrev pub fork_hash : Codec ForkHash
fork_hash = newtype (λ (f : ForkHash). f.0) (byte_array 4)

-- EIP-2124: [FORK_HASH, FORK_NEXT]
abbrev pub fork_id : Codec ForkId
fork_id = struct_of (
    field (λ (f : ForkId). f.fork_hash) fork_hash (
    field (λ (f : ForkId). f.fork_next) (number 8) end))

-- [version: P, networkid: P, td: P, blockhash: B_32, genesis: B_32, forkid] of eth/68
abbrev pub status68 : Codec Status68
status68 = struct_of (
    field (λ (s : Status68). s.version) (number 8) (
    field (λ (s : Status68). s.network_id) (number 8) (
    field (λ (s : Status68). s.total_difficulty) (uint 32) (
    field (λ (s : Status68). s.block_hash) hash (
    field (λ (s : Status68). s.genesis_hash) hash (
    field (λ (s : Status68). s.fork_id) fork_id end))))))

-- [version, networkid, genesis, forkid, earliestBlock, latestBlock, latestBlockHash] of EIP-7642
abbrev pub status69 : Codec Status69
status69 = struct_of (
    field (λ (s : Status69). s.version) (number 8) (
    field (λ (s : Status69). s.network_id) (number 8) (
    field (λ (s : Status69). s.genesis_hash) hash (
    field (λ (s : Status69). s.fork_id) fork_id (
    field (λ (s : Status69). s.earliest_block) (number 8) (
    field (λ (s : Status69). s.latest_block) (number 8) (
    field (λ (s : Status69). s.latest_block_hash) hash end)))))))
