-- How the fields that forks added to headers are written and read.
use Rattle.std.specs.Prelude.{refl}
use Rattle.rlp.specs.Codec.{Fields, field, number, optional, optional_group, uint}
use Rattle.rlp_headers.specs.{declared.header.forks.Amsterdam.Amsterdam, declared.header.forks.Cancun.Cancun, declared.header.forks.London.London}
use Rattle.rlp_headers.specs.{declared.header.forks.Prague.Prague, declared.header.forks.Shanghai.Shanghai}
use Rattle.rlp_records.specs.Hash.{hash}

-- the fields since Amsterdam: the field of EIP-7928, and maybe the field of EIP-7843
abbrev pub amsterdam_fields : Fields Amsterdam
amsterdam_fields =
    field (λ (x : Amsterdam). x.block_access_list_hash) hash (
    optional (λ (x : Amsterdam). x.slot_number) (number 8))

-- the fields since Prague: the field of EIP-7685, and the fields above
abbrev pub prague_fields : Fields Prague
prague_fields =
    field (λ (x : Prague). x.requests_hash) hash (
    optional_group (λ (x : Prague). x.since_amsterdam) amsterdam_fields refl)

-- the fields since Cancun: two of EIP-4844, one of EIP-4788, and the fields above
abbrev pub cancun_fields : Fields Cancun
cancun_fields =
    field (λ (x : Cancun). x.blob_gas_used) (number 8) (
    field (λ (x : Cancun). x.excess_blob_gas) (number 8) (
    field (λ (x : Cancun). x.parent_beacon_block_root) hash (
    optional_group (λ (x : Cancun). x.since_prague) prague_fields refl)))

-- the fields since Shanghai: the field of EIP-4895, and the fields above
abbrev pub shanghai_fields : Fields Shanghai
shanghai_fields =
    field (λ (x : Shanghai). x.withdrawals_root) hash (
    optional_group (λ (x : Shanghai). x.since_cancun) cancun_fields refl)

-- the fields since London: the field of EIP-1559, and the fields above
abbrev pub london_fields : Fields London
london_fields =
    field (λ (x : London). x.base_fee_per_gas) (uint 32) (
    optional_group (λ (x : London). x.since_shanghai) shanghai_fields refl)
