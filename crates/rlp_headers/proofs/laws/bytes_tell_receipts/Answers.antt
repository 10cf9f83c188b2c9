use Rattle.rlp_records.proofs.{Bytes.bytes_tell, OtherTypes.any_strings}
use Rattle.rlp_headers.specs.TypedReceipt.{receipt_types}
use Rattle.rlp_headers.proofs.laws.bytes_tell_receipts.Goals as goal

pub returns : goal.returns
returns c = bytes_tell _ _ _ _ _ (any_strings receipt_types) c.args.one.now c.args.other.now
