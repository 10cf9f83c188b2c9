use Rattle.std.proofs.Common.{ap}
use Rattle.rlp_reading.specs.Form.{map_value}
use Rattle.rlp_records.proofs.OtherTypes.{any_strings}
use Rattle.rlp_headers.specs.TypedReceipt.{receipt_types}
use Rattle.rlp_show.specs.Records.{any_receipt_display}
use Rattle.rlp_show.proofs.LineLemmas.{line_answered}
use Rattle.rlp_show.specs.declared.kind.Kind.TheVariants as kind
use Rattle.rlp_show.proofs.laws.receipts_are_shown.Goals as goal

pub returns : goal.returns
returns c = λ r fit short is. line_answered kind.Receipt c.args.line.now _ _ is (ap (map_value any_receipt_display.shown) ((any_strings receipt_types).back r fit short))
