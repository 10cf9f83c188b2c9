use Rattle.std.proofs.Common.{◌<◌, ◌^◌, length, arith}
use Rattle.rlp_c.proofs.RecordAnswers.{header_written}
use Rattle.rlp_c.proofs.records.calls.rlp_header_fields.Goals as goal

pub returns-clause-written : goal.returns-clause-written
returns-clause-written c = λ h fit is.
    let short : length c.args.bytes.now < 2 ^ 64 = omega arith in
    header_written _ _ _ _ h c.args.bytes.now short fit is c.read_record.ensures
