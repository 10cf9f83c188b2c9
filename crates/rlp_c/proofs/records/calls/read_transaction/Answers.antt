use Rattle.std.proofs.Common.{refl, sym}
use Rattle.rlp_c.proofs.RecordAnswers.{first_and_rest, legacy_answer, typed_answer, unknown_answer}
use Rattle.rlp_c.proofs.records.calls.read_transaction.Goals as goal

pub returns-then-begins_as_list : goal.returns-then-begins_as_list
returns-then-begins_as_list c = legacy_answer c.args.bytes.now _ _ _ _ _ _ (sym c.if-begins_as_list.ensures) refl c.read_record.ensures

pub returns-in-Some : goal.returns-in-Some
returns-in-Some c =
    typed_answer c.args.bytes.now _ _ _ _ _ _ _ _ (first_and_rest c.args.bytes.now c.in-len1-up.len_at_least) c.in-Some.list (sym c.in-Some.ensures) refl c.read_record-in-Some.ensures

pub returns-in-None : goal.returns-in-None
returns-in-None c =
    unknown_answer c.args.bytes.now _ _ _ _ _ _ _ _ (first_and_rest c.args.bytes.now c.in-len1-up.len_at_least) (sym c.if-begins_as_list.ensures) (sym c.in-None.ensures) refl refl refl
