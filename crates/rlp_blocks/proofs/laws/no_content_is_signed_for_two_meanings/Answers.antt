use Rattle.rlp_blocks.proofs.Contents.{one_content, one_hash}
use Rattle.rlp_blocks.proofs.laws.no_content_is_signed_for_two_meanings.Goals as goal

pub returns-clause-meaning : goal.returns-clause-meaning
returns-clause-meaning c = one_content

pub returns-clause-hashes : goal.returns-clause-hashes
returns-clause-hashes c = one_hash
