use Rattle.rlp.proofs.Streams.Descriptions.{described_once}
use Rattle.rlp.proofs.laws.described.stream_joins_what_is_described.Goals as goal

pub returns-clause-only : goal.returns-clause-only
returns-clause-only c = described_once
