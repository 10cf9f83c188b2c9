use Rattle.std.proofs.Common.{sym}
use Rattle.rlp_tool.proofs.CutLemmas.{cut-nowhere, cut_first}
use Rattle.rlp_tool.proofs.script.first_piece.Goals as goal

pub returns-in-Some-clause-cut : goal.returns-in-Some-clause-cut
returns-in-Some-clause-cut c = cut_first _ _ _ _ c.in-Some.ensures c.split_at.ensures.front c.split_at.ensures.back

pub returns-in-None-clause-cut : goal.returns-in-None-clause-cut
returns-in-None-clause-cut c = cut-nowhere 32 c.args.text.now (sym c.in-None.ensures)
