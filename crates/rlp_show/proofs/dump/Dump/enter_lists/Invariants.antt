use Rattle.std.proofs.Common.{◌≡◌, length}
use Rattle.rlp_show.specs.Dump.{enter_lists}
use Rattle.rlp_show.proofs.dump.Dump.enter_lists.Given as goal

-- the lists that come next are those that are left of all
abbrev pub invariant-loop-most : goal.invariant-loop-most
invariant-loop-most l = enter_lists l.bytes (length l.initial.self.rest) l.initial.self ≡ enter_lists l.bytes l.most l.self

abbrev pub decreases-loop-most : goal.decreases-loop-most
decreases-loop-most l = l.most
