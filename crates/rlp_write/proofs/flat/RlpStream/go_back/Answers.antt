use Rattle.rlp_write.proofs.{Streams.Rewinding.stands_back, Streams.FlatBuffer.stands}
use Rattle.rlp_write.proofs.flat.RlpStream.go_back.Goals as goal

pub invariant_of-self : goal.invariant_of-self
invariant_of-self c =
    let now = stands c.self.inside _ c.self.view_is c.self.invariant in
    let grown = c.requires.grown in
    (stands_back grown.0 _ _ _ _ _ now grown.2 c.args.place grown.1 c.requires.awaits _ _ c.truncate.ensures.items (rw c.truncate-2.ensures at c.set_innermost.ensures)).laid

pub returns-clause-back : goal.returns-clause-back
returns-clause-back c =
    λ s at grown.
    let now = stands c.self.inside _ c.self.view_is c.self.invariant in
    (stands_back s _ _ _ _ _ now grown c.args.place at c.requires.awaits _ _ c.truncate.ensures.items (rw c.truncate-2.ensures at c.set_innermost.ensures)).is
