use Rattle.std.proofs.Common.{◌+◌, arith, rules}
use Rattle.rlp_tool.proofs.CutLemmas.{first_near, no_more}
use Rattle.rlp_tool.proofs.script.place_of.Goals as goal

pub returns-then-text-at : goal.returns-then-text-at
returns-then-text-at c = first_near c.args.byte c.args.text.now c.loop-at.at (omega arith) c.loop-at.invariant (search rules)

pub returns-then-text-at-2 : goal.returns-then-text-at-2
returns-then-text-at-2 c =
    let none = no_more c.args.byte c.args.text.now c.loop-at.at c.loop-at.invariant (search rules) in
    first_near c.args.byte c.args.text.now (c.loop-at.at + 1) (omega arith) none (search rules)

pub returns-then-text-at-3 : goal.returns-then-text-at-3
returns-then-text-at-3 c =
    let none = no_more c.args.byte c.args.text.now c.loop-at.at c.loop-at.invariant (search rules) in
    let still = no_more c.args.byte c.args.text.now (c.loop-at.at + 1) none (search rules) in
    first_near c.args.byte c.args.text.now (c.loop-at.at + 2) (omega arith) (λ k lt. still k (omega arith)) (search rules)

pub returns-then-text-at-4 : goal.returns-then-text-at-4
returns-then-text-at-4 c =
    let none = no_more c.args.byte c.args.text.now c.loop-at.at c.loop-at.invariant (search rules) in
    let still = no_more c.args.byte c.args.text.now (c.loop-at.at + 1) none (search rules) in
    let yet = no_more c.args.byte c.args.text.now (c.loop-at.at + 2) (λ k lt. still k (omega arith)) (search rules) in
    first_near c.args.byte c.args.text.now (c.loop-at.at + 3) (omega arith) (λ k lt. yet k (omega arith)) (search rules)
