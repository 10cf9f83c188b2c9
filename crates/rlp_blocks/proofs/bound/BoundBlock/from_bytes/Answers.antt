use Rattle.std.proofs.Common.{◌≡◌, arith, refl}
use Rattle.rlp_blocks.specs.{BlockFaults.IsFaultOf, BoundBlock.IsEncodingOf}
use Rattle.rlp_blocks.specs.declared.bound.BlockFault.TheVariants.{OutOfMemory}
use Rattle.rlp_blocks.proofs.{BoundFaults.{err_by_body, err_refused, same_encoding}, BoundLemmas.names_same}
use Rattle.rlp_blocks.proofs.bound.BoundBlock.from_bytes.Goals as goal

pub bound-requires-clause-encoding : goal.bound-requires-clause-encoding
bound-requires-clause-encoding c = record { fits = c.in_ok-block.ensures.whole.0; bytes = c.in_ok-block.ensures.whole.1 }

pub returns-in_err-bound-clause-fault : goal.returns-in_err-bound-clause-fault
returns-in_err-bound-clause-fault c =
    let is : IsEncodingOf c.args.bytes.now c.in_ok-block.block = record { fits = c.in_ok-block.ensures.whole.0; bytes = c.in_ok-block.ensures.whole.1 } in
    err_by_body (λ f. IsFaultOf c.args.bytes.now f) tt c.in_ok-block.block c.in_err-bound.field-0.0 c.from_residual-in_err-bound.result
    c.from_residual-in_err-bound.ensures.1 (λ differs. (c.in_ok-block.block, (is, differs))) c.in_err-bound.ensures.fault

pub returns-in_err-bound-clause-memory : goal.returns-in_err-bound-clause-memory
returns-in_err-bound-clause-memory c = λ b bound is.
    err_refused (λ f. f ≡ OutOfMemory) refl c.in_ok-block.block c.in_err-bound.field-0.0 c.from_residual-in_err-bound.result
    c.from_residual-in_err-bound.ensures.1
    (c.in_err-bound.ensures.memory (names_same c.args.bytes.now b c.in_ok-block.block (omega arith) is.bytes c.in_ok-block.ensures.whole.1 bound.roots))

pub returns-clause-block : goal.returns-clause-block
returns-clause-block c =
    same_encoding c.args.bytes.now c.in_ok-bound.field-0.block c.in_ok-block.block c.in_ok-bound.ensures.block.0
    (record { fits = c.in_ok-block.ensures.whole.0; bytes = c.in_ok-block.ensures.whole.1 })
