use Rattle.std.proofs.Common.{◌≡◌, ◌∙◌, ap, arith, false, refl, rules, sym}
use Rattle.std.specs.Str.{bytes_eq}
use Rattle.rlp_records.specs.Keccak.{keccak256}
use Rattle.rlp_blocks.specs.{BlockFaults.IsFaultFor, Bound.header_bytes, BoundBlock.IsEncodingOf}
use Rattle.rlp_blocks.specs.declared.bound.BlockFault.TheVariants.{OutOfMemory}
use Rattle.rlp_blocks.proofs.{BoundFaults.{apart, err_by_body, err_refused, same_encoding}, BoundLemmas.{header_bytes_same, names_same}}
use Rattle.rlp_blocks.proofs.bound.BoundBlock.of_hash.Goals as goal

pub bound-requires-clause-encoding : goal.bound-requires-clause-encoding
bound-requires-clause-encoding c = record { fits = c.in_ok-block.ensures.whole.0; bytes = c.in_ok-block.ensures.whole.1 }

pub returns-then-ne-clause-fault : goal.returns-then-ne-clause-fault
returns-then-ne-clause-fault c =
    let differ : bytes_eq c.in_ok-block.hashes.header.0 c.args.hash.now.0 ≡ false = grind arith in
    let is : IsEncodingOf c.args.bytes.now c.in_ok-block.block = record { fits = c.in_ok-block.ensures.whole.0; bytes = c.in_ok-block.ensures.whole.1 } in (
      c.in_ok-block.block,
      (is, λ same. apart c.in_ok-block.hashes.header.0 c.args.hash.now.0 differ (c.in_ok-block.ensures.header ∙ sym same)),
    )

pub returns-then-ne-clause-memory : goal.returns-then-ne-clause-memory
returns-then-ne-clause-memory c = λ b bound is named.
    let differ : bytes_eq c.in_ok-block.hashes.header.0 c.args.hash.now.0 ≡ false = grind arith in
    let same = header_bytes_same c.args.bytes.now b c.in_ok-block.block (omega arith) is.bytes c.in_ok-block.ensures.whole.1 in
    absurd (apart c.in_ok-block.hashes.header.0 c.args.hash.now.0 differ (c.in_ok-block.ensures.header ∙ ap keccak256 (sym same) ∙ sym named))

pub returns-in_err-bound-clause-fault : goal.returns-in_err-bound-clause-fault
returns-in_err-bound-clause-fault c =
    let is : IsEncodingOf c.args.bytes.now c.in_ok-block.block = record { fits = c.in_ok-block.ensures.whole.0; bytes = c.in_ok-block.ensures.whole.1 } in
    let equal : c.in_ok-block.hashes.header.0 ≡ c.args.hash.now.0 = search rules in
    let named : c.args.hash.now.0 ≡ keccak256 (header_bytes c.in_ok-block.block) = sym equal ∙ c.in_ok-block.ensures.header in
    err_by_body (λ f. IsFaultFor c.args.hash.now.0 c.args.bytes.now f) tt c.in_ok-block.block c.in_err-bound.field-0.0 c.from_residual-in_err-bound.result
    c.from_residual-in_err-bound.ensures.1 (λ differs. (c.in_ok-block.block, (is, (named, differs)))) c.in_err-bound.ensures.fault

pub returns-in_err-bound-clause-memory : goal.returns-in_err-bound-clause-memory
returns-in_err-bound-clause-memory c = λ b bound is named.
    err_refused (λ f. f ≡ OutOfMemory) refl c.in_ok-block.block c.in_err-bound.field-0.0 c.from_residual-in_err-bound.result
    c.from_residual-in_err-bound.ensures.1
    (c.in_err-bound.ensures.memory (names_same c.args.bytes.now b c.in_ok-block.block (omega arith) is.bytes c.in_ok-block.ensures.whole.1 bound.roots))

pub returns-clause-block : goal.returns-clause-block
returns-clause-block c =
    same_encoding c.args.bytes.now c.in_ok-bound.field-0.block c.in_ok-block.block c.in_ok-bound.ensures.block.0
    (record { fits = c.in_ok-block.ensures.whole.0; bytes = c.in_ok-block.ensures.whole.1 })
