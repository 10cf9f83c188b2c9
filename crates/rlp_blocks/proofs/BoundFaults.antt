-- Why a block isn't bound, as a fault of its bytes.
use Rattle.std.proofs.lemmas.Slice.Eq.{bytes_eq-Decides}
use Rattle.std.specs.Str.{bytes_eq}
use Rattle.std.proofs.Common.{◌≡◌, true, false, ◌∙◌, ◌⊎◌, ⊎_elim, inl, inr, sym, refl, subst, Some, Result, Ok, Err, IfErr}
use Rattle.rlp_blocks.specs.{BlockFaults.other_body, BoundBlock.{IsEncodingOf, body_fault}}
use Rattle.rlp_blocks.specs.{declared.block.Block.Block, declared.bound.BlockFault.BlockFault, declared.roots.BodyFault.BodyFault}
use Rattle.rlp_blocks.specs.declared.bound.BlockFault.TheVariants.{OtherBody, OutOfMemory}
use Rattle.rlp_blocks.specs.declared.roots.BodyFault.TheVariants as fault
use Rattle.std.specs.Prelude.{IsErrAnd, List, ℕ}

kept : (f : BodyFault) → (f ≡ fault.OutOfMemory) ⊎ (other_body f ≡ OtherBody f)
kept fault.Transactions = inr refl
kept fault.Ommers = inr refl
kept fault.Withdrawals = inr refl
kept fault.NoWithdrawals = inr refl
kept fault.NeedlessWithdrawals = inr refl
kept fault.OutOfMemory = inl refl

module _ (P : BlockFault → Type 0) (memory : P OutOfMemory) (b : Block) (f : BodyFault) (g : BlockFault) (is : g ≡ other_body f) where
  refused : f ≡ fault.OutOfMemory → P g
  refused same = subst P (sym (is ∙ (let other : other_body f ≡ OutOfMemory = cc in other))) memory

  -- what holds of refused memory and of the fault of a body holds of the fault of a block
  pub by_body : (body_fault b ≡ Some f → P (OtherBody f)) → (body_fault b ≡ Some f) ⊎ (f ≡ fault.OutOfMemory) → P g
  by_body differs why =
      ⊎_elim refused (λ other. ⊎_elim (λ found. subst P (sym (is ∙ other)) (differs found)) refused why) (kept f)

-- the same bytes are the encoding of an equal block
pub same_encoding : (d : List ℕ) (b c : Block) → b ≡ c → IsEncodingOf d c → IsEncodingOf d b
same_encoding d b c same is = subst (IsEncodingOf d) (sym same) is

-- the same, where the fault is the error of a result
pub err_by_body : {X : Type 0} (P : BlockFault → Type 0) → P OutOfMemory → (b : Block) (f : BodyFault) (r : Result X BlockFault)
    → IsErrAnd r (λ g. g ≡ other_body f) → (body_fault b ≡ Some f → P (OtherBody f)) → (body_fault b ≡ Some f) ⊎ (f ≡ fault.OutOfMemory) → IfErr r P
err_by_body P memory b f (Ok x) is differs why = tt
err_by_body P memory b f (Err g) is differs why = by_body P memory b f g is differs why

pub err_refused : {X : Type 0} (P : BlockFault → Type 0) → P OutOfMemory → (b : Block) (f : BodyFault) (r : Result X BlockFault)
    → IsErrAnd r (λ g. g ≡ other_body f) → f ≡ fault.OutOfMemory → IfErr r P
err_refused P memory b f (Ok x) is same = tt
err_refused P memory b f (Err g) is same = refused P memory b f g is same

-- bytes that are tested as other bytes differ from them
pub apart : (a b : List ℕ) → bytes_eq a b ≡ false → a ≡ b → ⊥
apart a b is same = let other : bytes_eq a b ≡ true = (bytes_eq-Decides a b).1 same in cc
