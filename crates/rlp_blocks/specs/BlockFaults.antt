-- Why bytes give no bound block, and what is printed of it.
use Rattle.std.specs.Prelude.{ℕ, ◌≡◌, ◌≢◌, ◌++◌, ⊤, List, Some, codes}
use Rattle.rlp.specs.{DecoderError.DecoderError, Form.Faults, Views.Text.error_name, Views.View.strict_view_of}
use Rattle.rlp.specs.DecoderError.TheVariants as error
use Rattle.rlp_records.specs.Keccak.{keccak256}
use Rattle.rlp_blocks.specs.{Block.block, Bound.header_bytes, BoundBlock.{IsEncodingOf, body_fault}, RootsText.body_fault_text}
use Rattle.rlp_blocks.specs.{declared.block.Block.Block, declared.bound.BlockFault.BlockFault, declared.roots.BodyFault.BodyFault}
use Rattle.rlp_blocks.specs.declared.bound.BlockFault.TheVariants.{OtherBody, OtherHash, OutOfMemory, Unread}
use Rattle.rlp_blocks.specs.declared.roots.BodyFault.TheVariants as body_fault_of

-- reading the bytes strictly as a block has this fault, which isn't refused memory
pub record IsUnread (d : List ℕ) (e : DecoderError) : Type 0 where
  pub fault : Faults block.reading (strict_view_of d) e
  pub read : e ≢ error.OutOfMemory

-- the printed text of a fault: the name of its variant, with the fault inside it
abbrev pub block_fault_text : BlockFault → List ℕ
block_fault_text (Unread e) = codes "Unread(" ++ error_name e ++ codes ")"
block_fault_text OtherHash = codes "OtherHash"
block_fault_text (OtherBody f) = codes "OtherBody(" ++ body_fault_text f ++ codes ")"
block_fault_text OutOfMemory = codes "OutOfMemory"

-- the fault of bytes that can't be read, where refused memory is always `OutOfMemory`
abbrev pub unread : DecoderError → BlockFault
unread error.OutOfMemory = OutOfMemory
unread e = Unread e

-- the fault of a body, where refused memory is always `OutOfMemory`
abbrev pub other_body : BodyFault → BlockFault
other_body body_fault_of.OutOfMemory = OutOfMemory
other_body f = OtherBody f

-- Why bytes give no bound block: they aren't the encoding of a block, or are the encoding of a block with another body than its header names, and how it differs.
abbrev pub IsFaultOf : List ℕ → BlockFault → Type 0
IsFaultOf d (Unread e) = IsUnread d e
IsFaultOf d OtherHash = ⊥
IsFaultOf d (OtherBody f) = (b : Block) × (IsEncodingOf d b × (body_fault b ≡ Some f))
IsFaultOf d OutOfMemory = ⊤

-- Why bytes give no bound block with this hash: they aren't the encoding of a block, or the block has another hash, or else another body than its header names.
abbrev pub IsFaultFor : List ℕ → List ℕ → BlockFault → Type 0
IsFaultFor h d (Unread e) = IsUnread d e
IsFaultFor h d OtherHash = (b : Block) × (IsEncodingOf d b × (h ≢ keccak256 (header_bytes b)))
IsFaultFor h d (OtherBody f) = (b : Block) × (IsEncodingOf d b × ((h ≡ keccak256 (header_bytes b)) × (body_fault b ≡ Some f)))
IsFaultFor h d OutOfMemory = ⊤
