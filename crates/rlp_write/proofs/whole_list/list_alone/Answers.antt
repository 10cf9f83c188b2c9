use Rattle.std.proofs.Common.{◌≡◌, ◌-◌, length, take, drop, ap, sym, ◌∙◌, arith}
use Rattle.rlp_write.proofs.{Streams.Joined.{alone_written, payload_moved}, Streams.Closings.Follows, whole_list.list_alone.Goals.After-shift}
use Rattle.rlp_write.proofs.whole_list.list_alone.Goals as goal

moved : (c : After-shift) → Follows c.list_header_len-header.result c.advance_mut.new.self.items (drop 1 c.args.bytes.items) c.shift.new.self.items
moved c =
    let b = c.args.bytes.items in
    let same : c.reserve.new.self.items ≡ b = c.reserve.ensures.items ∙ c.new-buffer.ensures.items in
    let size = ap length same in
    let front : take (length b) c.advance_mut.new.self.items ≡ b =
    ap (λ z. take (length z) c.advance_mut.new.self.items) (sym same) ∙ c.advance_mut.ensures.front ∙ same in
    let many : c.saturating_sub-len.result ≡ length b - 1 = omega (arith, c.saturating_sub-len.ensures, c.len.ensures.value, ap length c.new-buffer.ensures.items) in
    payload_moved b c.advance_mut.new.self.items _ _ _ many front
    (omega (arith, c.advance_mut.ensures.len, size, c.len-2.ensures.value, ap length c.new-buffer.ensures.items)) c.shift.ensures.items

pub returns : goal.returns
returns c =
    c.into_bytes.ensures.items
    ∙ alone_written c.args.bytes.items _ _ _ _ _ _ (moved (goal.at.returns c).After-shift)
    (omega (arith, c.saturating_sub-len.ensures, c.len.ensures.value, ap length c.new-buffer.ensures.items))
    c.list_header_len-header.ensures.value c.write_list_header.ensures.begin c.write_list_header.ensures.items
