-- for authors of types, passed on
pub use Rattle.rlp_write.proofs.Streams.Growth.{grows_same, grows_put, grows_in_list, grows_with_list, grows_trans, grows_uncounted, growth}
