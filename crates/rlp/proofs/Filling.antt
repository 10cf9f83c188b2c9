-- for authors of types, passed on
pub use Rattle.rlp_write.proofs.Streams.Filling.{grows_filling, filled_list, encoding_of_list, join_none, join_and, filling}
