pub mod Agreements
pub mod EmptyHashes
pub mod OwnFaults
pub mod StateLemmas
pub mod StateProofLemmas
pub mod Values
