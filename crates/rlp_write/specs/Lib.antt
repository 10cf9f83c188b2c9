-- streams: their states, and the effect of each call
pub mod Streams
