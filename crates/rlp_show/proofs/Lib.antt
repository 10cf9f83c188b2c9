-- Lemmas, in a file for each subject.

-- words, items and hashes that are shown
pub mod TextLemmas
pub mod ItemLemmas
pub mod Hashes
-- what bytes give, and lines that are shown
pub mod LineLemmas
