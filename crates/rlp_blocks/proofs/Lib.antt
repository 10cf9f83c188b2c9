-- Lemmas. The results of a function are in a folder with its name.

-- the hash of a bound block tells the block
mod BoundLaws
-- what a key signs for one purpose is not signed for another
mod Contents
-- the hashes and the bytes of the items of a list, by the places of the items
mod PlacedHashes
-- roots that don't differ are equal
mod RootsLemmas
-- blocks and the items in their bytes
mod BoundLemmas
-- why a block isn't bound, as a fault of its bytes
mod BoundFaults
