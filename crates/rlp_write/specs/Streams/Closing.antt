-- The effect of closing on the bytes of a stream, for all lists that a call closes at once. The placeholders go from the inside out.
use Rattle.std.specs.Prelude.{ℕ, zero, suc, ◌+◌, ◌-◌, if◌then◌else◌, List, [], ◌∷◌, ◌++◌, length, take, drop}
use Rattle.rlp_write.specs.{declared.open_lists.Placeholder.Placeholder, Streams.Stream.{is_last, awaits_after, list_encoding}}
use Rattle.rlp_format.specs.Format.Encoding.{written_header}

-- the number of lists that the count of k items closes
abbrev pub filled : ℕ → List Placeholder → ℕ
filled k [] = 0
filled k (p ∷ ps) = if is_last k p.awaits then suc (filled 1 ps) else 0

-- the lists that are open after k items were counted
abbrev pub counted : ℕ → List Placeholder → List Placeholder
counted k [] = []
counted k (p ∷ ps) = if is_last k p.awaits then counted 1 ps else record p { awaits = awaits_after k p.awaits } ∷ ps

-- The bytes after the n innermost lists were closed. `tail` follows the bytes b and is part of the innermost payload. Closing goes from the inside out: the
-- bytes left of the innermost placeholder belong to the lists around, and the list's encoding follows them.
abbrev pub closed_bytes : ℕ → List ℕ → List ℕ → List Placeholder → List ℕ
closed_bytes zero b tail ps = b ++ tail
closed_bytes (suc n) b tail [] = b ++ tail
closed_bytes (suc n) b tail (p ∷ ps) = closed_bytes n (take p.position b) (list_encoding (drop (p.position + 1) b ++ tail)) ps

-- the length of the header of a list, for the length of its payload
abbrev pub header_len : ℕ → ℕ
header_len len = length (written_header 0xc0 len)

-- The number of bytes by which the buffer grows: each header takes the place of one byte. `tail` more bytes follow the first `end`.
abbrev pub growth : ℕ → ℕ → ℕ → List Placeholder → ℕ
growth zero end tail ps = 0
growth (suc n) end tail [] = 0
growth (suc n) end tail (p ∷ ps) =
    let len : ℕ = (end - (p.position + 1)) + tail in
    (header_len len - 1) + growth n p.position (header_len len + len) ps

-- the number of bytes in front of the n innermost lists, or `end` for n = 0
abbrev pub left_of : ℕ → ℕ → List Placeholder → ℕ
left_of zero end ps = end
left_of (suc n) end [] = end
left_of (suc n) end (p ∷ ps) = left_of n p.position ps

-- The closed size, computed only from the places. The innermost payload ends at `end`, and `more` bytes follow.
abbrev pub closed_len : ℕ → ℕ → ℕ → List Placeholder → ℕ
closed_len start end more [] = (end - start) + more
closed_len start end more (p ∷ ps) =
    let len : ℕ = (end - (p.position + 1)) + more in
    closed_len start p.position (header_len len + len) ps
