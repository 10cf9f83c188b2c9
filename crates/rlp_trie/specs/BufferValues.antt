-- What buffers hold.
use Rattle.std.specs.Prelude.{ℕ, List}
use Rattle.bytes.specs.Filled.{Filled}

-- the bytes of a buffer
abbrev pub buffer_bytes : Filled → List ℕ
buffer_bytes b = b.items
