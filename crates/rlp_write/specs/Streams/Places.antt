-- The place of a stream: what a call that may fail halfway notes before it begins.
use Rattle.std.specs.Prelude.{length}
use Rattle.rlp_write.specs.{declared.flat.Place.Place, Streams.Stream.{awaited, State, raw_text}}

-- the place of a stream in this state: its numbers of bytes and of open lists, the number of items that the innermost list awaits, and `is_counted`
abbrev pub place_of : State → Place
place_of s = record { len = length (raw_text s); open_count = length s.stack.lists; awaits = awaited s.stack.lists; is_counted = s.is_counted }
