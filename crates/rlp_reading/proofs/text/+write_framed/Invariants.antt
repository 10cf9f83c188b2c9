use Rattle.std.proofs.Common.{◌≡◌, [], ◌++◌, codes, length, map, List, ℕ}
use Rattle.std.specs.{Prelude.{if◌then◌else◌}, Fmt.{IsFlush}}
use Rattle.rlp_reading.specs.{Format.Framing.{items, split}, Views.Buffered.HasPut, Views.Text.{text, separated}}
use Rattle.rlp_reading.proofs.Lemmas.Texts.{separator_after}
use Rattle.rlp_reading.proofs.text.+write_framed.Given as goal

abbrev pub decreases-write_framed : goal.decreases-write_framed
decreases-write_framed g l = length l.framed.now.item.now

-- the first items are put, and the others are those of the rest
abbrev pub invariant-loop-item : goal.invariant-loop-item
invariant-loop-item g l = record {
  done : List (List ℕ);
  all : done ++ split l.items.rest ≡ items l.fn.framed.item.now;
  next_separator : (if l.is_first then [] else codes ", ") ≡ separator_after done;
  put : IsFlush l.initial.f → HasPut g.W.Write.write_str_gives l.initial.f l.initial.buffer (separated (map text done)) l.f l.buffer;
}

abbrev pub decreases-loop-item : goal.decreases-loop-item
decreases-loop-item g l = length l.items.rest
