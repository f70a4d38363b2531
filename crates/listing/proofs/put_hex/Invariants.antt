-- `put_hex` has put the bytes before the index.
use Rattle.std.proofs.Common.{◌≤◌, length, take}
use Rattle.listing.specs.Text.{Put, spaced_hex}
use Rattle.listing.proofs.put_hex.Given as goal

abbrev pub invariant-loop-b : goal.invariant-loop-b
invariant-loop-b l = (l.b-index ≤ length l.bytes) × Put l.initial.out l.at (spaced_hex (take l.b-index l.bytes)) l.out l.p
