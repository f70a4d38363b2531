-- What a sender holds, and when its state is sound (rules 7.3).
use Rattle.std.specs.Prelude.{ℕ, Bool, ◌&&◌, List, take, drop, ◌==◌, nat_le, nat_lt, slice_index}
use Rattle.datagram.specs.Whole.{declared, whole, symbols}
use Rattle.datagram.specs.Padding.{all_zero}
use Rattle.sender.specs.declared.Phase.{Phase}
use Rattle.sender.specs.declared.Phase.TheVariants.{Waiting, Awaiting, Done, GaveUp}
use Rattle.sender.specs.declared.Sender.{Sender}

-- the number of bytes of the datagram, as its second byte declares it
abbrev pub length_of : Sender → ℕ
length_of s = declared (slice_index s.datagram 1)

-- the datagram's bytes, without the zeros past them
abbrev pub bytes_of : Sender → List ℕ
bytes_of s = take (length_of s) s.datagram

-- the symbol at a position of the datagram
abbrev pub symbol_at : Sender → ℕ → ℕ
symbol_at s position = slice_index (symbols (bytes_of s)) position

-- the position and the failures as each phase has them
abbrev pub phase_sound : Phase → ℕ → ℕ → ℕ → ℕ → Bool
phase_sound Waiting position size failures limit = position == 0 && nat_lt failures limit
phase_sound Awaiting position size failures limit = nat_lt position size && nat_lt failures limit
phase_sound Done position size failures limit = position == size && nat_lt failures limit
phase_sound GaveUp position size failures limit = position == 0 && failures == limit

-- the datagram is whole, the bytes past it are 0, the wait is 10..255, the limit 1..50, and the phase is as it should be
unfoldable pub sound : Sender → Bool
sound s =
    whole (bytes_of s)
    && (all_zero (drop (length_of s) s.datagram)
    && ((nat_le 10 s.wait && nat_le s.wait 255)
    && ((nat_le 1 s.limit && nat_le s.limit 50)
    && phase_sound s.phase s.position (length_of s) s.failures s.limit)))
