-- What a listener holds, and when its state is sound or empty (rules 3.1 to 3.3).
use Rattle.std.specs.Prelude.{ℕ, Bool, true, ◌&&◌, cond, List, [], leb, ltb, eqb, length, get_or, take, drop}
use Rattle.datagram.specs.Whole.{declared}
use Rattle.datagram.specs.Padding.{pad_to, all_zero}
use Rattle.listener.specs.declared.Listener.{Listener}

-- the bytes that a state holds
abbrev pub held_bytes : Listener → List ℕ
held_bytes l = take l.held l.bytes

-- the state that holds these bytes, and zeros past them
abbrev pub holding : List ℕ → Listener
holding xs = record { bytes = pad_to 17 xs; held = length xs }

-- the empty state: nothing held
abbrev pub empty_listener : Listener
empty_listener = holding []

-- with two or more held, fewer are held than the second declares
abbrev pub unfinished : Listener → Bool
unfinished l = cond (leb 2 l.held) (ltb l.held (declared (get_or l.bytes 1 0))) true

-- 0 to 17 held, the bytes past those held are 0, and the datagram is not complete
unfoldable pub sound : Listener → Bool
sound l = leb l.held 17 && (all_zero (drop l.held l.bytes) && unfinished l)

-- sound with none held
unfoldable pub empty : Listener → Bool
empty l = sound l && eqb l.held 0
