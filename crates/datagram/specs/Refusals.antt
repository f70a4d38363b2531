-- The refusals of rules 2.1 by name; each number stands here once. The place is the record's offset for a refusal of the
-- recording reader and 0 elsewhere (rules 2.2).
use Rattle.std.specs.Prelude.{ℕ}
use Rattle.datagram.specs.declared.Refusal.{Refusal}

abbrev pub refusal_at : ℕ → ℕ → Refusal
refusal_at n place = record { number = n; place = place }

abbrev pub refusal : ℕ → Refusal
refusal n = refusal_at n 0

-- a symbol is above 511
abbrev pub symbol_above : Refusal
symbol_above = refusal 1

-- a symbol of a record is above 511
abbrev pub symbol_above_at : ℕ → Refusal
symbol_above_at = refusal_at symbol_above.number

-- a listener or sender state is not sound
abbrev pub not_sound : Refusal
not_sound = refusal 2

-- bytes are not a whole datagram
abbrev pub not_whole : Refusal
not_whole = refusal 3

-- the command is not in the table
abbrev pub unknown_command : Refusal
unknown_command = refusal 4

-- the declared length is not that kind's
abbrev pub wrong_length : Refusal
wrong_length = refusal 5

-- a byte and its inverted repeat don't sum to 255
abbrev pub bad_repeat : Refusal
bad_repeat = refusal 6

-- a field is out of range; fields are counted from 1 in table order
abbrev pub out_of_range : ℕ → Refusal
out_of_range field = refusal 7

-- no room for the result in the lent buffer
abbrev pub no_room : Refusal
no_room = refusal 8

-- a wait or an attempt limit is out of range
abbrev pub bad_wait_or_limit : Refusal
bad_wait_or_limit = refusal 9

-- a record lacks its mark
abbrev pub no_mark : ℕ → Refusal
no_mark = refusal_at 10

-- the times and the symbols of a run of records differ in number
abbrev pub different_lengths : Refusal
different_lengths = refusal 11

-- a record is cut short
abbrev pub cut_short : ℕ → Refusal
cut_short = refusal_at different_lengths.number
