-- The range of each field (rules 4.2), and what a message gets for its first field out of range.
use Rattle.std.specs.Prelude.{ℕ, ◌&&◌, cond, leb, ℤ, pos, neg_ℤ, Result, Ok, Err, ⊤}
use Rattle.std.specs.Int.Signed.{le_z}
use Rattle.datagram.specs.Refusals.{out_of_range}
use Rattle.message.specs.declared.Message.{Message}
use Rattle.message.specs.declared.Message.TheVariants.{Depth, WindAngle, WindSpeed, Speed, Trip, Total, Logs, Speeds, Water, Lamp, Latitude, Longitude, Ground, Course, Time, Date, Pilot, Key, Heading, Variation, Turn}
use Rattle.datagram.specs.declared.Refusal.{Refusal}

-- field k, counted from 1, is at most the limit
abbrev pub at_most : ℕ → ℕ → ℕ → Result ⊤ Refusal
at_most k limit n = cond (leb n limit) (Ok tt) (Err (out_of_range k))

-- field k is from 1 to the limit
abbrev pub from_one : ℕ → ℕ → ℕ → Result ⊤ Refusal
from_one k limit n = cond (leb 1 n && leb n limit) (Ok tt) (Err (out_of_range k))

-- field k is signed, from low to high
abbrev pub within : ℕ → ℤ → ℤ → ℤ → Result ⊤ Refusal
within k low high z = cond (le_z low z && le_z z high) (Ok tt) (Err (out_of_range k))

-- the earlier refusal decides
abbrev pub and_then : Result ⊤ Refusal → Result ⊤ Refusal → Result ⊤ Refusal
and_then (Ok tt) later = later
and_then (Err r) later = Err r

unfoldable pub range_of : Message → Result ⊤ Refusal
range_of (Depth tenths anchor metric defective deep shallow) = at_most 1 65535 tenths
range_of (WindAngle halves) = at_most 1 719 halves
range_of (WindSpeed tenths metres) = at_most 1 1279 tenths
range_of (Speed tenths) = at_most 1 65535 tenths
range_of (Trip hundredths) = at_most 1 1048575 hundredths
range_of (Total tenths) = at_most 1 65535 tenths
range_of (Logs total trip) = and_then (at_most 1 1048575 total) (at_most 2 1048575 trip)
range_of (Speeds speed average valid stopped mph) = and_then (at_most 1 65535 speed) (at_most 2 65535 average)
range_of (Water tenths) = within 1 (neg_ℤ (pos 100)) (pos 65435) tenths
range_of (Lamp level) = at_most 1 3 level
range_of (Latitude degrees hundredths south) = and_then (at_most 1 90 degrees) (at_most 2 5999 hundredths)
range_of (Longitude degrees hundredths east) = and_then (at_most 1 180 degrees) (at_most 2 5999 hundredths)
range_of (Ground tenths) = at_most 1 65535 tenths
range_of (Course halves) = at_most 1 719 halves
range_of (Time hours minutes seconds) = and_then (at_most 1 23 hours) (and_then (at_most 2 59 minutes) (at_most 3 59 seconds))
range_of (Date month day year) = and_then (from_one 1 12 month) (and_then (from_one 2 31 day) (at_most 3 99 year))
range_of (Pilot degrees right course auto vane track offCourse windShift rudder ss tt) =
    and_then (at_most 1 359 degrees)
    (and_then (at_most 3 719 course)
    (and_then (within 9 (neg_ℤ (pos 128)) (pos 127) rudder) (and_then (at_most 10 255 ss) (at_most 11 255 tt))))
range_of (Key source code) = and_then (at_most 1 15 source) (at_most 2 255 code)
range_of (Heading halves reference locked) = and_then (at_most 1 719 halves) (at_most 2 719 reference)
range_of (Variation east) = within 1 (neg_ℤ (pos 127)) (pos 128) east
range_of (Turn degrees right rudder) = and_then (at_most 1 359 degrees) (within 3 (neg_ℤ (pos 128)) (pos 127) rudder)
