-- How each kind is written: the bytes of a message (rules 4.3). A field out of range is cut to the bits that it has on the bus.
use Rattle.std.specs.Prelude.{ℕ, ◌+◌, ◌-◌, ◌*◌, ◌/◌, ◌%◌, Bool, List, [], ◌∷◌, ℤ}
use Rattle.std.specs.Int.{w32}
use Rattle.std.proofs.Common.{of_z}
use Rattle.datagram.specs.Whole.{symbols}
use Rattle.number.specs.Word.{low_byte, high_byte, num}
use Rattle.angle.specs.Half.{half_digits}
use Rattle.angle.specs.Degree.{whole_digits}
use Rattle.angle.specs.Quarter.{quarter_digits}
use Rattle.message.specs.declared.Message.{Message}
use Rattle.message.specs.declared.Message.TheVariants.{Depth, WindAngle, WindSpeed, Speed, Trip, Total, Logs, Speeds, Water, Lamp, Latitude, Longitude, Ground, Course, Time, Date, Pilot, Key, Heading, Variation, Turn}

-- the digit above a word
abbrev pub top_digit : ℕ → ℕ
top_digit n = n / 65536 % 16

-- 00 02 YZ XX XX
abbrev pub depth_bytes : ℕ → Bool → Bool → Bool → Bool → Bool → List ℕ
depth_bytes tenths anchor metric defective deep shallow =
    0x00 ∷ 0x02 ∷ (128 * num anchor + 64 * num metric + 4 * num defective + 2 * num deep + num shallow)
    ∷ low_byte tenths ∷ high_byte tenths ∷ []

-- 10 01 XX YY
abbrev pub wind_angle_bytes : ℕ → List ℕ
wind_angle_bytes halves = 0x10 ∷ 0x01 ∷ high_byte halves ∷ low_byte halves ∷ []

-- 11 01 XX 0Y
abbrev pub wind_speed_bytes : ℕ → Bool → List ℕ
wind_speed_bytes tenths metres = 0x11 ∷ 0x01 ∷ (tenths / 10 % 128 + 128 * num metres) ∷ (tenths % 10) ∷ []

-- 20 01 XX XX
abbrev pub speed_bytes : ℕ → List ℕ
speed_bytes tenths = 0x20 ∷ 0x01 ∷ low_byte tenths ∷ high_byte tenths ∷ []

-- 21 02 XX XX 0X
abbrev pub trip_bytes : ℕ → List ℕ
trip_bytes hundredths = 0x21 ∷ 0x02 ∷ low_byte hundredths ∷ high_byte hundredths ∷ top_digit hundredths ∷ []

-- 22 02 XX XX 00
abbrev pub total_bytes : ℕ → List ℕ
total_bytes tenths = 0x22 ∷ 0x02 ∷ low_byte tenths ∷ high_byte tenths ∷ 0 ∷ []

-- 25 Z4 XX YY UU VV AW
abbrev pub logs_bytes : ℕ → ℕ → List ℕ
logs_bytes total trip =
    0x25 ∷ (16 * top_digit total + 4) ∷ low_byte total ∷ high_byte total ∷ low_byte trip ∷ high_byte trip ∷ top_digit trip ∷ []

-- 26 04 XX XX YY YY DE
abbrev pub speeds_bytes : ℕ → ℕ → Bool → Bool → Bool → List ℕ
speeds_bytes speed average valid stopped mph =
    0x26 ∷ 0x04 ∷ low_byte speed ∷ high_byte speed ∷ low_byte average ∷ high_byte average
    ∷ (64 * num valid + num stopped + 2 * num mph) ∷ []

-- 27 01 XX XX
abbrev pub water_bytes : ℤ → List ℕ
water_bytes tenths = 0x27 ∷ 0x01 ∷ low_byte (of_z w32 tenths + 100) ∷ high_byte (of_z w32 tenths + 100) ∷ []

-- 30 00 0X
abbrev pub lamp_bytes : ℕ → List ℕ
lamp_bytes level = 0x30 ∷ 0x00 ∷ (4 * (level % 4)) ∷ []

-- 50 Z2 XX YY YY, Z written 0
abbrev pub latitude_bytes : ℕ → ℕ → Bool → List ℕ
latitude_bytes degrees hundredths south =
    0x50 ∷ 0x02 ∷ (degrees % 256) ∷ low_byte hundredths ∷ (hundredths / 256 % 128 + 128 * num south) ∷ []

-- 51 Z2 XX YY YY, Z written 0
abbrev pub longitude_bytes : ℕ → ℕ → Bool → List ℕ
longitude_bytes degrees hundredths east =
    0x51 ∷ 0x02 ∷ (degrees % 256) ∷ low_byte hundredths ∷ (hundredths / 256 % 128 + 128 * num east) ∷ []

-- 52 01 XX XX
abbrev pub ground_bytes : ℕ → List ℕ
ground_bytes tenths = 0x52 ∷ 0x01 ∷ low_byte tenths ∷ high_byte tenths ∷ []

-- 53 U0 VW
abbrev pub course_bytes : ℕ → List ℕ
course_bytes halves = 0x53 ∷ (16 * (half_digits halves).u) ∷ (half_digits halves).six ∷ []

-- 54 T1 RS HH
abbrev pub time_bytes : ℕ → ℕ → ℕ → List ℕ
time_bytes hours minutes seconds = 0x54 ∷ (16 * (seconds % 16) + 1) ∷ (4 * (minutes % 64) + seconds / 16 % 4) ∷ (hours % 256) ∷ []

-- 56 M1 DD YY
abbrev pub date_bytes : ℕ → ℕ → ℕ → List ℕ
date_bytes month day year = 0x56 ∷ (16 * (month % 16) + 1) ∷ (day % 256) ∷ (year % 256) ∷ []

-- 84 U6 VW XY 0Z 0M RR SS TT
abbrev pub pilot_bytes : ℕ → Bool → ℕ → Bool → Bool → Bool → Bool → Bool → ℤ → ℕ → ℕ → List ℕ
pilot_bytes degrees right course auto vane track offCourse windShift rudder ss tt =
    0x84 ∷ (16 * (whole_digits degrees right).u + 6) ∷ ((whole_digits degrees right).six + 64 * (quarter_digits course).quarter)
    ∷ (quarter_digits course).xy ∷ (2 * num auto + 4 * num vane + 8 * num track) ∷ (4 * num offCourse + 8 * num windShift)
    ∷ (of_z w32 rudder % 256) ∷ (ss % 256) ∷ (tt % 256) ∷ []

-- 86 X1 YY yy
abbrev pub key_bytes : ℕ → ℕ → List ℕ
key_bytes source code = 0x86 ∷ (16 * (source % 16) + 1) ∷ (code % 256) ∷ (255 - code % 256) ∷ []

-- 89 U2 VW XY 2Z
abbrev pub heading_bytes : ℕ → ℕ → Bool → List ℕ
heading_bytes halves reference locked =
    0x89 ∷ (16 * (half_digits halves).u + 2) ∷ ((half_digits halves).six + 64 * (quarter_digits reference).quarter)
    ∷ (quarter_digits reference).xy
    ∷ (0x20 + 2 * num locked) ∷ []

-- 99 00 XX
abbrev pub variation_bytes : ℤ → List ℕ
variation_bytes east = 0x99 ∷ 0x00 ∷ ((256 - of_z w32 east % 256) % 256) ∷ []

-- 9C U1 VW RR
abbrev pub turn_bytes : ℕ → Bool → ℤ → List ℕ
turn_bytes degrees right rudder =
    0x9C ∷ (16 * (whole_digits degrees right).u + 1) ∷ (whole_digits degrees right).six ∷ (of_z w32 rudder % 256) ∷ []

unfoldable pub bytes_of : Message → List ℕ
bytes_of (Depth tenths anchor metric defective deep shallow) = depth_bytes tenths anchor metric defective deep shallow
bytes_of (WindAngle halves) = wind_angle_bytes halves
bytes_of (WindSpeed tenths metres) = wind_speed_bytes tenths metres
bytes_of (Speed tenths) = speed_bytes tenths
bytes_of (Trip hundredths) = trip_bytes hundredths
bytes_of (Total tenths) = total_bytes tenths
bytes_of (Logs total trip) = logs_bytes total trip
bytes_of (Speeds speed average valid stopped mph) = speeds_bytes speed average valid stopped mph
bytes_of (Water tenths) = water_bytes tenths
bytes_of (Lamp level) = lamp_bytes level
bytes_of (Latitude degrees hundredths south) = latitude_bytes degrees hundredths south
bytes_of (Longitude degrees hundredths east) = longitude_bytes degrees hundredths east
bytes_of (Ground tenths) = ground_bytes tenths
bytes_of (Course halves) = course_bytes halves
bytes_of (Time hours minutes seconds) = time_bytes hours minutes seconds
bytes_of (Date month day year) = date_bytes month day year
bytes_of (Pilot degrees right course auto vane track offCourse windShift rudder ss tt) =
    pilot_bytes degrees right course auto vane track offCourse windShift rudder ss tt
bytes_of (Key source code) = key_bytes source code
bytes_of (Heading halves reference locked) = heading_bytes halves reference locked
bytes_of (Variation east) = variation_bytes east
bytes_of (Turn degrees right rudder) = turn_bytes degrees right rudder

-- a message sounds as the symbols of its bytes
abbrev pub symbols_of : Message → List ℕ
symbols_of m = symbols (bytes_of m)
