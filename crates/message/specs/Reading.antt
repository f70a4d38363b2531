-- Reading any bytes: refusals 3, 4, 5, 6 and 7 in that order, or the message (rules 5.1).
use Rattle.std.specs.Prelude.{ℕ, cond, List, eqb, length, get_or, Result, Option, Ok, Err, Some, None, ⊤}
use Rattle.datagram.specs.Refusals.{not_whole, unknown_command, wrong_length}
use Rattle.datagram.specs.Whole.{whole}
use Rattle.message.specs.declared.Kind.{Kind}
use Rattle.message.specs.declared.Kind.TheVariants.{Depth, WindAngle, WindSpeed, Speed, Trip, Total, Logs, Speeds, Water, Lamp, Latitude, Longitude, Ground, Course, Time, Date, Pilot, Key, Heading, Variation, Turn}
use Rattle.message.specs.declared.Message.{Message}
use Rattle.message.specs.Table.{find_of}
use Rattle.message.specs.Range.{range_of}
use Rattle.message.specs.Decode.{depth_of, wind_angle_of, wind_speed_of, speed_of, trip_of, total_of, logs_of, speeds_of, water_of, lamp_of, latitude_of, longitude_of, ground_of, course_of, time_of, date_of, pilot_of, key_of, heading_of, variation_of, turn_of}
use Rattle.datagram.specs.declared.Refusal.{Refusal}
use Rattle.message.specs.declared.Row.{Row}

-- byte i of a datagram, counted from 0
abbrev pub byte : List ℕ → ℕ → ℕ
byte s i = get_or s i 0

-- what the bytes of a datagram of this kind say
unfoldable pub read_kind : Kind → List ℕ → Result Message Refusal
read_kind Depth s = depth_of (byte s 2) (byte s 3) (byte s 4)
read_kind WindAngle s = wind_angle_of (byte s 2) (byte s 3)
read_kind WindSpeed s = wind_speed_of (byte s 2) (byte s 3)
read_kind Speed s = speed_of (byte s 2) (byte s 3)
read_kind Trip s = trip_of (byte s 2) (byte s 3) (byte s 4)
read_kind Total s = total_of (byte s 2) (byte s 3)
read_kind Logs s = logs_of (byte s 1) (byte s 2) (byte s 3) (byte s 4) (byte s 5) (byte s 6)
read_kind Speeds s = speeds_of (byte s 2) (byte s 3) (byte s 4) (byte s 5) (byte s 6)
read_kind Water s = water_of (byte s 2) (byte s 3)
read_kind Lamp s = lamp_of (byte s 2)
read_kind Latitude s = latitude_of (byte s 2) (byte s 3) (byte s 4)
read_kind Longitude s = longitude_of (byte s 2) (byte s 3) (byte s 4)
read_kind Ground s = ground_of (byte s 2) (byte s 3)
read_kind Course s = course_of (byte s 1) (byte s 2)
read_kind Time s = time_of (byte s 1) (byte s 2) (byte s 3)
read_kind Date s = date_of (byte s 1) (byte s 2) (byte s 3)
read_kind Pilot s = pilot_of (byte s 1) (byte s 2) (byte s 3) (byte s 4) (byte s 5) (byte s 6) (byte s 7) (byte s 8)
read_kind Key s = key_of (byte s 1) (byte s 2) (byte s 3)
read_kind Heading s = heading_of (byte s 1) (byte s 2) (byte s 3) (byte s 4)
read_kind Variation s = variation_of (byte s 2)
read_kind Turn s = turn_of (byte s 1) (byte s 2) (byte s 3)

abbrev pub ruled : Result ⊤ Refusal → Message → Result Message Refusal
ruled (Ok tt) m = Ok m
ruled (Err r) m = Err r

-- what was read stands if its fields are in range
abbrev pub judged : Result Message Refusal → Result Message Refusal
judged (Ok m) = ruled (range_of m) m
judged (Err r) = Err r

-- a datagram of this kind, which has this length
abbrev pub read_sized : Kind → ℕ → List ℕ → Result Message Refusal
read_sized kind size s = cond (eqb (length s) size) (judged (read_kind kind s)) (Err wrong_length)

-- the datagram by its command's row
abbrev pub read_as : Option Row → List ℕ → Result Message Refusal
read_as None s = Err unknown_command
read_as (Some row) s = read_sized row.kind row.length s

unfoldable pub read_of : List ℕ → Result Message Refusal
read_of s = cond (whole s) (read_as (find_of (byte s 0)) s) (Err not_whole)
