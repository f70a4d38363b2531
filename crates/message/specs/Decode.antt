-- What the bytes of each kind say, letter by letter as rules 4.3 prints them. A field that its bits misspell is refused (4.4).
use Rattle.std.specs.Prelude.{ℕ, ◌+◌, ◌*◌, ◌/◌, ◌%◌, Bool, cond, leb, eqb, pos, neg_ℤ, ◌-ℤ◌, Result, Ok, Err}
use Rattle.std.specs.Int.{w8}
use Rattle.std.proofs.Common.{to_z}
use Rattle.datagram.specs.Refusals.{out_of_range, bad_repeat}
use Rattle.number.specs.Word.{word, bit}
use Rattle.angle.specs.Half.{half_angle}
use Rattle.angle.specs.Degree.{whole_angle, turns_right}
use Rattle.angle.specs.Quarter.{quarter_angle}
use Rattle.message.specs.declared.Message.TheVariants.{Depth, WindAngle, WindSpeed, Speed, Trip, Total, Logs, Speeds, Water, Lamp, Latitude, Longitude, Ground, Course, Time, Date, Pilot, Key, Heading, Variation, Turn}
use Rattle.datagram.specs.declared.Refusal.{Refusal}
use Rattle.message.specs.declared.Message.{Message}

-- the six low bits of VW
abbrev pub six_of : ℕ → ℕ
six_of vw = vw % 64

-- field k is spelled right, or refused
abbrev pub spelled : ℕ → Bool → Result Message Refusal → Result Message Refusal
spelled k right reading = cond right reading (Err (out_of_range k))

-- 00 02 YZ XX XX
abbrev pub depth_of : ℕ → ℕ → ℕ → Result Message Refusal
depth_of yz low high = Ok (Depth (word low high) (bit 128 yz) (bit 64 yz) (bit 4 yz) (bit 2 yz) (bit 1 yz))

-- 10 01 XX YY, the high byte first
abbrev pub wind_angle_of : ℕ → ℕ → Result Message Refusal
wind_angle_of xx yy = Ok (WindAngle (256 * xx + yy))

-- 11 01 XX 0Y, Y 0..9
abbrev pub wind_speed_of : ℕ → ℕ → Result Message Refusal
wind_speed_of xx y = spelled 1 (leb (y % 16) 9) (Ok (WindSpeed (10 * (xx % 128) + y % 16) (bit 128 xx)))

-- 20 01 XX XX
abbrev pub speed_of : ℕ → ℕ → Result Message Refusal
speed_of low high = Ok (Speed (word low high))

-- 21 02 XX XX 0X, the last digit highest
abbrev pub trip_of : ℕ → ℕ → ℕ → Result Message Refusal
trip_of low high x = Ok (Trip (word low high + 65536 * (x % 16)))

-- 22 02 XX XX 00
abbrev pub total_of : ℕ → ℕ → Result Message Refusal
total_of low high = Ok (Total (word low high))

-- 25 Z4 XX YY UU VV AW
abbrev pub logs_of : ℕ → ℕ → ℕ → ℕ → ℕ → ℕ → Result Message Refusal
logs_of z4 xx yy uu vv aw = Ok (Logs (word xx yy + 65536 * (z4 / 16)) (word uu vv + 65536 * (aw % 16)))

-- 26 04 XX XX YY YY DE
abbrev pub speeds_of : ℕ → ℕ → ℕ → ℕ → ℕ → Result Message Refusal
speeds_of xl xh yl yh de = Ok (Speeds (word xl xh) (word yl yh) (bit 64 de) (bit 1 de) (bit 2 de))

-- 27 01 XX XX
abbrev pub water_of : ℕ → ℕ → Result Message Refusal
water_of low high = Ok (Water (pos (word low high) -ℤ pos 100))

-- 30 00 0X, X one of 0, 4, 8, 12
abbrev pub lamp_of : ℕ → Result Message Refusal
lamp_of x = spelled 1 (eqb (x % 4) 0) (Ok (Lamp (x % 16 / 4)))

-- 50 Z2 XX YY YY
abbrev pub latitude_of : ℕ → ℕ → ℕ → Result Message Refusal
latitude_of xx low high = Ok (Latitude xx (word low (high % 128)) (bit 128 high))

-- 51 Z2 XX YY YY
abbrev pub longitude_of : ℕ → ℕ → ℕ → Result Message Refusal
longitude_of xx low high = Ok (Longitude xx (word low (high % 128)) (bit 128 high))

-- 52 01 XX XX
abbrev pub ground_of : ℕ → ℕ → Result Message Refusal
ground_of low high = Ok (Ground (word low high))

-- 53 U0 VW
abbrev pub course_of : ℕ → ℕ → Result Message Refusal
course_of u0 vw = spelled 1 (leb (six_of vw) 44) (Ok (Course (half_angle (u0 / 16) (six_of vw))))

-- 54 T1 RS HH
abbrev pub time_of : ℕ → ℕ → ℕ → Result Message Refusal
time_of t1 rs hh = Ok (Time hh (rs / 4) (rs % 4 * 16 + t1 / 16))

-- 56 M1 DD YY
abbrev pub date_of : ℕ → ℕ → ℕ → Result Message Refusal
date_of m1 dd yy = Ok (Date (m1 / 16) dd yy)

-- 84 U6 VW XY 0Z 0M RR SS TT
abbrev pub pilot_of : ℕ → ℕ → ℕ → ℕ → ℕ → ℕ → ℕ → ℕ → Result Message Refusal
pilot_of u6 vw xy z m rr ss tt =
    spelled 1 (leb (six_of vw) 44)
    (spelled 3 (leb xy 179)
    (Ok (Pilot (whole_angle (u6 / 16) (six_of vw)) (turns_right (u6 / 16)) (quarter_angle (vw / 64) xy)
    (bit 2 z) (bit 4 z) (bit 8 z) (bit 4 m) (bit 8 m) (to_z w8 rr) ss tt)))

-- 86 X1 YY yy, the two summing to 255
abbrev pub key_of : ℕ → ℕ → ℕ → Result Message Refusal
key_of x1 code repeat = cond (eqb (code + repeat) 255) (Ok (Key (x1 / 16) code)) (Err bad_repeat)

-- 89 U2 VW XY 2Z
abbrev pub heading_of : ℕ → ℕ → ℕ → ℕ → Result Message Refusal
heading_of u2 vw xy z =
    spelled 1 (leb (six_of vw) 44)
    (spelled 2 (leb xy 179) (Ok (Heading (half_angle (u2 / 16) (six_of vw)) (quarter_angle (vw / 64) xy) (bit 2 z))))

-- 99 00 XX, minus the signed XX
abbrev pub variation_of : ℕ → Result Message Refusal
variation_of xx = Ok (Variation (neg_ℤ (to_z w8 xx)))

-- 9C U1 VW RR
abbrev pub turn_of : ℕ → ℕ → ℕ → Result Message Refusal
turn_of u1 vw rr =
    spelled 1 (leb (six_of vw) 44)
    (Ok (Turn (whole_angle (u1 / 16) (six_of vw)) (turns_right (u1 / 16)) (to_z w8 rr)))
