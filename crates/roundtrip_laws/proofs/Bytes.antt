-- What the writer gives of any message is a whole datagram of bytes.
use mathlib.Core.Path.{◌≡◌, refl}
use mathlib.Core.Bool.{true}
use Prim.Native.Nat.{◌+◌, ◌*◌, ◌%◌}
use native.Mathlib.Omega.{arith}
use borrow.Author.Tests.{eq-eqb}
use Rattle.datagram.specs.Whole.{whole, all_bytes}
use Rattle.angle.specs.Half.{half_digits}
use Rattle.angle.specs.Degree.{whole_digits}
use Rattle.angle.proofs.Laws.{half_u, half_six, whole_u, whole_six, quarter_most}
use Rattle.message.specs.declared.Message.{Message}
use Rattle.message.specs.declared.Message.TheVariants.{Depth, WindAngle, WindSpeed, Speed, Trip, Total, Logs, Speeds, Water, Lamp, Latitude, Longitude, Ground, Course, Time, Date, Pilot, Key, Heading, Variation, Turn}
use Rattle.message.specs.Spelling.{bytes_of, top_digit}
use Rattle.roundtrip_laws.proofs.Lists.{num_small, Below, below_bytes}

pub whole_datagram : (m : Message) → whole (bytes_of m) ≡ true
unfolding whole bytes_of
whole_datagram (Depth tenths anchor metric defective deep shallow) = refl
whole_datagram (WindAngle halves) = refl
whole_datagram (WindSpeed tenths metres) = refl
whole_datagram (Speed tenths) = refl
whole_datagram (Trip hundredths) = refl
whole_datagram (Total tenths) = refl
whole_datagram (Logs total trip) = eq-eqb 7 (3 + (16 * top_digit total + 4) % 16) (omega arith)
whole_datagram (Speeds speed average valid stopped mph) = refl
whole_datagram (Water tenths) = refl
whole_datagram (Lamp level) = refl
whole_datagram (Latitude degrees hundredths south) = refl
whole_datagram (Longitude degrees hundredths east) = refl
whole_datagram (Ground tenths) = refl
whole_datagram (Course halves) = eq-eqb 3 (3 + (16 * (half_digits halves).u) % 16) (omega arith)
whole_datagram (Time hours minutes seconds) = eq-eqb 4 (3 + (16 * (seconds % 16) + 1) % 16) (omega arith)
whole_datagram (Date month day year) = eq-eqb 4 (3 + (16 * (month % 16) + 1) % 16) (omega arith)
whole_datagram (Pilot degrees right course auto vane track offCourse windShift rudder ss tt) =
    eq-eqb 9 (3 + (16 * (whole_digits degrees right).u + 6) % 16) (omega arith)
whole_datagram (Key source code) = eq-eqb 4 (3 + (16 * (source % 16) + 1) % 16) (omega arith)
whole_datagram (Heading halves reference locked) = eq-eqb 5 (3 + (16 * (half_digits halves).u + 2) % 16) (omega arith)
whole_datagram (Variation east) = refl
whole_datagram (Turn degrees right rudder) = eq-eqb 4 (3 + (16 * (whole_digits degrees right).u + 1) % 16) (omega arith)

below : (m : Message) → Below (bytes_of m)
unfolding bytes_of
below (Depth tenths anchor metric defective deep shallow) =
    omega (arith, num_small anchor, num_small metric, num_small defective, num_small deep, num_small shallow)
below (WindAngle halves) = omega arith
below (WindSpeed tenths metres) = omega (arith, num_small metres)
below (Speed tenths) = omega arith
below (Trip hundredths) = omega arith
below (Total tenths) = omega arith
below (Logs total trip) = omega arith
below (Speeds speed average valid stopped mph) = omega (arith, num_small valid, num_small stopped, num_small mph)
below (Water tenths) = omega arith
below (Lamp level) = omega arith
below (Latitude degrees hundredths south) = omega (arith, num_small south)
below (Longitude degrees hundredths east) = omega (arith, num_small east)
below (Ground tenths) = omega arith
below (Course halves) = omega (arith, half_u halves, half_six halves)
below (Time hours minutes seconds) = omega arith
below (Date month day year) = omega arith
below (Pilot degrees right course auto vane track offCourse windShift rudder ss tt) =
    omega (
      arith,
      whole_u degrees right,
      whole_six degrees right,
      quarter_most course,
      num_small auto,
      num_small vane,
      num_small track,
      num_small offCourse,
      num_small windShift,
    )
below (Key source code) = omega arith
below (Heading halves reference locked) = omega (arith, half_u halves, half_six halves, quarter_most reference, num_small locked)
below (Variation east) = omega arith
below (Turn degrees right rudder) = omega (arith, whole_u degrees right, whole_six degrees right)

pub all_bytes_lem : (m : Message) → all_bytes (bytes_of m) ≡ true
all_bytes_lem m = below_bytes (bytes_of m) (below m)
