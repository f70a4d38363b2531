-- The writer sets the ignored bits of every message as they are to be written: each byte of its spelling that has such bits
-- is spelled again the same, and one test over all bytes says that such a byte has them so.
use mathlib.Core.Path.{◌≡◌, refl}
use mathlib.Core.Bool.{Bool, true, false, not, ◌||◌}
use Prim.Native.Nat.{ℕ, ◌+◌, ◌*◌, ◌/◌, ◌%◌, ◌<◌}
use native.Mathlib.Omega.{arith}
use lib.Bits.{bit_and}
use lib.Dec.{T, eqb}
use borrow.Author.Tests.{eq-eqb}
use Rattle.number.specs.Word.{num}
use Rattle.number.proofs.Finite.{every, at}
use Rattle.angle.specs.Half.{half_digits}
use Rattle.angle.specs.Degree.{whole_digits}
use Rattle.angle.proofs.Laws.{half_six, whole_six}
use Rattle.message.specs.declared.Message.{Message}
use Rattle.message.specs.declared.Message.TheVariants.{Depth, WindAngle, WindSpeed, Speed, Trip, Total, Logs, Speeds, Water, Lamp, Latitude, Longitude, Ground, Course, Time, Date, Pilot, Key, Heading, Variation, Turn}
use Rattle.message.specs.Fields.{kind_of}
use Rattle.message.specs.Spelling.{bytes_of, top_digit}
use Rattle.roundtrip_laws.specs.Ignored.{ignored, as_written}
use Rattle.roundtrip_laws.proofs.Lists.{num_small}

is_true : (b : Bool) → T b → b ≡ true
is_true true t = refl
is_true false t = absurd t

-- one test over all bytes: a byte that is spelled again the same has the bits under the mask as written
set : (mask written : ℕ) (again : ℕ → ℕ) → T (every 256 (λ b. not (eqb (again b) b) || eqb (bit_and mask b) written))
    → (x : ℕ) → x < 256 → again x ≡ x → eqb (bit_and mask x) written ≡ true
set mask written again t x h e =
    is_true _ (rw (eq-eqb (again x) x e) at (at 256 (λ b. not (eqb (again b) b) || eqb (bit_and mask b) written) t x h))

-- a digit has the high half clear
digit : (x : ℕ) → x < 16 → eqb (bit_and 0xF0 x) 0 ≡ true
digit x h = set 0xF0 0 (λ b. b % 16) tt x (omega arith) (omega arith)

-- six bits have the two above them clear
six : (x : ℕ) → x < 64 → eqb (bit_and 0xC0 x) 0 ≡ true
six x h = set 0xC0 0 (λ b. b % 64) tt x (omega arith) (omega arith)

depth_flags : (anchor metric defective deep shallow : Bool)
    → eqb (bit_and 0x38 (128 * num anchor + 64 * num metric + 4 * num defective + 2 * num deep + num shallow)) 0 ≡ true
depth_flags anchor metric defective deep shallow =
    let a = num_small anchor in
    let m = num_small metric in
    let d = num_small defective in
    let e = num_small deep in
    let s = num_small shallow in
    let yz : ℕ = 128 * num anchor + 64 * num metric + 4 * num defective + 2 * num deep + num shallow in
    set 0x38 0 (λ b. 64 * (b / 64) + b % 8) tt yz (omega arith) (omega arith)

speeds_flags : (valid stopped mph : Bool) → eqb (bit_and 0xBC (64 * num valid + num stopped + 2 * num mph)) 0 ≡ true
speeds_flags valid stopped mph =
    let v = num_small valid in
    let s = num_small stopped in
    let m = num_small mph in
    let de : ℕ = 64 * num valid + num stopped + 2 * num mph in
    set 0xBC 0 (λ b. 64 * (b / 64 % 2) + b % 4) tt de (omega arith) (omega arith)

heading_flag : (locked : Bool) → eqb (bit_and 0xFD (0x20 + 2 * num locked)) 0x20 ≡ true
heading_flag true = refl
heading_flag false = refl

pilot_modes : (auto vane track : Bool) → eqb (bit_and 0xF1 (2 * num auto + 4 * num vane + 8 * num track)) 0 ≡ true
pilot_modes auto vane track =
    let a = num_small auto in
    let v = num_small vane in
    let t = num_small track in
    let z : ℕ = 2 * num auto + 4 * num vane + 8 * num track in
    set 0xF1 0 (λ b. 2 * (b / 2 % 8)) tt z (omega arith) (omega arith)

pilot_alarms : (offCourse windShift : Bool) → eqb (bit_and 0xF3 (4 * num offCourse + 8 * num windShift)) 0 ≡ true
pilot_alarms offCourse windShift =
    let o = num_small offCourse in
    let w = num_small windShift in
    let m : ℕ = 4 * num offCourse + 8 * num windShift in
    set 0xF3 0 (λ b. 4 * (b / 4 % 4)) tt m (omega arith) (omega arith)

pub ignored_set : (m : Message) → as_written (ignored (kind_of m)) (bytes_of m) ≡ true
unfolding ignored kind_of bytes_of
ignored_set (Depth tenths anchor metric defective deep shallow) = rw (depth_flags anchor metric defective deep shallow)
ignored_set (WindAngle halves) = refl
ignored_set (WindSpeed tenths metres) = rw (digit (tenths % 10) (omega arith))
ignored_set (Speed tenths) = refl
ignored_set (Trip hundredths) = rw (digit (top_digit hundredths) (omega arith))
ignored_set (Total tenths) = refl
ignored_set (Logs total trip) = rw (digit (top_digit trip) (omega arith))
ignored_set (Speeds speed average valid stopped mph) = rw (speeds_flags valid stopped mph)
ignored_set (Water tenths) = refl
ignored_set (Lamp level) = rw (digit (4 * (level % 4)) (omega arith))
ignored_set (Latitude degrees hundredths south) = refl
ignored_set (Longitude degrees hundredths east) = refl
ignored_set (Ground tenths) = refl
ignored_set (Course halves) = rw (six (half_digits halves).six (omega (arith, half_six halves)))
ignored_set (Time hours minutes seconds) = refl
ignored_set (Date month day year) = refl
ignored_set (Pilot degrees right course auto vane track offCourse windShift rudder ss tt) =
    rw (pilot_modes auto vane track, pilot_alarms offCourse windShift)
ignored_set (Key source code) = refl
ignored_set (Heading halves reference locked) = rw (heading_flag locked)
ignored_set (Variation east) = refl
ignored_set (Turn degrees right rudder) = rw (six (whole_digits degrees right).six (omega (arith, whole_six degrees right)))
