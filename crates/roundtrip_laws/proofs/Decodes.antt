-- Each kind says, of the bytes that it is written in, the message that was written.
use Rattle.std.specs.Prelude.{Result, Ok}
use mathlib.Core.Path.{◌≡◌, ap, ap₂, ◌∙◌}
use mathlib.Core.Bool.{Bool, true, false}
use Prim.Native.Nat.{ℕ, ◌+◌, ◌-◌, ◌*◌, ◌/◌, ◌%◌, ◌≤◌, ◌<◌}
use native.Mathlib.Omega.{arith}
use lib.Dec.{leb, eqb}
use lib.IntN.{ℤ, pos, neg_ℤ}
use mir.Syntax.{w32}
use mir.Val.{of_z}
use borrow.Author.Tests.{le-leb, eq-eqb}
use Rattle.number.specs.Word.{word, low_byte, high_byte, bit, num}
use Rattle.angle.specs.Half.{half_angle, half_digits}
use Rattle.angle.specs.Degree.{whole_angle, whole_digits, turns_right}
use Rattle.angle.specs.Quarter.{quarter_angle, quarter_digits}
use Rattle.angle.proofs.Laws.{half_six, half_reads_lem, whole_six, whole_reads_lem, whole_way, quarter_reads}
use Rattle.message.specs.declared.Message.{Message}
use Rattle.message.specs.declared.Message.TheVariants.{Depth, WindAngle, WindSpeed, Speed, Trip, Total, Logs, Speeds, Water, Lamp, Latitude, Longitude, Ground, Course, Time, Date, Pilot, Key, Heading, Variation, Turn}
use Rattle.message.specs.Range.{range_of, at_most, from_one, within, and_then}
use Rattle.message.specs.Spelling.{bytes_of}
use Rattle.message.specs.Decode.{spelled}
use Rattle.message.specs.Reading.{read_kind}
use Rattle.message.specs.Fields.{kind_of}
use Rattle.roundtrip_laws.proofs.Lists.{num_small}
use Rattle.roundtrip_laws.proofs.Limits.{at_most_lem, from_one_lem, inside, both, both_at_most}
use Rattle.roundtrip_laws.proofs.Signs.{water_reads, rudder_reads, variation_reads}
use Rattle.datagram.specs.declared.Refusal.{Refusal}

-- a bit of a byte is the flag that was put there
flag : (n : ℕ) (b : Bool) → n ≡ num b → eqb n 1 ≡ b
flag n true e = eq-eqb n 1 e
flag n false e = rw e

-- a field that is spelled right is read
well : (k : ℕ) (b : Bool) (reading : Result Message Refusal) → b ≡ true → spelled k b reading ≡ reading
well k b reading e = rw e

-- seven bits, and a flag above them
seven : (n : ℕ) (side : Bool) → n < 128 → ((n + 128 * num side) % 128 ≡ n) × (bit 128 (n + 128 * num side) ≡ side)
seven n side h =
    let small = num_small side in
    (omega arith, flag ((n + 128 * num side) / 128 % 2) side (omega arith))

-- degrees and hundredths of a minute, with a flag above the high byte's seven bits
coordinate : (degrees hundredths : ℕ) (side : Bool) → degrees ≤ 180 → hundredths ≤ 5999
    → (degrees % 256 ≡ degrees)
    × (word (low_byte hundredths) ((hundredths / 256 % 128 + 128 * num side) % 128) ≡ hundredths)
    × (bit 128 (hundredths / 256 % 128 + 128 * num side) ≡ side)
coordinate degrees hundredths side d h =
    let high = seven (hundredths / 256 % 128) side (omega arith) in
    (omega arith, omega arith, high.1)

-- six bits below two
six_two : (six two : ℕ) → six < 64 → ((six + 64 * two) % 64 ≡ six) × ((six + 64 * two) / 64 ≡ two)
six_two six two h = omega arith

-- whole degrees of a message in range, by the digit above a datagram's length and the six low bits of VW (9C and 84)
whole : (degrees : ℕ) (right : Bool) (ul vw : ℕ) → degrees ≤ 359
    → ul / 16 ≡ (whole_digits degrees right).u → vw % 64 ≡ (whole_digits degrees right).six
    → (leb (vw % 64) 44 ≡ true) × (whole_angle (ul / 16) (vw % 64) ≡ degrees) × (turns_right (ul / 16) ≡ right)
whole degrees right ul vw h u six = (
  le-leb (vw % 64) 44 (omega (arith, whole_six degrees right)),
  ap₂ whole_angle u six ∙ whole_reads_lem degrees right (omega arith),
  ap turns_right u ∙ whole_way degrees right (omega arith),
)

-- half degrees of a message in range, by the two high bits of VW and XY (89 and 84)
quarter : (halves vw : ℕ) → halves ≤ 719 → vw / 64 ≡ (quarter_digits halves).quarter
    → (leb (quarter_digits halves).xy 179 ≡ true) × (quarter_angle (vw / 64) (quarter_digits halves).xy ≡ halves)
quarter halves vw h e = (
  le-leb (quarter_digits halves).xy 179 (omega arith),
  ap (λ (q : ℕ). quarter_angle q (quarter_digits halves).xy) e ∙ quarter_reads halves (omega arith),
)

pub decodes : (m : Message) → range_of m ≡ (Ok tt) → read_kind (kind_of m) (bytes_of m) ≡ Ok m
unfolding range_of read_kind kind_of bytes_of
decodes (Depth tenths anchor metric defective deep shallow) r =
    let limit = at_most_lem 1 65535 tenths r in
    let a = num_small anchor in
    let m = num_small metric in
    let d = num_small defective in
    let e = num_small deep in
    let s = num_small shallow in
    let yz : ℕ = 128 * num anchor + 64 * num metric + 4 * num defective + 2 * num deep + num shallow in
    let t : word (low_byte tenths) (high_byte tenths) ≡ tenths = omega arith in
    cc (
      flag (yz / 128 % 2) anchor (omega arith),
      flag (yz / 64 % 2) metric (omega arith),
      flag (yz / 4 % 2) defective (omega arith),
      flag (yz / 2 % 2) deep (omega arith),
      flag (yz / 1 % 2) shallow (omega arith),
    )
decodes (WindAngle halves) r = ap (λ (n : ℕ). Ok (WindAngle n)) (omega (arith, at_most_lem 1 719 halves r))
decodes (WindSpeed tenths metres) r =
    let limit = at_most_lem 1 1279 tenths r in
    let high = seven (tenths / 10 % 128) metres (omega arith) in
    let t : 10 * ((tenths / 10 % 128 + 128 * num metres) % 128) + tenths % 10 % 16 ≡ tenths = omega arith in
    well 1 _ _ (le-leb (tenths % 10 % 16) 9 (omega arith)) ∙ cc
decodes (Speed tenths) r = ap (λ (n : ℕ). Ok (Speed n)) (omega (arith, at_most_lem 1 65535 tenths r))
decodes (Trip hundredths) r = ap (λ (n : ℕ). Ok (Trip n)) (omega (arith, at_most_lem 1 1048575 hundredths r))
decodes (Total tenths) r = ap (λ (n : ℕ). Ok (Total n)) (omega (arith, at_most_lem 1 65535 tenths r))
decodes (Logs total trip) r =
    let limits = both_at_most 1 1048575 total 2 1048575 trip r in
    ap₂ (λ (n k : ℕ). Ok (Logs n k)) (omega arith) (omega arith)
decodes (Speeds speed average valid stopped mph) r =
    let limits = both_at_most 1 65535 speed 2 65535 average r in
    let v = num_small valid in
    let p = num_small stopped in
    let m = num_small mph in
    let de : ℕ = 64 * num valid + num stopped + 2 * num mph in
    let s : word (low_byte speed) (high_byte speed) ≡ speed = omega arith in
    let a : word (low_byte average) (high_byte average) ≡ average = omega arith in
    cc (flag (de / 64 % 2) valid (omega arith), flag (de / 1 % 2) stopped (omega arith), flag (de / 2 % 2) mph (omega arith))
decodes (Water tenths) r =
    let ranges = inside 1 (neg_ℤ (pos 100)) (pos 65435) tenths r in
    let n : ℕ = of_z w32 tenths + 100 in
    ap (λ (z : ℤ). Ok (Water z)) (water_reads tenths ranges.0 ranges.1 (word (low_byte n) (high_byte n)) (omega arith))
decodes (Lamp level) r =
    let limit = at_most_lem 1 3 level r in
    well 1 _ _ (eq-eqb (4 * (level % 4) % 4) 0 (omega arith)) ∙ ap (λ (n : ℕ). Ok (Lamp n)) (omega arith)
decodes (Latitude degrees hundredths south) r =
    let limits = both_at_most 1 90 degrees 2 5999 hundredths r in
    let written = coordinate degrees hundredths south (omega arith) limits.1 in
    cc
decodes (Longitude degrees hundredths east) r =
    let limits = both_at_most 1 180 degrees 2 5999 hundredths r in
    let written = coordinate degrees hundredths east limits.0 limits.1 in
    cc
decodes (Ground tenths) r = ap (λ (n : ℕ). Ok (Ground n)) (omega (arith, at_most_lem 1 65535 tenths r))
decodes (Course halves) r =
    let limit = at_most_lem 1 719 halves r in
    let small = half_six halves in
    let u : 16 * (half_digits halves).u / 16 ≡ (half_digits halves).u = omega arith in
    let six : (half_digits halves).six % 64 ≡ (half_digits halves).six = omega arith in
    well 1 _ _ (le-leb ((half_digits halves).six % 64) 44 (omega arith))
    ∙ ap (λ (n : ℕ). Ok (Course n)) (ap₂ half_angle u six ∙ half_reads_lem halves (omega arith))
decodes (Time hours minutes seconds) r =
    let ranges = both (at_most 1 23 hours) (and_then (at_most 2 59 minutes) (at_most 3 59 seconds)) r in
    let limit = at_most_lem 1 23 hours ranges.0 in
    let limits = both_at_most 2 59 minutes 3 59 seconds ranges.1 in
    let rs : ℕ = 4 * (minutes % 64) + seconds / 16 % 4 in
    let h : hours % 256 ≡ hours = omega arith in
    let m : rs / 4 ≡ minutes = omega arith in
    let s : rs % 4 * 16 + (16 * (seconds % 16) + 1) / 16 ≡ seconds = omega arith in
    cc
decodes (Date month day year) r =
    let ranges = both (from_one 1 12 month) (and_then (from_one 2 31 day) (at_most 3 99 year)) r in
    let ranges₂ = both (from_one 2 31 day) (at_most 3 99 year) ranges.1 in
    let limit = from_one_lem 1 12 month ranges.0 in
    let limit₂ = from_one_lem 2 31 day ranges₂.0 in
    let limit₃ = at_most_lem 3 99 year ranges₂.1 in
    let m : (16 * (month % 16) + 1) / 16 ≡ month = omega arith in
    let d : day % 256 ≡ day = omega arith in
    let y : year % 256 ≡ year = omega arith in
    cc
decodes (Pilot degrees right course auto vane track offCourse windShift rudder ss tt) r =
    let ranges = both (at_most 1 359 degrees) _ r in
    let ranges₂ = both (at_most 3 719 course) _ ranges.1 in
    let ranges₃ = both (within 9 (neg_ℤ (pos 128)) (pos 127) rudder) _ ranges₂.1 in
    let limits = both_at_most 10 255 ss 11 255 tt ranges₃.1 in
    let bounds = inside 9 (neg_ℤ (pos 128)) (pos 127) rudder ranges₃.0 in
    let ul : ℕ = 16 * (whole_digits degrees right).u + 6 in
    let vw : ℕ = (whole_digits degrees right).six + 64 * (quarter_digits course).quarter in
    let parts = six_two (whole_digits degrees right).six (quarter_digits course).quarter (omega (arith, whole_six degrees right)) in
    let angle = whole degrees right ul vw (at_most_lem 1 359 degrees ranges.0) (omega arith) parts.0 in
    let steered = quarter course vw (at_most_lem 3 719 course ranges₂.0) parts.1 in
    let a = num_small auto in
    let v = num_small vane in
    let t = num_small track in
    let o = num_small offCourse in
    let w = num_small windShift in
    let z : ℕ = 2 * num auto + 4 * num vane + 8 * num track in
    let m : ℕ = 4 * num offCourse + 8 * num windShift in
    let s : ss % 256 ≡ ss = omega arith in
    let k : tt % 256 ≡ tt = omega arith in
    well 1 _ _ angle.0
    ∙ well 3 _ _ steered.0
    ∙ cc (
      flag (z / 2 % 2) auto (omega arith),
      flag (z / 4 % 2) vane (omega arith),
      flag (z / 8 % 2) track (omega arith),
      flag (m / 4 % 2) offCourse (omega arith),
      flag (m / 8 % 2) windShift (omega arith),
      rudder_reads rudder bounds.0 bounds.1,
    )
decodes (Key source code) r =
    let limits = both_at_most 1 15 source 2 255 code r in
    rw (eq-eqb (code % 256 + (255 - code % 256)) 255 (omega arith))
    (ap₂ (λ (n k : ℕ). Ok (Key n k)) (omega arith) (omega arith))
decodes (Heading halves reference locked) r =
    let limits = both_at_most 1 719 halves 2 719 reference r in
    let small = half_six halves in
    let l = num_small locked in
    let vw : ℕ = (half_digits halves).six + 64 * (quarter_digits reference).quarter in
    let u : (16 * (half_digits halves).u + 2) / 16 ≡ (half_digits halves).u = omega arith in
    let parts = six_two (half_digits halves).six (quarter_digits reference).quarter (omega arith) in
    let steered = quarter reference vw limits.1 parts.1 in
    well 1 _ _ (le-leb (vw % 64) 44 (omega arith))
    ∙ well 2 _ _ steered.0
    ∙ cc (ap₂ half_angle u parts.0 ∙ half_reads_lem halves (omega arith), flag ((0x20 + 2 * num locked) / 2 % 2) locked (omega arith))
decodes (Variation east) r =
    let ranges = inside 1 (neg_ℤ (pos 127)) (pos 128) east r in
    ap (λ (z : ℤ). Ok (Variation z)) (variation_reads east ranges.0 ranges.1)
decodes (Turn degrees right rudder) r =
    let ranges = both (at_most 1 359 degrees) (within 3 (neg_ℤ (pos 128)) (pos 127) rudder) r in
    let bounds = inside 3 (neg_ℤ (pos 128)) (pos 127) rudder ranges.1 in
    let vw : ℕ = (whole_digits degrees right).six in
    let angle = whole degrees right (16 * (whole_digits degrees right).u + 1) vw (at_most_lem 1 359 degrees ranges.0) (omega arith) (omega (arith, whole_six degrees right)) in
    well 1 _ _ angle.0 ∙ cc (rudder_reads rudder bounds.0 bounds.1)
