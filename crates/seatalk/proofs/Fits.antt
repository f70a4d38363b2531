-- The fields of a message in range have 32 bits with their signs.
use Rattle.std.specs.Prelude.{Ok}
use mathlib.Core.Path.{◌≡◌}
use mathlib.Core.Bool.{Bool, true}
use mathlib.Core.List.{[], ◌∷◌}
use Prim.Native.Nat.{ℕ, ◌<◌}
use native.Mathlib.Omega.{arith}
use borrow.Author.Tests.{leb-true}
use lib.IntN.{ℤ, pos, negsuc, neg_ℤ}
use lib.Signed.{le_z}
use mir.Syntax.{w32}
use mir.Val.{SFits}
use Rattle.number.specs.Word.{num}
use Rattle.message.specs.declared.Message.{Message}
use Rattle.message.specs.declared.Message.TheVariants.{Depth, WindAngle, WindSpeed, Speed, Trip, Total, Logs, Speeds, Water, Lamp, Latitude, Longitude, Ground, Course, Time, Date, Pilot, Key, Heading, Variation, Turn}
use Rattle.message.specs.Fields.{fields_of}
use Rattle.message.specs.Range.{range_of, at_most, from_one, within, and_then}
use Rattle.from_fields.specs.Numbers.{AllFit}
use Rattle.roundtrip_laws.proofs.Limits.{at_most_lem, from_one_lem, inside, both, both_at_most}
use Rattle.roundtrip_laws.proofs.Lists.{num_small}

small : {n : ℕ} → n < 2147483648 → SFits w32 (pos n)
small h = record { sfits = h }

flag : (b : Bool) → SFits w32 (pos (num b))
flag b = record { sfits = omega (arith, num_small b) }

bounded : (low high : ℕ) (z : ℤ) → low < 2147483648 → high < 2147483648 → (le_z (negsuc low) z ≡ true) × (le_z z (pos high) ≡ true) → SFits w32 z
bounded low high (pos n) l h e = record { sfits = omega (arith, leb-true n high e.1) }
bounded low high (negsuc n) l h e = record { sfits = omega (arith, leb-true n low e.0) }

pub fields_fit : (m : Message) → range_of m ≡ (Ok tt) → AllFit (fields_of m)
unfolding range_of fields_of
fields_fit (Depth tenths anchor metric defective deep shallow) r = (small (omega (arith, at_most_lem 1 65535 tenths r)), (flag anchor, (flag metric, (flag defective, (flag deep, (flag shallow, tt))))))
fields_fit (WindAngle halves) r = (small (omega (arith, at_most_lem 1 719 halves r)), tt)
fields_fit (WindSpeed tenths metres) r = (small (omega (arith, at_most_lem 1 1279 tenths r)), (flag metres, tt))
fields_fit (Speed tenths) r = (small (omega (arith, at_most_lem 1 65535 tenths r)), tt)
fields_fit (Trip hundredths) r = (small (omega (arith, at_most_lem 1 1048575 hundredths r)), tt)
fields_fit (Total tenths) r = (small (omega (arith, at_most_lem 1 65535 tenths r)), tt)
fields_fit (Logs total trip) r =
    let parts = both_at_most 1 1048575 total 2 1048575 trip r in
    (small (omega (arith, parts.0)), (small (omega (arith, parts.1)), tt))
fields_fit (Speeds speed average valid stopped mph) r =
    let parts = both_at_most 1 65535 speed 2 65535 average r in
    (small (omega (arith, parts.0)), (small (omega (arith, parts.1)), (flag valid, (flag stopped, (flag mph, tt)))))
fields_fit (Water tenths) r = (bounded 99 65435 tenths (omega arith) (omega arith) (inside 1 (neg_ℤ (pos 100)) (pos 65435) tenths r), tt)
fields_fit (Lamp level) r = (small (omega (arith, at_most_lem 1 3 level r)), tt)
fields_fit (Latitude degrees hundredths south) r =
    let parts = both_at_most 1 90 degrees 2 5999 hundredths r in
    (small (omega (arith, parts.0)), (small (omega (arith, parts.1)), (flag south, tt)))
fields_fit (Longitude degrees hundredths east) r =
    let parts = both_at_most 1 180 degrees 2 5999 hundredths r in
    (small (omega (arith, parts.0)), (small (omega (arith, parts.1)), (flag east, tt)))
fields_fit (Ground tenths) r = (small (omega (arith, at_most_lem 1 65535 tenths r)), tt)
fields_fit (Course halves) r = (small (omega (arith, at_most_lem 1 719 halves r)), tt)
fields_fit (Time hours minutes seconds) r =
    let parts = both (at_most 1 23 hours) (and_then (at_most 2 59 minutes) (at_most 3 59 seconds)) r in
    let later = both_at_most 2 59 minutes 3 59 seconds parts.1 in
    (small (omega (arith, at_most_lem 1 23 hours parts.0)), (small (omega (arith, later.0)), (small (omega (arith, later.1)), tt)))
fields_fit (Date month day year) r =
    let parts = both (from_one 1 12 month) (and_then (from_one 2 31 day) (at_most 3 99 year)) r in
    let later = both (from_one 2 31 day) (at_most 3 99 year) parts.1 in
    (small (omega (arith, from_one_lem 1 12 month parts.0)), (small (omega (arith, from_one_lem 2 31 day later.0)), (small (omega (arith, at_most_lem 3 99 year later.1)), tt)))
fields_fit (Pilot degrees right course auto vane track offCourse windShift rudder s t) r =
    let parts = both (at_most 1 359 degrees) _ r in
    let later = both (at_most 3 719 course) _ parts.1 in
    let last = both (within 9 (neg_ℤ (pos 128)) (pos 127) rudder) _ later.1 in
    let ends = both_at_most 10 255 s 11 255 t last.1 in
    let steered : SFits w32 (pos course) = small (omega (arith, at_most_lem 3 719 course later.0)) in
    let rudders = bounded 127 127 rudder (omega arith) (omega arith) (inside 9 (neg_ℤ (pos 128)) (pos 127) rudder last.0) in
    let tail : AllFit (rudder ∷ pos s ∷ pos t ∷ []) = (rudders, (small (omega (arith, ends.0)), (small (omega (arith, ends.1)), tt))) in
    (small (omega (arith, at_most_lem 1 359 degrees parts.0)), (flag right, (steered, (flag auto, (flag vane, (flag track, (flag offCourse, (flag windShift, tail))))))))
fields_fit (Key source code) r =
    let parts = both_at_most 1 15 source 2 255 code r in
    (small (omega (arith, parts.0)), (small (omega (arith, parts.1)), tt))
fields_fit (Heading halves reference locked) r =
    let parts = both_at_most 1 719 halves 2 719 reference r in
    (small (omega (arith, parts.0)), (small (omega (arith, parts.1)), (flag locked, tt)))
fields_fit (Variation east) r = (bounded 126 128 east (omega arith) (omega arith) (inside 1 (neg_ℤ (pos 127)) (pos 128) east r), tt)
fields_fit (Turn degrees right rudder) r =
    let parts = both (at_most 1 359 degrees) (within 3 (neg_ℤ (pos 128)) (pos 127) rudder) r in
    (small (omega (arith, at_most_lem 1 359 degrees parts.0)), (flag right, (bounded 127 127 rudder (omega arith) (omega arith) (inside 3 (neg_ℤ (pos 128)) (pos 127) rudder parts.1), tt)))
