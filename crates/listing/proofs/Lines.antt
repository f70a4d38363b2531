-- The parts of a line: how long each may be, and what a whole datagram reads as.
use Rattle.std.specs.Prelude.{Result, Option, Ok, Err, Some, None}
use Prim.Native.Nat.{◌≤◌}
use native.Mathlib.Omega.{arith}
use lib.ListN.{length, length-append}
use Rattle.message.specs.declared.Kind.{Kind}
use Rattle.message.specs.declared.Kind.TheVariants as kind
use Rattle.message.specs.declared.Message.{Message}
use Rattle.message.specs.declared.Message.TheVariants.{Depth, WindAngle, WindSpeed, Speed, Trip, Total, Logs, Speeds, Water, Lamp, Latitude, Longitude, Ground, Course, Time, Date, Pilot, Key, Heading, Variation, Turn}
use Rattle.message.specs.Fields.{kind_of, fields_of}
use Rattle.listing.specs.Names.{name_of}
use Rattle.listing.specs.Line.{content_of}
use Rattle.listing.specs.Walk.{stop_text, end_text}
use Rattle.progress.specs.declared.Progress.{Progress}
use Rattle.listing.proofs.Decimal.{decimal_most}
use Rattle.listing.proofs.Spaced.{label_length}
use Rattle.datagram.specs.declared.Refusal.{Refusal}

name_most : (k : Kind) → length (name_of k) ≤ 9
name_most kind.Depth = omega arith
name_most kind.WindAngle = omega arith
name_most kind.WindSpeed = omega arith
name_most kind.Speed = omega arith
name_most kind.Trip = omega arith
name_most kind.Total = omega arith
name_most kind.Logs = omega arith
name_most kind.Speeds = omega arith
name_most kind.Water = omega arith
name_most kind.Lamp = omega arith
name_most kind.Latitude = omega arith
name_most kind.Longitude = omega arith
name_most kind.Ground = omega arith
name_most kind.Course = omega arith
name_most kind.Time = omega arith
name_most kind.Date = omega arith
name_most kind.Pilot = omega arith
name_most kind.Key = omega arith
name_most kind.Heading = omega arith
name_most kind.Variation = omega arith
name_most kind.Turn = omega arith

fields_most : (m : Message) → length (fields_of m) ≤ 11
unfolding fields_of
fields_most (Depth tenths anchor metric defective deep shallow) = omega arith
fields_most (WindAngle halves) = omega arith
fields_most (WindSpeed tenths metres) = omega arith
fields_most (Speed tenths) = omega arith
fields_most (Trip hundredths) = omega arith
fields_most (Total tenths) = omega arith
fields_most (Logs total trip) = omega arith
fields_most (Speeds speed average valid stopped mph) = omega arith
fields_most (Water tenths) = omega arith
fields_most (Lamp level) = omega arith
fields_most (Latitude degrees hundredths south) = omega arith
fields_most (Longitude degrees hundredths east) = omega arith
fields_most (Ground tenths) = omega arith
fields_most (Course halves) = omega arith
fields_most (Time hours minutes seconds) = omega arith
fields_most (Date month day year) = omega arith
fields_most (Pilot degrees right course auto vane track offCourse windShift rudder ss tt) = omega arith
fields_most (Key source code) = omega arith
fields_most (Heading halves reference locked) = omega arith
fields_most (Variation east) = omega arith
fields_most (Turn degrees right rudder) = omega arith

pub content_most : (reading : Result Message Refusal) → length (content_of reading) ≤ 252
content_most (Ok m) =
    omega (arith, label_length (name_of (kind_of m)) (fields_of m), name_most (kind_of m), fields_most m)
content_most (Err r) = omega (arith, decimal_most r.number)

pub stop_most : (stop : Option Refusal) → length (stop_text stop) ≤ 53
stop_most None = omega arith
stop_most (Some r) = simp length-append (omega (arith, decimal_most r.number, decimal_most r.place))

pub end_most : (p : Progress) (stop : Option Refusal) → length (end_text p stop) ≤ 139
end_most p stop =
    simp length-append
    (omega (arith, stop_most stop, decimal_most p.handed, decimal_most p.cancelled, decimal_most p.stray))
