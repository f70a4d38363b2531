-- The table of kinds: the row of each message.
use Rattle.std.specs.Prelude.{Some}
use mathlib.Core.Path.{◌≡◌, refl}
use lib.ListN.{length}
use Rattle.message.specs.declared.Row.{Row}
use Rattle.message.specs.declared.Message.{Message}
use Rattle.message.specs.declared.Message.TheVariants.{Depth, WindAngle, WindSpeed, Speed, Trip, Total, Logs, Speeds, Water, Lamp, Latitude, Longitude, Ground, Course, Time, Date, Pilot, Key, Heading, Variation, Turn}
use Rattle.message.specs.Spelling.{bytes_of}
use Rattle.message.specs.Table.{kinds, find_of}
use Rattle.message.specs.Reading.{byte}
use Rattle.message.specs.Fields.{kind_of}

-- a message is written with the command and the length of its kind's row
abbrev pub row_of : Message → Row
row_of m = record { command = byte (bytes_of m) 0; length = length (bytes_of m); kind = kind_of m }

pub finds : (m : Message) → find_of (byte (bytes_of m) 0) ≡ Some (row_of m)
unfolding find_of kinds bytes_of kind_of
finds (Depth tenths anchor metric defective deep shallow) = refl
finds (WindAngle halves) = refl
finds (WindSpeed tenths metres) = refl
finds (Speed tenths) = refl
finds (Trip hundredths) = refl
finds (Total tenths) = refl
finds (Logs total trip) = refl
finds (Speeds speed average valid stopped mph) = refl
finds (Water tenths) = refl
finds (Lamp level) = refl
finds (Latitude degrees hundredths south) = refl
finds (Longitude degrees hundredths east) = refl
finds (Ground tenths) = refl
finds (Course halves) = refl
finds (Time hours minutes seconds) = refl
finds (Date month day year) = refl
finds (Pilot degrees right course auto vane track offCourse windShift rudder ss tt) = refl
finds (Key source code) = refl
finds (Heading halves reference locked) = refl
finds (Variation east) = refl
finds (Turn degrees right rudder) = refl
