-- The numbers of each case of a message (rules 4.2): its kind, its command, and its fields in table order, flags 0 or 1.
use Rattle.std.specs.Prelude.{ℕ, Bool, List, [], ◌∷◌, ℤ, pos}
use Rattle.number.specs.Word.{num}
use Rattle.message.specs.declared.Kind.{Kind}
use Rattle.message.specs.declared.Kind.TheVariants as kind
use Rattle.message.specs.declared.Message.{Message}
use Rattle.message.specs.declared.Message.TheVariants.{Depth, WindAngle, WindSpeed, Speed, Trip, Total, Logs, Speeds, Water, Lamp, Latitude, Longitude, Ground, Course, Time, Date, Pilot, Key, Heading, Variation, Turn}
use Rattle.message.specs.Table.{row_of}

abbrev flag : Bool → ℤ
flag on = pos (num on)

unfoldable pub kind_of : Message → Kind
kind_of (Depth tenths anchor metric defective deep shallow) = kind.Depth
kind_of (WindAngle halves) = kind.WindAngle
kind_of (WindSpeed tenths metres) = kind.WindSpeed
kind_of (Speed tenths) = kind.Speed
kind_of (Trip hundredths) = kind.Trip
kind_of (Total tenths) = kind.Total
kind_of (Logs total trip) = kind.Logs
kind_of (Speeds speed average valid stopped mph) = kind.Speeds
kind_of (Water tenths) = kind.Water
kind_of (Lamp level) = kind.Lamp
kind_of (Latitude degrees hundredths south) = kind.Latitude
kind_of (Longitude degrees hundredths east) = kind.Longitude
kind_of (Ground tenths) = kind.Ground
kind_of (Course halves) = kind.Course
kind_of (Time hours minutes seconds) = kind.Time
kind_of (Date month day year) = kind.Date
kind_of (Pilot degrees right course auto vane track offCourse windShift rudder ss tt) = kind.Pilot
kind_of (Key source code) = kind.Key
kind_of (Heading halves reference locked) = kind.Heading
kind_of (Variation east) = kind.Variation
kind_of (Turn degrees right rudder) = kind.Turn

-- the command of the message's row
abbrev pub command_of : Message → ℕ
command_of m = (row_of (kind_of m)).command

unfoldable pub fields_of : Message → List ℤ
fields_of (Depth tenths anchor metric defective deep shallow) =
    pos tenths ∷ flag anchor ∷ flag metric ∷ flag defective ∷ flag deep ∷ flag shallow ∷ []
fields_of (WindAngle halves) = pos halves ∷ []
fields_of (WindSpeed tenths metres) = pos tenths ∷ flag metres ∷ []
fields_of (Speed tenths) = pos tenths ∷ []
fields_of (Trip hundredths) = pos hundredths ∷ []
fields_of (Total tenths) = pos tenths ∷ []
fields_of (Logs total trip) = pos total ∷ pos trip ∷ []
fields_of (Speeds speed average valid stopped mph) =
    pos speed ∷ pos average ∷ flag valid ∷ flag stopped ∷ flag mph ∷ []
fields_of (Water tenths) = tenths ∷ []
fields_of (Lamp level) = pos level ∷ []
fields_of (Latitude degrees hundredths south) = pos degrees ∷ pos hundredths ∷ flag south ∷ []
fields_of (Longitude degrees hundredths east) = pos degrees ∷ pos hundredths ∷ flag east ∷ []
fields_of (Ground tenths) = pos tenths ∷ []
fields_of (Course halves) = pos halves ∷ []
fields_of (Time hours minutes seconds) = pos hours ∷ pos minutes ∷ pos seconds ∷ []
fields_of (Date month day year) = pos month ∷ pos day ∷ pos year ∷ []
fields_of (Pilot degrees right course auto vane track offCourse windShift rudder ss tt) =
    pos degrees ∷ flag right ∷ pos course ∷ flag auto ∷ flag vane ∷ flag track ∷ flag offCourse ∷ flag windShift ∷ rudder
    ∷ pos ss ∷ pos tt ∷ []
fields_of (Key source code) = pos source ∷ pos code ∷ []
fields_of (Heading halves reference locked) = pos halves ∷ pos reference ∷ flag locked ∷ []
fields_of (Variation east) = east ∷ []
fields_of (Turn degrees right rudder) = pos degrees ∷ flag right ∷ rudder ∷ []
