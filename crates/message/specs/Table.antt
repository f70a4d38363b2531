-- The one table of kinds: command, length and kind, as rules 4.2 lists them.
use Rattle.std.specs.Prelude.{ℕ, cond, List, [], ◌∷◌, eqb, Option, Some, None}
use Rattle.message.specs.declared.Kind.{Kind}
use Rattle.message.specs.declared.Kind.TheVariants.{Depth, WindAngle, WindSpeed, Speed, Trip, Total, Logs, Speeds, Water, Lamp, Latitude, Longitude, Ground, Course, Time, Date, Pilot, Key, Heading, Variation, Turn}
use Rattle.message.specs.declared.Row.{Row}

abbrev row : ℕ → ℕ → Kind → Row
row command size kind = record { command = command; length = size; kind = kind }

-- each kind's command and length
abbrev pub row_of : Kind → Row
row_of Depth = row 0x00 5 Depth
row_of WindAngle = row 0x10 4 WindAngle
row_of WindSpeed = row 0x11 4 WindSpeed
row_of Speed = row 0x20 4 Speed
row_of Trip = row 0x21 5 Trip
row_of Total = row 0x22 5 Total
row_of Logs = row 0x25 7 Logs
row_of Speeds = row 0x26 7 Speeds
row_of Water = row 0x27 4 Water
row_of Lamp = row 0x30 3 Lamp
row_of Latitude = row 0x50 5 Latitude
row_of Longitude = row 0x51 5 Longitude
row_of Ground = row 0x52 4 Ground
row_of Course = row 0x53 3 Course
row_of Time = row 0x54 4 Time
row_of Date = row 0x56 4 Date
row_of Pilot = row 0x84 9 Pilot
row_of Key = row 0x86 4 Key
row_of Heading = row 0x89 5 Heading
row_of Variation = row 0x99 3 Variation
row_of Turn = row 0x9C 4 Turn

unfoldable pub kinds : List Row
kinds =
    row_of Depth ∷
    row_of WindAngle ∷
    row_of WindSpeed ∷
    row_of Speed ∷
    row_of Trip ∷
    row_of Total ∷
    row_of Logs ∷
    row_of Speeds ∷
    row_of Water ∷
    row_of Lamp ∷
    row_of Latitude ∷
    row_of Longitude ∷
    row_of Ground ∷
    row_of Course ∷
    row_of Time ∷
    row_of Date ∷
    row_of Pilot ∷
    row_of Key ∷
    row_of Heading ∷
    row_of Variation ∷
    row_of Turn ∷ []

-- the first row with this command
abbrev pub row_in : List Row → ℕ → Option Row
row_in [] command = None
row_in (r ∷ rs) command = cond (eqb r.command command) (Some r) (row_in rs command)

unfoldable pub find_of : ℕ → Option Row
find_of command = row_in kinds command
