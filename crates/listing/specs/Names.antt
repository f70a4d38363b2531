-- The names of the kinds in a listing (rules 4.2).
use Rattle.std.specs.Prelude.{ℕ, List}
use Rattle.message.specs.declared.Kind.{Kind}
use Rattle.message.specs.declared.Kind.TheVariants.{Depth, WindAngle, WindSpeed, Speed, Trip, Total, Logs, Speeds, Water, Lamp, Latitude, Longitude, Ground, Course, Time, Date, Pilot, Key, Heading, Variation, Turn}
use Rattle.listing.specs.Text.{ascii}

abbrev pub name_of : Kind → List ℕ
name_of Depth = ascii "depth"
name_of WindAngle = ascii "windangle"
name_of WindSpeed = ascii "windspeed"
name_of Speed = ascii "speed"
name_of Trip = ascii "trip"
name_of Total = ascii "total"
name_of Logs = ascii "logs"
name_of Speeds = ascii "speeds"
name_of Water = ascii "water"
name_of Lamp = ascii "lamp"
name_of Latitude = ascii "lat"
name_of Longitude = ascii "lon"
name_of Ground = ascii "ground"
name_of Course = ascii "course"
name_of Time = ascii "time"
name_of Date = ascii "date"
name_of Pilot = ascii "pilot"
name_of Key = ascii "key"
name_of Heading = ascii "heading"
name_of Variation = ascii "variation"
name_of Turn = ascii "turn"
