-- The message that a command and its fields' numbers name: refusal 4, then 5, then 7 for a flag that is neither 0 nor 1
-- (rules 11.5).
use Rattle.std.specs.Prelude.{ℕ, ◌-◌, ◌*◌, Bool, cond, List, [], ◌∷◌, leb, eqb, ℤ, pos, length, get_or, take, Result, Option, Ok, Err, Some, None, ⊤}
use Rattle.std.specs.Int.{w32}
use Rattle.std.proofs.Common.{of_z}
use Rattle.datagram.specs.Refusals.{unknown_command, wrong_length, out_of_range}
use Rattle.message.specs.declared.Kind.{Kind}
use Rattle.message.specs.declared.Kind.TheVariants as kind
use Rattle.message.specs.declared.Message.{Message}
use Rattle.message.specs.declared.Message.TheVariants.{Depth, WindAngle, WindSpeed, Speed, Trip, Total, Logs, Speeds, Water, Lamp, Latitude, Longitude, Ground, Course, Time, Date, Pilot, Key, Heading, Variation, Turn}
use Rattle.message.specs.Table.{find_of}
use Rattle.message.specs.Range.{range_of}
use Rattle.from_fields.specs.Numbers.{numbers_of}
use Rattle.datagram.specs.declared.Refusal.{Refusal}
use Rattle.message.specs.declared.Row.{Row}

-- field i, counted from 0; 0 past the end
abbrev pub signed : List ℤ → ℕ → ℤ
signed zs i = get_or zs i (pos 0)

-- a field that is never negative: a negative number's 32 bits are above every range
abbrev pub natural : List ℤ → ℕ → ℕ
natural zs i = of_z w32 (signed zs i)

-- a flag
abbrev pub on : List ℤ → ℕ → Bool
on zs i = eqb (natural zs i) 1

-- how many fields a kind has
unfoldable pub count_of : Kind → ℕ
count_of kind.Depth = 6
count_of kind.WindAngle = 1
count_of kind.WindSpeed = 2
count_of kind.Speed = 1
count_of kind.Trip = 1
count_of kind.Total = 1
count_of kind.Logs = 2
count_of kind.Speeds = 5
count_of kind.Water = 1
count_of kind.Lamp = 1
count_of kind.Latitude = 3
count_of kind.Longitude = 3
count_of kind.Ground = 1
count_of kind.Course = 1
count_of kind.Time = 3
count_of kind.Date = 3
count_of kind.Pilot = 11
count_of kind.Key = 2
count_of kind.Heading = 3
count_of kind.Variation = 1
count_of kind.Turn = 3

-- which of them, counted from 1, are flags
unfoldable pub flags_of : Kind → List ℕ
flags_of kind.Depth = 2 ∷ 3 ∷ 4 ∷ 5 ∷ 6 ∷ []
flags_of kind.WindAngle = []
flags_of kind.WindSpeed = 2 ∷ []
flags_of kind.Speed = []
flags_of kind.Trip = []
flags_of kind.Total = []
flags_of kind.Logs = []
flags_of kind.Speeds = 3 ∷ 4 ∷ 5 ∷ []
flags_of kind.Water = []
flags_of kind.Lamp = []
flags_of kind.Latitude = 3 ∷ []
flags_of kind.Longitude = 3 ∷ []
flags_of kind.Ground = []
flags_of kind.Course = []
flags_of kind.Time = []
flags_of kind.Date = []
flags_of kind.Pilot = 2 ∷ 4 ∷ 5 ∷ 6 ∷ 7 ∷ 8 ∷ []
flags_of kind.Key = []
flags_of kind.Heading = 3 ∷ []
flags_of kind.Variation = []
flags_of kind.Turn = 2 ∷ []

-- the message of a kind with these numbers as its fields
unfoldable pub message_of : Kind → List ℤ → Message
message_of kind.Depth zs = Depth (natural zs 0) (on zs 1) (on zs 2) (on zs 3) (on zs 4) (on zs 5)
message_of kind.WindAngle zs = WindAngle (natural zs 0)
message_of kind.WindSpeed zs = WindSpeed (natural zs 0) (on zs 1)
message_of kind.Speed zs = Speed (natural zs 0)
message_of kind.Trip zs = Trip (natural zs 0)
message_of kind.Total zs = Total (natural zs 0)
message_of kind.Logs zs = Logs (natural zs 0) (natural zs 1)
message_of kind.Speeds zs = Speeds (natural zs 0) (natural zs 1) (on zs 2) (on zs 3) (on zs 4)
message_of kind.Water zs = Water (signed zs 0)
message_of kind.Lamp zs = Lamp (natural zs 0)
message_of kind.Latitude zs = Latitude (natural zs 0) (natural zs 1) (on zs 2)
message_of kind.Longitude zs = Longitude (natural zs 0) (natural zs 1) (on zs 2)
message_of kind.Ground zs = Ground (natural zs 0)
message_of kind.Course zs = Course (natural zs 0)
message_of kind.Time zs = Time (natural zs 0) (natural zs 1) (natural zs 2)
message_of kind.Date zs = Date (natural zs 0) (natural zs 1) (natural zs 2)
message_of kind.Pilot zs =
    Pilot (natural zs 0) (on zs 1) (natural zs 2) (on zs 3) (on zs 4) (on zs 5) (on zs 6) (on zs 7) (signed zs 8) (natural zs 9) (natural zs 10)
message_of kind.Key zs = Key (natural zs 0) (natural zs 1)
message_of kind.Heading zs = Heading (natural zs 0) (natural zs 1) (on zs 2)
message_of kind.Variation zs = Variation (signed zs 0)
message_of kind.Turn zs = Turn (natural zs 0) (on zs 1) (signed zs 2)

-- the first of these flags that is neither 0 nor 1, if there is one
abbrev pub bad_flag : List ℕ → List ℤ → Option ℕ
bad_flag [] zs = None
bad_flag (k ∷ ks) zs = cond (leb (natural zs (k - 1)) 1) (bad_flag ks zs) (Some k)

abbrev pub after_range : Result ⊤ Refusal → ℕ → Result Message Refusal
after_range (Ok tt) k = Err (out_of_range k)
after_range (Err r) k = Err r

-- where flag k is bad, the fields before it, taken alone, are judged before it
abbrev pub flagged : Kind → List ℤ → Option ℕ → Result Message Refusal
flagged kind zs None = Ok (message_of kind zs)
flagged kind zs (Some k) = after_range (range_of (message_of kind (take (k - 1) zs))) k

-- by the command's row: 5 for another number of bytes than the kind's fields need
abbrev pub named_as : Option Row → List ℕ → Result Message Refusal
named_as None fields = Err unknown_command
named_as (Some row) fields =
    cond (eqb (length fields) (4 * count_of row.kind))
    (flagged row.kind (numbers_of fields) (bad_flag (flags_of row.kind) (numbers_of fields)))
    (Err wrong_length)

unfoldable pub named_of : ℕ → List ℕ → Result Message Refusal
named_of command fields = named_as (find_of command) fields
