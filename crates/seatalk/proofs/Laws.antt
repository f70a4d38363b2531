-- The C writer's fields are the reader's: the message that a message's own command and fields name is that message.
use Rattle.std.specs.Prelude.{Option, Ok, None}
use mathlib.Core.Path.{◌≡◌, refl, ap, ap₂, ◌∙◌}
use mathlib.Core.Bool.{Bool, true, false}
use mathlib.Core.List.{List, [], ◌∷◌}
use Prim.Native.Nat.{ℕ, ◌*◌}
use borrow.Author.Tests.{eq-eqb}
use lib.Dec.{eqb, leb}
use lib.IntN.{ℤ}
use lib.ListN.{length}
use mir.Syntax.{w32}
use mir.Val.{to_z, of_z}
use mir.ValLaws.{to_z-of_z, of_z_fits}
use Rattle.number.specs.Word.{num}
use Rattle.number.proofs.Longs.{together}
use Rattle.message.specs.declared.Message.{Message}
use Rattle.message.specs.declared.Message.TheVariants.{Depth, WindAngle, WindSpeed, Speed, Trip, Total, Logs, Speeds, Water, Lamp, Latitude, Longitude, Ground, Course, Time, Date, Pilot, Key, Heading, Variation, Turn}
use Rattle.message.specs.Fields.{kind_of, command_of, fields_of}
use Rattle.message.specs.Range.{range_of}
use Rattle.message.specs.Reading.{byte}
use Rattle.message.specs.Spelling.{bytes_of}
use Rattle.message.specs.Table.{find_of}
use Rattle.from_fields.specs.Numbers.{AllFit, field_bytes, fields_bytes, numbers_of}
use Rattle.from_fields.specs.Naming.{count_of, flags_of, message_of, bad_flag, named_as, named_of}
use Rattle.from_fields.proofs.Each.{each_length}
use Rattle.roundtrip_laws.proofs.Rows.{finds}
use Rattle.seatalk.proofs.Fits.{fields_fit}
use Rattle.message.specs.declared.Row.{Row}

numbers_back : (zs : List ℤ) → AllFit zs → numbers_of (fields_bytes zs) ≡ zs
numbers_back [] fits = refl
numbers_back (z ∷ zs) fits =
    let small = of_z_fits w32 z fits.0 in
    ap₂ (λ (y : ℤ) (ys : List ℤ). y ∷ ys) (ap (to_z w32) (together (of_z w32 z) small.fits) ∙ to_z-of_z w32 z fits.0) (numbers_back zs fits.1)

a_flag : (b : Bool) → leb (num b) 1 ≡ true
a_flag true = refl
a_flag false = refl

as_told : (b : Bool) → eqb (num b) 1 ≡ b
as_told true = refl
as_told false = refl

-- a message by its own command, kind and fields
record NamedAs (m : Message) : Type 0 where
  command : command_of m ≡ byte (bytes_of m) 0
  count : length (fields_of m) ≡ count_of (kind_of m)
  flags : bad_flag (flags_of (kind_of m)) (fields_of m) ≡ None
  message : message_of (kind_of m) (fields_of m) ≡ m

named_as_lem : (m : Message) → NamedAs m
unfolding bytes_of fields_of kind_of count_of flags_of message_of
named_as_lem (Depth tenths anchor metric defective deep shallow) = record { command = refl; count = refl; flags = rw (a_flag anchor, a_flag metric, a_flag defective, a_flag deep, a_flag shallow); message = rw (as_told anchor, as_told metric, as_told defective, as_told deep, as_told shallow) }
named_as_lem (WindAngle halves) = record { command = refl; count = refl; flags = refl; message = refl }
named_as_lem (WindSpeed tenths metres) = record { command = refl; count = refl; flags = rw (a_flag metres); message = rw (as_told metres) }
named_as_lem (Speed tenths) = record { command = refl; count = refl; flags = refl; message = refl }
named_as_lem (Trip hundredths) = record { command = refl; count = refl; flags = refl; message = refl }
named_as_lem (Total tenths) = record { command = refl; count = refl; flags = refl; message = refl }
named_as_lem (Logs total trip) = record { command = refl; count = refl; flags = refl; message = refl }
named_as_lem (Speeds speed average valid stopped mph) = record { command = refl; count = refl; flags = rw (a_flag valid, a_flag stopped, a_flag mph); message = rw (as_told valid, as_told stopped, as_told mph) }
named_as_lem (Water tenths) = record { command = refl; count = refl; flags = refl; message = refl }
named_as_lem (Lamp level) = record { command = refl; count = refl; flags = refl; message = refl }
named_as_lem (Latitude degrees hundredths south) = record { command = refl; count = refl; flags = rw (a_flag south); message = rw (as_told south) }
named_as_lem (Longitude degrees hundredths east) = record { command = refl; count = refl; flags = rw (a_flag east); message = rw (as_told east) }
named_as_lem (Ground tenths) = record { command = refl; count = refl; flags = refl; message = refl }
named_as_lem (Course halves) = record { command = refl; count = refl; flags = refl; message = refl }
named_as_lem (Time hours minutes seconds) = record { command = refl; count = refl; flags = refl; message = refl }
named_as_lem (Date month day year) = record { command = refl; count = refl; flags = refl; message = refl }
named_as_lem (Pilot degrees right course auto vane track offCourse windShift rudder ss tt) = record { command = refl; count = refl; flags = rw (a_flag right, a_flag auto, a_flag vane, a_flag track, a_flag offCourse, a_flag windShift); message = rw (as_told right, as_told auto, as_told vane, as_told track, as_told offCourse, as_told windShift) }
named_as_lem (Key source code) = record { command = refl; count = refl; flags = refl; message = refl }
named_as_lem (Heading halves reference locked) = record { command = refl; count = refl; flags = rw (a_flag locked); message = rw (as_told locked) }
named_as_lem (Variation east) = record { command = refl; count = refl; flags = refl; message = refl }
named_as_lem (Turn degrees right rudder) = record { command = refl; count = refl; flags = rw (a_flag right); message = rw (as_told right) }

pub named_back : (m : Message) → range_of m ≡ (Ok tt) → named_of (command_of m) (fields_bytes (fields_of m)) ≡ Ok m
unfolding named_of
named_back m r =
    let k = named_as_lem m in
    let long : length (fields_bytes (fields_of m)) ≡ 4 * count_of (kind_of m) = each_length field_bytes 4 (λ z. refl) (fields_of m) ∙ ap (λ (n : ℕ). 4 * n) k.count in
    let found : find_of (command_of m) ≡ _ = ap find_of k.command ∙ finds m in
    ap (λ (l : Option Row). named_as l (fields_bytes (fields_of m))) found
    ∙ rw (eq-eqb (length (fields_bytes (fields_of m))) (4 * count_of (kind_of m)) long, numbers_back (fields_of m) (fields_fit m r), k.flags)
    (ap Ok k.message)
