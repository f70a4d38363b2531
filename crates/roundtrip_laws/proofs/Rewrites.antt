-- Each kind's datagram, read and written again, gives its own bytes, if its ignored bits stand as the writer sets them.
use Rattle.std.specs.Prelude.{Result, Ok, Err}
use mathlib.Core.Path.{◌≡◌, refl, ap, ap₂, ◌∙◌}
use mathlib.Core.Bool.{Bool, true, false, cond}
use mathlib.Core.List.{List, [], ◌∷◌}
use Prim.Native.Nat.{ℕ, ◌+◌, ◌-◌, ◌*◌, ◌/◌, ◌%◌, ◌≤◌}
use native.Mathlib.Omega.{arith}
use lib.Dec.{leb, eqb}
use lib.ListN.{length}
use lib.IntN.{neg_ℤ}
use mir.Syntax.{w8, w32}
use mir.Val.{to_z, of_z}
use borrow.Author.Tests.{leb-true, eqb-true}
use Rattle.number.specs.Word.{bit, num}
use Rattle.datagram.specs.declared.Refusal.{Refusal}
use Rattle.datagram.specs.Refusals.{out_of_range, bad_repeat}
use Rattle.datagram.specs.Whole.{declared}
use Rattle.angle.specs.declared.Digits.{Digits}
use Rattle.angle.specs.declared.Quarter.{Quarter}
use Rattle.angle.specs.Half.{half_angle}
use Rattle.angle.specs.Degree.{whole_angle, turns_right}
use Rattle.angle.specs.Quarter.{quarter_angle}
use Rattle.angle.proofs.Laws.{half_spells, whole_spells, quarter_spells}
use Rattle.message.specs.declared.Kind.{Kind}
use Rattle.message.specs.declared.Kind.TheVariants as kind
use Rattle.message.specs.declared.Message.{Message}
use Rattle.message.specs.declared.Message.TheVariants.{WindSpeed, Lamp, Course, Pilot, Key, Heading, Turn}
use Rattle.message.specs.Spelling.{bytes_of}
use Rattle.message.specs.Decode.{spelled}
use Rattle.message.specs.Reading.{byte, read_kind}
use Rattle.message.specs.Table.{kinds}
use Rattle.roundtrip_laws.specs.Ignored.{ignored}
use Rattle.message.specs.Fields.{kind_of}
use Rattle.roundtrip_laws.proofs.Lists.{same, Lists}
use Rattle.roundtrip_laws.proofs.Standing.{AllStand, kept, clear, seven}
use Rattle.message.proofs.Found.{Each, ◌and◌, end}
use Rattle.roundtrip_laws.proofs.Signs.{water_spells}

-- what holds of the message, if one is read
abbrev pub IfRead : Result Message Refusal → (Message → Type 0) → Type 0
IfRead (Ok m) Q = Q m
IfRead (Err r) Q = Unit {0}

if_passed : (b : Bool) (reading : Result Message Refusal) (r : Refusal) (Q : Message → Type 0) → (b ≡ true → IfRead reading Q)
    → IfRead (cond b reading (Err r)) Q
if_passed true reading r Q f = f refl
if_passed false reading r Q f = tt

-- both angles are spelled right: the six low bits of VW, field 1, and XY, field k (89 and 84)
if_spelled : (vw xy k : ℕ) (m : Message) (Q : Message → Type 0) → (vw % 64 ≤ 44 → xy ≤ 179 → Q m)
    → IfRead (spelled 1 (leb (vw % 64) 44) (spelled k (leb xy 179) (Ok m))) Q
if_spelled vw xy k m Q f =
    if_passed (leb (vw % 64) 44) (spelled k (leb xy 179) (Ok m)) (out_of_range 1) Q
    (λ p. if_passed (leb xy 179) (Ok m) (out_of_range k) Q (λ q. f (leb-true (vw % 64) 44 p) (leb-true xy 179 q)))

-- the message is written as this datagram, if the ignored bits stand
abbrev pub Back : List ℕ → Message → Type 0
Back s m = AllStand (ignored (kind_of m)) s → bytes_of m ≡ s

-- what holds of each row of the table
abbrev pub Rewritten : ℕ → ℕ → Kind → Type 0
Rewritten command size k = Lists size (λ s. (command ≡ byte s 0) × (length s ≡ declared (byte s 1)) → IfRead (read_kind k s) (Back s))

depth : Rewritten 0x00 5 kind.Depth
unfolding read_kind kind_of ignored bytes_of
depth a b c d e head h =
    let again : ℕ → ℕ = λ x. 128 * num (bit 128 x) + 64 * num (bit 64 x) + 4 * num (bit 4 x) + 2 * num (bit 2 x) + num (bit 1 x) in
    same _ _ (omega (arith, clear h.1.0, kept h.1.1.0 again tt))

wind_angle : Rewritten 0x10 4 kind.WindAngle
unfolding read_kind kind_of ignored bytes_of
wind_angle a b c d head h = same _ _ (omega (arith, clear h.1.0))

wind_speed : Rewritten 0x11 4 kind.WindSpeed
unfolding read_kind kind_of ignored bytes_of
wind_speed a b c d head =
    if_passed (leb (d % 16) 9) (Ok (WindSpeed (10 * (c % 128) + d % 16) (bit 128 c))) (out_of_range 1) (Back (a ∷ b ∷ c ∷ d ∷ []))
    (λ e h. same _ _ (omega (arith, leb-true (d % 16) 9 e, clear h.1.0, clear h.1.1.1.0, seven h.1.1.0)))

speed : Rewritten 0x20 4 kind.Speed
unfolding read_kind kind_of ignored bytes_of
speed a b c d head h = same _ _ (omega (arith, clear h.1.0))

trip : Rewritten 0x21 5 kind.Trip
unfolding read_kind kind_of ignored bytes_of
trip a b c d e head h = same _ _ (omega (arith, clear h.1.0, clear h.1.1.1.1.0))

total : Rewritten 0x22 5 kind.Total
unfolding read_kind kind_of ignored bytes_of
total a b c d e head h = same _ _ (omega (arith, clear h.1.0, kept h.1.1.1.1.0 (λ x. 0) tt))

logs : Rewritten 0x25 7 kind.Logs
unfolding read_kind kind_of ignored bytes_of
logs a b c d e f g head h = same _ _ (omega (arith, clear h.1.1.1.1.1.1.0))

speeds : Rewritten 0x26 7 kind.Speeds
unfolding read_kind kind_of ignored bytes_of
speeds a b c d e f g head h =
    same _ _ (omega (arith, clear h.1.0, kept h.1.1.1.1.1.1.0 (λ x. 64 * num (bit 64 x) + num (bit 1 x) + 2 * num (bit 2 x)) tt))

water : Rewritten 0x27 4 kind.Water
unfolding read_kind kind_of ignored bytes_of
water a b c d head h = same _ _ (omega (arith, clear h.1.0, water_spells (c + 256 * d) (omega arith)))

lamp : Rewritten 0x30 3 kind.Lamp
unfolding read_kind kind_of ignored bytes_of
lamp a b c head =
    if_passed (eqb (c % 4) 0) (Ok (Lamp (c % 16 / 4))) (out_of_range 1) (Back (a ∷ b ∷ c ∷ []))
    (λ e h. same _ _ (omega (arith, eqb-true (c % 4) 0 e, clear h.1.0, clear h.1.1.0)))

latitude : Rewritten 0x50 5 kind.Latitude
unfolding read_kind kind_of ignored bytes_of
latitude a b c d e head h = same _ _ (omega (arith, clear h.1.0, seven h.1.1.1.1.0))

longitude : Rewritten 0x51 5 kind.Longitude
unfolding read_kind kind_of ignored bytes_of
longitude a b c d e head h = same _ _ (omega (arith, clear h.1.0, seven h.1.1.1.1.0))

ground : Rewritten 0x52 4 kind.Ground
unfolding read_kind kind_of ignored bytes_of
ground a b c d head h = same _ _ (omega (arith, clear h.1.0))

course : Rewritten 0x53 3 kind.Course
unfolding read_kind kind_of ignored bytes_of
course a b c head =
    if_passed (leb (c % 64) 44) (Ok (Course (half_angle (b / 16) (c % 64)))) (out_of_range 1) (Back (a ∷ b ∷ c ∷ []))
    (λ e h.
    let six = leb-true (c % 64) 44 e in
    ap (λ (g : Digits). 0x53 ∷ (16 * g.u) ∷ g.six ∷ []) (half_spells (b / 16) (c % 64) (omega arith) (omega arith))
    ∙ same _ _ (omega (arith, kept h.1.1.0 (λ x. x % 64) tt)))

time : Rewritten 0x54 4 kind.Time
unfolding read_kind kind_of ignored bytes_of
time a b c d head h = same _ _ (omega arith)

date : Rewritten 0x56 4 kind.Date
unfolding read_kind kind_of ignored bytes_of
date a b c d head h = same _ _ (omega arith)

pilot : Rewritten 0x84 9 kind.Pilot
unfolding read_kind kind_of ignored bytes_of
pilot a b c d e f g i j head =
    if_spelled c d 3
    (Pilot (whole_angle (b / 16) (c % 64)) (turns_right (b / 16)) (quarter_angle (c / 64) d) (bit 2 e) (bit 4 e) (bit 8 e) (bit 4 f) (bit 8 f)
    (to_z w8 g) i j)
    (Back (a ∷ b ∷ c ∷ d ∷ e ∷ f ∷ g ∷ i ∷ j ∷ []))
    (λ six rest h.
    let modes : ℕ → ℕ = λ x. 2 * num (bit 2 x) + 4 * num (bit 4 x) + 8 * num (bit 8 x) in
    let alarms : ℕ → ℕ = λ x. 4 * num (bit 4 x) + 8 * num (bit 8 x) in
    let rudder : ℕ → ℕ = λ x. of_z w32 (to_z w8 x) % 256 in
    ap₂ (λ (x : Digits) (y : Quarter). 0x84 ∷ (16 * x.u + 6) ∷ (x.six + 64 * y.quarter) ∷ y.xy ∷ modes e ∷ alarms f ∷ rudder g ∷ (i % 256) ∷ (j % 256) ∷ [])
    (whole_spells (b / 16) (c % 64) (omega arith) (omega arith)) (quarter_spells (c / 64) d (omega arith) (omega arith))
    ∙ same _ _
    (omega (arith, kept h.1.1.1.1.0 modes tt, kept h.1.1.1.1.1.0 alarms tt, kept h.1.1.1.1.1.1.0 rudder tt)))

key : Rewritten 0x86 4 kind.Key
unfolding read_kind kind_of ignored bytes_of
key a b c d head =
    if_passed (eqb (c + d) 255) (Ok (Key (b / 16) c)) bad_repeat (Back (a ∷ b ∷ c ∷ d ∷ []))
    (λ e h. same _ _ (omega (arith, eqb-true (c + d) 255 e)))

heading : Rewritten 0x89 5 kind.Heading
unfolding read_kind kind_of ignored bytes_of
heading a b c d e head =
    if_spelled c d 2 (Heading (half_angle (b / 16) (c % 64)) (quarter_angle (c / 64) d) (bit 2 e)) (Back (a ∷ b ∷ c ∷ d ∷ e ∷ []))
    (λ six rest h.
    let locked : ℕ → ℕ = λ x. 0x20 + 2 * num (bit 2 x) in
    ap₂ (λ (x : Digits) (y : Quarter). 0x89 ∷ (16 * x.u + 2) ∷ (x.six + 64 * y.quarter) ∷ y.xy ∷ locked e ∷ [])
    (half_spells (b / 16) (c % 64) (omega arith) (omega arith)) (quarter_spells (c / 64) d (omega arith) (omega arith))
    ∙ same _ _ (omega (arith, kept h.1.1.1.1.0 locked tt)))

variation : Rewritten 0x99 3 kind.Variation
unfolding read_kind kind_of ignored bytes_of
variation a b c head h = same _ _ (omega (arith, clear h.1.0, kept h.1.1.0 (λ x. (256 - of_z w32 (neg_ℤ (to_z w8 x)) % 256) % 256) tt))

turn : Rewritten 0x9C 4 kind.Turn
unfolding read_kind kind_of ignored bytes_of
turn a b c d head =
    if_passed (leb (c % 64) 44) (Ok (Turn (whole_angle (b / 16) (c % 64)) (turns_right (b / 16)) (to_z w8 d))) (out_of_range 1) (Back (a ∷ b ∷ c ∷ d ∷ []))
    (λ e h.
    let six = leb-true (c % 64) 44 e in
    ap (λ (g : Digits). 0x9C ∷ (16 * g.u + 1) ∷ g.six ∷ (of_z w32 (to_z w8 d) % 256) ∷ []) (whole_spells (b / 16) (c % 64) (omega arith) (omega arith))
    ∙ same _ _ (omega (arith, kept h.1.1.0 (λ x. x % 64) tt, kept h.1.1.1.0 (λ x. of_z w32 (to_z w8 x) % 256) tt)))

pub rewrites : Each (λ row. Rewritten row.command row.length row.kind) kinds
unfolding kinds
rewrites =
    depth and wind_angle and wind_speed and speed and trip and total and logs and speeds and water and lamp
    and latitude and longitude and ground and course and time and date and pilot and key and heading and variation and turn and end
