-- Bytes that differ in ignored bits alone read the same: what a kind says of a byte is the same of the byte with its ignored
-- bits cleared, by one test over all bytes.
use Rattle.std.specs.Prelude.{Some}
use mathlib.Core.Path.{◌≡◌, sym, ap, ◌∙◌}
use mathlib.Core.Bool.{true, and-eq-true_iff}
use mathlib.Core.List.{List, [], ◌∷◌}
use Prim.Native.Nat.{ℕ, suc, ◌-◌, ◌/◌, ◌%◌, ◌<◌}
use lib.Bits.{bit_and}
use lib.Dec.{T, eqb, eqb→eq}
use lib.ListN.{length, drop}
use borrow.Author.Tests.{eqb-true}
use Rattle.number.proofs.Finite.{every, at}
use Rattle.datagram.specs.Whole.{whole, all_bytes}
use Rattle.message.specs.declared.Kind.{Kind}
use Rattle.message.specs.declared.Kind.TheVariants.{Depth, WindAngle, WindSpeed, Speed, Trip, Total, Logs, Speeds, Water, Lamp, Latitude, Longitude, Ground, Course, Time, Date, Pilot, Key, Heading, Variation, Turn}
use Rattle.message.specs.declared.Row.{Row}
use Rattle.message.specs.Table.{find_of}
use Rattle.message.specs.Reading.{byte, read_kind, read_of}
use Rattle.roundtrip_laws.specs.Ignored.{Ignored, ignored, agree_outside}
use Rattle.roundtrip_laws.proofs.Lists.{first}

-- two bytes whose bits outside the mask are the same
record Agree (mask x y : ℕ) : Type 0 where
  left : x < 256
  right : y < 256
  outside : bit_and (255 - mask) x ≡ bit_and (255 - mask) y

-- byte by byte, each under its own mask
abbrev AllAgree : List Ignored → (ℕ → ℕ) → (ℕ → ℕ) → Type 0
AllAgree [] f g = Unit {0}
AllAgree (i ∷ is) f g = Agree i.mask (f 0) (g 0) × AllAgree is (λ n. f (suc n)) (λ n. g (suc n))

later : (is : List Ignored) (s t : List ℕ) → AllAgree is (byte (drop 1 s)) (byte (drop 1 t))
    → AllAgree is (λ n. byte s (suc n)) (λ n. byte t (suc n))
later is [] [] h = h
later is [] (y ∷ t) h = h
later is (x ∷ s) [] h = h
later is (x ∷ s) (y ∷ t) h = h

all_agree : (is : List Ignored) (s t : List ℕ) → all_bytes s ≡ true → all_bytes t ≡ true → agree_outside is s t ≡ true
    → AllAgree is (byte s) (byte t)
all_agree [] s t b c a = tt
all_agree (i ∷ is) s t b c a =
    let here = (and-eq-true_iff (eqb (bit_and (255 - i.mask) (byte s 0)) (bit_and (255 - i.mask) (byte t 0))) (agree_outside is (drop 1 s) (drop 1 t))).0 a in
    let x = first s b in
    let y = first t c in (
      record { left = x.0; right = y.0; outside = eqb-true _ _ here.0 },
      later is s t (all_agree is (drop 1 s) (drop 1 t) x.1 y.1 here.1),
    )

-- one test over all bytes: what is read of a byte is the same with its ignored bits cleared
reads : {mask x y : ℕ} → Agree mask x y → (f : ℕ → ℕ) → T (every 256 (λ b. eqb (f b) (f (bit_and (255 - mask) b)))) → f x ≡ f y
reads {mask} {x} {y} h f t = cleared x h.left ∙ ap f h.outside ∙ sym (cleared y h.right)
  where
    cleared : (b : ℕ) → b < 256 → f b ≡ f (bit_and (255 - mask) b)
    cleared b small = eqb→eq _ _ (at 256 (λ b. eqb (f b) (f (bit_and (255 - mask) b))) t b small)

same : {x y : ℕ} → Agree 0 x y → x ≡ y
same h = reads h (λ b. b) tt

low : {x y : ℕ} → Agree 0xF0 x y → x % 16 ≡ y % 16
low h = reads h (λ b. b % 16) tt

-- what decides the reading of a datagram of a kind: its command, the length that it declares, and what it says
record Alike (k : Kind) (s t : List ℕ) : Type 0 where
  command : byte s 0 ≡ byte t 0
  long : byte s 1 % 16 ≡ byte t 1 % 16
  says : read_kind k s ≡ read_kind k t

-- the second byte says the length alone
length_alone : {k : Kind} {s t : List ℕ} → Agree 0 (byte s 0) (byte t 0) → Agree 0xF0 (byte s 1) (byte t 1)
    → read_kind k s ≡ read_kind k t → Alike k s t
length_alone a b e = record { command = same a; long = low b; says = e }

-- the second byte's high half says something too
length_below : {k : Kind} {s t : List ℕ} → Agree 0 (byte s 0) (byte t 0) → Agree 0 (byte s 1) (byte t 1)
    → read_kind k s ≡ read_kind k t → Alike k s t
length_below a b e = record { command = same a; long = ap (λ (n : ℕ). n % 16) (same b); says = e }

alike : (k : Kind) (s t : List ℕ) → AllAgree (ignored k) (byte s) (byte t) → Alike k s t
unfolding read_kind ignored
alike Depth s t h =
    let flags = h.1.1.0 in
    length_alone h.0 h.1.0
    (cc (
      reads flags (λ b. b / 128 % 2) tt,
      reads flags (λ b. b / 64 % 2) tt,
      reads flags (λ b. b / 4 % 2) tt,
      reads flags (λ b. b / 2 % 2) tt,
      reads flags (λ b. b / 1 % 2) tt,
      same h.1.1.1.0,
      same h.1.1.1.1.0,
    ))
alike WindAngle s t h = length_alone h.0 h.1.0 (cc (same h.1.1.0, same h.1.1.1.0))
alike WindSpeed s t h = length_alone h.0 h.1.0 (cc (same h.1.1.0, low h.1.1.1.0))
alike Speed s t h = length_alone h.0 h.1.0 (cc (same h.1.1.0, same h.1.1.1.0))
alike Trip s t h = length_alone h.0 h.1.0 (cc (same h.1.1.0, same h.1.1.1.0, low h.1.1.1.1.0))
alike Total s t h = length_alone h.0 h.1.0 (cc (same h.1.1.0, same h.1.1.1.0))
alike Logs s t h =
    length_below h.0 h.1.0
    (cc (
      same h.1.0,
      same h.1.1.0,
      same h.1.1.1.0,
      same h.1.1.1.1.0,
      same h.1.1.1.1.1.0,
      low h.1.1.1.1.1.1.0,
    ))
alike Speeds s t h =
    let flags = h.1.1.1.1.1.1.0 in
    length_alone h.0 h.1.0
    (cc (
      same h.1.1.0,
      same h.1.1.1.0,
      same h.1.1.1.1.0,
      same h.1.1.1.1.1.0,
      reads flags (λ b. b / 64 % 2) tt,
      reads flags (λ b. b / 1 % 2) tt,
      reads flags (λ b. b / 2 % 2) tt,
    ))
alike Water s t h = length_alone h.0 h.1.0 (cc (same h.1.1.0, same h.1.1.1.0))
alike Lamp s t h =
    let x = h.1.1.0 in
    length_alone h.0 h.1.0
    (cc (reads x (λ b. b % 4) tt, reads x (λ b. b % 16 / 4) tt))
alike Latitude s t h = length_alone h.0 h.1.0 (cc (same h.1.1.0, same h.1.1.1.0, same h.1.1.1.1.0))
alike Longitude s t h =
    length_alone h.0 h.1.0
    (cc (same h.1.1.0, same h.1.1.1.0, same h.1.1.1.1.0))
alike Ground s t h = length_alone h.0 h.1.0 (cc (same h.1.1.0, same h.1.1.1.0))
alike Course s t h = length_below h.0 h.1.0 (cc (same h.1.0, reads h.1.1.0 (λ b. b % 64) tt))
alike Time s t h = length_below h.0 h.1.0 (cc (same h.1.0, same h.1.1.0, same h.1.1.1.0))
alike Date s t h = length_below h.0 h.1.0 (cc (same h.1.0, same h.1.1.0, same h.1.1.1.0))
alike Pilot s t h =
    let modes = h.1.1.1.1.0 in
    let alarms = h.1.1.1.1.1.0 in
    length_below h.0 h.1.0
    (cc (
      same h.1.0,
      same h.1.1.0,
      same h.1.1.1.0,
      reads modes (λ b. b / 2 % 2) tt,
      reads modes (λ b. b / 4 % 2) tt,
      reads modes (λ b. b / 8 % 2) tt,
      reads alarms (λ b. b / 4 % 2) tt,
      reads alarms (λ b. b / 8 % 2) tt,
      same h.1.1.1.1.1.1.0,
      same h.1.1.1.1.1.1.1.0,
      same h.1.1.1.1.1.1.1.1.0,
    ))
alike Key s t h = length_below h.0 h.1.0 (cc (same h.1.0, same h.1.1.0, same h.1.1.1.0))
alike Heading s t h =
    length_below h.0 h.1.0
    (cc (same h.1.0, same h.1.1.0, same h.1.1.1.0, reads h.1.1.1.1.0 (λ b. b / 2 % 2) tt))
alike Variation s t h = length_alone h.0 h.1.0 (cc (same h.1.1.0))
alike Turn s t h =
    length_below h.0 h.1.0
    (cc (same h.1.0, reads h.1.1.0 (λ b. b % 64) tt, same h.1.1.1.0))

-- of one length and declaring one, both are whole or neither is
both_whole : (s t : List ℕ) → length s ≡ length t → byte s 1 % 16 ≡ byte t 1 % 16 → whole s ≡ whole t
unfolding whole
both_whole s t long declares = cc

pub ignored_unread : (s t : List ℕ) (row : Row) → all_bytes s ≡ true → all_bytes t ≡ true → find_of (byte s 0) ≡ Some row
    → length s ≡ length t → agree_outside (ignored row.kind) s t ≡ true → read_of s ≡ read_of t
unfolding read_of
ignored_unread s t row b c found long agree =
    let a = alike row.kind s t (all_agree (ignored row.kind) s t b c agree) in
    rw (both_whole s t long a.long, ← a.command, found, ← long, a.says)
