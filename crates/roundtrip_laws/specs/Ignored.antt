-- The bits that reading ignores, kind by kind, and how the writer sets them: to 0, but for the 2 of 89 (rules 4.3).
use Rattle.std.specs.Prelude.{ℕ, ◌-◌, Bool, true, ◌&&◌, List, [], ◌∷◌, eqb, get_or, drop}
use Rattle.std.specs.Int.Bits.{bit_and}
use Rattle.message.specs.declared.Kind.{Kind}
use Rattle.message.specs.declared.Kind.TheVariants.{Depth, WindAngle, WindSpeed, Speed, Trip, Total, Logs, Speeds, Water, Lamp, Latitude, Longitude, Ground, Course, Time, Date, Pilot, Key, Heading, Variation, Turn}

-- the ignored bits of one byte as a mask, and their value as written
pub record Ignored : Type 0 where
  pub mask : ℕ
  pub written : ℕ

abbrev none : Ignored
none = record { mask = 0; written = 0 }

-- ignored, and written 0
abbrev bits : ℕ → Ignored
bits mask = record { mask = mask; written = 0 }

unfoldable pub ignored : Kind → List Ignored
ignored Depth = none ∷ bits 0xF0 ∷ bits 0x38 ∷ none ∷ none ∷ []
ignored WindAngle = none ∷ bits 0xF0 ∷ none ∷ none ∷ []
ignored WindSpeed = none ∷ bits 0xF0 ∷ none ∷ bits 0xF0 ∷ []
ignored Speed = none ∷ bits 0xF0 ∷ none ∷ none ∷ []
ignored Trip = none ∷ bits 0xF0 ∷ none ∷ none ∷ bits 0xF0 ∷ []
ignored Total = none ∷ bits 0xF0 ∷ none ∷ none ∷ bits 0xFF ∷ []
ignored Logs = none ∷ none ∷ none ∷ none ∷ none ∷ none ∷ bits 0xF0 ∷ []
ignored Speeds = none ∷ bits 0xF0 ∷ none ∷ none ∷ none ∷ none ∷ bits 0xBC ∷ []
ignored Water = none ∷ bits 0xF0 ∷ none ∷ none ∷ []
ignored Lamp = none ∷ bits 0xF0 ∷ bits 0xF0 ∷ []
ignored Latitude = none ∷ bits 0xF0 ∷ none ∷ none ∷ none ∷ []
ignored Longitude = none ∷ bits 0xF0 ∷ none ∷ none ∷ none ∷ []
ignored Ground = none ∷ bits 0xF0 ∷ none ∷ none ∷ []
ignored Course = none ∷ none ∷ bits 0xC0 ∷ []
ignored Time = none ∷ none ∷ none ∷ none ∷ []
ignored Date = none ∷ none ∷ none ∷ none ∷ []
ignored Pilot = none ∷ none ∷ none ∷ none ∷ bits 0xF1 ∷ bits 0xF3 ∷ none ∷ none ∷ none ∷ []
ignored Key = none ∷ none ∷ none ∷ none ∷ []
ignored Heading = none ∷ none ∷ none ∷ none ∷ record { mask = 0xFD; written = 0x20 } ∷ []
ignored Variation = none ∷ bits 0xF0 ∷ none ∷ []
ignored Turn = none ∷ none ∷ bits 0xC0 ∷ none ∷ []

-- the ignored bits of each byte stand as the writer sets them
abbrev pub as_written : List Ignored → List ℕ → Bool
as_written [] s = true
as_written (i ∷ is) s = eqb (bit_and i.mask (get_or s 0 0)) i.written && as_written is (drop 1 s)

-- the bits of each byte that are not ignored are the same in both
abbrev pub agree_outside : List Ignored → List ℕ → List ℕ → Bool
agree_outside [] s t = true
agree_outside (i ∷ is) s t =
    eqb (bit_and (255 - i.mask) (get_or s 0 0)) (bit_and (255 - i.mask) (get_or t 0 0)) && agree_outside is (drop 1 s) (drop 1 t)
