-- The worked examples E1 to E12 of rules 12, and the one claim over all of them.
use Rattle.std.specs.Prelude.{ℕ, ◌≡◌, List, [], ◌∷◌, map, ℤ, pos, neg_ℤ, Result, Ok, Err}
use Rattle.message.specs.Fields.{command_of, fields_of}
use Rattle.message.specs.Reading.{read_of}
use Rattle.datagram.specs.declared.Refusal.{Refusal}
use Rattle.message.specs.declared.Message.{Message}

-- what a reader makes of bytes: a message's command and fields, or a refusal's number
pub data Outcome : Type 0 where
  reads : ℕ → List ℤ → Outcome
  refuses : ℕ → Outcome

abbrev pub outcome_of : Result Message Refusal → Outcome
outcome_of (Ok m) = reads (command_of m) (fields_of m)
outcome_of (Err r) = refuses r.number

pub record Example : Type 0 where
  pub bytes : List ℕ
  pub expected : Outcome

abbrev example : List ℕ → Outcome → Example
example bytes expected = record { bytes = bytes; expected = expected }

unfoldable pub examples : List Example
examples =
    -- E1
    example (0x20 ∷ 0x01 ∷ 0x3E ∷ 0x00 ∷ []) (reads 0x20 (pos 62 ∷ [])) ∷
    -- E2
    example (0x89 ∷ 0xB2 ∷ 0x0A ∷ 0x00 ∷ 0x20 ∷ []) (reads 0x89 (pos 582 ∷ pos 0 ∷ pos 0 ∷ [])) ∷
    -- E3
    example (0x53 ∷ 0x00 ∷ 0x2D ∷ []) (refuses 7) ∷
    -- E4
    example (0x99 ∷ 0x00 ∷ 0x80 ∷ []) (reads 0x99 (pos 128 ∷ [])) ∷
    -- E5
    example (0x99 ∷ 0x00 ∷ 0xFF ∷ []) (reads 0x99 (pos 1 ∷ [])) ∷
    -- E6
    example (0x9C ∷ 0x01 ∷ 0x00 ∷ 0x00 ∷ []) (reads 0x9C (pos 0 ∷ pos 0 ∷ pos 0 ∷ [])) ∷
    -- E7
    example (0x9C ∷ 0xF1 ∷ 0x2C ∷ 0x00 ∷ []) (reads 0x9C (pos 0 ∷ pos 1 ∷ pos 0 ∷ [])) ∷
    -- E8
    example (0x9C ∷ 0xC1 ∷ 0x2C ∷ 0xFE ∷ []) (reads 0x9C (pos 90 ∷ pos 1 ∷ neg_ℤ (pos 2) ∷ [])) ∷
    -- E9
    example (0x86 ∷ 0x11 ∷ 0x60 ∷ 0xDF ∷ []) (refuses 6) ∷
    -- E10
    example (0x27 ∷ 0x01 ∷ 0x00 ∷ 0x00 ∷ []) (reads 0x27 (neg_ℤ (pos 100) ∷ [])) ∷
    -- E11
    example (0x10 ∷ 0x01 ∷ 0x02 ∷ 0xCF ∷ []) (reads 0x10 (pos 719 ∷ [])) ∷
    -- E12
    example (0x10 ∷ 0x01 ∷ 0x02 ∷ 0xD0 ∷ []) (refuses 7) ∷
    []

-- the reader gives each example's bytes what the document says
abbrev pub Examples : Type 0
Examples = map (λ (e : Example). outcome_of (read_of e.bytes)) examples ≡ map (λ (e : Example). e.expected) examples
