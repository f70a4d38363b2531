-- Reading bytes as a datagram of one kind: refusals 3, 4, 5, 6 and 7 in that order, or the message (rules 5.2).
use Rattle.std.specs.Prelude.{ℕ, ◌≡◌, cond, List, [], ◌∷◌, eqb, Result, Ok, Err}
use Rattle.datagram.specs.Refusals.{not_whole, unknown_command, wrong_length}
use Rattle.datagram.specs.Whole.{whole}
use Rattle.message.specs.declared.Kind.{Kind}
use Rattle.message.specs.declared.Kind.TheVariants.{Depth, Speed}
use Rattle.message.specs.declared.Message.TheVariants as message
use Rattle.message.specs.Table.{row_of}
use Rattle.message.specs.Reading.{byte, read_sized}
use Rattle.datagram.specs.declared.Refusal.{Refusal}
use Rattle.message.specs.declared.Message.{Message}

-- the table is this kind's row alone: another command is not in it
unfoldable pub read_of_kind : Kind → List ℕ → Result Message Refusal
read_of_kind kind s =
    cond (whole s)
    (cond (eqb (byte s 0) (row_of kind).command) (read_sized kind (row_of kind).length s) (Err unknown_command))
    (Err not_whole)

-- no bytes are no whole datagram; a speed of three bytes has another length than its kind's; a ground speed is no speed
pub record OfKindExamples : Type 0 where
  pub no_bytes : read_of_kind Depth [] ≡ Err not_whole
  pub three_bytes : read_of_kind Speed (0x20 ∷ 0x00 ∷ 0x3E ∷ []) ≡ Err wrong_length
  pub cut_off : read_of_kind Speed (0x20 ∷ 0x01 ∷ 0x3E ∷ []) ≡ Err not_whole
  pub other_kind : read_of_kind Speed (0x52 ∷ 0x01 ∷ 0x3E ∷ 0x00 ∷ []) ≡ Err unknown_command
  pub its_own : read_of_kind Speed (0x20 ∷ 0x01 ∷ 0x3E ∷ 0x00 ∷ []) ≡ Ok (message.Speed 62)
