-- Any bytes read as the fields of a message (rules 11.4).
use Rattle.std.specs.Prelude.{ℕ, ◌*◌, ◌≡◌, List, ◌++◌, ℤ, length, take, drop, Result, Ok, Err}
use Rattle.message.specs.Fields.{fields_of}
use Rattle.message.specs.Reading.{read_of}
use Rattle.from_fields.specs.Numbers.{fields_bytes}
use Rattle.seatalk.specs.Returned.{Returned, refused, stored_result}
use Rattle.datagram.specs.declared.Refusal.{Refusal}
use Rattle.message.specs.declared.Message.{Message}

-- the fields in table order, 4 bytes each, or the refusal; 8 comes last
abbrev pub read_returned : Result Message Refusal → List ℕ → Returned
read_returned (Ok m) result = stored_result (fields_bytes (fields_of m)) result
read_returned (Err r) result = refused r result

unfoldable pub read_call : List ℕ → List ℕ → Returned
read_call bytes result = read_returned (read_of bytes) result

-- the first i of these fields at the front of a buffer
abbrev pub laid_out : List ℤ → ℕ → List ℕ → List ℕ
laid_out zs i buffer = fields_bytes (take i zs) ++ drop (4 * i) buffer

-- over any buffer of that length: where the first `from` are laid out before, the first `end` are after
abbrev pub Grown : List ℤ → ℕ → List ℕ → ℕ → List ℕ → Type 0
Grown zs from before end after =
    (buffer : List ℕ) → length before ≡ length buffer → before ≡ laid_out zs from buffer → after ≡ laid_out zs end buffer
