-- A command and its fields written as the symbols of a message (rules 11.5).
use Rattle.std.specs.Prelude.{ℕ, ◌/◌, ◌%◌, List, [], ◌∷◌, Result, Ok, Err, ⊤}
use Rattle.message.specs.declared.Message.{Message}
use Rattle.message.specs.Range.{range_of}
use Rattle.message.specs.Spelling.{symbols_of}
use Rattle.from_fields.specs.Naming.{named_of}
use Rattle.from_fields.specs.Numbers.{each}
use Rattle.seatalk.specs.Returned.{Returned, refused, stored_result}
use Rattle.datagram.specs.declared.Refusal.{Refusal}

-- a symbol is 2 bytes, low byte first
abbrev pub symbol_bytes : ℕ → List ℕ
symbol_bytes s = (s % 256) ∷ (s / 256) ∷ []

abbrev pub symbols_bytes : List ℕ → List ℕ
symbols_bytes symbols = each symbol_bytes symbols

-- the symbols of a message in range, or refusal 7; 8 comes last
abbrev pub write_returned : Result ⊤ Refusal → Message → List ℕ → Returned
write_returned (Ok tt) m result = stored_result (symbols_bytes (symbols_of m)) result
write_returned (Err r) m result = refused r result

-- the message that the command and the fields name, or refusal 4, 5 or 7
abbrev pub named_returned : Result Message Refusal → List ℕ → Returned
named_returned (Ok m) result = write_returned (range_of m) m result
named_returned (Err r) result = refused r result

unfoldable pub write_call : ℕ → List ℕ → List ℕ → Returned
write_call command fields result = named_returned (named_of command fields) result
