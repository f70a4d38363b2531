-- A time and a symbol as the eight bytes of a record (rules 11.6).
use Rattle.std.specs.Prelude.{ℕ, cond, List, ltb}
use Rattle.datagram.specs.Refusals.{symbol_above}
use Rattle.recording.specs.Record.{record_bytes}
use Rattle.seatalk.specs.Returned.{Returned, refused, stored_result}

-- refusal 1 for a symbol above 511, of whose 32 bits all count; 8 comes last
unfoldable pub record_call : ℕ → ℕ → List ℕ → Returned
record_call time symbol result =
    cond (ltb 511 symbol) (refused symbol_above result) (stored_result (record_bytes time symbol) result)
