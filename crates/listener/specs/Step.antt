-- What one symbol does to a listener (rules 3.4). A state is treated as the list of the bytes that it holds.
use Rattle.std.specs.Prelude.{ℕ, ◌-◌, cond, List, [], ◌∷◌, ◌++◌, leb, ltb, eqb, length, get_or}
use Rattle.datagram.specs.declared.Refusal.{Refusal}
use Rattle.datagram.specs.Refusals.{symbol_above, not_sound}
use Rattle.datagram.specs.Whole.{declared}
use Rattle.datagram.specs.Padding.{pad_to}
use Rattle.listener.specs.declared.Listener.{Listener}
use Rattle.listener.specs.declared.Answer.{Answer}
use Rattle.listener.specs.declared.Answer.TheVariants.{Opened, Cancelled, Stray, Kept, HandedOut, Refused}
use Rattle.listener.specs.declared.Heard.{Heard}
use Rattle.listener.specs.State.{sound, held_bytes, holding, empty_listener}

-- an answer that hands nothing out, with the next state
abbrev pub quiet : Answer → Listener → Heard
quiet answer l = record { answer = answer; listener = l; bytes = pad_to 18 []; count = 0 }

-- a refusal leaves the state unchanged
abbrev pub refused_by : Refusal → Listener → Heard
refused_by r l = quiet (Refused r) l

-- the datagram is complete: its bytes and their number, the rest 0; nothing is held now
abbrev pub handed : List ℕ → Heard
handed xs = record { answer = HandedOut; listener = empty_listener; bytes = pad_to 18 xs; count = length xs }

-- a command symbol: opened if nothing is held, else cancelled; its byte alone is held
abbrev pub command_symbol : List ℕ → ℕ → Heard
command_symbol [] byte = quiet Opened (holding (byte ∷ []))
command_symbol (x ∷ xs) byte = quiet Cancelled (holding (byte ∷ []))

-- the bytes with the new one: handed out where that is the declared length, else kept
abbrev pub reaching : List ℕ → Heard
reaching xs = cond (eqb (length xs) (declared (get_or xs 1 0))) (handed xs) (quiet Kept (holding xs))

-- another symbol: a stray if nothing is held
abbrev pub other_symbol : List ℕ → ℕ → Heard
other_symbol [] byte = quiet Stray empty_listener
other_symbol (x ∷ xs) byte = reaching ((x ∷ xs) ++ (byte ∷ []))

-- one symbol 0..511, with these bytes held
unfoldable pub step : List ℕ → ℕ → Heard
step xs symbol = cond (leb 256 symbol) (command_symbol xs (symbol - 256)) (other_symbol xs symbol)

-- one call: refusal 1, then 2, then the step
unfoldable pub hear_of : Listener → ℕ → Heard
hear_of l symbol =
    cond (ltb 511 symbol) (refused_by symbol_above l)
    (cond (sound l) (step (held_bytes l) symbol) (refused_by not_sound l))
