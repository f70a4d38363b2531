-- What a C call returns, and what the lent result holds afterwards (rules 11.1).
use Rattle.std.specs.Prelude.{ℕ, ◌+◌, ◌*◌, ◌%◌, List, ℤ, pos, neg_ℤ, length, Result, Ok, Err}
use Rattle.datagram.specs.declared.Refusal.{Refusal}
use Rattle.datagram.specs.Refusals.{no_room}
use Rattle.datagram.specs.Front.{at_front}

pub record Returned : Type 0 where
  pub code : ℤ
  pub result : List ℕ

abbrev pub returned : ℤ → List ℕ → Returned
returned code result = record { code = code; result = result }

-- a refusal is returned as minus its number and 256 times its place, which has 23 bits
unfoldable pub code_of : Refusal → ℤ
code_of r = neg_ℤ (pos (r.number + 256 * (r.place % 8388608)))

-- what a call returns: how many bytes it stored, or the refusal's code
abbrev pub told : Result ℕ Refusal → ℤ
told (Ok n) = pos n
told (Err r) = code_of r

-- a refusal leaves the result as it was
abbrev pub refused : Refusal → List ℕ → Returned
refused r result = returned (code_of r) result

-- these bytes at the front of the result and their number, or refusal 8 where there is no room
abbrev pub stored_result : List ℕ → List ℕ → Returned
stored_result bytes result = at_front (length bytes) bytes result (λ n. returned (pos n)) (refused no_room)
