-- A writer's answer as one number, and what the lent buffer holds afterwards.
use Rattle.std.specs.Prelude.{ℕ, ◌+◌, ◌-◌, ◌*◌, ◌%◌, List, Result, Ok, Err}
use Rattle.datagram.specs.Position.{Outcome}
use Rattle.datagram.specs.declared.Refusal.{Refusal}

-- the number of bytes stored, or 2^64 - 1 minus the refusal's number and 256 times its place, which has 24 bits
unfoldable pub code_of : Result ℕ Refusal → ℕ
code_of (Ok n) = n
code_of (Err r) = 18446744073709551615 - (r.number + 256 * (r.place % 16777216))

abbrev pub shown : Outcome → ℕ × List ℕ
shown o = (code_of o.answer, o.buffer)
