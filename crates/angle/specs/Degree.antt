-- The whole-degree angle of 9C and 84: 90*(U&3) + 2*six + the ones among the two high bits of U, modulo 360; right when U&8
-- (rules 4.6).
use Rattle.std.specs.Prelude.{ℕ, ◌+◌, ◌*◌, ◌/◌, ◌%◌, Bool, true, false, eqb}
use Rattle.angle.specs.declared.Digits.{Digits}

-- the number of ones among the two high bits of U
abbrev pub ones : ℕ → ℕ
ones u = u / 8 % 2 + u / 4 % 2

abbrev pub whole_angle : ℕ → ℕ → ℕ
whole_angle u six = (90 * (u % 4) + 2 * six + ones u) % 360

abbrev pub turns_right : ℕ → Bool
turns_right u = eqb (u / 8 % 2) 1

-- the digits of a number of degrees to which `high` (8 or 0) and its last bit are added in the two high bits
abbrev pub digits_from : ℕ → ℕ → Digits
digits_from degrees high = record { u = degrees / 90 % 4 + 4 * (degrees % 2) + high; six = degrees % 90 / 2 }

-- turning right, the high bits count at least one: the rest of the angle is spelled from one degree less
abbrev pub whole_digits : ℕ → Bool → Digits
whole_digits degrees true = digits_from ((degrees % 360 + 359) % 360) 8
whole_digits degrees false = digits_from (degrees % 360) 0
