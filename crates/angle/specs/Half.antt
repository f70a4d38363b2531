-- The half-degree angle of 53 and 89: 180*(U&3) + 4*six + (U&C)/4, six at most 44 (rules 4.5).
use Rattle.std.specs.Prelude.{ℕ, ◌+◌, ◌*◌, ◌/◌, ◌%◌}
use Rattle.angle.specs.declared.Digits.{Digits}

abbrev pub half_angle : ℕ → ℕ → ℕ
half_angle u six = 180 * (u % 4) + 4 * six + u / 4 % 4

abbrev pub half_digits : ℕ → Digits
half_digits halves = record { u = halves / 180 % 4 + 4 * (halves % 4); six = halves % 180 / 4 }
