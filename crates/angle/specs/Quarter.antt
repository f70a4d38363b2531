-- Half degrees by the quarter that they are in (89 and 84): 180*(V/4) + XY, XY at most 179 (rules 4.7).
use Rattle.std.specs.Prelude.{ℕ, ◌+◌, ◌*◌, ◌/◌, ◌%◌}
use Rattle.angle.specs.declared.Quarter.{Quarter}

abbrev pub quarter_angle : ℕ → ℕ → ℕ
quarter_angle quarter xy = 180 * quarter + xy

abbrev pub quarter_digits : ℕ → Quarter
quarter_digits halves = record { quarter = halves / 180 % 4; xy = halves % 180 }
