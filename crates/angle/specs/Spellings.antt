-- The list of the 720 spellings of whole degrees with the turning way (rules 4.6): a number e of it is 256 * U + six.
use Rattle.std.specs.Prelude.{ℕ, suc, ◌+◌, ◌/◌, ◌%◌, Bool, true, false, cond, ◌&&◌, List, [], ◌∷◌, eqb, leb, ltb}
use Rattle.std.specs.Bool.{beq}
use Rattle.angle.specs.Degree.{whole_angle, turns_right}

-- where the list has a degree with its turning way
abbrev pub index_of : ℕ → Bool → ℕ
index_of degrees true = degrees % 360 + 360
index_of degrees false = degrees % 360

-- U is a digit and six at most 44
abbrev pub are_digits : ℕ → Bool
are_digits e = ltb (e / 256) 16 && ltb (e % 256) 45

-- they read as number k's own degree and turning way
abbrev pub read_as : ℕ → ℕ → Bool
read_as k e = eqb (whole_angle (e / 256) (e % 256)) (k % 360) && beq (turns_right (e / 256)) (leb 360 k)

abbrev pub reads_back : ℕ → ℕ → Bool
reads_back k e = are_digits e && read_as k e

-- of numbers that are counted from k on, which is the first that does not read back; where all do, the one behind the last
unfoldable pub first_fault : ℕ → List ℕ → ℕ
first_fault k [] = k
first_fault k (e ∷ es) = cond (reads_back k e) (first_fault (suc k) es) k
