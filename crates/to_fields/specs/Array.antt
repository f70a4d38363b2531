-- The fields of a message in an array.
use Rattle.std.specs.Prelude.{◌-◌, List, ◌++◌, ℤ, pos, length, replicate}
use Rattle.to_fields.specs.declared.Fields.{Fields}

-- fields in an array of twelve: the numbers, then zeros, and their number
abbrev pub array_of : List ℤ → Fields
array_of fields = record { values = fields ++ replicate (12 - length fields) (pos 0); count = length fields }
