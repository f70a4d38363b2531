-- The lines of a listing (rules 10.1 to 10.3).
use Rattle.std.specs.Prelude.{ℕ, List, ◌++◌, Result, Ok, Err}
use Rattle.datagram.specs.declared.Refusal.{Refusal}
use Rattle.message.specs.declared.Message.{Message}
use Rattle.message.specs.Fields.{kind_of, fields_of}
use Rattle.message.specs.Reading.{read_of}
use Rattle.listing.specs.Names.{name_of}
use Rattle.listing.specs.Text.{ascii, decimal, spaced_hex, spaced_numbers}

-- the kind's name, and the fields in table order
abbrev pub message_text : Message → List ℕ
message_text m = ascii " " ++ (name_of (kind_of m) ++ spaced_numbers (fields_of m))

abbrev pub refused_text : Refusal → List ℕ
refused_text r = ascii " refused " ++ decimal r.number

-- what a datagram was read as, or what refused it
abbrev pub content_of : Result Message Refusal → List ℕ
content_of (Ok m) = message_text m
content_of (Err r) = refused_text r

-- the decimal time, the bytes in hex, the content, and the line's end
abbrev pub line_of : ℕ → List ℕ → List ℕ
line_of time bytes = decimal time ++ (spaced_hex bytes ++ (content_of (read_of bytes) ++ ascii "\n"))

abbrev pub header_line : List ℕ
header_line = ascii "bus listing 1\n"

abbrev pub stopped_line : ℕ → ℕ → List ℕ
stopped_line number place = ascii "stopped " ++ (decimal number ++ (ascii " at " ++ (decimal place ++ ascii "\n")))

abbrev pub count_line : ℕ → ℕ → ℕ → List ℕ
count_line handed cancelled stray =
    ascii "handed "
    ++ (decimal handed ++ (ascii " cancelled " ++ (decimal cancelled ++ (ascii " stray " ++ (decimal stray ++ ascii "\n")))))
