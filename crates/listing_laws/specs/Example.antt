-- The recording of rules 10.4, and the four lines that it lists as.
use Rattle.std.specs.Prelude.{ℕ, ◌≡◌, List, ◌++◌}
use Rattle.recording.specs.Record.{record_bytes}
use Rattle.listing.specs.Text.{ascii}
use Rattle.listing.specs.Walk.{listing_of}

abbrev pub ten_symbols : List ℕ
ten_symbols =
    record_bytes 100 0x03E
    ++ (record_bytes 200 0x120 ++ (record_bytes 211 0x001
    ++ (record_bytes 300 0x120 ++ (record_bytes 311 0x001 ++ (record_bytes 322 0x03E ++ (record_bytes 333 0x000
    ++ (record_bytes 400 0x199 ++ (record_bytes 411 0x000 ++ record_bytes 422 0x0FE))))))))

abbrev pub four_lines : List ℕ
four_lines =
    ascii "bus listing 1\n"
    ++ (ascii "333 20 01 3E 00 speed 62\n"
    ++ (ascii "422 99 00 FE variation 2\n"
    ++ ascii "handed 2 cancelled 1 stray 1\n"))

abbrev pub ExampleListed : Type 0
ExampleListed = listing_of ten_symbols ≡ four_lines
