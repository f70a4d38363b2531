-- The program's table is that of the examples.
use Rattle.std.specs.Prelude.{ℕ, ◌≡◌, List, map, Option, Some, None}
use Rattle.reader_examples.specs.declared.Row.{Row}
use Rattle.reader_examples.specs.Examples.{Outcome, reads, refuses, Example, examples}

-- a refusal's number, none for a message
abbrev pub refusal_in : Outcome → Option ℕ
refusal_in (reads command fields) = None
refusal_in (refuses number) = Some number

-- row by row, the example's bytes and the refusal that they get
abbrev pub IsTable : List Row → Type 0
IsTable rows =
    (map (λ (r : Row). r.bytes.now) rows ≡ map (λ (e : Example). e.bytes) examples)
    × (map (λ (r : Row). r.refusal) rows ≡ map (λ (e : Example). refusal_in e.expected) examples)
