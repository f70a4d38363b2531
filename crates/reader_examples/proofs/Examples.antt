-- The claim over the worked examples, computed, and what it says of each row of the program's table.
use Rattle.std.proofs.Common.{◌≡◌, ℕ, ◌<◌, List, map, length, get_or, Option, None, refl, sym, ap, ◌∙◌}
use Rattle.std.proofs.lemmas.List.{get_or-map}
use Rattle.std.proofs.lemmas.Simd.{map-map}
use Rattle.datagram.specs.Whole.{whole}
use Rattle.message.specs.Fields.{kind_of, fields_of}
use Rattle.message.specs.Range.{range_of}
use Rattle.message.specs.Reading.{read_of, read_kind}
use Rattle.message.specs.Table.{find_of, kinds}
use Rattle.reader_examples.specs.declared.Row.{Row}
use Rattle.reader_examples.specs.Examples.{outcome_of, Example, examples, Examples}
use Rattle.reader_examples.specs.Rows.{refusal_in, IsTable}

pub claim : Examples
unfolding examples kind_of fields_of read_of read_kind range_of find_of kinds whole
claim = refl

-- so each row of the table gets the refusal that it says
pub row_right : (rows : List Row) (i : ℕ) (d : Row) → IsTable rows → i < length rows
    → refusal_in (outcome_of (read_of (get_or rows i d).bytes.now)) ≡ (get_or rows i d).refusal
row_right rows i d t h =
    let of_bytes = λ (bs : List ℕ). refusal_in (outcome_of (read_of bs)) in
    let told : map (λ (r : Row). of_bytes r.bytes.now) rows ≡ map (λ (r : Row). r.refusal) rows =
    sym (map-map of_bytes (λ (r : Row). r.bytes.now) rows)
    ∙ ap (map of_bytes) t.0
    ∙ map-map of_bytes (λ (e : Example). e.bytes) examples
    ∙ sym (map-map refusal_in (λ (e : Example). outcome_of (read_of e.bytes)) examples)
    ∙ ap (map refusal_in) claim
    ∙ map-map refusal_in (λ (e : Example). e.expected) examples
    ∙ sym t.1
    in
    sym (get_or-map (λ (r : Row). of_bytes r.bytes.now) rows i d None h)
    ∙ ap (λ (l : List (Option ℕ)). get_or l i None) told
    ∙ get_or-map (λ (r : Row). r.refusal) rows i d None h
