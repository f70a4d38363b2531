-- The tables of digit pairs hold the pair of each number in order, as the check finds by computing both.
use Rattle.std.proofs.Common.{ℕ, ◌<◌, ◌≡◌, [], get_or, arith}
use Rattle.std.proofs.lemmas.List.FromFn.{get_or-map-range_with_len}
use Rattle.listing.specs.Text.{hex_byte, pair_of}
use Rattle.listing.specs.declared.TheConstants.{HEX_PAIRS, DECIMAL_PAIRS}

pub hex_pair : (b : ℕ) → b < 256 → get_or HEX_PAIRS b [] ≡ hex_byte b
hex_pair b h = get_or-map-range_with_len hex_byte 0 256 b b [] h (omega arith)

pub decimal_pair : (n : ℕ) → n < 100 → get_or DECIMAL_PAIRS n [] ≡ pair_of n
decimal_pair n h = get_or-map-range_with_len pair_of 0 100 n n [] h (omega arith)
