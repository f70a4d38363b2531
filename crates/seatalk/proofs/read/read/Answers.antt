-- `read` places what the reader gives; what is read is in range.
use mathlib.Core.Path.{sym, ◌∙◌}
use Rattle.roundtrip_laws.proofs.RoundTrip.{round_trip}
use Rattle.seatalk.proofs.read.read.Goals as goal

pub put_fields-requires : goal.put_fields-requires
put_fields-requires c = round_trip.read_in_range _ _ (sym c.read.ensures ∙ c.in_ok-m.was)
