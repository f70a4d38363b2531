-- The ten symbols of rules 10.4 list as its four lines: the definition of a listing, computed.
use mathlib.Core.Path.{refl}
use Rattle.datagram.specs.Padding.{pad_to}
use Rattle.datagram.specs.Whole.{whole}
use Rattle.listener.specs.State.{sound}
use Rattle.listener.specs.Step.{step, hear_of}
use Rattle.message.specs.Fields.{kind_of, fields_of}
use Rattle.message.specs.Range.{range_of}
use Rattle.message.specs.Reading.{read_kind, read_of}
use Rattle.message.specs.Table.{kinds, find_of}
use Rattle.recording.specs.Record.{record_of}
use Rattle.listing.specs.Text.{decimal}
use Rattle.framing.specs.Walk.{walk_all}
use Rattle.listing.specs.Walk.{listing_of}
use Rattle.listing_laws.specs.Example.{ExampleListed}

pub ten_symbols_lem : ExampleListed
unfolding pad_to whole sound step hear_of kind_of fields_of range_of read_kind read_of kinds find_of record_of decimal walk_all listing_of
ten_symbols_lem = refl
