-- Demand 3 about the autopilot's datagram: north turning right in 84 and in 9C, and what the listener and the reader make of it, computed.
use Rattle.std.specs.Prelude.{Ok}
use mathlib.Core.Path.{◌≡◌, refl}
use mathlib.Core.Bool.{true, false}
use mathlib.Core.List.{List, [], ◌∷◌, map}
use native.Mathlib.Omega.{arith}
use lib.IntN.{pos, neg_ℤ}
use Rattle.datagram.specs.Padding.{pad_to}
use Rattle.datagram.specs.Whole.{whole}
use Rattle.listener.specs.State.{sound, empty_listener}
use Rattle.listener.specs.Step.{step, hear_of}
use Rattle.message.specs.declared.Message.{Message}
use Rattle.message.specs.declared.Message.TheVariants.{Pilot, Turn}
use Rattle.message.specs.Table.{find_of, kinds}
use Rattle.message.specs.Range.{range_of}
use Rattle.message.specs.Reading.{read_kind, read_of}
use Rattle.message.specs.Spelling.{bytes_of}
use Rattle.listener_laws.specs.Form.{nothing, hands, refusal, Call, call, symbols_in, none, one_more, cut_short, no_attempt, attempt_then, no_message, message_then, Sounded, sounded, mixed_end, as_it_is, above, HeardAs}
use Rattle.listener_laws.specs.Demand.{run, handed_out}
use Rattle.listener_laws.proofs.Demand.{demand3}

-- north turning right, the pilot's course 359.5 degrees, auto and track, off course, rudder 2 degrees left
abbrev pilot : Message
pilot = Pilot 0 true 719 true false true true false (neg_ℤ (pos 2)) 2 8

-- the same heading and rudder in 9C
abbrev turn : Message
turn = Turn 0 true (neg_ℤ (pos 2))

abbrev messages : List Message
messages = pilot ∷ turn ∷ []

-- without the symbol above 511
abbrev clean : List Call
clean =
    call 0x184 nothing ∷ call 0x0F6 nothing ∷ call 0x0EC nothing
    ∷ call 0x184 nothing ∷ call 0x0F6 nothing ∷ call 0x0EC nothing ∷ call 0x0B3 nothing ∷ call 0x00A nothing
    ∷ call 0x004 nothing ∷ call 0x0FE nothing ∷ call 0x002 nothing ∷ call 0x008 (hands pilot)
    ∷ call 0x02C nothing
    ∷ call 0x19C nothing ∷ call 0x0F1 nothing ∷ call 0x02C nothing ∷ call 0x0FE (hands turn)
    ∷ []

-- an attempt that is cut short; the 84, with 512 in it, and a stray behind it; the 9C
abbrev calls : List Call
calls =
    call 0x184 nothing ∷ call 0x0F6 nothing ∷ call 0x0EC nothing
    ∷ call 0x184 nothing ∷ call 0x0F6 nothing ∷ call 0x0EC nothing ∷ call 0x200 refusal ∷ call 0x0B3 nothing
    ∷ call 0x00A nothing ∷ call 0x004 nothing ∷ call 0x0FE nothing ∷ call 0x002 nothing ∷ call 0x008 (hands pilot)
    ∷ call 0x02C nothing
    ∷ call 0x19C nothing ∷ call 0x0F1 nothing ∷ call 0x02C nothing ∷ call 0x0FE (hands turn)
    ∷ []

in_form : Sounded messages clean
unfolding range_of bytes_of
in_form =
    sounded none
    (attempt_then (cut_short {command = 0x84} {second = 0xF6} (omega arith) (omega arith) (one_more {s = 0xEC} (omega arith) none) (omega arith)) no_attempt)
    (message_then refl (one_more {s = 0x2C} (omega arith) none) no_attempt (message_then refl none no_attempt no_message))

pub recording : HeardAs messages calls
recording =
    record {
      clean = clean;
      form = in_form;
      mixed =
          as_it_is (as_it_is (as_it_is (as_it_is (as_it_is (as_it_is
          (above {s = 0x200} (omega arith)
          (as_it_is (as_it_is (as_it_is (as_it_is (as_it_is (as_it_is
          (as_it_is (as_it_is (as_it_is (as_it_is (as_it_is mixed_end)))))))))))))))));
    }

-- by demand 3
pub by_demand : map read_of (handed_out (run hear_of empty_listener (symbols_in calls))) ≡ map Ok messages
by_demand = demand3.read_as messages calls recording

-- and by the definitions alone, from the symbols
pub computed : map read_of (handed_out (run hear_of empty_listener (symbols_in calls))) ≡ Ok pilot ∷ Ok turn ∷ []
unfolding sound step pad_to hear_of read_of find_of kinds read_kind range_of whole
computed = refl
