-- The recording of rules 10.4 with a symbol above 511 put in: the premise of demand 3 can be met.
use mathlib.Core.Path.{◌≡◌, refl}
use mathlib.Core.List.{List, [], ◌∷◌}
use native.Mathlib.Omega.{arith}
use lib.IntN.{pos}
use Rattle.message.specs.declared.Message.{Message}
use Rattle.message.specs.declared.Message.TheVariants.{Speed, Variation}
use Rattle.message.specs.Range.{range_of}
use Rattle.message.specs.Spelling.{bytes_of}
use Rattle.listener_laws.specs.Form.{nothing, hands, refusal, Call, call, symbols_in, none, one_more, cut_short, no_attempt, attempt_then, no_message, message_then, Sounded, sounded, mixed_end, as_it_is, above, HeardAs}

-- a speed of 6.2 knots, then a variation of 2 degrees east
abbrev pub messages : List Message
messages = Speed 62 ∷ Variation (pos 2) ∷ []

-- without the symbol above 511
abbrev clean : List Call
clean =
    call 0x03E nothing
    ∷ call 0x120 nothing ∷ call 0x001 nothing
    ∷ call 0x120 nothing ∷ call 0x001 nothing ∷ call 0x03E nothing ∷ call 0x000 (hands (Speed 62))
    ∷ call 0x199 nothing ∷ call 0x000 nothing ∷ call 0x0FE (hands (Variation (pos 2)))
    ∷ []

-- a stray; an attempt that is cut short; the speed, with 0x300 in it; the variation
abbrev pub calls : List Call
calls =
    call 0x03E nothing
    ∷ call 0x120 nothing ∷ call 0x001 nothing
    ∷ call 0x120 nothing ∷ call 0x001 nothing ∷ call 0x03E nothing ∷ call 0x300 refusal ∷ call 0x000 (hands (Speed 62))
    ∷ call 0x199 nothing ∷ call 0x000 nothing ∷ call 0x0FE (hands (Variation (pos 2)))
    ∷ []

pub the_symbols : symbols_in calls
    ≡ 0x03E ∷ 0x120 ∷ 0x001 ∷ 0x120 ∷ 0x001 ∷ 0x03E ∷ 0x300 ∷ 0x000 ∷ 0x199 ∷ 0x000 ∷ 0x0FE ∷ []
the_symbols = refl

in_form : Sounded messages clean
unfolding range_of bytes_of
in_form =
    sounded
    (one_more {s = 0x03E} (omega arith) none)
    (attempt_then (cut_short {command = 0x20} {second = 0x01} (omega arith) (omega arith) none (omega arith)) no_attempt)
    (message_then refl none no_attempt (message_then refl none no_attempt no_message))

pub recording : HeardAs messages calls
recording =
    record {
      clean = clean;
      form = in_form;
      mixed =
          as_it_is (as_it_is (as_it_is (as_it_is (as_it_is (as_it_is
          (above {s = 0x300} (omega arith)
          (as_it_is (as_it_is (as_it_is (as_it_is mixed_end))))))))));
    }
