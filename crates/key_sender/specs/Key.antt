-- The key sender is the offer of that datagram 86 with wait 0 and limit 3 (rules 8.1).
use Rattle.std.specs.Prelude.{ℕ, Result, Ok, Err, ⊤}
use Rattle.message.specs.declared.Message.{Message}
use Rattle.message.specs.declared.Message.TheVariants.{Key}
use Rattle.message.specs.Range.{range_of}
use Rattle.message.specs.Spelling.{bytes_of}
use Rattle.sender.specs.declared.Offered.{Offered}
use Rattle.sender.specs.Step.{offer_of, refused_offer}
use Rattle.datagram.specs.declared.Refusal.{Refusal}

-- the message as the writer spells it, or the writer's refusal with the all-zero sender
abbrev pub offered_by : Result ⊤ Refusal → Message → Offered
offered_by (Ok tt) m = offer_of (bytes_of m) 0 3
offered_by (Err r) m = refused_offer r

unfoldable pub key_of : ℕ → ℕ → Offered
key_of source code = offered_by (range_of (Key source code)) (Key source code)
