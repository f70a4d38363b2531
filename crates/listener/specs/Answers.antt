-- The three sorts of answer that a listing counts.
use Rattle.std.specs.Prelude.{Bool, true, false}
use Rattle.listener.specs.declared.Answer.{Answer}
use Rattle.listener.specs.declared.Answer.TheVariants as answer

abbrev pub is_handed : Answer → Bool
is_handed answer.Opened = false
is_handed answer.Cancelled = false
is_handed answer.Stray = false
is_handed answer.Kept = false
is_handed answer.HandedOut = true
is_handed (answer.Refused r) = false

abbrev pub is_cancelled : Answer → Bool
is_cancelled answer.Opened = false
is_cancelled answer.Cancelled = true
is_cancelled answer.Stray = false
is_cancelled answer.Kept = false
is_cancelled answer.HandedOut = false
is_cancelled (answer.Refused r) = false

abbrev pub is_stray : Answer → Bool
is_stray answer.Opened = false
is_stray answer.Cancelled = false
is_stray answer.Stray = true
is_stray answer.Kept = false
is_stray answer.HandedOut = false
is_stray (answer.Refused r) = false
