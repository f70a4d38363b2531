-- Each call keeps soundness, so a list of them does; and an empty listener is the one that demand 3 starts from.
use mathlib.Core.Path.{◌≡◌, refl}
use mathlib.Core.Bool.{true}
use mathlib.Core.List.{List, [], ◌∷◌}
use Prim.Native.Nat.{ℕ}
use Rattle.datagram.specs.Padding.{pad_to}
use Rattle.listener.specs.declared.Listener.{Listener}
use Rattle.listener.specs.State.{sound, empty, empty_listener}
use Rattle.listener.specs.Step.{hear_of}
use Rattle.listener.proofs.Sound.{empty_is}
use Rattle.listener.proofs.Stays.{hear_sound}
use Rattle.listener_laws.specs.Laws.{after, Empty, ListenerLaws}
use Rattle.listener_laws.proofs.Demand.{demand3}

stays_sound : (l : Listener) (symbols : List ℕ) → sound l ≡ true → sound (after l symbols) ≡ true
stays_sound l [] s = s
stays_sound l (symbol ∷ symbols) s = stays_sound (hear_of l symbol).listener symbols (hear_sound l symbol s)

one_empty : (l : Listener) → Empty l → l ≡ empty_listener
one_empty l e = empty_is l e.array e.is_empty

pub listener_laws : ListenerLaws
unfolding empty sound pad_to
listener_laws =
    record {
      stays_sound = stays_sound;
      starts_empty = record { array = refl; is_empty = refl };
      one_empty = one_empty;
      shown_from = λ l e ms calls heard. rw (one_empty l e) (demand3.shown ms calls heard);
      read_from_lem = λ l e ms calls heard. rw (one_empty l e) (demand3.read_as ms calls heard);
    }
