-- Command symbols are sent at most as often as attempts are left: a start sends one and leaves one attempt fewer, no other move leaves more,
-- and what follows the first byte is below 256.
use Prim.Native.Nat.{ℕ, suc, ◌≤◌, ◌<◌}
use native.Mathlib.Numerals.{add-one}
use native.Mathlib.Omega.{arith}
use mathlib.Core.Path.{◌≡◌}
use mathlib.Core.Bool.{true, and-eq-true_iff}
use mathlib.Core.List.{List, [], ◌∷◌}
use borrow.Author.Tests.{lt-leb}
use lib.Dec.{ltb}
use lib.ListN.{get_or}
use Rattle.datagram.specs.Whole.{symbols, all_bytes}
use Rattle.datagram.proofs.Whole.{below_at}
use Rattle.sender.specs.declared.Sender.{Sender}
use Rattle.sender.specs.declared.Outcome.{Outcome}
use Rattle.sender.specs.State.{bytes_of, symbol_at}
use Rattle.sender_laws.specs.Run.{Call, called, answers, with_sent, sent, commands, starts_left}
use Rattle.std.proofs.lemmas.Bool.Decides.{nat_tests}
use Rattle.sender_laws.proofs.Sound.{waiting_left}
use Rattle.sender_laws.proofs.Moves.{Move, stays, starts, goes_on, finishes, waits_again, gives_up, move}
use Rattle.sender_laws.proofs.Kept.{move_datagram}

-- past the first, a symbol carries no command bit
data_symbol : (bytes : List ℕ) (i : ℕ) → all_bytes bytes ≡ true → get_or (symbols bytes) (suc i) 0 < 256
data_symbol [] i b = omega arith
data_symbol (x ∷ xs) i b = below_at 256 xs i (omega arith) ((and-eq-true_iff (ltb x 256) (all_bytes xs)).0 b).1

move_starts : {s : Sender} {c : Call} {o : Outcome} → Move s c o → all_bytes (bytes_of s) ≡ true → (later : List ℕ)
    → commands later ≤ starts_left o.sender.phase o.sender.failures o.sender.limit
    → commands (with_sent o.answer later) ≤ starts_left s.phase s.failures s.limit
move_starts (stays answer quiet unheard) b later k = rw (quiet later) k
move_starts {s} (starts h e) b later k =
    let left = waiting_left s h e in
    rw e (grind (arith, nat_tests))
move_starts {s} (goes_on h e more) b later k =
    rw (e, add-one s.position, lt-leb 256 (symbol_at s (suc s.position)) (data_symbol (bytes_of s) s.position b)) k
move_starts {s} (finishes h e end) b later k = rw e (omega arith)
move_starts {s} (waits_again h e more) b later k = rw e (omega arith)
move_starts {s} (gives_up h e all) b later k = rw e (omega arith)

pub starts_bounded : (s : Sender) (calls : List Call) → all_bytes (bytes_of s) ≡ true
    → commands (sent (answers s calls)) ≤ starts_left s.phase s.failures s.limit
starts_bounded s [] b = omega arith
starts_bounded s (c ∷ cs) b =
    let m = move s c in
    move_starts m b (sent (answers (called s c).sender cs)) (starts_bounded (called s c).sender cs (rw (move_datagram m) b))
