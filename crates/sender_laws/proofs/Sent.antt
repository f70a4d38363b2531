-- Without a failure, what was sent before a call and what it sends are the datagram's symbols up to where the call leaves the sender.
use Prim.Native.Nat.{ℕ, ◌+◌, ◌<◌}
use native.Mathlib.Numerals.{add-one}
use native.Mathlib.Omega.{arith}
use mathlib.Core.Path.{◌≡◌, ap, ◌∙◌}
use mathlib.Core.Bool.{Bool, false, ◌||◌}
use mathlib.Core.List.{List, [], ◌∷◌, ◌++◌, append-nil, append_assoc}
use lib.ListN.{length, get_or, take, length-take}
use lib.Seq.{take-suc, take_all}
use Rattle.std.proofs.lemmas.Grind.{common_steps}
use Rattle.datagram.proofs.Whole.{as_many}
use Rattle.datagram.specs.Whole.{declared, symbols}
use Rattle.sender.specs.declared.Phase.TheVariants as phase
use Rattle.sender.specs.declared.Sender.{Sender}
use Rattle.sender.specs.declared.Outcome.{Outcome}
use Rattle.sender.specs.State.{length_of, bytes_of}
use Rattle.sender.proofs.State.{awaits}
use Rattle.sender_laws.specs.Run.{Terms, Call, called, answers, after, with_sent, sent, fails, some_fails, sent_by}
use Rattle.sender_laws.proofs.Sound.{all_bytes_lem}
use Rattle.sender_laws.proofs.Moves.{Move, stays, starts, goes_on, finishes, waits_again, gives_up, move}
use Rattle.sender_laws.proofs.Kept.{after_terms}

-- the symbols of a datagram that a sender has sent since it last waited
abbrev sent_of : List ℕ → Sender → List ℕ
sent_of d s = let size = declared (get_or d 1 0) in take (sent_by s.phase s.position size) (symbols (take size d))

-- the same of its own
abbrev sent_in : Sender → List ℕ
sent_in s = sent_of s.datagram s

next_sent : (xs : List ℕ) (i : ℕ) (later : List ℕ) → i < length xs → take i xs ++ (get_or xs i 0 ∷ later) ≡ take (i + 1) xs ++ later
next_sent xs i later h = rw (add-one i, take-suc xs i 0 h, append_assoc)

move_sent : {s : Sender} {c : Call} {o : Outcome} → Move s c o → fails o.answer ≡ false → (later : List ℕ)
    → sent_in s ++ with_sent o.answer later ≡ sent_in o.sender ++ later
move_sent (stays answer quiet unheard) n later = rw (quiet later)
move_sent {s} (starts h e) n later =
    let full = all_bytes_lem s h in
    rw e (next_sent (symbols (bytes_of s)) 0 later (rw as_many (omega arith)))
move_sent {s} (goes_on h e more) n later =
    let full = all_bytes_lem s h in
    let a = awaits s h e in
    rw e (next_sent (symbols (bytes_of s)) (s.position + 1) later (rw as_many (omega arith)))
move_sent {s} (finishes h e end) n later = rw (e, end)
move_sent (waits_again h e more) n later = cc
move_sent (gives_up h e all) n later = cc

neither : (a b : Bool) → (a || b) ≡ false → (a ≡ false) × (b ≡ false)
neither a b e = grind (arith, common_steps)

-- what was sent before these calls and what they send
in_order : (s : Sender) (calls : List Call) → some_fails (answers s calls) ≡ false
    → sent_in s ++ sent (answers s calls) ≡ sent_in (after s calls)
in_order s [] n = append-nil (sent_in s)
in_order s (c ∷ cs) n =
    let two = neither (fails (called s c).answer) (some_fails (answers (called s c).sender cs)) n in
    move_sent (move s c) two.0 (sent (answers (called s c).sender cs)) ∙ in_order (called s c).sender cs two.1

pub sent_so_far : (s : Sender) (calls : List Call) → s.phase ≡ phase.Waiting → some_fails (answers s calls) ≡ false
    → sent (answers s calls) ≡ take (sent_by (after s calls).phase (after s calls).position (length_of s)) (symbols (bytes_of s))
sent_so_far s calls e n =
    let none : sent_in s ≡ [] = rw e in
    let all = rw none at (in_order s calls n) in
    all ∙ ap (λ (d : List ℕ). sent_of d (after s calls)) (ap (λ (t : Terms). t.datagram) (after_terms s calls))

pub sent_all : (s : Sender) (calls : List Call) → s.phase ≡ phase.Waiting → some_fails (answers s calls) ≡ false
    → (after s calls).phase ≡ phase.Done → sent (answers s calls) ≡ symbols (bytes_of s)
sent_all s calls e n done =
    rw done at (sent_so_far s calls e n) ∙ take_all (length_of s) (symbols (bytes_of s)) (rw (as_many, length-take) (omega arith))
