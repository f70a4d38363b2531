-- Records ahead of an empty listener: a stray, a datagram that a command symbol cancels, or a datagram that is handed out at
-- the last of them. The first records of a datagram are kept one by one.
use mathlib.Core.Path.{◌≡◌, refl, sym, ap, ◌∙◌}
use mathlib.Core.Bool.{Bool, true, false, cond}
use mathlib.Core.List.{List, [], ◌∷◌}
use Prim.Native.Nat.{ℕ, zero, suc, ◌+◌, ◌-◌, ◌*◌, ◌≤◌, ◌<◌}
use native.Mathlib.Nat.{sub-zero}
use native.Mathlib.Omega.{arith}
use borrow.Author.Tests.{eq-eqb, ne_eqb}
use lib.Dec.{eqb}
use lib.ListN.{length, get_or, take}
use lib.Seq.{take-suc, get_or-take, length-take-le}
use Rattle.datagram.specs.Whole.{declared}
use Rattle.datagram.specs.Padding.{pad_to}
use Rattle.datagram.proofs.Padding.{take_pad}
use Rattle.listener.specs.State.{holding, empty_listener}
use Rattle.listener.specs.Step.{hear_of, reaching, handed, quiet}
use Rattle.listener.specs.declared.Listener.{Listener}
use Rattle.listener.specs.declared.Heard.{Heard}
use Rattle.listener.specs.declared.Answer.TheVariants.{Opened, Cancelled, Stray, Kept}
use Rattle.listener.proofs.Held.{Unfinished, on_command, on_other}
use Rattle.listener.proofs.Started.{other_reaches, command_cancels}
use Rattle.recording.specs.Record.{record_of, time_at, byte_of, heard}
use Rattle.progress.specs.declared.Progress.{Progress}
use Rattle.progress.specs.Progress.{advanced, counted, tallied}
use Rattle.framing.specs.Walk.{Line, Walk, behind, walk_from, entry_of}
use Rattle.framing.proofs.Gathering.{Gathering}
use Rattle.framing.proofs.Walks.{walk_heard}

-- the walk goes on behind the line of what was heard, if it was handed out
abbrev goes_on : Line → List ℕ → ℕ → ℕ → ℕ → ℕ → Progress → Heard → Walk
goes_on line s room more next time q h = behind (entry_of line time h) (walk_from line more s next (advanced q h) (room - length (entry_of line time h)))

module _ (line : Line) (s : List ℕ) (at left room : ℕ) (some : 0 < left) (roomy : 512 ≤ room) (time : ℕ) where
  -- a record that hands nothing out
  quietly : (p : Progress) (symbol : ℕ) (h : Heard) → record_of s at ≡ heard time symbol
      → hear_of p.listener symbol ≡ h → entry_of line time h ≡ []
      → walk_from line left s at p room ≡ walk_from line (left - 1) s (at + 8) (advanced p h) room
  quietly p symbol h heard e none =
      walk_heard line s at p left room some time symbol roomy heard
      ∙ ap (goes_on line s room (left - 1) (at + 8) time p) e
      ∙ rw (none, sub-zero)

  -- a stray
  pub walk_stray : (p : Progress) (b : ℕ) → b < 256 → record_of s at ≡ heard time b → p.listener ≡ empty_listener
      → walk_from line left s at p room ≡ walk_from line (left - 1) s (at + 8) (tallied p false false true) room
  walk_stray p b low heard empty =
      quietly p b (quiet Stray empty_listener) heard (ap (λ (l : Listener). hear_of l b) empty ∙ on_other [] b (omega arith) low) refl
      ∙ rw empty

  -- a command symbol where something is held: as where nothing is, with one datagram more cancelled
  walk_over : (p : Progress) (xs : List ℕ) (b : ℕ) → b < 256 → record_of s at ≡ heard time (256 + b)
      → p.listener ≡ holding xs → 0 < length xs → Unfinished xs
      → walk_from line left s at p room
      ≡ walk_from line left s at (record { listener = empty_listener; handed = p.handed; cancelled = counted true p.cancelled; stray = p.stray }) room
  walk_over p xs b low heard held long u =
      quietly p (256 + b) (quiet Cancelled (holding (b ∷ []))) heard
      (ap (λ (l : Listener). hear_of l (256 + b)) held ∙ on_command xs b u low ∙ command_cancels xs b long) refl
      ∙ sym (quietly (record { listener = empty_listener; handed = p.handed; cancelled = counted true p.cancelled; stray = p.stray }) (256 + b) (quiet Opened (holding (b ∷ []))) heard (on_command [] b (omega arith) low) refl)

-- the first m of the n records of a datagram are gathered
module _ (s : List ℕ) (at m n : ℕ) (bytes : List ℕ) (g : Gathering s at bytes m) (size : n ≡ declared (byte_of s at 14)) (within : m ≤ n) where
  second : 1 < m → n ≡ declared (get_or bytes 1 0)
  second h = size ∙ ap declared (sym ((g.follows 1 (omega arith) h).0 ∙ ap (λ (k : ℕ). get_or s k 0) (omega arith)))

  taken : (i : ℕ) → i ≤ m → length (take i bytes) ≡ i
  taken i h = length-take-le i bytes (omega (arith, size, g.long))

  -- the second byte, once it is there, declares the length
  unfinished : (i : ℕ) → 0 < i → i ≤ m → i < n → Unfinished (take i bytes)
  unfinished zero l h b = absurd (omega arith)
  unfinished (suc zero) l h b = omega (arith, taken 1 h)
  unfinished (suc (suc i)) l h b =
      rw (get_or-take (suc (suc i)) bytes 1 0 (omega arith), taken (suc (suc i)) h) (omega (arith, second (omega arith)))

  hears : (i : ℕ) → 0 < i → i < m → hear_of (holding (take i bytes)) (get_or bytes i 0) ≡ reaching (take (suc i) bytes)
  hears i l h =
      on_other (take i bytes) (get_or bytes i 0) (unfinished i l (omega arith) (omega arith)) (g.follows i l h).1
      ∙ other_reaches (take i bytes) (get_or bytes i 0) (omega (arith, taken i (omega arith)))
      ∙ ap reaching (sym (take-suc bytes i 0 (omega (arith, size, g.long))))

  tested : (i : ℕ) → 0 < i → suc i ≤ m → (t : Bool) → eqb (suc i) n ≡ t
      → reaching (take (suc i) bytes) ≡ cond t (handed (take (suc i) bytes)) (quiet Kept (holding (take (suc i) bytes)))
  tested i l h t e =
      rw (taken (suc i) h, get_or-take (suc i) bytes 1 0 (omega arith), ← second (omega arith), e)

  module _ (line : Line) (p : Progress) (left room : ℕ) (fits : m ≤ left) (roomy : 512 ≤ room) (empty : p.listener ≡ empty_listener) where
    -- the progress with the first bytes held
    abbrev having : ℕ → Progress
    having i = record { listener = holding (take i bytes); handed = p.handed; cancelled = p.cancelled; stray = p.stray }

    opened : hear_of p.listener (256 + get_or bytes 0 0) ≡ quiet Opened (holding (take 1 bytes))
    opened =
        ap (λ (l : Listener). hear_of l (256 + get_or bytes 0 0)) empty
        ∙ on_command [] (get_or bytes 0 0) (omega arith) g.first
        ∙ ap (λ (xs : List ℕ). quiet Opened (holding xs)) (sym (take-suc bytes 0 0 (omega (arith, g.long))))

    kept : (i : ℕ) → 0 < i → i < m → suc i < n → hear_of (holding (take i bytes)) (get_or bytes i 0) ≡ quiet Kept (holding (take (suc i) bytes))
    kept i l h b = hears i l h ∙ tested i l (omega arith) false (ne_eqb (suc i) n (λ e. omega arith))

    last : (i : ℕ) → 0 < i → i < m → suc i ≡ n → hear_of (holding (take i bytes)) (get_or bytes i 0) ≡ handed (take n bytes)
    last i l h e =
        hears i l h ∙ tested i l (omega arith) true (eq-eqb (suc i) n e) ∙ ap (λ (k : ℕ). handed (take k bytes)) e

    -- all but the last record leave no text
    so_far : (i : ℕ) → 0 < i → i ≤ m → i < n → walk_from line left s at p room ≡ walk_from line (left - i) s (at + 8 * i) (having i) room
    so_far zero l h b = absurd (omega arith)
    so_far (suc zero) l h b =
        quietly line s at left room (omega arith) roomy (time_at s at) p (256 + get_or bytes 0 0) (quiet Opened (holding (take 1 bytes))) g.opens opened refl
    so_far (suc (suc i)) l h b =
        let k = suc i in
        let less : left - k - 1 ≡ left - suc k = omega arith in
        let next : at + 8 * k + 8 ≡ at + 8 * suc k = omega arith in
        so_far (suc i) (omega arith) (omega arith) (omega arith)
        ∙ quietly line s (at + 8 * k) (left - k) room (omega arith) roomy (time_at s (at + 8 * k)) (having k) (get_or bytes k 0) (quiet Kept (holding (take (suc k) bytes))) (g.follows k (omega arith) (omega arith)).2 (kept k (omega arith) (omega arith) b) refl
        ∙ rw (less, next)

    -- the whole datagram is one line, and nothing is held after it
    pub walk_ahead : m ≡ n
        → walk_from line left s at p room
        ≡ behind (line (time_at s (at + 8 * (n - 1))) (take n bytes))
        (walk_from line (left - n) s (at + 8 * n) (tallied p true false false) (room - length (line (time_at s (at + 8 * (n - 1))) (take n bytes))))
    walk_ahead whole =
        let k = n - 1 in
        let some : 0 < k = omega (arith, size) in
        let below : k < m = omega (arith, size, whole) in
        let end : suc k ≡ n = omega (arith, size) in
        let less : left - k - 1 ≡ left - n = omega (arith, size) in
        let next : at + 8 * k + 8 ≡ at + 8 * n = omega (arith, size) in
        let all : take (length (take n bytes)) (pad_to 18 (take n bytes)) ≡ take n bytes = take_pad 18 (take n bytes) in
        so_far k some (omega arith) (omega arith)
        ∙ walk_heard line s (at + 8 * k) (having k) (left - k) room (omega arith) (time_at s (at + 8 * k)) (get_or bytes k 0) roomy (g.follows k some below).2
        ∙ ap (goes_on line s room (left - k - 1) (at + 8 * k + 8) (time_at s (at + 8 * k)) (having k)) (last k some below end)
        ∙ rw (all, less, next, empty)

    -- a command symbol before the datagram is whole
    pub walk_cancelled : 0 < m → m < n → m < left → (time b : ℕ) → b < 256 → record_of s (at + 8 * m) ≡ heard time (256 + b)
        → walk_from line left s at p room ≡ walk_from line (left - m) s (at + 8 * m) (tallied p false true false) room
    walk_cancelled l h more time b low heard =
        so_far m l (omega arith) h
        ∙ walk_over line s (at + 8 * m) (left - m) room (omega arith) roomy time (having m) (take m bytes) b low heard refl (omega (arith, taken m (omega arith))) (unfinished m l (omega arith) h)
        ∙ rw empty
