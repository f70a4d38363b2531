-- What holds over any list of calls of a sender (rules 7.6, 13.6).
use Rattle.std.specs.Prelude.{◌≡◌, true, false, List, ℕ, ◌+◌, ◌≤◌, take, Ok}
use Rattle.datagram.specs.Whole.{symbols, all_bytes}
use Rattle.sender.specs.declared.Phase.TheVariants as phase
use Rattle.sender.specs.declared.Sender.{Sender}
use Rattle.sender.specs.State.{sound, length_of, bytes_of}
use Rattle.sender.specs.Step.{offer_of, zero_sender}
use Rattle.sender_laws.specs.Run.{Call, answers, after, terms_of, sent, commands, some_ends, some_fails, echoes, sent_by, starts_left}

pub record SenderLaws : Type 0 where
  -- an accepted offer is a sound sender that holds the datagram offered; the all-zero sender is not sound
  pub offer_sound : (bytes : List ℕ) (wait limit : ℕ) → (offer_of bytes wait limit).verdict ≡ Ok tt
      → sound (offer_of bytes wait limit).sender ≡ true
  pub offer_holds : (bytes : List ℕ) (wait limit : ℕ) → (offer_of bytes wait limit).verdict ≡ Ok tt
      → bytes_of (offer_of bytes wait limit).sender ≡ bytes
  pub zero_unsound : sound zero_sender ≡ false
  -- soundness is kept, and so is what the offer fixed
  pub stays_sound : (s : Sender) (calls : List Call) → sound s ≡ true → sound (after s calls) ≡ true
  pub stays_offered : (s : Sender) (calls : List Call) → terms_of (after s calls) ≡ terms_of s
  -- command symbols are sent at most as often as attempts are left; from an offer, at most as often as the limit
  pub starts : (s : Sender) (calls : List Call) → all_bytes (bytes_of s) ≡ true
      → commands (sent (answers s calls)) ≤ starts_left s.phase s.failures s.limit
  pub offer_starts : (bytes : List ℕ) (wait limit : ℕ) (calls : List Call) → all_bytes bytes ≡ true
      → commands (sent (answers (offer_of bytes wait limit).sender calls)) ≤ limit
  -- an awaited run ends after as many echoes as symbols are left, so after at most 18
  pub run_ends : (s : Sender) (calls : List Call) → sound s ≡ true → s.phase ≡ phase.Awaiting
      → length_of s ≤ s.position + echoes calls → some_ends (answers s calls) ≡ true
  pub run_ends_18 : (s : Sender) (calls : List Call) → sound s ≡ true → s.phase ≡ phase.Awaiting
      → 18 ≤ echoes calls → some_ends (answers s calls) ≡ true
  -- without a failure, the symbols sent since the sender waited are the datagram's, in order, up to where it is
  pub sent_in_order : (s : Sender) (calls : List Call) → s.phase ≡ phase.Waiting
      → some_fails (answers s calls) ≡ false
      → sent (answers s calls) ≡ take (sent_by (after s calls).phase (after s calls).position (length_of s)) (symbols (bytes_of s))
  -- so a sender that is done has sent them all
  pub sent_whole : (s : Sender) (calls : List Call) → s.phase ≡ phase.Waiting
      → some_fails (answers s calls) ≡ false → (after s calls).phase ≡ phase.Done → sent (answers s calls) ≡ symbols (bytes_of s)
