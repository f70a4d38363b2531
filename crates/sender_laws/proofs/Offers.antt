-- An accepted offer is a sound sender that holds the datagram offered; a refused one is the all-zero sender, which is not sound.
use Prim.Native.Nat.{ℕ, ◌≤◌}
use native.Mathlib.Omega.{arith}
use mathlib.Core.Path.{◌≡◌, refl}
use mathlib.Core.Bool.{Bool, true, false, ◌&&◌, cond, and-eq-true_iff}
use mathlib.Core.List.{List}
use lib.Dec.{leb}
use lib.ListN.{length}
use Rattle.datagram.specs.declared.Refusal.{Refusal}
use Rattle.datagram.specs.Refusals.{not_whole, bad_wait_or_limit}
use Rattle.datagram.specs.Whole.{whole, all_bytes}
use Rattle.datagram.specs.Padding.{pad_to}
use Rattle.datagram.proofs.Padding.{get_d_pad, take_pad, drop_pad, zeros_pass}
use Rattle.datagram.proofs.Whole.{declares}
use Rattle.sender.specs.declared.Offered.{Offered}
use Rattle.std.proofs.Common.{Ok}
use Rattle.sender.specs.State.{sound, length_of, bytes_of}
use Rattle.sender.specs.Step.{wait_of, zero_sender, refused_offer, offered, offer_of}
use Rattle.sender_laws.specs.Run.{Call, answers, sent, commands}
use Rattle.sender_laws.proofs.Starts.{starts_bounded}

-- the wait and the limit are in range
abbrev in_range : ℕ → ℕ → Bool
in_range wait limit = (leb 10 wait && leb wait 255) && (leb 1 limit && leb limit 50)

-- an offer is accepted for a whole datagram and a wait and a limit in range, or refused
pub data Offer (bytes : List ℕ) (wait limit : ℕ) : Offered → Type 0 where
  accepted : whole bytes ≡ true → in_range (wait_of wait) limit ≡ true
      → Offer bytes wait limit (record { verdict = Ok tt; sender = offered bytes (wait_of wait) limit })
  refused : (r : Refusal) → Offer bytes wait limit (refused_offer r)

module _ (bytes : List ℕ) (wait limit : ℕ) where
  range_tested : (b : Bool) → whole bytes ≡ true → in_range (wait_of wait) limit ≡ b
      → Offer bytes wait limit
      (cond b (record { verdict = Ok tt; sender = offered bytes (wait_of wait) limit }) (refused_offer bad_wait_or_limit))
  range_tested true w r = accepted w r
  range_tested false w r = refused bad_wait_or_limit

  whole_tested : (b : Bool) → whole bytes ≡ b
      → Offer bytes wait limit
      (cond b
      (cond (in_range (wait_of wait) limit)
      (record { verdict = Ok tt; sender = offered bytes (wait_of wait) limit })
      (refused_offer bad_wait_or_limit))
      (refused_offer not_whole))
  whole_tested true w = range_tested (in_range (wait_of wait) limit) w refl
  whole_tested false w = refused not_whole

  pub offer : Offer bytes wait limit (offer_of bytes wait limit)
  unfolding offer_of
  offer = whole_tested (whole bytes) refl

module _ (bytes : List ℕ) (wait limit : ℕ) (w : whole bytes ≡ true) where
  offered_length : length_of (offered bytes wait limit) ≡ length bytes
  offered_length = rw (get_d_pad 18 1 bytes, declares bytes w)

  offered_holds : bytes_of (offered bytes wait limit) ≡ bytes
  offered_holds = rw offered_length (take_pad 18 bytes)

  offered_sound : in_range wait limit ≡ true → sound (offered bytes wait limit) ≡ true
  unfolding sound
  offered_sound r =
      let both = (and-eq-true_iff (leb 10 wait && leb wait 255) (leb 1 limit && leb limit 50)).0 r in
      let some = ((and-eq-true_iff (leb 1 limit) (leb limit 50)).0 both.1).0 in
      rw (offered_holds, offered_length, w, drop_pad, zeros_pass, both.0, both.1) some

pub accepted_sound : {bytes : List ℕ} {wait limit : ℕ} {o : Offered} → Offer bytes wait limit o → o.verdict ≡ Ok tt
    → sound o.sender ≡ true
accepted_sound {bytes} {wait} {limit} (accepted w r) e = offered_sound bytes (wait_of wait) limit w r
accepted_sound (refused r) e = cc

pub accepted_holds : {bytes : List ℕ} {wait limit : ℕ} {o : Offered} → Offer bytes wait limit o → o.verdict ≡ Ok tt
    → bytes_of o.sender ≡ bytes
accepted_holds {bytes} {wait} {limit} (accepted w r) e = offered_holds bytes (wait_of wait) limit w
accepted_holds (refused r) e = cc

pub zero_is_unsound : sound zero_sender ≡ false
unfolding sound whole pad_to
zero_is_unsound = refl

pub starts_of_offer : {bytes : List ℕ} {wait limit : ℕ} {o : Offered} → Offer bytes wait limit o → (calls : List Call) → all_bytes bytes ≡ true
    → commands (sent (answers o.sender calls)) ≤ limit
unfolding pad_to
starts_of_offer {bytes} {wait} {limit} (accepted w r) calls b =
    let s = offered bytes (wait_of wait) limit in
    omega (arith, starts_bounded s calls (rw (offered_holds bytes (wait_of wait) limit w) b))
starts_of_offer (refused r) calls b = omega (arith, starts_bounded zero_sender calls refl)
