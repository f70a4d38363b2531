-- What an array of 18 bytes holds of a datagram, and what soundness says of a sender that awaits an echo.
use Rattle.std.proofs.Common.{◌≡◌, ℕ, ◌<◌, ◌++◌, true, ◌&&◌, leb, List, length, drop, replicate, arith}
use Rattle.std.proofs.lemmas.Grind.{common_steps}
use Rattle.std.proofs.lemmas.List.{drop-replicate}
use Rattle.datagram.specs.Whole.{whole}
use Rattle.datagram.specs.Padding.{all_zero, pad_to}
use Rattle.sender.specs.declared.Phase.TheVariants.{Awaiting}
use Rattle.sender.specs.declared.Sender.{Sender}
use Rattle.sender.specs.State.{length_of, bytes_of, phase_sound, sound}

-- what is left of the zeros stands behind the bytes copied into them
pub into_zeros : (n : ℕ) (xs : List ℕ) → xs ++ drop (length xs) (replicate n 0) ≡ pad_to n xs
unfolding pad_to
into_zeros n xs = rw drop-replicate

-- the declared length is 3 to 18, and the second byte is among those taken
pub always_whole : (s : Sender) → length s.datagram ≡ 18 → whole (bytes_of s) ≡ true
unfolding whole
always_whole s long = grind (arith, common_steps)

pub sound_is : (s : Sender) → length s.datagram ≡ 18 → sound s ≡ all_zero (drop (length_of s) s.datagram) && ((leb 10 s.wait && leb s.wait 255) && ((leb 1 s.limit && leb s.limit 50) && phase_sound s.phase s.position (length_of s) s.failures s.limit))
unfolding sound
sound_is s long = rw (always_whole s long)

-- a sound sender that awaits an echo has sent a symbol of the datagram, and has an attempt left to fail
pub awaits : (s : Sender) → sound s ≡ true → s.phase ≡ Awaiting → (s.position < length_of s) × (s.failures < s.limit)
unfolding sound
awaits s e p = grind (arith, common_steps)
