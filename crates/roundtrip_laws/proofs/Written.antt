-- The writer takes a message in range, given room, and no other.
use Rattle.std.specs.Prelude.{Result, Ok, Err, ⊤}
use mathlib.Core.Path.{◌≡◌, refl}
use mathlib.Core.List.{List, ◌++◌}
use Prim.Native.Nat.{ℕ, ◌+◌, ◌-◌, ◌≤◌}
use native.Mathlib.Omega.{arith}
use borrow.Author.Tests.{le-leb}
use lib.ListN.{length, take, drop}
use Rattle.message.specs.declared.Message.{Message}
use Rattle.message.specs.Range.{range_of}
use Rattle.message.specs.Spelling.{bytes_of, symbols_of}
use Rattle.datagram.specs.Position.{outcome}
use Rattle.writer.specs.Writing.{write_of, ruled_write}
use Rattle.datagram.specs.declared.Refusal.{Refusal}

pub written : (m : Message) (buffer : List ℕ) (at : ℕ) → range_of m ≡ (Ok tt) → at + length (bytes_of m) ≤ length buffer
    → write_of m buffer at ≡ outcome (Ok (length (bytes_of m))) (take at buffer ++ (symbols_of m ++ drop (at + length (bytes_of m)) buffer))
unfolding write_of
written m buffer at i room =
    rw (i, le-leb at (length buffer) (omega arith), le-leb (length (bytes_of m)) (length buffer - at) (omega arith))

pub accepted : (m : Message) (buffer : List ℕ) (at n : ℕ) → (write_of m buffer at).answer ≡ Ok n → range_of m ≡ Ok tt
unfolding write_of
accepted m buffer at n e = go (range_of m) refl e
  where
    go : (v : Result ⊤ Refusal) → range_of m ≡ v → (ruled_write v (bytes_of m) buffer at).answer ≡ Ok n → range_of m ≡ Ok tt
    go (Ok tt) i e = i
    go (Err r) i e = let z : ◌≡◌ {A = ℕ} 0 1 = cc in absurd (omega arith)
