-- `handed_out` copies the held bytes over zeros and stores the new one after them.
use borrow.Author.Rules.{rules}
use mathlib.Core.Path.{◌≡◌}
use mathlib.Core.List.{List, [], ◌∷◌, ◌++◌}
use Prim.Native.Nat.{ℕ, ◌+◌}
use native.Mathlib.Omega.{arith}
use lib.ListN.{length, drop, replicate, length-append}
use lib.Seq.{length-take-le}
use Rattle.std.proofs.lemmas.List.{drop-replicate}
use Rattle.datagram.specs.Padding.{pad_to}
use Rattle.datagram.proofs.Padding.{set_pad}
use Rattle.listener.specs.State.{held_bytes}
use Rattle.listener.proofs.handed_out.Goals as goal

over_zeros : (n : ℕ) (xs : List ℕ) (i : ℕ) → length xs ≡ i → xs ++ drop i (replicate n 0) ≡ pad_to n xs
unfolding pad_to
over_zeros n xs i e = rw (drop-replicate {X = ℕ} i n 0, e)

pub returns : goal.returns
returns c =
    let l = c.args.l in
    let b = c.args.byte in
    let long : length l.bytes ≡ 17 = search rules in
    let count : length (held_bytes l) ≡ l.held = length-take-le l.held l.bytes (omega arith) in
    let more : length (held_bytes l ++ (b ∷ [])) ≡ l.held + 1 = simp (length-append, count) in
    let padded : held_bytes l ++ drop l.held (replicate 18 0) ≡ pad_to 18 (held_bytes l) = over_zeros 18 (held_bytes l) l.held count in
    rw (c.empty_listener.ensures, c.copy_from_slice.ensures.after, c.from-held.ensures, more, ← set_pad 18 (held_bytes l) l.held b count (omega arith), ← padded)
