-- One record of a walk.
use Rattle.std.specs.Prelude.{Ok, Err, Some, None}
use mathlib.Core.Path.{◌≡◌, ap, ◌∙◌}
use mathlib.Core.List.{List, []}
use Prim.Native.Nat.{ℕ, suc, ◌+◌, ◌-◌, ◌≤◌, ◌<◌}
use native.Mathlib.Omega.{arith}
use borrow.Author.Tests.{le-leb, lt-leb}
use lib.ListN.{length}
use Rattle.datagram.specs.declared.Refusal.{Refusal}
use Rattle.listener.specs.Step.{hear_of}
use Rattle.recording.specs.Record.{record_of, heard}
use Rattle.progress.specs.declared.Progress.{Progress}
use Rattle.progress.specs.Progress.{advanced}
use Rattle.framing.specs.Walk.{Line, walk, behind, walk_from, entry_of}

module _ (line : Line) (s : List ℕ) (at : ℕ) (p : Progress) (n room : ℕ) (some : 0 < n) where
  more : n ≡ suc (n - 1)
  more = omega arith

  pub walk_full : room < 512 → walk_from line n s at p room ≡ walk [] p at None
  unfolding walk_from
  walk_full h = rw (more, lt-leb 512 room h)

  pub walk_end : 512 ≤ room → record_of s at ≡ (Ok None) → walk_from line n s at p room ≡ walk [] p at None
  unfolding walk_from
  walk_end h e = rw (more, le-leb 512 room h, e)

  pub walk_refused : (r : Refusal) → 512 ≤ room → record_of s at ≡ Err r → walk_from line n s at p room ≡ walk [] p at (Some r)
  unfolding walk_from
  walk_refused r h e = rw (more, le-leb 512 room h, e)

  pub walk_heard : (time symbol : ℕ) → 512 ≤ room → record_of s at ≡ heard time symbol
      → walk_from line n s at p room
      ≡ behind (entry_of line time (hear_of p.listener symbol))
      (walk_from line (n - 1) s (at + 8) (advanced p (hear_of p.listener symbol)) (room - length (entry_of line time (hear_of p.listener symbol))))
  unfolding walk_from
  walk_heard time symbol h e = ap (λ (m : ℕ). walk_from line m s at p room) more ∙ rw (le-leb 512 room h, e)
