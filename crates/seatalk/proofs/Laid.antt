-- Four bytes copied into a part leave what four stores leave.
use mathlib.Core.Path.{◌≡◌, sym}
use mathlib.Core.List.{List, append_assoc}
use Prim.Native.Nat.{ℕ, ◌+◌, ◌-◌, ◌≤◌}
use native.Mathlib.Omega.{arith}
use lib.ListN.{length}
use lib.Seq.{sets, sets-eq, drop-drop}
use borrow.Rule.Slice.PartMut.{put_mid}
use Rattle.number.specs.Word.{long_bytes}

pub long_laid : (l : List ℕ) (at n : ℕ) → at + 4 ≤ length l → put_mid at ((at + 4) - at) l (long_bytes n) ≡ sets l at (long_bytes n)
long_laid l at n h =
    let width : (at + 4) - at ≡ 4 = omega arith in
    let parts = rw append_assoc at (sets-eq (long_bytes n) l at h) in
    rw (width, drop-drop) (sym parts)
