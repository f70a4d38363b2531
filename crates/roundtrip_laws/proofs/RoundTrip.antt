-- The laws of demand 2, for all kinds.
use Rattle.std.specs.Prelude.{Result, Ok}
use mathlib.Core.Path.{◌≡◌, refl, subst}
use mathlib.Core.Bool.{true}
use mathlib.Core.List.{List}
use Prim.Native.Nat.{ℕ}
use native.Mathlib.Omega.{arith}
use Rattle.datagram.specs.Whole.{all_bytes}
use Rattle.message.specs.declared.Message.{Message}
use Rattle.message.specs.Range.{range_of}
use Rattle.message.specs.Spelling.{bytes_of}
use Rattle.message.specs.Reading.{byte, read_of}
use Rattle.message.specs.Table.{find_of}
use Rattle.roundtrip_laws.specs.Ignored.{ignored, as_written}
use Rattle.roundtrip_laws.specs.Laws.{RoundTrip}
use Rattle.message.specs.Fields.{kind_of}
use Rattle.roundtrip_laws.proofs.Lists.{of_length}
use Rattle.roundtrip_laws.proofs.Bytes.{whole_datagram, all_bytes_lem}
use Rattle.roundtrip_laws.proofs.Frame.{read, frame}
use Rattle.message.proofs.Found.{of_found}
use Rattle.roundtrip_laws.proofs.Rows.{row_of, finds}
use Rattle.datagram.proofs.Whole.{declares}
use Rattle.roundtrip_laws.proofs.Written.{written, accepted}
use Rattle.roundtrip_laws.proofs.Decodes.{decodes}
use Rattle.roundtrip_laws.proofs.Standing.{all_stand}
use Rattle.roundtrip_laws.proofs.Rewrites.{IfRead, Back, rewrites}
use Rattle.roundtrip_laws.proofs.WrittenBits.{ignored_set}
use Rattle.roundtrip_laws.proofs.IgnoredUnread.{ignored_unread}
use Rattle.datagram.specs.declared.Refusal.{Refusal}

reads_back_lem : (m : Message) → range_of m ≡ (Ok tt) → read_of (bytes_of m) ≡ Ok m
reads_back_lem m r =
    read
    (record { is_whole = whole_datagram m; row = row_of m; found = finds m; long = refl; says = decodes m r; in_range_lem = r })

one_message : (m n : Message) → range_of m ≡ (Ok tt) → range_of n ≡ (Ok tt) → bytes_of m ≡ bytes_of n → m ≡ n
one_message m n p q e = cc (reads_back_lem m p, reads_back_lem n q)

writes_back : (s : List ℕ) (m : Message) → all_bytes s ≡ true → read_of s ≡ Ok m → as_written (ignored (kind_of m)) s ≡ true → bytes_of m ≡ s
unfolding find_of
writes_back s m bytes e stand =
    let f = frame s m e in
    let row = f.row in
    let known = of_found rewrites (byte s 0) row f.found in
    let back =
    of_length row.length _ known.1 s f.long (known.0, declares s f.is_whole) in
    subst (λ (r : Result Message Refusal). IfRead r (Back s)) f.says back (all_stand (ignored (kind_of m)) s bytes stand)

pub round_trip : RoundTrip
round_trip =
    record {
      written = λ m buffer at ranged room. written m buffer at ranged (omega arith);
      accepted = accepted;
      whole_datagram = whole_datagram;
      all_bytes_lem = all_bytes_lem;
      reads_back_lem = reads_back_lem;
      one_message = one_message;
      read_in_range = λ s m e. (frame s m e).in_range_lem;
      writes_back = writes_back;
      ignored_set = ignored_set;
      ignored_unread = ignored_unread;
    }
