-- What the writer answers and has stored, into room for any datagram, is what the definition tells.
use Rattle.std.specs.Prelude.{Result, Ok, Err, ⊤}
use mathlib.Core.Path.{◌≡◌, refl, sym, ap, ◌∙◌}
use mathlib.Core.List.{List, ◌++◌}
use Prim.Native.Nat.{ℕ, ◌+◌, ◌*◌, ◌≤◌}
use native.Mathlib.Omega.{arith}
use lib.ListN.{length, take, drop, replicate, length-append}
use lib.Seq.{take_at}
use Rattle.datagram.specs.declared.Refusal.{Refusal}
use Rattle.datagram.proofs.Whole.{declares, as_many}
use Rattle.message.specs.declared.Message.{Message}
use Rattle.message.specs.Range.{range_of}
use Rattle.message.specs.Spelling.{bytes_of, symbols_of}
use Rattle.datagram.specs.Position.{Outcome, outcome}
use Rattle.writer.specs.Writing.{write_of}
use Rattle.roundtrip_laws.proofs.RoundTrip.{round_trip}
use Rattle.from_fields.proofs.Each.{each_length}
use Rattle.seatalk.specs.Returned.{returned, code_of}
use Rattle.seatalk.specs.Write.{symbol_bytes, symbols_bytes, write_returned}

abbrev pub room : List ℕ
room = replicate 18 0

module _ (m : Message) where
  fits : length (bytes_of m) ≤ 18
  fits = omega (arith, declares (bytes_of m) (round_trip.whole_datagram m))

  pub size : length (symbols_bytes (symbols_of m)) ≡ 2 * length (bytes_of m)
  size = each_length symbol_bytes 2 (λ s. refl) (symbols_of m) ∙ ap (λ (n : ℕ). 2 * n) (as_many (bytes_of m))

  stored : range_of m ≡ (Ok tt) → write_of m room 0 ≡ outcome (Ok (length (bytes_of m))) (symbols_of m ++ drop (length (bytes_of m)) room)
  stored i =
      let z : 0 + length (bytes_of m) ≡ length (bytes_of m) = omega arith in
      rw z at (round_trip.written m room 0 i (omega (arith, fits)))

  refusing : (q : Refusal) → range_of m ≡ Err q → (write_of m room 0).answer ≡ Err q
  unfolding write_of
  refusing q i = rw i

  -- the writer refused: not for room, so by the verdict
  pub returned_refused : (r : Refusal) (buffer result : List ℕ) → outcome (Err r) buffer ≡ write_of m room 0 → returned (code_of r) result ≡ write_returned (range_of m) m result
  returned_refused r buffer result e = go (range_of m) refl
    where
      go : (v : Result ⊤ Refusal) → range_of m ≡ v → returned (code_of r) result ≡ write_returned v m result
      go (Ok tt) i =
          let other : Err r ≡ Ok (length (bytes_of m)) = ap (λ (o : Outcome). o.answer) (e ∙ stored i) in
          let z : ◌≡◌ {A = ℕ} 0 1 = cc in absurd (omega arith)
      go (Err q) i =
          let same : Err r ≡ Err q = ap (λ (o : Outcome). o.answer) e ∙ refusing q i in
          let equal : r ≡ q = cc in ap (λ (x : Refusal). returned (code_of x) result) equal

  -- the writer wrote n symbols
  pub record Spelled (n : ℕ) (buffer : List ℕ) : Type 0 where
    pub in_range_lem : range_of m ≡ Ok tt
    pub count : n ≡ length (bytes_of m)
    pub few : n ≤ 18
    pub held : n ≤ length buffer
    pub front : take n buffer ≡ symbols_of m

  pub spelled : (n : ℕ) (buffer : List ℕ) → outcome (Ok n) buffer ≡ write_of m room 0 → Spelled n buffer
  spelled n buffer e =
      let i = round_trip.accepted m room 0 n (sym (ap (λ (o : Outcome). o.answer) e)) in
      let returned : Ok n ≡ Ok (length (bytes_of m)) = ap (λ (o : Outcome). o.answer) (e ∙ stored i) in
      let count : n ≡ length (bytes_of m) = cc in
      let left : buffer ≡ symbols_of m ++ drop (length (bytes_of m)) room = ap (λ (o : Outcome). o.buffer) (e ∙ stored i) in
      record {
        in_range_lem = i;
        count = count;
        few = omega (arith, fits);
        held = rw (left, length-append) (omega (arith, as_many (bytes_of m)));
        front = rw left (take_at (symbols_of m) (drop (length (bytes_of m)) room) n (as_many (bytes_of m) ∙ sym count));
      }
