-- What the writer answers for a key, and what it stored, gives the offer of the definition.
use Rattle.std.specs.Prelude.{Result, Ok, Err, ⊤}
use mathlib.Core.Path.{◌≡◌, ap, ◌∙◌}
use mathlib.Core.List.{List, [], ◌∷◌}
use Prim.Native.Nat.{ℕ, ◌+◌, ◌-◌, ◌*◌, ◌%◌, ◌<◌}
use native.Mathlib.Omega.{arith}
use Rattle.std.proofs.lemmas.Grind.{common_steps}
use lib.ListN.{length, get_or}
use Rattle.datagram.specs.declared.Refusal.{Refusal}
use Rattle.message.specs.declared.Message.TheVariants.{Key}
use Rattle.message.specs.Spelling.{bytes_of}
use Rattle.sender.specs.Step.{offer_of, refused_offer}
use Rattle.datagram.specs.Position.{Outcome, outcome}
use Rattle.writer.specs.Writing.{ruled_write}
use Rattle.key_sender.specs.Key.{offered_by}

abbrev room : List ℕ
room = 0 ∷ 0 ∷ 0 ∷ 0 ∷ []

-- the bytes of four symbols
abbrev pub lows : List ℕ → List ℕ
lows symbols = (get_or symbols 0 0 % 256) ∷ (get_or symbols 1 0 % 256) ∷ (get_or symbols 2 0 % 256) ∷ (get_or symbols 3 0 % 256) ∷ []

-- four bytes, each the low byte of its symbol
pub mapped : (bytes symbols : List ℕ) → length bytes ≡ 4 → ((i : ℕ) → i < 4 → get_or bytes i 0 ≡ get_or symbols i 0 % 256) → bytes ≡ lows symbols
mapped bytes symbols long each =
    let zeroth = each 0 (omega arith) in
    let first = each 1 (omega arith) in
    let second = each 2 (omega arith) in
    let third = each 3 (omega arith) in
    grind (arith, common_steps)

module _ (source code : ℕ) where
  pub key_refused : (v : Result ⊤ Refusal) (r : Refusal) (symbols : List ℕ)
      → outcome (Err r) symbols ≡ ruled_write v (bytes_of (Key source code)) room 0 → refused_offer r ≡ offered_by v (Key source code)
  unfolding bytes_of
  key_refused (Ok tt) r symbols e =
      let other : ◌≡◌ {A = Result ℕ Refusal} (Err r) (Ok 4) = ap (λ (o : Outcome). o.answer) e in
      let z : ◌≡◌ {A = ℕ} 0 1 = cc in absurd (omega arith)
  key_refused (Err q) r symbols e =
      let told : ◌≡◌ {A = Result ℕ Refusal} (Err r) (Err q) = ap (λ (o : Outcome). o.answer) e in
      let same : r ≡ q = cc in ap refused_offer same

  pub key_offered : (v : Result ⊤ Refusal) (n : ℕ) (symbols : List ℕ)
      → outcome (Ok n) symbols ≡ ruled_write v (bytes_of (Key source code)) room 0 → offer_of (lows symbols) 0 3 ≡ offered_by v (Key source code)
  unfolding bytes_of
  key_offered (Ok tt) n symbols e =
      let stored = ap (λ (o : Outcome). lows o.buffer) e in
      ap (λ (bytes : List ℕ). offer_of bytes 0 3) (stored ∙ rw (small, cut, rest))
    where
      small : (16 * (source % 16) + 1) % 256 ≡ 16 * (source % 16) + 1
      small = omega arith

      cut : code % 256 % 256 ≡ code % 256
      cut = omega arith

      rest : (255 - code % 256) % 256 ≡ 255 - code % 256
      rest = omega arith
  key_offered (Err q) n symbols e =
      let other : ◌≡◌ {A = Result ℕ Refusal} (Ok n) (Err q) = ap (λ (o : Outcome). o.answer) e in
      let z : ◌≡◌ {A = ℕ} 0 1 = cc in absurd (omega arith)
