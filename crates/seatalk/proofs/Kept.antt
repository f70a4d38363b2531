-- What the listener keeps of a state is one more byte.
use Rattle.std.specs.Prelude.{Ok}
use mathlib.Core.Path.{◌≡◌, refl, sym, ap, ◌∙◌}
use mathlib.Core.Bool.{Bool, true, false, cond}
use mathlib.Core.List.{List, [], ◌∷◌, ◌++◌}
use Prim.Native.Nat.{ℕ, suc, ◌-◌, ◌%◌, ◌≤◌, ◌<◌}
use native.Mathlib.Omega.{arith}
use borrow.Author.Tests.{leb-true, leb-false, eqb-false}
use lib.Dec.{ltb, leb, eqb}
use lib.ListN.{length, get_or, length-append, get_or-append}
use Rattle.datagram.specs.declared.Refusal.{Refusal}
use Rattle.datagram.specs.Refusals.{symbol_above, not_sound}
use Rattle.datagram.specs.Whole.{declared}
use Rattle.datagram.specs.Padding.{pad_to}
use Rattle.datagram.proofs.Padding.{set_pad, get_d_pad}
use Rattle.listener.specs.declared.Listener.{Listener}
use Rattle.listener.specs.declared.Heard.{Heard}
use Rattle.listener.specs.declared.Answer.TheVariants.{Kept}
use Rattle.listener.specs.State.{sound, held_bytes, holding}
use Rattle.listener.specs.Step.{hear_of, step, command_symbol, other_symbol, quiet, handed, refused_by}
use Rattle.listener.proofs.Sound.{Held, held_by}
use Rattle.seatalk.specs.Hear.{listener_of, number_of, Longer}

-- what is due where an outcome is answer 3
abbrev Due : List ℕ → ℕ → Heard → Type 0
Due state byte h = number_of h.answer ≡ Ok 3 → Longer byte h.listener state

of_command : (state xs : List ℕ) (byte b : ℕ) → Due state byte (command_symbol xs b)
of_command state [] byte b e = let z : ◌≡◌ {A = ℕ} 0 3 = cc in absurd (omega arith)
of_command state (x ∷ xs) byte b e = let z : ◌≡◌ {A = ℕ} 1 3 = cc in absurd (omega arith)

-- the second byte is the same with one more after two or more
same_second : (xs : List ℕ) (b : ℕ) → 2 ≤ length xs → get_or (xs ++ (b ∷ [])) 1 0 ≡ get_or xs 1 0
same_second xs b h = get_or-append xs (b ∷ []) 0 1 (omega arith)

module _ (first : ℕ) (rest : List ℕ) (k : Held (listener_of (first ∷ rest))) (b : ℕ) where
  module _ (xs : List ℕ) (held : held_bytes (listener_of (first ∷ rest)) ≡ xs) where
    array : rest ≡ pad_to 17 xs
    array = k.array ∙ ap (λ (ys : List ℕ). pad_to 17 ys) held

    more : length (xs ++ (b ∷ [])) ≡ suc (length xs)
    more = simp length-append (omega arith)

    longer : length xs < 17 → Longer b (holding (xs ++ (b ∷ []))) (first ∷ rest)
    longer short =
        record {
          few = omega (arith, more);
          bytes = rw (more, array) (ap (λ (r : List ℕ). suc (length xs) ∷ r) (sym (set_pad 17 xs (length xs) b refl short)));
        }

    -- 17 held and not complete would declare more than 18
    fewer : eqb (length (xs ++ (b ∷ []))) (declared (get_or (xs ++ (b ∷ [])) 1 0)) ≡ false → length xs < 17
    fewer e = go (leb (length xs) 16) refl
      where
        go : (t : Bool) → leb (length xs) 16 ≡ t → length xs < 17
        go true f = omega (arith, leb-true (length xs) 16 f)
        go false f =
            let many = leb-false (length xs) 16 f in
            let count : length xs ≡ first = ap length (sym held) ∙ k.count in
            let second : get_or rest 1 0 ≡ get_or (xs ++ (b ∷ [])) 1 0 =
            ap (λ (r : List ℕ). get_or r 1 0) array ∙ get_d_pad 17 1 xs ∙ sym (same_second xs b (omega arith)) in
            absurd (eqb-false (length (xs ++ (b ∷ []))) (declared (get_or (xs ++ (b ∷ [])) 1 0)) e (omega (arith, k.short, more)))

  reached : (xs : List ℕ) → held_bytes (listener_of (first ∷ rest)) ≡ xs → (t : Bool) → eqb (length (xs ++ (b ∷ []))) (declared (get_or (xs ++ (b ∷ [])) 1 0)) ≡ t
      → Due (first ∷ rest) b (cond t (handed (xs ++ (b ∷ []))) (quiet Kept (holding (xs ++ (b ∷ [])))))
  reached xs held true f e = let z : ◌≡◌ {A = ℕ} 4 3 = cc in absurd (omega arith)
  reached xs held false f e = longer xs held (fewer xs held f)

  of_other : (xs : List ℕ) → held_bytes (listener_of (first ∷ rest)) ≡ xs → Due (first ∷ rest) b (other_symbol xs b)
  of_other [] held e = let z : ◌≡◌ {A = ℕ} 2 3 = cc in absurd (omega arith)
  of_other (x ∷ xs) held e = reached (x ∷ xs) held _ refl e

of_refusal : (state : List ℕ) (byte : ℕ) (r : Refusal) (l : Listener) → Due state byte (refused_by r l)
of_refusal state byte r l e = let z : ◌≡◌ {A = ℕ} 0 1 = cc in absurd (omega arith)

module _ (first : ℕ) (rest : List ℕ) (symbol : ℕ) (long : length rest ≡ 17) where
  by_bit : Held (listener_of (first ∷ rest)) → (t : Bool) → leb 256 symbol ≡ t
      → Due (first ∷ rest) (symbol % 256) (cond t (command_symbol (held_bytes (listener_of (first ∷ rest))) (symbol - 256)) (other_symbol (held_bytes (listener_of (first ∷ rest))) symbol))
  by_bit k true f = of_command (first ∷ rest) (held_bytes (listener_of (first ∷ rest))) (symbol % 256) (symbol - 256)
  by_bit k false f =
      let low : symbol % 256 ≡ symbol = omega (arith, leb-false 256 symbol f) in
      rw low (of_other first rest k symbol (held_bytes (listener_of (first ∷ rest))) refl)

  stepped : Held (listener_of (first ∷ rest)) → Due (first ∷ rest) (symbol % 256) (step (held_bytes (listener_of (first ∷ rest))) symbol)
  unfolding step
  stepped k = by_bit k (leb 256 symbol) refl

  by_soundness : (t : Bool) → sound (listener_of (first ∷ rest)) ≡ t
      → Due (first ∷ rest) (symbol % 256) (cond t (step (held_bytes (listener_of (first ∷ rest))) symbol) (refused_by not_sound (listener_of (first ∷ rest))))
  by_soundness true f = stepped (held_by (listener_of (first ∷ rest)) long f)
  by_soundness false f = of_refusal (first ∷ rest) (symbol % 256) not_sound (listener_of (first ∷ rest))

  by_size : (t : Bool) → Due (first ∷ rest) (symbol % 256) (cond t (refused_by symbol_above (listener_of (first ∷ rest))) (cond (sound (listener_of (first ∷ rest))) (step (held_bytes (listener_of (first ∷ rest))) symbol) (refused_by not_sound (listener_of (first ∷ rest)))))
  by_size true = of_refusal (first ∷ rest) (symbol % 256) symbol_above (listener_of (first ∷ rest))
  by_size false = by_soundness (sound (listener_of (first ∷ rest))) refl

-- what answer 3 leaves
pub one_longer : (state : List ℕ) (symbol : ℕ) → length state ≡ 18 → number_of (hear_of (listener_of state) symbol).answer ≡ Ok 3
    → Longer (symbol % 256) (hear_of (listener_of state) symbol).listener state
unfolding hear_of
one_longer [] symbol long = absurd (omega arith)
one_longer (first ∷ rest) symbol long = by_size first rest symbol (omega arith) (ltb 511 symbol)
