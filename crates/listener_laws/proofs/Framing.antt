-- The listener frames what is heard in the form: each block of calls shows what is due, if the calls after it do.
use Prim.Native.Nat.{ℕ, ◌+◌, ◌<◌}
use mathlib.Core.Path.{◌≡◌, refl, ap, ◌∙◌}
use mathlib.Core.Bool.{true, false≢true, and-eq-true_iff}
use mathlib.Core.List.{List, [], ◌∷◌, ◌++◌, append_assoc, map-append}
use native.Mathlib.Omega.{arith}
use borrow.Author.Tests.{eq-eqb, ne_eqb, ltb-true}
use lib.Dec.{ltb}
use lib.ListN.{length, length-append}
use lib.Seq.{append_snoc}
use Rattle.datagram.specs.Whole.{declared, whole, symbols, all_bytes}
use Rattle.listener.specs.declared.Listener.{Listener}
use Rattle.listener.specs.declared.Answer.{Answer}
use Rattle.listener.specs.declared.Answer.TheVariants.{Opened, Cancelled, Stray, Kept}
use Rattle.listener.specs.State.{holding}
use Rattle.listener.specs.Step.{hear_of, quiet}
use Rattle.datagram.proofs.Whole.{declares}
use Rattle.listener.proofs.Order.{refused_above}
use Rattle.listener.proofs.Held.{Unfinished, on_command, on_other}
use Rattle.message.specs.declared.Message.{Message}
use Rattle.message.specs.Spelling.{bytes_of, symbols_of}
use Rattle.listener_laws.specs.Form.{Call, call, nothing, quietly, sounding, symbols_in, Below, none, one_more, Attempt, alone, cut_short, Attempts, no_attempt, attempt_then, Mixed, mixed_end, as_it_is, above}
use Rattle.listener_laws.specs.Demand.{run, passes, Shows, AllShow}

-- with these bytes held, each call shows what is due
abbrev pub ShownFrom : List ℕ → List Call → Type 0
ShownFrom xs calls = AllShow calls (run hear_of (holding xs) (symbols_in calls))

-- the same, whatever unfinished bytes are held
abbrev pub ShownAnyway : List Call → Type 0
ShownAnyway calls = (xs : List ℕ) → Unfinished xs → ShownFrom xs calls

quiet_shows : (answer : Answer) (l : Listener) → passes answer ≡ true → Shows nothing (quiet answer l)
quiet_shows answer l p = (p, record { no_bytes = refl; no_count = refl })

-- a command symbol cancels whatever is held
command_then : (c : ℕ) (rest : List Call) → c < 256 → ShownFrom (c ∷ []) rest → ShownAnyway (call (256 + c) nothing ∷ rest)
command_then c rest h r [] u = rw (on_command [] c u h) (quiet_shows Opened _ refl, r)
command_then c rest h r (x ∷ xs) u = rw (on_command (x ∷ xs) c u h) (quiet_shows Cancelled _ refl, r)

pub strays_then : (rest : List Call) {ss : List ℕ} → Below ss → ShownFrom [] rest → ShownFrom [] (quietly ss ++ rest)
strays_then rest none r = r
strays_then rest (one_more {s = s} h b) r =
    rw (on_other [] s (omega arith) (omega arith)) (quiet_shows Stray _ refl, strays_then rest b r)

-- a datagram has 3 bytes or more, so the second is kept
second_then : (c d : ℕ) (rest : List Call) → d < 256 → ShownFrom (c ∷ d ∷ []) rest → ShownFrom (c ∷ []) (call d nothing ∷ rest)
second_then c d rest h r =
    rw (on_other (c ∷ []) d (omega arith) h, ne_eqb 2 (declared d) (λ e. omega arith)) (quiet_shows Kept _ refl, r)

-- a byte that does not reach the declared length is kept
kept_then : (c d : ℕ) (xs : List ℕ) (s : ℕ) (rest : List Call) → s < 256 → length (c ∷ d ∷ xs) + 1 < declared d
    → ShownFrom (c ∷ d ∷ (xs ++ (s ∷ []))) rest → ShownFrom (c ∷ d ∷ xs) (call s nothing ∷ rest)
kept_then c d xs s rest h u r =
    let more : length (xs ++ (s ∷ [])) ≡ length xs + 1 = length-append xs (s ∷ []) in
    rw (on_other (c ∷ d ∷ xs) s (omega arith) h, ne_eqb (length (c ∷ d ∷ (xs ++ (s ∷ [])))) (declared d) (λ e. omega arith))
    (quiet_shows Kept _ refl, r)

module _ (rest : List Call) (r : ShownAnyway rest) where
  kept_all : (c d : ℕ) (xs : List ℕ) {ss : List ℕ} → Below ss → length (c ∷ d ∷ xs) + length ss < declared d
      → ShownFrom (c ∷ d ∷ xs) (quietly ss ++ rest)
  kept_all c d xs none u = r (c ∷ d ∷ xs) (omega arith)
  kept_all c d xs (one_more {s = s} {ss = ss} h b) u =
      let more : length (xs ++ (s ∷ [])) ≡ length xs + 1 = length-append xs (s ∷ []) in
      kept_then c d xs s (quietly ss ++ rest) h (omega arith) (kept_all c d (xs ++ (s ∷ [])) b (omega arith))

  attempt_shown : {ss : List ℕ} → Attempt ss → ShownAnyway (quietly ss ++ rest)
  attempt_shown (alone {command = c} h) = command_then c rest h (r (c ∷ []) (omega arith))
  attempt_shown (cut_short {command = c} {second = d} {rest = ss} h k b u) =
      command_then c (quietly (d ∷ ss) ++ rest) h (second_then c d (quietly ss ++ rest) k (kept_all c d [] b (omega arith)))

pub attempts_then : (rest : List Call) {ss : List ℕ} → Attempts ss → ShownAnyway rest → ShownAnyway (quietly ss ++ rest)
attempts_then rest no_attempt r = r
attempts_then rest (attempt_then {first = first} {later = later} a more) r =
    rw (map-append (λ (s : ℕ). call s nothing) first later, append_assoc) (attempt_shown (quietly later ++ rest) (attempts_then rest more r) a)

-- from its third byte on, a datagram of the declared length is kept, and handed out at its last
module _ (m : Message) (rest : List Call) (r : ShownFrom [] rest) (c d : ℕ) (w : length (bytes_of m) ≡ declared d) where
  handed_all : (xs : List ℕ) {y : ℕ} {ys : List ℕ} → Below (y ∷ ys) → bytes_of m ≡ c ∷ d ∷ (xs ++ (y ∷ ys))
      → ShownFrom (c ∷ d ∷ xs) (sounding m (y ∷ ys) ++ rest)
  handed_all xs (one_more {s = y} h none) e =
      let size : length (bytes_of m) ≡ length (c ∷ d ∷ (xs ++ (y ∷ []))) = ap length e in
      let more : length (xs ++ (y ∷ [])) ≡ length xs + 1 = length-append xs (y ∷ []) in
      rw (on_other (c ∷ d ∷ xs) y (omega arith) h, eq-eqb (length (c ∷ d ∷ (xs ++ (y ∷ [])))) (declared d) (omega arith))
      (record { handed = refl; its_bytes = rw e refl; their_number = rw e }, r)
  handed_all xs (one_more {s = y} h (one_more {s = z} {ss = zs} k b)) e =
      let size : length (bytes_of m) ≡ length (c ∷ d ∷ (xs ++ (y ∷ z ∷ zs))) = ap length e in
      let more : length (xs ++ (y ∷ z ∷ zs)) ≡ length xs + length (y ∷ z ∷ zs) = length-append xs (y ∷ z ∷ zs) in
      kept_then c d xs y (sounding m (z ∷ zs) ++ rest) h (omega arith) (handed_all (xs ++ (y ∷ [])) (one_more k b) (rw append_snoc e))

pub all_below_lem : (bs : List ℕ) → all_bytes bs ≡ true → Below bs
all_below_lem [] e = none
all_below_lem (b ∷ bs) e = let parts = (and-eq-true_iff (ltb b 256) (all_bytes bs)).0 e in one_more (ltb-true b 256 parts.0) (all_below_lem bs parts.1)

sounding_shown : (m : Message) (rest : List Call) {bs : List ℕ} → Below bs → bytes_of m ≡ bs → whole bs ≡ true
    → ShownFrom [] rest → ShownAnyway (sounding m (symbols bs) ++ rest)
unfolding whole
sounding_shown m rest none e w r = absurd (false≢true w)
sounding_shown m rest (one_more h none) e w r = absurd (false≢true w)
sounding_shown m rest (one_more h (one_more k none)) e w r = absurd (false≢true w)
sounding_shown m rest (one_more {s = c} h (one_more {s = d} k (one_more {s = y} {ss = ys} l b))) e w r =
    let size : length (bytes_of m) ≡ declared d = ap length e ∙ declares (c ∷ d ∷ y ∷ ys) w in
    let last = sounding m (y ∷ ys) ++ rest in
    command_then c (call d nothing ∷ last) h (second_then c d last k (handed_all m rest r c d size [] (one_more l b) e))

-- the symbols of a whole datagram of bytes, whatever was held before
pub datagram_then : (m : Message) (rest : List Call) → whole (bytes_of m) ≡ true → all_bytes (bytes_of m) ≡ true
    → ShownFrom [] rest → ShownAnyway (sounding m (symbols_of m) ++ rest)
datagram_then m rest w b = sounding_shown m rest (all_below_lem (bytes_of m) b) refl w

-- a refused symbol leaves the state as it was
pub put_in : {cs ds : List Call} → Mixed cs ds → (l : Listener) → AllShow cs (run hear_of l (symbols_in cs))
    → AllShow ds (run hear_of l (symbols_in ds))
put_in mixed_end l r = r
put_in (as_it_is m) l r = (r.0, put_in m _ r.1)
put_in (above {s = s} h m) l r = rw (refused_above l s (omega arith)) ((refl, record { no_bytes = refl; no_count = refl }), put_in m l r)
