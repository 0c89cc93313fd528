-- A call ends: each step goes on at a later instruction, or goes back and has one time less left.
use Rattle.program_object.proofs.Vocabulary.{Bool, List, None, Option, Some, [], ap, arith, false, if◌then◌else◌, inl, inr, length, length-set, nat_lt, refl, replicate, slice_get, slice_index, slice_index_or, slice_set, subst, suc, sym, tests, true, zero, ℕ, ◌*◌, ◌+◌, ◌-◌, ◌<◌, ◌∙◌, ◌∷◌, ◌≡◌, ◌≤◌, ◌⊎◌}
use Rattle.program_object.proofs.Vocabulary.{Again, Answer, Compute, HasEnded, Instruction, IsProgram, Jump, Load, Machine, Set, Source, Store, Wrap, after, area, begun, computed, gets, goes_on, holds, jump_flaw, most_in, most_steps, place_in, step, step_by, wrapped}
use Rattle.program_object.proofs.Lists.{inside_at, more_at, none_at, one_more, outside_at, some_at, zero_at}
use Rattle.program_object.proofs.Sound.{counted, later, sound_at}
use Rattle.std.proofs.Math.Nat.{mul-le-mul_left}

-- how often an instruction can still go back
abbrev left_of : Instruction → (gone : List ℕ) → ℕ
left_of (Set to value) gone = 0
left_of (Load from at to otherwise) gone = 0
left_of (Store at value otherwise) gone = 0
left_of (Answer at value otherwise) gone = 0
left_of (Compute by to left right otherwise) gone = 0
left_of (Wrap by to left right) gone = 0
left_of (Jump when left right to) gone = 0
left_of (Again back most turn) gone = most - slice_index gone turn

abbrev left_in : List Instruction → (gone : List ℕ) → ℕ
left_in [] gone = 0
left_in (i ∷ is) gone = left_of i gone + left_in is gone

-- a loop goes back once more
abbrev once_more : (gone : List ℕ) → (turn : ℕ) → List ℕ
once_more gone turn = slice_set gone turn (slice_index gone turn + 1)

no_more_of : (i : Instruction) (gone : List ℕ) (t : ℕ) → left_of i (once_more gone t) ≤ left_of i gone
no_more_of (Set to value) gone t = omega arith
no_more_of (Load from at to otherwise) gone t = omega arith
no_more_of (Store at value otherwise) gone t = omega arith
no_more_of (Answer at value otherwise) gone t = omega arith
no_more_of (Compute by to left right otherwise) gone t = omega arith
no_more_of (Wrap by to left right) gone t = omega arith
no_more_of (Jump when left right to) gone t = omega arith
no_more_of (Again back most turn) gone t = (let e = more_at gone t turn in omega arith)

no_more_in : (code : List Instruction) (gone : List ℕ) (t : ℕ) → left_in code (once_more gone t) ≤ left_in code gone
no_more_in [] gone t = omega arith
no_more_in (i ∷ is) gone t = (let a = no_more_of i gone t in let b = no_more_in is gone t in omega arith)

less_of : (back most t : ℕ) (gone : List ℕ) → t < length gone → slice_index gone t < most
    → left_of (Again back most t) (once_more gone t) + 1 ≤ left_of (Again back most t) gone
less_of back most t gone wide few = (let e = one_more gone t wide in omega arith)

less_in : (code : List Instruction) (k back most t : ℕ) (gone : List ℕ) → slice_get code k ≡ Some (Again back most t)
    → t < length gone → slice_index gone t < most → left_in code (once_more gone t) + 1 ≤ left_in code gone
less_in [] k back most t gone h wide few = cc
less_in (i ∷ is) zero back most t gone h wide few =
    let e : Again back most t ≡ i = cc in
    let a : left_of i (once_more gone t) + 1 ≤ left_of i gone = subst (λ j. left_of j (once_more gone t) + 1 ≤ left_of j gone) e (less_of back most t gone wide few) in
    let b = no_more_in is gone t in omega arith
less_in (i ∷ is) (suc k) back most t gone h wide few =
    (let a = no_more_of i gone t in let b = less_in is k back most t gone h wide few in omega arith)

none_gone : (code : List Instruction) → left_in code (replicate 16 0) ≡ most_in code
none_gone [] = refl
none_gone (Set to value ∷ is) = (let b = none_gone is in omega arith)
none_gone (Load from at to otherwise ∷ is) = (let b = none_gone is in omega arith)
none_gone (Store at value otherwise ∷ is) = (let b = none_gone is in omega arith)
none_gone (Answer at value otherwise ∷ is) = (let b = none_gone is in omega arith)
none_gone (Compute by to left right otherwise ∷ is) = (let b = none_gone is in omega arith)
none_gone (Wrap by to left right ∷ is) = (let b = none_gone is in omega arith)
none_gone (Jump when left right to ∷ is) = (let b = none_gone is in omega arith)
none_gone (Again back most turn ∷ is) = (let b = none_gone is in let z = zero_at 16 turn in omega arith)

module _ (code : List Instruction) (inv : List ℕ) where
  -- how many steps are left at most
  abbrev left_at : (at : ℕ) → (gone : List ℕ) → ℕ
  left_at at gone = (length code - at) + length code * left_in code gone

  -- a machine that has one step fewer left than another
  record IsCloser (m next : Machine) : Type 0 where
    fewer : left_at next.at next.gone + 1 ≤ left_at m.at m.gone
    wide : length next.gone ≡ length m.gone

  forward : (m : Machine) (to : ℕ) (registers state reply : List ℕ) → m.at < length code → m.at < to
      → IsCloser m (record { at = to; registers = registers; gone = m.gone; state = state; reply = reply })
  forward m to registers state reply inside later =
      record { fewer = forward_by (length code * left_in code m.gone); wide = refl } where
        forward_by : (rest : ℕ) → ((length code - to) + rest) + 1 ≤ (length code - m.at) + rest
        forward_by rest = omega arith

  back_by : (n at back new old : ℕ) → at < n → new + 1 ≤ old → ((n - back) + n * new) + 1 ≤ (n - at) + n * old
  back_by n at back new old inside less =
      let more : n * (new + 1) ≤ n * old = mul-le-mul_left n less in
      let apart : n * (new + 1) ≡ n * new + n = grind arith in
      omega arith

  got : (m : Machine) (to : ℕ) (x : Option ℕ) (otherwise : ℕ) → m.at < length code → m.at < otherwise → IsCloser m (gets m to x otherwise)
  got m to None otherwise inside later = forward m otherwise m.registers m.state m.reply inside later
  got m to (Some x) otherwise inside later = forward m (m.at + 1) (slice_set m.registers to x) m.state m.reply inside (omega arith)

  either : (m a b : Machine) (test : Bool) → IsCloser m a → IsCloser m b → IsCloser m (if test then a else b)
  either m a b true closer other = closer
  either m a b false closer other = other

  jumped : (m : Machine) (test : Bool) (to : ℕ) → m.at < length code → m.at < to → IsCloser m (goes_on m (if test then to else m.at + 1))
  jumped m true to inside later = forward m to m.registers m.state m.reply inside later
  jumped m false to inside later = forward m (m.at + 1) m.registers m.state m.reply inside (omega arith)

  looped : (m : Machine) (back most turn : ℕ) (test : Bool) → nat_lt (slice_index m.gone turn) most ≡ test
      → slice_get code m.at ≡ Some (Again back most turn) → m.at < length code → turn < length m.gone
      → IsCloser m (if test then record { at = back; registers = m.registers; gone = once_more m.gone turn; state = m.state; reply = m.reply } else goes_on m (m.at + 1))
  looped m back most turn true few here inside wide =
      let less : slice_index m.gone turn < most = grind (arith, tests) in
      record {
        fewer = back_by (length code) m.at back (left_in code (once_more m.gone turn)) (left_in code m.gone) inside (less_in code m.at back most turn m.gone here wide less);
        wide = length-set m.gone turn (slice_index m.gone turn + 1);
      }
  looped m back most turn false few here inside wide = forward m (m.at + 1) m.registers m.state m.reply inside (omega arith)

  stepped : (m : Machine) (i : Instruction) → slice_get code m.at ≡ Some i → jump_flaw (length code) m.at i ≡ None → length m.gone ≡ 16 → IsCloser m (step m inv i)
  stepped m (Set to value) here good wide =
      forward m (m.at + 1) (slice_set m.registers to value) m.state m.reply (inside_at code m.at (Set to value) here) (omega arith)
  stepped m (Load from at to otherwise) here good wide =
      got m to (slice_get (area m.state inv m.reply from) (place_in m.registers at)) otherwise (inside_at code m.at (Load from at to otherwise) here) (later (length code) m.at otherwise good)
  stepped m (Store at value otherwise) here good wide =
      let inside = inside_at code m.at (Store at value otherwise) here in
      let place = place_in m.registers at in
      either m (record { at = m.at + 1; registers = m.registers; gone = m.gone; state = slice_set m.state place (slice_index m.registers value); reply = m.reply }) (goes_on m otherwise) (nat_lt place (length m.state))
      (forward m (m.at + 1) m.registers (slice_set m.state place (slice_index m.registers value)) m.reply inside (omega arith))
      (forward m otherwise m.registers m.state m.reply inside (later (length code) m.at otherwise good))
  stepped m (Answer at value otherwise) here good wide =
      let inside = inside_at code m.at (Answer at value otherwise) here in
      let place = place_in m.registers at in
      either m (record { at = m.at + 1; registers = m.registers; gone = m.gone; state = m.state; reply = slice_set m.reply place (slice_index m.registers value) }) (goes_on m otherwise) (nat_lt place (length m.reply))
      (forward m (m.at + 1) m.registers m.state (slice_set m.reply place (slice_index m.registers value)) inside (omega arith))
      (forward m otherwise m.registers m.state m.reply inside (later (length code) m.at otherwise good))
  stepped m (Compute by to left right otherwise) here good wide =
      got m to (computed by (slice_index m.registers left) (slice_index m.registers right)) otherwise (inside_at code m.at (Compute by to left right otherwise) here) (later (length code) m.at otherwise good)
  stepped m (Wrap by to left right) here good wide =
      forward m (m.at + 1) (slice_set m.registers to (wrapped by (slice_index m.registers left) (slice_index m.registers right))) m.state m.reply (inside_at code m.at (Wrap by to left right) here) (omega arith)
  stepped m (Jump when left right to) here good wide =
      jumped m (holds when (slice_index m.registers left) (slice_index m.registers right)) to (inside_at code m.at (Jump when left right to) here) (later (length code) m.at to good)
  stepped m (Again back most turn) here good wide =
      looped m back most turn (nat_lt (slice_index m.gone turn) most) refl here (inside_at code m.at (Again back most turn) here)
      (let few = counted m.at back turn good in omega arith)

  -- after so many steps the call has ended, or has so many fewer left
  record HasGone (from : Machine) (n : ℕ) (m : Machine) : Type 0 where
    wide : length m.gone ≡ 16
    ends : HasEnded code m ⊎ (left_at m.at m.gone + n ≤ left_at from.at from.gone)

  went_by : (from m : Machine) (n : ℕ) → ((i : Instruction) → slice_get code m.at ≡ Some i → jump_flaw (length code) m.at i ≡ None)
      → HasGone from n m → (o : Option Instruction) → slice_get code m.at ≡ o → HasGone from (suc n) (step_by m inv o)
  went_by from m n good h None here = record { wide = h.wide; ends = inl (outside_at code m.at here) }
  went_by from m n good h (Some i) here =
      let inside = inside_at code m.at i here in
      let closer = stepped m i here (good i here) h.wide in
      let wide : length (step m inv i).gone ≡ 16 = closer.wide ∙ h.wide in
      let fewer = closer.fewer in
      elim h.ends [
        | inl ended ↦ absurd (omega arith)
        | inr left ↦ record { wide = wide; ends = inr (omega arith) }
      ]

  went : (from : Machine) (n : ℕ) → length from.gone ≡ 16 → ((k : ℕ) (i : Instruction) → slice_get code k ≡ Some i → jump_flaw (length code) k i ≡ None)
      → HasGone from n (after code inv from n)
  went from zero wide good = record { wide = wide; ends = inr (omega arith) }
  went from (suc n) wide good =
      let m = after code inv from n in
      went_by from m n (good m.at) (went from n wide good) (slice_get code m.at) refl

-- a call of a program has ended after as many steps as it takes at most
pub call_ends : (p : Source) → IsProgram p → (state inv : List ℕ)
    → HasEnded p.instructions (after p.instructions inv (begun state p.reply) (most_steps p.instructions))
call_ends p good state inv =
    let code = p.instructions in
    let last = after code inv (begun state p.reply) (most_steps code) in
    let h = went code inv (begun state p.reply) (most_steps code) refl (sound_at p good) in
    let none = none_gone code in
    let whole : length code * (1 + most_in code) ≡ length code + length code * most_in code = grind arith in
    let same : length code * left_in code (replicate 16 0) ≡ length code * most_in code = ap (λ x. length code * x) none in
    elim h.ends [
      | inl ended ↦ ended
      | inr left ↦ omega arith
    ]

-- once a call has ended, nothing changes any more
pub stays : (code : List Instruction) (inv : List ℕ) (m : Machine) (n : ℕ) → slice_get code (after code inv m n).at ≡ None
    → (k j : ℕ) → j ≡ n + k → after code inv m j ≡ after code inv m n
stays code inv m n none zero j e = ap (after code inv m) (let same : j ≡ n = omega arith in same)
stays code inv m n none (suc k) j e =
    let more : j ≡ suc (n + k) = omega arith in
    ap (after code inv m) more
    ∙ ap (λ (x : Machine). step_by x inv (slice_get code x.at)) (stays code inv m n none k (n + k) refl)
    ∙ ap (step_by (after code inv m n) inv) none

pub ended_by : (code : List Instruction) (inv : List ℕ) (from m : Machine) (n most : ℕ) → m ≡ after code inv from n → length code ≤ m.at → n < most
    → m ≡ after code inv from most
ended_by code inv from m n most same ended few =
    same ∙ sym (stays code inv from n (subst (λ (x : Machine). slice_get code x.at ≡ None) same (none_at code m.at ended)) (most - n) most (omega arith))

pub stepped_by : (code : List Instruction) (inv : List ℕ) (from m next : Machine) (n : ℕ) (d : Instruction) → m ≡ after code inv from n → m.at < length code
    → next ≡ step m inv (slice_index_or code m.at d) → next ≡ after code inv from (n + 1)
stepped_by code inv from m next n d same inside made =
    let more : n + 1 ≡ suc n = omega arith in
    made ∙ ap (step_by m inv) (sym (some_at code m.at d inside))
    ∙ ap (λ (x : Machine). step_by x inv (slice_get code x.at)) same
    ∙ ap (after code inv from) (sym more)
