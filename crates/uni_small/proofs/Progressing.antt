-- In every execution a process with a call pending can take a step, and each step of a call makes a number smaller.
use Rattle.uni_small.proofs.Vocabulary.{AreApplied, AreWhole, buffer_in, ◌/◌, ◌%◌, Bool, Idle, Image, Last, List, Local, None, Option, Reading, Ready, Sequential, Sizes, Some, Stage, Writing, [], ap, arith, announced_steps, attempt_steps, buffer_words, call_steps, checked, checked_own, drop, false, most_calls, nat_le, replicate, length-replicate, slice_set, take, goes, held_place, knows, if◌then◌else◌, inl, inr, length, length-append, length-set, looked, number_cases, read_image, refl, get_or-set_other, get_or-set_same, slice_get, slice_get-append_left, slice_get_within, slice_index, spell, subst, suc, suc-mul, sym, true, version_in, with_seen, wrote, zero, ℕ, ⊎_elim, ◌*◌, ◌++◌, ◌+◌, ◌-◌, ◌<◌, ◌==◌, ◌∙◌, ◌∷◌, ◌≡◌, ◌≤◌, ◌⊎◌, lt_cases, HasComeTo, IsWritten, IsWrittenTo, written_to, rests, restarted, recalls}
use Rattle.std.proofs.Math.Nat.{mul_comm}
use Rattle.uni_small.proofs.Vocabulary.{has_begun}
use Rattle.uni_model.proofs.Each.{each-set_at}
use Rattle.uni_model.specs.Executions.Execution.{Ends, Takes}
use Rattle.uni_small.specs.Execution.{CanTake, Execution, Moment, Next, access_of, after, last_moment, opened_moment}
use Rattle.uni_small.specs.Execution.Next.{Store, Announce, Follow, Recall, TryDirectly, Start, Copy, Look, Ask, Check, CheckOwn, Confirm, Write, Bring, BringOwn, Turn, Load, Reply}
use Rattle.uni_small.specs.Execution.Next.{Recount, Reread, Restart}
use Rattle.uni_small.specs.Progress.{IsUnderWay, KeepsBound, NeverBlocks, StepOfCall, counted, steps_of_call}
use Rattle.uni_small.proofs.Ending.{steps_are}
use Rattle.uni_small.proofs.Opening as Opening

or_else : {A : Type 0} → Option A → A → A
or_else None d = d
or_else (Some x) d = x

-- one more process has been looked at
pub whole_push : (sizes : Sizes) (seen : List (Option (List ℕ))) (x : Option (List ℕ)) → AreWhole sizes seen → ((inv : List ℕ) → x ≡ Some inv → length inv ≡ sizes.invocation)
    → (r : ℕ) (inv : List ℕ) → slice_get (seen ++ x ∷ []) r ≡ Some (Some inv) → length inv ≡ sizes.invocation
unfolding or_else
whole_push sizes [] x whole its zero inv e = its inv (ap (λ o. or_else o x) e)
whole_push sizes [] x whole its (suc r) inv e = absurd (let b = slice_get_within [] r (Some inv) e in omega arith)
whole_push sizes (y ∷ seen) x whole its zero inv e = whole zero inv e
whole_push sizes (y ∷ seen) x whole its (suc r) inv e = whole_push sizes seen x (λ j i h. whole (suc j) i h) its r inv e

pub whole_none : (sizes : Sizes) → AreWhole sizes []
whole_none sizes = λ r inv e. absurd (let b = slice_get_within [] r (Some inv) e in omega arith)

-- each invocation that was seen is whole, or all but the last one are
abbrev IsScan : Sizes → List (Option (List ℕ)) → Type 0
IsScan sizes seen =
    (AreWhole sizes seen × (length seen ≤ sizes.processes))
    ⊎ ((front : List (Option (List ℕ))) × (part : List ℕ) × (seen ≡ front ++ Some part ∷ []) × AreWhole sizes front × (length front < sizes.processes) × (length part < sizes.invocation))

abbrev IsStanding : Sizes → Stage → Type 0
IsStanding sizes (Reading tries s copy seen) =
    ((seen ≡ []) × (length copy ≤ buffer_words sizes)) ⊎ ((length copy ≡ buffer_words sizes) × IsScan sizes seen)
IsStanding sizes (Idle stored) = length stored ≤ sizes.invocation
IsStanding sizes (Last s loaded) = length loaded < sizes.reply
IsStanding sizes stage = Unit {0}

-- a process with an announced call, or one whose attempt is direct, the first one, of a call for which there is room
abbrev IsAttempting : (direct : Bool) (tries calls : ℕ) → Type 0
IsAttempting direct tries calls = (direct ≡ false) ⊎ ((direct ≡ true) × (tries ≡ 0) × (calls < most_calls))

abbrev IsInMode : Stage → (direct : Bool) (calls : ℕ) → Type 0
IsInMode (Idle []) direct calls = (direct ≡ false) ⊎ (calls < most_calls)
IsInMode (Idle (y ∷ stored)) direct calls = calls < most_calls
IsInMode (Ready tries) direct calls = direct ≡ false
IsInMode (Reading tries s copy seen) direct calls = IsAttempting direct tries calls
IsInMode (Writing tries s image seen written) direct calls = IsAttempting direct tries calls
IsInMode (Last s loaded) direct calls = Unit {0}

take_most : (n : ℕ) (xs : List ℕ) → length (take n xs) ≤ n
take_most zero xs = omega arith
take_most (suc n) [] = omega arith
take_most (suc n) (x ∷ xs) = let h = take_most n xs in omega (arith, h)

begun_most : (sizes : Sizes) (b : Bool) (ws : List ℕ) → length (if b then take (buffer_words sizes) ws else []) ≤ buffer_words sizes
begun_most sizes true ws = take_most (buffer_words sizes) ws
begun_most sizes false ws = omega arith

length-push : {A : Type 0} (xs : List A) (x : A) → length (xs ++ x ∷ []) ≡ length xs + 1
length-push xs x = length-append xs (x ∷ [])

none-some : {A B : Type 0} (x : A) → ◌≡◌ {A = Option A} None (Some x) → B
none-some x e = absurd (cc)

looked_scan : (sizes : Sizes) (seen : List (Option (List ℕ))) → AreWhole sizes seen → length seen < sizes.processes → (b : Bool) → IsScan sizes (seen ++ (if b then None else Some []) ∷ [])
looked_scan sizes seen whole below true = inl (whole_push sizes seen None whole (λ inv e. none-some inv e), let l = length-push seen None in omega (arith, l, below))
looked_scan sizes seen whole below false = ⊎_elim
    (λ some. inr (seen, [], refl, whole, below, some.0))
    (λ none. inl (whole_push sizes seen (Some []) whole (λ inv e. let same : [] ≡ inv = ap (λ o. part_of o) e in let l = ap (λ (w : List ℕ). length w) same in omega (arith, none.0, l)), let l = length-push seen (Some []) in omega (arith, l, below)))
    (lt_cases 0 sizes.invocation)
  where
    part_of : Option (List ℕ) → List ℕ
    part_of None = []
    part_of (Some w) = w

asked_scan : (sizes : Sizes) (seen : List (Option (List ℕ))) (part : List ℕ) (found : ℕ) → AreWhole sizes seen → length seen < sizes.processes → length part < sizes.invocation
    → IsScan sizes (seen ++ Some (part ++ found ∷ []) ∷ [])
asked_scan sizes seen part found whole below more = ⊎_elim
    (λ some. inr (seen, part ++ found ∷ [], refl, whole, below, some.0))
    (λ none. inl (whole_push sizes seen (Some (part ++ found ∷ [])) whole (λ inv e. let same : part ++ found ∷ [] ≡ inv = ap (λ o. part_of o) e in let l = ap (λ (w : List ℕ). length w) same in let k = length-push part found in omega (arith, none.0, l, k, more)), let l = length-push seen (Some (part ++ found ∷ [])) in omega (arith, l, below)))
    (lt_cases (length (part ++ found ∷ [])) sizes.invocation)
  where
    part_of : Option (List ℕ) → List ℕ
    part_of None = []
    part_of (Some w) = w

get_last : {A : Type 0} (xs : List A) (x : A) → slice_get (xs ++ x ∷ []) (length xs) ≡ Some x
get_last [] x = refl
get_last (y ∷ xs) x = get_last xs x

get_before : {A : Type 0} (xs : List A) (x : A) (r : ℕ) (v : A) → r < length xs → slice_get (xs ++ x ∷ []) r ≡ Some v → slice_get xs r ≡ Some v
get_before [] x r v below e = absurd (omega arith)
get_before (y ∷ xs) x zero v below e = e
get_before (y ∷ xs) x (suc r) v below e = get_before xs x r v (omega arith) e

-- where the last invocation that was seen lacks words, all words of the buffer are copied, and the others are whole
last_open : (sizes : Sizes) (tries s : ℕ) (copy : List ℕ) (seen : List (Option (List ℕ))) (part : List ℕ) → length part < sizes.invocation
    → IsStanding sizes (Reading tries s copy (seen ++ Some part ∷ [])) → (length copy ≡ buffer_words sizes) × AreWhole sizes seen
last_open sizes tries s copy seen part more = ⊎_elim
    (λ copying. let l = ap (λ (x : List (Option (List ℕ))). length x) copying.0 in let k = length-push seen (Some part) in absurd (omega (arith, l, k)))
    (λ scanning. (
      scanning.0,
      ⊎_elim
          (λ whole. absurd (let l = whole.0 (length seen) part (get_last seen (Some part)) in omega (arith, l, more)))
          (λ last. λ r inv e.
          let long : length seen ≡ length last.0 = (let a = ap (λ (x : List (Option (List ℕ))). length x) last.2 in let b = length-push seen (Some part) in let d = length-push last.0 (Some last.1) in omega (arith, a, b, d)) in
          let below : r < length seen = slice_get_within seen r (Some inv) e in
          let there : slice_get (last.0 ++ Some last.1 ∷ []) r ≡ Some (Some inv) = subst (λ x. slice_get x r ≡ Some (Some inv)) last.2 (slice_get-append_left seen (Some part ∷ []) r (Some inv) e) in
          last.3 r inv (get_before last.0 (Some last.1) r (Some inv) (omega (arith, long, below)) there))
          scanning.1,
    ))

-- a word of a buffer is among those that are held
place_below : (sizes : Sizes) (which i : ℕ) → which ≤ 1 → i < buffer_words sizes → held_place sizes which i < 2 * buffer_words sizes
place_below sizes zero i either below = let e : held_place sizes 0 i ≡ i = omega arith in omega (arith, e, below)
place_below sizes (suc zero) i either below = let e : held_place sizes 1 i ≡ buffer_words sizes + i = omega arith in omega (arith, e, below)
place_below sizes (suc (suc w)) i either below = absurd (omega (arith, either))

module _ (object : Sequential (List ℕ) (List ℕ) (List ℕ)) (sizes : Sizes) (some_reply : 1 ≤ sizes.reply) where
  -- what an attempt has written is right, for some call of its own where it is direct
  abbrev IsComing : (p : ℕ) → Local → Stage → Type 0
  IsComing p l (Writing tries s image seen written) =
      (written ≤ buffer_words sizes) × ((all : List (Option (List ℕ))) × HasComeTo object sizes p l image seen all written written)
  IsComing p l stage = Unit {0}

  -- a process stands where its stage says, and its buffers have their words
  pub record Stands (p : ℕ) (l : Local) : Type 0 where
    pub standing : IsStanding sizes l.stage
    pub coming : IsComing p l l.stage
    pub mode : IsInMode l.stage l.direct (length l.own)
    pub long : length l.held ≡ 2 * buffer_words sizes
    pub either : l.spare ≤ 1

  checked_stands : (b c : Bool) (tries s : ℕ) (image : Image) (seen : List (Option (List ℕ)))
      → IsStanding sizes (if b then (if c then Last s [] else Writing tries s image seen 0) else Ready (tries + 1))
  checked_stands true true tries s image seen = some_reply
  checked_stands true false tries s image seen = tt
  checked_stands false c tries s image seen = tt

  checked_mode : (b c : Bool) (tries s : ℕ) (image : Image) (seen : List (Option (List ℕ))) (direct : Bool) (calls : ℕ) → direct ≡ false
      → IsInMode (if b then (if c then Last s [] else Writing tries s image seen 0) else Ready (tries + 1)) direct calls
  checked_mode true true tries s image seen direct calls e = tt
  checked_mode true false tries s image seen direct calls e = inl e
  checked_mode false c tries s image seen direct calls e = e

  checked_own_stands : (b : Bool) (s : ℕ) (image : Image) (seen : List (Option (List ℕ))) → IsStanding sizes (if b then Writing 0 s image seen 0 else Idle [])
  checked_own_stands true s image seen = tt
  checked_own_stands false s image seen = omega arith

  checked_own_mode : (b : Bool) (s : ℕ) (image : Image) (seen : List (Option (List ℕ))) (direct : Bool) (calls : ℕ) → IsAttempting direct 0 calls
      → IsInMode (if b then Writing 0 s image seen 0 else Idle []) direct calls
  checked_own_mode true s image seen direct calls h = h
  checked_own_mode false s image seen direct calls h = ⊎_elim (λ announced. inl announced) (λ own. inr own.2) h

  begins_coming : (p : ℕ) (l : Local) (image : Image) (seen all : List (Option (List ℕ))) → AreApplied sizes l.direct p seen all → HasComeTo object sizes p l image seen all 0 0
  begins_coming p l image seen all applied = (applied, omega arith, λ i below. absurd (omega (arith, below)))

  checked_coming : (p : ℕ) (l : Local) (b c : Bool) (tries s : ℕ) (image : Image) (seen : List (Option (List ℕ))) → l.direct ≡ false
      → IsComing p l (if b then (if c then Last s [] else Writing tries s image seen 0) else Ready (tries + 1))
  checked_coming p l true true tries s image seen announced = tt
  checked_coming p l true false tries s image seen announced = (omega arith, (seen, begins_coming p l image seen seen (inl (announced, refl))))
  checked_coming p l false c tries s image seen announced = tt

  checked_own_coming : (p : ℕ) (l : Local) (b : Bool) (s : ℕ) (image : Image) (seen : List (Option (List ℕ))) → l.direct ≡ true → IsComing p l (if b then Writing 0 s image seen 0 else Idle [])
  checked_own_coming p l true s image seen direct =
      let inv : List ℕ = replicate sizes.invocation 0 in
      let all = slice_set seen p (Some inv) in
      (omega arith, (all, begins_coming p l image seen all (inr (direct, inv, length-replicate sizes.invocation 0, refl))))
  checked_own_coming p l false s image seen direct = tt

  -- and with one word more
  wrote_coming : (p : ℕ) (l : Local) (tries s : ℕ) (image : Image) (seen all : List (Option (List ℕ))) (written k : ℕ) → length l.held ≡ 2 * buffer_words sizes → l.spare ≤ 1 → k < buffer_words sizes
      → HasComeTo object sizes p l image seen all written k
      → IsComing p (wrote l k (held_place sizes l.spare k) (slice_index (spell (with_seen object image 0 all)) k)) (Writing tries s image seen (k + 1))
  wrote_coming p l tries s image seen all written k long either below come =
      let wanted = spell (with_seen object image 0 all) in
      let at = held_place sizes l.spare k in (
        omega (arith, below),
        (
          all,
          (
            come.0,
            omega arith,
            λ i inside. ⊎_elim
                (λ before. get_or-set_other l.held at (held_place sizes l.spare i) (slice_index wanted k) 0 (λ e. let b = before.0 in omega (arith, e, b)) ∙ come.2 i before.0)
                (λ after.
                let same : i ≡ k = omega (arith, after.0, inside) in
                ap (λ j. slice_index (slice_set l.held at (slice_index wanted k)) (held_place sizes l.spare j)) same
                ∙ get_or-set_same l.held at (slice_index wanted k) 0 (let b = place_below sizes l.spare k either below in omega (arith, b, long))
                ∙ ap (slice_index wanted) (sym same))
                (lt_cases i k),
          ),
        ),
      )

  rests_coming : (p : ℕ) (l : Local) (stage : Stage) → IsComing p l stage → IsComing p (rests l) stage
  rests_coming p l (Idle stored) h = tt
  rests_coming p l (Ready tries) h = tt
  rests_coming p l (Reading tries s copy seen) h = tt
  rests_coming p l (Writing tries s image seen written) h = h
  rests_coming p l (Last s loaded) h = tt

  restarted_coming : (p : ℕ) (l : Local) (b : Bool) → IsComing p l (if b then Ready 0 else Idle [])
  restarted_coming p l true = tt
  restarted_coming p l false = tt

  restarted_stands : (b : Bool) → IsStanding sizes (if b then Ready 0 else Idle [])
  restarted_stands true = tt
  restarted_stands false = omega arith

  restarted_mode : (b : Bool) (calls : ℕ) → IsInMode (if b then Ready 0 else Idle []) false calls
  restarted_mode true calls = refl
  restarted_mode false calls = inl refl

  one_or_none : (b : Bool) → (if b then 0 else 1) ≤ 1
  one_or_none true = omega arith
  one_or_none false = omega arith

  stands_after : (p : ℕ) (l : Local) → Stands p l → (next : Next object sizes p l) (found : ℕ) → Stands p ((access_of object sizes p l next).leaves found)
  stands_after p l h (Store [] x at inside room) found = record { standing = omega (arith, inside); coming = tt; mode = room; long = h.long; either = h.either }
  stands_after p l h (Store (y ∷ stored) x at inside room) found =
      record { standing = (let e = length-push stored x in omega (arith, e, inside)); coming = tt; mode = room; long = h.long; either = h.either }
  stands_after p l h (Announce inv at whole few) found = record { standing = tt; coming = tt; mode = refl; long = h.long; either = h.either }
  stands_after p l h (Follow at) found = record { standing = h.standing; coming = subst (λ k. IsComing p (knows l (version_in found)) k) (sym at) tt; mode = h.mode; long = h.long; either = h.either }
  stands_after p l h (Recall read at had) found = record { standing = h.standing; coming = subst (λ k. IsComing p (recalls l read.version (version_in found)) k) (sym at) tt; mode = h.mode; long = h.long; either = h.either }
  stands_after p l h Recount found = record { standing = h.standing; coming = rests_coming p l l.stage h.coming; mode = h.mode; long = h.long; either = h.either }
  stands_after p l h (Reread which k either below) found = record { standing = h.standing; coming = rests_coming p l l.stage h.coming; mode = h.mode; long = h.long; either = h.either }
  stands_after p l h Restart found = record {
    standing = restarted_stands (has_begun l.stage l.direct);
    coming = restarted_coming p (restarted l p found (has_begun l.stage l.direct)) (has_begun l.stage l.direct);
    mode = restarted_mode (has_begun l.stage l.direct) (length l.own);
    long = h.long;
    either = one_or_none (buffer_in found == 2 * p + 1);
  }
  stands_after p l h (TryDirectly at untried few) found =
      record { standing = inl (refl, begun_most sizes (buffer_in found / 2 == p) (drop (buffer_in found % 2 * buffer_words sizes) l.held)); coming = tt; mode = inr (refl, refl, few); long = h.long; either = h.either }
  stands_after p l h (Start tries at few) found =
      let mode = subst (λ k. IsInMode k l.direct (length l.own)) at h.mode in
      record { standing = inl (refl, begun_most sizes (buffer_in found / 2 == p) (drop (buffer_in found % 2 * buffer_words sizes) l.held)); coming = tt; mode = inl mode; long = h.long; either = h.either }
  stands_after p l h (Copy tries s copy at more) found =
      let mode = subst (λ k. IsInMode k l.direct (length l.own)) at h.mode in
      record { standing = inl (refl, let e = length-push copy found in omega (arith, e, more)); coming = tt; mode = mode; long = h.long; either = h.either }
  stands_after p l h (Look tries s copy seen at copied whole more) found =
      let mode = subst (λ k. IsInMode k l.direct (length l.own)) at h.mode in
      record { coming = tt; mode = mode; standing = inr (copied, looked_scan sizes seen whole more (nat_le found (slice_index copy (length seen)))); long = h.long; either = h.either }
  stands_after p l h (Ask tries s copy seen part at inside more) found =
      let open_is = last_open sizes tries s copy seen part more (subst (λ k. IsStanding sizes k) at h.standing) in
      let mode = subst (λ k. IsInMode k l.direct (length l.own)) at h.mode in
      record { coming = tt; mode = mode; standing = inr (open_is.0, asked_scan sizes seen part found open_is.1 inside more); long = h.long; either = h.either }
  stands_after p l h (Check tries s copy seen at copied whole all announced) found = record {
    mode = checked_mode (found == s) (slice_index copy p == length l.own + 1) tries s (read_image sizes copy) seen l.direct (length l.own) announced;
    coming = checked_coming p (goes l (checked sizes p (length l.own + 1) tries s copy seen found)) (found == s) (slice_index copy p == length l.own + 1) tries s (read_image sizes copy) seen announced;
    standing = checked_stands (found == s) (slice_index copy p == length l.own + 1) tries s (read_image sizes copy) seen;
    long = h.long;
    either = h.either;
  }
  stands_after p l h (CheckOwn s copy seen at copied whole all direct) found = record {
    coming = checked_own_coming p (goes l (checked_own sizes s copy seen found)) (found == s) s (read_image sizes copy) seen direct;
    standing = checked_own_stands (found == s) s (read_image sizes copy) seen;
    mode = checked_own_mode (found == s) s (read_image sizes copy) seen l.direct (length l.own) (subst (λ k. IsInMode k l.direct (length l.own)) at h.mode);
    long = h.long;
    either = h.either;
  }
  stands_after p l h (Confirm s copy at copied direct) found = record { standing = omega arith; coming = tt; mode = inl refl; long = h.long; either = h.either }
  stands_after p l h (Write tries s image seen all written k at come below) found =
      let x = slice_index (spell (with_seen object image 0 all)) k in
      let l' = wrote l k (held_place sizes l.spare k) x in
      record {
        standing = subst (λ z. IsStanding sizes (written_to z (k + 1))) (sym at) tt;
        coming = subst (λ z. IsComing p l' (written_to z (k + 1))) (sym at) (wrote_coming p l tries s image seen all written k h.long h.either below come);
        mode = subst (λ z. IsInMode (written_to z (k + 1)) l.direct (length l.own)) (sym at) (subst (λ z. IsInMode z l.direct (length l.own)) at h.mode);
        long = length-set l.held (held_place sizes l.spare k) x ∙ h.long;
        either = h.either;
      }
  stands_after p l h (Bring tries s image seen to at written announced) found = ⊎_elim
      (λ same. rw same.1 (record { standing = some_reply; coming = tt; mode = tt; long = h.long; either = omega arith }))
      (λ other. rw other.1 (record { standing = tt; coming = tt; mode = announced; long = h.long; either = h.either }))
      (number_cases found s)
  stands_after p l h (BringOwn s image seen to inv at written direct whole few) found = ⊎_elim
      (λ same. rw same.1 (record { standing = some_reply; coming = tt; mode = tt; long = h.long; either = omega arith }))
      (λ other. rw other.1 (record { standing = omega arith; coming = tt; mode = inr few; long = h.long; either = h.either }))
      (number_cases found s)
  stands_after p l h (Turn tries at two announced) found = record { standing = some_reply; coming = tt; mode = tt; long = h.long; either = h.either }
  stands_after p l h (Load s loaded at more) found =
      record { standing = (let e = length-push loaded found in omega (arith, e, more)); coming = tt; mode = tt; long = h.long; either = h.either }
  stands_after p l h (Reply s loaded at last) found = record { standing = omega arith; coming = tt; mode = inl refl; long = h.long; either = h.either }

  abbrev pub AllStand : Moment → Type 0
  AllStand m = (p : ℕ) → p < sizes.processes → Stands p (m.local p)

  stand_after : (m : Moment) → AllStand m → (p : ℕ) → p < sizes.processes → (next : CanTake object sizes m p) → AllStand (after object sizes m p next)
  stand_after m h p inside next =
      let a = access_of object sizes p (m.local p) next in
      let found = slice_index m.words a.word in
      each-set_at Stands sizes.processes m.local p (a.leaves found) (stands_after p (m.local p) (h p inside) next found) (λ q within apart. h q within)

  pub stand_at_end : {m : Moment} → AllStand m → (e : Execution object sizes m) → AllStand (last_moment object sizes e)
  stand_at_end h Ends = h
  stand_at_end h (Takes {m = m} p inside next rest) = stand_at_end (stand_after m h p inside next) rest

  -- the step that stores one more word of an invocation, or announces it
  store_or_announce : (p : ℕ) (l : Local) (y : ℕ) (stored : List ℕ) → l.stage ≡ Idle (y ∷ stored) → length (y ∷ stored) ≤ sizes.invocation → length l.own < most_calls → StepOfCall object sizes p l
  store_or_announce p l y stored at standing room = ⊎_elim
      (λ more. (Store (y ∷ stored) 0 at more.0 room, λ t. refl))
      (λ all. (Announce (y ∷ stored) at (let a = all.0 in omega (arith, a, standing)) room, λ t. refl))
      (lt_cases (length (y ∷ stored)) sizes.invocation)

  -- the same of the first word, after a direct attempt that failed
  store_or_announce_first : (p : ℕ) (l : Local) → l.stage ≡ Idle [] → length l.own < most_calls → l.direct ≡ true → StepOfCall object sizes p l
  store_or_announce_first p l at room failed = ⊎_elim
      (λ more. (Store [] 0 at more.0 room, λ t. ap (λ b. if b then t + 1 else 1) failed))
      (λ all. (Announce [] at (let a = all.0 in omega (arith, a)) room, λ t. ap (λ b. if b then t + 1 else 1) failed))
      (lt_cases 0 sizes.invocation)

  -- a process in the midst of a call can take a step
  next_of : (1 ≤ sizes.processes) → (p : ℕ) (l : Local) (stage : Stage) → l.stage ≡ stage → IsStanding sizes stage → IsInMode stage l.direct (length l.own) → IsComing p l stage → IsUnderWay stage l.direct → StepOfCall object sizes p l
  next_of some p l (Idle []) at standing mode coming pending = ⊎_elim
      (λ none. absurd (let e : true ≡ false = sym pending ∙ none in cc))
      (λ room. store_or_announce_first p l at room pending)
      mode
  next_of some p l (Idle (y ∷ stored)) at standing mode coming pending = store_or_announce p l y stored at standing mode
  next_of some p l (Ready tries) at standing mode coming pending = ⊎_elim (λ few. (Start tries at few.0, λ t. refl)) (λ two. (Turn tries at two.0 mode, λ t. refl)) (lt_cases tries 2)
  next_of some p l (Reading tries s copy seen) at standing mode coming pending = ⊎_elim
      (λ copying. ⊎_elim
      (λ more. (Copy tries s copy (at ∙ ap (λ x. Reading tries s copy x) copying.0) more.0, λ t. refl))
      (λ all. (Look tries s copy [] (at ∙ ap (λ x. Reading tries s copy x) copying.0) (let a = all.0 in let b = copying.1 in omega arith) (whole_none sizes) some, λ t. refl))
      (lt_cases (length copy) (buffer_words sizes)))
      (λ scanning. ⊎_elim
      (λ whole. ⊎_elim
      (λ more. (Look tries s copy seen at scanning.0 whole.0 more.0, λ t. refl))
      (λ all. ⊎_elim
      (λ announced. (Check tries s copy seen at scanning.0 whole.0 (let a = all.0 in let b = whole.1 in omega arith) announced, λ t. refl))
      (λ own. (CheckOwn s copy seen (at ∙ ap (λ k. Reading k s copy seen) own.1) scanning.0 whole.0 (let a = all.0 in let b = whole.1 in omega arith) own.0, λ t. refl))
      mode)
      (lt_cases (length seen) sizes.processes))
      (λ last. (Ask tries s copy last.0 last.1 (at ∙ ap (λ x. Reading tries s copy x) last.2) last.4 last.5, λ t. refl))
      scanning.1)
      standing
  next_of some p l (Writing tries s image seen written) at standing mode coming pending = ⊎_elim
      (λ more. (Write tries s image seen coming.1.0 written written at coming.1.1 more.0, λ t. refl))
      (λ all.
      let come = coming.1.1 in
      let whole : written ≡ buffer_words sizes = (let a = all.0 in let b = coming.0 in omega (arith, a, b)) in
      let is_written : IsWritten object sizes l image coming.1.0 = subst (λ k. IsWrittenTo object sizes l image coming.1.0 k) whole come.2 in
      ⊎_elim
      (λ announced. (Bring tries s image seen written at (subst (λ x. IsWritten object sizes l image x) announced.1 is_written) announced.0, λ t. refl))
      (λ own. ⊎_elim
      (λ none. absurd (let e : true ≡ false = sym own.0 ∙ none in cc))
      (λ room. (BringOwn s image seen written own.1 (at ∙ ap (λ k. Writing k s image seen written) room.1) (subst (λ x. IsWritten object sizes l image x) own.3 is_written) own.0 own.2 room.2, λ t. refl))
      mode)
      come.0)
      (lt_cases written (buffer_words sizes))
  next_of some p l (Last s loaded) at standing mode coming pending = ⊎_elim
      (λ more. (Load s loaded at more.0, λ t. refl))
      (λ all. (Reply s loaded at (let a = all.0 in omega (arith, a, standing)), λ t. refl))
      (lt_cases (length loaded + 1) sizes.reply)

-- how many words of invocations that were seen are not loaded yet
abbrev lacking : Sizes → List (Option (List ℕ)) → ℕ
lacking sizes [] = 0
lacking sizes (None ∷ seen) = lacking sizes seen
lacking sizes (Some w ∷ seen) = (sizes.invocation - length w) + lacking sizes seen

lacking-push : (sizes : Sizes) (seen : List (Option (List ℕ))) (x : Option (List ℕ)) → lacking sizes (seen ++ x ∷ []) ≡ lacking sizes seen + lacking sizes (x ∷ [])
lacking-push sizes [] x = let e : lacking sizes (x ∷ []) ≡ 0 + lacking sizes (x ∷ []) = omega arith in e
lacking-push sizes (None ∷ seen) x = lacking-push sizes seen x
lacking-push sizes (Some w ∷ seen) x = let e = lacking-push sizes seen x in omega (arith, e)

lacking_looked : (sizes : Sizes) (b : Bool) → lacking sizes ((if b then None else Some []) ∷ []) ≤ sizes.invocation
lacking_looked sizes true = omega arith
lacking_looked sizes false = omega arith

-- the most steps of an attempt, and how many steps it takes to look at the processes from the k-th on
most : Sizes → ℕ
most sizes = attempt_steps sizes

most_is : (sizes : Sizes) → most sizes ≡ attempt_steps sizes
unfolding most
most_is sizes = refl

to_look : Sizes → (k : ℕ) → ℕ
to_look sizes k = (sizes.processes - k) * suc sizes.invocation

to_look-all : (sizes : Sizes) → to_look sizes 0 ≡ sizes.processes + sizes.processes * sizes.invocation
unfolding to_look
to_look-all sizes =
    ap (λ k. k * suc sizes.invocation) (let e : sizes.processes - 0 ≡ sizes.processes = omega arith in e)
    ∙ mul_comm sizes.processes (suc sizes.invocation) ∙ suc-mul sizes.invocation sizes.processes
    ∙ (let c = mul_comm sizes.invocation sizes.processes in omega (arith, c))

to_look-less : (sizes : Sizes) (k : ℕ) → k < sizes.processes → to_look sizes k ≡ to_look sizes (k + 1) + suc sizes.invocation
unfolding to_look
to_look-less sizes k below =
    ap (λ j. j * suc sizes.invocation) (let e : sizes.processes - k ≡ suc (sizes.processes - (k + 1)) = omega (arith, below) in e)
    ∙ suc-mul (sizes.processes - (k + 1)) (suc sizes.invocation)

module _ (object : Sequential (List ℕ) (List ℕ) (List ℕ)) (sizes : Sizes) (some_reply : 1 ≤ sizes.reply) where
  -- after a direct attempt that failed, a call is still to be made as if there had been none
  abbrev unless_announced : (direct : Bool) (steps : ℕ) → ℕ
  unless_announced true steps = announced_steps sizes
  unless_announced false steps = steps

  -- how many steps of its call a process can still take at most
  abbrev left : (direct : Bool) → Stage → ℕ
  left direct (Idle []) = unless_announced direct 0
  left direct (Idle (y ∷ stored)) = (sizes.invocation - suc (length stored)) + 1 + (2 * most sizes + (1 + sizes.reply))
  left direct (Ready tries) = (2 - tries) * most sizes + (1 + sizes.reply)
  left direct (Reading tries s copy seen) =
      unless_announced direct ((1 - tries) * most sizes + (1 + sizes.reply))
      + ((buffer_words sizes - length copy) + to_look sizes (length seen) + lacking sizes seen + buffer_words sizes + 2)
  left direct (Writing tries s image seen written) =
      unless_announced direct ((1 - tries) * most sizes + (1 + sizes.reply)) + ((buffer_words sizes - written) + 1)
  left direct (Last s loaded) = sizes.reply - length loaded

  abbrev IsWithin : (direct : Bool) → Stage → (taken : ℕ) → Type 0
  IsWithin direct stage taken = taken + left direct stage ≤ call_steps sizes

  unless_false : (direct : Bool) (steps : ℕ) → direct ≡ false → unless_announced direct steps ≡ steps
  unless_false direct steps e = ap (λ b. unless_announced b steps) e

  unless_true : (direct : Bool) (steps : ℕ) → direct ≡ true → unless_announced direct steps ≡ announced_steps sizes
  unless_true direct steps e = ap (λ b. unless_announced b steps) e

  one_try_less : (tries : ℕ) → tries < 2 → (2 - tries) * most sizes ≡ (1 - tries) * most sizes + most sizes
  one_try_less tries few = ap (λ k. k * most sizes) (let e : 2 - tries ≡ suc (1 - tries) = omega (arith, few) in e) ∙ suc-mul (1 - tries) (most sizes)

  same_tries : (tries : ℕ) → (2 - (tries + 1)) * most sizes ≡ (1 - tries) * most sizes
  same_tries tries = ap (λ k. k * most sizes) (let e : 2 - (tries + 1) ≡ 1 - tries = omega arith in e)

  checked_within : (direct b c : Bool) (tries s : ℕ) (image : Image) (seen : List (Option (List ℕ))) (taken : ℕ) → direct ≡ false
      → taken + 1 + ((1 - tries) * most sizes + (1 + sizes.reply) + (buffer_words sizes + 1)) ≤ call_steps sizes
      → IsWithin direct (if b then (if c then Last s [] else Writing tries s image seen 0) else Ready (tries + 1)) (taken + 1)
  checked_within direct true true tries s image seen taken announced h = omega (arith, h)
  checked_within direct true false tries s image seen taken announced h =
      let u = unless_false direct ((1 - tries) * most sizes + (1 + sizes.reply)) announced in omega (arith, h, u)
  checked_within direct false c tries s image seen taken announced h = let e = same_tries tries in omega (arith, h, e)

  checked_own_within : (direct b : Bool) (s : ℕ) (image : Image) (seen : List (Option (List ℕ))) (taken : ℕ) → direct ≡ true
      → taken + 1 + (announced_steps sizes + (buffer_words sizes + 1)) ≤ call_steps sizes
      → IsWithin direct (if b then Writing 0 s image seen 0 else Idle []) (taken + 1)
  checked_own_within direct true s image seen taken is h =
      let u = unless_true direct ((1 - 0) * most sizes + (1 + sizes.reply)) is in omega (arith, h, u)
  checked_own_within direct false s image seen taken is h =
      let u = unless_true direct 0 is in omega (arith, h, u)

  -- a call that begins again has all its steps
  restarted_within : (b : Bool) → IsWithin false (if b then Ready 0 else Idle []) 0
  restarted_within true =
      let e = steps_are sizes in let m = most_is sizes in let t : (2 - 0) * most sizes ≡ most sizes + most sizes = omega arith in omega (arith, e, m, t)
  restarted_within false = omega arith

  -- the words of an invocation that come after the first one, and the rest of the call
  stored_within : (direct : Bool) (stored : ℕ) → stored + 1 ≤ sizes.invocation → (taken : ℕ) → taken + unless_announced direct 0 ≤ call_steps sizes
      → (if direct then taken + 1 else 1) + ((sizes.invocation - (stored + 1)) + 1 + (2 * most sizes + (1 + sizes.reply))) ≤ call_steps sizes
  stored_within true stored room taken w = let e = steps_are sizes in let m = most_is sizes in omega (arith, e, m, w, room)
  stored_within false stored room taken w = let e = steps_are sizes in let m = most_is sizes in omega (arith, e, m, room)

  announced_within : (direct : Bool) (taken : ℕ) → taken + unless_announced direct 0 ≤ call_steps sizes
      → (if direct then taken + 1 else 1) + ((2 - 0) * most sizes + (1 + sizes.reply)) ≤ call_steps sizes
  announced_within true taken w =
      let e = steps_are sizes in let m = most_is sizes in let t : (2 - 0) * most sizes ≡ most sizes + most sizes = omega arith in omega (arith, e, m, t, w)
  announced_within false taken w =
      let e = steps_are sizes in let m = most_is sizes in let t : (2 - 0) * most sizes ≡ most sizes + most sizes = omega arith in omega (arith, e, m, t)

  within_after : (p : ℕ) (l : Local) → Stands object sizes some_reply p l → (next : Next object sizes p l) (found taken : ℕ) → IsWithin l.direct l.stage taken
      → IsWithin ((access_of object sizes p l next).leaves found).direct ((access_of object sizes p l next).leaves found).stage (counted object sizes next taken)
  within_after p l h (Store [] x at inside room) found taken w =
      let w' = subst (λ k. IsWithin l.direct k taken) at w in stored_within l.direct 0 (omega (arith, inside)) taken w'
  within_after p l h (Store (y ∷ stored) x at inside room) found taken w =
      let w' = subst (λ k. IsWithin l.direct k taken) at w in let e = length-push stored x in omega (arith, w', e, inside)
  within_after p l h (Announce [] at whole few) found taken w =
      let w' = subst (λ k. IsWithin l.direct k taken) at w in announced_within l.direct taken w'
  within_after p l h (Announce (y ∷ inv) at whole few) found taken w =
      let w' = subst (λ k. IsWithin l.direct k taken) at w in let t : (2 - 0) * most sizes ≡ most sizes + most sizes = omega arith in omega (arith, w', t, whole)
  within_after p l h (Follow at) found taken w = w
  within_after p l h (Recall read at had) found taken w = w
  within_after p l h Recount found taken w = w
  within_after p l h (Reread which k either below) found taken w = w
  within_after p l h Restart found taken w = restarted_within (has_begun l.stage l.direct)
  within_after p l h (TryDirectly at untried few) found taken w =
      let m = most_is sizes in let a = to_look-all sizes in
      let b = begun_most sizes (buffer_in found / 2 == p) (drop (buffer_in found % 2 * buffer_words sizes) l.held) in omega (arith, m, a, b)
  within_after p l h (Start tries at few) found taken w =
      let w' = subst (λ k. IsWithin l.direct k taken) at w in let m = most_is sizes in let t = one_try_less tries few in let a = to_look-all sizes in
      let b = begun_most sizes (buffer_in found / 2 == p) (drop (buffer_in found % 2 * buffer_words sizes) l.held) in
      let u = unless_false l.direct ((1 - tries) * most sizes + (1 + sizes.reply)) (subst (λ k. IsInMode k l.direct (length l.own)) at h.mode) in
      omega (arith, w', m, t, a, b, u)
  within_after p l h (Copy tries s copy at more) found taken w =
      let w' = subst (λ k. IsWithin l.direct k taken) at w in let e = length-push copy found in omega (arith, w', e, more)
  within_after p l h (Look tries s copy seen at copied whole more) found taken w =
      let w' = subst (λ k. IsWithin l.direct k taken) at w in
      let x : Option (List ℕ) = looked copy (length seen) found in
      let e : to_look sizes (length (seen ++ x ∷ [])) ≡ to_look sizes (length seen + 1) = ap (to_look sizes) (length-push seen x) in
      let t = to_look-less sizes (length seen) more in
      let k = lacking-push sizes seen x in
      let i : lacking sizes (x ∷ []) ≤ sizes.invocation = lacking_looked sizes (nat_le found (slice_index copy (length seen))) in
      omega (arith, w', e, t, k, i)
  within_after p l h (Ask tries s copy seen part at inside more) found taken w =
      let w' = subst (λ k. IsWithin l.direct k taken) at w in
      let e : to_look sizes (length (seen ++ Some part ∷ [])) ≡ to_look sizes (length seen + 1) = ap (to_look sizes) (length-push seen (Some part)) in
      let e' : to_look sizes (length (seen ++ Some (part ++ found ∷ []) ∷ [])) ≡ to_look sizes (length seen + 1) = ap (to_look sizes) (length-push seen (Some (part ++ found ∷ []))) in
      let k = lacking-push sizes seen (Some part) in
      let k' = lacking-push sizes seen (Some (part ++ found ∷ [])) in
      let n = length-push part found in
      omega (arith, w', e, e', k, k', n, more)
  within_after p l h (Check tries s copy seen at copied whole all announced) found taken w =
      let w' = subst (λ k. IsWithin l.direct k taken) at w in
      let u = unless_false l.direct ((1 - tries) * most sizes + (1 + sizes.reply)) announced in
      checked_within l.direct (found == s) (slice_index copy p == length l.own + 1) tries s (read_image sizes copy) seen taken announced (omega (arith, w', u))
  within_after p l h (CheckOwn s copy seen at copied whole all direct) found taken w =
      let w' = subst (λ k. IsWithin l.direct k taken) at w in
      let u = unless_true l.direct ((1 - 0) * most sizes + (1 + sizes.reply)) direct in
      checked_own_within l.direct (found == s) s (read_image sizes copy) seen taken direct (omega (arith, w', u))
  within_after p l h (Confirm s copy at copied direct) found taken w = omega arith
  within_after p l h (Write tries s image seen all written k at come below) found taken w =
      let w' = subst (λ k. IsWithin l.direct k taken) at w in
      let c = come.1 in
      subst (λ z. IsWithin l.direct (written_to z (k + 1)) (taken + 1)) (sym at) (omega (arith, w', c, below))
  within_after p l h (Bring tries s image seen to at written announced) found taken w =
      let w' = subst (λ k. IsWithin l.direct k taken) at w in
      let u = unless_false l.direct ((1 - tries) * most sizes + (1 + sizes.reply)) announced in
      ⊎_elim
      (λ same. rw same.1 (omega (arith, w', u)))
      (λ other. let e = same_tries tries in rw other.1 (omega (arith, w', e, u)))
      (number_cases found s)
  within_after p l h (BringOwn s image seen to inv at written direct whole few) found taken w =
      let w' = subst (λ k. IsWithin l.direct k taken) at w in
      let u = unless_true l.direct ((1 - 0) * most sizes + (1 + sizes.reply)) direct in
      let v = unless_true l.direct 0 direct in
      let e = steps_are sizes in
      ⊎_elim
      (λ same. rw same.1 (omega (arith, w', u, e)))
      (λ other. rw other.1 (omega (arith, w', u, v)))
      (number_cases found s)
  within_after p l h (Turn tries at two announced) found taken w = let w' = subst (λ k. IsWithin l.direct k taken) at w in omega (arith, w')
  within_after p l h (Load s loaded at more) found taken w =
      let w' = subst (λ k. IsWithin l.direct k taken) at w in let e = length-push loaded found in omega (arith, w', e, more)
  within_after p l h (Reply s loaded at last) found taken w =
      let w' = subst (λ k. IsWithin l.direct k taken) at w in omega (arith, w', last)

  within_end : (p : ℕ) {m : Moment} (taken : ℕ) → AllStand object sizes some_reply m → p < sizes.processes → IsWithin (m.local p).direct (m.local p).stage taken
      → (e : Execution object sizes m)
      → IsWithin ((last_moment object sizes e).local p).direct ((last_moment object sizes e).local p).stage (steps_of_call object sizes p taken e)
  within_end p taken h inside w Ends = w
  within_end p taken h inside w (Takes {m = m} q within next rest) =
      let a = access_of object sizes q (m.local q) next in
      let found = slice_index m.words a.word in
      let l' = a.leaves found in
      within_end p (if p == q then counted object sizes next taken else taken) (stand_after object sizes some_reply m h q within next) inside
      (⊎_elim
      (λ same.
      subst (λ b. IsWithin (if b then l' else m.local p).direct (if b then l' else m.local p).stage (if b then counted object sizes next taken else taken)) (sym same.1)
      (within_after q (m.local q) (h q within) next found taken (subst (λ k. IsWithin (m.local k).direct (m.local k).stage taken) same.0 w)))
      (λ other. subst (λ b. IsWithin (if b then l' else m.local p).direct (if b then l' else m.local p).stage (if b then counted object sizes next taken else taken)) (sym other.1) w)
      (number_cases p q))
      rest

module _ (object : Sequential (List ℕ) (List ℕ) (List ℕ)) (sizes : Sizes) (few : 1 ≤ sizes.processes) (some_reply : 1 ≤ sizes.reply) (wide : length object.initial ≡ sizes.state) where
  opening_stands : AllStand object sizes some_reply (opened_moment object sizes)
  opening_stands = λ p inside. record { standing = omega arith; coming = tt; mode = inl refl; long = Opening.held_length object sizes few wide; either = omega arith }

  pub never_blocks : (e : Execution object sizes (opened_moment object sizes)) → NeverBlocks object sizes e
  never_blocks e = λ p inside pending.
      let h = stand_at_end object sizes some_reply opening_stands e p inside in
      next_of object sizes some_reply few p ((last_moment object sizes e).local p) ((last_moment object sizes e).local p).stage refl h.standing h.mode h.coming pending

  pub keeps_bound : (e : Execution object sizes (opened_moment object sizes)) → KeepsBound object sizes e
  keeps_bound e = λ p inside. let w = within_end object sizes some_reply p 0 opening_stands inside (omega arith) e in omega (arith, w)
