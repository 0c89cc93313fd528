-- The word steps that load, but the last one of a call.
use Rattle.uni_small.proofs.Vocabulary.{AreIn, AreWhole, Board, Bool, HasAsked, HasBegun, HasChecked, HasCheckedOwn, HasCopied, HasFollowed, HasLooked, HasSeen, HasStarted, HasTurned, Idle, IfFresh, Image, Invoked, IsAnnounced, IsAsking, IsAt, IsAttemptAt, IsAttempted, IsBeginning, IsBoard, IsCallAt, IsClosed, IsCopying, IsDirect, IsGood, IsLooking, IsNamed, IsOpen, IsPending, IsShown, IsSound, IsSteady, Last, List, Local, MayBeWritten, Me, Meaning, Moves, None, Option, Reading, Ready, Returned, Seen, Sequential, Sizes, Some, Stage, State, Step, View, Writing, [], announce_word, ap, argument_word, arith, begins_directly, begun, buffer_in, buffer_word, buffer_words, checked, checked_own, cond, current_word, drop, due_at, false, get_or-drop, get_or-take, goes, if◌then◌else◌, in_of, inl, inr, knows, length, length-append, length-drop, length-take-le, looked, lt_cases, map, most_calls, nat_le, nothing, number_cases, read_image, refl, reply_of, same_from_push, slice_get, slice_get-append_left, slice_get_within, slice_index, slice_set, spell, stage_of, subst, suc, sum, sym, true, version_in, with_local, with_seen, words_held, zero, ℕ, ◌%◌, ◌*◌, ◌++◌, ◌+◌, ◌-◌, ◌/◌, ◌<◌, ◌==◌, ◌∙◌, ◌∷◌, ◌≡◌, ◌≢◌, ◌≤◌}
use Rattle.uni_small.specs.Invariant.{IsCopied}
use Rattle.std.proofs.lemmas.Bool.Decides.{nat_tests}
use Rattle.uni_small.proofs.Frame.{Found, load_law}
use Rattle.uni_small.proofs.Vocabulary.{AreWidths, HasConfirmed, HasRecalled, IsOrdered, ProcessReturned, Read, confirms, own_in_view, recalls, Contains}
use Rattle.uni_small.specs.Final.{IsVersion}
use Rattle.uni_small.proofs.Finals.{IsDone, version_has}
use Rattle.uni_small.proofs.Stepping.{ask_steps, begin_steps, check_own_steps, check_steps, confirm_steps, copy_steps, follow_steps, look_steps, recall_steps, start_steps, turn_steps}
use Rattle.uni_small.proofs.Lists.{due-set, due_cases, due_last, due_same, due_snoc, get-contains, get_last, get_snoc, index_last, index_snoc, same_list, sum_most}
use Rattle.uni_small.proofs.Rows.{begins_more}
use Rattle.uni_small.proofs.Images.{spell-length, spell-applied, read-spell, reached_from, rows-seen, width_is, reply-seen}

-- a word S in parts
pub buffer_of : (v c : ℕ) → c < 128 → buffer_in (current_word v c) ≡ c
buffer_of v c small = omega arith

pub version_of : (v c : ℕ) → c < 128 → version_in (current_word v c) ≡ v
version_of v c small = omega arith

module _ (object : Sequential (List ℕ) (List ℕ) (List ℕ)) (sizes : Sizes) (g : Board) where
  -- what a process's seat says of its call and of its attempt, at a stage that is known
  pub call_at : (p : ℕ) (l : Local) (st : Stage) → IsAt object sizes g p l → l.stage ≡ st → IsCallAt object sizes g p l st
  call_at p l st is e = subst (IsCallAt object sizes g p l) e is.call

  pub attempt_at : (p : ℕ) (l : Local) (st : Stage) → IsAt object sizes g p l → l.stage ≡ st → IsAttemptAt object sizes g p (2 * p + l.spare) st
  attempt_at p l st is e = subst (IsAttemptAt object sizes g p (2 * p + l.spare)) e is.attempt

  -- a process has at most one call that is announced and not in
  pub announced_most : (local : ℕ → Local) → IsSound object sizes g local → (r : ℕ) → r < sizes.processes → g.announced r ≤ in_of g r + 1
  announced_most local sound r inside = by_stage (local r).stage (sound.each r inside).call where
    closed : IsClosed g r (local r).own → g.announced r ≤ in_of g r + 1
    closed c = let a = c.announced in let b = c.in_is in omega arith

    opened : IsOpen object g r (local r).inv (local r).own → g.announced r ≤ in_of g r + 1
    opened c = let a = c.announced in let b = c.in_least in omega arith

    attempted : (direct : Bool) → IsAttempted object sizes g r (local r) direct → g.announced r ≤ in_of g r + 1
    attempted true c = closed c
    attempted false c = opened c

    by_stage : (st : Stage) → IsCallAt object sizes g r (local r) st → g.announced r ≤ in_of g r + 1
    by_stage (Idle stored) c = closed c.0
    by_stage (Ready t) c = attempted (local r).direct c
    by_stage (Reading t s copy seen) c = attempted (local r).direct c
    by_stage (Writing t s image seen w) c = attempted (local r).direct c
    by_stage (Last s loaded) c = opened c

  -- S names a buffer, and its version leaves room
  pub named : sizes.processes ≤ 64 → IsBoard object sizes g → IsNamed sizes (current_word g.version g.current)
  named few board =
      let small : g.current < 128 = (let c = board.current in omega arith) in
      let many : sum g.image.applied ≤ length g.image.applied * most_calls = sum_most most_calls g.image.applied (λ i below.
      let inside : i < sizes.processes = (let a = board.rows.applied in omega arith) in
      let a = board.in_most i inside in let b = board.room i inside in omega arith) in
      let rows = board.rows.applied in
      let most : sum g.image.applied ≤ sizes.processes * most_calls = subst (λ k. sum g.image.applied ≤ k * most_calls) rows many in
      let versions = board.versions in (
        subst (λ k. k < 2 * sizes.processes) (sym (buffer_of g.version g.current small)) board.current,
        subst (λ k. k ≤ sizes.processes * most_calls) (sym (version_of g.version g.current small)) (omega arith),
      )

-- a call that took effect is one of those that are in
pub none_beyond : (object : Sequential (List ℕ) (List ℕ) (List ℕ)) (sizes : Sizes) (g : Board) (p : ℕ) → IsBoard object sizes g → (c : Invoked (List ℕ)) (place : ℕ) → slice_get g.atomic.agreed place ≡ Some c → c.process ≡ p → in_of g p ≤ c.nth → ⊥
none_beyond object sizes g p board c place at own from =
    let known = board.agreed c (get-contains g.atomic.agreed place c at) in
    let mine : in_of g c.process ≡ in_of g p = ap (in_of g) own in
    (let k = known.1 in omega (arith, from, k))

-- where s is the present S, all calls that took effect are in its version
pub all_in : (object : Sequential (List ℕ) (List ℕ) (List ℕ)) (sizes : Sizes) (g : Board) (p s : ℕ) → sizes.processes ≤ 64 → IsBoard object sizes g → s ≡ current_word g.version g.current → AreIn g p (version_in s)
all_in object sizes g p s few board is =
    let small : g.current < 128 = (let c = board.current in omega arith) in
    let version : version_in s ≡ g.version = ap version_in is ∙ version_of g.version g.current small in (
      omega arith,
      λ c place at own below. (let w = slice_get_within g.atomic.agreed place c at in let all = board.counted (version_in s) (omega arith) in omega arith),
    )

-- what may be written of the image with what was seen, and perhaps with a call of process p itself
pub may_write : (object : Sequential (List ℕ) (List ℕ) (List ℕ)) (sizes : Sizes) (steady : IsSteady object sizes.reply) (g : Board) (p b : ℕ) (board : IsBoard object sizes g) (seen all : List (Option (List ℕ)))
    → HasSeen g p seen → ((r : ℕ) → r ≢ p → due_at all r ≡ due_at seen r) → (IsPending g p → g.announced p ≤ g.mark b p → ⊥) → MayBeWritten object sizes g b (with_seen object g.image 0 all)
may_write object sizes steady g p b board seen all known elsewhere mine = record {
  rows = rows-seen object sizes steady (width_is object sizes steady g.atomic.agreed g.image board.image board.rows) g.image 0 all board.rows;
  replies = λ r inside waits least.
      ap (reply_of (with_seen object g.image 0 all)) (let z : r ≡ 0 + r = omega arith in z)
      ∙ reply-seen object g.image 0 all r (none r inside waits least) ∙ ap (reply_of g.image) (let z : 0 + r ≡ r = omega arith in z);
} where
  none : (r : ℕ) → r < sizes.processes → IsPending g r → g.announced r ≤ g.mark b r → due_at all r ≡ 0
  none r inside waits least = elim (number_cases r p) [
    | inl here ↦ absurd (mine (subst (IsPending g) here.0 waits) (subst (λ k. g.announced k ≤ g.mark b k) here.0 least))
    | inr other ↦ elsewhere r other.0 ∙ elim (due_cases seen r) [
      | inl nil ↦ nil
      | inr some ↦ absurd (let due = (known.told r some.0 some.2).0 in let m = board.marked b r inside in omega arith)
    ]
  ]

module _ {O : Type 0} (meaning : O → Meaning) (o : O) (sizes : Sizes) (id : ℕ) (few : sizes.processes ≤ 64) (st : Step Seen) (me : Me Seen (View O)) (single : me.0.known.count ≡ 1) where
  abbrev object : Sequential (List ℕ) (List ℕ) (List ℕ)
  object = (meaning o).object

  abbrev p : ℕ
  p = me.0.known.first

  abbrev l : Local
  l = me.0.known.local

  -- the process goes to another stage, of the same call
  at_next : (g : Board) (stage : Stage) → IsAt object sizes g p l → IsCallAt object sizes g p l stage → IsAttemptAt object sizes g p (2 * p + l.spare) stage → IsAt object sizes g p (goes l stage)
  at_next g stage was call attempt = record { spare = was.spare; apart = was.apart; held = was.held; told = was.told; call = by_stage stage call; attempt = attempt; ordered = was.ordered; read = was.read } where
    by_stage : (stage : Stage) → IsCallAt object sizes g p l stage → IsCallAt object sizes g p (goes l stage) stage
    by_stage (Idle stored) c = c
    by_stage (Ready t) c = c
    by_stage (Reading t s copy seen) c = c
    by_stage (Writing t s image seen w) c = c
    by_stage (Last s loaded) c = c

  -- the words of a buffer of its own are those of the current one, where S names it
  own_words : (g : Board) (which : ℕ) → IsAt object sizes g p l → IsBoard object sizes g → which ≤ 1 → g.current ≡ 2 * p + which → IsCopied g (words_held sizes l.held which)
  own_words g which mine board either here i below =
      let b = buffer_words sizes in
      let room : i < b = (let t = length-take-le b (drop (which * b) l.held) (let d = length-drop (which * b) l.held in let h = mine.held.long in omega_cases which either d h) in omega arith) in
      get_or-take b (drop (which * b) l.held) i 0 room ∙ get_or-drop (which * b) l.held i 0 ∙ sym (mine.held.words which i either room)
      ∙ ap (λ c. g.buffer c i) (sym here) ∙ board.exact i room where
        omega_cases : (which : ℕ) → which ≤ 1 → length (drop (which * buffer_words sizes) l.held) ≡ length l.held - which * buffer_words sizes → length l.held ≡ 2 * buffer_words sizes
            → buffer_words sizes ≤ length (drop (which * buffer_words sizes) l.held)
        omega_cases zero either d h = omega arith
        omega_cases (suc zero) either d h = omega arith
        omega_cases (suc (suc k)) either d h = absurd (omega arith)

  copied_own : (g : Board) (s : ℕ) → IsAt object sizes g p l → IsBoard object sizes g → buffer_in s ≡ g.current → (b : Bool) → (buffer_in s / 2 == p) ≡ b
      → IsCopied g (if b then words_held sizes l.held (buffer_in s % 2) else [])
  copied_own g s mine board is true e = own_words g (buffer_in s % 2) mine board (omega arith) (let h : buffer_in s / 2 ≡ p = grind (arith, nat_tests, e) in omega arith)
  copied_own g s mine board is false e = λ i below. absurd (omega arith)

  -- the call that is attempted has begun where it was announced, and else hasn't
  attempted_open : (g : Board) → IsAnnounced me → IsAttempted object sizes g p l l.direct → IsOpen object g p l.inv l.own
  attempted_open g announced call = subst (IsAttempted object sizes g p l) announced call

  attempted_closed : (g : Board) → IsDirect me → IsAttempted object sizes g p l l.direct → IsClosed g p l.own
  attempted_closed g direct call = subst (IsAttempted object sizes g p l) direct call

  -- an attempt begins
  pub starts : (tries : ℕ) → tries < 2 → stage_of me ≡ Ready tries → Moves meaning o sizes id me 0 (λ x. x) nothing (λ found me'. HasStarted st me found me')
  starts tries fresh stage = load_law meaning o sizes id me 0 (λ found me'. HasStarted st me found me') single (start_steps meaning o sizes st me tries fresh stage) (λ g local words f.
      let s = slice_index words 0 in
      let is : s ≡ current_word g.version g.current = f.words_are.current in
      let here : buffer_in s ≡ g.current = ap buffer_in is ∙ buffer_of g.version g.current (let c = f.sound.board.current in omega arith) in
      let since : g.since p + tries ≤ g.version = attempt_at object sizes g p l (Ready tries) f.mine stage in (
        goes l (Reading tries s (begun sizes p l.held s) []),
        at_next g (Reading tries s (begun sizes p l.held s) []) f.mine (call_at object sizes g p l (Ready tries) f.mine stage) (
          omega arith,
          λ fresh. (
            is,
            (
              copied_own g s f.mine f.sound.board here (buffer_in s / 2 == p) refl,
              record {
                told = λ r inv e. absurd (let h = slice_get_within [] r (Some inv) e in omega arith);
                caught = λ r below. absurd (omega arith);
              },
            ),
          ),
        ),
        λ tries' stage'.
            let same : tries ≡ tries' = (let e : Ready tries ≡ Ready tries' = sym stage ∙ stage' in cc) in (
              (λ i. (with_local me.0 (goes l (Reading (same i) s (begun (sym f.processes i) p l.held s) [])), me.1)),
              subst (λ k. IsNamed k s) (sym f.processes) (subst (IsNamed sizes) (sym is) (named object sizes g few f.sound.board)),
            ),
      ))

  -- a word of the current buffer is copied
  pub copies : (tries s i : ℕ) → IsCopying tries s i me → i < buffer_words sizes → buffer_in s < 2 * sizes.processes
      → Moves meaning o sizes id me (buffer_word sizes (buffer_in s) i) (λ x. x) nothing (λ found me'. HasCopied st me found me')
  copies tries s i copying below named = load_law meaning o sizes id me (buffer_word sizes (buffer_in s) i) (λ found me'. HasCopied st me found me') single (copy_steps meaning o sizes st me tries s i copying below) (λ g local words f.
      let x = slice_index words (buffer_word sizes (buffer_in s) i) in
      let copy = copying.0 in
      let stage = copying.1 in
      let long : length copy ≡ i = copying.2 in
      let was = attempt_at object sizes g p l (Reading tries s copy []) f.mine stage in
      let found : x ≡ g.buffer (buffer_in s) i = f.words_are.buffer (buffer_in s) i named below in (
        goes l (Reading tries s (copy ++ x ∷ []) []),
        at_next g (Reading tries s (copy ++ x ∷ []) []) f.mine (call_at object sizes g p l (Reading tries s copy []) f.mine stage) (
          was.0,
          λ fresh.
              let now = was.1 fresh in
              let here : buffer_in s ≡ g.current = ap buffer_in now.0 ∙ buffer_of g.version g.current (let c = f.sound.board.current in omega arith) in (
                now.0,
                (
                  (λ j inside. elim (number_cases j i) [
                    | inl at ↦ index_last copy x j (at.0 ∙ sym long) ∙ found ∙ ap (λ b. g.buffer b i) here ∙ f.sound.board.exact i below ∙ ap (slice_index (spell g.image)) (sym at.0)
                    | inr other ↦
                        let less : j < length copy = (let a = length-append copy (x ∷ []) in omega (arith, inside, other.0)) in
                        index_snoc copy x j less ∙ now.1.0 j less
                  ]),
                  now.1.1,
                ),
              ),
        ),
        λ tries' s' copy' stage'.
            let e : Reading tries s copy [] ≡ Reading tries' s' copy' [] = sym stage ∙ stage' in
            let a : tries ≡ tries' = cc in let b : s ≡ s' = cc in let c : copy ≡ copy' = cc in
            λ k. (with_local me.0 (goes l (Reading (a k) (b k) (c k ++ x ∷ []) [])), me.1),
      ))

  -- an announcement is looked at
  pub looks : (tries s r : ℕ) → IsLooking sizes tries s r me → r < sizes.processes
      → Moves meaning o sizes id me (announce_word r) (λ x. x) nothing (λ found me'. HasLooked st me found me')
  looks tries s r looking inside = load_law meaning o sizes id me (announce_word r) (λ found me'. HasLooked st me found me') single (look_steps meaning o sizes st me tries s r looking inside) (λ g local words f.
      let x = slice_index words (announce_word r) in
      let copy = looking.0 in
      let seen = looking.1.0 in
      let stage : l.stage ≡ Reading tries s copy seen = looking.1.1 in
      let wide : length copy ≡ buffer_words sizes = looking.1.2 in
      let long : length seen ≡ r = looking.1.3 in
      let call : IsAttempted object sizes g p l l.direct = call_at object sizes g p l (Reading tries s copy seen) f.mine stage in
      let was = attempt_at object sizes g p l (Reading tries s copy seen) f.mine stage in
      let found : x ≡ g.told r = f.words_are.announced r inside in
      let in_copy : IfFresh g s (slice_index copy r ≡ in_of g r) = (λ fresh. let now = was.1 fresh in
      (now.0, now.1.0 r (omega arith) ∙ spell-applied sizes g.image f.sound.board.rows r inside)) in (
        goes l (Reading tries s copy (seen ++ looked copy (length seen) x ∷ [])),
        at_next g (Reading tries s copy (seen ++ looked copy (length seen) x ∷ [])) f.mine call
            (by_test g copy seen x long was (f.sound.board.in_most r inside, announced_most object sizes g local f.sound r inside, f.sound.board.told_most r inside, f.sound.board.told_due r inside) found in_copy (nat_le x (slice_index copy (length seen))) refl),
        λ tries' s' copy' seen' stage'.
            let e : Reading tries s copy seen ≡ Reading tries' s' copy' seen' = sym stage ∙ stage' in
            let a : tries ≡ tries' = cc in let b : s ≡ s' = cc in let c : copy ≡ copy' = cc in let d : seen ≡ seen' = cc in
            λ k. (with_local me.0 (goes l (Reading (a k) (b k) (c k) (d k ++ looked (c k) (length (d k)) x ∷ []))), me.1),
      )) where
        by_test : (g : Board) (copy : List ℕ) (seen : List (Option (List ℕ))) (x : ℕ) → length seen ≡ r
            → IsAttemptAt object sizes g p (2 * p + l.spare) (Reading tries s copy seen)
            → (in_of g r ≤ g.announced r) × (g.announced r ≤ in_of g r + 1) × (g.told r ≤ g.announced r) × (in_of g r < g.announced r → g.told r ≡ g.announced r)
            → x ≡ g.told r → IfFresh g s (slice_index copy r ≡ in_of g r)
            → (b : Bool) → nat_le x (slice_index copy (length seen)) ≡ b
            → IsAttemptAt object sizes g p (2 * p + l.spare) (Reading tries s copy (seen ++ cond b None (Some []) ∷ []))
        by_test g copy seen x long was most found in_copy true e = (
          was.0,
          λ fresh.
              let now = was.1 fresh in
              let small : x ≤ slice_index copy (length seen) = grind (arith, nat_tests, e) in
              let at : slice_index copy (length seen) ≡ slice_index copy r = ap (slice_index copy) long in
              let copied = (in_copy fresh).1 in
              let here : g.announced r ≡ in_of g r = elim (lt_cases (in_of g r) (g.announced r)) [
                | inl due ↦ absurd (let t = most.3 due.0 in let d = due.0 in omega arith)
                | inr none ↦ (let n = none.0 in let m = most.0 in omega arith)
              ] in (
                now.0,
                (
                  now.1.0,
                  record {
                    told = λ k inv h. elim (get_snoc seen None k (Some inv) h) [ inl old ↦ now.1.1.told k inv old | inr new ↦ absurd (let f : None ≡ Some inv = new.1 in cc) ];
                    caught = λ k below why. elim (number_cases k r) [
                      | inl at ↦ (let a : g.announced k ≡ g.announced r = ap g.announced at.0 in let b : in_of g k ≡ in_of g r = ap (in_of g) at.0 in omega arith)
                      | inr other ↦
                          let less : k < length seen = (let a = length-append seen (None ∷ []) in omega (arith, below, other.0)) in
                          let old = now.1.1.caught k less why in let d = due_snoc seen None k less in omega arith
                    ];
                  },
                ),
              ),
        )
        by_test g copy seen x long was most found in_copy false e = (
          was.0,
          λ fresh.
              let now = was.1 fresh in
              let large : slice_index copy (length seen) < x = grind (arith, nat_tests, e) in
              let at : slice_index copy (length seen) ≡ slice_index copy r = ap (slice_index copy) long in
              let copied = (in_copy fresh).1 in
              let due : g.announced r ≡ in_of g r + 1 = (let a = most.1 in let t = most.2 in omega arith) in (
                now.0,
                (
                  now.1.0,
                  record {
                    told = λ k inv h. elim (get_snoc seen (Some []) k (Some inv) h) [
                      | inl old ↦ now.1.1.told k inv old
                      | inr new ↦
                          let here : k ≡ r = new.0 ∙ long in
                          let none : [] ≡ inv = (let e : Some [] ≡ Some inv = new.1 in cc) in
                          (subst (λ q. g.announced q ≡ in_of g q + 1) (sym here) due, subst (λ ws. IsBeginning ws (g.argument k)) none refl)
                    ];
                    caught = λ k below why. elim (number_cases k r) [
                      | inl here ↦ (let a : g.announced k ≡ g.announced r = ap g.announced here.0 in let b : in_of g k ≡ in_of g r = ap (in_of g) here.0 in let d = due_last seen [] k (here.0 ∙ sym long) in omega arith)
                      | inr other ↦
                          let less : k < length seen = (let a = length-append seen (Some [] ∷ []) in omega (arith, below, other.0)) in
                          let old = now.1.1.caught k less why in let d = due_snoc seen (Some []) k less in omega arith
                    ];
                  },
                ),
              ),
        )

  -- a word of an invocation is asked for
  pub asks : (tries s r i : ℕ) → IsAsking tries s r i me → r < sizes.processes → i < sizes.invocation
      → Moves meaning o sizes id me (argument_word sizes r i) (λ x. x) nothing (λ found me'. HasAsked st me found me')
  asks tries s r i asking inside room = load_law meaning o sizes id me (argument_word sizes r i) (λ found me'. HasAsked st me found me') single (ask_steps meaning o sizes st me tries s r i asking inside room) (λ g local words f.
      let x = slice_index words (argument_word sizes r i) in
      let copy = asking.0 in
      let seen = asking.1.0 in
      let part = asking.1.1.0 in
      let before : List (Option (List ℕ)) = seen ++ Some part ∷ [] in
      let after : List (Option (List ℕ)) = seen ++ Some (part ++ x ∷ []) ∷ [] in
      let stage : l.stage ≡ Reading tries s copy (seen ++ Some part ∷ []) = asking.1.1.1 in
      let long : length seen ≡ r = asking.1.1.2 in
      let loaded : length part ≡ i = asking.1.1.3 in
      let was = attempt_at object sizes g p l (Reading tries s copy (seen ++ Some part ∷ [])) f.mine stage in
      let found : x ≡ slice_index (g.argument r) i = f.words_are.argument r i inside room in
      let whole : length (g.argument r) ≡ sizes.invocation = f.sound.board.arguments r inside in (
        goes l (Reading tries s copy (seen ++ Some (part ++ x ∷ []) ∷ [])),
        at_next g (Reading tries s copy (seen ++ Some (part ++ x ∷ []) ∷ [])) f.mine (call_at object sizes g p l (Reading tries s copy (seen ++ Some part ∷ [])) f.mine stage) (
          was.0,
          λ fresh.
              let now = was.1 fresh in
              let last = now.1.1.told (length seen) part (get_last seen (Some part)) in
              let due : g.announced r ≡ in_of g r + 1 = subst (λ k. g.announced k ≡ in_of g k + 1) long last.0 in
              let begins : IsBeginning part (g.argument r) = subst (λ k. IsBeginning part (g.argument k)) long last.1 in
              let more : IsBeginning (part ++ x ∷ []) (g.argument r) = begins_more part (g.argument r) begins (omega arith) x (found ∙ ap (slice_index (g.argument r)) (sym loaded)) in (
                now.0,
                (
                  now.1.0,
                  record {
                    told = λ k inv h. elim (get_snoc seen (Some (part ++ x ∷ [])) k (Some inv) h) [
                      | inl old ↦ now.1.1.told k inv (slice_get-append_left seen (Some part ∷ []) k (Some inv) old)
                      | inr new ↦
                          let here : k ≡ r = new.0 ∙ long in
                          let same : part ++ x ∷ [] ≡ inv = (let e : Some (part ++ x ∷ []) ≡ Some inv = new.1 in cc) in
                          (subst (λ q. g.announced q ≡ in_of g q + 1) (sym here) due, subst (λ q. IsBeginning inv (g.argument q)) (sym here) (subst (λ ws. IsBeginning ws (g.argument r)) same more))
                    ];
                    caught = λ k below why.
                        let inside_it : k < length (seen ++ Some part ∷ []) = (let a = length-append seen (Some part ∷ []) in let b = length-append seen (Some (part ++ x ∷ []) ∷ []) in omega arith) in
                        let old = now.1.1.caught k inside_it why in let d = due_same seen part (part ++ x ∷ []) k in omega arith;
                  },
                ),
              ),
        ),
        λ tries' s' copy' seen' part' stage'.
            let e : Reading tries s copy (seen ++ Some part ∷ []) ≡ Reading tries' s' copy' (seen' ++ Some part' ∷ []) = sym stage ∙ stage' in
            let a : tries ≡ tries' = cc in let b : s ≡ s' = cc in let c : copy ≡ copy' = cc in
            let d : seen ++ Some part ∷ [] ≡ seen' ++ Some part' ∷ [] = cc in
            let parts = same_from_push seen seen' (Some part) (Some part') d in
            let q : part ≡ part' = (let e : Some part ≡ Some part' = parts.1 in cc) in
            λ k. (with_local me.0 (goes l (Reading (a k) (b k) (c k) (parts.0 k ++ Some (q k ++ x ∷ []) ∷ []))), me.1),
      ))

  -- after two attempts that failed the call is in
  pub turns : (tries : ℕ) → 2 ≤ tries → stage_of me ≡ Ready tries → IsAnnounced me → Moves meaning o sizes id me 0 (λ x. x) nothing (λ found me'. HasTurned st me found me')
  turns tries two stage announced = load_law meaning o sizes id me 0 (λ found me'. HasTurned st me found me') single (turn_steps meaning o sizes st me tries two stage announced) (λ g local words f.
      let s = slice_index words 0 in
      let is : s ≡ current_word g.version g.current = f.words_are.current in
      let since : g.since p + tries ≤ g.version = attempt_at object sizes g p l (Ready tries) f.mine stage in
      let named_now : IsNamed sizes s = subst (IsNamed sizes) (sym is) (named object sizes g few f.sound.board) in
      let here : buffer_in s ≡ g.current = ap buffer_in is ∙ buffer_of g.version g.current (let c = f.sound.board.current in omega arith) in
      let in_now : g.announced p ≤ in_of g p = f.sound.board.soon p f.inside (omega arith) in
      let marked : g.announced p ≤ g.mark g.current p = (let m = f.sound.board.at_current p f.inside in omega arith) in (
        goes l (Last s []),
        at_next g (Last s []) f.mine (attempted_open g announced (call_at object sizes g p l (Ready tries) f.mine stage))
            (named_now.0, subst (λ b. g.announced p ≤ g.mark b p) (sym here) marked, all_in object sizes g p s few f.sound.board is, refl),
        λ tries' stage' two'. (refl, subst (λ k. IsNamed k s) (sym f.processes) named_now),
      ))

  fresh_now : (s : ℕ) (g : Board) (x : ℕ) → x ≡ current_word g.version g.current → x ≡ s → 128 * g.version ≤ s
  fresh_now s g x is same = omega arith

  -- the copy is the image
  copy_is : (tries s : ℕ) {local : ℕ → Local} {words : List ℕ} (g : Board) (copy : List ℕ) (seen : List (Option (List ℕ))) (x : ℕ) → Found meaning o sizes me g local words → length copy ≡ buffer_words sizes
      → IsAttemptAt object sizes g p (2 * p + l.spare) (Reading tries s copy seen) → x ≡ current_word g.version g.current → x ≡ s → copy ≡ spell g.image
  copy_is tries s g copy seen x f wide was is same =
      let now = was.1 (fresh_now s g x is same) in
      same_list copy (spell g.image) (wide ∙ sym (spell-length sizes g.image f.sound.board.rows)) now.1.0

  good_copy : (tries s : ℕ) {local : ℕ → Local} {words : List ℕ} (g : Board) (copy : List ℕ) (seen : List (Option (List ℕ))) (x : ℕ) → Found meaning o sizes me g local words → length copy ≡ buffer_words sizes
      → IsAttemptAt object sizes g p (2 * p + l.spare) (Reading tries s copy seen) → x ≡ current_word g.version g.current → x ≡ s → IsGood (meaning o) sizes (read_image sizes copy)
  good_copy tries s g copy seen x f wide was is same =
      let image : read_image sizes copy ≡ g.image = ap (read_image sizes) (copy_is tries s g copy seen x f wide was is same) ∙ read-spell sizes g.image f.sound.board.rows in
      subst (IsGood (meaning o) sizes) (sym image) (
        f.widths,
        (map (λ c. c.inv) g.atomic.agreed, sym (reached_from object _ g.atomic.agreed) ∙ ap (λ (i : Image). i.state) f.sound.board.image),
        λ r inside. (let a = f.sound.board.in_most r inside in let b = f.sound.board.room r inside in omega arith),
      )

  -- S is loaded again
  pub checks : (tries s : ℕ) → IsLooking sizes tries s sizes.processes me → IsAnnounced me → IsSteady (meaning o).object (meaning o).reply
      → Moves meaning o sizes id me 0 (λ x. x) nothing (λ found me'. (q : O) → me.0.object ≡ Some q → HasChecked (meaning q) st me found me')
  checks tries s looking announced_is steady = load_law meaning o sizes id me 0 (λ found me'. (q : O) → me.0.object ≡ Some q → HasChecked (meaning q) st me found me') single (check_steps meaning o sizes st me tries s looking announced_is) (λ g local words f.
      let x = slice_index words 0 in
      let copy = looking.0 in
      let seen = looking.1.0 in
      let stage : l.stage ≡ Reading tries s copy seen = looking.1.1 in
      let wide : length copy ≡ buffer_words sizes = looking.1.2 in
      let long : length seen ≡ sizes.processes = looking.1.3 in
      let full : AreWhole sizes seen = looking.1.4 in
      let call : IsOpen object g p l.inv l.own = attempted_open g announced_is (call_at object sizes g p l (Reading tries s copy seen) f.mine stage) in
      let was = attempt_at object sizes g p l (Reading tries s copy seen) f.mine stage in
      let is : x ≡ current_word g.version g.current = f.words_are.current in (
        goes l (checked sizes p (length l.own + 1) tries s copy seen x),
        checked_at g copy seen x f wide long full call was is (x == s) refl,
        λ q object_is tries' s' copy' seen' stage'.
            let object_same : o ≡ q = (let e : Some o ≡ Some q = sym f.object ∙ object_is in cc) in
            let e : Reading tries s copy seen ≡ Reading tries' s' copy' seen' = sym stage ∙ stage' in
            let a : tries ≡ tries' = cc in let b : s ≡ s' = cc in let c : copy ≡ copy' = cc in let d : seen ≡ seen' = cc in (
              λ k. (with_local me.0 (goes l (checked (sym f.processes k) p (length l.own + 1) (a k) (b k) (c k) (d k) x)), me.1),
              λ same. subst (λ q. IsGood (meaning q) me.0.known.sizes (read_image me.0.known.sizes copy')) object_same
                  (subst (λ k. IsGood (meaning o) k (read_image k copy')) (sym f.processes)
                  (subst (λ ws. IsGood (meaning o) sizes (read_image sizes ws)) c (good_copy tries s g copy seen x f wide was is (same ∙ sym b)))),
            ),
      )) where
        by_in : {local : ℕ → Local} {words : List ℕ} (g : Board) (copy : List ℕ) (seen : List (Option (List ℕ))) (x : ℕ) → Found meaning o sizes me g local words → length copy ≡ buffer_words sizes → length seen ≡ sizes.processes → AreWhole sizes seen
            → IsOpen object g p l.inv l.own → IsAttemptAt object sizes g p (2 * p + l.spare) (Reading tries s copy seen) → x ≡ current_word g.version g.current → x ≡ s
            → (b : Bool) → (slice_index copy p == length l.own + 1) ≡ b → IsAt object sizes g p (goes l (if b then Last s [] else Writing tries s (read_image sizes copy) seen 0))
        by_in g copy seen x f wide long full call was is same true e =
            let mine : slice_index copy p ≡ length l.own + 1 = (let h : (slice_index copy p == length l.own + 1) ≡ true = e in grind (arith, nat_tests, h)) in
            let copied = copy_is tries s g copy seen x f wide was is same in
            let in_now : slice_index copy p ≡ in_of g p = ap (λ ws. slice_index ws p) copied ∙ spell-applied sizes g.image f.sound.board.rows p f.inside in
            let marked = f.sound.board.at_current p f.inside in
            let announced = call.announced in
            let here : g.current ≡ buffer_in s = sym (buffer_of g.version g.current (let c = f.sound.board.current in omega arith)) ∙ ap buffer_in (sym is ∙ same) in
            at_next g (Last s []) f.mine call (
              subst (λ b. b < 2 * sizes.processes) here f.sound.board.current,
              subst (λ b. g.announced p ≤ g.mark b p) here (let m : g.announced p ≤ g.mark g.current p = omega arith in m),
              all_in object sizes g p s few f.sound.board (sym same ∙ is),
              refl,
            )
        by_in g copy seen x f wide long full call was is same false e =
            let copied = copy_is tries s g copy seen x f wide was is same in
            let image : read_image sizes copy ≡ g.image = ap (read_image sizes) copied ∙ read-spell sizes g.image f.sound.board.rows in
            let now = was.1 (fresh_now s g x is same) in
            let apart : slice_index copy p ≢ length l.own + 1 = (λ own. let h : (slice_index copy p == length l.own + 1) ≡ false = e in grind (arith, nat_tests, h, own)) in
            let in_now : slice_index copy p ≡ in_of g p = ap (λ ws. slice_index ws p) copied ∙ spell-applied sizes g.image f.sound.board.rows p f.inside in
            let not_in : in_of g p < g.announced p = (let a = call.announced in let m = f.sound.board.in_most p f.inside in omega (arith, apart)) in
            let steadily = subst (IsSteady object) f.widths.1 steady in
            let mine : IsPending g p → g.announced p ≤ g.mark (2 * p + l.spare) p → ⊥ = (λ waits least. let m = f.sound.board.marked (2 * p + l.spare) p f.inside in omega arith) in
            at_next g (Writing tries s (read_image sizes copy) seen 0) f.mine (subst (IsAttempted object sizes g p l) (sym announced_is) call) (
              was.0,
              (λ fresh. (now.0, (image, long, now.1.1, (λ waits. not_in), full))),
              subst (λ i. MayBeWritten object sizes g (2 * p + l.spare) (with_seen object i 0 seen)) (sym image)
                  (may_write object sizes steadily g p (2 * p + l.spare) f.sound.board seen seen now.1.1 (λ r apart. refl) mine),
              λ inv. subst (λ i. MayBeWritten object sizes g (2 * p + l.spare) (with_seen object i 0 (slice_set seen p (Some inv)))) (sym image)
                  (may_write object sizes steadily g p (2 * p + l.spare) f.sound.board seen (slice_set seen p (Some inv)) now.1.1 (λ r apart. due-set seen p r (Some inv) apart) mine),
            )

        checked_at : {local : ℕ → Local} {words : List ℕ} (g : Board) (copy : List ℕ) (seen : List (Option (List ℕ))) (x : ℕ) → Found meaning o sizes me g local words → length copy ≡ buffer_words sizes → length seen ≡ sizes.processes → AreWhole sizes seen
            → IsOpen object g p l.inv l.own → IsAttemptAt object sizes g p (2 * p + l.spare) (Reading tries s copy seen) → x ≡ current_word g.version g.current
            → (b : Bool) → (x == s) ≡ b
            → IsAt object sizes g p (goes l (if x == s then (if slice_index copy p == length l.own + 1 then Last s [] else Writing tries s (read_image sizes copy) seen 0) else Ready (tries + 1)))
        checked_at g copy seen x f wide long full call was is false e =
            let apart : x ≢ s = (λ same. let h : (x == s) ≡ false = e in grind (arith, nat_tests, h, same)) in
            subst (λ b. IsAt object sizes g p (goes l (if b then (if slice_index copy p == length l.own + 1 then Last s [] else Writing tries s (read_image sizes copy) seen 0) else Ready (tries + 1)))) (sym e)
            (at_next g (Ready (tries + 1)) f.mine (subst (IsAttempted object sizes g p l) (sym announced_is) call) (elim (lt_cases s (128 * g.version)) [
              | inl old ↦ (let a = was.0 in let b = old.0 in omega arith)
              | inr new ↦ absurd (apart (is ∙ sym (was.1 new.0).0))
            ]))
        checked_at {local = local} {words = words} g copy seen x f wide long full call was is true e =
            let same : x ≡ s = (let h : (x == s) ≡ true = e in grind (arith, nat_tests, h)) in
            subst (λ b. IsAt object sizes g p (goes l (if b then (if slice_index copy p == length l.own + 1 then Last s [] else Writing tries s (read_image sizes copy) seen 0) else Ready (tries + 1)))) (sym e)
            (by_in {local = local} {words = words} g copy seen x f wide long full call was is same (slice_index copy p == length l.own + 1) refl)

  -- a direct attempt begins
  pub begins_own : stage_of me ≡ Idle [] → IsAnnounced me → length l.own < most_calls → Moves meaning o sizes id me 0 (λ x. x) nothing (λ found me'. HasBegun st me found me')
  begins_own stage untried room = load_law meaning o sizes id me 0 (λ found me'. HasBegun st me found me') single (begin_steps meaning o sizes st me stage untried room) (λ g local words f.
      let s = slice_index words 0 in
      let is : s ≡ current_word g.version g.current = f.words_are.current in
      let here : buffer_in s ≡ g.current = ap buffer_in is ∙ buffer_of g.version g.current (let c = f.sound.board.current in omega arith) in
      let since : g.since p ≤ g.version = f.sound.board.begun p f.inside in
      let copy = begun sizes p l.held s in (
        begins_directly l s (begun sizes p l.held s),
        record {
          spare = f.mine.spare;
          apart = f.mine.apart;
          held = f.mine.held;
          told = f.mine.told;
          call = (call_at object sizes g p l (Idle []) f.mine stage).0;
          read = f.mine.read;
          attempt = (
            omega arith,
            λ fresh. (
              is,
              (
                copied_own g s f.mine f.sound.board here (buffer_in s / 2 == p) refl,
                record {
                  told = λ r inv e. absurd (let h = slice_get_within [] r (Some inv) e in omega arith);
                  caught = λ r below. absurd (omega arith);
                },
              ),
            ),
          );
          ordered = f.mine.ordered;
        },
        λ stage'. (
          (λ i. (with_local me.0 (begins_directly l s (begun (sym f.processes i) p l.held s)), me.1)),
          subst (λ k. IsNamed k s) (sym f.processes) (subst (IsNamed sizes) (sym is) (named object sizes g few f.sound.board)),
        ),
      ))

  -- S is loaded again in a direct attempt
  pub checks_own : (s : ℕ) → IsLooking sizes 0 s sizes.processes me → IsDirect me → IsSteady (meaning o).object (meaning o).reply
      → Moves meaning o sizes id me 0 (λ x. x) nothing (λ found me'. (q : O) → me.0.object ≡ Some q → HasCheckedOwn (meaning q) st me found me')
  checks_own s looking direct steady = load_law meaning o sizes id me 0 (λ found me'. (q : O) → me.0.object ≡ Some q → HasCheckedOwn (meaning q) st me found me') single (check_own_steps meaning o sizes st me s looking direct) (λ g local words f.
      let x = slice_index words 0 in
      let copy = looking.0 in
      let seen = looking.1.0 in
      let stage : l.stage ≡ Reading 0 s copy seen = looking.1.1 in
      let wide : length copy ≡ buffer_words sizes = looking.1.2 in
      let long : length seen ≡ sizes.processes = looking.1.3 in
      let full : AreWhole sizes seen = looking.1.4 in
      let call : IsAttempted object sizes g p l l.direct = call_at object sizes g p l (Reading 0 s copy seen) f.mine stage in
      let was = attempt_at object sizes g p l (Reading 0 s copy seen) f.mine stage in
      let is : x ≡ current_word g.version g.current = f.words_are.current in (
        goes l (checked_own sizes s copy seen x),
        by_own {local = local} {words = words} g copy seen x f wide long full call was is (x == s) refl,
        λ q object_is s' copy' seen' stage'.
            let object_same : o ≡ q = (let e : Some o ≡ Some q = sym f.object ∙ object_is in cc) in
            let e : Reading 0 s copy seen ≡ Reading 0 s' copy' seen' = sym stage ∙ stage' in
            let b : s ≡ s' = cc in let c : copy ≡ copy' = cc in let d : seen ≡ seen' = cc in (
              λ k. (with_local me.0 (goes l (checked_own (sym f.processes k) (b k) (c k) (d k) x)), me.1),
              λ same. subst (λ q. IsGood (meaning q) me.0.known.sizes (read_image me.0.known.sizes copy')) object_same
                  (subst (λ k. IsGood (meaning o) k (read_image k copy')) (sym f.processes)
                  (subst (λ ws. IsGood (meaning o) sizes (read_image sizes ws)) c (good_copy 0 s g copy seen x f wide was is (same ∙ sym b)))),
            ),
      )) where
        by_own : {local : ℕ → Local} {words : List ℕ} (g : Board) (copy : List ℕ) (seen : List (Option (List ℕ))) (x : ℕ) → Found meaning o sizes me g local words → length copy ≡ buffer_words sizes → length seen ≡ sizes.processes → AreWhole sizes seen
            → IsAttempted object sizes g p l l.direct → IsAttemptAt object sizes g p (2 * p + l.spare) (Reading 0 s copy seen) → x ≡ current_word g.version g.current
            → (b : Bool) → (x == s) ≡ b → IsAt object sizes g p (goes l (if b then Writing 0 s (read_image sizes copy) seen 0 else Idle []))
        by_own g copy seen x f wide long full call was is false e = at_next g (Idle []) f.mine (attempted_closed g direct call, refl) tt
        by_own g copy seen x f wide long full call was is true e =
            let same : x ≡ s = (let h : (x == s) ≡ true = e in grind (arith, nat_tests, h)) in
            let copied = copy_is 0 s g copy seen x f wide was is same in
            let image : read_image sizes copy ≡ g.image = ap (read_image sizes) copied ∙ read-spell sizes g.image f.sound.board.rows in
            let now = was.1 (omega arith) in
            let closed = attempted_closed g direct call in
            let steadily = subst (IsSteady object) f.widths.1 steady in
            let mine : IsPending g p → g.announced p ≤ g.mark (2 * p + l.spare) p → ⊥ = (λ waits least. let e : None ≡ Some waits.0 = sym closed.none_open ∙ waits.1 in absurd cc) in
            at_next g (Writing 0 s (read_image sizes copy) seen 0) f.mine call (
              was.0,
              (λ fresh. (now.0, (image, long, now.1.1, (λ waits. let e : None ≡ Some waits.0 = sym closed.none_open ∙ waits.1 in absurd cc), full))),
              subst (λ i. MayBeWritten object sizes g (2 * p + l.spare) (with_seen object i 0 seen)) (sym image)
                  (may_write object sizes steadily g p (2 * p + l.spare) f.sound.board seen seen now.1.1 (λ r apart. refl) mine),
              λ inv. subst (λ i. MayBeWritten object sizes g (2 * p + l.spare) (with_seen object i 0 (slice_set seen p (Some inv)))) (sym image)
                  (may_write object sizes steadily g p (2 * p + l.spare) f.sound.board seen (slice_set seen p (Some inv)) now.1.1 (λ r apart. due-set seen p r (Some inv) apart) mine),
            )

  -- a process with no call pending may follow the present version
  ordered_now : (g : Board) → IsAt object sizes g p l → IsBoard object sizes g → IsClosed g p l.own → (version : ℕ) → version ≡ g.version
      → IsOrdered object g.atomic.agreed g.calls_in_version g.version p version l.own
  ordered_now g mine board closed version here = record {
    reached = omega arith;
    later = λ c place at own from. absurd (none_beyond object sizes g p board c place at own (let i = closed.in_is in omega arith));
    known = mine.ordered.known;
    stand = mine.ordered.stand;
  }

  -- or goes on from the one that it followed
  ordered_if : (g : Board) → IsAt object sizes g p l → IsBoard object sizes g → IsClosed g p l.own → (version : ℕ) (b : Bool) → (b ≡ true → version ≡ g.version)
      → IsOrdered object g.atomic.agreed g.calls_in_version g.version p (if b then version else l.after) l.own
  ordered_if g mine board closed version true now = ordered_now g mine board closed version (now refl)
  ordered_if g mine board closed version false now = mine.ordered

  -- the version that S names
  present_is : {local : ℕ → Local} {words : List ℕ} (g : Board) → Found meaning o sizes me g local words → version_in (slice_index words 0) ≡ g.version
  present_is g f = ap version_in f.words_are.current ∙ version_of g.version g.current (let c = f.sound.board.current in omega arith)

  -- a read ends
  pub reads : (s : ℕ) → IsCopying 0 s (buffer_words sizes) me → IsDirect me
      → Moves meaning o sizes id me 0 (λ x. x) nothing (λ found me'. (q : O) → me.0.object ≡ Some q → HasConfirmed (meaning q) st me found me')
  reads s copying direct = load_law meaning o sizes id me 0 (λ found me'. (q : O) → me.0.object ≡ Some q → HasConfirmed (meaning q) st me found me') single (confirm_steps meaning o sizes st me s copying direct) (λ g local words f.
      let x = slice_index words 0 in
      let copy = copying.0 in
      let state = (read_image sizes copy).state in
      let stage : l.stage ≡ Reading 0 s copy [] = copying.1 in
      let was = attempt_at object sizes g p l (Reading 0 s copy []) f.mine stage in
      let closed : IsClosed g p l.own = attempted_closed g direct (call_at object sizes g p l (Reading 0 s copy []) f.mine stage) in
      let board = f.sound.board in
      let here : x ≡ s → version_in s ≡ g.version = (λ same. ap version_in (sym same) ∙ present_is g f) in
      let is_version : x ≡ s → IsVersion object sizes.processes (own_in_view me.0 ∷ []) (version_in s) state = (λ same.
      let image : read_image sizes copy ≡ g.image
      = ap (read_image sizes) (copy_is 0 s g copy [] x f copying.2 was f.words_are.current same) ∙ read-spell sizes g.image board.rows in
      version_has object sizes g board (own_in_view me.0 ∷ []) (done g board f.mine closed) state (ap (λ (i : Image). i.state) (sym image)) (version_in s) (let v = here same in omega arith)) in (
        confirms l s state x,
        record {
          spare = f.mine.spare;
          apart = f.mine.apart;
          held = f.mine.held;
          told = f.mine.told;
          call = (closed, refl);
          attempt = tt;
          ordered = ordered_if g f.mine board closed (version_in s) (x == s) (λ e. here (let h : (x == s) ≡ true = e in grind (arith, nat_tests, h)));
          read = by_found g f.mine s state (x == s) (λ e. is_version (let h : (x == s) ≡ true = e in grind (arith, nat_tests, h)));
        },
        λ q object_is s' copy' stage'.
            let object_same : o ≡ q = (let e : Some o ≡ Some q = sym f.object ∙ object_is in cc) in
            let e : Reading 0 s copy [] ≡ Reading 0 s' copy' [] = sym stage ∙ stage' in
            let b : s ≡ s' = cc in let c : copy ≡ copy' = cc in (
              λ k. (with_local me.0 (confirms l (b k) (read_image (sym f.processes k) (c k)).state x), me.1),
              λ same. (
                subst (λ q. AreWidths (meaning q) me.0.known.sizes) object_same (subst (AreWidths (meaning o)) (sym f.processes) f.widths),
                (let r = f.mine.ordered.reached in let v = here (same ∙ sym b) in let w : version_in s ≡ version_in s' = ap version_in b in omega arith),
                subst (λ q. IsVersion (meaning q).object me.0.known.sizes.processes (own_in_view me.0 ∷ []) (version_in s') (read_image me.0.known.sizes copy').state) object_same
                    (subst (λ z. IsVersion object z.processes (own_in_view me.0 ∷ []) (version_in s') (read_image z copy').state) (sym f.processes)
                    (subst (λ ws. IsVersion object sizes.processes (own_in_view me.0 ∷ []) (version_in s') (read_image sizes ws).state) c
                    (subst (λ z. IsVersion object sizes.processes (own_in_view me.0 ∷ []) (version_in z) state) b (is_version (same ∙ sym b))))),
              ),
            ),
      )) where
        by_found : (g : Board) → IsAt object sizes g p l → (s : ℕ) (state : List ℕ) (b : Bool) → (b ≡ true → IsVersion object sizes.processes (own_in_view me.0 ∷ []) (version_in s) state)
            → (read : Read) → (if b then Some (record { version = version_in s; state = state }) else l.read) ≡ Some read → IsVersion object sizes.processes (own_in_view me.0 ∷ []) read.version read.state
        by_found g mine s state true now read e =
            let h : Some (record { version = version_in s; state = state }) ≡ Some read = e in
            let same : (record { version = version_in s; state = state }) ≡ read = cc in
            subst (λ (r : Read). IsVersion object sizes.processes (own_in_view me.0 ∷ []) r.version r.state) same (now refl)
        by_found g mine s state false now read e = mine.read read e

        done : (g : Board) (board : IsBoard object sizes g) → IsAt object sizes g p l → IsClosed g p l.own → (its : ProcessReturned) → Contains (own_in_view me.0 ∷ []) its → IsDone object sizes g board its
        done g board mine closed its (zero, below, e) = subst (IsDone object sizes g board) e (record { closed = closed; after = l.after; ordered = mine.ordered })
        done g board mine closed its (suc k, below, e) = absurd (omega arith)

  -- S is loaded between calls
  pub follows_on : stage_of me ≡ Idle [] → Moves meaning o sizes id me 0 (λ x. x) nothing (λ found me'. HasFollowed st me found me')
  follows_on stage = load_law meaning o sizes id me 0 (λ found me'. HasFollowed st me found me') single (follow_steps meaning o sizes st me stage) (λ g local words f.
      let s = slice_index words 0 in
      let version = present_is g f in
      let closed = call_at object sizes g p l (Idle []) f.mine stage in (
        knows l (version_in s),
        record {
          spare = f.mine.spare;
          apart = f.mine.apart;
          held = f.mine.held;
          told = f.mine.told;
          call = subst (IsCallAt object sizes g p (knows l (version_in s))) (sym stage) closed;
          attempt = f.mine.attempt;
          ordered = ordered_now g f.mine f.sound.board closed.0 (version_in s) version;
          read = f.mine.read;
        },
        λ stage'. (refl, (let r = f.mine.ordered.reached in omega arith)),
      ))

  -- S is loaded to ask whether the version that was read is still the present one
  pub recalls_on : (read : Read) → stage_of me ≡ Idle [] → l.read ≡ Some read
      → Moves meaning o sizes id me 0 (λ x. x) nothing (λ found me'. (q : O) → me.0.object ≡ Some q → HasRecalled (meaning q) st me found me')
  recalls_on read stage had = load_law meaning o sizes id me 0 (λ found me'. (q : O) → me.0.object ≡ Some q → HasRecalled (meaning q) st me found me') single (recall_steps meaning o sizes st me read stage had) (λ g local words f.
      let present = version_in (slice_index words 0) in
      let closed = call_at object sizes g p l (Idle []) f.mine stage in (
        recalls l read.version present,
        record {
          spare = f.mine.spare;
          apart = f.mine.apart;
          held = f.mine.held;
          told = f.mine.told;
          call = subst (IsCallAt object sizes g p (recalls l read.version present)) (sym stage) closed;
          attempt = f.mine.attempt;
          ordered = ordered_if g f.mine f.sound.board closed.0 read.version (present == read.version)
              (λ e. let h : (present == read.version) ≡ true = e in let same : present ≡ read.version = grind (arith, nat_tests, h) in sym same ∙ present_is g f);
          read = f.mine.read;
        },
        λ q object_is read' stage' had'.
            let object_same : o ≡ q = (let e : Some o ≡ Some q = sym f.object ∙ object_is in cc) in
            let e : Some read ≡ Some read' = sym had ∙ had' in
            let b : read ≡ read' = cc in (
              λ k. (with_local me.0 (recalls l (b k).version present), me.1),
              λ same. (
                subst (λ q. AreWidths (meaning q) me.0.known.sizes) object_same (subst (AreWidths (meaning o)) (sym f.processes) f.widths),
                (let r = f.mine.ordered.reached in let v = present_is g f in omega arith),
                subst (λ q. IsVersion (meaning q).object me.0.known.sizes.processes (own_in_view me.0 ∷ []) read'.version read'.state) object_same
                    (subst (λ (z : Sizes). IsVersion object z.processes (own_in_view me.0 ∷ []) read'.version read'.state) (sym f.processes) (f.mine.read read' had')),
              ),
            ),
      ))

-- the version of a call that has returned has come
pub returned_come : {O : Type 0} (meaning : O → Meaning) (o : O) (sizes : Sizes) (g : Board) (local : ℕ → Local) (seat_of : ℕ → ℕ) (s : State Seen (View O)) → sizes.processes ≤ 64
    → IsShown sizes meaning o g local seat_of s → (p k : ℕ) (call : Returned) → p < sizes.processes → slice_get (local p).own k ≡ Some call → call.version ≤ version_in (slice_index s.words 0)
returned_come meaning o sizes g local seat_of s few is p k call inside at =
    let known = (is.sound.each p inside).ordered.known k call at in
    let version : version_in (slice_index s.words 0) ≡ g.version = ap version_in is.words.current ∙ version_of g.version g.current (let c = is.sound.board.current in omega arith) in
    omega arith
