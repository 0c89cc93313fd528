-- No call takes more word steps than 12n + 15, whatever the other seats do.
use Rattle.uni_words.proofs.Vocabulary.{Announce, Applied, IsSome, DecideAfter, DecideNew, Event, Finish, HasRead, Invocation, IsAmong, IsCounted-pending, IsShown, Known, List, Memory, Name, None, Nothing, Option, Pending, Process, ReadAnnounce, ReadHelpSeq, Reading, Reply, ScanHead, ScanSeq, Sequential, Some, Stage, State, Test, View, WorldOf, WriteBefore, WriteHead, WriteScan, WriteSeq, [], after_join, after_split, ap, arith, at_its_cell, at_set, call_after, content_of, false, first_alone, get_elem?, if◌then◌else◌, inl, nat_lt, inr, nobody, number_cases, others, place_of, refl, slice_index, slice_set, some, stage_found, subst, sym, took_in, true, turn_of, turns_bounded, word_of, Bool, ◌*◌, ◌++◌, ◌+◌, ◌-◌, ◌<◌, ◌==◌, ◌∙◌, ◌≡◌, ◌≤◌, ℕ}
use Rattle.uni_model.proofs.Bounded.{IsBounded-held}
use Rattle.uni_model.specs.Bound.{IsWithinBound}
use Rattle.uni_model.specs.Counting.{HasTurns, steps_at}
use Rattle.uni_words.specs.Execution.{Execution, IsPlain, Next, access_of, after_access, counted, last_state, opened_table, steps_of_call}
use Rattle.uni_words.specs.Execution.Next.{Begin, Ask, Move, LookInv, LookNew, Decide, LookReply, StoreEnd, LoadEnd}
use Rattle.uni_words.specs.Execution.Execution.{Ends, Takes, Splits, Joins}
use Rattle.uni_words.specs.Laws.{HasSeat}
use Rattle.uni_words.specs.Linearized.{CanStep, IsNarrow, KeepsBound, NeverBlocks}
use Rattle.uni_words.proofs.Going.{IsToStore, can_step}
use Rattle.uni_words.proofs.Executing.{Holds, end_holds, join_holds, opening_holds, split_holds, step_holds}
use Rattle.uni_words.proofs.Happens.{own_local, set_there}
use Rattle.uni_words.proofs.Looks.{underway}
use Rattle.uni_words.proofs.Moving.{goes_further}
use Rattle.uni_words.proofs.Opening.{only_seat}
use Rattle.uni_model.proofs.Each.{at_end}

-- how many turns of a call have settled a state, where it stands at this stage
abbrev done : Stage → (turns : ℕ) → ℕ
done (ReadAnnounce c s) turns = turns - 1
done (ReadHelpSeq c s help) turns = turns - 1
done (DecideAfter c s prefer) turns = turns - 1
done (DecideNew c s d) turns = turns - 1
done stage turns = turns

-- how many settled words were read since the last event, and how many can have been at a stage
abbrev reads : Reading → ℕ
reads Nothing = 0
reads (Invocation inv) = 1
reads (Applied inv state) = 2
reads (Reply reply) = 1

abbrev most_reads : Stage → ℕ
most_reads (DecideNew c s d) = 2
most_reads (Finish s t) = 1
most_reads stage = 0

reads_most : (m : Memory ℕ ℕ ℕ) (mine : Name) (stage : Stage) (read : Reading) → HasRead m mine stage read → reads read ≤ most_reads stage
reads_most m mine (DecideNew c s d) Nothing has = omega arith
reads_most m mine (Finish s t) Nothing has = omega arith
reads_most m mine _ Nothing has = omega arith
reads_most m mine (DecideNew c s d) (Invocation inv) has = omega arith
reads_most m mine (DecideNew c s d) (Applied inv state) has = omega arith
reads_most m mine (Finish s t) (Reply reply) has = omega arith
reads_most m mine _ _ has = absurd has

plain_most : (stage : Stage) → IsPlain stage → most_reads stage ≡ 0
plain_most (DecideNew c s d) plain = absurd plain
plain_most (Finish s t) plain = absurd plain
plain_most _ plain = refl

-- a plain step settles no state
tested : (b : Bool) (c : Name) (s k turns : ℕ) → done (if b then ReadAnnounce c s else Finish s k) (turns + (if b then 1 else 0)) ≡ turns
tested true c s k turns = omega arith
tested false c s k turns = omega arith

scanned : (b c d : Bool) (q : ℕ) (h best : Name) (s t turns : ℕ) → done (if b then (if c then ScanHead (q + 1) h s else WriteScan h s) else (if d then ScanHead (q + 1) best t else WriteScan best t)) (turns + 0) ≡ turns
scanned true true d q h best s t turns = omega arith
scanned true false d q h best s t turns = omega arith
scanned false c true q h best s t turns = omega arith
scanned false c false q h best s t turns = omega arith

done_of : Option Stage → (turns : ℕ) → ℕ
done_of None turns = turns
done_of (Some stage) turns = done stage turns

done_after : (n p : ℕ) (mine : Name) (stage : Stage) (found turns : ℕ) → IsPlain stage
    → done_of (stage_found n p mine stage found) (turns + turn_of stage (content_of n (place_of n p mine stage) found)) ≡ done stage turns
unfolding done_of
done_after n p mine Announce found turns plain = omega arith
done_after n p mine (ScanHead q best s) found turns plain = omega arith
done_after n p mine (ScanSeq q best s h) found turns plain = scanned (nat_lt s found) (nat_lt (q + 1) n) (nat_lt (q + 1) n) q h best found s turns
done_after n p mine (WriteScan best s) found turns plain = omega arith
done_after n p mine (Test c s) found turns plain = tested (found == 0) c s found turns
done_after n p mine (ReadAnnounce c s) found turns plain = omega arith
done_after n p mine (ReadHelpSeq c s help) found turns plain = omega arith
done_after n p mine (DecideAfter c s prefer) found turns plain = omega arith
done_after n p mine (DecideNew c s d) found turns plain = absurd plain
done_after n p mine (WriteBefore c s d) found turns plain = omega arith
done_after n p mine (WriteSeq c s d) found turns plain = omega arith
done_after n p mine (WriteHead c s d) found turns plain = omega arith
done_after n p mine (Finish s t) found turns plain = absurd plain

done_moves : (n p : ℕ) (mine : Name) (stage : Stage) (found : ℕ) (next : Stage) (turns : ℕ) → IsPlain stage → stage_found n p mine stage found ≡ Some next
    → done next (turns + turn_of stage (content_of n (place_of n p mine stage) found)) ≡ done stage turns
unfolding done_of
done_moves n p mine stage found next turns plain goes =
    ap (λ o. done_of o (turns + turn_of stage (content_of n (place_of n p mine stage) found))) (sym goes) ∙ done_after n p mine stage found turns plain

-- the word steps of a pending call: the first store, its events, two loads for each state that was settled, and what was read since
abbrev AreTaken : Process → Option Pending → (taken : ℕ) → Type 0
AreTaken its None taken = Unit {0}
AreTaken its (Some c) taken = (taken ≡ 1 + its.steps + 2 * done c.stage its.turns + reads its.read) × IsToStore its.read c.stage

few_at : (stage : Stage) (n turns steps r taken : ℕ) → HasTurns stage turns → steps ≡ steps_at n stage turns → turns ≤ n + 1 → r ≤ most_reads stage → steps < 10 * n + 12
    → taken ≡ 1 + steps + 2 * done stage turns + r → taken ≤ 12 * n + 15
few_at Announce n turns steps r taken has is few read less taken_is = omega (arith, has, is, few, read, less, taken_is)
few_at (ScanHead q best s) n turns steps r taken has is few read less taken_is = omega (arith, has, few, read, less, taken_is)
few_at (ScanSeq q best s h) n turns steps r taken has is few read less taken_is = omega (arith, has, few, read, less, taken_is)
few_at (WriteScan best s) n turns steps r taken has is few read less taken_is = omega (arith, has, few, read, less, taken_is)
few_at (Test c s) n turns steps r taken has is few read less taken_is = omega (arith, is, few, read, taken_is)
few_at (ReadAnnounce c s) n turns steps r taken has is few read less taken_is = omega (arith, has, is, few, read, taken_is)
few_at (ReadHelpSeq c s help) n turns steps r taken has is few read less taken_is = omega (arith, has, is, few, read, taken_is)
few_at (DecideAfter c s prefer) n turns steps r taken has is few read less taken_is = omega (arith, has, is, few, read, taken_is)
few_at (DecideNew c s d) n turns steps r taken has is few read less taken_is = omega (arith, has, is, few, read, taken_is)
few_at (WriteBefore c s d) n turns steps r taken has is few read less taken_is = omega (arith, has, is, few, read, taken_is)
few_at (WriteSeq c s d) n turns steps r taken has is few read less taken_is = omega (arith, has, is, few, read, taken_is)
few_at (WriteHead c s d) n turns steps r taken has is few read less taken_is = omega (arith, has, is, few, read, taken_is)
few_at (Finish s t) n turns steps r taken has is few read less taken_is = omega (arith, is, few, read, taken_is)

module _ (object : Sequential ℕ ℕ ℕ) (n row : ℕ) (narrow : IsNarrow object) where
  -- what is known of a call that is pending
  module _ (w : WorldOf ℕ ℕ ℕ) (s : State ℕ View) (count : w.n ≡ n) (is : IsShown object row w s)
      (id : ℕ) (v : Known) (at : get_elem? s.views id ≡ some (record { known = v })) (single : v.count ≡ 1) (c : Pending) (pending : v.its.call ≡ Some c) where
    here : (w.call v.first ≡ Some c) × (HasTurns c.stage v.its.turns) × (v.its.steps ≡ steps_at n c.stage v.its.turns) × (v.its.turns ≤ n + 1) × (v.its.steps < 10 * n + 12)
    here =
        let own = own_local object row w s is id v at single in
        let call = own.call ∙ pending in
        let its = IsCounted-pending w is.counts v.first c call in
        let few = turns_bounded object w is.counts is.sound v.first in
        let within : IsWithinBound w.n (Some c) (w.begun v.first) (w.among v.first) (w.steps v.first) (w.turns v.first)
        = subst (λ o. IsWithinBound w.n o (w.begun v.first) (w.among v.first) (w.steps v.first) (w.turns v.first)) call (IsBounded-held object w is.counts is.sound v.first) in (
          call,
          subst (HasTurns c.stage) own.turns its.1,
          sym own.steps ∙ its.2 ∙ (λ k. steps_at (count k) c.stage (own.turns k)),
          (let a = its.0 in let b = own.turns in omega (arith, few, a, b, count)),
          (let a = within.2 in let b = own.steps in omega (arith, a, b, count)),
        )

    read_few : reads v.its.read ≤ most_reads c.stage
    read_few = reads_most w.memory c.mine c.stage v.its.read (underway object row w s is id v at single c.mine c.stage pending).1

    taken_few : (taken : ℕ) → AreTaken v.its (Some c) taken → taken ≤ 12 * n + 15
    taken_few taken a = few_at c.stage n v.its.turns v.its.steps (reads v.its.read) taken here.1 here.2 here.3 read_few here.4 a.0

    -- a call whose last step stores the head has had at most n turns
    turns_fewer : (s t : ℕ) → c.stage ≡ Finish s t → s < t → v.its.turns ≤ n
    turns_fewer a b stage less = elim (number_cases v.its.turns (n + 1)) [
      | inl most ↦
          let own = own_local object row w s is id v at single in
          let cell = at_its_cell object w is.sound v.first c.mine a b (here.0 ∙ ap (λ k. Some (record { mine = c.mine; stage = k })) stage) (own.turns ∙ most.0 ∙ (λ k. sym count k + 1)) in
          absurd (let past = cell.1 in omega (arith, past, less))
      | inr fewer ↦ (let few = here.3 in let other = fewer.0 in omega (arith, few, other))
    ]

  -- the seat of one process stays that
  first_stays : (v : Known) (next : Next object n row v) (found : ℕ) → ((access_of object n row v next).leaves found).first ≡ v.first
  first_stays v (Begin inv narrow idle room) found = refl
  first_stays v (Ask call idle) found = refl
  first_stays v (Move c becomes pending plain leaves) found = refl
  first_stays v (LookInv mine c d c_seq pending fresh) found = refl
  first_stays v (LookNew mine c d c_seq inv pending read) found = refl
  first_stays v (Decide mine c d c_seq inv state pending read) found = refl
  first_stays v (LookReply mine c_seq mine_seq pending later fresh) found = refl
  first_stays v (StoreEnd mine c_seq mine_seq reply x pending later read named) found = refl
  first_stays v (LoadEnd mine c_seq mine_seq pending less fresh) found = refl

  count_stays : (v : Known) (next : Next object n row v) (found : ℕ) → ((access_of object n row v next).leaves found).count ≡ v.count
  count_stays v (Begin inv narrow idle room) found = refl
  count_stays v (Ask call idle) found = refl
  count_stays v (Move c becomes pending plain leaves) found = refl
  count_stays v (LookInv mine c d c_seq pending fresh) found = refl
  count_stays v (LookNew mine c d c_seq inv pending read) found = refl
  count_stays v (Decide mine c d c_seq inv state pending read) found = refl
  count_stays v (LookReply mine c_seq mine_seq pending later fresh) found = refl
  count_stays v (StoreEnd mine c_seq mine_seq reply x pending later read named) found = refl
  count_stays v (LoadEnd mine c_seq mine_seq pending less fresh) found = refl

  -- the steps of a call, with one more
  taken_next : (es : List (Event ℕ)) (s : State ℕ View) (h : Holds object n row narrow es s) (id : ℕ) (v : Known) (seat : HasSeat s id v) (next : Next object n row v) (found taken : ℕ)
      → AreTaken v.its v.its.call taken
      → AreTaken ((access_of object n row v next).leaves found).its ((access_of object n row v next).leaves found).its.call (counted object n row next taken)
  taken_next es s h id v seat (Begin inv narrow idle room) found taken a = (omega arith, tt)
  taken_next es s h id v seat (Ask call idle) found taken a = a
  taken_next es s h id v seat (Move c becomes pending plain leaves) found taken a =
      let t = subst (λ o. AreTaken v.its o taken) pending a in
      let r = read_few h.0 s h.1 h.2 id v seat.0 seat.1 c pending in
      let z = plain_most c.stage plain in
      let on = goes_further v.n v.first c.mine c.stage found plain in
      let d = done_moves v.n v.first c.mine c.stage found on.0 v.its.turns plain on.1 in
      subst (λ o. AreTaken ((access_of object n row v (Move c becomes pending plain leaves)).leaves found).its (call_after c.mine o) (taken + 1)) (sym on.1) (let t = t.0 in omega (arith, t, r, z, d), tt)
  taken_next es s h id v seat (LookInv mine c d c_seq pending fresh) found taken a =
      let t = subst (λ o. AreTaken v.its o taken) pending a in
      let f : reads v.its.read ≡ 0 = ap reads fresh in
      subst (λ o. AreTaken ((access_of object n row v (LookInv mine c d c_seq pending fresh)).leaves found).its o (taken + 1)) (sym pending) (let t = t.0 in omega (arith, t, f), tt)
  taken_next es s h id v seat (LookNew mine c d c_seq inv pending read) found taken a =
      let t = subst (λ o. AreTaken v.its o taken) pending a in
      let f : reads v.its.read ≡ 1 = ap reads read in
      subst (λ o. AreTaken ((access_of object n row v (LookNew mine c d c_seq inv pending read)).leaves found).its o (taken + 1)) (sym pending) (let t = t.0 in omega (arith, t, f), tt)
  taken_next es s h id v seat (Decide mine c d c_seq inv state pending read) found taken a =
      let t = subst (λ o. AreTaken v.its o taken) pending a in
      let f : reads v.its.read ≡ 2 = ap reads read in
      let some_turn : 1 ≤ v.its.turns = (here h.0 s h.1 h.2 id v seat.0 seat.1 (record { mine = mine; stage = DecideNew c c_seq d }) pending).1 in
      (let t = t.0 in omega (arith, t, f, some_turn), tt)
  taken_next es s h id v seat (LookReply mine c_seq mine_seq pending later fresh) found taken a =
      let t = subst (λ o. AreTaken v.its o taken) pending a in
      let f : reads v.its.read ≡ 0 = ap reads fresh in
      subst (λ o. AreTaken ((access_of object n row v (LookReply mine c_seq mine_seq pending later fresh)).leaves found).its o (taken + 1)) (sym pending) (let t = t.0 in omega (arith, t, f), later)
  taken_next es s h id v seat (StoreEnd mine c_seq mine_seq reply x pending later read named) found taken a = tt
  taken_next es s h id v seat (LoadEnd mine c_seq mine_seq pending less fresh) found taken a = tt

  -- they are few, where the call is pending then
  few_pending : (es : List (Event ℕ)) (s : State ℕ View) → Holds object n row narrow es s → (id : ℕ) (v : Known) → get_elem? s.views id ≡ some (record { known = v }) → v.count ≡ 1 → (c : Pending) → v.its.call ≡ Some c
      → (taken : ℕ) → AreTaken v.its v.its.call taken → taken ≤ 12 * n + 15
  few_pending es s h id v at single c pending taken a = taken_few h.0 s h.1 h.2 id v at single c pending taken (subst (λ o. AreTaken v.its o taken) pending a)

  few_next : (es : List (Event ℕ)) (s : State ℕ View) (h : Holds object n row narrow es s) (id : ℕ) (v : Known) (seat : HasSeat s id v) (next : Next object n row v) (i : ℕ)
      → word_of n row (access_of object n row v next).place ≡ Some i → (taken : ℕ) → taken ≤ 12 * n + 15 → AreTaken v.its v.its.call taken → counted object n row next taken ≤ 12 * n + 15
  few_next es s h id v seat next i at taken few a = by_step next at (taken_next es s h id v seat next (slice_index s.words i) taken a)
    where
      -- where the call goes on
      on : (next : Next object n row v) → word_of n row (access_of object n row v next).place ≡ Some i → (c : Pending) → ((access_of object n row v next).leaves (slice_index s.words i)).its.call ≡ Some c
          → AreTaken ((access_of object n row v next).leaves (slice_index s.words i)).its ((access_of object n row v next).leaves (slice_index s.words i)).its.call (counted object n row next taken) → counted object n row next taken ≤ 12 * n + 15
      on next at c pending later =
          let v' = (access_of object n row v next).leaves (slice_index s.words i) in
          few_pending _ (after_access object n row s id i (access_of object n row v next)) (step_holds object n row narrow es s h id v seat next i at) id v' (set_there s.views id (record { known = v }) (record { known = v' }) seat.0)
          (count_stays v next (slice_index s.words i) ∙ seat.1) c pending (counted object n row next taken) later

      by_step : (next : Next object n row v) → word_of n row (access_of object n row v next).place ≡ Some i
          → AreTaken ((access_of object n row v next).leaves (slice_index s.words i)).its ((access_of object n row v next).leaves (slice_index s.words i)).its.call (counted object n row next taken) → counted object n row next taken ≤ 12 * n + 15
      by_step (Begin inv narrow idle room) at later = omega arith
      by_step (Ask call idle) at later = few
      by_step (Move c becomes pending plain leaves) at later =
          let goes = goes_further v.n v.first c.mine c.stage (slice_index s.words i) plain in
          on (Move c becomes pending plain leaves) at (record { mine = c.mine; stage = goes.0 }) (ap (call_after c.mine) goes.1) later
      by_step (LookInv mine c d c_seq pending fresh) at later = on (LookInv mine c d c_seq pending fresh) at _ pending later
      by_step (LookNew mine c d c_seq inv pending read) at later = on (LookNew mine c d c_seq inv pending read) at _ pending later
      by_step (Decide mine c d c_seq inv state pending read) at later = on (Decide mine c d c_seq inv state pending read) at (record { mine = mine; stage = WriteBefore c c_seq d }) refl later
      by_step (LookReply mine c_seq mine_seq pending less fresh) at later = on (LookReply mine c_seq mine_seq pending less fresh) at _ pending later
      by_step (StoreEnd mine c_seq mine_seq reply x pending less read named) at later =
          let t = (subst (λ o. AreTaken v.its o taken) pending a).0 in
          let f : reads v.its.read ≡ 1 = ap reads read in
          let call : Pending = record { mine = mine; stage = Finish c_seq mine_seq } in
          let steps = (here h.0 s h.1 h.2 id v seat.0 seat.1 call pending).2 in
          let turns = turns_fewer h.0 s h.1 h.2 id v seat.0 seat.1 call pending c_seq mine_seq refl less in
          omega (arith, t, f, steps, turns)
      by_step (LoadEnd mine c_seq mine_seq pending less fresh) at later =
          let t = (subst (λ o. AreTaken v.its o taken) pending a).0 in
          let f : reads v.its.read ≡ 0 = ap reads fresh in
          let its = here h.0 s h.1 h.2 id v seat.0 seat.1 (record { mine = mine; stage = Finish c_seq mine_seq }) pending in
          let steps = its.2 in
          let turns = its.3 in
          omega (arith, t, f, steps, turns)

  -- of process p, whichever seat has it
  abbrev IsWithin : (p : ℕ) → State ℕ View → (taken : ℕ) → Type 0
  IsWithin p s taken = (taken ≤ 12 * n + 15) × ((id : ℕ) (v : View) → get_elem? s.views id ≡ some v → IsAmong p v.known → AreTaken v.known.its v.known.its.call taken)

  within_next : (es : List (Event ℕ)) (s : State ℕ View) (h : Holds object n row narrow es s) (id : ℕ) (v : Known) (seat : HasSeat s id v) (next : Next object n row v) (i : ℕ)
      (at : word_of n row (access_of object n row v next).place ≡ Some i) (p taken : ℕ) → IsWithin p s taken
      → IsWithin p (after_access object n row s id i (access_of object n row v next)) (if p == v.first then counted object n row next taken else taken)
  within_next es s h id v seat next i at p taken w =
      let found = slice_index s.words i in
      let a = access_of object n row v next in
      let s' = after_access object n row s id i a in
      let one = count_stays v next found in
      let first = first_stays v next found in
      elim (number_cases p v.first) [
        | inl same ↦
            let mine = w.1 id (record { known = v }) seat.0 (let k = same.0 in let z = seat.1 in (omega (arith, k), omega (arith, k, z))) in
            let later = taken_next es s h id v seat next found taken mine in
            subst (λ b. IsWithin p s' (if b then counted object n row next taken else taken)) (sym same.1) (
              few_next es s h id v seat next i at taken w.0 mine,
              λ j u e among. elim (at_set s.views id j (record { known = a.leaves found }) u e) [
                | inl own ↦ subst (λ (z : View). AreTaken z.known.its z.known.its.call (counted object n row next taken)) own.1 later
                | inr other ↦
                    let seats = h.2.seats in
                    let theirs = ((seats.each j u other.1).each p among.0 among.1).0 in
                    let ours = ((seats.each id (record { known = v }) seat.0).each v.first (omega arith) (let z = seat.1 in omega (arith, z))).0 in
                    absurd (other.0 (sym theirs ∙ ap seats.owner same.0 ∙ ours))
              ],
            )
        | inr other ↦
            subst (λ b. IsWithin p s' (if b then counted object n row next taken else taken)) (sym other.1) (
              w.0,
              λ j u e among. elim (at_set s.views id j (record { known = a.leaves found }) u e) [
                | inl own ↦
                    let here : IsAmong p (a.leaves found) = subst (λ (z : View). IsAmong p z.known) (sym own.1) among in
                    absurd (other.0 (let x = here.0 in let y = here.1 in let z = seat.1 in omega (arith, x, y, z, one, first)))
                | inr old ↦ w.1 j u old.1 among
              ],
            )
      ]

  within_split : (s : State ℕ View) (id : ℕ) (v : View) → get_elem? s.views id ≡ some v → 1 ≤ v.known.count → (p taken : ℕ) → IsWithin p s taken → IsWithin p (after_split s id v) taken
  within_split s id v at some_left p taken w = (
    w.0,
    λ j u e among. elim (at_end (slice_set s.views id (others v)) (first_alone v) u j e) [
      | inl old ↦ elim (at_set s.views id j (others v) u old) [
        | inl mine ↦
            let here : IsAmong p (others v).known = subst (λ (z : View). IsAmong p z.known) (sym mine.1) among in
            subst (λ (z : View). AreTaken z.known.its z.known.its.call taken) mine.1 (w.1 id v at (let x = here.0 in let y = here.1 in (omega (arith, x), omega (arith, y, some_left))))
        | inr other ↦ w.1 j u other.1 among
      ]
      | inr new ↦
          let here : IsAmong p (first_alone v).known = subst (λ (z : View). IsAmong p z.known) (sym new.1) among in
          subst (λ (z : View). AreTaken z.known.its z.known.its.call taken) new.1 (w.1 id v at (let y = here.1 in (here.0, omega (arith, y, some_left))))
    ],
  )

  within_join : (s : State ℕ View) (id : ℕ) (v : View) (other : ℕ) (x : View) → get_elem? s.views id ≡ some v → (p taken : ℕ) → IsWithin p s taken → IsWithin p (after_join s id v other x) taken
  within_join s id v other x at p taken w = (
    w.0,
    λ j u e among. elim (at_set (slice_set s.views id (took_in v x)) other j nobody u e) [
      | inl spent ↦ absurd (let none : IsAmong p nobody.known = subst (λ (z : View). IsAmong p z.known) (sym spent.1) among in let y = none.1 in omega (arith, y))
      | inr left ↦ elim (at_set s.views id j (took_in v x) u left.1) [
        | inl mine ↦
            subst (λ (z : View). AreTaken z.known.its z.known.its.call taken) mine.1 (w.1 id v at (subst (λ (z : View). IsAmong p z.known) (sym mine.1) among))
        | inr rest ↦ w.1 j u rest.1 among
      ]
    ],
  )

  within_end : (es : List (Event ℕ)) {s : State ℕ View} → Holds object n row narrow es s → (p taken : ℕ) → IsWithin p s taken → (e : Execution object n row s)
      → IsWithin p (last_state object n row e) (steps_of_call object n row p taken e)
  within_end es h p taken w Ends = w
  within_end es {s = s} h p taken w (Takes id v seat next i at rest) =
      within_end (es ++ (access_of object n row v next).events) (step_holds object n row narrow es s h id v seat next i at) p (if p == v.first then counted object n row next taken else taken) (within_next es s h id v seat next i at p taken w) rest
  within_end es {s = s} h p taken w (Splits id v at some_left rest) = within_end es (split_holds object n row narrow es s h id v at some_left) p taken (within_split s id v at some_left p taken w) rest
  within_end es {s = s} h p taken w (Joins id v other x at at_other apart some_left idle single its_idle rest) =
      within_end es (join_holds object n row narrow es s h id v other x at at_other apart some_left idle single its_idle) p taken (within_join s id v other x at p taken w) rest

  taken_by : (e : Execution object n row (opened_table object n row)) (p : ℕ) → IsWithin p (last_state object n row e) (steps_of_call object n row p 0 e)
  taken_by e p = within_end [] (opening_holds object n row narrow) p 0 (
    omega arith,
    λ id v at among. let h = only_seat object n row narrow.0 id v at in subst (λ (z : View). AreTaken z.known.its z.known.its.call 0) h.1 tt,
  ) e

  pub keeps_bound : (e : Execution object n row (opened_table object n row)) → KeepsBound object n row e
  keeps_bound e p = (taken_by e p).0

  pub never_blocks : (e : Execution object n row (opened_table object n row)) → NeverBlocks object n row e
  never_blocks e id v seat busy = by_call v.its.call refl busy where
    by_call : (o : Option Pending) → v.its.call ≡ o → IsSome o → CanStep object n row v
    by_call None pending busy = cc
    by_call (Some c) pending busy =
        let h = end_holds object n row narrow e in
        let among : IsAmong v.first v = (let z = seat.1 in (omega arith, omega (arith, z))) in
        let taken = subst (λ o. AreTaken v.its o (steps_of_call object n row v.first 0 e)) pending ((taken_by e v.first).1 id (record { known = v }) seat.0 among) in
        subst (λ k. CanStep object k row v) h.1 (can_step object row h.0 (last_state object n row e) h.2 id v seat.0 seat.1 c pending taken.1)
