-- A word step keeps the rule: what has to be shown of it, and of a step that is an event.
use Rattle.uni_words.proofs.Vocabulary.{Anchor, Contains, CountsSteps, CountsSteps-world_after, Effect, Grows, Grows-same, HelpingInvariant-world_after_step, Invariant-world_after_step, IsAmong, IsLocal, IsShown, IsSome, IsTaken, Known, List, Name, None, Of, Option, Pending, Place, Process, ProcessCalls, Sequential, Some, State, Step, Tells, View, WorldOf, [], ap, arith, at_set, call_after, content_of, effect_in, get_elem?, inl, inr, length, memory_of, memory_with, new_of, number_cases, place_of, refl, set, set-get_or, set_at_elsewhere, slice_index, slice_set, some, some-injective, some-ne-none, subst, suc, sym, turn_of, word_of, words_of, world_after, world_after_step, zero, ℕ, ⊎_elim, ◌+◌, ◌<◌, ◌^◌, ◌∙◌, ◌∷◌, ◌≡◌, ◌≢◌, ◌≤◌}
use Rattle.uni_model.specs.Helping.{HelpingInvariant}
use Rattle.uni_words.proofs.Locality.{memory_at, word_here, words_written}
use Rattle.uni_words.proofs.Underway.{HasOutcome-grows, IsUnderway-grows, last_number-grows, place_shared}

pub set_there : {A : Type 0} (l : List A) (i : ℕ) (a b : A) → get_elem? l i ≡ some a → get_elem? (set l i b) i ≡ some b
set_there [] i a b e = absurd (some-ne-none a (sym e))
set_there (x ∷ xs) zero a b e = refl
set_there (x ∷ xs) (suc i) a b e = set_there xs i a b e

-- a process that a seat has taken in isn't the first one of a seat that can take steps
pub taken_apart : (object : Sequential ℕ ℕ ℕ) (row : ℕ) (w : WorldOf ℕ ℕ ℕ) (s : State ℕ View) (is : IsShown object row w s) (id : ℕ) (v : View) → get_elem? s.views id ≡ some v → 1 ≤ v.known.count
    → (j : ℕ) (u : View) → get_elem? s.views j ≡ some u → (c : ProcessCalls ℕ ℕ) → Contains u.known.taken c → c.process ≢ v.known.first
taken_apart object row w s is id v at some_left j u there c has same =
    let its = (is.seats.each j u there).taken c has in
    elim (number_cases j id) [
      | inl here ↦
          let view : v ≡ u = some-injective _ _ (sym at ∙ subst (λ k. get_elem? s.views k ≡ some u) here.0 there) in
          its.2 (subst (λ (z : View). IsAmong c.process z.known) view (omega (arith, same), omega (arith, same, some_left)))
      | inr other ↦
          let local = (is.seats.each id v at).each v.known.first (omega arith) (omega (arith, some_left)) in
          other.0 (sym its.0 ∙ (ap is.seats.owner same ∙ local.0))
    ]

-- One word is written and one seat, which has one process, gets another view: what has to be shown for the rule to hold after it.
module _ (object : Sequential ℕ ℕ ℕ) (row : ℕ) (w : WorldOf ℕ ℕ ℕ) (s : State ℕ View) (is : IsShown object row w s)
    (id : ℕ) (v : Known) (at : get_elem? s.views id ≡ some (record { known = v })) (single : v.count ≡ 1) where
  own_seat : (is.seats.owner v.first ≡ id) × IsLocal w v.first v.its
  own_seat = (is.seats.each id (record { known = v }) at).each v.first (omega arith) (let one = single in omega arith)

  pub own_local : IsLocal w v.first v.its
  own_local = own_seat.1

  -- the world afterwards is as before but for the seat's process and the memory
  pub record OthersStay (w' : WorldOf ℕ ℕ ℕ) : Type 0 where
    pub n : w'.n ≡ w.n
    pub call : (q : ℕ) → q ≢ v.first → w'.call q ≡ w.call q
    pub begun : (q : ℕ) → q ≢ v.first → w'.begun q ≡ w.begun q
    pub steps : (q : ℕ) → q ≢ v.first → w'.steps q ≡ w.steps q
    pub turns : (q : ℕ) → q ≢ v.first → w'.turns q ≡ w.turns q

  module _ (words' : List ℕ) (w' : WorldOf ℕ ℕ ℕ) (long : length words' ≡ length s.words) (stay : OthersStay w')
      (grows : Grows w.memory w'.memory) (memory_is : w'.memory ≡ memory_of w'.n row words' w'.begun)
      (v' : Known) (n_is : v'.n ≡ w.n) (row_is : v'.row ≡ row) (first_is : v'.first ≡ v.first) (count_is : v'.count ≡ 1) (taken_is : v'.taken ≡ v.taken)
      (tells : IsLocal w' v.first v'.its)
      (room : w'.begun v.first ≤ row)
      (fits : (y : Name) (u : ℕ × Option ℕ) → new_of w'.memory y ≡ Some u → u.0 < 2 ^ 31)
      (sound : HelpingInvariant object w') (counts : CountsSteps w') where
    only_p : (q : ℕ) → v'.first ≤ q → q < v'.first + v'.count → q ≡ v.first
    only_p q from below = let a = first_is in let b = count_is in omega arith

    -- another process, of whichever seat
    other_local : (q : ℕ) (u : Process) → q ≢ v.first → IsLocal w q u → IsLocal w' q u
    other_local q u apart h = record {
      inside = subst (λ k. q < k) (sym stay.n) h.inside;
      call = stay.call q apart ∙ h.call;
      begun = stay.begun q apart ∙ h.begun;
      steps = stay.steps q apart ∙ h.steps;
      turns = stay.turns q apart ∙ h.turns;
      underway = IsUnderway-grows _ _ grows u.call u.inv u.read h.underway;
      counted = h.counted;
      own = λ k call e. HasOutcome-grows _ _ grows (Of q k) call.0 call.1 (h.own k call e);
      number = h.number ∙ sym (last_number-grows _ _ grows q u.own h.own);
    }

    -- a process that was taken in
    other_taken : (c : ProcessCalls ℕ ℕ) → c.process ≢ v.first → IsTaken w c → IsTaken w' c
    other_taken c apart h = record {
      inside = subst (λ k. c.process < k) (sym stay.n) h.inside;
      call = stay.call c.process apart ∙ h.call;
      begun = stay.begun c.process apart ∙ h.begun;
      own = λ k call e. HasOutcome-grows _ _ grows (Of c.process k) call.0 call.1 (h.own k call e);
    }

    seats_later : (j : ℕ) (u : View) → get_elem? (set s.views id (record { known = v' })) j ≡ some u → Tells w' is.seats.owner row j u.known
    seats_later j u e = ⊎_elim
        (λ (h : (j ≡ id) × (record { known = v' } ≡ u)).
        subst (λ (z : View). Tells w' is.seats.owner row j z.known) h.1
        (record {
          processes = λ any. n_is ∙ sym stay.n;
          calls = λ any. row_is;
          several = λ two. absurd (omega (arith, two, count_is));
          each = λ q from below.
              subst (λ k. (is.seats.owner k ≡ j) × IsLocal w' k v'.its) (sym (only_p q from below)) (own_seat.0 ∙ sym h.0, tells);
          taken = λ c has.
              let had : Contains v.taken c = subst (λ l. Contains l c) taken_is has in
              let its = (is.seats.each id (record { known = v }) at).taken c had in (
                its.0 ∙ sym h.0,
                other_taken c (taken_apart object row w s is id (record { known = v }) at (let one = single in omega arith) id (record { known = v }) at c had) its.1,
                λ among. its.2 (omega (arith, first_is, among.0), omega (arith, first_is, count_is, single, among.1)),
              );
        }))
        (λ (h : (j ≢ id) × (get_elem? s.views j ≡ some u)).
        let told = is.seats.each j u h.1 in
        record {
          processes = λ any. told.processes any ∙ sym stay.n;
          calls = told.calls;
          several = told.several;
          each = λ q from below.
              let local = told.each q from below in
              (local.0, other_local q u.known.its (λ same. h.0 (sym local.0 ∙ (ap is.seats.owner same ∙ own_seat.0))) local.1);
          taken = λ c has. let its = told.taken c has in
              (its.0, other_taken c (taken_apart object row w s is id (record { known = v }) at (let one = single in omega arith) j u h.1 c has) its.1, its.2);
        })
        (at_set s.views id j (record { known = v' }) u e)

    pub keeps_rule : IsShown object row w' (record { words = words'; homes = s.homes; views = set s.views id (record { known = v' }) })
    keeps_rule = record {
      words = record {
        wide = long ∙ is.words.wide ∙ ap (λ k. words_of k row) (sym stay.n);
        memory = memory_is;
        number = grows.seq Anchor (subst (λ t. 1 ≤ t) (sym is.words.number) (omega arith)) ∙ is.words.number;
        state = grows.new Anchor (object.initial, None) is.words.state;
        room = λ q. elim (number_cases q v.first) [
          | inl here ↦ subst (λ k. w'.begun k ≤ row) (sym here.0) room
          | inr other ↦ subst (λ k. k ≤ row) (sym (stay.begun q other.0)) (is.words.room q)
        ];
        fits = fits;
      };
      seats = record { owner = is.seats.owner; each = seats_later };
      sound = sound;
      counts = counts;
    }

  -- no word changes, and the seat knows more
  pub knows_more : (i : ℕ) (v' : Known) → v'.n ≡ v.n → v'.row ≡ v.row → v'.first ≡ v.first → v'.count ≡ 1 → v'.taken ≡ v.taken → IsLocal w v.first v'.its
      → IsShown object row w (record { words = slice_set s.words i (slice_index s.words i); homes = s.homes; views = slice_set s.views id (record { known = v' }) })
  knows_more i v' n_is row_is first_is count_is taken_is tells =
      let told = is.seats.each id (record { known = v }) at in
      subst (λ ws. IsShown object row w (record { words = ws; homes = s.homes; views = slice_set s.views id (record { known = v' }) })) (sym (set-get_or s.words i 0))
      (keeps_rule s.words w refl (record { n = refl; call = λ q a. refl; begun = λ q a. refl; steps = λ q a. refl; turns = λ q a. refl })
      (Grows-same w.memory) is.words.memory v' (n_is ∙ told.processes (let one = single in omega arith)) (row_is ∙ told.calls (let one = single in omega arith)) first_is count_is taken_is tells
      (is.words.room v.first) is.words.fits is.sound is.counts)

module _ (object : Sequential ℕ ℕ ℕ) (row : ℕ) (w : WorldOf ℕ ℕ ℕ) (s : State ℕ View) (is : IsShown object row w s)
    (id : ℕ) (v : Known) (at : get_elem? s.views id ≡ some (record { known = v })) (single : v.count ≡ 1) (c : Pending) (pending : v.its.call ≡ Some c) where
  abbrev p : ℕ
  p = v.first

  abbrev pub place : Place
  place = place_of w.n p c.mine c.stage

  pub own_call : w.call p ≡ Some c
  own_call = (own_local object row w s is id v at single).call ∙ pending

  abbrev pub effect : Effect ℕ ℕ ℕ
  effect = effect_in object w p c

  -- the world after the event
  abbrev pub later : WorldOf ℕ ℕ ℕ
  later = world_after_step object w p (Some c)

  pub later_is : later ≡ world_after object w (Step p)
  later_is = ap (world_after_step object w p) (sym own_call)

  pub memory_grows : Grows w.memory later.memory
  memory_grows = (Invariant-world_after_step object w p c own_call (is.sound.0, is.sound.1, is.sound.2)).1

  -- the words afterwards show the memory after the event; what the seat knows then, and that no state that is settled passes 31 bits
  pub kept : (words' : List ℕ) → length words' ≡ length s.words → later.memory ≡ memory_of w.n row words' w.begun
      → (v' : Known) → v'.n ≡ w.n → v'.row ≡ row → v'.first ≡ p → v'.count ≡ 1 → v'.taken ≡ v.taken
      → IsLocal later p v'.its
      → ((y : Name) (u : ℕ × Option ℕ) → new_of later.memory y ≡ Some u → u.0 < 2 ^ 31)
      → IsShown object row later (record { words = words'; homes = s.homes; views = set s.views id (record { known = v' }) })
  kept words' long memory_is v' n_is row_is first_is count_is taken_is tells fits = keeps_rule object row w s is id v at single words' later long
      (record {
        n = refl;
        call = λ q apart. set_at_elsewhere w.call p (call_after c.mine effect.stage) q apart;
        begun = λ q apart. refl;
        steps = λ q apart. set_at_elsewhere w.steps p (w.steps p + 1) q apart;
        turns = λ q apart. set_at_elsewhere w.turns p (w.turns p + turn_of c.stage (w.memory place)) q apart;
      })
      memory_grows memory_is v' n_is row_is first_is count_is taken_is tells (is.words.room p) fits
      (HelpingInvariant-world_after_step object w p c own_call is.counts is.sound)
      (subst (λ o. CountsSteps (world_after_step object w p o)) own_call
      (CountsSteps-world_after object w (Step p) (subst IsSome (sym own_call) refl) (is.sound.0, is.sound.1, is.sound.2) is.counts))

  -- the word of the place, and what it becomes
  module _ (i : ℕ) (word : word_of w.n row place ≡ Some i) where
    pub there : w.memory place ≡ content_of w.n place (slice_index s.words i)
    there = ap (λ m. m place) is.words.memory ∙ (memory_at w.n row s.words w.begun place (place_shared w.n p c.mine c.stage) ∙ ap (content_of w.n place) (word_here w.n row s.words is.words.wide place i word))

    pub memory_set : (x : ℕ) → content_of w.n place x ≡ effect.content → later.memory ≡ memory_of w.n row (slice_set s.words i x) w.begun
    memory_set x writes = ap (λ m. memory_with m place effect.content) is.words.memory
        ∙ (ap (memory_with (memory_of w.n row s.words w.begun) place) (sym writes)
        ∙ sym (words_written w.n row s.words is.words.wide place i word x w.begun (place_shared w.n p c.mine c.stage)))
