-- The word steps that are events, all but those of `new` and of the last step of a call.
use Rattle.uni_words.proofs.Vocabulary.{Allows, Content, DecideNew, Effect, Finish, Grows, HasMoved, IsCounted-pending, IsLocal, IsShown, IsUnderway, IsWithin, Known, Leads, List, Me, Memory, Moved, Name, NewOf, None, Nothing, Of, Option, Pending, Place, Sequential, ShowsRun, Some, Stage, State, Step, View, WorldOf, [], after_word, ap, arith, at_its_cell, call_after, content_after, content_of, get_elem?, get_or-set_same, keeps, length, length-set, memory_with, moved_at, new_of, pending_count, place_of, refl, response_after, set_at_same, slice_index, slice_set, some, stage_after, stage_found, subst, sym, turn_of, turns_bounded, word_of, ℕ, ◌+◌, ◌<◌, ◌^◌, ◌∙◌, ◌∷◌, ◌≡◌, ◌≤◌}
use Rattle.uni_words.specs.Execution.Next.{Move}
use Rattle.uni_words.proofs.Ran.{one_step}
use Rattle.atomic_table.specs.Table as table
use Rattle.uni_words.specs.Execution.{IsPlain}
use Rattle.uni_words.proofs.Columns.{word_below}
use Rattle.uni_words.proofs.Underway.{HasOutcome-grows, last_number-grows}
use Rattle.uni_words.proofs.Within.{within}
use Rattle.uni_words.proofs.Running.{led, run_moves}
use Rattle.uni_words.proofs.Happens.{own_call, own_local, effect, there, memory_set, memory_grows, later, kept}

abbrev IsNotNew : Place → Type 0
IsNotNew (NewOf x) = ⊥
IsNotNew _ = Unit {0}

new_elsewhere : (m : Memory ℕ ℕ ℕ) (place : Place) (u : Content ℕ ℕ ℕ) (x : Name) → IsNotNew place → new_of (memory_with m place u) x ≡ new_of m x
new_elsewhere m (NewOf y) u x h = absurd h
new_elsewhere m _ u x h = refl

not_new : (n p : ℕ) (mine : Name) (stage : Stage) → IsPlain stage → IsNotNew (place_of n p mine stage)
not_new n p mine (DecideNew c s d) h = absurd h
not_new n p mine (Finish s t) h = absurd h
not_new n p mine _ h = tt

pub goes_further : (n p : ℕ) (mine : Name) (stage : Stage) (found : ℕ) → IsPlain stage → (k : Stage) × (stage_found n p mine stage found ≡ Some k)
goes_further n p mine (DecideNew c s d) found h = absurd h
goes_further n p mine (Finish s t) found h = absurd h
goes_further n p mine _ found h = (_, refl)

-- a step after which the call goes on has no response
silent : (n p : ℕ) (mine : Name) (stage : Stage) (found : ℕ) (next : Stage) (seen : Memory ℕ ℕ ℕ) → stage_found n p mine stage found ≡ Some next → response_after mine stage seen ≡ None
silent n p mine (Finish s t) found next seen on = absurd (let none : None ≡ Some next = on in cc)
silent n p mine _ found next seen on = refl

module _ (object : Sequential ℕ ℕ ℕ) (row : ℕ) where
  -- a step after which the call goes on, whatever the word of its place becomes
  module _ (w : WorldOf ℕ ℕ ℕ) (s : State ℕ View) (is : IsShown object row w s)
      (id : ℕ) (v : Known) (at : get_elem? s.views id ≡ some (record { known = v })) (single : v.count ≡ 1) (c : Pending) (pending : v.its.call ≡ Some c)
      (i : ℕ) (word : word_of w.n row (place_of w.n v.first c.mine c.stage) ≡ Some i)
      (on : (k : Stage) × (stage_found v.n v.first c.mine c.stage (slice_index s.words i) ≡ Some k)) where
    abbrev place : Place
    place = place_of w.n v.first c.mine c.stage

    abbrev found : ℕ
    found = slice_index s.words i

    abbrev does : Effect ℕ ℕ ℕ
    does = effect object row w s is id v at single c pending

    abbrev after : WorldOf ℕ ℕ ℕ
    after = later object row w s is id v at single c pending

    is_there : w.memory place ≡ content_of w.n place found
    is_there = there object row w s is id v at single c pending i word

    processes : v.n ≡ w.n
    processes = (is.seats.each id (record { known = v }) at).processes (let one = single in omega arith)

    stage_is : does.stage ≡ stage_found v.n v.first c.mine c.stage found
    stage_is = ap (stage_after w.n c.mine c.stage) is_there ∙ ap (λ k. stage_found k v.first c.mine c.stage found) (sym processes)

    turn_is : turn_of c.stage (w.memory place) ≡ turn_of c.stage (content_of v.n (place_of v.n v.first c.mine c.stage) found)
    turn_is = ap (turn_of c.stage) is_there ∙ ap (λ k. turn_of c.stage (content_of k (place_of k v.first c.mine c.stage) found)) (sym processes)

    before : IsLocal w v.first v.its
    before = own_local object row w s is id v at single

    grows : Grows w.memory after.memory
    grows = memory_grows object row w s is id v at single c pending

    tells : IsLocal after v.first (moved_at v c found).its
    tells =
        let underway : IsUnderway w.memory (Some c) v.its.inv v.its.read = subst (λ o. IsUnderway w.memory o v.its.inv v.its.read) pending before.underway in
        let counted : v.its.begun ≡ length v.its.own + pending_count (Some c) = subst (λ o. v.its.begun ≡ length v.its.own + pending_count o) pending before.counted in
        record {
          inside = before.inside;
          call = set_at_same w.call v.first (call_after c.mine does.stage) ∙ ap (call_after c.mine) stage_is;
          begun = before.begun;
          steps = set_at_same w.steps v.first (w.steps v.first + 1) ∙ ap (λ k. k + 1) before.steps;
          turns = set_at_same w.turns v.first (w.turns v.first + turn_of c.stage (w.memory place))
              ∙ ap (λ k. k + turn_of c.stage (w.memory place)) before.turns ∙ ap (λ k. v.its.turns + k) turn_is;
          underway = subst (λ o. IsUnderway after.memory (call_after c.mine o) v.its.inv Nothing) (sym on.1) (grows.inv c.mine v.its.inv underway.0, tt);
          counted = subst (λ o. v.its.begun ≡ length v.its.own + pending_count (call_after c.mine o)) (sym on.1) counted;
          own = λ k call e. HasOutcome-grows w.memory after.memory grows (Of v.first k) call.0 call.1 (before.own k call e);
          number = before.number ∙ sym (last_number-grows w.memory after.memory grows v.first v.its.own before.own);
        }

    module _ (x : ℕ) (writes : content_of w.n place x ≡ does.content) where
      pub moved_kept : ((y : Name) (u : ℕ × Option ℕ) → new_of after.memory y ≡ Some u → u.0 < 2 ^ 31)
          → IsShown object row after (record { words = slice_set s.words i x; homes = s.homes; views = slice_set s.views id (record { known = moved_at v c found }) })
      moved_kept fits = kept object row w s is id v at single c pending (slice_set s.words i x) (length-set s.words i x)
          (memory_set object row w s is id v at single c pending i word x writes) (moved_at v c found) processes
          ((is.seats.each id (record { known = v }) at).calls (let one = single in omega arith)) refl single refl tells fits

      pub moved_leads : ((y : Name) (u : ℕ × Option ℕ) → new_of after.memory y ≡ Some u → u.0 < 2 ^ 31)
          → Leads object row w s (Step v.first ∷ []) after (after_word s i x id (moved_at v c found))
      moved_leads fits = record {
        shown = moved_kept fits;
        run = λ n events run.
            run_moves object n row w s is events run id v at single c pending (silent v.n v.first c.mine c.stage found on.0 w.memory on.1)
            (record { mine = c.mine; stage = on.0 }) (moved_at v c found) refl single refl refl refl refl (ap (call_after c.mine) on.1);
      }

      -- where the step doesn't touch `new`
      pub fits_elsewhere : IsPlain c.stage → (y : Name) (u : ℕ × Option ℕ) → new_of after.memory y ≡ Some u → u.0 < 2 ^ 31
      fits_elsewhere goes y u e = is.words.fits y u (sym (new_elsewhere w.memory place does.content y (not_new w.n v.first c.mine c.stage goes)) ∙ e)

      -- what the step tells the seat, of what it found
      pub moved_told : (said : ℕ) → (shown : IsShown object row after (record { words = slice_set s.words i x; homes = s.homes; views = slice_set s.views id (record { known = moved_at v c found }) }))
          → (carried : List (ℕ × ℕ)) → moved_at v c found ≡ moved_at v c said → IsWithin w.n row place said
          → HasMoved (record { known = v }, carried) c said (record { known = moved_at v c found }, carried)
      moved_told said shown carried same small =
          let v' : Known = moved_at v c found in
          let told = is.seats.each id (record { known = v }) at in
          let few : after.turns v.first ≤ w.n + 1 = subst (λ k. after.turns v.first ≤ k + 1) (IsCounted-pending w is.counts v.first c (own_call object row w s is id v at single c pending)).0 (turns_bounded object after shown.counts shown.sound v.first) in
          record {
            view = ap (λ (k : Known). (record { known = k }, carried)) same;
            within = subst (λ k. IsWithin k v.row (place_of k v.first c.mine c.stage) said) (sym (told.processes (let one = single in omega arith)))
                (subst (λ r. IsWithin w.n r (place_of w.n v.first c.mine c.stage) said) (sym (told.calls (let one = single in omega arith))) small);
            turns = subst (λ k. v'.its.turns ≤ k + 1) (sym (told.processes (let one = single in omega arith))) (subst (λ t. t ≤ w.n + 1) tells.turns few);
            own_cell = λ s t ends many. (at_its_cell object after shown.sound v.first c.mine s t (tells.call ∙ ends) (tells.turns ∙ many ∙ ap (λ k. k + 1) (told.processes (let one = single in omega arith)))).1;
          }

  -- The seat may take the step, by which the word becomes f of what it was, and it is told so of what it found.
  pub moves : (n slots id i : ℕ) (st : table.Step ℕ) (me : Me ℕ View) (f said : ℕ → ℕ) → me.0.known.count ≡ 1 → (c : Pending) → me.0.known.its.call ≡ Some c → IsPlain c.stage
      → word_of n row (place_of n me.0.known.first c.mine c.stage) ≡ Some i
      → ((found : ℕ) (seen : Memory ℕ ℕ ℕ) → content_of n (place_of n me.0.known.first c.mine c.stage) (f found)
      ≡ content_after object c.mine c.stage (content_of n (place_of n me.0.known.first c.mine c.stage) found) seen)
      → ((found : ℕ) → moved_at me.0.known c found ≡ moved_at me.0.known c (said found))
      → ((found : ℕ) → IsWithin n row (place_of n me.0.known.first c.mine c.stage) found → IsWithin n row (place_of n me.0.known.first c.mine c.stage) (f found) → IsWithin n row (place_of n me.0.known.first c.mine c.stage) (said found))
      → Allows (ShowsRun object n row) slots id me i f (λ found me'. Moved st me (said found) me')
  moves n slots id i st me f said single c pending goes word_n writes_n same small_n s shown deep at fits =
      let w : WorldOf ℕ ℕ ℕ = shown.0 in
      let is : IsShown object row w s = shown.2 in
      let found : ℕ = slice_index s.words i in
      let v : Known = me.0.known in
      let seen : Memory ℕ ℕ ℕ = w.memory in
      let place : Place = place_of w.n v.first c.mine c.stage in
      let word : word_of w.n row place ≡ Some i = subst (λ k. word_of k row (place_of k v.first c.mine c.stage) ≡ Some i) (sym shown.1) word_n in
      let writes : content_of w.n place (f found) ≡ content_after object c.mine c.stage (content_of w.n place found) seen
      = subst (λ k. content_of k (place_of k v.first c.mine c.stage) (f found) ≡ content_after object c.mine c.stage (content_of k (place_of k v.first c.mine c.stage) found) seen) (sym shown.1) (writes_n found seen) in
      let small : IsWithin w.n row place found → IsWithin w.n row place (f found) → IsWithin w.n row place (said found)
      = subst (λ k. IsWithin k row (place_of k v.first c.mine c.stage) found → IsWithin k row (place_of k v.first c.mine c.stage) (f found) → IsWithin k row (place_of k v.first c.mine c.stage) (said found)) (sym shown.1) (small_n found) in
      let on = goes_further v.n v.first c.mine c.stage found goes in
      let writes_it : content_of w.n place (f found) ≡ (effect object row w s is id v at single c pending).content
      = writes ∙ ap (λ u. content_after object c.mine c.stage u seen) (sym (there object row w s is id v at single c pending i word)) in
      let leads : Leads object row w s (Step v.first ∷ []) (later object row w s is id v at single c pending) (after_word s i (f found) id (moved_at v c found))
      = moved_leads w s is id v at single c pending i word on (f found) writes_it (fits_elsewhere w s is id v at single c pending i word on (f found) writes_it goes) in
      let moved = moved_told w s is id v at single c pending i word on (f found) writes_it (said found) leads.shown me.1 (same found) (small (within object row w s is place i word)
      (subst (λ x. IsWithin w.n row place x) (get_or-set_same s.words i (f found) 0 (subst (λ l. i < l) (sym is.words.wide) (word_below w.n row place i word)))
      (within object row (later object row w s is id v at single c pending) (after_word s i (f found) id (moved_at v c found)) leads.shown place i word))) in (
        record { known = moved_at v c found },
        keeps,
        tt,
        led n shown.1 shown.3 (one_step object n row s id v (at, single) (Move c f pending goes writes_n) i word_n) leads,
        λ d other. (let e : c ≡ d = (let g = sym pending ∙ other in cc) in subst (λ (k : Pending). HasMoved me k (said found) (record { known = moved_at v c found }, me.1)) e moved),
      )
