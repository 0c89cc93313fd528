-- Every execution from the opening shows a world of the construction, to which its events lead.
use Rattle.uni_words.proofs.Vocabulary.{AreAccepted, WriteBefore, stage_found, looked_at, moved_at, DecideNew, Event, Finish, HeadOf, InvOf, Invocation, Applied, IsShown, Known, None, after_join, after_split, Leads, LeadsTo, List, NewOf, Of, Pending, Place, Reading, Reply, SeqOf, Sequential, Some, Stage, State, Step, View, WorldOf, [], after_word, ap, append-nil, append_assoc, arith, content_after, content_of, either, get_elem?, name_of, opened, place_of, refl, reply_in, settled_word, slice_index, some, state_in, subst, sym, word_of, ℕ, ◌++◌, ◌==◌, ◌∙◌, ◌∷◌, ◌≡◌, ◌≢◌, ◌≤◌}
use Rattle.uni_words.specs.Execution.{Execution, Next, access_of, after_access, events, goes_on, last_state, opened_table}
use Rattle.uni_words.specs.Execution.Next.{Begin, Ask, Move, LookInv, LookNew, Decide, LookReply, StoreEnd, LoadEnd}
use Rattle.uni_words.specs.Execution.Execution.{Ends, Takes, Splits, Joins}
use Rattle.uni_words.specs.Laws.{HasSeat}
use Rattle.uni_words.specs.Linearized.{AreLinearizedStrongly, IsNarrow}
use Rattle.uni_words.proofs.Asking.{asked_leads}
use Rattle.uni_words.proofs.Begins.{begun_leads}
use Rattle.uni_words.proofs.Decides.{decided_fits, decided_writes, either_is}
use Rattle.uni_words.proofs.Ran.{events_more}
use Rattle.uni_words.proofs.Finishes.{loaded_leads, stored_leads}
use Rattle.uni_words.proofs.Happens.{there}
use Rattle.uni_words.proofs.Joining.{join_leads}
use Rattle.uni_words.proofs.LawProofs.{loaded}
use Rattle.uni_words.proofs.Looks.{looked_leads, underway}
use Rattle.uni_words.proofs.Moving.{fits_elsewhere, goes_further, moved_leads}
use Rattle.uni_words.proofs.Opening.{opening_leads, opening_shown}
use Rattle.uni_words.proofs.Splitting.{split_leads}
use Rattle.uni_model.specs.HerlihyWing.{IsWellFormed, of_process}
use Rattle.uni_model.proofs.Linearizable.{observed-history_of}
use Rattle.uni_model.specs.Linearizable.{observed_in}
use Rattle.uni_model.specs.StrongLinearizable.{IsStronglyLinearizable}
use Rattle.uni_words.specs.Shown.{HasRead}
use Rattle.uni_words.proofs.Vocabulary.{Anchor, Content, IsShared, Memory, Name, inv_of, memory_with, ◌<◌, ◌^◌}
use Rattle.uni_words.proofs.Underway.{place_shared}
use Rattle.uni_model.proofs.Written.{inv_of-memory_with}
use Rattle.uni_model.specs.Worlds.{world_after_call, world_after_step}
use Rattle.std.proofs.Common.{inl, inr}

-- all invocations that the memory has are of 64 bits
abbrev AskNarrow : Memory ℕ ℕ ℕ → Type 0
AskNarrow m = (d : Name) (inv : ℕ) → inv_of m d ≡ Some inv → inv < 2 ^ 64

inv_elsewhere : (m : Memory ℕ ℕ ℕ) (place : Place) (u : Content ℕ ℕ ℕ) (x : Name) → IsShared place → inv_of (memory_with m place u) x ≡ inv_of m x
inv_elsewhere m (InvOf y) u x h = absurd h
inv_elsewhere m _ u x h = refl

module _ (object : Sequential ℕ ℕ ℕ) (n row : ℕ) (narrow : IsNarrow object) where
  -- the table shows a world, to which these events lead, and whose invocations have 64 bits
  abbrev pub Holds : List (Event ℕ) → State ℕ View → Type 0
  Holds es s = (w : WorldOf ℕ ℕ ℕ) × (w.n ≡ n) × IsShown object row w s × LeadsTo object n es w s.views × AskNarrow w.memory

  held : (es : List (Event ℕ)) (s : State ℕ View) (h : Holds es s) (more : List (Event ℕ)) (w' : WorldOf ℕ ℕ ℕ) (s' : State ℕ View) → w'.n ≡ n → AskNarrow w'.memory → Leads object row h.0 s more w' s' → Holds (es ++ more) s'
  held es s h more w' s' count narrow_asked leads = (w', count, leads.shown, leads.run n es h.3, narrow_asked)

  -- a step of a pending call leaves all invocations
  stepped : (w : WorldOf ℕ ℕ ℕ) (p : ℕ) (c : Pending) → AskNarrow w.memory → AskNarrow (world_after_step object w p (Some c)).memory
  stepped w p c asked d inv e =
      asked d inv (sym (inv_elsewhere w.memory (place_of w.n p c.mine c.stage) (content_after object c.mine c.stage (w.memory (place_of w.n p c.mine c.stage)) w.memory) d (place_shared w.n p c.mine c.stage)) ∙ e)

  begun : (w : WorldOf ℕ ℕ ℕ) (p inv : ℕ) → inv < 2 ^ 64 → AskNarrow w.memory → AskNarrow (world_after_call w p inv).memory
  begun w p inv fits asked d i e = elim (inv_of-memory_with w.memory (Of p (w.begun p)) d (Some inv)) [
    | inl here ↦ let same : inv ≡ i = (let f = sym here.1 ∙ e in cc) in subst (λ k. k < 2 ^ 64) same fits
    | inr other ↦ asked d i (sym other.1 ∙ e)
  ]

  -- a word that the table has is one of the world's
  word_in : (w : WorldOf ℕ ℕ ℕ) → w.n ≡ n → (place : ℕ → Place) (i : ℕ) → word_of n row (place n) ≡ Some i → word_of w.n row (place w.n) ≡ Some i
  word_in w count place i there = subst (λ k. word_of k row (place k) ≡ Some i) (sym count) there

  -- a load of a settled word
  look_holds : (es : List (Event ℕ)) (s : State ℕ View) (h : Holds es s) (id : ℕ) (v : Known) (seat : HasSeat s id v) (c : Pending) (pending : v.its.call ≡ Some c) (i : ℕ) (read : Reading)
      → HasRead h.0.memory c.mine c.stage read → Holds (es ++ []) (after_word s i (slice_index s.words i) id (looked_at v read))
  look_holds es s h id v seat c pending i read has = held es s h [] h.0 _ h.1 h.4 (looked_leads object row h.0 s h.2 id v seat.0 seat.1 c.mine c.stage pending i read has)

  pub step_holds : (es : List (Event ℕ)) (s : State ℕ View) → Holds es s → (id : ℕ) (v : Known) → HasSeat s id v → (next : Next object n row v) (i : ℕ) → word_of n row (access_of object n row v next).place ≡ Some i
      → Holds (es ++ (access_of object n row v next).events) (after_access object n row s id i (access_of object n row v next))
  step_holds es s h id v seat (Begin inv fits idle room) i at =
      held es s h _ _ _ h.1 (begun h.0 v.first inv fits h.4) (begun_leads object row h.0 s h.2 id v seat.0 seat.1 idle room i (word_in h.0 h.1 (λ k. InvOf (Of v.first v.its.begun)) i at) inv)
  step_holds es s h id v seat (Ask call idle) i at =
      held es s h _ _ _ h.1 h.4 (asked_leads object row h.0 s h.2 id v seat.0 seat.1 idle call i (word_in h.0 h.1 (λ k. SeqOf (Of call.process call.nth)) i at))
  step_holds es s h id v seat (Move c becomes pending plain leaves) i at =
      let w = h.0 in
      let is = h.2 in
      let found = slice_index s.words i in
      let word = word_in w h.1 (λ k. place_of k v.first c.mine c.stage) i at in
      let on = goes_further v.n v.first c.mine c.stage found plain in
      let writes : content_of w.n (place_of w.n v.first c.mine c.stage) (becomes found) ≡ content_after object c.mine c.stage (w.memory (place_of w.n v.first c.mine c.stage)) w.memory
      = subst (λ k. content_of k (place_of k v.first c.mine c.stage) (becomes found) ≡ content_after object c.mine c.stage (content_of k (place_of k v.first c.mine c.stage) found) w.memory) (sym h.1) (leaves found w.memory)
      ∙ ap (λ u. content_after object c.mine c.stage u w.memory) (sym (there object row w s is id v seat.0 seat.1 c pending i word)) in
      held es s h _ _ _ h.1 (stepped w v.first c h.4) (moved_leads object row w s is id v seat.0 seat.1 c pending i word on (becomes found) writes (fits_elsewhere object row w s is id v seat.0 seat.1 c pending i word on (becomes found) writes plain))
  step_holds es s h id v seat (LookInv mine c d c_seq pending fresh) i at =
      look_holds es s h id v seat (record { mine = mine; stage = DecideNew c c_seq d }) pending i (Invocation (slice_index s.words i))
      (loaded object row h.0 s id v h.2 seat.0 seat.1 mine (DecideNew c c_seq d) pending i (Invocation (slice_index s.words i)) (word_in h.0 h.1 (λ k. InvOf d) i at, refl))
  step_holds es s h id v seat (LookNew mine c d c_seq inv pending read) i at =
      look_holds es s h id v seat (record { mine = mine; stage = DecideNew c c_seq d }) pending i (Applied inv (state_in (slice_index s.words i)))
      (loaded object row h.0 s id v h.2 seat.0 seat.1 mine (DecideNew c c_seq d) pending i (Applied inv (state_in (slice_index s.words i))) (word_in h.0 h.1 (λ k. NewOf c) i at, read, refl))
  step_holds es s h id v seat (Decide mine c d c_seq inv state pending read) i at =
      let w = h.0 in
      let is = h.2 in
      let found = slice_index s.words i in
      let call : Pending = record { mine = mine; stage = DecideNew c c_seq d } in
      let word = word_in w h.1 (λ k. NewOf d) i at in
      let had : HasRead w.memory mine (DecideNew c c_seq d) (Applied inv state) = subst (λ r. HasRead w.memory mine (DecideNew c c_seq d) r) read (underway object row w s is id v seat.0 seat.1 mine (DecideNew c c_seq d) pending).1 in
      let small = narrow.1 state inv (is.words.fits c (state, had.1.0) had.1.1) (h.4 d inv had.0) in
      let on : (k : Stage) × (stage_found v.n v.first mine (DecideNew c c_seq d) found ≡ Some k) = (WriteBefore c c_seq d, refl) in
      let x : ℕ = either (found == 0) (settled_word (object.next state inv) (object.answer state inv)) found in
      let writes = decided_writes object row w s is id v seat.0 seat.1 mine c d c_seq inv state pending read small.1 i word in
      subst (λ y. Holds (es ++ Step v.first ∷ []) (after_word s i y id (moved_at v call found))) (either_is (found == 0) (settled_word (object.next state inv) (object.answer state inv)) found)
      (held es s h _ _ _ h.1 (stepped w v.first call h.4) (moved_leads object row w s is id v seat.0 seat.1 call pending i word on x writes (decided_fits object row w s is id v seat.0 seat.1 mine c d c_seq inv state pending read small.1 i word small.0)))
  step_holds es s h id v seat (LookReply mine c_seq mine_seq pending later fresh) i at =
      look_holds es s h id v seat (record { mine = mine; stage = Finish c_seq mine_seq }) pending i (Reply (reply_in (slice_index s.words i)))
      (loaded object row h.0 s id v h.2 seat.0 seat.1 mine (Finish c_seq mine_seq) pending i (Reply (reply_in (slice_index s.words i))) (word_in h.0 h.1 (λ k. NewOf mine) i at, refl))
  step_holds es s h id v seat (StoreEnd mine c_seq mine_seq reply x pending later read named) i at =
      held es s h _ _ _ h.1 (stepped h.0 v.first (record { mine = mine; stage = Finish c_seq mine_seq }) h.4) (stored_leads object row h.0 s h.2 id v seat.0 seat.1 mine c_seq mine_seq pending later i x (word_in h.0 h.1 (λ k. HeadOf v.first) i at) (subst (λ k. name_of k x ≡ mine) (sym h.1) named) reply read)
  step_holds es s h id v seat (LoadEnd mine c_seq mine_seq pending less fresh) i at =
      held es s h _ _ _ h.1 (stepped h.0 v.first (record { mine = mine; stage = Finish c_seq mine_seq }) h.4) (loaded_leads object row h.0 s h.2 id v seat.0 seat.1 mine c_seq mine_seq pending less i (word_in h.0 h.1 (λ k. NewOf mine) i at))

  -- a seat is cut in two, or takes in another one
  pub split_holds : (es : List (Event ℕ)) (s : State ℕ View) → Holds es s → (id : ℕ) (v : View) → get_elem? s.views id ≡ some v → 1 ≤ v.known.count → Holds es (after_split s id v)
  split_holds es s h id v at some_left = subst (λ more. Holds more (after_split s id v)) (append-nil es) (held es s h [] h.0 _ h.1 h.4 (split_leads object row id v some_left h.0 s h.2 at))

  pub join_holds : (es : List (Event ℕ)) (s : State ℕ View) → Holds es s → (id : ℕ) (v : View) (other : ℕ) (x : View) → get_elem? s.views id ≡ some v → get_elem? s.views other ≡ some x → other ≢ id
      → 1 ≤ v.known.count → v.known.its.call ≡ None → x.known.count ≡ 1 → x.known.its.call ≡ None → Holds es (after_join s id v other x)
  join_holds es s h id v other x at at_other apart some_left idle single its_idle =
      subst (λ more. Holds more (after_join s id v other x)) (append-nil es) (held es s h [] h.0 _ h.1 h.4 (join_leads object row id v some_left idle other x single its_idle h.0 s h.2 at apart at_other))

  -- and so does an execution
  pub all_hold : (es : List (Event ℕ)) {s : State ℕ View} → Holds es s → (e : Execution object n row s) → Holds (es ++ events object n row e) (last_state object n row e)
  all_hold es {s = s} h Ends = subst (λ more. Holds more s) (sym (append-nil es)) h
  all_hold es {s = s} h (Takes id v seat next word at rest) =
      let a = access_of object n row v next in
      subst (λ more. Holds more (last_state object n row rest)) (append_assoc es a.events (events object n row rest)) (all_hold (es ++ a.events) (step_holds es s h id v seat next word at) rest)
  all_hold es {s = s} h (Splits id v at some_left rest) = all_hold es (split_holds es s h id v at some_left) rest
  all_hold es {s = s} h (Joins id v other x at at_other apart some_left idle single its_idle rest) =
      all_hold es (join_holds es s h id v other x at at_other apart some_left idle single its_idle) rest

  none_asked : AskNarrow (opened object n).memory
  none_asked Anchor inv e = absurd (let f : None ≡ Some inv = e in cc)
  none_asked (Of p k) inv e = absurd (let f : None ≡ Some inv = e in cc)

  pub opening_holds : Holds [] (opened_table object n row)
  opening_holds = (opened object n, refl, opening_shown object n row narrow.0, opening_leads object n row narrow.0, none_asked)

  pub end_holds : (e : Execution object n row (opened_table object n row)) → Holds (events object n row e) (last_state object n row e)
  end_holds e = all_hold [] opening_holds e

  pub are_strongly : IsStronglyLinearizable object n object.initial 1 → ((es : List (Event ℕ)) → AreAccepted object (opened object n) es → IsWellFormed (observed_in object (opened object n) es))
      → AreLinearizedStrongly object n row
  are_strongly strongly formed =
      let function = strongly (omega arith) in record {
        order = function.0;
        linearized = λ e. let h = end_holds e in record {
          accepted = h.3.accepted;
          one_era = h.3.one_era;
          well_formed = formed (events object n row e) h.3.accepted;
          completed = function.1.linearizes (events object n row e) h.3.accepted;
          told = λ id v at p among. ap (of_process p) (sym (observed-history_of object (opened object n) (events object n row e))) ∙ h.3.acts id v at p among;
          told_taken = λ id v at its in_it. ap (of_process its.process) (sym (observed-history_of object (opened object n) (events object n row e))) ∙ h.3.taken id v at its in_it;
        };
        keeps_order = λ e more.
            let both : events object n row (goes_on object n row e more) ≡ events object n row e ++ events object n row more = events_more object n row e more in
            let kept = function.1.keeps_order (events object n row e) (events object n row more) (subst (λ es. AreAccepted object (opened object n) es) both (end_holds (goes_on object n row e more)).3.accepted) in
            (kept.0, ap function.0 both ∙ kept.1);
      }
