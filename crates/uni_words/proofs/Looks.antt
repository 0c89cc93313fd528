-- The word steps that are no events: reads of settled words.
use Rattle.uni_words.proofs.Vocabulary.{Nothing, Allows, Anchor, Applied, Bool, DecideNew, Finish, Has, HasLooked, HasRead, InvOf, Invocation, IsLocal, IsShown, IsUnderway, Known, Leads, Me, Name, NewOf, None, Of, Option, Reading, Reply, Sequential, ShowsRun, Some, Stage, Stands, State, TellsState, View, WorldOf, [], after_word, ap, arith, cond, false, get_elem?, head_number, inv_of, keeps, linked_call, looked_at, nat_lt, new_of, option_and_then, refl, reply_at, reply_in, response_in, seq_of, settled_at, slice_index, slice_set, some, state_in, subst, suc, sym, true, word_at, word_of, zero, ℕ, ◌<◌, ◌^◌, ◌∙◌, ◌≡◌, ◌≤◌}
use Rattle.uni_words.specs.Execution.Next.{LookInv, LookNew, LookReply}
use Rattle.uni_words.proofs.Ran.{one_step}
use Rattle.atomic_table.specs.Table.{Step}
use Rattle.uni_words.proofs.Locality.{word_here}
use Rattle.uni_words.proofs.Happens.{own_local, knows_more}
use Rattle.uni_words.proofs.Running.{led, no_more, run_stays}

module _ (object : Sequential ℕ ℕ ℕ) (row : ℕ) where
  module _ (w : WorldOf ℕ ℕ ℕ) (s : State ℕ View) (is : IsShown object row w s) where
    -- a call that has begun has the invocation that its word tells
    pub inv_told : (x : Name) (i : ℕ) → word_of w.n row (InvOf x) ≡ Some i → Has (inv_of w.memory x) → inv_of w.memory x ≡ Some (slice_index s.words i)
    inv_told Anchor i word has = absurd (let e : inv_of w.memory Anchor ≡ Some has.0 = has.1 in let none = is.sound.2.calls.anchor in cc)
    inv_told (Of q k) i word has = by_test (nat_lt k (w.begun q)) (ap (λ m. inv_of m (Of q k)) is.words.memory) where
      by_test : (b : Bool) → inv_of w.memory (Of q k) ≡ cond b (Some (word_at w.n row s.words (InvOf (Of q k)))) None → inv_of w.memory (Of q k) ≡ Some (slice_index s.words i)
      by_test true e = e ∙ ap Some (word_here w.n row s.words is.words.wide (InvOf (Of q k)) i word)
      by_test false e = absurd (let g = has.1 in cc)

    -- the state that is settled, as the word tells it
    pub state_told : (x : Name) (i : ℕ) → word_of w.n row (NewOf x) ≡ Some i → Has (new_of w.memory x)
        → (1 ≤ slice_index s.words i) × (new_of w.memory x ≡ Some (state_in (slice_index s.words i), reply_at x (reply_in (slice_index s.words i))))
    state_told x i word has = by_word (slice_index s.words i) (ap (λ m. new_of m x) is.words.memory ∙ ap (settled_at x) (word_here w.n row s.words is.words.wide (NewOf x) i word)) where
      by_word : (u : ℕ) → new_of w.memory x ≡ settled_at x u → (1 ≤ u) × (new_of w.memory x ≡ Some (state_in u, reply_at x (reply_in u)))
      by_word zero e = absurd (let g = has.1 in cc)
      by_word (suc u) e = (omega arith, e)

    module _ (id : ℕ) (v : Known) (at : get_elem? s.views id ≡ some (record { known = v })) (single : v.count ≡ 1) (mine : Name) (stage : Stage)
        (pending : v.its.call ≡ Some (record { mine = mine; stage = stage })) where
      before : IsLocal w v.first v.its
      before = own_local object row w s is id v at single

      pub underway : IsUnderway w.memory (Some (record { mine = mine; stage = stage })) v.its.inv v.its.read
      underway = subst (λ o. IsUnderway w.memory o v.its.inv v.its.read) pending before.underway

      pub stands : Stands w.memory is.sound.0 w.n v.first mine stage
      stands = is.sound.2.stands v.first (record { mine = mine; stage = stage }) (before.call ∙ pending)

      looked_kept : (i : ℕ) (read : Reading) → HasRead w.memory mine stage read
          → IsShown object row w (record { words = slice_set s.words i (slice_index s.words i); homes = s.homes; views = slice_set s.views id (record { known = looked_at v read }) })
      looked_kept i read has =
          knows_more object row w s is id v at single i (looked_at v read) refl refl refl single refl
          (record {
            inside = before.inside;
            call = before.call;
            begun = before.begun;
            steps = before.steps;
            turns = before.turns;
            underway = subst (λ o. IsUnderway w.memory o v.its.inv read) (sym pending) (underway.0, has);
            counted = before.counted;
            own = before.own;
            number = before.number;
          })

      pub looked_leads : (i : ℕ) (read : Reading) → HasRead w.memory mine stage read
          → Leads object row w s [] w (after_word s i (slice_index s.words i) id (looked_at v read))
      looked_leads i read has = record {
        shown = looked_kept i read has;
        run = λ n events run.
            no_more object n events w (slice_set s.views id (record { known = looked_at v read }))
            (run_stays object n row w s is events run id v at single (looked_at v read) refl single refl (run.seen id (record { known = v }) at) refl refl refl);
      }

  pub looks_inv : (n slots id i : ℕ) (me : Me ℕ View) → me.0.known.count ≡ 1 → (mine c d : Name) (c_seq : ℕ) → me.0.known.its.call ≡ Some (record { mine = mine; stage = DecideNew c c_seq d })
      → me.0.known.its.read ≡ Nothing → word_of n row (InvOf d) ≡ Some i
      → Allows (ShowsRun object n row) slots id me i (λ x. x) (λ found me'. HasLooked me (Invocation found) me')
  looks_inv n slots id i me single mine c d c_seq pending fresh word_n s shown deep at small =
      let w : WorldOf ℕ ℕ ℕ = shown.0 in
      let is : IsShown object row w s = shown.2 in
      let word : word_of w.n row (InvOf d) ≡ Some i = subst (λ k. word_of k row (InvOf d) ≡ Some i) (sym shown.1) word_n in
      let h = stands w s is id me.0.known at single mine (DecideNew c c_seq d) pending in
      let own = own_local object row w s is id me.0.known at single in
      let has = linked_call object w is.sound.0 is.sound.1 is.sound.2 me.0.known.first mine (DecideNew c c_seq d) (own.call ∙ pending) c c_seq d h.0 h.1 in (
        record { known = looked_at me.0.known (Invocation (slice_index s.words i)) },
        keeps,
        tt,
        led n shown.1 shown.3 (one_step object n row s id me.0.known (at, single) (LookInv mine c d c_seq pending fresh) i word_n)
            (looked_leads w s is id me.0.known at single mine (DecideNew c c_seq d) pending i (Invocation (slice_index s.words i)) (inv_told w s is d i word has)),
        refl,
      )

  pub looks_new : (n slots id i : ℕ) (me : Me ℕ View) → me.0.known.count ≡ 1 → (mine c d : Name) (c_seq inv : ℕ) → me.0.known.its.call ≡ Some (record { mine = mine; stage = DecideNew c c_seq d })
      → me.0.known.its.read ≡ Invocation inv → word_of n row (NewOf c) ≡ Some i
      → Allows (ShowsRun object n row) slots id me i (λ x. x) (λ found me'. HasLooked me (Applied inv (state_in found)) me' × (state_in found < 2 ^ 31))
  looks_new n slots id i me single mine c d c_seq inv pending read word_n s shown deep at small =
      let w : WorldOf ℕ ℕ ℕ = shown.0 in
      let is : IsShown object row w s = shown.2 in
      let word : word_of w.n row (NewOf c) ≡ Some i = subst (λ k. word_of k row (NewOf c) ≡ Some i) (sym shown.1) word_n in
      let h = stands w s is id me.0.known at single mine (DecideNew c c_seq d) pending in
      let own = own_local object row w s is id me.0.known at single in
      let number = head_number object w is.sound.0 is.sound.1 is.sound.2 me.0.known.first mine (DecideNew c c_seq d) (own.call ∙ pending) c c_seq h.0 in
      let told = state_told w s is c i word (is.sound.2.values.threaded c number.0) in
      let under = underway w s is id me.0.known at single mine (DecideNew c c_seq d) pending in
      let had : inv_of w.memory d ≡ Some inv = subst (λ r. HasRead w.memory mine (DecideNew c c_seq d) r) read under.1 in (
        record { known = looked_at me.0.known (Applied inv (state_in (slice_index s.words i))) },
        keeps,
        tt,
        led n shown.1 shown.3 (one_step object n row s id me.0.known (at, single) (LookNew mine c d c_seq inv pending read) i word_n)
            (looked_leads w s is id me.0.known at single mine (DecideNew c c_seq d) pending i (Applied inv (state_in (slice_index s.words i))) (had, (reply_at c (reply_in (slice_index s.words i)), told.1))),
        (refl, is.words.fits c (state_in (slice_index s.words i), reply_at c (reply_in (slice_index s.words i))) told.1),
      )

  -- the response of a call that stands before its last step
  pub reply_told : (w : WorldOf ℕ ℕ ℕ) (s : State ℕ View) (is : IsShown object row w s)
      (id : ℕ) (v : Known) (at : get_elem? s.views id ≡ some (record { known = v })) (single : v.count ≡ 1) (mine : Name) (c_seq mine_seq : ℕ)
      (pending : v.its.call ≡ Some (record { mine = mine; stage = Finish c_seq mine_seq })) (i : ℕ) → word_of w.n row (NewOf mine) ≡ Some i
      → response_in w.memory mine ≡ Some (reply_in (slice_index s.words i))
  reply_told w s is id v at single mine c_seq mine_seq pending i word =
      let h = stands w s is id v at single mine (Finish c_seq mine_seq) pending in
      let own = own_local object row w s is id v at single in
      let its = is.sound.2.calls.mine v.first (record { mine = mine; stage = Finish c_seq mine_seq }) (own.call ∙ pending) in
      let threaded : 1 ≤ seq_of w.memory mine = subst (λ t. 1 ≤ t) (sym h.2) h.1 in
      let told = state_told w s is mine i word (is.sound.2.values.threaded mine threaded) in
      ap (λ o. option_and_then (λ (new : ℕ × Option ℕ). new.1) o) told.1 ∙ ap (λ x. reply_at x (reply_in (slice_index s.words i))) its.1

  unfoldable pub looks_reply : (n slots id i : ℕ) (me : Me ℕ View) → me.0.known.count ≡ 1 → (mine : Name) (c_seq mine_seq : ℕ) → me.0.known.its.call ≡ Some (record { mine = mine; stage = Finish c_seq mine_seq })
      → c_seq < mine_seq → me.0.known.its.read ≡ Nothing → word_of n row (NewOf mine) ≡ Some i
      → Allows (ShowsRun object n row) slots id me i (λ x. x) (λ found me'. HasLooked me (Reply (reply_in found)) me')
  looks_reply n slots id i me single mine c_seq mine_seq pending later fresh word_n s shown deep at small =
      let word : word_of shown.0.n row (NewOf mine) ≡ Some i = subst (λ k. word_of k row (NewOf mine) ≡ Some i) (sym shown.1) word_n in (
        record { known = looked_at me.0.known (Reply (reply_in (slice_index s.words i))) },
        keeps,
        tt,
        led n shown.1 shown.3 (one_step object n row s id me.0.known (at, single) (LookReply mine c_seq mine_seq pending later fresh) i word_n)
            (looked_leads shown.0 s shown.2 id me.0.known at single mine (Finish c_seq mine_seq) pending i (Reply (reply_in (slice_index s.words i)))
            (reply_told shown.0 s shown.2 id me.0.known at single mine c_seq mine_seq pending i word)),
        refl,
      )

  pub told_state : (n slots id i : ℕ) (st : Step ℕ) (me : Me ℕ View) → me.0.known.count ≡ 1 → (mine c d : Name) (c_seq : ℕ) → me.0.known.its.call ≡ Some (record { mine = mine; stage = DecideNew c c_seq d })
      → (inv : ℕ) → me.0.known.its.read ≡ Invocation inv → word_of n row (NewOf c) ≡ Some i
      → Allows (ShowsRun object n row) slots id me i (λ x. x) (λ found me'. TellsState st me found me')
  unfolding looks_new
  told_state n slots id i st me single mine c d c_seq pending inv read word s shown deep at small =
      let h = looks_new n slots id i me single mine c d c_seq inv pending read word s shown deep at small in (
        h.0,
        h.1,
        h.2,
        h.3,
        λ other e. (let same : inv ≡ other = (let f = sym read ∙ e in cc) in
            subst (λ k. HasLooked me (Applied k (state_in (slice_index s.words i))) (h.0, me.1) × (state_in (slice_index s.words i) < 2 ^ 31)) same h.4),
      )
