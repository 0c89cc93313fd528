-- The last step of a call.
use Rattle.uni_words.proofs.Vocabulary.{Nothing, Allows, CellName, Content, Finish, Grows, HasFinished, HasOutcome, HasRead, HeadOf, IsLocal, IsShown, Known, Leads, List, Me, Name, NewOf, None, Of, Option, Pending, Reply, Sequential, ShowsRun, Some, State, Step, TellsReply, View, WorldOf, [], after_word, ap, arith, content_of, finished_by, get_elem?, inl, inr, keeps, last_number, length, length-append, length-set, lt_cases, memory_of, memory_with, name_of, number_of, pending_count, refl, reply_in, response_in, seq_of, set-get_or, set_at_same, slice_get, slice_index, slice_set, some, subst, suc, sym, word_of, written_same, zero, ℕ, ◌++◌, ◌+◌, ◌<◌, ◌∙◌, ◌∷◌, ◌≡◌, ◌≤◌, ◌⊎◌}
use Rattle.uni_words.specs.Execution.Next.{LoadEnd, StoreEnd}
use Rattle.uni_words.proofs.Ran.{one_step}
use Rattle.atomic_table.specs.Table as table
use Rattle.uni_words.proofs.Underway.{HasOutcome-grows, there_below}
use Rattle.uni_words.proofs.Happens.{own_local, effect, later, memory_grows, memory_set, kept}
use Rattle.uni_words.proofs.Running.{led, run_ends}
use Rattle.uni_words.proofs.Looks.{stands, underway, reply_told, looks_reply}

pub last_of_list : {A : Type 0} (xs : List A) (x : A) (j : ℕ) (y : A) → slice_get (xs ++ x ∷ []) j ≡ Some y → (slice_get xs j ≡ Some y) ⊎ ((j ≡ length xs) × (x ≡ y))
last_of_list [] x zero y e = inr (refl, (let f : Some x ≡ Some y = e in cc))
last_of_list [] x (suc j) y e = absurd (let f : None ≡ Some y = e in cc)
last_of_list (z ∷ zs) x zero y e = inl e
last_of_list (z ∷ zs) x (suc j) y e = elim (last_of_list zs x j y e) [ inl h ↦ inl h | inr h ↦ inr (ap suc h.0, h.1) ]

abbrev some_call : Pending → Option Pending
some_call c = Some c

one_finish : (x y : Name) (a b c d : ℕ) → some_call (record { mine = x; stage = Finish a b }) ≡ some_call (record { mine = y; stage = Finish c d }) → (a ≡ c) × (b ≡ d)
one_finish x y a b c d e =
    let call : record { mine = x; stage = Finish a b } ≡ record { mine = y; stage = Finish c d } = cc in
    let stage : Finish a b ≡ Finish c d = ap (λ (k : Pending). k.stage) call in
    (first stage, second stage) where
      first : Finish a b ≡ Finish c d → a ≡ c
      first f = cc

      second : Finish a b ≡ Finish c d → b ≡ d
      second f = cc

module _ (object : Sequential ℕ ℕ ℕ) (row : ℕ) where
  -- the words afterwards show the memory after the last step
  module _ (w : WorldOf ℕ ℕ ℕ) (s : State ℕ View) (is : IsShown object row w s)
      (id : ℕ) (v : Known) (at : get_elem? s.views id ≡ some (record { known = v })) (single : v.count ≡ 1) (mine : Name) (c_seq mine_seq : ℕ)
      (pending : v.its.call ≡ Some (record { mine = mine; stage = Finish c_seq mine_seq })) where
    abbrev call : Pending
    call = record { mine = mine; stage = Finish c_seq mine_seq }

    abbrev pub last_content : Content ℕ ℕ ℕ
    last_content = (effect object row w s is id v at single call pending).content

    abbrev pub ended : WorldOf ℕ ℕ ℕ
    ended = later object row w s is id v at single call pending

    before : IsLocal w v.first v.its
    before = own_local object row w s is id v at single

    counted : v.its.begun ≡ length v.its.own + 1
    counted = subst (λ o. v.its.begun ≡ length v.its.own + pending_count o) pending before.counted

    -- the call that returns is the next one of the seat's own
    mine_is : mine ≡ Of v.first (length v.its.own)
    mine_is =
        let its = is.sound.2.calls.mine v.first call (before.call ∙ pending) in
        let same : its.0 ≡ length v.its.own = (let a = its.2 in let b = before.begun in let d = counted in omega arith) in
        its.1 ∙ ap (Of v.first) same

    -- its number is above that of the call before
    pub rises : v.its.number < number_of v.its.call
    rises =
        let h = stands object row w s is id v at single mine (Finish c_seq mine_seq) pending in
        subst (λ o. v.its.number < number_of o) (sym pending) (subst (λ k. k < mine_seq) (sym before.number) (by_count h.1 (subst (λ t. 1 ≤ t) (sym h.2) h.1) h.2 (length v.its.own) refl)) where
          by_count : 1 ≤ mine_seq → 1 ≤ seq_of w.memory mine → seq_of w.memory mine ≡ mine_seq → (k : ℕ) → length v.its.own ≡ k → last_number w.memory v.first k < mine_seq
          by_count some_number threaded is_number zero e = omega (arith, some_number)
          by_count some_number threaded is_number (suc k) e =
              let c = there_below v.its.own k (omega (arith, e)) in
              let early = (before.own k c.0 c.1).threaded in
              let here : mine ≡ Of v.first (suc k) = mine_is ∙ ap (Of v.first) e in
              let late : 1 ≤ seq_of w.memory (Of v.first (suc k)) = subst (λ x. 1 ≤ seq_of w.memory x) here threaded in
              let number : seq_of w.memory (Of v.first (suc k)) ≡ mine_seq = ap (seq_of w.memory) (sym here) ∙ is_number in
              let early_num = is.sound.2.numbered.seq (Of v.first k) early in
              let late_num = is.sound.2.numbered.seq (Of v.first (suc k)) late in
              let order = is.sound.2.calls.order v.first k (suc k) (omega arith) (omega arith) (omega arith) in
              omega arith

    module _ (words' : List ℕ) (long : length words' ≡ length s.words) (memory_is : ended.memory ≡ memory_of w.n row words' w.begun)
        (stores reply : ℕ) (replied : response_in w.memory mine ≡ Some reply) where
      grows : Grows w.memory ended.memory
      grows = memory_grows object row w s is id v at single call pending

      returned : HasOutcome ended.memory (Of v.first (length v.its.own)) v.its.inv reply
      returned =
          let h = stands object row w s is id v at single mine (Finish c_seq mine_seq) pending in
          let under = underway object row w s is id v at single mine (Finish c_seq mine_seq) pending in
          let was : HasOutcome w.memory mine v.its.inv reply = record { inv_is = under.0; threaded = subst (λ t. 1 ≤ t) (sym h.2) h.1; reply_is = replied } in
          subst (λ x. HasOutcome ended.memory x v.its.inv reply) mine_is (HasOutcome-grows w.memory ended.memory grows mine v.its.inv reply was)

      tells : IsLocal ended v.first (finished_by v stores reply).its
      tells = record {
        inside = before.inside;
        call = set_at_same w.call v.first None;
        begun = before.begun;
        steps = set_at_same w.steps v.first (w.steps v.first + 1) ∙ ap (λ k. k + 1) before.steps;
        turns = set_at_same w.turns v.first (w.turns v.first + 0) ∙ (let t = before.turns in omega arith);
        underway = tt;
        counted = (let l : length (v.its.own ++ (v.its.inv, reply) ∷ []) ≡ length v.its.own + 1 = length-append v.its.own ((v.its.inv, reply) ∷ []) in let d = counted in omega arith);
        own = λ k c e. elim (last_of_list v.its.own (v.its.inv, reply) k c e) [
          | inl old ↦ HasOutcome-grows w.memory ended.memory grows (Of v.first k) c.0 c.1 (before.own k c old)
          | inr new ↦ subst (λ (y : ℕ × ℕ). HasOutcome ended.memory (Of v.first k) y.0 y.1) new.1 (subst (λ j. HasOutcome ended.memory (Of v.first j) v.its.inv reply) (sym new.0) returned)
        ];
        number =
            let h = stands object row w s is id v at single mine (Finish c_seq mine_seq) pending in
            let is_last : length v.its.own + 1 ≡ length (v.its.own ++ (v.its.inv, reply) ∷ []) = sym (length-append v.its.own ((v.its.inv, reply) ∷ [])) in
            let next : suc (length v.its.own) ≡ length (v.its.own ++ (v.its.inv, reply) ∷ []) = omega (arith, is_last) in
            let was : 1 ≤ seq_of w.memory (Of v.first (length v.its.own)) = subst (λ x. 1 ≤ seq_of w.memory x) mine_is (subst (λ t. 1 ≤ t) (sym h.2) h.1) in
            ap number_of pending ∙ (sym h.2 ∙ (ap (seq_of w.memory) mine_is ∙ (sym (grows.seq (Of v.first (length v.its.own)) was) ∙ ap (last_number ended.memory v.first) next)));
      }

      pub finished_leads : Leads object row w s (Step v.first ∷ []) ended (record { words = words'; homes = s.homes; views = slice_set s.views id (record { known = finished_by v stores reply }) })
      finished_leads = record {
        shown = kept object row w s is id v at single call pending words' long memory_is (finished_by v stores reply)
            ((is.seats.each id (record { known = v }) at).processes (let one = single in omega arith)) ((is.seats.each id (record { known = v }) at).calls (let one = single in omega arith)) refl single refl tells is.words.fits;
        run = λ n events run.
            run_ends object n row w s is events run id v at single call pending reply replied mine_is (underway object row w s is id v at single mine (Finish c_seq mine_seq) pending).0
            (finished_by v stores reply) refl single refl refl refl refl;
      }

    -- the reply that was read
    pub reply_had : (reply : ℕ) → v.its.read ≡ Reply reply → response_in w.memory mine ≡ Some reply
    reply_had reply read = subst (λ r. HasRead w.memory mine (Finish c_seq mine_seq) r) read (underway object row w s is id v at single mine (Finish c_seq mine_seq) pending).1

    -- by a store of the head, after the reply was read
    pub stored_leads : c_seq < mine_seq → (i x : ℕ) → word_of w.n row (HeadOf v.first) ≡ Some i → name_of w.n x ≡ mine → (reply : ℕ) → v.its.read ≡ Reply reply
        → Leads object row w s (Step v.first ∷ []) ended (after_word s i x id (finished_by v 1 reply))
    stored_leads less i x word named reply read =
        let writes : content_of w.n (HeadOf v.first) x ≡ last_content
        = elim (lt_cases c_seq mine_seq) [ inl a ↦ rw a.1 (ap CellName named) | inr a ↦ absurd (let h = a.0 in omega arith) ] in
        finished_leads (slice_set s.words i x) (length-set s.words i x) (memory_set object row w s is id v at single call pending i word x writes) 1 reply (reply_had reply read)

    -- by the load of the reply, where the head stays
    pub loaded_leads : mine_seq ≤ c_seq → (i : ℕ) → word_of w.n row (NewOf mine) ≡ Some i
        → Leads object row w s (Step v.first ∷ []) ended (after_word s i (slice_index s.words i) id (finished_by v 0 (reply_in (slice_index s.words i))))
    loaded_leads more i word =
        let found : ℕ = slice_index s.words i in
        let stays : last_content ≡ w.memory (HeadOf v.first)
        = elim (lt_cases c_seq mine_seq) [ inl a ↦ absurd (let h = a.0 in omega arith) | inr a ↦ rw a.1 refl ] in
        let same : slice_set s.words i found ≡ s.words = set-get_or s.words i 0 in
        let memory_is : ended.memory ≡ memory_of w.n row (slice_set s.words i found) w.begun
        = ap (memory_with w.memory (HeadOf v.first)) stays ∙ (written_same w.memory (HeadOf v.first) ∙ (is.words.memory ∙ ap (λ ws. memory_of w.n row ws w.begun) (sym same))) in
        finished_leads (slice_set s.words i found) (length-set s.words i found) memory_is 0 (reply_in found) (reply_told object row w s is id v at single mine c_seq mine_seq pending i word)

  pub ends : (n slots id i : ℕ) (me : Me ℕ View) → me.0.known.count ≡ 1 → (mine c_seq mine_seq reply : ℕ)
      → me.0.known.its.call ≡ Some (record { mine = name_of n mine; stage = Finish c_seq mine_seq }) → me.0.known.its.read ≡ Reply reply → c_seq < mine_seq → word_of n row (HeadOf me.0.known.first) ≡ Some i
      → Allows (ShowsRun object n row) slots id me i (λ x. mine) (λ found me'. (other : ℕ) → me.0.known.its.read ≡ Reply other → HasFinished me 1 other me')
  ends n slots id i me single mine c_seq mine_seq reply pending read less word_n s shown deep at small =
      let v : Known = me.0.known in
      let w : WorldOf ℕ ℕ ℕ = shown.0 in
      let word : word_of w.n row (HeadOf v.first) ≡ Some i = subst (λ k. word_of k row (HeadOf v.first) ≡ Some i) (sym shown.1) word_n in (
        record { known = finished_by v 1 reply },
        keeps,
        tt,
        led n shown.1 shown.3 (one_step object n row s id v (at, single) (StoreEnd (name_of n mine) c_seq mine_seq reply mine pending less read refl) i word_n)
            (stored_leads w s shown.2 id v at single (name_of n mine) c_seq mine_seq pending less i mine word (ap (λ k. name_of k mine) shown.1) reply read),
        λ other is. (let one : reply ≡ other = (let f = sym read ∙ is in cc) in
            subst (λ r. HasFinished me 1 r (record { known = finished_by v 1 reply }, me.1)) one (refl, rises w s shown.2 id v at single (name_of n mine) c_seq mine_seq pending)),
      )

  pub told_reply : (n slots id i : ℕ) (st : table.Step ℕ) (me : Me ℕ View) → me.0.known.count ≡ 1 → (mine : Name) (c_seq mine_seq : ℕ)
      → me.0.known.its.call ≡ Some (record { mine = mine; stage = Finish c_seq mine_seq }) → me.0.known.its.read ≡ Nothing → word_of n row (NewOf mine) ≡ Some i
      → Allows (ShowsRun object n row) slots id me i (λ x. x) (λ found me'. TellsReply st me found me')
  unfolding looks_reply
  told_reply n slots id i st me single mine c_seq mine_seq pending fresh word_n s shown deep at small = elim (lt_cases c_seq mine_seq) [
    | inl less ↦
        let h = looks_reply object row n slots id i me single mine c_seq mine_seq pending less.0 fresh word_n s shown deep at small in
        (h.0, h.1, h.2, h.3, λ other c m e. (let same = one_finish mine other c_seq mine_seq c m (sym pending ∙ e) in (λ yes. h.4, λ no. absurd (let a = same.0 in let b = same.1 in let d = less.0 in omega arith))))
    | inr more ↦
        let v : Known = me.0.known in
        let word : word_of shown.0.n row (NewOf mine) ≡ Some i = subst (λ k. word_of k row (NewOf mine) ≡ Some i) (sym shown.1) word_n in (
          record { known = finished_by v 0 (reply_in (slice_index s.words i)) },
          keeps,
          tt,
          led n shown.1 shown.3 (one_step object n row s id v (at, single) (LoadEnd mine c_seq mine_seq pending more.0 fresh) i word_n) (loaded_leads shown.0 s shown.2 id v at single mine c_seq mine_seq pending more.0 i word),
          λ other c m e. (let same = one_finish mine other c_seq mine_seq c m (sym pending ∙ e) in (λ yes. absurd (let a = same.0 in let b = same.1 in let d = more.0 in omega arith), λ no. (refl, rises shown.0 s shown.2 id v at single mine c_seq mine_seq pending))),
        )
  ]
