-- The word step that begins a call.
use Rattle.uni_words.proofs.Vocabulary.{◌^◌, Allows, Anchor, Announce, Bool, Call, CountsSteps-world_after, Grows, HasBegun, HelpingInvariant-begun, InvOf, Invariant-begun, IsLocal, IsShown, Known, Leads, List, Me, Memory, Name, None, Of, Place, Sequential, ShowsRun, Some, State, View, WorldOf, [], after_word, ap, arith, begun_by, cond, content_of, false, get_elem?, inl, inr, inv_of, invocation_in, keeps, length, length-set, lt_cases, memory_of, memory_with, nat_lt, number_cases, pending_count, place_eq, place_eq_false, place_eq_true, refl, set_at_elsewhere, set_at_same, slice_set, some, subst, sym, true, word_at, word_of, world_after_call, ℕ, ◌+◌, ◌<◌, ◌∙◌, ◌∷◌, ◌≡◌, ◌≢◌, ◌≤◌}
use Rattle.uni_words.specs.Execution.Next.{Begin}
use Rattle.uni_words.proofs.Ran.{one_step}
use Rattle.atomic_table.specs.Table.{Step}
use Rattle.uni_model.specs.Places.Content.{Invocation}
use Rattle.uni_words.proofs.Locality.{set_here, set_elsewhere}
use Rattle.uni_words.proofs.Underway.{HasOutcome-grows, last_number-grows}
use Rattle.uni_words.proofs.Happens.{own_local, keeps_rule}
use Rattle.uni_words.proofs.Running.{led, run_begins}

module _ (object : Sequential ℕ ℕ ℕ) (row : ℕ) where
  module _ (w : WorldOf ℕ ℕ ℕ) (s : State ℕ View) (is : IsShown object row w s)
      (id : ℕ) (v : Known) (at : get_elem? s.views id ≡ some (record { known = v })) (single : v.count ≡ 1) (idle : v.its.call ≡ None) (fits : v.its.begun < row)
      (i : ℕ) (word : word_of w.n row (InvOf (Of v.first v.its.begun)) ≡ Some i) (inv : ℕ) where
    abbrev p : ℕ
    p = v.first

    -- the memory that the words show
    abbrev was : Memory ℕ ℕ ℕ
    was = memory_of w.n row s.words w.begun

    abbrev mine : Name
    mine = Of p (w.begun p)

    abbrev pub later : WorldOf ℕ ℕ ℕ
    later = world_after_call w p inv

    before : IsLocal w p v.its
    before = own_local object row w s is id v at single

    abbrev words' : List ℕ
    words' = slice_set s.words i inv

    word_is : word_of w.n row (InvOf mine) ≡ Some i
    word_is = subst (λ k. word_of w.n row (InvOf (Of p k)) ≡ Some i) (sym before.begun) word

    -- whether the other calls have begun is as before
    same_test : (q k : ℕ) → Of q k ≢ mine → nat_lt k (later.begun q) ≡ nat_lt k (w.begun q)
    same_test q k apart = elim (number_cases q p) [
      | inl here ↦
          let now : later.begun q ≡ w.begun p + 1 = ap later.begun here.0 ∙ set_at_same w.begun p (w.begun p + 1) in
          let was : w.begun q ≡ w.begun p = ap w.begun here.0 in
          let other : k ≢ w.begun p = (λ e. apart (ap (λ a. Of a k) here.0 ∙ ap (Of p) e)) in
          rw (now, was) (elim (lt_cases k (w.begun p)) [
            | inl a ↦ elim (lt_cases k (w.begun p + 1)) [ inl b ↦ rw (a.1, b.1) refl | inr b ↦ absurd (let x = a.0 in let y = b.0 in omega arith) ]
            | inr a ↦ elim (lt_cases k (w.begun p + 1)) [ inl b ↦ absurd (other (let x = a.0 in let y = b.0 in omega arith)) | inr b ↦ rw (a.1, b.1) refl ]
          ])
      | inr other ↦ ap (nat_lt k) (set_at_elsewhere w.begun p (w.begun p + 1) q other.0)
    ]

    begun_is : nat_lt (w.begun p) (later.begun p) ≡ true
    begun_is = ap (nat_lt (w.begun p)) (set_at_same w.begun p (w.begun p + 1)) ∙ elim (lt_cases (w.begun p) (w.begun p + 1)) [ inl a ↦ a.1 | inr a ↦ absurd (let h = a.0 in omega arith) ]

    elsewhere : (x : Place) → x ≢ InvOf mine → memory_of w.n row words' later.begun x ≡ was x
    elsewhere x apart = by_place x apart (set_elsewhere w.n row s.words is.words.wide (InvOf mine) i word_is inv x apart) where
      by_place : (x : Place) → x ≢ InvOf mine → word_at w.n row words' x ≡ word_at w.n row s.words x → memory_of w.n row words' later.begun x ≡ was x
      by_place (InvOf Anchor) a e = refl
      by_place (InvOf (Of q k)) a e = ap (λ b. Invocation (cond b (Some (word_at w.n row words' (InvOf (Of q k)))) None)) (same_test q k (λ same. a (ap InvOf same)))
          ∙ ap (λ u. Invocation (cond (nat_lt k (w.begun q)) (Some u) None)) e
      by_place y a e = ap (content_of w.n y) e

    here : memory_of w.n row words' later.begun (InvOf mine) ≡ Invocation (Some inv)
    here = ap (λ b. Invocation (cond b (Some (word_at w.n row words' (InvOf mine))) None)) begun_is ∙ ap (λ u. Invocation (Some u)) (set_here w.n row s.words is.words.wide (InvOf mine) i word_is inv)

    shows : memory_of w.n row words' later.begun ≡ memory_with was (InvOf mine) (Invocation (Some inv))
    shows = λ k x. at_place x k where
      at_place : (x : Place) → memory_of w.n row words' later.begun x ≡ memory_with was (InvOf mine) (Invocation (Some inv)) x
      at_place x = by_test (place_eq x (InvOf mine)) refl where
        by_test : (b : Bool) → place_eq x (InvOf mine) ≡ b → memory_of w.n row words' later.begun x ≡ cond b (Invocation (Some inv)) (was x)
        by_test true e = ap (memory_of w.n row words' later.begun) (place_eq_true x (InvOf mine) e) ∙ here
        by_test false e = elsewhere x (place_eq_false x (InvOf mine) e)

    memory_is : later.memory ≡ memory_of w.n row words' later.begun
    memory_is = ap (λ m. memory_with m (InvOf mine) (Invocation (Some inv))) is.words.memory ∙ sym shows

    none : w.call p ≡ None
    none = before.call ∙ idle

    grows : Grows w.memory later.memory
    grows = (Invariant-begun object w p inv before.inside none (is.sound.0, is.sound.1, is.sound.2)).1

    told_inv : inv_of later.memory mine ≡ Some inv
    told_inv = ap (λ m. inv_of m mine) memory_is ∙ ap invocation_in here

    tells : IsLocal later p (begun_by v inv).its
    tells = record {
      inside = before.inside;
      call = set_at_same w.call p _ ∙ ap (λ k. Some (record { mine = Of p k; stage = Announce })) before.begun;
      begun = set_at_same w.begun p (w.begun p + 1) ∙ ap (λ k. k + 1) before.begun;
      steps = set_at_same w.steps p 0;
      turns = set_at_same w.turns p 0;
      underway = (subst (λ k. inv_of later.memory (Of p k) ≡ Some inv) before.begun told_inv, tt);
      counted = (let was : v.its.begun ≡ length v.its.own + 0 = subst (λ o. v.its.begun ≡ length v.its.own + pending_count o) idle before.counted in omega arith);
      own = λ k call e. HasOutcome-grows w.memory later.memory grows (Of p k) call.0 call.1 (before.own k call e);
      number = before.number ∙ sym (last_number-grows w.memory later.memory grows p v.its.own before.own);
    }

    begun_kept : IsShown object row later (record { words = words'; homes = s.homes; views = slice_set s.views id (record { known = begun_by v inv }) })
    begun_kept =
        let told = is.seats.each id (record { known = v }) at in
        keeps_rule object row w s is id v at single words' later (length-set s.words i inv)
        (record {
          n = refl;
          call = λ q apart. set_at_elsewhere w.call p _ q apart;
          begun = λ q apart. set_at_elsewhere w.begun p _ q apart;
          steps = λ q apart. set_at_elsewhere w.steps p 0 q apart;
          turns = λ q apart. set_at_elsewhere w.turns p 0 q apart;
        })
        grows memory_is (begun_by v inv) (told.processes (let one = single in omega arith)) (told.calls (let one = single in omega arith)) refl single refl tells
        (subst (λ k. k ≤ row) (sym (set_at_same w.begun p (w.begun p + 1))) (let e = before.begun in omega arith))
        is.words.fits
        (HelpingInvariant-begun object w p inv before.inside none is.sound)
        (CountsSteps-world_after object w (Call p inv) (before.inside, none) (is.sound.0, is.sound.1, is.sound.2) is.counts)

    pub begun_leads : Leads object row w s (Call p inv ∷ []) later (after_word s i inv id (begun_by v inv))
    begun_leads = record {
      shown = begun_kept;
      run = λ n events run.
          run_begins object n row w s is events run id v at single idle inv (record { mine = Of p v.its.begun; stage = Announce }) (begun_by v inv) refl single refl refl refl refl refl;
    }

  pub begins : (n slots id i : ℕ) (st : Step ℕ) (me : Me ℕ View) (inv : ℕ) → inv < 2 ^ 64 → me.0.known.count ≡ 1 → me.0.known.its.call ≡ None → me.0.known.its.begun < row
      → word_of n row (InvOf (Of me.0.known.first me.0.known.its.begun)) ≡ Some i
      → Allows (ShowsRun object n row) slots id me i (λ x. inv) (λ found me'. HasBegun st me inv me')
  begins n slots id i st me inv narrow single idle room word s shown deep at small =
      let word_w : word_of shown.0.n row (InvOf (Of me.0.known.first me.0.known.its.begun)) ≡ Some i = subst (λ k. word_of k row (InvOf (Of me.0.known.first me.0.known.its.begun)) ≡ Some i) (sym shown.1) word in (
        record { known = begun_by me.0.known inv },
        keeps,
        tt,
        led n shown.1 shown.3 (one_step object n row s id me.0.known (at, single) (Begin inv narrow idle room) i word) (begun_leads shown.0 s shown.2 id me.0.known at single idle room i word_w inv),
        refl,
      )
