-- The exchange of `new`, which is always tried.
use Rattle.uni_words.proofs.Vocabulary.{◌==◌, after_word, Bool, if◌then◌else◌, true, false, [], ◌∷◌, Allows, State, get_elem?, some, Anchor, Applied, Content, DecideNew, HasMoved, HasRead, IsShown, Known, Me, Moved, Name, NewOf, Of, Option, Pending, Sequential, Settled, ShowsRun, Some, Stage, View, WorldOf, WriteBefore, ap, arith, content_of, either, eqb, exchanged, inl, inr, inv_of, keeps, moved_at, new_of, new_of-memory_with, option_or, refl, settled_at, settled_in, settled_word, slice_index, stage_found, subst, suc, sym, value_after, word_of, zero, ℕ, ◌*◌, ◌+◌, ◌<◌, ◌^◌, ◌∙◌, ◌≡◌, ◌≢◌}
use Rattle.uni_model.specs.Worlds.Event.{Step as StepEvent}
use Rattle.uni_words.specs.Execution.Next.{Decide}
use Rattle.uni_words.proofs.Ran.{GoesTo, one_step}
use Rattle.atomic_table.specs.Table.{Step}
use Rattle.uni_model.proofs.Values.{not_anchor}
use Rattle.uni_words.proofs.Codes.{settled_at-word}
use Rattle.uni_words.proofs.Within.{within}
use Rattle.uni_words.proofs.Happens.{effect, later, there}
use Rattle.uni_words.proofs.Moving.{moved_leads, moved_told}
use Rattle.uni_words.proofs.Running.{led}
use Rattle.uni_words.proofs.Looks.{stands, underway}

-- the word after the exchange is what is decided
exchanged_is : (d : Name) → d ≢ Anchor → (state reply : ℕ) → reply < 2 ^ 31 → (found : ℕ)
    → settled_at d (either (eqb found 0) (settled_word state reply) found) ≡ option_or (settled_at d found) (Some (state, Some reply))
exchanged_is Anchor apart state reply small found = absurd (apart refl)
exchanged_is (Of q k) apart state reply small zero = settled_at-word q k state reply small
exchanged_is (Of q k) apart state reply small (suc found) = exchanged (suc found) 0 (settled_word state reply)
    (λ x. settled_at (Of q k) x ≡ option_or (settled_at (Of q k) (suc found)) (Some (state, Some reply))) (λ e. absurd (omega arith)) (λ apart'. refl)

pub either_is : (b : Bool) (x y : ℕ) → either b x y ≡ (if b then x else y)
either_is true x y = refl
either_is false x y = refl

decision_fits : (found : ℕ) (d : Name) (state reply : ℕ) → state < 2 ^ 31 → {m' : Option (ℕ × Option ℕ)} → ((u : ℕ × Option ℕ) → m' ≡ Some u → u.0 < 2 ^ 31) → settled_at d found ≡ m'
    → (u : ℕ × Option ℕ) → option_or (settled_at d found) (Some (state, Some reply)) ≡ Some u → u.0 < 2 ^ 31
decision_fits zero d state reply below old same u e = let f : (state, Some reply) ≡ u = cc in subst (λ (k : ℕ × Option ℕ). k.0 < 2 ^ 31) f below
decision_fits (suc found) d state reply below old same u e = old u (sym same ∙ e)

module _ (object : Sequential ℕ ℕ ℕ) (row : ℕ) where
  -- a seat that has loaded the invocation and the state before it proposes the state and the reply
  module _ (w : WorldOf ℕ ℕ ℕ) (s : State ℕ View) (is : IsShown object row w s)
      (id : ℕ) (v : Known) (at : get_elem? s.views id ≡ some (record { known = v })) (single : v.count ≡ 1) (mine c d : Name) (c_seq inv state : ℕ)
      (pending : v.its.call ≡ Some (record { mine = mine; stage = DecideNew c c_seq d })) (read : v.its.read ≡ Applied inv state)
      (answer_fits : object.answer state inv < 2 ^ 31) (i : ℕ) (word : word_of w.n row (NewOf d) ≡ Some i) where
    abbrev call : Pending
    call = record { mine = mine; stage = DecideNew c c_seq d }

    abbrev found : ℕ
    found = slice_index s.words i

    abbrev proposed : ℕ
    proposed = either (eqb found 0) (settled_word (object.next state inv) (object.answer state inv)) found

    abbrev value : Option (ℕ × Option ℕ)
    value = option_or (settled_in (w.memory (NewOf d))) (value_after object (new_of w.memory c) (inv_of w.memory d))

    apart : d ≢ Anchor
    apart = not_anchor w.memory is.sound.0 is.sound.1 is.sound.2.numbered c d (stands object row w s is id v at single mine (DecideNew c c_seq d) pending).1

    is_there : w.memory (NewOf d) ≡ content_of w.n (NewOf d) found
    is_there = there object row w s is id v at single call pending i word

    value_is : settled_at d proposed ≡ value
    value_is =
        let had : HasRead w.memory mine (DecideNew c c_seq d) (Applied inv state) = subst (λ r. HasRead w.memory mine (DecideNew c c_seq d) r) read (underway object row w s is id v at single mine (DecideNew c c_seq d) pending).1 in
        exchanged_is d apart (object.next state inv) (object.answer state inv) answer_fits found
        ∙ ap (λ (u : Content ℕ ℕ ℕ). option_or (settled_in u) (Some (object.next state inv, Some (object.answer state inv)))) (sym is_there)
        ∙ ap (λ o. option_or (settled_in (w.memory (NewOf d))) o) (sym (ap (λ o. value_after object o (inv_of w.memory d)) had.1.1 ∙ ap (λ o. value_after object (Some (state, had.1.0)) o) had.0))

    pub decided_writes : content_of w.n (NewOf d) proposed ≡ (effect object row w s is id v at single call pending).content
    decided_writes = ap (λ o. Settled o) value_is

    pub decided_fits : object.next state inv < 2 ^ 31 → (y : Name) (u : ℕ × Option ℕ) → new_of (later object row w s is id v at single call pending).memory y ≡ Some u → u.0 < 2 ^ 31
    decided_fits next_fits y u e = elim (new_of-memory_with w.memory d y value) [
      | inl here ↦ decision_fits found d (object.next state inv) (object.answer state inv) next_fits (is.words.fits d) (ap settled_in (sym is_there)) u
          (sym (exchanged_is d apart (object.next state inv) (object.answer state inv) answer_fits found) ∙ value_is ∙ sym here.1 ∙ e)
      | inr other ↦ is.words.fits y u (sym other.1 ∙ e)
    ]

  pub decides : (n slots id i : ℕ) (st : Step ℕ) (me : Me ℕ View) → me.0.known.count ≡ 1 → (mine c d : Name) (c_seq inv state : ℕ)
      → me.0.known.its.call ≡ Some (record { mine = mine; stage = DecideNew c c_seq d }) → me.0.known.its.read ≡ Applied inv state
      → object.next state inv < 2 ^ 31 → object.answer state inv < 2 ^ 31 → word_of n row (NewOf d) ≡ Some i
      → Allows (ShowsRun object n row) slots id me i (λ found. either (eqb found 0) (settled_word (object.next state inv) (object.answer state inv)) found) (λ found me'. Moved st me found me')
  decides n slots id i st me single mine c d c_seq inv state pending read next_fits answer_fits word_n s shown deep at small =
      let w : WorldOf ℕ ℕ ℕ = shown.0 in
      let is : IsShown object row w s = shown.2 in
      let word : word_of w.n row (NewOf d) ≡ Some i = subst (λ k. word_of k row (NewOf d) ≡ Some i) (sym shown.1) word_n in
      let found : ℕ = slice_index s.words i in
      let v : Known = me.0.known in
      let call : Pending = record { mine = mine; stage = DecideNew c c_seq d } in
      let x : ℕ = either (eqb found 0) (settled_word (object.next state inv) (object.answer state inv)) found in
      let writes = decided_writes w s is id v at single mine c d c_seq inv state pending read answer_fits i word in
      let on : (k : Stage) × (stage_found v.n v.first mine (DecideNew c c_seq d) found ≡ Some k) = (WriteBefore c c_seq d, refl) in
      let leads = moved_leads object row w s is id v at single call pending i word on x writes (decided_fits w s is id v at single mine c d c_seq inv state pending read answer_fits i word next_fits) in
      let moved = moved_told object row w s is id v at single call pending i word on x writes found leads.shown me.1 refl (within object row w s is (NewOf d) i word) in (
        record { known = moved_at v call found },
        keeps,
        tt,
        led n shown.1 shown.3 (subst (λ y. GoesTo object n row s (StepEvent v.first ∷ []) (after_word s i y id (moved_at v call found))) (sym (either_is (found == 0) (settled_word (object.next state inv) (object.answer state inv)) found))
            (one_step object n row s id v (at, single) (Decide mine c d c_seq inv state pending read) i word_n)) leads,
        λ o other. (let e : call ≡ o = (let g = sym pending ∙ other in cc) in subst (λ (k : Pending). HasMoved me k found (record { known = moved_at v call found }, me.1)) e moved),
      )

  -- the same, of the numbers that the code has
  pub decides_word : (n slots id i : ℕ) (st : Step ℕ) (me : Me ℕ View) → me.0.known.count ≡ 1 → (mine c d : Name) (c_seq inv state new_state reply : ℕ)
      → me.0.known.its.call ≡ Some (record { mine = mine; stage = DecideNew c c_seq d }) → me.0.known.its.read ≡ Applied inv state
      → new_state ≡ object.next state inv → new_state < 2 ^ 31 → reply ≡ object.answer state inv → reply < 2 ^ 31 → word_of n row (NewOf d) ≡ Some i
      → Allows (ShowsRun object n row) slots id me i (λ found. either (eqb found 0) (1 + 2 * reply + 4294967296 * new_state) found) (λ found me'. Moved st me found me')
  decides_word n slots id i st me single mine c d c_seq inv state new_state reply pending read state_is state_fits reply_is reply_fits word =
      subst (λ u. Allows (ShowsRun object n row) slots id me i (λ found. either (eqb found 0) (1 + 2 * u + 4294967296 * new_state) found) (λ found me'. Moved st me found me')) (sym reply_is)
      (subst (λ u. Allows (ShowsRun object n row) slots id me i (λ found. either (eqb found 0) (1 + 2 * object.answer state inv + 4294967296 * u) found) (λ found me'. Moved st me found me')) (sym state_is)
      (decides n slots id i st me single mine c d c_seq inv state pending read (subst (λ u. u < 2 ^ 31) state_is state_fits) (subst (λ u. u < 2 ^ 31) reply_is reply_fits) word))
