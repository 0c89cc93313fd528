-- What is linearizable, and in which no two calls overlap, is answered call by call.
use Rattle.lin_check.proofs.Vocabulary.{AcceptsAll, Atomic, Contains, Finished, Free, Invoke, Invoked, List, None, Respond, Sequential, Some, Waiting, [], absent, ap, arith, at_start, inl, inr, invoke_own, keeps_invoke, keeps_point, keeps_respond, number_cases, observed, point_own, point_response, point_state, refl, respond_own, response_at, invs, set_at_elsewhere, state_of, subst, sym, length, ℕ, ◌<◌, ◌∙◌, ◌∷◌, ◌≡◌}
use Rattle.uni_words.specs.Objects.{tally}
use Rattle.uni_model.specs.AtomicObject.{Accepts, Act}
use Rattle.uni_model.specs.AtomicObject.Act.{Linearize}
use Rattle.uni_model.specs.HerlihyWing.{one_by_one}
use Rattle.lin_check.proofs.Going.{invoke_first, invoked, point, point_first, respond_first, responded}
use Rattle.thread_tests.specs.Apart.{Answered, AreAnsweredInTurn, calls, one_after_another, stale}

module _ {S I R : Type 0} (object : Sequential S I R) where
  -- the first of these calls begins where none is open, takes effect and returns
  module _ (a b : Atomic S I) (acts : List (Act I R)) (it : Invoked I) (r : R) (rest : List (Act I R)) (idle : (p : ℕ) → Free p a)
      (h : AcceptsAll object a acts b) (shown : observed acts ≡ Invoke it.process it.nth it.inv ∷ Respond it.process it.nth r ∷ rest) where
    abbrev p : ℕ
    p = it.process

    abbrev begun : Atomic S I
    begun = invoked a p it.nth it.inv

    first : Accepts object a (Invoke p it.nth it.inv) begun × ((later : List (Act I R)) × AcceptsAll object begun later b × (observed later ≡ Respond p it.nth r ∷ rest))
    first = invoke_first object a b acts p it.nth it.inv (Respond p it.nth r ∷ rest) h shown

    waits : Waiting p begun it
    waits = invoke_own object a begun p it.nth it.inv first.0 (idle p)

    next_one : (d : Invoked I) × (later : List (Act I R)) × (begun.open_call d.process ≡ Some d) × (¬ (Contains begun.agreed d)) × AcceptsAll object (point begun d) later b
        × (observed later ≡ Respond p it.nth r ∷ rest)
    next_one = point_first object begun b first.1.0 p it.nth r it rest waits first.1.1 first.1.2

    -- it is this one that takes effect, since no other is open
    no_other : (d : Invoked I) → begun.open_call d.process ≡ Some d → d ≡ it
    no_other d is_open = elim (number_cases d.process p) [
      | inl own ↦ let f : Some d ≡ Some it = sym is_open ∙ (ap begun.open_call own.0 ∙ waits.is_open) in cc
      | inr other ↦
          let f : Some d ≡ None = sym is_open ∙ (set_at_elsewhere a.open_call p (Some it) d.process other.0 ∙ (idle d.process).is_open) in
          absurd (cc)
    ]

    abbrev took : Atomic S I
    took = point begun it

    effect : Accepts {R = R} object begun (Linearize it) took
    effect = (waits.is_open, absent object begun p it waits, refl)

    done : Finished p took it (length a.agreed)
    done = point_own object begun took p it effect waits

    abbrev ended : Atomic S I
    ended = responded took p

    last : Accepts object took (Respond p it.nth r) ended × ((later : List (Act I R)) × AcceptsAll object ended later b × (observed later ≡ rest))
    last =
        let same = no_other next_one.0 next_one.2 in
        respond_first object took b next_one.1 p it.nth r it (length a.agreed) rest done (subst (λ d. AcceptsAll object (point begun d) next_one.1 b) same next_one.4) next_one.5

    -- with the object's answer
    answered : r ≡ object.answer (state_of object a) it.inv
    answered =
        let its = last.0.0 in
        let here : its.1 ≡ length a.agreed = elim (done.below its.1 (record { process = p; nth = it.nth; inv = its.0 }) its.3 refl) [
          | inl less ↦ absurd (let l : it.nth < it.nth = less in omega arith)
          | inr at ↦ at
        ] in
        let f : Some r ≡ Some (object.answer (state_of object a) it.inv) =
        sym its.4 ∙ (ap (response_at object a.start (invs object took.agreed)) here ∙ point_response object begun took it effect) in
        cc

    state_then : state_of object ended ≡ object.next (state_of object a) it.inv
    state_then = point_state object begun took it effect

    -- and then none is open again
    idle_then : (q : ℕ) → Free q ended
    idle_then q = elim (number_cases q p) [
      | inl own ↦ subst (λ x. Free x ended) (sym own.0) (respond_own object took ended p it.nth r it (length a.agreed) last.0 done)
      | inr other ↦
          (keeps_respond object q took ended p it.nth r last.0 other.0).idle
          ((keeps_point object q begun took it effect other.0).idle
          ((keeps_invoke object q a begun p it.nth it.inv first.0 other.0).idle (idle q)))
    ]

  answered_from : (told : List (Answered I R)) (a b : Atomic S I) (acts : List (Act I R)) → ((p : ℕ) → Free p a) → AcceptsAll object a acts b → observed acts ≡ one_after_another told
      → one_after_another told ≡ one_by_one object (state_of object a) (calls told)
  answered_from [] a b acts idle h shown = refl
  answered_from (c ∷ told) a b acts idle h shown =
      let rest = one_after_another told in
      let end = last a b acts c.call c.reply rest idle h shown in
      let later = answered_from told (ended a b acts c.call c.reply rest idle h shown) b end.1.0 (idle_then a b acts c.call c.reply rest idle h shown) end.1.1 end.1.2 in
      ap (λ x. Invoke c.call.process c.call.nth c.call.inv ∷ Respond c.call.process c.call.nth x ∷ rest) (answered a b acts c.call c.reply rest idle h shown)
      ∙ ap (λ xs. Invoke c.call.process c.call.nth c.call.inv ∷ Respond c.call.process c.call.nth (object.answer (state_of object a) c.call.inv) ∷ xs)
      (later ∙ ap (λ s. one_by_one object s (calls told)) (state_then a b acts c.call c.reply rest idle h shown))

  none_called : (start : S) (p : ℕ) → Free p (at_start {I = I} start)
  none_called start p = record { is_open = refl; below = λ j d at own. absurd (let f : None ≡ Some d = at in cc) }

  pub answered_in_turn : (told : List (Answered I R)) (acts : List (Act I R)) (b : Atomic S I) → AcceptsAll object (at_start object.initial) acts b → observed acts ≡ one_after_another told
      → AreAnsweredInTurn object told
  answered_in_turn told acts b = answered_from told (at_start object.initial) b acts (none_called object.initial)

-- so a stale read of a tally is told by no history of the atomic object
pub stale_is_not_in_turn : ¬ (AreAnsweredInTurn tally stale)
stale_is_not_in_turn e = absurd (cc)
