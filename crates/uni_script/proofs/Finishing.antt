-- A call returns within the bound.
use Rattle.uni_script.proofs.Vocabulary.{Bool, Idle, IsReached, IsSome, LastStep, None, Option, Process, Refusal, Session, Some, SpokenObject, Step, WorldOf, [], arith, false, inl, inr, last_step, latest, most_steps, nat_le, refl, refusal_of_step, response_of_step, result_of_steps, session_after, steps_of, steps_taken, suc, sym, true, world_after_all, zero, ℕ, ◌+◌, ◌∙◌, ◌∷◌, ◌≡◌, ◌≤◌, ◌⊎◌}
use Rattle.uni_model.specs.Stages.{Pending}
use Rattle.uni_script.specs.Laws.{FinishReturns, IsReturned}
use Rattle.uni_script.proofs.Stepping.{IsOnTheWay, IsOnTheWay-start, IsOnTheWay-going, IsOnTheWay-few, last_step-done}

module _ {S I R : Type 0} (o : SpokenObject S I R) (p : ℕ) where
  module _ (b : Session S I R) (reached : IsReached o.object b.world) (pending : IsSome (b.world.call p)) (most : ℕ) where
    -- after so many steps the call has returned, or is on its way
    on_the_way : (count : ℕ) → count ≤ most → IsSome (last_step o b.world p most) ⊎ ((now : Session S I R) × IsOnTheWay o p b most count now)
    on_the_way zero few = inr (b, IsOnTheWay-start o p b most reached pending)
    on_the_way (suc count) few = elim (on_the_way count (omega arith)) [
      | inl returned ↦ inl returned
      | inr on ↦ at on.0 on.1 (response_of_step on.0.world p) refl
    ]
      where
        at : (now : Session S I R) → IsOnTheWay o p b most count now → (response : Option R) → response_of_step now.world p ≡ response
            → IsSome (last_step o b.world p most) ⊎ ((next : Session S I R) × IsOnTheWay o p b most (suc count) next)
        at now on (Some r) is = inl (rw (last_step-done o p b most count now on (omega arith) (session_after o now (Step p ∷ [])) refl r is) refl)
        at now on None is =
            let next = IsOnTheWay-going o p b most count now on (omega arith) (session_after o now (Step p ∷ [])) refl is in
            inr (session_after o now (Step p ∷ []), (let more : count + 1 ≡ suc count = omega arith in rw more at next))

    returns_within : most_steps b.world.n ≤ most → IsSome (last_step o b.world p most)
    returns_within enough = elim (on_the_way (most_steps b.world.n) enough) [
      | inl returned ↦ returned
      | inr on ↦ absurd (let few = IsOnTheWay-few o p b most (most_steps b.world.n) on.0 on.1 in omega arith)
    ]

  pub FinishReturns-reached : (b : Session S I R) → IsReached o.object b.world → FinishReturns o b p
  FinishReturns-reached b r = at (refusal_of_step b.world p) refl
    where
      most : ℕ
      most = most_steps b.world.n

      after : WorldOf S I R
      after = world_after_all o.object b.world (steps_of p (steps_taken most (last_step o b.world p most)))

      called : (w : WorldOf S I R) → refusal_of_step w p ≡ None → IsSome (w.call p)
      called w none = by_test (nat_le w.n p) refl (w.call p) refl
        where
          by_test : (t : Bool) → nat_le w.n p ≡ t → (call : Option Pending) → w.call p ≡ call → IsSome call
          by_test t e (Some c) is = refl
          by_test true e None is = absurd (let full : refusal_of_step w p ≡ Some (Process p) = rw e refl in let bad : Some (Process p) ≡ None = sym full ∙ none in cc)
          by_test false e None is = absurd (let idle : refusal_of_step w p ≡ Some (Idle p) = rw e (rw is refl) in let bad : Some (Idle p) ≡ None = sym idle ∙ none in cc)

      at : (refusal : Option Refusal) → refusal_of_step b.world p ≡ refusal → FinishReturns o b p
      at (Some refusal) is = inl (refusal, rw is refl)
      at None is = inr (ends (last_step o b.world p most) refl (returns_within b r (called b.world is) most (omega arith)))
        where
          ends : (last : Option (LastStep R)) → last_step o b.world p most ≡ last → IsSome last → IsReturned (result_of_steps o b.world p most).text
          ends None e h = absurd (let bad : false ≡ true = h in cc)
          ends (Some x) e h = (latest b.world p, o.language.resp_text x.response, after.steps p, after.turns p, rw is (rw e refl))
