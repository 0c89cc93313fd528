-- The laws over every list of accepted events.
use Rattle.uni_model.proofs.Vocabulary.{AcceptsAll, Act, AreAccepted, Atomic, Bool, BoundedAlong, Call, ChangesOnly, Content, CountsSteps, EndsAtItsCell, EndsNoEra, Event, HelpingInvariant, Invariant, IsAccepted, IsBounded, IsReached, IsSome, List, Memory, None, Option, Pending, Place, Reshape, Sequential, SettledStays, Shows, Simulates, Some, Step, StepIsLocal, Trim, WorldOf, [], acts_of, ap, cond, false, inl, inr, memory_with, opened_world, place_eq, place_of, refl, set_at, subst, suc, sym, take, true, world_after, world_after_all, world_after_step, zero, ℕ, ◌++◌, ◌∙◌, ◌∷◌, ◌≡◌, ◌≢◌}
use Rattle.uni_model.proofs.Written.{set_at-cases, place_eq_true}
use Rattle.uni_model.proofs.Kept.{Invariant-opened_world, Invariant-world_after_all, Grows-world_after}
use Rattle.uni_model.proofs.Counted.{CountsSteps-opened_world, CountsSteps-world_after_all}
use Rattle.uni_model.proofs.Bounded.{HelpingInvariant-opened_world, HelpingInvariant-world_after_all, IsBounded-held, at_its_cell}
use Rattle.uni_model.proofs.Simulation.{step_accepted, call_accepted}

-- a place that isn't written
pub written_elsewhere : {S I R : Type 0} (m : Memory S I R) (place : Place) (v : Content S I R) (x : Place) → x ≢ place → memory_with m place v x ≡ m x
written_elsewhere m place v x apart = by_test (place_eq x place) refl where
  by_test : (b : Bool) → place_eq x place ≡ b → cond b v (m x) ≡ m x
  by_test true e = absurd (apart (place_eq_true x place e))
  by_test false e = refl

pub set_at_elsewhere : {A : Type 0} (f : ℕ → A) (p : ℕ) (v : A) (q : ℕ) → q ≢ p → set_at f p v q ≡ f q
set_at_elsewhere f p v q apart = elim (set_at-cases f p v q) [ inl h ↦ absurd (apart h.0) | inr h ↦ h.1 ]

module _ {S I R : Type 0} (object : Sequential S I R) where
  local_step : (w : WorldOf S I R) (p : ℕ) (call : Pending) → ChangesOnly (place_of w.n p call.mine call.stage) p w (world_after_step object w p (Some call))
  local_step w p call = record {
    n = refl;
    places = λ x apart. written_elsewhere w.memory (place_of w.n p call.mine call.stage) _ x apart;
    calls = λ q apart. set_at_elsewhere w.call p _ q apart;
    begun = refl;
    first = refl;
    among = refl;
    steps = λ q apart. set_at_elsewhere w.steps p _ q apart;
    turns = λ q apart. set_at_elsewhere w.turns p _ q apart;
  }

  pub StepIsLocal-holds : (w : WorldOf S I R) (p : ℕ) (call : Pending) → StepIsLocal object w p call
  StepIsLocal-holds w p call is =
      subst (λ o. ChangesOnly (place_of w.n p call.mine call.stage) p w (world_after_step object w p o)) (sym is) (local_step w p call)

  pub Invariant-reached : (w : WorldOf S I R) → IsReached object w → Invariant object w
  Invariant-reached w r = subst (λ v. Invariant object v) r.reached
      (Invariant-world_after_all object (opened_world r.n r.start r.number) r.events r.accepted (Invariant-opened_world object r.n r.start r.number r.positive))

  pub CountsSteps-reached : (w : WorldOf S I R) → IsReached object w → CountsSteps w
  CountsSteps-reached w r = subst (λ v. CountsSteps v) r.reached
      (CountsSteps-world_after_all object (opened_world r.n r.start r.number) r.events r.accepted (Invariant-opened_world object r.n r.start r.number r.positive) (CountsSteps-opened_world object r.n r.start r.number))

  pub HelpingInvariant-reached : (w : WorldOf S I R) → IsReached object w → HelpingInvariant object w
  HelpingInvariant-reached w r = subst (λ v. HelpingInvariant object v) r.reached
      (HelpingInvariant-world_after_all object (opened_world r.n r.start r.number) r.events r.accepted (CountsSteps-opened_world object r.n r.start r.number) (HelpingInvariant-opened_world object r.n r.start r.number r.positive))

  pub IsBounded-reached : (w : WorldOf S I R) → IsReached object w → IsBounded w
  IsBounded-reached w r = IsBounded-held object w (CountsSteps-reached w r) (HelpingInvariant-reached w r)

  pub EndsAtItsCell-holds : (w : WorldOf S I R) (p : ℕ) → EndsAtItsCell object w p
  EndsAtItsCell-holds w p reached call is turns s t at =
      at_its_cell object w (HelpingInvariant-reached w reached) p call.mine s t (is ∙ ap (λ k. Some (record { mine = call.mine; stage = k })) at) turns

  pub AreAccepted-take : (j : ℕ) (w : WorldOf S I R) (es : List (Event I)) → AreAccepted object w es → AreAccepted object w (take j es)
  AreAccepted-take zero w es ok = tt
  AreAccepted-take (suc j) w [] ok = tt
  AreAccepted-take (suc j) w (e ∷ es) ok = (ok.0, AreAccepted-take j (world_after object w e) es ok.1)

  pub IsBounded-along : (w : WorldOf S I R) (es : List (Event I)) → AreAccepted object w es → CountsSteps w → HelpingInvariant object w → BoundedAlong object w es
  IsBounded-along w es ok counts inv j =
      let first = AreAccepted-take j w es ok in
      IsBounded-held object (world_after_all object w (take j es)) (CountsSteps-world_after_all object w (take j es) first (inv.0, inv.1, inv.2) counts)
      (HelpingInvariant-world_after_all object w (take j es) first counts inv)

  pub SettledStays-holds : (w : WorldOf S I R) (e : Event I) → SettledStays object w e
  SettledStays-holds w e reached ok other = Grows-world_after object w e (Invariant-reached w reached) ok other

  pub accepts : (w : WorldOf S I R) (e : Event I) → Invariant object w → IsAccepted w e → EndsNoEra e → (a : Atomic S I) → Shows w a
      → (b : Atomic S I) × Shows (world_after object w e) b × AcceptsAll object a (acts_of object w e) b
  accepts w (Call p i) inv ok other a shows = call_accepted object w inv.0 inv.1 inv.2 p i ok.0 ok.1 a shows
  accepts w (Step p) inv ok other a shows = by_call (w.call p) refl ok where
    by_call : (o : Option Pending) → w.call p ≡ o → IsSome o → (b : Atomic S I) × Shows (world_after object w (Step p)) b × AcceptsAll object a (acts_of object w (Step p)) b
    by_call None is some = absurd (let e : false ≡ true = some in cc)
    by_call (Some call) is some = step_accepted object w inv.0 inv.1 inv.2 p call.mine a shows call.stage is
  accepts w Trim inv ok other a shows = absurd other
  accepts w (Reshape n) inv ok other a shows = absurd other

  pub Simulates-holds : (w : WorldOf S I R) (e : Event I) → Simulates object w e
  Simulates-holds w e reached ok other a shows = accepts w e (Invariant-reached w reached) ok other a shows

  -- acts, and further acts
  pub AcceptsAll-append : (a b c : Atomic S I) (xs ys : List (Act I R)) → AcceptsAll object a xs b → AcceptsAll object b ys c → AcceptsAll object a (xs ++ ys) c
  AcceptsAll-append a b c [] ys first rest = subst (λ x. AcceptsAll object x ys c) first rest
  AcceptsAll-append a b c (x ∷ xs) ys first rest = (first.0, first.1, AcceptsAll-append first.0 b c xs ys first.2 rest)
