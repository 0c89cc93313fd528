-- A call of an execution takes at most so many steps, and can always take one.
use Rattle.uni_any.proofs.Vocabulary.{Idle, Image, IsStageAt, List, Local, Posting, Reading, Ready, Sequential, Stage, Writing, [], ap, applied_in, arith, base_of, drafted, if◌then◌else◌, inl, inr, length, lt_cases, made_by, number_cases, refl, subst, suc, sym, zero, ℕ, ⊎_elim, ◌*◌, ◌++◌, ◌+◌, ◌-◌, ◌<◌, ◌∙◌, ◌≡◌, ◌≢◌, ◌≤◌, Act}
use Rattle.std.proofs.Common.{◌==◌}
use Rattle.uni_model.specs.Executions.Execution.{Ends, Takes}
use Rattle.uni_any.specs.Execution.{CanTake, Execution, Moment, acts_of, effect_of, found_by, all_acts, last_moment, opened_moment}
use Rattle.uni_any.specs.Execution.Next.{Bring, Fail, Lay, Learn, Post, Return, See, Start, View as Views}
use Rattle.uni_any.specs.Progress.{HasLetter, KeepsBound, NeverBlocks, StepOfCall, counted, so_far, steps_of_call}
use Rattle.uni_any.proofs.Bringing.{brings_move}
use Rattle.uni_any.proofs.Executing.{Holds, contents_at, all_acts_hold, opening_holds, seat_at, shown, step_holds, view_at}
use Rattle.uni_any.proofs.Learning.{learns_move}
use Rattle.uni_any.proofs.Looks.{seen_fields, seen_stage}

-- how many steps are left of processes n, after so many failed attempts: once all buffers are looked into, and before S is loaded
abbrev once_looked : (n tries : ℕ) → ℕ
once_looked n zero = 8 * n + 4
once_looked n (suc zero) = 4 * n + 2
once_looked n (suc (suc tries)) = 0

abbrev when_ready : (n tries : ℕ) → ℕ
when_ready n tries = 2 * n + 1 + once_looked n tries

-- where a process in the midst of a call is within its bound
abbrev IsWithin : {I S R : Type 0} → (n : ℕ) → Stage I S R → (taken : ℕ) → Type 0
IsWithin n Idle taken = taken ≤ 12 * n + 5
IsWithin n (Posting inv r) taken = (r ≤ n) × (taken + 2 * (n - r) + (10 * n + 5) ≤ 12 * n + 5)
IsWithin n (Ready inv tries) taken = taken + when_ready n tries ≤ 12 * n + 5
IsWithin n (Reading inv tries r) taken = (r ≤ n) × (taken + 2 * (n - r) + once_looked n tries ≤ 12 * n + 5)
IsWithin n (Writing inv tries image r) taken = (r ≤ n) × (taken + 2 * (n - r) + 1 + when_ready n (tries + 1) ≤ 12 * n + 5)

-- an attempt that goes on to its block
writes_on : (n tries : ℕ) → tries < 2 → once_looked n tries ≡ 2 * n + 1 + when_ready n (tries + 1)
writes_on n zero few = omega arith
writes_on n (suc zero) few = omega arith
writes_on n (suc (suc tries)) few = absurd (omega arith)

module _ {O I S R : Type 0} (meaning : O → Sequential S I R) (o : O) (n : ℕ) (few : (1 ≤ n) × (n ≤ 64)) where
  abbrev object : Sequential S I R
  object = meaning o

  module _ (m : Moment I S R) (acts : List (Act I R)) (h : Holds meaning o n m acts) (p : ℕ) (inside : p < n) where
    abbrev its : Local I S R
    its = m.local p

    own_stage : (k : Stage I S R) → its.stage ≡ k → IsStageAt object n h.board m.local p its k
    own_stage k e = subst (IsStageAt object n h.board m.local p its) e (h.sound.each p inside).stage

    -- an attempt that has looked into all buffers, and found that the call isn't in, is the first or the second
    few_tries : (inv : I) (tries : ℕ) → its.stage ≡ Reading inv tries n → tries < 2
    few_tries inv tries at =
        let is = own_stage (Reading inv tries n) at in
        let base = is.2.base (h.sound.each p inside).reader.process in
        elim (lt_cases tries 2) [
          | inl below ↦ below.0
          | inr above ↦ absurd (let a = is.1.soon above.0 (base_of object n its) base.come base.least in let b = is.2.lacks refl in omega arith)
        ]

    within_after : (next : CanTake object n m p) (taken : ℕ) → IsWithin n its.stage taken → IsWithin n (effect_of object n m p its next).leaves.stage (counted object n m p next taken)
    within_after (Post inv r letter (inl first) r_in room tells) taken w =
        let e = ap (λ k. so_far k taken) first.1 in let z = first.0 in ((omega arith), omega (arith, e, z))
    within_after (Post inv r letter (inr at) r_in room tells) taken w =
        let w' = subst (λ k. IsWithin n k taken) at w in let e = ap (λ k. so_far k taken) at in let x = w'.1 in ((omega arith), omega (arith, e, x))
    within_after (Start inv tries (inl at)) taken w =
        let w' = subst (λ k. IsWithin n k taken) at w in let e = ap (λ k. so_far k taken) at in ((omega arith), omega (arith, e, w'))
    within_after (Start inv tries (inr (none, inl at))) taken w =
        let w' = subst (λ k. IsWithin n k taken) at w in let e = ap (λ k. so_far k taken) at in let x = w'.1 in let z = ap (once_looked n) none in
        ((omega arith), omega (arith, e, x, z))
    within_after (Start inv tries (inr (none, inr left))) taken w =
        let e = ap (λ k. so_far k taken) left.2 in let z = ap (once_looked n) none in ((omega arith), omega (arith, e, z))
    within_after (Learn inv tries r at r_in lacks) taken w =
        let w' = subst (λ k. IsWithin n k taken) at w in let x = w'.1 in ((omega arith), omega (arith, x))
    within_after (Return inv tries r reply at last is_in has) taken w =
        let w' = subst (λ k. IsWithin n k taken) at w in let x = w'.1 in omega (arith, x, last)
    within_after (Lay inv tries r image letter (inl first) r_in tells) taken w =
        let w' = subst (λ k. IsWithin n k taken) first.1 w in let x = w'.1 in let z = first.0 in let e = writes_on n tries (few_tries inv tries first.1) in
        ((omega arith), omega (arith, x, z, e))
    within_after (Lay inv tries r image letter (inr at) r_in tells) taken w =
        let w' = subst (λ k. IsWithin n k taken) at w in let x = w'.1 in ((omega arith), omega (arith, x))
    within_after (Bring inv tries image reply at same has) taken w =
        let w' = subst (λ k. IsWithin n k taken) at w in let x = w'.1 in omega (arith, x)
    within_after (Fail inv tries image at other) taken w =
        let w' = subst (λ k. IsWithin n k taken) at w in let x = w'.1 in omega (arith, x)
    within_after (Views idle) taken w = w
    within_after (See r idle r_in named follows) taken w = subst (λ k. IsWithin n k taken) (sym (seen_stage its r (m.buffers r p))) w

    -- a process in the midst of a call can take a step of it
    looks_on : (inv : I) (tries r : ℕ) → its.stage ≡ Reading inv tries r → r < n → StepOfCall object n m p
    looks_on inv tries r at r_in = elim (number_cases (r + 1) n) [
      | inr less ↦ (Learn inv tries r at r_in (λ last. absurd (less.0 last)), λ taken. refl)
      | inl last ↦ elim (number_cases (applied_in (found_by object n m p its r).image p) (made_by its + 1)) [
        | inr out ↦ (Learn inv tries r at r_in (λ e. out.0), λ taken. refl)
        | inl is_in ↦
            let to = learns_move meaning o n p (view_at meaning o n m.local p) refl refl inv tries r r_in at (contents_at meaning o n m) h.board m.local (λ q. q) (shown meaning o n few m acts h) (seat_at meaning o n few m p inside) in
            let own = (seen_fields its r (m.buffers r p)).0 in
            let t = ((to.4 inv tries at r_in).1 last.0).ends (is_in.0 ∙ ap (λ own'. length own' + 1) (sym own)) in
            (Return inv tries r t.0 at last.0 is_in.0 t.1, λ taken. refl)
      ]
    ]

    exchanges : (inv : I) (tries : ℕ) (image : Image S R) → its.stage ≡ Writing inv tries image n → StepOfCall object n m p
    exchanges inv tries image at = elim (number_cases m.word its.word) [
      | inr other ↦ (Fail inv tries image at other.0, λ taken. refl)
      | inl same ↦
          let to = brings_move meaning o n p (view_at meaning o n m.local p) refl refl inv tries image at (contents_at meaning o n m) h.board m.local (λ q. q) (shown meaning o n few m acts h) (seat_at meaning o n few m p inside) in
          let t = (to.4 inv tries image at).0 same.0 in
          (Bring inv tries image t.0 at same.0 t.1, λ taken. refl)
    ]

    next_of : (k : Stage I S R) → its.stage ≡ k → k ≢ Idle → HasLetter object n its k → StepOfCall object n m p
    next_of Idle at busy own = absurd (busy refl)
    next_of (Posting inv r) at busy own =
        let is = own_stage (Posting inv r) at in
        elim (lt_cases r n) [
          | inl below ↦ (let x = own below.0 in (Post inv r x.0 (inr at) below.0 is.0.few x.1, λ taken. ap (λ s. so_far s taken + 2) at))
          | inr above ↦
              let all : r ≡ n = (let a = above.0 in let b = is.2 in omega arith) in
              (Start inv 0 (inr (refl, inl (at ∙ ap (Posting inv) all))), λ taken. ap (λ s. so_far s taken + 1) at)
        ]
    next_of (Ready inv tries) at busy own = (Start inv tries (inl at), λ taken. ap (λ s. so_far s taken + 1) at)
    next_of (Reading inv tries r) at busy own =
        let is = own_stage (Reading inv tries r) at in
        elim (lt_cases r n) [
          | inl below ↦ looks_on inv tries r at below.0
          | inr above ↦
              let all : r ≡ n = (let a = above.0 in let b = is.2.most in omega arith) in
              let x = own all in
              (Lay inv tries 0 (drafted object (base_of object n its).image its.seen) x.0 (inl (refl, at ∙ ap (Reading inv tries) all, refl)) (let a = few.0 in omega arith) x.1, λ taken. refl)
        ]
    next_of (Writing inv tries image r) at busy own =
        let is = own_stage (Writing inv tries image r) at in
        elim (lt_cases r n) [
          | inl below ↦ (let x = own below.0 in (Lay inv tries r image x.0 (inr at) below.0 x.1, λ taken. refl))
          | inr above ↦
              let all : r ≡ n = (let a = above.0 in let b = is.2 in omega arith) in
              exchanges inv tries image (at ∙ ap (Writing inv tries image) all)
        ]

  within_end : (p : ℕ) → p < n → {m : Moment I S R} (acts : List (Act I R)) (taken : ℕ) → Holds meaning o n m acts → IsWithin n (m.local p).stage taken → (e : Execution object n m)
      → IsWithin n ((last_moment object n e).local p).stage (steps_of_call object n p taken e)
  within_end p inside acts taken h w Ends = w
  within_end p inside acts taken h w (Takes {m = m} q within next rest) =
      let l' = (effect_of object n m q (m.local q) next).leaves in
      within_end p inside (acts ++ acts_of object n m q next) (if p == q then counted object n m q next taken else taken) (step_holds meaning o n few m acts h q within next)
      (⊎_elim
      (λ same. subst (λ b. IsWithin n (if b then l' else m.local p).stage (if b then counted object n m q next taken else taken)) (sym same.1)
      (within_after m acts h q within next taken (subst (λ k. IsWithin n (m.local k).stage taken) same.0 w)))
      (λ other. subst (λ b. IsWithin n (if b then l' else m.local p).stage (if b then counted object n m q next taken else taken)) (sym other.1) w)
      (number_cases p q))
      rest

  bounded : (stage : Stage I S R) (taken : ℕ) → IsWithin n stage taken → taken ≤ 12 * n + 5
  bounded Idle taken w = w
  bounded (Posting inv r) taken w = (let x = w.1 in omega (arith, x))
  bounded (Ready inv tries) taken w = omega (arith, w)
  bounded (Reading inv tries r) taken w = (let x = w.1 in omega (arith, x))
  bounded (Writing inv tries image r) taken w = (let x = w.1 in omega (arith, x))

  pub keeps_bound : (e : Execution object n (opened_moment object n)) → KeepsBound object n e
  keeps_bound e p inside = bounded ((last_moment object n e).local p).stage (steps_of_call object n p 0 e)
      (within_end p inside [] 0 (opening_holds meaning o n few) (omega arith) e)

  pub never_blocks : (e : Execution object n (opened_moment object n)) → NeverBlocks object n e
  never_blocks e p inside busy own =
      let m : Moment I S R = last_moment object n e in
      next_of m (all_acts object n e) (all_acts_hold meaning o n few e) p inside (m.local p).stage refl busy own
