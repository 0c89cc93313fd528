-- What is told of a process's next step: that its cells are there, and whether it changes its place.
use Rattle.uni_core.proofs.Vocabulary.{AfterOf, Anchor, Announce, Announced, BeforeOf, Bool, CanStep, ChangesAt, DecideAfter, DecideNew, Finish, Has, HeadOf, IfSome, InvOf, IsThere, IsTrue, IsWorld, Name, NewOf, None, Of, Option, Pending, Place, ReadAnnounce, ReadHelpSeq, ScanHead, ScanSeq, SeqOf, Sequential, SharedEntries, Some, Stage, Step, Test, WorldParts, WriteBefore, WriteHead, WriteScan, WriteSeq, ap, arith, effect_at, inl, inr, inv_of, memory_of, mod_below, named, option_map, pending_of, place_of, processes_of, refl, stage_of, subst, sym, world_after, world_of, ℕ, ◌<◌, ◌↔◌, ◌∙◌, ◌≡◌, ◌≢◌}
use Rattle.uni_model.specs.Stages.{Stage as at, Pending as PendingAt}
use Rattle.uni_model.proofs.SamePlace.{place_eq_same}
use Rattle.uni_core.specs.declared.stage.Place.{Place as PlaceById}
use Rattle.uni_core.specs.declared.stage.Place.TheVariants as by_id
use Rattle.uni_core.specs.Readers.{place_named, proposed_at, ChangesItsPlace, IsPlaceIn}
use Rattle.uni_core.proofs.Begin.{inside_view}
use Rattle.uni_core.proofs.Steppable.{CanStep-pending, there_inv}

-- names that tell their index
abbrev coded : ℕ → Name
coded i = Of i 0

-- a place of such a name is that of one of n processes, or of a cell that there is
abbrev IsCellIn : (There : ℕ → Type 0) → Name → Type 0
IsCellIn There Anchor = ⊥
IsCellIn There (Of i k) = There i

abbrev IsIn : (n : ℕ) → (There : ℕ → Type 0) → Place → Type 0
IsIn n There (Announced p) = p < n
IsIn n There (HeadOf p) = p < n
IsIn n There (InvOf x) = IsCellIn There x
IsIn n There (SeqOf x) = IsCellIn There x
IsIn n There (AfterOf x) = IsCellIn There x
IsIn n There (NewOf x) = IsCellIn There x
IsIn n There (BeforeOf x) = IsCellIn There x

IsIn-coded : (n : ℕ) (There : ℕ → Type 0) (place : PlaceById) → IsIn n There (place_named coded place) → IsPlaceIn n There place
IsIn-coded n There (by_id.Announced p) h = h
IsIn-coded n There (by_id.HeadOf p) h = h
IsIn-coded n There (by_id.SeqOf c) h = h
IsIn-coded n There (by_id.AfterOf c) h = h
IsIn-coded n There (by_id.NewOf c) h = h
IsIn-coded n There (by_id.BeforeOf c) h = h

-- the place of a step is
place_there : {S I R : Type 0} (a : SharedEntries S I R) (n p mine : ℕ) → n ≡ processes_of a.cells → p < n → (stage : Stage) → CanStep a mine stage
    → IsIn n (IsThere a) (place_of n p (coded mine) (stage_of coded stage))
place_there a n p mine count inside Announce can = inside
place_there a n p mine count inside (ScanHead q best s) can = subst (λ k. q < k) (sym count) can
place_there a n p mine count inside (ScanSeq q best s head) can = can.1
place_there a n p mine count inside (WriteScan best s) can = inside
place_there a n p mine count inside (Test c s) can = can
place_there a n p mine count inside (ReadAnnounce c s) can = mod_below s n (omega (arith, inside))
place_there a n p mine count inside (ReadHelpSeq c s help) can = can
place_there a n p mine count inside (DecideAfter c s prefer) can = can
place_there a n p mine count inside (DecideNew c s d) can = can.1
place_there a n p mine count inside (WriteBefore c s d) can = can
place_there a n p mine count inside (WriteSeq c s d) can = can.0
place_there a n p mine count inside (WriteHead c s d) can = inside
place_there a n p mine count inside (Finish s t) can = inside

-- where a process stands in a call that is pending, as it was read
module _ {O S I R : Type 0} (object : Sequential S I R) (v now : WorldParts O S I R) (view : v ≡ now) (is : IsWorld object v) (p : ℕ) (below : p < processes_of now.shared.cells)
    (o : Option Pending) (call : Pending) (some : o ≡ Some call) (read : option_map (pending_of (named now.shared)) o ≡ (world_of now).call p) where
  inside : p < processes_of v.shared.cells
  inside = inside_view v now p view below

  pend : (world_of v).call p ≡ Some (pending_of (named v.shared) call)
  pend = subst (λ (x : WorldParts O S I R). (world_of x).call p ≡ Some (pending_of (named x.shared) call)) (sym view)
      (sym read ∙ ap (option_map (pending_of (named now.shared))) some)

  pub can_step_now : CanStep v.shared call.mine call.stage
  can_step_now = CanStep-pending object v is p inside call.mine call.stage pend

  pub place_there_now : (n : ℕ) → n ≡ processes_of now.shared.cells → (place : PlaceById)
      → ((name : ℕ → Name) → place_named name place ≡ place_of n p (name call.mine) (stage_of name call.stage))
      → IsPlaceIn (processes_of now.shared.cells) (λ cell. IsThere now.shared cell) place
  place_there_now n count place means =
      subst (λ k. IsPlaceIn k (λ cell. IsThere now.shared cell) place) count
      (subst (λ (x : WorldParts O S I R). IsPlaceIn n (λ cell. IsThere x.shared cell) place) view
      (IsIn-coded n (λ cell. IsThere v.shared cell) place (subst (IsIn n (λ cell. IsThere v.shared cell)) (sym (means coded))
      (place_there v.shared n p call.mine (count ∙ ap (λ (x : WorldParts O S I R). processes_of x.shared.cells) (sym view)) (subst (λ k. p < k) (sym count) below) call.stage can_step_now))))

  -- the cell that it proposes is one of a call of the era
  proposal_has : (stage : at) → (world_of v).call p ≡ Some (record { mine = named v.shared call.mine; stage = stage }) → (x : Name) → proposed_at stage ≡ Some x
      → Has (inv_of (memory_of v.shared) x)
  proposal_has (at.DecideAfter c s prefer) e x proposes =
      let same : prefer ≡ x = cc in
      let its = is.sound.2.calls.mine p (record { mine = named v.shared call.mine; stage = at.DecideAfter c s prefer }) e in
      subst (λ y. Has (inv_of (memory_of v.shared) y)) same (elim (is.sound.2.stands p (record { mine = named v.shared call.mine; stage = at.DecideAfter c s prefer }) e).2 [
        | inl own ↦ (its.3.0, ap (inv_of (memory_of v.shared)) (own ∙ its.1) ∙ its.3.1)
        | inr help ↦ (help.2.0, ap (inv_of (memory_of v.shared)) help.1 ∙ help.2.1)
      ])
  proposal_has at.Announce e x proposes = cc
  proposal_has (at.ScanHead q best s) e x proposes = cc
  proposal_has (at.ScanSeq q best s h) e x proposes = cc
  proposal_has (at.WriteScan best s) e x proposes = cc
  proposal_has (at.Test c s) e x proposes = cc
  proposal_has (at.ReadAnnounce c s) e x proposes = cc
  proposal_has (at.ReadHelpSeq c s help) e x proposes = cc
  proposal_has (at.DecideNew c s d) e x proposes = cc
  proposal_has (at.WriteBefore c s d) e x proposes = cc
  proposal_has (at.WriteSeq c s d) e x proposes = cc
  proposal_has (at.WriteHead c s d) e x proposes = cc
  proposal_has (at.Finish s t) e x proposes = cc

  pub proposal_there_now : (cell : Option ℕ) → ((name : ℕ → Name) → option_map name cell ≡ proposed_at (stage_of name call.stage))
      → IfSome cell (λ id. IsThere now.shared id)
  proposal_there_now None means = tt
  proposal_there_now (Some id) means =
      subst (λ (x : WorldParts O S I R). IsThere x.shared id) view
      (there_inv v.shared (omega (arith, inside)) id (proposal_has (stage_of (named v.shared) call.stage) pend (named v.shared id) (sym (means (named v.shared)))))

  abbrev at_v : PendingAt
  at_v = pending_of (named v.shared) call

  module _ (meaning : Sequential S I R) where
    -- what its place contains after the step
    written : (world_after meaning (world_of v) (Step p)).memory (place_of (processes_of v.shared.cells) p at_v.mine at_v.stage)
        ≡ (effect_at meaning v.shared p at_v.mine at_v.stage).content
    written = rw pend (rw (place_eq_same (place_of (processes_of v.shared.cells) p at_v.mine at_v.stage)) refl)

    differs : ChangesItsPlace meaning (world_of v) p → ChangesAt meaning v.shared p at_v.mine at_v.stage
    differs changes same =
        subst (λ (c : PendingAt). (world_after meaning (world_of v) (Step p)).memory (place_of (processes_of v.shared.cells) p c.mine c.stage)
        ≢ memory_of v.shared (place_of (processes_of v.shared.cells) p c.mine c.stage)) (let e : Some changes.0 ≡ Some at_v = sym changes.1 ∙ pend in cc) changes.2
        (written ∙ same)

    changes_in_view : (b : Bool) → IsTrue b ↔ ChangesAt meaning v.shared p at_v.mine at_v.stage → IsTrue b ↔ ChangesItsPlace meaning (world_of v) p
    changes_in_view b test = ((λ t. (at_v, pend, λ e. test.0 t (sym written ∙ e))), (λ changes. test.1 (differs changes)))

  pub changes_now : (sequential : O → Sequential S I R) (b : Bool) → IsTrue b ↔ ChangesAt (sequential v.object) v.shared p at_v.mine at_v.stage
      → IsTrue b ↔ ChangesItsPlace (sequential now.object) (world_of now) p
  changes_now sequential b test =
      subst (λ (x : WorldParts O S I R). IsTrue b ↔ ChangesItsPlace (sequential x.object) (world_of x) p) view (changes_in_view (sequential v.object) b test)
