-- What a step links, and the dot that it has: the cell that it proposes, where nothing is linked yet; else none.
use Rattle.run_replay.proofs.Vocabulary.{AfterOf, Anchor, Bool, CallId, Coming, DecideAfter, DecideNew, Invariant, Invoked, IsComing, IsSound, Link, List, Memory, Name, None, Option, Pending, Sequential, Some, Stage, Step, WorldOf, [], after_of, after_of-memory_with, ap, append-nil, arith, call_after, call_of_name, calls_of, calls_of-calls_at, cells_from, chain, changes_place, dot_linked, dots_by, dots_of, drop, effect_of, enough, era_calls, false, has_changed, inl, inr, kind_of, length, memory_with, option_and_then, option_map_or, option_or, place_of, presence, proposed_at, refl, set_at, subst, sym, true, world_after, world_after_step, ℕ, ◌++◌, ◌+◌, ◌∙◌, ◌∷◌, ◌≡◌, ◌≤◌}
use Rattle.std.proofs.Math.Seq.{drop-append_seam}
use Rattle.uni_model.proofs.Chains.{calls_at, calls_at-append, calls_at-kept, cells_from-link, cells_from-same, invoked_at-same}
use Rattle.uni_model.proofs.Moves.{IsSound-moved}
use Rattle.uni_model.proofs.Numbered.{numbered_last, numbered_last-cases}
use Rattle.uni_model.proofs.Steps.{leads, links, nothing_after, outside, proposed, threaded_c}
use Rattle.run_replay.proofs.Replayed.{linearized_by_step}

-- the cell that a step links from this stage, if one
abbrev pub linked_at : {S I R : Type 0} → Memory S I R → Stage → Option Name
linked_at m (DecideAfter c s prefer) = option_map_or (λ _. None) (after_of m c) (Some prefer)
linked_at m _ = None

module _ {S I R : Type 0} (object : Sequential S I R) (w : WorldOf S I R) (num : Name → ℕ) (last : ℕ) (sound : IsSound object w num last) (p : ℕ) (mine : Name) where
  abbrev Links : (stage : Stage) → (linked : Option Name) → Type 0
  Links stage linked =
      calls_of (world_after_step object w p (Some (record { mine = mine; stage = stage }))) ≡ calls_of w ++ option_map_or (λ x. calls_at w.memory (x ∷ [])) linked []

  quiet : (stage : Stage) → w.call p ≡ Some (record { mine = mine; stage = stage })
      → let place = place_of w.n p mine stage in
      let e = effect_of object w.n mine stage (w.memory place) w.memory in
      ((x : Name) → after_of (memory_with w.memory place e.content) x ≡ after_of w.memory x) → Links stage None
  quiet stage is same =
      let place = place_of w.n p mine stage in
      let e = effect_of object w.n mine stage (w.memory place) w.memory in
      let moved = leads object w num last sound p mine stage is stage (sound.stands p (record { mine = mine; stage = stage }) is) in
      let m : Memory S I R = memory_with w.memory place e.content in
      calls_of-calls_at (world_after_step object w p (Some (record { mine = mine; stage = stage })))
      ∙ ap (calls_at m) (cells_from-same w.memory m same (era_calls w) Anchor)
      ∙ calls_at-kept w.memory m (invoked_at-same w.memory m moved.3.inv) (chain w)
      ∙ sym (calls_of-calls_at w)
      ∙ sym (append-nil (calls_of w))

  decides : (c : Name) (s : ℕ) (prefer : Name) → w.call p ≡ Some (record { mine = mine; stage = DecideAfter c s prefer })
      → (o : Option Name) → after_of w.memory c ≡ o → Links (DecideAfter c s prefer) (option_map_or (λ _. None) o (Some prefer))
  decides c s prefer is (Some d) link = quiet (DecideAfter c s prefer) is same where
    same : (x : Name) → after_of (memory_with w.memory (AfterOf c) (Link (option_or (after_of w.memory c) (Some prefer)))) x ≡ after_of w.memory x
    same x = elim (after_of-memory_with w.memory c x (option_or (after_of w.memory c) (Some prefer))) [
      | inl h ↦ h.1 ∙ (rw link refl ∙ sym link) ∙ ap (after_of w.memory) (sym h.0)
      | inr h ↦ h.1
    ]
  decides c s prefer is None at_end =
      let stage = DecideAfter c s prefer in
      let h = sound.stands p (record { mine = mine; stage = stage }) is in
      let m : Memory S I R = memory_with w.memory (AfterOf c) (Link (Some prefer)) in
      let out = outside object w num last sound p mine stage is c s prefer h.0 h.1 h.2 at_end in
      let moves = links object w num last sound p mine stage is c s prefer h.0 h.1 h.2 at_end in
      let anchor : numbered_last num last prefer Anchor ≡ num Anchor = elim (numbered_last-cases num last prefer Anchor) [
        | inl same ↦ absurd (let first = sound.numbered.first in let e : num Anchor ≡ num prefer = ap num same.0 in omega arith)
        | inr other ↦ other.1
      ] in
      let v = world_after_step object w p (Some (record { mine = mine; stage = stage })) in
      let all : last + 1 ≤ numbered_last num last prefer Anchor + era_calls w
      = enough object (record { n = w.n; memory = m; call = set_at w.call p (call_after mine (Some (DecideNew c s prefer))); begun = w.begun; first = w.first; among = w.among; steps = w.steps; turns = w.turns }) (numbered_last num last prefer) (last + 1)
      (IsSound-moved object w num last sound p mine stage is m (numbered_last num last prefer) (last + 1) (Some (DecideNew c s prefer)) moves w.steps w.turns) in
      calls_of-calls_at v
      ∙ rw at_end refl
      ∙ calls_at-kept w.memory m (invoked_at-same w.memory m (λ x. refl)) (cells_from (era_calls w) m Anchor)
      ∙ ap (calls_at w.memory) (cells_from-link w.memory num last sound.numbered c prefer (threaded_c object w num last sound p mine stage is c s prefer h.0 h.1 h.2 at_end) at_end out
      (nothing_after object w num last sound p mine stage is c s prefer h.0 h.1 h.2 at_end) (era_calls w) Anchor sound.numbered.first (omega (arith, all, anchor)))
      ∙ calls_at-append w.memory num last sound.numbered sound.calls.linked (era_calls w) Anchor (prefer ∷ []) sound.numbered.first
      ∙ ap (λ cs. cs ++ calls_at w.memory (prefer ∷ [])) (sym (calls_of-calls_at w))

  links_at : (stage : Stage) → w.call p ≡ Some (record { mine = mine; stage = stage }) → Links stage (linked_at w.memory stage)
  links_at (DecideAfter c s prefer) is = decides c s prefer is (after_of w.memory c) refl
  links_at stage is = quiet stage is (λ x. refl)

lost : (place p : ℕ) (proposed : Option CallId) → dot_linked place p proposed false ≡ []
lost place p None = refl
lost place p (Some call) = refl

module _ {S I R : Type 0} (object : Sequential S I R) (w : WorldOf S I R) (inv : Invariant object w) (place p : ℕ) where
  -- the dot of a step is that of the call whose cell it linked
  abbrev HasDot : Pending → Type 0
  HasDot c = dot_linked place p (option_and_then call_of_name (proposed_at c.stage)) (changes_place object w p c)
      ≡ dots_of place p (option_map_or (λ x. calls_at w.memory (x ∷ [])) (linked_at w.memory c.stage) [])

  has_dot : (mine : Name) (stage : Stage) → w.call p ≡ Some (record { mine = mine; stage = stage }) → HasDot (record { mine = mine; stage = stage })
  has_dot mine (DecideAfter k s prefer) is =
      ap (λ o. dot_linked place p (call_of_name prefer) (has_changed (kind_of stage) (presence (after_of w.memory k)) (presence o))) after
      ∙ by_after (after_of w.memory k) refl
    where
      stage : Stage
      stage = DecideAfter k s prefer

      after : after_of (world_after object w (Step p)).memory k ≡ option_or (after_of w.memory k) (Some prefer)
      after = subst (λ o. after_of (world_after_step object w p o).memory k ≡ option_or (after_of w.memory k) (Some prefer)) (sym is)
          (elim (after_of-memory_with w.memory k k (option_or (after_of w.memory k) (Some prefer))) [ inl h ↦ h.1 | inr h ↦ absurd (h.0 refl) ])

      by_after : (o : Option Name) → after_of w.memory k ≡ o
          → dot_linked place p (call_of_name prefer) (has_changed (kind_of stage) (presence o) (presence (option_or o (Some prefer))))
          ≡ dots_of place p (option_map_or (λ x. calls_at w.memory (x ∷ [])) (option_map_or (λ _. None) o (Some prefer)) [])
      by_after (Some d) link = lost place p (call_of_name prefer)
      by_after None at_end =
          let its = proposed object w inv.0 inv.1 inv.2 p mine stage is s prefer (inv.2.stands p (record { mine = mine; stage = stage }) is).2 in
          subst (λ x. dot_linked place p (call_of_name x) true ≡ dots_of place p (calls_at w.memory (x ∷ []))) (sym its.2) (rw its.3.1 refl)
  has_dot mine stage is = refl

  -- the dots of a step that was taken are that of the cell which it proposed, where it changed its place
  pub dots_by-taken : (coming : Coming) (is : IsComing w p coming) (changed : Bool) → changed ≡ changes_place object w p is.pending
      → dot_linked place p coming.proposed changed ≡ dots_by object w place (Step p)
  dots_by-taken coming is changed has =
      let c = is.pending in
      let linked : List (Invoked I) = option_map_or (λ x. calls_at w.memory (x ∷ [])) (linked_at w.memory c.stage) [] in
      ap (dot_linked place p coming.proposed) has ∙ ap (λ q. dot_linked place p q (changes_place object w p c)) is.proposed ∙ has_dot c.mine c.stage is.is
      ∙ sym (ap (dots_of place p) (linearized_by_step object w p
      ∙ ap (drop (length (calls_of w))) (subst (λ o. calls_of (world_after_step object w p o) ≡ calls_of w ++ linked) (sym is.is) (links_at object w inv.0 inv.1 inv.2 p c.mine c.stage is.is))
      ∙ drop-append_seam (calls_of w) linked))
