-- The atomic object accepts what each event does.
use Rattle.uni_model.proofs.Vocabulary.{AcceptsAll, Act, AfterOf, All-contains, All-from_recursion, Anchor, Announce, AtHead, Atomic, Bool, Call, Contains, DecideAfter, DecideNew, Finish, Has, InvOf, Invocation, Invoked, IsCellOf, IsPast, IsSound, Linearize, Link, List, Memory, Name, None, Of, Option, Pending, ReadAnnounce, ReadHelpSeq, ScanHead, ScanSeq, Sequential, Shows, Some, Stage, Step, Test, WorldOf, WriteBefore, WriteHead, WriteScan, WriteSeq, [], acts_of, after_of, ap, arith, call_after, calls_in_era, calls_of, can_be_linked, cases_lt, chain, cond, drop, effect_of, era_calls, false, inl, inr, inv_of, invoked_at, length, map, memory_with, nat_eq, new_of, open_at, option_map, option_map_or, option_or, place_of, refl, response_after, response_at, response_in, responses_of, seq_of, set_at, slice_get, slice_get-map, state_after, subst, sum_below, sym, take, true, turn_of, unwrap_or, world_after, world_after_call, world_after_step, ℕ, ◌%◌, ◌++◌, ◌+◌, ◌-◌, ◌<◌, ◌∙◌, ◌∷◌, ◌≡◌, ◌≢◌, ◌≤◌, ◌⊎◌}
use Rattle.uni_model.proofs.Written.{set_at-cases, inv_of-memory_with, after_of-memory_with, number_cases}
use Rattle.uni_model.proofs.Moves.{Moves, IsSound-moved}
use Rattle.uni_model.proofs.Steps.{leads, links, outside, nothing_after, threaded_c, number_later, proposed}
use Rattle.uni_model.proofs.Numbered.{numbered_last-cases}
use Rattle.uni_model.proofs.Sums.{sum_below-le}
use Rattle.uni_model.proofs.Chains.{calls_at, map-entries_from, invoked_at-same, cells_from-same, cells_from-enough, calls_at-same, calls_at-append, calls_at-kept, linked_calls, slice_get-calls_at, response_at-calls_at, cells_from-link}
use Rattle.uni_model.proofs.Begun.{IsSound-begun, not_linked}

pub calls_of-calls_at : {S I R : Type 0} (w : WorldOf S I R) → calls_of w ≡ calls_at w.memory (chain w)
calls_of-calls_at w = map-entries_from w.memory (seq_of w.memory Anchor + 1) (chain w)

pub set_at_same : {A : Type 0} (f : ℕ → A) (p : ℕ) (v : A) → set_at f p v p ≡ v
set_at_same f p v = elim (set_at-cases f p v p) [ inl h ↦ h.1 | inr h ↦ absurd (h.0 refl) ]

drop_length : {A : Type 0} (xs : List A) → drop (length xs) xs ≡ []
drop_length [] = refl
drop_length (x ∷ xs) = drop_length xs

drop_length-append : {A : Type 0} (xs ys : List A) → drop (length xs) (xs ++ ys) ≡ ys
drop_length-append [] ys = refl
drop_length-append (x ∷ xs) ys = drop_length-append xs ys

module _ {S I R : Type 0} (object : Sequential S I R) (w : WorldOf S I R) (num : Name → ℕ) (last : ℕ) (sound : IsSound object w num last) where
  -- the calls of the era are enough to go along the chain
  pub enough : last ≤ num Anchor + era_calls w
  enough =
      let rising : sum_below w.n (λ q. can_be_linked num (w.call q) (calls_in_era w q)) ≤ era_calls w = sum_below-le w.n _ _ (λ q h. at_most (w.call q) (calls_in_era w q)) in
      let was : last ≤ num Anchor + sum_below w.n (λ q. can_be_linked num (w.call q) (calls_in_era w q)) = sound.count in
      omega arith where
        at_most : (o : Option Pending) (calls : ℕ) → can_be_linked num o calls ≤ calls
        at_most None calls = omega arith
        at_most (Some c) calls = by_test (nat_eq (num c.mine) 0) where
          by_test : (b : Bool) → cond b (calls - 1) calls ≤ calls
          by_test true = omega arith
          by_test false = omega arith

module _ {S I R : Type 0} (object : Sequential S I R) (w : WorldOf S I R) (num : Name → ℕ) (last : ℕ) (sound : IsSound object w num last) where
  open_call_of : (q : ℕ) (c : Pending) → w.call q ≡ Some c → (k : ℕ) × (i : I) × (c.mine ≡ Of q k) × (inv_of w.memory (Of q k) ≡ Some i)
  open_call_of q c e = let its = sound.calls.mine q c e in (its.0, its.3.0, its.1, its.3.1)

  module _ (p : ℕ) (mine : Name) (from : Stage) (is : w.call p ≡ Some (record { mine = mine; stage = from })) (a : Atomic S I) (shows : Shows w a) where
    -- p's open call
    own : (k : ℕ) × (i : I) × (mine ≡ Of p k) × (inv_of w.memory (Of p k) ≡ Some i)
    own = open_call_of p (record { mine = mine; stage = from }) is

    own_invoked : (k : ℕ) (i : I) → mine ≡ Of p k → inv_of w.memory (Of p k) ≡ Some i → invoked_at w.memory mine ≡ Some (record { process = p; nth = k; inv = i })
    own_invoked k i its inv = ap (invoked_at w.memory) its ∙ rw inv refl

    own_open : a.open_call p ≡ Some (record { process = p; nth = own.0; inv = own.1 })
    own_open =
        sym (shows.open_call p) ∙ (ap (open_at w.memory) is ∙ rw (own_invoked own.0 own.1 own.2 own.3) refl)

    module _ (m : Memory S I R) (num' : Name → ℕ) (last' : ℕ) (stage : Option Stage) (moves : Moves object w num p mine m num' last' stage) (steps turns : ℕ → ℕ) where
      abbrev pub later : WorldOf S I R
      later = record { n = w.n; memory = m; call = set_at w.call p (call_after mine stage); begun = w.begun; first = w.first; among = w.among; steps = steps; turns = turns }

      invoked_kept : (x : Name) → invoked_at m x ≡ invoked_at w.memory x
      invoked_kept = invoked_at-same w.memory m moves.inv

      -- where no `after` changes, the calls of the chain stay
      calls_kept : ((x : Name) → after_of m x ≡ after_of w.memory x) → calls_of later ≡ calls_of w
      calls_kept same =
          calls_of-calls_at later
          ∙ ap (calls_at m) (cells_from-same w.memory m same (era_calls w) Anchor)
          ∙ calls_at-same w.memory num last sound.numbered m (λ x h. invoked_kept x) (era_calls w) Anchor
          ∙ sym (calls_of-calls_at w)

      start_kept : new_of m Anchor ≡ Some (a.start, None)
      start_kept = moves.grows.new Anchor (a.start, None) shows.start

      open_at-kept : (o : Option Pending) → open_at m o ≡ open_at w.memory o
      open_at-kept None = refl
      open_at-kept (Some c) = invoked_kept c.mine

      open_kept : (k : Stage) → stage ≡ Some k → (q : ℕ) → open_at m (set_at w.call p (call_after mine stage) q) ≡ a.open_call q
      open_kept k on q = elim (set_at-cases w.call p (call_after mine stage) q) [
        | inl at_p ↦
            rw (at_p.1, on) (
            invoked_kept mine
            ∙ sym (ap (open_at w.memory) (ap w.call at_p.0 ∙ is)) ∙ shows.open_call q)
        | inr other ↦ rw other.1 (open_at-kept (w.call q) ∙ shows.open_call q)
      ]

      -- the acts of a step
      abbrev pub acts : List (Act I R)
      acts = map Linearize (drop (length (calls_of w)) (calls_of later)) ++ responses_of w.memory p mine (response_after mine from w.memory)

      -- a step that links nothing and ends nothing
      pub silent : ((x : Name) → after_of m x ≡ after_of w.memory x) → (k : Stage) → stage ≡ Some k → response_after mine from w.memory ≡ None
          → (b : Atomic S I) × Shows later b × AcceptsAll object a acts b
      silent same k on nothing = (
        a,
        record { start = start_kept; agreed = calls_kept same ∙ shows.agreed; open_call = open_kept k on; next_nth = shows.next_nth },
        rw (calls_kept same, drop_length (calls_of w), nothing) refl,
      )

      -- the last step of a call
      pub ends : ((x : Name) → after_of m x ≡ after_of w.memory x) → stage ≡ None → response_after mine from w.memory ≡ response_in w.memory mine → 1 ≤ seq_of w.memory mine
          → (b : Atomic S I) × Shows later b × AcceptsAll object a acts b
      ends same done responds threaded =
          let number : seq_of w.memory mine ≡ num mine = sound.numbered.seq mine threaded in
          let least : num Anchor ≤ num mine = sound.numbered.least mine (omega arith) in
          let first : 1 ≤ num Anchor = sound.numbered.first in
          let past : num Anchor < num mine = elim (cases_lt (num Anchor) (num mine)) [
            | inl less ↦ less
            | inr more ↦ absurd (let anchor = sound.numbered.one_each Anchor mine first (omega arith) in let name = own.2 in cc)
          ] in
          let place : ℕ = num mine - num Anchor - 1 in
          let top : num mine ≤ last = sound.numbered.greatest mine in
          let steps_enough : last ≤ num Anchor + era_calls w = enough object w num last sound in
          let settled = sound.values.threaded mine threaded in
          let call = own_invoked own.0 own.1 own.2 own.3 in
          let stands : slice_get (calls_at w.memory (chain w)) place ≡ Some (record { process = p; nth = own.0; inv = own.1 })
          = slice_get-calls_at w.memory num last sound.numbered sound.calls.linked (era_calls w) Anchor mine place first (omega arith) (omega arith) ∙ call in
          let response : response_at object a.start (map (λ (c : Invoked I). c.inv) (calls_at w.memory (chain w))) place ≡ settled.0.1
          = response_at-calls_at w.memory num last sound.numbered sound.calls.linked object sound.values sound.calls.anchor (era_calls w) Anchor mine place
          (a.start, None) settled.0 first (omega arith) (omega arith) shows.start settled.1 in
          finished place settled.1 stands response where
            agreed_is : a.agreed ≡ calls_at w.memory (chain w)
            agreed_is = sym shows.agreed ∙ calls_of-calls_at w

            open_later : (q : ℕ) → open_at m (set_at w.call p (call_after mine stage) q) ≡ set_at a.open_call p None q
            open_later q = elim (set_at-cases w.call p (call_after mine stage) q) [
              | inl at_p ↦ rw (at_p.1, done) (elim (set_at-cases a.open_call p None q) [ inl h ↦ sym h.1 | inr h ↦ absurd (h.0 at_p.0) ])
              | inr other ↦ rw other.1 (open_at-kept (w.call q) ∙ shows.open_call q ∙ (elim (set_at-cases a.open_call p None q) [ inl h ↦ absurd (other.0 h.0) | inr h ↦ sym h.1 ]))
            ]

            finished : (place : ℕ) → {v : S × Option R} → new_of w.memory mine ≡ Some v
                → slice_get (calls_at w.memory (chain w)) place ≡ Some (record { process = p; nth = own.0; inv = own.1 })
                → response_at object a.start (map (λ (c : Invoked I). c.inv) (calls_at w.memory (chain w))) place ≡ v.1
                → (b : Atomic S I) × Shows later b × AcceptsAll object a acts b
            finished place {v} settled stands response =
                let at_place : slice_get (map (λ (c : Invoked I). c.inv) (calls_at w.memory (chain w))) place ≡ Some own.1
                = slice_get-map (λ (c : Invoked I). c.inv) (calls_at w.memory (chain w)) place ∙ ap (option_map (λ (c : Invoked I). c.inv)) stands in
                let r : R = object.answer (state_after object a.start (take place (map (λ (c : Invoked I). c.inv) (calls_at w.memory (chain w))))) own.1 in
                let is_r : response_at object a.start (map (λ (c : Invoked I). c.inv) (calls_at w.memory (chain w))) place ≡ Some r = rw at_place refl in
                let told : response_after mine from w.memory ≡ Some r = responds ∙ rw settled (sym response ∙ is_r) in
                let call : invoked_at w.memory mine ≡ Some (record { process = p; nth = own.0; inv = own.1 }) = own_invoked own.0 own.1 own.2 own.3 in (
                  record a { open_call = set_at a.open_call p None },
                  record { start = start_kept; agreed = calls_kept same ∙ shows.agreed; open_call = open_later; next_nth = shows.next_nth },
                  rw (calls_kept same, drop_length (calls_of w), told, call) (
                    record a { open_call = set_at a.open_call p None },
                    ((own.1, place, own_open, (ap (λ cs. slice_get cs place) agreed_is ∙ stands), (ap (λ cs. response_at object a.start (map (λ (c : Invoked I). c.inv) cs) place) agreed_is ∙ is_r)), refl),
                    refl,
                  ),
                )

    -- a cell is linked: its call takes effect
    module _ (c : Name) (s : ℕ) (prefer : Name) (h : AtHead w.memory p c s) (past : IsPast num prefer s) (cell : (prefer ≡ mine) ⊎ IsCellOf w.memory (s % w.n) prefer)
        (at_end : after_of w.memory c ≡ None) (steps turns : ℕ → ℕ) where
      abbrev pub linked_memory : Memory S I R
      linked_memory = memory_with w.memory (AfterOf c) (Link (Some prefer))

      abbrev pub moves_link : Moves object w num p mine linked_memory (number_later object w num last sound p mine from is c s prefer h past cell at_end) (last + 1) (Some (DecideNew c s prefer))
      moves_link = links object w num last sound p mine from is c s prefer h past cell at_end

      abbrev pub its : (o : ℕ) × (k : ℕ) × (prefer ≡ Of o k) × Has (inv_of w.memory (Of o k))
      its = proposed object w num last sound p mine from is s prefer cell

      abbrev pub its_call : Invoked I
      its_call = record { process = its.0; nth = its.1; inv = its.3.0 }

      outside_chain : num prefer ≡ 0
      outside_chain = outside object w num last sound p mine from is c s prefer h past cell at_end

      anchor_number : number_later object w num last sound p mine from is c s prefer h past cell at_end Anchor ≡ num Anchor
      anchor_number = elim (numbered_last-cases num last prefer Anchor) [
        | inl same ↦ absurd (let none : num prefer ≡ 0 = outside_chain in let first : 1 ≤ num Anchor = sound.numbered.first in let e : num Anchor ≡ num prefer = ap num same.0 in omega arith)
        | inr other ↦ other.1
      ]

      abbrev pub linked_world : WorldOf S I R
      linked_world = record { n = w.n; memory = linked_memory; call = set_at w.call p (call_after mine (Some (DecideNew c s prefer))); begun = w.begun; first = w.first; among = w.among; steps = steps; turns = turns }

      linked_enough : last + 1 ≤ num Anchor + era_calls w
      linked_enough =
          let anchor = anchor_number in
          let all : last + 1 ≤ number_later object w num last sound p mine from is c s prefer h past cell at_end Anchor + era_calls w
          = enough object linked_world _ (last + 1) (IsSound-moved object w num last sound p mine from is linked_memory _ (last + 1) (Some (DecideNew c s prefer)) moves_link steps turns) in
          omega arith

      its_invoked : invoked_at w.memory prefer ≡ Some its_call
      its_invoked = ap (invoked_at w.memory) its.2 ∙ rw its.3.1 refl

      calls_linked : calls_of linked_world ≡ calls_of w ++ its_call ∷ []
      calls_linked =
          calls_of-calls_at linked_world
          ∙ calls_at-kept w.memory linked_memory (invoked_at-same w.memory linked_memory (λ x. refl)) (chain linked_world)
          ∙ ap (calls_at w.memory) (cells_from-link w.memory num last sound.numbered c prefer
          (threaded_c object w num last sound p mine from is c s prefer h past cell at_end) at_end outside_chain
          (nothing_after object w num last sound p mine from is c s prefer h past cell at_end) (era_calls w) Anchor sound.numbered.first linked_enough)
          ∙ calls_at-append w.memory num last sound.numbered sound.calls.linked (era_calls w) Anchor (prefer ∷ []) sound.numbered.first
          ∙ ap (λ o. calls_at w.memory (chain w) ++ option_map_or (λ (call : Invoked I). call ∷ []) o []) its_invoked
          ∙ ap (λ cs. cs ++ its_call ∷ []) (sym (calls_of-calls_at w))

      its_open : a.open_call its.0 ≡ Some (record { process = its.0; nth = its.1; inv = its.3.0 })
      its_open = elim (sound.calls.threaded its.0 its.1 its.3) [
        | inl threaded ↦ absurd (
            let number : seq_of w.memory (Of its.0 its.1) ≡ num (Of its.0 its.1) = sound.numbered.seq (Of its.0 its.1) threaded in
            let zero : num (Of its.0 its.1) ≡ 0 = subst (λ x. num x ≡ 0) its.2 outside_chain in omega arith)
        | inr pending ↦ sym (shows.open_call its.0) ∙ (ap (open_at w.memory) pending.1
            ∙ ap (invoked_at w.memory) (pending.2 ∙ sym its.2)
            ∙ its_invoked)
      ]

      its_new : ¬ (Contains a.agreed its_call)
      its_new there =
          let in_chain : Contains (calls_at w.memory (chain w)) its_call = subst (λ cs. Contains cs its_call) (sym shows.agreed ∙ calls_of-calls_at w) there in
          let linked : 1 ≤ num (Of its.0 its.1) = All-contains (λ (c : Invoked I). 1 ≤ num (Of c.process c.nth)) (calls_at w.memory (chain w)) its_call
          (All-from_recursion (λ (c : Invoked I). 1 ≤ num (Of c.process c.nth)) (calls_at w.memory (chain w)) (linked_calls w.memory num last sound.numbered (era_calls w) Anchor)) in_chain in
          let zero : num (Of its.0 its.1) ≡ 0 = subst (λ x. num x ≡ 0) its.2 outside_chain in
          omega arith

      pub linearizes : response_after mine from w.memory ≡ None → (b : Atomic S I) × Shows linked_world b
          × AcceptsAll object a (acts linked_memory _ (last + 1) (Some (DecideNew c s prefer)) moves_link steps turns) b
      linearizes nothing = (
        record a { agreed = a.agreed ++ its_call ∷ [] },
        record {
          start = shows.start;
          agreed = calls_linked ∙ ap (λ cs. cs ++ its_call ∷ []) shows.agreed;
          open_call = open_kept linked_memory _ (last + 1) (Some (DecideNew c s prefer)) moves_link steps turns (DecideNew c s prefer) refl;
          next_nth = shows.next_nth;
        },
        rw (calls_linked, drop_length-append (calls_of w) (its_call ∷ []), nothing)
            (record a { agreed = a.agreed ++ its_call ∷ [] }, (its_open, its_new, refl), refl),
      )

    -- what is to be shown of a step that leaves this memory and this stage: the world then shows what the atomic object is after the acts
    abbrev pub Outcome : Memory S I R → Option Stage → Type 0
    Outcome m stage = let steps = set_at w.steps p (w.steps p + 1) in let turns = set_at w.turns p (w.turns p + turn_of from (w.memory (place_of w.n p mine from))) in
        let later : WorldOf S I R = record { n = w.n; memory = m; call = set_at w.call p (call_after mine stage); begun = w.begun; first = w.first; among = w.among; steps = steps; turns = turns } in
        (b : Atomic S I) × Shows later b
        × AcceptsAll object a (map Linearize (drop (length (calls_of w)) (calls_of later)) ++ responses_of w.memory p mine (response_after mine from w.memory)) b

  abbrev pub SimulatesAt : (p : ℕ) → Atomic S I → Option Pending → Type 0
  SimulatesAt p a call =
      let later = world_after_step object w p call in
      (b : Atomic S I) × Shows later b × AcceptsAll object a (map Linearize (drop (length (calls_of w)) (calls_of later)) ++ option_map_or (λ (c : Pending). responses_of w.memory p c.mine (response_after c.mine c.stage w.memory)) call []) b

  module _ (p : ℕ) (mine : Name) (a : Atomic S I) (shows : Shows w a) where
    quiet : (stage : Stage) → w.call p ≡ Some (record { mine = mine; stage = stage })
        → let place = place_of w.n p mine stage in
        let e = effect_of object w.n mine stage (w.memory place) w.memory in
        ((x : Name) → after_of (memory_with w.memory place e.content) x ≡ after_of w.memory x) → (k : Stage) → e.stage ≡ Some k → response_after mine stage w.memory ≡ None
        → SimulatesAt p a (Some (record { mine = mine; stage = stage }))
    quiet stage is same k on nothing =
        let place = place_of w.n p mine stage in
        let e = effect_of object w.n mine stage (w.memory place) w.memory in
        let moved = leads object w num last sound p mine stage is stage (sound.stands p (record { mine = mine; stage = stage }) is) in
        silent p mine stage is a shows (memory_with w.memory place e.content) moved.0 moved.1 e.stage moved.3
        (set_at w.steps p (w.steps p + 1)) (set_at w.turns p (w.turns p + turn_of stage (w.memory place))) same k on nothing

    decides : (c : Name) (s : ℕ) (prefer : Name) → w.call p ≡ Some (record { mine = mine; stage = DecideAfter c s prefer })
        → (o : Option Name) → after_of w.memory c ≡ o → SimulatesAt p a (Some (record { mine = mine; stage = DecideAfter c s prefer }))
    decides c s prefer is (Some d) link = quiet (DecideAfter c s prefer) is same (DecideNew c s (unwrap_or (after_of w.memory c) prefer)) refl refl where
      same : (x : Name) → after_of (memory_with w.memory (AfterOf c) (Link (option_or (after_of w.memory c) (Some prefer)))) x ≡ after_of w.memory x
      same x = elim (after_of-memory_with w.memory c x (option_or (after_of w.memory c) (Some prefer))) [
        | inl h ↦ h.1 ∙ (rw link refl ∙ sym link) ∙ ap (after_of w.memory) (sym h.0)
        | inr h ↦ h.1
      ]
    decides c s prefer is None at_end =
        let h = sound.stands p (record { mine = mine; stage = DecideAfter c s prefer }) is in
        subst (λ o. Outcome p mine (DecideAfter c s prefer) is a shows (memory_with w.memory (AfterOf c) (Link (option_or o (Some prefer)))) (Some (DecideNew c s (unwrap_or o prefer)))) (sym at_end)
        (linearizes p mine (DecideAfter c s prefer) is a shows c s prefer h.0 h.1 h.2 at_end
        (set_at w.steps p (w.steps p + 1)) (set_at w.turns p (w.turns p + 0)) refl)

    finishing : (s t : ℕ) → w.call p ≡ Some (record { mine = mine; stage = Finish s t }) → SimulatesAt p a (Some (record { mine = mine; stage = Finish s t }))
    finishing s t is =
        let h = sound.stands p (record { mine = mine; stage = Finish s t }) is in
        let place = place_of w.n p mine (Finish s t) in
        let e = effect_of object w.n mine (Finish s t) (w.memory place) w.memory in
        let moved = leads object w num last sound p mine (Finish s t) is (Finish s t) h in
        ends p mine (Finish s t) is a shows (memory_with w.memory place e.content) moved.0 moved.1 e.stage moved.3
        (set_at w.steps p (w.steps p + 1)) (set_at w.turns p (w.turns p + 0)) (λ x. refl) refl refl (subst (λ k. 1 ≤ k) (sym h.2) h.1)

    simulates : (stage : Stage) → w.call p ≡ Some (record { mine = mine; stage = stage }) → SimulatesAt p a (Some (record { mine = mine; stage = stage }))
    simulates Announce is = quiet Announce is (λ x. refl) _ refl refl
    simulates (ScanHead q best s) is = quiet (ScanHead q best s) is (λ x. refl) _ refl refl
    simulates (ScanSeq q best s y) is = quiet (ScanSeq q best s y) is (λ x. refl) _ refl refl
    simulates (WriteScan best s) is = quiet (WriteScan best s) is (λ x. refl) _ refl refl
    simulates (Test c s) is = quiet (Test c s) is (λ x. refl) _ refl refl
    simulates (ReadAnnounce c s) is = quiet (ReadAnnounce c s) is (λ x. refl) _ refl refl
    simulates (ReadHelpSeq c s help) is = quiet (ReadHelpSeq c s help) is (λ x. refl) _ refl refl
    simulates (DecideAfter c s prefer) is = decides c s prefer is (after_of w.memory c) refl
    simulates (DecideNew c s d) is = quiet (DecideNew c s d) is (λ x. refl) _ refl refl
    simulates (WriteBefore c s d) is = quiet (WriteBefore c s d) is (λ x. refl) _ refl refl
    simulates (WriteSeq c s d) is = quiet (WriteSeq c s d) is (λ x. refl) _ refl refl
    simulates (WriteHead c s d) is = quiet (WriteHead c s d) is (λ x. refl) _ refl refl
    simulates (Finish s t) is = finishing s t is

    -- the atomic object accepts the acts of a step
    pub step_accepted : (stage : Stage) → w.call p ≡ Some (record { mine = mine; stage = stage })
        → (b : Atomic S I) × Shows (world_after object w (Step p)) b × AcceptsAll object a (acts_of object w (Step p)) b
    step_accepted stage is = subst (λ o. SimulatesAt p a o) (sym is) (simulates stage is)

  module _ (p : ℕ) (i : I) (inside : p < w.n) (idle : w.call p ≡ None) (a : Atomic S I) (shows : Shows w a) where
    abbrev pub begun_memory : Memory S I R
    begun_memory = memory_with w.memory (InvOf (Of p (w.begun p))) (Invocation (Some i))

    -- cells other than the new one keep their calls
    invoked_elsewhere : (x : Name) → x ≢ Of p (w.begun p) → invoked_at begun_memory x ≡ invoked_at w.memory x
    invoked_elsewhere Anchor apart = refl
    invoked_elsewhere (Of q k) apart = elim (inv_of-memory_with w.memory (Of p (w.begun p)) (Of q k) (Some i)) [
      | inl h ↦ absurd (apart h.0)
      | inr h ↦ ap (option_map (λ (j : I). record { process = q; nth = k; inv = j })) h.1
    ]

    invoked_new : invoked_at begun_memory (Of p (w.begun p)) ≡ Some (record { process = p; nth = w.begun p; inv = i })
    invoked_new = elim (inv_of-memory_with w.memory (Of p (w.begun p)) (Of p (w.begun p)) (Some i)) [ inl h ↦ rw h.1 refl | inr h ↦ absurd (h.0 refl) ]

    invoked_linked : (x : Name) → 1 ≤ num x → invoked_at begun_memory x ≡ invoked_at w.memory x
    invoked_linked x linked = invoked_elsewhere x (λ same. let e : num x ≡ num (Of p (w.begun p)) = ap num same in let none = not_linked object w num last sound p i inside idle in omega arith)

    calls_same : calls_of (world_after_call w p i) ≡ calls_of w
    calls_same =
        calls_of-calls_at (world_after_call w p i)
        ∙ ap (calls_at begun_memory) (cells_from-same w.memory begun_memory (λ x. refl) (era_calls (world_after_call w p i)) Anchor)
        ∙ ap (calls_at begun_memory) (cells_from-enough w.memory num last sound.numbered (era_calls (world_after_call w p i)) (era_calls w) Anchor
        (enough object (world_after_call w p i) num last (IsSound-begun object w num last sound p i inside idle)) (enough object w num last sound))
        ∙ calls_at-same w.memory num last sound.numbered begun_memory invoked_linked (era_calls w) Anchor
        ∙ sym (calls_of-calls_at w)

    open_others : (q : ℕ) → q ≢ p → (o : Option Pending) → w.call q ≡ o → open_at begun_memory o ≡ open_at w.memory o
    open_others q apart None e = refl
    open_others q apart (Some c) e =
        let its = open_call_of q c e in
        invoked_elsewhere c.mine (λ same. apart (let name = its.2 in cc))

    -- the atomic object accepts a call that is begun
    pub call_accepted : (b : Atomic S I) × Shows (world_after_call w p i) b × AcceptsAll object a (acts_of object w (Call p i)) b
    call_accepted =
        let b : Atomic S I = record a { open_call = set_at a.open_call p (Some (record { process = p; nth = w.begun p; inv = i })); next_nth = set_at a.next_nth p (w.begun p + 1) } in (
          b,
          record { start = shows.start; agreed = calls_same ∙ shows.agreed; open_call = open_later; next_nth = next_later },
          (b, (sym (shows.open_call p) ∙ ap (open_at w.memory) idle, sym (shows.next_nth p), refl), refl),
        ) where
          open_later : (q : ℕ) → open_at begun_memory (set_at w.call p (Some (record { mine = Of p (w.begun p); stage = Announce })) q) ≡ set_at a.open_call p (Some (record { process = p; nth = w.begun p; inv = i })) q
          open_later q = elim (number_cases q p) [
            | inl h ↦ rw (h.1, invoked_new) refl
            | inr h ↦ rw h.1 (open_others q h.0 (w.call q) refl ∙ shows.open_call q)
          ]

          next_later : (q : ℕ) → set_at w.begun p (w.begun p + 1) q ≡ set_at a.next_nth p (w.begun p + 1) q
          next_later q = elim (number_cases q p) [ inl h ↦ rw h.1 refl | inr h ↦ rw h.1 (shows.next_nth q) ]
