-- The calls of a history take effect in an order that is given.
use Rattle.std.proofs.lemmas.List.{append_cancel_left}
use Rattle.std.proofs.lemmas.Option.{slice_get-get_or}
use Rattle.std.proofs.Math.Seq.{take-suc}
use Rattle.std.proofs.lemmas.List.Elements.{All-contains}
use Rattle.uni_model.proofs.Written.{lt_cases, set_at-cases}
use Rattle.lin_check.proofs.Vocabulary.{Global, Vec, AcceptsAll, Act, AreAt, AreNext, Atomic, Call, Contains, Done, Event, FailsFor, Free, Goes, Idle, Invoke, Invoked, IsChoice, IsOrder, IsReady, IsWithin, Linearize, List, Node, None, Open, Option, Passes, Reached, Respond, Return, Sequential, Slot, SlotStands, Some, Stands, [], acts_of, ap, append-nil, append_assoc, arith, at_start, begun, drop, get_or, inl, inr, length, length-append, length-set, map, member, next_return, numbered, observed, refl, replies_of, set_at, slice_get, slice_get_within, slice_set, slot_at, subst, suc, sym, take, zero, false, true, nat_lt, process_of, slice_get_past, ℕ, ◌++◌, ◌+◌, ◌-◌, ◌<◌, ◌∙◌, ◌∷◌, ◌≡◌, ◌≢◌, ◌≤◌}
use Rattle.lin_check.specs.Search.{Follows, IsNoNext}
use Rattle.lin_check.proofs.Going.{point, point_first}
use Rattle.lin_check.proofs.Standing.{drop_at, fits_by, its_call, reached_point, shown_returned, stands_point, waits}
use Rattle.lin_check.proofs.Searching.{nothing_left, stands_first}
use Rattle.lin_check.proofs.Children.{slot_past}

-- the act at a place
module _ {I R : Type 0} where
  -- where an act is an invocation, the event is its call
  call_of_act : (next : ℕ → ℕ) (events : List (Event I R)) (x p k : ℕ) (i : I) → slice_get (numbered next events) x ≡ Some (Invoke p k i) → slice_get events x ≡ Some (Call p i)
  call_of_act next [] x p k i e = absurd (let f : None ≡ Some (Invoke p k i) = e in cc)
  call_of_act next (Call q j ∷ events) zero p k i e =
      let f : Some (Invoke q (next q) j) ≡ Some (Invoke p k i) = e in
      let own : q ≡ p = cc in
      let same : j ≡ i = cc in
      ap (λ x. Some (Call x j)) own ∙ ap (λ x. Some (Call p x)) same
  call_of_act next (Return q r ∷ events) zero p k i e = absurd (let f : Some (Respond q (next q - 1) r) ≡ Some (Invoke p k i) = e in cc)
  call_of_act next (Call q j ∷ events) (suc x) p k i e = call_of_act (set_at next q (next q + 1)) events x p k i e
  call_of_act next (Return q r ∷ events) (suc x) p k i e = call_of_act next events x p k i e

  -- from here on the calls of a process have its next number or greater ones
  later_number : (next : ℕ → ℕ) (events : List (Event I R)) (x p k : ℕ) (i : I) → slice_get (numbered next events) x ≡ Some (Invoke p k i) → next p ≤ k
  later_number next [] x p k i e = absurd (let f : None ≡ Some (Invoke p k i) = e in cc)
  later_number next (Call q j ∷ events) zero p k i e =
      let f : Some (Invoke q (next q) j) ≡ Some (Invoke p k i) = e in
      let own : q ≡ p = cc in
      let number : next q ≡ k = cc in
      let same : next q ≡ next p = ap next own in
      omega arith
  later_number next (Return q r ∷ events) zero p k i e = absurd (let f : Some (Respond q (next q - 1) r) ≡ Some (Invoke p k i) = e in cc)
  later_number next (Call q j ∷ events) (suc x) p k i e =
      let later : set_at next q (next q + 1) p ≤ k = later_number (set_at next q (next q + 1)) events x p k i e in
      elim (set_at-cases next q (next q + 1) p) [
        | inl own ↦ (let same : next p ≡ next q = ap next own.0 in let now = own.1 in omega arith)
        | inr other ↦ (let now = other.1 in omega arith)
      ]
  later_number next (Return q r ∷ events) (suc x) p k i e = later_number next events x p k i e

  -- a call is begun at one place
  not_again : (next : ℕ → ℕ) (q : ℕ) (j : I) (events : List (Event I R)) (y p k : ℕ) (i i' : I) → slice_get (numbered next (Call q j ∷ events)) zero ≡ Some (Invoke p k i)
      → slice_get (numbered (set_at next q (next q + 1)) events) y ≡ Some (Invoke p k i') → ⊥
  not_again next q j events y p k i i' here there =
      let f : Some (Invoke q (next q) j) ≡ Some (Invoke p k i) = here in
      let own : q ≡ p = cc in
      let number : next q ≡ k = cc in
      let later : set_at next q (next q + 1) p ≤ k = later_number (set_at next q (next q + 1)) events y p k i' there in
      elim (set_at-cases next q (next q + 1) p) [
        | inl same ↦ (let now = same.1 in omega arith)
        | inr other ↦ other.0 (sym own)
      ]

  one_place : (next : ℕ → ℕ) (events : List (Event I R)) (x y p k : ℕ) (i i' : I) → slice_get (numbered next events) x ≡ Some (Invoke p k i) → slice_get (numbered next events) y ≡ Some (Invoke p k i') → x ≡ y
  one_place next [] x y p k i i' e e' = absurd (let f : None ≡ Some (Invoke p k i) = e in cc)
  one_place next (event ∷ events) zero zero p k i i' e e' = refl
  one_place next (Return q r ∷ events) zero (suc y) p k i i' e e' = absurd (let f : Some (Respond q (next q - 1) r) ≡ Some (Invoke p k i) = e in cc)
  one_place next (Return q r ∷ events) (suc x) zero p k i i' e e' = absurd (let f : Some (Respond q (next q - 1) r) ≡ Some (Invoke p k i') = e' in cc)
  one_place next (Return q r ∷ events) (suc x) (suc y) p k i i' e e' = ap suc (one_place next events x y p k i i' e e')
  one_place next (Call q j ∷ events) zero (suc y) p k i i' e e' = absurd (not_again next q j events y p k i i' e e')
  one_place next (Call q j ∷ events) (suc x) zero p k i i' e e' = absurd (not_again next q j events x p k i' i e' e)
  one_place next (Call q j ∷ events) (suc x) (suc y) p k i i' e e' = ap suc (one_place (set_at next q (next q + 1)) events x y p k i i' e e')

module _ {S I R : Type 0} (object : Sequential S I R) where
  -- no call that took effect is undone
  grows : (a b : Atomic S I) (acts : List (Act I R)) → AcceptsAll object a acts b → (more : List (Invoked I)) × (b.agreed ≡ a.agreed ++ more)
  grows a b [] h = ([], ap (λ (x : Atomic S I). x.agreed) h ∙ sym (append-nil a.agreed))
  grows a b (Invoke p k i ∷ acts) h =
      let rest = grows h.0 b acts h.2 in
      (rest.0, rest.1 ∙ ap (λ (x : Atomic S I). x.agreed ++ rest.0) h.1.2)
  grows a b (Linearize c ∷ acts) h =
      let rest = grows h.0 b acts h.2 in
      (c ∷ rest.0, rest.1 ∙ ap (λ (x : Atomic S I). x.agreed ++ rest.0) h.1.2 ∙ append_assoc a.agreed (c ∷ []) rest.0)
  grows a b (Respond p k r ∷ acts) h =
      let rest = grows h.0 b acts h.2 in
      (rest.0, rest.1 ∙ ap (λ (x : Atomic S I). x.agreed ++ rest.0) h.1.1)

  -- where nothing more is seen and a call still takes effect, that comes first
  point_last : (a b : Atomic S I) (acts : List (Act I R)) (c : Invoked I) (cs : List (Invoked I)) → AcceptsAll object a acts b → observed acts ≡ [] → b.agreed ≡ a.agreed ++ c ∷ cs
      → (d : Invoked I) × (later : List (Act I R)) × (a.open_call d.process ≡ Some d) × (¬ (Contains a.agreed d)) × AcceptsAll object (point a d) later b × (observed later ≡ [])
  point_last a b [] c cs h e more = absurd (
      let same : a.agreed ++ c ∷ cs ≡ a.agreed = sym more ∙ ap (λ (x : Atomic S I). x.agreed) h in
      let long : length a.agreed + length (c ∷ cs) ≡ length a.agreed = sym (length-append a.agreed (c ∷ cs)) ∙ ap length same in
      let one : length (c ∷ cs) ≡ suc (length cs) = refl in
      omega arith)
  point_last a b (Invoke p k i ∷ acts) c cs h e more = absurd (let f : Invoke p k i ∷ observed acts ≡ [] = e in cc)
  point_last a b (Linearize d ∷ acts) c cs h e more = (d, acts, h.1.0, h.1.1, subst (λ x. AcceptsAll object x acts b) h.1.2 h.2, e)
  point_last a b (Respond p k r ∷ acts) c cs h e more = absurd (let f : Respond p k r ∷ observed acts ≡ [] = e in cc)

module _ {S I R : Type 0} (object : Sequential S I R) (history : List (Event I R)) (node : Node S) where
  -- a call that takes effect next, and how it goes on then
  record NextPoint (a : Atomic S I) (end : Atomic S I) : Type 0 where
    call : Invoked I
    later : List (Act I R)
    is_open : a.open_call call.process ≡ Some call
    absent : ¬ (Contains a.agreed call)
    accepted : AcceptsAll object (point a call) later end
    shown : observed later ≡ numbered a.next_nth (drop node.at history)

  point_at_choice : (a : Atomic S I) → Stands object history a node.at node.slots.items node.state → IsChoice history node.at node.slots.items → (goes : Goes object history a node.at) → NextPoint a goes.end
  point_at_choice a stands choice goes =
      let h = subst (λ slot. SlotStands object history a node.at choice.process slot) choice.is_open (stands.each choice.process) in
      let shows = shown_returned object history node.at node.slots.items node.state choice.process choice.response choice.here a in
      let first = point_first object a goes.end goes.acts choice.process (a.next_nth choice.process - 1) choice.response h.0 (numbered a.next_nth (drop (node.at + 1) history)) h.1 goes.accepted (goes.shown ∙ shows) in
      record { call = first.0; later = first.1; is_open = first.2; absent = first.3; accepted = first.4; shown = first.5 ∙ sym shows }

  point_when_ready : (a : Atomic S I) → Stands object history a node.at node.slots.items node.state → IsReady history node → (goes : Goes object history a node.at)
      → (c : Invoked I) (cs : List (Invoked I)) → goes.end.agreed ≡ a.agreed ++ c ∷ cs → NextPoint a goes.end
  point_when_ready a stands ready goes c cs grown = elim ready [
    | inl end ↦
        let nothing : numbered a.next_nth (drop node.at history) ≡ [] = ap (λ j. numbered a.next_nth (drop j history)) end ∙ ap (numbered a.next_nth) (nothing_left object history history) in
        let first = point_last object a goes.end goes.acts c cs goes.accepted (goes.shown ∙ nothing) grown in
        record { call = first.0; later = first.1; is_open = first.2; absent = first.3; accepted = first.4; shown = first.5 ∙ sym nothing }
    | inr choice ↦ point_at_choice a stands choice goes
  ]

  -- where it goes on, the calls that are asked for begin with the one that takes effect next
  same_calls : (a end : Atomic S I) (n : NextPoint a end) (calls : List (Invoked I)) → end.agreed ≡ a.agreed ++ calls
      → (more : List (Invoked I)) × (end.agreed ≡ (a.agreed ++ n.call ∷ []) ++ more) × (calls ≡ n.call ∷ more)
  same_calls a end n calls grown =
      let more = grows object (point a n.call) end n.later n.accepted in
      (more.0, more.1, append_cancel_left a.agreed calls (n.call ∷ more.0) (sym grown ∙ more.1 ∙ append_assoc a.agreed (n.call ∷ []) more.0))

  -- the call at the first place that is asked for takes effect next
  record Next (place : ℕ) (places : List ℕ) (a : Atomic S I) : Type 0 where
    call : Invoked I
    is_open : a.open_call call.process ≡ Some call
    absent : ¬ (Contains a.agreed call)
    at_place : slice_get (acts_of history) place ≡ begun call
    goes : Goes object history (point a call) node.at
    asked : AreNext object history (Some places) (a.agreed ++ call ∷ []) goes.end.agreed

  next_of : (place : ℕ) (places : List ℕ) (a : Atomic S I) → Stands object history a node.at node.slots.items node.state → IsReady history node → (goes : Goes object history a node.at)
      → (calls : List (Invoked I)) → goes.end.agreed ≡ a.agreed ++ calls → AreAt history (place ∷ places) calls → Next place places a
  next_of place places a stands ready goes [] grown at = absurd (let f : [] ≡ slice_get (acts_of history) place ∷ map (slice_get (acts_of history)) places = at in cc)
  next_of place places a stands ready goes (c ∷ cs) grown at =
      let n = point_when_ready a stands ready goes c cs grown in
      let same = same_calls a goes.end n (c ∷ cs) grown in
      let all : c ∷ cs ≡ n.call ∷ same.0 = same.2 in
      let one : c ≡ n.call = cc in
      let rest : cs ≡ same.0 = cc in
      let f : begun c ∷ map begun cs ≡ slice_get (acts_of history) place ∷ map (slice_get (acts_of history)) places = at in
      let first : begun c ≡ slice_get (acts_of history) place = cc in
      let others : map begun cs ≡ map (slice_get (acts_of history)) places = cc in
      record {
        call = n.call;
        is_open = n.is_open;
        absent = n.absent;
        at_place = sym first ∙ ap begun one;
        goes = record { end = goes.end; acts = n.later; accepted = n.accepted; shown = n.shown };
        asked = (same.0, same.1, ap (map begun) (sym rest) ∙ others);
      }

  module _ (ready : IsReady history node) where
    -- where no call is asked for, none can come first
    pub fails_over : IsChoice history node.at node.slots.items → FailsFor object history (Some []) node.at node.slots.items node.state
    fails_over choice = record {
      none = λ a stands goes asked.
          let n = point_at_choice a stands choice goes in
          let same = same_calls a goes.end n asked.0 asked.1 in
          let f : map (begun {R = R}) (n.call ∷ same.0) ≡ [] = ap (map (begun {R = R})) (sym same.2) ∙ asked.2 in
          let g : begun {R = R} n.call ∷ map (begun {R = R}) same.0 ≡ [] = f in
          cc;
    }

    module _ (place : ℕ) where
      wrong_next : ((places : List ℕ) (a : Atomic S I) → Stands object history a node.at node.slots.items node.state → Next place places a → ⊥) → IsNoNext object history node place
      wrong_next wrong places = record {
        none = λ a stands goes asked. wrong places a stands (next_of place places a stands ready goes asked.0 asked.1 asked.2);
      }

      its_event : (places : List ℕ) (a : Atomic S I) (next : Next place places a) → slice_get history place ≡ Some (Call next.call.process next.call.inv)
      its_event places a next = call_of_act (λ p. 0) history place next.call.process next.call.nth next.call.inv next.at_place

      -- no call begins there
      pub no_event : slice_get history place ≡ None → IsNoNext object history node place
      no_event past = wrong_next (λ places a stands next. (let f : None ≡ Some (Call next.call.process next.call.inv) = sym past ∙ its_event places a next in cc))

      pub no_call : (p : ℕ) (r : R) → slice_get history place ≡ Some (Return p r) → IsNoNext object history node place
      no_call p r there = wrong_next (λ places a stands next. (let f : Some (Return p r) ≡ Some (Call next.call.process next.call.inv) = sym there ∙ its_event places a next in cc))

      module _ (p : ℕ) (i : I) (here : slice_get history place ≡ Some (Call p i)) where
        own : (places : List ℕ) (a : Atomic S I) (next : Next place places a) → next.call.process ≡ p
        own places a next = let f : Some (Call next.call.process next.call.inv) ≡ Some (Call p i) = sym (its_event places a next) ∙ here in cc

        -- its process's call isn't open, or another one is
        other_slot : (places : List ℕ) (a : Atomic S I) → Stands object history a node.at node.slots.items node.state → (next : Next place places a) (slot : Slot)
            → slot_at node.slots.items p ≡ slot → slot ≢ Open place → ⊥
        other_slot places a stands next Idle e other =
            let free : Free p a = subst (λ slot. SlotStands object history a node.at p slot) e (stands.each p) in
            let f : Some next.call ≡ None = sym next.is_open ∙ (ap a.open_call (own places a next) ∙ free.is_open) in
            cc
        other_slot places a stands next Done e other =
            let h = subst (λ slot. SlotStands object history a node.at p slot) e (stands.each p) in
            let f : Some next.call ≡ Some h.0 = sym next.is_open ∙ (ap a.open_call (own places a next) ∙ h.2.is_open) in
            let same : next.call ≡ h.0 = cc in
            next.absent (subst (λ (x : Invoked I). Contains a.agreed x) (sym same) (member a.agreed h.1 h.0 h.2.at))
        other_slot places a stands next (Open c) e other =
            let h = subst (λ slot. SlotStands object history a node.at p slot) e (stands.each p) in
            let f : Some next.call ≡ Some h.0 = sym next.is_open ∙ (ap a.open_call (own places a next) ∙ h.1.is_open) in
            let same : next.call ≡ h.0 = cc in
            let there : slice_get (acts_of history) place ≡ Some (Invoke p h.0.nth h.0.inv) = next.at_place ∙ ap begun same ∙ ap (λ x. Some (Invoke x h.0.nth h.0.inv)) h.1.own in
            other (ap Open (one_place (λ q. 0) history c place p h.0.nth h.0.inv h.0.inv h.4 there))

        pub no_slot : slot_at node.slots.items p ≢ Open place → IsNoNext object history node place
        no_slot other = wrong_next (λ places a stands next. other_slot places a stands next (slot_at node.slots.items p) refl other)

        module _ (is_open : slot_at node.slots.items p ≡ Open place) where
          -- the call that takes effect next is that of the slot
          goes_on : (places : List ℕ) (a : Atomic S I) (stands : Stands object history a node.at node.slots.items node.state) (next : Next place places a)
              → (goes : Goes object history (point a (waits object history node.at node.slots.items node.state p place is_open a stands).0) node.at)
              × AreNext object history (Some places) (a.agreed ++ (waits object history node.at node.slots.items node.state p place is_open a stands).0 ∷ []) goes.end.agreed
          goes_on places a stands next =
              let it = its_call object history node.at node.slots.items node.state p place is_open a next.call stands (own places a next) next.is_open in
              subst (λ (x : Invoked I). ((goes : Goes object history (point a x) node.at) × AreNext object history (Some places) (a.agreed ++ x ∷ []) goes.end.agreed)) it (next.goes, next.asked)

          fitting : (places : List ℕ) (a : Atomic S I) (stands : Stands object history a node.at node.slots.items node.state) (next : Next place places a)
              → (r : R) → slice_get (replies_of history) place ≡ Some (Some r) → object.answer node.state i ≡ r
          fitting places a stands next r known =
              let its = waits object history node.at node.slots.items node.state p place is_open a stands in
              let f : Some (next_return p (drop node.at history)) ≡ Some (Some r) = sym its.3 ∙ known in
              let reply : next_return p (drop node.at history) ≡ Some r = cc in
              fits_by object history node.at node.slots.items node.state p place is_open p i here a stands (goes_on places a stands next).0 r reply

          pub no_answer : (answer r : R) → answer ≡ object.answer node.state i → slice_get (replies_of history) place ≡ Some (Some r) → answer ≢ r → IsNoNext object history node place
          no_answer answer r is known unfit = wrong_next (λ places a stands next. unfit (is ∙ fitting places a stands next r known))

          pub inside : p < length node.slots.items
          inside = inside_if (slice_get node.slots.items p) refl where
            inside_if : (o : Option Slot) → slice_get node.slots.items p ≡ o → p < length node.slots.items
            inside_if None e = absurd (let f : Idle ≡ Open place = sym (slot_past node.slots.items p e) ∙ is_open in cc)
            inside_if (Some slot) e = slice_get_within node.slots.items p slot e

          -- nothing comes of what comes after it
          pub fails_next : (places : List ℕ) → FailsFor object history (Some places) node.at (slice_set node.slots.items p Done) (object.next node.state i)
              → FailsFor object history (Some (place ∷ places)) node.at node.slots.items node.state
          fails_next places fails = record {
            none = λ a stands goes asked.
                let next = next_of place places a stands ready goes asked.0 asked.1 asked.2 in
                let on = goes_on places a stands next in
                let its = waits object history node.at node.slots.items node.state p place is_open a stands in
                fails.none (point a its.0)
                (stands_point object history node.at node.slots.items node.state p place is_open p i here inside a stands
                (fits_by object history node.at node.slots.items node.state p place is_open p i here a stands on.0)) on.0 on.1;
          }

  -- so does what comes after it, where the events up to the next choice pass
  pub follows_to : IsReady history node → (place p : ℕ) (i : I) (here : slice_get history place ≡ Some (Call p i)) (is_open : slot_at node.slots.items p ≡ Open place)
      → (new : Vec Slot Global) (later : S) (next : Node S) → Passes object history (record { at = node.at; slots = new; state = later }) next
      → new.items ≡ slice_set node.slots.items p Done → later ≡ object.next node.state i
      → (answer : R) → answer ≡ object.answer node.state i → ((r : R) → slice_get (replies_of history) place ≡ Some (Some r) → answer ≡ r)
      → IsReady history next → length next.slots.items ≡ length new.items
      → Follows object history node place next
  follows_to ready place p i here is_open new later next passes slots state answer is fits after many = record {
    fails = λ places h. fails_next ready place p i here is_open places
        (subst (λ s. FailsFor object history (Some places) node.at (slice_set node.slots.items p Done) s) state
        (subst (λ xs. FailsFor object history (Some places) node.at xs later) slots (passes.fails (Some places) h)));
    reached = λ order h. passes.reached (order ++ place ∷ [])
        (subst (λ s. Reached object history node.at new.items s (order ++ place ∷ [])) (sym state)
        (subst (λ xs. Reached object history node.at xs (object.next node.state i) (order ++ place ∷ [])) (sym slots)
        (reached_point object history node.at node.slots.items node.state p place is_open p i here (inside ready place p i here is_open) (λ r e. sym is ∙ fits r e) order h)));
    ready = after;
    many = many ∙ (ap length slots ∙ length-set node.slots.items p Done);
  }

  pub dies_next : IsReady history node → (place p : ℕ) (i : I) (here : slice_get history place ≡ Some (Call p i)) (is_open : slot_at node.slots.items p ≡ Open place)
      → (new : List Slot) (later : S) → ((asked : Option (List ℕ)) → FailsFor object history asked node.at new later)
      → new ≡ slice_set node.slots.items p Done → later ≡ object.next node.state i → IsNoNext object history node place
  dies_next ready place p i here is_open new later dead slots state places =
      fails_next ready place p i here is_open places
      (subst (λ s. FailsFor object history (Some places) node.at (slice_set node.slots.items p Done) s) state
      (subst (λ xs. FailsFor object history (Some places) node.at xs later) slots (dead (Some places))))

module _ {S I R : Type 0} (object : Sequential S I R) (history : List (Event I R)) where
  -- before all events
  pub ordered_first : (slots : List Slot) (state : S) → ((p : ℕ) → slot_at slots p ≡ Idle) → state ≡ object.initial → (places : List ℕ) → FailsFor object history (Some places) 0 slots state
      → ¬ (IsOrder object history places)
  ordered_first slots state idle initial places fails is =
      fails.none (at_start object.initial) (stands_first object history slots state idle initial)
      (record { end = is.1.1; acts = is.1.0; accepted = is.1.3; shown = is.1.2 }) (is.0, is.1.4, is.2)

-- one more place of an order
pub take_more : (xs : List ℕ) (i : ℕ) → i < length xs → take (i + 1) xs ≡ take i xs ++ get_or xs i 0 ∷ []
take_more xs i less =
    let more : i + 1 ≡ suc i = omega arith in
    ap (λ j. take j xs) more ∙ take-suc xs i 0 less

pub drop_more : (xs : List ℕ) (i : ℕ) → i < length xs → drop i xs ≡ get_or xs i 0 ∷ drop (i + 1) xs
drop_more xs i less = drop_at xs i (get_or xs i 0) (slice_get-get_or xs i 0 less)

-- no more place
pub take_past : (xs : List ℕ) (i : ℕ) → length xs ≤ i → take i xs ≡ xs
take_past [] zero enough = refl
take_past [] (suc i) enough = refl
take_past (x ∷ xs) zero enough = absurd (omega arith)
take_past (x ∷ xs) (suc i) enough = ap (λ ys. x ∷ ys) (take_past xs i (omega arith))

pub drop_past : (xs : List ℕ) (i : ℕ) → length xs ≤ i → drop i xs ≡ []
drop_past [] zero enough = refl
drop_past [] (suc i) enough = refl
drop_past (x ∷ xs) zero enough = absurd (omega arith)
drop_past (x ∷ xs) (suc i) enough = drop_past xs i (omega arith)

-- a place behind a list
pub beyond : {A : Type 0} (xs : List A) (i : ℕ) → false ≡ nat_lt i (length xs) → slice_get xs i ≡ None
beyond xs i e = elim (lt_cases i (length xs)) [
  | inl less ↦ absurd (let f : false ≡ true = e ∙ less.1 in cc)
  | inr other ↦ slice_get_past xs i other.0
]

-- the process of a call is one of the processes
pub its_process : {I R : Type 0} (history : List (Event I R)) (n place p : ℕ) (i : I) → IsWithin n history → slice_get history place ≡ Some (Call p i) → p < n
its_process history n place p i within here = All-contains (λ event. process_of event < n) history (Call p i) within (member history place (Call p i) here)

-- at a choice or the end, no more events have passed than there are
pub ready_at : {I R S : Type 0} (history : List (Event I R)) (node : Node S) → IsReady history node → node.at ≤ length history
ready_at history node ready = elim ready [
  | inl end ↦ (let e : node.at ≡ length history = end in omega arith)
  | inr choice ↦ (let e = slice_get_within history node.at _ choice.here in omega arith)
]
