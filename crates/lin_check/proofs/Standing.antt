-- Where the atomic object stands beside a node of the search, after each step of either.
use Rattle.lin_check.proofs.Vocabulary.{FailsFor, begun, Accepts, Act, Atomic, Call, Contains, Done, Event, Fails, FailsWith, Free, Goes, IfSome, Idle, Invoke, Invoked, Keeps, Linearize, List, None, Open, Option, Reached, Respond, Return, Sequential, Slot, SlotStands, Some, Stands, [], absent, acts_of, ap, append-nil, append_assoc, arith, at_start, drop, inl, inr, invoke_own, invs, keeps_invoke, keeps_point, keeps_respond, length, map, map-append, member, next_return, number_cases, numbered, observed, point_own, point_response, point_state, refl, replies_of, respond_own, response_at, slice_get, slice_set, slot_at, subst, suc, sym, zero, ℕ, ◌++◌, ◌+◌, ◌-◌, ◌<◌, ◌∙◌, ◌∷◌, ◌≡◌, ◌≢◌}
use Rattle.std.proofs.Common.{get_or-set_same, get_or-set_other}
use Rattle.uni_model.proofs.LawProofs.{AcceptsAll-append}
use Rattle.uni_model.proofs.Local.{its_name}
use Rattle.lin_check.proofs.Going.{invoke_first, invoked, none_first, point, point_first, reply_known, respond_first, responded}

-- what is left of a history, where there is an event at a place
pub drop_at : {A : Type 0} (xs : List A) (at : ℕ) (x : A) → slice_get xs at ≡ Some x → drop at xs ≡ x ∷ drop (at + 1) xs
drop_at [] at x e = absurd (let f : None ≡ Some x = e in cc)
drop_at (y ∷ ys) zero x e = let f : Some y ≡ Some x = e in let g : y ≡ x = cc in ap (λ z. z ∷ ys) g
drop_at (y ∷ ys) (suc at) x e =
    let more : suc at + 1 ≡ suc (at + 1) = omega arith in
    drop_at ys at x e ∙ ap (λ j. x ∷ drop j (y ∷ ys)) (sym more)

-- the first of what is left of a list is the one at the place
pub at_drop : {A : Type 0} (xs : List A) (at : ℕ) (x : A) (rest : List A) → drop at xs ≡ x ∷ rest → (slice_get xs at ≡ Some x) × (drop (at + 1) xs ≡ rest)
at_drop [] zero x rest e = absurd (let f : [] ≡ x ∷ rest = e in cc)
at_drop [] (suc at) x rest e = absurd (let f : [] ≡ x ∷ rest = e in cc)
at_drop (y ∷ ys) zero x rest e = let f : y ∷ ys ≡ x ∷ rest = e in (let g : y ≡ x = cc in ap Some g, cc)
at_drop (y ∷ ys) (suc at) x rest e =
    let more : suc at + 1 ≡ suc (at + 1) = omega arith in
    let h = at_drop ys at x rest e in
    (h.0, ap (λ j. drop j (y ∷ ys)) more ∙ h.1)

-- a slot after one was written
pub slots-here : (slots : List Slot) (p : ℕ) (v : Slot) → p < length slots → slot_at (slice_set slots p v) p ≡ v
slots-here slots p v within = get_or-set_same slots p v Idle within

pub slots-elsewhere : (slots : List Slot) (p : ℕ) (v : Slot) (q : ℕ) → q ≢ p → slot_at (slice_set slots p v) q ≡ slot_at slots q
slots-elsewhere slots p v q apart = get_or-set_other slots p q v Idle apart

module _ {I R : Type 0} where
  pub observed-append : (xs ys : List (Act I R)) → observed (xs ++ ys) ≡ observed xs ++ observed ys
  observed-append [] ys = refl
  observed-append (Invoke p k i ∷ xs) ys = ap (λ acts. Invoke p k i ∷ acts) (observed-append xs ys)
  observed-append (Linearize c ∷ xs) ys = observed-append xs ys
  observed-append (Respond p k r ∷ xs) ys = ap (λ acts. Respond p k r ∷ acts) (observed-append xs ys)

  -- the reply of a call
  pub reply_at : (history : List (Event I R)) (at p : ℕ) (i : I) → slice_get history at ≡ Some (Call p i) → slice_get (replies_of history) at ≡ Some (next_return p (drop (at + 1) history))
  reply_at [] at p i e = absurd (let f : None ≡ Some (Call p i) = e in cc)
  reply_at (Call q j ∷ events) zero p i e = let f : Some (Call q j) ≡ Some (Call p i) = e in let g : q ≡ p = cc in ap (λ x. Some (next_return x events)) g
  reply_at (Return q s ∷ events) zero p i e = absurd (let f : Some (Return q s) ≡ Some (Call p i) = e in cc)
  reply_at (Call q j ∷ events) (suc at) p i e =
      let more : suc at + 1 ≡ suc (at + 1) = omega arith in
      reply_at events at p i e ∙ ap (λ j'. Some (next_return p (drop j' (Call q j ∷ events)))) (sym more)
  reply_at (Return q s ∷ events) (suc at) p i e =
      let more : suc at + 1 ≡ suc (at + 1) = omega arith in
      reply_at events at p i e ∙ ap (λ j'. Some (next_return p (drop j' (Return q s ∷ events)))) (sym more)

module _ {S I R : Type 0} (object : Sequential S I R) (history : List (Event I R)) where
  -- a slot says the same of a process for which nothing changed
  kept_slot : (a b : Atomic S I) (at later q : ℕ) (slot : Slot) → Keeps object q a b → next_return q (drop later history) ≡ next_return q (drop at history)
      → SlotStands object history a at q slot → SlotStands object history b later q slot
  kept_slot a b at later q Idle keeps replies h = keeps.idle h
  kept_slot a b at later q (Open c) keeps replies h = (h.0, keeps.waiting h.0 h.1, h.2, h.3 ∙ ap Some (sym replies), h.4)
  kept_slot a b at later q Done keeps replies h = (h.0, h.1, keeps.done h.0 h.1 h.2, by_reply (next_return q (drop later history)) refl) where
    by_reply : (o : Option R) → next_return q (drop later history) ≡ o → IfSome o (λ r. response_at object b.start (invs object b.agreed) h.1 ≡ Some r)
    by_reply None e = tt
    by_reply (Some r) e = keeps.response h.1 r (subst (λ o. IfSome o (λ r. response_at object a.start (invs object a.agreed) h.1 ≡ Some r)) (sym replies ∙ e) h.3)

  module _ (at : ℕ) (slots : List Slot) (state : S) where
    -- the next event is a call of an idle process
    module _ (p : ℕ) (i : I) (here : slice_get history at ≡ Some (Call p i)) where
      rest_called : drop at history ≡ Call p i ∷ drop (at + 1) history
      rest_called = drop_at history at (Call p i) here

      shown_called : (a : Atomic S I) → numbered a.next_nth (drop at history) ≡ Invoke p (a.next_nth p) i ∷ numbered (invoked a p (a.next_nth p) i).next_nth (drop (at + 1) history)
      shown_called a = ap (numbered a.next_nth) rest_called

      -- its act is the next one
      act_called : (a : Atomic S I) → Stands object history a at slots state → (slice_get (acts_of history) at ≡ Some (Invoke p (a.next_nth p) i))
          × (drop (at + 1) (acts_of history) ≡ numbered (invoked a p (a.next_nth p) i).next_nth (drop (at + 1) history))
      act_called a stands = at_drop (acts_of history) at (Invoke p (a.next_nth p) i) (numbered (invoked a p (a.next_nth p) i).next_nth (drop (at + 1) history)) (stands.left ∙ shown_called a)

      module _ (within : p < length slots) (idle : slot_at slots p ≡ Idle) where
        free : (a : Atomic S I) → Stands object history a at slots state → Free p a
        free a stands = subst (λ slot. SlotStands object history a at p slot) idle (stands.each p)

        stands_called : (a : Atomic S I) → Stands object history a at slots state → Stands object history (invoked a p (a.next_nth p) i) (at + 1) (slice_set slots p (Open at)) state
        stands_called a stands = record { same_state = stands.same_state; left = (act_called a stands).1; each = each } where
          each : (q : ℕ) → SlotStands object history (invoked a p (a.next_nth p) i) (at + 1) q (slot_at (slice_set slots p (Open at)) q)
          each q = elim (number_cases q p) [
            | inl own ↦ subst (λ x. SlotStands object history (invoked a p (a.next_nth p) i) (at + 1) x (slot_at (slice_set slots p (Open at)) x)) (sym own.0)
                (subst (λ slot. SlotStands object history (invoked a p (a.next_nth p) i) (at + 1) p slot) (sym (slots-here slots p (Open at) within))
                (record { process = p; nth = a.next_nth p; inv = i }, invoke_own object a (invoked a p (a.next_nth p) i) p (a.next_nth p) i ((free a stands).is_open, refl, refl) (free a stands), here, reply_at history at p i here, (act_called a stands).0))
            | inr other ↦ subst (λ slot. SlotStands object history (invoked a p (a.next_nth p) i) (at + 1) q slot) (sym (slots-elsewhere slots p (Open at) q other.0))
                (kept_slot a (invoked a p (a.next_nth p) i) at (at + 1) q (slot_at slots q) (keeps_invoke object q a (invoked a p (a.next_nth p) i) p (a.next_nth p) i ((free a stands).is_open, refl, refl) other.0)
                (sym (ap (next_return q) rest_called)) (stands.each q))
          ]

        pub fails_called : (asked : Option (List ℕ)) → FailsFor object history asked (at + 1) (slice_set slots p (Open at)) state → FailsFor object history asked at slots state
        fails_called asked fails = record {
          none = λ a stands goes next.
              let first = invoke_first object a goes.end goes.acts p (a.next_nth p) i (numbered (invoked a p (a.next_nth p) i).next_nth (drop (at + 1) history)) goes.accepted (goes.shown ∙ shown_called a) in
              fails.none (invoked a p (a.next_nth p) i) (stands_called a stands) (record { end = goes.end; acts = first.1.0; accepted = first.1.1; shown = first.1.2 }) next;
        }

        pub reached_called : (order : List ℕ) → Reached object history at slots state order → Reached object history (at + 1) (slice_set slots p (Open at)) state order
        reached_called order h =
            let a = h.object_then in
            record {
              object_then = invoked a p (a.next_nth p) i;
              acts = h.acts ++ Invoke p (a.next_nth p) i ∷ [];
              accepted = AcceptsAll-append object (at_start object.initial) a (invoked a p (a.next_nth p) i) h.acts (Invoke p (a.next_nth p) i ∷ []) h.accepted
                  (invoked a p (a.next_nth p) i, ((free a h.stands).is_open, refl, refl), refl);
              shown = h.shown ∙ ap (λ acts. observed h.acts ++ acts) (shown_called a)
                  ∙ sym (ap (λ acts. acts ++ numbered (invoked a p (a.next_nth p) i).next_nth (drop (at + 1) history)) (observed-append h.acts (Invoke p (a.next_nth p) i ∷ []))
                  ∙ append_assoc (observed h.acts) (Invoke p (a.next_nth p) i ∷ []) (numbered (invoked a p (a.next_nth p) i).next_nth (drop (at + 1) history)));
              stands = stands_called a h.stands;
              agreed = h.agreed;
            }

      -- a process that has a call pending begins none
      dead_call_if : (asked : Option (List ℕ)) (slot : Slot) → slot_at slots p ≡ slot → slot ≢ Idle → FailsFor object history asked at slots state
      dead_call_if asked Idle e busy = absurd (busy refl)
      dead_call_if asked (Open c) e busy = record {
        none = λ a stands goes next.
            let first = invoke_first object a goes.end goes.acts p (a.next_nth p) i (numbered (invoked a p (a.next_nth p) i).next_nth (drop (at + 1) history)) goes.accepted (goes.shown ∙ shown_called a) in
            let h = subst (λ slot. SlotStands object history a at p slot) e (stands.each p) in
            let f : Some h.0 ≡ None = sym h.1.is_open ∙ first.0.0 in cc;
      }
      dead_call_if asked Done e busy = record {
        none = λ a stands goes next.
            let first = invoke_first object a goes.end goes.acts p (a.next_nth p) i (numbered (invoked a p (a.next_nth p) i).next_nth (drop (at + 1) history)) goes.accepted (goes.shown ∙ shown_called a) in
            let h = subst (λ slot. SlotStands object history a at p slot) e (stands.each p) in
            let f : Some h.0 ≡ None = sym h.2.is_open ∙ first.0.0 in cc;
      }

      pub dead_call : (asked : Option (List ℕ)) → slot_at slots p ≢ Idle → FailsFor object history asked at slots state
      dead_call asked busy = dead_call_if asked (slot_at slots p) refl busy

    -- the next event is a return
    module _ (p : ℕ) (r : R) (here : slice_get history at ≡ Some (Return p r)) where
      rest_returned : drop at history ≡ Return p r ∷ drop (at + 1) history
      rest_returned = drop_at history at (Return p r) here

      pub shown_returned : (a : Atomic S I) → numbered a.next_nth (drop at history) ≡ Respond p (a.next_nth p - 1) r ∷ numbered a.next_nth (drop (at + 1) history)
      shown_returned a = ap (numbered a.next_nth) rest_returned

      -- nothing comes of it where the process is idle
      pub dead_return : (asked : Option (List ℕ)) → slot_at slots p ≡ Idle → FailsFor object history asked at slots state
      dead_return asked idle = record {
        none = λ a stands goes next.
            let free : Free p a = subst (λ slot. SlotStands object history a at p slot) idle (stands.each p) in
            none_first object a goes.end goes.acts p (a.next_nth p - 1) r (numbered a.next_nth (drop (at + 1) history)) free.is_open goes.accepted (goes.shown ∙ shown_returned a);
      }

      -- where its call waits, some call takes effect first
      pub fails_choice : (c : ℕ) → slot_at slots p ≡ Open c → ((q : ℕ) → FailsWith object history at slots state q) → Fails object history at slots state
      fails_choice c is_open each = record {
        none = λ a stands goes next.
            let h = subst (λ slot. SlotStands object history a at p slot) is_open (stands.each p) in
            let first = point_first object a goes.end goes.acts p (a.next_nth p - 1) r h.0 (numbered a.next_nth (drop (at + 1) history)) h.1 goes.accepted (goes.shown ∙ shown_returned a) in
            (each first.0.process).none a first.0 stands refl first.2 first.3 (record { end = goes.end; acts = first.1; accepted = first.4; shown = first.5 ∙ sym (shown_returned a) });
      }

      module _ (within : p < length slots) (done : slot_at slots p ≡ Done) where
        over : (a : Atomic S I) → Stands object history a at slots state → SlotStands object history a at p Done
        over a stands = subst (λ slot. SlotStands object history a at p slot) done (stands.each p)

        other_reply : (q : ℕ) → q ≢ p → next_return q (drop (at + 1) history) ≡ next_return q (drop at history)
        other_reply q apart = sym (ap (next_return q) rest_returned ∙ elim (number_cases p q) [
          | inl own ↦ absurd (apart (sym own.0))
          | inr other ↦ rw other.1 refl
        ])

        stands_returned : (a : Atomic S I) → Accepts object a (Respond p (a.next_nth p - 1) r) (responded a p) → Stands object history a at slots state
            → Stands object history (responded a p) (at + 1) (slice_set slots p Idle) state
        stands_returned a ok stands = record {
          same_state = stands.same_state;
          left = (at_drop (acts_of history) at (Respond p (a.next_nth p - 1) r) (numbered a.next_nth (drop (at + 1) history)) (stands.left ∙ shown_returned a)).1;
          each = each;
        } where
          each : (q : ℕ) → SlotStands object history (responded a p) (at + 1) q (slot_at (slice_set slots p Idle) q)
          each q = elim (number_cases q p) [
            | inl own ↦ subst (λ x. SlotStands object history (responded a p) (at + 1) x (slot_at (slice_set slots p Idle) x)) (sym own.0)
                (subst (λ slot. SlotStands object history (responded a p) (at + 1) p slot) (sym (slots-here slots p Idle within))
                (respond_own object a (responded a p) p (a.next_nth p - 1) r (over a stands).0 (over a stands).1 ok (over a stands).2))
            | inr other ↦ subst (λ slot. SlotStands object history (responded a p) (at + 1) q slot) (sym (slots-elsewhere slots p Idle q other.0))
                (kept_slot a (responded a p) at (at + 1) q (slot_at slots q) (keeps_respond object q a (responded a p) p (a.next_nth p - 1) r ok other.0) (other_reply q other.0) (stands.each q))
          ]

        pub fails_returned : (asked : Option (List ℕ)) → FailsFor object history asked (at + 1) (slice_set slots p Idle) state → FailsFor object history asked at slots state
        fails_returned asked fails = record {
          none = λ a stands goes next.
              let first = respond_first object a goes.end goes.acts p (a.next_nth p - 1) r (over a stands).0 (over a stands).1 (numbered a.next_nth (drop (at + 1) history)) (over a stands).2 goes.accepted (goes.shown ∙ shown_returned a) in
              fails.none (responded a p) (stands_returned a first.0 stands) (record { end = goes.end; acts = first.1.0; accepted = first.1.1; shown = first.1.2 }) next;
        }

        -- the response is the object's
        answered : (a : Atomic S I) → Stands object history a at slots state → Accepts object a (Respond p (a.next_nth p - 1) r) (responded a p)
        answered a stands =
            let h = over a stands in
            let last : h.0.nth + 1 ≡ a.next_nth p = h.2.nth in
            let number : h.0.nth ≡ a.next_nth p - 1 = omega arith in
            let name = its_name h.0 p (a.next_nth p - 1) h.2.own number in
            let reply : next_return p (drop at history) ≡ Some r = ap (next_return p) rest_returned ∙ elim (number_cases p p) [ inl own ↦ rw own.1 refl | inr other ↦ absurd (other.0 refl) ] in
            ((h.0.inv, h.1, h.2.is_open ∙ ap Some name, h.2.at ∙ ap Some name, subst (λ o. IfSome o (λ r. response_at object a.start (invs object a.agreed) h.1 ≡ Some r)) reply h.3), refl)

        pub reached_returned : (order : List ℕ) → Reached object history at slots state order → Reached object history (at + 1) (slice_set slots p Idle) state order
        reached_returned order h =
            let a = h.object_then in
            record {
              object_then = responded a p;
              acts = h.acts ++ Respond p (a.next_nth p - 1) r ∷ [];
              accepted = AcceptsAll-append object (at_start object.initial) a (responded a p) h.acts (Respond p (a.next_nth p - 1) r ∷ []) h.accepted
                  (responded a p, answered a h.stands, refl);
              shown = h.shown ∙ ap (λ acts. observed h.acts ++ acts) (shown_returned a)
                  ∙ sym (ap (λ acts. acts ++ numbered a.next_nth (drop (at + 1) history)) (observed-append h.acts (Respond p (a.next_nth p - 1) r ∷ []))
                  ∙ append_assoc (observed h.acts) (Respond p (a.next_nth p - 1) r ∷ []) (numbered a.next_nth (drop (at + 1) history)));
              stands = stands_returned a (answered a h.stands) h.stands;
              agreed = h.agreed;
            }

    -- the candidates: an idle process and one whose call took effect are none
    none_of : (slot : Slot) (q : ℕ) → slot_at slots q ≡ slot → ((c : ℕ) → slot ≢ Open c) → FailsWith object history at slots state q
    none_of Idle q e shut = record {
      none = λ a c stands own is_open absent goes.
          let free : Free q a = subst (λ slot. SlotStands object history a at q slot) e (stands.each q) in
          let f : Some c ≡ None = sym is_open ∙ (ap a.open_call own ∙ free.is_open) in cc;
    }
    none_of (Open c) q e shut = absurd (shut c refl)
    none_of Done q e shut = record {
      none = λ a c stands own is_open absent goes.
          let h = subst (λ slot. SlotStands object history a at q slot) e (stands.each q) in
          let f : Some c ≡ Some h.0 = sym is_open ∙ (ap a.open_call own ∙ h.2.is_open) in
          let same : c ≡ h.0 = cc in
          absent (subst (λ (x : Invoked I). Contains a.agreed x) (sym same) (member a.agreed h.1 h.0 h.2.at));
    }

    pub fails_shut : (q : ℕ) → ((c : ℕ) → slot_at slots q ≢ Open c) → FailsWith object history at slots state q
    fails_shut q shut = none_of (slot_at slots q) q refl shut

    -- the call of q, which is open, takes effect
    module _ (q c : ℕ) (is_open : slot_at slots q ≡ Open c) where
      pub waits : (a : Atomic S I) → Stands object history a at slots state → SlotStands object history a at q (Open c)
      waits a stands = subst (λ slot. SlotStands object history a at q slot) is_open (stands.each q)

      -- a call that is open is that of the slot
      pub its_call : (a : Atomic S I) (d : Invoked I) (stands : Stands object history a at slots state) → d.process ≡ q → a.open_call d.process ≡ Some d → d ≡ (waits a stands).0
      its_call a d stands own open_is = let f : Some d ≡ Some (waits a stands).0 = sym open_is ∙ (ap a.open_call own ∙ (waits a stands).1.is_open) in cc

      -- where the history has no such call, there is no such node
      pub fails_lost : ((i : I) → slice_get history c ≢ Some (Call q i)) → FailsWith object history at slots state q
      fails_lost lost = record { none = λ a d stands own open_is absent goes. lost (waits a stands).0.inv (waits a stands).2 }

      module _ (p : ℕ) (i : I) (here : slice_get history c ≡ Some (Call p i)) where
        -- the invocation is that of the event
        its_inv : (a : Atomic S I) (stands : Stands object history a at slots state) → (waits a stands).0.inv ≡ i
        its_inv a stands = let f : Some (Call q (waits a stands).0.inv) ≡ Some (Call p i) = sym (waits a stands).2 ∙ here in cc

        accepts_point : (a : Atomic S I) (stands : Stands object history a at slots state) → Accepts {R = R} object a (Linearize (waits a stands).0) (point a (waits a stands).0)
        accepts_point a stands =
            let h = waits a stands in
            (ap a.open_call h.1.own ∙ h.1.is_open, absent object a q h.0 h.1, refl)

        its_response : (a : Atomic S I) (stands : Stands object history a at slots state)
            → response_at object a.start (invs object (a.agreed ++ (waits a stands).0 ∷ [])) (length a.agreed) ≡ Some (object.answer state i)
        its_response a stands =
            point_response object a (point a (waits a stands).0) (waits a stands).0 (accepts_point a stands)
            ∙ ap (λ s. Some (object.answer s (waits a stands).0.inv)) stands.same_state
            ∙ ap (λ j. Some (object.answer state j)) (its_inv a stands)

        pub stands_point : (within : q < length slots) (a : Atomic S I) (stands : Stands object history a at slots state)
            → ((r : R) → next_return q (drop at history) ≡ Some r → object.answer state i ≡ r)
            → Stands object history (point a (waits a stands).0) at (slice_set slots q Done) (object.next state i)
        stands_point within a stands fits = record {
          same_state = point_state object a (point a (waits a stands).0) (waits a stands).0 (accepts_point a stands)
              ∙ ap (λ s. object.next s (waits a stands).0.inv) stands.same_state
              ∙ ap (object.next state) (its_inv a stands);
          left = stands.left;
          each = each;
        } where
          by_reply : (o : Option R) → next_return q (drop at history) ≡ o → IfSome o (λ r. response_at object a.start (invs object (a.agreed ++ (waits a stands).0 ∷ [])) (length a.agreed) ≡ Some r)
          by_reply None e = tt
          by_reply (Some r) e = its_response a stands ∙ ap Some (fits r e)

          each : (x : ℕ) → SlotStands object history (point a (waits a stands).0) at x (slot_at (slice_set slots q Done) x)
          each x = elim (number_cases x q) [
            | inl own ↦ subst (λ x. SlotStands object history (point a (waits a stands).0) at x (slot_at (slice_set slots q Done) x)) (sym own.0)
                (subst (λ slot. SlotStands object history (point a (waits a stands).0) at q slot) (sym (slots-here slots q Done within))
                ((waits a stands).0, length a.agreed, point_own object a (point a (waits a stands).0) q (waits a stands).0 (accepts_point a stands) (waits a stands).1, by_reply (next_return q (drop at history)) refl))
            | inr other ↦ subst (λ slot. SlotStands object history (point a (waits a stands).0) at x slot) (sym (slots-elsewhere slots q Done x other.0))
                (kept_slot a (point a (waits a stands).0) at at x (slot_at slots x)
                (keeps_point object x a (point a (waits a stands).0) (waits a stands).0 (accepts_point a stands) (λ e. other.0 (e ∙ (waits a stands).1.own))) refl (stands.each x))
          ]

        -- where acts go on to the end of the history, the object's response is the next one
        pub fits_by : (a : Atomic S I) (stands : Stands object history a at slots state) → Goes object history (point a (waits a stands).0) at → (r : R) → next_return q (drop at history) ≡ Some r → object.answer state i ≡ r
        fits_by a stands goes r known =
            let h = waits a stands in
            let answered = reply_known object (point a h.0) goes.end goes.acts q h.0 (length a.agreed) r a.next_nth (drop at history)
            (point_own object a (point a h.0) q h.0 (accepts_point a stands) h.1) goes.accepted goes.shown known in
            let f : Some (object.answer state i) ≡ Some r = sym (its_response a stands) ∙ answered in
            cc

        -- another response is waited for
        pub fails_unfit : (r : R) → slice_get (replies_of history) c ≡ Some (Some r) → object.answer state i ≢ r → FailsWith object history at slots state q
        fails_unfit r known unfit = record {
          none = λ a d stands own open_is absent goes.
              let it = its_call a d stands own open_is in
              let f : Some (next_return q (drop at history)) ≡ Some (Some r) = sym (waits a stands).3 ∙ known in
              let reply : next_return q (drop at history) ≡ Some r = cc in
              unfit (fits_by a stands (subst (λ (x : Invoked I). Goes object history (point a x) at) it goes) r reply);
        }

        pub fails_point : q < length slots → Fails object history at (slice_set slots q Done) (object.next state i) → FailsWith object history at slots state q
        fails_point within fails = record {
          none = λ a d stands own open_is absent goes.
              let it = its_call a d stands own open_is in
              let here = subst (λ (x : Invoked I). Goes object history (point a x) at) it goes in
              fails.none (point a (waits a stands).0) (stands_point within a stands (fits_by a stands here)) here tt;
        }

        pub reached_point : q < length slots → ((r : R) → slice_get (replies_of history) c ≡ Some (Some r) → object.answer state i ≡ r) → (order : List ℕ)
            → Reached object history at slots state order → Reached object history at (slice_set slots q Done) (object.next state i) (order ++ c ∷ [])
        reached_point within fits order h =
            let a = h.object_then in
            let its = waits a h.stands in
            record {
              object_then = point a its.0;
              acts = h.acts ++ Linearize its.0 ∷ [];
              accepted = AcceptsAll-append object (at_start object.initial) a (point a its.0) h.acts (Linearize its.0 ∷ []) h.accepted (point a its.0, accepts_point a h.stands, refl);
              shown = h.shown ∙ ap (λ acts. acts ++ numbered a.next_nth (drop at history)) (sym (observed-append h.acts (Linearize its.0 ∷ []) ∙ append-nil (observed h.acts)));
              stands = stands_point within a h.stands (λ r e. fits r (its.3 ∙ ap Some e));
              agreed = map-append begun a.agreed (its.0 ∷ [])
                  ∙ ap (λ xs. xs ++ begun its.0 ∷ []) h.agreed
                  ∙ ap (λ x. map (slice_get (acts_of history)) order ++ x ∷ []) (ap (λ x. Some (Invoke x its.0.nth its.0.inv)) its.1.own ∙ sym its.4)
                  ∙ sym (map-append (slice_get (acts_of history)) order (c ∷ []));
            }
