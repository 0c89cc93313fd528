-- A block is brought in: what its calls are, and which versions have come then.
use Rattle.uni_any.proofs.Vocabulary.{AcceptsAll, AcceptsAll-append, Act, Board, Contains, Contains-append_cases, HasCome, HasDrafted, HasTaken, Image, Invoked, IsSound, IsTold, Linearize, List, Local, Option, Returned, Row, Sequential, Some, Version, [], acts_by, ap, applied_in, arith, at_start, called_by, first_image, image_from, in_of, inl, inr, inv_of, length, length-map, lt_cases, map, map-append, refl, response_at, response_at-append, row_in, slice_get-append_left, slice_get-append_right, slice_get_within, subst, sym, take, ℕ, ◌++◌, ◌+◌, ◌<◌, ◌∙◌, ◌≡◌, ◌≤◌, ◌⊎◌}
use Rattle.std.proofs.Common.{append-nil}
use Rattle.std.proofs.lemmas.List.{take-append-le, take_all}
use Rattle.uni_any.specs.Order.{AreOrdered as WereOrdered}
use Rattle.uni_any.proofs.Acts.{acts_by-append, acts_by-linearized}
use Rattle.uni_any.proofs.Batches.{applied_from, image_from-append, linearized, row_from, state_from, taken_from}
use Rattle.uni_any.proofs.Ordering.{in_next, order_grown, response_stays}

module _ {S I R : Type 0} (object : Sequential S I R) (n : ℕ) (g : Board I S R) (local : ℕ → Local I S R) (sound : IsSound object n g local) (p : ℕ) (p_in : p < n) (image : Image S R) (drafted : HasDrafted object n g local p image) where
  abbrev pub calls : List (Invoked I)
  calls = drafted.batch.calls

  abbrev pub agreed' : List (Invoked I)
  agreed' = g.atomic.agreed ++ calls

  abbrev pub were : WereOrdered object g.atomic.agreed g.calls_in n g.number local
  were = record { counted = sound.order.counted; rising = sound.order.rising; each = sound.order.each }

  abbrev pub calls_then : ℕ → ℕ
  calls_then = in_next object n g.atomic.agreed g.calls_in g.number local were calls

  pub order1 : WereOrdered object agreed' calls_then n (g.number + 1) local
  order1 = order_grown object n g.atomic.agreed g.calls_in g.number local were calls

  at_old : (k : ℕ) → k ≤ g.number → calls_then k ≡ g.calls_in k
  at_old k old = elim (lt_cases g.number k) [ inl new ↦ absurd (let a = new.0 in omega (arith, old)) | inr h ↦ rw h.1 refl ]

  few_old : (k : ℕ) → k ≤ g.number → g.calls_in k ≤ length g.atomic.agreed
  few_old k old = (let r = sound.order.rising k g.number old in let c = sound.order.counted g.number (omega arith) in omega arith)

  pub image_then : image_from object (first_image object n) agreed' ≡ image
  image_then = image_from-append object (first_image object n) g.atomic.agreed calls ∙ ap (λ z. image_from object z calls) sound.history.image ∙ sym drafted.batch.image_is

  -- with whichever else the board has then
  module _ (process' : ℕ) (open' : ℕ → Option (Invoked I)) (acts' : List (Act I R)) where
    abbrev pub board_then : Board I S R
    board_then = record {
      number = g.number + 1;
      process = process';
      since = g.since;
      image = image;
      atomic = record g.atomic { open_call = open'; agreed = agreed' };
      acts = acts';
      calls_in = calls_then;
    }

    taken_old : (k : ℕ) → k ≤ g.number → image_from object (first_image object n) (take (calls_then k) agreed') ≡ image_from object (first_image object n) (take (g.calls_in k) g.atomic.agreed)
    taken_old k old = ap (image_from object (first_image object n)) (ap (λ j. take j agreed') (at_old k old) ∙ take-append-le (g.calls_in k) g.atomic.agreed calls (few_old k old))

    -- a version that had come has come
    pub come_up : (x : Version S R) → HasCome object n g x → HasCome object n board_then x
    come_up x come = ((let a = come.0 in omega arith), come.1 ∙ sym (taken_old x.number come.0))

    -- the new one
    pub come_new : (x : Version S R) → x.number ≡ g.number + 1 → x.image ≡ image → HasCome object n board_then x
    come_new x number_is image_is' = (
      omega (arith, number_is),
      image_is' ∙ sym (ap (λ k. image_from object (first_image object n) (take k agreed')) (order1.counted x.number (omega (arith, number_is))) ∙ ap (image_from object (first_image object n)) (take_all (length agreed') agreed' (omega arith)) ∙ image_then),
    )

    pub come_cases : (x : Version S R) → HasCome object n board_then x → HasCome object n g x ⊎ ((x.number ≡ g.number + 1) × (x.image ≡ image))
    come_cases x come = elim (lt_cases g.number x.number) [
      | inl new ↦
          let number_is : x.number ≡ g.number + 1 = (let a = come.0 in let b = new.0 in omega arith) in
          inr (number_is, come.1 ∙ ap (λ k. image_from object (first_image object n) (take k agreed')) (order1.counted x.number (omega (arith, number_is))) ∙ ap (image_from object (first_image object n)) (take_all (length agreed') agreed' (omega arith)) ∙ image_then)
      | inr old ↦ inl (old.0, come.1 ∙ taken_old x.number old.0)
    ]

  -- rows do not fall
  pub in_least : (q : ℕ) → q < n → in_of g q ≤ applied_in image q
  in_least q q_in = elim (drafted.told q q_in) [ inl e ↦ (omega (arith, e)) | inr e ↦ (let a = e.0 in omega arith) ]

  pub in_most : (q : ℕ) → q < n → applied_in image q ≤ called_by (local q)
  in_most q q_in = elim (drafted.told q q_in) [ inl e ↦ (let a = sound.board.in_most q q_in in omega (arith, e)) | inr e ↦ (let a = e.0 in let b = e.1 in omega arith) ]

  pub long : length g.image.rows ≡ n → (d : Invoked I) → Contains calls d → d.process < length g.image.rows
  long wide d has = (let z = drafted.batch.below d has in omega (arith, wide))

  -- each of its calls is open
  pub opened : (c : Invoked I) → Contains calls c → g.atomic.open_call c.process ≡ Some c
  opened c has =
      let inside = drafted.batch.below c has in
      let a = drafted.batch.asked c has in
      let told = subst (λ z. IsTold object n g local c.process (local c.process).own z) a.2 (sound.history.told c.process inside) in
      told.0 ∙ (λ k. Some (record { process = c.process; nth = (sym a.1) k; inv = c.inv }))

  -- a call of q that is in then has taken effect, with the reply that its row has
  pub taken_then : length g.image.rows ≡ n → (q : ℕ) (own : List (Returned I R)) (i : I) → q < n → IsTold object n g local q own (Some i) → (now : (v : Version S R) × HasCome object n g v × (v.image ≡ g.image)) → (y : R) → applied_in image q ≡ length own + 1 → (row_in image q).reply ≡ Some y
      → HasTaken object agreed' (record { process = q; nth = length own; inv = i }) y
  taken_then wide q own i q_in h now y in' told = elim (row_from object g.image calls q) [
    | inl c ↦
        let e : Some c.0 ≡ Some (record { process = q; nth = length own; inv = i }) = sym (opened c.0 c.1) ∙ ap g.atomic.open_call c.2 ∙ h.0 in
        let call : c.0 ≡ record { process = q; nth = length own; inv = i } = cc in
        let t = taken_from object g.image 0 calls c.0 y drafted.batch.rising c.1 (long wide)
        (ap (λ k. (row_in (image_from object g.image calls) k).reply) c.2 ∙ ap (λ (z : Image S R). (row_in z q).reply) (sym drafted.batch.image_is) ∙ told) in
        let many : length (map inv_of g.atomic.agreed) ≡ length g.atomic.agreed = length-map g.atomic.agreed inv_of in
        record {
          place = length g.atomic.agreed + t.0;
          there = slice_get-append_right g.atomic.agreed calls t.0 ∙ t.1 ∙ ap Some call;
          reply_is = ap (λ js. response_at object object.initial js (length g.atomic.agreed + t.0)) (map-append inv_of g.atomic.agreed calls)
              ∙ ap (λ k. response_at object object.initial (map inv_of g.atomic.agreed ++ map inv_of calls) (k + t.0)) (sym many)
              ∙ response_at-append object object.initial (map inv_of g.atomic.agreed) (map inv_of calls) t.0
              ∙ ap (λ s. response_at object s (map inv_of calls) t.0) (sym (state_from object (first_image object n) g.atomic.agreed) ∙ ap (λ (z : Image S R). z.state) sound.history.image)
              ∙ t.2;
        }
    | inr row ↦
        let same_row : row_in image q ≡ row_in now.0.image q = ap (λ (z : Image S R). row_in z q) drafted.batch.image_is ∙ row ∙ ap (λ (z : Image S R). row_in z q) (sym now.2) in
        taken_up q own i y (h.3 now.0 y now.1 (ap (λ (z : Row R). z.applied) (sym same_row) ∙ in') (ap (λ (z : Row R). z.reply) (sym same_row) ∙ told)).0
  ] where
    taken_up : (q : ℕ) (own : List (Returned I R)) (i : I) (y : R) → HasTaken object g.atomic.agreed (record { process = q; nth = length own; inv = i }) y → HasTaken object agreed' (record { process = q; nth = length own; inv = i }) y
    taken_up q own i y was = record {
      place = was.place;
      there = slice_get-append_left g.atomic.agreed calls was.place _ was.there;
      reply_is = ap (λ js. response_at object object.initial js was.place) (map-append inv_of g.atomic.agreed calls) ∙ response_stays object object.initial (map inv_of g.atomic.agreed) (map inv_of calls) was.place y was.reply_is;
    }

  -- one that had taken effect has
  pub still_taken : (call : Invoked I) (y : R) → (t : HasTaken object g.atomic.agreed call y) → (k : ℕ) → k ≤ g.number → t.place < g.calls_in k → (u : HasTaken object agreed' call y) × (u.place < calls_then k)
  still_taken call y was k old before = (
    record {
      place = was.place;
      there = slice_get-append_left g.atomic.agreed calls was.place _ was.there;
      reply_is = ap (λ js. response_at object object.initial js was.place) (map-append inv_of g.atomic.agreed calls) ∙ response_stays object object.initial (map inv_of g.atomic.agreed) (map inv_of calls) was.place y was.reply_is;
    },
    (let a = at_old k old in omega (arith, before)),
  )

  pub place_before : (call : Invoked I) (y : R) → (t : HasTaken object agreed' call y) → t.place < calls_then (g.number + 1)
  place_before call y t = (let w = slice_get_within agreed' t.place call t.there in let c = order1.counted (g.number + 1) (omega arith) in omega arith)

  -- what takes effect is an act of nobody
  pub acts_lin : (q : ℕ) → acts_by q (g.acts ++ map (λ c. Linearize c) calls) ≡ acts_by q g.acts
  acts_lin q = acts_by-append q g.acts (map (λ c. Linearize c) calls) ∙ ap (λ js. acts_by q g.acts ++ js) (
      ap (acts_by q) (sym (append-nil (map (λ c. Linearize c) calls))) ∙ acts_by-linearized q calls []) ∙ append-nil (acts_by q g.acts)

  -- the calls are accepted
  pub accepted_then : length g.image.rows ≡ n → AcceptsAll object (at_start object.initial) (g.acts ++ map (λ c. Linearize c) calls) (record g.atomic { agreed = agreed' })
  accepted_then wide = AcceptsAll-append object (at_start object.initial) g.atomic (record g.atomic { agreed = agreed' }) g.acts (map (λ c. Linearize c) calls) sound.history.accepted
      (linearized object g.atomic 0 calls drafted.batch.rising opened (λ d has c has' same'.
      let h = sound.history.agreed d has in let a = drafted.batch.asked c has' in let e : in_of g d.process ≡ in_of g c.process = ap (in_of g) same' in let y = h.1 in let z = a.0 in omega arith))

  -- each call in the order is in
  pub agreed_then : length g.image.rows ≡ n → (c : Invoked I) → Contains agreed' c → (c.process < n) × (c.nth < applied_in image c.process)
  agreed_then wide c has = elim (Contains-append_cases g.atomic.agreed calls c has) [
    | inl old ↦ (let h = sound.history.agreed c old in (h.0, (let a = h.1 in let d = in_least c.process h.0 in omega arith)))
    | inr new ↦
        let inside = drafted.batch.below c new in
        let a = drafted.batch.asked c new in
        let more : applied_in image c.process ≡ in_of g c.process + 1 = ap (λ (z : Image S R). applied_in z c.process) drafted.batch.image_is
        ∙ applied_from object g.image 0 calls c drafted.batch.rising new (long wide) in
        (inside, (let d = a.0 in omega arith))
  ]
