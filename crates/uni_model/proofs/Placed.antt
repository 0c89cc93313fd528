-- What has a completion in the sense of Herlihy and Wing is linearizable with linearization points put in: before each response the
-- calls take effect that stand in the order up to the one that responds.
use Rattle.uni_model.proofs.Vocabulary.{Accepts, AcceptsAll, Act, AgreesInOrder, AgreesWithCompletion, AllByRecursion, AreInTurn, Atomic, Bool, Contains, Event, Invoke, Invoked, IsLinearizedAs, IsLinearizedByCompletion, IsResponse, IsWellFormed, Linearize, List, None, ObservesCompletion, Option, Precedes, Respond, Sequential, Some, [], ap, append-nil, append_assoc, arith, at_start, cond, false, filter, filter-append, inl, inr, is_by, is_kept, length, nat_eq, observed, observed_in, of_process, one_by_one, opened_world, refl, response_at, set_at, slice_get, subst, suc, sym, true, zero, ℕ, ◌++◌, ◌+◌, ◌<◌, ◌∙◌, ◌∷◌, ◌≡◌, ◌≢◌}
use Rattle.uni_model.proofs.Linearizable.{ObservesLinearizable-holds}
use Rattle.uni_model.proofs.Written.{number_cases, set_at-cases}
use Rattle.uni_model.proofs.LawProofs.{set_at_elsewhere}
use Rattle.uni_model.proofs.Appended.{slice_get-append_left, slice_get-append_right, slice_get-append_cases}
use Rattle.uni_model.proofs.Members.{member, place_of_member, split_at}
use Rattle.uni_model.proofs.Completed.{Idle, Waiting, Done, invs, state_of, state-last, response-last, response-longer}
use Rattle.uni_model.proofs.Completion.{serial_invoked, respond_apart, completed}

module _ {A : Type 0} where
  chosen_place : (b : Bool) (y : A) (kept ys : List A) (x : A) → ((j : ℕ) → slice_get kept j ≡ Some x → (i : ℕ) × (slice_get ys i ≡ Some x)) → (j : ℕ)
      → slice_get (cond b (y ∷ kept) kept) j ≡ Some x → (i : ℕ) × (slice_get (y ∷ ys) i ≡ Some x)
  chosen_place true y kept ys x rest zero at = (0, at)
  chosen_place true y kept ys x rest (suc j) at = let r = rest j at in (suc r.0, r.1)
  chosen_place false y kept ys x rest j at = let r = rest j at in (suc r.0, r.1)

  -- what is left by a filter was there
  filtered : (test : A → Bool) (xs : List A) (x : A) (j : ℕ) → slice_get (filter test xs) j ≡ Some x → (i : ℕ) × (slice_get xs i ≡ Some x)
  filtered test [] x j at = (j, at)
  filtered test (y ∷ ys) x j at = chosen_place (test y) y (filter test ys) ys x (λ i there. filtered test ys x i there) j at

module _ {I R : Type 0} where
  no_invoke : (acts : List (Act I R)) → AllByRecursion IsResponse acts → (j q m : ℕ) (i : I) → slice_get acts j ≡ Some (Invoke q m i) → ⊥
  no_invoke [] all j q m i at = (let e : None ≡ Some (Invoke q m i) = at in cc)
  no_invoke (x ∷ xs) all zero q m i at = subst (λ (y : Act I R). IsResponse y) (let e : x ≡ Invoke q m i = (let f : Some x ≡ Some (Invoke q m i) = at in cc) in e) all.0
  no_invoke (x ∷ xs) all (suc j) q m i at = no_invoke xs all.1 j q m i at

  call_of : Act I R → Option (Invoked I)
  call_of (Invoke p k i) = Some (record { process = p; nth = k; inv = i })
  call_of act = None

  same_call : (x : Act I R) (c d : Invoked I) → x ≡ Invoke c.process c.nth c.inv → x ≡ Invoke d.process d.nth d.inv → c ≡ d
  unfolding call_of
  same_call x c d e f = let g : Some c ≡ Some d = ap call_of (sym e ∙ f) in cc

its_name : {I : Type 0} (c : Invoked I) (q k : ℕ) → c.process ≡ q → c.nth ≡ k → c ≡ record { process = q; nth = k; inv = c.inv }
its_name c q k p n = λ i. record { process = p i; nth = n i; inv = c.inv }

module _ {S I R : Type 0} (object : Sequential S I R) (start : S) (history : List (Act I R)) (full : List (Invoked I)) (hw : IsLinearizedByCompletion object start history full) where
  abbrev keeps : ℕ → ℕ → Bool
  keeps q k = hw.completion.keeps q k

  -- what of a process's acts is left: those that are kept, and the responses that are appended
  abbrev left : ℕ → List (Act I R) → List (Act I R)
  left p rest = of_process p (filter (is_kept keeps) rest) ++ of_process p hw.completion.responses

  abbrev serial : ℕ → S → List (Invoked I) → List (Act I R)
  serial p s todo = of_process p (one_by_one object s todo)

  -- where p stands, beside its acts that are left, and the calls that are to take effect
  data Stand (p : ℕ) (a : Atomic S I) (rest : List (Act I R)) (todo : List (Invoked I)) : Type 0 where
    Quiet : Idle p a → AreInTurn false (a.next_nth p) (of_process p rest) → left p rest ≡ serial p (state_of object a) todo → Stand p a rest todo
    Asked : (c : Invoked I) → Waiting p a c → AreInTurn true c.nth (of_process p rest)
        → cond (keeps c.process c.nth) (Invoke c.process c.nth c.inv ∷ []) [] ++ left p rest ≡ serial p (state_of object a) todo → Stand p a rest todo
    Taken : (c : Invoked I) (place : ℕ) (r : R) → Done p a c place → response_at object a.start (invs object a.agreed) place ≡ Some r → AreInTurn true c.nth (of_process p rest)
        → left p rest ≡ Respond c.process c.nth r ∷ serial p (state_of object a) todo → Stand p a rest todo

  left_invoked : (p : ℕ) (rest : List (Act I R)) (j q m : ℕ) (i : I) → slice_get (left p rest) j ≡ Some (Invoke q m i) → Contains rest (Invoke q m i)
  left_invoked p rest j q m i at = elim (slice_get-append_cases (of_process p (filter (is_kept keeps) rest)) (of_process p hw.completion.responses) j (Invoke q m i) at) [
    | inl early ↦
        let one = filtered (is_by p) (filter (is_kept keeps) rest) (Invoke q m i) j early in
        let two = filtered (is_kept keeps) rest (Invoke q m i) one.0 one.1 in
        member rest two.0 (Invoke q m i) two.1
    | inr late ↦
        let one = filtered (is_by p) hw.completion.responses (Invoke q m i) late.0 late.2 in
        absurd (no_invoke hw.completion.responses hw.completion.are_responses one.0 q m i one.1)
  ]

  -- p stands the same after what others do
  module _ (p : ℕ) (a x : Atomic S I) (more : List (Invoked I)) (same_start : x.start ≡ a.start) (agreed : x.agreed ≡ a.agreed ++ more)
      (others : (j : ℕ) (d : Invoked I) → slice_get more j ≡ Some d → d.process ≢ p) (same_open : x.open_call p ≡ a.open_call p) (same_next : x.next_nth p ≡ a.next_nth p)
      (rest rest' : List (Act I R)) (todo todo' : List (Invoked I)) (same_acts : of_process p rest ≡ of_process p rest') (same_left : left p rest' ≡ left p rest)
      (same_serial : serial p (state_of object a) todo ≡ serial p (state_of object x) todo') where
    old_entry : (j : ℕ) (d : Invoked I) → slice_get x.agreed j ≡ Some d → d.process ≡ p → slice_get a.agreed j ≡ Some d
    old_entry j d at own = elim (slice_get-append_cases a.agreed more j d (ap (λ l. slice_get l j) (sym agreed) ∙ at)) [
      | inl before ↦ before
      | inr after ↦ absurd (others after.0 d after.2 own)
    ]

    stand_moved : Stand p a rest todo → Stand p x rest' todo'
    stand_moved (Quiet h turn e) = Quiet
        (record { is_open = same_open ∙ h.is_open; below = λ j d at own. subst (λ k. d.nth < k) (sym same_next) (h.below j d (old_entry j d at own) own) })
        (subst (λ k. AreInTurn false k (of_process p rest')) (sym same_next) (subst (λ l. AreInTurn false (a.next_nth p) l) same_acts turn))
        (same_left ∙ e ∙ same_serial)
    stand_moved (Asked c h turn e) = Asked c
        (record { is_open = same_open ∙ h.is_open; own = h.own; nth = h.nth ∙ sym same_next; below = λ j d at own. h.below j d (old_entry j d at own) own })
        (subst (λ l. AreInTurn true c.nth l) same_acts turn)
        (ap (λ l. cond (keeps c.process c.nth) (Invoke c.process c.nth c.inv ∷ []) [] ++ l) same_left ∙ e ∙ same_serial)
    stand_moved (Taken c place r h response turn e) = Taken c place r
        (record {
          is_open = same_open ∙ h.is_open;
          own = h.own;
          nth = h.nth ∙ sym same_next;
          at = ap (λ l. slice_get l place) agreed ∙ slice_get-append_left a.agreed more place c h.at;
          below = λ j d at own. h.below j d (old_entry j d at own) own;
        })
        (ap (λ s. response_at object s (invs object x.agreed) place) same_start ∙ ap (λ l. response_at object a.start (invs object l) place) agreed ∙ response-longer object a.start a.agreed more place r response)
        (subst (λ l. AreInTurn true c.nth l) same_acts turn)
        (same_left ∙ e ∙ ap (λ l. Respond c.process c.nth r ∷ l) same_serial)

  -- The next call of the order is open and waits, unless it is invoked later.
  module _ (a : Atomic S I) (rest : List (Act I R)) (e : Invoked I) (todo : List (Invoked I)) (never : (i : I) → ¬ (Contains rest (Invoke e.process e.nth i))) where
    abbrev answer_now : R
    answer_now = object.answer (state_of object a) e.inv

    abbrev behind : List (Act I R)
    behind = serial e.process (object.next (state_of object a) e.inv) todo

    serial_head : serial e.process (state_of object a) (e ∷ todo) ≡ Invoke e.process e.nth e.inv ∷ Respond e.process e.nth answer_now ∷ behind
    serial_head = elim (number_cases e.process e.process) [ inl same ↦ rw same.1 refl | inr other ↦ absurd (other.0 refl) ]

    record Waits : Type 0 where
      waits : Waiting e.process a e
      turn : AreInTurn true e.nth (of_process e.process rest)
      comes : left e.process rest ≡ Respond e.process e.nth answer_now ∷ behind

    invoked_at : (j : ℕ) (l : List (Act I R)) → left e.process rest ≡ l → slice_get l j ≡ Some (Invoke e.process e.nth e.inv) → ⊥
    invoked_at j l same at = never e.inv (left_invoked e.process rest j e.process e.nth e.inv (ap (λ x. slice_get x j) same ∙ at))

    asked : (c : Invoked I) (b : Bool) → cond b (Invoke c.process c.nth c.inv ∷ []) [] ++ left e.process rest ≡ Invoke e.process e.nth e.inv ∷ Respond e.process e.nth answer_now ∷ behind
        → (c ≡ e) × (left e.process rest ≡ Respond e.process e.nth answer_now ∷ behind)
    asked c true same = (same_call {R = R} (Invoke c.process c.nth c.inv) c e refl (cc), (cc))
    asked c false same = absurd (invoked_at 0 (Invoke e.process e.nth e.inv ∷ Respond e.process e.nth answer_now ∷ behind) same refl)

    head_waits : Stand e.process a rest (e ∷ todo) → Waits
    head_waits (Quiet h turn same) = absurd (invoked_at 0 (Invoke e.process e.nth e.inv ∷ Respond e.process e.nth answer_now ∷ behind) (same ∙ serial_head) refl)
    head_waits (Asked c h turn same) =
        let is = asked c (keeps c.process c.nth) (same ∙ serial_head) in record {
          waits = subst (λ (x : Invoked I). Waiting e.process a x) is.0 h;
          turn = subst (λ (x : Invoked I). AreInTurn true x.nth (of_process e.process rest)) is.0 turn;
          comes = is.1;
        }
    head_waits (Taken c place r h response turn same) =
        absurd (invoked_at 1 (Respond c.process c.nth r ∷ Invoke e.process e.nth e.inv ∷ Respond e.process e.nth answer_now ∷ behind) (same ∙ ap (λ l. Respond c.process c.nth r ∷ l) serial_head) refl)

    abbrev linearized : Atomic S I
    linearized = record a { agreed = a.agreed ++ e ∷ [] }

    only_e : (j : ℕ) (d : Invoked I) → slice_get (e ∷ []) j ≡ Some d → (j ≡ 0) × (e ≡ d)
    only_e zero d at = (refl, (let f : Some e ≡ Some d = at in cc))
    only_e (suc j) d at = absurd (let f : None ≡ Some d = at in cc)

    taken : Waits → Stand e.process linearized rest todo
    taken w = Taken e (length a.agreed) answer_now
        (record {
          is_open = w.waits.is_open;
          own = refl;
          nth = w.waits.nth;
          at = ap (slice_get (a.agreed ++ e ∷ [])) (let n : length a.agreed ≡ length a.agreed + 0 = omega arith in n) ∙ slice_get-append_right a.agreed (e ∷ []) 0;
          below = λ j d at own. elim (slice_get-append_cases a.agreed (e ∷ []) j d at) [
            | inl before ↦ inl (w.waits.below j d before own)
            | inr after ↦ inr (let first = (only_e after.0 d after.2).0 in let place : j ≡ length a.agreed + after.0 = after.1 in omega arith)
          ];
        })
        (response-last object a.start a.agreed e)
        w.turn
        (w.comes ∙ ap (λ s. Respond e.process e.nth answer_now ∷ serial e.process s todo) (sym (state-last object a.start a.agreed e)))

    linearize_head : ((p : ℕ) → Stand p a rest (e ∷ todo)) → Accepts object a (Linearize e) linearized × ((p : ℕ) → Stand p linearized rest todo)
    linearize_head stands =
        let w = head_waits (stands e.process) in (
          (w.waits.is_open, (λ there. let at = place_of_member a.agreed e there in let less : e.nth < e.nth = w.waits.below at.0 e at.1 refl in omega arith), refl),
          λ p. elim (number_cases e.process p) [
            | inl same ↦ subst (λ q. Stand q linearized rest todo) same.0 (taken w)
            | inr other ↦ stand_moved p a linearized (e ∷ []) refl refl (λ j d at. subst (λ (x : Invoked I). x.process ≢ p) (only_e j d at).1 other.0) refl refl rest rest (e ∷ todo) todo refl refl
                ((let h : serial p (state_of object a) (e ∷ todo) ≡ serial p (object.next (state_of object a) e.inv) todo = rw other.1 refl in h) ∙ ap (λ s. serial p s todo) (sym (state-last object a.start a.agreed e)))
                (stands p)
          ],
        )

  -- linearization points that are put among the acts
  record Places (a : Atomic S I) (rest : List (Act I R)) : Type 0 where
    acts : List (Act I R)
    last : Atomic S I
    seen : observed acts ≡ rest
    accepted : AcceptsAll object a acts last
    all : last.agreed ≡ full

  add_point : (a x : Atomic S I) (rest : List (Act I R)) (e : Invoked I) → Accepts object a (Linearize e) x → Places x rest → Places a rest
  add_point a x rest e ok places = record { acts = Linearize e ∷ places.acts; last = places.last; seen = places.seen; accepted = (x, ok, places.accepted); all = places.all }

  -- after the last act the calls take effect that are left
  ends : (todo : List (Invoked I)) (a : Atomic S I) → full ≡ a.agreed ++ todo → ((p : ℕ) → Stand p a [] todo) → Places a []
  ends [] a order stands = record { acts = []; last = a; seen = refl; accepted = refl; all = sym (order ∙ append-nil a.agreed) }
  ends (e ∷ todo) a order stands =
      let point = linearize_head a [] e todo (λ i there. (let at = place_of_member [] (Invoke e.process e.nth i) there in let f : None ≡ Some (Invoke e.process e.nth i) = at.1 in cc)) stands in
      add_point a (record a { agreed = a.agreed ++ e ∷ [] }) [] e point.0 (ends todo (record a { agreed = a.agreed ++ e ∷ [] }) (order ∙ sym (append_assoc a.agreed (e ∷ []) todo)) point.1)

  -- an act of its own process, and one of another
  own_invoke : (q k : ℕ) (i : I) (l : List (Act I R)) → of_process q (Invoke q k i ∷ l) ≡ Invoke q k i ∷ of_process q l
  own_invoke q k i l = elim (number_cases q q) [ inl same ↦ rw same.1 refl | inr other ↦ absurd (other.0 refl) ]

  own_respond : (q k : ℕ) (r : R) (l : List (Act I R)) → of_process q (Respond q k r ∷ l) ≡ Respond q k r ∷ of_process q l
  own_respond q k r l = elim (number_cases q q) [ inl same ↦ rw same.1 refl | inr other ↦ absurd (other.0 refl) ]

  left_respond : (q k : ℕ) (r : R) (rest : List (Act I R)) → left q (Respond q k r ∷ rest) ≡ Respond q k r ∷ left q rest
  left_respond q k r rest = ap (λ l. l ++ of_process q hw.completion.responses) (own_respond q k r (filter (is_kept keeps) rest))

  left_invoke : (q k : ℕ) (i : I) (rest : List (Act I R)) (b : Bool)
      → cond b (Invoke q k i ∷ []) [] ++ left q rest ≡ of_process q (cond b (Invoke q k i ∷ filter (is_kept keeps) rest) (filter (is_kept keeps) rest)) ++ of_process q hw.completion.responses
  left_invoke q k i rest true = ap (λ l. l ++ of_process q hw.completion.responses) (sym (own_invoke q k i (filter (is_kept keeps) rest)))
  left_invoke q k i rest false = refl

  others_invoke : (p q k : ℕ) (i : I) (l : List (Act I R)) (b : Bool) → nat_eq q p ≡ false → of_process p l ≡ of_process p (cond b (Invoke q k i ∷ l) l)
  others_invoke p q k i l true e = rw e refl
  others_invoke p q k i l false e = refl

  -- what a process in the middle of a call does next is to respond
  no_turn_invoke : (q k n : ℕ) (i : I) (l : List (Act I R)) → AreInTurn true n (of_process q (Invoke q k i ∷ l)) → ⊥
  no_turn_invoke q k n i l turn = subst (λ acts. AreInTurn true n acts) (own_invoke q k i l) turn

  no_turn_respond : (q k n : ℕ) (r : R) (l : List (Act I R)) → AreInTurn false n (of_process q (Respond q k r ∷ l)) → ⊥
  no_turn_respond q k n r l turn = subst (λ acts. AreInTurn false n acts) (own_respond q k r l) turn

  -- the acts so far, and those that are to come
  module _ (q k : ℕ) (r : R) (past rest : List (Act I R)) (whole : history ≡ past ++ Respond q k r ∷ rest) where
    responds_in : Contains history (Respond q k r)
    responds_in = subst (λ l. Contains l (Respond q k r)) (sym whole)
        (member (past ++ Respond q k r ∷ rest) (length past) (Respond q k r)
        (ap (slice_get (past ++ Respond q k r ∷ rest)) (let n : length past ≡ length past + 0 = omega arith in n) ∙ slice_get-append_right past (Respond q k r ∷ rest) 0))

    invoked_behind : (j p m : ℕ) (i : I) → slice_get (Respond q k r ∷ rest) j ≡ Some (Invoke p m i) → Contains rest (Invoke p m i)
    invoked_behind zero p m i at = absurd (respond_apart object (Some (Respond q k r)) q k r p m i refl at)
    invoked_behind (suc j) p m i at = member rest j (Invoke p m i) at

    module _ (a : Atomic S I) (e : Invoked I) (todo : List (Invoked I)) (order : full ≡ a.agreed ++ e ∷ todo) (c : Invoked I) (w : Waiting q a c) (same_k : c.nth ≡ k) where
      -- its place among the calls that are left
      place_left : (b : Bool) → keeps c.process c.nth ≡ b → cond b (Invoke c.process c.nth c.inv ∷ []) [] ++ left q (Respond q k r ∷ rest) ≡ serial q (state_of object a) (e ∷ todo)
          → (y : ℕ) × (d : Invoked I) × (slice_get (e ∷ todo) y ≡ Some d) × (d.process ≡ c.process) × (d.nth ≡ c.nth)
      place_left true is same =
          let one = filtered (is_by q) (one_by_one object (state_of object a) (e ∷ todo)) (Invoke c.process c.nth c.inv) 0 (ap (λ l. slice_get l 0) (sym same)) in
          serial_invoked object (state_of object a) (e ∷ todo) one.0 c.process c.nth c.inv one.1
      place_left false is same =
          absurd (hw.completion.pending q k r (ap (λ x. keeps x k) (sym w.own) ∙ ap (λ x. keeps c.process x) (sym same_k) ∙ is) responds_in)

      never : cond (keeps c.process c.nth) (Invoke c.process c.nth c.inv ∷ []) [] ++ left q (Respond q k r ∷ rest) ≡ serial q (state_of object a) (e ∷ todo)
          → (i : I) → ¬ (Contains (Respond q k r ∷ rest) (Invoke e.process e.nth i))
      never same i there =
          let found = place_left (keeps c.process c.nth) refl same in
          let d = found.1 in
          let at = place_of_member (Respond q k r ∷ rest) (Invoke e.process e.nth i) there in
          let behind = place_of_member rest (Invoke e.process e.nth i) (invoked_behind at.0 e.process e.nth i at.1) in
          let split = split_at rest behind.0 (Invoke e.process e.nth i) behind.1 in
          let precedes : Precedes history q k e.process e.nth
          = record { before = past; response = r; between = split.0; inv = i; after = split.1; split = whole ∙ ap (λ l. past ++ Respond q k r ∷ l) split.2 } in
          let its : Precedes history d.process d.nth e.process e.nth
          = subst (λ x. Precedes history x d.nth e.process e.nth) (sym (found.3 ∙ w.own)) (subst (λ x. Precedes history q x e.process e.nth) (sym (found.4 ∙ same_k)) precedes) in
          let less : length a.agreed + found.0 < length a.agreed + 0 = hw.real_time (length a.agreed + found.0) (length a.agreed + 0) d e
          (ap (λ l. slice_get l (length a.agreed + found.0)) order ∙ slice_get-append_right a.agreed (e ∷ todo) found.0 ∙ found.2)
          (ap (λ l. slice_get l (length a.agreed + 0)) order ∙ slice_get-append_right a.agreed (e ∷ todo) 0) its in
          omega arith

    -- the response comes, once its call has taken effect
    module _ (a : Atomic S I) (todo : List (Invoked I)) (stands : (p : ℕ) → Stand p a (Respond q k r ∷ rest) todo) where
      abbrev responded : Atomic S I
      responded = record a { open_call = set_at a.open_call q None }

      respond_turn : (c : Invoked I) → AreInTurn true c.nth (of_process q (Respond q k r ∷ rest)) → (k ≡ c.nth) × AreInTurn false (c.nth + 1) (of_process q rest)
      respond_turn c turn = subst (λ acts. AreInTurn true c.nth acts) (own_respond q k r rest) turn

      quiet_then : (c : Invoked I) (place : ℕ) (s : R) → Done q a c place → AreInTurn true c.nth (of_process q (Respond q k r ∷ rest)) → left q (Respond q k r ∷ rest) ≡ Respond c.process c.nth s ∷ serial q (state_of object a) todo
          → Stand q responded rest todo
      quiet_then c place s h turn same = Quiet
          (record {
            is_open = elim (set_at-cases a.open_call q None q) [ inl g ↦ g.1 | inr g ↦ absurd (g.0 refl) ];
            below = λ j d at own.
                let next : c.nth + 1 ≡ a.next_nth q = h.nth in
                elim (h.below j d at own) [
                  | inl less ↦ (let l : d.nth < c.nth = less in omega arith)
                  | inr found ↦
                      let g : Some d ≡ Some c = sym at ∙ ap (slice_get a.agreed) found ∙ h.at in
                      let d_is : d ≡ c = cc in
                      let d_nth : d.nth ≡ c.nth = ap (λ (x : Invoked I). x.nth) d_is in
                      omega arith
                ];
          })
          (subst (λ n. AreInTurn false n (of_process q rest)) h.nth (respond_turn c turn).1)
          (let f : Respond q k r ∷ left q rest ≡ Respond c.process c.nth s ∷ serial q (state_of object a) todo = sym (left_respond q k r rest) ∙ same in cc)

      stand_then : Stand q responded rest todo → (p : ℕ) → Stand p responded rest todo
      stand_then own p = elim (number_cases q p) [
        | inl same ↦ subst (λ x. Stand x responded rest todo) same.0 own
        | inr other ↦ stand_moved p a responded [] refl (sym (append-nil a.agreed)) (λ j d at. absurd (let f : None ≡ Some d = at in cc)) (set_at_elsewhere a.open_call q _ p (λ e. other.0 (sym e))) refl
            (Respond q k r ∷ rest) rest todo todo (rw other.1 refl) (rw other.1 refl) refl (stands p)
      ]

      accepts : (c : Invoked I) (place : ℕ) (s : R) → Done q a c place → response_at object a.start (invs object a.agreed) place ≡ Some s → AreInTurn true c.nth (of_process q (Respond q k r ∷ rest))
          → left q (Respond q k r ∷ rest) ≡ Respond c.process c.nth s ∷ serial q (state_of object a) todo → Accepts object a (Respond q k r) responded
      accepts c place s h response turn same =
          let named : c ≡ record { process = q; nth = k; inv = c.inv } = its_name c q k h.own (sym (respond_turn c turn).0) in
          let f : Respond q k r ∷ left q rest ≡ Respond c.process c.nth s ∷ serial q (state_of object a) todo = sym (left_respond q k r rest) ∙ same in
          let is : s ≡ r = cc in
          ((c.inv, place, h.is_open ∙ ap Some named, h.at ∙ ap Some named, response ∙ ap Some is), refl)

    add_response : (a x : Atomic S I) → Accepts object a (Respond q k r) x → Places x rest → Places a (Respond q k r ∷ rest)
    add_response a x ok places = record { acts = Respond q k r ∷ places.acts; last = places.last; seen = ap (λ l. Respond q k r ∷ l) places.seen; accepted = (x, ok, places.accepted); all = places.all }

    -- what comes after the response
    abbrev GoesOn : Type 0
    GoesOn = (x : Atomic S I) (todo : List (Invoked I)) → full ≡ x.agreed ++ todo → ((p : ℕ) → Stand p x rest todo) → Places x rest

    -- calls take effect up to the one that responds, and it responds
    catches_up : GoesOn → (todo : List (Invoked I)) (a : Atomic S I) → full ≡ a.agreed ++ todo → ((p : ℕ) → Stand p a (Respond q k r ∷ rest) todo) → Stand q a (Respond q k r ∷ rest) todo
        → Places a (Respond q k r ∷ rest)
    catches_up goes todo a order stands (Quiet h turn same) = absurd (no_turn_respond q k (a.next_nth q) r rest turn)
    catches_up goes todo a order stands (Taken c place s h response turn same) =
        add_response a (responded a todo stands) (accepts a todo stands c place s h response turn same)
        (goes (responded a todo stands) todo order (stand_then a todo stands (quiet_then a todo stands c place s h turn same)))
    catches_up goes [] a order stands (Asked c h turn same) =
        absurd (nothing_left (keeps c.process c.nth) c same)
      where
        nothing_left : (b : Bool) (d : Invoked I) → cond b (Invoke d.process d.nth d.inv ∷ []) [] ++ left q (Respond q k r ∷ rest) ≡ [] → ⊥
        nothing_left true d e = cc
        nothing_left false d e = (let f : Respond q k r ∷ left q rest ≡ [] = sym (left_respond q k r rest) ∙ e in cc)
    catches_up goes (e ∷ todo) a order stands (Asked c h turn same) =
        let point = linearize_head a (Respond q k r ∷ rest) e todo (never a e todo order c h (sym (respond_turn a (e ∷ todo) stands c turn).0) same) stands in
        let x : Atomic S I = record a { agreed = a.agreed ++ e ∷ [] } in
        add_point a x (Respond q k r ∷ rest) e point.0 (catches_up goes todo x (order ∙ sym (append_assoc a.agreed (e ∷ []) todo)) point.1 (point.1 q))

  -- an invocation comes
  module _ (q k : ℕ) (i : I) (rest : List (Act I R)) (a : Atomic S I) (todo : List (Invoked I)) (stands : (p : ℕ) → Stand p a (Invoke q k i ∷ rest) todo) where
    abbrev it : Invoked I
    it = record { process = q; nth = k; inv = i }

    abbrev invoked : Atomic S I
    invoked = record a { open_call = set_at a.open_call q (Some it); next_nth = set_at a.next_nth q (k + 1) }

    invoke_turn : (n : ℕ) → AreInTurn false n (of_process q (Invoke q k i ∷ rest)) → (k ≡ n) × AreInTurn true n (of_process q rest)
    invoke_turn n turn = subst (λ acts. AreInTurn false n acts) (own_invoke q k i rest) turn

    invokes : Stand q a (Invoke q k i ∷ rest) todo → Accepts object a (Invoke q k i) invoked × Stand q invoked rest todo
    invokes (Quiet h turn same) =
        let now = invoke_turn (a.next_nth q) turn in (
          (h.is_open, sym now.0, refl),
          Asked it
              (record {
                is_open = elim (set_at-cases a.open_call q (Some it) q) [ inl g ↦ g.1 | inr g ↦ absurd (g.0 refl) ];
                own = refl;
                nth = elim (set_at-cases a.next_nth q (k + 1) q) [ inl g ↦ sym g.1 | inr g ↦ absurd (g.0 refl) ];
                below = λ j d at own. subst (λ n. d.nth < n) (sym now.0) (h.below j d at own);
              })
              (subst (λ n. AreInTurn true n (of_process q rest)) (sym now.0) now.1)
              (left_invoke q k i rest (keeps q k) ∙ same),
        )
    invokes (Asked c h turn same) = absurd (no_turn_invoke q k c.nth i rest turn)
    invokes (Taken c place r h response turn same) = absurd (no_turn_invoke q k c.nth i rest turn)

    invoke_then : Stand q invoked rest todo → (p : ℕ) → Stand p invoked rest todo
    invoke_then own p = elim (number_cases q p) [
      | inl same ↦ subst (λ x. Stand x invoked rest todo) same.0 own
      | inr other ↦ stand_moved p a invoked [] refl (sym (append-nil a.agreed)) (λ j d at. absurd (let f : None ≡ Some d = at in cc))
          (set_at_elsewhere a.open_call q _ p (λ e. other.0 (sym e))) (set_at_elsewhere a.next_nth q _ p (λ e. other.0 (sym e)))
          (Invoke q k i ∷ rest) rest todo todo (rw other.1 refl)
          (ap (λ l. l ++ of_process p hw.completion.responses) (others_invoke p q k i (filter (is_kept keeps) rest) (keeps q k) other.1)) refl (stands p)
    ]

  no_point : (c : Invoked I) (rest : List (Act I R)) (a : Atomic S I) (todo : List (Invoked I)) → Stand c.process a (Linearize c ∷ rest) todo → ⊥
  no_point c rest a todo stand = by_stand stand where
    own_point : of_process c.process (Linearize c ∷ rest) ≡ Linearize c ∷ of_process c.process rest
    own_point = elim (number_cases c.process c.process) [ inl same ↦ rw same.1 refl | inr other ↦ absurd (other.0 refl) ]

    by_stand : Stand c.process a (Linearize c ∷ rest) todo → ⊥
    by_stand (Quiet h turn same) = subst (λ acts. AreInTurn false (a.next_nth c.process) acts) own_point turn
    by_stand (Asked d h turn same) = subst (λ acts. AreInTurn true d.nth acts) own_point turn
    by_stand (Taken d place r h response turn same) = subst (λ acts. AreInTurn true d.nth acts) own_point turn

  places : (rest past : List (Act I R)) (a : Atomic S I) (todo : List (Invoked I)) → history ≡ past ++ rest → full ≡ a.agreed ++ todo → ((p : ℕ) → Stand p a rest todo) → Places a rest
  places [] past a todo whole order stands = ends todo a order stands
  places (Invoke q k i ∷ rest) past a todo whole order stands =
      let own = invokes q k i rest a todo stands (stands q) in
      let x = invoked q k i rest a todo stands in
      let later = places rest (past ++ Invoke q k i ∷ []) x todo (whole ∙ sym (append_assoc past (Invoke q k i ∷ []) rest)) order (invoke_then q k i rest a todo stands own.1) in
      record { acts = Invoke q k i ∷ later.acts; last = later.last; seen = ap (λ l. Invoke q k i ∷ l) later.seen; accepted = (x, own.0, later.accepted); all = later.all }
  places (Linearize c ∷ rest) past a todo whole order stands = absurd (no_point c rest a todo (stands c.process))
  places (Respond q k r ∷ rest) past a todo whole order stands =
      catches_up q k r past rest whole
      (λ x left_todo left_order left_stands. places rest (past ++ Respond q k r ∷ []) x left_todo (whole ∙ sym (append_assoc past (Respond q k r ∷ []) rest)) left_order left_stands)
      todo a order stands (stands q)

  at_first : IsWellFormed history → (p : ℕ) → Stand p (at_start start) history full
  at_first well p = Quiet
      (record { is_open = refl; below = λ j d at own. absurd (let e : None ≡ Some d = at in cc) })
      (well p)
      (sym (filter-append (is_by p) (filter (is_kept keeps) history) hw.completion.responses) ∙ ap (of_process p) (sym hw.completion.appended) ∙ hw.equivalent p)

  pub linearizable : IsWellFormed history → IsLinearizedAs object start history full
  linearizable well =
      let placed = places history [] (at_start start) full refl refl (at_first well) in
      (placed.acts, placed.last, placed.seen, placed.accepted, placed.all)

pub AgreesInOrder-holds : {S I R : Type 0} (object : Sequential S I R) (start : S) (history : List (Act I R)) (order : List (Invoked I)) → AgreesInOrder object start history order
AgreesInOrder-holds object start history order = (completed object start history order, λ both. linearizable object start history order both.1 both.0)

pub AgreesWithCompletion-holds : {S I R : Type 0} (object : Sequential S I R) (start : S) (history : List (Act I R)) → AgreesWithCompletion object start history
AgreesWithCompletion-holds object start history = (
  λ its. let both = completed object start history its.0 its.1 in (both.0, (its.0, both.1)),
  λ both. (both.1.0, linearizable object start history both.1.0 both.1.1 both.0),
)

pub ObservesCompletion-holds : {S I R : Type 0} (object : Sequential S I R) (n : ℕ) (start : S) (number : ℕ) (events : List (Event I)) → ObservesCompletion object n start number events
ObservesCompletion-holds object n start number events positive ok =
    (AgreesWithCompletion-holds object start (observed_in object (opened_world n start number) events)).0 (ObservesLinearizable-holds object n start number events positive ok)
