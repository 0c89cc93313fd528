-- Locality: the linearization points of each object's subhistory are put among the acts of the whole history.
use Rattle.uni_model.proofs.Vocabulary.{Accepts, AcceptsAll, Act, AreInTurn, Atomic, Contains, Invoke, Invoked, IsLinearizableHistory, IsWellFormed, Linearize, List, None, Respond, Sequential, Some, [], ap, append-nil, arith, at_start, false, inl, inr, length, observed, of_object, of_process, refl, response_at, set_at, slice_get, subst, suc, sym, together, true, zero, ℕ, ◌++◌, ◌+◌, ◌-◌, ◌<◌, ◌∙◌, ◌∷◌, ◌≡◌, ◌≢◌}
use Rattle.uni_model.proofs.Written.{number_cases}
use Rattle.uni_model.proofs.LawProofs.{set_at_elsewhere}
use Rattle.uni_model.proofs.Solo.{set_at_here}
use Rattle.uni_model.proofs.Appended.{slice_get-append_left, slice_get-append_right, slice_get-append_cases}
use Rattle.uni_model.proofs.Members.{member, place_of_member}
use Rattle.uni_model.proofs.Completed.{Idle, Waiting, Done, invs, state_of, state-last, response-last, response-longer}

-- Each object alone: where a process stands after an act.
module _ {S I R : Type 0} (object : Sequential S I R) where
  -- q stands the same
  pub record Keeps (q : ℕ) (a b : Atomic S I) : Type 0 where
    pub next : b.next_nth q ≡ a.next_nth q
    pub idle : Idle q a → Idle q b
    pub waiting : (c : Invoked I) → Waiting q a c → Waiting q b c
    pub done : (c : Invoked I) (place : ℕ) → Done q a c place → Done q b c place
    pub response : (place : ℕ) (r : R) → response_at object a.start (invs object a.agreed) place ≡ Some r → response_at object b.start (invs object b.agreed) place ≡ Some r

  module _ (q : ℕ) (a x : Atomic S I) (more : List (Invoked I)) (start : x.start ≡ a.start) (agreed : x.agreed ≡ a.agreed ++ more)
      (others : (j : ℕ) (d : Invoked I) → slice_get more j ≡ Some d → d.process ≢ q) (same_open : x.open_call q ≡ a.open_call q) (same_next : x.next_nth q ≡ a.next_nth q) where
    old_entry : (j : ℕ) (d : Invoked I) → slice_get x.agreed j ≡ Some d → d.process ≡ q → slice_get a.agreed j ≡ Some d
    old_entry j d at own = elim (slice_get-append_cases a.agreed more j d (ap (λ l. slice_get l j) (sym agreed) ∙ at)) [
      | inl before ↦ before
      | inr after ↦ absurd (others after.0 d after.2 own)
    ]

    keeps_by : Keeps q a x
    keeps_by = record {
      next = same_next;
      idle = λ h. record { is_open = same_open ∙ h.is_open; below = λ j d at own. subst (λ k. d.nth < k) (sym same_next) (h.below j d (old_entry j d at own) own) };
      waiting = λ c h. record { is_open = same_open ∙ h.is_open; own = h.own; nth = h.nth ∙ sym same_next; below = λ j d at own. h.below j d (old_entry j d at own) own };
      done = λ c place h. record {
        is_open = same_open ∙ h.is_open;
        own = h.own;
        nth = h.nth ∙ sym same_next;
        at = ap (λ l. slice_get l place) agreed ∙ slice_get-append_left a.agreed more place c h.at;
        below = λ j d at own. h.below j d (old_entry j d at own) own;
      };
      response = λ place r e. ap (λ s. response_at object s (invs object x.agreed) place) start ∙ ap (λ l. response_at object a.start (invs object l) place) agreed ∙ response-longer object a.start a.agreed more place r e;
    }

  no_more : (q j : ℕ) (d : Invoked I) → slice_get {X = Invoked I} [] j ≡ Some d → d.process ≢ q
  no_more q j d at = absurd (let e : None ≡ Some d = at in cc)

  only_one : (c d : Invoked I) (j : ℕ) → slice_get (c ∷ []) j ≡ Some d → (j ≡ 0) × (c ≡ d)
  only_one c d zero at = (refl, (let f : Some c ≡ Some d = at in cc))
  only_one c d (suc j) at = absurd (let f : None ≡ Some d = at in cc)

  pub keeps_same : (q : ℕ) (a : Atomic S I) → Keeps q a a
  keeps_same q a = keeps_by q a a [] refl (sym (append-nil a.agreed)) (no_more q) refl refl

  -- after an act of another process
  pub keeps_invoke : (q : ℕ) (a b : Atomic S I) (p k : ℕ) (i : I) → Accepts object a (Invoke p k i) b → q ≢ p → Keeps q a b
  keeps_invoke q a b p k i ok apart = subst (λ x. Keeps q a x) (sym ok.2)
      (keeps_by q a (record a { open_call = set_at a.open_call p (Some (record { process = p; nth = k; inv = i })); next_nth = set_at a.next_nth p (k + 1) }) [] refl (sym (append-nil a.agreed)) (no_more q)
      (set_at_elsewhere a.open_call p _ q apart) (set_at_elsewhere a.next_nth p _ q apart))

  pub keeps_point : (q : ℕ) (a b : Atomic S I) (c : Invoked I) → Accepts object a (Linearize c) b → q ≢ c.process → Keeps q a b
  keeps_point q a b c ok apart = subst (λ x. Keeps q a x) (sym ok.2)
      (keeps_by q a (record a { agreed = a.agreed ++ c ∷ [] }) (c ∷ []) refl refl (λ j d at own. apart (sym (ap (λ (x : Invoked I). x.process) (only_one c d j at).1 ∙ own))) refl refl)

  pub keeps_respond : (q : ℕ) (a b : Atomic S I) (p k : ℕ) (r : R) → Accepts object a (Respond p k r) b → q ≢ p → Keeps q a b
  keeps_respond q a b p k r ok apart = subst (λ x. Keeps q a x) (sym ok.1)
      (keeps_by q a (record a { open_call = set_at a.open_call p None }) [] refl (sym (append-nil a.agreed)) (no_more q) (set_at_elsewhere a.open_call p _ q apart) refl)

  -- after an act of its own
  pub invoke_own : (a b : Atomic S I) (p k : ℕ) (i : I) → Accepts object a (Invoke p k i) b → Idle p a → Waiting p b (record { process = p; nth = k; inv = i })
  invoke_own a b p k i ok h = subst (λ (x : Atomic S I). Waiting p x (record { process = p; nth = k; inv = i })) (sym ok.2) (record {
    is_open = set_at_here a.open_call p (Some (record { process = p; nth = k; inv = i }));
    own = refl;
    nth = sym (set_at_here a.next_nth p (k + 1));
    below = λ j d at own. subst (λ n. d.nth < n) ok.1 (h.below j d at own);
  })

  pub point_own : (a b : Atomic S I) (p : ℕ) (c : Invoked I) → Accepts object a (Linearize c) b → Waiting p a c → Done p b c (length a.agreed)
  point_own a b p c ok h = subst (λ (x : Atomic S I). Done p x c (length a.agreed)) (sym ok.2) (record {
    is_open = h.is_open;
    own = h.own;
    nth = h.nth;
    at = ap (slice_get (a.agreed ++ c ∷ [])) (let n : length a.agreed ≡ length a.agreed + 0 = omega arith in n) ∙ slice_get-append_right a.agreed (c ∷ []) 0;
    below = λ j d at own. elim (slice_get-append_cases a.agreed (c ∷ []) j d at) [
      | inl before ↦ inl (h.below j d before own)
      | inr after ↦ inr (let first = (only_one c d after.0 after.2).0 in let place : j ≡ length a.agreed + after.0 = after.1 in omega arith)
    ];
  })

  pub point_response : (a b : Atomic S I) (c : Invoked I) → Accepts object a (Linearize c) b → response_at object b.start (invs object b.agreed) (length a.agreed) ≡ Some (object.answer (state_of object a) c.inv)
  point_response a b c ok = subst (λ (x : Atomic S I). response_at object x.start (invs object x.agreed) (length a.agreed) ≡ Some (object.answer (state_of object a) c.inv)) (sym ok.2) (response-last object a.start a.agreed c)

  pub point_state : (a b : Atomic S I) (c : Invoked I) → Accepts object a (Linearize c) b → state_of object b ≡ object.next (state_of object a) c.inv
  point_state a b c ok = ap (λ (x : Atomic S I). state_of object x) ok.2 ∙ state-last object a.start a.agreed c

  pub respond_own : (a b : Atomic S I) (p k : ℕ) (r : R) (c : Invoked I) (place : ℕ) → Accepts object a (Respond p k r) b → Done p a c place → Idle p b
  respond_own a b p k r c place ok h = subst (λ (x : Atomic S I). Idle p x) (sym ok.1) (record {
    is_open = set_at_here a.open_call p None;
    below = λ j d at own.
        let next : c.nth + 1 ≡ a.next_nth p = h.nth in
        elim (h.below j d at own) [
          | inl less ↦ (let l : d.nth < c.nth = less in omega arith)
          | inr found ↦
              let g : Some d ≡ Some c = sym at ∙ ap (slice_get a.agreed) found ∙ h.at in
              let d_is : d ≡ c = cc in
              let d_nth : d.nth ≡ c.nth = ap (λ (x : Invoked I). x.nth) d_is in
              omega arith
        ];
  })

  pub absent : (a : Atomic S I) (p : ℕ) (c : Invoked I) → Waiting p a c → ¬ (Contains a.agreed c)
  absent a p c h there = let at = place_of_member a.agreed c there in let less : c.nth < c.nth = h.below at.0 c at.1 h.own in omega arith

pub its_name : {I : Type 0} (c : Invoked I) (q k : ℕ) → c.process ≡ q → c.nth ≡ k → c ≡ record { process = q; nth = k; inv = c.inv }
its_name c q k p n = λ i. record { process = p i; nth = n i; inv = c.inv }

module _ {S I R : Type 0} (objects : ℕ → Sequential S I R) where
  abbrev all : Sequential (ℕ → S) (ℕ × I) (ℕ × R)
  all = together objects

  abbrev History : Type 0
  History = List (Act (ℕ × I) (ℕ × R))

  -- where p stands in the whole and in each object
  data Meets (p : ℕ) (a : Atomic (ℕ → S) (ℕ × I)) (each_at : ℕ → Atomic S I) (h : History) : Type 0 where
    AllIdle : Idle p a → ((y : ℕ) → Idle p (each_at y)) → AreInTurn false (a.next_nth p) (of_process p h) → Meets p a each_at h
    OneWaits : (x : ℕ) (c : Invoked (ℕ × I)) (d : Invoked I) → Waiting p a c → Waiting p (each_at x) d → c.inv ≡ (x, d.inv) → ((y : ℕ) → y ≢ x → Idle p (each_at y))
        → AreInTurn true c.nth (of_process p h) → Meets p a each_at h
    OneDone : (x : ℕ) (c : Invoked (ℕ × I)) (d : Invoked I) (place here : ℕ) (r : R) → Done p a c place → response_at all a.start (invs all a.agreed) place ≡ Some (x, r)
        → Done p (each_at x) d here → response_at (objects x) (each_at x).start (invs (objects x) (each_at x).agreed) here ≡ Some r → ((y : ℕ) → y ≢ x → Idle p (each_at y))
        → AreInTurn true c.nth (of_process p h) → Meets p a each_at h

  meets_moved : (p : ℕ) (a b : Atomic (ℕ → S) (ℕ × I)) (each_at bs : ℕ → Atomic S I) (h h' : History) → Keeps all p a b → ((y : ℕ) → Keeps (objects y) p (each_at y) (bs y)) → of_process p h ≡ of_process p h'
      → Meets p a each_at h → Meets p b bs h'
  meets_moved p a b each_at bs h h' whole each same (AllIdle f g turn) =
      AllIdle (whole.idle f) (λ y. (each y).idle (g y)) (subst (λ n. AreInTurn false n (of_process p h')) (sym whole.next) (subst (λ l. AreInTurn false (a.next_nth p) l) same turn))
  meets_moved p a b each_at bs h h' whole each same (OneWaits x c d f g e others turn) =
      OneWaits x c d (whole.waiting c f) ((each x).waiting d g) e (λ y apart. (each y).idle (others y apart)) (subst (λ l. AreInTurn true c.nth l) same turn)
  meets_moved p a b each_at bs h h' whole each same (OneDone x c d place here r f e g e' others turn) =
      OneDone x c d place here r (whole.done c place f) (whole.response place (x, r) e) ((each x).done d here g) ((each x).response here r e') (λ y apart. (each y).idle (others y apart)) (subst (λ l. AreInTurn true c.nth l) same turn)

  -- what is left of an object's subhistory, with its linearization points
  record Rest (x : ℕ) (a : Atomic S I) (h : History) : Type 0 where
    acts : List (Act I R)
    last : Atomic S I
    next : ℕ → ℕ
    accepted : AcceptsAll (objects x) a acts last
    seen : observed acts ≡ of_object x next h

  -- the points put among the acts of the whole history
  record Merged (a : Atomic (ℕ → S) (ℕ × I)) (h : History) : Type 0 where
    acts : History
    last : Atomic (ℕ → S) (ℕ × I)
    seen : observed acts ≡ h
    accepted : AcceptsAll all a acts last

  abbrev SameStates : Atomic (ℕ → S) (ℕ × I) → (ℕ → Atomic S I) → Type 0
  SameStates a each_at = (y : ℕ) → state_of all a y ≡ state_of (objects y) (each_at y)

  -- the object x takes an act
  module _ (each_at : ℕ → Atomic S I) (x : ℕ) (b : Atomic S I) where
    abbrev now : ℕ → Atomic S I
    now = set_at each_at x b

    now_here : now x ≡ b
    now_here = set_at_here each_at x b

    now_each : (P : ℕ → Atomic S I → Type 0) → P x b → ((y : ℕ) → y ≢ x → P y (each_at y)) → (y : ℕ) → P y (now y)
    now_each P here others y = elim (number_cases y x) [
      | inl same ↦ subst (λ z. P z (now z)) (sym same.0) (subst (λ s. P x s) (sym now_here) here)
      | inr other ↦ subst (λ s. P y s) (sym (set_at_elsewhere each_at x b y other.0)) (others y other.0)
    ]

  -- a linearization point
  module _ (x : ℕ) (a : Atomic (ℕ → S) (ℕ × I)) (each_at : ℕ → Atomic S I) (h : History) (c : Invoked I) (b : Atomic S I) (ok : Accepts (objects x) (each_at x) (Linearize c) b)
      (states : SameStates a each_at) (meets : (p : ℕ) → Meets p a each_at h) where
    record Waits : Type 0 where
      whole : Invoked (ℕ × I)
      waits : Waiting c.process a whole
      here : Waiting c.process (each_at x) c
      inv : whole.inv ≡ (x, c.inv)
      others : (y : ℕ) → y ≢ x → Idle c.process (each_at y)
      turn : AreInTurn true whole.nth (of_process c.process h)

    waits_at : (z : ℕ) (e : Invoked (ℕ × I)) (d : Invoked I) → Waiting c.process a e → Waiting c.process (each_at z) d → e.inv ≡ (z, d.inv) → ((y : ℕ) → y ≢ z → Idle c.process (each_at y))
        → AreInTurn true e.nth (of_process c.process h) → z ≡ x → Waits
    waits_at z e d f g inv others turn same =
        let g' : Waiting c.process (each_at x) d = subst (λ y. Waiting c.process (each_at y) d) same g in
        let both : Some c ≡ Some d = sym ok.0 ∙ g'.is_open in
        let is : d ≡ c = cc in
        record {
          whole = e;
          waits = f;
          here = subst (λ (y : Invoked I). Waiting c.process (each_at x) y) is g';
          inv = inv ∙ ap (λ y. (y, d.inv)) same ∙ ap (λ (y : Invoked I). (x, y.inv)) is;
          others = λ y apart. others y (λ e. apart (e ∙ same));
          turn = turn;
        }

    none_idle : Idle c.process (each_at x) → ⊥
    none_idle f = (let e : Some c ≡ None = sym ok.0 ∙ f.is_open in cc)

    who_waits : Meets c.process a each_at h → Waits
    who_waits (AllIdle f g turn) = absurd (none_idle (g x))
    who_waits (OneWaits z e d f g inv others turn) = elim (number_cases x z) [
      | inl same ↦ waits_at z e d f g inv others turn (sym same.0)
      | inr other ↦ absurd (none_idle (others x other.0))
    ]
    who_waits (OneDone z e d place here r f e1 g e2 others turn) = elim (number_cases x z) [
      | inl same ↦ absurd (
          let g' : Done c.process (each_at x) d here = subst (λ y. Done c.process (each_at y) d here) (sym same.0) g in
          let both : Some c ≡ Some d = sym ok.0 ∙ g'.is_open in
          let is : d ≡ c = cc in
          ok.1 (subst (λ y. Contains (each_at x).agreed y) is (member (each_at x).agreed here d g'.at)))
      | inr other ↦ absurd (none_idle (others x other.0))
    ]

    module _ (w : Waits) where
      abbrev later : Atomic (ℕ → S) (ℕ × I)
      later = record a { agreed = a.agreed ++ w.whole ∷ [] }

      takes : Accepts all a (Linearize w.whole) later
      takes = (ap a.open_call w.waits.own ∙ w.waits.is_open, absent all a c.process w.whole w.waits, refl)

      abbrev bs : ℕ → Atomic S I
      bs = now each_at x b

      next_state : state_of all later ≡ set_at (state_of all a) x ((objects x).next (state_of all a x) c.inv)
      next_state = point_state all a later w.whole takes ∙ ap (all.next (state_of all a)) w.inv

      same_states : SameStates later bs
      same_states = now_each each_at x b (λ y s. state_of all later y ≡ state_of (objects y) s)
          (ap (λ (s : ℕ → S). s x) next_state ∙ set_at_here (state_of all a) x _ ∙ ap (λ s. (objects x).next s c.inv) (states x) ∙ sym (point_state (objects x) (each_at x) b c ok))
          (λ y apart. ap (λ (s : ℕ → S). s y) next_state ∙ set_at_elsewhere (state_of all a) x _ y apart ∙ states y)

      own_meets : Meets c.process later bs h
      own_meets = OneDone x w.whole c (length a.agreed) (length (each_at x).agreed) ((objects x).answer (state_of (objects x) (each_at x)) c.inv)
          (point_own all a later c.process w.whole takes w.waits)
          (point_response all a later w.whole takes ∙ ap (λ i. Some (all.answer (state_of all a) i)) w.inv ∙ ap (λ s. Some (x, (objects x).answer s c.inv)) (states x))
          (subst (λ s. Done c.process s c (length (each_at x).agreed)) (sym (now_here each_at x b)) (point_own (objects x) (each_at x) b c.process c ok w.here))
          (subst (λ (s : Atomic S I). response_at (objects x) s.start (invs (objects x) s.agreed) (length (each_at x).agreed) ≡ Some ((objects x).answer (state_of (objects x) (each_at x)) c.inv)) (sym (now_here each_at x b)) (point_response (objects x) (each_at x) b c ok))
          (λ y apart. subst (λ s. Idle c.process s) (sym (set_at_elsewhere each_at x b y apart)) (w.others y apart))
          w.turn

      all_meet : (q : ℕ) → Meets q later bs h
      all_meet q = elim (number_cases q c.process) [
        | inl same ↦ subst (λ p. Meets p later bs h) (sym same.0) own_meets
        | inr other ↦ meets_moved q a later each_at bs h h (keeps_point all q a later w.whole takes (λ e. other.0 (e ∙ w.waits.own)))
            (now_each each_at x b (λ y s. Keeps (objects y) q (each_at y) s) (keeps_point (objects x) q (each_at x) b c ok other.0) (λ y apart. keeps_same (objects y) q (each_at y))) refl (meets q)
      ]

  -- the next act of an object isn't a linearization point
  abbrev IsAtAct : List (Act I R) → Type 0
  IsAtAct (Linearize c ∷ acts) = ⊥
  IsAtAct acts = Unit {0}

  abbrev Others : (x : ℕ) → (ℕ → Atomic S I) → History → Type 0
  Others x each_at h = (y : ℕ) → y ≢ x → Rest y (each_at y) h

  -- what comes once the points before the next act of x are taken
  abbrev Then : (x : ℕ) → History → Type 0
  Then x h = (a : Atomic (ℕ → S) (ℕ × I)) (each_at : ℕ → Atomic S I) (acts : List (Act I R)) (last : Atomic S I) (next : ℕ → ℕ) → AcceptsAll (objects x) (each_at x) acts last
      → observed acts ≡ of_object x next h → IsAtAct acts → Others x each_at h → SameStates a each_at → ((p : ℕ) → Meets p a each_at h) → Merged a h

  strips : (x : ℕ) (h : History) → Then x h → (a : Atomic (ℕ → S) (ℕ × I)) (each_at : ℕ → Atomic S I) (acts : List (Act I R)) (last : Atomic S I) (next : ℕ → ℕ) → AcceptsAll (objects x) (each_at x) acts last
      → observed acts ≡ of_object x next h → Others x each_at h → SameStates a each_at → ((p : ℕ) → Meets p a each_at h) → Merged a h
  strips x h goes a each_at [] last next ok seen others states meets = goes a each_at [] last next ok seen tt others states meets
  strips x h goes a each_at (Invoke p k i ∷ acts) last next ok seen others states meets = goes a each_at (Invoke p k i ∷ acts) last next ok seen tt others states meets
  strips x h goes a each_at (Respond p k r ∷ acts) last next ok seen others states meets = goes a each_at (Respond p k r ∷ acts) last next ok seen tt others states meets
  strips x h goes a each_at (Linearize c ∷ acts) last next ok seen others states meets =
      let w = who_waits x a each_at h c ok.0 ok.1 states meets (meets c.process) in
      let bs = now each_at x ok.0 in
      let rest = strips x h goes (later x a each_at h c ok.0 ok.1 states meets w) bs acts last next (subst (λ s. AcceptsAll (objects x) s acts last) (sym (now_here each_at x ok.0)) ok.2) seen
      (λ y apart. subst (λ s. Rest y s h) (sym (set_at_elsewhere each_at x ok.0 y apart)) (others y apart))
      (same_states x a each_at h c ok.0 ok.1 states meets w) (all_meet x a each_at h c ok.0 ok.1 states meets w) in
      record { acts = Linearize w.whole ∷ rest.acts; last = rest.last; seen = rest.seen; accepted = (later x a each_at h c ok.0 ok.1 states meets w, takes x a each_at h c ok.0 ok.1 states meets w, rest.accepted) }

  abbrev Goes : History → Type 0
  Goes h = (a : Atomic (ℕ → S) (ℕ × I)) (each_at : ℕ → Atomic S I) → ((y : ℕ) → Rest y (each_at y) h) → SameStates a each_at → ((q : ℕ) → Meets q a each_at h) → Merged a h

  -- an invocation
  module _ (p k : ℕ) (call : ℕ × I) (h : History) where
    of_own_invoke : (next : ℕ → ℕ) → of_object call.0 next (Invoke p k call ∷ h) ≡ Invoke p (next p) call.1 ∷ of_object call.0 (set_at next p (next p + 1)) h
    of_own_invoke next = elim (number_cases call.0 call.0) [ inl same ↦ rw same.1 refl | inr other ↦ absurd (other.0 refl) ]

    of_other_invoke : (y : ℕ) (next : ℕ → ℕ) → y ≢ call.0 → of_object y next (Invoke p k call ∷ h) ≡ of_object y next h
    of_other_invoke y next apart = elim (number_cases call.0 y) [ inl same ↦ absurd (apart (sym same.0)) | inr other ↦ rw other.1 refl ]

    own_invoke : of_process p (Invoke p k call ∷ h) ≡ Invoke p k call ∷ of_process p h
    own_invoke = elim (number_cases p p) [ inl same ↦ rw same.1 refl | inr other ↦ absurd (other.0 refl) ]

    other_invoke : (q : ℕ) → q ≢ p → of_process q (Invoke p k call ∷ h) ≡ of_process q h
    other_invoke q apart = elim (number_cases p q) [ inl same ↦ absurd (apart (sym same.0)) | inr other ↦ rw other.1 refl ]

    module _ (a : Atomic (ℕ → S) (ℕ × I)) (each_at : ℕ → Atomic S I) (m : ℕ) (b : Atomic S I) (ok : Accepts (objects call.0) (each_at call.0) (Invoke p m call.1) b) where
      abbrev invoked : Atomic (ℕ → S) (ℕ × I)
      invoked = record a { open_call = set_at a.open_call p (Some (record { process = p; nth = k; inv = call })); next_nth = set_at a.next_nth p (k + 1) }

      invokes : Meets p a each_at (Invoke p k call ∷ h) → Accepts all a (Invoke p k call) invoked × Meets p invoked (now each_at call.0 b) h
      invokes (AllIdle f g turn) =
          let in_turn : (k ≡ a.next_nth p) × AreInTurn true (a.next_nth p) (of_process p h) = subst (λ l. AreInTurn false (a.next_nth p) l) own_invoke turn in
          let taken : Accepts all a (Invoke p k call) invoked = (f.is_open, sym in_turn.0, refl) in (
            taken,
            OneWaits call.0 (record { process = p; nth = k; inv = call }) (record { process = p; nth = m; inv = call.1 })
                (invoke_own all a invoked p k call taken f)
                (subst (λ s. Waiting p s (record { process = p; nth = m; inv = call.1 })) (sym (now_here each_at call.0 b)) (invoke_own (objects call.0) (each_at call.0) b p m call.1 ok (g call.0)))
                refl
                (λ y apart. subst (λ s. Idle p s) (sym (set_at_elsewhere each_at call.0 b y apart)) (g y))
                (subst (λ n. AreInTurn true n (of_process p h)) (sym in_turn.0) in_turn.1),
          )
      invokes (OneWaits x c d f g e others turn) = absurd (subst (λ l. AreInTurn true c.nth l) own_invoke turn)
      invokes (OneDone x c d place here r f e g e2 others turn) = absurd (subst (λ l. AreInTurn true c.nth l) own_invoke turn)

      invoke_meets : (taken : Accepts all a (Invoke p k call) invoked) → Meets p invoked (now each_at call.0 b) h → ((q : ℕ) → Meets q a each_at (Invoke p k call ∷ h)) → (q : ℕ) → Meets q invoked (now each_at call.0 b) h
      invoke_meets taken own meets q = elim (number_cases q p) [
        | inl same ↦ subst (λ r. Meets r invoked (now each_at call.0 b) h) (sym same.0) own
        | inr other ↦ meets_moved q a invoked each_at (now each_at call.0 b) (Invoke p k call ∷ h) h (keeps_invoke all q a invoked p k call taken other.0)
            (now_each each_at call.0 b (λ y s. Keeps (objects y) q (each_at y) s) (keeps_invoke (objects call.0) q (each_at call.0) b p m call.1 ok other.0) (λ y apart. keeps_same (objects y) q (each_at y)))
            (other_invoke q other.0) (meets q)
      ]

    invoke_then : Goes h → Then call.0 (Invoke p k call ∷ h)
    invoke_then goes a each_at [] last next ok seen at others states meets = absurd (let e : [] ≡ Invoke p (next p) call.1 ∷ of_object call.0 (set_at next p (next p + 1)) h = seen ∙ of_own_invoke next in cc)
    invoke_then goes a each_at (Respond q m r ∷ acts) last next ok seen at others states meets =
        absurd (let e : Respond q m r ∷ observed acts ≡ Invoke p (next p) call.1 ∷ of_object call.0 (set_at next p (next p + 1)) h = seen ∙ of_own_invoke next in cc)
    invoke_then goes a each_at (Linearize c ∷ acts) last next ok seen at others states meets = absurd at
    invoke_then goes a each_at (Invoke q m j ∷ acts) last next ok seen at others states meets =
        let e : Invoke q m j ∷ observed acts ≡ Invoke p (next p) call.1 ∷ of_object call.0 (set_at next p (next p + 1)) h = seen ∙ of_own_invoke next in
        let first : Act I R = Invoke q m j in
        let wanted : Act I R = Invoke p (next p) call.1 in
        let head : first ≡ wanted = cc in
        let rest : observed acts ≡ of_object call.0 (set_at next p (next p + 1)) h = cc in
        let its : Accepts (objects call.0) (each_at call.0) (Invoke p (next p) call.1) ok.0 = subst (λ act. Accepts (objects call.0) (each_at call.0) act ok.0) head ok.1 in
        let own = invokes a each_at (next p) ok.0 its (meets p) in
        let merged = goes (invoked a each_at (next p) ok.0 its) (now each_at call.0 ok.0)
        (now_each each_at call.0 ok.0 (λ y s. Rest y s h) (record { acts = acts; last = last; next = set_at next p (next p + 1); accepted = ok.2; seen = rest })
        (λ y apart. let r = others y apart in record { acts = r.acts; last = r.last; next = r.next; accepted = r.accepted; seen = r.seen ∙ of_other_invoke y r.next apart }))
        (now_each each_at call.0 ok.0 (λ y s. state_of all a y ≡ state_of (objects y) s) (states call.0 ∙ sym (ap (λ s. state_of (objects call.0) s) its.2)) (λ y apart. states y))
        (invoke_meets a each_at (next p) ok.0 its own.0 own.1 meets) in
        record {
          acts = Invoke p k call ∷ merged.acts;
          last = merged.last;
          seen = ap (λ l. Invoke p k call ∷ l) merged.seen;
          accepted = (invoked a each_at (next p) ok.0 its, own.0, merged.accepted);
        }

  -- a response
  module _ (p k : ℕ) (resp : ℕ × R) (h : History) where
    of_own_respond : (next : ℕ → ℕ) → of_object {I = I} resp.0 next (Respond p k resp ∷ h) ≡ Respond p (next p - 1) resp.1 ∷ of_object resp.0 next h
    of_own_respond next = elim (number_cases resp.0 resp.0) [ inl same ↦ rw same.1 refl | inr other ↦ absurd (other.0 refl) ]

    of_other_respond : (y : ℕ) (next : ℕ → ℕ) → y ≢ resp.0 → of_object {I = I} y next (Respond p k resp ∷ h) ≡ of_object y next h
    of_other_respond y next apart = elim (number_cases resp.0 y) [ inl same ↦ absurd (apart (sym same.0)) | inr other ↦ rw other.1 refl ]

    own_respond : of_process {I = ℕ × I} p (Respond p k resp ∷ h) ≡ Respond p k resp ∷ of_process p h
    own_respond = elim (number_cases p p) [ inl same ↦ rw same.1 refl | inr other ↦ absurd (other.0 refl) ]

    other_respond : (q : ℕ) → q ≢ p → of_process {I = ℕ × I} q (Respond p k resp ∷ h) ≡ of_process q h
    other_respond q apart = elim (number_cases p q) [ inl same ↦ absurd (apart (sym same.0)) | inr other ↦ rw other.1 refl ]

    module _ (a : Atomic (ℕ → S) (ℕ × I)) (each_at : ℕ → Atomic S I) (m : ℕ) (b : Atomic S I) (ok : Accepts (objects resp.0) (each_at resp.0) (Respond p m resp.1) b) where
      abbrev responded : Atomic (ℕ → S) (ℕ × I)
      responded = record a { open_call = set_at a.open_call p None }

      abbrev its : Invoked I
      its = record { process = p; nth = m; inv = ok.0.0 }

      none_idle' : Idle p (each_at resp.0) → ⊥
      none_idle' f = (let e : Some its ≡ None = sym ok.0.2 ∙ f.is_open in cc)

      none_waits : (d : Invoked I) → Waiting p (each_at resp.0) d → ⊥
      none_waits d f =
          let e : Some its ≡ Some d = sym ok.0.2 ∙ f.is_open in
          let is : d ≡ its = cc in
          let less : m < d.nth = f.below ok.0.1 its ok.0.3 refl in
          let nth : d.nth ≡ m = ap (λ (x : Invoked I). x.nth) is in
          omega arith

      same_response : (d : Invoked I) (here : ℕ) (r : R) → Done p (each_at resp.0) d here → response_at (objects resp.0) (each_at resp.0).start (invs (objects resp.0) (each_at resp.0).agreed) here ≡ Some r → r ≡ resp.1
      same_response d here r f e =
          let both : Some its ≡ Some d = sym ok.0.2 ∙ f.is_open in
          let is : d ≡ its = cc in
          let nth : d.nth ≡ m = ap (λ (x : Invoked I). x.nth) is in
          let place : ok.0.1 ≡ here = (elim (f.below ok.0.1 its ok.0.3 refl) [ inl less ↦ absurd (let l : m < d.nth = less in omega arith) | inr found ↦ found ]) in
          let g : Some r ≡ Some resp.1 = sym e ∙ ap (response_at (objects resp.0) (each_at resp.0).start (invs (objects resp.0) (each_at resp.0).agreed)) (sym place) ∙ ok.0.4 in
          cc

      responds : Meets p a each_at (Respond p k resp ∷ h) → Accepts all a (Respond p k resp) responded × Meets p responded (now each_at resp.0 b) h
      responds (AllIdle f g turn) = absurd (subst (λ l. AreInTurn false (a.next_nth p) l) own_respond turn)
      responds (OneWaits z c d f g e others turn) = elim (number_cases resp.0 z) [
        | inl same ↦ absurd (none_waits d (subst (λ y. Waiting p (each_at y) d) (sym same.0) g))
        | inr other ↦ absurd (none_idle' (others resp.0 other.0))
      ]
      responds (OneDone z c d place here r f e g e2 others turn) = elim (number_cases resp.0 z) [
        | inl same ↦
            let in_turn : (k ≡ c.nth) × AreInTurn false (c.nth + 1) (of_process p h) = subst (λ l. AreInTurn true c.nth l) own_respond turn in
            let named : c ≡ record { process = p; nth = k; inv = c.inv } = its_name c p k f.own (sym in_turn.0) in
            let g' : Done p (each_at resp.0) d here = subst (λ y. Done p (each_at y) d here) (sym same.0) g in
            let is : r ≡ resp.1 = same_response d here r g' (subst (λ y. response_at (objects y) (each_at y).start (invs (objects y) (each_at y).agreed) here ≡ Some r) (sym same.0) e2) in
            let pair : (z, r) ≡ resp = ap (λ y. (y, r)) (sym same.0) ∙ ap (λ s. (resp.0, s)) is in
            let taken : Accepts all a (Respond p k resp) responded = ((c.inv, place, f.is_open ∙ ap Some named, f.at ∙ ap Some named, e ∙ ap Some pair), refl) in (
              taken,
              AllIdle (respond_own all a responded p k resp c place taken f)
                  (now_each each_at resp.0 b (λ y s. Idle p s) (respond_own (objects resp.0) (each_at resp.0) b p m resp.1 d here ok g') (λ y apart. others y (λ q. apart (q ∙ sym same.0))))
                  (subst (λ n. AreInTurn false n (of_process p h)) f.nth in_turn.1),
            )
        | inr other ↦ absurd (none_idle' (others resp.0 other.0))
      ]

      respond_meets : (taken : Accepts all a (Respond p k resp) responded) → Meets p responded (now each_at resp.0 b) h → ((q : ℕ) → Meets q a each_at (Respond p k resp ∷ h)) → (q : ℕ) → Meets q responded (now each_at resp.0 b) h
      respond_meets taken own meets q = elim (number_cases q p) [
        | inl same ↦ subst (λ r. Meets r responded (now each_at resp.0 b) h) (sym same.0) own
        | inr other ↦ meets_moved q a responded each_at (now each_at resp.0 b) (Respond p k resp ∷ h) h (keeps_respond all q a responded p k resp taken other.0)
            (now_each each_at resp.0 b (λ y s. Keeps (objects y) q (each_at y) s) (keeps_respond (objects resp.0) q (each_at resp.0) b p m resp.1 ok other.0) (λ y apart. keeps_same (objects y) q (each_at y)))
            (other_respond q other.0) (meets q)
      ]

    respond_then : Goes h → Then resp.0 (Respond p k resp ∷ h)
    respond_then goes a each_at [] last next ok seen at others states meets = absurd (let e : [] ≡ Respond p (next p - 1) resp.1 ∷ of_object resp.0 next h = seen ∙ of_own_respond next in cc)
    respond_then goes a each_at (Invoke q m j ∷ acts) last next ok seen at others states meets =
        absurd (let e : Invoke q m j ∷ observed acts ≡ Respond p (next p - 1) resp.1 ∷ of_object resp.0 next h = seen ∙ of_own_respond next in cc)
    respond_then goes a each_at (Linearize c ∷ acts) last next ok seen at others states meets = absurd at
    respond_then goes a each_at (Respond q m r ∷ acts) last next ok seen at others states meets =
        let e : Respond q m r ∷ observed acts ≡ Respond p (next p - 1) resp.1 ∷ of_object resp.0 next h = seen ∙ of_own_respond next in
        let first : Act I R = Respond q m r in
        let wanted : Act I R = Respond p (next p - 1) resp.1 in
        let head : first ≡ wanted = cc in
        let rest : observed acts ≡ of_object resp.0 next h = cc in
        let taken : Accepts (objects resp.0) (each_at resp.0) (Respond p (next p - 1) resp.1) ok.0 = subst (λ act. Accepts (objects resp.0) (each_at resp.0) act ok.0) head ok.1 in
        let own = responds a each_at (next p - 1) ok.0 taken (meets p) in
        let merged = goes (responded a each_at (next p - 1) ok.0 taken) (now each_at resp.0 ok.0)
        (now_each each_at resp.0 ok.0 (λ y s. Rest y s h) (record { acts = acts; last = last; next = next; accepted = ok.2; seen = rest })
        (λ y apart. let r = others y apart in record { acts = r.acts; last = r.last; next = r.next; accepted = r.accepted; seen = r.seen ∙ of_other_respond y r.next apart }))
        (now_each each_at resp.0 ok.0 (λ y s. state_of all a y ≡ state_of (objects y) s) (states resp.0 ∙ sym (ap (λ s. state_of (objects resp.0) s) taken.1)) (λ y apart. states y))
        (respond_meets a each_at (next p - 1) ok.0 taken own.0 own.1 meets) in
        record {
          acts = Respond p k resp ∷ merged.acts;
          last = merged.last;
          seen = ap (λ l. Respond p k resp ∷ l) merged.seen;
          accepted = (responded a each_at (next p - 1) ok.0 taken, own.0, merged.accepted);
        }

  no_point : (c : Invoked (ℕ × I)) (h : History) (a : Atomic (ℕ → S) (ℕ × I)) (each_at : ℕ → Atomic S I) → Meets c.process a each_at (Linearize c ∷ h) → ⊥
  no_point c h a each_at meets = by_meets meets where
    own_point : of_process c.process (Linearize c ∷ h) ≡ Linearize c ∷ of_process c.process h
    own_point = elim (number_cases c.process c.process) [ inl same ↦ rw same.1 refl | inr other ↦ absurd (other.0 refl) ]

    by_meets : Meets c.process a each_at (Linearize c ∷ h) → ⊥
    by_meets (AllIdle f g turn) = subst (λ acts. AreInTurn false (a.next_nth c.process) acts) own_point turn
    by_meets (OneWaits x d e f g i others turn) = subst (λ acts. AreInTurn true d.nth acts) own_point turn
    by_meets (OneDone x d e place here r f i g j others turn) = subst (λ acts. AreInTurn true d.nth acts) own_point turn

  merges : (h : History) → Goes h
  merges [] a each_at rests states meets = record { acts = []; last = a; seen = refl; accepted = refl }
  merges (Invoke p k call ∷ h) a each_at rests states meets =
      let r = rests call.0 in
      strips call.0 (Invoke p k call ∷ h) (invoke_then p k call h (λ b bs left same meet. merges h b bs left same meet)) a each_at r.acts r.last r.next r.accepted r.seen (λ y apart. rests y) states meets
  merges (Linearize c ∷ h) a each_at rests states meets = absurd (no_point c h a each_at (meets c.process))
  merges (Respond p k resp ∷ h) a each_at rests states meets =
      let r = rests resp.0 in
      strips resp.0 (Respond p k resp ∷ h) (respond_then p k resp h (λ b bs left same meet. merges h b bs left same meet)) a each_at r.acts r.last r.next r.accepted r.seen (λ y apart. rests y) states meets

  first_idle : {A : Type 0} (p : ℕ) (s : A) → Idle {I = I} p (at_start s)
  first_idle p s = record { is_open = refl; below = λ j d at own. absurd (let e : None ≡ Some d = at in cc) }

  first_idle' : (p : ℕ) (s : ℕ → S) → Idle {I = ℕ × I} p (at_start s)
  first_idle' p s = record { is_open = refl; below = λ j d at own. absurd (let e : None ≡ Some d = at in cc) }

  pub merged : (start : ℕ → S) (history : History) → IsWellFormed history → ((x : ℕ) → IsLinearizableHistory (objects x) (start x) (of_object x (λ p. 0) history)) → IsLinearizableHistory (together objects) start history
  merged start history well each =
      let found = merges history (at_start start) (λ y. at_start (start y))
      (λ y. let its = (each y).1 in record { acts = its.0; last = its.1; next = λ p. 0; accepted = its.3; seen = its.2 })
      (λ y. refl) (λ p. AllIdle (first_idle' p start) (λ y. first_idle p (start y)) (well p)) in
      (found.last.agreed, (found.acts, found.last, found.seen, found.accepted, refl))
