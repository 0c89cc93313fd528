-- What is linearizable with linearization points put in has a completion in the sense of Herlihy and Wing: each process's acts beside
-- those of the sequential history, as the atomic object goes on.
use Rattle.uni_model.proofs.Vocabulary.{Accepts, AcceptsAll, Act, AllByRecursion, Atomic, Bool, Contains, Invoke, Invoked, Linearize, List, None, Respond, Sequential, Some, [], ap, append-nil, arith, cond, false, filter, inl, inr, is_kept, length, map, nat_eq, observed, of_process, one_by_one, refl, response_at, set_at, slice_get, state_after, subst, suc, sym, true, zero, ℕ, ◌++◌, ◌+◌, ◌<◌, ◌∙◌, ◌∷◌, ◌≡◌, ◌≢◌, ◌⊎◌}
use Rattle.uni_model.proofs.Written.{number_cases, set_at-cases}
use Rattle.uni_model.proofs.LawProofs.{set_at_elsewhere}
use Rattle.uni_model.proofs.Appended.{slice_get-append_left, slice_get-append_right, slice_get-append_cases}
use Rattle.uni_model.proofs.Members.{member}
use Rattle.uni_model.specs.AtomicObject.{points}

-- p has no call open, and its calls that took effect have smaller numbers than its next one
pub record Idle {S I : Type 0} (p : ℕ) (a : Atomic S I) : Type 0 where
  pub is_open : a.open_call p ≡ None
  pub below : (j : ℕ) (d : Invoked I) → slice_get a.agreed j ≡ Some d → d.process ≡ p → d.nth < a.next_nth p

-- p's call c is open, and hasn't taken effect
pub record Waiting {S I : Type 0} (p : ℕ) (a : Atomic S I) (c : Invoked I) : Type 0 where
  pub is_open : a.open_call p ≡ Some c
  pub own : c.process ≡ p
  pub nth : c.nth + 1 ≡ a.next_nth p
  pub below : (j : ℕ) (d : Invoked I) → slice_get a.agreed j ≡ Some d → d.process ≡ p → d.nth < c.nth

-- p's call c is open, and took effect at this place
pub record Done {S I : Type 0} (p : ℕ) (a : Atomic S I) (c : Invoked I) (place : ℕ) : Type 0 where
  pub is_open : a.open_call p ≡ Some c
  pub own : c.process ≡ p
  pub nth : c.nth + 1 ≡ a.next_nth p
  pub at : slice_get a.agreed place ≡ Some c
  pub below : (j : ℕ) (d : Invoked I) → slice_get a.agreed j ≡ Some d → d.process ≡ p → (d.nth < c.nth) ⊎ (j ≡ place)

module _ {S I R : Type 0} (object : Sequential S I R) where
  abbrev pub invs : List (Invoked I) → List I
  invs cs = map (λ (c : Invoked I). c.inv) cs

  abbrev pub state_of : Atomic S I → S
  state_of a = state_after object a.start (invs a.agreed)

  -- the state after one more call, and its response
  pub state-last : (s : S) (cs : List (Invoked I)) (c : Invoked I) → state_after object s (invs (cs ++ c ∷ [])) ≡ object.next (state_after object s (invs cs)) c.inv
  state-last s [] c = refl
  state-last s (d ∷ cs) c = state-last (object.next s d.inv) cs c

  pub response-last : (s : S) (cs : List (Invoked I)) (c : Invoked I) → response_at object s (invs (cs ++ c ∷ [])) (length cs) ≡ Some (object.answer (state_after object s (invs cs)) c.inv)
  response-last s [] c = refl
  response-last s (d ∷ cs) c = response-last (object.next s d.inv) cs c

  pub response-longer : (s : S) (cs ds : List (Invoked I)) (place : ℕ) (r : R) → response_at object s (invs cs) place ≡ Some r → response_at object s (invs (cs ++ ds)) place ≡ Some r
  response-longer s [] ds place r e = absurd (let f : None ≡ Some r = e in cc)
  response-longer s (c ∷ cs) ds zero r e = e
  response-longer s (c ∷ cs) ds (suc place) r e = response-longer (object.next s c.inv) cs ds place r e

  -- where p stands
  pub data Situation (p : ℕ) (a : Atomic S I) : Type 0 where
    IsIdle : Idle p a → Situation p a
    IsWaiting : (c : Invoked I) → Waiting p a c → Situation p a
    IsDone : (c : Invoked I) (place : ℕ) (r : R) → Done p a c place → response_at object a.start (invs a.agreed) place ≡ Some r → Situation p a

  module _ (p : ℕ) where
    -- where p stands after what others do: its open call and next number are the same, and others' calls may have taken effect
    module _ (a x : Atomic S I) (more : List (Invoked I)) (start : x.start ≡ a.start) (agreed : x.agreed ≡ a.agreed ++ more)
        (others : (j : ℕ) (d : Invoked I) → slice_get more j ≡ Some d → d.process ≢ p) (same_open : x.open_call p ≡ a.open_call p) (same_next : x.next_nth p ≡ a.next_nth p) where
      old_entry : (j : ℕ) (d : Invoked I) → slice_get x.agreed j ≡ Some d → d.process ≡ p → slice_get a.agreed j ≡ Some d
      old_entry j d at own = elim (slice_get-append_cases a.agreed more j d (ap (λ l. slice_get l j) (sym agreed) ∙ at)) [
        | inl before ↦ before
        | inr after ↦ absurd (others after.0 d after.2 own)
      ]

      abbrev moved : Situation p a → Situation p x
      moved (IsIdle h) = IsIdle (record { is_open = same_open ∙ h.is_open; below = λ j d at own. subst (λ k. d.nth < k) (sym same_next) (h.below j d (old_entry j d at own) own) })
      moved (IsWaiting c h) = IsWaiting c (record { is_open = same_open ∙ h.is_open; own = h.own; nth = h.nth ∙ sym same_next; below = λ j d at own. h.below j d (old_entry j d at own) own })
      moved (IsDone c place r h e) = IsDone c place r
          (record {
            is_open = same_open ∙ h.is_open;
            own = h.own;
            nth = h.nth ∙ sym same_next;
            at = ap (λ l. slice_get l place) agreed ∙ slice_get-append_left a.agreed more place c h.at;
            below = λ j d at own. h.below j d (old_entry j d at own) own;
          })
          (ap (λ s. response_at object s (invs x.agreed) place) start ∙ ap (λ l. response_at object a.start (invs l) place) agreed ∙ response-longer a.start a.agreed more place r e)

    module _ (keeps : ℕ → ℕ → Bool) (responses : List (Act I R)) where
      -- an invocation of p that came before these acts and is kept, though its call takes effect later
      abbrev pub front : (a : Atomic S I) → Situation p a → List (Act I R)
      front a (IsIdle h) = []
      front a (IsWaiting c h) = cond (keeps c.process c.nth) (Invoke c.process c.nth c.inv ∷ []) []
      front a (IsDone c place r h e) = []

      -- a response of p that comes after these acts, though its call took effect earlier
      abbrev pub back : (a : Atomic S I) → Situation p a → List (Act I R)
      back a (IsIdle h) = []
      back a (IsWaiting c h) = []
      back a (IsDone c place r h e) = Respond c.process c.nth r ∷ []

      abbrev pub kept : List (Act I R) → List (Act I R)
      kept acts = of_process p (filter (is_kept keeps) (observed acts))

      abbrev pub serial : Atomic S I → List (Act I R) → List (Act I R)
      serial a acts = of_process p (one_by_one object (state_of a) (points acts))

      -- of p's acts, those of the completion are those of the sequential history
      abbrev pub Agrees : (a : Atomic S I) → Situation p a → List (Act I R) → Type 0
      Agrees a sit acts = front a sit ++ (kept acts ++ responses) ≡ back a sit ++ serial a acts

      abbrev Leads : (a c : Atomic S I) → Act I R → Situation p a → Type 0
      Leads a c act sit = (later : Situation p c) × ((acts : List (Act I R)) → Agrees c later acts → Agrees a sit (act ∷ acts))

      module _ (a x : Atomic S I) (more : List (Invoked I)) (start : x.start ≡ a.start) (agreed : x.agreed ≡ a.agreed ++ more)
          (others : (j : ℕ) (d : Invoked I) → slice_get more j ≡ Some d → d.process ≢ p) (same_open : x.open_call p ≡ a.open_call p) (same_next : x.next_nth p ≡ a.next_nth p) where
        front-moved : (sit : Situation p a) → front x (moved a x more start agreed others same_open same_next sit) ≡ front a sit
        front-moved (IsIdle h) = refl
        front-moved (IsWaiting c h) = refl
        front-moved (IsDone c place r h e) = refl

        back-moved : (sit : Situation p a) → back x (moved a x more start agreed others same_open same_next sit) ≡ back a sit
        back-moved (IsIdle h) = refl
        back-moved (IsWaiting c h) = refl
        back-moved (IsDone c place r h e) = refl

        by_others : (act : Act I R) (sit : Situation p a) → ((acts : List (Act I R)) → kept (act ∷ acts) ≡ kept acts) → ((acts : List (Act I R)) → serial a (act ∷ acts) ≡ serial x acts) → Leads a x act sit
        by_others act sit same_kept same_serial = (
          moved a x more start agreed others same_open same_next sit,
          λ acts agrees.
              ap (λ k. front a sit ++ (k ++ responses)) (same_kept acts)
              ∙ ap (λ f. f ++ (kept acts ++ responses)) (sym (front-moved sit))
              ∙ agrees
              ∙ ap (λ b. b ++ serial x acts) (back-moved sit)
              ∙ ap (λ s. back a sit ++ s) (sym (same_serial acts)),
        )

      none_more : (j : ℕ) (d : Invoked I) → slice_get {X = Invoked I} [] j ≡ Some d → d.process ≢ p
      none_more j d at = absurd (let e : None ≡ Some d = at in cc)

      one_place : (c d : Invoked I) (j : ℕ) → slice_get (c ∷ []) j ≡ Some d → j ≡ 0
      one_place c d zero at = refl
      one_place c d (suc j) at = absurd (let e : None ≡ Some d = at in cc)

      one_more : (c d : Invoked I) (j : ℕ) → slice_get (c ∷ []) j ≡ Some d → c ≡ d
      one_more c d zero at = (let e : Some c ≡ Some d = at in cc)
      one_more c d (suc j) at = absurd (let e : None ≡ Some d = at in cc)

      -- an invocation
      module _ (a : Atomic S I) (q k : ℕ) (i : I) (none : a.open_call q ≡ None) (number : a.next_nth q ≡ k) where
        abbrev it : Invoked I
        it = record { process = q; nth = k; inv = i }

        abbrev invoked : Atomic S I
        invoked = record a { open_call = set_at a.open_call q (Some it); next_nth = set_at a.next_nth q (k + 1) }

        drop_invoke : (b : Bool) (rest : List (Act I R)) → nat_eq q p ≡ false → of_process p (cond b (Invoke q k i ∷ rest) rest) ≡ of_process p rest
        drop_invoke true rest e = rw e refl
        drop_invoke false rest e = refl

        keep_invoke : (b : Bool) (rest : List (Act I R)) → nat_eq q p ≡ true
            → of_process p (cond b (Invoke q k i ∷ rest) rest) ++ responses ≡ cond b (Invoke q k i ∷ []) [] ++ (of_process p rest ++ responses)
        keep_invoke true rest e = rw e refl
        keep_invoke false rest e = refl

        invokes_own : q ≡ p → nat_eq q p ≡ true → (sit : Situation p a) → Leads a invoked (Invoke q k i) sit
        invokes_own same test (IsIdle h) = (
          IsWaiting it (record {
            is_open = elim (set_at-cases a.open_call q (Some it) p) [ inl e ↦ e.1 | inr e ↦ absurd (e.0 (sym same)) ];
            own = same;
            nth = elim (set_at-cases a.next_nth q (k + 1) p) [ inl e ↦ sym e.1 | inr e ↦ absurd (e.0 (sym same)) ];
            below = λ j d at own. subst (λ m. d.nth < m) (ap a.next_nth (sym same) ∙ number) (h.below j d at own);
          }),
          λ acts agrees. keep_invoke (keeps q k) (filter (is_kept keeps) (observed acts)) test ∙ agrees,
        )
        invokes_own same test (IsWaiting c h) = absurd (let e : None ≡ Some c = sym none ∙ ap a.open_call same ∙ h.is_open in cc)
        invokes_own same test (IsDone c place r h resp) = absurd (let e : None ≡ Some c = sym none ∙ ap a.open_call same ∙ h.is_open in cc)

        invokes : (sit : Situation p a) → Leads a invoked (Invoke q k i) sit
        invokes sit = elim (number_cases q p) [
          | inl same ↦ invokes_own same.0 same.1 sit
          | inr other ↦ by_others a invoked [] refl (sym (append-nil a.agreed)) none_more (set_at_elsewhere a.open_call q _ p (λ e. other.0 (sym e))) (set_at_elsewhere a.next_nth q _ p (λ e. other.0 (sym e)))
              (Invoke q k i) sit (λ acts. drop_invoke (keeps q k) (filter (is_kept keeps) (observed acts)) other.1) (λ acts. refl)
        ]

      -- a linearization point
      module _ (a : Atomic S I) (c : Invoked I) (is_open : a.open_call c.process ≡ Some c) (absent : ¬ (Contains a.agreed c)) (keeps_it : keeps c.process c.nth ≡ true) where
        abbrev linearized : Atomic S I
        linearized = record a { agreed = a.agreed ++ c ∷ [] }

        abbrev answer_now : R
        answer_now = object.answer (state_of a) c.inv

        serial-other : nat_eq c.process p ≡ false → (acts : List (Act I R)) → serial a (Linearize c ∷ acts) ≡ serial linearized acts
        serial-other test acts =
            (let h : serial a (Linearize c ∷ acts) ≡ of_process p (one_by_one object (object.next (state_of a) c.inv) (points acts)) = rw test refl in h)
            ∙ ap (λ s. of_process p (one_by_one object s (points acts))) (sym (state-last a.start a.agreed c))

        serial-own : nat_eq c.process p ≡ true → (acts : List (Act I R)) → serial a (Linearize c ∷ acts) ≡ Invoke c.process c.nth c.inv ∷ Respond c.process c.nth answer_now ∷ serial linearized acts
        serial-own test acts =
            (let h : serial a (Linearize c ∷ acts) ≡ Invoke c.process c.nth c.inv ∷ Respond c.process c.nth answer_now ∷ of_process p (one_by_one object (object.next (state_of a) c.inv) (points acts)) = rw test refl in h)
            ∙ ap (λ s. Invoke c.process c.nth c.inv ∷ Respond c.process c.nth answer_now ∷ of_process p (one_by_one object s (points acts))) (sym (state-last a.start a.agreed c))

        linearizes_own : c.process ≡ p → nat_eq c.process p ≡ true → (sit : Situation p a) → Leads a linearized (Linearize c) sit
        linearizes_own same test (IsIdle h) = absurd (let e : Some c ≡ None = sym is_open ∙ ap a.open_call same ∙ h.is_open in cc)
        linearizes_own same test (IsWaiting d h) =
            let e : Some c ≡ Some d = sym is_open ∙ ap a.open_call same ∙ h.is_open in
            let is : d ≡ c = cc in (
              IsDone c (length a.agreed) answer_now (record {
                is_open = ap a.open_call (sym same) ∙ is_open;
                own = same;
                nth = ap (λ (x : Invoked I). x.nth + 1) (sym is) ∙ h.nth;
                at = ap (slice_get (a.agreed ++ c ∷ [])) (let n : length a.agreed ≡ length a.agreed + 0 = omega arith in n) ∙ slice_get-append_right a.agreed (c ∷ []) 0;
                below = λ j x at own. elim (slice_get-append_cases a.agreed (c ∷ []) j x at) [
                  | inl before ↦ inl (subst (λ (y : Invoked I). x.nth < y.nth) is (h.below j x before own))
                  | inr after ↦ inr (let zero = one_place c x after.0 after.2 in let place = after.1 in omega arith)
                ];
              }) (response-last a.start a.agreed c),
              λ acts agrees.
                  ap (λ (y : Invoked I). cond (keeps y.process y.nth) (Invoke y.process y.nth y.inv ∷ []) [] ++ (kept acts ++ responses)) is
                  ∙ ap (λ b. cond b (Invoke c.process c.nth c.inv ∷ []) [] ++ (kept acts ++ responses)) keeps_it
                  ∙ ap (λ l. Invoke c.process c.nth c.inv ∷ l) agrees
                  ∙ sym (serial-own test acts),
            )
        linearizes_own same test (IsDone d place r h resp) =
            absurd (absent (let e : Some c ≡ Some d = sym is_open ∙ ap a.open_call same ∙ h.is_open in let is : d ≡ c = cc in subst (λ x. Contains a.agreed x) is (member a.agreed place d h.at)))

        linearizes : (sit : Situation p a) → Leads a linearized (Linearize c) sit
        linearizes sit = elim (number_cases c.process p) [
          | inl same ↦ linearizes_own same.0 same.1 sit
          | inr other ↦ by_others a linearized (c ∷ []) refl refl (λ j d at. subst (λ (x : Invoked I). x.process ≢ p) (one_more c d j at) other.0) refl refl (Linearize c) sit (λ acts. refl) (serial-other other.1)
        ]

      -- a response
      module _ (a : Atomic S I) (q k : ℕ) (r : R) (i : I) (place : ℕ) (is_open : a.open_call q ≡ Some (record { process = q; nth = k; inv = i }))
          (at : slice_get a.agreed place ≡ Some (record { process = q; nth = k; inv = i })) (resp : response_at object a.start (invs a.agreed) place ≡ Some r) where
        abbrev its : Invoked I
        its = record { process = q; nth = k; inv = i }

        abbrev responded : Atomic S I
        responded = record a { open_call = set_at a.open_call q None }

        responds_own : q ≡ p → nat_eq q p ≡ true → (sit : Situation p a) → Leads a responded (Respond q k r) sit
        responds_own same test (IsIdle h) = absurd (let e : Some its ≡ None = sym is_open ∙ ap a.open_call same ∙ h.is_open in cc)
        responds_own same test (IsWaiting c h) =
            absurd (
            let e : Some its ≡ Some c = sym is_open ∙ ap a.open_call same ∙ h.is_open in
            let is : c ≡ its = cc in
            let less : k < c.nth = h.below place its at same in
            let nth : c.nth ≡ k = ap (λ (x : Invoked I). x.nth) is in
            omega arith)
        responds_own same test (IsDone c there r' h resp') =
            let e : Some its ≡ Some c = sym is_open ∙ ap a.open_call same ∙ h.is_open in
            let is : c ≡ its = cc in
            let nth : c.nth ≡ k = ap (λ (x : Invoked I). x.nth) is in
            let here : place ≡ there = (elim (h.below place its at same) [ inl less ↦ absurd (let l : k < c.nth = less in omega arith) | inr found ↦ found ]) in
            let f : Some r' ≡ Some r = sym resp' ∙ ap (response_at object a.start (invs a.agreed)) (sym here) ∙ resp in
            let response : r' ≡ r = cc in (
              IsIdle (record {
                is_open = elim (set_at-cases a.open_call q None p) [ inl g ↦ g.1 | inr g ↦ absurd (g.0 (sym same)) ];
                below = λ j d at_j own.
                    let next : c.nth + 1 ≡ a.next_nth p = h.nth in
                    elim (h.below j d at_j own) [
                      | inl less ↦ (let l : d.nth < c.nth = less in omega arith)
                      | inr found ↦
                          let g : Some d ≡ Some c = sym at_j ∙ ap (slice_get a.agreed) found ∙ h.at in
                          let d_is : d ≡ c = cc in
                          let d_nth : d.nth ≡ c.nth = ap (λ (x : Invoked I). x.nth) d_is in
                          omega arith
                    ];
              }),
              λ acts agrees.
                  (let g : kept (Respond q k r ∷ acts) ++ responses ≡ Respond q k r ∷ (kept acts ++ responses) = rw test refl in g)
                  ∙ ap (λ l. Respond q k r ∷ l) agrees
                  ∙ ap (λ s. Respond q k s ∷ serial a acts) (sym response)
                  ∙ ap (λ (x : Invoked I). Respond x.process x.nth r' ∷ serial a acts) (sym is),
            )

        responds : (sit : Situation p a) → Leads a responded (Respond q k r) sit
        responds sit = elim (number_cases q p) [
          | inl same ↦ responds_own same.0 same.1 sit
          | inr other ↦ by_others a responded [] refl (sym (append-nil a.agreed)) none_more (set_at_elsewhere a.open_call q _ p (λ e. other.0 (sym e))) refl
              (Respond q k r) sit (λ acts. rw other.1 refl) (λ acts. refl)
        ]

      -- a linearization point of a call that is kept
      abbrev pub PointIsKept : Act I R → Type 0
      PointIsKept (Linearize c) = keeps c.process c.nth ≡ true
      PointIsKept act = Unit {0}

      leads : (a c : Atomic S I) (act : Act I R) → Accepts object a act c → PointIsKept act → (sit : Situation p a) → Leads a c act sit
      leads a c (Invoke q k i) ok keeps_it sit = subst (λ x. Leads a x (Invoke q k i) sit) (sym ok.2) (invokes a q k i ok.0 ok.1 sit)
      leads a c (Linearize d) ok keeps_it sit = subst (λ x. Leads a x (Linearize d) sit) (sym ok.2) (linearizes a d ok.0 ok.1 keeps_it sit)
      leads a c (Respond q k r) ok keeps_it sit = subst (λ x. Leads a x (Respond q k r) sit) (sym ok.1) (responds a q k r ok.0.0 ok.0.1 ok.0.2 ok.0.3 ok.0.4 sit)

      -- so do all acts lead
      pub leads_all : (a b : Atomic S I) (acts : List (Act I R)) → AcceptsAll object a acts b → AllByRecursion PointIsKept acts → (sit : Situation p a)
          → (last : Situation p b) × (front b last ++ responses ≡ back b last → Agrees a sit acts)
      leads_all a b [] h all sit =
          subst (λ x. (last : Situation p x) × (front x last ++ responses ≡ back x last → Agrees a sit [])) (sym h) (sit, λ e. e ∙ sym (append-nil (back a sit)))
      leads_all a b (act ∷ acts) h all sit =
          let first = leads a h.0 act h.1 all.0 sit in
          let rest = leads_all h.0 b acts h.2 all.1 first.0 in
          (rest.0, λ e. first.1 acts (rest.1 e))
