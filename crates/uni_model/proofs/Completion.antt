-- What is linearizable with linearization points put in has a completion in the sense of Herlihy and Wing, and is well-formed.
use Rattle.uni_model.proofs.Vocabulary.{Accepts, AcceptsAll, Act, AllByRecursion, AreInTurn, Atomic, Bool, Contains, Invoke, Invoked, IsLinearizedAs, IsLinearizedByCompletion, IsResponse, IsWellFormed, Linearize, List, None, Option, Precedes, Respond, Sequential, Some, [], ap, append_assoc, arith, at_start, cond, false, filter, filter-append, inl, inr, is_by, is_kept, length, list_any, nat_eq, observed, of_process, one_by_one, refl, response_at, slice_get, slice_get_within, subst, suc, sym, true, zero, ℕ, ◌&&◌, ◌++◌, ◌+◌, ◌<◌, ◌==◌, ◌||◌, ◌∙◌, ◌∷◌, ◌≡◌, ◌≢◌}
use Rattle.uni_model.proofs.Written.{number_cases, set_at-cases}
use Rattle.uni_model.proofs.LawProofs.{set_at_elsewhere}
use Rattle.uni_model.proofs.Appended.{slice_get-append_cases, slice_get-append_left, slice_get-append_right}
use Rattle.uni_model.proofs.Members.{member, place_of_member, split_at}
use Rattle.uni_model.proofs.Points.{agreed-along}
use Rattle.uni_model.specs.AtomicObject.{points}
use Rattle.uni_model.proofs.Completed.{Situation, invs, PointIsKept, front, back, leads_all}
use Rattle.uni_model.proofs.Completed.Situation.{IsIdle, IsWaiting, IsDone}

or_true : (b : Bool) → (b || true) ≡ true
or_true true = refl
or_true false = refl

any_true : {A : Type 0} (test : A → Bool) (xs : List A) (j : ℕ) (x : A) → slice_get xs j ≡ Some x → test x ≡ true → list_any test xs ≡ true
any_true test [] j x at e = absurd (let f : None ≡ Some x = at in cc)
any_true test (y ∷ ys) zero x at e =
    let is : y ≡ x = (let f : Some y ≡ Some x = at in cc) in
    ap (λ b. b || list_any test ys) (ap test is ∙ e)
any_true test (y ∷ ys) (suc j) x at e = ap (λ b. test y || b) (any_true test ys j x at e) ∙ or_true (test y)

any_false : {A : Type 0} (test : A → Bool) (xs : List A) → ((j : ℕ) (x : A) → slice_get xs j ≡ Some x → test x ≡ false) → list_any test xs ≡ false
any_false test [] none = refl
any_false test (y ∷ ys) none = ap (λ b. b || list_any test ys) (none 0 y refl) ∙ any_false test ys (λ j x at. none (suc j) x at)

-- whether one of these calls is the call k of q
abbrev is_in : {I : Type 0} → List (Invoked I) → ℕ → ℕ → Bool
is_in order q k = list_any (λ c. (c.process == q) && (c.nth == k)) order

is_in-true : {I : Type 0} (order : List (Invoked I)) (j : ℕ) (c : Invoked I) → slice_get order j ≡ Some c → is_in order c.process c.nth ≡ true
is_in-true order j c at = any_true (λ d. (d.process == c.process) && (d.nth == c.nth)) order j c at
    (elim (number_cases c.process c.process) [
      | inl same ↦ rw same.1 (elim (number_cases c.nth c.nth) [ inl e ↦ e.1 | inr e ↦ absurd (e.0 refl) ])
      | inr other ↦ absurd (other.0 refl)
    ])

is_in-false : {I : Type 0} (order : List (Invoked I)) (q k : ℕ) → ((j : ℕ) (d : Invoked I) → slice_get order j ≡ Some d → d.process ≡ q → d.nth ≢ k) → is_in order q k ≡ false
is_in-false order q k none = any_false (λ d. (d.process == q) && (d.nth == k)) order (λ j d at.
    elim (number_cases d.process q) [
      | inl same ↦ rw same.1 (elim (number_cases d.nth k) [ inl e ↦ absurd (none j d at same.0 e.0) | inr e ↦ e.1 ])
      | inr other ↦ rw other.1 refl
    ])

module _ {I R : Type 0} where
  observed_cons : (act : Act I R) (acts before : List (Act I R)) (x : Act I R) (after : List (Act I R)) → act ∷ observed acts ≡ before ++ x ∷ after
      → ((rest : List (Act I R)) → observed acts ≡ rest ++ x ∷ after → (first : List (Act I R)) × (more : List (Act I R)) × (acts ≡ first ++ x ∷ more) × (observed more ≡ after))
      → (first : List (Act I R)) × (rest : List (Act I R)) × (act ∷ acts ≡ first ++ x ∷ rest) × (observed rest ≡ after)
  observed_cons act acts [] x after e later =
      let is : act ≡ x = cc in
      let same : observed acts ≡ after = cc in
      ([], acts, ap (λ y. y ∷ acts) is, same)
  observed_cons act acts (y ∷ ys) x after e later =
      let same : observed acts ≡ ys ++ x ∷ after = (let f : act ∷ observed acts ≡ y ∷ (ys ++ x ∷ after) = e in cc) in
      let rest = later ys same in
      (act ∷ rest.0, rest.1, ap (λ l. act ∷ l) rest.2, rest.3)

  -- acts are split where what is observed of them is
  observed_split : (acts before : List (Act I R)) (x : Act I R) (after : List (Act I R)) → observed acts ≡ before ++ x ∷ after
      → (first : List (Act I R)) × (rest : List (Act I R)) × (acts ≡ first ++ x ∷ rest) × (observed rest ≡ after)
  observed_split [] [] x after e = absurd (let f : [] ≡ x ∷ after = e in cc)
  observed_split [] (y ∷ ys) x after e = absurd (let f : [] ≡ y ∷ (ys ++ x ∷ after) = e in cc)
  observed_split (Invoke p k i ∷ acts) before x after e = observed_cons (Invoke p k i) acts before x after e (λ ys same. observed_split acts ys x after same)
  observed_split (Linearize c ∷ acts) before x after e =
      let rest = observed_split acts before x after e in
      (Linearize c ∷ rest.0, rest.1, ap (λ l. Linearize c ∷ l) rest.2, rest.3)
  observed_split (Respond p k r ∷ acts) before x after e = observed_cons (Respond p k r) acts before x after e (λ ys same. observed_split acts ys x after same)

module _ {S I R : Type 0} (object : Sequential S I R) where
  AcceptsAll-split : (a b : Atomic S I) (xs ys : List (Act I R)) → AcceptsAll object a (xs ++ ys) b → (c : Atomic S I) × AcceptsAll object a xs c × AcceptsAll object c ys b
  AcceptsAll-split a b [] ys h = (a, refl, h)
  AcceptsAll-split a b (x ∷ xs) ys h = let rest = AcceptsAll-split h.0 b xs ys h.2 in (rest.0, (h.0, h.1, rest.1), rest.2)

  AcceptsAll-join : (a c b : Atomic S I) (xs ys : List (Act I R)) → AcceptsAll object a xs c → AcceptsAll object c ys b → AcceptsAll object a (xs ++ ys) b
  AcceptsAll-join a c b [] ys h later = subst (λ x. AcceptsAll object x ys b) h later
  AcceptsAll-join a c b (x ∷ xs) ys h later = (h.0, h.1, AcceptsAll-join h.0 c b xs ys h.2 later)

  start-accepts : (a c : Atomic S I) (act : Act I R) → Accepts object a act c → c.start ≡ a.start
  start-accepts a c (Invoke p k i) ok = ap (λ (x : Atomic S I). x.start) ok.2
  start-accepts a c (Linearize d) ok = ap (λ (x : Atomic S I). x.start) ok.2
  start-accepts a c (Respond p k r) ok = ap (λ (x : Atomic S I). x.start) ok.1

  start-along : (a b : Atomic S I) (acts : List (Act I R)) → AcceptsAll object a acts b → b.start ≡ a.start
  start-along a b [] h = ap (λ (x : Atomic S I). x.start) h
  start-along a b (act ∷ acts) h = start-along h.0 b acts h.2 ∙ start-accepts a h.0 act h.1

  pub at_opening : (p : ℕ) (start : S) → Situation object p (at_start start)
  at_opening p start = IsIdle (record { is_open = refl; below = λ j d at own. absurd (let e : None ≡ Some d = at in cc) })

  -- where p stands at the end
  all_kept : (p : ℕ) (acts : List (Act I R)) → AllByRecursion (PointIsKept object p (λ q k. true) []) acts
  all_kept p [] = tt
  all_kept p (Invoke q k i ∷ acts) = (tt, all_kept p acts)
  all_kept p (Linearize c ∷ acts) = (refl, all_kept p acts)
  all_kept p (Respond q k r ∷ acts) = (tt, all_kept p acts)

  pub stands : (p : ℕ) (a b : Atomic S I) (acts : List (Act I R)) → AcceptsAll object a acts b → Situation object p a → Situation object p b
  stands p a b acts h sit = (leads_all object p (λ q k. true) [] a b acts h (all_kept p acts) sit).0

  below-next : (p : ℕ) (a : Atomic S I) → Situation object p a → (j : ℕ) (d : Invoked I) → slice_get a.agreed j ≡ Some d → d.process ≡ p → d.nth < a.next_nth p
  below-next p a (IsIdle h) j d at own = h.below j d at own
  below-next p a (IsWaiting c h) j d at own = let less : d.nth < c.nth = h.below j d at own in let next = h.nth in omega arith
  below-next p a (IsDone c place r h e) j d at own =
      let next = h.nth in
      elim (h.below j d at own) [
        | inl less ↦ (let l : d.nth < c.nth = less in omega arith)
        | inr found ↦
            let g : Some d ≡ Some c = sym at ∙ ap (slice_get a.agreed) found ∙ h.at in
            let is : d ≡ c = cc in
            let nth : d.nth ≡ c.nth = ap (λ (x : Invoked I). x.nth) is in
            omega arith
      ]

  -- no call stands twice in the order
  abbrev IsUnique : Atomic S I → Type 0
  IsUnique a = (i j : ℕ) (c d : Invoked I) → slice_get a.agreed i ≡ Some c → slice_get a.agreed j ≡ Some d → c.process ≡ d.process → c.nth ≡ d.nth → i ≡ j

  none_twice : (s : S) → IsUnique (at_start s)
  none_twice s i j c d at_c at_d same_p same_k = absurd (let e : None ≡ Some c = at_c in cc)

  -- a call that takes effect hasn't its number from an earlier one
  new_point : (a : Atomic S I) (c : Invoked I) → a.open_call c.process ≡ Some c → ¬ (Contains a.agreed c) → Situation object c.process a
      → (j : ℕ) (d : Invoked I) → slice_get a.agreed j ≡ Some d → c.process ≡ d.process → c.nth ≢ d.nth
  new_point a c is absent (IsIdle h) j d at own same = (let e : Some c ≡ None = sym is ∙ h.is_open in cc)
  new_point a c is absent (IsWaiting e h) j d at own same =
      let f : Some c ≡ Some e = sym is ∙ h.is_open in
      let g : e ≡ c = cc in
      let nth : e.nth ≡ c.nth = ap (λ (x : Invoked I). x.nth) g in
      let less : d.nth < e.nth = h.below j d at (sym own) in
      omega arith
  new_point a c is absent (IsDone e place r h response) j d at own same =
      absent (let f : Some c ≡ Some e = sym is ∙ h.is_open in let g : e ≡ c = cc in subst (λ x. Contains a.agreed x) g (member a.agreed place e h.at))

  alone_at : (c d : Invoked I) (j : ℕ) → slice_get (c ∷ []) j ≡ Some d → (j ≡ 0) × (c ≡ d)
  alone_at c d zero at = (refl, (let e : Some c ≡ Some d = at in cc))
  alone_at c d (suc j) at = absurd (let e : None ≡ Some d = at in cc)

  unique-point : (a : Atomic S I) (c : Invoked I) → a.open_call c.process ≡ Some c → ¬ (Contains a.agreed c) → Situation object c.process a → IsUnique a → IsUnique (record a { agreed = a.agreed ++ c ∷ [] })
  unique-point a c is absent sit unique i j e f at_e at_f same_p same_k =
      elim (slice_get-append_cases a.agreed (c ∷ []) i e at_e) [
        | inl old_e ↦ elim (slice_get-append_cases a.agreed (c ∷ []) j f at_f) [
          | inl old_f ↦ unique i j e f old_e old_f same_p same_k
          | inr new_f ↦
              let is_c = (alone_at c f new_f.0 new_f.2).1 in
              absurd (new_point a c is absent sit i e old_e (ap (λ (x : Invoked I). x.process) is_c ∙ sym same_p) (ap (λ (x : Invoked I). x.nth) is_c ∙ sym same_k))
        ]
        | inr new_e ↦
            let is_c = (alone_at c e new_e.0 new_e.2).1 in
            elim (slice_get-append_cases a.agreed (c ∷ []) j f at_f) [
              | inl old_f ↦ absurd (new_point a c is absent sit j f old_f (ap (λ (x : Invoked I). x.process) is_c ∙ same_p) (ap (λ (x : Invoked I). x.nth) is_c ∙ same_k))
              | inr new_f ↦
                  let i_0 = (alone_at c e new_e.0 new_e.2).0 in
                  let j_0 = (alone_at c f new_f.0 new_f.2).0 in
                  let i_is : i ≡ length a.agreed + new_e.0 = new_e.1 in
                  let j_is : j ≡ length a.agreed + new_f.0 = new_f.1 in
                  omega arith
            ]
      ]

  unique-accepts : (a x : Atomic S I) (act : Act I R) → Accepts object a act x → ((p : ℕ) → Situation object p a) → IsUnique a → IsUnique x
  unique-accepts a x (Invoke p k i) ok sits unique = subst (λ (y : Atomic S I). IsUnique y) (sym ok.2) unique
  unique-accepts a x (Linearize c) ok sits unique = subst (λ (y : Atomic S I). IsUnique y) (sym ok.2) (unique-point a c ok.0 ok.1 (sits c.process) unique)
  unique-accepts a x (Respond p k r) ok sits unique = subst (λ (y : Atomic S I). IsUnique y) (sym ok.1) unique

  unique-along : (a b : Atomic S I) (acts : List (Act I R)) → AcceptsAll object a acts b → ((p : ℕ) → Situation object p a) → IsUnique a → IsUnique b
  unique-along a b [] h sits unique = subst (λ (y : Atomic S I). IsUnique y) (sym h) unique
  unique-along a b (act ∷ acts) h sits unique =
      unique-along h.0 b acts h.2 (λ p. stands p a h.0 (act ∷ []) (h.0, h.1, refl) (sits p)) (unique-accepts a h.0 act h.1 sits unique)

  -- the responses that calls lack that took effect
  abbrev is_open_call : Invoked I → Option (Invoked I) → Bool
  is_open_call c None = false
  is_open_call c (Some d) = d.nth == c.nth

  module _ (open_call : ℕ → Option (Invoked I)) where
    abbrev missing : S → List (Invoked I) → List (Act I R)
    missing s [] = []
    missing s (c ∷ cs) =
        cond (is_open_call c (open_call c.process)) (Respond c.process c.nth (object.answer s c.inv) ∷ missing (object.next s c.inv) cs) (missing (object.next s c.inv) cs)

    chosen_responses : (b : Bool) (p k : ℕ) (r : R) (rest : List (Act I R)) → AllByRecursion IsResponse rest → AllByRecursion IsResponse (cond b (Respond p k r ∷ rest) rest)
    chosen_responses true p k r rest all = (tt, all)
    chosen_responses false p k r rest all = all

    missing-responses : (s : S) (cs : List (Invoked I)) → AllByRecursion IsResponse (missing s cs)
    missing-responses s [] = tt
    missing-responses s (c ∷ cs) = chosen_responses (is_open_call c (open_call c.process)) c.process c.nth (object.answer s c.inv) (missing (object.next s c.inv) cs) (missing-responses (object.next s c.inv) cs)

    module _ (p : ℕ) where
      drop_response : (b : Bool) (q k : ℕ) (r : R) (rest : List (Act I R)) → nat_eq q p ≡ false → of_process p (cond b (Respond q k r ∷ rest) rest) ≡ of_process p rest
      drop_response true q k r rest e = rw e refl
      drop_response false q k r rest e = refl

      -- the head adds nothing
      missing-skip : (s : S) (c : Invoked I) (cs : List (Invoked I)) → (c.process ≡ p → is_open_call c (open_call c.process) ≡ false) → of_process p (missing s (c ∷ cs)) ≡ of_process p (missing (object.next s c.inv) cs)
      missing-skip s c cs closed = elim (number_cases c.process p) [
        | inl same ↦ ap (λ b. of_process p (cond b (Respond c.process c.nth (object.answer s c.inv) ∷ missing (object.next s c.inv) cs) (missing (object.next s c.inv) cs))) (closed same.0)
        | inr other ↦ drop_response (is_open_call c (open_call c.process)) c.process c.nth (object.answer s c.inv) (missing (object.next s c.inv) cs) other.1
      ]

      missing-none : (s : S) (cs : List (Invoked I)) → ((j : ℕ) (d : Invoked I) → slice_get cs j ≡ Some d → d.process ≡ p → is_open_call d (open_call d.process) ≡ false) → of_process p (missing s cs) ≡ []
      missing-none s [] none = refl
      missing-none s (c ∷ cs) none = missing-skip s c cs (none 0 c refl) ∙ missing-none (object.next s c.inv) cs (λ j d at. none (suc j) d at)

      missing-here : (s : S) (c : Invoked I) (cs : List (Invoked I)) → c.process ≡ p → is_open_call c (open_call c.process) ≡ true
          → of_process p (missing s (c ∷ cs)) ≡ Respond c.process c.nth (object.answer s c.inv) ∷ of_process p (missing (object.next s c.inv) cs)
      missing-here s c cs own is =
          ap (λ b. of_process p (cond b (Respond c.process c.nth (object.answer s c.inv) ∷ missing (object.next s c.inv) cs) (missing (object.next s c.inv) cs))) is
          ∙ (elim (number_cases c.process p) [ inl same ↦ rw same.1 refl | inr other ↦ absurd (other.0 own) ])

      missing-one : (s : S) (cs : List (Invoked I)) (place : ℕ) (c : Invoked I) (r : R) → slice_get cs place ≡ Some c → c.process ≡ p → is_open_call c (open_call c.process) ≡ true
          → response_at object s (invs object cs) place ≡ Some r
          → ((j : ℕ) (d : Invoked I) → slice_get cs j ≡ Some d → d.process ≡ p → j ≢ place → is_open_call d (open_call d.process) ≡ false)
          → of_process p (missing s cs) ≡ Respond c.process c.nth r ∷ []
      missing-one s [] place c r at own is response others = absurd (let e : None ≡ Some c = at in cc)
      missing-one s (d ∷ cs) zero c r at own is response others =
          let same : d ≡ c = (let f : Some d ≡ Some c = at in cc) in
          let answer : object.answer s d.inv ≡ r = (let f : Some (object.answer s d.inv) ≡ Some r = response in cc) in
          missing-here s d cs (ap (λ (x : Invoked I). x.process) same ∙ own) (subst (λ x. is_open_call x (open_call x.process) ≡ true) (sym same) is)
          ∙ ap (λ l. Respond d.process d.nth (object.answer s d.inv) ∷ l) (missing-none (object.next s d.inv) cs (λ j x at_j own_j. others (suc j) x at_j own_j (λ e. (let f : suc j ≡ 0 = e in omega arith))))
          ∙ ap (λ a. Respond d.process d.nth a ∷ []) answer
          ∙ ap (λ (x : Invoked I). Respond x.process x.nth r ∷ []) same
      missing-one s (d ∷ cs) (suc place) c r at own is response others =
          missing-skip s d cs (λ own_d. others 0 d refl own_d (λ e. (let f : 0 ≡ suc place = e in omega arith)))
          ∙ missing-one (object.next s d.inv) cs place c r at own is response (λ j x at_j own_j other. others (suc j) x at_j own_j (λ e. other (let f : suc j ≡ suc place = e in omega arith)))

  invoke_same : (x : Option (Act I R)) (p k : ℕ) (j : I) (q m : ℕ) (i : I) → x ≡ Some (Invoke p k j) → x ≡ Some (Invoke q m i) → (p ≡ q) × (k ≡ m)
  invoke_same x p k j q m i e f = ((cc), (cc))

  pub respond_apart : (x : Option (Act I R)) (p k : ℕ) (r : R) (q m : ℕ) (i : I) → x ≡ Some (Respond p k r) → x ≡ Some (Invoke q m i) → ⊥
  respond_apart x p k r q m i e f = cc

  none_apart : (x : Option (Act I R)) (act : Act I R) → x ≡ None → x ≡ Some act → ⊥
  none_apart x act e f = cc

  -- an act of a sequential history is one of its calls
  pub serial_invoked : (s : S) (cs : List (Invoked I)) (j q m : ℕ) (i : I) → slice_get (one_by_one object s cs) j ≡ Some (Invoke q m i)
      → (place : ℕ) × (d : Invoked I) × (slice_get cs place ≡ Some d) × (d.process ≡ q) × (d.nth ≡ m)
  serial_invoked s [] j q m i at = absurd (none_apart None (Invoke q m i) refl at)
  serial_invoked s (c ∷ cs) zero q m i at =
      let same = invoke_same (Some (Invoke c.process c.nth c.inv)) c.process c.nth c.inv q m i refl at in
      (0, c, refl, same.0, same.1)
  serial_invoked s (c ∷ cs) (suc zero) q m i at = absurd (respond_apart (Some (Respond c.process c.nth (object.answer s c.inv))) c.process c.nth (object.answer s c.inv) q m i refl at)
  serial_invoked s (c ∷ cs) (suc (suc j)) q m i at = let rest = serial_invoked (object.next s c.inv) cs j q m i at in (suc rest.0, rest.1, rest.2, rest.3, rest.4)

  -- the acts of a process are in turn
  abbrev Turn : Option (Invoked I) → (next : ℕ) → List (Act I R) → Type 0
  Turn None next acts = AreInTurn false next acts
  Turn (Some c) next acts = c.nth + 1 ≡ next → AreInTurn true c.nth acts

  module _ (p : ℕ) where
    turn-end : (o : Option (Invoked I)) (next : ℕ) → Turn o next []
    turn-end None next = tt
    turn-end (Some c) next = λ e. tt

    turn-invoke : (q k : ℕ) (i : I) (acts : List (Act I R)) (next : ℕ) → nat_eq q p ≡ true → next ≡ k → Turn (Some (record { process = q; nth = k; inv = i })) (k + 1) (of_process p acts)
        → Turn None next (of_process p (Invoke q k i ∷ acts))
    turn-invoke q k i acts next test number rest = rw test (sym number, subst (λ m. AreInTurn true m (of_process p acts)) (sym number) (rest refl))

    turn-respond : (q k : ℕ) (r : R) (acts : List (Act I R)) (c : Invoked I) (next : ℕ) → nat_eq q p ≡ true → c.nth ≡ k → Turn None next (of_process p acts)
        → Turn (Some c) next (of_process p (Respond q k r ∷ acts))
    turn-respond q k r acts c next test number rest = λ e. rw test (sym number, subst (λ m. AreInTurn false m (of_process p acts)) (sym e) rest)

    in_turn : (a b : Atomic S I) (acts : List (Act I R)) → AcceptsAll object a acts b → (o : Option (Invoked I)) → a.open_call p ≡ o → Turn o (a.next_nth p) (of_process p (observed acts))
    in_turn a b [] h o is = turn-end o (a.next_nth p)
    in_turn a b (Linearize c ∷ acts) h o is =
        subst (λ m. Turn o m (of_process p (observed acts))) (ap (λ (x : Atomic S I). x.next_nth p) h.1.2) (in_turn h.0 b acts h.2 o (ap (λ (x : Atomic S I). x.open_call p) h.1.2 ∙ is))
    in_turn a b (Invoke q k i ∷ acts) h o is = elim (number_cases q p) [
      | inl same ↦
          let it : Invoked I = record { process = q; nth = k; inv = i } in
          let open_now : h.0.open_call p ≡ Some it = ap (λ (x : Atomic S I). x.open_call p) h.1.2 ∙ (elim (set_at-cases a.open_call q (Some it) p) [ inl e ↦ e.1 | inr e ↦ absurd (e.0 (sym same.0)) ]) in
          let next_now : h.0.next_nth p ≡ k + 1 = ap (λ (x : Atomic S I). x.next_nth p) h.1.2 ∙ (elim (set_at-cases a.next_nth q (k + 1) p) [ inl e ↦ e.1 | inr e ↦ absurd (e.0 (sym same.0)) ]) in
          let rest : Turn (Some it) (k + 1) (of_process p (observed acts)) = subst (λ m. Turn (Some it) m (of_process p (observed acts))) next_now (in_turn h.0 b acts h.2 (Some it) open_now) in
          subst (λ x. Turn x (a.next_nth p) (of_process p (Invoke q k i ∷ observed acts))) (sym h.1.0 ∙ ap a.open_call same.0 ∙ is)
          (turn-invoke q k i (observed acts) (a.next_nth p) same.1 (ap a.next_nth (sym same.0) ∙ h.1.1) rest)
      | inr other ↦
          let apart : p ≢ q = λ e. other.0 (sym e) in
          let open_now : h.0.open_call p ≡ o = ap (λ (x : Atomic S I). x.open_call p) h.1.2 ∙ set_at_elsewhere a.open_call q _ p apart ∙ is in
          let next_now : h.0.next_nth p ≡ a.next_nth p = ap (λ (x : Atomic S I). x.next_nth p) h.1.2 ∙ set_at_elsewhere a.next_nth q _ p apart in
          subst (λ l. Turn o (a.next_nth p) l) (let e : of_process p (observed acts) ≡ of_process p (Invoke q k i ∷ observed acts) = rw other.1 refl in e)
          (subst (λ m. Turn o m (of_process p (observed acts))) next_now (in_turn h.0 b acts h.2 o open_now))
    ]
    in_turn a b (Respond q k r ∷ acts) h o is = elim (number_cases q p) [
      | inl same ↦
          let c : Invoked I = record { process = q; nth = k; inv = h.1.0.0 } in
          let open_now : h.0.open_call p ≡ None = ap (λ (x : Atomic S I). x.open_call p) h.1.1 ∙ (elim (set_at-cases a.open_call q None p) [ inl e ↦ e.1 | inr e ↦ absurd (e.0 (sym same.0)) ]) in
          let next_now : h.0.next_nth p ≡ a.next_nth p = ap (λ (x : Atomic S I). x.next_nth p) h.1.1 in
          let rest : Turn None (a.next_nth p) (of_process p (observed acts)) = subst (λ m. Turn None m (of_process p (observed acts))) next_now (in_turn h.0 b acts h.2 None open_now) in
          subst (λ x. Turn x (a.next_nth p) (of_process p (Respond q k r ∷ observed acts))) (sym h.1.0.2 ∙ ap a.open_call same.0 ∙ is)
          (turn-respond q k r (observed acts) c (a.next_nth p) same.1 refl rest)
      | inr other ↦
          let apart : p ≢ q = λ e. other.0 (sym e) in
          let open_now : h.0.open_call p ≡ o = ap (λ (x : Atomic S I). x.open_call p) h.1.1 ∙ set_at_elsewhere a.open_call q _ p apart ∙ is in
          let next_now : h.0.next_nth p ≡ a.next_nth p = ap (λ (x : Atomic S I). x.next_nth p) h.1.1 in
          subst (λ l. Turn o (a.next_nth p) l) (let e : of_process p (observed acts) ≡ of_process p (Respond q k r ∷ observed acts) = rw other.1 refl in e)
          (subst (λ m. Turn o m (of_process p (observed acts))) next_now (in_turn h.0 b acts h.2 o open_now))
    ]

  module _ (start : S) (acts : List (Act I R)) (b : Atomic S I) (h : AcceptsAll object (at_start start) acts b) where
    abbrev keeps : ℕ → ℕ → Bool
    keeps q k = is_in b.agreed q k

    abbrev responses : List (Act I R)
    responses = missing b.open_call start b.agreed

    all_points : b.agreed ≡ points acts
    all_points = agreed-along object (at_start start) b acts h

    -- every point is that of a call in the order
    points_kept : (p : ℕ) (rs : List (Act I R)) (before : List (Invoked I)) (some : List (Act I R)) → b.agreed ≡ before ++ points some → AllByRecursion (PointIsKept object p keeps rs) some
    points_kept p rs before [] e = tt
    points_kept p rs before (Invoke q k i ∷ some) e = (tt, points_kept p rs before some e)
    points_kept p rs before (Linearize c ∷ some) e = (
      is_in-true b.agreed (length before) c (ap (λ l. slice_get l (length before)) e ∙ ap (slice_get (before ++ c ∷ points some)) (let n : length before ≡ length before + 0 = omega arith in n) ∙ slice_get-append_right before (c ∷ points some) 0),
      points_kept p rs (before ++ c ∷ []) some (e ∙ sym (append_assoc before (c ∷ []) (points some))),
    )
    points_kept p rs before (Respond q k r ∷ some) e = (tt, points_kept p rs before some e)

    -- at the end the responses that lack are there
    ends : (p : ℕ) (last : Situation object p b) → front object p keeps (of_process p responses) b last ++ of_process p responses ≡ back object p keeps (of_process p responses) b last
    ends p (IsIdle f) = missing-none b.open_call p start b.agreed (λ j d at own. ap (is_open_call d) (ap b.open_call own ∙ f.is_open))
    ends p (IsWaiting c f) =
        ap (λ t. cond t (Invoke c.process c.nth c.inv ∷ []) [] ++ of_process p responses) (is_in-false b.agreed c.process c.nth (λ j d at own e. (let less : d.nth < c.nth = f.below j d at (own ∙ f.own) in omega arith)))
        ∙ missing-none b.open_call p start b.agreed (λ j d at own. ap (is_open_call d) (ap b.open_call own ∙ f.is_open)
        ∙ (elim (number_cases c.nth d.nth) [ inl e ↦ absurd (let less : d.nth < c.nth = f.below j d at own in let same = e.0 in omega arith) | inr e ↦ e.1 ]))
    ends p (IsDone c place r f response) =
        missing-one b.open_call p start b.agreed place c r f.at f.own
        (ap (is_open_call c) (ap b.open_call f.own ∙ f.is_open) ∙ (elim (number_cases c.nth c.nth) [ inl e ↦ e.1 | inr e ↦ absurd (e.0 refl) ]))
        (ap (λ s. response_at object s (invs object b.agreed) place) (sym (start-along (at_start start) b acts h)) ∙ response)
        (λ j d at own other. ap (is_open_call d) (ap b.open_call own ∙ f.is_open)
        ∙ (elim (number_cases c.nth d.nth) [
          | inl e ↦ absurd (elim (f.below j d at own) [ inl less ↦ (let l : d.nth < c.nth = less in let same = e.0 in omega arith) | inr found ↦ other found ])
          | inr e ↦ e.1
        ]))

    equivalent : (p : ℕ) → of_process p (filter (is_kept keeps) (observed acts) ++ responses) ≡ of_process p (one_by_one object start b.agreed)
    unfolding at_opening
    equivalent p =
        let led = leads_all object p keeps (of_process p responses) (at_start start) b acts h (points_kept p (of_process p responses) [] acts all_points) (at_opening p start) in
        let agrees : of_process p (filter (is_kept keeps) (observed acts)) ++ of_process p responses ≡ of_process p (one_by_one object start (points acts)) = led.1 (ends p led.0) in
        filter-append (is_by p) (filter (is_kept keeps) (observed acts)) responses ∙ agrees ∙ ap (λ cs. of_process p (one_by_one object start cs)) (sym all_points)

    -- a call that has responded is in the order
    pending : (p k : ℕ) (r : R) → keeps p k ≡ false → ¬ (Contains (observed acts) (Respond p k r))
    pending p k r dropped there =
        let at = place_of_member (observed acts) (Respond p k r) there in
        let split = split_at (observed acts) at.0 (Respond p k r) at.1 in
        let here = observed_split acts split.0 (Respond p k r) split.1 split.2 in
        let run = AcceptsAll-split (at_start start) b here.0 (Respond p k r ∷ here.1) (subst (λ l. AcceptsAll object (at_start start) l b) here.2 h) in
        let ok = run.2.1 in
        let grown : b.agreed ≡ run.0.agreed ++ points here.1 = agreed-along object run.0 b (Respond p k r ∷ here.1) run.2 in
        let c : Invoked I = record { process = p; nth = k; inv = ok.0.0 } in
        let found : slice_get b.agreed ok.0.1 ≡ Some c = ap (λ l. slice_get l ok.0.1) grown ∙ slice_get-append_left run.0.agreed (points here.1) ok.0.1 c ok.0.3 in
        let kept : keeps p k ≡ true = is_in-true b.agreed ok.0.1 c found in
        (let e : true ≡ false = sym kept ∙ dropped in cc)

    real_time : (x y : ℕ) (c d : Invoked I) → slice_get b.agreed x ≡ Some c → slice_get b.agreed y ≡ Some d → Precedes (observed acts) c.process c.nth d.process d.nth → x < y
    real_time x y c d at_c at_d precedes =
        let p = c.process in
        let k = c.nth in
        let q = d.process in
        let m = d.nth in
        let here = observed_split acts precedes.before (Respond p k precedes.response) (precedes.between ++ Invoke q m precedes.inv ∷ precedes.after) precedes.split in
        let later = observed_split here.1 precedes.between (Invoke q m precedes.inv) precedes.after here.3 in
        let run = AcceptsAll-split (at_start start) b here.0 (Respond p k precedes.response ∷ here.1) (subst (λ l. AcceptsAll object (at_start start) l b) here.2 h) in
        let ok = run.2.1 in
        let more = AcceptsAll-split run.2.0 b later.0 (Invoke q m precedes.inv ∷ later.1) (subst (λ l. AcceptsAll object run.2.0 l b) later.2 run.2.2) in
        let mid : Atomic S I = more.0 in
        let next : mid.next_nth q ≡ m = more.2.1.1 in
        let grown : mid.agreed ≡ run.0.agreed ++ points later.0 = agreed-along object run.0 mid (Respond p k precedes.response ∷ later.0) (run.2.0, run.2.1, more.1) in
        let all : b.agreed ≡ mid.agreed ++ points later.1 = agreed-along object mid b (Invoke q m precedes.inv ∷ later.1) more.2 in
        let e : Invoked I = record { process = p; nth = k; inv = ok.0.0 } in
        let found : slice_get mid.agreed ok.0.1 ≡ Some e = ap (λ l. slice_get l ok.0.1) grown ∙ slice_get-append_left run.0.agreed (points later.0) ok.0.1 e ok.0.3 in
        let same : x ≡ ok.0.1 = unique-along (at_start start) b acts h (λ r. at_opening r start) (none_twice start) x ok.0.1 c e at_c (ap (λ l. slice_get l ok.0.1) all ∙ slice_get-append_left mid.agreed (points later.1) ok.0.1 e found) refl refl in
        let early : ok.0.1 < length mid.agreed = slice_get_within mid.agreed ok.0.1 e found in
        let sit = stands q (at_start start) mid (here.0 ++ Respond p k precedes.response ∷ later.0)
        (AcceptsAll-join (at_start start) run.0 mid here.0 (Respond p k precedes.response ∷ later.0) run.1 (run.2.0, run.2.1, more.1)) (at_opening q start) in
        elim (slice_get-append_cases mid.agreed (points later.1) y d (ap (λ l. slice_get l y) (sym all) ∙ at_d)) [
          | inl before ↦ absurd (let less : m < mid.next_nth q = below-next q mid sit y d before refl in omega arith)
          | inr after ↦ (let place : y ≡ length mid.agreed + after.0 = after.1 in omega arith)
        ]

    completes : IsLinearizedByCompletion object start (observed acts) b.agreed
    completes = record {
      completed = filter (is_kept keeps) (observed acts) ++ responses;
      completion = record {
        keeps = keeps;
        pending = pending;
        responses = responses;
        are_responses = missing-responses b.open_call start b.agreed;
        appended = refl;
      };
      equivalent = equivalent;
      real_time = real_time;
    }

    well_formed : IsWellFormed (observed acts)
    well_formed p = in_turn p (at_start start) b acts h None refl

  pub completed : (start : S) (history : List (Act I R)) (order : List (Invoked I)) → IsLinearizedAs object start history order
      → IsWellFormed history × IsLinearizedByCompletion object start history order
  completed start history order its =
      subst (λ l. IsWellFormed l × IsLinearizedByCompletion object start l order) its.2
      (well_formed start its.0 its.1 its.3, subst (λ o. IsLinearizedByCompletion object start (observed its.0) o) its.4 (completes start its.0 its.1 its.3))
