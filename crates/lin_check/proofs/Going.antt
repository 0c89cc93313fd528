-- How an atomic object goes on, where the acts show what is left of a history.
use Rattle.lin_check.proofs.Vocabulary.{Accepts, AcceptsAll, Act, Atomic, Call, Contains, Event, Finished, Invoke, Invoked, Linearize, List, None, Respond, Return, Sequential, Some, Waiting, [], absent, ap, arith, inl, inr, invs, keeps_invoke, keeps_point, keeps_respond, member, next_return, number_cases, numbered, observed, refl, response_at, set_at, set_at_elsewhere, slice_get, subst, suc, sym, zero, ℕ, ◌++◌, ◌+◌, ◌-◌, ◌<◌, ◌∙◌, ◌∷◌, ◌≡◌, ◌≢◌}

module _ {S I : Type 0} where
  -- after each act
  abbrev pub invoked : Atomic S I → (p k : ℕ) → I → Atomic S I
  invoked a p k i = record a { open_call = set_at a.open_call p (Some (record { process = p; nth = k; inv = i })); next_nth = set_at a.next_nth p (k + 1) }

  abbrev pub point : Atomic S I → Invoked I → Atomic S I
  point a c = record a { agreed = a.agreed ++ c ∷ [] }

  abbrev pub responded : Atomic S I → (p : ℕ) → Atomic S I
  responded a p = record a { open_call = set_at a.open_call p None }

module _ {I R : Type 0} where
  same_head : (x y : Act I R) (xs ys : List (Act I R)) → x ∷ xs ≡ y ∷ ys → x ≡ y
  same_head x y xs ys e = cc

module _ {S I R : Type 0} (object : Sequential S I R) where
  -- the response at a place doesn't depend on later calls
  pub response-shorter : (s : S) (cs ds : List (Invoked I)) (place : ℕ) (c : Invoked I) (r : R) → slice_get cs place ≡ Some c → response_at object s (invs object (cs ++ ds)) place ≡ Some r
      → response_at object s (invs object cs) place ≡ Some r
  response-shorter s [] ds place c r at e = absurd (let f : None ≡ Some c = at in cc)
  response-shorter s (d ∷ cs) ds zero c r at e = e
  response-shorter s (d ∷ cs) ds (suc place) c r at e = response-shorter (object.next s d.inv) cs ds place c r at e

  -- a call that is over stands at one place
  one_place : (a : Atomic S I) (p k : ℕ) (i : I) (c : Invoked I) (place other : ℕ) → Finished p a c place → a.open_call p ≡ Some (record { process = p; nth = k; inv = i })
      → slice_get a.agreed other ≡ Some (record { process = p; nth = k; inv = i }) → other ≡ place
  one_place a p k i c place other done is_open at =
      let it : Invoked I = record { process = p; nth = k; inv = i } in
      let f : Some it ≡ Some c = sym is_open ∙ done.is_open in
      let same : it ≡ c = cc in
      let number : k ≡ c.nth = ap (λ (x : Invoked I). x.nth) same in
      elim (done.below other it at refl) [
        | inl less ↦ absurd (let l : k < c.nth = less in omega arith)
        | inr here ↦ here
      ]

  -- a process whose call is open is not one that begins or ends another one's
  other_process : (a : Atomic S I) (p : ℕ) (c d : Invoked I) (place : ℕ) → Finished p a c place → a.open_call d.process ≡ Some d → ¬ (Contains a.agreed d) → d.process ≢ p
  other_process a p c d place done is_open absent own =
      let f : Some d ≡ Some c = sym is_open ∙ (ap a.open_call own ∙ done.is_open) in
      let same : d ≡ c = cc in
      absent (subst (λ (x : Invoked I). Contains a.agreed x) (sym same) (member a.agreed place c done.at))

  -- an invocation that is seen first can come first
  pub invoke_first : (a b : Atomic S I) (acts : List (Act I R)) (p k : ℕ) (i : I) (rest : List (Act I R)) → AcceptsAll object a acts b → observed acts ≡ Invoke p k i ∷ rest
      → Accepts object a (Invoke p k i) (invoked a p k i) × ((later : List (Act I R)) × AcceptsAll object (invoked a p k i) later b × (observed later ≡ rest))
  invoke_first a b [] p k i rest h e = absurd (let f : [] ≡ Invoke p k i ∷ rest = e in cc)
  invoke_first a b (Invoke q m j ∷ acts) p k i rest h e =
      let f : Invoke q m j ∷ observed acts ≡ Invoke p k i ∷ rest = e in
      let same = same_head (Invoke q m j) (Invoke p k i) (observed acts) rest e in
      let more : observed acts ≡ rest = cc in
      let took = subst (λ act. Accepts object a act h.0) same h.1 in
      ((took.0, took.1, refl), (acts, subst (λ x. AcceptsAll object x acts b) took.2 h.2, more))
  invoke_first a b (Linearize d ∷ acts) p k i rest h e =
      let here = subst (λ x. AcceptsAll object x acts b) h.1.2 h.2 in
      let later = invoke_first (point a d) b acts p k i rest here e in
      let apart : d.process ≢ p = λ own. (let f : Some d ≡ None = sym h.1.0 ∙ (ap a.open_call own ∙ later.0.0) in cc) in
      let still : set_at a.open_call p (Some (record { process = p; nth = k; inv = i })) d.process ≡ Some d = set_at_elsewhere a.open_call p _ d.process apart ∙ h.1.0 in
      ((later.0.0, later.0.1, refl), (Linearize d ∷ later.1.0, (invoked (point a d) p k i, (still, h.1.1, refl), later.1.1), later.1.2))
  invoke_first a b (Respond q m r ∷ acts) p k i rest h e = absurd (let f : Respond q m r ∷ observed acts ≡ Invoke p k i ∷ rest = e in cc)

  -- the response to a call that took effect can come first, where it is seen first
  pub respond_first : (a b : Atomic S I) (acts : List (Act I R)) (p k : ℕ) (r : R) (c : Invoked I) (place : ℕ) (rest : List (Act I R)) → Finished p a c place → AcceptsAll object a acts b
      → observed acts ≡ Respond p k r ∷ rest
      → Accepts object a (Respond p k r) (responded a p) × ((later : List (Act I R)) × AcceptsAll object (responded a p) later b × (observed later ≡ rest))
  respond_first a b [] p k r c place rest done h e = absurd (let f : [] ≡ Respond p k r ∷ rest = e in cc)
  respond_first a b (Invoke q m j ∷ acts) p k r c place rest done h e = absurd (let f : Invoke q m j ∷ observed acts ≡ Respond p k r ∷ rest = e in cc)
  respond_first a b (Linearize d ∷ acts) p k r c place rest done h e =
      let here = subst (λ x. AcceptsAll object x acts b) h.1.2 h.2 in
      let apart = other_process a p c d place done h.1.0 h.1.1 in
      let after = (keeps_point object p a (point a d) d (h.1.0, h.1.1, refl) (λ e. apart (sym e))).done c place done in
      let later = respond_first (point a d) b acts p k r c place rest after here e in
      let its = later.0.0 in
      let still : set_at a.open_call p None d.process ≡ Some d = set_at_elsewhere a.open_call p None d.process apart ∙ h.1.0 in
      let spot : its.1 ≡ place = one_place (point a d) p k its.0 c place its.1 after its.2 its.3 in
      let f : Some (record { process = p; nth = k; inv = its.0 }) ≡ Some c = sym its.2 ∙ done.is_open in (
        ((its.0, place, its.2, done.at ∙ sym f, response-shorter a.start a.agreed (d ∷ []) place c r done.at (subst (λ j. response_at object a.start (invs object (a.agreed ++ d ∷ [])) j ≡ Some r) spot its.4)), refl),
        (Linearize d ∷ later.1.0, (responded (point a d) p, (still, h.1.1, refl), later.1.1), later.1.2),
      )
  respond_first a b (Respond q m s ∷ acts) p k r c place rest done h e =
      let f : Respond q m s ∷ observed acts ≡ Respond p k r ∷ rest = e in
      let same = same_head (Respond q m s) (Respond p k r) (observed acts) rest e in
      let more : observed acts ≡ rest = cc in
      let took = subst (λ act. Accepts object a act h.0) same h.1 in
      ((took.0, refl), (acts, subst (λ x. AcceptsAll object x acts b) took.1 h.2, more))

  -- the response to a call that waits is seen first: so first some call takes effect
  pub point_first : (a b : Atomic S I) (acts : List (Act I R)) (p k : ℕ) (r : R) (c : Invoked I) (rest : List (Act I R)) → Waiting p a c → AcceptsAll object a acts b
      → observed acts ≡ Respond p k r ∷ rest
      → (d : Invoked I) × (later : List (Act I R)) × (a.open_call d.process ≡ Some d) × (¬ (Contains a.agreed d)) × AcceptsAll object (point a d) later b × (observed later ≡ Respond p k r ∷ rest)
  point_first a b [] p k r c rest waits h e = absurd (let f : [] ≡ Respond p k r ∷ rest = e in cc)
  point_first a b (Invoke q m j ∷ acts) p k r c rest waits h e = absurd (let f : Invoke q m j ∷ observed acts ≡ Respond p k r ∷ rest = e in cc)
  point_first a b (Linearize d ∷ acts) p k r c rest waits h e = (d, acts, h.1.0, h.1.1, subst (λ x. AcceptsAll object x acts b) h.1.2 h.2, e)
  point_first a b (Respond q m s ∷ acts) p k r c rest waits h e =
      let f : Respond q m s ∷ observed acts ≡ Respond p k r ∷ rest = e in
      let same = same_head (Respond q m s) (Respond p k r) (observed acts) rest e in
      let took = subst (λ act. Accepts object a act h.0) same h.1 in
      let its = took.0 in
      let g : Some (record { process = p; nth = k; inv = its.0 }) ≡ Some c = sym its.2 ∙ waits.is_open in
      let it : record { process = p; nth = k; inv = its.0 } ≡ c = cc in
      absurd (absent object a p c waits (subst (λ (x : Invoked I). Contains a.agreed x) it (member a.agreed its.1 _ its.3)))

  -- a process that has no call open gets no response
  pub none_first : (a b : Atomic S I) (acts : List (Act I R)) (p k : ℕ) (r : R) (rest : List (Act I R)) → a.open_call p ≡ None → AcceptsAll object a acts b → observed acts ≡ Respond p k r ∷ rest → ⊥
  none_first a b [] p k r rest free h e = let f : [] ≡ Respond p k r ∷ rest = e in cc
  none_first a b (Invoke q m j ∷ acts) p k r rest free h e = let f : Invoke q m j ∷ observed acts ≡ Respond p k r ∷ rest = e in cc
  none_first a b (Linearize d ∷ acts) p k r rest free h e = none_first (point a d) b acts p k r rest free (subst (λ x. AcceptsAll object x acts b) h.1.2 h.2) e
  none_first a b (Respond q m s ∷ acts) p k r rest free h e =
      let f : Respond q m s ∷ observed acts ≡ Respond p k r ∷ rest = e in
      let same = same_head (Respond q m s) (Respond p k r) (observed acts) rest e in
      let took = subst (λ act. Accepts object a act h.0) same h.1 in
      let it : Invoked I = record { process = p; nth = k; inv = took.0.0 } in
      let g : None ≡ Some it = sym free ∙ took.0.2 in
      cc

  -- a call that took effect is answered by the next return of its process
  pub reply_known : (a b : Atomic S I) (acts : List (Act I R)) (p : ℕ) (c : Invoked I) (place : ℕ) (r : R) (next : ℕ → ℕ) (events : List (Event I R)) → Finished p a c place → AcceptsAll object a acts b
      → observed acts ≡ numbered next events → next_return p events ≡ Some r → response_at object a.start (invs object a.agreed) place ≡ Some r
  reply_known a b [] p c place r next [] done h e known = absurd (let f : None ≡ Some r = known in cc)
  reply_known a b [] p c place r next (Call q i ∷ events) done h e known = absurd (let f : [] ≡ Invoke q (next q) i ∷ numbered (set_at next q (next q + 1)) events = e in cc)
  reply_known a b [] p c place r next (Return q s ∷ events) done h e known = absurd (let f : [] ≡ Respond q (next q - 1) s ∷ numbered next events = e in cc)
  reply_known a b (Linearize d ∷ acts) p c place r next events done h e known =
      let here = subst (λ x. AcceptsAll object x acts b) h.1.2 h.2 in
      let apart = other_process a p c d place done h.1.0 h.1.1 in
      let after = (keeps_point object p a (point a d) d (h.1.0, h.1.1, refl) (λ e. apart (sym e))).done c place done in
      response-shorter a.start a.agreed (d ∷ []) place c r done.at (reply_known (point a d) b acts p c place r next events after here e known)
  reply_known a b (Invoke q m j ∷ acts) p c place r next [] done h e known = absurd (let f : Invoke q m j ∷ observed acts ≡ [] = e in cc)
  reply_known a b (Invoke q m j ∷ acts) p c place r next (Return s t ∷ events) done h e known = absurd (let f : Invoke q m j ∷ observed acts ≡ Respond s (next s - 1) t ∷ numbered next events = e in cc)
  reply_known a b (Invoke q m j ∷ acts) p c place r next (Call s i ∷ events) done h e known =
      let f : Invoke q m j ∷ observed acts ≡ Invoke s (next s) i ∷ numbered (set_at next s (next s + 1)) events = e in
      let more : observed acts ≡ numbered (set_at next s (next s + 1)) events = cc in
      let here = subst (λ x. AcceptsAll object x acts b) h.1.2 h.2 in
      let apart : p ≢ q = λ own. (let g : Some c ≡ None = sym done.is_open ∙ (ap a.open_call own ∙ h.1.0) in cc) in
      let after = (keeps_invoke object p a (invoked a q m j) q m j (h.1.0, h.1.1, refl) apart).done c place done in
      reply_known (invoked a q m j) b acts p c place r (set_at next s (next s + 1)) events after here more known
  reply_known a b (Respond q m s ∷ acts) p c place r next [] done h e known = absurd (let f : Respond q m s ∷ observed acts ≡ [] = e in cc)
  reply_known a b (Respond q m s ∷ acts) p c place r next (Call t i ∷ events) done h e known =
      absurd (let f : Respond q m s ∷ observed acts ≡ Invoke t (next t) i ∷ numbered (set_at next t (next t + 1)) events = e in cc)
  reply_known a b (Respond q m s ∷ acts) p c place r next (Return t u ∷ events) done h e known =
      let f : Respond q m s ∷ observed acts ≡ Respond t (next t - 1) u ∷ numbered next events = e in
      let same : q ≡ t = cc in
      let reply : s ≡ u = cc in
      let more : observed acts ≡ numbered next events = cc in
      elim (number_cases t p) [
        | inl own ↦
            let it : q ≡ p = same ∙ own.0 in
            let g : Some u ≡ Some r = rw own.1 at known in
            let answer : s ≡ r = cc in
            let took = subst (λ x. Accepts object a (Respond x m s) h.0) it h.1 in
            let its = took.0 in
            let spot = one_place a p m its.0 c place its.1 done its.2 its.3 in
            subst (λ j. response_at object a.start (invs object a.agreed) j ≡ Some r) spot (its.4 ∙ ap Some answer)
        | inr other ↦
            let apart : p ≢ q = λ own. other.0 (sym same ∙ sym own) in
            let here = subst (λ x. AcceptsAll object x acts b) h.1.1 h.2 in
            let after = (keeps_respond object p a (responded a q) q m s (h.1.0, refl) apart).done c place done in
            let later : next_return p events ≡ Some r = rw other.1 at known in
            reply_known (responded a q) b acts p c place r next events after here more later
      ]
