-- Locality, the other way: the acts of one object, with its linearization points, among those of a whole history.
use Rattle.uni_model.proofs.Vocabulary.{Accepts, AcceptsAll, Act, Atomic, Bool, Contains, Invoke, Invoked, IsLinearizableHistory, IsLocal, Linearize, List, None, Respond, Sequential, Some, [], ap, arith, at_start, cond, false, inl, inr, length, observed, of_object, refl, response_at, set_at, slice_get, subst, suc, sym, together, true, zero, ℕ, ◌++◌, ◌+◌, ◌-◌, ◌<◌, ◌==◌, ◌∙◌, ◌∷◌, ◌≡◌, ◌≢◌}
use Rattle.uni_model.proofs.Written.{number_cases}
use Rattle.uni_model.proofs.LawProofs.{set_at_elsewhere}
use Rattle.uni_model.proofs.Solo.{set_at_here}
use Rattle.uni_model.proofs.Members.{member}
use Rattle.uni_model.proofs.Completed.{Idle, Waiting, Done, Situation, invs, state_of}
use Rattle.uni_model.proofs.Completed.Situation.{IsIdle, IsWaiting, IsDone}
use Rattle.uni_model.proofs.Completion.{stands, at_opening}
use Rattle.uni_model.proofs.Local.{Keeps, keeps_same, keeps_invoke, keeps_point, keeps_respond, invoke_own, point_own, point_response, point_state, respond_own, absent, its_name, merged}

module _ {S I R : Type 0} (objects : ℕ → Sequential S I R) (x : ℕ) where
  abbrev whole : Sequential (ℕ → S) (ℕ × I) (ℕ × R)
  whole = together objects

  abbrev History : Type 0
  History = List (Act (ℕ × I) (ℕ × R))

  -- where p stands in the whole and in x
  data Shows (p : ℕ) (a : Atomic (ℕ → S) (ℕ × I)) (b : Atomic S I) : Type 0 where
    Quiet : a.open_call p ≡ None → Idle p b → Shows p a b
    Elsewhere : (c : Invoked (ℕ × I)) → a.open_call p ≡ Some c → c.inv.0 ≢ x → Idle p b → Shows p a b
    Waits : (c : Invoked (ℕ × I)) (d : Invoked I) → Waiting p a c → c.inv ≡ (x, d.inv) → Waiting p b d → Shows p a b
    Did : (c : Invoked (ℕ × I)) (d : Invoked I) (place here : ℕ) (r : R) → Done p a c place → response_at whole a.start (invs whole a.agreed) place ≡ Some (x, r) → c.inv.0 ≡ x
        → Done p b d here → response_at (objects x) b.start (invs (objects x) b.agreed) here ≡ Some r → Shows p a b

  shows_moved : (p : ℕ) (a a' : Atomic (ℕ → S) (ℕ × I)) (b b' : Atomic S I) → a'.open_call p ≡ a.open_call p → Keeps whole p a a' → Keeps (objects x) p b b' → Shows p a b → Shows p a' b'
  shows_moved p a a' b b' same f g (Quiet e h) = Quiet (same ∙ e) (g.idle h)
  shows_moved p a a' b b' same f g (Elsewhere c e other h) = Elsewhere c (same ∙ e) other (g.idle h)
  shows_moved p a a' b b' same f g (Waits c d h e k) = Waits c d (f.waiting c h) e (g.waiting d k)
  shows_moved p a a' b b' same f g (Did c d place here r h e i k e') = Did c d place here r (f.done c place h) (f.response place (x, r) e) i (g.done d here k) (g.response here r e')

  abbrev projected : (ℕ → ℕ) → History → List (Act I R)
  projected next [] = []
  projected next (Invoke p k call ∷ acts) = cond (call.0 == x) (Invoke p (next p) call.1 ∷ projected (set_at next p (next p + 1)) acts) (projected next acts)
  projected next (Linearize c ∷ acts) = cond (c.inv.0 == x) (Linearize (record { process = c.process; nth = next c.process - 1; inv = c.inv.1 }) ∷ projected next acts) (projected next acts)
  projected next (Respond p k resp ∷ acts) = cond (resp.0 == x) (Respond p (next p - 1) resp.1 ∷ projected next acts) (projected next acts)

  seen_invoke : (b : Bool) (p k : ℕ) (i : I) (l m l' m' : List (Act I R)) → observed l ≡ l' → observed m ≡ m' → observed (cond b (Invoke p k i ∷ l) m) ≡ cond b (Invoke p k i ∷ l') m'
  seen_invoke true p k i l m l' m' e f = ap (λ t. Invoke p k i ∷ t) e
  seen_invoke false p k i l m l' m' e f = f

  seen_point : (b : Bool) (c : Invoked I) (l : List (Act I R)) → observed (cond b (Linearize c ∷ l) l) ≡ observed l
  seen_point true c l = refl
  seen_point false c l = refl

  seen_respond : (b : Bool) (p k : ℕ) (r : R) (l l' : List (Act I R)) → observed l ≡ l' → observed (cond b (Respond p k r ∷ l) l) ≡ cond b (Respond p k r ∷ l') l'
  seen_respond true p k r l l' e = ap (λ t. Respond p k r ∷ t) e
  seen_respond false p k r l l' e = e

  seen : (next : ℕ → ℕ) (acts : History) → observed (projected next acts) ≡ of_object x next (observed acts)
  seen next [] = refl
  seen next (Invoke p k call ∷ acts) = seen_invoke (call.0 == x) p (next p) call.1 (projected (set_at next p (next p + 1)) acts) (projected next acts) _ _ (seen (set_at next p (next p + 1)) acts) (seen next acts)
  seen next (Linearize c ∷ acts) = seen_point (c.inv.0 == x) (record { process = c.process; nth = next c.process - 1; inv = c.inv.1 }) (projected next acts) ∙ seen next acts
  seen next (Respond p k resp ∷ acts) = seen_respond (resp.0 == x) p (next p - 1) resp.1 (projected next acts) _ (seen next acts)

  -- a response names the object of its call
  response_tag : (s : ℕ → S) (cs : List (Invoked (ℕ × I))) (place : ℕ) (c : Invoked (ℕ × I)) (r : ℕ × R) → slice_get cs place ≡ Some c → response_at whole s (invs whole cs) place ≡ Some r → c.inv.0 ≡ r.0
  response_tag s [] place c r at e = absurd (let f : None ≡ Some c = at in cc)
  response_tag s (d ∷ cs) zero c r at e =
      let is : d ≡ c = (let f : Some d ≡ Some c = at in cc) in
      let ans : whole.answer s d.inv ≡ r = (let f : Some (whole.answer s d.inv) ≡ Some r = e in cc) in
      ap (λ (y : Invoked (ℕ × I)). y.inv.0) (sym is) ∙ ap (λ (y : ℕ × R). y.0) ans
  response_tag s (d ∷ cs) (suc place) c r at e = response_tag (whole.next s d.inv) cs place c r at e

  idle_now : (p : ℕ) (a : Atomic (ℕ → S) (ℕ × I)) → Situation whole p a → a.open_call p ≡ None → Idle p a
  idle_now p a (IsIdle h) none = h
  idle_now p a (IsWaiting c h) none = absurd (let e : None ≡ Some c = sym none ∙ h.is_open in cc)
  idle_now p a (IsDone c place r h e) none = absurd (let f : None ≡ Some c = sym none ∙ h.is_open in cc)

  idle_there : (p : ℕ) (a : Atomic (ℕ → S) (ℕ × I)) (b : Atomic S I) → Shows p a b → a.open_call p ≡ None → Idle p b
  idle_there p a b (Quiet e h) none = h
  idle_there p a b (Elsewhere c e other h) none = h
  idle_there p a b (Waits c d h e k) none = absurd (let f : None ≡ Some c = sym none ∙ h.is_open in cc)
  idle_there p a b (Did c d place here r h e i k e') none = absurd (let f : None ≡ Some c = sym none ∙ h.is_open in cc)

  -- the call of a linearization point
  point_elsewhere : (a a' : Atomic (ℕ → S) (ℕ × I)) (b : Atomic S I) (c : Invoked (ℕ × I)) → Accepts whole a (Linearize c) a' → c.inv.0 ≢ x → Shows c.process a b → Shows c.process a' b
  point_elsewhere a a' b c ok other (Quiet e h) = absurd (let f : Some c ≡ None = sym ok.0 ∙ e in cc)
  point_elsewhere a a' b c ok other (Elsewhere d e apart h) = Elsewhere d (ap (λ (y : Atomic (ℕ → S) (ℕ × I)). y.open_call c.process) ok.2 ∙ e) apart h
  point_elsewhere a a' b c ok other (Waits e d h inv k) =
      absurd (other (let f : Some c ≡ Some e = sym ok.0 ∙ h.is_open in let is : c ≡ e = cc in ap (λ (y : Invoked (ℕ × I)). y.inv.0) is ∙ ap (λ (y : ℕ × I). y.0) inv))
  point_elsewhere a a' b c ok other (Did e d place here r h f i k f') =
      absurd (other (let g : Some c ≡ Some e = sym ok.0 ∙ h.is_open in let is : c ≡ e = cc in ap (λ (y : Invoked (ℕ × I)). y.inv.0) is ∙ i))

  point_waits : (a a' : Atomic (ℕ → S) (ℕ × I)) (b : Atomic S I) (c : Invoked (ℕ × I)) → Accepts whole a (Linearize c) a' → c.inv.0 ≡ x → Shows c.process a b
      → Waiting c.process a c × ((d : Invoked I) × (c.inv ≡ (x, d.inv)) × Waiting c.process b d)
  point_waits a a' b c ok same (Quiet e h) = absurd (let f : Some c ≡ None = sym ok.0 ∙ e in cc)
  point_waits a a' b c ok same (Elsewhere d e apart h) = absurd (apart (let f : Some c ≡ Some d = sym ok.0 ∙ e in let is : d ≡ c = cc in ap (λ (y : Invoked (ℕ × I)). y.inv.0) is ∙ same))
  point_waits a a' b c ok same (Waits e d h inv k) =
      let f : Some c ≡ Some e = sym ok.0 ∙ h.is_open in
      let is : e ≡ c = cc in
      (subst (λ (y : Invoked (ℕ × I)). Waiting c.process a y) is h, (d, ap (λ (y : Invoked (ℕ × I)). y.inv) (sym is) ∙ inv, k))
  point_waits a a' b c ok same (Did e d place here r h f i k f') =
      absurd (ok.1 (let g : Some c ≡ Some e = sym ok.0 ∙ h.is_open in let is : e ≡ c = cc in subst (λ y. Contains a.agreed y) is (member a.agreed place e h.at)))

  -- the call of a response
  module _ (a a' : Atomic (ℕ → S) (ℕ × I)) (b : Atomic S I) (p k : ℕ) (resp : ℕ × R) (ok : Accepts whole a (Respond p k resp) a') where
    abbrev it : Invoked (ℕ × I)
    it = record { process = p; nth = k; inv = ok.0.0 }

    tag : ok.0.0.0 ≡ resp.0
    tag = response_tag a.start a.agreed ok.0.1 it resp ok.0.3 ok.0.4

    closed : a'.open_call p ≡ None
    closed = ap (λ (y : Atomic (ℕ → S) (ℕ × I)). y.open_call p) ok.1 ∙ set_at_here a.open_call p None

    not_waiting : (c : Invoked (ℕ × I)) → Waiting p a c → ⊥
    not_waiting c h =
        let e : Some it ≡ Some c = sym ok.0.2 ∙ h.is_open in
        let is : c ≡ it = cc in
        let less : k < c.nth = h.below ok.0.1 it ok.0.3 refl in
        let nth : c.nth ≡ k = ap (λ (y : Invoked (ℕ × I)). y.nth) is in
        omega arith

    respond_elsewhere : resp.0 ≢ x → Shows p a b → Shows p a' b
    respond_elsewhere other (Quiet e h) = absurd (let f : Some it ≡ None = sym ok.0.2 ∙ e in cc)
    respond_elsewhere other (Elsewhere c e apart h) = Quiet closed h
    respond_elsewhere other (Waits c d h inv f) = absurd (not_waiting c h)
    respond_elsewhere other (Did c d place here r h e i f g) =
        absurd (other (sym tag ∙ (let f : Some it ≡ Some c = sym ok.0.2 ∙ h.is_open in let is : it ≡ c = cc in ap (λ (y : Invoked (ℕ × I)). y.inv.0) is ∙ i)))

    respond_did : resp.0 ≡ x → Shows p a b → (d : Invoked I) × (here : ℕ) × Done p b d here × (response_at (objects x) b.start (invs (objects x) b.agreed) here ≡ Some resp.1)
    respond_did same (Quiet e h) = absurd (let f : Some it ≡ None = sym ok.0.2 ∙ e in cc)
    respond_did same (Elsewhere c e apart h) = absurd (apart (let f : Some it ≡ Some c = sym ok.0.2 ∙ e in let is : c ≡ it = cc in ap (λ (y : Invoked (ℕ × I)). y.inv.0) is ∙ tag ∙ same))
    respond_did same (Waits c d h inv f) = absurd (not_waiting c h)
    respond_did same (Did c d place here r h e i f g) =
        let both : Some it ≡ Some c = sym ok.0.2 ∙ h.is_open in
        let is : c ≡ it = cc in
        let nth : c.nth ≡ k = ap (λ (y : Invoked (ℕ × I)). y.nth) is in
        let found : ok.0.1 ≡ place = (elim (h.below ok.0.1 it ok.0.3 refl) [ inl less ↦ absurd (let l : k < c.nth = less in omega arith) | inr there ↦ there ]) in
        let pair : Some (x, r) ≡ Some resp = sym e ∙ ap (response_at whole a.start (invs whole a.agreed)) (sym found) ∙ ok.0.4 in
        let its : (x, r) ≡ resp = cc in
        (d, here, f, g ∙ ap (λ (y : ℕ × R). Some y.1) its)

  -- the whole's acts, and x's among them
  record Runs (next : ℕ → ℕ) (acts : History) (b : Atomic S I) : Type 0 where
    last : Atomic S I
    accepted : AcceptsAll (objects x) b (projected next acts) last

  add : (next : ℕ → ℕ) (b b' : Atomic S I) (act : Act I R) (l : List (Act I R)) → Accepts (objects x) b act b' → (last : Atomic S I) × AcceptsAll (objects x) b' l last → (last : Atomic S I) × AcceptsAll (objects x) b (act ∷ l) last
  add next b b' act l ok rest = (rest.0, (b', ok, rest.1))

  runs : (acts : History) (a z : Atomic (ℕ → S) (ℕ × I)) (b : Atomic S I) (next : ℕ → ℕ) → AcceptsAll whole a acts z → ((p : ℕ) → Situation whole p a) → ((p : ℕ) → b.next_nth p ≡ next p)
      → state_of whole a x ≡ state_of (objects x) b → ((p : ℕ) → Shows p a b) → (last : Atomic S I) × AcceptsAll (objects x) b (projected next acts) last
  runs [] a z b next h sits nexts state shows = (b, refl)
  runs (Invoke p k call ∷ acts) a z b next h sits nexts state shows = elim (number_cases call.0 x) [
    | inl same ↦ rw same.1 (
        let d : Invoked I = record { process = p; nth = next p; inv = call.1 } in
        let b' : Atomic S I = record b { open_call = set_at b.open_call p (Some d); next_nth = set_at b.next_nth p (next p + 1) } in
        let ok : Accepts (objects x) b (Invoke p (next p) call.1) b' = ((idle_there p a b (shows p) h.1.0).is_open, nexts p, refl) in
        let own : Shows p h.0 b' = Waits (record { process = p; nth = k; inv = call }) d (invoke_own whole a h.0 p k call h.1 (idle_now p a (sits p) h.1.0)) (ap (λ y. (y, call.1)) same.0)
        (invoke_own (objects x) b b' p (next p) call.1 ok (idle_there p a b (shows p) h.1.0)) in
        add next b b' (Invoke p (next p) call.1) (projected (set_at next p (next p + 1)) acts) ok
        (runs acts h.0 z b' (set_at next p (next p + 1)) h.2 (λ q. stands whole q a h.0 (Invoke p k call ∷ []) (h.0, h.1, refl) (sits q))
        (λ q. elim (number_cases q p) [ inl e ↦ rw e.1 refl | inr e ↦ rw e.1 (nexts q) ])
        (ap (λ (y : Atomic (ℕ → S) (ℕ × I)). state_of whole y x) h.1.2 ∙ state)
        (λ q. elim (number_cases q p) [
          | inl e ↦ subst (λ r. Shows r h.0 b') (sym e.0) own
          | inr e ↦ shows_moved q a h.0 b b' (ap (λ (y : Atomic (ℕ → S) (ℕ × I)). y.open_call q) h.1.2 ∙ set_at_elsewhere a.open_call p _ q e.0) (keeps_invoke whole q a h.0 p k call h.1 e.0) (keeps_invoke (objects x) q b b' p (next p) call.1 ok e.0) (shows q)
        ])))
    | inr other ↦ rw other.1 (
        runs acts h.0 z b next h.2 (λ q. stands whole q a h.0 (Invoke p k call ∷ []) (h.0, h.1, refl) (sits q)) nexts
        (ap (λ (y : Atomic (ℕ → S) (ℕ × I)). state_of whole y x) h.1.2 ∙ state)
        (λ q. elim (number_cases q p) [
          | inl e ↦ subst (λ r. Shows r h.0 b) (sym e.0)
              (Elsewhere (record { process = p; nth = k; inv = call }) (ap (λ (y : Atomic (ℕ → S) (ℕ × I)). y.open_call p) h.1.2 ∙ set_at_here a.open_call p _) other.0 (idle_there p a b (shows p) h.1.0))
          | inr e ↦ shows_moved q a h.0 b b (ap (λ (y : Atomic (ℕ → S) (ℕ × I)). y.open_call q) h.1.2 ∙ set_at_elsewhere a.open_call p _ q e.0) (keeps_invoke whole q a h.0 p k call h.1 e.0) (keeps_same (objects x) q b) (shows q)
        ]))
  ]
  runs (Linearize c ∷ acts) a z b next h sits nexts state shows = elim (number_cases c.inv.0 x) [
    | inl same ↦ rw same.1 (
        let w = point_waits a h.0 b c h.1 same.0 (shows c.process) in
        let d : Invoked I = record { process = c.process; nth = next c.process - 1; inv = c.inv.1 } in
        let number : w.1.0.nth ≡ next c.process - 1 = (let e : w.1.0.nth + 1 ≡ b.next_nth c.process = w.1.2.nth in let f = nexts c.process in omega arith) in
        let named : w.1.0 ≡ d = its_name w.1.0 c.process (next c.process - 1) w.1.2.own number ∙ ap (λ (y : ℕ × I). record { process = c.process; nth = next c.process - 1; inv = y.1 }) (sym w.1.1) in
        let waits : Waiting c.process b d = subst (λ y. Waiting c.process b y) named w.1.2 in
        let b' : Atomic S I = record b { agreed = b.agreed ++ d ∷ [] } in
        let ok : Accepts (objects x) b (Linearize d) b' = (waits.is_open, absent (objects x) b c.process d waits, refl) in
        let next_state : state_of whole h.0 x ≡ (objects x).next (state_of whole a x) c.inv.1
        = ap (λ (s : ℕ → S). s x) (point_state whole a h.0 c h.1) ∙ ap (λ y. set_at (state_of whole a) y ((objects y).next (state_of whole a y) c.inv.1) x) same.0 ∙ set_at_here (state_of whole a) x _ in
        let response : response_at whole h.0.start (invs whole h.0.agreed) (length a.agreed) ≡ Some (x, (objects x).answer (state_of (objects x) b) c.inv.1)
        = point_response whole a h.0 c h.1 ∙ ap (λ y. Some (y, (objects y).answer (state_of whole a y) c.inv.1)) same.0 ∙ ap (λ s. Some (x, (objects x).answer s c.inv.1)) state in
        let own : Shows c.process h.0 b' = Did c d (length a.agreed) (length b.agreed) ((objects x).answer (state_of (objects x) b) c.inv.1) (point_own whole a h.0 c.process c h.1 w.0) response same.0
        (point_own (objects x) b b' c.process d ok waits) (point_response (objects x) b b' d ok) in
        add next b b' (Linearize d) (projected next acts) ok
        (runs acts h.0 z b' next h.2 (λ q. stands whole q a h.0 (Linearize c ∷ []) (h.0, h.1, refl) (sits q)) nexts
        (next_state ∙ ap (λ s. (objects x).next s c.inv.1) state ∙ sym (point_state (objects x) b b' d ok))
        (λ q. elim (number_cases q c.process) [
          | inl e ↦ subst (λ r. Shows r h.0 b') (sym e.0) own
          | inr e ↦ shows_moved q a h.0 b b' (ap (λ (y : Atomic (ℕ → S) (ℕ × I)). y.open_call q) h.1.2) (keeps_point whole q a h.0 c h.1 e.0) (keeps_point (objects x) q b b' d ok e.0) (shows q)
        ])))
    | inr other ↦ rw other.1 (
        runs acts h.0 z b next h.2 (λ q. stands whole q a h.0 (Linearize c ∷ []) (h.0, h.1, refl) (sits q)) nexts
        (ap (λ (s : ℕ → S). s x) (point_state whole a h.0 c h.1) ∙ set_at_elsewhere (state_of whole a) c.inv.0 _ x (λ e. other.0 (sym e)) ∙ state)
        (λ q. elim (number_cases q c.process) [
          | inl e ↦ subst (λ r. Shows r h.0 b) (sym e.0) (point_elsewhere a h.0 b c h.1 other.0 (shows c.process))
          | inr e ↦ shows_moved q a h.0 b b (ap (λ (y : Atomic (ℕ → S) (ℕ × I)). y.open_call q) h.1.2) (keeps_point whole q a h.0 c h.1 e.0) (keeps_same (objects x) q b) (shows q)
        ]))
  ]
  runs (Respond p k resp ∷ acts) a z b next h sits nexts state shows = elim (number_cases resp.0 x) [
    | inl same ↦ rw same.1 (
        let w = respond_did a h.0 b p k resp h.1 same.0 (shows p) in
        let number : w.0.nth ≡ next p - 1 = (let e : w.0.nth + 1 ≡ b.next_nth p = w.2.nth in let f = nexts p in omega arith) in
        let named : w.0 ≡ record { process = p; nth = next p - 1; inv = w.0.inv } = its_name w.0 p (next p - 1) w.2.own number in
        let b' : Atomic S I = record b { open_call = set_at b.open_call p None } in
        let ok : Accepts (objects x) b (Respond p (next p - 1) resp.1) b' = ((w.0.inv, w.1, w.2.is_open ∙ ap Some named, w.2.at ∙ ap Some named, w.3), refl) in
        add next b b' (Respond p (next p - 1) resp.1) (projected next acts) ok
        (runs acts h.0 z b' next h.2 (λ q. stands whole q a h.0 (Respond p k resp ∷ []) (h.0, h.1, refl) (sits q)) nexts
        (ap (λ (y : Atomic (ℕ → S) (ℕ × I)). state_of whole y x) h.1.1 ∙ state)
        (λ q. elim (number_cases q p) [
          | inl e ↦ subst (λ r. Shows r h.0 b') (sym e.0) (Quiet (closed a h.0 b p k resp h.1) (respond_own (objects x) b b' p (next p - 1) resp.1 w.0 w.1 ok w.2))
          | inr e ↦ shows_moved q a h.0 b b' (ap (λ (y : Atomic (ℕ → S) (ℕ × I)). y.open_call q) h.1.1 ∙ set_at_elsewhere a.open_call p _ q e.0) (keeps_respond whole q a h.0 p k resp h.1 e.0) (keeps_respond (objects x) q b b' p (next p - 1) resp.1 ok e.0) (shows q)
        ])))
    | inr other ↦ rw other.1 (
        runs acts h.0 z b next h.2 (λ q. stands whole q a h.0 (Respond p k resp ∷ []) (h.0, h.1, refl) (sits q)) nexts
        (ap (λ (y : Atomic (ℕ → S) (ℕ × I)). state_of whole y x) h.1.1 ∙ state)
        (λ q. elim (number_cases q p) [
          | inl e ↦ subst (λ r. Shows r h.0 b) (sym e.0) (respond_elsewhere a h.0 b p k resp h.1 other.0 (shows p))
          | inr e ↦ shows_moved q a h.0 b b (ap (λ (y : Atomic (ℕ → S) (ℕ × I)). y.open_call q) h.1.1 ∙ set_at_elsewhere a.open_call p _ q e.0) (keeps_respond whole q a h.0 p k resp h.1 e.0) (keeps_same (objects x) q b) (shows q)
        ]))
  ]

  pub project : (start : ℕ → S) (history : History) → IsLinearizableHistory whole start history → IsLinearizableHistory (objects x) (start x) (of_object x (λ p. 0) history)
  project start history linearizable =
      let its = linearizable.1 in
      let run = runs its.0 (at_start start) its.1 (at_start (start x)) (λ p. 0) its.3 (λ p. at_opening whole p start) (λ p. refl) refl
      (λ p. Quiet refl (record { is_open = refl; below = λ j d at own. absurd (let e : None ≡ Some d = at in cc) })) in
      (run.0.agreed, (projected (λ p. 0) its.0, run.0, seen (λ p. 0) its.0 ∙ ap (of_object x (λ p. 0)) its.2, run.1, refl))

pub IsLocal-holds : {S I R : Type 0} (objects : ℕ → Sequential S I R) (start : ℕ → S) (history : List (Act (ℕ × I) (ℕ × R))) → IsLocal objects start history
IsLocal-holds objects start history well = (merged objects start history well, λ linearizable x. project objects x start history linearizable)
