-- The write of an invocation.
use Rattle.uni_any.proofs.Vocabulary.{IsStep, moment_of, AllowsWrite, Board, Contents, HasPosted, Idle, IsAt, IsOpen, IsPosting, IsShown, IsStageAt, Letter, Local, None, Posting, Sequential, ShowsBoard, Some, Told, View, announced_by, ap, arith, begun, call_news, called_by, get_elem?, goes, if◌then◌else◌, in_of, inl, inr, local_of, lt_cases, made_by, most_calls, nat_eq, number_cases, pending_of, posted, refl, set_at, set_at_elsewhere, set_at_same, slice_set, some, stage_of, subst, sym, told_by, with_local, with_value, ℕ, ◌+◌, ◌<◌, ◌∙◌, ◌≡◌, ◌≢◌, ◌≤◌, ◌⊎◌, Act, Invoke, List, Moves, ShowsNext, append-nil, with_letter, [], ◌∷◌}
use Rattle.uni_any.proofs.Framing.{keeps_rule, buffers_written, mine, own, shown_with, sound_with}
use Rattle.uni_any.specs.Execution.{Moment, Next}
use Rattle.uni_any.specs.Execution.Next.{Post}
use Rattle.uni_any.proofs.Histories.{acts_with, history_begun, history_kept, next_with, open_with}
use Rattle.uni_any.proofs.Orders.{order_kept}
use Rattle.uni_any.proofs.Staying.{KeepsCalls, board_stays, later, locals, others_stay, reader_stays}

-- a process that has called no other call is known as it was
pub keeps_same : {I S R : Type 0} (l l' : Local I S R) → made_by l' ≡ made_by l → pending_of l'.stage ≡ pending_of l.stage → KeepsCalls l l'
keeps_same l l' made pending t most inv = (
  subst (λ k. t.call ≤ k) ((λ k. begun (sym made k) (sym pending k))) most,
  (λ same. inv (same ∙ ap (λ k. k + 1) made) ∙ sym pending),
)

-- one that has called its next one
pub keeps_next : {I S R : Type 0} (l l' : Local I S R) → pending_of l.stage ≡ None → made_by l' ≡ made_by l → called_by l' ≡ made_by l + 1 → KeepsCalls l l'
keeps_next l l' none made called t most inv =
    let few : t.call ≤ made_by l = subst (λ o. t.call ≤ begun (made_by l) o) none most in (
      (let c = called in omega (arith, few)),
      (λ same. absurd (let m = made in omega (arith, few, same))),
    )

module _ {O I S R : Type 0} (meaning : O → Sequential S I R) (o : O) (n id : ℕ) (v : View O I S R) (alone : v.known.count ≡ 1) (inv : I) (r : ℕ) (r_in : r < n) (posting : IsPosting inv r v) (few : made_by (local_of v) < most_calls) (x : Letter I S R)
    (news : told_by x ≡ call_news (local_of v) inv) where
  abbrev l : Local I S R
  l = local_of v

  abbrev p : ℕ
  p = v.known.first

  abbrev l' : Local I S R
  l' = record l { stage = Posting inv (r + 1) }

  abbrev since_p : Board I S R → ℕ
  since_p g = if nat_eq (r + 1) n then g.number else g.since p

  abbrev since' : Board I S R → ℕ → ℕ
  since' g = set_at g.since p (since_p g)

  module _ (g : Board I S R) where
    since_cases : ((r + 1 ≡ n) × (since_p g ≡ g.number)) ⊎ ((r + 1 ≢ n) × (since_p g ≡ g.since p))
    since_cases = elim (number_cases (r + 1) n) [ inl e ↦ inl (e.0, rw e.1 refl) | inr e ↦ inr (e.0, rw e.1 refl) ]

  not_yet : r + 1 ≢ n → announced_by n l' ≡ made_by l
  not_yet apart = elim (number_cases (r + 1) n) [ inl e ↦ absurd (apart e.0) | inr e ↦ rw e.1 refl ]

  announced_before : (stage : _) → stage ≡ l.stage → ((r ≡ 0) × (stage ≡ Idle)) ⊎ (stage ≡ Posting inv r) → announced_by n (record l { stage = stage }) ≡ made_by l
  announced_before stage same (inl idle) = subst (λ s. announced_by n (record l { stage = s }) ≡ made_by l) (sym idle.1) refl
  announced_before stage same (inr posts) = subst (λ s. announced_by n (record l { stage = s }) ≡ made_by l) (sym posts) (elim (number_cases r n) [ inl e ↦ absurd (omega (arith, e.0, r_in)) | inr e ↦ rw e.1 refl ])

  announced_was : announced_by n l ≡ made_by l
  announced_was = announced_before l.stage refl posting

  posted_here : told_by x ≡ posted l' r
  posted_here = news ∙ sym (elim (lt_cases r (r + 1)) [ inl e ↦ rw e.1 refl | inr e ↦ absurd (let a = e.0 in omega arith) ])

  posted_else : (q : ℕ) → q ≢ r → posted l' q ≡ posted l q
  posted_else q apart = elim posting [
    | inl idle ↦ elim (lt_cases q (r + 1)) [
      | inl e ↦ absurd (let a = e.0 in let z = idle.0 in omega (arith, apart))
      | inr e ↦ rw e.1 (ap (λ s. posted (record l { stage = s }) q) (sym idle.1))
    ]
    | inr posts ↦ elim (lt_cases q (r + 1)) [
      | inl e ↦ elim (lt_cases q r) [
        | inl d ↦ rw e.1 (sym (ap (λ s. posted (record l { stage = s }) q) posts ∙ rw d.1 refl))
        | inr d ↦ absurd (let a = e.0 in let b = d.0 in omega (arith, apart))
      ]
      | inr e ↦ elim (lt_cases q r) [
        | inl d ↦ absurd (let a = e.0 in let b = d.0 in omega arith)
        | inr d ↦ rw e.1 (sym (ap (λ s. posted (record l { stage = s }) q) posts ∙ rw d.1 refl))
      ]
    ]
  ]

  told_play : HasPosted v r x (goes v (Posting inv (r + 1)))
  told_play inv' posting' news' = (λ k. goes v (Posting (same k) (r + 1))) where
    same : inv ≡ inv'
    same = let e : Some inv ≡ Some inv' = ap (λ (t : Told I S R). t.inv) (sym news ∙ news') in cc

  module _ (c : Contents (Letter I S R) (View O I S R)) (g : Board I S R) (local : ℕ → Local I S R) (seat_of : ℕ → ℕ) (is : IsShown n meaning o g local seat_of c) (at : get_elem? c.views id ≡ some v) where
    p_in : p < n
    p_in = (own meaning o n id v alone c g local seat_of is at).0

    local_is : local p ≡ l
    local_is = (own meaning o n id v alone c g local seat_of is at).2

    its : IsAt (meaning o) n g local p l
    its = mine meaning o n id v alone c g local seat_of is at

    since_else : (q : ℕ) → q ≢ p → since' g q ≡ g.since q
    since_else q apart = set_at_elsewhere g.since p (since_p g) q apart

    announced_on : since' g p < g.number → (since' g p ≡ g.since p) × (announced_by n l' ≡ announced_by n l)
    announced_on before =
        let here : since' g p ≡ since_p g = set_at_same g.since p (since_p g) in
        elim (since_cases g) [
          | inl last ↦ absurd (let a = last.1 in omega (arith, before, here))
          | inr more ↦ (here ∙ more.1, not_yet more.0 ∙ sym announced_was)
        ]

    past : since' g p ≤ g.number
    past = let here : since' g p ≡ since_p g = set_at_same g.since p (since_p g) in let b = is.sound.board.past p p_in in
        elim (since_cases g) [ inl last ↦ (let a = last.1 in omega arith) | inr more ↦ (let a = more.1 in omega arith) ]

    -- the first one: the call begins
    begins : r ≡ 0 → stage_of v ≡ Idle → ShowsNext meaning o n g local seat_of (record { words = c.words; buffers = with_value c.buffers p r (Some x); views = slice_set c.views id (with_local v l') }) p l' (Invoke p (made_by l) inv ∷ [])
    begins zero idle =
        let object = meaning o in
        let idle_at : (in_of g p ≡ made_by l) × (made_by l ≤ most_calls) = subst (IsStageAt object n g local p l) idle its.stage in
        let none_was : pending_of l.stage ≡ None = ap pending_of idle in
        let called_was : called_by l ≡ made_by l = ap (λ q. begun (made_by l) q) none_was in
        let open' = open_with object n g local p l l' local_is (since' g) is.sound.history p_in inv none_was idle_at.0 is.sound.board in
        let next' = next_with object n g local p l l' local_is (since' g) is.sound.history p_in inv none_was idle_at.0 is.sound.board in
        let acts' = acts_with object n g local p l l' local_is (since' g) is.sound.history p_in inv none_was idle_at.0 is.sound.board in
        let keeps = keeps_next l l' none_was refl refl in
        let told_on : called_by l ≡ in_of g p + 1 → called_by l' ≡ in_of g p + 1 = (λ e. absurd (let a = idle_at.0 in omega (arith, e, called_was))) in
        let asked_on : (i : I) → in_of g p ≡ made_by l → pending_of l.stage ≡ Some i → (made_by l' ≡ made_by l) × (pending_of l'.stage ≡ Some i) = (λ i e some_was. absurd (let z : None ≡ Some i = sym none_was ∙ some_was in cc)) in
        let g' = later object n g local p l l' local_is (since' g) open' next' acts' in
        let local' = locals object n g local p l l' local_is (since' g) open' next' acts' in
        let w = its.writer in
        let rd = reader_stays object n g local p l l' local_is (since' g) open' next' acts' since_else announced_on (omega arith) keeps told_on asked_on l its.reader in
        shown_with meaning o n id v alone c g local seat_of is at l' g' (Invoke p (made_by l) inv ∷ []) refl c.words (with_value c.buffers p r (Some x)) is.word (buffers_written meaning o n id v alone c g local seat_of is at l' refl r x posted_here posted_else)
        (sound_with object n g g' local p l' is.sound
        (board_stays object n g local p l l' local_is (since' g) open' next' acts' since_else announced_on (omega arith) keeps told_on asked_on (omega (arith, called_was)) past is.sound.board)
        (λ q q_in apart h. others_stay object n g local p l l' local_is (since' g) open' next' acts' since_else announced_on (omega arith) keeps told_on asked_on q apart h)
        (record {
          stage = (record { few = few; least = (let a = idle_at.0 in omega arith); most = (let a = idle_at.0 in omega arith) }, (omega arith), (omega (arith, r_in)));
          writer = record {
            last = w.last;
            present = w.present;
            written = w.written;
            called = (let a = w.called in omega (arith, called_was));
            inv = λ e. absurd (let a = w.called in omega (arith, called_was, e));
            made = w.made;
          };
          reader = record { long = rd.long; process = rd.process; known = rd.known; old = rd.old; called = rd.called; inv = rd.inv };
        })
        (history_begun object n g local p l l' local_is (since' g) is.sound.history p_in inv none_was idle_at.0 is.sound.board refl refl)
        (order_kept object n g local p l l' local_is (since' g) open' next' acts' is.sound.order p_in refl refl))

    -- a further one
    goes_on : stage_of v ≡ Posting inv r → ShowsNext meaning o n g local seat_of (record { words = c.words; buffers = with_value c.buffers p r (Some x); views = slice_set c.views id (with_local v l') }) p l' []
    goes_on on =
        let object = meaning o in
        let at_post : IsOpen object n g local p l inv × (1 ≤ r) × (r ≤ n) = subst (IsStageAt object n g local p l) on its.stage in
        let pending : pending_of l'.stage ≡ pending_of l.stage = sym (ap pending_of on) in
        let keeps = keeps_same l l' refl pending in
        let called : called_by l' ≡ called_by l = (λ k. begun (made_by l) (pending k)) in
        let told_on : called_by l ≡ in_of g p + 1 → called_by l' ≡ in_of g p + 1 = (λ e. called ∙ e) in
        let asked_on : (i : I) → in_of g p ≡ made_by l → pending_of l.stage ≡ Some i → (made_by l' ≡ made_by l) × (pending_of l'.stage ≡ Some i) = (λ i e some_was. (refl, pending ∙ some_was)) in
        let open' = g.atomic.open_call in
        let next' = g.atomic.next_nth in
        let g' = later object n g local p l l' local_is (since' g) open' next' g.acts in
        let w = its.writer in
        let rd = reader_stays object n g local p l l' local_is (since' g) open' next' g.acts since_else announced_on (omega arith) keeps told_on asked_on l its.reader in
        shown_with meaning o n id v alone c g local seat_of is at l' g' [] (sym (append-nil g.acts)) c.words (with_value c.buffers p r (Some x)) is.word (buffers_written meaning o n id v alone c g local seat_of is at l' refl r x posted_here posted_else)
        (sound_with object n g g' local p l' is.sound
        (board_stays object n g local p l l' local_is (since' g) open' next' g.acts since_else announced_on (omega arith) keeps told_on asked_on (omega (arith, called)) past is.sound.board)
        (λ q q_in apart h. others_stay object n g local p l l' local_is (since' g) open' next' g.acts since_else announced_on (omega arith) keeps told_on asked_on q apart h)
        (record {
          stage = (record { few = few; least = at_post.0.least; most = at_post.0.most }, (omega arith), (omega (arith, r_in)));
          writer = record {
            last = w.last;
            present = w.present;
            written = w.written;
            called = (let a = w.called in omega (arith, called));
            inv = λ e. w.inv e ∙ sym pending;
            made = w.made;
          };
          reader = record { long = rd.long; process = rd.process; known = rd.known; old = rd.old; called = rd.called; inv = rd.inv };
        })
        (history_kept object n g local p l l' local_is (since' g) is.sound.history p_in refl pending)
        (order_kept object n g local p l l' local_is (since' g) open' next' g.acts is.sound.order p_in refl refl))

  -- the acts of it
  abbrev pub MakesPost : List (Act I R) → Type 0
  MakesPost acts = (r ≡ 0 → acts ≡ Invoke p (made_by l) inv ∷ []) × (r ≢ 0 → acts ≡ [])

  -- the step of an execution
  abbrev step_from : (m : Moment I S R) → Next (meaning o) n m p l
  step_from m = Post inv r x posting r_in few news

  step_is : (c : Contents (Letter I S R) (View O I S R)) (local : ℕ → Local I S R) (acts : List (Act I R)) → (if nat_eq r 0 then Invoke p (made_by l) inv ∷ [] else []) ≡ acts
      → IsStep (meaning o) n (moment_of c local) p l (record { word = c.words 0; buffers = with_value c.buffers p r (Some x); leaves = l'; acts = acts })
  step_is c local acts same = (step_from (moment_of c local), (λ k. record { word = c.words 0; buffers = with_value c.buffers p r (Some x); leaves = l'; acts = same k }))

  pub posts_move : Moves meaning o n id v (with_letter p r (Some x) id) (λ g local c w acts. MakesPost acts) (λ c w. HasPosted v r x w)
  posts_move c g local seat_of is at = elim posting [
    | inl idle ↦ (
      with_local v l',
      Invoke p (made_by l) inv ∷ [],
      begins c g local seat_of is at idle.0 idle.1,
      ((λ e. refl), (λ no. absurd (no idle.0))),
      told_play,
      step_is c local (Invoke p (made_by l) inv ∷ []) (elim (number_cases r 0) [ inl e ↦ rw e.1 refl | inr e ↦ absurd (e.0 idle.0) ]),
    )
    | inr on ↦
        let at_post : IsOpen (meaning o) n g local p l inv × (1 ≤ r) × (r ≤ n) = subst (IsStageAt (meaning o) n g local p l) on (its c g local seat_of is at).stage in (
          with_local v l',
          [],
          goes_on c g local seat_of is at on,
          ((λ e. absurd (let a = at_post.1 in omega (arith, e))), (λ no. refl)),
          told_play,
          step_is c local [] (elim (number_cases r 0) [ inl e ↦ absurd (let a = at_post.1 in let b = e.0 in omega arith) | inr e ↦ rw e.1 refl ]),
        )
  ]

  pub posts : AllowsWrite (ShowsBoard meaning o n) id v p r x (HasPosted v r x)
  posts c shown at = keeps_rule meaning o n id v alone (with_letter p r (Some x) id) _ _ posts_move c shown at
