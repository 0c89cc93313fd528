-- The write of a block.
use Rattle.uni_any.proofs.Vocabulary.{AllowsWrite, Board, Contents, HasDrafted, HasLaid, Image, IsAnnounced, IsAt, IsLaying, IsShown, IsStageAt, IsTrying, IsWhole, Letter, Local, Reading, Sequential, ShowsBoard, Some, Told, View, Writing, announced_at, announced_by, ap, arith, base_of, begun, block_news, called_by, drafted, get_elem?, goes, in_of, inl, inr, local_of, lt_cases, made_by, pending_of, posted, posted_at, refl, slice_set, some, subst, sym, told_by, with_local, with_value, word_of, ℕ, ◌+◌, ◌<◌, ◌∙◌, ◌≡◌, ◌≢◌, Moves, ShowsNext, append-nil, with_letter, []}
use Rattle.uni_any.proofs.Drafting.{draft_is, draft_whole}
use Rattle.uni_any.proofs.Framing.{keeps_rule, buffers_written, mine, object_is, own, shown_with, sound_with}
use Rattle.uni_any.specs.Execution.Next.{Lay}
use Rattle.uni_any.specs.Plays.{IsLayingAt}
use Rattle.uni_any.proofs.Histories.{history_kept}
use Rattle.uni_any.proofs.Orders.{order_kept}
use Rattle.uni_any.proofs.Posting.{keeps_same}
use Rattle.uni_any.proofs.Staying.{board_stays, drafted_same, later, others_stay, reader_stays}

module _ {O I S R : Type 0} (meaning : O → Sequential S I R) (o : O) (n id : ℕ) (v : View O I S R) (alone : v.known.count ≡ 1) (processes : v.known.processes ≡ n) (inv : I) (tries : ℕ) (image : Image S R) (r : ℕ) (r_in : r < n)
    (laying : IsLaying meaning inv tries image r v) (x : Letter I S R) (news : told_by x ≡ block_news (local_of v) inv image) where
  abbrev l : Local I S R
  l = local_of v

  abbrev p : ℕ
  p = v.known.first

  abbrev l' : Local I S R
  l' = record l { stage = Writing inv tries image (r + 1) }

  posted_here : told_by x ≡ posted l' r
  posted_here = news ∙ sym (elim (lt_cases r (r + 1)) [ inl e ↦ rw e.1 refl | inr e ↦ absurd (let a = e.0 in omega arith) ])

  posted_else : (q : ℕ) → q ≢ r → posted l' q ≡ posted l q
  posted_else q apart = elim laying [
    | inl first ↦ elim (lt_cases q (r + 1)) [
      | inl e ↦ absurd (let a = e.0 in let z = first.0 in omega (arith, apart))
      | inr e ↦ rw e.1 (ap (λ s. posted_at l s q) (sym first.1))
    ]
    | inr on ↦ elim (lt_cases q (r + 1)) [
      | inl e ↦ elim (lt_cases q r) [
        | inl d ↦ rw e.1 (sym (ap (λ s. posted_at l s q) on ∙ rw d.1 refl))
        | inr d ↦ absurd (let a = e.0 in let b = d.0 in omega (arith, apart))
      ]
      | inr e ↦ elim (lt_cases q r) [
        | inl d ↦ absurd (let a = e.0 in let b = d.0 in omega arith)
        | inr d ↦ rw e.1 (sym (ap (λ s. posted_at l s q) on ∙ rw d.1 refl))
      ]
    ]
  ]

  pending_is : pending_of l.stage ≡ Some inv
  pending_is = elim laying [ inl first ↦ ap pending_of first.1 | inr on ↦ ap pending_of on ]

  announced_was : announced_by n l ≡ made_by l + 1
  announced_was = elim laying [ inl first ↦ ap (announced_at n (made_by l)) first.1 | inr on ↦ ap (announced_at n (made_by l)) on ]

  told_play : HasLaid meaning v r x (goes v (Writing inv tries image (r + 1)))
  told_play inv' tries' image' laying' news' =
      let same_inv : Some inv ≡ Some inv' = ap (λ (t : Told I S R). t.inv) (sym news ∙ news') in
      let e0 : inv ≡ inv' = cc in
      let e2 : image ≡ image' = ap (λ (t : Told I S R). t.next.image) (sym news ∙ news') in
      let e1 : tries ≡ tries' = by laying laying' in
      (λ k. goes v (Writing (e0 k) (e1 k) (e2 k) (r + 1))) where
        by : IsLaying meaning inv tries image r v → IsLaying meaning inv' tries' image' r v → tries ≡ tries'
        by (inl a) (inl b) = let e : Reading inv tries v.known.processes ≡ Reading inv' tries' v.known.processes = sym a.1 ∙ b.1 in cc
        by (inl a) (inr b) = absurd (let e : Reading inv tries v.known.processes ≡ Writing inv' tries' image' r = sym a.1 ∙ b in cc)
        by (inr a) (inl b) = absurd (let e : Writing inv tries image r ≡ Reading inv' tries' v.known.processes = sym a ∙ b.1 in cc)
        by (inr a) (inr b) = let e : Writing inv tries image r ≡ Writing inv' tries' image' r = sym a ∙ b in cc

  module _ (c : Contents (Letter I S R) (View O I S R)) (g : Board I S R) (local : ℕ → Local I S R) (seat_of : ℕ → ℕ) (is : IsShown n meaning o g local seat_of c) (at : get_elem? c.views id ≡ some v) where
    abbrev object : Sequential S I R
    object = meaning o

    p_in : p < n
    p_in = (own meaning o n id v alone c g local seat_of is at).0

    local_is : local p ≡ l
    local_is = (own meaning o n id v alone c g local seat_of is at).2

    its : IsAt object n g local p l
    its = mine meaning o n id v alone c g local seat_of is at

    facts : IsAnnounced object n g local p l inv × IsTrying object n g local p l tries × IsWhole n image × (l.word ≡ word_of g.number g.process → HasDrafted object n g local p image)
    facts = elim laying [
      | inl first ↦
          let at_read : IsStageAt object n g local p l (Reading inv tries n) = subst (IsStageAt object n g local p l) (first.1 ∙ ap (Reading inv tries) processes) its.stage in
          let image_is : drafted object (base_of object n l).image l.seen ≡ image =
          (λ k. drafted (meaning (sym (object_is meaning o n id v alone c g local seat_of is at) k)) (base_of (meaning (sym (object_is meaning o n id v alone c g local seat_of is at) k)) (sym processes k) l).image l.seen) ∙ sym first.2 in (
            at_read.0,
            at_read.1,
            subst (IsWhole n) image_is (draft_whole object n g local is.sound p l its.reader at_read.2 local_is),
            (λ fresh. subst (HasDrafted object n g local p) image_is (draft_is object n g local is.sound p l its.reader at_read.2 local_is fresh)),
          )
      | inr on ↦ (let h : IsStageAt object n g local p l (Writing inv tries image r) = subst (IsStageAt object n g local p l) on its.stage in (h.0, h.1, h.3, h.4))
    ]

    shows : ShowsNext meaning o n g local seat_of (record { words = c.words; buffers = with_value c.buffers p r (Some x); views = slice_set c.views id (with_local v l') }) p l' []
    shows =
        let f = facts in
        let pend : pending_of l'.stage ≡ pending_of l.stage = sym pending_is in
        let keeps = keeps_same l l' refl pend in
        let called : called_by l' ≡ called_by l = (λ k. begun (made_by l) (pend k)) in
        let announced : announced_by n l' ≡ announced_by n l = sym announced_was in
        let told_on : called_by l ≡ in_of g p + 1 → called_by l' ≡ in_of g p + 1 = (λ e. called ∙ e) in
        let asked_on : (i : I) → in_of g p ≡ made_by l → pending_of l.stage ≡ Some i → (made_by l' ≡ made_by l) × (pending_of l'.stage ≡ Some i) = (λ i e some_was. (refl, pend ∙ some_was)) in
        let since_else : (q : ℕ) → q ≢ p → g.since q ≡ g.since q = (λ q apart. refl) in
        let announced_on : g.since p < g.number → (g.since p ≡ g.since p) × (announced_by n l' ≡ announced_by n l) = (λ before. (refl, announced)) in
        let open' = g.atomic.open_call in
        let next' = g.atomic.next_nth in
        let g' = later object n g local p l l' local_is g.since open' next' g.acts in
        let w = its.writer in
        let rd = reader_stays object n g local p l l' local_is g.since open' next' g.acts since_else announced_on (omega arith) keeps told_on asked_on l its.reader in
        shown_with meaning o n id v alone c g local seat_of is at l' g' [] (sym (append-nil g.acts)) c.words (with_value c.buffers p r (Some x)) is.word (buffers_written meaning o n id v alone c g local seat_of is at l' refl r x posted_here posted_else)
        (sound_with object n g g' local p l' is.sound
        (board_stays object n g local p l l' local_is g.since open' next' g.acts since_else announced_on (omega arith) keeps told_on asked_on (omega (arith, called)) (is.sound.board.past p p_in) is.sound.board)
        (λ q q_in apart h. others_stay object n g local p l l' local_is g.since open' next' g.acts since_else announced_on (omega arith) keeps told_on asked_on q apart h)
        (record {
          stage = (
            (record { few = f.0.0.few; least = f.0.0.least; most = f.0.0.most }, f.0.1),
            record { later = f.1.later; least = f.1.least; soon = f.1.soon },
            omega (arith, r_in),
            f.2,
            (λ fresh. drafted_same object n g local p l l' local_is g.since open' next' g.acts since_else announced_on (omega arith) keeps told_on asked_on announced refl refl p image (f.3 fresh)),
          );
          writer = record {
            last = w.last;
            present = w.present;
            written = w.written;
            called = (let a = w.called in omega (arith, called));
            inv = λ e. w.inv e ∙ sym pend;
            made = w.made;
          };
          reader = record { long = rd.long; process = rd.process; known = rd.known; old = rd.old; called = rd.called; inv = rd.inv };
        })
        (history_kept object n g local p l l' local_is g.since is.sound.history p_in refl pend)
        (order_kept object n g local p l l' local_is g.since open' next' g.acts is.sound.order p_in refl refl))

  pub lays_move : Moves meaning o n id v (with_letter p r (Some x) id) (λ g local c w acts. acts ≡ []) (λ c w. HasLaid meaning v r x w)
  lays_move c g local seat_of is at = (
    with_local v l',
    [],
    shows c g local seat_of is at,
    refl,
    told_play,
    (Lay inv tries r image x (subst (λ k. IsLayingAt (meaning o) k inv tries image r l) processes (subst (λ u. IsLayingAt (meaning u) v.known.processes inv tries image r l) (object_is meaning o n id v alone c g local seat_of is at) laying)) r_in news, refl),
  )

  pub lays : AllowsWrite (ShowsBoard meaning o n) id v p r x (HasLaid meaning v r x)
  lays c shown at = keeps_rule meaning o n id v alone (with_letter p r (Some x) id) _ _ lays_move c shown at
