-- The load of S with which an attempt begins.
use Rattle.uni_any.proofs.Vocabulary.{AllowsChange, AreOrdered, Board, Contents, HasCome, HasLast, HasStarted, Idle, Image, IsAt, IsHistory, IsOpen, IsPending, IsShown, IsSound, IsStageAt, IsWriter, Letter, Local, Posting, Reading, Ready, Sequential, ShowsBoard, Some, Stage, Told, Version, View, Writing, announced_at, announced_by, ap, applied_in, arith, begun, call_news, called_by, first_image, get_elem?, image_from, in_of, inl, inr, length, local_of, lt_cases, made_by, most_calls, number_cases, number_in, pending_of, posted, posted_at, process_in, refl, set_at, set_at-cases, set_at_same, slice_set, some, started, subst, sym, take, with_local, word_of, written_then, ℕ, ◌*◌, ◌+◌, ◌<◌, ◌∙◌, ◌≡◌, ◌≢◌, ◌≤◌, Moves, ShowsNext, append-nil, with_word, []}
use Rattle.std.proofs.lemmas.List.{take_all}
use Rattle.uni_any.proofs.Framing.{keeps_rule, buffers_same, mine, own, shown_with, sound_with}
use Rattle.uni_any.specs.Execution.Next.{Start}
use Rattle.uni_any.specs.Plays.{IsPendingAt}
use Rattle.uni_any.proofs.Histories.{history_kept}
use Rattle.uni_any.proofs.Orders.{order_kept}
use Rattle.uni_any.proofs.Posting.{keeps_same}
use Rattle.uni_any.proofs.Staying.{board_stays, later, locals, others_stay, reader_stays}
use Rattle.uni_any.proofs.Sums.{rows_most}

-- a version that has come, of the present number, is the present one
pub present_image : {S I R : Type 0} (object : Sequential S I R) (n : ℕ) (g : Board I S R) (local : ℕ → Local I S R) → IsHistory object n g local → AreOrdered object n g local → (x : Version S R) → HasCome object n g x → g.number ≤ x.number → x.image ≡ g.image
present_image object n g local history order x come late =
    let all : g.calls_in x.number ≡ length g.atomic.agreed = order.counted x.number late in
    come.1 ∙ ap (λ k. image_from object (first_image object n) (take k g.atomic.agreed)) all ∙ ap (image_from object (first_image object n)) (take_all (length g.atomic.agreed) g.atomic.agreed (omega arith)) ∙ history.image

-- a process calls no more than it may
pub called_few : {S I R : Type 0} (object : Sequential S I R) (n : ℕ) (g : Board I S R) (local : ℕ → Local I S R) (p : ℕ) (l : Local I S R) (stage : Stage I S R) → IsStageAt object n g local p l stage → begun (made_by l) (pending_of stage) ≤ most_calls
called_few object n g local p l Idle h = h.1
called_few object n g local p l (Posting inv count) h = (let f = h.0.few in omega arith)
called_few object n g local p l (Ready inv tries) h = (let f = h.0.0.few in omega arith)
called_few object n g local p l (Reading inv tries count) h = (let f = h.0.0.few in omega arith)
called_few object n g local p l (Writing inv tries image count) h = (let f = h.0.0.few in omega arith)

-- so versions have a bound
pub versions_few : {S I R : Type 0} (object : Sequential S I R) (n : ℕ) (g : Board I S R) (local : ℕ → Local I S R) → n ≤ 64 → IsSound object n g local → (come : (x : Version S R) × HasCome object n g x × (x.image ≡ g.image)) → g.number ≤ 64 * most_calls
versions_few object n g local few sound come =
    let long : length g.image.rows ≡ n = ap (λ (z : Image _ _). length z.rows) (sym come.2) ∙ (sound.board.whole come.0 come.1).long in
    let all = rows_most most_calls g.image.rows (λ i below.
    let i_in : i < n = omega (arith, below, long) in
    let a = sound.board.in_most i i_in in
    let b = called_few object n g local i (local i) (local i).stage (sound.each i i_in).stage in
    omega arith) in
    (let v = sound.board.versions in omega (arith, all, long, few))

-- what a load of S finds
module _ {O I S R : Type 0} (meaning : O → Sequential S I R) (o : O) (n : ℕ) (g : Board I S R) (local : ℕ → Local I S R) (seat_of : ℕ → ℕ) (c : Contents (Letter I S R) (View O I S R)) (is : IsShown n meaning o g local seat_of c) where
  pub loaded_number : number_in (c.words 0) ≡ g.number
  loaded_number = (let a = is.word in let b = is.sound.board.process in let d = is.few.1 in let e : number_in (c.words 0) ≡ number_in (word_of g.number g.process) = ap number_in a in omega (arith, b, d, e))

  pub loaded_process : process_in (c.words 0) ≡ g.process
  loaded_process = (let a = is.word in let b = is.sound.board.process in let d = is.few.1 in let e : process_in (c.words 0) ≡ process_in (word_of g.number g.process) = ap process_in a in omega (arith, b, d, e))

  -- its process has brought that version in, whatever one process has learned
  pub loaded_known : (p : ℕ) (l' : Local I S R) → l'.last ≡ (local p).last → number_in (c.words 0) ≤ (set_at local p l' (process_in (c.words 0))).last.number
  loaded_known p l' same =
      let q_in : process_in (c.words 0) < n = (let a = loaded_process in let b = is.sound.board.process in omega arith) in
      let brought_in = (is.sound.each (process_in (c.words 0)) q_in).writer.present (sym loaded_process) in
      let number = loaded_number in
      elim (set_at-cases local p l' (process_in (c.words 0))) [
        | inl here ↦ (let e = ap (λ (z : Local I S R). z.last.number) here.1 in let d = ap (λ (z : Version S R). z.number) same in let f = ap (λ k. (local k).last.number) here.0 in omega (arith, brought_in))
        | inr other ↦ (let e = ap (λ (z : Local I S R). z.last.number) other.1 in omega (arith, brought_in))
      ]

module _ {O I S R : Type 0} (meaning : O → Sequential S I R) (o : O) (n id : ℕ) (v : View O I S R) (alone : v.known.count ≡ 1) (inv : I) (tries : ℕ) (pending : IsPending inv tries v) (processes : v.known.processes ≡ n) where
  abbrev l : Local I S R
  l = local_of v

  abbrev p : ℕ
  p = v.known.first

  same_pending : (inv' : I) (tries' : ℕ) → IsPending inv' tries' v → (inv ≡ inv') × (tries ≡ tries')
  same_pending inv' tries' = by pending where
    by : IsPending inv tries v → IsPending inv' tries' v → (inv ≡ inv') × (tries ≡ tries')
    by (inl x) (inl y) = let e : Ready inv tries ≡ Ready inv' tries' = sym x ∙ y in let a : inv ≡ inv' = cc in let b : tries ≡ tries' = cc in (a, b)
    by (inl x) (inr (z, inl y)) = absurd (let e : Ready inv tries ≡ Posting inv' v.known.processes = sym x ∙ y in cc)
    by (inl x) (inr (z, inr y)) = absurd (let e : Ready inv tries ≡ Reading inv' y.0 y.1 = sym x ∙ y.2 in cc)
    by (inr (z, inl x)) (inl y) = absurd (let e : Posting inv v.known.processes ≡ Ready inv' tries' = sym x ∙ y in cc)
    by (inr (z, inl x)) (inr (w, inl y)) = let e : Posting inv v.known.processes ≡ Posting inv' v.known.processes = sym x ∙ y in let a : inv ≡ inv' = cc in (a, z ∙ sym w)
    by (inr (z, inl x)) (inr (w, inr y)) = absurd (let e : Posting inv v.known.processes ≡ Reading inv' y.0 y.1 = sym x ∙ y.2 in cc)
    by (inr (z, inr x)) (inl y) = absurd (let e : Reading inv x.0 x.1 ≡ Ready inv' tries' = sym x.2 ∙ y in cc)
    by (inr (z, inr x)) (inr (w, inl y)) = absurd (let e : Reading inv x.0 x.1 ≡ Posting inv' v.known.processes = sym x.2 ∙ y in cc)
    by (inr (z, inr x)) (inr (w, inr y)) = let e : Reading inv x.0 x.1 ≡ Reading inv' y.0 y.1 = sym x.2 ∙ y.2 in let a : inv ≡ inv' = cc in (a, z ∙ sym w)

  pending_is : pending_of l.stage ≡ Some inv
  pending_is = by pending where
    by : IsPending inv tries v → pending_of l.stage ≡ Some inv
    by (inl x) = ap pending_of x
    by (inr (z, inl x)) = ap pending_of x
    by (inr (z, inr x)) = ap pending_of x.2

  announced_was : announced_by n l ≡ made_by l + 1
  announced_was = by pending where
    by : IsPending inv tries v → announced_by n l ≡ made_by l + 1
    by (inl x) = ap (announced_at n (made_by l)) x
    by (inr (z, inl x)) = ap (announced_at n (made_by l)) (x ∙ ap (Posting inv) processes) ∙ elim (number_cases n n) [ inl e ↦ rw e.1 refl | inr e ↦ absurd (e.0 refl) ]
    by (inr (z, inr x)) = ap (announced_at n (made_by l)) x.2

  module _ (c : Contents (Letter I S R) (View O I S R)) (g : Board I S R) (local : ℕ → Local I S R) (seat_of : ℕ → ℕ) (is : IsShown n meaning o g local seat_of c) (at : get_elem? c.views id ≡ some v) where
    abbrev object : Sequential S I R
    object = meaning o

    abbrev word : ℕ
    word = c.words 0

    abbrev l' : Local I S R
    l' = started l inv tries word

    p_in : p < n
    p_in = (own meaning o n id v alone c g local seat_of is at).0

    local_is : local p ≡ l
    local_is = (own meaning o n id v alone c g local seat_of is at).2

    its : IsAt object n g local p l
    its = mine meaning o n id v alone c g local seat_of is at

    number_is : number_in word ≡ g.number
    number_is = loaded_number meaning o n g local seat_of c is

    process_is : process_in word ≡ g.process
    process_is = loaded_process meaning o n g local seat_of c is

    -- what it has written for all, and at which version it announced it
    facts : IsOpen object n g local p l inv × ((written_then l l.stage).call ≡ made_by l + 1) × ((written_then l l.stage).inv ≡ Some inv) × HasLast object n g local l (written_then l l.stage)
        × (g.since p + tries ≤ g.number) × ((r : ℕ) → r < n → posted l' r ≡ posted l r)
    facts = by pending where
      w : IsWriter object n g local p l
      w = its.writer

      by : IsPending inv tries v → IsOpen object n g local p l inv × ((written_then l l.stage).call ≡ made_by l + 1) × ((written_then l l.stage).inv ≡ Some inv) × HasLast object n g local l (written_then l l.stage)
          × (g.since p + tries ≤ g.number) × ((r : ℕ) → r < n → posted l' r ≡ posted l r)
      by (inl x) =
          let at_stage : IsStageAt object n g local p l (Ready inv tries) = subst (IsStageAt object n g local p l) x its.stage in
          let same : written_then l l.stage ≡ l.written = ap (written_then l) x in (
            at_stage.0.0,
            ap (λ (t : Told I S R). t.call) same ∙ at_stage.0.1,
            ap (λ (t : Told I S R). t.inv) same ∙ w.inv at_stage.0.1 ∙ pending_is,
            subst (HasLast object n g local l) (sym same) w.written,
            at_stage.1,
            (λ r r_in. same ∙ sym (ap (λ s. posted_at l s r) x)),
          )
      by (inr (z, inl x)) =
          let at_stage : IsStageAt object n g local p l (Posting inv v.known.processes) = subst (IsStageAt object n g local p l) x its.stage in
          let same : written_then l l.stage ≡ call_news l inv = ap (written_then l) x in (
            at_stage.0,
            ap (λ (t : Told I S R). t.call) same,
            ap (λ (t : Told I S R). t.inv) same,
            inl (ap (λ (t : Told I S R). t.last) same),
            (let b = is.sound.board.past p p_in in omega (arith, z)),
            (λ r r_in. same ∙ sym (ap (λ s. posted_at l s r) (x ∙ ap (Posting inv) processes) ∙ elim (lt_cases r n) [ inl e ↦ rw e.1 refl | inr e ↦ absurd (let a = e.0 in omega (arith, r_in)) ])),
          )
      by (inr (z, inr x)) =
          let at_stage : IsStageAt object n g local p l (Reading inv x.0 x.1) = subst (IsStageAt object n g local p l) x.2 its.stage in
          let same : written_then l l.stage ≡ l.written = ap (written_then l) x.2 in (
            at_stage.0.0,
            ap (λ (t : Told I S R). t.call) same ∙ at_stage.0.1,
            ap (λ (t : Told I S R). t.inv) same ∙ w.inv at_stage.0.1 ∙ pending_is,
            subst (HasLast object n g local l) (sym same) w.written,
            (let b = is.sound.board.past p p_in in omega (arith, z)),
            (λ r r_in. same ∙ sym (ap (λ s. posted_at l s r) x.2)),
          )

    shows : ShowsNext meaning o n g local seat_of (record { words = set_at c.words 0 word; buffers = c.buffers; views = slice_set c.views id (with_local v l') }) p l' []
    shows =
        let pend : pending_of l'.stage ≡ pending_of l.stage = sym pending_is in
        let keeps = keeps_same l l' refl pend in
        let called : called_by l' ≡ called_by l = (λ k. begun (made_by l) (pend k)) in
        let told_on : called_by l ≡ in_of g p + 1 → called_by l' ≡ in_of g p + 1 = (λ e. called ∙ e) in
        let asked_on : (i : I) → in_of g p ≡ made_by l → pending_of l.stage ≡ Some i → (made_by l' ≡ made_by l) × (pending_of l'.stage ≡ Some i) = (λ i e some_was. (refl, pend ∙ some_was)) in
        let since_else : (q : ℕ) → q ≢ p → g.since q ≡ g.since q = (λ q apart. refl) in
        let announced_on : g.since p < g.number → (g.since p ≡ g.since p) × (announced_by n l' ≡ announced_by n l) = (λ before. (refl, sym announced_was)) in
        let open' = g.atomic.open_call in
        let next' = g.atomic.next_nth in
        let g' = later object n g local p l l' local_is g.since open' next' g.acts in
        let local' = locals object n g local p l l' local_is g.since open' next' g.acts in
        let w = its.writer in
        let f = facts in
        let rd = reader_stays object n g local p l l' local_is g.since open' next' g.acts since_else announced_on (omega arith) keeps told_on asked_on l its.reader in
        let present : (x : Version S R) → HasCome object n g x → number_in word ≤ x.number → x.image ≡ g.image =
        (λ x come late. present_image object n g local is.sound.history is.sound.order x come (let a = number_is in omega (arith, late))) in
        shown_with meaning o n id v alone c g local seat_of is at l' g' [] (sym (append-nil g.acts)) (set_at c.words 0 word) c.buffers (set_at_same c.words 0 word ∙ is.word) (buffers_same meaning o n id v alone c g local seat_of is at l' refl f.5)
        (sound_with object n g g' local p l' is.sound
        (board_stays object n g local p l l' local_is g.since open' next' g.acts since_else announced_on (omega arith) keeps told_on asked_on (omega (arith, called)) (is.sound.board.past p p_in) is.sound.board)
        (λ q q_in apart h. others_stay object n g local p l l' local_is g.since open' next' g.acts since_else announced_on (omega arith) keeps told_on asked_on q apart h)
        (record {
          stage = (
            (record { few = f.0.few; least = f.0.least; most = f.0.most }, f.1),
            record {
              later = (let a = f.4 in let b = number_is in omega arith);
              least = λ x come late. (let a = f.0.least in let e = ap (λ z. applied_in z p) (present x come late) in omega arith);
              soon = λ enough x come late.
                  let a = f.4 in
                  let b = is.sound.board.soon p p_in (omega (arith, enough, a)) in
                  let d = f.0.most in
                  let e = ap (λ z. applied_in z p) (present x come late) in
                  let h = ap (λ (z : Local I S R). announced_by n z) local_is in
                  let k = announced_was in
                  omega arith;
            },
            record {
              most = omega arith;
              base = λ below. absurd (omega (arith, below));
              caught = λ same q below which. absurd (omega (arith, below));
              lacks = λ e. absurd (let a = is.few.0 in omega (arith, e));
              own = λ below. absurd (omega (arith, below));
            },
          );
          writer = record {
            last = w.last;
            present = w.present;
            written = f.3;
            called = (let a = f.1 in omega arith);
            inv = λ e. f.2;
            made = (let a = f.1 in omega arith);
          };
          reader = record {
            long = rd.long;
            process = (let a = process_is in let b = is.sound.board.process in omega arith);
            known = loaded_known meaning o n g local seat_of c is p l' (ap (λ (z : Local I S R). z.last) (sym local_is));
            old = inl is.word;
            called = rd.called;
            inv = rd.inv;
          };
        })
        (history_kept object n g local p l l' local_is g.since is.sound.history p_in refl pend)
        (order_kept object n g local p l l' local_is g.since open' next' g.acts is.sound.order p_in refl refl))

    told : HasStarted v word (with_local v l')
    told inv' tries' pending' =
        let e = same_pending inv' tries' pending' in
        let come = (is.sound.each g.process is.sound.board.process).writer in
        let few = versions_few object n g local is.few.1 is.sound ((local g.process).last, come.last, present_image object n g local is.sound.history is.sound.order (local g.process).last come.last (let a = come.present refl in omega arith)) in (
          (let a = process_is in let b = is.sound.board.process in let d = processes in omega arith),
          (let a = is.word in let b = is.sound.board.process in let d = is.few.1 in omega (arith, few)),
          (λ k. with_local v (started l (e.0 k) (e.1 k) word)),
        )

  pub starts_move : Moves meaning o n id v (with_word (λ x. x) id) (λ g local c w acts. acts ≡ []) (λ c w. HasStarted v (c.words 0) w)
  starts_move c g local seat_of is at = (
    with_local v (started l inv tries (c.words 0)),
    [],
    shows c g local seat_of is at,
    refl,
    told c g local seat_of is at,
    (Start inv tries (subst (λ k. IsPendingAt k inv tries l.stage) processes pending), refl),
  )

  pub starts : AllowsChange (ShowsBoard meaning o n) id v 0 (λ x. x) (HasStarted v)
  starts c shown at = keeps_rule meaning o n id v alone (with_word (λ x. x) id) _ _ starts_move c shown at
