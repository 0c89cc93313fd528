-- A process looks into a buffer after the other, and its call ends, or it goes on.
use Rattle.uni_any.proofs.Vocabulary.{IsStep, moment_of, AllowsTake, Board, Contains, Contents, HasCome, HasFound, HasLearned, HasTaken, Idle, Invoked, IsAt, IsBase, IsReader, IsShown, IsStageAt, IsTold, IsWhole, Letter, List, Local, None, Option, Reading, Sequential, ShowsBoard, Some, Stage, Told, Version, View, announced_at, announced_by, ap, applied_in, arith, base_of, begun, called_by, found_in, get_elem?, in_of, inl, inr, known_then, length, length-append, local_of, lt_cases, made_by, number_cases, number_in, pending_of, posted, posted_at, process_in, refl, returns, row_in, seen_of, set_at-cases, slice_set, some, stage_of, subst, sym, with_local, with_seen, with_value, word_of, ℕ, ◌+◌, ◌<◌, ◌∙◌, ◌≡◌, ◌≢◌, ◌≤◌, Act, Moves, Respond, ShowsNext, append-nil, drop, responses, returned_by, with_letter, [], ◌∷◌}
use Rattle.uni_any.proofs.Framing.{keeps_rule, buffers_taken, drop_past, object_is, shown_with, sound_with}
use Rattle.uni_any.specs.Execution.Next.{Learn, Return}
use Rattle.uni_any.proofs.Histories.{acts_then, history_ended, history_kept, open_without, own_told}
use Rattle.uni_any.proofs.Orders.{order_ended, order_kept, version_rises}
use Rattle.uni_any.proofs.Posting.{keeps_same}
use Rattle.uni_any.proofs.Staying.{KeepsCalls, board_stays, later, locals, others_stay, reader_stays}
use Rattle.uni_any.proofs.Seeing as Seeing
use Rattle.uni_any.proofs.Seeing.{posted_facts}

module _ {O I S R : Type 0} (meaning : O → Sequential S I R) (o : O) (n id : ℕ) (v : View O I S R) (alone : v.known.count ≡ 1) (processes : v.known.processes ≡ n) (inv : I) (tries r : ℕ) (r_in : r < n) (reads : stage_of v ≡ Reading inv tries r) where
  abbrev l : Local I S R
  l = local_of v

  abbrev p : ℕ
  p = v.known.first

  posted_same : (stage' : Stage I S R) → (q : ℕ) → ((posted_at l stage' q) ≡ l.written) → posted_at l stage' q ≡ posted l q
  posted_same stage' q plain' = plain' ∙ sym (ap (λ s. posted_at l s q) reads)

  plain : (q : ℕ) → posted l q ≡ l.written
  plain q = ap (λ s. posted_at l s q) reads

  module _ (c : Contents (Letter I S R) (View O I S R)) (g : Board I S R) (local : ℕ → Local I S R) (seat_of : ℕ → ℕ) (is : IsShown n meaning o g local seat_of c) (at : get_elem? c.views id ≡ some v) where
    abbrev object : Sequential S I R
    object = meaning o

    abbrev found : Option (Letter I S R)
    found = c.buffers r p

    abbrev l1 : Local I S R
    l1 = with_seen l r found

    p_in : p < n
    p_in = Seeing.p_in meaning o n id v alone r r_in plain c g local seat_of is at

    local_is : local p ≡ l
    local_is = Seeing.local_is meaning o n id v alone r r_in plain c g local seat_of is at

    its : IsAt object n g local p l
    its = Seeing.its meaning o n id v alone r r_in plain c g local seat_of is at

    at_stage : IsStageAt object n g local p l (Reading inv tries r)
    at_stage = subst (IsStageAt object n g local p l) reads its.stage

    pending_is : pending_of l.stage ≡ Some inv
    pending_is = ap pending_of reads

    abbrev l2 : Local I S R
    l2 = record l { seen = slice_set l.seen r (known_then found (seen_of object n l r)) }

    l1_is : l1 ≡ l2
    l1_is = Seeing.l1_is meaning o n id v alone r r_in plain c g local seat_of is at

    long : r < length l.seen
    long = Seeing.long meaning o n id v alone r r_in plain c g local seat_of is at

    abbrev read_on : Local I S R
    read_on = record l2 { stage = Reading inv tries (r + 1) }

    now_r : seen_of object n l2 r ≡ posted (local r) p
    now_r = Seeing.now_r meaning o n id v alone r r_in plain c g local seat_of is at

    else_q : (q : ℕ) → q ≢ r → seen_of object n l2 q ≡ seen_of object n l q
    else_q = Seeing.else_q meaning o n id v alone r r_in plain c g local seat_of is at

    reader2 : IsReader object n g local l2
    reader2 = Seeing.reader2 meaning o n id v alone r r_in plain c g local seat_of is at

    fresh_of : (x : Version S R) → HasCome object n g x → number_in l.word ≤ x.number → l.word ≡ word_of g.number g.process → (x.number ≡ g.number) × (x.image ≡ g.image)
    fresh_of = Seeing.fresh_of meaning o n id v alone r r_in plain c g local seat_of is at

    base2 : process_in l.word < r + 1 → IsBase object n g local l2 (base_of object n l2)
    base2 below = elim (number_cases (process_in l.word) r) [
      | inl same ↦
          let x = Seeing.found_here meaning o n id v alone r r_in plain c g local seat_of is at same.0 in
          record { come = x.0; least = x.1; fresh = fresh_of (base_of object n l2) x.0 x.1 }
      | inr other ↦
          let b = at_stage.2.base (omega (arith, below, other.0)) in
          let here : base_of object n l2 ≡ base_of object n l = ap (λ z. found_in z (number_in l.word)) (else_q (process_in l.word) other.0) in
          subst (IsBase object n g local l2) (sym here) (record { come = b.come; least = b.least; fresh = b.fresh })
    ]

    -- what it wrote itself it has seen
    own2 : p < r + 1 → seen_of object n l2 p ≡ l.written
    own2 below = elim (number_cases p r) [
      | inl same ↦ ap (seen_of object n l2) same.0 ∙ now_r ∙ ap (λ j. posted (local j) p) (sym same.0) ∙ ap (λ (z : Local I S R). posted z p) local_is ∙ ap (λ s. posted_at l s p) reads
      | inr other ↦ else_q p other.0 ∙ at_stage.2.own (omega (arith, below, other.0))
    ]

    -- it has not looked into all of them, or the version that it found lacks its call
    module _ (lacks : r + 1 ≡ n → applied_in (base_of object n l2).image p ≡ made_by l) where
      shows_on : ShowsNext meaning o n g local seat_of (record { words = c.words; buffers = with_value c.buffers r p None; views = slice_set c.views id (with_local v read_on) }) p read_on []
      shows_on =
          let pend : pending_of read_on.stage ≡ pending_of l.stage = sym pending_is in
          let keeps = keeps_same l read_on refl pend in
          let called : called_by read_on ≡ called_by l = (λ k. begun (made_by l) (pend k)) in
          let announced : announced_by n read_on ≡ announced_by n l = sym (ap (announced_at n (made_by l)) reads) in
          let told_on : called_by l ≡ in_of g p + 1 → called_by read_on ≡ in_of g p + 1 = (λ e. called ∙ e) in
          let asked_on : (i : I) → in_of g p ≡ made_by l → pending_of l.stage ≡ Some i → (made_by read_on ≡ made_by l) × (pending_of read_on.stage ≡ Some i) = (λ i e some_was. (refl, pend ∙ some_was)) in
          let since_else : (q : ℕ) → q ≢ p → g.since q ≡ g.since q = (λ q apart. refl) in
          let announced_on : g.since p < g.number → (g.since p ≡ g.since p) × (announced_by n read_on ≡ announced_by n l) = (λ before. (refl, announced)) in
          let open' = g.atomic.open_call in
          let next' = g.atomic.next_nth in
          let g' = later object n g local p l read_on local_is g.since open' next' g.acts in
          let local' = locals object n g local p l read_on local_is g.since open' next' g.acts in
          let w = its.writer in
          let rd = reader_stays object n g local p l read_on local_is g.since open' next' g.acts since_else announced_on (omega arith) keeps told_on asked_on l2 reader2 in
          let same_announced : (q : ℕ) → announced_by n (local' q) ≡ announced_by n (local q) = (λ q. elim (set_at-cases local p read_on q) [
            | inl here ↦ ap (λ (z : Local I S R). announced_by n z) here.1 ∙ announced ∙ ap (λ (z : Local I S R). announced_by n z) (sym local_is ∙ ap local (sym here.0))
            | inr other ↦ ap (λ (z : Local I S R). announced_by n z) other.1
          ]) in
          shown_with meaning o n id v alone c g local seat_of is at read_on g' [] (sym (append-nil g.acts)) c.words (with_value c.buffers r p None) is.word
          (buffers_taken meaning o n id v alone c g local seat_of is at read_on r r_in long refl (λ q q_in. posted_same (Reading inv tries (r + 1)) q refl))
          (sound_with object n g g' local p read_on is.sound
          (board_stays object n g local p l read_on local_is g.since open' next' g.acts since_else announced_on (omega arith) keeps told_on asked_on (omega (arith, called)) (is.sound.board.past p p_in) is.sound.board)
          (λ q q_in apart h. others_stay object n g local p l read_on local_is g.since open' next' g.acts since_else announced_on (omega arith) keeps told_on asked_on q apart h)
          (record {
            stage = (
              (record { few = at_stage.0.0.few; least = at_stage.0.0.least; most = at_stage.0.0.most }, at_stage.0.1),
              record { later = at_stage.1.later; least = at_stage.1.least; soon = at_stage.1.soon },
              record {
                most = omega (arith, r_in);
                base = λ below. (let b = base2 below in record { come = b.come; least = b.least; fresh = b.fresh });
                caught = λ same q below which. elim (number_cases q r) [
                  | inl here ↦
                      let a = (posted_facts object n g local r (local r) (is.sound.each r r_in) p p_in).2 in
                      let b = same_announced r in
                      let d = ap (λ (t : Told I S R). t.call) now_r in
                      subst (λ j. announced_by n (local' j) ≤ (seen_of object n l2 j).call) (sym here.0) (omega (arith, a, b, d))
                  | inr other ↦
                      let a = at_stage.2.caught same q (omega (arith, below, other.0)) which in
                      let b = same_announced q in
                      let d = ap (λ (t : Told I S R). t.call) (else_q q other.0) in
                      omega (arith, a, b, d)
                ];
                lacks = lacks;
                own = own2;
              },
            );
            writer = record {
              last = w.last;
              present = w.present;
              written = w.written;
              called = (let a = w.called in omega (arith, called));
              inv = λ e. w.inv e ∙ sym pend;
              made = w.made;
            };
            reader = record { long = rd.long; process = rd.process; known = rd.known; old = rd.old; called = rd.called; inv = rd.inv };
          })
          (history_kept object n g local p l read_on local_is g.since is.sound.history p_in refl pend)
          (order_kept object n g local p l read_on local_is g.since open' next' g.acts is.sound.order p_in refl refl))

    -- with all looked into
    module _ (last : r + 1 ≡ n) where
      abbrev x : Version S R
      x = base_of object n l2

      base : IsBase object n g local l2 x
      base = base2 (let a = its.reader.process in omega (arith, last))

      whole : IsWhole n x.image
      whole = is.sound.board.whole x base.come

      least : made_by l ≤ applied_in x.image p
      least = at_stage.1.least x base.come base.least

      most : applied_in x.image p ≤ made_by l + 1
      most = (let a = is.sound.board.rises x base.come p p_in in let b = at_stage.0.0.most in omega arith)

      lacks_of : applied_in x.image p ≢ made_by l + 1 → applied_in x.image p ≡ made_by l
      lacks_of apart = (let a = least in let b = most in omega (arith, apart))

      early : applied_in x.image p ≢ made_by l + 1 → tries < 2
      early apart = elim (lt_cases tries 2) [ inl e ↦ e.0 | inr e ↦ absurd (apart (at_stage.1.soon e.0 x base.come base.least)) ]

      -- it has the call, which returns
      module _ (in_is : applied_in x.image p ≡ made_by l + 1) where
        reply : (y : R) × ((row_in x.image p).reply ≡ Some y)
        reply = whole.replies p p_in (let a = in_is in omega arith)

        abbrev done : Local I S R
        done = returns l2 inv reply.0 x.number

        told_was : IsTold object n g local p l.own (Some inv)
        told_was = subst (λ z. IsTold object n g local p l.own z) pending_is (own_told object n g local p l done local_is g.since is.sound.history p_in)

        taken : (t : HasTaken object g.atomic.agreed (record { process = p; nth = made_by l; inv = inv }) reply.0) × (t.place < g.calls_in x.number)
        taken = told_was.3 x reply.0 base.come in_is reply.1

        none_later : (d : Invoked I) → Contains g.atomic.agreed d → d.process ≡ p → d.nth < made_by l + 1
        none_later d has mine' = (let b = (is.sound.history.agreed d has).1 in let e : in_of g d.process ≡ in_of g p = ap (in_of g) mine' in let a = at_stage.0.0.most in omega arith)

        rises : l.after < x.number
        rises = version_rises object n g local p l done local_is g.since g.atomic.open_call g.atomic.next_nth g.acts is.sound.order p_in inv reply.0 x.number base.come.0 taken.0 taken.1 none_later

        longer : made_by done ≡ made_by l + 1
        longer = length-append l.own _

        shows_end : ShowsNext meaning o n g local seat_of (record { words = c.words; buffers = with_value c.buffers r p None; views = slice_set c.views id (with_local v done) }) p done (Respond p (made_by l) reply.0 ∷ [])
        shows_end =
            let in_now : in_of g p ≡ made_by l + 1 = (let a = is.sound.board.rises x base.come p p_in in let b = at_stage.0.0.most in let d = in_is in omega arith) in
            let called_was : called_by l ≡ made_by l + 1 = ap (begun (made_by l)) pending_is in
            let keeps : KeepsCalls l done = (λ t few inv_is. ((let a = longer in omega (arith, few, called_was)), (λ e. absurd (let a = longer in omega (arith, few, called_was, e))))) in
            let announced : announced_by n done ≡ announced_by n l = longer ∙ sym (ap (announced_at n (made_by l)) reads) in
            let told_on : called_by l ≡ in_of g p + 1 → called_by done ≡ in_of g p + 1 = (λ e. absurd (omega (arith, e, called_was, in_now))) in
            let asked_on : (i : I) → in_of g p ≡ made_by l → pending_of l.stage ≡ Some i → (made_by done ≡ made_by l) × (pending_of done.stage ≡ Some i) = (λ i e some_was. absurd (omega (arith, e, in_now))) in
            let since_else : (q : ℕ) → q ≢ p → g.since q ≡ g.since q = (λ q apart. refl) in
            let announced_on : g.since p < g.number → (g.since p ≡ g.since p) × (announced_by n done ≡ announced_by n l) = (λ before. (refl, announced)) in
            let open' = open_without object n g local p l done local_is g.since is.sound.history p_in inv reply.0 x.number pending_is taken.0 in
            let next' = g.atomic.next_nth in
            let acts' = acts_then object n g local p l done local_is g.since is.sound.history p_in inv reply.0 x.number pending_is taken.0 in
            let g' = later object n g local p l done local_is g.since open' next' acts' in
            let w = its.writer in
            let rd = reader_stays object n g local p l done local_is g.since open' next' acts' since_else announced_on (omega arith) keeps told_on asked_on l2 reader2 in
            shown_with meaning o n id v alone c g local seat_of is at done g' (Respond p (made_by l) reply.0 ∷ []) refl c.words (with_value c.buffers r p None) is.word
            (buffers_taken meaning o n id v alone c g local seat_of is at done r r_in long refl (λ q q_in. posted_same Idle q refl))
            (sound_with object n g g' local p done is.sound
            (board_stays object n g local p l done local_is g.since open' next' acts' since_else announced_on (omega arith) keeps told_on asked_on (let a = longer in omega (arith, called_was)) (is.sound.board.past p p_in) is.sound.board)
            (λ q q_in apart h. others_stay object n g local p l done local_is g.since open' next' acts' since_else announced_on (omega arith) keeps told_on asked_on q apart h)
            (record {
              stage = (in_now ∙ sym longer, (let a = at_stage.0.0.few in let b = longer in omega arith));
              writer = record {
                last = w.last;
                present = w.present;
                written = w.written;
                called = (let a = at_stage.0.1 in let b = longer in omega arith);
                inv = λ e. absurd (let a = at_stage.0.1 in let b = longer in omega (arith, e));
                made = (let a = at_stage.0.1 in let b = longer in omega arith);
              };
              reader = record { long = rd.long; process = rd.process; known = rd.known; old = rd.old; called = rd.called; inv = rd.inv };
            })
            (history_ended object n g local p l done local_is g.since is.sound.history p_in inv reply.0 x.number pending_is taken.0 refl refl)
            (order_ended object n g local p l done local_is g.since open' next' acts' is.sound.order p_in inv reply.0 x.number base.come.0 taken.0 taken.1 none_later refl refl))

    -- what the seat is told
    same_reading : (inv' : I) (tries' : ℕ) → stage_of v ≡ Reading inv' tries' r → (inv ≡ inv') × (tries ≡ tries')
    same_reading inv' tries' reads' = let e : Reading inv tries r ≡ Reading inv' tries' r = sym reads ∙ reads' in let a : inv ≡ inv' = cc in let b : tries ≡ tries' = cc in (a, b)

    found_as : (w : View O I S R) → HasFound meaning v inv tries l2 w → HasFound meaning v inv tries l1 w
    found_as w h = subst (λ z. HasFound meaning v inv tries z w) (sym l1_is) h

    -- in the object's and the seat's own terms
    module _ (w : View O I S R) where
      base_is : base_of (meaning v.object) v.known.processes l2 ≡ base_of object n l2
      base_is = (λ k. base_of (meaning (object_is meaning o n id v alone c g local seat_of is at k)) (processes k) l2)

    seen_is : (q : ℕ) → seen_of (meaning v.object) v.known.processes l2 q ≡ seen_of object n l2 q
    seen_is q = (λ k. seen_of (meaning (object_is meaning o n id v alone c g local seat_of is at k)) (processes k) l2 q)

    said_on : (last : r + 1 ≡ n) → (lacks : applied_in (base_of object n l2).image p ≢ made_by l + 1) → HasFound meaning v inv tries l2 (with_local v read_on)
    said_on last lacks =
        let b = base_is (with_local v read_on) in
        record {
          whole = subst (λ m. IsWhole m (base_of (meaning v.object) v.known.processes l2).image) (sym processes) (subst (λ (z : Version S R). IsWhole n z.image) (sym b) (whole last));
          least = subst (λ (z : Version S R). number_in l.word ≤ z.number) (sym b) (base last).least;
          ends = λ e. absurd (lacks (ap (λ (z : Version S R). applied_in z.image p) (sym b) ∙ e));
          goes_on = λ e. (
            ap (λ (z : Version S R). applied_in z.image p) b ∙ lacks_of last lacks,
            early last lacks,
            ap (λ (t : Told I S R). t.call) (seen_is p ∙ own2 (omega (arith, last, p_in))) ∙ at_stage.0.1,
            ap (λ (t : Told I S R). t.inv) (seen_is p ∙ own2 (omega (arith, last, p_in))) ∙ its.writer.inv at_stage.0.1 ∙ pending_is,
            (λ k. with_local v (record l2 { stage = Reading inv tries ((last ∙ sym processes) k) })),
          );
        }

    said_end : (last : r + 1 ≡ n) → (in_is : applied_in (base_of object n l2).image p ≡ made_by l + 1) → HasFound meaning v inv tries l2 (with_local v (done last in_is))
    said_end last in_is =
        let b = base_is (with_local v (done last in_is)) in
        record {
          whole = subst (λ m. IsWhole m (base_of (meaning v.object) v.known.processes l2).image) (sym processes) (subst (λ (z : Version S R). IsWhole n z.image) (sym b) (whole last));
          least = subst (λ (z : Version S R). number_in l.word ≤ z.number) (sym b) (base last).least;
          ends = λ e. (
            (reply last in_is).0,
            ap (λ (z : Version S R). (row_in z.image p).reply) b ∙ (reply last in_is).1,
            subst (λ (z : Version S R). l.after < z.number) (sym b) (rises last in_is),
            (λ k. with_local v (returns l2 inv (reply last in_is).0 (sym b k).number)),
          );
          goes_on = λ e. absurd (e (ap (λ (z : Version S R). applied_in z.image p) b ∙ in_is));
        }

    none_returned : [] ≡ responses p (made_by l) (drop (length l.own) l.own)
    none_returned = ap (responses p (made_by l)) (sym (ap (drop (length l.own)) (sym (append-nil l.own)) ∙ drop_past l.own []))

    -- it is a step of an execution
    abbrev IsStepTo : View O I S R → List (Act I R) → Type 0
    IsStepTo w acts = IsStep object n (moment_of c local) p l (record { word = c.words 0; buffers = with_value c.buffers r p None; leaves = w.known.local; acts = acts })

    step_on : (r + 1 ≡ n → applied_in (base_of object n l2).image p ≢ made_by l + 1) → IsStepTo (with_local v read_on) []
    step_on lacks = (
      Learn inv tries r reads r_in (λ last e. lacks last (ap (λ z. applied_in (base_of object n z).image p) (sym l1_is) ∙ e)),
      (λ k. record {
        word = c.words 0;
        buffers = with_value c.buffers r p None;
        leaves = record (l1_is k) { stage = Reading inv tries (r + 1) };
        acts = [];
      }),
    )

    step_end : (last : r + 1 ≡ n) → (in_is : applied_in (base_of object n l2).image p ≡ made_by l + 1) → IsStepTo (with_local v (done last in_is)) (Respond p (made_by l) (reply last in_is).0 ∷ [])
    step_end last in_is = (
      Return inv tries r (reply last in_is).0 reads last (ap (λ z. applied_in (base_of object n z).image p) l1_is ∙ in_is) (ap (λ z. (row_in (base_of object n z).image p).reply) l1_is ∙ (reply last in_is).1),
      (λ k. record {
        word = c.words 0;
        buffers = with_value c.buffers r p None;
        leaves = returns (l1_is k) inv (reply last in_is).0 (base_of object n (l1_is k)).number;
        acts = Respond p (made_by l) (reply last in_is).0 ∷ [];
      }),
    )

    -- the view after it, with all that is so then
    out : (w : View O I S R) × (acts : List (Act I R)) × ShowsNext meaning o n g local seat_of (with_letter r p None id c w) p w.known.local acts × (acts ≡ returned_by v w) × HasLearned meaning v r found w × IsStepTo w acts
    out = elim (lt_cases (r + 1) n) [
      | inl less ↦ (
        with_local v read_on,
        [],
        shows_on (λ e. absurd (let a = less.0 in omega (arith, e))),
        none_returned,
        (λ inv' tries' reads' in'.
            let e = same_reading inv' tries' reads' in (
              (λ below. (λ k. with_local v (record (sym l1_is k) { stage = Reading (e.0 k) (e.1 k) (r + 1) }))),
              (λ last. absurd (let a = less.0 in omega (arith, last, processes))),
            )),
        step_on (λ e. absurd (let a = less.0 in omega (arith, e))),
      )
      | inr more ↦
          let last : r + 1 ≡ n = (let a = more.0 in omega (arith, r_in)) in
          elim (number_cases (applied_in (base_of object n l2).image p) (made_by l + 1)) [
            | inl in_is ↦ (
              with_local v (done last in_is.0),
              Respond p (made_by l) (reply last in_is.0).0 ∷ [],
              shows_end last in_is.0,
              ap (responses p (made_by l)) (sym (drop_past l.own _)),
              (λ inv' tries' reads' in'.
                  let e = same_reading inv' tries' reads' in
                  let w = with_local v (done last in_is.0) in (
                    (λ below. absurd (omega (arith, below, last, processes))),
                    (λ z. subst (λ t. HasFound meaning v inv' t l1 w) e.1 (subst (λ i. HasFound meaning v i tries l1 w) e.0 (found_as w (said_end last in_is.0)))),
                  )),
              step_end last in_is.0,
            )
            | inr apart ↦ (
              with_local v read_on,
              [],
              shows_on (λ z. lacks_of last apart.0),
              none_returned,
              (λ inv' tries' reads' in'.
                  let e = same_reading inv' tries' reads' in
                  let w = with_local v read_on in (
                    (λ below. absurd (omega (arith, below, last, processes))),
                    (λ z. subst (λ t. HasFound meaning v inv' t l1 w) e.1 (subst (λ i. HasFound meaning v i tries l1 w) e.0 (found_as w (said_on last apart.0)))),
                  )),
              step_on (λ z. apart.0),
            )
          ]
    ]

  pub learns_move : Moves meaning o n id v (with_letter r p None id) (λ g local c w acts. acts ≡ returned_by v w) (λ c w. HasLearned meaning v r (c.buffers r p) w)
  learns_move c g local seat_of is at = out c g local seat_of is at

  pub learns : AllowsTake (ShowsBoard meaning o n) id v r p (HasLearned meaning v r)
  learns c shown at = keeps_rule meaning o n id v alone (with_letter r p None id) _ _ learns_move c shown at
