-- The exchange that brings a block in: the calls that it applied take effect, and the own call returns.
use Rattle.uni_any.proofs.Vocabulary.{IsStep, moment_of, AcceptsAll-append, Act, HasFollowed, AllowsChange, AreOrdered, Board, Contents, HasBrought, HasCome, HasDrafted, HasLast, HasTaken, Idle, Image, Invoke, Invoked, IsAt, IsBoard, IsHistory, IsOpen, IsOrdered, IsReader, IsShown, IsStageAt, IsTold, IsTrying, IsWhole, Letter, Linearize, List, Local, None, Option, Posting, Reading, Ready, Respond, Returned, Sequential, ShowsBoard, Some, Stage, Told, Version, View, Writing, [], acts_by, announced_at, announced_by, ap, applied_in, arith, at_start, base_of, begun, block_news, brought, called_by, either, ending, get_elem?, in_of, inl, inr, length, length-append, local_of, lt_cases, made_by, map, missed, number_in, pending_of, plain, posted, posted_at, process_in, refl, response_at, row_in, sequential_acts, set_at, set_at-cases, set_at_elsewhere, set_at_same, slice_set, some, stage_of, subst, sym, with_local, word_of, ℕ, ◌++◌, ◌+◌, ◌<◌, ◌∙◌, ◌∷◌, ◌≡◌, ◌≢◌, ◌≤◌, ◌⊎◌, HasBatch, Moves, ShowsNext, append-nil, responses, returned_by, with_word}
use Rattle.std.proofs.Common.{append_assoc, ◌==◌}
use Rattle.atomic_table.proofs.Lists.{exchanged}
use Rattle.uni_any.proofs.Framing.{keeps_rule, buffers_same, drop_past, mine, own, shown_with, sound_with}
use Rattle.uni_any.proofs.Growing.{accepted_then, agreed', agreed_then, acts_lin, board_then, calls, calls_then, come_cases, come_new, come_up, image_then, in_least, in_most, order1, place_before, still_taken, taken_then}
use Rattle.uni_any.specs.Execution.{present_in}
use Rattle.uni_any.specs.Execution.Next.{Bring, Fail}
use Rattle.uni_any.proofs.Effects.{effects_are, present_is}
use Rattle.uni_any.proofs.Histories.{history_kept, own_told}
use Rattle.uni_any.proofs.Orders.{followed_more, order_kept}
use Rattle.uni_any.proofs.Posting.{keeps_same}
use Rattle.uni_any.proofs.Starting.{present_image}
use Rattle.uni_any.proofs.Staying.{board_stays, later, others_stay, reader_stays}
use Rattle.uni_any.proofs.Acts.{responded_other, responded_own, sequential_acts-snoc}
use Rattle.uni_any.proofs.Ordering.{ordered_returned, version_rises}
use Rattle.uni_any.proofs.Sums.{rows_rise}

module _ {O I S R : Type 0} (meaning : O → Sequential S I R) (o : O) (n id : ℕ) (v : View O I S R) (alone : v.known.count ≡ 1) (processes : v.known.processes ≡ n) (inv : I) (tries : ℕ) (image : Image S R) (stage : stage_of v ≡ Writing inv tries image n) where
  abbrev l : Local I S R
  l = local_of v

  abbrev p : ℕ
  p = v.known.first

  abbrev new : ℕ
  new = word_of (number_in l.word + 1) p

  pending_is : pending_of l.stage ≡ Some inv
  pending_is = ap pending_of stage

  announced_was : announced_by n l ≡ made_by l + 1
  announced_was = ap (announced_at n (made_by l)) stage

  called_was : called_by l ≡ made_by l + 1
  called_was = ap (begun (made_by l)) pending_is

  posted_was : (r : ℕ) → r < n → block_news l inv image ≡ posted l r
  posted_was r r_in = sym (ap (λ s. posted_at l s r) stage ∙ elim (lt_cases r n) [ inl e ↦ rw e.1 refl | inr e ↦ absurd (let a = e.0 in omega (arith, r_in)) ])

  module _ (c : Contents (Letter I S R) (View O I S R)) (g : Board I S R) (local : ℕ → Local I S R) (seat_of : ℕ → ℕ) (is : IsShown n meaning o g local seat_of c) (at : get_elem? c.views id ≡ some v) where
    abbrev object : Sequential S I R
    object = meaning o

    p_in : p < n
    p_in = (own meaning o n id v alone c g local seat_of is at).0

    local_is : local p ≡ l
    local_is = (own meaning o n id v alone c g local seat_of is at).2

    its : IsAt object n g local p l
    its = mine meaning o n id v alone c g local seat_of is at

    at_stage : IsStageAt object n g local p l (Writing inv tries image n)
    at_stage = subst (IsStageAt object n g local p l) stage its.stage

    -- S has changed: the attempt has failed
    module _ (apart : c.words 0 ≢ l.word) where
      abbrev l0 : Local I S R
      l0 = missed l inv tries image

      miss : ShowsNext meaning o n g local seat_of (record { words = set_at c.words 0 (c.words 0); buffers = c.buffers; views = slice_set c.views id (with_local v l0) }) p l0 []
      miss =
          let pend : pending_of l0.stage ≡ pending_of l.stage = sym pending_is in
          let keeps = keeps_same l l0 refl pend in
          let called : called_by l0 ≡ called_by l = (λ k. begun (made_by l) (pend k)) in
          let announced : announced_by n l0 ≡ announced_by n l = sym announced_was in
          let told_on : called_by l ≡ in_of g p + 1 → called_by l0 ≡ in_of g p + 1 = (λ e. called ∙ e) in
          let asked_on : (i : I) → in_of g p ≡ made_by l → pending_of l.stage ≡ Some i → (made_by l0 ≡ made_by l) × (pending_of l0.stage ≡ Some i) = (λ i e some_was. (refl, pend ∙ some_was)) in
          let since_else : (q : ℕ) → q ≢ p → g.since q ≡ g.since q = (λ q apart. refl) in
          let announced_on : g.since p < g.number → (g.since p ≡ g.since p) × (announced_by n l0 ≡ announced_by n l) = (λ before. (refl, announced)) in
          let open' = g.atomic.open_call in
          let next' = g.atomic.next_nth in
          let g' = later object n g local p l l0 local_is g.since open' next' g.acts in
          let w = its.writer in
          let rd = reader_stays object n g local p l l0 local_is g.since open' next' g.acts since_else announced_on (omega arith) keeps told_on asked_on l its.reader in
          shown_with meaning o n id v alone c g local seat_of is at l0 g' [] (sym (append-nil g.acts)) (set_at c.words 0 (c.words 0)) c.buffers (set_at_same c.words 0 (c.words 0) ∙ is.word) (buffers_same meaning o n id v alone c g local seat_of is at l0 refl posted_was)
          (sound_with object n g g' local p l0 is.sound
          (board_stays object n g local p l l0 local_is g.since open' next' g.acts since_else announced_on (omega arith) keeps told_on asked_on (omega (arith, called)) (is.sound.board.past p p_in) is.sound.board)
          (λ q q_in apart h. others_stay object n g local p l l0 local_is g.since open' next' g.acts since_else announced_on (omega arith) keeps told_on asked_on q apart h)
          (record {
            stage = (
              (record { few = at_stage.0.0.few; least = at_stage.0.0.least; most = at_stage.0.0.most }, refl),
              elim its.reader.old [ inl same ↦ absurd (apart (is.word ∙ sym same)) | inr old ↦ (let a = at_stage.1.later in omega (arith, old)) ],
            );
            writer = record {
              last = w.last;
              present = w.present;
              written = inl refl;
              called = omega arith;
              inv = λ e. refl;
              made = omega arith;
            };
            reader = record { long = rd.long; process = rd.process; known = rd.known; old = rd.old; called = rd.called; inv = rd.inv };
          })
          (history_kept object n g local p l l0 local_is g.since is.sound.history p_in refl pend)
          (order_kept object n g local p l l0 local_is g.since open' next' g.acts is.sound.order p_in refl refl))

    -- S is as it was: the block is in
    module _ (same : c.words 0 ≡ l.word) where
      fresh : l.word ≡ word_of g.number g.process
      fresh = sym same ∙ is.word

      number_is : number_in l.word ≡ g.number
      number_is = (let b = is.sound.board.process in let d = is.few.1 in let e : number_in l.word ≡ number_in (word_of g.number g.process) = ap number_in fresh in omega (arith, b, d, e))

      drafted : HasDrafted object n g local p image
      drafted = at_stage.4 fresh

      whole : IsWhole n image
      whole = at_stage.3

      -- the present version
      now : (x : Version S R) × HasCome object n g x × (x.image ≡ g.image)
      now =
          let w = (is.sound.each g.process is.sound.board.process).writer in
          ((local g.process).last, w.last, present_image object n g local is.sound.history is.sound.order (local g.process).last w.last (let a = w.present refl in omega arith))

      now_number : now.0.number ≡ g.number
      unfolding now
      now_number = (is.sound.each g.process is.sound.board.process).writer.present refl

      wide : length g.image.rows ≡ n
      wide = ap (λ (z : Image S R). length z.rows) (sym now.2) ∙ (is.sound.board.whole now.0 now.1).long

      in_was : in_of g p ≡ made_by l
      in_was = drafted.lacks ∙ ap (λ (z : Local I S R). made_by z) local_is

      in_now : applied_in image p ≡ made_by l + 1
      in_now =
          let a = drafted.caught p p_in (inl refl) in
          let b = ap (λ (z : Local I S R). announced_by n z) local_is in
          let d = announced_was in
          elim (drafted.told p p_in) [ inl e ↦ absurd (let f = in_was in omega (arith, a, b, d, e)) | inr e ↦ (let f = in_was in let h = e.0 in omega arith) ]

      reply : (x : R) × ((row_in image p).reply ≡ Some x)
      reply = whole.replies p p_in (let a = in_now in omega arith)

      abbrev x : R
      x = reply.0

      abbrev l' : Local I S R
      l' = brought l inv x image

      abbrev local' : ℕ → Local I S R
      local' = set_at local p l'

      abbrev open' : ℕ → Option (Invoked I)
      open' = set_at g.atomic.open_call p None

      abbrev acts2 : List (Act I R)
      acts2 = (g.acts ++ map (λ c. Linearize c) (calls object n g local is.sound p p_in image drafted)) ++ Respond p (made_by l) x ∷ []

      abbrev g' : Board I S R
      g' = board_then object n g local is.sound p p_in image drafted p open' acts2

      longer : made_by l' ≡ made_by l + 1
      longer = length-append l.own _

      cases : (q : ℕ) → ((q ≡ p) × (local q ≡ l) × (local' q ≡ l')) ⊎ ((q ≢ p) × (local' q ≡ local q))
      cases q = elim (set_at-cases local p l' q) [ inl here ↦ inl (here.0, ap local here.0 ∙ local_is, here.1) | inr other ↦ inr other ]

      called_same : (q : ℕ) → called_by (local' q) ≡ called_by (local q)
      called_same q = elim (cases q) [
        | inl here ↦ ap (λ (z : Local I S R). called_by z) here.2 ∙ longer ∙ sym called_was ∙ ap (λ (z : Local I S R). called_by z) (sym here.1)
        | inr other ↦ ap (λ (z : Local I S R). called_by z) other.1
      ]

      announced_same : (q : ℕ) → announced_by n (local' q) ≡ announced_by n (local q)
      announced_same q = elim (cases q) [
        | inl here ↦ ap (λ (z : Local I S R). announced_by n z) here.2 ∙ longer ∙ sym announced_was ∙ ap (λ (z : Local I S R). announced_by n z) (sym here.1)
        | inr other ↦ ap (λ (z : Local I S R). announced_by n z) other.1
      ]

      up : (y : Version S R) → HasCome object n g y → HasCome object n g' y
      up = come_up object n g local is.sound p p_in image drafted p open' acts2

      from : (y : Version S R) → HasCome object n g' y → HasCome object n g y ⊎ ((y.number ≡ g.number + 1) × (y.image ≡ image))
      from = come_cases object n g local is.sound p p_in image drafted p open' acts2

      least : (q : ℕ) → q < n → in_of g q ≤ applied_in image q
      least = in_least object n g local is.sound p p_in image drafted

      most : (q : ℕ) → q < n → applied_in image q ≤ called_by (local q)
      most = in_most object n g local is.sound p p_in image drafted

      board' : IsBoard object n g' local'
      board' = record {
        process = p_in;
        whole = λ y come. elim (from y come) [ inl old ↦ is.sound.board.whole y old | inr new ↦ subst (IsWhole n) (sym new.1) whole ];
        rises = λ y come q q_in. elim (from y come) [
          | inl old ↦ (let a = is.sound.board.rises y old q q_in in let b = least q q_in in omega arith)
          | inr new ↦ (let a = ap (λ (z : Image S R). applied_in z q) new.1 in omega arith)
        ];
        in_most = λ q q_in. (let a = most q q_in in let b = called_same q in omega arith);
        soon = λ q q_in late. (let a = drafted.caught q q_in (inr (omega (arith, late))) in let b = announced_same q in omega arith);
        past = λ q q_in. (let a = is.sound.board.past q q_in in omega arith);
        versions = (let a = is.sound.board.versions in let b = rows_rise g.image.rows image.rows p (wide ∙ sym whole.long) (let d = wide in omega (arith, p_in)) (λ i below. least i (let d = wide in omega (arith, below))) (let d = in_was in let e = in_now in omega arith) in omega arith);
      }

      reader_up : (lq : Local I S R) → IsReader object n g local lq → IsReader object n g' local' lq
      reader_up lq h = record {
        long = h.long;
        process = h.process;
        known = elim (cases (process_in lq.word)) [
          | inl here ↦
              let k = h.known in
              let a = ap (λ (z : Local I S R). z.last.number) here.1 in
              let b = ap (λ (z : Local I S R). z.last.number) here.2 in
              let d = its.writer.last.0 in
              let e = number_is in
              omega (arith, k, a, b, d, e)
          | inr other ↦ (let k = h.known in let a = ap (λ (z : Local I S R). z.last.number) other.1 in omega arith)
        ];
        old = inr (older lq h.old);
        called = λ q q_in. (let a = h.called q q_in in let b = called_same q in omega arith);
        inv = λ q q_in call. elim (cases q) [
          | inl here ↦
              let a = h.called q q_in in
              let b = ap (λ (z : Local I S R). called_by z) here.1 in
              let d = ap (λ (z : Local I S R). made_by z) here.2 in
              let e = longer in
              let f = called_was in
              absurd (omega (arith, a, b, call, d, e, f))
          | inr other ↦ h.inv q q_in (call ∙ ap (λ (z : Local I S R). made_by z + 1) other.1) ∙ ap (λ (z : Local I S R). pending_of z.stage) (sym other.1)
        ];
      } where
        older : (lq : Local I S R) → (lq.word ≡ word_of g.number g.process) ⊎ (number_in lq.word < g.number) → number_in lq.word < g.number + 1
        older lq (inl e) = (let b = is.sound.board.process in let d = is.few.1 in let f : number_in lq.word ≡ number_in (word_of g.number g.process) = ap number_in e in omega (arith, b, d, f))
        older lq (inr e) = omega (arith, e)

      -- S isn't as it was for whoever had loaded it
      stale : (lq : Local I S R) → IsReader object n g local lq → lq.word ≡ word_of (g.number + 1) p → ⊥
      stale lq h e =
          let d = is.few.1 in
          let f : number_in lq.word ≡ number_in (word_of (g.number + 1) p) = ap number_in e in
          let k : number_in lq.word < g.number + 1 = elim h.old [
            | inl z ↦ (let b = is.sound.board.process in let y : number_in lq.word ≡ number_in (word_of g.number g.process) = ap number_in z in omega (arith, b, d, y))
            | inr z ↦ omega (arith, z)
          ] in
          omega (arith, d, f, k, p_in)

      has_up : (lq : Local I S R) (t : Told I S R) → HasLast object n g local lq t → HasLast object n g' local' lq t
      has_up lq t (inl e) = inl e
      has_up lq t (inr e) = inr (e.0, e.1, up t.last e.2)

      others' : (q : ℕ) → q < n → q ≢ p → IsAt object n g local q (local q) → IsAt object n g' local' q (local q)
      others' q q_in apart h = record {
        stage = by (local q).stage refl h.stage;
        writer = record {
          last = up (local q).last h.writer.last;
          present = λ e. absurd (apart (sym e));
          written = has_up (local q) (local q).written h.writer.written;
          called = h.writer.called;
          inv = h.writer.inv;
          made = h.writer.made;
        };
        reader = reader_up (local q) h.reader;
      } where
        few : (stage : Stage I S R) → stage ≡ (local q).stage → begun (made_by (local q)) (pending_of stage) ≡ called_by (local q)
        few stage e = ap (λ s. begun (made_by (local q)) (pending_of s)) e

        open_up : (inv : I) → called_by (local q) ≡ made_by (local q) + 1 → IsOpen object n g local q (local q) inv → IsOpen object n g' local' q (local q) inv
        open_up inv called o = record { few = o.few; least = (let a = o.least in let b = least q q_in in omega arith); most = (let a = most q q_in in omega (arith, called)) }

        trying_up : (tries : ℕ) → called_by (local q) ≡ made_by (local q) + 1 → made_by (local q) ≤ in_of g q → IsTrying object n g local q (local q) tries → IsTrying object n g' local' q (local q) tries
        trying_up tries called in_least' t = record {
          later = t.later;
          least = λ y come late. elim (from y come) [
            | inl old ↦ t.least y old late
            | inr new ↦ (let a = ap (λ (z : Image S R). applied_in z q) new.1 in let b = least q q_in in omega (arith, in_least'))
          ];
          soon = λ enough y come late. elim (from y come) [
            | inl old ↦ t.soon enough y old late
            | inr new ↦
                let recent : number_in (local q).word ≤ now.0.number =
                let a = now_number in
                elim h.reader.old [
                  | inl z ↦ (let b = is.sound.board.process in let d = is.few.1 in let f : number_in (local q).word ≡ number_in (word_of g.number g.process) = ap number_in z in omega (arith, b, d, f, a))
                  | inr z ↦ omega (arith, z, a)
                ] in
                let was = t.soon enough now.0 now.1 recent in
                let a = ap (λ (z : Image S R). applied_in z q) now.2 in
                let b = least q q_in in
                let d = most q q_in in
                let e = ap (λ (z : Image S R). applied_in z q) new.1 in
                omega (arith, was, a, b, d, e, called)
          ];
        }

        by : (stage : Stage I S R) → stage ≡ (local q).stage → IsStageAt object n g local q (local q) stage → IsStageAt object n g' local' q (local q) stage
        by Idle e s = (elim (drafted.told q q_in) [ inl t ↦ t ∙ s.0 | inr t ↦ absurd (let a = few Idle e in let b = s.0 in let d = t.1 in omega arith) ], s.1)
        by (Posting inv count) e s = (open_up inv (sym (few (Posting inv count) e)) s.0, s.1, s.2)
        by (Ready inv tries) e s = ((open_up inv (sym (few (Ready inv tries) e)) s.0.0, s.0.1), (let a = s.1 in omega arith))
        by (Reading inv tries count) e s = (
          (open_up inv (sym (few (Reading inv tries count) e)) s.0.0, s.0.1),
          trying_up tries (sym (few (Reading inv tries count) e)) s.0.0.least s.1,
          record {
            most = s.2.most;
            base = λ below. (let b = s.2.base below in record { come = up (base_of object n (local q)) b.come; least = b.least; fresh = λ z. absurd (stale (local q) h.reader z) });
            caught = λ z. absurd (stale (local q) h.reader z);
            lacks = s.2.lacks;
            own = s.2.own;
          },
        )
        by (Writing inv tries image count) e s = (
          (open_up inv (sym (few (Writing inv tries image count) e)) s.0.0, s.0.1),
          trying_up tries (sym (few (Writing inv tries image count) e)) s.0.0.least s.1,
          s.2,
          s.3,
          (λ z. absurd (stale (local q) h.reader z)),
        )

      mine' : IsAt object n g' local' p l'
      mine' =
          let rd = reader_up l its.reader in
          record {
            stage = (in_now ∙ sym longer, (let a = at_stage.0.0.few in let b = longer in omega arith));
            writer = record {
              last = come_new object n g local is.sound p p_in image drafted p open' acts2 l'.last (ap (λ k. k + 1) number_is) refl;
              present = λ e. ap (λ k. k + 1) number_is;
              written = inr (refl, (let a = its.writer.last.0 in let b = number_is in omega arith), up l.last its.writer.last);
              called = (let a = longer in omega arith);
              inv = λ e. absurd (let a = longer in omega (arith, e));
              made = (let a = longer in omega arith);
            };
            reader = record { long = rd.long; process = rd.process; known = rd.known; old = rd.old; called = rd.called; inv = rd.inv };
          }

      was_told : IsTold object n g local p l.own (Some inv)
      was_told = subst (λ z. IsTold object n g local p l.own z) pending_is (own_told object n g local p l l' local_is g.since is.sound.history p_in)

      taken : HasTaken object (agreed' object n g local is.sound p p_in image drafted) (record { process = p; nth = made_by l; inv = inv }) x
      taken = taken_then object n g local is.sound p p_in image drafted wide p l.own inv p_in was_told now x in_now reply.1

      acts_else : (q : ℕ) → q ≢ p → acts_by q acts2 ≡ acts_by q g.acts
      acts_else q apart = responded_other q p (made_by l) x (g.acts ++ map (λ c. Linearize c) (calls object n g local is.sound p p_in image drafted)) apart ∙ acts_lin object n g local is.sound p p_in image drafted q

      told_other : (q : ℕ) (own : List (Returned I R)) (pend : Option I) → q < n → q ≢ p → IsTold object n g local q own pend → IsTold object n g' local' q own pend
      told_other q _ None q_in apart h = (set_at_elsewhere g.atomic.open_call p None q apart ∙ h.0, h.1, acts_else q apart ∙ h.2)
      told_other q its (Some i) q_in apart h = (
        set_at_elsewhere g.atomic.open_call p None q apart ∙ h.0,
        h.1,
        acts_else q apart ∙ h.2,
        (λ y z come applied told. elim (from y come) [
          | inl old ↦ (let t = h.3 y z old applied told in still_taken object n g local is.sound p p_in image drafted (record { process = q; nth = length its; inv = i }) z t.0 y.number old.0 t.1)
          | inr new ↦
              let t = taken_then object n g local is.sound p p_in image drafted wide q its i q_in h now z (ap (λ (w : Image S R). applied_in w q) (sym new.1) ∙ applied) (ap (λ (w : Image S R). (row_in w q).reply) (sym new.1) ∙ told) in
              let b = place_before object n g local is.sound p p_in image drafted (record { process = q; nth = length its; inv = i }) z t in
              (t, subst (λ k. t.place < calls_then object n g local is.sound p p_in image drafted k) (sym new.0) b)
        ]),
      )

      told_own : IsTold object n g' local' p l'.own None
      told_own = (
        set_at_same g.atomic.open_call p None,
        was_told.1 ∙ sym longer,
        responded_own p (made_by l) x (g.acts ++ map (λ c. Linearize c) (calls object n g local is.sound p p_in image drafted)) ∙ ap (λ js. js ++ Respond p (made_by l) x ∷ []) (acts_lin object n g local is.sound p p_in image drafted p ∙ was_told.2)
            ∙ append_assoc (sequential_acts p 0 (map plain l.own)) (Invoke p (made_by l) inv ∷ []) (Respond p (made_by l) x ∷ [])
            ∙ sym (sequential_acts-snoc p 0 l.own (ending l inv x (number_in l.word + 1))
            ∙ (λ k. sequential_acts p 0 (map plain l.own) ++ Invoke p ((let z : made_by l + 0 ≡ made_by l = omega arith in z) k) inv ∷ Respond p ((let z : made_by l + 0 ≡ made_by l = omega arith in z) k) x ∷ [])),
      )

      history' : IsHistory object n g' local'
      history' =
          let was = is.sound.history in
          record {
            image = image_then object n g local is.sound p p_in image drafted;
            agreed = agreed_then object n g local is.sound p p_in image drafted wide;
            start = was.start;
            accepted = AcceptsAll-append object (at_start object.initial) (record g.atomic { agreed = agreed' object n g local is.sound p p_in image drafted }) g'.atomic (g.acts ++ map (λ c. Linearize c) (calls object n g local is.sound p p_in image drafted)) (Respond p (made_by l) x ∷ [])
                (accepted_then object n g local is.sound p p_in image drafted wide)
                (g'.atomic, ((inv, taken.place, was_told.0, taken.there, subst (λ z. response_at object z (map (λ c. c.inv) (agreed' object n g local is.sound p p_in image drafted)) taken.place ≡ Some x) (sym was.start) taken.reply_is), refl), refl);
            told = λ q q_in. elim (set_at-cases local p l' q) [
              | inl here ↦ subst (λ (z : Local I S R). IsTold object n g' local' q z.own (pending_of z.stage)) (sym here.1) (subst (λ k. IsTold object n g' local' k l'.own None) (sym here.0) told_own)
              | inr other ↦ subst (λ (z : Local I S R). IsTold object n g' local' q z.own (pending_of z.stage)) (sym other.1) (told_other q (local q).own (pending_of (local q).stage) q_in other.0 (was.told q q_in))
            ];
          }

      -- the order
      mine_ordered : IsOrdered object (agreed' object n g local is.sound p p_in image drafted) (calls_then object n g local is.sound p p_in image drafted) (g.number + 1) p l.after l.own
      mine_ordered = subst (λ (z : Local I S R). IsOrdered object (agreed' object n g local is.sound p p_in image drafted) (calls_then object n g local is.sound p p_in image drafted) (g.number + 1) p z.after z.own) local_is
          ((order1 object n g local is.sound p p_in image drafted).each p p_in)

      rises : l.after < number_in l.word + 1
      rises =
          let less = version_rises object n (agreed' object n g local is.sound p p_in image drafted) (calls_then object n g local is.sound p p_in image drafted) (g.number + 1) local (order1 object n g local is.sound p p_in image drafted)
          p l.after l.own mine_ordered inv x taken.place taken.there in
          (let a = number_is in omega (arith, less))

      order' : AreOrdered object n g' local'
      order' =
          let o = order1 object n g local is.sound p p_in image drafted in
          let returned = ordered_returned object n (agreed' object n g local is.sound p p_in image drafted) (calls_then object n g local is.sound p p_in image drafted) (g.number + 1) local o p l.after l.own mine_ordered inv x taken.place taken.there taken.reply_is
          (λ d has mine'. let b = (agreed_then object n g local is.sound p p_in image drafted wide d has).1 in let e : applied_in image d.process ≡ applied_in image p = ap (applied_in image) mine' in let f = in_now in omega arith) in
          let here : g.number + 1 ≡ number_in l.word + 1 = (let a = number_is in omega arith) in
          record {
            counted = o.counted;
            rising = o.rising;
            each = λ q q_in. elim (set_at-cases local p l' q) [
              | inl at_p ↦ subst (λ (z : Local I S R). IsOrdered object g'.atomic.agreed g'.calls_in g'.number q z.after z.own) (sym at_p.1) (subst (λ k. IsOrdered object g'.atomic.agreed g'.calls_in g'.number k l'.after l'.own) (sym at_p.0)
                  (subst (λ k. IsOrdered object g'.atomic.agreed g'.calls_in g'.number p k (l.own ++ record { inv = inv; reply = x; after = l.after; version = k } ∷ [])) here returned))
              | inr other ↦ subst (λ (z : Local I S R). IsOrdered object g'.atomic.agreed g'.calls_in g'.number q z.after z.own) (sym other.1) (o.each q q_in)
            ];
            followed = λ q q_in. elim (set_at-cases local p l' q) [
              | inl at_p ↦ subst (λ (z : Local I S R). HasFollowed z.after z.own) (sym at_p.1) (followed_more l.own l.after (ending l inv x (number_in l.word + 1)) (subst (λ (z : Local I S R). HasFollowed z.after z.own) local_is (is.sound.order.followed p p_in)) (let a = rises in omega arith))
              | inr other ↦ subst (λ (z : Local I S R). HasFollowed z.after z.own) (sym other.1) (is.sound.order.followed q q_in)
            ];
          }

      hit : ShowsNext meaning o n g local seat_of (record { words = set_at c.words 0 new; buffers = c.buffers; views = slice_set c.views id (with_local v l') }) p l' (map (λ d. Linearize d) (calls object n g local is.sound p p_in image drafted) ++ Respond p (made_by l) x ∷ [])
      hit = shown_with meaning o n id v alone c g local seat_of is at l' g' (map (λ d. Linearize d) (calls object n g local is.sound p p_in image drafted) ++ Respond p (made_by l) x ∷ []) (append_assoc g.acts (map (λ d. Linearize d) (calls object n g local is.sound p p_in image drafted)) (Respond p (made_by l) x ∷ [])) (set_at c.words 0 new) c.buffers (set_at_same c.words 0 new ∙ ap (λ k. word_of (k + 1) p) number_is) (buffers_same meaning o n id v alone c g local seat_of is at l' refl posted_was)
          (sound_with object n g g' local p l' is.sound board' others' mine' history' order')

    told_play : (found : ℕ) (w : View O I S R) → (found ≡ l.word → (z : R) × ((row_in image p).reply ≡ Some z) × (l.after < number_in l.word + 1) × (w ≡ with_local v (brought l inv z image))) → (found ≢ l.word → w ≡ with_local v (missed l inv tries image)) → HasBrought v found w
    told_play found w in_it out_of_it inv' tries' image' stage' =
        let e : Writing inv tries image n ≡ Writing inv' tries' image' v.known.processes = sym stage ∙ stage' in
        let e0 : inv ≡ inv' = cc in
        let e1 : tries ≡ tries' = cc in
        let e2 : image ≡ image' = cc in (
          (λ hit. let y = in_it hit in (y.0, ap (λ (z : Image S R). (row_in z p).reply) (sym e2) ∙ y.1, y.2, y.3 ∙ (λ k. with_local v (brought l (e0 k) y.0 (e2 k))))),
          (λ miss. out_of_it miss ∙ (λ k. with_local v (missed l (e0 k) (e1 k) (e2 k)))),
        )

    -- the acts of it
    abbrev MakesBring : ℕ → View O I S R → List (Act I R) → Type 0
    MakesBring found w acts =
        (found ≡ l.word → (batch : HasBatch (meaning o) n g local image) × (acts ≡ map (λ d. Linearize d) batch.calls ++ returned_by v w))
        × (found ≢ l.word → acts ≡ [])

    -- it is a step of an execution, by which S becomes this
    abbrev IsStepTo : (becomes : ℕ) → View O I S R → List (Act I R) → Type 0
    IsStepTo becomes w acts = IsStep (meaning o) n (moment_of c local) p l (record { word = becomes; buffers = c.buffers; leaves = w.known.local; acts = acts })

    step_hit : (e : c.words 0 ≡ l.word) → IsStepTo new (with_local v (l' e)) (map (λ d. Linearize d) (drafted e).batch.calls ++ Respond p (made_by l) (x e) ∷ [])
    step_hit e = (
      Bring inv tries image (x e) stage e (reply e).1,
      (λ k. record {
        word = new;
        buffers = c.buffers;
        leaves = brought l inv (x e) image;
        acts = map (λ d. Linearize d) (effects_are (meaning o) n g local is.sound image (drafted e).batch (present_in (moment_of c local)).image (present_is meaning o n g local seat_of c is) k) ++ Respond p (made_by l) (x e) ∷ [];
      }),
    )

    out : (w : View O I S R) × (acts : List (Act I R)) × ShowsNext meaning o n g local seat_of (with_word (λ found. either (found == l.word) new found) id c w) p w.known.local acts × MakesBring (c.words 0) w acts × HasBrought v (c.words 0) w
        × IsStepTo (either (c.words 0 == l.word) new (c.words 0)) w acts
    out = exchanged (c.words 0) l.word new (λ y. (w : View O I S R) × (acts : List (Act I R)) × ShowsNext meaning o n g local seat_of (record { words = set_at c.words 0 y; buffers = c.buffers; views = slice_set c.views id w }) p w.known.local acts × MakesBring (c.words 0) w acts × HasBrought v (c.words 0) w × IsStepTo y w acts)
        (λ e. (
          with_local v (l' e),
          _,
          hit e,
          ((λ z. ((drafted e).batch, ap (λ rs. map (λ d. Linearize d) ((drafted e).batch).calls ++ rs) (ap (responses p (made_by l)) (sym (drop_past l.own _))))), (λ z. absurd (z e))),
          told_play (c.words 0) (with_local v (l' e)) (λ z. (x e, (reply e).1, rises e, refl)) (λ z. absurd (z e)),
          step_hit e,
        ))
        (λ z. (
          with_local v (missed l inv tries image),
          [],
          miss z,
          ((λ e. absurd (z e)), (λ y. refl)),
          told_play (c.words 0) (with_local v (missed l inv tries image)) (λ e. absurd (z e)) (λ y. refl),
          (Fail inv tries image stage z, refl),
        ))

  pub brings_move : Moves meaning o n id v (with_word (λ found. either (found == l.word) new found) id) (λ g local c w acts. (c.words 0 ≡ l.word → (batch : HasBatch (meaning o) n g local image) × (acts ≡ map (λ d. Linearize d) batch.calls ++ returned_by v w))
      × (c.words 0 ≢ l.word → acts ≡ [])) (λ c w. HasBrought v (c.words 0) w)
  brings_move c g local seat_of is at = out c g local seat_of is at

  pub brings : AllowsChange (ShowsBoard meaning o n) id v 0 (λ found. either (found == l.word) new found) (HasBrought v)
  brings c shown at = keeps_rule meaning o n id v alone (with_word (λ found. either (found == l.word) new found) id) _ _ brings_move c shown at
