-- A process goes on, at the same version: what holds of the others stays.
use Rattle.uni_any.proofs.Vocabulary.{Act, Board, HasBatch, HasDrafted, HasLooked, IsAt, IsBoard, IsOpen, IsReader, IsStageAt, IsTrying, IsWriter, Idle, Invoked, List, Local, Option, Posting, Reading, Ready, Sequential, Some, Stage, Told, Writing, announced_by, ap, arith, called_by, in_of, inl, inr, made_by, pending_of, process_in, seen_of, set_at, set_at-cases, set_at_elsewhere, subst, sym, ℕ, ◌+◌, ◌<◌, ◌∙◌, ◌≡◌, ◌≢◌, ◌≤◌, ◌⊎◌}

-- what a process was told of another one's calls holds once that one goes on
abbrev pub KeepsCalls : {I S R : Type 0} → Local I S R → Local I S R → Type 0
KeepsCalls {I} {S} {R} l l' =
    (t : Told I S R) → t.call ≤ called_by l → (t.call ≡ made_by l + 1 → t.inv ≡ pending_of l.stage)
    → (t.call ≤ called_by l') × (t.call ≡ made_by l' + 1 → t.inv ≡ pending_of l'.stage)

module _ {S I R : Type 0} (object : Sequential S I R) (n : ℕ) (g : Board I S R) (local : ℕ → Local I S R) (p : ℕ) (l l' : Local I S R) (is : local p ≡ l)
    (since' : ℕ → ℕ) (open' : ℕ → Option (Invoked I)) (next' : ℕ → ℕ) (acts' : List (Act I R)) where
  abbrev pub later : Board I S R
  later = record g { since = since'; atomic = record g.atomic { open_call = open'; next_nth = next' }; acts = acts' }

  abbrev pub locals : ℕ → Local I S R
  locals = set_at local p l'

  module _ (since_else : (q : ℕ) → q ≢ p → since' q ≡ g.since q) (announced_on : since' p < g.number → (since' p ≡ g.since p) × (announced_by n l' ≡ announced_by n l)) (last_less : l.last.number ≤ l'.last.number)
      (keeps : KeepsCalls l l') (told_on : called_by l ≡ in_of g p + 1 → called_by l' ≡ in_of g p + 1)
      (asked_on : (inv : I) → in_of g p ≡ made_by l → pending_of l.stage ≡ Some inv → (made_by l' ≡ made_by l) × (pending_of l'.stage ≡ Some inv)) where
    -- what is known of process q
    local_cases : (q : ℕ) → ((q ≡ p) × (local q ≡ l) × (locals q ≡ l')) ⊎ ((q ≢ p) × (locals q ≡ local q))
    local_cases q = elim (set_at-cases local p l' q) [ inl here ↦ inl (here.0, ap local here.0 ∙ is, here.1) | inr other ↦ inr other ]

    pub reader_stays : (r : Local I S R) → IsReader object n g local r → IsReader object n later locals r
    reader_stays r h = record {
      long = h.long;
      process = h.process;
      known = elim (local_cases (process_in r.word)) [
        | inl here ↦ (let k = h.known in let a = ap (λ (z : Local I S R). z.last.number) here.1 in let b = ap (λ (z : Local I S R). z.last.number) here.2 in omega (arith, last_less))
        | inr other ↦ (let k = h.known in let a = ap (λ (z : Local I S R). z.last.number) other.1 in omega arith)
      ];
      old = h.old;
      called = λ q q_in. (calls q q_in).0;
      inv = λ q q_in. (calls q q_in).1;
    } where
      calls : (q : ℕ) → q < n → ((seen_of object n r q).call ≤ called_by (locals q)) × ((seen_of object n r q).call ≡ made_by (locals q) + 1 → (seen_of object n r q).inv ≡ pending_of (locals q).stage)
      calls q q_in = elim (local_cases q) [
        | inl here ↦
            let t = seen_of object n r q in
            let was = keeps t (subst (λ (z : Local I S R). t.call ≤ called_by z) here.1 (h.called q q_in)) (subst (λ (z : Local I S R). t.call ≡ made_by z + 1 → t.inv ≡ pending_of z.stage) here.1 (h.inv q q_in)) in
            subst (λ (z : Local I S R). (t.call ≤ called_by z) × (t.call ≡ made_by z + 1 → t.inv ≡ pending_of z.stage)) (sym here.2) was
        | inr other ↦
            let t = seen_of object n r q in
            subst (λ (z : Local I S R). (t.call ≤ called_by z) × (t.call ≡ made_by z + 1 → t.inv ≡ pending_of z.stage)) (sym other.1) (h.called q q_in, h.inv q q_in)
      ]

    -- what was announced before the present version
    caught_on : (r : ℕ) → r ≢ p → (q k : ℕ) → ((q ≡ r) ⊎ (g.since q < g.number) → announced_by n (local q) ≤ k) → (q ≡ r) ⊎ (since' q < g.number) → announced_by n (locals q) ≤ k
    caught_on r apart q k was which = elim (local_cases q) [
      | inl here ↦ elim which [
        | inl own ↦ absurd (apart (sym own ∙ here.0))
        | inr before ↦
            let at : since' p < g.number = subst (λ i. since' i < g.number) here.0 before in
            let a = announced_on at in
            let old = was (inr (let e = ap since' here.0 in let d = ap g.since here.0 in let x = a.0 in omega (arith, at))) in
            (let b = a.1 in let c = ap (λ (z : Local I S R). announced_by n z) here.1 in let d = ap (λ (z : Local I S R). announced_by n z) here.2 in omega (arith, old))
      ]
      | inr other ↦
          let old = was (elim which [ inl own ↦ inl own | inr before ↦ inr (let e = since_else q other.0 in omega (arith, before)) ]) in
          (let a = ap (λ (z : Local I S R). announced_by n z) other.1 in omega (arith, old))
    ]

    pub looked_stays : (q : ℕ) → q ≢ p → (r : Local I S R) (count : ℕ) → HasLooked object n g local q r count → HasLooked object n later locals q r count
    looked_stays q apart r count h = record {
      most = h.most;
      base = λ below. (let b = h.base below in record { come = b.come; least = b.least; fresh = b.fresh });
      caught = λ same z below which. caught_on q apart z _ (h.caught same z below) which;
      lacks = h.lacks;
      own = h.own;
    }

    batch_stays : (image : _) → HasBatch object n g local image → HasBatch object n later locals image
    batch_stays image h = record {
      calls = h.calls;
      image_is = h.image_is;
      rising = h.rising;
      below = h.below;
      asked = λ c has.
          let a = h.asked c has in
          elim (local_cases c.process) [
            | inl here ↦
                let made : c.nth ≡ made_by l = a.1 ∙ ap (λ (y : Local I S R). made_by y) here.1 in
                let pend : pending_of l.stage ≡ Some c.inv = ap (λ (y : Local I S R). pending_of y.stage) (sym here.1) ∙ a.2 in
                let in_is : in_of g p ≡ made_by l = ap (in_of g) (sym here.0) ∙ sym a.0 ∙ made in
                let on = asked_on c.inv in_is pend in
                (a.0, made ∙ sym on.0 ∙ ap (λ (y : Local I S R). made_by y) (sym here.2), ap (λ (y : Local I S R). pending_of y.stage) here.2 ∙ on.1)
            | inr other ↦ (a.0, a.1 ∙ ap (λ (y : Local I S R). made_by y) (sym other.1), ap (λ (y : Local I S R). pending_of y.stage) other.1 ∙ a.2)
          ];
    }

    pub drafted_stays : (q : ℕ) → q ≢ p → (image : _) → HasDrafted object n g local q image → HasDrafted object n later locals q image
    drafted_stays q apart image h = record {
      told = λ z z_in. elim (h.told z z_in) [
        | inl e ↦ inl e
        | inr d ↦ inr (
          d.0,
          elim (local_cases z) [
            | inl here ↦
                let before : called_by l ≡ in_of g p + 1 = ap (λ (y : Local I S R). called_by y) (sym here.1) ∙ d.1 ∙ ap (λ i. in_of g i + 1) here.0 in
                ap (λ (y : Local I S R). called_by y) here.2 ∙ told_on before ∙ ap (λ i. in_of g i + 1) (sym here.0)
            | inr other ↦ ap (λ (y : Local I S R). called_by y) other.1 ∙ d.1
          ],
        )
      ];
      caught = λ z z_in which. caught_on q apart z _ (h.caught z z_in) which;
      lacks = h.lacks ∙ ap (λ (y : Local I S R). made_by y) (sym (set_at_elsewhere local p l' q apart));
      batch = batch_stays image h.batch;
    }

    -- the same of the process itself, where it has announced what it had
    pub drafted_same : announced_by n l' ≡ announced_by n l → since' p ≡ g.since p → made_by l' ≡ made_by l → (q : ℕ) (image : _) → HasDrafted object n g local q image → HasDrafted object n later locals q image
    drafted_same announced since_same made q image h = record {
      told = λ z z_in. elim (h.told z z_in) [
        | inl e ↦ inl e
        | inr d ↦ inr (
          d.0,
          elim (local_cases z) [
            | inl here ↦
                let before : called_by l ≡ in_of g p + 1 = ap (λ (y : Local I S R). called_by y) (sym here.1) ∙ d.1 ∙ ap (λ i. in_of g i + 1) here.0 in
                ap (λ (y : Local I S R). called_by y) here.2 ∙ told_on before ∙ ap (λ i. in_of g i + 1) (sym here.0)
            | inr other ↦ ap (λ (y : Local I S R). called_by y) other.1 ∙ d.1
          ],
        )
      ];
      caught = λ z z_in which. elim (local_cases z) [
        | inl here ↦
            let since_is : since' z ≡ g.since z = ap since' here.0 ∙ since_same ∙ ap g.since (sym here.0) in
            let old = h.caught z z_in (elim which [ inl own ↦ inl own | inr before ↦ inr (omega (arith, before, since_is)) ]) in
            (let c = ap (λ (y : Local I S R). announced_by n y) here.1 in let d = ap (λ (y : Local I S R). announced_by n y) here.2 in omega (arith, old, announced))
        | inr other ↦
            let old = h.caught z z_in (elim which [ inl own ↦ inl own | inr before ↦ inr (let e = since_else z other.0 in omega (arith, before)) ]) in
            (let a = ap (λ (y : Local I S R). announced_by n y) other.1 in omega (arith, old))
      ];
      lacks = h.lacks ∙ elim (local_cases q) [
        | inl here ↦ ap (λ (y : Local I S R). made_by y) here.1 ∙ sym made ∙ ap (λ (y : Local I S R). made_by y) (sym here.2)
        | inr other ↦ ap (λ (y : Local I S R). made_by y) (sym other.1)
      ];
      batch = batch_stays image h.batch;
    }

    pub writer_stays : (q : ℕ) (w : Local I S R) → IsWriter object n g local q w → IsWriter object n later locals q w
    writer_stays q w h = record { last = h.last; present = h.present; written = h.written; called = h.called; inv = h.inv; made = h.made }

    open_stays : (q : ℕ) (w : Local I S R) (inv : I) → IsOpen object n g local q w inv → IsOpen object n later locals q w inv
    open_stays q w inv h = record { few = h.few; least = h.least; most = h.most }

    trying_stays : (q : ℕ) → q ≢ p → (w : Local I S R) (tries : ℕ) → IsTrying object n g local q w tries → IsTrying object n later locals q w tries
    trying_stays q apart w tries h = record { later = (let a = h.later in let b = since_else q apart in omega arith); least = h.least; soon = h.soon }

    stage_stays : (q : ℕ) → q ≢ p → (w : Local I S R) (stage : Stage I S R) → IsStageAt object n g local q w stage → IsStageAt object n later locals q w stage
    stage_stays q apart w Idle h = h
    stage_stays q apart w (Posting inv count) h = (open_stays q w inv h.0, h.1, h.2)
    stage_stays q apart w (Ready inv tries) h = ((open_stays q w inv h.0.0, h.0.1), (let a = h.1 in let b = since_else q apart in omega arith))
    stage_stays q apart w (Reading inv tries count) h = ((open_stays q w inv h.0.0, h.0.1), trying_stays q apart w tries h.1, looked_stays q apart w count h.2)
    stage_stays q apart w (Writing inv tries image count) h = ((open_stays q w inv h.0.0, h.0.1), trying_stays q apart w tries h.1, h.2, h.3, (λ same. drafted_stays q apart image (h.4 same)))

    pub others_stay : (q : ℕ) → q ≢ p → IsAt object n g local q (local q) → IsAt object n later locals q (local q)
    others_stay q apart h = record { stage = stage_stays q apart (local q) (local q).stage h.stage; writer = writer_stays q (local q) h.writer; reader = reader_stays (local q) h.reader }

    pub board_stays : called_by l ≤ called_by l' → since' p ≤ g.number → IsBoard object n g local → IsBoard object n later locals
    board_stays more past h = record {
      process = h.process;
      whole = h.whole;
      rises = h.rises;
      in_most = λ q q_in. elim (local_cases q) [
        | inl here ↦ (let a = h.in_most q q_in in let b = ap (λ (z : Local I S R). called_by z) here.1 in let c = ap (λ (z : Local I S R). called_by z) here.2 in omega (arith, more))
        | inr other ↦ (let a = h.in_most q q_in in let b = ap (λ (z : Local I S R). called_by z) other.1 in omega arith)
      ];
      soon = λ q q_in late. elim (local_cases q) [
        | inl here ↦
            let at : since' p + 2 ≤ g.number = subst (λ i. since' i + 2 ≤ g.number) here.0 late in
            let a = announced_on (omega (arith, at)) in
            let old = h.soon q q_in (let e = ap g.since here.0 in let x = a.0 in omega (arith, at)) in
            (let b = a.1 in let c = ap (λ (z : Local I S R). announced_by n z) here.1 in let d = ap (λ (z : Local I S R). announced_by n z) here.2 in omega (arith, old))
        | inr other ↦
            let old = h.soon q q_in (let e = since_else q other.0 in omega (arith, late)) in
            (let a = ap (λ (z : Local I S R). announced_by n z) other.1 in omega (arith, old))
      ];
      past = λ q q_in. elim (local_cases q) [
        | inl here ↦ (let e = ap since' here.0 in omega (arith, past))
        | inr other ↦ (let e = since_else q other.0 in let a = h.past q q_in in omega arith)
      ];
      versions = h.versions;
    }
