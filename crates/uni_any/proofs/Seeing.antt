-- A process takes what another one wrote for it last: what it has seen then.
use Rattle.uni_any.proofs.Vocabulary.{Board, Contents, HasCome, HasLast, Idle, IsAt, IsReader, IsShown, IsStageAt, IsWriter, Letter, List, Local, None, Option, Posting, Reading, Ready, Sequential, Some, Stage, Told, Version, View, Writing, announced_at, ap, arith, base_of, begun, called_by, first_told, found_in, get_elem?, inl, inr, known_then, length, length-set, local_of, lt_cases, made_by, number_cases, number_in, pending_of, posted, posted_at, process_in, refl, seen_of, slice_set, some, subst, sym, with_seen, word_of, ℕ, ◌+◌, ◌<◌, ◌∙◌, ◌≡◌, ◌≢◌, ◌≤◌}
use Rattle.std.proofs.lemmas.List.{set-get_or}
use Rattle.uni_any.proofs.Framing.{mine, own, seen_else, seen_now}
use Rattle.uni_any.proofs.Starting.{present_image}

-- what a process takes, and what it knows then
pub seen_took : {S I R : Type 0} (object : Sequential S I R) (n : ℕ) (l : Local I S R) (r : ℕ) (found : Option (Letter I S R)) → (with_seen l r found).seen ≡ slice_set l.seen r (known_then found (seen_of object n l r))
seen_took object n l r None = sym (set-get_or l.seen r (first_told object n))
seen_took object n l r (Some letter) = refl

-- what a process has written last
module _ {S I R : Type 0} (object : Sequential S I R) (n : ℕ) (g : Board I S R) (local : ℕ → Local I S R) (q : ℕ) (l : Local I S R) (at : IsAt object n g local q l) (r : ℕ) (r_in : r < n) where
  abbrev Facts : (made : ℕ) → Stage I S R → Told I S R → Type 0
  Facts made stage t = (t.call ≤ begun made (pending_of stage)) × (t.call ≡ made + 1 → t.inv ≡ pending_of stage) × (announced_at n made stage ≤ t.call) × HasLast object n g local l t

  pub posted_facts : Facts (made_by l) l.stage (posted l r)
  posted_facts = by l.stage refl at.stage where
    w : IsWriter object n g local q l
    w = at.writer

    by : (stage : Stage I S R) → stage ≡ l.stage → IsStageAt object n g local q l stage → Facts (made_by l) stage (posted_at l stage r)
    by Idle same h = (subst (λ s. l.written.call ≤ begun (made_by l) (pending_of s)) (sym same) w.called, (λ e. w.inv e ∙ sym (ap pending_of same)), w.made, w.written)
    by (Posting inv count) same h = elim (lt_cases r count) [
      | inl e ↦ rw e.1 ((omega arith), (λ z. refl), announced_most inv count, inl refl)
      | inr e ↦ rw e.1 (
        subst (λ s. l.written.call ≤ begun (made_by l) (pending_of s)) (sym same) w.called,
        (λ z. w.inv z ∙ sym (ap pending_of same)),
        announced_made inv count (let a = e.0 in omega (arith, r_in)),
        w.written,
      )
    ] where
      announced_most : (inv : I) (count : ℕ) → announced_at {S = S} {R = R} n (made_by l) (Posting inv count) ≤ made_by l + 1
      announced_most inv count = elim (number_cases count n) [ inl e ↦ rw e.1 (omega arith) | inr e ↦ rw e.1 (omega arith) ]

      announced_made : (inv : I) (count : ℕ) → count < n → announced_at {S = S} {R = R} n (made_by l) (Posting inv count) ≤ l.written.call
      announced_made inv count less = elim (number_cases count n) [ inl e ↦ absurd (omega (arith, e.0, less)) | inr e ↦ rw e.1 w.made ]
    by (Ready inv tries) same h = (subst (λ s. l.written.call ≤ begun (made_by l) (pending_of s)) (sym same) w.called, (λ e. w.inv e ∙ sym (ap pending_of same)), (let a = h.0.1 in omega arith), w.written)
    by (Reading inv tries count) same h = (subst (λ s. l.written.call ≤ begun (made_by l) (pending_of s)) (sym same) w.called, (λ e. w.inv e ∙ sym (ap pending_of same)), (let a = h.0.1 in omega arith), w.written)
    by (Writing inv tries image count) same h = elim (lt_cases r count) [
      | inl e ↦ rw e.1 ((omega arith), (λ z. refl), (omega arith), inl refl)
      | inr e ↦ rw e.1 (subst (λ s. l.written.call ≤ begun (made_by l) (pending_of s)) (sym same) w.called, (λ z. w.inv z ∙ sym (ap pending_of same)), (let a = h.0.1 in omega arith), w.written)
    ]

-- the version that is found in what a process told has come, since it has brought in one at least as late
pub version_found : {S I R : Type 0} (object : Sequential S I R) (n : ℕ) (g : Board I S R) (local : ℕ → Local I S R) (l : Local I S R) (t : Told I S R) (v : ℕ) → HasLast object n g local l t → HasCome object n g l.last → v ≤ l.last.number
    → HasCome object n g (found_in t v) × (v ≤ (found_in t v).number)
version_found object n g local l t v has come least = elim (lt_cases t.last.number v) [
  | inl e ↦ rw e.1 (elim has [
    | inl same ↦ absurd (let a = e.0 in let b = ap (λ (z : Version _ _). z.number) same in omega (arith, least))
    | inr next ↦ (subst (HasCome object n g) (sym next.0) come, (let b = ap (λ (z : Version _ _). z.number) next.0 in omega (arith, least)))
  ])
  | inr e ↦ rw e.1 (elim has [
    | inl same ↦ (subst (HasCome object n g) (sym same) come, e.0)
    | inr next ↦ (next.2, e.0)
  ])
]

module _ {O I S R : Type 0} (meaning : O → Sequential S I R) (o : O) (n id : ℕ) (v : View O I S R) (alone : v.known.count ≡ 1) (r : ℕ) (r_in : r < n) (plain : (q : ℕ) → posted (local_of v) q ≡ (local_of v).written) where
  abbrev l : Local I S R
  l = local_of v

  abbrev p : ℕ
  p = v.known.first

  module _ (c : Contents (Letter I S R) (View O I S R)) (g : Board I S R) (local : ℕ → Local I S R) (seat_of : ℕ → ℕ) (is : IsShown n meaning o g local seat_of c) (at : get_elem? c.views id ≡ some v) where
    abbrev object : Sequential S I R
    object = meaning o

    abbrev found : Option (Letter I S R)
    found = c.buffers r p

    abbrev pub l1 : Local I S R
    l1 = with_seen l r found

    pub p_in : p < n
    p_in = (own meaning o n id v alone c g local seat_of is at).0

    pub local_is : local p ≡ l
    local_is = (own meaning o n id v alone c g local seat_of is at).2

    pub its : IsAt object n g local p l
    its = mine meaning o n id v alone c g local seat_of is at

    -- all but what it has seen is as it was
    pub same_1 : (l1.stage ≡ l.stage) × (l1.own ≡ l.own) × (l1.word ≡ l.word) × (l1.last ≡ l.last) × (l1.written ≡ l.written) × (l1.after ≡ l.after)
    same_1 = by found where
      by : (f : Option (Letter I S R)) → ((with_seen l r f).stage ≡ l.stage) × ((with_seen l r f).own ≡ l.own) × ((with_seen l r f).word ≡ l.word) × ((with_seen l r f).last ≡ l.last) × ((with_seen l r f).written ≡ l.written) × ((with_seen l r f).after ≡ l.after)
      by None = (refl, refl, refl, refl, refl, refl)
      by (Some letter) = (refl, refl, refl, refl, refl, refl)

    -- the same with its fields as they were
    abbrev pub seen' : List (Told I S R)
    seen' = slice_set l.seen r (known_then found (seen_of object n l r))

    abbrev pub l2 : Local I S R
    l2 = record l { seen = seen' }

    pub l1_is : l1 ≡ l2
    l1_is = by found where
      by : (f : Option (Letter I S R)) → with_seen l r f ≡ record l { seen = slice_set l.seen r (known_then f (seen_of object n l r)) }
      by None = (λ k. record l { seen = sym (set-get_or l.seen r (first_told object n)) k })
      by (Some letter) = refl

    pub long : r < length l.seen
    long = (let a = its.reader.long in omega (arith, r_in))

    -- what it knows of process r then, and of the others
    pub now_r : seen_of object n l2 r ≡ posted (local r) p
    now_r = seen_now meaning o n id v alone c g local seat_of is at (record l2 { stage = Idle }) r r_in long refl (λ q q_in. sym (plain q))

    pub else_q : (q : ℕ) → q ≢ r → seen_of object n l2 q ≡ seen_of object n l q
    else_q = seen_else meaning o n id v alone c g local seat_of is at (record l2 { stage = Idle }) r r_in long refl (λ q q_in. sym (plain q))

    facts_r : (posted (local r) p).call ≤ called_by (local r)
    facts_r = (posted_facts object n g local r (local r) (is.sound.each r r_in) p p_in).0

    pub reader2 : IsReader object n g local l2
    reader2 =
        let h = its.reader in
        record {
          long = length-set l.seen r _ ∙ h.long;
          process = h.process;
          known = h.known;
          old = h.old;
          called = λ q q_in. elim (number_cases q r) [
            | inl same ↦ subst (λ j. (seen_of object n l2 j).call ≤ called_by (local j)) (sym same.0) (subst (λ (t : Told I S R). t.call ≤ called_by (local r)) (sym now_r) facts_r)
            | inr other ↦ subst (λ (t : Told I S R). t.call ≤ called_by (local q)) (sym (else_q q other.0)) (h.called q q_in)
          ];
          inv = λ q q_in. elim (number_cases q r) [
            | inl same ↦ subst (λ j. (seen_of object n l2 j).call ≡ made_by (local j) + 1 → (seen_of object n l2 j).inv ≡ pending_of (local j).stage) (sym same.0)
                (subst (λ (t : Told I S R). t.call ≡ made_by (local r) + 1 → t.inv ≡ pending_of (local r).stage) (sym now_r) (posted_facts object n g local r (local r) (is.sound.each r r_in) p p_in).1)
            | inr other ↦ subst (λ (t : Told I S R). t.call ≡ made_by (local q) + 1 → t.inv ≡ pending_of (local q).stage) (sym (else_q q other.0)) (h.inv q q_in)
          ];
        }

    pub fresh_of : (x : Version S R) → HasCome object n g x → number_in l.word ≤ x.number → l.word ≡ word_of g.number g.process → (x.number ≡ g.number) × (x.image ≡ g.image)
    fresh_of x come least same =
        let number_is : number_in l.word ≡ g.number = (let b = is.sound.board.process in let d = is.few.1 in let e : number_in l.word ≡ number_in (word_of g.number g.process) = ap number_in same in omega (arith, b, d, e)) in
        ((let a = come.0 in omega (arith, least, number_is)), present_image object n g local is.sound.history is.sound.order x come (omega (arith, least, number_is)))

    -- the version that is found in what the process that S named wrote has come, and is no older
    pub found_here : process_in l.word ≡ r → HasCome object n g (base_of object n l2) × (number_in l.word ≤ (base_of object n l2).number)
    found_here same =
        let t = posted (local r) p in
        let has = (posted_facts object n g local r (local r) (is.sound.each r r_in) p p_in).3 in
        let known : number_in l.word ≤ (local r).last.number = subst (λ j. number_in l.word ≤ (local j).last.number) same its.reader.known in
        let x = version_found object n g local (local r) t (number_in l.word) has (is.sound.each r r_in).writer.last known in
        let here : base_of object n l2 ≡ found_in t (number_in l.word) = ap (λ j. found_in (seen_of object n l2 j) (number_in l.word)) same ∙ ap (λ z. found_in z (number_in l.word)) now_r in
        subst (λ z. HasCome object n g z × (number_in l.word ≤ z.number)) (sym here) x
