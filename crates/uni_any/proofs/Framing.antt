-- A step of a seat of one process keeps the rule: what has to be shown of the board and of its process.
use Rattle.uni_any.proofs.Vocabulary.{IsStep, Moves, moment_of, Act, AreOrdered, Board, Contents, IsAt, IsBoard, IsHistory, IsShown, IsSound, Letter, Local, None, Option, Sequential, ShowsBoard, Some, Tells, View, ap, arith, at_set, first_told, get_elem?, get_or-set_other, get_or-set_same, inl, inr, known_then, length, posted, seen_of, set, set_at, set_at-cases, set_at_elsewhere, set_at_same, slice_index_or, slice_set, some, subst, sym, told_by, with_local, with_value, word_of, ℕ, ⊎_elim, ◌<◌, ◌∙◌, ◌≡◌, ◌≢◌, ◌⊎◌, List, ShowsNext, drop, refl, [], ◌∷◌, ◌++◌}
use Rattle.triple_buffers.proofs.Flipping.{value_cases}
use Rattle.uni_model.proofs.Executions.{runs_on}
use Rattle.uni_any.specs.Execution.{CanTake, Effect, acts_of, after, changed}

-- one process gets another local, and the others stay where they are
pub sound_with : {S I R : Type 0} (object : Sequential S I R) (n : ℕ) (g g' : Board I S R) (local : ℕ → Local I S R) (p : ℕ) (l' : Local I S R) → IsSound object n g local
    → IsBoard object n g' (set_at local p l') → ((q : ℕ) → q < n → q ≢ p → IsAt object n g local q (local q) → IsAt object n g' (set_at local p l') q (local q)) → IsAt object n g' (set_at local p l') p l'
    → IsHistory object n g' (set_at local p l') → AreOrdered object n g' (set_at local p l') → IsSound object n g' (set_at local p l')
sound_with object n g g' local p l' sound board others mine history order = record {
  board = board;
  history = history;
  order = order;
  each = λ q inside. elim (set_at-cases local p l' q) [
    | inl here ↦ subst (λ l. IsAt object n g' (set_at local p l') q l) (sym here.1) (subst (λ k. IsAt object n g' (set_at local p l') k l') (sym here.0) mine)
    | inr other ↦ subst (λ l. IsAt object n g' (set_at local p l') q l) (sym other.1) (others q inside other.0 (sound.each q inside))
  ];
}

module _ {O I S R : Type 0} (meaning : O → Sequential S I R) (o : O) (n id : ℕ) (v : View O I S R) (alone : v.known.count ≡ 1) where
  abbrev p : ℕ
  p = v.known.first

  abbrev l : Local I S R
  l = v.known.local

  module _ (c : Contents (Letter I S R) (View O I S R)) (g : Board I S R) (local : ℕ → Local I S R) (seat_of : ℕ → ℕ) (is : IsShown n meaning o g local seat_of c) (at : get_elem? c.views id ≡ some v) where
    tells : Tells n o local seat_of id v
    tells = is.seats id v at

    pub own : (p < n) × (seat_of p ≡ id) × (local p ≡ l)
    own = tells.each p (omega arith) (omega (arith, alone))

    pub mine : IsAt (meaning o) n g local p l
    mine = subst (λ z. IsAt (meaning o) n g local p z) own.2 (is.sound.each p own.0)

    pub object_is : v.object ≡ o
    object_is = tells.object

    pub processes_is : v.known.processes ≡ n
    processes_is = tells.processes

    module _ (l' : Local I S R) where
      abbrev locals : ℕ → Local I S R
      locals = set_at local p l'

      seats_later : (j : ℕ) (u : View O I S R) → get_elem? (set c.views id (with_local v l')) j ≡ some u → Tells n o locals seat_of j u
      seats_later j u e = ⊎_elim
          (λ (h : (j ≡ id) × (with_local v l' ≡ u)).
          subst (λ (z : View O I S R). Tells n o locals seat_of j z) h.1 (record {
            object = tells.object;
            processes = tells.processes;
            each = λ q from below.
                let here : q ≡ p = omega (arith, from, below, alone) in (
                  subst (λ k. k < n) (sym here) own.0,
                  ap seat_of here ∙ own.1 ∙ sym h.0,
                  ap locals here ∙ set_at_same local p l',
                );
          }))
          (λ (h : (j ≢ id) × (get_elem? c.views j ≡ some u)).
          let theirs = is.seats j u h.1 in
          record {
            object = theirs.object;
            processes = theirs.processes;
            each = λ q from below.
                let one = theirs.each q from below in
                let apart : q ≢ p = (λ same. h.0 (sym one.1 ∙ ap seat_of same ∙ own.1)) in (
                  one.0,
                  one.1,
                  set_at_elsewhere local p l' q apart ∙ one.2,
                );
          })
          (at_set c.views id j (with_local v l') u e)

      -- each buffer has what its writer wrote last, or its reader has taken it
      abbrev pub AreBuffers : (ℕ → ℕ → Option (Letter I S R)) → Type 0
      AreBuffers buffers = (from to : ℕ) → from < n → to < n → known_then (buffers from to) (seen_of (meaning o) n (locals to) from) ≡ posted (locals from) to

      pub shown_with : (g' : Board I S R) (acts : List (Act I R)) → g'.acts ≡ g.acts ++ acts → (words : ℕ → ℕ) (buffers : ℕ → ℕ → Option (Letter I S R)) → words 0 ≡ word_of g'.number g'.process → AreBuffers buffers → IsSound (meaning o) n g' locals
          → ShowsNext meaning o n g local seat_of (record { words = words; buffers = buffers; views = slice_set c.views id (with_local v l') }) p l' acts
      shown_with g' acts more words buffers word are sound = (g', record { few = is.few; word = word; buffers = are; seats = seats_later; sound = sound }, more)

      seen_cases : (q : ℕ) → ((q ≡ p) × (local q ≡ l) × (locals q ≡ l')) ⊎ ((q ≢ p) × (locals q ≡ local q))
      seen_cases q = elim (set_at-cases local p l' q) [ inl here ↦ inl (here.0, ap local here.0 ∙ own.2, here.1) | inr other ↦ inr other ]

      -- where the process took nothing, and wrote this for process r, or nothing
      module _ (seen_same : l'.seen ≡ l.seen) where
        seen_is : (q from : ℕ) → seen_of (meaning o) n (locals q) from ≡ seen_of (meaning o) n (local q) from
        seen_is q from = elim (seen_cases q) [
          | inl here ↦ ap (λ (z : Local I S R). seen_of (meaning o) n z from) here.2 ∙ ap (λ xs. slice_index_or xs from (first_told (meaning o) n)) seen_same ∙ ap (λ (z : Local I S R). seen_of (meaning o) n z from) (sym here.1)
          | inr other ↦ ap (λ (z : Local I S R). seen_of (meaning o) n z from) other.1
        ]

        kept : (from to : ℕ) → from < n → to < n → (from ≡ p → posted l' to ≡ posted l to) → known_then (c.buffers from to) (seen_of (meaning o) n (locals to) from) ≡ posted (locals from) to
        kept from to from_in to_in same = ap (known_then (c.buffers from to)) (seen_is to from) ∙ is.buffers from to from_in to_in ∙ elim (seen_cases from) [
          | inl here ↦ ap (λ (z : Local I S R). posted z to) here.1 ∙ sym (same here.0) ∙ ap (λ (z : Local I S R). posted z to) (sym here.2)
          | inr other ↦ ap (λ (z : Local I S R). posted z to) (sym other.1)
        ]

        pub buffers_same : ((r : ℕ) → r < n → posted l' r ≡ posted l r) → AreBuffers c.buffers
        buffers_same same from to from_in to_in = kept from to from_in to_in (λ here. same to to_in)

        pub buffers_written : (r : ℕ) (x : Letter I S R) → told_by x ≡ posted l' r → ((q : ℕ) → q ≢ r → posted l' q ≡ posted l q) → AreBuffers (with_value c.buffers p r (Some x))
        buffers_written r x here else from to from_in to_in = elim (value_cases c.buffers p r (Some x) from to) [
          | inl written ↦
              ap (λ b. known_then b (seen_of (meaning o) n (locals to) from)) written.2 ∙ here ∙ ap (λ i. posted l' i) (sym written.1)
              ∙ ap (λ (z : Local I S R). posted z to) (sym (ap locals written.0 ∙ set_at_same local p l'))
          | inr other ↦
              ap (λ b. known_then b (seen_of (meaning o) n (locals to) from)) other.1
              ∙ kept from to from_in to_in (λ mine. else to (λ same. other.0 mine same))
        ]

      -- where it took what process r had written, and wrote nothing
      module _ (r : ℕ) (r_in : r < n) (long : r < length l.seen) (took : l'.seen ≡ slice_set l.seen r (known_then (c.buffers r p) (seen_of (meaning o) n l r))) (same : (q : ℕ) → q < n → posted l' q ≡ posted l q) where
        seen_here : seen_of (meaning o) n l' r ≡ known_then (c.buffers r p) (seen_of (meaning o) n l r)
        seen_here = ap (λ xs. slice_index_or xs r (first_told (meaning o) n)) took ∙ get_or-set_same l.seen r _ (first_told (meaning o) n) long

        -- it knows what that one wrote last
        pub seen_now : seen_of (meaning o) n l' r ≡ posted (local r) p
        seen_now = seen_here ∙ ap (λ (z : Local I S R). known_then (c.buffers r p) (seen_of (meaning o) n z r)) (sym own.2) ∙ is.buffers r p r_in own.0

        pub seen_else : (q : ℕ) → q ≢ r → seen_of (meaning o) n l' q ≡ seen_of (meaning o) n l q
        seen_else q apart = ap (λ xs. slice_index_or xs q (first_told (meaning o) n)) took ∙ get_or-set_other l.seen r q _ (first_told (meaning o) n) apart

        posted_is : (from to : ℕ) → to < n → posted (locals from) to ≡ posted (local from) to
        posted_is from to to_in = elim (seen_cases from) [
          | inl here ↦ ap (λ (z : Local I S R). posted z to) here.2 ∙ same to to_in ∙ ap (λ (z : Local I S R). posted z to) (sym here.1)
          | inr other ↦ ap (λ (z : Local I S R). posted z to) other.1
        ]

        pub buffers_taken : AreBuffers (with_value c.buffers r p None)
        buffers_taken from to from_in to_in = elim (value_cases c.buffers r p None from to) [
          | inl taken ↦
              ap (λ b. known_then b (seen_of (meaning o) n (locals to) from)) taken.2
              ∙ ap (λ (z : Local I S R). seen_of (meaning o) n z from) (ap locals taken.1 ∙ set_at_same local p l') ∙ ap (seen_of (meaning o) n l') taken.0 ∙ seen_now
              ∙ (λ i. posted (local (sym taken.0 i)) (sym taken.1 i)) ∙ sym (posted_is from to to_in)
          | inr other ↦
              ap (λ b. known_then b (seen_of (meaning o) n (locals to) from)) other.1 ∙ elim (seen_cases to) [
                | inl here ↦
                    ap (λ (z : Local I S R). known_then (c.buffers from to) (seen_of (meaning o) n z from)) here.2
                    ∙ ap (known_then (c.buffers from to)) (seen_else from (λ e. other.0 e here.0))
                    ∙ ap (λ (z : Local I S R). known_then (c.buffers from to) (seen_of (meaning o) n z from)) (sym here.1)
                | inr apart ↦ ap (λ (z : Local I S R). known_then (c.buffers from to) (seen_of (meaning o) n z from)) apart.1
              ] ∙ is.buffers from to from_in to_in ∙ sym (posted_is from to to_in)
        ]

-- so a step that moves a board keeps the rule
pub keeps_rule : {O I S R : Type 0} (meaning : O → Sequential S I R) (o : O) (n id : ℕ) (v : View O I S R) (alone : v.known.count ≡ 1)
    (next : Contents (Letter I S R) (View O I S R) → View O I S R → Contents (Letter I S R) (View O I S R))
    (makes : Board I S R → (ℕ → Local I S R) → Contents (Letter I S R) (View O I S R) → View O I S R → List (Act I R) → Type 0) (says : Contents (Letter I S R) (View O I S R) → View O I S R → Type 0)
    → Moves meaning o n id v next makes says → (c : Contents (Letter I S R) (View O I S R)) → ShowsBoard meaning o n c → get_elem? c.views id ≡ some v → (w : View O I S R) × ShowsBoard meaning o n (next c w) × says c w
keeps_rule {O} {I} {S} {R} meaning o n id v alone next makes says moves c shown at =
    let object = meaning o in
    let g = shown.0 in
    let local = shown.1.0 in
    let seat_of = shown.1.1.0 in
    let is = shown.1.1.1 in
    let run = shown.1.1.2 in
    let h = moves c g local seat_of is at in
    let p = v.known.first in
    let m = moment_of c local in
    let mine = own meaning o n id v alone c g local seat_of is at in
    let effect : Effect I S R = record { word = (next c h.0).words 0; buffers = (next c h.0).buffers; leaves = h.0.known.local; acts = h.1 } in
    let step : IsStep object n m p (local p) effect = subst (λ l. IsStep object n m p l effect) (sym mine.2) h.5 in
    let on = runs_on n (CanTake object n) (after object n) (acts_of object n) run.0 m run.1 p mine.0 step.0 in (
      h.0,
      (
        h.2.0,
        (
          set_at local p h.0.known.local,
          (
            seat_of,
            h.2.1,
            (
              on.0,
              on.1 ∙ ap (changed object n m p) step.1,
              on.2 ∙ (λ k. run.2 k ++ (step.1 k).acts) ∙ sym h.2.2,
            ),
          ),
        ),
      ),
      h.4,
    )

-- what follows so many elements
pub drop_past : {A : Type 0} (xs ys : List A) → drop (length xs) (xs ++ ys) ≡ ys
drop_past [] ys = refl
drop_past (x ∷ xs) ys = drop_past xs ys
