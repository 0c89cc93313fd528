-- Images: what applying calls does to them.
use Rattle.uni_small.proofs.Vocabulary.{HasRows, Image, Invoked, IsSteady, List, None, Option, Sequential, Sizes, Some, [], ap, arith, buffer_words, calls_seen, drop, drop_at, due_at, first_image, get_or-append-add, get_or-set_other, get_or-set_same, get_or_append_left, image_from, inl, inr, joined, length, length-append, length-set, map, number_cases, read_image, refl, reply_of, reply_place, rows, slice_index, slice_index_or, slice_set, spell, state_after, state_place, subst, suc, sym, take, take_at, taken_in, with_seen, zero, ℕ, ◌*◌, ◌++◌, ◌+◌, ◌<◌, ◌∙◌, ◌∷◌, ◌≡◌}
use Rattle.uni_small.proofs.Rows.{AreEven, joined-index, joined-length, rows-joined}

-- the words of an image
module _ (sizes : Sizes) (image : Image) (has : HasRows sizes image) where
  even : AreEven sizes.reply image.reply
  even r below = has.replies r (let l = has.reply in omega arith)

  replies-length : length (joined image.reply) ≡ sizes.processes * sizes.reply
  replies-length = joined-length sizes.reply image.reply even ∙ ap (λ k. k * sizes.reply) has.reply

  pub spell-length : length (spell image) ≡ buffer_words sizes
  spell-length =
      let a = has.applied in let b = replies-length in let c = has.state in
      let d = length-append image.applied (joined image.reply ++ image.state) in let e = length-append (joined image.reply) image.state in omega arith

  pub spell-applied : (r : ℕ) → r < sizes.processes → slice_index (spell image) r ≡ slice_index image.applied r
  spell-applied r below = get_or_append_left image.applied (joined image.reply ++ image.state) 0 r (let a = has.applied in omega arith)

  pub spell-reply : (r k : ℕ) → r < sizes.processes → k < sizes.reply → slice_index (spell image) (reply_place sizes r k) ≡ slice_index (reply_of image r) k
  spell-reply r k below inside =
      subst (λ j. slice_index (spell image) (j + (r * sizes.reply + k)) ≡ slice_index (joined image.reply ++ image.state) (r * sizes.reply + k)) has.applied (get_or-append-add image.applied (joined image.reply ++ image.state) (r * sizes.reply + k) 0)
      ∙ joined-index sizes.reply image.reply image.state even r k (let l = has.reply in omega arith) inside

  pub spell-state : (i : ℕ) → slice_index (spell image) (state_place sizes i) ≡ slice_index image.state i
  spell-state i =
      subst (λ j. slice_index (spell image) (j + (sizes.processes * sizes.reply + i)) ≡ slice_index (joined image.reply ++ image.state) (sizes.processes * sizes.reply + i)) has.applied
      (get_or-append-add image.applied (joined image.reply ++ image.state) (sizes.processes * sizes.reply + i) 0)
      ∙ subst (λ j. slice_index (joined image.reply ++ image.state) (j + i) ≡ slice_index image.state i) replies-length (get_or-append-add (joined image.reply) image.state i 0)

  pub read-spell : read_image sizes (spell image) ≡ image
  read-spell =
      let first : take sizes.processes (spell image) ≡ image.applied = take_at image.applied (joined image.reply ++ image.state) sizes.processes has.applied in
      let rest : drop sizes.processes (spell image) ≡ joined image.reply ++ image.state = drop_at image.applied (joined image.reply ++ image.state) sizes.processes has.applied in
      let second : rows sizes.processes sizes.reply (joined image.reply ++ image.state) ≡ image.reply
      = ap (λ k. rows k sizes.reply (joined image.reply ++ image.state)) (sym has.reply) ∙ rows-joined sizes.reply image.reply image.state even in
      let third : drop (sizes.processes * sizes.reply) (joined image.reply ++ image.state) ≡ image.state = drop_at (joined image.reply) image.state (sizes.processes * sizes.reply) replies-length in
      λ i. record { applied = first i; reply = (ap (rows sizes.processes sizes.reply) rest ∙ second) i; state = (ap (drop (sizes.processes * sizes.reply)) rest ∙ third) i }

module _ (object : Sequential (List ℕ) (List ℕ) (List ℕ)) where
  pub image_from-append : (image : Image) (xs ys : List (Invoked (List ℕ))) → image_from object image (xs ++ ys) ≡ image_from object (image_from object image xs) ys
  image_from-append image [] ys = refl
  image_from-append image (x ∷ xs) ys = image_from-append (taken_in object image x.process x.inv) xs ys

  pub with_seen-calls : (image : Image) (applied : List ℕ) (r : ℕ) (seen : List (Option (List ℕ))) → with_seen object image r seen ≡ image_from object image (calls_seen applied r seen)
  with_seen-calls image applied r [] = refl
  with_seen-calls image applied r (None ∷ seen) = with_seen-calls image applied (r + 1) seen
  with_seen-calls image applied r (Some inv ∷ seen) = with_seen-calls (taken_in object image r inv) applied (r + 1) seen

  pub reached_from : (image : Image) (calls : List (Invoked (List ℕ))) → (image_from object image calls).state ≡ state_after object image.state (map (λ c. c.inv) calls)
  reached_from image [] = refl
  reached_from image (c ∷ calls) = reached_from (taken_in object image c.process c.inv) calls

  module _ (sizes : Sizes) (steady : IsSteady object sizes.reply) (wide : length object.initial ≡ sizes.state) where
    pub rows-taken : (image : Image) (r : ℕ) (inv : List ℕ) → HasRows sizes image → HasRows sizes (taken_in object image r inv)
    rows-taken image r inv has =
        let now = steady image.state inv (has.state ∙ sym wide) in
        record {
          applied = length-set image.applied r _ ∙ has.applied;
          reply = length-set image.reply r _ ∙ has.reply;
          replies = λ q below. elim (number_cases q r) [
            | inl here ↦ ap (λ k. length (slice_index_or (slice_set image.reply r (object.answer image.state inv)) k [])) here.0
                ∙ ap (λ (ws : List ℕ). length ws) (get_or-set_same image.reply r (object.answer image.state inv) [] (let h = here.0 in let l = has.reply in omega arith)) ∙ now.1
            | inr other ↦ ap (λ (ws : List ℕ). length ws) (get_or-set_other image.reply r q (object.answer image.state inv) [] other.0) ∙ has.replies q below
          ];
          state = now.0 ∙ wide;
        }

    pub rows-seen : (image : Image) (r : ℕ) (seen : List (Option (List ℕ))) → HasRows sizes image → HasRows sizes (with_seen object image r seen)
    rows-seen image r [] has = has
    rows-seen image r (None ∷ seen) has = rows-seen image (r + 1) seen has
    rows-seen image r (Some inv ∷ seen) has = rows-seen (taken_in object image r inv) (r + 1) seen (rows-taken image r inv has)

  -- the processes before the scan's part are as they were
  pub applied-before : (image : Image) (r : ℕ) (seen : List (Option (List ℕ))) (q : ℕ) → q < r → slice_index (with_seen object image r seen).applied q ≡ slice_index image.applied q
  applied-before image r [] q below = refl
  applied-before image r (None ∷ seen) q below = applied-before image (r + 1) seen q (omega arith)
  applied-before image r (Some inv ∷ seen) q below = applied-before (taken_in object image r inv) (r + 1) seen q (omega arith)
      ∙ get_or-set_other image.applied r q (slice_index image.applied r + 1) 0 (λ e. omega (arith, e, below))

  pub reply-before : (image : Image) (r : ℕ) (seen : List (Option (List ℕ))) (q : ℕ) → q < r → reply_of (with_seen object image r seen) q ≡ reply_of image q
  reply-before image r [] q below = refl
  reply-before image r (None ∷ seen) q below = reply-before image (r + 1) seen q (omega arith)
  reply-before image r (Some inv ∷ seen) q below = reply-before (taken_in object image r inv) (r + 1) seen q (omega arith)
      ∙ get_or-set_other image.reply r q (object.answer image.state inv) [] (λ e. omega (arith, e, below))

  -- each process that was seen with a call has one more in
  pub applied-seen : (image : Image) (r : ℕ) (seen : List (Option (List ℕ))) (j : ℕ) → r + j < length image.applied
      → slice_index (with_seen object image r seen).applied (r + j) ≡ slice_index image.applied (r + j) + due_at seen j
  applied-seen image r [] j room = omega arith
  applied-seen image r (None ∷ seen) zero room = applied-before image (r + 1) seen (r + 0) (omega arith) ∙ omega arith
  applied-seen image r (Some inv ∷ seen) zero room =
      applied-before (taken_in object image r inv) (r + 1) seen (r + 0) (omega arith)
      ∙ ap (slice_index (slice_set image.applied r (slice_index image.applied r + 1))) (let e : r + 0 ≡ r = omega arith in e)
      ∙ get_or-set_same image.applied r (slice_index image.applied r + 1) 0 (omega arith)
      ∙ ap (λ k. slice_index image.applied k + 1) (let e : r ≡ r + 0 = omega arith in e)
  applied-seen image r (None ∷ seen) (suc j) room =
      let e : r + suc j ≡ r + 1 + j = omega arith in
      ap (slice_index (with_seen object image (r + 1) seen).applied) e ∙ applied-seen image (r + 1) seen j (omega arith)
      ∙ ap (λ k. slice_index image.applied k + due_at seen j) (sym e)
  applied-seen image r (Some inv ∷ seen) (suc j) room =
      let e : r + suc j ≡ r + 1 + j = omega arith in
      ap (slice_index (with_seen object (taken_in object image r inv) (r + 1) seen).applied) e
      ∙ applied-seen (taken_in object image r inv) (r + 1) seen j (let l = length-set image.applied r (slice_index image.applied r + 1) in omega arith)
      ∙ ap (λ k. k + due_at seen j) (get_or-set_other image.applied r (r + 1 + j) (slice_index image.applied r + 1) 0 (λ (d : r + 1 + j ≡ r). omega arith))
      ∙ ap (λ k. slice_index image.applied k + due_at seen j) (sym e)

  -- and the others have the reply that they had
  pub reply-seen : (image : Image) (r : ℕ) (seen : List (Option (List ℕ))) (j : ℕ) → due_at seen j ≡ 0
      → reply_of (with_seen object image r seen) (r + j) ≡ reply_of image (r + j)
  reply-seen image r [] j none = refl
  reply-seen image r (None ∷ seen) zero none = reply-before image (r + 1) seen (r + 0) (omega arith)
  reply-seen image r (Some inv ∷ seen) zero none = absurd (omega arith)
  reply-seen image r (None ∷ seen) (suc j) none =
      let e : r + suc j ≡ r + 1 + j = omega arith in
      ap (reply_of (with_seen object image (r + 1) seen)) e ∙ reply-seen image (r + 1) seen j none
      ∙ ap (reply_of image) (sym e)
  reply-seen image r (Some inv ∷ seen) (suc j) none =
      let e : r + suc j ≡ r + 1 + j = omega arith in
      ap (reply_of (with_seen object (taken_in object image r inv) (r + 1) seen)) e
      ∙ reply-seen (taken_in object image r inv) (r + 1) seen j none
      ∙ get_or-set_other image.reply r (r + 1 + j) (object.answer image.state inv) [] (λ (d : r + 1 + j ≡ r). omega arith)
      ∙ ap (reply_of image) (sym e)

  -- a call of process r changes no count of a later one
  pub applied-later : (image : Image) (r : ℕ) (o : Option (List ℕ)) (q : ℕ) → r < q → slice_index (with_seen object image r (o ∷ [])).applied q ≡ slice_index image.applied q
  applied-later image r None q later = refl
  applied-later image r (Some inv) q later = get_or-set_other image.applied r q (slice_index image.applied r + 1) 0 (λ e. omega (arith, e, later))

  -- where nothing to apply was seen, nothing changes
  pub seen-quiet : (image : Image) (r : ℕ) (seen : List (Option (List ℕ))) → ((j : ℕ) → due_at seen j ≡ 0) → with_seen object image r seen ≡ image
  seen-quiet image r [] quiet = refl
  seen-quiet image r (None ∷ seen) quiet = seen-quiet image (r + 1) seen (λ j. quiet (suc j))
  seen-quiet image r (Some inv ∷ seen) quiet = absurd (let q : 1 ≡ 0 = quiet zero in omega arith)

  -- nor of the first processes
  pub seen-later : (k : ℕ) (image : Image) (r : ℕ) (seen : List (Option (List ℕ))) → ((j : ℕ) → j < k → due_at seen j ≡ 0)
      → with_seen object image (r + k) (drop k seen) ≡ with_seen object image r seen
  seen-later zero image r seen quiet = ap (λ i. with_seen object image i seen) (let e : r + zero ≡ r = omega arith in e)
  seen-later (suc k) image r [] quiet = refl
  seen-later (suc k) image r (None ∷ seen) quiet =
      ap (λ i. with_seen object image i (drop k seen)) (let e : r + suc k ≡ r + 1 + k = omega arith in e)
      ∙ seen-later k image (r + 1) seen (λ j below. quiet (suc j) (omega arith))
  seen-later (suc k) image r (Some inv ∷ seen) quiet = absurd (let q : 1 ≡ 0 = quiet zero (omega arith) in omega arith)

-- a state that calls lead to has as many words as the start state
pub reached_length : (object : Sequential (List ℕ) (List ℕ) (List ℕ)) (reply : ℕ) → IsSteady object reply → (s : List ℕ) (is : List (List ℕ)) → length s ≡ length object.initial → length (state_after object s is) ≡ length object.initial
reached_length object reply steady s [] long = long
reached_length object reply steady s (i ∷ is) long = reached_length object reply steady (object.next s i) is (steady s i long).0

-- as many as the image of a board has
pub width_is : (object : Sequential (List ℕ) (List ℕ) (List ℕ)) (sizes : Sizes) → IsSteady object sizes.reply → (calls : List (Invoked (List ℕ))) (image : Image) → image_from object (first_image object sizes) calls ≡ image → HasRows sizes image → length object.initial ≡ sizes.state
width_is object sizes steady calls image is has =
    sym (reached_length object sizes.reply steady object.initial (map (λ c. c.inv) calls) refl) ∙ ap (λ (ws : List ℕ). length ws) (sym (reached_from object (first_image object sizes) calls))
    ∙ ap (λ (i : Image). length i.state) is ∙ has.state
