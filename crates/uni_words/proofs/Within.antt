-- What the words of a table that meets the rule can be.
use Rattle.uni_words.proofs.Vocabulary.{AfterOf, Anchor, Announced, BeforeOf, Has, HeadOf, InvOf, IsShown, IsSound, IsWithin, Name, NewOf, Place, SeqOf, Sequential, Some, State, View, WorldOf, after_cell, after_of, announce_of, announced_cell, ap, arith, before_cell, before_of, calls_in_era, cells_of, era_calls, head_cell, head_of, inl, inr, inv_of, link_of, name_of, new_of, seq_bound, seq_of, settled_at, slice_index, state_in, subst, suc, sum_below-bound, sym, word_of, zero, ℕ, ◌%◌, ◌*◌, ◌/◌, ◌<◌, ◌^◌, ◌∙◌, ◌≡◌, ◌≤◌, ◌⊎◌}
use Rattle.uni_words.proofs.Columns.{index_in-there, process_below, head_below}
use Rattle.uni_words.proofs.Locality.{word_here}

module _ (object : Sequential ℕ ℕ ℕ) (row : ℕ) (w : WorldOf ℕ ℕ ℕ) (s : State ℕ View) (is : IsShown object row w s) where
  sound : IsSound object w is.sound.0 is.sound.1
  sound = is.sound.2

  -- a cell that is there has an index
  indexed : (j : ℕ) → (name_of w.n j ≡ Anchor) ⊎ Has (inv_of w.memory (name_of w.n j)) → j < cells_of w.n row
  indexed zero h = omega arith
  indexed (suc j) h = elim h [
    | inl e ↦ cc
    | inr has ↦ (let call = sound.calls.begun (j % w.n) (j / w.n) has in let room = is.words.room (j % w.n) in index_in-there w.n row j call.0 (let a = call.2 in omega arith))
  ]

  seq_small : (x : Name) → seq_of w.memory x ≤ cells_of w.n row
  seq_small x =
      let top = seq_bound object w is.sound.0 is.sound.1 sound x in
      let each : era_calls w ≤ w.n * row = sum_below-bound w.n row (calls_in_era w) (λ q. let few = is.words.room q in omega arith) in
      let anchor = is.words.number in
      omega arith

  link_small : (x : Name) (v : ℕ) → link_of w.n v ≡ after_of w.memory x → v ≤ cells_of w.n row
  link_small x zero e = omega arith
  link_small x (suc v) e =
      let below : v < cells_of w.n row = indexed v (after_cell object w is.sound.0 is.sound.1 sound x (name_of w.n v) (sym e)) in
      omega arith

  back_small : (y : Name) (v : ℕ) → link_of w.n v ≡ before_of w.memory y → v ≤ cells_of w.n row
  back_small y zero e = omega arith
  back_small y (suc v) e =
      let below : v < cells_of w.n row = indexed v (before_cell object w is.sound.0 is.sound.1 sound (name_of w.n v) y (sym e)) in
      omega arith

  new_small : (x : Name) (v : ℕ) → settled_at x v ≡ new_of w.memory x → state_in v < 2 ^ 31
  new_small x zero e = omega arith
  new_small x (suc v) e = is.words.fits x _ (sym e)

  pub within : (place : Place) (i : ℕ) → word_of w.n row place ≡ Some i → IsWithin w.n row place (slice_index s.words i)
  within (Announced p) i e =
      let at : announce_of w.memory p ≡ name_of w.n (slice_index s.words i) = ap (λ m. announce_of m p) is.words.memory ∙ ap (λ v. name_of w.n v) (word_here w.n row s.words is.words.wide (Announced p) i e) in
      indexed (slice_index s.words i)
      (subst (λ x. (x ≡ Anchor) ⊎ Has (inv_of w.memory x)) at (announced_cell object w is.sound.0 is.sound.1 sound p (process_below w.n row p i e)))
  within (HeadOf p) i e =
      let at : head_of w.memory p ≡ name_of w.n (slice_index s.words i) = ap (λ m. head_of m p) is.words.memory ∙ ap (λ v. name_of w.n v) (word_here w.n row s.words is.words.wide (HeadOf p) i e) in
      indexed (slice_index s.words i)
      (subst (λ x. (x ≡ Anchor) ⊎ Has (inv_of w.memory x)) at (head_cell object w is.sound.0 is.sound.1 sound p (head_below w.n row p i e)))
  within (InvOf x) i e = tt
  within (SeqOf x) i e = subst (λ t. t ≤ cells_of w.n row) (ap (λ m. seq_of m x) is.words.memory ∙ word_here w.n row s.words is.words.wide (SeqOf x) i e) (seq_small x)
  within (AfterOf x) i e = link_small x (slice_index s.words i) (ap (link_of w.n) (sym (word_here w.n row s.words is.words.wide (AfterOf x) i e)) ∙ ap (λ m. after_of m x) (sym is.words.memory))
  within (NewOf x) i e = new_small x (slice_index s.words i) (ap (settled_at x) (sym (word_here w.n row s.words is.words.wide (NewOf x) i e)) ∙ ap (λ m. new_of m x) (sym is.words.memory))
  within (BeforeOf x) i e = back_small x (slice_index s.words i) (ap (link_of w.n) (sym (word_here w.n row s.words is.words.wide (BeforeOf x) i e)) ∙ ap (λ m. before_of m x) (sym is.words.memory))
