-- The laws of the word steps.
use Rattle.uni_words.proofs.Vocabulary.{Applied, DecideNew, Finish, HasRead, Invocation, IsLoad, IsShown, Known, Leads, LoadEnds, Name, Nothing, Option, Pending, Reading, Reply, Sequential, Some, Stage, State, Step, StoreEnds, View, WordStepMoves, WorldOf, [], after_word, ap, finished_by, get_elem?, head_number, linked_call, moved_at, new_of, reply_at, reply_in, slice_index, some, subst, sym, ℕ, ◌<◌, ◌^◌, ◌∙◌, ◌∷◌, ◌≡◌}
use Rattle.uni_words.proofs.Finishes.{stored_leads, loaded_leads}
use Rattle.uni_words.proofs.Happens.{own_local, later_is}
use Rattle.uni_words.proofs.Looks.{stands, underway, inv_told, state_told, reply_told}
use Rattle.uni_words.proofs.Moving.{moved_leads}

module _ (object : Sequential ℕ ℕ ℕ) (row : ℕ) (w : WorldOf ℕ ℕ ℕ) (s : State ℕ View) (id : ℕ) (v : Known) where
  pub WordStepMoves-holds : (c : Pending) (next : Stage) (word x : ℕ) → WordStepMoves object row w s id v c next word x
  WordStepMoves-holds c next word x is seat pending there goes writes fits =
      let happens = later_is object row w s is id v seat.0 seat.1 c pending in
      subst (λ u. Leads object row w s (Step v.first ∷ []) u (after_word s word x id (moved_at v c (slice_index s.words word)))) happens
      (moved_leads object row w s is id v seat.0 seat.1 c pending word there (next, goes) x writes
      (subst (λ (u : WorldOf ℕ ℕ ℕ). (y : Name) (k : ℕ × Option ℕ) → new_of u.memory y ≡ Some k → k.0 < 2 ^ 31) (sym happens) fits))

  pub StoreEnds-holds : (mine : Name) (c_seq mine_seq reply word x : ℕ) → StoreEnds object row w s id v mine c_seq mine_seq reply word x
  StoreEnds-holds mine c_seq mine_seq reply word x is seat pending less read there named =
      subst (λ u. Leads object row w s (Step v.first ∷ []) u (after_word s word x id (finished_by v 1 reply))) (later_is object row w s is id v seat.0 seat.1 _ pending)
      (stored_leads object row w s is id v seat.0 seat.1 mine c_seq mine_seq pending less word x there named reply read)

  pub LoadEnds-holds : (mine : Name) (c_seq mine_seq word : ℕ) → LoadEnds object row w s id v mine c_seq mine_seq word
  LoadEnds-holds mine c_seq mine_seq word is seat pending more there =
      subst (λ u. Leads object row w s (Step v.first ∷ []) u (after_word s word (slice_index s.words word) id (finished_by v 0 (reply_in (slice_index s.words word))))) (later_is object row w s is id v seat.0 seat.1 _ pending)
      (loaded_leads object row w s is id v seat.0 seat.1 mine c_seq mine_seq pending more word there)

  -- what is read is settled so
  pub loaded : (is : IsShown object row w s) → (at : get_elem? s.views id ≡ some (record { known = v })) → (single : v.count ≡ 1) → (mine : Name) (stage : Stage) (pending : v.its.call ≡ Some (record { mine = mine; stage = stage })) (word : ℕ) (read : Reading)
      → IsLoad w.n row v mine stage word (slice_index s.words word) read → HasRead w.memory mine stage read
  loaded is at single mine (DecideNew c c_seq d) pending word (Invocation inv) load =
      let h = stands object row w s is id v at single mine (DecideNew c c_seq d) pending in
      let own = own_local object row w s is id v at single in
      let has = linked_call object w is.sound.0 is.sound.1 is.sound.2 v.first mine (DecideNew c c_seq d) (own.call ∙ pending) c c_seq d h.0 h.1 in
      inv_told object row w s is d word load.0 has ∙ ap Some (sym load.1)
  loaded is at single mine (DecideNew c c_seq d) pending word (Applied inv state) load =
      let h = stands object row w s is id v at single mine (DecideNew c c_seq d) pending in
      let own = own_local object row w s is id v at single in
      let number = head_number object w is.sound.0 is.sound.1 is.sound.2 v.first mine (DecideNew c c_seq d) (own.call ∙ pending) c c_seq h.0 in
      let told = state_told object row w s is c word load.0 (is.sound.2.values.threaded c number.0) in
      let under = underway object row w s is id v at single mine (DecideNew c c_seq d) pending in
      (subst (λ r. HasRead w.memory mine (DecideNew c c_seq d) r) load.1 under.1, (reply_at c (reply_in (slice_index s.words word)), told.1 ∙ ap (λ k. Some (k, reply_at c (reply_in (slice_index s.words word)))) (sym load.2)))
  loaded is at single mine (Finish c_seq mine_seq) pending word (Reply reply) load =
      reply_told object row w s is id v at single mine c_seq mine_seq pending word load.0 ∙ ap Some (sym load.1)
  loaded is at single mine stage pending word Nothing load = tt
  loaded is at single mine _ pending word _ load = absurd load
