-- A seat in the midst of a call can take a step of it, at a word that the table has.
use Rattle.uni_words.proofs.Vocabulary.{Anchor, Announce, Applied, DecideAfter, DecideNew, Finish, Has, HasRead, Invocation, IsLocal, IsShown, IsSound, IsUnderway, Known, Name, None, Nothing, Of, Pending, Place, ReadAnnounce, ReadHelpSeq, Reading, Reply, ScanHead, ScanSeq, Sequential, Some, Stage, Stands, State, Test, View, WorldOf, WriteBefore, WriteHead, WriteScan, WriteSeq, after_cell, after_of, ap, arith, either, get_elem?, head_cell, some, eqb, option_or, link_of, if◌then◌else◌, ◌%◌, index_in, index_of, inv_of, lt_cases, name_of, name_of-index_of, nat_lt, option_map, place_of, refl, seq_of, start_of, subst, sym, word_of, ℕ, ◌+◌, ◌<◌, ◌≤◌, ◌≡◌, ◌∙◌, ◌⊎◌, inl, inr}
use Rattle.std.proofs.Math.Nat.{mod-lt}
use Rattle.uni_model.proofs.Ranges.{threaded_cell}
use Rattle.uni_model.specs.Invariant.{AtHead, IsCellOf}
use Rattle.uni_model.specs.Places.Content.{CellName, Link}
use Rattle.uni_words.specs.Execution.{IsPlain, Leaves}
use Rattle.uni_words.specs.Execution.Next.{Decide, LoadEnd, LookInv, LookNew, LookReply, Move, StoreEnd}
use Rattle.uni_words.specs.Laws.{deciding, ending}
use Rattle.uni_words.specs.Linearized.{CanStep}
use Rattle.uni_words.proofs.Allowed.{link_decided, link_is, process_word}
use Rattle.uni_words.proofs.Happens.{own_local}

-- who has loaded its reply stores its head next
abbrev pub IsToStore : Reading → Stage → Type 0
IsToStore (Reply reply) (Finish c_seq mine_seq) = c_seq < mine_seq
IsToStore read stage = Unit {0}

module _ (object : Sequential ℕ ℕ ℕ) (row : ℕ) (w : WorldOf ℕ ℕ ℕ) (s : State ℕ View) (is : IsShown object row w s)
    (id : ℕ) (v : Known) (at : get_elem? s.views id ≡ some (record { known = v })) (single : v.count ≡ 1) where
  sound : IsSound object w is.sound.0 is.sound.1
  sound = is.sound.2

  own : IsLocal w v.first v.its
  own = own_local object row w s is id v at single

  -- a cell that is there has an index, by which words name it
  abbrev IsThere : Name → Type 0
  IsThere x = (x ≡ Anchor) ⊎ Has (inv_of w.memory x)

  index : (x : Name) → IsThere x → (j : ℕ) × (name_of w.n j ≡ x) × (index_in w.n row x ≡ Some j)
  index Anchor there = (0, refl, refl)
  index (Of p k) there = elim there [
    | inl e ↦ absurd (let f : Of p k ≡ Anchor = e in cc)
    | inr has ↦
        let begun = sound.calls.begun p k has in
        let room = is.words.room p in (
          index_of w.n p k,
          name_of-index_of w.n p k begun.0,
          elim (lt_cases p w.n) [
            | inl a ↦ elim (lt_cases k row) [
              | inl b ↦ rw (a.1, b.1) refl
              | inr b ↦ absurd (let x = b.0 in let y = begun.2 in omega (arith, x, y, room))
            ]
            | inr a ↦ absurd (let x = a.0 in let y = begun.0 in omega (arith, x, y))
          ],
        )
  ]

  at_head : (c : Name) (c_seq : ℕ) → AtHead w.memory v.first c c_seq → IsThere c
  at_head c c_seq h = subst IsThere h.head (head_cell object w is.sound.0 is.sound.1 sound v.first own.inside)

  numbered : (x : Name) → 1 ≤ seq_of w.memory x → IsThere x
  numbered x h = threaded_cell object w is.sound.0 is.sound.1 sound x h

  linked : (c d : Name) → after_of w.memory c ≡ Some d → IsThere d
  linked c d e = after_cell object w is.sound.0 is.sound.1 sound c d e

  called : (q : ℕ) (x : Name) → IsCellOf w.memory q x → IsThere x
  called q x h = inr (subst (λ y. Has (inv_of w.memory y)) (sym h.1) h.2)

  -- the words of a cell and of a process
  of_cell : (column : ℕ) (x : Name) → IsThere x → (i : ℕ) × (option_map (λ j. start_of w.n row column + j) (index_in w.n row x) ≡ Some i)
  of_cell column x there = let j = index x there in (start_of w.n row column + j.0, ap (option_map (λ k. start_of w.n row column + k)) j.2)

  of_process : (column q : ℕ) → q < w.n
      → (i : ℕ) × (option_map (λ j. start_of w.n row column + j) (if nat_lt q w.n then Some q else None) ≡ Some i)
  of_process column q inside = (start_of w.n row column + q, process_word w.n row column q (start_of w.n row column + q) inside refl)

  abbrev WordOf : Place → Type 0
  WordOf place = (i : ℕ) × (word_of w.n row place ≡ Some i)

  -- a step of the construction that goes by what is in its place
  go : (mine : Name) (stage : Stage) → v.its.call ≡ Some (record { mine = mine; stage = stage }) → IsPlain stage → (becomes : ℕ → ℕ)
      → Leaves object w.n row v.first (record { mine = mine; stage = stage }) becomes → WordOf (place_of w.n v.first mine stage)
      → CanStep object w.n row v
  go mine stage pending plain becomes leaves word = (Move (record { mine = mine; stage = stage }) becomes pending plain leaves, word)

  -- a state is settled
  settle : (mine c d : Name) (c_seq : ℕ) → v.its.call ≡ Some (deciding mine c d c_seq) → IsThere c → IsThere d
      → (read : Reading) → v.its.read ≡ read → HasRead w.memory mine (DecideNew c c_seq d) read → CanStep object w.n row v
  settle mine c d c_seq pending c_there d_there Nothing reads has = (LookInv mine c d c_seq pending reads, of_cell 2 d d_there)
  settle mine c d c_seq pending c_there d_there (Invocation inv) reads has = (LookNew mine c d c_seq inv pending reads, of_cell 6 c c_there)
  settle mine c d c_seq pending c_there d_there (Applied inv state) reads has = (Decide mine c d c_seq inv state pending reads, of_cell 6 d d_there)
  settle mine c d c_seq pending c_there d_there (Reply reply) reads has = absurd has

  -- a call ends
  finish : (mine : Name) (c_seq mine_seq : ℕ) → v.its.call ≡ Some (ending mine c_seq mine_seq) → IsThere mine
      → (read : Reading) → v.its.read ≡ read → HasRead w.memory mine (Finish c_seq mine_seq) read → IsToStore read (Finish c_seq mine_seq)
      → CanStep object w.n row v
  finish mine c_seq mine_seq pending there Nothing reads has stores = elim (lt_cases c_seq mine_seq) [
    | inl later ↦ (LookReply mine c_seq mine_seq pending later.0 reads, of_cell 6 mine there)
    | inr stays ↦ (LoadEnd mine c_seq mine_seq pending stays.0 reads, of_cell 6 mine there)
  ]
  finish mine c_seq mine_seq pending there (Reply reply) reads has stores =
      let j = index mine there in (StoreEnd mine c_seq mine_seq reply j.0 pending stores reads j.1, of_process 1 v.first own.inside)
  finish mine c_seq mine_seq pending there (Invocation inv) reads has stores = absurd has
  finish mine c_seq mine_seq pending there (Applied inv state) reads has stores = absurd has

  by_stage : (mine : Name) (stage : Stage) → v.its.call ≡ Some (record { mine = mine; stage = stage })
      → Stands w.memory is.sound.0 w.n v.first mine stage → HasRead w.memory mine stage v.its.read → IsToStore v.its.read stage
      → IsThere mine → CanStep object w.n row v
  by_stage mine Announce pending stand has stores there =
      let j = index mine there in go mine Announce pending tt (λ found. j.0) (λ found others. ap CellName j.1) (of_process 0 v.first own.inside)
  by_stage mine (ScanHead q best best_seq) pending stand has stores there =
      go mine (ScanHead q best best_seq) pending tt (λ found. found) (λ found others. refl) (of_process 1 q stand.0)
  by_stage mine (ScanSeq q best best_seq h) pending stand has stores there =
      go mine (ScanSeq q best best_seq h) pending tt (λ found. found) (λ found others. refl) (of_cell 3 h (numbered h stand.2))
  by_stage mine (WriteScan best best_seq) pending stand has stores there =
      let j = index best (numbered best (subst (λ t. 1 ≤ t) (sym stand.1) stand.0)) in
      go mine (WriteScan best best_seq) pending tt (λ found. j.0) (λ found others. ap CellName j.1) (of_process 1 v.first own.inside)
  by_stage mine (Test c c_seq) pending stand has stores there =
      go mine (Test c c_seq) pending tt (λ found. found) (λ found others. refl) (of_cell 3 mine there)
  by_stage mine (ReadAnnounce c c_seq) pending stand has stores there =
      go mine (ReadAnnounce c c_seq) pending tt (λ found. found) (λ found others. refl) (of_process 0 (c_seq % w.n) (mod-lt c_seq (let below = own.inside in omega (arith, below))))
  by_stage mine (ReadHelpSeq c c_seq help) pending stand has stores there =
      go mine (ReadHelpSeq c c_seq help) pending tt (λ found. found) (λ found others. refl)
      (of_cell 3 help (elim stand.2 [ inl anchor ↦ inl anchor | inr other ↦ called (c_seq % w.n) help other ]))
  by_stage mine (DecideAfter c c_seq prefer) pending stand has stores there =
      let j = index prefer (elim stand.2 [ inl own_cell ↦ subst IsThere (sym own_cell) there | inr other ↦ called (c_seq % w.n) prefer other ]) in
      go mine (DecideAfter c c_seq prefer) pending tt (λ found. either (eqb found 0) (j.0 + 1) found)
      (λ found others. link_decided w.n j.0 found ∙ ap (λ x. Link (option_or (link_of w.n found) (Some x))) j.1) (of_cell 5 c (at_head c c_seq stand.0))
  by_stage mine (DecideNew c c_seq d) pending stand has stores there =
      settle mine c d c_seq pending (at_head c c_seq stand.0) (linked c d stand.1) v.its.read refl has
  by_stage mine (WriteBefore c c_seq d) pending stand has stores there =
      let j = index c (at_head c c_seq stand.0) in
      go mine (WriteBefore c c_seq d) pending tt (λ found. 1 + j.0) (λ found others. link_is w.n j.0 ∙ ap (λ x. Link (Some x)) j.1) (of_cell 4 d (linked c d stand.1))
  by_stage mine (WriteSeq c c_seq d) pending stand has stores there =
      go mine (WriteSeq c c_seq d) pending tt (λ found. c_seq + 1) (λ found others. refl) (of_cell 3 d (linked c d stand.1))
  by_stage mine (WriteHead c c_seq d) pending stand has stores there =
      let j = index d (linked c d stand.1) in
      go mine (WriteHead c c_seq d) pending tt (λ found. j.0) (λ found others. ap CellName j.1) (of_process 1 v.first own.inside)
  by_stage mine (Finish c_seq mine_seq) pending stand has stores there =
      finish mine c_seq mine_seq pending there v.its.read refl has stores

  pub can_step : (c : Pending) → v.its.call ≡ Some c → IsToStore v.its.read c.stage → CanStep object w.n row v
  can_step c pending stores =
      let call = own.call ∙ pending in
      let under : IsUnderway w.memory (Some c) v.its.inv v.its.read = subst (λ o. IsUnderway w.memory o v.its.inv v.its.read) pending own.underway in
      let its = sound.calls.mine v.first c call in
      by_stage c.mine c.stage pending (sound.stands v.first c call) under.1 stores (inr (subst (λ x. Has (inv_of w.memory x)) (sym its.1) its.3))
