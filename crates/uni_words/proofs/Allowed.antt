-- What the functions of the word steps ask, in parts.
use Rattle.uni_words.proofs.Vocabulary.{Allows, Announce, Nothing, Content, Finish, GoesBy, HasLooked, HasMoved, InvOf, IsAtStage, IsIdle, IsWithin, Link, Me, Memory, Moved, Name, None, Of, Option, Pending, Place, ReadAnnounce, Reading, Rule, Sequential, Setup, Some, Stage, Test, View, WordLog, ap, arith, begun_by, call_after, cells_of, content_after, content_of, either, eqb, exchanged, if◌then◌else◌, index_in, index_of, inl, inr, link_of, looked_at, lt_cases, moved_at, name_of, name_of-index_of, nat_lt, none, number_cases, option_map, option_or, place_of, refl, stage_found, start_of, step, subst, suc, sym, turn_of, word_of, zero, ℕ, ◌*◌, ◌+◌, ◌<◌, ◌==◌, ◌∙◌, ◌≡◌, ◌≤◌}
use Rattle.atomic_table.specs.Table.{Step}
use Rattle.uni_words.proofs.Columns.{index_in-name_of, word_below}
use Rattle.uni_words.specs.Execution.{IsPlain}
use Rattle.uni_words.proofs.Moving.{moves}

-- what the table was told is what the log has
pub may_move : {O : Type 0} (meaning : O → Sequential ℕ ℕ ℕ) (told setup : Setup O) → told ≡ setup
    → (slots id i : ℕ) (st : Step ℕ) (me : Me ℕ View) (f said : ℕ → ℕ) → me.0.known.count ≡ 1 → (c : Pending) → me.0.known.its.call ≡ Some c → IsPlain c.stage
    → word_of setup.n setup.k (place_of setup.n me.0.known.first c.mine c.stage) ≡ Some i
    → ((found : ℕ) (seen : Memory ℕ ℕ ℕ) → content_of setup.n (place_of setup.n me.0.known.first c.mine c.stage) (f found)
    ≡ content_after (meaning setup.object) c.mine c.stage (content_of setup.n (place_of setup.n me.0.known.first c.mine c.stage) found) seen)
    → ((found : ℕ) → moved_at me.0.known c found ≡ moved_at me.0.known c (said found))
    → ((found : ℕ) → IsWithin setup.n setup.k (place_of setup.n me.0.known.first c.mine c.stage) found → IsWithin setup.n setup.k (place_of setup.n me.0.known.first c.mine c.stage) (f found) → IsWithin setup.n setup.k (place_of setup.n me.0.known.first c.mine c.stage) (said found))
    → Allows (Rule meaning told) slots id me i f (λ found me'. Moved st me (said found) me')
may_move meaning told setup same slots id i st me f said single c pending goes word writes stays small =
    subst (λ key. Allows (Rule meaning key) slots id me i f (λ found me'. Moved st me (said found) me')) (sym same)
    (moves (meaning setup.object) setup.k setup.n slots id i st me f said single c pending goes word writes stays small)

-- a step at a word of the table: the seat is of the table, the word is there, and the rule holds after it
pub may_step : {O : Type 0} (meaning : O → Sequential ℕ ℕ ℕ) (log : WordLog O) (id : ℕ) (me : Me ℕ View) (i : ℕ) (f : ℕ → ℕ) (says : ℕ → Me ℕ View → Type 0) (place : Place) → word_of log.setup.n log.setup.k place ≡ Some i
    → {OfTable : Type 0} → OfTable → Allows (Rule meaning log.setup) log.table.shared.table_id.slots id me i f says
    → OfTable × (i < log.table.shared.table_id.words) × Allows (Rule meaning log.table.shared.key) log.table.shared.table_id.slots id me i f says
may_step meaning log id me i f says place word of_table allowed = (
  of_table,
  subst (λ k. i < k) (sym log.sized) (word_below log.setup.n log.setup.k place i word),
  subst (λ key. Allows (Rule meaning key) log.table.shared.table_id.slots id me i f says) (sym log.same) allowed,
)

-- A word step of a call that stands at its stage, at the word of the stage's place: a load, a store, and a proposal to a word that is 0.
-- With it goes what else the table asks of a seat.
module _ {O : Type 0} (meaning : O → Sequential ℕ ℕ ℕ) (log : WordLog O) (id : ℕ) (me : Me ℕ View) (p : ℕ) (mine : Name) (stage : Stage) (i : ℕ)
    (stands : IsAtStage log.setup.n log.setup.k p mine stage me) (goes : IsPlain stage)
    (word : word_of log.setup.n log.setup.k (place_of log.setup.n me.0.known.first mine stage) ≡ Some i) where
  -- what a step tells says nothing of its operands
  abbrev no_step : Step ℕ
  no_step = step 0 0 0 0 none

  inside : i < log.table.shared.table_id.words
  inside = subst (λ k. i < k) (sym log.sized) (word_below log.setup.n log.setup.k (place_of log.setup.n me.0.known.first mine stage) i word)

  -- what the word becomes is what the stage leaves in its place
  abbrev Leaves : (ℕ → ℕ) → Type 0
  Leaves f = (found : ℕ) (seen : Memory ℕ ℕ ℕ) → content_of log.setup.n (place_of log.setup.n me.0.known.first mine stage) (f found)
      ≡ content_after (meaning log.setup.object) mine stage (content_of log.setup.n (place_of log.setup.n me.0.known.first mine stage) found) seen

  -- the table's clause: the seat is of the table, the word is there, and the rule holds after it
  abbrev MayStep : Type 0 → (ℕ → ℕ) → (ℕ → Me ℕ View → Type 0) → Type 0
  MayStep OfTable f says = OfTable × (i < log.table.shared.table_id.words) × Allows (Rule meaning log.table.shared.key) log.table.shared.table_id.slots id me i f says

  pub may_load : {OfTable : Type 0} → OfTable → Leaves (λ x. x) → MayStep OfTable (λ x. x) (λ found me'. Moved no_step me found me')
  may_load of_table leaves = (of_table, inside, may_move meaning log.table.shared.key log.setup log.same log.table.shared.table_id.slots id i no_step me (λ x. x) (λ x. x) stands.alone (record { mine = mine; stage = stage }) stands.call goes word leaves (λ found. refl) (λ found a b. a))

  -- where what is found says nothing
  pub may_store : {OfTable : Type 0} → OfTable → (v : ℕ) → Leaves (λ x. v) → ((found : ℕ) → moved_at me.0.known (record { mine = mine; stage = stage }) found ≡ moved_at me.0.known (record { mine = mine; stage = stage }) v) → MayStep OfTable (λ x. v) (λ found me'. Moved no_step me v me')
  may_store of_table v leaves blind = (of_table, inside, may_move meaning log.table.shared.key log.setup log.same log.table.shared.table_id.slots id i no_step me (λ x. v) (λ x. v) stands.alone (record { mine = mine; stage = stage }) stands.call goes word leaves blind (λ found a b. b))

  pub may_propose : {OfTable : Type 0} → OfTable → (v : ℕ) → Leaves (λ x. either (eqb x 0) v x) → MayStep OfTable (λ x. either (eqb x 0) v x) (λ found me'. Moved no_step me found me')
  may_propose of_table v leaves = (of_table, inside, may_move meaning log.table.shared.key log.setup log.same log.table.shared.table_id.slots id i no_step me (λ x. either (eqb x 0) v x) (λ x. x) stands.alone (record { mine = mine; stage = stage }) stands.call goes word leaves (λ found. refl) (λ found a b. a))

pub cell_word : (n row column cell i : ℕ) → 1 ≤ n → cell < cells_of n row → i ≡ start_of n row column + cell
    → option_map (λ j. start_of n row column + j) (index_in n row (name_of n cell)) ≡ Some i
cell_word n row column cell i positive inside word = ap (option_map (λ j. start_of n row column + j)) (index_in-name_of n row cell positive inside) ∙ ap Some (sym word)

pub process_word : (n row column q i : ℕ) → q < n → i ≡ start_of n row column + q → option_map (λ j. start_of n row column + j) (if nat_lt q n then Some q else None) ≡ Some i
process_word n row column q i inside word = elim (lt_cases q n) [
  | inl below ↦ rw below.1 (ap Some (sym word))
  | inr above ↦ absurd (let h = above.0 in omega arith)
]

pub first_word : (n row column first p i : ℕ) → p < n → first ≡ p → i ≡ start_of n row column + p → option_map (λ j. start_of n row column + j) (if nat_lt first n then Some first else None) ≡ Some i
first_word n row column first p i inside same word =
    subst (λ q. option_map (λ j. start_of n row column + j) (if nat_lt q n then Some q else None) ≡ Some i) (sym same) (process_word n row column p i inside word)

abbrev link : Option Name → Content ℕ ℕ ℕ
link o = Link o

link_to : (n prefer : ℕ) → link_of n (prefer + 1) ≡ Some (name_of n prefer)
link_to n prefer = let e : prefer + 1 ≡ suc prefer = omega arith in ap (link_of n) e

pub link_is : (n c : ℕ) → link (link_of n (1 + c)) ≡ link (Some (name_of n c))
link_is n c = let e : 1 + c ≡ suc c = omega arith in ap (λ x. link (link_of n x)) e

pub link_decided : (n prefer found : ℕ) → link (link_of n (either (eqb found 0) (prefer + 1) found)) ≡ link (option_or (link_of n found) (Some (name_of n prefer)))
link_decided n prefer zero = ap link (link_to n prefer)
link_decided n prefer (suc found) = exchanged (suc found) 0 (prefer + 1) (λ x. link (link_of n x) ≡ link (option_or (link_of n (suc found)) (Some (name_of n prefer)))) (λ e. absurd (omega arith)) (λ apart. refl)

-- where a seat stands after a step
pub stands_next : (n row p : ℕ) (mine : Name) (stage next : Stage) (found : ℕ) (me me' : Me ℕ View) → IsAtStage n row p mine stage me → HasMoved me (record { mine = mine; stage = stage }) found me'
    → stage_found n p mine stage found ≡ Some next → IsAtStage n row p mine next me'
stands_next n row p mine stage next found me me' stands moved goes =
    let same : stage_found me.0.known.n me.0.known.first mine stage found ≡ Some next = rw (stands.processes, stands.first) goes in
    let now : me'.0.known ≡ moved_at me.0.known (record { mine = mine; stage = stage }) found = ap (λ (x : Me ℕ View). x.0.known) moved.view in
    rw now (record { processes = stands.processes; calls = stands.calls; first = stands.first; alone = stands.alone; call = ap (call_after mine) same })

pub called_word : (n row first begun p nth i : ℕ) → p < n → nth < row → first ≡ p → begun ≡ nth → i ≡ 2 * n + 0 * (n * row + 1) + index_of n p nth → word_of n row (InvOf (Of first begun)) ≡ Some i
called_word n row first begun p nth i inside room same_p same_k word =
    subst (λ q. word_of n row (InvOf (Of q begun)) ≡ Some i) (sym same_p) (subst (λ k. word_of n row (InvOf (Of p k)) ≡ Some i) (sym same_k)
    (elim (lt_cases p n) [
      | inl a ↦ elim (lt_cases nth row) [ inl b ↦ rw (a.1, b.1) (ap Some (sym word)) | inr b ↦ absurd (let h = b.0 in omega arith) ]
      | inr a ↦ absurd (let h = a.0 in omega arith)
    ]))

pub goes_one : (me : Me ℕ View) (c : Pending) (found t : ℕ) (me' : Me ℕ View) → HasMoved me c found me' → turn_of c.stage (content_of me.0.known.n (place_of me.0.known.n me.0.known.first c.mine c.stage) found) ≡ t → GoesBy me me' 1 t
goes_one me c found t me' moved turn = subst (λ to. GoesBy me to 1 t) (sym moved.view) (record {
  word_steps = refl;
  stored_ends = refl;
  turns = ap (λ x. me.0.known.its.turns + x) turn;
  inv = refl;
  begun = refl;
  own = refl;
  taken = refl;
  seen = refl;
  number = refl;
  carried = refl;
})

-- what was read is read for the step before
pub fresh_then : (c : Pending) (found : ℕ) (me me' : Me ℕ View) → HasMoved me c found me' → me'.0.known.its.read ≡ Nothing
fresh_then c found me me' moved = ap (λ (x : Me ℕ View). x.0.known.its.read) moved.view

pub within_here : (n row p : ℕ) (mine : Name) (stage : Stage) (found : ℕ) (me me' : Me ℕ View) → HasMoved me (record { mine = mine; stage = stage }) found me' → IsAtStage n row p mine stage me → IsWithin n row (place_of n p mine stage) found
within_here n row p mine stage found me me' moved stands =
    subst (λ k. IsWithin k row (place_of k p mine stage) found) stands.processes
    (subst (λ r. IsWithin me.0.known.n r (place_of me.0.known.n p mine stage) found) stands.calls
    (subst (λ q. IsWithin me.0.known.n me.0.known.row (place_of me.0.known.n q mine stage) found) stands.first moved.within))

pub few_turns : (n row p : ℕ) (mine : Name) (stage : Stage) (found : ℕ) (me me' : Me ℕ View) → HasMoved me (record { mine = mine; stage = stage }) found me' → IsAtStage n row p mine stage me → me'.0.known.its.turns ≤ n + 1
few_turns n row p mine stage found me me' moved stands = subst (λ k. me'.0.known.its.turns ≤ k + 1) stands.processes moved.turns

-- after the most turns a test finds its own cell no farther than its head
pub own_cell : (n row p : ℕ) (mine h : Name) (s found : ℕ) (me me' : Me ℕ View) → HasMoved me (record { mine = mine; stage = Test h s }) found me' → IsAtStage n row p mine (Test h s) me
    → IsAtStage n row p mine (if found == 0 then ReadAnnounce h s else Finish s found) me' → me'.0.known.its.turns ≡ n + 1 → found ≤ s
own_cell n row p mine h s found me me' moved stands next many = elim (number_cases found 0) [
  | inl same ↦ (let e : found ≡ 0 = same.0 in omega arith)
  | inr some ↦ moved.own_cell s found (next.call ∙ ap (λ b. Some (record { mine = mine; stage = if b then ReadAnnounce h s else Finish s found })) some.1)
      (many ∙ ap (λ k. k + 1) (sym stands.processes))
]

-- a read of a settled word changes nothing else
pub stands_still : (n row p : ℕ) (mine : Name) (stage : Stage) (read : Reading) (me me' : Me ℕ View) → IsAtStage n row p mine stage me → HasLooked me read me' → IsAtStage n row p mine stage me'
stands_still n row p mine stage read me me' stands looked =
    let now : me'.0.known ≡ looked_at me.0.known read = ap (λ (x : Me ℕ View). x.0.known) looked in
    rw now (record { processes = stands.processes; calls = stands.calls; first = stands.first; alone = stands.alone; call = stands.call })

pub goes_still : (read : Reading) (me me' : Me ℕ View) → HasLooked me read me' → GoesBy me me' 1 0
goes_still read me me' looked = subst (λ to. GoesBy me to 1 0) (sym looked) (record {
  word_steps = refl;
  stored_ends = refl;
  turns = omega arith;
  inv = refl;
  begun = refl;
  own = refl;
  taken = refl;
  seen = refl;
  number = refl;
  carried = refl;
})

pub read_is : (read : Reading) (me me' : Me ℕ View) → HasLooked me read me' → me'.0.known.its.read ≡ read
read_is read me me' looked = ap (λ (x : Me ℕ View). x.0.known.its.read) looked

pub stands_begun : (n row p nth mine inv : ℕ) (me me' : Me ℕ View) → p < n → mine ≡ index_of n p nth → IsIdle n row p nth me → me' ≡ (record { known = begun_by me.0.known inv }, me.1) → IsAtStage n row p (name_of n mine) Announce me'
stands_begun n row p nth mine inv me me' inside cell idle begun =
    let now : me'.0.known ≡ begun_by me.0.known inv = ap (λ (x : Me ℕ View). x.0.known) begun in
    let name : name_of n mine ≡ Of p nth = ap (name_of n) cell ∙ name_of-index_of n p nth inside in
    rw now (record {
      processes = idle.0;
      calls = idle.1;
      first = idle.2;
      alone = idle.3;
      call = ap (λ x. Some (record { mine = x; stage = Announce })) (ap (λ q. Of q me.0.known.its.begun) idle.2 ∙ ap (Of p) idle.4 ∙ sym name);
    })
