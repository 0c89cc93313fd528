-- What the words of a closed table show.
use Rattle.uni_small.proofs.Vocabulary.{AreWords, Board, Contains, Idle, IsBoard, IsClosed, HasHistory, IsOrdered, IsShown, List, Local, Meaning, ProcessReturned, Rule, Seen, Sequential, Setup, Sizes, State, View, [], ap, arith, buffer_in, get_elem?, slice_index, some, state_place, subst, suc, sym, zero, ℕ, ◌*◌, ◌<◌, ◌∙◌, ◌∷◌, ◌≡◌, ◌≤◌}
use Rattle.uni_small.specs.Reading.{IsStateIn}
use Rattle.uni_small.specs.Ended.{HasRunTo}
use Rattle.uni_small.proofs.Finals as Finals
use Rattle.uni_small.proofs.Finals.{acts_of_final, final_of}
use Rattle.uni_small.proofs.Images.{spell-state}
use Rattle.uni_small.proofs.Lists.{same_list}
use Rattle.uni_small.proofs.Loads.{buffer_of, call_at}

-- the words are those of a table that shows a board, and the seats of these views, if any, are among those that it has
module _ {O : Type 0} (meaning : O → Meaning) (setup : Setup O) (few : setup.sizes.processes ≤ 64) (last : State Seen (View O)) (holds : Rule meaning setup last) (words : List ℕ) (words_of_last : last.words ≡ words) where
  abbrev sizes : Sizes
  sizes = setup.sizes

  abbrev object : Sequential (List ℕ) (List ℕ) (List ℕ)
  object = (meaning setup.object).object

  abbrev g : Board
  g = holds.0

  abbrev local : ℕ → Local
  local = holds.1.0

  is : IsShown sizes meaning setup.object g local holds.1.1.0 last
  is = holds.1.1.1

  words_are : AreWords sizes g words
  words_are = subst (AreWords sizes g) words_of_last is.words

  board : IsBoard object sizes g
  board = is.sound.board

  -- S names a buffer of the table
  named : buffer_in (slice_index words 0) ≡ g.current
  named = ap buffer_in words_are.current ∙ buffer_of g.version g.current (let c = board.current in omega arith)

  pub named_inside : buffer_in (slice_index words 0) < 2 * sizes.processes
  named_inside = subst (λ b. b < 2 * sizes.processes) (sym named) board.current

  -- the state of the buffer that S names
  state_is : (state : List ℕ) → IsStateIn sizes words state → g.image.state ≡ state
  state_is state read = sym (same_list state g.image.state (read.long ∙ sym board.rows.state) (λ i below.
      let inside : i < sizes.state = (let l = read.long in omega arith) in
      read.each i inside ∙ words_are.buffer (buffer_in (slice_index words 0)) (state_place sizes i) named_inside (omega arith)
      ∙ ap (λ b. g.buffer b (state_place sizes i)) named ∙ board.exact (state_place sizes i) (omega arith) ∙ spell-state sizes g.image board.rows i))

  -- a process with no call pending, whose calls these are
  abbrev IsDone : ProcessReturned → Type 0
  IsDone its = (its.process < sizes.processes) × ((local its.process).stage ≡ Idle []) × ((local its.process).own ≡ its.calls)

  done : (its : ProcessReturned) → IsDone its → Finals.IsDone object sizes g board its
  done its d =
      let at = is.sound.each its.process d.0 in
      record {
        closed = subst (IsClosed g its.process) d.2 (call_at object sizes g its.process (local its.process) (Idle []) at d.1).0;
        after = (local its.process).after;
        ordered = subst (IsOrdered object g.atomic.agreed g.calls_in_version g.version its.process (local its.process).after) d.2 at.ordered;
      }

  final : (known : List ProcessReturned) → ((its : ProcessReturned) → Contains known its → IsDone its) → (state : List ℕ) → IsStateIn sizes words state → HasHistory object sizes.processes known state
  final known each state read = final_of object sizes g board known (λ its has. done its (each its has)) state (state_is state read)

  acts_are : (known : List ProcessReturned) (each : (its : ProcessReturned) → Contains known its → IsDone its) (state : List ℕ) (read : IsStateIn sizes words state) → (final known each state read).acts ≡ g.acts
  unfolding final
  acts_are known each state read = acts_of_final object sizes g board known (λ its has. done its (each its has)) state (state_is state read)

  -- with no seat
  pub closes_alone : (state : List ℕ) → IsStateIn sizes words state → HasHistory object sizes.processes [] state
  closes_alone = final [] (λ its has. absurd (let h = has.1 in omega arith))

  pub ran_alone : (state : List ℕ) → IsStateIn sizes words state → HasRunTo object sizes [] state
  unfolding closes_alone
  ran_alone state read = (closes_alone state read, holds.1.1.2.0, holds.1.1.2.1.acts_are ∙ sym (acts_are [] _ state read))

  -- with a seat of one process that has no call pending, and of those that it has taken in
  pub closes_with : (id : ℕ) (view : View O) → get_elem? last.views id ≡ some view → view.known.count ≡ 1 → view.known.local.stage ≡ Idle []
      → (state : List ℕ) → IsStateIn sizes words state → HasHistory object sizes.processes (record { process = view.known.first; calls = view.known.local.own } ∷ view.known.taken) state
  closes_with id view seen single idle = final (record { process = view.known.first; calls = view.known.local.own } ∷ view.known.taken) one where
    one : (its : ProcessReturned) → Contains (record { process = view.known.first; calls = view.known.local.own } ∷ view.known.taken) its → IsDone its
    one its (zero, below, e) =
        let told = (is.seats id view seen).each view.known.first (omega arith) (omega (arith, single)) in
        subst IsDone e (told.0, ap (λ (l : Local). l.stage) told.2 ∙ idle, ap (λ (l : Local). l.own) told.2)
    one its (suc k, below, e) = (let t = (is.seats id view seen).taken its (k, (let b = below in omega arith), e) in (t.inside, t.idle, t.calls))

  pub ran_with : (id : ℕ) (view : View O) → get_elem? last.views id ≡ some view → view.known.count ≡ 1 → view.known.local.stage ≡ Idle []
      → (state : List ℕ) → IsStateIn sizes words state → HasRunTo object sizes (record { process = view.known.first; calls = view.known.local.own } ∷ view.known.taken) state
  unfolding closes_with
  ran_with id view seen single idle state read = (closes_with id view seen single idle state read, holds.1.1.2.0, holds.1.1.2.1.acts_are ∙ sym (acts_are _ _ state read))

-- what tells of more calls tells of fewer
pub final_of_fewer : (object : Sequential (List ℕ) (List ℕ) (List ℕ)) (n : ℕ) (all known : List ProcessReturned) (state : List ℕ) → ((its : ProcessReturned) → Contains known its → Contains all its) → HasHistory object n all state → HasHistory object n known state
final_of_fewer _ n all known state among final = record {
  acts = final.acts;
  atomic = final.atomic;
  accepted = final.accepted;
  linearized = final.linearized;
  state = final.state;
  inside = final.inside;
  own = λ its has. final.own its (among its has);
  calls_in_version = final.calls_in_version;
  rising = final.rising;
  stand = λ its has. final.stand its (among its has);
}

pub ran_of_fewer : (object : Sequential (List ℕ) (List ℕ) (List ℕ)) (sizes : Sizes) (all known : List ProcessReturned) (state : List ℕ) → ((its : ProcessReturned) → Contains known its → Contains all its) → HasRunTo object sizes all state → HasRunTo object sizes known state
unfolding final_of_fewer
ran_of_fewer object sizes all known state among ran = (final_of_fewer object sizes.processes all known state among ran.0, ran.1, ran.2)
