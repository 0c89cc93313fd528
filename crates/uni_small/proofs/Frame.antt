-- A word step of a seat of one process keeps the rule: what has to be shown of the board.
use Rattle.uni_small.proofs.Vocabulary.{Act, AreWidths, AreWords, Board, IsAt, IsBoard, IsShown, IsSound, List, Local, Me, Meaning, Moves, Seen, Sequential, Sizes, Some, State, Tells, View, ap, append-nil, arith, at_set, get_elem?, nothing, set, set-get_or, set_at, set_at_elsewhere, set_at_same, slice_index, slice_set, some, subst, sym, with_local, ℕ, ⊎_elim, ◌++◌, ◌<◌, ◌∙◌, ◌≡◌, ◌≢◌}
use Rattle.uni_model.proofs.Each.{each-set_at}
use Rattle.uni_small.proofs.Running.{IsStepTo, runs_on}

-- one process gets another local, and the others stay where they are
pub sound_with : (object : Sequential (List ℕ) (List ℕ) (List ℕ)) (sizes : Sizes) (g g' : Board) (local : ℕ → Local) (p : ℕ) (l' : Local) → IsSound object sizes g local
    → IsBoard object sizes g' → ((q : ℕ) → q < sizes.processes → q ≢ p → IsAt object sizes g q (local q) → IsAt object sizes g' q (local q)) → IsAt object sizes g' p l'
    → IsSound object sizes g' (set_at local p l')
sound_with object sizes g g' local p l' sound board others mine = record {
  board = board;
  each = each-set_at (λ q l. IsAt object sizes g' q l) sizes.processes local p l' mine (λ q inside apart. others q inside apart (sound.each q inside));
}

-- where the board stays as it is
pub sound_same : (object : Sequential (List ℕ) (List ℕ) (List ℕ)) (sizes : Sizes) (g : Board) (local : ℕ → Local) (p : ℕ) (l' : Local) → IsSound object sizes g local
    → IsAt object sizes g p l' → IsSound object sizes g (set_at local p l')
sound_same object sizes g local p l' sound mine = sound_with object sizes g g local p l' sound sound.board (λ q inside apart h. h) mine

-- what is found of the seat and of the board when a step is taken
pub record Found {O : Type 0} (meaning : O → Meaning) (o : O) (sizes : Sizes) (me : Me Seen (View O)) (g : Board) (local : ℕ → Local) (words : List ℕ) : Type 0 where
  pub object : me.0.object ≡ Some o
  pub widths : AreWidths (meaning o) sizes
  pub processes : me.0.known.sizes ≡ sizes
  pub inside : me.0.known.first < sizes.processes
  pub local_is : local me.0.known.first ≡ me.0.known.local
  pub words_are : AreWords sizes g words
  pub sound : IsSound (meaning o).object sizes g local
  pub mine : IsAt (meaning o).object sizes g me.0.known.first me.0.known.local

-- The step of a seat of one process is one of its process in an execution, whatever it finds.
abbrev pub Steps : {O : Type 0} (meaning : O → Meaning) (o : O) (sizes : Sizes) (me : Me Seen (View O)) (j : ℕ) (f : ℕ → ℕ) (acts : Board → ℕ → List (Act (List ℕ) (List ℕ))) (says : ℕ → Me Seen (View O) → Type 0) → Type 0
Steps {O} meaning o sizes me j f acts says =
    (g : Board) (local : ℕ → Local) (words : List ℕ) → Found meaning o sizes me g local words → (me' : Me Seen (View O)) → says (slice_index words j) me'
    → IsStepTo (meaning o).object sizes me.0.known.first words j (f (slice_index words j)) me'.0.known.local (acts g (slice_index words j)) me.0.known.local

-- what has to be given: the board afterwards, with these acts more, and what the process knows then
pub record Given {O : Type 0} (meaning : O → Meaning) (o : O) (sizes : Sizes) (me : Me Seen (View O)) (g : Board) (local : ℕ → Local) (words' : List ℕ) (acts : List (Act (List ℕ) (List ℕ))) (says : Me Seen (View O) → Type 0) : Type 0 where
  pub board : Board
  pub local' : Local
  pub sound : IsSound (meaning o).object sizes board (set_at local me.0.known.first local')
  pub words_are : AreWords sizes board words'
  pub said : says (with_local me.0 local', me.1)
  pub appended : board.acts ≡ g.acts ++ acts

module _ {O : Type 0} (meaning : O → Meaning) (o : O) (sizes : Sizes) (id : ℕ) (me : Me Seen (View O)) (i : ℕ) (f : ℕ → ℕ) (acts : Board → ℕ → List (Act (List ℕ) (List ℕ))) (says : ℕ → Me Seen (View O) → Type 0)
    (single : me.0.known.count ≡ 1) (steps : Steps meaning o sizes me i f acts says) where
  abbrev p : ℕ
  p = me.0.known.first

  module _ (s : State Seen (View O)) (g : Board) (local : ℕ → Local) (seat_of : ℕ → ℕ) (is : IsShown sizes meaning o g local seat_of s) (at : get_elem? s.views id ≡ some me.0) where
    told : Tells sizes o local seat_of id me.0
    told = is.seats id me.0 at

    own : (p < sizes.processes) × (seat_of p ≡ id) × (local p ≡ me.0.known.local)
    own = told.each p (omega arith) (omega (arith, single))

    found : Found meaning o sizes me g local s.words
    found = record {
      object = told.object (omega (arith, single));
      widths = is.widths;
      processes = told.processes (omega (arith, single));
      inside = own.0;
      local_is = own.2;
      words_are = is.words;
      sound = is.sound;
      mine = subst (λ l. IsAt (meaning o).object sizes g p l) own.2 (is.sound.each p own.0);
    }

    module _ (given : Given meaning o sizes me g local (slice_set s.words i (f (slice_index s.words i))) (acts g (slice_index s.words i)) (says (slice_index s.words i))) where
      seats_later : (j : ℕ) (u : View O) → get_elem? (set s.views id (with_local me.0 given.local')) j ≡ some u → Tells sizes o (set_at local p given.local') seat_of j u
      seats_later j u e = ⊎_elim
          (λ (h : (j ≡ id) × (with_local me.0 given.local' ≡ u)).
          subst (λ (z : View O). Tells sizes o (set_at local p given.local') seat_of j z) h.1 (record {
            object = told.object;
            processes = told.processes;
            each = λ q from below.
                let here : q ≡ p = omega (arith, from, below, single) in (
                  subst (λ k. k < sizes.processes) (sym here) own.0,
                  ap seat_of here ∙ own.1 ∙ sym h.0,
                  ap (set_at local p given.local') here ∙ set_at_same local p given.local',
                );
            taken = λ its has.
                let was = told.taken its has in
                let apart : its.process ≢ p = (λ same. was.apart (omega (arith, same)) (omega (arith, same, single))) in
                let stays : set_at local p given.local' its.process ≡ local its.process = set_at_elsewhere local p given.local' its.process apart in
                record { inside = was.inside; seat = was.seat ∙ sym h.0; apart = was.apart; idle = ap (λ (l : Local). l.stage) stays ∙ was.idle; calls = ap (λ (l : Local). l.own) stays ∙ was.calls };
          }))
          (λ (h : (j ≢ id) × (get_elem? s.views j ≡ some u)).
          let theirs = is.seats j u h.1 in
          record {
            object = theirs.object;
            processes = theirs.processes;
            each = λ q from below.
                let one = theirs.each q from below in
                let apart : q ≢ p = (λ same. h.0 (sym one.1 ∙ ap seat_of same ∙ own.1)) in (
                  one.0,
                  one.1,
                  set_at_elsewhere local p given.local' q apart ∙ one.2,
                );
            taken = λ its has.
                let was = theirs.taken its has in
                let apart : its.process ≢ p = (λ same. h.0 (sym was.seat ∙ ap seat_of same ∙ own.1)) in
                let stays : set_at local p given.local' its.process ≡ local its.process = set_at_elsewhere local p given.local' its.process apart in
                record { inside = was.inside; seat = was.seat; apart = was.apart; idle = ap (λ (l : Local). l.stage) stays ∙ was.idle; calls = ap (λ (l : Local). l.own) stays ∙ was.calls };
          })
          (at_set s.views id j (with_local me.0 given.local') u e)

  pub step_law : ((g : Board) (local : ℕ → Local) (words : List ℕ) → Found meaning o sizes me g local words
      → Given meaning o sizes me g local (slice_set words i (f (slice_index words i))) (acts g (slice_index words i)) (says (slice_index words i)))
      → Moves meaning o sizes id me i f acts says
  step_law give s g local seat_of is at =
      let given = give g local s.words (found s g local seat_of is at) in (
        with_local me.0 given.local',
        (
          given.board,
          record { widths = is.widths; words = given.words_are; seats = seats_later s g local seat_of is at given; sound = given.sound },
          given.said,
          given.appended,
          runs_on (meaning o).object sizes g given.board local s.words p (own s g local seat_of is at).0 me.0.known.local (own s g local seat_of is at).2
              i (f (slice_index s.words i)) given.local' (acts g (slice_index s.words i))
              (steps g local s.words (found s g local seat_of is at) (with_local me.0 given.local', me.1) given.said) given.appended,
        ),
      )

-- a load leaves the words and the board as they are
pub load_law : {O : Type 0} (meaning : O → Meaning) (o : O) (sizes : Sizes) (id : ℕ) (me : Me Seen (View O)) (i : ℕ) (says : ℕ → Me Seen (View O) → Type 0)
    → me.0.known.count ≡ 1 → Steps meaning o sizes me i (λ x. x) nothing says
    → ((g : Board) (local : ℕ → Local) (words : List ℕ) → Found meaning o sizes me g local words
    → (l' : Local) × IsAt (meaning o).object sizes g me.0.known.first l' × says (slice_index words i) (with_local me.0 l', me.1))
    → Moves meaning o sizes id me i (λ x. x) nothing says
load_law meaning o sizes id me i says single steps give = step_law meaning o sizes id me i (λ x. x) nothing says single steps
    (λ g local words found.
    let given = give g local words found in record {
      board = g;
      local' = given.0;
      sound = sound_same (meaning o).object sizes g local me.0.known.first given.0 found.sound given.1;
      words_are = subst (AreWords sizes g) (sym (set-get_or words i 0)) found.words_are;
      said = given.2;
      appended = sym (append-nil g.acts);
    })
