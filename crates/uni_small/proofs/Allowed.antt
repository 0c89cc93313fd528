-- What the functions of the word steps ask, in parts.
use Rattle.uni_small.proofs.Vocabulary.{Act, Allows, Board, List, Me, Meaning, Moves, Rule, Seen, Setup, View, keeps, subst, sym, ℕ, ◌≡◌}

-- what the table was told is what the object has, the word is this one, and the step moves the board
pub by_key : {O : Type 0} (meaning : O → Meaning) (told setup : Setup O) → told ≡ setup
    → (slots id : ℕ) (me : Me Seen (View O)) (i j : ℕ) → i ≡ j → (f : ℕ → ℕ) (says : ℕ → Me Seen (View O) → Type 0) (acts : Board → ℕ → List (Act (List ℕ) (List ℕ)))
    → Moves meaning setup.object setup.sizes id me j f acts says → Allows (Rule meaning told) slots id me i f says
by_key meaning told setup same slots id me i j word f says acts moves =
    subst (λ k. Allows (Rule meaning told) slots id me k f says) (sym word) (subst (λ key. Allows (Rule meaning key) slots id me j f says) (sym same)
    (λ s holds homes at fits.
    let moved = moves s holds.0 holds.1.0 holds.1.1.0 holds.1.1.1 at in
    let on = moved.1.4 holds.1.1.2.0 holds.1.1.2.1 in
    (moved.0, keeps, tt, (moved.1.0, (_, (holds.1.1.0, moved.1.1, (_, on.1.1)))), moved.1.2)))
