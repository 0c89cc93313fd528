-- Histories in which no two calls overlap.
use Rattle.std.specs.Prelude.{◌≡◌, ℕ, List, [], ◌∷◌, map, refl}
use Rattle.seq_object.specs.Sequential.{Sequential}
use Rattle.uni_words.specs.Objects.{tally}
use Rattle.uni_model.specs.AtomicObject.{Act, Invoked}
use Rattle.uni_model.specs.AtomicObject.Act.{Invoke, Respond}
use Rattle.uni_model.specs.HerlihyWing.{one_by_one}

-- a call, and the reply that it was given
pub record Answered (I R : Type 0) : Type 0 where
  pub call : Invoked I
  pub reply : R

abbrev pub calls : {I R : Type 0} → List (Answered I R) → List (Invoked I)
calls told = map (λ c. c.call) told

-- their history where each call begins after the one before it has returned
abbrev pub one_after_another : {I R : Type 0} → List (Answered I R) → List (Act I R)
one_after_another [] = []
one_after_another (c ∷ told) = Invoke c.call.process c.call.nth c.call.inv ∷ Respond c.call.process c.call.nth c.reply ∷ one_after_another told

-- each is answered as the object answers it after the calls before it
abbrev pub AreAnsweredInTurn : {S I R : Type 0} → Sequential S I R → List (Answered I R) → Type 0
AreAnsweredInTurn object told = one_after_another told ≡ one_by_one object object.initial (calls told)

-- a stale read: process 0 adds 5 to a tally, is told 0 and returns; then process 1 adds 0 and is told 0
abbrev pub stale : List (Answered ℕ ℕ)
stale = record { call = record { process = 0; nth = 0; inv = 5 }; reply = 0 } ∷ record { call = record { process = 1; nth = 0; inv = 0 }; reply = 0 } ∷ []

sample-history : one_after_another stale ≡ Invoke 0 0 5 ∷ Respond 0 0 0 ∷ Invoke 1 0 0 ∷ Respond 1 0 0 ∷ []
sample-history = refl

-- the tally answers 5 to the second one
sample-in_turn : one_by_one tally 0 (calls stale) ≡ Invoke 0 0 5 ∷ Respond 0 0 0 ∷ Invoke 1 0 0 ∷ Respond 1 0 5 ∷ []
sample-in_turn = refl
