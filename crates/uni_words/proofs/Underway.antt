-- What a seat knows stays while the memory grows.
use Rattle.uni_words.proofs.Vocabulary.{Announce, Applied, DecideNew, Finish, Grows, HasOutcome, HasRead, Invocation, IsShared, IsUnderway, List, Memory, Name, None, Nothing, Of, Option, Pending, ReadAnnounce, Reading, Reply, Some, Stage, [], ap, arith, last_number, length, new_of, option_and_then, place_of, refl, response_in, slice_get, subst, suc, sym, zero, ℕ, ◌<◌, ◌∙◌, ◌∷◌, ◌≡◌, ◌≤◌}

pub there_below : {A : Type 0} (l : List A) (i : ℕ) → i < length l → (a : A) × (slice_get l i ≡ Some a)
there_below [] i h = absurd (omega arith)
there_below (x ∷ xs) zero h = (x, refl)
there_below (x ∷ xs) (suc i) h = there_below xs i (omega arith)

module _ (m m' : Memory ℕ ℕ ℕ) (grows : Grows m m') where
  pub response-grows : (x : Name) (r : ℕ) → response_in m x ≡ Some r → response_in m' x ≡ Some r
  response-grows x r e = by_new (new_of m x) refl e where
    by_new : (o : Option (ℕ × Option ℕ)) → new_of m x ≡ o → option_and_then (λ (new : ℕ × Option ℕ). new.1) o ≡ Some r → response_in m' x ≡ Some r
    by_new None is f = cc
    by_new (Some v) is f = ap (λ o. option_and_then (λ (new : ℕ × Option ℕ). new.1) o) (grows.new x v is) ∙ f

  pub HasOutcome-grows : (x : Name) (inv reply : ℕ) → HasOutcome m x inv reply → HasOutcome m' x inv reply
  HasOutcome-grows x inv reply h = record {
    inv_is = grows.inv x inv h.inv_is;
    threaded = subst (λ t. 1 ≤ t) (sym (grows.seq x h.threaded)) h.threaded;
    reply_is = response-grows x reply h.reply_is;
  }

  pub last_number-grows : (p : ℕ) (own : List (ℕ × ℕ)) → ((j : ℕ) (c : ℕ × ℕ) → slice_get own j ≡ Some c → HasOutcome m (Of p j) c.0 c.1) → last_number m' p (length own) ≡ last_number m p (length own)
  last_number-grows p own returned = by_count (length own) refl where
    by_count : (k : ℕ) → length own ≡ k → last_number m' p k ≡ last_number m p k
    by_count zero e = refl
    by_count (suc k) e = let c = there_below own k (omega (arith, e)) in grows.seq (Of p k) (returned k c.0 c.1).threaded

  pub HasRead-grows : (mine : Name) (stage : Stage) (read : Reading) → HasRead m mine stage read → HasRead m' mine stage read
  HasRead-grows mine stage Nothing h = tt
  HasRead-grows mine (DecideNew c s d) (Invocation inv) h = grows.inv d inv h
  HasRead-grows mine (DecideNew c s d) (Applied inv state) h = (grows.inv d inv h.0, (h.1.0, grows.new c (state, h.1.0) h.1.1))
  HasRead-grows mine (Finish s t) (Reply reply) h = response-grows mine reply h
  HasRead-grows mine _ _ h = absurd h

  pub IsUnderway-grows : (call : Option Pending) (inv : ℕ) (read : Reading) → IsUnderway m call inv read → IsUnderway m' call inv read
  IsUnderway-grows None inv read h = tt
  IsUnderway-grows (Some c) inv read h = (grows.inv c.mine inv h.0, HasRead-grows c.mine c.stage read h.1)

-- a step touches no invocation
pub place_shared : (n p : ℕ) (mine : Name) (stage : Stage) → IsShared (place_of n p mine stage)
place_shared n p mine Announce = tt
place_shared n p mine (ReadAnnounce c s) = tt
place_shared n p mine _ = tt
