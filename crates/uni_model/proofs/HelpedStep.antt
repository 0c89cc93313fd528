-- A step goes on helping every call that is pending.
use Rattle.uni_model.proofs.Vocabulary.{DecideAfter, Helps, IsFair, IsFairToAll, IsHelped, IsSound, Memory, Name, None, OfConsidered, Option, Pending, Sequential, Some, Stage, Stands, WorldOf, ap, arith, call_after, head_of, head_seq, inl, inr, seq_of, set_at, subst, sym, ℕ, ◌+◌, ◌<◌, ◌∙◌, ◌≡◌, ◌≢◌, ◌≤◌}
use Rattle.uni_model.proofs.Written.{number_cases}
use Rattle.uni_model.proofs.Moves.{Moves, Extends}
use Rattle.uni_model.proofs.Grows.{head_seq-at}
use Rattle.uni_model.proofs.Helped.{OfConsidered-map}
use Rattle.uni_model.proofs.Advanced.{AdvancesTo}
use Rattle.uni_model.proofs.Later.{GrowFairly, heads_later, IsHelped-later, IsFair-later, Finds-waiting, IsHelped-waiting}

module _ {S I R : Type 0} (object : Sequential S I R) (w : WorldOf S I R) (num : Name → ℕ) (last : ℕ) (sound : IsSound object w num last) (helps : Helps w num last)
    (p : ℕ) (mine : Name) (from : Stage) (is : w.call p ≡ Some (record { mine = mine; stage = from }))
    (m : Memory S I R) (num' : Name → ℕ) (last' : ℕ) (to : Option Stage) (moves : Moves object w num p mine m num' last' to)
    (extends : Extends num last num' last' from) (head : head_seq w.memory p ≤ head_seq m p) (t : ℕ) (advances : AdvancesTo w num p mine from m num' to t) where
  inside : p < w.n
  inside = sound.calls.process p (record { mine = mine; stage = from }) is

  -- no head falls
  pub rise : (r : ℕ) → r < w.n → head_seq w.memory r ≤ head_seq m r
  rise r below = elim (number_cases r p) [
    | inl here ↦ subst (λ k. head_seq w.memory k ≤ head_seq m k) (sym here.0) head
    | inr other ↦
        let number : head_seq m r ≡ head_seq w.memory r = ap (seq_of m) (moves.heads r other.0) ∙ moves.grows.seq (head_of w.memory r) (sound.calls.head r below) in
        omega arith
  ]

  grow : GrowFairly w num last num' last'
  grow = elim extends [
    | inl same ↦ inl same
    | inr more ↦
        let stands : Stands w.memory num w.n p mine (DecideAfter more.0 last more.1) = subst (λ k. Stands w.memory num w.n p mine k) more.2 (sound.stands p (record { mine = mine; stage = from }) is) in
        let number : head_seq w.memory p ≡ last = head_seq-at w.memory p more.0 last stands.0 in
        inr (
          more.1,
          (subst (λ k. OfConsidered k (λ s x. IsFairToAll w num s x)) more.2 (helps.fair p (record { mine = mine; stage = from }) is), (p, omega arith, inside, omega arith)),
          more.3,
          more.4,
          more.5,
        )
  ]

  waiting : (q : ℕ) (c : Pending) → q ≢ p → w.call q ≡ Some c → IsHelped m num' last' w.n q c.mine c.stage (w.turns q)
  waiting q c other pending = IsHelped-waiting object w num last sound helps m num' last' grow moves.grows rise moves.numbers q c pending (moves.heads q other)
      (elim (moves.announced q) [ inl same ↦ same | inr own ↦ absurd (other own.0) ])

  -- p's own call, if it goes on
  own : (c : Pending) → call_after mine to ≡ Some c → IsHelped m num' last' w.n p c.mine c.stage t
  own c e = at_stage to advances e where
    at_stage : (k : Option Stage) → AdvancesTo w num p mine from m num' k t → call_after mine k ≡ Some c → IsHelped m num' last' w.n p c.mine c.stage t
    at_stage None done f = cc
    at_stage (Some k) on f =
        let same : record { mine = mine; stage = k } ≡ c = cc in
        subst (λ (x : Pending). IsHelped m num' last' w.n p x.mine x.stage t) same
        (IsHelped-later object w num last sound helps m num' last' grow p (record { mine = mine; stage = from }) is k t on.finds on.announced on.own_head on.ahead)

  own_fair : (c : Pending) → call_after mine to ≡ Some c → (s : ℕ) (x : Name) → IsFairToAll w num s x → IsFair m num' w.n p c.mine c.stage t s x
  own_fair c e s x fair = at_stage to advances e where
    at_stage : (k : Option Stage) → AdvancesTo w num p mine from m num' k t → call_after mine k ≡ Some c → IsFair m num' w.n p c.mine c.stage t s x
    at_stage None done f = cc
    at_stage (Some k) on f =
        let same : record { mine = mine; stage = k } ≡ c = cc in
        subst (λ (y : Pending). IsFair m num' w.n p y.mine y.stage t s x) same
        (IsFair-later object w num last sound helps m num' last' grow p (record { mine = mine; stage = from }) is k t on.finds (λ first. absurd (on.later first)) s x
        (fair p (record { mine = mine; stage = from }) is))

  own_considered : (c : Pending) → call_after mine to ≡ Some c → OfConsidered c.stage (λ s x. IsFairToAll w num s x)
  own_considered c e = at_stage to advances e where
    at_stage : (k : Option Stage) → AdvancesTo w num p mine from m num' k t → call_after mine k ≡ Some c → OfConsidered c.stage (λ s x. IsFairToAll w num s x)
    at_stage None done f = cc
    at_stage (Some k) on f = let same : record { mine = mine; stage = k } ≡ c = cc in subst (λ (y : Pending). OfConsidered y.stage (λ s x. IsFairToAll w num s x)) same on.fair

  each_later : (q : ℕ) (c : Pending) → set_at w.call p (call_after mine to) q ≡ Some c → IsHelped m num' last' w.n q c.mine c.stage (set_at w.turns p t q)
  each_later q c e = elim (number_cases q p) [
    | inl here ↦ rw here.1 (subst (λ r. IsHelped m num' last' w.n r c.mine c.stage t) (sym here.0) (own c (rw here.1 at e)))
    | inr other ↦ rw other.1 (waiting q c other.0 (rw other.1 at e))
  ]

  all_fair_later : (s : ℕ) (x : Name) → IsFairToAll w num s x → (q : ℕ) (c : Pending) → set_at w.call p (call_after mine to) q ≡ Some c → IsFair m num' w.n q c.mine c.stage (set_at w.turns p t q) s x
  all_fair_later s x fair q c e = elim (number_cases q p) [
    | inl here ↦ rw here.1 (subst (λ r. IsFair m num' w.n r c.mine c.stage t s x) (sym here.0) (own_fair c (rw here.1 at e) s x fair))
    | inr other ↦ rw other.1 (
        let was : w.call q ≡ Some c = rw other.1 at e in
        IsFair-later object w num last sound helps m num' last' grow q c was c.stage (w.turns q) (Finds-waiting object w num last sound helps m num' last' grow moves.grows rise moves.numbers q c was)
        (λ first. first) s x (fair q c was))
  ]

  considered_later : (o : ℕ) (c : Pending) → set_at w.call p (call_after mine to) o ≡ Some c → OfConsidered c.stage (λ s x. IsFairToAll w num s x)
  considered_later o c e = elim (number_cases o p) [
    | inl here ↦ own_considered c (rw here.1 at e)
    | inr other ↦ helps.fair o c (rw other.1 at e)
  ]

  done : call_after mine to ≡ None → t ≤ w.n + 1
  done e = at_stage to advances e where
    at_stage : (k : Option Stage) → AdvancesTo w num p mine from m num' k t → call_after mine k ≡ None → t ≤ w.n + 1
    at_stage None done f = done
    at_stage (Some k) on f = cc

  pub Helps-moved : (steps : ℕ → ℕ) → w.among p ≡ w.n
      → Helps (record { n = w.n; memory = m; call = set_at w.call p (call_after mine to); begun = w.begun; first = w.first; among = w.among; steps = steps; turns = set_at w.turns p t }) num' last'
  Helps-moved steps among = record {
    each = each_later;
    fair = λ o c e. OfConsidered-map c.stage (λ s x. IsFairToAll w num s x) _ all_fair_later (considered_later o c e);
    heads = heads_later object w num last sound helps m num' last' grow rise;
    returned = λ q e. elim (number_cases q p) [
      | inl here ↦ subst (λ n. set_at w.turns p t q ≤ n + 1) (sym (ap w.among here.0 ∙ among)) (rw here.1 (done (rw here.1 at e)))
      | inr other ↦ rw other.1 (helps.returned q (rw other.1 at e))
    ];
  }
