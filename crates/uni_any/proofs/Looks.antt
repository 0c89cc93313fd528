-- A seat looks into one buffer after the other.
use Rattle.uni_any.proofs.Vocabulary.{HasLearned, HasStarted, IsPending, Letter, Local, None, Option, Reading, Sequential, Some, View, ap, applied_in, arith, base_of, inl, inr, local_of, lt_cases, made_by, most_calls, number_cases, process_in, refl, stage_of, started, subst, with_local, with_seen, ℕ, ◌*◌, ◌+◌, ◌<◌, ◌∙◌, ◌≡◌, ◌≤◌}
use Rattle.uni_any.specs.Seats.{HasLookedAt}

-- what a take leaves
pub seen_fields : {I S R : Type 0} (l : Local I S R) (r : ℕ) (found : Option (Letter I S R))
    → ((with_seen l r found).own ≡ l.own) × ((with_seen l r found).after ≡ l.after) × ((with_seen l r found).last ≡ l.last) × ((with_seen l r found).word ≡ l.word)
seen_fields l r None = (refl, refl, refl, refl)
seen_fields l r (Some letter) = (refl, refl, refl, refl)

pub seen_stage : {I S R : Type 0} (l : Local I S R) (r : ℕ) (found : Option (Letter I S R)) → (with_seen l r found).stage ≡ l.stage
seen_stage l r None = refl
seen_stage l r (Some letter) = refl

module _ {O I S R : Type 0} (meaning : O → Sequential S I R) where
  -- whatever else it does, it has seen that then, and has brought in what it had
  pub learned_keeps : (v w : View O I S R) (from : ℕ) → from < v.known.processes → (inv : I) (tries : ℕ) → stage_of v ≡ Reading inv tries from → (found : Option (Letter I S R)) → HasLearned meaning v from found w
      → ((local_of w).seen ≡ (with_seen (local_of v) from found).seen) × ((local_of w).last ≡ (local_of v).last)
  learned_keeps v w from inside inv tries reads found told =
      let h = told inv tries reads inside in
      let l1 = with_seen (local_of v) from found in
      let same = (seen_fields (local_of v) from found).2 in
      elim (lt_cases (from + 1) v.known.processes) [
        | inl less ↦ (ap (λ (z : View O I S R). z.known.local.seen) (h.0 less.0), ap (λ (z : View O I S R). z.known.local.last) (h.0 less.0) ∙ same)
        | inr more ↦
            let f = h.1 (let a = more.0 in omega (arith, inside)) in
            elim (number_cases (applied_in (base_of (meaning v.object) v.known.processes l1).image v.known.first) (made_by l1 + 1)) [
              | inl e ↦ (let y = (f.ends e.0).3 in (ap (λ (z : View O I S R). z.known.local.seen) y, ap (λ (z : View O I S R). z.known.local.last) y ∙ same))
              | inr e ↦ (let y = (f.goes_on e.0).4 in (ap (λ (z : View O I S R). z.known.local.seen) y, ap (λ (z : View O I S R). z.known.local.last) y ∙ same))
            ]
      ]

  -- it has looked into the first r
  pub record LooksSo (v : View O I S R) (inv : I) (tries word r : ℕ) (w : View O I S R) : Type 0 where
    pub few : word < 64 * (64 * most_calls + 1)
    pub inside : process_in word < v.known.processes
    pub most : r ≤ v.known.processes
    pub going : r < v.known.processes → (l : Local I S R) × (l.own ≡ (local_of v).own) × (l.after ≡ (local_of v).after) × (l.last ≡ (local_of v).last) × (l.word ≡ word) × (l.stage ≡ Reading inv tries r) × (w ≡ with_local v l)
    pub done : r ≡ v.known.processes → HasLookedAt meaning v inv tries word w

  pub looks_first : (v w : View O I S R) (inv : I) (tries word : ℕ) → 1 ≤ v.known.processes → IsPending inv tries v → HasStarted v word w → LooksSo v inv tries word 0 w
  looks_first v w inv tries word some pending told =
      let h = told inv tries pending in
      record {
        few = h.1;
        inside = h.0;
        most = omega arith;
        going = λ below. (started (local_of v) inv tries word, refl, refl, refl, refl, refl, h.2);
        done = λ none. absurd (omega (arith, some, none));
      }

  pub looks_next : (v w u : View O I S R) (inv : I) (tries word r : ℕ) → LooksSo v inv tries word r w → r < v.known.processes → (found : Option (Letter I S R)) → HasLearned meaning w r found u → LooksSo v inv tries word (r + 1) u
  looks_next v w u inv tries word r so below found told =
      let g = so.going below in
      let l = g.0 in
      let at_l : HasLearned meaning (with_local v l) r found u = subst (λ (z : View O I S R). HasLearned meaning z r found u) g.6 told in
      let h = at_l inv tries g.5 below in
      let f = seen_fields l r found in
      record {
        few = so.few;
        inside = so.inside;
        most = omega (arith, below);
        going = λ less. (record (with_seen l r found) { stage = Reading inv tries (r + 1) }, f.0 ∙ g.1, f.1 ∙ g.2, f.2 ∙ g.3, f.3 ∙ g.4, refl, h.0 less);
        done = λ last.
            let y = h.1 last in
            record {
              local = with_seen l r found;
              own = f.0 ∙ g.1;
              after = f.1 ∙ g.2;
              last = f.2 ∙ g.3;
              word_is = f.3 ∙ g.4;
              inside = so.inside;
              few = so.few;
              found = record { whole = y.whole; least = y.least; ends = y.ends; goes_on = y.goes_on };
            };
      }

  pub looks_reading : (v w : View O I S R) (inv : I) (tries word r : ℕ) → LooksSo v inv tries word r w → r < v.known.processes → stage_of w ≡ Reading inv tries r
  looks_reading v w inv tries word r so below = (let g = so.going below in ap (λ (z : View O I S R). z.known.local.stage) g.6 ∙ g.5)
