-- How a call goes on after an attempt, and ends.
use Rattle.uni_any.proofs.Vocabulary.{HasBrought, Image, Local, Reading, Ready, Sequential, Some, Told, Version, View, Writing, [], ap, applied_in, base_of, brought, due, goes, inl, inr, length, local_of, made_by, missed, number_cases, number_in, row_in, seen_of, subst, sym, with_local, ℕ, ◌++◌, ◌+◌, ◌<◌, ◌∙◌, ◌∷◌, ◌≡◌, ◌≢◌}
use Rattle.uni_any.specs.Seats.{GoesOnTo, HasEnded, HasLookedAt}

module _ {O I S R : Type 0} (v w1 w2 : View O I S R) (inv : I) (tries : ℕ) (image : Image S R) (n : ℕ) (laid : w1 ≡ goes v (Writing inv tries image n)) (processes : v.known.processes ≡ n) (found : ℕ) (told : HasBrought w1 found w2) where
  abbrev l : Local I S R
  l = local_of v

  at_laid : HasBrought (goes v (Writing inv tries image n)) found w2
  at_laid = subst (λ (z : View O I S R). HasBrought z found w2) laid told

  both : (found ≡ l.word → (x : R) × ((row_in image v.known.first).reply ≡ Some x) × (l.after < number_in l.word + 1) × (w2 ≡ with_local v (brought (record l { stage = Writing inv tries image n }) inv x image)))
      × (found ≢ l.word → w2 ≡ with_local v (missed (record l { stage = Writing inv tries image n }) inv tries image))
  both = at_laid inv tries image (ap (Writing inv tries image) (sym processes))

  pub hit : found ≡ l.word → (x : R) × ((row_in image v.known.first).reply ≡ Some x) × HasEnded v inv x (number_in l.word + 1) w2 × ((local_of w2).last ≡ record { number = number_in l.word + 1; image = image }) × ((local_of w2).seen ≡ l.seen)
  hit same =
      let h = both.0 same in (
        h.0,
        h.1,
        record {
          own = ap (λ (z : View O I S R). z.known.local.own) h.3;
          idle = ap (λ (z : View O I S R). z.known.local.stage) h.3;
          after = ap (λ (z : View O I S R). z.known.local.after) h.3;
          later = h.2;
        },
        ap (λ (z : View O I S R). z.known.local.last) h.3,
        ap (λ (z : View O I S R). z.known.local.seen) h.3,
      )

  pub miss : found ≢ l.word → GoesOnTo v (Ready inv (tries + 1)) w2 × ((local_of w2).last ≡ l.last) × ((local_of w2).seen ≡ l.seen)
  miss apart =
      let h = both.1 apart in (
        record {
          own = ap (λ (z : View O I S R). z.known.local.own) h;
          after = ap (λ (z : View O I S R). z.known.local.after) h;
          stage_is = ap (λ (z : View O I S R). z.known.local.stage) h;
        },
        ap (λ (z : View O I S R). z.known.local.last) h,
        ap (λ (z : View O I S R). z.known.local.seen) h,
      )

-- what a seat has that has looked into all buffers
module _ {O I S R : Type 0} (meaning : O → Sequential S I R) (v w : View O I S R) (inv : I) (tries word : ℕ) (looked : HasLookedAt meaning v inv tries word w) where
  abbrev n : ℕ
  n = v.known.processes

  abbrev x : Version S R
  x = base_of (meaning v.object) n looked.local

  made_is : made_by looked.local ≡ made_by (local_of v)
  made_is = ap (λ xs. length xs) looked.own

  pub looked_in : applied_in x.image v.known.first ≡ made_by (local_of v) + 1 → (y : R) × ((row_in x.image v.known.first).reply ≡ Some y) × HasEnded v inv y x.number w × ((local_of w).word ≡ word) × ((local_of w).seen ≡ looked.local.seen)
  looked_in in_is =
      let h = looked.found.ends (in_is ∙ ap (λ k. k + 1) (sym made_is)) in (
        h.0,
        h.1,
        record {
          own = ap (λ (z : View O I S R). z.known.local.own) h.3 ∙ (λ k. looked.own k ++ record { inv = inv; reply = h.0; after = looked.after k; version = x.number } ∷ []);
          idle = ap (λ (z : View O I S R). z.known.local.stage) h.3;
          after = ap (λ (z : View O I S R). z.known.local.after) h.3;
          later = subst (λ k. k < x.number) looked.after h.2;
        },
        ap (λ (z : View O I S R). z.known.local.word) h.3 ∙ looked.word_is,
        ap (λ (z : View O I S R). z.known.local.seen) h.3,
      )

  pub looked_on : applied_in x.image v.known.first ≢ made_by (local_of v) + 1 → (tries < 2) × GoesOnTo v (Reading inv tries n) w × ((local_of w).word ≡ word) × ((local_of w).seen ≡ looked.local.seen)
      × ((local_of w).last ≡ (local_of v).last) × (due x.image v.known.first (seen_of (meaning v.object) n looked.local v.known.first) ≡ Some inv)
  looked_on apart =
      let h = looked.found.goes_on (λ e. apart (e ∙ ap (λ k. k + 1) made_is)) in (
        h.1,
        record {
          own = ap (λ (z : View O I S R). z.known.local.own) h.4 ∙ looked.own;
          after = ap (λ (z : View O I S R). z.known.local.after) h.4 ∙ looked.after;
          stage_is = ap (λ (z : View O I S R). z.known.local.stage) h.4;
        },
        ap (λ (z : View O I S R). z.known.local.word) h.4 ∙ looked.word_is,
        ap (λ (z : View O I S R). z.known.local.seen) h.4,
        ap (λ (z : View O I S R). z.known.local.last) h.4 ∙ looked.last,
        due_is (seen_of (meaning v.object) n looked.local v.known.first) (h.2 ∙ ap (λ k. k + 1) (sym h.0)) h.3,
      ) where
        due_is : (t : Told I S R) → t.call ≡ applied_in x.image v.known.first + 1 → t.inv ≡ Some inv → due x.image v.known.first t ≡ Some inv
        due_is t call has = elim (number_cases t.call (applied_in x.image v.known.first + 1)) [ inl e ↦ rw e.1 has | inr e ↦ absurd (e.0 call) ]

  -- the version that it found, as it stands then
  pub base_then : (local_of w).word ≡ word → (local_of w).seen ≡ looked.local.seen → base_of (meaning v.object) n (local_of w) ≡ x
  base_then word_is seen_is = (λ k. base_of (meaning v.object) n (record (local_of w) { word = (word_is ∙ sym looked.word_is) k; seen = seen_is k }))
