-- A world of the anchor alone has the invariant.
use Rattle.uni_model.proofs.Vocabulary.{Anchor, Has, HasValues, IsNumbered, IsSound, LeadsBack, Name, None, Of, Option, Pending, Sequential, Some, after_of, anchor_memory, arith, inl, new_of, refl, seq_of, ℕ, ◌<◌, ◌≡◌, ◌≤◌}

-- the number of the anchor, where it stands alone
abbrev pub alone : ℕ → Name → ℕ
alone number Anchor = number
alone number (Of p k) = 0

module _ {S I R : Type 0} (object : Sequential S I R) (s : S) (number : ℕ) (positive : 1 ≤ number) where
  numbered : IsNumbered {S = S} {I = I} {R = R} (anchor_memory s number) (alone number) number
  numbered = record {
    anchor = refl;
    first = positive;
    least = least;
    greatest = greatest;
    one_each = one_each;
    link = λ x y e. cc;
    goes_on = goes_on;
    seq = seq;
    threaded = threaded;
  } where
    least : (x : Name) → 1 ≤ alone number x → number ≤ alone number x
    least Anchor h = omega arith
    least (Of p k) h = absurd (omega arith)

    greatest : (x : Name) → alone number x ≤ number
    greatest Anchor = omega arith
    greatest (Of p k) = omega arith

    one_each : (x y : Name) → 1 ≤ alone number x → alone number x ≡ alone number y → x ≡ y
    one_each Anchor Anchor h e = refl
    one_each Anchor (Of q j) h e = absurd (omega arith)
    one_each (Of p k) y h e = absurd (omega arith)

    goes_on : (x : Name) → 1 ≤ alone number x → alone number x < number → Has (after_of {S = S} {I = I} {R = R} (anchor_memory s number) x)
    goes_on Anchor h less = absurd (omega arith)
    goes_on (Of p k) h less = absurd (omega arith)

    seq : (x : Name) → 1 ≤ seq_of {S = S} {I = I} {R = R} (anchor_memory s number) x → seq_of {S = S} {I = I} {R = R} (anchor_memory s number) x ≡ alone number x
    seq Anchor h = refl
    seq (Of p k) h = refl

    threaded : (x : Name) → 1 ≤ alone number x → alone number x < number → seq_of {S = S} {I = I} {R = R} (anchor_memory s number) x ≡ alone number x
    threaded Anchor h less = refl
    threaded (Of p k) h less = refl

  values : HasValues object (anchor_memory s number) (alone number)
  values = record { anchor = (s, refl); none = none; threaded = threaded; after = λ x y v e settled. absurd (let f : None ≡ Some y = e in cc) } where
    none : (x : Name) → alone number x ≡ 0 → new_of {S = S} {I = I} {R = R} (anchor_memory s number) x ≡ None
    none Anchor e = absurd (omega arith)
    none (Of p k) e = refl

    threaded : (x : Name) → 1 ≤ seq_of {S = S} {I = I} {R = R} (anchor_memory s number) x → Has (new_of {S = S} {I = I} {R = R} (anchor_memory s number) x)
    threaded Anchor h = (_, refl)
    threaded (Of p k) h = absurd (omega arith)

  back : LeadsBack {S = S} {I = I} {R = R} (anchor_memory s number)
  back = record { link = λ x y e. absurd (let f : None ≡ Some x = e in cc); threaded = λ p k h. absurd (omega arith) }

  -- nobody has a call pending
  pub IsSound-anchor_memory : (n : ℕ) (call : ℕ → Option Pending) (begun among steps turns : ℕ → ℕ) → ((p : ℕ) → call p ≡ None)
      → IsSound object (record { n = n; memory = anchor_memory s number; call = call; begun = begun; first = begun; among = among; steps = steps; turns = turns }) (alone number) number
  IsSound-anchor_memory n call begun among steps turns idle = record {
    numbered = numbered;
    values = values;
    back = back;
    calls = record {
      anchor = refl;
      linked = λ p k h. absurd (omega arith);
      begun = λ p k made. absurd (let e : None ≡ Some made.0 = made.1 in cc);
      first = λ p. omega arith;
      made = λ p k since before. absurd (omega arith);
      process = λ p c e. absurd (let f = idle p in cc);
      mine = λ p c e. absurd (let f = idle p in cc);
      threaded = λ p k made. absurd (let e : None ≡ Some made.0 = made.1 in cc);
      announced = λ p h. inl refl;
      head = λ p h. positive;
      order = λ p k j less linked other. absurd (omega arith);
    };
    stands = λ p c e. absurd (let f = idle p in cc);
    count = omega arith;
  }
