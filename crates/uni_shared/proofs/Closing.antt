-- The first reason for which a record and seats aren't closed.
use Rattle.uni_shared.proofs.Vocabulary.{All, All-contains, All-more, Contains, Contains-get_or, IfSome, IsBusy, IsLeast, IsMissing, IsQuiescent, IsSome, List, None, Option, SeatOf, Some, WorldOf, ap, arith, get_or, inl, inr, length, nat_eq, number_cases, refl, seats_of, subst, sym, take, ℕ, ◌+◌, ◌<◌, ◌∙◌, ◌≡◌, ◌≢◌, ◌≤◌, ◌⊎◌}
use Rattle.std.proofs.lemmas.List.Sums.{count_by_more_yes, count_by_more_no}

module _ {I R : Type 0} where
  -- one seat more
  seats_of-more : (l : List (SeatOf I R)) (i : ℕ) (s : SeatOf I R) (q : ℕ) → i < length l → s ≡ get_or l i s
      → ((s.process ≡ q) × (seats_of q (take (i + 1) l) ≡ seats_of q (take i l) + 1)) ⊎ ((s.process ≢ q) × (seats_of q (take (i + 1) l) ≡ seats_of q (take i l)))
  seats_of-more l i s q there is = elim (number_cases s.process q) [
    | inl same ↦ inl (same.0, count_by_more_yes (λ (x : SeatOf I R). nat_eq x.process q) l i s there (ap (λ (x : SeatOf I R). nat_eq x.process q) (sym is) ∙ same.1))
    | inr apart ↦ inr (apart.0, count_by_more_no (λ (x : SeatOf I R). nat_eq x.process q) l i s there (ap (λ (x : SeatOf I R). nat_eq x.process q) (sym is) ∙ apart.1))
  ]

  -- this is the least process from n on that has one of these seats, or none has
  pub record IsLeastOther (n : ℕ) (l : List (SeatOf I R)) (o : Option ℕ) : Type 0 where
    pub found : (m : ℕ) → o ≡ Some m → (n ≤ m) × (seats_of m l ≢ 0)
    pub before : (q : ℕ) → n ≤ q → ((m : ℕ) → o ≡ Some m → q < m) → seats_of q l ≡ 0

  pub IsLeastOther-start : (n : ℕ) (l : List (SeatOf I R)) → IsLeastOther n (take 0 l) None
  IsLeastOther-start n l = record { found = λ m is. absurd (cc); before = λ q past less. refl }

  module _ (n : ℕ) (l : List (SeatOf I R)) (i : ℕ) (s : SeatOf I R) (there : i < length l) (is : s ≡ get_or l i s) (o : Option ℕ) (to : IsLeastOther n (take i l) o) where
    pub IsLeastOther-same : s.process < n → IsLeastOther n (take (i + 1) l) o
    IsLeastOther-same own = record {
      found = λ m some. (
        (to.found m some).0,
        elim (seats_of-more l i s m there is) [
          | inl same ↦ absurd (let a = same.0 in let b = (to.found m some).0 in omega arith)
          | inr apart ↦ λ none. (to.found m some).1 (sym apart.1 ∙ none)
        ],
      );
      before = λ q past less. elim (seats_of-more l i s q there is) [
        | inl same ↦ absurd (let a = same.0 in omega arith)
        | inr apart ↦ apart.1 ∙ to.before q past less
      ];
    }

    module _ (other : n ≤ s.process) (m : ℕ) (below : m ≤ s.process) (below_found : (k : ℕ) → o ≡ Some k → m ≤ k) (either : (m ≡ s.process) ⊎ (o ≡ Some m)) where
      past_n : n ≤ m
      past_n = elim either [
        | inl same ↦ omega arith
        | inr some ↦ (to.found m some).0
      ]

      counted : seats_of m (take (i + 1) l) ≢ 0
      counted = elim (seats_of-more l i s m there is) [
        | inl same ↦ λ none. (let more = same.1 in omega arith)
        | inr apart ↦ elim either [
          | inl same ↦ absurd (apart.0 (sym same))
          | inr some ↦ λ none. (to.found m some).1 (sym apart.1 ∙ none)
        ]
      ]

      pub IsLeastOther-more : IsLeastOther n (take (i + 1) l) (Some m)
      IsLeastOther-more = record {
        found = λ k some. let same : m ≡ k = cc in subst (λ k. (n ≤ k) × (seats_of k (take (i + 1) l) ≢ 0)) same (past_n, counted);
        before = λ q past less. let q_less = less m refl in elim (seats_of-more l i s q there is) [
          | inl same ↦ absurd (let a = same.0 in omega arith)
          | inr apart ↦ apart.1 ∙ to.before q past (λ k some. let at_most = below_found k some in omega arith)
        ];
      }

  pub IsLeast-other : (n : ℕ) (l : List (SeatOf I R)) (o : Option ℕ) → IsLeastOther n l o → IfSome o (IsLeast (λ p. (n ≤ p) × (seats_of p l ≢ 0)))
  IsLeast-other n l None to = tt
  IsLeast-other n l (Some m) to = record {
    holds = to.found m refl;
    least = λ q less there. there.1 (to.before q there.0 (λ k some. let same : m ≡ k = cc in omega arith));
  }

  pub IsLeast-missing : (n : ℕ) (l : List (SeatOf I R)) → ((p : ℕ) → p < n → seats_of p l ≡ 1) → (m : ℕ) → IsLeast (λ p. (n ≤ p) × (seats_of p l ≢ 0)) m → IsLeast (IsMissing n l) m
  IsLeast-missing n l each m other = record {
    holds = inr other.holds;
    least = λ q less missing. elim missing [
      | inl own ↦ own.1 (each q own.0)
      | inr there ↦ other.least q less there
    ];
  }

  pub IsLeast-missing_own : (n : ℕ) (l : List (SeatOf I R)) (p : ℕ) → p < n → seats_of p l ≢ 1 → ((q : ℕ) → q < p → seats_of q l ≡ 1) → IsLeast (IsMissing n l) p
  IsLeast-missing_own n l p below not_one before = record {
    holds = inl (below, not_one);
    least = λ q less missing. elim missing [
      | inl own ↦ own.1 (before q less)
      | inr there ↦ (let past = there.0 in omega arith)
    ];
  }

  pub IsMissing-none : (n : ℕ) (l : List (SeatOf I R)) → ((p : ℕ) → p < n → seats_of p l ≡ 1) → ((q : ℕ) → n ≤ q → seats_of q l ≡ 0) → (q : ℕ) → ¬ (IsMissing n l q)
  IsMissing-none n l each others q missing = elim missing [
    | inl own ↦ own.1 (each q own.0)
    | inr there ↦ there.1 (others q there.0)
  ]

module _ {S I R : Type 0} (w : WorldOf S I R) where
  -- this is the least process that has a call pending in the world or in one of these seats, or none has
  pub record IsLeastBusy (seats l : List (SeatOf I R)) (o : Option ℕ) : Type 0 where
    pub found : (m : ℕ) → o ≡ Some m → IsBusy w seats m
    pub world : (q : ℕ) → q < w.n → ((m : ℕ) → o ≡ Some m → q < m) → w.call q ≡ None
    pub seated : All (λ s. IsSome s.pending → (m : ℕ) × (o ≡ Some m) × (m ≤ s.process)) l

  pub IsLeastBusy-start : (seats : List (SeatOf I R)) (o : Option ℕ) → IfSome o (λ p. (p < w.n) × IsSome (w.call p) × ((q : ℕ) → q < p → w.call q ≡ None)) → (o ≡ None → IsQuiescent w) → IsLeastBusy seats (take 0 seats) o
  IsLeastBusy-start seats None least none = record { found = λ m is. absurd (cc); world = λ q below less. none refl q below; seated = λ k d there. absurd (omega arith) }
  IsLeastBusy-start seats (Some p) least none = record {
    found = λ m is. let same : p ≡ m = cc in subst (IsBusy w seats) same (inl (least.0, least.1));
    world = λ q below less. least.2 q (less p refl);
    seated = λ k d there. absurd (omega arith);
  }

  module _ (seats : List (SeatOf I R)) (i : ℕ) (s : SeatOf I R) (there : i < length seats) (is : s ≡ get_or seats i s) (o : Option ℕ) (to : IsLeastBusy seats (take i seats) o) where
    pub IsLeastBusy-same : s.pending ≡ None → IsLeastBusy seats (take (i + 1) seats) o
    IsLeastBusy-same idle = record {
      found = to.found;
      world = to.world;
      seated = All-more (λ s. IsSome s.pending → (m : ℕ) × (o ≡ Some m) × (m ≤ s.process)) seats i s there to.seated
          (subst (λ s. IsSome s.pending → (m : ℕ) × (o ≡ Some m) × (m ≤ s.process)) is (λ pending. absurd (let p = rw idle at pending in cc)));
    }

    pub IsLeastBusy-more : IsSome s.pending → (m : ℕ) → m ≤ s.process → ((k : ℕ) → o ≡ Some k → m ≤ k) → (m ≡ s.process) ⊎ (o ≡ Some m) → IsLeastBusy seats (take (i + 1) seats) (Some m)
    IsLeastBusy-more pending m below below_found either = record {
      found = λ k some. let same : m ≡ k = cc in subst (IsBusy w seats) same (elim either [
        | inl own ↦ inr (s, subst (Contains seats) (sym is) (Contains-get_or seats i s there), sym own, pending)
        | inr old ↦ to.found m old
      ]);
      world = λ q below less. to.world q below (λ k some. let at_most = below_found k some in let l = less m refl in omega arith);
      seated = All-more (λ s. IsSome s.pending → (k : ℕ) × (Some m ≡ Some k) × (k ≤ s.process)) seats i s there
          (λ k d within busy. let old = to.seated k d within busy in (m, refl, (let at_most = below_found old.0 old.1 in let o = old.2 in omega arith)))
          (subst (λ s. IsSome s.pending → (k : ℕ) × (Some m ≡ Some k) × (k ≤ s.process)) is (λ busy. (m, refl, below)));
    }

  pub IsLeast-busy : (seats : List (SeatOf I R)) (o : Option ℕ) → IsLeastBusy seats seats o → IfSome o (IsLeast (IsBusy w seats))
  IsLeast-busy seats None to = tt
  IsLeast-busy seats (Some m) to = record {
    holds = to.found m refl;
    least = λ q less busy. elim busy [
      | inl in_world ↦ (let none = to.world q in_world.0 (λ k some. let same : m ≡ k = cc in omega arith) in let some = rw none at in_world.1 in cc)
      | inr seated ↦
          (let old = All-contains (λ s. IsSome s.pending → (k : ℕ) × (Some m ≡ Some k) × (k ≤ s.process)) seats seated.0 to.seated seated.1 seated.3 in
          let same : m ≡ old.0 = (let e = old.1 in cc) in let at_most = old.2 in let own = seated.2 in omega arith)
    ];
  }

  pub IsBusy-none : (seats : List (SeatOf I R)) → All (λ s. s.pending ≡ None) seats → IsQuiescent w → (q : ℕ) → ¬ (IsBusy w seats q)
  IsBusy-none seats idle quiet q busy = elim busy [
    | inl in_world ↦ (let none = quiet q in_world.0 in let some = rw none at in_world.1 in cc)
    | inr seated ↦ (let none = All-contains (λ s. s.pending ≡ None) seats seated.0 idle seated.1 in let some = rw none at seated.3 in cc)
  ]
