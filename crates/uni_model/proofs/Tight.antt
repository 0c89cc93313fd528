-- A run in which a call meets the bound: another process decides what comes after the anchor and stops, p loses its first turn to
-- it, and then all others call and announce, so that p helps each of them before itself.
use Rattle.uni_model.proofs.Vocabulary.{AfterOf, Anchor, Announce, Announced, Call, CellName, DecideNew, InvOf, Invocation, IsAccepted, Link, Memory, Name, None, Of, ScanHead, Sequential, Some, Step, Test, WorldOf, add-mod_right, after_of, announce_of, ap, arith, cases_lt, cond, head_of, if◌then◌else◌, inl, inr, memory_with, mod-add-div', mul-le-mul_right, opened_world, refl, seq_of, set_at, subst, suc, sym, unwrap_or, world_after, zero, ℕ, ◌%◌, ◌*◌, ◌+◌, ◌-◌, ◌/◌, ◌<◌, ◌==◌, ◌∙◌, ◌≡◌, ◌≢◌, ◌≤◌}
use Rattle.uni_model.proofs.Written.{number_cases, set_at-cases, head_of-memory_with, announce_of-memory_with, seq_of-memory_with, after_of-memory_with}
use Rattle.uni_model.proofs.LawProofs.{set_at_elsewhere}
use Rattle.uni_model.proofs.Solo.{Can, now, next, and_then, world_at, IsAt, at_here, set_at_here, announces_own, opened_by, scans, prefers_help, prefers_own, proposes, threaded_by, threads, ends}

-- numbers less than n apart have other remainders
pub remainders_apart : (n a b : ℕ) → a < b → b < a + n → a % n ≢ b % n
remainders_apart n a b less near same =
    let of_a : a % n + a / n * n ≡ a = mod-add-div' a n in
    let of_b : b % n + b / n * n ≡ b = mod-add-div' b n in
    elim (cases_lt (a / n) (b / n)) [
      | inl more ↦ (let m : a / n + 1 ≤ b / n = omega arith in let h : (a / n + 1) * n ≤ b / n * n = mul-le-mul_right n m in omega arith)
      | inr most ↦ (let h : b / n * n ≤ a / n * n = mul-le-mul_right n most in omega arith)
    ]

-- the cell that a process other than p announces last: q has made one call before
abbrev cell : (q r : ℕ) → Name
cell q r = Of r (if r == q then 1 else 0)

cells_apart : (q r s : ℕ) → r ≢ s → cell q r ≢ cell q s
cells_apart q r s apart same = apart cc

same_nth : (r q a b : ℕ) → Of r a ≡ Of q b → a ≡ b
same_nth r q a b e = cc

cell_not_first : (q r : ℕ) → cell q r ≢ Of q 0
cell_not_first q r same = elim (number_cases r q) [
  | inl is ↦ (let h : Of r 1 ≡ Of q 0 = subst (λ b. Of r (cond b 1 0) ≡ Of q 0) is.1 same in let e = same_nth r q 1 0 h in omega arith)
  | inr other ↦ other.0 (cc)
]

-- the processes: q comes after p, from the first number on
pub record Setting (n first p q : ℕ) : Type 0 where
  pub two : 2 ≤ n
  pub positive : 1 ≤ first
  pub is_p : first % n ≡ p
  pub is_q : (first + 1) % n ≡ q
  pub below_p : p < n
  pub below_q : q < n
  pub apart : q ≢ p

-- q has decided what comes after the anchor, and has stopped
pub record Blocked {S I R : Type 0} (n first q : ℕ) (v : WorldOf S I R) : Type 0 where
  pub size : v.n ≡ n
  pub mid : v.call q ≡ Some (record { mine = Of q 0; stage = DecideNew Anchor first (Of q 0) })
  pub idle : (r : ℕ) → r ≢ q → v.call r ≡ None
  pub begun_q : v.begun q ≡ 1
  pub begun : (r : ℕ) → r ≢ q → v.begun r ≡ 0
  pub heads : (r : ℕ) → head_of v.memory r ≡ Anchor
  pub anchor : seq_of v.memory Anchor ≡ first
  pub seq : (r k : ℕ) → seq_of v.memory (Of r k) ≡ 0
  pub linked : after_of v.memory Anchor ≡ Some (Of q 0)
  pub after : (r k : ℕ) → after_of v.memory (Of r k) ≡ None

-- p has lost its first turn
pub record Lost {S I R : Type 0} (n first p q : ℕ) (v : WorldOf S I R) : Type 0 where
  pub size : v.n ≡ n
  pub own : v.call p ≡ Some (record { mine = Of p 0; stage = Test (Of q 0) (first + 1) })
  pub turns : v.turns p ≡ 1
  pub among : v.among p ≡ n
  pub begun_p : v.begun p ≡ 1
  pub begun_q : v.begun q ≡ 1
  pub begun : (r : ℕ) → r ≢ q → r ≢ p → v.begun r ≡ 0
  pub announced : announce_of v.memory p ≡ Of p 0
  pub mid : v.call q ≡ Some (record { mine = Of q 0; stage = DecideNew Anchor first (Of q 0) })
  pub idle : (r : ℕ) → r ≢ q → r ≢ p → v.call r ≡ None
  pub seq : (r k : ℕ) → Of r k ≢ Of q 0 → seq_of v.memory (Of r k) ≡ 0
  pub after : (r k : ℕ) → after_of v.memory (Of r k) ≡ None

-- q has returned, and the processes below j have called again and announced
record Called {S I R : Type 0} (n first p q j : ℕ) (v : WorldOf S I R) : Type 0 where
  size : v.n ≡ n
  own : v.call p ≡ Some (record { mine = Of p 0; stage = Test (Of q 0) (first + 1) })
  turns : v.turns p ≡ 1
  among : v.among p ≡ n
  begun_p : v.begun p ≡ 1
  announced : announce_of v.memory p ≡ Of p 0
  begun : (r : ℕ) → j ≤ r → r ≢ p → Of r (v.begun r) ≡ cell q r
  idle : (r : ℕ) → j ≤ r → r ≢ p → v.call r ≡ None
  few : (r : ℕ) → r ≢ p → v.begun r ≤ 2
  announced_too : (r : ℕ) → r < j → r ≢ p → announce_of v.memory r ≡ cell q r
  seq : (r k : ℕ) → Of r k ≢ Of q 0 → seq_of v.memory (Of r k) ≡ 0
  after : (r k : ℕ) → after_of v.memory (Of r k) ≡ None

-- p stands before its turn at the number s, where nothing comes after c; the processes whose turn it is to be helped then and later
-- have announced cells that aren't linked
record Losing {S I R : Type 0} (n first p q : ℕ) (c : Name) (s turns : ℕ) (v : WorldOf S I R) : Type 0 where
  size : v.n ≡ n
  own : v.call p ≡ Some (record { mine = Of p 0; stage = Test c s })
  count : v.turns p ≡ turns
  among : v.among p ≡ n
  begun_p : v.begun p ≡ 1
  few : (r : ℕ) → r ≢ p → v.begun r ≤ 2
  announced : announce_of v.memory p ≡ Of p 0
  seq_own : seq_of v.memory (Of p 0) ≡ 0
  end : after_of v.memory c ≡ None
  announced_too : (u : ℕ) → s ≤ u → u < first + n → announce_of v.memory (u % n) ≡ cell q (u % n)
  seq : (u : ℕ) → s ≤ u → u < first + n → seq_of v.memory (cell q (u % n)) ≡ 0
  after : (u : ℕ) → s ≤ u → u < first + n → after_of v.memory (cell q (u % n)) ≡ None
  apart : (u : ℕ) → s ≤ u → u < first + n → cell q (u % n) ≢ c

-- p has returned from its last turn
pub record Served {S I R : Type 0} (n first p : ℕ) (v : WorldOf S I R) : Type 0 where
  pub returned : v.call p ≡ None
  pub turns : v.turns p ≡ n + 1
  pub among : v.among p ≡ n
  pub begun : v.begun p ≡ 1
  pub few : (r : ℕ) → r ≢ p → v.begun r ≤ 2
  pub seq : seq_of v.memory (Of p 0) ≡ first + n + 1

-- the process that calls has another call number and another n
abbrev called : {S I R : Type 0} → WorldOf S I R → ℕ → WorldOf S I R
called w p = record w { begun = set_at w.begun p (w.begun p + 1); among = set_at w.among p w.n }

module _ {S I R : Type 0} (object : Sequential S I R) (n first p q : ℕ) (set : Setting n first p q) (i : I) where
  abbrev calls_it : WorldOf S I R → ℕ → Memory S I R
  calls_it w r = memory_with w.memory (InvOf (Of r (w.begun r))) (Invocation (Some i))

  call_at : (w : WorldOf S I R) (r : ℕ) → IsAt (called w r) r (Of r (w.begun r)) (calls_it w r) (Some Announce) 0 (world_after object w (Call r i))
  call_at w r = (0, refl)

  p_not_q : p ≢ q
  p_not_q same = set.apart (sym same)

  -- 1. q proposes its own cell
  module _ (start : S) where
    abbrev opened : WorldOf S I R
    opened = opened_world n start first

    at_block : (steps : ℕ) → Blocked n first q
        (world_at (called opened q) q (Of q 0) (memory_with (opened_by object (called opened q) q (Of q 0) (calls_it opened q)) (AfterOf Anchor) (Link (Some (Of q 0)))) (Some (DecideNew Anchor first (Of q 0))) 1 steps)
    at_block steps = record {
      size = refl;
      mid = set_at_here opened.call q (Some (record { mine = Of q 0; stage = DecideNew Anchor first (Of q 0) }));
      idle = λ r other. set_at_elsewhere opened.call q _ r other;
      begun_q = set_at_here opened.begun q 1;
      begun = λ r other. set_at_elsewhere opened.begun q 1 r other;
      heads = λ r. elim (head_of-memory_with (memory_with (calls_it opened q) (Announced q) (CellName (Of q 0))) q r Anchor) [ inl h ↦ h.1 | inr h ↦ h.1 ];
      anchor = refl;
      seq = λ r k. refl;
      linked = refl;
      after = λ r k. refl;
    }

    pub blocks : Can object opened (Blocked n first q)
    blocks =
        let u = called opened q in
        let m = calls_it opened q in
        let v = world_after object opened (Call q i) in
        let goes = announces_own object u q (Of q 0) m 0 v (call_at opened q) in
        next object opened _ (Call q i) (set.below_q, refl) (next object v _ (Step q) goes.0
        (and_then object (world_after object v (Step q)) (IsAt u q (Of q 0) (opened_by object u q (Of q 0) m) (Some (Test Anchor first)) 0) _
        (scans object u q (Of q 0) m first 0 (λ r. refl) refl (let two = set.two in omega arith) (world_after object v (Step q)) goes.1)
        (λ x is. and_then object x (IsAt u q (Of q 0) (memory_with (opened_by object u q (Of q 0) m) (AfterOf Anchor) (Link (Some (Of q 0)))) (Some (DecideNew Anchor first (Of q 0))) 1) _
        (proposes object u q (Of q 0) (opened_by object u q (Of q 0) m) Anchor first 0 refl (Of q 0) (Of q 0)
        (prefers_own object u q (Of q 0) (opened_by object u q (Of q 0) m) first Anchor
        (ap (λ r. announce_of (opened_by object u q (Of q 0) m) r) set.is_p ∙ (elim (announce_of-memory_with m q p (Of q 0)) [ inl h ↦ absurd (p_not_q h.0) | inr h ↦ h.1 ]))
        set.positive)
        refl x is)
        (λ y is_y. now object y _ (subst (λ z. Blocked n first q z) (sym is_y.1) (at_block is_y.0))))))

  -- 2. p calls, announces, and threads the cell of q in its first turn
  abbrev m_opened : WorldOf S I R → Memory S I R
  m_opened v = opened_by object (called v p) p (Of p 0) (calls_it v p)

  abbrev m_linked : WorldOf S I R → Memory S I R
  m_linked v = memory_with (m_opened v) (AfterOf Anchor) (Link (Some (Of q 0)))

  abbrev m_lost : WorldOf S I R → Memory S I R
  m_lost v = threaded_by object (called v p) p (Of p 0) (m_linked v) Anchor first (Of q 0)

  at_lost : (v : WorldOf S I R) → Blocked n first q v → (steps : ℕ)
      → Lost n first p q (world_at (called v p) p (Of p 0) (m_lost v) (Some (Test (Of q 0) (first + 1))) 1 steps)
  at_lost v b steps = record {
    size = b.size;
    own = set_at_here v.call p (Some (record { mine = Of p 0; stage = Test (Of q 0) (first + 1) }));
    turns = set_at_here v.turns p 1;
    among = set_at_here v.among p v.n ∙ b.size;
    begun_p = set_at_here v.begun p (v.begun p + 1) ∙ ap (λ k. k + 1) (b.begun p p_not_q);
    begun_q = set_at_elsewhere v.begun p _ q set.apart ∙ b.begun_q;
    begun = λ r not_q not_p. set_at_elsewhere v.begun p _ r not_p ∙ b.begun r not_q;
    announced = elim (announce_of-memory_with v.memory p p (Of p 0)) [ inl h ↦ h.1 | inr h ↦ absurd (h.0 refl) ];
    mid = set_at_elsewhere v.call p _ q set.apart ∙ b.mid;
    idle = λ r not_q not_p. set_at_elsewhere v.call p _ r not_p ∙ b.idle r not_q;
    seq = λ r k other. elim (seq_of-memory_with v.memory (Of q 0) (Of r k) (first + 1)) [ inl h ↦ absurd (other h.0) | inr h ↦ h.1 ∙ b.seq r k ];
    after = λ r k. b.after r k;
  }

  pub loses_first : (v : WorldOf S I R) → Blocked n first q v
      → IsAccepted v (Call p i) × IsAccepted (world_after object v (Call p i)) (Step p)
      × Can object (world_after object (world_after object v (Call p i)) (Step p)) (Lost n first p q)
  loses_first v b =
      let u = called v p in
      let m = calls_it v p in
      let v1 = world_after object v (Call p i) in
      let v2 = world_after object v1 (Step p) in
      let here : IsAt u p (Of p 0) m (Some Announce) 0 v1 = subst (λ k. IsAt u p (Of p k) m (Some Announce) 0 v1) (b.begun p p_not_q) (call_at v p) in
      let goes = announces_own object u p (Of p 0) m 0 v1 here in (
        (subst (λ k. p < k) (sym b.size) set.below_p, b.idle p p_not_q),
        goes.0,
        and_then object v2 (IsAt u p (Of p 0) (m_opened v) (Some (Test Anchor first)) 0) _
            (scans object u p (Of p 0) m first 0 b.heads b.anchor (let two = set.two in let size = b.size in omega arith) v2 goes.1)
            (λ x is. and_then object x (IsAt u p (Of p 0) (m_linked v) (Some (DecideNew Anchor first (Of q 0))) 1) _
            (proposes object u p (Of p 0) (m_opened v) Anchor first 0 (b.seq p 0) (Of p 0) (Of q 0)
            (prefers_help object u p (Of p 0) (m_opened v) first (Of p 0)
            (ap (λ r. announce_of (m_opened v) r) (ap (λ k. first % k) b.size ∙ set.is_p) ∙ (elim (announce_of-memory_with v.memory p p (Of p 0)) [ inl h ↦ h.1 | inr h ↦ absurd (h.0 refl) ]))
            (b.seq p 0))
            (ap (λ l. unwrap_or l (Of p 0)) b.linked) x is)
            (λ y is_y. and_then object y (IsAt u p (Of p 0) (m_lost v) (Some (Test (Of q 0) (first + 1))) 1) _
            (threads object u p (Of p 0) (m_linked v) Anchor first (Of q 0) 1 y is_y)
            (λ z is_z. now object z _ (subst (λ t. Lost n first p q t) (sym is_z.1) (at_lost v b is_z.0))))),
      )

  -- 3. q returns
  abbrev m_freed : WorldOf S I R → Memory S I R
  m_freed v = threaded_by object v q (Of q 0) v.memory Anchor first (Of q 0)

  cell_begun : (v : WorldOf S I R) → Lost n first p q v → (r : ℕ) → r ≢ p → Of r (v.begun r) ≡ cell q r
  cell_begun v l r not_p = elim (number_cases r q) [
    | inl is ↦ rw is.1 (ap (λ k. Of r k) (ap v.begun is.0 ∙ l.begun_q))
    | inr other ↦ rw other.1 (ap (λ k. Of r k) (l.begun r other.0 not_p))
  ]

  few_begun : (v : WorldOf S I R) → Lost n first p q v → (r : ℕ) → r ≢ p → v.begun r ≤ 2
  few_begun v l r not_p = elim (number_cases r q) [
    | inl is ↦ (let one : v.begun r ≡ 1 = ap v.begun is.0 ∙ l.begun_q in omega arith)
    | inr other ↦ (let none = l.begun r other.0 not_p in omega arith)
  ]

  at_freed : (v : WorldOf S I R) → Lost n first p q v → (steps : ℕ) → Called n first p q 0 (world_at v q (Of q 0) (m_freed v) None (v.turns q) steps)
  at_freed v l steps = record {
    size = l.size;
    own = set_at_elsewhere v.call q _ p p_not_q ∙ l.own;
    turns = set_at_elsewhere v.turns q _ p p_not_q ∙ l.turns;
    among = l.among;
    begun_p = l.begun_p;
    announced = l.announced;
    begun = λ r from not_p. cell_begun v l r not_p;
    few = few_begun v l;
    idle = λ r from not_p. elim (set_at-cases v.call q None r) [ inl h ↦ h.1 | inr h ↦ h.1 ∙ l.idle r h.0 not_p ];
    announced_too = λ r below not_p. absurd (omega arith);
    seq = λ r k other. elim (seq_of-memory_with v.memory (Of q 0) (Of r k) (first + 1)) [ inl h ↦ absurd (other h.0) | inr h ↦ h.1 ∙ l.seq r k other ];
    after = λ r k. l.after r k;
  }

  frees : (v : WorldOf S I R) → Lost n first p q v → Can object v (Called n first p q 0)
  frees v l =
      and_then object v (IsAt v q (Of q 0) (m_freed v) (Some (Test (Of q 0) (first + 1))) (v.turns q)) _
      (threads object v q (Of q 0) v.memory Anchor first (Of q 0) (v.turns q) v (at_here v q (Of q 0) _ (v.turns q) l.mid refl))
      (λ x is. and_then object x (IsAt v q (Of q 0) (m_freed v) None (v.turns q)) _
      (ends object v q (Of q 0) (m_freed v) (Of q 0) first (v.turns q) (elim (seq_of-memory_with v.memory (Of q 0) (Of q 0) (first + 1)) [ inl h ↦ h.1 | inr h ↦ absurd (h.0 refl) ]) x is)
      (λ y is_y. now object y _ (subst (λ t. Called n first p q 0 t) (sym is_y.1) (at_freed v l is_y.0))))

  -- 4. all but p call, and announce
  abbrev m_called : WorldOf S I R → ℕ → Memory S I R
  m_called v j = memory_with (calls_it v j) (Announced j) (CellName (Of j (v.begun j)))

  -- a process that has begun as many calls as its cell says begins at most its second one
  second : (j k : ℕ) → Of j k ≡ cell q j → k + 1 ≤ 2
  second j k same = elim (number_cases j q) [
    | inl is ↦ (let e = same_nth j j k 1 (same ∙ rw is.1 refl) in omega arith)
    | inr other ↦ (let e = same_nth j j k 0 (same ∙ rw other.1 refl) in omega arith)
  ]

  at_called : (j : ℕ) (v : WorldOf S I R) → Called n first p q j v → j ≢ p → (steps : ℕ)
      → Called n first p q (j + 1) (world_at (called v j) j (Of j (v.begun j)) (m_called v j) (Some (ScanHead 0 Anchor 0)) 0 steps)
  at_called j v c not_p steps =
      let not_j : p ≢ j = λ same. not_p (sym same) in record {
        size = c.size;
        own = set_at_elsewhere v.call j _ p not_j ∙ c.own;
        turns = set_at_elsewhere v.turns j _ p not_j ∙ c.turns;
        among = set_at_elsewhere v.among j _ p not_j ∙ c.among;
        begun_p = set_at_elsewhere v.begun j _ p not_j ∙ c.begun_p;
        announced = elim (announce_of-memory_with v.memory j p (Of j (v.begun j))) [ inl h ↦ absurd (not_j h.0) | inr h ↦ h.1 ∙ c.announced ];
        begun = λ r from other. ap (λ k. Of r k) (set_at_elsewhere v.begun j _ r (omega arith)) ∙ c.begun r (omega arith) other;
        few = λ r other. elim (set_at-cases v.begun j (v.begun j + 1) r) [
          | inl h ↦ (let at = h.1 in let most = second j (v.begun j) (c.begun j (omega arith) not_p) in omega arith)
          | inr h ↦ (let at = h.1 in let most = c.few r other in omega arith)
        ];
        idle = λ r from other. set_at_elsewhere v.call j _ r (omega arith) ∙ c.idle r (omega arith) other;
        announced_too = λ r below other. elim (announce_of-memory_with v.memory j r (Of j (v.begun j))) [
          | inl h ↦ h.1 ∙ c.begun j (omega arith) not_p ∙ ap (λ x. cell q x) (sym h.0)
          | inr h ↦ h.1 ∙ c.announced_too r (let apart = h.0 in omega arith) other
        ];
        seq = λ r k other. c.seq r k other;
        after = λ r k. c.after r k;
      }

  calls_one : (j : ℕ) (v : WorldOf S I R) → Called n first p q j v → j < n → Can object v (Called n first p q (j + 1))
  calls_one j v c below = elim (number_cases j p) [
    | inl same ↦ now object v _ (record {
      size = c.size;
      own = c.own;
      turns = c.turns;
      among = c.among;
      begun_p = c.begun_p;
      announced = c.announced;
      begun = λ r from other. c.begun r (omega arith) other;
      few = c.few;
      idle = λ r from other. c.idle r (omega arith) other;
      announced_too = λ r less other. c.announced_too r (let is = same.0 in omega arith) other;
      seq = c.seq;
      after = c.after;
    })
    | inr apart ↦
        let v1 = world_after object v (Call j i) in
        let goes = announces_own object (called v j) j (Of j (v.begun j)) (calls_it v j) 0 v1 (call_at v j) in
        let v2 = world_after object v1 (Step j) in
        next object v _ (Call j i) (subst (λ k. j < k) (sym c.size) below, c.idle j (omega arith) apart.0)
        (next object v1 _ (Step j) goes.0
        (now object v2 _ (subst (λ t. Called n first p q (j + 1) t) (sym goes.1.1) (at_called j v c apart.0 goes.1.0))))
  ]

  calls_all : (left j : ℕ) → j + left ≡ n → (v : WorldOf S I R) → Called n first p q j v → Can object v (Called n first p q n)
  calls_all zero j count v c = now object v _ (subst (λ k. Called n first p q k v) (let same : j ≡ n = omega arith in same) c)
  calls_all (suc left) j count v c =
      and_then object v (Called n first p q (j + 1)) _ (calls_one j v c (omega arith)) (λ x more. calls_all left (j + 1) (omega arith) x more)

  -- 5. p loses a turn for each of them
  not_own : (u : ℕ) → first + 1 ≤ u → u < first + n → u % n ≢ p
  not_own u from to same = remainders_apart n first u (omega arith) to (set.is_p ∙ sym same)

  loses_from : (v : WorldOf S I R) → Called n first p q n v → Losing n first p q (Of q 0) (first + 1) 1 v
  loses_from v c = record {
    size = c.size;
    own = c.own;
    count = c.turns;
    among = c.among;
    begun_p = c.begun_p;
    few = c.few;
    announced = c.announced;
    seq_own = c.seq p 0 (λ same. p_not_q cc);
    end = c.after q 0;
    announced_too = λ u from to. c.announced_too (u % n) (let two = set.two in omega arith) (not_own u from to);
    seq = λ u from to. c.seq (u % n) _ (cell_not_first q (u % n));
    after = λ u from to. c.after (u % n) _;
    apart = λ u from to. cell_not_first q (u % n);
  }

  module _ (c : Name) (s turns : ℕ) where
    abbrev m_helped : WorldOf S I R → Name → Memory S I R
    m_helped v d = threaded_by object v p (Of p 0) (memory_with v.memory (AfterOf c) (Link (Some d))) c s d

    at_helped : (v : WorldOf S I R) → Losing n first p q c s turns v → first + 1 ≤ s → s < first + n → (steps : ℕ)
        → Losing n first p q (cell q (s % n)) (s + 1) (turns + 1) (world_at v p (Of p 0) (m_helped v (cell q (s % n))) (Some (Test (cell q (s % n)) (s + 1))) (turns + 1) steps)
    at_helped v l from to steps =
        let d = cell q (s % n) in
        let others : (u : ℕ) → s + 1 ≤ u → u < first + n → cell q (u % n) ≢ d = λ u more less. cells_apart q (u % n) (s % n) (λ same. remainders_apart n s u (omega arith) (omega arith) (sym same)) in
        record {
          size = l.size;
          own = set_at_here v.call p (Some (record { mine = Of p 0; stage = Test d (s + 1) }));
          count = set_at_here v.turns p (turns + 1);
          among = l.among;
          begun_p = l.begun_p;
          few = l.few;
          announced = l.announced;
          seq_own = elim (seq_of-memory_with v.memory d (Of p 0) (s + 1)) [ inl h ↦ absurd (not_own s from to (let same = h.0 in cc)) | inr h ↦ h.1 ∙ l.seq_own ];
          end = elim (after_of-memory_with v.memory c d (Some d)) [ inl h ↦ absurd (l.apart s (omega arith) to h.0) | inr h ↦ h.1 ∙ l.after s (omega arith) to ];
          announced_too = λ u more less. l.announced_too u (omega arith) less;
          seq = λ u more less. elim (seq_of-memory_with v.memory d (cell q (u % n)) (s + 1)) [ inl h ↦ absurd (others u more less h.0) | inr h ↦ h.1 ∙ l.seq u (omega arith) less ];
          after = λ u more less. elim (after_of-memory_with v.memory c (cell q (u % n)) (Some d)) [ inl h ↦ absurd (l.apart u (omega arith) less h.0) | inr h ↦ h.1 ∙ l.after u (omega arith) less ];
          apart = others;
        }

    helps_one : (v : WorldOf S I R) → Losing n first p q c s turns v → first + 1 ≤ s → s < first + n → Can object v (Losing n first p q (cell q (s % n)) (s + 1) (turns + 1))
    helps_one v l from to =
        let d = cell q (s % n) in
        let said : announce_of v.memory (s % v.n) ≡ d = ap (λ k. announce_of v.memory (s % k)) l.size ∙ l.announced_too s (omega arith) to in
        and_then object v (IsAt v p (Of p 0) (memory_with v.memory (AfterOf c) (Link (Some d))) (Some (DecideNew c s d)) (turns + 1)) _
        (proposes object v p (Of p 0) v.memory c s turns l.seq_own d d
        (prefers_help object v p (Of p 0) v.memory s d said (l.seq s (omega arith) to))
        (ap (λ o. unwrap_or o d) l.end) v (at_here v p (Of p 0) (Test c s) turns l.own l.count))
        (λ x is. and_then object x (IsAt v p (Of p 0) (m_helped v d) (Some (Test d (s + 1))) (turns + 1)) _
        (threads object v p (Of p 0) (memory_with v.memory (AfterOf c) (Link (Some d))) c s d (turns + 1) x is)
        (λ y is_y. now object y _ (subst (λ t. Losing n first p q d (s + 1) (turns + 1) t) (sym is_y.1) (at_helped v l from to is_y.0))))

  abbrev LastTurn : WorldOf S I R → Type 0
  LastTurn v = (c : Name) × Losing n first p q c (first + n) n v

  helps_all : (left : ℕ) (c : Name) (s turns : ℕ) → s + left ≡ first + n → turns + first ≡ s → first + 1 ≤ s → (v : WorldOf S I R) → Losing n first p q c s turns v → Can object v LastTurn
  helps_all zero c s turns count same from v l =
      now object v LastTurn (c, subst (λ k. Losing n first p q c (first + n) k v) (let e : turns ≡ n = omega arith in e) (subst (λ k. Losing n first p q c k turns v) (let e : s ≡ first + n = omega arith in e) l))
  helps_all (suc left) c s turns count same from v l =
      and_then object v (Losing n first p q (cell q (s % n)) (s + 1) (turns + 1)) LastTurn (helps_one c s turns v l from (omega arith))
      (λ x more. helps_all left (cell q (s % n)) (s + 1) (turns + 1) (omega arith) (omega arith) (omega arith) x more)

  -- 6. in its last turn p threads its own cell, and returns
  at_served : (c : Name) (v : WorldOf S I R) → Losing n first p q c (first + n) n v → (steps : ℕ)
      → Served n first p (world_at v p (Of p 0) (m_helped c (first + n) n v (Of p 0)) None (n + 1) steps)
  at_served c v l steps = record {
    returned = set_at_here v.call p None;
    turns = set_at_here v.turns p (n + 1);
    among = l.among;
    begun = l.begun_p;
    few = l.few;
    seq = elim (seq_of-memory_with v.memory (Of p 0) (Of p 0) (first + n + 1)) [ inl h ↦ h.1 | inr h ↦ absurd (h.0 refl) ];
  }

  serves : (v : WorldOf S I R) → LastTurn v → Can object v (Served n first p)
  serves v last =
      let c = last.0 in
      let l = last.1 in
      let s = first + n in
      let m = m_helped c s n v (Of p 0) in
      let turn : s % v.n ≡ p = ap (λ k. s % k) l.size ∙ add-mod_right first n ∙ set.is_p in
      and_then object v (IsAt v p (Of p 0) (memory_with v.memory (AfterOf c) (Link (Some (Of p 0)))) (Some (DecideNew c s (Of p 0))) (n + 1)) _
      (proposes object v p (Of p 0) v.memory c s n l.seq_own (Of p 0) (Of p 0)
      (prefers_help object v p (Of p 0) v.memory s (Of p 0) (ap (λ r. announce_of v.memory r) turn ∙ l.announced) l.seq_own)
      (ap (λ o. unwrap_or o (Of p 0)) l.end) v (at_here v p (Of p 0) (Test c s) n l.own l.count))
      (λ x is. and_then object x (IsAt v p (Of p 0) m (Some (Test (Of p 0) (s + 1))) (n + 1)) _
      (threads object v p (Of p 0) (memory_with v.memory (AfterOf c) (Link (Some (Of p 0)))) c s (Of p 0) (n + 1) x is)
      (λ y is_y. and_then object y (IsAt v p (Of p 0) m None (n + 1)) _
      (ends object v p (Of p 0) m (Of p 0) s (n + 1) (elim (seq_of-memory_with v.memory (Of p 0) (Of p 0) (s + 1)) [ inl h ↦ h.1 | inr h ↦ absurd (h.0 refl) ]) y is_y)
      (λ z is_z. now object z _ (subst (λ t. Served n first p t) (sym is_z.1) (at_served c v l is_z.0)))))

  -- from the world in which q has stopped
  pub finishes : (v : WorldOf S I R) → Lost n first p q v → Can object v (Served n first p)
  finishes v l =
      and_then object v (Called n first p q 0) _ (frees v l)
      (λ x c. and_then object x (Called n first p q n) _ (calls_all n 0 (omega arith) x c)
      (λ y all. and_then object y LastTurn _
      (helps_all (n - 1) (Of q 0) (first + 1) 1 (let two = set.two in omega arith) (omega arith) (omega arith) y (loses_from y all))
      (λ z last. serves z last)))
