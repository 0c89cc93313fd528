-- A call begins: what the board is then, and where each process is.
use Rattle.uni_small.proofs.Vocabulary.{AcceptsAll-append, Act, Atomic, Board, Invoke, IsAt, IsBoard, IsClosed, IsPending, IsSound, List, Local, Sequential, Sizes, Some, [], announces, ap, arith, at_start, due_at, in_of, inl, inr, length, most_calls, number_cases, refl, set_at, set_at-cases, set_at_elsewhere, set_at_same, subst, sym, IsBeginning, ◌*◌, ◌++◌, ◌+◌, ◌<◌, ◌∙◌, ◌∷◌, ◌≡◌, ◌≢◌, ◌≤◌, ℕ}
use Rattle.uni_small.proofs.Frame.{sound_with}
use Rattle.uni_small.proofs.Acts.{invoked_other, invoked_own}
use Rattle.uni_small.proofs.Others.{quiet, at_stays}

module _ (object : Sequential (List ℕ) (List ℕ) (List ℕ)) (sizes : Sizes) (g : Board) (local : ℕ → Local) (sound : IsSound object sizes g local) (p : ℕ) (p_inside : p < sizes.processes)
    (l : Local) (mine : IsAt object sizes g p l) (closed : IsClosed g p l.own) (inv : List ℕ) (long : length inv ≡ sizes.invocation)
    (argument' : ℕ → List ℕ) (argument_here : argument' p ≡ inv) (argument_there : (q : ℕ) → q ≢ p → argument' q ≡ g.argument q)
    (number : ℕ) (is : number ≡ length l.own + 1) (few : number ≤ most_calls) where
  abbrev atomic' : Atomic (List ℕ) (List ℕ)
  atomic' = record g.atomic {
    open_call = set_at g.atomic.open_call p (Some (record { process = p; nth = length l.own; inv = inv }));
    next_nth = set_at g.atomic.next_nth p (length l.own + 1);
  }

  abbrev acts' : List (Act (List ℕ) (List ℕ))
  acts' = g.acts ++ Invoke p (length l.own) inv ∷ []

  -- its announcement tells of it, its argument is its invocation, and it has begun at this version
  abbrev pub begun_board : Board
  begun_board = quiet object sizes g (set_at g.told p number) (set_at g.announced p number) argument' (set_at g.since p g.version) g.buffer atomic' acts'

  b : IsBoard object sizes g
  b = sound.board

  waits_there : (r : ℕ) → r ≢ p → IsPending begun_board r → IsPending g r
  waits_there r apart w = (w.0, sym (set_at_elsewhere g.atomic.open_call p _ r apart) ∙ w.1)

  pub begun_is : IsBoard object sizes begun_board
  begun_is = record {
    current = b.current;
    image = b.image;
    rows = b.rows;
    exact = b.exact;
    marked = b.marked;
    at_current = b.at_current;
    kept = λ d r k inside below room waits least. elim (number_cases r p) [
      | inl here ↦ absurd (let m = b.marked d r below in let a : in_of g r ≡ in_of g p = ap (in_of g) here.0 in let c = closed.in_is in let v : set_at g.announced p number r ≡ number = ap (set_at g.announced p number) here.0 ∙ set_at_same g.announced p number in omega arith)
      | inr other ↦ b.kept d r k inside below room (waits_there r other.0 waits) (subst (λ x. x ≤ g.mark d r) (set_at_elsewhere g.announced p number r other.0) least)
    ];
    arguments = λ r inside. elim (number_cases r p) [
      | inl here ↦ ap (λ q. length (argument' q)) here.0 ∙ ap (λ (ws : List ℕ). length ws) argument_here ∙ long
      | inr other ↦ ap (λ (ws : List ℕ). length ws) (argument_there r other.0) ∙ b.arguments r inside
    ];
    in_most = λ r inside. elim (set_at-cases g.announced p number r) [
      | inl here ↦ (let a : in_of g r ≡ in_of g p = ap (in_of g) here.0 in let c = closed.in_is in let v = here.1 in omega arith)
      | inr other ↦ subst (λ x. in_of g r ≤ x) (sym other.1) (b.in_most r inside)
    ];
    told_most = λ r inside. elim (number_cases r p) [
      | inl here ↦ (let t = ap (set_at g.told p number) here.0 ∙ set_at_same g.told p number in let a = ap (set_at g.announced p number) here.0 ∙ set_at_same g.announced p number in omega arith)
      | inr other ↦ (let t = set_at_elsewhere g.told p number r other.0 in let a = set_at_elsewhere g.announced p number r other.0 in let m = b.told_most r inside in omega arith)
    ];
    told_due = λ r inside due. elim (number_cases r p) [
      | inl here ↦ ap (set_at g.told p number) here.0 ∙ set_at_same g.told p number ∙ sym (set_at_same g.announced p number) ∙ ap (set_at g.announced p number) (sym here.0)
      | inr other ↦ set_at_elsewhere g.told p number r other.0 ∙ b.told_due r inside (subst (λ x. in_of g r < x) (set_at_elsewhere g.announced p number r other.0) due) ∙ sym (set_at_elsewhere g.announced p number r other.0)
    ];
    begun = λ r inside. elim (set_at-cases g.since p g.version r) [
      | inl here ↦ (let v = here.1 in omega arith)
      | inr other ↦ subst (λ x. x ≤ g.version) (sym other.1) (b.begun r inside)
    ];
    soon = λ r inside late. elim (number_cases r p) [
      | inl here ↦ absurd (let v : set_at g.since p g.version r ≡ g.version = ap (set_at g.since p g.version) here.0 ∙ set_at_same g.since p g.version in omega arith)
      | inr other ↦ subst (λ x. x ≤ in_of g r) (sym (set_at_elsewhere g.announced p number r other.0))
          (b.soon r inside (subst (λ x. x + 2 ≤ g.version) (set_at_elsewhere g.since p g.version r other.0) late))
    ];
    versions = b.versions;
    room = λ r inside. elim (set_at-cases g.announced p number r) [
      | inl here ↦ subst (λ x. x ≤ most_calls) (sym here.1) few
      | inr other ↦ subst (λ x. x ≤ most_calls) (sym other.1) (b.room r inside)
    ];
    agreed = b.agreed;
    counted = b.counted;
    rising = b.rising;
    start = b.start;
    history = AcceptsAll-append object (at_start object.initial) g.atomic atomic' g.acts (Invoke p (length l.own) inv ∷ []) b.history
        (atomic', (closed.none_open, closed.next, refl), refl);
  }

  -- the others stay where they are
  pub others_stay : (q : ℕ) → q < sizes.processes → q ≢ p → (k : Local) → IsAt object sizes g q k → IsAt object sizes begun_board q k
  others_stay q inside apart k h = at_stays object sizes g (set_at g.told p number) (set_at g.announced p number) argument' (set_at g.since p g.version) g.buffer atomic' acts' q k
      (record {
        since = set_at_elsewhere g.since p g.version q apart;
        seen = λ seen known. record {
          told = λ r i at.
              let t = known.told r i at in
              let other : r ≢ p = (λ same. let a : g.announced r ≡ g.announced p = ap g.announced same in let c : in_of g r ≡ in_of g p = ap (in_of g) same in let d = closed.announced in let e = closed.in_is in omega (arith, t.0)) in
              (set_at_elsewhere g.announced p number r other ∙ t.0, subst (λ ws. IsBeginning i ws) (sym (argument_there r other)) t.1);
          caught = λ r below why. elim (number_cases r p) [
            | inl here ↦ absurd (elim why [
              | inl own ↦ apart (sym own ∙ here.0)
              | inr late ↦ (let v : set_at g.since p g.version r ≡ g.version = ap (set_at g.since p g.version) here.0 ∙ set_at_same g.since p g.version in omega arith)
            ])
            | inr other ↦ subst (λ x. x ≤ in_of g r + due_at seen r) (sym (set_at_elsewhere g.announced p number r other.0))
                (known.caught r below (elim why [
                  | inl own ↦ inl own
                  | inr late ↦ inr (subst (λ x. x < g.version) (set_at_elsewhere g.since p g.version r other.0) late)
                ]))
          ];
        };
        announced = set_at_elsewhere g.announced p number q apart;
        argument = argument_there q apart;
        buffer = λ which i either. refl;
        marked = λ r below waits least. elim (number_cases r p) [
          | inl here ↦ absurd (let m = b.marked (2 * q + k.spare) r below in let a : in_of g r ≡ in_of g p = ap (in_of g) here.0 in let c = closed.in_is in let v : set_at g.announced p number r ≡ number = ap (set_at g.announced p number) here.0 ∙ set_at_same g.announced p number in omega arith)
          | inr other ↦ (waits_there r other.0 waits, subst (λ x. x ≤ g.mark (2 * q + k.spare) r) (set_at_elsewhere g.announced p number r other.0) least)
        ];
        is_open = set_at_elsewhere g.atomic.open_call p _ q apart;
        next = set_at_elsewhere g.atomic.next_nth p _ q apart;
        agreed = refl;
        told = set_at_elsewhere g.told p number q apart;
        acts = invoked_other q p (length l.own) inv g.acts apart;
      }) h

  -- the process has the call pending
  pub mine_then : IsAt object sizes begun_board p (announces l inv)
  mine_then = record {
    spare = mine.spare;
    apart = mine.apart;
    held = record { long = mine.held.long; words = mine.held.words };
    told = set_at_same g.told p number ∙ is;
    call = record {
      is_open = set_at_same g.atomic.open_call p _;
      next = set_at_same g.atomic.next_nth p _;
      announced = set_at_same g.announced p number ∙ is;
      argument = λ out. argument_here;
      in_least = (let c = closed.in_is in omega arith);
      taken = λ more. absurd (let c = closed.in_is in omega arith);
      acts = invoked_own p (length l.own) inv g.acts ∙ ap (λ xs. xs ++ Invoke p (length l.own) inv ∷ []) closed.acts;
    };
    attempt = (let v = set_at_same g.since p g.version in omega arith);
    ordered = mine.ordered;
    read = mine.read;
  }

  pub begun_sound : IsSound object sizes begun_board (set_at local p (announces l inv))
  begun_sound = sound_with object sizes g begun_board local p (announces l inv) sound begun_is (λ q inside apart h. others_stay q inside apart (local q) h) mine_then
