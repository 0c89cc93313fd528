-- A step of one process by which S, the image and the marks stay leaves the others where they are.
use Rattle.uni_small.proofs.Vocabulary.{Act, Atomic, Board, Bool, HasSeen, HasTaken, Idle, Invoked, IsAt, IsAttemptAt, IsAttempted, IsCallAt, IsClosed, IsOpen, IsOrdered, IsPending, Last, List, Local, Option, Reading, Ready, Returned, Sequential, Sizes, Stage, Writing, acts_by, ap, arith, false, length, map, response_at, slice_get, subst, sym, take, true, ℕ, ◌*◌, ◌+◌, ◌<◌, ◌∙◌, ◌≡◌, ◌≤◌}

module _ (object : Sequential (List ℕ) (List ℕ) (List ℕ)) (sizes : Sizes) (g : Board) (told' announced' : ℕ → ℕ) (argument' : ℕ → List ℕ) (since' : ℕ → ℕ) (buffer' : ℕ → ℕ → ℕ) (atomic' : Atomic (List ℕ) (List ℕ)) (acts' : List (Act (List ℕ) (List ℕ))) where
  -- the board afterwards
  abbrev pub quiet : Board
  quiet = record g { told = told'; announced = announced'; argument = argument'; since = since'; buffer = buffer'; atomic = atomic'; acts = acts' }

  -- what stays as it is for process q, whose spare buffer is b
  pub record Spares (q b : ℕ) : Type 0 where
    pub since : since' q ≡ g.since q
    pub seen : (seen : List (Option (List ℕ))) → HasSeen g q seen → HasSeen quiet q seen
    pub announced : announced' q ≡ g.announced q
    pub argument : argument' q ≡ g.argument q
    pub buffer : (which i : ℕ) → which ≤ 1 → buffer' (2 * q + which) i ≡ g.buffer (2 * q + which) i
    pub marked : (r : ℕ) → r < sizes.processes → IsPending quiet r → announced' r ≤ g.mark b r → IsPending g r × (g.announced r ≤ g.mark b r)
    pub is_open : atomic'.open_call q ≡ g.atomic.open_call q
    pub next : atomic'.next_nth q ≡ g.atomic.next_nth q
    pub agreed : atomic'.agreed ≡ g.atomic.agreed
    pub told : told' q ≡ g.told q
    pub acts : acts_by q acts' ≡ acts_by q g.acts

  module _ (q b : ℕ) (spares : Spares q b) where
    attempt_stays : (stage : Stage) → IsAttemptAt object sizes g q b stage → IsAttemptAt object sizes quiet q b stage
    attempt_stays (Idle stored) h = h
    attempt_stays (Ready t) h = let e = spares.since in omega arith
    attempt_stays (Reading t s copy seen) h = ((let e = spares.since in let a = h.0 in omega arith), λ fresh. let now = h.1 fresh in (now.0, (now.1.0, spares.seen seen now.1.1)))
    attempt_stays (Writing t s image seen w) h = (
      (let e = spares.since in let a = h.0 in omega arith),
      (λ fresh. let now = h.1 fresh in (now.0, (now.1.0, now.1.1, spares.seen seen now.1.2, (λ waits. let e = spares.announced in let m = now.1.3 (waits.0, sym spares.is_open ∙ waits.1) in omega arith), now.1.4))),
      record { rows = h.2.rows; replies = λ r inside waits least. (let m = spares.marked r inside waits least in h.2.replies r inside m.0 m.1) },
      λ inv. record { rows = (h.3 inv).rows; replies = λ r inside waits least. (let m = spares.marked r inside waits least in (h.3 inv).replies r inside m.0 m.1) },
    )
    attempt_stays (Last s loaded) h = (
      h.0,
      (let e = spares.announced in let m = h.1 in omega arith),
      (h.2.0, λ c place at own below. h.2.1 c place (ap (λ xs. slice_get xs place) (sym spares.agreed) ∙ at) own (subst (λ k. c.nth < k) spares.announced below)),
      h.3,
    )

    taken_stays : (call : Invoked (List ℕ)) (reply : List ℕ) → HasTaken object g call reply → HasTaken object quiet call reply
    taken_stays call reply h = record {
      place = h.place;
      there = ap (λ xs. slice_get xs h.place) spares.agreed ∙ h.there;
      reply_is = ap (λ (xs : List (Invoked (List ℕ))). response_at object object.initial (map (λ c. c.inv) xs) h.place) spares.agreed ∙ h.reply_is;
    }

    closed_stays : (own : List Returned) → IsClosed g q own → IsClosed quiet q own
    closed_stays own h = record { none_open = spares.is_open ∙ h.none_open; next = spares.next ∙ h.next; announced = spares.announced ∙ h.announced; in_is = h.in_is; acts = spares.acts ∙ h.acts }

    open_stays : (inv : List ℕ) (own : List Returned) → IsOpen object g q inv own → IsOpen object quiet q inv own
    open_stays inv own h = record {
      is_open = spares.is_open ∙ h.is_open;
      next = spares.next ∙ h.next;
      announced = spares.announced ∙ h.announced;
      argument = λ out. spares.argument ∙ h.argument out;
      in_least = h.in_least;
      taken = λ full. taken_stays _ _ (h.taken full);
      acts = spares.acts ∙ h.acts;
    }

    attempted_stays : (l : Local) (direct : Bool) → IsAttempted object sizes g q l direct → IsAttempted object sizes quiet q l direct
    attempted_stays l true h = closed_stays l.own h
    attempted_stays l false h = open_stays l.inv l.own h

    call_stays : (l : Local) (stage : Stage) → IsCallAt object sizes g q l stage → IsCallAt object sizes quiet q l stage
    call_stays l (Idle stored) h = (closed_stays l.own h.0, ap (take (length stored)) spares.argument ∙ h.1)
    call_stays l (Ready t) h = attempted_stays l l.direct h
    call_stays l (Reading t s copy seen) h = attempted_stays l l.direct h
    call_stays l (Writing t s image seen w) h = attempted_stays l l.direct h
    call_stays l (Last s loaded) h = open_stays l.inv l.own h

  pub at_stays : (q : ℕ) (l : Local) → Spares q (2 * q + l.spare) → IsAt object sizes g q l → IsAt object sizes quiet q l
  at_stays q l spares h = record {
    spare = h.spare;
    apart = h.apart;
    held = record { long = h.held.long; words = λ which i either below. spares.buffer which i either ∙ h.held.words which i either below };
    told = spares.told ∙ h.told;
    call = call_stays q (2 * q + l.spare) spares l l.stage h.call;
    attempt = attempt_stays q (2 * q + l.spare) spares l.stage h.attempt;
    ordered = subst (λ agreed. IsOrdered object agreed g.calls_in_version g.version q l.after l.own) (sym spares.agreed) h.ordered;
    read = h.read;
  }
