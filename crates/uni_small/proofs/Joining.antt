-- A seat takes in another one, of one process with no call pending.
use Rattle.uni_small.proofs.Vocabulary.{Board, Contains, Contains-append_cases, Idle, IsShown, IsTaken, Joins, Local, Meaning, ProcessReturned, Seen, ShowsBoard, Sizes, Tells, View, [], ap, arith, at_set, get_elem?, if◌then◌else◌, inl, inr, nat_eq, nobody, number_cases, own_in_view, refl, set, set_else, some, subst, suc, sym, took_in, zero, ℕ, ◌∙◌, ◌∷◌, ◌≡◌, ◌≢◌, ◌≤◌}

-- the seats of processes after it
moved : (seat_of : ℕ → ℕ) → (id other : ℕ) → ℕ → ℕ
moved seat_of id other q = if nat_eq (seat_of q) other then id else seat_of q

moved_here : (seat_of : ℕ → ℕ) (id other q : ℕ) → seat_of q ≡ other → moved seat_of id other q ≡ id
unfolding moved
moved_here seat_of id other q e = elim (number_cases (seat_of q) other) [ inl h ↦ rw h.1 refl | inr h ↦ absurd (h.0 e) ]

moved_not : (seat_of : ℕ → ℕ) (id other q : ℕ) → seat_of q ≢ other → moved seat_of id other q ≡ seat_of q
unfolding moved
moved_not seat_of id other q e = elim (number_cases (seat_of q) other) [ inl h ↦ absurd (e h.0) | inr h ↦ rw h.1 refl ]

pub joins : {O : Type 0} (meaning : O → Meaning) (o : O) (sizes : Sizes) (id : ℕ) (v : View O) (other : ℕ) (x : View O) → 1 ≤ v.known.count → x.known.count ≡ 1 → x.known.local.stage ≡ Idle []
    → Joins {S = Seen} (ShowsBoard meaning o sizes) id v other x (took_in v x) nobody
joins {O} meaning o sizes id v other x some_left single idle s holds at apart there =
    let g = holds.0 in
    let local = holds.1.0 in
    let seat_of = holds.1.1.0 in
    let is = holds.1.1.1 in
    let told = is.seats id v at in
    let theirs = is.seats other x (sym (set_else s.views id other (took_in v x) apart) ∙ there) in (
      g,
      (
        local,
        (
          moved seat_of id other,
          record {
            widths = is.widths;
            words = is.words;
            seats = seats_later g local seat_of is told theirs;
            sound = is.sound;
          },
          holds.1.1.2,
        ),
      ),
    ) where
      seats_later : (g : Board) (local : ℕ → Local) (seat_of : ℕ → ℕ) → IsShown sizes meaning o g local seat_of s → Tells sizes o local seat_of id v → Tells sizes o local seat_of other x
          → (j : ℕ) (u : View O) → get_elem? (set (set s.views id (took_in v x)) other nobody) j ≡ some u → Tells sizes o local (moved seat_of id other) j u
      seats_later g local seat_of is told theirs j u e =
          let of_id : (q : ℕ) → seat_of q ≡ id → moved seat_of id other q ≡ id = (λ q h. moved_not seat_of id other q (λ same. apart (sym same ∙ h)) ∙ h) in
          let first = theirs.each x.known.first (omega arith) (omega (arith, single)) in
          elim (at_set (set s.views id (took_in v x)) other j nobody u e) [
            | inl spent ↦ subst (λ (z : View O). Tells sizes o local (moved seat_of id other) j z) spent.1 (record {
              object = λ any. absurd (omega (arith, any));
              processes = λ any. absurd (omega (arith, any));
              each = λ q from below. absurd (omega (arith, from, below));
              taken = λ its has. absurd (let h = has.1 in omega arith);
            })
            | inr rest ↦ elim (at_set s.views id j (took_in v x) u rest.1) [
              | inl mine ↦ subst (λ (z : View O). Tells sizes o local (moved seat_of id other) j z) mine.1 (record {
                object = told.object;
                processes = told.processes;
                each = λ q from below. let its = told.each q from below in (its.0, of_id q its.1 ∙ sym mine.0, its.2);
                taken = λ its has. elim (Contains-append_cases v.known.taken (own_in_view x ∷ x.known.taken) its has) [
                  | inl old ↦ (let was = told.taken its old in record { inside = was.inside; seat = of_id its.process was.seat ∙ sym mine.0; apart = was.apart; idle = was.idle; calls = was.calls })
                  | inr new ↦ elim (Contains-append_cases (own_in_view x ∷ []) x.known.taken its new) [
                    | inl own ↦
                        let same : own_in_view x ≡ its = only (own_in_view x) its own in
                        subst (λ (c : ProcessReturned). IsTaken sizes local (moved seat_of id other) j (took_in v x).known c) same (record {
                          inside = first.0;
                          seat = moved_here seat_of id other x.known.first first.1 ∙ sym mine.0;
                          apart = λ from below. apart (sym first.1 ∙ (told.each x.known.first from below).1);
                          idle = ap (λ (l : Local). l.stage) first.2 ∙ idle;
                          calls = ap (λ (l : Local). l.own) first.2;
                        })
                    | inr more ↦ (let was = theirs.taken its more in record {
                      inside = was.inside;
                      seat = moved_here seat_of id other its.process was.seat ∙ sym mine.0;
                      apart = λ from below. apart (sym was.seat ∙ (told.each its.process from below).1);
                      idle = was.idle;
                      calls = was.calls;
                    })
                  ]
                ];
              })
              | inr elsewhere ↦
                  let its = is.seats j u elsewhere.1 in
                  let not_other : (q : ℕ) → seat_of q ≡ j → moved seat_of id other q ≡ j = (λ q h. moved_not seat_of id other q (λ same. rest.0 (sym h ∙ same)) ∙ h) in
                  record {
                    object = its.object;
                    processes = its.processes;
                    each = λ q from below. let one = its.each q from below in (one.0, not_other q one.1, one.2);
                    taken = λ c has. (let was = its.taken c has in record { inside = was.inside; seat = not_other c.process was.seat; apart = was.apart; idle = was.idle; calls = was.calls });
                  }
            ]
          ]
        where
          only : (a c : ProcessReturned) → Contains (a ∷ []) c → a ≡ c
          only a c (zero, below, e) = e
          only a c (suc k, below, e) = absurd (let b = below in omega arith)
