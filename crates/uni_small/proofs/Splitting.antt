-- A seat of several processes is cut in two.
use Rattle.uni_small.proofs.Vocabulary.{Board, IsShown, Local, Meaning, Seen, ShowsBoard, Sizes, Splits, Tells, View, [], ap, arith, at_set, first_alone, get_elem?, inl, inr, length, length-set, others, set, set_at, set_at_elsewhere, set_at_same, some, subst, sym, ℕ, ◌++◌, ◌<◌, ◌∙◌, ◌∷◌, ◌≡◌, ◌≤◌}
use Rattle.uni_model.proofs.Each.{at_end}

pub splits : {O : Type 0} (meaning : O → Meaning) (o : O) (sizes : Sizes) (id : ℕ) (v : View O) → 1 ≤ v.known.count
    → Splits {S = Seen} (ShowsBoard meaning o sizes) id v (others v) (first_alone v)
splits {O} meaning o sizes id v some_left s holds at =
    let g = holds.0 in
    let local = holds.1.0 in
    let seat_of = holds.1.1.0 in
    let is = holds.1.1.1 in
    let told = is.seats id v at in (
      g,
      (
        local,
        (
          set_at seat_of v.known.first (length s.views),
          record {
            widths = is.widths;
            words = is.words;
            seats = seats_later g local seat_of is told;
            sound = is.sound;
          },
          holds.1.1.2,
        ),
      ),
    ) where
      seats_later : (g : Board) (local : ℕ → Local) (seat_of : ℕ → ℕ) → IsShown sizes meaning o g local seat_of s → Tells sizes o local seat_of id v
          → (j : ℕ) (u : View O) → get_elem? (set s.views id (others v) ++ first_alone v ∷ []) j ≡ some u → Tells sizes o local (set_at seat_of v.known.first (length s.views)) j u
      seats_later g local seat_of is told j u e = elim (at_end (set s.views id (others v)) (first_alone v) u j e) [
        | inr last ↦ subst (λ (z : View O). Tells sizes o local (set_at seat_of v.known.first (length s.views)) j z) last.1 (record {
          object = λ some. told.object some_left;
          processes = λ some. told.processes some_left;
          each = λ q from below.
              let here : q ≡ v.known.first = omega (arith, from, below) in
              let its = told.each v.known.first (omega arith) (omega (arith, some_left)) in (
                subst (λ k. k < sizes.processes) (sym here) its.0,
                ap (set_at seat_of v.known.first (length s.views)) here ∙ set_at_same seat_of v.known.first (length s.views) ∙ sym (last.0 ∙ length-set s.views id (others v)),
                ap local here ∙ its.2,
              );
          taken = λ its has. absurd (let h = has.1 in omega arith);
        })
        | inl old ↦ elim (at_set s.views id j (others v) u old) [
          | inl mine ↦ subst (λ (z : View O). Tells sizes o local (set_at seat_of v.known.first (length s.views)) j z) mine.1 (record {
            object = λ some. told.object some_left;
            processes = λ some. told.processes some_left;
            each = λ q from below.
                let its = told.each q (omega (arith, from)) (omega (arith, below, some_left)) in (
                  its.0,
                  set_at_elsewhere seat_of v.known.first (length s.views) q (λ same. omega (arith, same, from)) ∙ its.1 ∙ sym mine.0,
                  its.2,
                );
            taken = λ its has.
                let was = told.taken its has in
                record {
                  inside = was.inside;
                  seat = set_at_elsewhere seat_of v.known.first (length s.views) its.process (λ same. was.apart (omega (arith, same)) (omega (arith, same, some_left))) ∙ was.seat ∙ sym mine.0;
                  apart = λ from below. was.apart (omega (arith, from)) (omega (arith, below, some_left));
                  idle = was.idle;
                  calls = was.calls;
                };
          })
          | inr other ↦
              let theirs = is.seats j u other.1 in
              record {
                object = theirs.object;
                processes = theirs.processes;
                each = λ q from below.
                    let its = theirs.each q from below in (
                      its.0,
                      set_at_elsewhere seat_of v.known.first (length s.views) q (λ same.
                          let first = told.each v.known.first (omega arith) (omega (arith, some_left)) in
                          other.0 (sym its.1 ∙ ap seat_of same ∙ first.1)) ∙ its.1,
                      its.2,
                    );
                taken = λ its has.
                    let was = theirs.taken its has in
                    let first = told.each v.known.first (omega arith) (omega (arith, some_left)) in
                    record {
                      inside = was.inside;
                      seat = set_at_elsewhere seat_of v.known.first (length s.views) its.process (λ same. other.0 (sym was.seat ∙ ap seat_of same ∙ first.1)) ∙ was.seat;
                      apart = was.apart;
                      idle = was.idle;
                      calls = was.calls;
                    };
              }
        ]
      ]
