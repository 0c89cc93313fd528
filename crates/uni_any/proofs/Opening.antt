-- How an object starts, and how a seat of several processes is cut in two.
use Rattle.uni_any.proofs.Vocabulary.{AllowsSplit, Board, HasCome, IsAt, IsShown, IsSound, IsWhole, Letter, List, Local, Sequential, ShowsBoard, Some, Tells, Told, Version, View, [], ap, applied_in, arith, at_rest, at_set, blank, first_alone, first_image, first_told, first_view, get_elem?, in_of, inl, inr, length, length-replicate, length-set, opened, others, refl, replicate, seen_of, set, set_at, set_at_elsewhere, set_at_same, slice_get, slice_index_or, some, some-injective, some-ne-none, subst, suc, sym, word_of, zero, ℕ, ◌++◌, ◌+◌, ◌<◌, ◌∙◌, ◌∷◌, ◌≡◌, ◌≤◌, ◌⊎◌}
use Rattle.triple_buffers.specs.Contents.{opening}
use Rattle.uni_model.specs.Executions.Execution.{Ends}

pub copies : {A : Type 0} (k i : ℕ) (a : A) → slice_index_or (replicate k a) i a ≡ a
copies zero i a = refl
copies (suc k) zero a = refl
copies (suc k) (suc i) a = copies k i a

module _ {O I S R : Type 0} (meaning : O → Sequential S I R) (o : O) (n : ℕ) (few : (1 ≤ n) × (n ≤ 64)) where
  abbrev object : Sequential S I R
  object = meaning o

  abbrev g : Board I S R
  g = opened object n

  abbrev local : ℕ → Local I S R
  local = λ p. at_rest object n

  none_in : (q : ℕ) → in_of g q ≡ 0
  none_in q = ap (λ (z : _). z.applied) (copies n q (blank {R = R}))

  pub none_seen : (q : ℕ) → seen_of object n (at_rest object n) q ≡ first_told object n
  none_seen q = copies n q (first_told object n)

  -- the start is the one version
  come_image : (x : Version S R) → HasCome object n g x → x.image ≡ first_image object n
  come_image x come = come.1

  first_whole : IsWhole n (first_image object n)
  first_whole = record { long = length-replicate n blank; replies = λ q q_in some_in. absurd (let a = none_in q in omega (arith, some_in)) }

  at_start : (p : ℕ) → IsAt object n g local p (at_rest object n)
  at_start p = record {
    stage = (none_in p, (omega arith));
    writer = record {
      last = ((omega arith), refl);
      present = λ e. refl;
      written = inl refl;
      called = omega arith;
      inv = λ e. absurd (let z : 0 ≡ 0 + 1 = e in omega arith);
      made = omega arith;
    };
    reader = record {
      long = length-replicate n (first_told object n);
      process = (let a = few.0 in omega arith);
      known = omega arith;
      old = inl (let z : 0 ≡ word_of 0 0 = omega arith in z);
      called = λ q q_in. (let a = ap (λ (t : Told I S R). t.call) (none_seen q) in omega arith);
      inv = λ q q_in e. absurd (let a = ap (λ (t : Told I S R). t.call) (none_seen q) in let z : (seen_of object n (at_rest object n) q).call ≡ 0 + 1 = e in omega arith);
    };
  }

  pub sound' : IsSound object n g local
  sound' = record {
    board = record {
      process = (let a = few.0 in omega arith);
      whole = λ x come. subst (IsWhole n) (sym (come_image x come)) first_whole;
      rises = λ x come q q_in. (let e = ap (λ z. applied_in z q) (come_image x come) in let a = none_in q in omega arith);
      in_most = λ q q_in. (let a = none_in q in omega arith);
      soon = λ q q_in late. absurd (let z : 0 + 2 ≤ 0 = late in omega arith);
      past = λ q q_in. omega arith;
      versions = omega arith;
    };
    each = λ p p_in. at_start p;
    history = record {
      image = refl;
      agreed = λ c has. absurd (let x = has.1 in omega arith);
      start = refl;
      accepted = refl;
      told = λ p p_in. (refl, refl, refl);
    };
    order = record {
      counted = λ v from. refl;
      rising = λ v w below. omega arith;
      each = λ p p_in. record {
        reached = omega arith;
        later = λ c place at mine from. omega arith;
        known = λ k call at. absurd (let e : slice_get [] k ≡ Some call = at in cc);
        stand = λ k call at. absurd (let e : slice_get [] k ≡ Some call = at in cc);
      };
      followed = λ p p_in k call at. absurd (let e : slice_get [] k ≡ Some call = at in cc);
    };
  }

  seats' : (id : ℕ) (v : View O I S R) → get_elem? (first_view meaning o n ∷ []) id ≡ some v → Tells n o local (λ p. 0) id v
  seats' zero v e = subst (λ (z : View O I S R). Tells n o local (λ p. 0) 0 z) (some-injective _ v e) (record {
    object = refl;
    processes = refl;
    each = λ p from below. ((omega (arith, below)), refl, refl);
  })
  seats' (suc id) v e = absurd (some-ne-none v (sym e))

  pub opening_shows : ShowsBoard meaning o n (opening {T = Letter I S R} (first_view meaning o n))
  opening_shows = (
    g,
    (
      local,
      (
        (λ p. 0),
        record {
          few = few;
          word = (let z : 0 ≡ word_of 0 0 = omega arith in z);
          buffers = λ from to from_in to_in. none_seen from;
          seats = seats';
          sound = sound';
        },
        (Ends, refl, refl),
      ),
    ),
  )

-- an element of a list with one more at its end
at_end : {A : Type 0} (l : List A) (a b : A) (j : ℕ) → get_elem? (l ++ a ∷ []) j ≡ some b → (get_elem? l j ≡ some b) ⊎ ((j ≡ length l) × (a ≡ b))
at_end [] a b zero e = inr (refl, some-injective a b e)
at_end [] a b (suc j) e = absurd (some-ne-none b (sym e))
at_end (x ∷ xs) a b zero e = inl e
at_end (x ∷ xs) a b (suc j) e = elim (at_end xs a b j e) [ inl h ↦ inl h | inr h ↦ inr (ap suc h.0, h.1) ]

pub splits : {O I S R : Type 0} (meaning : O → Sequential S I R) (o : O) (n id : ℕ) (v : View O I S R) → 1 ≤ v.known.count → AllowsSplit (ShowsBoard meaning o n) id v (others v) (first_alone v)
splits {O} {I} {S} {R} meaning o n id v some_left c shown at =
    let g = shown.0 in
    let local = shown.1.0 in
    let seat_of = shown.1.1.0 in
    let is = shown.1.1.1 in
    (g, (local, (set_at seat_of v.known.first (length c.views), record { few = is.few; word = is.word; buffers = is.buffers; seats = seats_later g local seat_of is; sound = is.sound }, shown.1.1.2))) where
      seats_later : (g : Board I S R) (local : ℕ → Local I S R) (seat_of : ℕ → ℕ) → IsShown n meaning o g local seat_of c → (j : ℕ) (u : View O I S R) → get_elem? (set c.views id (others v) ++ first_alone v ∷ []) j ≡ some u
          → Tells n o local (set_at seat_of v.known.first (length c.views)) j u
      seats_later g local seat_of is j u e =
          let told = is.seats id v at in
          elim (at_end (set c.views id (others v)) (first_alone v) u j e) [
            | inr last ↦ subst (λ (z : View O I S R). Tells n o local (set_at seat_of v.known.first (length c.views)) j z) last.1 (record {
              object = told.object;
              processes = told.processes;
              each = λ q from below.
                  let here : q ≡ v.known.first = omega (arith, from, below) in
                  let its = told.each v.known.first (omega arith) (omega (arith, some_left)) in (
                    subst (λ k. k < n) (sym here) its.0,
                    ap (set_at seat_of v.known.first (length c.views)) here ∙ set_at_same seat_of v.known.first (length c.views) ∙ sym (last.0 ∙ length-set c.views id (others v)),
                    ap local here ∙ its.2,
                  );
            })
            | inl old ↦ elim (at_set c.views id j (others v) u old) [
              | inl mine ↦ subst (λ (z : View O I S R). Tells n o local (set_at seat_of v.known.first (length c.views)) j z) mine.1 (record {
                object = told.object;
                processes = told.processes;
                each = λ q from below.
                    let its = told.each q (omega (arith, from)) (omega (arith, below, some_left)) in (
                      its.0,
                      set_at_elsewhere seat_of v.known.first (length c.views) q (λ same. omega (arith, same, from)) ∙ its.1 ∙ sym mine.0,
                      its.2,
                    );
              })
              | inr other ↦
                  let theirs = is.seats j u other.1 in
                  record {
                    object = theirs.object;
                    processes = theirs.processes;
                    each = λ q from below.
                        let its = theirs.each q from below in (
                          its.0,
                          set_at_elsewhere seat_of v.known.first (length c.views) q (λ same.
                              let first = told.each v.known.first (omega arith) (omega (arith, some_left)) in
                              other.0 (sym its.1 ∙ ap seat_of same ∙ first.1)) ∙ its.1,
                          its.2,
                        );
                  }
            ]
          ]
