-- The run in which a call meets the bound, as one list of events, with the call's floor.
use Rattle.uni_model.proofs.Vocabulary.{Announce, AreAccepted, Bool, BoundIsMet, Call, Event, IsAccepted, IsCounted, IsSome, List, MeetsBound, Name, None, Of, Option, Reshape, Sequential, Some, Step, Trim, WorldOf, [], announces, ap, arith, cond, false, floor_of, frontier, greatest_below, head_seq, opened_world, refl, seq_of, subst, suc, sym, true, world_after, world_after_all, zero, ℕ, ◌%◌, ◌*◌, ◌++◌, ◌+◌, ◌∙◌, ◌∷◌, ◌≡◌, ◌≤◌}
use Rattle.uni_model.proofs.Written.{name_eq_same}
use Rattle.uni_model.proofs.LawProofs.{CountsSteps-reached}
use Rattle.uni_model.proofs.Announced.{HasFloorOnceAnnounced-holds}
use Rattle.uni_model.proofs.Runs.{world_after_all-append, AreAccepted-append}
use Rattle.uni_model.proofs.Solo.{Can, and_then, set_at_here}
use Rattle.uni_model.proofs.Tight.{Setting, Blocked, Served, remainders_apart, blocks, loses_first, finishes}

-- the greatest of numbers that are all one
greatest_of_same : (n x : ℕ) (f : ℕ → ℕ) → ((r : ℕ) → f r ≡ x) → greatest_below (suc n) f ≡ x
greatest_of_same zero x f same = let e = same 0 in omega arith
greatest_of_same (suc n) x f same = let e = same (suc n) in let rest = greatest_of_same n x f same in omega arith

greatest_of_same-some : (n x : ℕ) (f : ℕ → ℕ) → ((r : ℕ) → f r ≡ x) → 1 ≤ n → greatest_below n f ≡ x
greatest_of_same-some zero x f same some = absurd (omega arith)
greatest_of_same-some (suc n) x f same some = greatest_of_same n x f same

-- a choice that is none
none_chosen : {A : Type 0} (b : Bool) (y : A) (o later rest : Option A) → (o ≡ None → later ≡ rest) → cond b (Some y) o ≡ None → cond b (Some y) later ≡ rest
none_chosen true y o later rest same e = absurd (let f : Some y ≡ None = e in cc)
none_chosen false y o later rest same e = same e

module _ {S I R : Type 0} (object : Sequential S I R) where
  floor_of-append : (x : Name) (w : WorldOf S I R) (es fs : List (Event I)) → floor_of object x w es ≡ None
      → floor_of object x w (es ++ fs) ≡ floor_of object x (world_after_all object w es) fs
  floor_of-append x w [] fs none = refl
  floor_of-append x w (Step p ∷ es) fs none =
      none_chosen (announces x (w.call p)) (frontier w) (floor_of object x (world_after object w (Step p)) es) _ _ (floor_of-append x (world_after object w (Step p)) es fs) none
  floor_of-append x w (Call p i ∷ es) fs none = floor_of-append x (world_after object w (Call p i)) es fs none
  floor_of-append x w (Trim ∷ es) fs none = floor_of-append x (world_after object w Trim) es fs none
  floor_of-append x w (Reshape n ∷ es) fs none = floor_of-append x (world_after object w (Reshape n)) es fs none

  -- a call that hasn't been announced has no floor
  no_floor : (n : ℕ) (start : S) (first : ℕ) (es : List (Event I)) → 1 ≤ first → AreAccepted object (opened_world n start first) es → (p : ℕ) (x : Name)
      → (world_after_all object (opened_world n start first) es).call p ≡ Some (record { mine = x; stage = Announce })
      → floor_of object x (opened_world n start first) es ≡ None
  no_floor n start first es positive ok p x is = by_floor (floor_of object x (opened_world n start first) es) refl where
    by_floor : (o : Option ℕ) → floor_of object x (opened_world n start first) es ≡ o → o ≡ None
    by_floor None e = refl
    by_floor (Some f) e = absurd ((HasFloorOnceAnnounced-holds object n start first es positive ok p (record { mine = x; stage = Announce }) is).0 (subst (λ o. IsSome o) (sym e) refl) refl)

  module _ (n : ℕ) (start : S) (first : ℕ) (two : 2 ≤ n) (positive : 1 ≤ first) (i : I) where
    abbrev p : ℕ
    p = first % n

    setting : Setting n first (first % n) ((first + 1) % n)
    setting = record {
      two = two;
      positive = positive;
      is_p = refl;
      is_q = refl;
      below_p = omega arith;
      below_q = omega arith;
      apart = λ same. remainders_apart n first (first + 1) (omega arith) (omega arith) (sym same);
    }

    abbrev opened : WorldOf S I R
    opened = opened_world n start first

    -- up to p's call
    blocked : Can object opened (Blocked n first ((first + 1) % n))
    blocked = blocks object n first (first % n) ((first + 1) % n) setting i start

    abbrev v : WorldOf S I R
    v = world_after_all object opened blocked.events

    loses : IsAccepted v (Call (first % n) i) × IsAccepted (world_after object v (Call (first % n) i)) (Step (first % n))
        × Can object (world_after object (world_after object v (Call (first % n) i)) (Step (first % n))) (Served n first (first % n))
    loses =
        let l = loses_first object n first (first % n) ((first + 1) % n) setting i v blocked.holds in
        (l.0, l.1, and_then object _ _ _ l.2 (λ x lost. finishes object n first (first % n) ((first + 1) % n) setting i x lost))

    abbrev v1 : WorldOf S I R
    v1 = world_after object v (Call (first % n) i)

    abbrev begin : List (Event I)
    begin = blocked.events ++ Call (first % n) i ∷ []

    abbrev later : List (Event I)
    later = Step (first % n) ∷ loses.2.events

    after_begin : world_after_all object opened begin ≡ v1
    after_begin = world_after_all-append object opened blocked.events (Call (first % n) i ∷ [])

    begin_accepted : AreAccepted object opened begin
    begin_accepted = AreAccepted-append object opened blocked.events (Call (first % n) i ∷ []) blocked.accepted (loses.0, tt)

    accepted : AreAccepted object opened (begin ++ later)
    accepted = AreAccepted-append object opened begin later begin_accepted (subst (λ x. AreAccepted object x later) (sym after_begin) (loses.1, loses.2.accepted))

    abbrev last : WorldOf S I R
    last = world_after_all object opened (begin ++ later)

    served : Served n first (first % n) last
    served = subst (λ x. Served n first (first % n) x) (sym (world_after_all-append object opened begin later ∙ ap (λ x. world_after_all object x later) after_begin)) loses.2.holds

    announcing : v1.call (first % n) ≡ Some (record { mine = Of (first % n) 0; stage = Announce })
    announcing = set_at_here v.call (first % n) _ ∙ ap (λ k. Some (record { mine = Of (first % n) k; stage = Announce })) (blocked.holds.begun (first % n) (λ same. setting.apart (sym same)))

    heads_first : (r : ℕ) → head_seq v1.memory r ≡ first
    heads_first r = ap (seq_of v.memory) (blocked.holds.heads r) ∙ blocked.holds.anchor

    floor_first : frontier v1 ≡ first
    floor_first = greatest_of_same-some v.n first (head_seq v1.memory) heads_first (let size = blocked.holds.size in omega arith)

    floor_then : floor_of object (Of (first % n) 0) v1 later ≡ Some first
    floor_then =
        ap (λ c. cond (announces (Of (first % n) 0) c) (Some (frontier v1)) (floor_of object (Of (first % n) 0) (world_after object v1 (Step (first % n))) loses.2.events)) announcing
        ∙ ap (λ b. cond b (Some (frontier v1)) (floor_of object (Of (first % n) 0) (world_after object v1 (Step (first % n))) loses.2.events)) (name_eq_same (Of (first % n) 0))
        ∙ ap Some floor_first

    floor : floor_of object (Of (first % n) 0) opened (begin ++ later) ≡ Some first
    floor =
        floor_of-append (Of (first % n) 0) opened begin later (no_floor n start first begin positive begin_accepted (first % n) (Of (first % n) 0) (ap (λ (x : WorldOf S I R). x.call (first % n)) after_begin ∙ announcing))
        ∙ ap (λ x. floor_of object (Of (first % n) 0) x later) after_begin
        ∙ floor_then

    counted : last.steps (first % n) ≡ 10 * n + 12
    counted =
        let count = CountsSteps-reached object last (record { n = n; start = start; number = first; events = begin ++ later; positive = positive; accepted = accepted; reached = refl }) (first % n) in
        let steps : last.steps (first % n) ≡ 2 * last.among (first % n) + 4 + 8 * last.turns (first % n)
        = (subst (λ o. IsCounted last.n o (last.begun (first % n)) (last.among (first % n)) (last.steps (first % n)) (last.turns (first % n))) served.returned count) (let b = served.begun in omega arith) in
        let among : last.among (first % n) ≡ n = served.among in
        let turns : last.turns (first % n) ≡ n + 1 = served.turns in
        omega arith

    meets : MeetsBound object n start first
    meets = record {
      events = begin ++ later;
      process = first % n;
      accepted = accepted;
      returned = served.returned;
      begun = served.begun;
      among = served.among;
      few = served.few;
      turns = served.turns;
      steps = counted;
      floor = floor;
      number = served.seq;
    }

  pub BoundIsMet-holds : (n : ℕ) (start : S) (number : ℕ) (i : I) → BoundIsMet object n start number i
  BoundIsMet-holds n start number i two positive = meets n start number two positive i
