-- How a seat begins.
use Rattle.std.specs.Prelude.{All, is_some, true}
use Rattle.std.proofs.lemmas.Bool.{false≢true}
use Rattle.std.specs.Arc.{arc_value}
use Rattle.uni_any.proofs.Ordering.{get_snoc}
use Rattle.triple_buffers.specs.Parties.{IsPartyOf, number_of, steps_of}
use Rattle.uni_any.proofs.Vocabulary.{zero, Letter, List, None, Sequential, Some, View, [], ap, arith, first_alone, first_told, first_version, inl, inr, length, length-append, map, pending_of, refl, replicate, slice_get, slice_index_or, subst, suc, sym, told_by, ℕ, ◌%◌, ◌++◌, ◌+◌, ◌<◌, ◌∙◌, ◌∷◌, ◌≡◌}
use Rattle.uni_any.specs.News.{inv_as, version_as}
use Rattle.uni_any.specs.Seats.{AreFirstSeats, IsFirstSeat, IsSeatOf, StandsAt, object_of, processes_of, rest_of, view_in}
use Rattle.uni_any.specs.declared.seat.AnySeat.{AnySeat}
use Rattle.uni_any.specs.declared.seat.AnyShared.{AnyShared}

pub get_index : {A : Type 0} (xs : List A) (k : ℕ) (d : A) → k < length xs → slice_get xs k ≡ Some (slice_index_or xs k d)
get_index [] k d h = absurd (omega arith)
get_index (y ∷ ys) zero d h = refl
get_index (y ∷ ys) (suc k) d h = get_index ys k d (omega arith)

-- owners of one value tell the same
pub told_alike : {I S R : Type 0} (a b : Letter I S R) → arc_value a ≡ arc_value b → told_by a ≡ told_by b
told_alike a b same = (λ k. record {
  call = (same k).call;
  inv = inv_as (same k).inv;
  last = version_as (arc_value (same k).last);
  next = version_as (arc_value (same k).next);
})

pub all_alike : {A B : Type 0} (f : A → B) (b : B) (xs : List A) → All (λ x. f x ≡ b) xs → map f xs ≡ replicate (length xs) b
all_alike f b [] each = refl
all_alike f b (x ∷ xs) each = (λ k. (each 0 x (omega arith)) k ∷ all_alike f b xs (λ j d inside. each (suc j) d (omega (arith, inside))) k)

module _ {O I S R : Type 0} (meaning : O → Sequential S I R) (shared : AnyShared O S I R) (p : ℕ) where
  pub first_seat : (seat : AnySeat O S I R) → IsPartyOf shared.buffers seat.party → number_of seat.party ≡ p → view_in seat ≡ first_alone (rest_of meaning (object_of shared) (processes_of shared) p) → steps_of seat.party ≡ 0
      → seat.p ≡ p → seat.made ≡ 0 → seat.asked ≡ None → seat.named ≡ 0 → p < processes_of shared → version_as (arc_value seat.last) ≡ first_version (meaning (object_of shared)) (processes_of shared)
      → length seat.seen.items ≡ processes_of shared → All (λ c. told_by c ≡ first_told (meaning (object_of shared)) (processes_of shared)) seat.seen.items → IsFirstSeat shared p seat
  first_seat seat own number view steps p_is made asked named inside last long each = record {
    own = record {
      kept = record {
        place = record {
          own = own;
          layout = shared.laid;
          object = ap (λ (z : View O I S R). z.object) view;
          processes = ap (λ (z : View O I S R). z.known.processes) view;
          first = ap (λ (z : View O I S R). z.known.first) view ∙ sym number;
          alone = ap (λ (z : View O I S R). z.known.count) view;
        };
        number = number ∙ sym p_is;
        inside = subst (λ k. k < processes_of shared) (sym p_is) inside;
        last = ap (λ (z : View O I S R). z.known.local.last) view ∙ sym last;
        seen = ap (λ (z : View O I S R). z.known.local.seen) view ∙ sym (all_alike told_by (first_told (meaning (object_of shared)) (processes_of shared)) seat.seen.items each ∙ ap (λ k. replicate k (first_told (meaning (object_of shared)) (processes_of shared))) long);
        long = long;
        named = (let z = ap (λ k. k % 64) named in let a = inside in omega arith);
      };
      made = ap (λ (z : View O I S R). length z.known.local.own) view ∙ sym made;
      few = (let m = made in omega arith);
      pending_few = λ some. absurd (false≢true (subst (λ o. is_some o ≡ true) asked some));
      stands = subst (λ o. StandsAt (processes_of shared) o (view_in seat).known.local.stage) (sym asked) (ap (λ (z : View O I S R). z.known.local.stage) view);
    };
    process = p_is;
    none = ap (λ (z : View O I S R). z.known.local.own) view;
    idle = ap (λ (z : View O I S R). pending_of z.known.local.stage) view;
    start = ap (λ (z : View O I S R). z.known.local.after) view;
    no_steps = steps;
  }

  pub one_more : (seats later : List (AnySeat O S I R)) (seat : AnySeat O S I R) → AreFirstSeats shared p seats → later ≡ seats ++ seat ∷ [] → IsFirstSeat shared p seat → AreFirstSeats shared (p + 1) later
  one_more seats later seat are is its = subst (λ all. AreFirstSeats shared (p + 1) all) (sym is) (record {
    many = length-append seats (seat ∷ []) ∙ (let m = are.many in omega arith);
    each = λ q u e. elim (get_snoc seats seat q u e) [
      | inl old ↦ are.each q u old
      | inr new ↦ (let at : q ≡ p = new.0 ∙ are.many in subst (λ j. IsFirstSeat shared j u) (sym at) (subst (λ (s : AnySeat O S I R). IsFirstSeat shared p s) new.1 its))
    ];
  })

pub no_seat : {O I S R : Type 0} (shared : AnyShared O S I R) → AreFirstSeats shared 0 []
no_seat shared = record { many = refl; each = λ p u e. absurd (let f : slice_get [] p ≡ Some u = e in cc) }

-- the seats are all the object's
pub all_own : {O I S R : Type 0} (shared : AnyShared O S I R) (count : ℕ) (seats : List (AnySeat O S I R)) → AreFirstSeats shared count seats → All (λ s. IsSeatOf shared s) seats
all_own shared count seats are k d inside = (are.each k (slice_index_or seats k d) (get_index seats k d inside)).own
