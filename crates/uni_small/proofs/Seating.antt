-- One more seat in order.
use Rattle.uni_small.proofs.Vocabulary.{All, AreBuffers, AreFirstSeats, Contains, Contains-append_cases, Contains-append_left, Contains-append_right, HasRoom, IsFreshSeat, IsKept, IsSeatOf, List, ProcessReturned, Some, [], ap, append-nil, append_assoc, arith, flat_map, inl, inr, known_calls, length-append, refl, slice_index_or, subst, sym, ℕ, ◌++◌, ◌+◌, ◌<◌, ◌∙◌, ◌∷◌, ◌≡◌, None}
use Rattle.uni_small.specs.declared.log.SmallShared.{SmallShared}
use Rattle.uni_small.specs.declared.seat.SmallSeat.{SmallSeat}
use Rattle.uni_small.proofs.Lists.{get_snoc, get-contains, slice_get-index}

pub one_more : {O : Type 0} (shared : SmallShared O) (count : ℕ) (seats later : List (SmallSeat O)) (seat : SmallSeat O) → AreFirstSeats shared count seats → later ≡ seats ++ seat ∷ []
    → seat.seat.table_id ≡ shared.table.shared.table_id → seat.seat.me.0.object ≡ Some shared.setup.object → seat.seat.me.0.known.sizes ≡ shared.setup.sizes → seat.p < shared.setup.sizes.processes → seat.p ≡ count
    → HasRoom shared.setup.sizes seat.room → AreBuffers shared.setup.sizes seat.seat.me.0.known.local seat.own → IsKept shared.setup.sizes seat.own seat.room → seat.read ≡ None → seat.seat.me.0.known.local.own ≡ [] → seat.made ≡ 0 → seat.seat.me.0.known.local.after ≡ 0 → seat.seat.me.0.known.taken ≡ [] → AreFirstSeats shared (count + 1) later
one_more shared count seats later seat are is table object sizes inside place room buffers kept unread own made version taken = subst (AreFirstSeats shared (count + 1)) (sym is) (record {
  many = length-append seats (seat ∷ []) ∙ (let m = are.many in omega arith);
  each = λ p u e. elim (get_snoc seats seat p u e) [
    | inl old ↦ are.each p u old
    | inr new ↦ (let at : p ≡ count = new.0 ∙ are.many in
        subst (IsFreshSeat shared p) new.1 (record {
          own = record { table = table; object = object; sizes = sizes; inside = inside; keeps = record { room = room; buffers = buffers; kept = kept; read = λ version e. absurd (let none : None ≡ Some version = sym unread ∙ e in cc) } };
          process = place ∙ sym at;
          calls = own;
          made = made;
          version = version;
          taken = taken;
        }))
  ];
})

-- the seats are all the object's
pub all_own : {O : Type 0} (shared : SmallShared O) (count : ℕ) (seats : List (SmallSeat O)) → AreFirstSeats shared count seats → All (IsSeatOf shared) seats
all_own shared count seats are k d inside = (are.each k (slice_index_or seats k d) (slice_get-index seats k d inside)).own

pub All-each : {A : Type 0} (P : A → Type 0) (xs : List A) → ((x : A) → Contains xs x → P x) → All P xs
All-each P xs each k d inside = each (slice_index_or xs k d) (get-contains xs k (slice_index_or xs k d) (slice_get-index xs k d inside))

flat_map-append : {A B : Type 0} (f : A → List B) (xs ys : List A) → flat_map f (xs ++ ys) ≡ flat_map f xs ++ flat_map f ys
flat_map-append f [] ys = refl
flat_map-append f (x ∷ xs) ys = ap (λ l. f x ++ l) (flat_map-append f xs ys) ∙ sym (append_assoc (f x) (flat_map f xs) (flat_map f ys))

-- what the last seat knows, and then what the others do
pub known_last : {O : Type 0} (all rest : List (SmallSeat O)) (last : SmallSeat O) → all ≡ rest ++ last ∷ [] → (its : ProcessReturned)
    → Contains (flat_map known_calls all) its → Contains (known_calls last ++ flat_map known_calls rest) its
known_last all rest last is its has =
    let parts : flat_map known_calls all ≡ flat_map known_calls rest ++ known_calls last
    = ap (flat_map known_calls) is ∙ flat_map-append known_calls rest (last ∷ []) ∙ ap (λ l. flat_map known_calls rest ++ l) (append-nil (known_calls last)) in
    elim (Contains-append_cases (flat_map known_calls rest) (known_calls last) its (subst (λ l. Contains l its) parts has)) [
      | inl old ↦ Contains-append_right (known_calls last) (flat_map known_calls rest) its old
      | inr own ↦ Contains-append_left (known_calls last) (flat_map known_calls rest) its own
    ]
