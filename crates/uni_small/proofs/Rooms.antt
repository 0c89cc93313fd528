-- A room's image, and what it has of the processes that were seen.
use Rattle.uni_small.proofs.Vocabulary.{All, AreWhole, Bool, HasInvocation, HasRoom, HasRows, List, None, Option, Room, Seen, Sequential, Sizes, Some, [], ap, arith, due_at, false, get_or-append-add, get_or_append_left, if◌then◌else◌, image_in, image_of_rows, length, map, put_mid, refl, rows, seen_in, set, slice_index, slice_index_or, slice_set, spell, subst, suc, sym, take, take-length, true, with_seen, zero, ℕ, ◌*◌, ◌++◌, ◌+◌, ◌<◌, ◌∙◌, ◌∷◌, ◌≡◌}
use Rattle.uni_small.proofs.Lists.{due-later}
use Rattle.uni_small.proofs.Rows.{joined-rows, rows-even, rows-length, rows-set}

module _ (sizes : Sizes) (room : Room) (has : HasRoom sizes room) where
  pub room_rows : HasRows sizes (image_in sizes room)
  room_rows = record {
    applied = has.applied;
    reply = rows-length sizes.processes sizes.reply room.reply.items;
    replies = λ r below. rows-even sizes.processes sizes.reply room.reply.items has.reply r (let l = rows-length sizes.processes sizes.reply room.reply.items in omega arith);
    state = has.state;
  }

  -- its words are those of its rows, one after another
  pub room_spelled : spell (image_in sizes room) ≡ room.applied.items ++ (room.reply.items ++ room.state.items)
  room_spelled = ap (λ ws. room.applied.items ++ (ws ++ room.state.items)) (joined-rows sizes.processes sizes.reply room.reply.items has.reply)

  pub room_reply : (i : ℕ) → i < sizes.processes * sizes.reply → slice_index room.reply.items i ≡ slice_index (spell (image_in sizes room)) (sizes.processes + i)
  room_reply i below =
      sym (get_or_append_left room.reply.items room.state.items 0 i (let l = has.reply in omega arith))
      ∙ sym (get_or-append-add room.applied.items (room.reply.items ++ room.state.items) i 0)
      ∙ ap (λ k. slice_index (room.applied.items ++ (room.reply.items ++ room.state.items)) (k + i)) has.applied
      ∙ ap (λ ws. slice_index ws (sizes.processes + i)) (sym room_spelled)

  pub room_state : (i : ℕ) → slice_index room.state.items i ≡ slice_index (spell (image_in sizes room)) (sizes.processes + sizes.processes * sizes.reply + i)
  room_state i =
      let e : sizes.processes + (sizes.processes * sizes.reply + i) ≡ sizes.processes + sizes.processes * sizes.reply + i = omega arith in
      sym (get_or-append-add room.reply.items room.state.items i 0) ∙ ap (λ k. slice_index (room.reply.items ++ room.state.items) (k + i)) has.reply
      ∙ sym (get_or-append-add room.applied.items (room.reply.items ++ room.state.items) (sizes.processes * sizes.reply + i) 0)
      ∙ ap (λ k. slice_index (room.applied.items ++ (room.reply.items ++ room.state.items)) (k + (sizes.processes * sizes.reply + i))) has.applied
      ∙ ap (λ ws. slice_index ws (sizes.processes + (sizes.processes * sizes.reply + i))) (sym room_spelled) ∙ ap (slice_index (spell (image_in sizes room))) e

-- what was seen of a process
pub seen_due : (seen : Seen) → seen.due ≡ true → seen_in seen ≡ Some seen.invocation.items
seen_due seen e = ap (λ b. if b then Some seen.invocation.items else None) e

pub seen_none : (seen : Seen) → seen.due ≡ false → seen_in seen ≡ None
seen_none seen e = ap (λ b. if b then Some seen.invocation.items else None) e

seen_words : (b : Bool) (words inv : List ℕ) → (if b then Some words else None) ≡ Some inv → words ≡ inv
seen_words true words inv e = cc
seen_words false words inv e = absurd (let f : None ≡ Some inv = e in cc)

-- each invocation has all its words, also among the first ones
pub whole_seen : (sizes : Sizes) (seen : List Seen) → All (HasInvocation sizes) seen → (k : ℕ) → AreWhole sizes (map seen_in (take k seen))
whole_seen sizes seen all zero r inv e = absurd (let f = e in cc)
whole_seen sizes [] all (suc k) r inv e = absurd (let f = e in cc)
whole_seen sizes (x ∷ seen) all (suc k) zero inv e =
    let here : seen_in x ≡ Some inv = cc in
    ap (λ (ws : List ℕ). length ws) (sym (seen_words x.due x.invocation.items inv here)) ∙ all 0 x (omega arith)
whole_seen sizes (x ∷ seen) all (suc k) (suc r) inv e = whole_seen sizes seen (λ i d below. all (suc i) d (omega arith)) k r inv e

pub whole_all : (sizes : Sizes) (seen : List Seen) → All (HasInvocation sizes) seen → AreWhole sizes (map seen_in seen)
whole_all sizes seen all = subst (λ xs. AreWhole sizes (map seen_in xs)) (take-length seen) (whole_seen sizes seen all (length seen))

-- a call that was seen is applied
pub applied_in_room : (object : Sequential (List ℕ) (List ℕ) (List ℕ)) (sizes : Sizes) (r wide : ℕ) (applied replies state : List ℕ) (seen : Seen) (inv row state' : List ℕ)
    → r < sizes.processes → length replies ≡ sizes.processes * sizes.reply → wide ≡ sizes.reply → length row ≡ sizes.reply → seen.due ≡ true → inv ≡ seen.invocation.items
    → row ≡ object.answer state inv → state' ≡ object.next state inv
    → image_of_rows sizes (set applied r (slice_index applied r + 1)) (put_mid (r * sizes.reply) wide replies row) state'
    ≡ with_seen object (image_of_rows sizes applied replies state) r (seen_in seen ∷ [])
applied_in_room object sizes r wide applied replies state seen inv row state' inside long same full due words answered moved =
    let rows_are : rows sizes.processes sizes.reply (put_mid (r * sizes.reply) wide replies row) ≡ slice_set (rows sizes.processes sizes.reply replies) r (object.answer state inv)
    = ap (λ k. rows sizes.processes sizes.reply (put_mid (r * sizes.reply) k replies row)) same ∙ rows-set sizes.processes sizes.reply r replies row inside long full
    ∙ ap (slice_set (rows sizes.processes sizes.reply replies) r) answered in
    let seen_is : seen_in seen ≡ Some inv = seen_due seen due ∙ ap Some (sym words) in
    (λ i. record { applied = set applied r (slice_index applied r + 1); reply = rows_are i; state = moved i })
    ∙ ap (λ o. with_seen object (image_of_rows sizes applied replies state) r (o ∷ [])) (sym seen_is)

pub map_set : {A B : Type 0} (f : A → B) (xs : List A) (p : ℕ) (x : A) → map f (slice_set xs p x) ≡ slice_set (map f xs) p (f x)
map_set f [] p x = refl
map_set f (y ∷ xs) zero x = refl
map_set f (y ∷ xs) (suc p) x = ap (λ l. f y ∷ l) (map_set f xs p x)

due_of_first : (due : Bool) (words : List ℕ) (seen : List (Option (List ℕ))) → due_at ((if due then Some words else None) ∷ seen) 0 ≡ 0 → due ≡ false
due_of_first true words seen none = absurd (let z : 1 ≡ 0 = none in omega arith)
due_of_first false words seen none = refl

-- of whom nothing to apply was seen, nothing is due
pub none_due : (seen : List Seen) (r : ℕ) (x : Seen) → r < length seen → due_at (map seen_in seen) r ≡ 0 → (slice_index_or seen r x).due ≡ false
none_due [] r x below none = absurd (omega arith)
none_due (y ∷ seen) zero x below none = due_of_first y.due y.invocation.items (map seen_in seen) none
none_due (y ∷ seen) (suc r) x below none = none_due seen r x (omega arith) (sym (due-later (seen_in y) (map seen_in seen) r) ∙ none)
