use Rattle.uni_small.proofs.Vocabulary.{AreBuffers, Buffers, SpareHas, HasComeTo, HasRoom, Image, IsOutside, IsUntouchedByBoth, inl, inr, mul-le-mul_right, Me, Option, Seen, Sequential, View, WritesWithin, local_of, subst, ◌≤◌, List, Room, Sizes, ap, arith, buffer_words, held_place, image_in, length, refl, slice_index, spell, sym, with_row, with_seen, ℕ, ◌*◌, ◌++◌, ◌+◌, ◌<◌, ◌∙◌, ◌≡◌}
use Rattle.uni_small.specs.Board.{AreFew}
use Rattle.uni_small.proofs.Going.{writes_buffers, writes_come, writes_more, writes_of, writes_stage}
use Rattle.uni_small.proofs.Images.{spell-applied, spell-length}
use Rattle.uni_small.proofs.Rooms.{room_reply, room_rows, room_spelled, room_state}
use Rattle.uni_small.proofs.Kept.{already_later}
use Rattle.uni_small.proofs.Rows.{with_row-length, with_rows}
use Rattle.uni_small.proofs.Words.{held_room}
use Rattle.uni_small.proofs.log.SmallShared.write.Goals as goal

-- the words of a row are the image's
module _ (sizes : Sizes) (room : Room) (h : HasRoom sizes room) (image : Image)
    (same : (i : ℕ) → i < length (spell (image_in sizes room)) → slice_index (spell (image_in sizes room)) i ≡ slice_index (spell image) (0 + i)) where
  long : length (spell (image_in sizes room)) ≡ buffer_words sizes
  long = spell-length sizes (image_in sizes room) (room_rows sizes room h)

  applied_row : (i : ℕ) → i < sizes.processes → slice_index room.applied.items i ≡ slice_index (spell image) (0 + i)
  applied_row i below = sym (spell-applied sizes (image_in sizes room) (room_rows sizes room h) i below) ∙ same i (let l = long in omega arith)

  reply_row : (i : ℕ) → i < sizes.processes * sizes.reply → slice_index room.reply.items i ≡ slice_index (spell image) (sizes.processes + i)
  reply_row i below = room_reply sizes room h i below ∙ same (sizes.processes + i) (let l = long in omega arith)
      ∙ ap (slice_index (spell image)) (let e : 0 + (sizes.processes + i) ≡ sizes.processes + i = omega arith in e)

  state_row : (i : ℕ) → i < sizes.state → slice_index room.state.items i ≡ slice_index (spell image) (sizes.processes + sizes.processes * sizes.reply + i)
  state_row i below = room_state sizes room h i ∙ same (sizes.processes + sizes.processes * sizes.reply + i) (let l = long in omega arith)
      ∙ ap (slice_index (spell image)) (let e : 0 + (sizes.processes + sizes.processes * sizes.reply + i) ≡ sizes.processes + sizes.processes * sizes.reply + i = omega arith in e)

pub write_words-requires-2-clause-of : goal.write_words-requires-2-clause-of
write_words-requires-2-clause-of g c = writes_of c.args.seat.now.me c.write_words.new.seat.me 0 (length c.deref.result.now) c.write_words.new.own.held.items c.write_words.ensures.goes c.requires.of

pub write_words-requires-2-clause-own : goal.write_words-requires-2-clause-own
write_words-requires-2-clause-own g c =
    let sizes = c.args.self.now.setup.sizes in
    let me = c.args.seat.now.me in
    let own = c.args.own.now in
    let room = c.args.room.now in
    let a = c.deref.result.now in
    let me1 = c.write_words.new.seat.me in
    let own1 = c.write_words.new.own in
    let long1 = ap (λ (ws : List ℕ). length ws) c.write_words.ensures.held ∙ with_row-length own.held.items (held_place sizes own.spare 0) a in
    let are1 = writes_buffers me me1 0 (length a) own1.held.items c.write_words.ensures.goes sizes own own1 c.requires.own c.write_words.ensures.spare refl long1 in
    are1

-- the first row is written, and then the second one
module _ {O : Type 0} (object : Sequential (List ℕ) (List ℕ) (List ℕ)) (sizes : Sizes) (me me1 : Me Seen (View O)) (own own1 : Buffers) (are : AreBuffers sizes (local_of me) own) where
  -- what has been written with a row more
  come_further : (from most : ℕ) (row : List ℕ) → length row ≡ most → (first : WritesWithin me from (length row) own1.held.items me1) → own1.held.items ≡ with_row own.held.items (held_place sizes own.spare from) row
      → from + most ≤ buffer_words sizes → (image : Image) (seen all : List (Option (List ℕ))) (written : ℕ) → HasComeTo object sizes me.0.known.first (local_of me) image seen all written from
      → ((i : ℕ) → i < most → slice_index row i ≡ slice_index (spell (with_seen object image 0 all)) (from + i))
      → HasComeTo object sizes me1.0.known.first (local_of me1) image seen all first.2 (from + most)
  come_further from most row long first is inside image seen all written come words =
      subst (λ k. HasComeTo object sizes me1.0.known.first (local_of me1) image seen all first.2 (from + k)) long
      (writes_come object sizes me me1 from (length row) own1.held.items row image seen all written first refl
      (is ∙ (λ k. with_row (sym are.held k) (held_place sizes (sym are.spare k) from) row))
      (held_room sizes (local_of me) own are from (length row) (omega (arith, long, inside))) come (λ i below. words i (omega (arith, long, below))))

-- what has been written with the first row
first_come : {O : Type 0} (object : Sequential (List ℕ) (List ℕ) (List ℕ)) (sizes : Sizes) (me me1 : Me Seen (View O)) (own own1 : Buffers) (room : Room) (h : HasRoom sizes room) → AreBuffers sizes (local_of me) own → (row : List ℕ) → row ≡ room.applied.items
    → (first : WritesWithin me 0 (length row) own1.held.items me1) → own1.held.items ≡ with_row own.held.items (held_place sizes own.spare 0) row → (image : Image) (seen all : List (Option (List ℕ))) (written : ℕ)
    → HasComeTo object sizes me.0.known.first (local_of me) image seen all written 0
    → ((i : ℕ) → i < length (spell (image_in sizes room)) → slice_index (spell (image_in sizes room)) i ≡ slice_index (spell (with_seen object image 0 all)) (0 + i))
    → HasComeTo object sizes me1.0.known.first (local_of me1) image seen all first.2 sizes.processes
first_come object sizes me me1 own own1 room h are row value first held image seen all written come same =
    subst (λ k. HasComeTo object sizes me1.0.known.first (local_of me1) image seen all first.2 k) (let e : 0 + sizes.processes ≡ sizes.processes = omega arith in e)
    (come_further object sizes me me1 own own1 are 0 sizes.processes row (ap (λ (xs : List ℕ). length xs) value ∙ h.applied) first held (omega arith) image seen all written come
    (λ i below. ap (λ (xs : List ℕ). slice_index xs i) value ∙ applied_row sizes room h (with_seen object image 0 all) same i below))

pub write_words-requires-2-clause-stage : goal.write_words-requires-2-clause-stage
write_words-requires-2-clause-stage g c =
    let object = (g.O.SmallObject.meaning c.args.self.now.setup.object).object in
    let sizes = c.args.self.now.setup.sizes in
    let me = c.args.seat.now.me in
    let me1 = c.write_words.new.seat.me in
    let own1 = c.write_words.new.own in
    let room = c.args.room.now in
    let at = c.requires.stage in
    let goes = c.write_words.ensures.goes in (
      at.0,
      at.1,
      at.2,
      at.3,
      at.4,
      goes.2,
      writes_stage me me1 0 (length c.deref.result.now) own1.held.items goes at.0 at.1 at.5 at.2 at.3 at.6,
      first_come object sizes me me1 c.args.own.now own1 room c.requires.room c.requires.own c.deref.result.now c.deref.ensures.value goes c.write_words.ensures.held at.2 at.3 at.4 at.5 at.7 at.8,
      (λ i below. ap (λ (xs : List ℕ). slice_index xs i) c.deref-2.ensures.value ∙ reply_row sizes room c.requires.room (with_seen object at.2 0 at.4) at.8 i
          (let e : length c.deref-2.result.now ≡ length room.reply.items = ap (λ (xs : List ℕ). length xs) c.deref-2.ensures.value in let r = c.requires.room.reply in omega arith)),
    )

pub write_row-requires-clause-of : goal.write_row-requires-clause-of
write_row-requires-clause-of g c =
    let first = writes_of c.args.seat.now.me c.write_words.new.seat.me 0 (length c.deref.result.now) c.write_words.new.own.held.items c.write_words.ensures.goes c.requires.of in
    writes_of c.write_words.new.seat.me c.write_words-2.new.seat.me c.args.self.now.setup.sizes.processes (length c.deref-2.result.now) c.write_words-2.new.own.held.items c.write_words-2.ensures.goes first

pub write_row-requires-clause-own : goal.write_row-requires-clause-own
write_row-requires-clause-own g c =
    let sizes = c.args.self.now.setup.sizes in
    let me = c.args.seat.now.me in
    let own = c.args.own.now in
    let room = c.args.room.now in
    let a = c.deref.result.now in
    let me1 = c.write_words.new.seat.me in
    let own1 = c.write_words.new.own in
    let long1 = ap (λ (ws : List ℕ). length ws) c.write_words.ensures.held ∙ with_row-length own.held.items (held_place sizes own.spare 0) a in
    let are1 = writes_buffers me me1 0 (length a) own1.held.items c.write_words.ensures.goes sizes own own1 c.requires.own c.write_words.ensures.spare refl long1 in
    let b = c.deref-2.result.now in
    let me2 = c.write_words-2.new.seat.me in
    let own2 = c.write_words-2.new.own in
    let long2 = ap (λ (ws : List ℕ). length ws) c.write_words-2.ensures.held ∙ with_row-length own1.held.items (held_place sizes own1.spare sizes.processes) b in
    writes_buffers me1 me2 sizes.processes (length b) own2.held.items c.write_words-2.ensures.goes sizes own1 own2 are1 c.write_words-2.ensures.spare refl long2

pub write_row-requires-clause-stage : goal.write_row-requires-clause-stage
write_row-requires-clause-stage g c =
    let object = (g.O.SmallObject.meaning c.args.self.now.setup.object).object in
    let sizes = c.args.self.now.setup.sizes in
    let me = c.args.seat.now.me in
    let own = c.args.own.now in
    let room = c.args.room.now in
    let at = c.requires.stage in
    let me1 = c.write_words.new.seat.me in
    let own1 = c.write_words.new.own in
    let a = c.deref.result.now in
    let first = c.write_words.ensures.goes in
    let long1 = ap (λ (ws : List ℕ). length ws) c.write_words.ensures.held ∙ with_row-length own.held.items (held_place sizes own.spare 0) a in
    let are1 = writes_buffers me me1 0 (length a) own1.held.items first sizes own own1 c.requires.own c.write_words.ensures.spare refl long1 in
    let me2 = c.write_words-2.new.seat.me in
    let own2 = c.write_words-2.new.own in
    let b = c.deref-2.result.now in
    let goes = c.write_words-2.ensures.goes in
    let lb : length b ≡ sizes.processes * sizes.reply = ap (λ (xs : List ℕ). length xs) c.deref-2.ensures.value ∙ c.requires.room.reply in (
      at.0,
      at.1,
      at.2,
      at.3,
      at.4,
      goes.2,
      writes_stage me1 me2 sizes.processes (length b) own2.held.items goes at.0 at.1 first.2 at.2 at.3 (writes_stage me me1 0 (length a) own1.held.items first at.0 at.1 at.5 at.2 at.3 at.6),
      come_further object sizes me1 me2 own1 own2 are1 sizes.processes (sizes.processes * sizes.reply) b lb goes c.write_words-2.ensures.held (omega arith) at.2 at.3 at.4 first.2
          (first_come object sizes me me1 own own1 room c.requires.room c.requires.own a c.deref.ensures.value first c.write_words.ensures.held at.2 at.3 at.4 at.5 at.7 at.8)
          (λ i below. ap (λ (xs : List ℕ). slice_index xs i) c.deref-2.ensures.value ∙ reply_row sizes room c.requires.room (with_seen object at.2 0 at.4) at.8 i below),
      (λ i below. ap (λ (xs : List ℕ). slice_index xs i) c.deref-3.ensures.value ∙ state_row sizes room c.requires.room (with_seen object at.2 0 at.4) at.8 i
          (let e : length c.deref-3.result.now ≡ length room.state.items = ap (λ (xs : List ℕ). length xs) c.deref-3.ensures.value in let r = c.requires.room.state in omega arith)),
    )

pub returns-clause-goes : goal.returns-clause-goes
returns-clause-goes g c =
    let sizes = c.args.self.now.setup.sizes in
    let me = c.args.seat.now.me in
    let own = c.args.own.now in
    let room = c.args.room.now in
    let a = c.deref.result.now in
    let b = c.deref-2.result.now in
    let d = c.deref-3.result.now in
    let la : length a ≡ length room.applied.items = ap (λ (xs : List ℕ). length xs) c.deref.ensures.value in
    let lb : length b ≡ length room.reply.items = ap (λ (xs : List ℕ). length xs) c.deref-2.ensures.value in
    let ld : length d ≡ length room.state.items = ap (λ (xs : List ℕ). length xs) c.deref-3.ensures.value in
    let r = c.requires.room.applied in
    let q = c.requires.room.reply in
    let s = c.requires.room.state in
    let at_second : sizes.processes ≡ 0 + length a = omega arith in
    let at_third : sizes.processes + sizes.processes * sizes.reply ≡ 0 + (length a + length b) = omega arith in
    let two = writes_more me c.write_words.new.seat.me 0 (length a) c.write_words.new.own.held.items c.write_words.ensures.goes c.write_words-2.new.seat.me (length b) c.write_words-2.new.own.held.items
    (subst (λ k. WritesWithin c.write_words.new.seat.me k (length b) c.write_words-2.new.own.held.items c.write_words-2.new.seat.me) at_second c.write_words-2.ensures.goes) in
    let all = writes_more me c.write_words-2.new.seat.me 0 (length a + length b) c.write_words-2.new.own.held.items two c.write_row.new.seat.me (length d) c.write_row.new.own.held.items
    (subst (λ k. WritesWithin c.write_words-2.new.seat.me k (length d) c.write_row.new.own.held.items c.write_row.new.seat.me) at_third c.write_row.ensures.goes) in
    (all.0, (let few = all.1 in omega arith), all.2, (let to = all.3 in omega arith), all.4)

-- rows of so few words are soon counted
few_words : (sizes : Sizes) → AreFew sizes → (calls : ℕ) → calls ≤ sizes.processes → calls * sizes.reply < 18446744073709551616
few_words sizes few calls least =
    let a : calls * sizes.reply ≤ 64 * sizes.reply = mul-le-mul_right sizes.reply (let n = few.1 in omega (arith, n, least)) in
    let r = few.5 in omega (arith, a, r)

pub overflow_mul-first : goal.overflow_mul-first
overflow_mul-first g c =
    let o = c.join-calls.ensures.ordered in
    let l = c.join-calls.ensures.last c.args.self.now.setup.sizes.processes c.requires.apart.1 c.requires.calls.1 in
    let few = few_words c.args.self.now.setup.sizes c.args.self.now.few c.join-calls.result.from (omega (arith, o, l)) in omega arith

pub overflow_mul-end : goal.overflow_mul-end
overflow_mul-end g c =
    let few = few_words c.args.self.now.setup.sizes c.args.self.now.few c.join-calls.result.to
    (c.join-calls.ensures.last c.args.self.now.setup.sizes.processes c.requires.apart.1 c.requires.calls.1) in omega arith

pub write_words-requires-clause-words : goal.write_words-requires-clause-words
write_words-requires-clause-words g c =
    let sizes = c.args.self.now.setup.sizes in
    let la : length c.deref.result.now ≡ sizes.processes = ap (λ (xs : List ℕ). length xs) c.deref.ensures.value ∙ c.requires.room.applied in
    (c.join-calls.ensures.ordered, (let l = c.join-calls.ensures.last sizes.processes c.requires.apart.1 c.requires.calls.1 in omega (arith, l, la)))

pub write_words-requires-clause-alike : goal.write_words-requires-clause-alike
write_words-requires-clause-alike g c =
    subst (λ row. SpareHas c.args.self.now.setup.sizes c.args.own.now 0 row (IsOutside c.join-calls.result.from c.join-calls.result.to)) (sym c.deref.ensures.value)
    (λ i within outside. c.requires.applied i within (c.join-calls.ensures.beside 1 i (elim outside [ inl sooner ↦ inl (omega (arith, sooner)) | inr after ↦ inr (omega (arith, after)) ])))

pub write_words-requires-2-clause-words : goal.write_words-requires-2-clause-words
write_words-requires-2-clause-words g c =
    let sizes = c.args.self.now.setup.sizes in
    let lb : length c.deref-2.result.now ≡ sizes.processes * sizes.reply = ap (λ (xs : List ℕ). length xs) c.deref-2.ensures.value ∙ c.requires.room.reply in
    let most = mul-le-mul_right sizes.reply (c.join-calls.ensures.last sizes.processes c.requires.apart.1 c.requires.calls.1) in
    (mul-le-mul_right sizes.reply c.join-calls.ensures.ordered, omega (arith, most, lb))

pub write_words-requires-2-clause-alike : goal.write_words-requires-2-clause-alike
write_words-requires-2-clause-alike g c =
    let sizes = c.args.self.now.setup.sizes in
    let own = c.args.own.now in
    let a = c.deref.result.now in
    let la : length a ≡ sizes.processes = ap (λ (xs : List ℕ). length xs) c.deref.ensures.value ∙ c.requires.room.applied in
    let holds = IsOutside (c.join-calls.result.from * sizes.reply) (c.join-calls.result.to * sizes.reply) in
    already_later sizes own c.write_words.new.own 0 a c.write_words.ensures.spare c.write_words.ensures.held sizes.processes c.deref-2.result.now holds (omega arith)
    (subst (λ row. SpareHas sizes own sizes.processes row holds) (sym c.deref-2.ensures.value)
    (λ i within outside. c.requires.reply i within (c.join-calls.ensures.beside sizes.reply i outside)))

pub write_row-requires-clause-alike : goal.write_row-requires-clause-alike
write_row-requires-clause-alike g c =
    let sizes = c.args.self.now.setup.sizes in
    let own = c.args.own.now in
    let own1 = c.write_words.new.own in
    let a = c.deref.result.now in
    let b = c.deref-2.result.now in
    let d = c.deref-3.result.now in
    let at = sizes.processes + sizes.processes * sizes.reply in
    let la : length a ≡ sizes.processes = ap (λ (xs : List ℕ). length xs) c.deref.ensures.value ∙ c.requires.room.applied in
    let lb : length b ≡ sizes.processes * sizes.reply = ap (λ (xs : List ℕ). length xs) c.deref-2.ensures.value ∙ c.requires.room.reply in
    let holds = IsUntouchedByBoth own.apart.state c.args.touched.state in
    already_later sizes own1 c.write_words-2.new.own sizes.processes b c.write_words-2.ensures.spare c.write_words-2.ensures.held at d holds (omega arith)
    (already_later sizes own own1 0 a c.write_words.ensures.spare c.write_words.ensures.held at d holds (omega arith)
    (subst (λ row. SpareHas sizes own at row holds) (sym c.deref-3.ensures.value) c.requires.state))

pub returns-clause-written : goal.returns-clause-written
returns-clause-written g c =
    let sizes = c.args.self.now.setup.sizes in
    let me = c.args.seat.now.me in
    let own = c.args.own.now in
    let room = c.args.room.now in
    let w = buffer_words sizes in
    let a = c.deref.result.now in
    let b = c.deref-2.result.now in
    let d = c.deref-3.result.now in
    let la : length a ≡ sizes.processes = ap (λ (xs : List ℕ). length xs) c.deref.ensures.value ∙ c.requires.room.applied in
    let lb : length b ≡ sizes.processes * sizes.reply = ap (λ (xs : List ℕ). length xs) c.deref-2.ensures.value ∙ c.requires.room.reply in
    let same1 : c.write_words.new.own.spare ≡ own.spare = c.write_words.ensures.spare in
    let same2 : c.write_words-2.new.own.spare ≡ own.spare = c.write_words-2.ensures.spare ∙ same1 in
    let second : held_place sizes c.write_words.new.own.spare sizes.processes ≡ own.spare * w + 0 + length a = ap (λ k. k * w + sizes.processes) same1 ∙ (let e : own.spare * w + sizes.processes ≡ own.spare * w + 0 + length a = omega arith in e) in
    let third : held_place sizes c.write_words-2.new.own.spare (sizes.processes + sizes.processes * sizes.reply) ≡ own.spare * w + 0 + length a + length b
    = ap (λ k. k * w + (sizes.processes + sizes.processes * sizes.reply)) same2 ∙ (let e : own.spare * w + (sizes.processes + sizes.processes * sizes.reply) ≡ own.spare * w + 0 + length a + length b = omega arith in e) in
    let words : a ++ (b ++ d) ≡ spell (image_in sizes room) = (λ k. c.deref.ensures.value k ++ (c.deref-2.ensures.value k ++ c.deref-3.ensures.value k)) ∙ sym (room_spelled sizes room c.requires.room) in
    let h1 = c.write_words.ensures.held in
    let h2 = c.write_words-2.ensures.held ∙ (λ k. with_row (h1 k) (second k) b) in
    c.write_row.ensures.held ∙ (λ k. with_row (h2 k) (third k) d) ∙ with_rows own.held.items (own.spare * w + 0) a b d ∙ ap (with_row own.held.items (own.spare * w + 0)) words
