use Rattle.uni_small.proofs.Vocabulary.{IsOutside, SpareHas, HasRoom, Image, List, Room, Sizes, all_seen, ap, arith, buffer_words, held_place, image_in, image_of_rows, length, map, seen_in, slice_index, spell, subst, sym, with_items_is, with_seen, words_held, ℕ, ◌*◌, ◌+◌, ◌<◌, ◌∙◌, ◌≡◌, IsOutsideBoth, IsOutsideRows, IsUntouchedByBoth, inl, inr}
use Rattle.std.specs.Vec.{with_items}
use Rattle.uni_small.specs.Touched.{IsUntouched}
use Rattle.uni_small.specs.declared.span.Span.{Span}
use Rattle.uni_small.specs.declared.touched.Changes.{Changes}
use Rattle.uni_small.proofs.Images.{spell-applied, spell-length}
use Rattle.uni_small.proofs.Kept.{nothing_outside, nothing_untouched, row_alike, row_already, written_there, written_words}
use Rattle.uni_small.proofs.Rooms.{room_reply, room_rows, room_state}
use Rattle.uni_small.proofs.Rows.{with_row-length}
use Rattle.uni_small.proofs.log.SmallShared.fill.Goals.{else-is_from_other, then-is_from_other}
use Rattle.uni_small.proofs.log.SmallShared.fill.Goals as goal

abbrev size : List ℕ → ℕ
size words = length words

-- the first row of a room is that of its image
applied_is : (sizes : Sizes) (room : Room) → HasRoom sizes room → (i : ℕ) → i < sizes.processes → slice_index room.applied.items i ≡ slice_index (spell (image_in sizes room)) (0 + i)
applied_is sizes room has i below =
    sym (spell-applied sizes (image_in sizes room) (room_rows sizes room has) i below) ∙ ap (slice_index (spell (image_in sizes room))) (let e : i ≡ 0 + i = omega arith in e)

-- a process is in none of these if its word is in none of rows of one
beside_of_one : (calls : Span) (q : ℕ) → IsOutsideRows calls 1 q → IsOutside calls.from calls.to q
beside_of_one calls q outside = elim outside [ inl sooner ↦ inl (omega (arith, sooner)) | inr after ↦ inr (omega (arith, after)) ]

pub write-requires-clause-applied : goal.write-requires-clause-applied
write-requires-clause-applied g c =
    let sizes = c.args.self.now.setup.sizes in
    let own = c.args.own.now in
    let room = c.args.room.now in
    let calls = c.if-is_from_other.touched.calls in
    let new = c.apply_seen-state.new.applied in
    let is = with_items_is room.applied new (c.apply_seen-state.auto.applied ∙ c.deref_mut.ensures.len) in
    let old : length c.deref_mut.result.now ≡ sizes.processes = ap size c.deref_mut.ensures.value ∙ c.requires.room.applied in
    let long : length new ≡ sizes.processes = c.apply_seen-state.auto.applied ∙ old in
    subst (λ row. SpareHas sizes own 0 row (IsOutsideBoth own.apart.calls calls 1)) (sym is)
    (elim c.if-is_from_other.branch [
      | then-is_from_other w ↦
          row_already sizes own room c.requires.own.which w.if-is_from_other.true (c.requires.kept.copy (let o = w.if-is_from_other.true in omega arith)) 0 sizes.processes (omega arith) room.applied.items new (IsOutsideRows calls 1)
          (applied_is sizes room c.requires.room)
          (λ i inside stays. c.apply_seen-state.ensures.applied i (beside_of_one room.busy i (subst (λ (s : Span). IsOutsideRows s 1 i) (ap (λ (t : Changes). t.calls) w.touched-is) stays)) ∙ ap (λ (xs : List ℕ). slice_index xs i) c.deref_mut.ensures.value)
          (IsOutsideRows own.apart.calls 1) c.requires.kept.applied long
      | else-is_from_other w ↦ (λ i within both. absurd (nothing_outside calls sizes.processes 1 i (ap (λ (t : Changes). t.calls) (w.touched-is ∙ w.all-touched.ensures)) (omega (arith, within, long)) both.1))
    ])

pub write-requires-clause-reply : goal.write-requires-clause-reply
write-requires-clause-reply g c =
    let sizes = c.args.self.now.setup.sizes in
    let own = c.args.own.now in
    let room = c.args.room.now in
    let calls = c.if-is_from_other.touched.calls in
    let new = c.apply_seen-state.new.reply in
    let is = with_items_is room.reply new (c.apply_seen-state.auto.reply ∙ c.deref_mut-2.ensures.len) in
    let old : length c.deref_mut-2.result.now ≡ (sizes.processes * sizes.reply) = ap size c.deref_mut-2.ensures.value ∙ c.requires.room.reply in
    let long : length new ≡ (sizes.processes * sizes.reply) = c.apply_seen-state.auto.reply ∙ old in
    subst (λ row. SpareHas sizes own sizes.processes row (IsOutsideBoth own.apart.calls calls sizes.reply)) (sym is)
    (elim c.if-is_from_other.branch [
      | then-is_from_other w ↦
          row_already sizes own room c.requires.own.which w.if-is_from_other.true (c.requires.kept.copy (let o = w.if-is_from_other.true in omega arith)) sizes.processes (sizes.processes * sizes.reply) (omega arith) room.reply.items new (IsOutsideRows calls sizes.reply)
          (λ i below. room_reply sizes room c.requires.room i below)
          (λ i inside stays. c.apply_seen-state.ensures.reply i (subst (λ (s : Span). IsOutsideRows s sizes.reply i) (ap (λ (t : Changes). t.calls) w.touched-is) stays) ∙ ap (λ (xs : List ℕ). slice_index xs i) c.deref_mut-2.ensures.value)
          (IsOutsideRows own.apart.calls sizes.reply) c.requires.kept.reply long
      | else-is_from_other w ↦ (λ i within both. absurd (nothing_outside calls sizes.processes sizes.reply i (ap (λ (t : Changes). t.calls) (w.touched-is ∙ w.all-touched.ensures)) (omega (arith, within, long)) both.1))
    ])

pub write-requires-clause-state : goal.write-requires-clause-state
write-requires-clause-state g c =
    let sizes = c.args.self.now.setup.sizes in
    let own = c.args.own.now in
    let room = c.args.room.now in
    let calls = c.if-is_from_other.touched.calls in
    let new = c.apply_seen-state.new.state in
    let is = with_items_is room.state new (c.apply_seen-state.auto.state ∙ c.deref_mut-3.ensures.len) in
    let old : length c.deref_mut-3.result.now ≡ sizes.state = ap size c.deref_mut-3.ensures.value ∙ c.requires.room.state in
    let long : length new ≡ sizes.state = c.apply_seen-state.auto.state ∙ old in
    subst (λ row. SpareHas sizes own (sizes.processes + sizes.processes * sizes.reply) row (IsUntouchedByBoth own.apart.state c.if-is_from_other.touched.state)) (sym is)
    (elim c.if-is_from_other.branch [
      | then-is_from_other w ↦
          row_already sizes own room c.requires.own.which w.if-is_from_other.true (c.requires.kept.copy (let o = w.if-is_from_other.true in omega arith)) (sizes.processes + sizes.processes * sizes.reply) sizes.state (omega arith) room.state.items new (IsUntouched c.if-is_from_other.touched.state)
          (λ i below. room_state sizes room c.requires.room i)
          (λ i inside stays. c.apply_seen-state.ensures.touched i (omega (arith, inside, old)) (subst (λ t. IsUntouched t i) (ap (λ (t : Changes). t.state) w.touched-is) stays) ∙ ap (λ (xs : List ℕ). slice_index xs i) c.deref_mut-3.ensures.value)
          (IsUntouched own.apart.state) c.requires.kept.state long
      | else-is_from_other w ↦ (λ i within both. absurd (nothing_untouched c.if-is_from_other.touched.state (ap (λ (t : Changes). t.state) (w.touched-is ∙ w.all-touched.ensures)) i (let l = c.deref_mut-3.type_inv.0 in omega (arith, l, old, within, long)) both.1))
    ])

pub returns-clause-long : goal.returns-clause-long
returns-clause-long g c =
    let sizes = c.args.self.now.setup.sizes in
    let object = (g.O.SmallObject.meaning c.args.self.now.setup.object).object in
    let own = c.args.own.now in
    let room = c.args.room.now in
    let new = c.apply_seen-state.new in
    let a = with_items_is room.applied new.applied (c.apply_seen-state.auto.applied ∙ c.deref_mut.ensures.len) in
    let b = with_items_is room.reply new.reply (c.apply_seen-state.auto.reply ∙ c.deref_mut-2.ensures.len) in
    let d = with_items_is room.state new.state (c.apply_seen-state.auto.state ∙ c.deref_mut-3.ensures.len) in
    let room1 : Room = record room { applied = with_items room.applied new.applied; reply = with_items room.reply new.reply; state = with_items room.state new.state } in
    let has : HasRoom sizes room1 = record {
      applied = ap size a ∙ c.apply_seen-state.auto.applied ∙ ap size c.deref_mut.ensures.value ∙ c.requires.room.applied;
      reply = ap size b ∙ c.apply_seen-state.auto.reply ∙ ap size c.deref_mut-2.ensures.value ∙ c.requires.room.reply;
      state = ap size d ∙ c.apply_seen-state.auto.state ∙ ap size c.deref_mut-3.ensures.value ∙ c.requires.room.state;
      seen = c.requires.room.seen;
      invocations = c.requires.room.invocations;
      saved = c.requires.room.saved;
      ordered = c.requires.room.ordered;
      busy = c.requires.room.busy;
      quiet = c.requires.room.quiet;
    } in
    let words = spell (image_in sizes room1) in
    let whole : length words ≡ buffer_words sizes = spell-length sizes (image_in sizes room1) (room_rows sizes room1 has) in
    ap size c.write.ensures.written ∙ with_row-length own.held.items (held_place sizes own.spare 0) words

pub returns-clause-held : goal.returns-clause-held
returns-clause-held g c =
    let sizes = c.args.self.now.setup.sizes in
    let object = (g.O.SmallObject.meaning c.args.self.now.setup.object).object in
    let own = c.args.own.now in
    let room = c.args.room.now in
    let new = c.apply_seen-state.new in
    let a = with_items_is room.applied new.applied (c.apply_seen-state.auto.applied ∙ c.deref_mut.ensures.len) in
    let b = with_items_is room.reply new.reply (c.apply_seen-state.auto.reply ∙ c.deref_mut-2.ensures.len) in
    let d = with_items_is room.state new.state (c.apply_seen-state.auto.state ∙ c.deref_mut-3.ensures.len) in
    let room1 : Room = record room { applied = with_items room.applied new.applied; reply = with_items room.reply new.reply; state = with_items room.state new.state } in
    let has : HasRoom sizes room1 = record {
      applied = ap size a ∙ c.apply_seen-state.auto.applied ∙ ap size c.deref_mut.ensures.value ∙ c.requires.room.applied;
      reply = ap size b ∙ c.apply_seen-state.auto.reply ∙ ap size c.deref_mut-2.ensures.value ∙ c.requires.room.reply;
      state = ap size d ∙ c.apply_seen-state.auto.state ∙ ap size c.deref_mut-3.ensures.value ∙ c.requires.room.state;
      seen = c.requires.room.seen;
      invocations = c.requires.room.invocations;
      saved = c.requires.room.saved;
      ordered = c.requires.room.ordered;
      busy = c.requires.room.busy;
      quiet = c.requires.room.quiet;
    } in
    let words = spell (image_in sizes room1) in
    let whole : length words ≡ buffer_words sizes = spell-length sizes (image_in sizes room1) (room_rows sizes room1 has) in
    let before : image_of_rows sizes c.deref_mut.result.now c.deref_mut-2.result.now c.deref_mut-3.result.now ≡ image_in sizes room
    = (λ i. image_of_rows sizes (c.deref_mut.ensures.value i) (c.deref_mut-2.ensures.value i) (c.deref_mut-3.ensures.value i)) in
    let same : image_in sizes room1 ≡ with_seen object (image_in sizes room) 0 (all_seen room)
    = (λ i. image_of_rows sizes (a i) (b i) (d i)) ∙ c.apply_seen-state.ensures.image ∙ (λ i. with_seen object (before i) 0 (map seen_in (c.deref.ensures.value i))) in
    λ i below.
    ap (λ (xs : List ℕ). slice_index xs (held_place sizes own.spare i)) c.write.ensures.written
    ∙ written_there sizes own.held.items words own.spare c.requires.own.which c.requires.own.long whole i below
    ∙ ap (λ (m : Image). slice_index (spell m) i) same

pub write-requires-clause-calls : goal.write-requires-clause-calls
write-requires-clause-calls g c =
    let calls = c.if-is_from_other.touched.calls in
    elim c.if-is_from_other.branch [
      | then-is_from_other w ↦ (
        (let f = ap (λ (t : Changes). t.calls.from) w.touched-is in let t = ap (λ (t : Changes). t.calls.to) w.touched-is in let o = c.requires.room.ordered in omega (arith, f, t, o)),
        (let t = ap (λ (t : Changes). t.calls.to) w.touched-is in let b = c.requires.room.busy in omega (arith, t, b)),
      )
      | else-is_from_other w ↦ (
        (let f = ap (λ (t : Changes). t.calls.from) (w.touched-is ∙ w.all-touched.ensures) in omega (arith, f)),
        (let t = ap (λ (t : Changes). t.calls.to) (w.touched-is ∙ w.all-touched.ensures) in omega (arith, t)),
      )
    ]

pub returns-clause-kept : goal.returns-clause-kept
returns-clause-kept g c =
    let sizes = c.args.self.now.setup.sizes in
    let object = (g.O.SmallObject.meaning c.args.self.now.setup.object).object in
    let own = c.args.own.now in
    let room = c.args.room.now in
    let new = c.apply_seen-state.new in
    let a = with_items_is room.applied new.applied (c.apply_seen-state.auto.applied ∙ c.deref_mut.ensures.len) in
    let b = with_items_is room.reply new.reply (c.apply_seen-state.auto.reply ∙ c.deref_mut-2.ensures.len) in
    let d = with_items_is room.state new.state (c.apply_seen-state.auto.state ∙ c.deref_mut-3.ensures.len) in
    let room1 : Room = record room { applied = with_items room.applied new.applied; reply = with_items room.reply new.reply; state = with_items room.state new.state } in
    let has : HasRoom sizes room1 = record {
      applied = ap size a ∙ c.apply_seen-state.auto.applied ∙ ap size c.deref_mut.ensures.value ∙ c.requires.room.applied;
      reply = ap size b ∙ c.apply_seen-state.auto.reply ∙ ap size c.deref_mut-2.ensures.value ∙ c.requires.room.reply;
      state = ap size d ∙ c.apply_seen-state.auto.state ∙ ap size c.deref_mut-3.ensures.value ∙ c.requires.room.state;
      seen = c.requires.room.seen;
      invocations = c.requires.room.invocations;
      saved = c.requires.room.saved;
      ordered = c.requires.room.ordered;
      busy = c.requires.room.busy;
      quiet = c.requires.room.quiet;
    } in
    let words = spell (image_in sizes room1) in
    let whole : length words ≡ buffer_words sizes = spell-length sizes (image_in sizes room1) (room_rows sizes room1 has) in
    let calls = c.if-is_from_other.touched.calls in
    let old : length c.deref_mut-3.result.now ≡ sizes.state = ap size c.deref_mut-3.ensures.value ∙ c.requires.room.state in
    record {
      copy = λ few.
          written_words sizes own.held.items words own.spare c.requires.own.which c.requires.own.long whole
          ∙ (λ k. words_held sizes (sym c.write.ensures.written k) (sym c.write.ensures.spare k));
      ordered = elim c.if-is_from_other.branch [
        | then-is_from_other w ↦ (let f = ap (λ (t : Changes). t.calls.from) w.touched-is in let t = ap (λ (t : Changes). t.calls.to) w.touched-is in let o = c.requires.room.ordered in omega (arith, f, t, o))
        | else-is_from_other w ↦ (let f = ap (λ (t : Changes). t.calls.from) (w.touched-is ∙ w.all-touched.ensures) in omega (arith, f))
      ];
      inside = elim c.if-is_from_other.branch [
        | then-is_from_other w ↦ (let t = ap (λ (t : Changes). t.calls.to) w.touched-is in let b = c.requires.room.busy in omega (arith, t, b))
        | else-is_from_other w ↦ (let t = ap (λ (t : Changes). t.calls.to) (w.touched-is ∙ w.all-touched.ensures) in omega (arith, t))
      ];
      applied = elim c.if-is_from_other.branch [
        | then-is_from_other w ↦
            row_alike sizes own room c.requires.own.which w.if-is_from_other.true (c.requires.kept.copy (let o = w.if-is_from_other.true in omega arith)) 0 sizes.processes (omega arith) room.applied.items new.applied (IsOutsideRows calls 1)
            (applied_is sizes room c.requires.room)
            (λ i inside stays. c.apply_seen-state.ensures.applied i (beside_of_one room.busy i (subst (λ (s : Span). IsOutsideRows s 1 i) (ap (λ (t : Changes). t.calls) w.touched-is) stays)) ∙ ap (λ (xs : List ℕ). slice_index xs i) c.deref_mut.ensures.value)
            c.write.new.own words c.requires.own.long whole c.write.ensures.written (λ i below. sym (applied_is sizes room1 has i below) ∙ ap (λ (xs : List ℕ). slice_index xs i) a)
        | else-is_from_other w ↦ (λ i within outside. absurd (nothing_outside calls sizes.processes 1 i (ap (λ (t : Changes). t.calls) (w.touched-is ∙ w.all-touched.ensures)) (omega (arith, within)) outside))
      ];
      reply = elim c.if-is_from_other.branch [
        | then-is_from_other w ↦
            row_alike sizes own room c.requires.own.which w.if-is_from_other.true (c.requires.kept.copy (let o = w.if-is_from_other.true in omega arith)) sizes.processes (sizes.processes * sizes.reply) (omega arith) room.reply.items new.reply (IsOutsideRows calls sizes.reply)
            (λ i below. room_reply sizes room c.requires.room i below)
            (λ i inside stays. c.apply_seen-state.ensures.reply i (subst (λ (s : Span). IsOutsideRows s sizes.reply i) (ap (λ (t : Changes). t.calls) w.touched-is) stays) ∙ ap (λ (xs : List ℕ). slice_index xs i) c.deref_mut-2.ensures.value)
            c.write.new.own words c.requires.own.long whole c.write.ensures.written (λ i below. sym (room_reply sizes room1 has i below) ∙ ap (λ (xs : List ℕ). slice_index xs i) b)
        | else-is_from_other w ↦ (λ i within outside. absurd (nothing_outside calls sizes.processes sizes.reply i (ap (λ (t : Changes). t.calls) (w.touched-is ∙ w.all-touched.ensures)) (omega (arith, within)) outside))
      ];
      state = elim c.if-is_from_other.branch [
        | then-is_from_other w ↦
            row_alike sizes own room c.requires.own.which w.if-is_from_other.true (c.requires.kept.copy (let o = w.if-is_from_other.true in omega arith)) (sizes.processes + sizes.processes * sizes.reply) sizes.state (omega arith) room.state.items new.state (IsUntouched c.if-is_from_other.touched.state)
            (λ i below. room_state sizes room c.requires.room i)
            (λ i inside stays. c.apply_seen-state.ensures.touched i (omega (arith, inside, old)) (subst (λ t. IsUntouched t i) (ap (λ (t : Changes). t.state) w.touched-is) stays) ∙ ap (λ (xs : List ℕ). slice_index xs i) c.deref_mut-3.ensures.value)
            c.write.new.own words c.requires.own.long whole c.write.ensures.written (λ i below. sym (room_state sizes room1 has i) ∙ ap (λ (xs : List ℕ). slice_index xs i) d)
        | else-is_from_other w ↦ (λ i within outside. absurd (nothing_untouched c.if-is_from_other.touched.state (ap (λ (t : Changes). t.state) (w.touched-is ∙ w.all-touched.ensures)) i (let l = c.deref_mut-3.type_inv.0 in omega (arith, l, old, within)) outside))
      ];
    }
