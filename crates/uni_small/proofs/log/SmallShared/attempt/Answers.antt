use Rattle.uni_small.proofs.Vocabulary.{Last, None, Reading, Ready, Some, Writing, [], all_seen, arith, attempt_steps, buffer_words, get_or_default_zero, image_in, length, length-map, local_of, refl, seen_in, slice_index, spell, sym, ◌+◌, ◌∙◌, ◌≡◌, ◌≢◌}
use Rattle.uni_small.proofs.Images.{spell-length}
use Rattle.uni_small.proofs.Rooms.{room_rows, whole_all}
use Rattle.uni_small.proofs.Going.{direct_after, stage_after, of_after}
use Rattle.uni_small.proofs.Ending.{fails, is_in, goes_in, good, buffers_stay, ends_here, ends_later}
use Rattle.uni_small.proofs.log.SmallShared.attempt.Goals as goal

pub check-again-requires-clause-announced : goal.check-again-requires-clause-announced
check-again-requires-clause-announced g c =
    let first = c.gather-s.ensures.goes in
    direct_after c.args.seat.now.me c.gather-s.new.seat.me first.0 (Reading c.args.tries c.gather-s.result (spell (image_in c.args.self.now.setup.sizes c.gather-s.new.room)) (all_seen c.gather-s.new.room)) first.2 ∙ c.requires.announced

pub check-again-requires-clause-stage : goal.check-again-requires-clause-stage
check-again-requires-clause-stage g c =
    let sizes = c.args.self.now.setup.sizes in
    let room = c.gather-s.new.room in
    let first = c.gather-s.ensures.goes in (
      spell (image_in sizes room),
      (
        all_seen room,
        stage_after c.args.seat.now.me c.gather-s.new.seat.me first.0 (Reading c.args.tries c.gather-s.result (spell (image_in sizes room)) (all_seen room)) first.2,
        spell-length sizes (image_in sizes room) (room_rows sizes room c.gather-s.ensures.room),
        length-map room.seen.items seen_in ∙ c.gather-s.ensures.room.seen,
        whole_all sizes room.seen.items c.gather-s.ensures.room.invocations,
      ),
    )

pub returns-then-again-s-clause-ends : goal.returns-then-again-s-clause-ends
returns-then-again-s-clause-ends g c =
    let sizes = c.args.self.now.setup.sizes in
    let meaning = g.O.SmallObject.meaning c.args.self.now.setup.object in
    let room = c.gather-s.new.room in
    let first = c.gather-s.ensures.goes in
    let now = fails meaning sizes c.args.p c.args.tries c.gather-s.result first.0 (image_in sizes room) (room_rows sizes room c.gather-s.ensures.room) c.requires.inside (all_seen room) c.args.seat.now.me c.gather-s.new.seat.me c.check-again.new.seat.me first.2 c.check-again.result c.check-again.ensures.left c.if-again-s.true in
    ends_here sizes c.args.tries (first.0 + 1) (Ready (c.args.tries + 1)) c.args.own.now c.args.seat.now.me c.check-again.new.seat.me now c.requires.own (attempt_steps sizes) None (let f = first.1 in omega arith) tt refl

pub returns-then-again-s-clause-own : goal.returns-then-again-s-clause-own
returns-then-again-s-clause-own g c =
    let sizes = c.args.self.now.setup.sizes in
    let meaning = g.O.SmallObject.meaning c.args.self.now.setup.object in
    let room = c.gather-s.new.room in
    let first = c.gather-s.ensures.goes in
    let now = fails meaning sizes c.args.p c.args.tries c.gather-s.result first.0 (image_in sizes room) (room_rows sizes room c.gather-s.ensures.room) c.requires.inside (all_seen room) c.args.seat.now.me c.gather-s.new.seat.me c.check-again.new.seat.me first.2 c.check-again.result c.check-again.ensures.left c.if-again-s.true in
    buffers_stay sizes c.args.tries (first.0 + 1) (Ready (c.args.tries + 1)) c.args.own.now c.args.seat.now.me c.check-again.new.seat.me now c.requires.own

pub returns-then-index-number-clause-ends : goal.returns-then-index-number-clause-ends
returns-then-index-number-clause-ends g c =
    let sizes = c.args.self.now.setup.sizes in
    let meaning = g.O.SmallObject.meaning c.args.self.now.setup.object in
    let room = c.gather-s.new.room in
    let first = c.gather-s.ensures.goes in
    let here : slice_index room.applied.items c.args.p ≡ c.index.result.now = sym (c.index.ensures ∙ get_or_default_zero room.applied.items c.args.p c.index.result.now (let r = c.gather-s.ensures.room.applied in let i = c.requires.inside in omega arith)) in
    let now = is_in meaning sizes c.args.p c.args.tries c.gather-s.result first.0 (image_in sizes room) (room_rows sizes room c.gather-s.ensures.room) c.requires.inside (all_seen room) c.args.seat.now.me c.gather-s.new.seat.me c.check-again.new.seat.me first.2 c.check-again.result c.check-again.ensures.left c.if-again-s.false (here ∙ c.if-index-number.true ∙ c.requires.number) in
    ends_here sizes c.args.tries (first.0 + 1) (Last c.gather-s.result []) c.args.own.now c.args.seat.now.me c.check-again.new.seat.me now c.requires.own (attempt_steps sizes) (Some c.gather-s.result) (let f = first.1 in omega arith) c.gather-s.ensures.named.0 refl

pub returns-then-index-number-clause-own : goal.returns-then-index-number-clause-own
returns-then-index-number-clause-own g c =
    let sizes = c.args.self.now.setup.sizes in
    let meaning = g.O.SmallObject.meaning c.args.self.now.setup.object in
    let room = c.gather-s.new.room in
    let first = c.gather-s.ensures.goes in
    let here : slice_index room.applied.items c.args.p ≡ c.index.result.now = sym (c.index.ensures ∙ get_or_default_zero room.applied.items c.args.p c.index.result.now (let r = c.gather-s.ensures.room.applied in let i = c.requires.inside in omega arith)) in
    let now = is_in meaning sizes c.args.p c.args.tries c.gather-s.result first.0 (image_in sizes room) (room_rows sizes room c.gather-s.ensures.room) c.requires.inside (all_seen room) c.args.seat.now.me c.gather-s.new.seat.me c.check-again.new.seat.me first.2 c.check-again.result c.check-again.ensures.left c.if-again-s.false (here ∙ c.if-index-number.true ∙ c.requires.number) in
    buffers_stay sizes c.args.tries (first.0 + 1) (Last c.gather-s.result []) c.args.own.now c.args.seat.now.me c.check-again.new.seat.me now c.requires.own

pub bring-requires-clause-announced : goal.bring-requires-clause-announced
bring-requires-clause-announced g c =
    let sizes = c.args.self.now.setup.sizes in
    let meaning = g.O.SmallObject.meaning c.args.self.now.setup.object in
    let room = c.gather-s.new.room in
    let first = c.gather-s.ensures.goes in
    let here : slice_index room.applied.items c.args.p ≡ c.index.result.now = sym (c.index.ensures ∙ get_or_default_zero room.applied.items c.args.p c.index.result.now (let r = c.gather-s.ensures.room.applied in let i = c.requires.inside in omega arith)) in
    let other : slice_index room.applied.items c.args.p ≢ length (local_of c.args.seat.now.me).own + 1 = (λ own. c.if-index-number.false (sym here ∙ own ∙ sym c.requires.number)) in
    let now = goes_in meaning sizes c.args.p c.args.tries c.gather-s.result first.0 (image_in sizes room) (room_rows sizes room c.gather-s.ensures.room) c.requires.inside (all_seen room) c.args.seat.now.me c.gather-s.new.seat.me c.check-again.new.seat.me first.2 c.check-again.result c.check-again.ensures.left c.if-again-s.false other in
    direct_after c.args.seat.now.me c.check-again.new.seat.me (first.0 + 1) (Writing c.args.tries c.gather-s.result (image_in sizes room) (all_seen room) 0) now ∙ c.requires.announced

pub bring-requires-clause-own : goal.bring-requires-clause-own
bring-requires-clause-own g c =
    let sizes = c.args.self.now.setup.sizes in
    let meaning = g.O.SmallObject.meaning c.args.self.now.setup.object in
    let room = c.gather-s.new.room in
    let first = c.gather-s.ensures.goes in
    let here : slice_index room.applied.items c.args.p ≡ c.index.result.now = sym (c.index.ensures ∙ get_or_default_zero room.applied.items c.args.p c.index.result.now (let r = c.gather-s.ensures.room.applied in let i = c.requires.inside in omega arith)) in
    let other : slice_index room.applied.items c.args.p ≢ length (local_of c.args.seat.now.me).own + 1 = (λ own. c.if-index-number.false (sym here ∙ own ∙ sym c.requires.number)) in
    let now = goes_in meaning sizes c.args.p c.args.tries c.gather-s.result first.0 (image_in sizes room) (room_rows sizes room c.gather-s.ensures.room) c.requires.inside (all_seen room) c.args.seat.now.me c.gather-s.new.seat.me c.check-again.new.seat.me first.2 c.check-again.result c.check-again.ensures.left c.if-again-s.false other in
    buffers_stay sizes c.args.tries (first.0 + 1) (Writing c.args.tries c.gather-s.result (image_in sizes room) (all_seen room) 0) c.args.own.now c.args.seat.now.me c.check-again.new.seat.me now c.requires.own

pub returns-clause-ends : goal.returns-clause-ends
returns-clause-ends g c =
    let sizes = c.args.self.now.setup.sizes in
    let meaning = g.O.SmallObject.meaning c.args.self.now.setup.object in
    let room = c.gather-s.new.room in
    let first = c.gather-s.ensures.goes in
    let here : slice_index room.applied.items c.args.p ≡ c.index.result.now = sym (c.index.ensures ∙ get_or_default_zero room.applied.items c.args.p c.index.result.now (let r = c.gather-s.ensures.room.applied in let i = c.requires.inside in omega arith)) in
    let other : slice_index room.applied.items c.args.p ≢ length (local_of c.args.seat.now.me).own + 1 = (λ own. c.if-index-number.false (sym here ∙ own ∙ sym c.requires.number)) in
    let now = goes_in meaning sizes c.args.p c.args.tries c.gather-s.result first.0 (image_in sizes room) (room_rows sizes room c.gather-s.ensures.room) c.requires.inside (all_seen room) c.args.seat.now.me c.gather-s.new.seat.me c.check-again.new.seat.me first.2 c.check-again.result c.check-again.ensures.left c.if-again-s.false other in
    ends_later sizes c.args.tries (first.0 + 1) (Writing c.args.tries c.gather-s.result (image_in sizes room) (all_seen room) 0) c.args.own.now c.args.seat.now.me c.check-again.new.seat.me now c.requires.own c.bring.new.seat.me (buffer_words sizes + 1) (attempt_steps sizes) c.bring.result c.bring.new.own c.bring.ensures.ends (let f = first.1 in omega arith)

pub bring-requires-clause-of : goal.bring-requires-clause-of
bring-requires-clause-of g c =
    let sizes = c.args.self.now.setup.sizes in
    let meaning = g.O.SmallObject.meaning c.args.self.now.setup.object in
    let room = c.gather-s.new.room in
    let first = c.gather-s.ensures.goes in
    let here : slice_index room.applied.items c.args.p ≡ c.index.result.now = sym (c.index.ensures ∙ get_or_default_zero room.applied.items c.args.p c.index.result.now (let r = c.gather-s.ensures.room.applied in let i = c.requires.inside in omega arith)) in
    let other : slice_index room.applied.items c.args.p ≢ length (local_of c.args.seat.now.me).own + 1 = (λ own. c.if-index-number.false (sym here ∙ own ∙ sym c.requires.number)) in
    let now = goes_in meaning sizes c.args.p c.args.tries c.gather-s.result first.0 (image_in sizes room) (room_rows sizes room c.gather-s.ensures.room) c.requires.inside (all_seen room) c.args.seat.now.me c.gather-s.new.seat.me c.check-again.new.seat.me first.2 c.check-again.result c.check-again.ensures.left c.if-again-s.false other in
    of_after c.args.seat.now.me c.check-again.new.seat.me (first.0 + 1) (Writing c.args.tries c.gather-s.result (image_in sizes room) (all_seen room) 0) now c.requires.of

pub bring-requires-clause-stage : goal.bring-requires-clause-stage
bring-requires-clause-stage g c =
    let sizes = c.args.self.now.setup.sizes in
    let meaning = g.O.SmallObject.meaning c.args.self.now.setup.object in
    let room = c.gather-s.new.room in
    let first = c.gather-s.ensures.goes in
    let here : slice_index room.applied.items c.args.p ≡ c.index.result.now = sym (c.index.ensures ∙ get_or_default_zero room.applied.items c.args.p c.index.result.now (let r = c.gather-s.ensures.room.applied in let i = c.requires.inside in omega arith)) in
    let other : slice_index room.applied.items c.args.p ≢ length (local_of c.args.seat.now.me).own + 1 = (λ own. c.if-index-number.false (sym here ∙ own ∙ sym c.requires.number)) in
    let now = goes_in meaning sizes c.args.p c.args.tries c.gather-s.result first.0 (image_in sizes room) (room_rows sizes room c.gather-s.ensures.room) c.requires.inside (all_seen room) c.args.seat.now.me c.gather-s.new.seat.me c.check-again.new.seat.me first.2 c.check-again.result c.check-again.ensures.left c.if-again-s.false other in
    stage_after c.args.seat.now.me c.check-again.new.seat.me (first.0 + 1) (Writing c.args.tries c.gather-s.result (image_in sizes room) (all_seen room) 0) now

pub bring-requires-clause-good : goal.bring-requires-clause-good
bring-requires-clause-good g c =
    let sizes = c.args.self.now.setup.sizes in
    let meaning = g.O.SmallObject.meaning c.args.self.now.setup.object in
    let room = c.gather-s.new.room in
    let first = c.gather-s.ensures.goes in
    good meaning sizes c.args.p c.args.tries c.gather-s.result first.0 (image_in sizes room) (room_rows sizes room c.gather-s.ensures.room) c.requires.inside (all_seen room) c.args.seat.now.me c.gather-s.new.seat.me c.check-again.new.seat.me first.2 c.check-again.result c.check-again.ensures.left c.if-again-s.false
