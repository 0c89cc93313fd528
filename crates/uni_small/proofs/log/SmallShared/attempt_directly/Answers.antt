use Rattle.uni_small.proofs.Vocabulary.{Idle, Reading, Writing, [], all_seen, ap, arith, attempt_steps, begun, buffer_words, image_in, length, length-map, List, local_of, refl, Returned, seen_in, spell, ◌+◌, ◌∙◌}
use Rattle.uni_small.proofs.Images.{spell-length}
use Rattle.uni_small.proofs.Rooms.{room_rows, whole_all}
use Rattle.uni_small.proofs.Going.{stage_after}
use Rattle.uni_small.proofs.Ending.{own_buffers, own_calls_are, own_direct, own_fails, own_goes_in, own_good, own_of, tries_here, tries_later}
use Rattle.uni_small.proofs.log.SmallShared.attempt_directly.Goals as goal

pub check_own-again-requires-clause-of : goal.check_own-again-requires-clause-of
check_own-again-requires-clause-of g c =
    let sizes = c.args.self.now.setup.sizes in
    let meaning = g.O.SmallObject.meaning c.args.self.now.setup.object in
    let me = c.args.seat.now.me in
    let me0 = c.begin-s.new.seat.me in
    let me1 = c.survey.new.seat.me in
    let s = c.begin-s.result in
    let room = c.survey.new.room in
    let seen = all_seen room in
    let first = c.survey.ensures.goes in
    let copy = begun sizes c.args.p (local_of me).held s in
    let rows = room_rows sizes room c.survey.ensures.room in
    own_of sizes s first.0 copy [] (Reading 0 s (spell (image_in sizes room)) seen) me me0 me1 c.begin-s.ensures.left first.2 c.requires.of

pub check_own-again-requires-clause-direct : goal.check_own-again-requires-clause-direct
check_own-again-requires-clause-direct g c =
    let sizes = c.args.self.now.setup.sizes in
    let meaning = g.O.SmallObject.meaning c.args.self.now.setup.object in
    let me = c.args.seat.now.me in
    let me0 = c.begin-s.new.seat.me in
    let me1 = c.survey.new.seat.me in
    let s = c.begin-s.result in
    let room = c.survey.new.room in
    let seen = all_seen room in
    let first = c.survey.ensures.goes in
    let copy = begun sizes c.args.p (local_of me).held s in
    let rows = room_rows sizes room c.survey.ensures.room in
    own_direct sizes s first.0 copy [] (Reading 0 s (spell (image_in sizes room)) seen) me me0 me1 c.begin-s.ensures.left first.2

pub check_own-again-requires-clause-stage : goal.check_own-again-requires-clause-stage
check_own-again-requires-clause-stage g c =
    let sizes = c.args.self.now.setup.sizes in
    let meaning = g.O.SmallObject.meaning c.args.self.now.setup.object in
    let me = c.args.seat.now.me in
    let me0 = c.begin-s.new.seat.me in
    let me1 = c.survey.new.seat.me in
    let s = c.begin-s.result in
    let room = c.survey.new.room in
    let seen = all_seen room in
    let first = c.survey.ensures.goes in
    let copy = begun sizes c.args.p (local_of me).held s in
    let rows = room_rows sizes room c.survey.ensures.room in (
      spell (image_in sizes room),
      (
        seen,
        stage_after me0 me1 first.0 (Reading 0 s (spell (image_in sizes room)) seen) first.2,
        spell-length sizes (image_in sizes room) rows,
        length-map room.seen.items seen_in ∙ c.survey.ensures.room.seen,
        whole_all sizes room.seen.items c.survey.ensures.room.invocations,
      ),
    )

pub returns-then-again-s-clause-ends : goal.returns-then-again-s-clause-ends
returns-then-again-s-clause-ends g c =
    let sizes = c.args.self.now.setup.sizes in
    let meaning = g.O.SmallObject.meaning c.args.self.now.setup.object in
    let me = c.args.seat.now.me in
    let me0 = c.begin-s.new.seat.me in
    let me1 = c.survey.new.seat.me in
    let s = c.begin-s.result in
    let room = c.survey.new.room in
    let seen = all_seen room in
    let first = c.survey.ensures.goes in
    let copy = begun sizes c.args.p (local_of me).held s in
    let rows = room_rows sizes room c.survey.ensures.room in
    let me2 = c.check_own-again.new.seat.me in
    let inv = c.args.invocation.now in
    let now = own_fails meaning sizes s first.0 (image_in sizes room) rows seen me0 me1 me2 first.2 c.check_own-again.result c.check_own-again.ensures.left c.if-again-s.true in
    tries_here sizes s (first.0 + 1) copy inv (Idle []) me me0 me2 c.begin-s.ensures.left now c.args.own.now (attempt_steps sizes) c.requires.own refl (let f = first.1 in omega arith)

pub returns-then-again-s-clause-own : goal.returns-then-again-s-clause-own
returns-then-again-s-clause-own g c =
    let sizes = c.args.self.now.setup.sizes in
    let meaning = g.O.SmallObject.meaning c.args.self.now.setup.object in
    let me = c.args.seat.now.me in
    let me0 = c.begin-s.new.seat.me in
    let me1 = c.survey.new.seat.me in
    let s = c.begin-s.result in
    let room = c.survey.new.room in
    let seen = all_seen room in
    let first = c.survey.ensures.goes in
    let copy = begun sizes c.args.p (local_of me).held s in
    let rows = room_rows sizes room c.survey.ensures.room in
    let me2 = c.check_own-again.new.seat.me in
    let inv = c.args.invocation.now in
    let now = own_fails meaning sizes s first.0 (image_in sizes room) rows seen me0 me1 me2 first.2 c.check_own-again.result c.check_own-again.ensures.left c.if-again-s.true in
    own_buffers sizes s (first.0 + 1) copy inv (Idle []) me me0 me2 c.begin-s.ensures.left now c.args.own.now c.requires.own

pub bring_own-requires-clause-of : goal.bring_own-requires-clause-of
bring_own-requires-clause-of g c =
    let sizes = c.args.self.now.setup.sizes in
    let meaning = g.O.SmallObject.meaning c.args.self.now.setup.object in
    let me = c.args.seat.now.me in
    let me0 = c.begin-s.new.seat.me in
    let me1 = c.survey.new.seat.me in
    let s = c.begin-s.result in
    let room = c.survey.new.room in
    let seen = all_seen room in
    let first = c.survey.ensures.goes in
    let copy = begun sizes c.args.p (local_of me).held s in
    let rows = room_rows sizes room c.survey.ensures.room in
    let me2 = c.check_own-again.new.seat.me in
    let inv = c.args.invocation.now in
    let now = own_goes_in meaning sizes s first.0 (image_in sizes room) rows seen me0 me1 me2 first.2 c.check_own-again.result c.check_own-again.ensures.left c.if-again-s.false in
    let stage = Writing 0 s (image_in sizes room) seen 0 in
    own_of sizes s (first.0 + 1) copy inv stage me me0 me2 c.begin-s.ensures.left now c.requires.of

pub bring_own-requires-clause-direct : goal.bring_own-requires-clause-direct
bring_own-requires-clause-direct g c =
    let sizes = c.args.self.now.setup.sizes in
    let meaning = g.O.SmallObject.meaning c.args.self.now.setup.object in
    let me = c.args.seat.now.me in
    let me0 = c.begin-s.new.seat.me in
    let me1 = c.survey.new.seat.me in
    let s = c.begin-s.result in
    let room = c.survey.new.room in
    let seen = all_seen room in
    let first = c.survey.ensures.goes in
    let copy = begun sizes c.args.p (local_of me).held s in
    let rows = room_rows sizes room c.survey.ensures.room in
    let me2 = c.check_own-again.new.seat.me in
    let inv = c.args.invocation.now in
    let now = own_goes_in meaning sizes s first.0 (image_in sizes room) rows seen me0 me1 me2 first.2 c.check_own-again.result c.check_own-again.ensures.left c.if-again-s.false in
    let stage = Writing 0 s (image_in sizes room) seen 0 in
    own_direct sizes s (first.0 + 1) copy inv stage me me0 me2 c.begin-s.ensures.left now

pub bring_own-requires-clause-calls : goal.bring_own-requires-clause-calls
bring_own-requires-clause-calls g c =
    let sizes = c.args.self.now.setup.sizes in
    let meaning = g.O.SmallObject.meaning c.args.self.now.setup.object in
    let me = c.args.seat.now.me in
    let me0 = c.begin-s.new.seat.me in
    let me1 = c.survey.new.seat.me in
    let s = c.begin-s.result in
    let room = c.survey.new.room in
    let seen = all_seen room in
    let first = c.survey.ensures.goes in
    let copy = begun sizes c.args.p (local_of me).held s in
    let rows = room_rows sizes room c.survey.ensures.room in
    let me2 = c.check_own-again.new.seat.me in
    let inv = c.args.invocation.now in
    let now = own_goes_in meaning sizes s first.0 (image_in sizes room) rows seen me0 me1 me2 first.2 c.check_own-again.result c.check_own-again.ensures.left c.if-again-s.false in
    let stage = Writing 0 s (image_in sizes room) seen 0 in
    let same = ap (λ (xs : List Returned). length xs) (own_calls_are sizes s (first.0 + 1) copy inv stage me me0 me2 c.begin-s.ensures.left now) in
    let few = c.requires.calls in omega arith

pub bring_own-requires-clause-stage : goal.bring_own-requires-clause-stage
bring_own-requires-clause-stage g c =
    let sizes = c.args.self.now.setup.sizes in
    let meaning = g.O.SmallObject.meaning c.args.self.now.setup.object in
    let me = c.args.seat.now.me in
    let me0 = c.begin-s.new.seat.me in
    let me1 = c.survey.new.seat.me in
    let s = c.begin-s.result in
    let room = c.survey.new.room in
    let seen = all_seen room in
    let first = c.survey.ensures.goes in
    let copy = begun sizes c.args.p (local_of me).held s in
    let rows = room_rows sizes room c.survey.ensures.room in
    let me2 = c.check_own-again.new.seat.me in
    let inv = c.args.invocation.now in
    let now = own_goes_in meaning sizes s first.0 (image_in sizes room) rows seen me0 me1 me2 first.2 c.check_own-again.result c.check_own-again.ensures.left c.if-again-s.false in
    let stage = Writing 0 s (image_in sizes room) seen 0 in
    stage_after me0 me2 (first.0 + 1) stage now

pub bring_own-requires-clause-good : goal.bring_own-requires-clause-good
bring_own-requires-clause-good g c =
    let sizes = c.args.self.now.setup.sizes in
    let meaning = g.O.SmallObject.meaning c.args.self.now.setup.object in
    let me = c.args.seat.now.me in
    let me0 = c.begin-s.new.seat.me in
    let me1 = c.survey.new.seat.me in
    let s = c.begin-s.result in
    let room = c.survey.new.room in
    let seen = all_seen room in
    let first = c.survey.ensures.goes in
    let copy = begun sizes c.args.p (local_of me).held s in
    let rows = room_rows sizes room c.survey.ensures.room in
    let me2 = c.check_own-again.new.seat.me in
    let inv = c.args.invocation.now in
    own_good meaning sizes s first.0 (image_in sizes room) rows seen me0 me1 me2 first.2 c.check_own-again.result c.check_own-again.ensures.left c.if-again-s.false

pub bring_own-requires-clause-own : goal.bring_own-requires-clause-own
bring_own-requires-clause-own g c =
    let sizes = c.args.self.now.setup.sizes in
    let meaning = g.O.SmallObject.meaning c.args.self.now.setup.object in
    let me = c.args.seat.now.me in
    let me0 = c.begin-s.new.seat.me in
    let me1 = c.survey.new.seat.me in
    let s = c.begin-s.result in
    let room = c.survey.new.room in
    let seen = all_seen room in
    let first = c.survey.ensures.goes in
    let copy = begun sizes c.args.p (local_of me).held s in
    let rows = room_rows sizes room c.survey.ensures.room in
    let me2 = c.check_own-again.new.seat.me in
    let inv = c.args.invocation.now in
    let now = own_goes_in meaning sizes s first.0 (image_in sizes room) rows seen me0 me1 me2 first.2 c.check_own-again.result c.check_own-again.ensures.left c.if-again-s.false in
    let stage = Writing 0 s (image_in sizes room) seen 0 in
    own_buffers sizes s (first.0 + 1) copy inv stage me me0 me2 c.begin-s.ensures.left now c.args.own.now c.requires.own

pub returns-clause-ends : goal.returns-clause-ends
returns-clause-ends g c =
    let sizes = c.args.self.now.setup.sizes in
    let meaning = g.O.SmallObject.meaning c.args.self.now.setup.object in
    let me = c.args.seat.now.me in
    let me0 = c.begin-s.new.seat.me in
    let me1 = c.survey.new.seat.me in
    let s = c.begin-s.result in
    let room = c.survey.new.room in
    let seen = all_seen room in
    let first = c.survey.ensures.goes in
    let copy = begun sizes c.args.p (local_of me).held s in
    let rows = room_rows sizes room c.survey.ensures.room in
    let me2 = c.check_own-again.new.seat.me in
    let inv = c.args.invocation.now in
    let now = own_goes_in meaning sizes s first.0 (image_in sizes room) rows seen me0 me1 me2 first.2 c.check_own-again.result c.check_own-again.ensures.left c.if-again-s.false in
    let stage = Writing 0 s (image_in sizes room) seen 0 in
    tries_later sizes s (first.0 + 1) copy inv stage me me0 me2 c.begin-s.ensures.left now c.bring_own.new.seat.me (buffer_words sizes + 1) (attempt_steps sizes) c.bring_own.result c.bring_own.new.own c.bring_own.ensures.ends (let f = first.1 in omega arith)
