use Rattle.uni_small.proofs.Vocabulary.{All, GoesBy, HasInvocation, IsQuietOutside, List, Reading, Seen, [], ap, arith, image_in, joined, length, map, seen_in, spell, subst, sym, with_items_is, ℕ, ◌++◌, ◌+◌, ◌∙◌, ◌≡◌}
use Rattle.std.specs.Vec.{with_items}
use Rattle.uni_small.proofs.Going.{stage_after, goes_more}
use Rattle.uni_small.proofs.Images.{spell-length}
use Rattle.uni_small.proofs.Rooms.{room_rows}
use Rattle.uni_small.proofs.log.SmallShared.survey.Goals as goal

pub scan-room-requires-clause-stage : goal.scan-room-requires-clause-stage
scan-room-requires-clause-stage g c =
    let t = c.args.tries in
    let s = c.args.s in
    let sizes = c.args.self.now.setup.sizes in
    let room = c.copy.new.room in
    let copied = c.copy.ensures.goes in
    let at = stage_after c.args.seat.now.me c.copy.new.seat.me copied.0 (Reading t s (spell (image_in sizes room)) []) copied.2 in
    let rest = joined (image_in sizes room).reply ++ room.state.items in
    let whole : spell (image_in sizes room) ≡ c.deref.result.now ++ rest = ap (λ xs. xs ++ rest) (sym c.deref.ensures.value) in (
      rest,
      at ∙ ap (λ xs. Reading t s xs []) whole,
      ap (λ (xs : List ℕ). length xs) (sym whole) ∙ spell-length sizes (image_in sizes room) (room_rows sizes room c.copy.ensures.room),
    )

pub returns-clause-goes : goal.returns-clause-goes
returns-clause-goes g c =
    let me = c.args.seat.now.me in
    let t = c.args.tries in
    let s = c.args.s in
    let sizes = c.args.self.now.setup.sizes in
    let room = c.copy.new.room in
    let copied = c.copy.ensures.goes in
    let second = Reading t s (spell (image_in sizes room)) [] in
    let at = stage_after me c.copy.new.seat.me copied.0 second copied.2 in
    let scanned = c.scan-room.ensures.goes (spell (image_in sizes room)) at in
    let ws = with_items_is (with_items room.seen c.forget.new.seen) c.scan-room.new.seen (c.scan-room.auto.seen ∙ c.deref_mut-2.ensures.len) in
    let here = ap (λ xs. Reading t s (spell (image_in sizes room)) (map seen_in xs)) (sym ws) in (
      copied.0 + scanned.0,
      (let a = copied.1 in let b = scanned.1 in omega arith),
      subst (λ st. GoesBy me (copied.0 + scanned.0) st c.scan-room.new.seat.me) here
          (goes_more me c.copy.new.seat.me copied.0 second copied.2 c.scan-room.new.seat.me scanned.0 (Reading t s (spell (image_in sizes room)) (map seen_in c.scan-room.new.seen)) scanned.2),
    )

pub returns-clause-room : goal.returns-clause-room
returns-clause-room g c =
    let was = c.copy.ensures.room in
    let seen = c.scan-room.new.seen in
    let first = with_items_is c.copy.new.room.seen c.forget.new.seen (c.forget.auto.seen ∙ c.deref_mut.ensures.len) in
    let items = with_items_is (with_items c.copy.new.room.seen c.forget.new.seen) seen (c.scan-room.auto.seen ∙ c.deref_mut-2.ensures.len) in
    record {
      applied = was.applied;
      reply = was.reply;
      state = was.state;
      seen = ap (λ (xs : List Seen). length xs) items ∙ c.scan-room.auto.seen ∙ ap (λ (xs : List Seen). length xs) (c.deref_mut-2.ensures.value ∙ first) ∙ c.forget.auto.seen ∙ ap (λ (xs : List Seen). length xs) c.deref_mut.ensures.value ∙ was.seen;
      invocations = subst (All (HasInvocation c.args.self.now.setup.sizes)) (sym items) c.scan-room.ensures.room;
      saved = was.saved;
      ordered = c.scan-room.ensures.busy.0;
      busy = c.scan-room.ensures.busy.1;
      quiet = subst (λ xs. IsQuietOutside c.scan-room.result (map seen_in xs)) (sym items) c.scan-room.ensures.quiet;
    }
