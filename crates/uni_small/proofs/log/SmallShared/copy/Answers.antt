use Rattle.uni_small.proofs.Vocabulary.{Reading, [], ap, arith, buffer_in, image_in, spell, sym, words_held, ◌%◌, ◌∙◌, ◌≡◌}
use Rattle.uni_small.proofs.Going.{begun_own, goes_zero}
use Rattle.uni_small.proofs.log.SmallShared.copy.Goals as goal

pub returns-then-room-b-clause-goes : goal.returns-then-room-b-clause-goes
returns-then-room-b-clause-goes g c =
    let me = c.args.seat.now.me in
    let t = c.args.tries in
    let s = c.args.s in
    let sizes = c.args.self.now.setup.sizes in
    let words = begun_own sizes c.args.p c.args.own.now.held.items s (let e = c.if-b-p.false in omega arith) ∙ sym c.take_copy.ensures.copy in
    (0, omega arith, goes_zero me (Reading t s (spell (image_in sizes c.take_copy.new.room)) []) (c.requires.stage ∙ ap (λ xs. Reading t s xs []) words))

pub returns-else-room-b-clause-goes : goal.returns-else-room-b-clause-goes
returns-else-room-b-clause-goes g c =
    let me = c.args.seat.now.me in
    let t = c.args.tries in
    let s = c.args.s in
    let sizes = c.args.self.now.setup.sizes in
    let held = c.args.own.now.held.items in
    let room = c.args.room.now in
    let of : buffer_in s % 2 ≡ room.of = (let e = c.if-room-b.false in omega arith) in
    let words = begun_own sizes c.args.p held s (let e = c.if-b-p.false in omega arith) ∙ ap (words_held sizes held) of ∙ sym (c.requires.kept.copy (omega arith)) in
    (0, omega arith, goes_zero me (Reading t s (spell (image_in sizes room)) []) (c.requires.stage ∙ ap (λ xs. Reading t s xs []) words))
