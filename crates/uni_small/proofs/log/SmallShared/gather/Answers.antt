use Rattle.uni_small.proofs.Vocabulary.{Reading, [], all_seen, arith, begun, image_in, local_of, spell, ◌+◌}
use Rattle.uni_small.proofs.Going.{goes_more}
use Rattle.uni_small.proofs.log.SmallShared.gather.Goals as goal

pub returns-clause-goes : goal.returns-clause-goes
returns-clause-goes g c =
    let me = c.args.seat.now.me in
    let t = c.args.tries in
    let s = c.start-s.result in
    let sizes = c.args.self.now.setup.sizes in
    let room = c.survey.new.room in
    let seen = c.survey.ensures.goes in (
      1 + seen.0,
      (let a = seen.1 in omega arith),
      goes_more me c.start-s.new.seat.me 1 (Reading t s (begun sizes c.args.p (local_of me).held s) []) c.start-s.ensures.left c.survey.new.seat.me seen.0 (Reading t s (spell (image_in sizes room)) (all_seen room)) seen.2,
    )
