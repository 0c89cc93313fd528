use Rattle.uni_small.proofs.Vocabulary.{arith, length, local_of, refl, with_local, ◌+◌, ◌≡◌}
use Rattle.uni_small.proofs.Lists.{same_list}
use Rattle.uni_small.proofs.log.SmallShared.reread_all.Goals as goal

pub loop-i-init : goal.loop-i-init
loop-i-init g c =
    let me = c.args.seat.now.me in
    let same : (local_of me).steps ≡ (local_of me).steps + 0 = omega arith in
    (refl, refl, (λ k. (with_local me.0 (record (local_of me) { steps = same k }), me.1)), (λ j less. absurd (omega arith)))

pub returns-clause-held : goal.returns-clause-held
returns-clause-held g c =
    let end : c.loop-k.k ≡ c.buffer_words-words.result = (let t = c.loop-k-test.false in let e = c.loop-k.auto.k-end in omega arith) in
    let long : length c.loop-k.held ≡ length (local_of c.args.seat.now.me).held = (let a = c.loop-k.auto.held in let b = c.loop-i.auto.held in let d = c.requires.long in let e = c.requires.known in omega arith) in
    same_list c.loop-k.held (local_of c.args.seat.now.me).held long (λ j less. c.loop-k.invariant.3 j (let w = c.buffer_words-words.ensures in let d = c.requires.known in let h = long in let n = end in omega arith))
