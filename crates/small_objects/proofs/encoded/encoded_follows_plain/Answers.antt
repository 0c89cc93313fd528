use Rattle.small_objects.proofs.Vocabulary.{ap, encoded, map, refl, state_after, ◌∙◌}
use Rattle.small_objects.proofs.Reached.{after_in, follows_plain}
use Rattle.small_objects.proofs.encoded.encoded_follows_plain.Goals as goal

pub returns-clause-states : goal.returns-clause-states
returns-clause-states g c o is =
    let it = g.T.StoredObject in
    let call_in = g.T.Call.Words.decode in
    after_in (encoded (it.sequential o) (it.encode o) (it.decode o)) call_in g.T.Reply.Words.encode (it.encode o (it.sequential o).initial) is
    ∙ follows_plain (it.sequential o) call_in (it.encode o) (it.decode o) (g.met.T.StoredObject.fits o) is

pub returns-clause-replies : goal.returns-clause-replies
returns-clause-replies g c o is i =
    let it = g.T.StoredObject in
    let call_in = g.T.Call.Words.decode in
    let plain = it.sequential o in
    ap (λ words. g.T.Reply.Words.encode (plain.answer (it.decode o words) (call_in i))) (returns-clause-states g c o is)
    ∙ ap (λ state. g.T.Reply.Words.encode (plain.answer state (call_in i))) (g.met.T.StoredObject.fits o (state_after plain plain.initial (map call_in is)) (is, refl))
