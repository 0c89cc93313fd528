use Rattle.small_objects.proofs.Vocabulary.{sym, ◌∙◌}
use Rattle.small_objects.proofs.Reached.{reached_is}
use Rattle.small_objects.proofs.encoded.EncodedSmallObject.apply.Goals as goal

pub apply-told-requires : goal.apply-told-requires
apply-told-requires g c =
    let o = c.args.self.now.object in
    let it = g.T.StoredObject in
    let fits = g.met.T.StoredObject.fits o in
    let was = reached_is (it.sequential o) g.T.Call.Words.decode (it.encode o) (it.decode o) fits g.T.Reply.Words.encode
    c.args.state.now c.requires.reached in
    record { reached = (was.0.0, was.0.1 ∙ sym c.load-stored.ensures.state) }
