use Rattle.uni_core.proofs.Vocabulary.{HasLegalLog-held, HasOneList-held, IsBounded-held}
use Rattle.uni_core.proofs.Reading.{IsWorld-now, numbers_fit}
use Rattle.uni_core.proofs.world.World.shape.Goals as goal

pub returns-clause-sound : goal.returns-clause-sound
returns-clause-sound g c =
    let sound = (IsWorld-now _ _ c.self.view_is g.O.SeqObject.sequential c.self.invariant).sound in
    (sound.0, sound.1, sound.2)

pub returns-clause-helping : goal.returns-clause-helping
returns-clause-helping g c = (IsWorld-now _ _ c.self.view_is g.O.SeqObject.sequential c.self.invariant).sound

pub returns-clause-list : goal.returns-clause-list
returns-clause-list g c =
    let sound = (IsWorld-now _ _ c.self.view_is g.O.SeqObject.sequential c.self.invariant).sound in
    HasOneList-held _ _ (sound.0, sound.1, sound.2)

pub returns-clause-log : goal.returns-clause-log
returns-clause-log g c =
    let sound = (IsWorld-now _ _ c.self.view_is g.O.SeqObject.sequential c.self.invariant).sound in
    HasLegalLog-held _ _ (sound.0, sound.1, sound.2)

pub returns-clause-fits : goal.returns-clause-fits
returns-clause-fits g c = numbers_fit _ _ (IsWorld-now _ _ c.self.view_is g.O.SeqObject.sequential c.self.invariant)

pub returns-clause-bounded : goal.returns-clause-bounded
returns-clause-bounded g c =
    let world = IsWorld-now _ _ c.self.view_is g.O.SeqObject.sequential c.self.invariant in
    IsBounded-held _ _ world.counts world.sound
