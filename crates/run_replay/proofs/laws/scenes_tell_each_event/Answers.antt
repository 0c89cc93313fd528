use Rattle.run_replay.proofs.Vocabulary.{Bool, Event, Language, List, Sequential, TellsEachEvent, WorldOf, [], refl, suc, world_after, zero, ℕ, ◌∷◌}
use Rattle.run_replay.proofs.laws.scenes_tell_each_event.Goals as goal

tells : {S I R : Type 0} (object : Sequential S I R) (l : Language I R) (text : S → List ℕ) (is_whole : Bool) (w : WorldOf S I R) (events : List (Event I)) → TellsEachEvent object l text is_whole w events
tells object l text is_whole w [] k = refl
tells object l text is_whole w (e ∷ es) zero = refl
tells object l text is_whole w (e ∷ es) (suc k) = tells object l text is_whole (world_after object w e) es k

pub returns : goal.returns
returns g c object is_whole w events = tells (g.O.SeqObject.sequential object) g.O.Spoken.language g.O.Spoken.state_text is_whole w events
