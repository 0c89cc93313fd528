use Rattle.std.proofs.Common.{◌++◌, ◌∷◌, ◌∙◌, [], ap, map, sym}
use Rattle.std.proofs.lemmas.List.{map-append}
use Rattle.history_text.specs.Told.{events_of}
use Rattle.std.specs.Vec.Iter.{into_iter_items}
use Rattle.history_text.specs.Turns.{turn_at, turn_in}
use Rattle.history_text.proofs.Telling.{events-append}
use Rattle.history_text.proofs.Turning.{goes_on, if_none}
use Rattle.history_text.proofs.history.history_of.Goals as goal

pub loop-placed-preserved : goal.loop-placed-preserved
loop-placed-preserved g c =
    let told = c.in-Some.placed.told in
    let before = c.loop-placed.yielded in record {
      events = c.in_ok-add.ensures ∙ ap (λ es. es ++ events_of (told ∷ [])) c.loop-placed.invariant.events
          ∙ sym (events-append (map (λ placed. placed.told) before) (told ∷ []))
          ∙ ap events_of (sym (map-append (λ placed. placed.told) before (c.in-Some.placed ∷ [])));
      turns = λ p. c.loop-placed.invariant.turns p
          ∙ ap (λ l. turn_in p (turn_at c.loop-placed.turns.turns.items p) (map (λ placed. placed.told) l)) c.in-Some.ensures.steps.0
          ∙ goes_on p _ _ told (map (λ placed. placed.told) (into_iter_items c.next.new.self)) (if_none _ _ c.in_ok-reason.ensures.taken c.in_default.not-Some p);
    }
