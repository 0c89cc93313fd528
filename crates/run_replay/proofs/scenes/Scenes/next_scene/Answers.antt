use Rattle.run_replay.proofs.Vocabulary.{Some, ap, event_lent, event_shown, events_shown, frame_shown, held_shown, map, memory_asked, option_map, rules, scene_shown, scenes_from, sym, take, world_of, ◌-◌, ◌<◌, ◌∙◌, ◌∷◌, ◌≡◌}
use Rattle.run_replay.specs.declared.frame.Scene.{Scene}
use Rattle.run_replay.proofs.Telling.{scene_taken, take_first}
use Rattle.run_replay.proofs.scenes.Scenes.next_scene.Goals.{then-self+in_ok-whole_memory, else-self}
use Rattle.run_replay.proofs.scenes.Scenes.next_scene.Goals as goal

pub returns-clause-next : goal.returns-clause-next
returns-clause-next g c =
    let sequential = g.O.SeqObject.sequential in
    let here = c.self.inside in
    let from = scenes_from (sequential here.replay.object) g.O.Spoken.language g.O.Spoken.state_text here.is_whole in
    let w = world_of here.replay in
    let v = world_of c.frame_of.new.replay in
    let event = event_shown (event_lent c.in-Some.event) in
    let rest = events_shown c.next.new.self in
    let took = c.in_ok-frame.ensures in
    let some : 0 < here.left = search rules in
    let asked : option_map (λ m. map held_shown m.items) c.if-self.memory ≡ memory_asked g.O.Spoken.language g.O.Spoken.state_text here.is_whole v =
    elim c.if-self.branch [ then-self+in_ok-whole_memory b ↦ search rules | else-self b ↦ search rules ] in
    let scene : Scene = record { frame = c.in_ok-frame.frame; memory = c.if-self.memory } in
    sym c.self.view_is ∙ ap (λ es. from w (take here.left (events_shown es))) c.in-Some.ensures.steps
    ∙ ap (from w) (take_first here.left event rest some)
    ∙ scene_taken (sequential here.replay.object) g.O.Spoken.language g.O.Spoken.state_text here.is_whole w v event (take (here.left - 1) rest) (frame_shown c.in_ok-frame.frame) _ took.frame took.world asked
    ∙ ap (λ o. Some (scene_shown scene) ∷ scenes_from (sequential o) g.O.Spoken.language g.O.Spoken.state_text here.is_whole v (take (here.left - 1) rest)) (sym took.object)
