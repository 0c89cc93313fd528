use Rattle.std.proofs.Common.{ap, sym, ◌∙◌, ◌++◌, ◌∷◌, []}
use Rattle.std.proofs.Math.ListN.{get_or, set}
use Rattle.std.specs.List.{each_same}
use Rattle.parted_map.proofs.Places.{put-first, put-none}
use Rattle.parted_map.proofs.Part.with.Goals as goal
use Rattle.parted_map.proofs.Part.with.Goals.{in-Some, in-None+in_ok-clone-in-None+in_ok-push-in-None}

pub returns : goal.returns
returns c =
    let part = c.args.self.now in
    let number = c.args.number in
    let copied = each_same c.self.inside.pairs.items c.in_ok-pairs.pairs.items c.in_ok-pairs.ensures.cases.0 ∙ c.self.view_is in
    elim c.match-place.branch [
      | in-Some w ↦
          let place = w.in-Some.place in
          let pair = w.index_mut.result.now in
          let there = ap (λ pairs. get_or pairs place pair) copied in
          let text = ap (λ p. p.0) (w.behind-pairs.view_is ∙ w.index_mut.ensures.value ∙ there) in
          ap (λ pairs. pairs.items) w.pairs-is
          ∙ ap (λ pairs. set pairs place (w.behind-pairs.inside.text, number)) copied
          ∙ ap (λ t. set part place (t, number)) text
          ∙ put-first part c.args.text.now number place pair (sym w.in-Some.ensures.place)
      | in-None+in_ok-clone-in-None+in_ok-push-in-None w ↦
          ap (λ pairs. pairs.items) w.pairs-is
          ∙ w.in_ok-push-in-None.ensures.items
          ∙ ap (λ pairs. pairs ++ (w.in_ok-clone-in-None.field-0, number) ∷ []) copied
          ∙ ap (λ t. part ++ (t, number) ∷ []) w.in_ok-clone-in-None.ensures.cases
          ∙ put-none part c.args.text.now number (sym w.in-None.ensures.place)
    ]
