use Rattle.std.proofs.Common.{ap, sym, ◌∙◌}
use Rattle.std.specs.List.{each_same, remove}
use Rattle.std.specs.Str.{bytes_eq}
use Rattle.ready_objects.proofs.DirectoryPlaces.{first_of, none_of, remove_entry-first, remove_entry-none}
use Rattle.parted_map.proofs.Part.without.Goals as goal
use Rattle.parted_map.proofs.Part.without.Goals.{in-Some, in_default}

pub returns : goal.returns
returns c =
    let part = c.args.self.now in
    let text = c.args.text.now in
    let copied = each_same c.self.inside.pairs.items c.in_ok-pairs.pairs.items c.in_ok-pairs.ensures.cases.0 ∙ c.self.view_is in
    elim c.match-place.branch [
      | in-Some w ↦
          let place = w.in-Some.place in
          ap (λ pairs. pairs.items) w.pairs-is
          ∙ w.remove.ensures.items
          ∙ ap (λ pairs. remove pairs place) copied
          ∙ sym (remove_entry-first (bytes_eq text) part place
          (first_of (λ pair. bytes_eq text pair.0) part place (sym w.in-Some.ensures.place)))
      | in_default w ↦
          ap (λ pairs. pairs.items) w.pairs-is
          ∙ copied
          ∙ sym (remove_entry-none (bytes_eq text) part
          (none_of (λ pair. bytes_eq text pair.0) part (sym w.in_default.ensures.place)))
    ]
