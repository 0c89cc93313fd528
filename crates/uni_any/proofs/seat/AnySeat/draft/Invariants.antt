use Rattle.std.specs.Prelude.{IsSome, map, ◌+◌, ◌<◌, ◌≡◌}
use Rattle.uni_any.specs.Drafts.{image_so_far}
use Rattle.uni_any.specs.News.{first_told, told_by, version_as}
use Rattle.uni_any.specs.Seats.{object_of, processes_of}
use Rattle.uni_any.proofs.Drafted.{IsDrafting}
use Rattle.uni_any.proofs.seat.AnySeat.draft.Given as goal

abbrev pub invariant-loop-r : goal.invariant-loop-r
invariant-loop-r g l = record {
  end : l.r-end ≡ processes_of l.shared;
  far : l.r < l.r-end + 1;
  drafting : IsDrafting (g.O.SeqObject.sequential (object_of l.shared)) (version_as l.base).image (map told_by l.self.seen.items) (first_told (g.O.SeqObject.sequential (object_of l.shared)) (processes_of l.shared)) (processes_of l.shared) l.r (image_so_far l.draft l.base);
  own : l.self.p < l.r → IsSome l.draft.state;
}
