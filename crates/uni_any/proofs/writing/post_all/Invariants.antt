use Rattle.std.specs.Prelude.{All, length, ◌*◌, ◌+◌, ◌≡◌}
use Rattle.triple_buffers.specs.Parties.{key_of, number_of, steps_of, view_of}
use Rattle.uni_any.specs.Board.{call_news}
use Rattle.uni_any.specs.News.{told_by}
use Rattle.uni_any.specs.Plays.{local_of}
use Rattle.uni_any.specs.Standing.{IsPlaceOf}
use Rattle.uni_any.specs.declared.view.Stage.TheVariants.{Posting}
use Rattle.uni_any.proofs.Goings.{HasGone}
use Rattle.uni_any.proofs.writing.post_all.Given as goal

abbrev pub invariant-loop-r : goal.invariant-loop-r
invariant-loop-r g l = record {
  place : IsPlaceOf l.buffers l.party;
  number : number_of l.party ≡ number_of l.fn.party;
  end : l.r-end ≡ (key_of l.buffers).processes;
  long : length l.owners.items + l.r ≡ (key_of l.buffers).processes;
  each : (inv : g.row.O-Inv.Denot) → All (λ c. told_by c ≡ call_news (local_of (view_of l.fn.party)) inv) l.fn.owners.items
      → All (λ c. told_by c ≡ call_news (local_of (view_of l.fn.party)) inv) l.owners.items × HasGone (view_of l.fn.party) (Posting inv) l.r (view_of l.party);
  steps : steps_of l.party ≡ steps_of l.fn.party + 2 * l.r;
}
