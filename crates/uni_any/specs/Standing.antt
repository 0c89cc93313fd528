-- Where a seat stands.
use Rattle.std.specs.Prelude.{◌≡◌}
use Rattle.triple_buffers.specs.Parties.{IsPartyOf, key_of, layout_of, number_of, view_of}
use Rattle.triple_buffers.specs.declared.party.Party.{Party}
use Rattle.triple_buffers.specs.declared.rule.Buffers.{Buffers}
use Rattle.uni_any.specs.Shown.{Letter}
use Rattle.uni_any.specs.declared.rule.Setup.{Setup}
use Rattle.uni_any.specs.declared.view.View.{View}

pub record IsPlaceOf {O I S R P : Type 0} (buffers : Buffers (Letter I S R) (View O I S R) (Setup O S I R) P) (party : Party (Letter I S R) (View O I S R)) : Type 0 where
  pub own : IsPartyOf buffers party
  pub layout : layout_of buffers ≡ record { words = 1; parties = (key_of buffers).processes }
  pub object : (view_of party).object ≡ (key_of buffers).object
  pub processes : (view_of party).known.processes ≡ (key_of buffers).processes
  pub first : (view_of party).known.first ≡ number_of party
  pub alone : (view_of party).known.count ≡ 1
