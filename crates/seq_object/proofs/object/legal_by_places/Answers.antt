use Rattle.seq_object.proofs.Legality.{IsLegalByPlaces-from_IsLegal, IsLegal-from_IsLegalByPlaces}
use Rattle.seq_object.proofs.object.legal_by_places.Goals as goal

pub returns : goal.returns
returns g c object s calls = (
  IsLegalByPlaces-from_IsLegal (g.O.SeqObject.sequential object) s calls,
  IsLegal-from_IsLegalByPlaces (g.O.SeqObject.sequential object) s calls,
)
