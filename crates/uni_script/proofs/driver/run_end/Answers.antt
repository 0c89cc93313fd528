use Rattle.uni_script.proofs.driver.run_end.Goals as goal

pub returns-in-Ok-clause-promised : goal.returns-in-Ok-clause-promised
returns-in-Ok-clause-promised g c = record {
  accepted = c.promise.ensures.recording.accepted;
  replay = c.promise.ensures.recording.replay;
  universal = c.promise.ensures.promised.universal;
}
