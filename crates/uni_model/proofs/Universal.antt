-- The main law, from the laws that it is made of.
use Rattle.uni_model.proofs.Vocabulary.{AreAccepted, Call, Event, List, Sequential, ShowsSame, ShowsSameUntrimmed, WorldOf, ap, observed, opened_world, refl, subst, sym, take, without_trims, world_after_all, ℕ, ◌∙◌, ◌∷◌}
use Rattle.uni_model.specs.Trims.{CountsSame, IsSameUntrimmed}
use Rattle.uni_model.specs.Universal.{RunIsUniversal}
use Rattle.uni_model.proofs.LawProofs.{AreAccepted-take, IsBounded-along}
use Rattle.uni_model.proofs.Counted.{CountsSteps-opened_world}
use Rattle.uni_model.proofs.Bounded.{HelpingInvariant-opened_world}
use Rattle.uni_model.proofs.Linearizable.{observed-history_of, IsLinearizedAs-holds, ObservesLinearizable-holds}
use Rattle.uni_model.proofs.WaitFree.{NeverBlocks-holds, CallIsWaitFree-holds}
use Rattle.uni_model.proofs.Runs.{AreAccepted-split}
use Rattle.uni_model.proofs.RenamedRun.{TrimsChangeNothing-holds}

module _ {S I R : Type 0} (object : Sequential S I R) where
  CountsSame-shown : (w u : WorldOf S I R) → ShowsSame w u → CountsSame w u
  CountsSame-shown w u same =
      ap (λ n. let x : WorldOf S I R = record w { n = n } in x) same.n
      ∙ ap (λ f. let x : WorldOf S I R = record w { n = u.n; begun = f } in x) same.begun
      ∙ ap (λ f. let x : WorldOf S I R = record w { n = u.n; begun = u.begun; among = f } in x) same.among
      ∙ ap (λ f. let x : WorldOf S I R = record u { memory = w.memory; call = w.call; first = w.first; steps = f; turns = w.turns } in x) same.steps
      ∙ ap (λ f. let x : WorldOf S I R = record u { memory = w.memory; call = w.call; first = w.first; turns = f } in x) same.turns

  -- what is shown alike has the same history, the same log and the same counts
  IsSameUntrimmed-shown : (w : WorldOf S I R) (events : List (Event I)) → ShowsSameUntrimmed object w events → IsSameUntrimmed object w events
  IsSameUntrimmed-shown w events same = record {
    accepted = same.accepted;
    history = sym (observed-history_of object w events) ∙ ap observed same.history ∙ observed-history_of object w (without_trims events);
    joined = same.joined;
    counts = CountsSame-shown _ _ same.shown;
  }

  pub RunIsUniversal-holds : (n : ℕ) (start : S) (number : ℕ) (events : List (Event I)) → RunIsUniversal object n start number events
  RunIsUniversal-holds n start number events positive ok =
      let opened : WorldOf S I R = opened_world n start number in
      let prefix : (j : ℕ) → AreAccepted object opened (take j events) = λ j. AreAccepted-take object j opened events ok in
      record {
        linearizable = ObservesLinearizable-holds object n start number events positive ok;
        agreed = IsLinearizedAs-holds object n start number events positive ok;
        never_blocks = λ j p. NeverBlocks-holds (world_after_all object opened (take j events)) p;
        wait_free = λ j before later p i is none.
            let parts = AreAccepted-split object opened before (Call p i ∷ later) (subst (AreAccepted object opened) is (prefix j)) in
            CallIsWaitFree-holds object (world_after_all object opened before) p i later (record { n = n; start = start; number = number; events = before; positive = positive; accepted = parts.0; reached = refl }) parts.1 none;
        bounded = IsBounded-along object opened events ok (CountsSteps-opened_world object n start number) (HelpingInvariant-opened_world object n start number positive);
        untrimmed = λ j. IsSameUntrimmed-shown opened (take j events) (TrimsChangeNothing-holds object n start number (take j events) positive (prefix j));
      }
