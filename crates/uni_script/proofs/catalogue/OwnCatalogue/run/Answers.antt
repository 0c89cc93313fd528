use Rattle.uni_script.proofs.Vocabulary.{IsOwnRan, IsPromised, IsRanAs, ap, own_scripts, own_session, spoken, subst, summary_of, sym, ◌∙◌}
use Rattle.uni_script.proofs.RunningOn.{HasEnded-as}
use Rattle.uni_script.proofs.Sharing.{own_scripts_are_about}
use Rattle.uni_script.proofs.catalogue.OwnCatalogue.run.Goals as goal

pub returns-clause-run : goal.returns-clause-run
returns-clause-run g c = λ old written remarks taken run.
    let o = (spoken g.O.SeqObject.sequential g.O.Spoken.language c.args.self.object) in
    let kind = own_scripts o c.args.self.name.now c.args.options.now in
    HasEnded-as kind old _ written _ remarks _ (IsRanAs o (own_session c.args.header.version)) (IsOwnRan o) c.run_object.result
    (λ n b ran is. (is.1 ∙ ap (λ s. summary_of o n s) (sym (ap (λ x. x.session) is.0)), subst (IsPromised o) (sym (ap (λ x. x.session) is.0)) is.2, ap (λ x. x.session) is.0))
    (c.run_object.ensures.run kind (own_session c.args.header.version) (own_scripts_are_about o c.args.self.name.now c.args.options.now c.args.header.version) old written remarks taken run)
