use Rattle.run_play.proofs.Vocabulary.{IfOk-weaker, IsPageOfSession, session_of_record, subst, sym}
use Rattle.run_play.proofs.Paging.{IsPageOf-named}
use Rattle.run_play.proofs.page.page_of_run.Goals as goal

pub returns-in-Queue-clause-page : goal.returns-in-Queue-clause-page
returns-in-Queue-clause-page c =
    IfOk-weaker c.page_of_record.result _ _ (λ text page version. subst (λ r. IsPageOfSession c.args.goal.now (session_of_record version r) text.items) (sym c.in-Queue.is) (IsPageOf-named c.word.ensures page))
    c.page_of_record.ensures.page

pub returns-in-Directory-clause-page : goal.returns-in-Directory-clause-page
returns-in-Directory-clause-page c =
    IfOk-weaker c.page_of_record-in-Directory.result _ _ (λ text page version. subst (λ r. IsPageOfSession c.args.goal.now (session_of_record version r) text.items) (sym c.in-Directory.is) (IsPageOf-named c.word-in-Directory.ensures page))
    c.page_of_record-in-Directory.ensures.page

pub returns-in-Book-clause-page : goal.returns-in-Book-clause-page
returns-in-Book-clause-page c =
    IfOk-weaker c.page_of_record-in-Book.result _ _ (λ text page version. subst (λ r. IsPageOfSession c.args.goal.now (session_of_record version r) text.items) (sym c.in-Book.is) (IsPageOf-named c.word-in-Book.ensures page))
    c.page_of_record-in-Book.ensures.page

pub returns-in-Sticky-clause-page : goal.returns-in-Sticky-clause-page
returns-in-Sticky-clause-page c =
    IfOk-weaker c.page_of_record-in-Sticky.result _ _ (λ text page version. subst (λ r. IsPageOfSession c.args.goal.now (session_of_record version r) text.items) (sym c.in-Sticky.is) (IsPageOf-named c.word-in-Sticky.ensures page))
    c.page_of_record-in-Sticky.ensures.page
