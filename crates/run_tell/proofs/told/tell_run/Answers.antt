use Rattle.run_tell.proofs.Vocabulary.{IsErrOf, IsLinearizableSession, Some, WritesText, ap, events_of_record, range_fault, session_of_record, spoken_of, state_text_of, subst, sym, text_of_session, ◌↔◌, ◌∙◌, ◌≡◌}
use Rattle.run_tell.proofs.Tellings.{text_as}
use Rattle.run_layout.specs.declared.subject.PictureFault.TheVariants.{Range as OfRange}
use Rattle.uni_script.specs.declared.grammar.ObjectName.TheVariants as name
use Rattle.run_tell.proofs.told.tell_run.Goals as goal

pub returns-in-Queue-clause-told : goal.returns-in-Queue-clause-told
returns-in-Queue-clause-told g c = λ version.
    subst (WritesText c.tell_record.result _ _)
    (text_as g.T.Telling.wording c.args.range (spoken_of name.Queue) (state_text_of name.Queue) c.in-Queue.recorded _ _ _ _ _ _ c.word-name.ensures c.as_slice-lines.ensures.value c.as_slice-remarks.ensures.value
    ∙ ap (λ s. text_of_session g.T.Telling.wording c.args.range (session_of_record version s) c.args.run.now.lines.items c.args.run.now.remarks.items) (sym c.in-Queue.is)) c.tell_record.ensures.told

pub returns-in-Queue-clause-range : goal.returns-in-Queue-clause-range
returns-in-Queue-clause-range g c = λ e.
    subst (λ r. IsErrOf c.tell_record.result (OfRange e) ↔ (range_fault c.args.range (events_of_record r) ≡ Some e)) (sym c.in-Queue.is) (c.tell_record.ensures.range e)

pub returns-in-Queue-clause-linearizable : goal.returns-in-Queue-clause-linearizable
returns-in-Queue-clause-linearizable g c = λ version. subst (λ s. IsLinearizableSession (session_of_record version s)) (sym c.in-Queue.is) c.tell_record.ensures.linearizable

pub returns-in-Directory-clause-told : goal.returns-in-Directory-clause-told
returns-in-Directory-clause-told g c = λ version.
    subst (WritesText c.tell_record-in-Directory.result _ _)
    (text_as g.T.Telling.wording c.args.range (spoken_of name.Directory) (state_text_of name.Directory) c.in-Directory.recorded _ _ _ _ _ _ c.word-name-in-Directory.ensures c.as_slice-lines.ensures.value c.as_slice-remarks.ensures.value
    ∙ ap (λ s. text_of_session g.T.Telling.wording c.args.range (session_of_record version s) c.args.run.now.lines.items c.args.run.now.remarks.items) (sym c.in-Directory.is)) c.tell_record-in-Directory.ensures.told

pub returns-in-Directory-clause-range : goal.returns-in-Directory-clause-range
returns-in-Directory-clause-range g c = λ e.
    subst (λ r. IsErrOf c.tell_record-in-Directory.result (OfRange e) ↔ (range_fault c.args.range (events_of_record r) ≡ Some e)) (sym c.in-Directory.is) (c.tell_record-in-Directory.ensures.range e)

pub returns-in-Directory-clause-linearizable : goal.returns-in-Directory-clause-linearizable
returns-in-Directory-clause-linearizable g c = λ version. subst (λ s. IsLinearizableSession (session_of_record version s)) (sym c.in-Directory.is) c.tell_record-in-Directory.ensures.linearizable

pub returns-in-Book-clause-told : goal.returns-in-Book-clause-told
returns-in-Book-clause-told g c = λ version.
    subst (WritesText c.tell_record-in-Book.result _ _)
    (text_as g.T.Telling.wording c.args.range (spoken_of name.Book) (state_text_of name.Book) c.in-Book.recorded _ _ _ _ _ _ c.word-name-in-Book.ensures c.as_slice-lines.ensures.value c.as_slice-remarks.ensures.value
    ∙ ap (λ s. text_of_session g.T.Telling.wording c.args.range (session_of_record version s) c.args.run.now.lines.items c.args.run.now.remarks.items) (sym c.in-Book.is)) c.tell_record-in-Book.ensures.told

pub returns-in-Book-clause-range : goal.returns-in-Book-clause-range
returns-in-Book-clause-range g c = λ e.
    subst (λ r. IsErrOf c.tell_record-in-Book.result (OfRange e) ↔ (range_fault c.args.range (events_of_record r) ≡ Some e)) (sym c.in-Book.is) (c.tell_record-in-Book.ensures.range e)

pub returns-in-Book-clause-linearizable : goal.returns-in-Book-clause-linearizable
returns-in-Book-clause-linearizable g c = λ version. subst (λ s. IsLinearizableSession (session_of_record version s)) (sym c.in-Book.is) c.tell_record-in-Book.ensures.linearizable

pub returns-in-Sticky-clause-told : goal.returns-in-Sticky-clause-told
returns-in-Sticky-clause-told g c = λ version.
    subst (WritesText c.tell_record-in-Sticky.result _ _)
    (text_as g.T.Telling.wording c.args.range (spoken_of name.Sticky) (state_text_of name.Sticky) c.in-Sticky.recorded _ _ _ _ _ _ c.word-name-in-Sticky.ensures c.as_slice-lines.ensures.value c.as_slice-remarks.ensures.value
    ∙ ap (λ s. text_of_session g.T.Telling.wording c.args.range (session_of_record version s) c.args.run.now.lines.items c.args.run.now.remarks.items) (sym c.in-Sticky.is)) c.tell_record-in-Sticky.ensures.told

pub returns-in-Sticky-clause-range : goal.returns-in-Sticky-clause-range
returns-in-Sticky-clause-range g c = λ e.
    subst (λ r. IsErrOf c.tell_record-in-Sticky.result (OfRange e) ↔ (range_fault c.args.range (events_of_record r) ≡ Some e)) (sym c.in-Sticky.is) (c.tell_record-in-Sticky.ensures.range e)

pub returns-in-Sticky-clause-linearizable : goal.returns-in-Sticky-clause-linearizable
returns-in-Sticky-clause-linearizable g c = λ version. subst (λ s. IsLinearizableSession (session_of_record version s)) (sym c.in-Sticky.is) c.tell_record-in-Sticky.ensures.linearizable
