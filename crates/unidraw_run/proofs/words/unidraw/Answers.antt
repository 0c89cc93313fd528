use Rattle.unidraw_run.proofs.Vocabulary.{IfOk-weaker, ap, app_of, ap₂, codes, form_options, new_app, versioned, with_options, with_rule, ◌∙◌, ◌≡◌}
use Rattle.unidraw_run.proofs.words.unidraw.Goals as goal

pub returns : goal.returns
returns c =
    let forms : app_of c.in_ok-with_options.field-0 ≡ with_options (versioned (new_app (codes "unidraw"))) form_options = c.in_ok-with_options.ensures.app ∙ ap (λ app. with_options app form_options) c.described.ensures.app in
    let one = c.in_ok-arg.ensures.shape c.event_option.ensures.local ∙ ap₂ with_rule forms c.event_option.ensures.rule in
    let two = c.in_ok-arg-2.ensures.shape c.event_option-2.ensures.local ∙ ap₂ with_rule one c.event_option-2.ensures.rule in
    let three = c.in_ok-arg-3.ensures.shape c.columns_option.ensures.local ∙ ap₂ with_rule two c.columns_option.ensures.rule in
    IfOk-weaker c.arg-4.result _ _ (λ command added. added.shape c.flag.ensures.local ∙ ap₂ with_rule three c.flag.ensures.rule) c.arg-4.ensures
