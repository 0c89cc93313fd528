-- A run and one event more.
use Rattle.uni_record.proofs.Vocabulary.{AreAccepted, Call, Event, IsAccepted, List, Reshape, Sequential, Step, Trim, WorldOf, [], ap, append-nil, append_assoc, completed_by, completed_in, ended_log, log, log_ended_by, log_of_run, option_to_list, refl, sym, world_after, world_after_all, ◌++◌, ◌∙◌, ◌∷◌, ◌≡◌}

module _ {S I R : Type 0} (object : Sequential S I R) where
  pub completed_in-snoc : (w : WorldOf S I R) (es : List (Event I)) (e : Event I)
      → completed_in object w (es ++ e ∷ []) ≡ completed_in object w es ++ option_to_list (completed_by object (world_after_all object w es) e)
  completed_in-snoc w [] e = append-nil (option_to_list (completed_by object w e))
  completed_in-snoc w (f ∷ es) e =
      ap (λ rest. option_to_list (completed_by object w f) ++ rest) (completed_in-snoc (world_after object w f) es e)
      ∙ sym (append_assoc (option_to_list (completed_by object w f)) (completed_in object (world_after object w f) es) (option_to_list (completed_by object (world_after_all object (world_after object w f) es) e)))

  pub ended_log-snoc : (w : WorldOf S I R) (es : List (Event I)) (e : Event I)
      → ended_log object w (es ++ e ∷ []) ≡ ended_log object w es ++ log_ended_by (world_after_all object w es) e
  ended_log-snoc w [] e = append-nil (log_ended_by w e)
  ended_log-snoc w (f ∷ es) e =
      ap (λ rest. log_ended_by w f ++ rest) (ended_log-snoc (world_after object w f) es e)
      ∙ sym (append_assoc (log_ended_by w f) (ended_log object (world_after object w f) es) (log_ended_by (world_after_all object (world_after object w f) es) e))

  -- the joined log: the entries of the ended eras, and then those of the present one
  pub log_of_run-ended : (w : WorldOf S I R) (es : List (Event I)) → log_of_run object w es ≡ ended_log object w es ++ log (world_after_all object w es)
  log_of_run-ended w [] = refl
  log_of_run-ended w (Call p i ∷ es) = log_of_run-ended (world_after object w (Call p i)) es
  log_of_run-ended w (Step p ∷ es) = log_of_run-ended (world_after object w (Step p)) es
  log_of_run-ended w (Trim ∷ es) =
      ap (λ rest. log w ++ rest) (log_of_run-ended (world_after object w Trim) es)
      ∙ sym (append_assoc (log w) (ended_log object (world_after object w Trim) es) (log (world_after_all object (world_after object w Trim) es)))
  log_of_run-ended w (Reshape n ∷ es) =
      ap (λ rest. log w ++ rest) (log_of_run-ended (world_after object w (Reshape n)) es)
      ∙ sym (append_assoc (log w) (ended_log object (world_after object w (Reshape n)) es) (log (world_after_all object (world_after object w (Reshape n)) es)))
