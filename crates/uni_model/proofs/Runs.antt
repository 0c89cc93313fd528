-- Runs that are appended, and a run with one event more.
use Rattle.uni_model.proofs.Vocabulary.{AreAccepted, Event, IsAccepted, List, Sequential, WorldOf, [], acts_of, ap, append-nil, history_of, refl, sym, world_after, world_after_all, ◌++◌, ◌∙◌, ◌∷◌, ◌≡◌}
use Rattle.std.proofs.Common.{append_assoc}

module _ {S I R : Type 0} (object : Sequential S I R) where
  pub world_after_all-append : (w : WorldOf S I R) (es fs : List (Event I)) → world_after_all object w (es ++ fs) ≡ world_after_all object (world_after_all object w es) fs
  world_after_all-append w [] fs = refl
  world_after_all-append w (e ∷ es) fs = world_after_all-append (world_after object w e) es fs

  pub AreAccepted-append : (w : WorldOf S I R) (es fs : List (Event I)) → AreAccepted object w es → AreAccepted object (world_after_all object w es) fs → AreAccepted object w (es ++ fs)
  AreAccepted-append w [] fs ok more = more
  AreAccepted-append w (e ∷ es) fs ok more = (ok.0, AreAccepted-append (world_after object w e) es fs ok.1 more)

  pub AreAccepted-split : (w : WorldOf S I R) (es fs : List (Event I)) → AreAccepted object w (es ++ fs) → AreAccepted object w es × AreAccepted object (world_after_all object w es) fs
  AreAccepted-split w [] fs ok = (tt, ok)
  AreAccepted-split w (e ∷ es) fs ok = let rest = AreAccepted-split (world_after object w e) es fs ok.1 in ((ok.0, rest.0), rest.1)

  pub history_of-append : (w : WorldOf S I R) (es fs : List (Event I)) → history_of object w (es ++ fs) ≡ history_of object w es ++ history_of object (world_after_all object w es) fs
  history_of-append w [] fs = refl
  history_of-append w (e ∷ es) fs =
      ap (λ acts. acts_of object w e ++ acts) (history_of-append (world_after object w e) es fs)
      ∙ sym (append_assoc (acts_of object w e) (history_of object (world_after object w e) es) (history_of object (world_after_all object (world_after object w e) es) fs))

  pub world_after_all-snoc : (w : WorldOf S I R) (es : List (Event I)) (e : Event I) → world_after_all object w (es ++ e ∷ []) ≡ world_after object (world_after_all object w es) e
  world_after_all-snoc w es e = world_after_all-append w es (e ∷ [])

  pub AreAccepted-snoc : (w : WorldOf S I R) (es : List (Event I)) (e : Event I) → AreAccepted object w es → IsAccepted (world_after_all object w es) e → AreAccepted object w (es ++ e ∷ [])
  AreAccepted-snoc w es e ok last = AreAccepted-append w es (e ∷ []) ok (last, tt)

  pub history_of-snoc : (w : WorldOf S I R) (es : List (Event I)) (e : Event I) → history_of object w (es ++ e ∷ []) ≡ history_of object w es ++ acts_of object (world_after_all object w es) e
  history_of-snoc w es e = history_of-append w es (e ∷ []) ∙ ap (λ acts. history_of object w es ++ acts) (append-nil (acts_of object (world_after_all object w es) e))
