-- Where all events are chosen, all is drawn.
use Rattle.run_layout.proofs.Vocabulary.{Bool, Called, Cell, Dot, End, EraLine, EraMarks, List, None, Option, PlacedRemark, RunMarks, Some, StepMark, [], all_events, ap, arith, bar_in, chosen, chosen_remarks, end_in, era_in, false, filter, if◌then◌else◌, is_bar_in, is_by, is_heading, is_in, links_outside, list_any, map, map-kept, marks_are, nat_le, nat_tests, not, option_and_then, option_map_or, refl, true, ℕ, ◌-◌, ◌||◌, ◌∙◌, ◌∷◌, ◌≡◌}

less_none : (n : ℕ) → n - 0 ≡ n
less_none n = omega arith

from_zero : (n : ℕ) → nat_le 0 n ≡ true
from_zero n = grind (arith, nat_tests)

in_all : (event : ℕ) → is_in all_events event ≡ true
in_all event = rw (from_zero event) refl

by_zero : (last : Option ℕ) → is_by 0 last ≡ true
by_zero None = refl
by_zero (Some last) = from_zero last

module _ {A : Type 0} where
  filter_kept : (p : A → Bool) → ((x : A) → p x ≡ true) → (xs : List A) → filter p xs ≡ xs
  filter_kept p all [] = refl
  filter_kept p all (x ∷ xs) = rw (all x) (ap (λ l. x ∷ l) (filter_kept p all xs))

  kept : (f : A → A) (p : A → Bool) → ((x : A) → p x ≡ true) → ((x : A) → f x ≡ x) → (xs : List A) → map f (filter p xs) ≡ xs
  kept f p all same xs = ap (map f) (filter_kept p all xs) ∙ map-kept f same xs

end_kept : (end : Option End) → option_and_then (end_in all_events) end ≡ end
end_kept None = refl
end_kept (Some e) = rw (in_all e.event) (ap (λ n. let f : End = record e { event = n } in Some f) (less_none e.event))

bar_kept : (bar : Called) → bar_in all_events bar ≡ bar
bar_kept bar = rw (less_none bar.from, end_kept bar.end) refl

none_outside : (cell : Cell) (dots : List Dot) → list_any (links_outside all_events cell) dots ≡ false
none_outside cell [] = refl
none_outside cell (dot ∷ dots) = rw (in_all dot.event) (none_outside cell dots)

last_kept : (last : Option ℕ) → option_and_then (λ last. if is_in all_events last then Some (last - 0) else None) last ≡ last
last_kept None = refl
last_kept (Some n) = rw (in_all n) (ap (λ k. Some k) (less_none n))

era_kept : (dots : List Dot) (era : EraMarks) → era_in all_events dots era ≡ era
era_kept dots era =
    let cells = filter_kept (λ cell. not (list_any (links_outside all_events cell) dots)) (λ cell. rw (none_outside cell dots) refl) era.cells in
    rw (less_none era.from, last_kept era.last, cells) refl

pub chosen_all : (marks : RunMarks) → chosen all_events marks ≡ marks
chosen_all marks =
    marks_are _ _ refl (less_none marks.events)
    (kept _ _ (λ step. in_all step.event) (λ step. ap (λ n. let s : StepMark = record step { event = n } in s) (less_none step.event)) marks.steps)
    (kept (bar_in all_events) (is_bar_in all_events marks.events) (λ bar. by_zero (Some (option_map_or (λ (e : End). e.event) bar.end (marks.events - 1)))) bar_kept marks.bars)
    (kept _ _ (λ dot. in_all dot.event) (λ dot. ap (λ n. let d : Dot = record dot { event = n } in d) (less_none dot.event)) marks.dots)
    (kept _ _ (λ line. in_all line.event) (λ line. ap (λ n. let l : EraLine = record line { event = n } in l) (less_none line.event)) marks.lines)
    (kept _ _ (λ era. by_zero era.last) (era_kept marks.dots) marks.eras)

pub remarks_all : (remarks : List PlacedRemark) → chosen_remarks all_events remarks ≡ remarks
remarks_all remarks =
    kept _ _ (λ one. rw (in_all one.before) (or_true (is_heading one.remark))) (λ one. ap (λ n. let p : PlacedRemark = record one { before = n } in p) (less_none one.before)) remarks
  where
    or_true : (b : Bool) → (b || true) ≡ true
    or_true true = refl
    or_true false = refl
