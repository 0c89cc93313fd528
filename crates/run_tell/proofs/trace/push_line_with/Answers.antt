use Rattle.run_tell.proofs.Vocabulary.{List, Member, [], after_comma, ap, append_assoc, arith, flat_map, flat_map-append, length, length-map, line_text, map, map-append, member_shown, member_text, object_text, separated, sym, ℕ, ◌++◌, ◌<◌, ◌∙◌, ◌∷◌, ◌≡◌}
use Rattle.run_tell.proofs.trace.push_line_with.Goals as goal

-- members, and further ones
members_more : (a b : List Member) → 0 < length a → separated (map member_text (a ++ b)) ≡ separated (map member_text a) ++ flat_map after_comma (map member_text b)
members_more [] b some = absurd (omega arith)
members_more (m ∷ a) b some =
    ap (λ l. member_text m ++ flat_map after_comma l) (map-append member_text a b)
    ∙ ap (λ l. member_text m ++ l) (flat_map-append after_comma (map member_text a) (map member_text b)) ∙ sym (append_assoc (member_text m) _ _)

braces : (old first more : List ℕ) → (((old ++ 123 ∷ []) ++ first) ++ more) ++ (125 ∷ []) ++ (10 ∷ []) ≡ old ++ ((123 ∷ []) ++ (first ++ more) ++ (125 ∷ []) ++ (10 ∷ []))
braces old first more = simp append_assoc

line_parts : (old opened told more_told closed new : List ℕ) (first more : List Member) → 0 < length first → opened ≡ old ++ 123 ∷ [] → told ≡ opened ++ separated (map member_text first)
    → more_told ≡ told ++ flat_map after_comma (map member_text more) → closed ≡ more_told ++ 125 ∷ [] → new ≡ closed ++ 10 ∷ [] → new ≡ old ++ line_text (first ++ more)
unfolding object_text
line_parts old opened told more_told closed new first more some is_opened is_told is_more is_closed is_new =
    let here = separated (map member_text first) in
    let further = flat_map after_comma (map member_text more) in
    is_new ∙ ap (λ l. l ++ 10 ∷ []) (is_closed ∙ ap (λ l. l ++ 125 ∷ []) (is_more ∙ ap (λ l. l ++ further) (is_told ∙ ap (λ l. l ++ here) is_opened)))
    ∙ braces old here further ∙ sym (ap (λ l. old ++ ((123 ∷ []) ++ l ++ (125 ∷ []) ++ (10 ∷ []))) (members_more first more some))

pub returns : goal.returns
returns c =
    let some : 0 < length (map member_shown c.args.members.now) = omega (arith, length-map c.args.members.now member_shown, c.requires) in
    line_parts _ _ _ _ _ _ (map member_shown c.args.members.now) (map member_shown c.args.more.now) some c.in_ok-push.ensures.items c.in_ok-push_members.ensures c.in_ok-push_more_members.ensures c.in_ok-push-2.ensures.items c.in_ok-push-3.ensures.items
