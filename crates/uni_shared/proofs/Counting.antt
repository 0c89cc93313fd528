-- Receipts beside a history, call by call.
use Rattle.uni_shared.proofs.Vocabulary.{Agrees, All, Bool, Completed, Counts, IsSome, IsTrue, List, None, Option, Receipt, Sequential, Some, WorldOf, [], ap, arith, false, filter, filter-append, get_or, length, length-map, map, refl, subst, suc, sym, take, take_all, take_more, true, zero, ℕ, ◌++◌, ◌+◌, ◌<◌, ◌∙◌, ◌∷◌, ◌≡◌, ◌≤◌}
use Rattle.std.proofs.Math.ListN.{get_or-map}
use Rattle.uni_record.specs.declared.event.Event.{Event as Stored}
use Rattle.uni_audit.specs.declared.verdict.Return.{Return}

-- a return with its counts, among the calls that have returned
pub get_or-completed : {R : Type 0} (calls : List (Completed R)) (n : ℕ) (returned : Return R) (counts : Counts) → returned ≡ get_or (map (λ (c : Completed R). c.returned) calls) n returned
    → counts ≡ get_or (map (λ (c : Completed R). c.counts) calls) n counts → record { returned = returned; counts = counts } ≡ get_or calls n (record { returned = returned; counts = counts })
get_or-completed {R = R} calls n returned counts is count_is =
    let call : Completed R = record { returned = returned; counts = counts } in
    let a : returned ≡ (get_or calls n call).returned = is ∙ get_or-map (λ (c : Completed R). c.returned) calls n call in
    let b : counts ≡ (get_or calls n call).counts = count_is ∙ get_or-map (λ (c : Completed R). c.counts) calls n call in
    let with_returned : Return R → Completed R = λ r. record { returned = r; counts = counts } in
    let with_counts : Counts → Completed R = λ k. record { returned = (get_or calls n call).returned; counts = k } in
    ap with_returned a ∙ ap with_counts b

-- one return more, with its counts
pub filter-take_more : {R : Type 0} (q : Completed R → Bool) (calls : List (Completed R)) (n : ℕ) (returned : Return R) (counts : Counts) → n < length (map (λ (c : Completed R). c.returned) calls)
    → returned ≡ get_or (map (λ (c : Completed R). c.returned) calls) n returned → counts ≡ get_or (map (λ (c : Completed R). c.counts) calls) n counts
    → filter q (take (n + 1) calls) ≡ filter q (take n calls) ++ filter q (record { returned = returned; counts = counts } ∷ [])
filter-take_more {R = R} q calls n returned counts there is count_is =
    let call : Completed R = record { returned = returned; counts = counts } in
    let same = get_or-completed calls n returned counts is count_is in
    let len = length-map calls (λ (c : Completed R). c.returned) in
    ap (filter q) (take_more calls n call (omega arith)) ∙ filter-append q (take n calls) (get_or calls n call ∷ []) ∙ ap (λ (y : Completed R). filter q (take n calls) ++ filter q (y ∷ [])) (sym same)

-- what holds of all that have been looked at holds of all
pub All-whole : {X : Type 0} (P : X → Type 0) (xs : List X) (n : ℕ) → length xs ≤ n → All P (take n xs) → All P xs
All-whole P xs n past h = subst (All P) (take_all n xs past) h

-- an option of which a test says that nothing is there
pub None-from_false : {X : Type 0} (o : Option X) (b : Bool) → (IsSome o → IsTrue b) → b ≡ false → o ≡ None
None-from_false None b some is = refl
None-from_false (Some x) b some is = absurd (let there : IsTrue b = some refl in let none : false ≡ true = sym is ∙ there in cc)

-- what agrees with the calls of a seat's process, read of the seat
pub Agrees-same : {S I R : Type 0} (object : Sequential S I R) (first : WorldOf S I R) (events : List (Stored I)) (q p : ℕ) (these those : List (Receipt I R)) → q ≡ p → those ≡ these → Agrees object first events q these → Agrees object first events p those
Agrees-same object first events q p these those same_process same agrees = subst (λ l. Agrees object first events p l) (sym same) (subst (λ k. Agrees object first events k these) same_process agrees)

-- an element that is there, whatever is read where none is
pub get_or-within : {A : Type 0} (xs : List A) (n : ℕ) (d e : A) → n < length xs → get_or xs n d ≡ get_or xs n e
get_or-within [] n d e there = absurd (omega arith)
get_or-within (x ∷ xs) zero d e there = refl
get_or-within (x ∷ xs) (suc n) d e there = get_or-within xs n d e (omega arith)
