-- Comparing a log with what callers were told, entry by entry.
use Rattle.uni_words.proofs.Vocabulary.{Agrees, CallId, DiffersFirstAt, Entry, IsFirstOther, IsFirstWrong, IsRight, List, None, Option, Sequential, Some, [], ap, append-nil, append_assoc, arith, calls_by, cond, drop, drop_all, entry_shown, inl, inr, invocations_of, length, lt_cases, map, number_cases, option_map, refl, replied, response_at, slice_get, slice_index_or, state_after, subst, suc, sym, take, take_all, zero, ℕ, ◌++◌, ◌+◌, ◌<◌, ◌==◌, ◌∙◌, ◌∷◌, ◌≡◌, ◌≢◌, ◌≤◌}
use Rattle.uni_words.specs.declared.read.WordEntry.{WordEntry}
use Rattle.uni_words.proofs.OwnCalls.{drop-here}
use Rattle.uni_words.proofs.Underway.{there_below}

pub slice_get-map : {A B : Type 0} (f : A → B) (l : List A) (i : ℕ) (a : A) → slice_get l i ≡ Some a → slice_get (map f l) i ≡ Some (f a)
slice_get-map f [] i a e = absurd (let g : None ≡ Some a = e in cc)
slice_get-map f (x ∷ xs) zero a e = let same : x ≡ a = (let g : Some x ≡ Some a = e in cc) in ap (λ y. Some (f y)) same
slice_get-map f (x ∷ xs) (suc i) a e = slice_get-map f xs i a e

pub slice_get-index : {A : Type 0} (l : List A) (i : ℕ) (d : A) → i < length l → slice_get l i ≡ Some (slice_index_or l i d)
slice_get-index [] i d h = absurd (omega arith)
slice_get-index (x ∷ xs) zero d h = refl
slice_get-index (x ∷ xs) (suc i) d h = slice_get-index xs i d (omega arith)

-- the entry of the code at a place
pub shown_here : (l : List WordEntry) (i : ℕ) (d : WordEntry) → i < length l → slice_get (map entry_shown l) i ≡ Some (entry_shown (slice_index_or l i d))
shown_here l i d h = slice_get-map entry_shown l i (slice_index_or l i d) (slice_get-index l i d h)

slice_get-past : {A : Type 0} (l : List A) (i : ℕ) → length l ≤ i → slice_get l i ≡ None
slice_get-past [] i h = refl
slice_get-past (x ∷ xs) zero h = absurd (omega arith)
slice_get-past (x ∷ xs) (suc i) h = slice_get-past xs i (omega arith)

pub length-mapped : {A B : Type 0} (f : A → B) (l : List A) → length (map f l) ≡ length l
length-mapped f [] = refl
length-mapped f (x ∷ xs) = ap suc (length-mapped f xs)

-- a list up to a place, and then another one
get_before : {A : Type 0} (xs ys : List A) (n j : ℕ) → j < n → n ≤ length xs → slice_get (take n xs ++ ys) j ≡ slice_get xs j
get_before [] ys n j less h = absurd (omega arith)
get_before (x ∷ xs) ys zero j less h = absurd (omega arith)
get_before (x ∷ xs) ys (suc n) zero less h = refl
get_before (x ∷ xs) ys (suc n) (suc j) less h = get_before xs ys n j (omega arith) (omega arith)

get_at : {A : Type 0} (xs ys : List A) (n : ℕ) → n ≤ length xs → slice_get (take n xs ++ ys) n ≡ slice_get ys 0
get_at [] ys zero h = refl
get_at [] ys (suc n) h = absurd (omega arith)
get_at (x ∷ xs) ys zero h = refl
get_at (x ∷ xs) ys (suc n) h = get_at xs ys n (omega arith)

take-further : {A : Type 0} (xs : List A) (n : ℕ) (x : A) → slice_get xs n ≡ Some x → take (suc n) xs ≡ take n xs ++ x ∷ []
take-further [] n x e = absurd (let f : None ≡ Some x = e in cc)
take-further (y ∷ ys) zero x e = let same : y ≡ x = (let f : Some y ≡ Some x = e in cc) in ap (λ z. z ∷ []) same
take-further (y ∷ ys) (suc n) x e = ap (λ l. y ∷ l) (take-further ys n x e)

module _ (object : Sequential ℕ ℕ ℕ) where
  state_after-further : (s : ℕ) (is : List ℕ) (n i : ℕ) → slice_get is n ≡ Some i → state_after object s (take (suc n) is) ≡ object.next (state_after object s (take n is)) i
  state_after-further s [] n i e = absurd (let f : None ≡ Some i = e in cc)
  state_after-further s (x ∷ xs) zero i e = let same : x ≡ i = (let f : Some x ≡ Some i = e in cc) in ap (object.next s) same
  state_after-further s (x ∷ xs) (suc n) i e = state_after-further (object.next s x) xs n i e

  module _ (log : List (Entry ℕ ℕ)) (processes : ℕ) where
    -- the entries before this place are right, and this is the state after them
    pub record AreRightTo (place state : ℕ) : Type 0 where
      pub state_is : state ≡ state_after object object.initial (take place (invocations_of log))
      pub right : (i : ℕ) → i < place → IsRight object log processes i

    pub right-start : (state : ℕ) → state ≡ object.initial → AreRightTo 0 state
    right-start state e = record { state_is = e; right = λ i less. absurd (omega arith) }

    module _ (place state : ℕ) (to : AreRightTo place state) where
      pub right-all : length log ≤ place → (i : ℕ) → IsRight object log processes i
      right-all whole i = elim (lt_cases i place) [
        | inl less ↦ to.right i less.0
        | inr past ↦ λ e here. absurd (let none = slice_get-past log i (let p = past.0 in omega arith) in cc)
      ]

      module _ (e : Entry ℕ ℕ) (here : slice_get log place ≡ Some e) where
        asked : slice_get (invocations_of log) place ≡ Some e.call.inv
        asked = slice_get-map (λ (e : Entry ℕ ℕ). e.call.inv) log place e here

        reply_is : response_at object object.initial (invocations_of log) place ≡ Some (object.answer state e.call.inv)
        reply_is = ap (option_map (object.answer (state_after object object.initial (take place (invocations_of log))))) asked
            ∙ ap (λ s. Some (object.answer s e.call.inv)) (sym to.state_is)

        pub right-further : (e.response ≡ Some (object.answer state e.call.inv)) × (e.call.process < processes) → AreRightTo (place + 1) (object.next state e.call.inv)
        right-further right = record {
          state_is = ap (λ s. object.next s e.call.inv) to.state_is ∙ sym (state_after-further object.initial (invocations_of log) place e.call.inv asked)
              ∙ ap (λ k. state_after object object.initial (take k (invocations_of log))) (let s : suc place ≡ place + 1 = omega arith in s);
          right = λ i less. elim (number_cases i place) [
            | inl same ↦ λ f at. (
                let one : e ≡ f = (let g : Some e ≡ Some f = sym here ∙ (ap (slice_get log) (sym same.0) ∙ at) in cc) in
                subst (λ (u : Entry ℕ ℕ). (u.response ≡ response_at object object.initial (invocations_of log) i) × (u.call.process < processes)) one
                (right.0 ∙ (sym reply_is ∙ ap (response_at object object.initial (invocations_of log)) (sym same.0)), right.1))
            | inr other ↦ to.right i (let o = other.0 in omega arith)
          ];
        }

        pub wrong-here : ((e.response ≡ Some (object.answer state e.call.inv)) × (e.call.process < processes) → ⊥)
            → (call : CallId) → (call.process ≡ e.call.process) × (call.nth ≡ e.call.nth) → IsFirstWrong object log processes call
        wrong-here not call named = record {
          place = place;
          entry = e;
          here = here;
          named = named;
          wrong = λ right. (let its = right e here in not (its.0 ∙ reply_is, its.1));
          before = to.right;
        }

module _ (p : ℕ) (log : List (Entry ℕ ℕ)) (own : List (ℕ × ℕ)) where
  abbrev told : List (ℕ × Option ℕ)
  told = map replied own

  -- the entries before this place have as many calls of the process, and they are what the list has
  pub record AreTold (place at : ℕ) : Type 0 where
    pub within : at ≤ length own
    pub whole : take at told ++ calls_by p (drop place log) ≡ calls_by p log

  pub told-start : AreTold 0 0
  told-start = record { within = omega arith; whole = refl }

  module _ (place at : ℕ) (to : AreTold place at) where
    long : at ≤ length told
    long = let l = length-mapped replied own in let w = to.within in omega arith

    before : (j : ℕ) → j < at → slice_get (calls_by p log) j ≡ slice_get told j
    before j less = ap (λ l. slice_get l j) (sym to.whole) ∙ get_before told (calls_by p (drop place log)) at j less long

    here_is : slice_get (calls_by p log) at ≡ slice_get (calls_by p (drop place log)) 0
    here_is = ap (λ l. slice_get l at) (sym to.whole) ∙ get_at told (calls_by p (drop place log)) at long

    module _ (end : length log ≤ place) where
      nothing : calls_by p (drop place log) ≡ []
      nothing = ap (calls_by p) (drop_all place log end)

      pub told-more : at < length own → DiffersFirstAt (calls_by p log) told at
      told-more less = (
        (λ same. let c = there_below told at (let l = length-mapped replied own in omega arith) in let none = here_is ∙ ap (λ l. slice_get l 0) nothing in cc),
        before,
      )

      pub told-all : length own ≤ at → calls_by p log ≡ told
      told-all full =
          sym to.whole ∙ ap (λ l. take at told ++ l) nothing ∙ append-nil (take at told) ∙ take_all at told (let l = length-mapped replied own in omega arith)

    module _ (e : Entry ℕ ℕ) (here : slice_get log place ≡ Some e) where
      rest_is : calls_by p (drop place log) ≡ cond (e.call.process == p) ((e.call.inv, e.response) ∷ calls_by p (drop (suc place) log)) (calls_by p (drop (suc place) log))
      rest_is = ap (calls_by p) (drop-here log place e here)

      further : drop (place + 1) log ≡ drop (suc place) log
      further = let s : place + 1 ≡ suc place = omega arith in ap (λ k. drop k log) s

      pub told-other : e.call.process ≢ p → AreTold (place + 1) at
      told-other other = elim (number_cases e.call.process p) [
        | inl same ↦ absurd (other same.0)
        | inr apart ↦ record {
          within = to.within;
          whole = ap (λ l. take at told ++ calls_by p l) further
              ∙ (ap (λ l. take at told ++ l) (sym (rest_is ∙ ap (λ b. cond b ((e.call.inv, e.response) ∷ calls_by p (drop (suc place) log)) (calls_by p (drop (suc place) log))) apart.1)) ∙ to.whole);
        }
      ]

      module _ (its : e.call.process ≡ p) where
        mine : calls_by p (drop place log) ≡ (e.call.inv, e.response) ∷ calls_by p (drop (suc place) log)
        mine = elim (number_cases e.call.process p) [
          | inl same ↦ rest_is ∙ ap (λ b. cond b ((e.call.inv, e.response) ∷ calls_by p (drop (suc place) log)) (calls_by p (drop (suc place) log))) same.1
          | inr apart ↦ absurd (apart.0 its)
        ]

        pub told-next : slice_get told at ≡ Some (e.call.inv, e.response) → AreTold (place + 1) (at + 1)
        told-next same = record {
          within = elim (lt_cases at (length own)) [
            | inl less ↦ (let l = less.0 in omega arith)
            | inr past ↦ absurd (let none = slice_get-past told at (let l = length-mapped replied own in let p = past.0 in omega arith) in cc)
          ];
          whole = ap (λ l. take (at + 1) told ++ calls_by p l) further
              ∙ (ap (λ k. take k told ++ calls_by p (drop (suc place) log)) (let s : at + 1 ≡ suc at = omega arith in s)
              ∙ (ap (λ l. l ++ calls_by p (drop (suc place) log)) (take-further told at (e.call.inv, e.response) same)
              ∙ (append_assoc (take at told) ((e.call.inv, e.response) ∷ []) (calls_by p (drop (suc place) log))
              ∙ (ap (λ l. take at told ++ l) (sym mine) ∙ to.whole))));
        }

        pub told-otherwise : (slice_get told at ≡ Some (e.call.inv, e.response) → ⊥) → DiffersFirstAt (calls_by p log) told at
        told-otherwise not = ((λ same. not (sym same ∙ (here_is ∙ ap (λ l. slice_get l 0) mine))), before)

-- what an index outside a list would give
abbrev pub no_entry : WordEntry
no_entry = record { seq = 0; call = record { process = 0; nth = 0 }; inv = 0; reply = None }

module _ (object : Sequential ℕ ℕ ℕ) (log : List (Entry ℕ ℕ)) (lists : List (List (ℕ × ℕ))) where
  -- the lists of the processes before this one are what the log has
  abbrev pub AreListed : ℕ → Type 0
  AreListed process = (q : ℕ) (own : List (ℕ × ℕ)) → q < process → slice_get lists q ≡ Some own → calls_by q log ≡ map replied own

  pub listed-start : AreListed 0
  listed-start q own less at = absurd (omega arith)

  pub listed-further : (process : ℕ) → AreListed process → (own : List (ℕ × ℕ)) → slice_get lists process ≡ Some own → calls_by process log ≡ map replied own → AreListed (process + 1)
  listed-further process before own here same q calls less at = elim (number_cases q process) [
    | inl is ↦
        let one : own ≡ calls = (let f : Some own ≡ Some calls = sym here ∙ (ap (slice_get lists) (sym is.0) ∙ at) in cc) in
        ap (λ k. calls_by k log) is.0 ∙ same ∙ ap (map replied) one
    | inr other ↦ before q calls (let o = other.0 in omega arith) at
  ]

  pub agrees-all : ((place : ℕ) → IsRight object log (length lists) place) → (process : ℕ) → length lists ≤ process → AreListed process → Agrees object log lists
  agrees-all right process all listed = record {
    right = right;
    calls = λ p own at. elim (lt_cases p process) [
      | inl less ↦ listed p own less.0 at
      | inr past ↦ absurd (let none = slice_get-past lists p (let h = past.0 in omega arith) in cc)
    ];
  }

  pub other-differs : (call : CallId) → IsFirstOther log lists call → Agrees object log lists → ⊥
  other-differs call first agrees = first.other.0 (ap (λ l. slice_get l call.nth) (agrees.calls call.process first.own first.here))
