-- The laws of `==` of an enum: a variant owes one line, however many there are.
--
-- `same_inv` and `same_resp` of an object are `exact_by_cases _ (elim [ .. ])`, with a line for each variant:
--   V ↦ (refl, elim [ V ↦ λ e. refl | _ ↦ other ])                              a variant with no field
--   V a ↦ (itself_one a, elim [ V x ↦ only_one V a x | _ ↦ other ])              with a number
--   V a b ↦ (itself_two a b, elim [ V x y ↦ only_two V a b x y | _ ↦ other ])    with two, and so for three
-- An enum of one variant alone leaves `| _ ↦ other` out.
use Rattle.std.specs.Prelude.{◌≡◌, ◌↔◌, ℕ, ◌==◌, ◌&&◌, Bool, true, false, List, refl}
use Rattle.std.proofs.Common.{subst, ap, ◌∙◌, eqb-true, eq-eqb}
use Rattle.std.specs.Cmp.Lexicographic.{bytes_decides}
use Rattle.std.specs.Str.{bytes_eq}
use Rattle.std.proofs.lemmas.Bool.{and_parts, and_from, false≢true}

-- a test is exact where each value passes it beside itself, and beside no other value
pub exact_by_cases : {A : Type 0} (eq : A → A → Bool) → ((a : A) → (eq a a ≡ true) × ((b : A) → eq a b ≡ true → a ≡ b)) → (a b : A) → (eq a b ≡ true) ↔ (a ≡ b)
exact_by_cases eq cases a b = ((cases a).1 b, λ e. subst (λ x. eq a x ≡ true) e (cases a).0)

-- two values of other variants don't pass
pub other : {A : Type 0} {a b : A} → false ≡ true → a ≡ b
other e = absurd (false≢true e)

-- a number
pub itself_one : (a : ℕ) → (a == a) ≡ true
itself_one a = eq-eqb a a refl

pub only_one : {A : Type 0} (f : ℕ → A) (a x : ℕ) → (a == x) ≡ true → f a ≡ f x
only_one f a x e = ap f (eqb-true a x e)

-- two numbers
pub itself_two : (a b : ℕ) → ((a == a) && (b == b)) ≡ true
itself_two a b = and_from (a == a) (b == b) (itself_one a) (itself_one b)

pub only_two : {A : Type 0} (f : ℕ → ℕ → A) (a b x y : ℕ) → ((a == x) && (b == y)) ≡ true → f a b ≡ f x y
only_two f a b x y e =
    let parts = and_parts (a == x) (b == y) e in
    ap (λ n. f n b) (eqb-true a x parts.0) ∙ only_one (f x) b y parts.1

-- three numbers
pub itself_three : (a b c : ℕ) → ((a == a) && ((b == b) && (c == c))) ≡ true
itself_three a b c = and_from (a == a) ((b == b) && (c == c)) (itself_one a) (itself_two b c)

pub only_three : {A : Type 0} (f : ℕ → ℕ → ℕ → A) (a b c x y z : ℕ) → ((a == x) && ((b == y) && (c == z))) ≡ true → f a b c ≡ f x y z
only_three f a b c x y z e =
    let parts = and_parts (a == x) ((b == y) && (c == z)) e in
    ap (λ n. f n b c) (eqb-true a x parts.0) ∙ only_two (f x) b c y z parts.1

-- a text
pub itself_text : (name : List ℕ) → bytes_eq name name ≡ true
itself_text name = (bytes_decides name name).1 refl

pub only_text : {A : Type 0} (f : List ℕ → A) (a b : List ℕ) → bytes_eq a b ≡ true → f a ≡ f b
only_text f a b e = ap f ((bytes_decides a b).0 e)

-- a text and a number
pub itself_named : (name : List ℕ) (v : ℕ) → (bytes_eq name name && (v == v)) ≡ true
itself_named name v = and_from (bytes_eq name name) (v == v) (itself_text name) (itself_one v)

pub only_named : {A : Type 0} (f : List ℕ → ℕ → A) (a : List ℕ) (v : ℕ) (b : List ℕ) (w : ℕ) → (bytes_eq a b && (v == w)) ≡ true → f a v ≡ f b w
only_named f a v b w e =
    let parts = and_parts (bytes_eq a b) (v == w) e in
    only_text (λ name. f name v) a b parts.0 ∙ only_one (f b) v w parts.1
