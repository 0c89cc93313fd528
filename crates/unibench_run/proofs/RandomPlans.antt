-- What words ask for has numbers that are in range.
use Rattle.unibench_run.proofs.Vocabulary.{Bool, Explained, IsHistoryLimit, IsInRange, IsPlan, IsThreadsPlan, Language, List, None, Option, Plan, Random, Replay, Request, Row, Some, Text, Threads, codes, first_of, form_named, if◌then◌else◌, number_in, object_named, object_of_word, option_and_then, option_map, options_of, plan_of, plan_with, random_of, random_with, refl, request_in, subject_of, subst, true, false, value_in-range, value_of, ℕ, ◌≡◌, ◌≤◌}
use Rattle.std.specs.Str.{bytes_eq}
use Rattle.std.specs.Str.Parse.{without_leading_plus}
use Rattle.uni_script.specs.declared.options.Options.{Options}
use Rattle.uni_script.specs.declared.grammar.ObjectName.{ObjectName}
use Rattle.command_line.specs.Flags.{is_set}
use Rattle.unibench_run.specs.declared.request.Form.{Form}
use Rattle.unibench_run.specs.declared.request.ThreadsObject.{ThreadsObject}
use Rattle.unibench_run.specs.declared.request.RandomPlan.{RandomPlan}

read-range : (least most : ℕ) (text : Option Text) (n : ℕ) → option_and_then (number_in least most) text ≡ Some n → (least ≤ n) × (n ≤ most)
read-range least most None n e = absurd (let bad : None ≡ Some n = e in cc)
read-range least most (Some t) n e = value_in-range least most (without_leading_plus t) n e

-- what holds of a value holds of the same value
pub same_some : {A : Type 0} (P : A → Type 0) (x y : A) → Some x ≡ Some y → P x → P y
same_some P x y e p = subst P (let same : x ≡ y = cc in same) p

-- what holds of whatever is made of a value that is there
made_of : {A B : Type 0} (P : B → Type 0) (make : A → B) (o : Option A) (b : B) → ((a : A) → o ≡ Some a → P (make a)) → option_map make o ≡ Some b → P b
made_of P make None b each e = absurd (let bad : None ≡ Some b = e in cc)
made_of P make (Some a) b each e = same_some P (make a) b e (each a refl)

random_with-IsPlan : (object : Option ObjectName) (processes row events seed : Option ℕ) (plan : RandomPlan)
    → ((n : ℕ) → processes ≡ Some n → (1 ≤ n) × (n ≤ 64)) → ((k : ℕ) → row ≡ Some k → (1 ≤ k) × (k ≤ 4096))
    → ((m : ℕ) → events ≡ Some m → (1 ≤ m) × (m ≤ 99000)) → random_with object processes row events seed ≡ Some plan → IsPlan plan.schedule
random_with-IsPlan (Some o) (Some n) (Some k) (Some m) (Some s) plan few short drawn e =
    let ns = few n refl in
    let ks = short k refl in
    let ms = drawn m refl in
    same_some (λ (p : RandomPlan). IsPlan p.schedule) _ plan e (ns.0, ns.1, ks.0, ks.1, ms.0, ms.1)
random_with-IsPlan _ _ _ _ _ plan few short drawn e = absurd (let bad : None ≡ Some plan = e in cc)

random_of-IsPlan : (rows : List Row) (plan : RandomPlan) → random_of rows ≡ Some plan → IsPlan plan.schedule
random_of-IsPlan rows plan is =
    random_with-IsPlan (value_of object_of_word (codes "object") rows) _ _ _ _ plan
    (read-range 1 64 (first_of (codes "processes") rows)) (read-range 1 4096 (first_of (codes "row") rows)) (read-range 1 99000 (first_of (codes "events") rows)) is

plan_with-IsThreadsPlan : (form : Option Form) (object : Option ThreadsObject) (processes calls seed : Option ℕ) (plan : Plan)
    → ((n : ℕ) → processes ≡ Some n → (1 ≤ n) × (n ≤ 64)) → ((c : ℕ) → calls ≡ Some c → (1 ≤ c) × (c ≤ 10000000))
    → plan_with form object processes calls seed ≡ Some plan → IsThreadsPlan plan
plan_with-IsThreadsPlan (Some f) (Some o) (Some n) (Some c) (Some s) plan few short e =
    let ns = few n refl in
    let cs = short c refl in
    same_some IsThreadsPlan _ plan e (ns.0, ns.1, cs.0, cs.1)
plan_with-IsThreadsPlan _ _ _ _ _ plan few short e = absurd (let bad : None ≡ Some plan = e in cc)

plan_of-IsThreadsPlan : (rows : List Row) (plan : Plan) → plan_of rows ≡ Some plan → IsThreadsPlan plan
plan_of-IsThreadsPlan rows plan is =
    plan_with-IsThreadsPlan (value_of form_named (codes "form") rows) (value_of object_named (codes "object") rows) _ _ _ plan
    (read-range 1 64 (first_of (codes "processes") rows)) (read-range 1 10000000 (first_of (codes "calls") rows)) is

options_of-IsHistoryLimit : (rows : List Row) (options : Options) → options_of rows ≡ Some options → IsHistoryLimit options.history
options_of-IsHistoryLimit rows options is =
    made_of (λ (p : Options). IsHistoryLimit p.history) _ (value_of (number_in 1 16777216) (codes "history") rows) options
    (read-range 1 16777216 (first_of (codes "history") rows)) is

-- by the name of the subcommand, and by whether a bad line is to be explained
in_range-by : (rows : List Row) (r : Request) (random threads language explained : Bool)
    → (if random then option_map Random (random_of rows) else if threads then option_map Threads (plan_of rows)
    else if language then option_map Language (subject_of rows) else option_map (if explained then Explained else Replay) (options_of rows)) ≡ Some r
    → IsInRange r
in_range-by rows r true _ _ _ e = made_of IsInRange Random (random_of rows) r (random_of-IsPlan rows) e
in_range-by rows r false true _ _ e = made_of IsInRange Threads (plan_of rows) r (plan_of-IsThreadsPlan rows) e
in_range-by rows r false false true _ e = made_of IsInRange Language (subject_of rows) r (λ _ _. tt) e
in_range-by rows r false false false true e = made_of IsInRange Explained (options_of rows) r (options_of-IsHistoryLimit rows) e
in_range-by rows r false false false false e = made_of IsInRange Replay (options_of rows) r (options_of-IsHistoryLimit rows) e

pub in_range-asked : (o : Option (Text × List Row)) (r : Request) → request_in o ≡ Some r → IsInRange r
in_range-asked None r e = absurd (let bad : None ≡ Some r = e in cc)
in_range-asked (Some (name, rows)) r e =
    in_range-by rows r (bytes_eq name (codes "random")) (bytes_eq name (codes "threads")) (bytes_eq name (codes "language")) (is_set (codes "explain") rows) e
