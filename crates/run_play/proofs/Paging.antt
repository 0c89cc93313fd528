-- From the run of a script to its page.
use Rattle.run_play.proofs.Vocabulary.{[], AreCallsOf, AreEdges, END, Event, Global, IsGraph, IsPageOf, IsPageOfSession, IsPlayed, IsScriptRun, Language, List, MIDDLE, Option, START, Sequential, Vec, any_refused, false, graph_members, has_one_era, length, map, object_text, plan_of, page_text, session_of_record, subst, sym, true, ℕ, ◌≡◌, ◌≤◌}
use Rattle.uni_script.specs.Objects.{SpokenObject, spoken}
use Rattle.uni_script.specs.declared.grammar.Version.{Version}
use Rattle.uni_script.specs.declared.script_run.ScriptRun.{ScriptRun}
use Rattle.uni_script.specs.declared.script_run.ScriptRecord.{ScriptRecord}
use Rattle.uni_script.specs.declared.options.Options.{Options}
use Rattle.uni_script.specs.declared.options.Echo.TheVariants.{Off}

pub IsPlayed-run : (goal : List ℕ) (options : Options) (left : Option (List ℕ)) (run : ScriptRun ScriptRecord) → options ≡ record { history = 1048576; echo = Off } → IsScriptRun options left run → any_refused run.remarks.items ≡ false
    → (page : List ℕ) → ((version : Version) → IsPageOfSession goal (session_of_record version run.record) page) → IsPlayed goal left page
IsPlayed-run goal options left run same ran accepted page paged =
    let is = subst (λ o. IsScriptRun o left run) same ran in
    let of = is.3.2 in record {
      script = is.0;
      input = is.1;
      good = is.2;
      session = is.3.0;
      session_is = is.3.1;
      remarks = run.remarks.items;
      remarks_are = of.remarks_are;
      accepted = accepted;
      page_of = subst (λ b. IsPageOfSession goal b page) (sym of.session) (paged of.version);
    }

-- the same name
pub IsPageOf-named : {S I R : Type 0} {o : SpokenObject S I R} {text : S → List ℕ} {name name' goal : List ℕ} {n row number : ℕ} {events : List (Event I)} {page : List ℕ} → name ≡ name'
    → IsPageOf o text name goal n row number events page → IsPageOf o text name' goal n row number events page
IsPageOf-named {o = o} {text = text} {goal = goal} {n = n} {row = row} {number = number} {events = events} {page = page} same is = subst (λ (x : List ℕ). IsPageOf o text x goal n row number events page) same is

-- the page of a plan that has the object, the counts and the calls of a run
pub IsPageOf-plan : {O S I R : Type 0} (sequential : O → Sequential S I R) (l : Language I R) (text : S → List ℕ) (name goal : List ℕ) (object object' : O) (n n' row row' number : ℕ) (events : List (Event I))
    (calls : List (Vec I Global)) (paths : List (Vec ℕ Global)) (targets : List (Option ℕ)) (edges : List (Vec ℕ Global)) (page : List ℕ)
    → object' ≡ object → n' ≡ n → row' ≡ row → number ≡ 1 → has_one_era events ≡ true → AreCallsOf n events calls → length paths ≤ 20000
    → IsGraph (plan_of (sequential object') n' row' calls) paths targets → AreEdges (plan_of (sequential object') n' row' calls) l text paths targets edges
    → page ≡ page_text START.now [] MIDDLE.now (object_text (graph_members name n' row' (text (sequential object').initial) goal (map (λ (e : Vec ℕ Global). e.items) edges))) END.now
    → IsPageOf (spoken sequential l object) text name goal n row number events page
IsPageOf-plan {O} sequential l text name goal object object' n n' row row' number events calls paths targets edges page same_object same_n same_row from_1 one_era calls_are few graph edges_are is =
    subst (λ (m : ℕ). IsPageOf (spoken sequential l object) text name goal n m number events page) same_row
    (here (subst (λ (m : ℕ). AreCallsOf m events calls) (sym same_n) calls_are)) where
      made : AreCallsOf n' events calls → IsPageOf (spoken sequential l object') text name goal n' row' number events page
      made own = record {
        from_1 = from_1;
        one_era = one_era;
        calls = calls;
        calls_are = own;
        paths = paths;
        targets = targets;
        few = few;
        graph = graph;
        edges = edges;
        edges_are = edges_are;
        page_is = is;
      }

      here : AreCallsOf n' events calls → IsPageOf (spoken sequential l object) text name goal n row' number events page
      here own = subst (λ (m : ℕ). IsPageOf (spoken sequential l object) text name goal m row' number events page) same_n
          (subst (λ (x : O). IsPageOf (spoken sequential l x) text name goal n' row' number events page) same_object (made own))
