-- The workers of a run, from their jobs.
use Rattle.std.specs.Prelude.{◌≡◌, ◌≢◌, ℕ, zero, suc, ◌+◌, ◌<◌, List, [], ◌∷◌, ◌++◌, length, map, reverse, All, slice_index_or, Option, Result}
use Rattle.std.proofs.Common.{refl, sym, ap, ◌∙◌, subst, arith, append_assoc}
use Rattle.std.proofs.lemmas.List.{length-map, length-reverse, get_or-map, map-append, reverse-append, append-nil}
use Rattle.std.proofs.lemmas.List.Elements.{All-nil, All-cons, All-head, All-tail}
use Rattle.atomic_table.specs.Seated.{TableId}
use Rattle.lg_model.specs.Placing.{Shape}
use Rattle.column_book.specs.declared.entry.Entry.{Entry}
use Rattle.uploader_core.specs.declared.state.SeqState.{SeqState}
use Rattle.lock_rule.specs.declared.view.Doing.TheVariants.{Idle}
use Rattle.lock_rule.specs.declared.view.Joined.{Joined}
use Rattle.lock_rule.specs.declared.view.View.{View}
use Rattle.lock_rule.specs.Closing.{Closes}
use Rattle.lock_rule.specs.Views.{of, new_pass, joined_of}
use Rattle.shared_book.specs.Passes.{Joins, PassState}
use Rattle.upload_world.specs.declared.fault.WorkFault.{WorkFault}
use Rattle.upload_world.specs.Pumping.{IsSame}
use Rattle.book_laws.specs.Workers.{Worker, AreJoined}
use Rattle.host_workers.specs.declared.sender.Sender.{Sender}
use Rattle.host_workers.specs.declared.sender.Job.{Job}
use Rattle.host_workers.specs.Working.{HasCallsFor, IsReady, Works, jobs_of, JoinsAll, outcome_of, IsWorkOf, HaveWorked}

-- ---- joining

turned_more : (ws : List View) (w : View) (js : List Joined)
    → reverse (map joined_of (ws ++ w ∷ [])) ++ js ≡ joined_of w ∷ (reverse (map joined_of ws) ++ js)
turned_more ws w js = ap (λ (xs : List Joined). xs ++ js)
    (ap (λ (xs : List Joined). reverse xs) (map-append joined_of ws (w ∷ [])) ∙ reverse-append (map joined_of ws) (joined_of w ∷ []))

pub joins_more : (v : View) (ws : List View) (u w x : View) → JoinsAll v ws u → Joins u w x → JoinsAll v (ws ++ w ∷ []) x
joins_more v ws u w x all one = record {
  number = ap (λ (y : View). y.number) one.after ∙ all.number;
  mark = ap (λ (y : View). y.mark) one.after ∙ all.mark;
  made = ap (λ (y : View). y.made) one.after ∙ all.made;
  joined = ap (λ (y : View). y.joined) one.after ∙ ap (λ (js : List Joined). joined_of w ∷ js) all.joined ∙ sym (turned_more ws w v.joined);
  own = subst (λ (n : ℕ). of n x.seen ≡ of n u.seen) all.number one.own ∙ all.own;
}

-- The senders that are given back, with one more.
pub senders_more : (done more : List Sender) (given : List Job) (j : Job) → more ≡ done ++ j.sender ∷ [] → done ≡ map (λ (x : Job). x.sender) given
    → more ≡ map (λ (x : Job). x.sender) (given ++ j ∷ [])
senders_more done more given j is before =
    is ∙ ap (λ (ss : List Sender). ss ++ j.sender ∷ []) before ∙ sym (map-append (λ (x : Job). x.sender) given (j ∷ []))

-- One job more is given of the same jobs.
pub given_more : (given old rest all : List Job) (j : Job) → old ≡ j ∷ rest → given ++ old ≡ all → (given ++ j ∷ []) ++ rest ≡ all
given_more given old rest all j is before = append_assoc given (j ∷ []) rest ∙ ap (λ (js : List Job). given ++ js) (sym is) ∙ before

-- ---- the jobs of senders

jobs_length : (b : TableId) (seen : List Entry) (n : ℕ) (ss : List Sender) → length (jobs_of b seen n ss) ≡ length ss
jobs_length b seen n [] = refl
jobs_length b seen n (s ∷ ss) = let rest = jobs_length b seen (n + 1) ss in omega (arith, rest)

abbrev job_of : TableId → List Entry → ℕ → Sender → Job
job_of b seen n s = record { pass = record { book = b; view = new_pass n Idle seen 0 }; sender = s }

jobs_at : (b : TableId) (seen : List Entry) (n : ℕ) (ss : List Sender) (i : ℕ) (d : Job) (s : Sender) → i < length ss
    → slice_index_or (jobs_of b seen n ss) i d ≡ job_of b seen (i + n) (slice_index_or ss i s)
jobs_at b seen n [] i d s low = absurd (omega (arith, low))
jobs_at b seen n (x ∷ ss) zero d s low = let e : n ≡ 0 + n = omega arith in ap (λ (m : ℕ). job_of b seen m x) e
jobs_at b seen n (x ∷ ss) (suc i) d s low =
    let e : i + (n + 1) ≡ suc i + n = omega arith in
    jobs_at b seen (n + 1) ss i d s (omega (arith, low)) ∙ ap (λ (m : ℕ). job_of b seen m (slice_index_or ss i s)) e

jobs_ready : (b : TableId) (seen : List Entry) (n : ℕ) (ss : List Sender) → All HasCallsFor ss → All (IsReady b) (jobs_of b seen n ss)
jobs_ready b seen n [] all = All-nil (IsReady b)
jobs_ready b seen n (s ∷ ss) all =
    let r : HasCallsFor s = All-head HasCallsFor s ss all in
    All-cons (IsReady b) (job_of b seen n s) (jobs_of b seen (n + 1) ss)
    (record { book_is = refl; calls = let c = r.calls in omega (arith, c); none = r.none })
    (jobs_ready b seen (n + 1) ss (All-tail HasCallsFor s ss all))

split_jobs : (b : TableId) (first : List Entry) (v : View) (before : List Sender) (jobs : List Job) → jobs ≡ jobs_of b v.seen 2 before
    → v ≡ new_pass 1 Idle first 1 → jobs ≡ jobs_of b first 2 before
split_jobs b first v before jobs is view = is ∙ ap (λ (x : View). jobs_of b x.seen 2 before) view

pub split_ready : (b : TableId) (first : List Entry) (v : View) (before : List Sender) (jobs : List Job) → jobs ≡ jobs_of b v.seen 2 before
    → v ≡ new_pass 1 Idle first 1 → All HasCallsFor before → All (IsReady b) jobs
split_ready b first v before jobs is view calls =
    subst (λ (js : List Job). All (IsReady b) js) (sym (split_jobs b first v before jobs is view)) (jobs_ready b first 2 before calls)

-- The first pass before the joins.
start_view : (first : List Entry) (n : ℕ) (p q : PassState) → q ≡ record p { view = record p.view { made = n } }
    → p.view ≡ new_pass 1 Idle first 1 → q.view ≡ new_pass 1 Idle first n
start_view first n p q is view = ap (λ (x : PassState). x.view) is ∙ ap (λ (v : View). record v { made = n }) view

-- The joins, from the first pass as it came.
pub joined_from : (first : List Entry) (n : ℕ) (p q : PassState) (ws : List View) (u : View) → q ≡ record p { view = record p.view { made = n } }
    → p.view ≡ new_pass 1 Idle first 1 → JoinsAll q.view ws u → JoinsAll (new_pass 1 Idle first n) ws u
joined_from first n p q ws u is view joins = subst (λ (v : View). JoinsAll v ws u) (start_view first n p q is view) joins

-- An item of a list that has one.
some_item : {X : Type 0} (xs : List X) (i : ℕ) → i < length xs → X
some_item [] i low = absurd (omega (arith, low))
some_item (x ∷ xs) i low = x

-- ---- the workers

abbrev pub worker_of : Job → Worker
worker_of j = record { view = j.pass.view; states = j.sender.uploader.states; result = j.sender.result }

abbrev views : List Job → List View
views js = map (λ (j : Job). j.pass.view) js

worker_views : (js : List Job) → map joined_of (views js) ≡ map (λ (p : Worker). joined_of p.view) (map worker_of js)
worker_views [] = refl
worker_views (j ∷ js) = ap (λ (xs : List Joined). joined_of j.pass.view ∷ xs) (worker_views js)

outcomes : (js : List Job) → map (λ (p : Worker). (p.states, p.result)) (map worker_of js) ≡ map outcome_of (map (λ (j : Job). j.sender) js)
outcomes [] = refl
outcomes (j ∷ js) = ap (λ (xs : List (List SeqState × Result (Unit {0}) WorkFault)). (j.sender.uploader.states, j.sender.result) ∷ xs) (outcomes js)

-- The first pass, when all are joined into it.
pub are_joined : (first : List Entry) (n : ℕ) (js : List Job) (u : View) → length js ≡ n → JoinsAll (new_pass 1 Idle first (n + 1)) (views js) u
    → AreJoined first u (map worker_of js)
are_joined first n js u many joins = record {
  number = joins.number;
  made = let m = joins.made in let l = length-map js worker_of in omega (arith, m, l, many);
  joined = joins.joined ∙ append-nil (reverse (map joined_of (views js))) ∙ ap (λ (xs : List Joined). reverse xs) (worker_views js);
  own = joins.own;
  clear = joins.mark;
}

pub all_joined : (first : List Entry) (u : View) (ps : List Worker) → AreJoined first u ps → length u.joined + 1 ≡ u.made
all_joined first u ps a =
    let made = a.made in
    let joined = ap (λ (js : List Joined). length js) a.joined in
    let turned = length-reverse (map (λ (p : Worker). joined_of p.view) ps) in
    let mapped = length-map ps (λ (p : Worker). joined_of p.view) in
    omega (arith, made, joined, turned, mapped)

-- ---- after the workers

-- The jobs of these senders, and what became of them.
pub record Ran (shape : Shape) (room : ℕ) (b : TableId) (first : List Entry) (before : List Sender) (jobs : List Job) : Type 0 where
  pub many : length jobs ≡ length before
  pub works : (i : ℕ) (d : Job) → i < length before → Works shape room (slice_index_or (jobs_of b first 2 before) i d) (slice_index_or jobs i d)

pub ran : (shape : Shape) (room : ℕ) (b : TableId) (first : List Entry) (before : List Sender) (v : View) (old new : List Job)
    → old ≡ jobs_of b v.seen 2 before → v ≡ new_pass 1 Idle first 1 → length new ≡ length old
    → ((i : ℕ) (d : Job) → i < length old → Works shape room (slice_index_or old i d) (slice_index_or new i d)) → Ran shape room b first before new
ran shape room b first before v old new is view long works =
    let split = split_jobs b first v before old is view in
    let len : length old ≡ length before = ap (λ (js : List Job). length js) split ∙ jobs_length b first 2 before in
    record {
      many = long ∙ len;
      works = λ i d low.
          subst (λ (js : List Job). Works shape room (slice_index_or js i d) (slice_index_or new i d)) split (works i d (omega (arith, low, len)));
    }

module _ (shape : Shape) (room : ℕ) (b : TableId) (first : List Entry) (before : List Sender) (jobs : List Job)
    (r : Ran shape room b first before jobs) where
  works_at : (i : ℕ) (d : Job) (s : Sender) → i < length before
      → Works shape room (job_of b first (i + 2) (slice_index_or before i s)) (slice_index_or jobs i d)
  works_at i d s low = subst (λ (j : Job). Works shape room j (slice_index_or jobs i d)) (jobs_at b first 2 before i d s low) (r.works i d low)

  numbers : (i : ℕ) (d : Job) → i < length before → (slice_index_or jobs i d).pass.view.number ≡ i + 2
  numbers i d low = ap (λ (v : View). v.number) (works_at i d d.sender low).pumps.same

  pub others : All (λ (j : Job). (j.pass.book ≡ b) × (j.pass.view.number ≢ 1)) jobs
  others = λ i d inside.
      let many = r.many in
      let low : i < length before = omega (arith, inside, many) in
      ((works_at i d d.sender low).book_is, λ one. absurd (let n = numbers i d low in omega (arith, n, one)))

  -- What the work of one job was, seen from its sender.
  work_is : (i : ℕ) (d : Job) (s : Sender) → i < length before
      → IsWorkOf shape room (i + 2) first (slice_index_or before i s) (worker_of (slice_index_or jobs i d))
  work_is i d s low =
      let w = works_at i d s low in
      record { paired = w.uploader.paired ∙ ap (λ us. length us) w.same.uploads; pumps = w.pumps }

  worked_here : (u : View) (entries : List Entry) (fault : Option Entry)
      → JoinsAll (new_pass 1 Idle first (length before + 1)) (views jobs) u → Closes first u entries fault
      → HaveWorked shape room first before (map (λ (j : Job). j.sender) jobs) entries fault
  worked_here u entries fault joins closes =
      let many = r.many in
      record {
        workers = map worker_of jobs;
        view = u;
        many = length-map jobs worker_of ∙ many;
        each = λ i s d low.
            let inside : i < length jobs = omega (arith, low, many) in
            let dummy : Job = some_item jobs i inside in
            subst (λ (p : Worker). IsWorkOf shape room (i + 2) first (slice_index_or before i s) p)
            (sym (get_or-map worker_of jobs i dummy d inside)) (work_is i dummy s low);
        joined = are_joined first (length before) jobs u many joins;
        closes = closes;
        back = length-map jobs (λ (j : Job). j.sender) ∙ many;
        same = λ i s low.
            let inside : i < length jobs = omega (arith, low, many) in
            let dummy : Job = some_item jobs i inside in
            subst (λ (x : Sender). IsSame (slice_index_or before i s).uploader x.uploader)
            (sym (get_or-map (λ (j : Job). j.sender) jobs i dummy s inside)) (works_at i dummy s low).same;
        ended = outcomes jobs;
      }

  -- What the workers and the closed journal say together.
  pub worked : (u : View) (after : List Sender) (entries : List Entry) (fault : Option Entry)
      → JoinsAll (new_pass 1 Idle first (length before + 1)) (views jobs) u → after ≡ map (λ (j : Job). j.sender) jobs → Closes first u entries fault
      → HaveWorked shape room first before after entries fault
  worked u after entries fault joins is closes =
      subst (λ (ss : List Sender). HaveWorked shape room first before ss entries fault) (sym is) (worked_here u entries fault joins closes)
