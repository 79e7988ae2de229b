-- The steps of a turn: to draw a ticket, to look whether it is serving, to begin one more call, and to pass the turn on.
use Rattle.std.proofs.Common.{◌≡◌, ◌≢◌, ℕ, ◌+◌, ◌%◌, ◌^◌, ◌<◌, ◌≤◌, true, List, [], ◌∷◌, length, set, refl, ap, sym, ◌∙◌, subst, arith, Option, Some, None, slice_index}
use mathlib.Core.Logic.{dite}
use mathlib.Core.List.{IsPrefix}
use mathlib.Core.Option.{some, none, some-injective, some-ne-none}
use mathlib.Core.Option as maybe
use native.Mathlib.Decide.{ℕ_discrete}
use lib.ListN.{get_elem?}
use lib.Seq.{set-get_or}
use Rattle.atomic_table.specs.Table.{State, Me, step, keeps, takes, gives, stepped, Allows}
use Rattle.atomic_table.proofs.Lists.{set_again}
use Rattle.column_book.specs.declared.entry.Entry.{Entry}
use Rattle.lock_rule.specs.declared.view.Doing.{Doing}
use Rattle.lock_rule.specs.declared.view.Doing.TheVariants.{Idle, Drew, Has}
use Rattle.lock_rule.specs.declared.view.Joined.{Joined}
use Rattle.lock_rule.specs.declared.view.View.{View}
use Rattle.lock_rule.specs.Views.{most_calls, of, HasTurn, ticket, tickets, calls, heads}
use Rattle.lock_rule.specs.Rules.{LockState, flag_of, FitsDoing, Fits, FitsJoined, Lies, Stands, Locked}
use Rattle.lock_rule.specs.Plays.{Took, drew, looked, began, passed}
use Rattle.lock_rule.proofs.Fronts.{prefix_self, prefix_whole, prefix_length}
use Rattle.lock_rule.proofs.Totals.{total_set, total_bound}
use Rattle.lock_rule.proofs.Staying.{put, put_here, put_else, set_there, some_stays, some_else, fits_stay, is_number_stays, carried_stays, faulty, few_calls, same_ticket, no_ticket, no_turn, turn_of, list_of, some_or, turn_holds}

module _ {J : Type 0} (first : List Entry) where
  -- a step of another pass that touches the tickets and the slot alone
  pub refit : (g : LockState J) (drawn serving : ℕ) (home : maybe.Option (Option J)) (holder : ℕ → ℕ) (j : ℕ) (x : View)
      → FitsDoing (record g { drawn = drawn; serving = serving; home = home; holder = holder }) j x.doing → Fits first g j x
      → Fits first (record g { drawn = drawn; serving = serving; home = home; holder = holder }) j x
  refit g drawn serving home holder j x d f = record {
    doing = d;
    seen = f.seen;
    from = f.from;
    mine = f.mine;
    owned = f.owned;
    alive = f.alive;
    low = f.low;
    high = f.high;
    head = f.head;
    tail = f.tail;
    few = f.few;
    mark = f.mark;
    still = f.still;
  }

  pub refit_joined : (g : LockState J) (drawn serving : ℕ) (home : maybe.Option (Option J)) (holder : ℕ → ℕ) (k : ℕ) (p : Joined) → FitsJoined first g k p
      → FitsJoined first (record g { drawn = drawn; serving = serving; home = home; holder = holder }) k p
  refit_joined g drawn serving home holder k p f = record {
    seen = f.seen;
    from = f.from;
    mine = f.mine;
    at = f.at;
    dead = f.dead;
    low = f.low;
    high = f.high;
    few = f.few;
    mark = f.mark;
    still = f.still;
  }

module _ {J : Type 0} where
  abbrev pub drawn_by : LockState J → ℕ → LockState J
  drawn_by g id = record g { drawn = g.drawn + 1; holder = put g.holder g.drawn id }

  draw_doing : (g : LockState J) (id j : ℕ) (d : Doing) → FitsDoing g j d → FitsDoing (drawn_by g id) j d
  draw_doing g id j Idle f = f
  draw_doing g id j (Drew t) f = let l = f.1 in (f.0, omega arith, put_else g.holder g.drawn id t (λ e. omega arith) ∙ f.2)
  draw_doing g id j (Has t l f) k = let m = k.1 in (k.0, omega arith, put_else g.holder g.drawn id t (λ e. omega arith) ∙ k.2, k.3, k.4, k.5)

  -- the slot is out, or in another's hand
  look_doing : (g : LockState J) (o : Option J) (j : ℕ) (d : Doing) → g.home ≡ some o → FitsDoing g j d → FitsDoing (record g { home = none }) j d
  look_doing g o j Idle at f = f
  look_doing g o j (Drew t) at f = f
  look_doing g o j (Has t l f) at k = absurd (some-ne-none o (sym at ∙ k.4))

  abbrev pub passed_on : LockState J → Option J → LockState J
  passed_on g o = record g { serving = g.serving + 1; home = some o }

  pass_doing : (g : LockState J) (o : Option J) (id j : ℕ) (d : Doing) → (j ≡ id → ⊥) → g.holder g.serving ≡ id → FitsDoing g j d → FitsDoing (passed_on g o) j d
  pass_doing g o id j Idle n here f = omega arith
  pass_doing g o id j (Drew t) n here f =
      let a = f.0 in let other : g.serving ≡ t → ⊥ = λ e. n (sym f.2 ∙ (ap g.holder (sym e) ∙ here)) in
      (dite (ℕ_discrete g.serving t) (λ e. absurd (other e)) (λ m. omega arith), f.1, f.2)
  pass_doing g o id j (Has t l f) n here k = absurd (n (sym k.2 ∙ (ap g.holder (sym k.0) ∙ here)))

module _ {J : Type 0} (entries : J → List Entry) (fault : J → Option Entry) (run : J → Type 0) (first : List Entry) where
  abbrev Rule : State (Option J) View → Type 0
  Rule = Locked entries fault run first

  abbrev M : Type 0
  M = Me (Option J) View

  pub bounded : (g : LockState J) (s : State (Option J) View) → Stands entries fault run first g s → g.drawn ≤ 279172874176
  bounded g s r = let a = total_bound calls heads most_calls s.views (λ j v e. few_calls first g r.joined j v (r.views j v e)) in
      let b = r.drawn in let c = r.counted in let d = r.most in omega arith

  pub draws : (slots id : ℕ) (me : M) → me.0.live ≡ true → me.0.doing ≡ Idle → me.0.begun < most_calls
      → Allows Rule slots id me 0 (λ n. (n + 1) % 2 ^ 64) (drew entries fault run (step slots 0 1 0 none) me)
  draws slots id me alive idle room s h deep at fit =
      let g = h.0 in let r = h.1 in let v : View = me.0 in let was = (r.views id v at).0 alive in
      let g' : LockState J = drawn_by g id in
      let w : View = record v { doing = Drew g.drawn; begun = v.begun + 1 } in
      let found : slice_index s.words 0 ≡ g.drawn = ap (λ (ws : List ℕ). slice_index ws 0) r.words in
      let most = bounded g s r in
      let order = r.order in let waiting = r.waiting in let counts = r.drawn in
      let none_yet : tickets v ≡ 0 = ap (λ (d : Doing). tickets (record v { doing = d })) idle in
      let wait = total_set tickets s.views id v w at in
      let call = total_set calls s.views id v w at in
      let head = total_set heads s.views id v w at in
      let serving : 0 < g.serving = subst (FitsDoing g id) idle was.doing in (
        w,
        keeps,
        tt,
        (
          g',
          record {
            words = ap (λ (ws : List ℕ). set ws 0 ((slice_index ws 0 + 1) % 2 ^ 64)) r.words
                ∙ ap (λ (n : ℕ). n ∷ g.serving ∷ length g.list ∷ flag_of g.fault ∷ []) (let m : (g.drawn + 1) % 18446744073709551616 ≡ g.drawn + 1 = omega arith in m);
            homes = r.homes;
            order = omega arith;
            waiting = omega arith;
            held = λ t a b. dite (ℕ_discrete t g.drawn)
                (λ e. (id, w, set_there s.views id v w at, alive, ap (λ (n : ℕ). Some n) (sym e)))
                (λ n. some_else (λ (x : View). ticket x.doing ≡ Some t) s.views id v w at (no_ticket t v.doing idle) (r.held t a (omega arith)));
            home = r.home;
            away = λ out. some_else (λ (x : View). HasTurn x.doing) s.views id v w at (no_turn v.doing idle) (r.away out);
            views = fits_stay first g g' s.views id v w at was alive
                record {
                  doing = (order, (let l : g.drawn < g.drawn + 1 = omega arith in l), put_here g.holder g.drawn id);
                  seen = was.seen;
                  from = was.from;
                  mine = was.mine;
                  owned = was.owned;
                  alive = was.alive;
                  low = was.low;
                  high = was.high;
                  head = was.head;
                  tail = was.tail;
                  few = (let l : v.begun + 1 ≤ most_calls = omega arith in l);
                  mark = was.mark;
                  still = λ k n. was.still k (no_turn v.doing idle);
                }
                (λ j x n m f. refit first g g'.drawn g.serving g.home g'.holder j x (draw_doing g id j x.doing f.doing) f) r.views;
            joined = λ k p e. refit_joined first g g'.drawn g.serving g.home g'.holder k p (r.joined k p e);
            numbers = λ n a b. is_number_stays g g' s.views id v w at alive refl refl n (r.numbers n a b);
            begins = r.begins;
            strangers = r.strangers;
            carried = λ e k. carried_stays g g' s.views id v w at alive (λ d m. m) refl e (r.carried e k);
            drawn = omega arith;
            counted = (let c = r.counted in omega arith);
            most = r.most;
          },
        ),
        (
          subst (λ (n : ℕ). 0 < n) (sym found) (omega arith),
          ap (λ (n : ℕ). let x : View = record v { doing = Drew n; begun = v.begun + 1 } in x) (sym found),
          refl,
        ),
      )

  pub looks : (slots id : ℕ) (me : M) (t : ℕ) → me.0.live ≡ true → me.0.doing ≡ Drew t
      → Allows Rule slots id me 1 (λ n. n) (looked entries fault run (step slots 1 0 0 none) me)
  looks slots id me t alive is s h deep at fit =
      let g = h.0 in let r = h.1 in let v : View = me.0 in let was = (r.views id v at).0 alive in
      let n : ℕ = slice_index s.words 1 in
      let found : n ≡ g.serving = ap (λ (ws : List ℕ). slice_index ws 1) r.words in
      let mine : FitsDoing g id (Drew t) = subst (FitsDoing g id) is was.doing in
      let low = mine.0 in
      let early : n ≤ t = omega arith in
      let same : (u : ℕ) → me.0.doing ≡ Drew u → t ≡ u = λ u e. ap (turn_of 0) (sym is ∙ e) in
      dite (ℕ_discrete n t)
      (λ hit.
      let turn : g.serving ≡ t = sym found ∙ hit in
      let here : g.holder g.serving ≡ id = ap g.holder turn ∙ mine.2 in
      let there = some_or g.home (λ out. let a = r.away out in
      let seat : a.0 ≡ id = sym (turn_holds g a.0 (a.1).doing ((r.views a.0 a.1 a.2).0 a.3).doing a.4) ∙ here in
      let view : a.1 ≡ v = some-injective a.1 v (sym a.2 ∙ (ap (get_elem? s.views) seat ∙ at)) in
      subst HasTurn (ap (λ (x : View). x.doing) view ∙ is) a.4) in
      let slot : Option J = there.0 in
      let w : View = record v { doing = Has t g.list g.fault } in
      let g' : LockState J = record g { home = none } in
      let order = r.order in let waiting = r.waiting in let counts = r.drawn in let c = r.counted in
      let one : tickets v ≡ 1 = ap (λ (d : Doing). tickets (record v { doing = d })) is in
      let wait = total_set tickets s.views id v w at in
      let call = total_set calls s.views id v w at in
      let head = total_set heads s.views id v w at in (
        w,
        takes 0 slot,
        ap (λ (hs : List (maybe.Option (Option J))). get_elem? hs 0) r.homes ∙ ap (λ (o : maybe.Option (Option J)). some o) there.1,
        (
          g',
          record {
            words = ap (λ (ws : List ℕ). set ws 1 (slice_index ws 1)) r.words;
            homes = ap (λ (hs : List (maybe.Option (Option J))). set hs 0 none) r.homes;
            order = r.order;
            waiting = omega arith;
            held = λ u a b. some_stays (λ (x : View). ticket x.doing ≡ Some u) s.views id v w at alive (λ e. sym (ap ticket is) ∙ e) (r.held u a b);
            home = λ o e. absurd (some-ne-none o (sym e));
            away = λ _. (id, w, set_there s.views id v w at, alive, tt);
            views = fits_stay first g g' s.views id v w at was alive
                record {
                  doing = (turn, mine.1, mine.2, refl, refl, refl);
                  seen = was.seen;
                  from = was.from;
                  mine = was.mine;
                  owned = was.owned;
                  alive = was.alive;
                  low = was.low;
                  high = was.high;
                  head = was.head;
                  tail = was.tail;
                  few = was.few;
                  mark = was.mark;
                  still = λ k m. absurd (m tt);
                }
                (λ j x m o f. refit first g g.drawn g.serving none g.holder j x (look_doing g slot j x.doing there.1 f.doing) f) r.views;
            joined = λ k p e. refit_joined first g g.drawn g.serving none g.holder k p (r.joined k p e);
            numbers = λ m a b. is_number_stays g g' s.views id v w at alive refl refl m (r.numbers m a b);
            begins = r.begins;
            strangers = r.strangers;
            carried = λ e k. carried_stays g g' s.views id v w at alive (λ d m. m) refl e (r.carried e k);
            drawn = omega arith;
            counted = omega arith;
            most = r.most;
          },
        ),
        λ u e. subst (λ (x : ℕ). (n ≤ x) × ((n ≢ x) → (w, (0, slot) ∷ me.1) ≡ me) × (n ≡ x → Took entries fault run x me (w, (0, slot) ∷ me.1))) (same u e) (
          early,
          (λ m. absurd (m hit)),
          λ _. record {
            list = g.list;
            found = g.fault;
            slot = slot;
            view = refl;
            hand = refl;
            lies = lies_here g was turn slot (r.home slot there.1);
            marked = λ k. (sym (was.still k (λ m. subst HasTurn is m)), faulty g v.number v.mark was.mark k);
            seen = was.seen;
            mine = was.mine;
          },
        ),
      ))
      (λ miss. (
        v,
        keeps,
        tt,
        subst (λ (ws : List ℕ). Rule record { words = ws; homes = s.homes; views = set s.views id v }) (sym (set-get_or s.words 1 0))
            (subst (λ (vs : List View). Rule record { words = s.words; homes = s.homes; views = vs }) (sym (set_again s.views id v at)) h),
        λ u e. (subst (λ (x : ℕ). n ≤ x) (same u e) early, (λ _. refl), λ hit. absurd (miss (hit ∙ sym (same u e)))),
      ))
    where
      lies_here : (g : LockState J) → Fits first g id me.0 → g.serving ≡ t → (o : Option J) → Lies entries fault run first g.serving g.list g.fault o
          → Lies entries fault run me.0.seen t g.list g.fault o
      lies_here g was turn None l =
          let short : length g.list ≤ length me.0.seen = subst (λ (es : List Entry). length es ≤ length me.0.seen) (sym l.1) (prefix_length first me.0.seen was.from) in
          (sym turn ∙ l.0, sym (prefix_whole me.0.seen g.list was.seen short), l.2)
      lies_here g was turn (Some j) l = let a = l.0 in (omega arith, l.1, l.2, l.3)

  pub begins : (slots id : ℕ) (me : M) → me.0.live ≡ true → me.0.begun < most_calls
      → Allows Rule slots id me 1 (λ n. n) (began entries fault run (step slots 1 0 0 none) me)
  begins slots id me alive room s h deep at fit =
      let g = h.0 in let r = h.1 in let v : View = me.0 in let was = (r.views id v at).0 alive in
      let w : View = record v { begun = v.begun + 1 } in
      let waiting = r.waiting in let counts = r.drawn in let c = r.counted in
      let wait = total_set tickets s.views id v w at in
      let call = total_set calls s.views id v w at in
      let head = total_set heads s.views id v w at in (
        w,
        keeps,
        tt,
        (
          g,
          record {
            words = ap (λ (ws : List ℕ). set ws 1 (slice_index ws 1)) r.words;
            homes = r.homes;
            order = r.order;
            waiting = omega arith;
            held = λ u a b. some_stays (λ (x : View). ticket x.doing ≡ Some u) s.views id v w at alive (λ e. e) (r.held u a b);
            home = r.home;
            away = λ out. some_stays (λ (x : View). HasTurn x.doing) s.views id v w at alive (λ m. m) (r.away out);
            views = fits_stay first g g s.views id v w at was alive
                record {
                  doing = was.doing;
                  seen = was.seen;
                  from = was.from;
                  mine = was.mine;
                  owned = was.owned;
                  alive = was.alive;
                  low = was.low;
                  high = was.high;
                  head = was.head;
                  tail = was.tail;
                  few = (let l : v.begun + 1 ≤ most_calls = omega arith in l);
                  mark = was.mark;
                  still = was.still;
                }
                (λ j x m o f. f) r.views;
            joined = r.joined;
            numbers = λ n a b. is_number_stays g g s.views id v w at alive refl refl n (r.numbers n a b);
            begins = r.begins;
            strangers = r.strangers;
            carried = λ e k. carried_stays g g s.views id v w at alive (λ d m. m) refl e (r.carried e k);
            drawn = omega arith;
            counted = omega arith;
            most = r.most;
          },
        ),
        (refl, refl),
      )

  pub passes : (slots id : ℕ) (me : M) (t : ℕ) (l : List Entry) (f : Option Entry) (j : J) → me.0.live ≡ true → me.0.doing ≡ Has t l f → me.1 ≡ (0, Some j) ∷ []
      → entries j ≡ l → fault j ≡ f → run j
      → Allows Rule slots id me 1 (λ n. (n + 1) % 2 ^ 64) (passed entries fault run (step slots 1 1 0 none) me)
  passes slots id me t l f j alive is carried listed faulted runs s h deep at fit =
      let g = h.0 in let r = h.1 in let v : View = me.0 in let was = (r.views id v at).0 alive in
      let n : ℕ = slice_index s.words 1 in
      let mine : FitsDoing g id (Has t l f) = subst (FitsDoing g id) is was.doing in
      let turn = mine.0 in let late = mine.1 in
      let here : g.holder g.serving ≡ id = ap g.holder turn ∙ mine.2 in
      let w : View = record v { doing = Idle; seen = l } in
      let g' : LockState J = passed_on g (Some j) in
      let most = bounded g s r in
      let order = r.order in let waiting = r.waiting in let counts = r.drawn in let c = r.counted in
      let one : tickets v ≡ 1 = ap (λ (d : Doing). tickets (record v { doing = d })) is in
      let wait = total_set tickets s.views id v w at in
      let call = total_set calls s.views id v w at in
      let head = total_set heads s.views id v w at in (
        w,
        gives,
        tt,
        subst (λ (cs : List (ℕ × Option J)). Rule (stepped s 1 ((n + 1) % 2 ^ 64) id cs w gives)) (sym carried) (
          g',
          record {
            words = ap (λ (ws : List ℕ). set ws 1 ((slice_index ws 1 + 1) % 2 ^ 64)) r.words
                ∙ ap (λ (m : ℕ). g.drawn ∷ m ∷ length g.list ∷ flag_of g.fault ∷ []) (let m : (g.serving + 1) % 18446744073709551616 ≡ g.serving + 1 = omega arith in m);
            homes = ap (λ (hs : List (maybe.Option (Option J))). set hs 0 (some (Some j))) r.homes;
            order = omega arith;
            waiting = omega arith;
            held = λ u a b. some_else (λ (x : View). ticket x.doing ≡ Some u) s.views id v w at
                (λ e. let k : t ≡ u = same_ticket t u (sym (ap ticket is) ∙ e) in absurd (omega arith)) (r.held u (omega arith) b);
            home = λ o e. subst (Lies entries fault run first (g.serving + 1) g.list g.fault) (some-injective (Some j) o e) (omega arith, listed ∙ mine.3, faulted ∙ mine.5, runs);
            away = λ e. absurd (some-ne-none (Some j) e);
            views = fits_stay first g g' s.views id v w at was alive
                record {
                  doing = (let z : 0 < g.serving + 1 = omega arith in z);
                  seen = subst (λ (es : List Entry). IsPrefix es g.list) (sym mine.3) (prefix_self g.list);
                  from = subst (IsPrefix first) (sym mine.3) r.begins;
                  mine = ap (of v.number) (sym mine.3);
                  owned = was.owned;
                  alive = was.alive;
                  low = was.low;
                  high = was.high;
                  head = was.head;
                  tail = was.tail;
                  few = was.few;
                  mark = was.mark;
                  still = λ _ _. mine.3;
                }
                (λ i x m o p. refit first g g.drawn (g.serving + 1) (some (Some j)) g.holder i x (pass_doing g (Some j) id i x.doing m here p.doing) p) r.views;
            joined = λ k p e. refit_joined first g g.drawn (g.serving + 1) (some (Some j)) g.holder k p (r.joined k p e);
            numbers = λ m a b. is_number_stays g g' s.views id v w at alive refl refl m (r.numbers m a b);
            begins = r.begins;
            strangers = r.strangers;
            carried = λ e k. carried_stays g g' s.views id v w at alive (λ d m. m) refl e (r.carried e k);
            drawn = omega arith;
            counted = omega arith;
            most = r.most;
          },
        ),
        λ t' l' f' e. (ap (λ (es : List Entry). let x : View = record v { doing = Idle; seen = es } in x) (ap (list_of []) (sym is ∙ e)), refl),
      )
