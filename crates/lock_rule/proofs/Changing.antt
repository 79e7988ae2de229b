-- The steps that change what lies behind the lock: to commit an entry, and to mark a broken journal.
use Rattle.std.proofs.Common.{◌≡◌, ◌⊎◌, ℕ, ◌+◌, ◌%◌, ◌^◌, ◌<◌, true, List, [], ◌∷◌, ◌++◌, length, length-append, set, refl, ap, sym, ◌∙◌, subst, arith, inl, ⊎_elim, Option, Some, None, slice_index}
use mathlib.Core.List.{IsPrefix}
use mathlib.Core.Option.{none, some-ne-none}
use Rattle.atomic_table.specs.Table.{Me, step, keeps, Allows}
use Rattle.column_book.specs.declared.entry.Entry.{Entry}
use Rattle.lock_rule.specs.declared.view.Doing.{Doing}
use Rattle.lock_rule.specs.declared.view.Doing.TheVariants.{Idle, Drew, Has}
use Rattle.lock_rule.specs.declared.view.Mark.{Mark}
use Rattle.lock_rule.specs.declared.view.Mark.TheVariants.{Clear, Seen, Carries}
use Rattle.lock_rule.specs.declared.view.View.{View}
use Rattle.lock_rule.specs.Views.{of, HasTurn, ticket, tickets, calls, heads}
use Rattle.lock_rule.specs.Rules.{LockState, flag_of, FitsDoing, FitsMark, Locked}
use Rattle.lock_rule.specs.Plays.{set_mark, mark_after, entries_held, fault_held, committed, broke}
use Rattle.lock_rule.proofs.Fronts.{prefix_self, prefix_trans, of_other}
use Rattle.lock_rule.proofs.Totals.{total_set}
use Rattle.lock_rule.proofs.Staying.{set_there, true_or_false, some_or_none, some_stays, fits_stay, is_number_stays, carried_stays, unmarked, turn_of, list_of, fault_of}

module _ {J : Type 0} where
  -- a pass other than the one that has the turn
  other_doing : (g : LockState J) (list : List Entry) (o : Option Entry) (n : ℕ) (id j : ℕ) (d : Doing) → (j ≡ id → ⊥) → g.holder g.serving ≡ id
      → FitsDoing g j d → FitsDoing (record g { list = list; fault = o; carrier = n }) j d
  other_doing g list o n id j Idle m here f = f
  other_doing g list o n id j (Drew t) m here f = f
  other_doing g list o n id j (Has t l f) m here k = absurd (m (sym k.2 ∙ (ap g.holder (sym k.0) ∙ here)))

  -- a pass without a mark
  clear_fits : (g g' : LockState J) (n : ℕ) (m : Mark) → g.fault ≡ None → FitsMark g n m → FitsMark g' n m
  clear_fits g g' n Clear whole f = tt
  clear_fits g g' n Seen whole f = absurd (some_or_none f.0 (sym whole ∙ f.1))
  clear_fits g g' n (Carries e) whole f = absurd (some_or_none e (sym whole ∙ f.0))

  set_fits : (g : LockState J) (n : ℕ) (m : Mark) (e : Entry) → g.fault ≡ Some e → FitsMark g n m → FitsMark g n (set_mark m)
  set_fits g n Clear e broken f = (e, broken)
  set_fits g n Seen e broken f = f
  set_fits g n (Carries d) e broken f = f

module _ {J : Type 0} (entries : J → List Entry) (fault : J → Option Entry) (run : J → Type 0) (first : List Entry) where
  pub commits : (slots id : ℕ) (me : Me (Option J) View) (t : ℕ) (l : List Entry) (e : Entry) (j : J) → me.0.live ≡ true → me.0.doing ≡ Has t l None → me.1 ≡ (0, Some j) ∷ []
      → entries j ≡ l ++ e ∷ [] → e.pass ≡ me.0.number → length l < 2 ^ 32
      → Allows (Locked entries fault run first) slots id me 2 (λ n. (n + 1) % 2 ^ 64) (committed entries fault run (step slots 2 1 0 none) me)
  commits slots id me t l e j alive is carried listed own few s h deep at fit =
      let g = h.0 in let r = h.1 in let v : View = me.0 in let was = (r.views id v at).0 alive in
      let mine : FitsDoing g id (Has t l None) = subst (FitsDoing g id) is was.doing in
      let here : g.holder g.serving ≡ id = ap g.holder mine.0 ∙ mine.2 in
      let next : List Entry = l ++ e ∷ [] in
      let whole : g.fault ≡ None = sym mine.5 in
      let w : View = record v { doing = Has t next None; seen = next } in
      let g' : LockState J = record g { list = next } in
      let more : IsPrefix g.list next = (e ∷ [], ap (λ (es : List Entry). es ++ e ∷ []) (sym mine.3)) in
      let begins : IsPrefix first next = prefix_trans first g.list next r.begins more in
      let kept : (n : ℕ) → (e.pass ≡ n → ⊥) → of n next ≡ of n g.list = λ n m. of_other n l e m ∙ ap (of n) mine.3 in
      let order = r.order in let waiting = r.waiting in let counts = r.drawn in let c = r.counted in
      let one : tickets v ≡ 1 = ap (λ (d : Doing). tickets (record v { doing = d })) is in
      let wait = total_set tickets s.views id v w at in
      let call = total_set calls s.views id v w at in
      let head = total_set heads s.views id v w at in
      let size : length l ≡ length g.list = ap length mine.3 in
      let longer_by : length next ≡ length l + 1 = length-append l (e ∷ []) in (
        w,
        keeps,
        tt,
        (
          g',
          record {
            words = ap (λ (ws : List ℕ). set ws 2 ((slice_index ws 2 + 1) % 2 ^ 64)) r.words
                ∙ ap (λ (m : ℕ). g.drawn ∷ g.serving ∷ m ∷ flag_of g.fault ∷ []) (let m : (length g.list + 1) % 18446744073709551616 ≡ length next = omega arith in m);
            homes = r.homes;
            order = r.order;
            waiting = omega arith;
            held = λ u a b. some_stays (λ (x : View). ticket x.doing ≡ Some u) s.views id v w at alive (λ q. sym (ap ticket is) ∙ q) (r.held u a b);
            home = λ o q. absurd (some-ne-none o (sym (sym mine.4 ∙ q)));
            away = λ q. some_stays (λ (x : View). HasTurn x.doing) s.views id v w at alive (λ _. tt) (r.away q);
            views = fits_stay first g g' s.views id v w at was alive
                record {
                  doing = (mine.0, mine.1, mine.2, refl, mine.4, mine.5);
                  seen = prefix_self next;
                  from = begins;
                  mine = refl;
                  owned = was.owned;
                  alive = was.alive;
                  low = was.low;
                  high = was.high;
                  head = was.head;
                  tail = was.tail;
                  few = was.few;
                  mark = was.mark;
                  still = λ k _. absurd (unmarked g v.number v.mark whole was.mark k);
                }
                (λ i x m o f. record {
                  doing = other_doing g next g.fault g.carrier id i x.doing m here f.doing;
                  seen = prefix_trans x.seen g.list next f.seen more;
                  from = f.from;
                  mine = kept x.number (λ q. o (sym q ∙ own)) ∙ f.mine;
                  owned = f.owned;
                  alive = f.alive;
                  low = f.low;
                  high = f.high;
                  head = f.head;
                  tail = f.tail;
                  few = f.few;
                  mark = f.mark;
                  still = λ k _. absurd (unmarked g x.number x.mark whole f.mark k);
                }) r.views;
            joined = λ k p q. let f = r.joined k p q in record {
              seen = prefix_trans p.seen g.list next f.seen more;
              from = f.from;
              mine = kept p.number (λ z. true_or_false (g.lives p.number) (ap g.lives (sym z ∙ own) ∙ was.alive) f.dead) ∙ f.mine;
              at = f.at;
              dead = f.dead;
              low = f.low;
              high = f.high;
              few = f.few;
              mark = f.mark;
              still = λ z. absurd (unmarked g p.number p.mark whole f.mark z);
            };
            numbers = λ m a b. is_number_stays g g' s.views id v w at alive refl refl m (r.numbers m a b);
            begins = begins;
            strangers = λ n k. let a = was.low in let b = was.high in
                kept n (λ q. ⊎_elim (λ (z : n ≡ 0). let y : v.number ≡ 0 = sym own ∙ (q ∙ z) in omega arith) (λ (z : g.made < n). let y : v.number ≡ n = sym own ∙ q in omega arith) k) ∙ r.strangers n k;
            carried = λ d k. absurd (some_or_none d (sym whole ∙ k));
            drawn = omega arith;
            counted = omega arith;
            most = r.most;
          },
        ),
        λ t' l' f' q.
            let held : entries_held entries fault run me.1 ≡ next = ap (entries_held entries fault run) carried ∙ listed in
            let a : t ≡ t' = ap (turn_of 0) (sym is ∙ q) in
            let c : None ≡ f' = ap (fault_of None) (sym is ∙ q) in
            ((λ i. record v { doing = Has (a i) (sym held i) (c i); seen = sym held i }), refl),
      )

  pub marks : (slots id : ℕ) (me : Me (Option J) View) (t : ℕ) (l : List Entry) (f : Option Entry) (e : Entry) (j : J) → me.0.live ≡ true → me.0.doing ≡ Has t l f → me.1 ≡ (0, Some j) ∷ []
      → fault j ≡ Some e → (f ≡ None) ⊎ (f ≡ Some e)
      → Allows (Locked entries fault run first) slots id me 3 (λ _. 1) (broke entries fault run (step slots 3 1 0 none) me)
  marks slots id me t l f e j alive is carried faulted which s h deep at fit =
      let g = h.0 in let r = h.1 in let v : View = me.0 in let was = (r.views id v at).0 alive in
      let mine : FitsDoing g id (Has t l f) = subst (FitsDoing g id) is was.doing in
      let here : g.holder g.serving ≡ id = ap g.holder mine.0 ∙ mine.2 in
      let order = r.order in let waiting = r.waiting in let counts = r.drawn in let c = r.counted in
      let one : tickets v ≡ 1 = ap (λ (d : Doing). tickets (record v { doing = d })) is in
      let hand : fault_held entries fault run me.1 ≡ Some e = ap (fault_held entries fault run) carried ∙ faulted in
      ⊎_elim
      (λ (none_yet : f ≡ None).
      let whole : g.fault ≡ None = sym mine.5 ∙ none_yet in
      let w : View = record v { doing = Has t l (Some e); mark = Carries e } in
      let g' : LockState J = record g { fault = Some e; carrier = v.number } in
      let wait = total_set tickets s.views id v w at in
      let call = total_set calls s.views id v w at in
      let head = total_set heads s.views id v w at in (
        w,
        keeps,
        tt,
        (
          g',
          record {
            words = ap (λ (ws : List ℕ). set ws 3 1) r.words;
            homes = r.homes;
            order = r.order;
            waiting = omega arith;
            held = λ u a b. some_stays (λ (x : View). ticket x.doing ≡ Some u) s.views id v w at alive (λ q. sym (ap ticket is) ∙ q) (r.held u a b);
            home = λ o q. absurd (some-ne-none o (sym (sym mine.4 ∙ q)));
            away = λ q. some_stays (λ (x : View). HasTurn x.doing) s.views id v w at alive (λ _. tt) (r.away q);
            views = fits_stay first g g' s.views id v w at was alive
                record {
                  doing = (mine.0, mine.1, mine.2, mine.3, mine.4, refl);
                  seen = was.seen;
                  from = was.from;
                  mine = was.mine;
                  owned = was.owned;
                  alive = was.alive;
                  low = was.low;
                  high = was.high;
                  head = was.head;
                  tail = was.tail;
                  few = was.few;
                  mark = (refl, refl);
                  still = λ _ m. absurd (m tt);
                }
                (λ i x m o p. record {
                  doing = other_doing g g.list (Some e) v.number id i x.doing m here p.doing;
                  seen = p.seen;
                  from = p.from;
                  mine = p.mine;
                  owned = p.owned;
                  alive = p.alive;
                  low = p.low;
                  high = p.high;
                  head = p.head;
                  tail = p.tail;
                  few = p.few;
                  mark = clear_fits g g' x.number x.mark whole p.mark;
                  still = λ k _. absurd (unmarked g x.number x.mark whole p.mark k);
                }) r.views;
            joined = λ k p q. let z = r.joined k p q in record {
              seen = z.seen;
              from = z.from;
              mine = z.mine;
              at = z.at;
              dead = z.dead;
              low = z.low;
              high = z.high;
              few = z.few;
              mark = clear_fits g g' p.number p.mark whole z.mark;
              still = λ y. absurd (unmarked g p.number p.mark whole z.mark y);
            };
            numbers = λ m a b. is_number_stays g g' s.views id v w at alive refl refl m (r.numbers m a b);
            begins = r.begins;
            strangers = r.strangers;
            carried = λ d k. inl (id, w, set_there s.views id v w at, alive, ap (λ (o : Option Entry). carries_or o) k);
            drawn = omega arith;
            counted = omega arith;
            most = r.most;
          },
        ),
        λ t' l' f' q.
            let a : t ≡ t' = ap (turn_of 0) (sym is ∙ q) in
            let b : l ≡ l' = ap (list_of []) (sym is ∙ q) in
            let c : None ≡ f' = sym none_yet ∙ ap (fault_of None) (sym is ∙ q) in
            ((λ i. record v { doing = Has (a i) (b i) (sym hand i); mark = mark_after (c i) (sym hand i) v.mark }), refl),
      ))
      (λ (found : f ≡ Some e).
      let broken : g.fault ≡ Some e = sym mine.5 ∙ found in
      let w : View = record v { doing = Has t l (Some e); mark = set_mark v.mark } in
      let wait = total_set tickets s.views id v w at in
      let call = total_set calls s.views id v w at in
      let head = total_set heads s.views id v w at in (
        w,
        keeps,
        tt,
        (
          g,
          record {
            words = ap (λ (ws : List ℕ). set ws 3 1) r.words ∙ ap (λ (m : ℕ). g.drawn ∷ g.serving ∷ length g.list ∷ m ∷ []) (sym (ap flag_of broken));
            homes = r.homes;
            order = r.order;
            waiting = omega arith;
            held = λ u a b. some_stays (λ (x : View). ticket x.doing ≡ Some u) s.views id v w at alive (λ q. sym (ap ticket is) ∙ q) (r.held u a b);
            home = λ o q. absurd (some-ne-none o (sym (sym mine.4 ∙ q)));
            away = λ q. some_stays (λ (x : View). HasTurn x.doing) s.views id v w at alive (λ _. tt) (r.away q);
            views = fits_stay first g g s.views id v w at was alive
                record {
                  doing = (mine.0, mine.1, mine.2, mine.3, mine.4, sym broken);
                  seen = was.seen;
                  from = was.from;
                  mine = was.mine;
                  owned = was.owned;
                  alive = was.alive;
                  low = was.low;
                  high = was.high;
                  head = was.head;
                  tail = was.tail;
                  few = was.few;
                  mark = set_fits g v.number v.mark e broken was.mark;
                  still = λ _ m. absurd (m tt);
                }
                (λ i x m o p. p) r.views;
            joined = r.joined;
            numbers = λ m a b. is_number_stays g g s.views id v w at alive refl refl m (r.numbers m a b);
            begins = r.begins;
            strangers = r.strangers;
            carried = λ d k. carried_stays g g s.views id v w at alive (λ z y. ap set_mark y) refl d (r.carried d k);
            drawn = omega arith;
            counted = omega arith;
            most = r.most;
          },
        ),
        λ t' l' f' q.
            let a : t ≡ t' = ap (turn_of 0) (sym is ∙ q) in
            let b : l ≡ l' = ap (list_of []) (sym is ∙ q) in
            let c : Some e ≡ f' = sym found ∙ ap (fault_of None) (sym is ∙ q) in
            ((λ i. record v { doing = Has (a i) (b i) (sym hand i); mark = mark_after (c i) (sym hand i) v.mark }), refl),
      ))
      which
    where
      carries_or : Option Entry → Mark
      carries_or None = Clear
      carries_or (Some d) = Carries d
