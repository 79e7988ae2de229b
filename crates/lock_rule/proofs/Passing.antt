-- How passes come and go: the first one, a split, a join in its two steps, and the last one.
use Rattle.std.proofs.Common.{◌≡◌, ◌≢◌, ◌⊎◌, ℕ, zero, suc, ◌+◌, ◌<◌, ◌≤◌, Bool, true, false, true≢false, cond, List, [], ◌∷◌, ◌++◌, length, length-set, set, replicate, refl, ap, sym, ◌∙◌, subst, arith, inl, inr, ⊎_elim, Option, Some, None, slice_index}
use mathlib.Core.Logic.{dite}
use mathlib.Core.List.{IsPrefix}
use mathlib.Core.Option.{some, none, some-injective, some-ne-none}
use mathlib.Core.Option as maybe
use native.Mathlib.Decide.{ℕ_discrete}
use lib.ListN.{get_elem?}
use Rattle.atomic_table.specs.Table.{State, Me, step, keeps, Allows, Splits, Joins, opening, Seen as SeenBy, Final}
use Rattle.atomic_table.proofs.Lists.{at_set, set_else}
use Rattle.column_book.specs.declared.entry.Entry.{Entry}
use Rattle.lock_rule.specs.declared.view.Doing.{Doing}
use Rattle.lock_rule.specs.declared.view.Doing.TheVariants.{Idle, Drew}
use Rattle.lock_rule.specs.declared.view.Mark.{Mark}
use Rattle.lock_rule.specs.declared.view.Mark.TheVariants.{Carries}
use Rattle.lock_rule.specs.declared.view.Joined.{Joined}
use Rattle.lock_rule.specs.declared.view.View.{View}
use Rattle.lock_rule.specs.Views.{of, HasTurn, ticket, tickets, new_pass, parted, given, spent, joined_of, longer, with_joined, begun_by, calls, heads}
use Rattle.lock_rule.specs.Rules.{LockState, SomePass, SomeJoined, FitsDoing, FitsMark, Fits, FitsJoined, FitsView, IsNumber, Carried, Lies, Locked}
use Rattle.lock_rule.specs.Plays.{gained}
use Rattle.lock_rule.proofs.Fronts.{prefix_self, prefix_trans, prefix_whole, prefix_length, of_between, longest}
use Rattle.lock_rule.proofs.Totals.{total_one, total_set, total_more, total_two}
use Rattle.lock_rule.proofs.Staying.{put, put_here, put_else, at_end, true_or_false, some_or_none, some_stays, some_else, some_more, some_last, joined_more, joined_here, views_stay, fits_stay, is_number_stays, carried_stays, faulty, no_ticket, no_turn, some_or}
use Rattle.lock_rule.specs.Closing.{Closes}

abbrev first_of : Joined → List Joined → Joined
first_of p [] = p
first_of p (q ∷ qs) = q

-- ---- the joined list after a join

module _ {J : Type 0} where
  abbrev joined_by : LockState J → View → LockState J
  joined_by g w = record g { joined = joined_of w ∷ g.joined; lives = put g.lives w.number false; place = put g.place w.number (length g.joined) }

  newly : (first : List Entry) (g : LockState J) (other : ℕ) (w : View) → Fits first g other w → (w.number ≡ 1 → ⊥) → w.doing ≡ Idle
      → FitsJoined first (joined_by g w) 0 (joined_of w)
  newly first g other w f second idle = record {
    seen = f.seen;
    from = f.from;
    mine = f.mine;
    at = (let e : put g.place w.number (length g.joined) w.number ≡ length g.joined = put_here g.place w.number (length g.joined) in omega arith);
    dead = put_here g.lives w.number false;
    low = (let a = f.low in dite (ℕ_discrete w.number 1) (λ e. absurd (second e)) (λ n. omega arith));
    high = f.high;
    few = f.few;
    mark = f.mark;
    still = λ k. f.still k (no_turn w.doing idle);
  }

  earlier : (first : List Entry) (g : LockState J) (other : ℕ) (w : View) → Fits first g other w
      → (k : ℕ) (p : Joined) → FitsJoined first g k p → FitsJoined first (joined_by g w) (suc k) p
  earlier first g other w f k p z =
      let apart : p.number ≡ w.number → ⊥ = λ e. true_or_false (g.lives p.number) (ap g.lives e ∙ f.alive) z.dead in record {
        seen = z.seen;
        from = z.from;
        mine = z.mine;
        at = (let e : put g.place w.number (length g.joined) p.number ≡ g.place p.number = put_else g.place w.number (length g.joined) p.number apart in let a = z.at in omega arith);
        dead = put_else g.lives w.number false p.number apart ∙ z.dead;
        low = z.low;
        high = z.high;
        few = z.few;
        mark = z.mark;
        still = z.still;
      }

  joined_all : (first : List Entry) (g : LockState J) (other : ℕ) (w : View) → Fits first g other w → (w.number ≡ 1 → ⊥) → w.doing ≡ Idle
      → ((k : ℕ) (p : Joined) → get_elem? g.joined k ≡ some p → FitsJoined first g k p)
      → (k : ℕ) (p : Joined) → get_elem? (joined_of w ∷ g.joined) k ≡ some p → FitsJoined first (joined_by g w) k p
  joined_all first g other w f second idle all zero p e =
      subst (λ (q : Joined). FitsJoined first (joined_by g w) 0 q) (some-injective (joined_of w) p e) (newly first g other w f second idle)
  joined_all first g other w f second idle all (suc k) p e = earlier first g other w f k p (all k p e)

-- some pass is still there, or it is the one whose view changes
some_moves : (P : View → Type 0) (vs : List View) (id : ℕ) (v w : View) → get_elem? vs id ≡ some v → SomePass P vs → P v ⊎ SomePass P (set vs id w)
some_moves P vs id v w at s = dite (ℕ_discrete s.0 id)
    (λ e. inl (subst P (some-injective s.1 v (sym s.2 ∙ (ap (get_elem? vs) e ∙ at))) s.4))
    (λ n. inr (s.0, s.1, set_else vs id s.0 w n ∙ s.2, s.3, s.4))

one_head : (x : View) → x.live ≡ true → heads x ≡ 1 + length x.joined
one_head x e = ap (λ (b : Bool). cond {A = ℕ} b 1 0 + length x.joined) e

number_more : {J : Type 0} (g : LockState J) (vs : List View) (w : View) (n : ℕ) → IsNumber g vs n → IsNumber g (vs ++ w ∷ []) n
number_more g vs w n = ⊎_elim (λ (t : SomePass (λ (x : View). x.number ≡ n) vs). inl (some_more (λ (x : View). x.number ≡ n) vs w t))
    (λ (t : SomeJoined (λ (p : Joined). p.number ≡ n) g.joined). inr t)

carried_more : {J : Type 0} (g : LockState J) (vs : List View) (w : View) (e : Entry) → Carried g vs e → Carried g (vs ++ w ∷ []) e
carried_more g vs w e = ⊎_elim (λ (t : SomePass (λ (x : View). x.mark ≡ Carries e) vs). inl (some_more (λ (x : View). x.mark ≡ Carries e) vs w t))
    (λ (t : SomeJoined (λ (p : Joined). p.mark ≡ Carries e) g.joined). inr t)

abbrev first_pass : List Entry → View
first_pass first = new_pass 1 (Drew 0) first 1

abbrev first_state : (J : Type 0) → List Entry → LockState J
first_state J first = record {
  drawn = 1;
  serving = 0;
  fault = None;
  carrier = 0;
  list = first;
  home = some None;
  holder = λ _. 0;
  owner = λ _. 0;
  lives = λ _. true;
  place = λ _. 0;
  made = 1;
  joined = [];
}

only_first : {J : Type 0} (first : List Entry) (j : ℕ) (v : View) → get_elem? (first_pass first ∷ []) j ≡ some v → FitsView first (first_state J first) j v
only_first first zero v e = subst (FitsView first (first_state _ first) 0) (some-injective (first_pass first) v e) (
  (λ _. record {
    doing = ((let a : 0 ≤ 0 = omega arith in a), (let a : 0 < 1 = omega arith in a), refl);
    seen = prefix_self first;
    from = prefix_self first;
    mine = refl;
    owned = refl;
    alive = refl;
    low = omega arith;
    high = omega arith;
    head = λ _. (refl, refl);
    tail = λ _. refl;
    few = omega arith;
    mark = tt;
    still = λ k _. absurd k;
  }),
  λ h. absurd (true≢false h),
)
only_first first (suc j) v e = absurd (some-ne-none v (sym e))

module _ {J : Type 0} (entries : J → List Entry) (fault : J → Option Entry) (run : J → Type 0) (first : List Entry) where
  pub starts : Locked entries fault run first (opening (1 ∷ 0 ∷ length first ∷ 0 ∷ []) (replicate 1 None) (first_pass first))
  starts = (
    first_state J first,
    record {
      words = refl;
      homes = refl;
      order = omega arith;
      waiting = refl;
      held = λ t a b. (0, first_pass first, refl, refl, ap (λ (n : ℕ). Some n) (let e : 0 ≡ t = omega arith in e));
      home = λ o e. subst (Lies entries fault run first 0 first None) (some-injective None o e) (refl, refl, refl);
      away = λ e. absurd (some-ne-none None e);
      views = only_first first;
      joined = λ k p e. absurd (some-ne-none p (sym e));
      numbers = λ n a b. inl (0, first_pass first, refl, refl, (let e : 1 ≡ n = omega arith in e));
      begins = prefix_self first;
      strangers = λ n _. refl;
      carried = λ e k. absurd (some_or_none e k);
      drawn = omega arith;
      counted = refl;
      most = omega arith;
    },
  )

  pub splits : (id : ℕ) (v : View) → v.live ≡ true → v.number ≡ 1 → v.doing ≡ Idle → v.made < 65 → Splits (Locked entries fault run first) id v (parted v) (given v)
  splits id v alive head_one idle room s h at =
      let g = h.0 in let r = h.1 in let was = (r.views id v at).0 alive in
      let made : v.made ≡ g.made = (was.head head_one).0 in
      let m : ℕ = v.made + 1 in
      let w : View = parted v in
      let o : View = given v in
      let end : ℕ = length s.views in
      let g' : LockState J = record g { made = m; owner = put g.owner m end; lives = put g.lives m true } in
      let vs : List View = set s.views id w in
      let serving : 0 < g.serving = subst (FitsDoing g id) idle was.doing in
      let high = was.high in
      let below : (n : ℕ) → n ≤ g.made → n ≡ m → ⊥ = λ n a e. omega arith in
      let old : (j : ℕ) (x : View) → get_elem? vs j ≡ some x → FitsView first g' j x = fits_stay first g g' s.views id v w at was alive
      record {
        doing = was.doing;
        seen = was.seen;
        from = was.from;
        mine = was.mine;
        owned = put_else g.owner m end v.number (below v.number high) ∙ was.owned;
        alive = put_else g.lives m true v.number (below v.number high) ∙ was.alive;
        low = was.low;
        high = (let a : v.number ≤ m = omega arith in a);
        head = λ _. (refl, (was.head head_one).1);
        tail = was.tail;
        few = was.few;
        mark = was.mark;
        still = was.still;
      }
      (λ j x n other f. let a = f.high in record {
        doing = f.doing;
        seen = f.seen;
        from = f.from;
        mine = f.mine;
        owned = put_else g.owner m end x.number (below x.number a) ∙ f.owned;
        alive = put_else g.lives m true x.number (below x.number a) ∙ f.alive;
        low = f.low;
        high = (let b : x.number ≤ m = omega arith in b);
        head = λ e. absurd (other (e ∙ sym head_one));
        tail = f.tail;
        few = f.few;
        mark = f.mark;
        still = f.still;
      }) r.views in
      let new : FitsView first g' end o = (
        (λ _. record {
          doing = serving;
          seen = was.seen;
          from = was.from;
          mine = (let e = r.strangers m (inr (omega arith)) in e ∙ sym (of_between m first v.seen g.list was.from was.seen e));
          owned = put_here g.owner m end;
          alive = put_here g.lives m true;
          low = (let a : 0 < m = omega arith in a);
          high = (let a : m ≤ m = omega arith in a);
          head = λ e. absurd (omega arith);
          tail = λ _. refl;
          few = omega arith;
          mark = tt;
          still = λ k _. absurd k;
        }),
        λ e. absurd (true≢false e),
      ) in
      let order = r.order in let waiting = r.waiting in let counts = r.drawn in let c = r.counted in
      let wait = total_set tickets s.views id v w at in
      let call = total_set calls s.views id v w at in
      let head = total_set heads s.views id v w at in
      let wait' = total_more tickets vs o in
      let call' = total_more calls vs o in
      let head' = total_more heads vs o in (
        g',
        record {
          words = r.words;
          homes = r.homes;
          order = r.order;
          waiting = omega arith;
          held = λ u a b. some_more (λ (x : View). ticket x.doing ≡ Some u) vs o (some_stays (λ (x : View). ticket x.doing ≡ Some u) s.views id v w at alive (λ q. q) (r.held u a b));
          home = r.home;
          away = λ q. some_more (λ (x : View). HasTurn x.doing) vs o (some_stays (λ (x : View). HasTurn x.doing) s.views id v w at alive (λ k. k) (r.away q));
          views = λ j x e. ⊎_elim (λ (t : get_elem? vs j ≡ some x). old j x t)
              (λ (t : (j ≡ length vs) × (o ≡ x)). let place : end ≡ j = sym (t.0 ∙ length-set s.views id w) in
              subst (λ (y : ℕ × View). FitsView first g' y.0 y.1) (λ i. (place i, t.1 i)) new) (at_end vs o x j e);
          joined = λ k p e. let f = r.joined k p e in let a = f.high in record {
            seen = f.seen;
            from = f.from;
            mine = f.mine;
            at = f.at;
            dead = put_else g.lives m true p.number (below p.number a) ∙ f.dead;
            low = f.low;
            high = (let b : p.number ≤ m = omega arith in b);
            few = f.few;
            mark = f.mark;
            still = f.still;
          };
          numbers = λ n a b. dite (ℕ_discrete n m)
              (λ e. inl (some_last (λ (x : View). x.number ≡ n) vs o refl (sym e)))
              (λ k. number_more g' vs o n (is_number_stays g g' s.views id v w at alive refl refl n (r.numbers n a (omega arith))));
          begins = r.begins;
          strangers = λ n k. r.strangers n (⊎_elim (λ (z : n ≡ 0). inl z) (λ (z : m < n). let a : g.made < n = omega arith in inr a) k);
          carried = λ e k. carried_more g' vs o e (carried_stays g g' s.views id v w at alive (λ d q. q) refl e (r.carried e k));
          drawn = omega arith;
          counted = omega arith;
          most = (let a : m ≤ 65 = omega arith in a);
        },
      )

  pub joins : (id : ℕ) (v : View) (other : ℕ) (w : View) → v.live ≡ true → v.number ≡ 1 → v.doing ≡ Idle → w.live ≡ true → (w.number ≡ 1 → ⊥) → w.doing ≡ Idle
      → Joins (Locked entries fault run first) id v other w (with_joined v w) spent
  joins id v other w alive head_one idle alive_w second idle_w s h at apart there =
      let g = h.0 in let r = h.1 in let was = (r.views id v at).0 alive in
      let u : View = with_joined v w in
      let vs : List View = set s.views id u in
      let there' : get_elem? s.views other ≡ some w = sym (set_else s.views id other u apart) ∙ there in
      let wasw = (r.views other w there').0 alive_w in
      let g' : LockState J = joined_by g w in
      let none_w : w.joined ≡ [] = wasw.tail second in
      let mine : FitsView first g' id u = (
        (λ _. record {
          doing = was.doing;
          seen = was.seen;
          from = was.from;
          mine = was.mine;
          owned = was.owned;
          alive = put_else g.lives w.number false v.number (λ e. second (sym e ∙ head_one)) ∙ was.alive;
          low = was.low;
          high = was.high;
          head = λ _. ((was.head head_one).0, ap (λ (ps : List Joined). joined_of w ∷ ps) (was.head head_one).1);
          tail = λ n. absurd (n head_one);
          few = was.few;
          mark = was.mark;
          still = was.still;
        }),
        λ e. absurd (true_or_false v.live alive e),
      ) in
      let each : (j : ℕ) (x : View) → (j ≡ other → ⊥) → get_elem? vs j ≡ some x → FitsView first g' j x = λ j x n e. ⊎_elim
      (λ (t : (j ≡ id) × (u ≡ x)). subst (λ (y : ℕ × View). FitsView first g' y.0 y.1) (λ i. (sym t.0 i, t.1 i)) mine)
      (λ (t : (j ≢ id) × (get_elem? s.views j ≡ some x)). let z = r.views j x t.1 in (
        (λ q. let f = z.0 q in record {
          doing = f.doing;
          seen = f.seen;
          from = f.from;
          mine = f.mine;
          owned = f.owned;
          alive = put_else g.lives w.number false x.number (λ y. n (sym f.owned ∙ (ap g.owner y ∙ wasw.owned))) ∙ f.alive;
          low = f.low;
          high = f.high;
          head = λ y. absurd (t.0 (sym f.owned ∙ (ap g.owner (y ∙ sym head_one) ∙ was.owned)));
          tail = f.tail;
          few = f.few;
          mark = f.mark;
          still = f.still;
        }),
        z.1,
      )) (at_set s.views id j u x e) in
      let order = r.order in let waiting = r.waiting in let counts = r.drawn in let c = r.counted in
      let wait = total_set tickets s.views id v u at in
      let call = total_set calls s.views id v u at in
      let head = total_set heads s.views id v u at in
      let wait' = total_set tickets vs other w spent there in
      let call' = total_set calls vs other w spent there in
      let head' = total_set heads vs other w spent there in
      let no_wait : tickets w ≡ 0 = ap (λ (d : Doing). tickets (record w { doing = d })) idle_w in
      let begun : calls w ≡ w.begun = ap (λ (ps : List Joined). w.begun + begun_by ps) none_w ∙ (let a : w.begun + 0 ≡ w.begun = omega arith in a) in
      let heads_w : heads w ≡ 1 = one_head w alive_w ∙ ap (λ (ps : List Joined). 1 + length ps) none_w in (
        g',
        record {
          words = r.words;
          homes = r.homes;
          order = r.order;
          waiting = omega arith;
          held = λ t a b. some_else (λ (x : View). ticket x.doing ≡ Some t) vs other w spent there (no_ticket t w.doing idle_w)
              (some_stays (λ (x : View). ticket x.doing ≡ Some t) s.views id v u at alive (λ q. q) (r.held t a b));
          home = r.home;
          away = λ q. some_else (λ (x : View). HasTurn x.doing) vs other w spent there (no_turn w.doing idle_w)
              (some_stays (λ (x : View). HasTurn x.doing) s.views id v u at alive (λ k. k) (r.away q));
          views = views_stay (FitsView first g') vs other spent ((λ e. absurd (true≢false (sym e))), λ _. refl) each;
          joined = joined_all first g other w wasw second idle_w r.joined;
          numbers = λ n a b. ⊎_elim
              (λ (t : SomePass (λ (x : View). x.number ≡ n) s.views). ⊎_elim
              (λ (e : w.number ≡ n). inr (joined_here (λ (p : Joined). p.number ≡ n) (joined_of w) g.joined e))
              (λ (k : SomePass (λ (x : View). x.number ≡ n) (set vs other spent)). inl k)
              (some_moves (λ (x : View). x.number ≡ n) vs other w spent there (some_stays (λ (x : View). x.number ≡ n) s.views id v u at alive (λ q. q) t)))
              (λ (t : SomeJoined (λ (p : Joined). p.number ≡ n) g.joined). inr (joined_more (λ (p : Joined). p.number ≡ n) (joined_of w) g.joined t))
              (r.numbers n a b);
          begins = r.begins;
          strangers = r.strangers;
          carried = λ e q. ⊎_elim
              (λ (t : SomePass (λ (x : View). x.mark ≡ Carries e) s.views). ⊎_elim
              (λ (k : w.mark ≡ Carries e). inr (joined_here (λ (p : Joined). p.mark ≡ Carries e) (joined_of w) g.joined k))
              (λ (k : SomePass (λ (x : View). x.mark ≡ Carries e) (set vs other spent)). inl k)
              (some_moves (λ (x : View). x.mark ≡ Carries e) vs other w spent there (some_stays (λ (x : View). x.mark ≡ Carries e) s.views id v u at alive (λ k. k) t)))
              (λ (t : SomeJoined (λ (p : Joined). p.mark ≡ Carries e) g.joined). inr (joined_more (λ (p : Joined). p.mark ≡ Carries e) (joined_of w) g.joined t))
              (r.carried e q);
          drawn = omega arith;
          counted = omega arith;
          most = r.most;
        },
      )

  pub gains : (slots id : ℕ) (me : Me (Option J) View) (p : Joined) (ps : List Joined) → me.0.live ≡ true → me.0.number ≡ 1 → me.0.doing ≡ Idle → me.0.joined ≡ p ∷ ps
      → Allows (Locked entries fault run first) slots id me 0 (λ n. n) (gained entries fault run (step slots 0 0 0 none) me)
  gains slots id me p ps alive head_one idle is s h deep at fit =
      let g = h.0 in let r = h.1 in let v : View = me.0 in let was = (r.views id v at).0 alive in
      let n : ℕ = slice_index s.words 0 in
      let top : get_elem? g.joined 0 ≡ some p = ap (λ (qs : List Joined). get_elem? qs 0) (sym (was.head head_one).1 ∙ is) in
      let z = r.joined 0 p top in
      let long = longest v.seen p.seen g.list was.seen z.seen in
      let next : List Entry = longer v.seen p.seen in
      let w : View = record v { seen = next } in
      let same = of_between v.number v.seen next g.list long.first long.whole was.mine in
      let few : length v.joined ≤ 64 = let a = one_head v alive in let b = total_one heads s.views id v at in let c = r.counted in let d = r.most in omega arith in
      let order = r.order in let waiting = r.waiting in let counts = r.drawn in let c = r.counted in
      let wait = total_set tickets s.views id v w at in
      let call = total_set calls s.views id v w at in
      let head = total_set heads s.views id v w at in (
        w,
        keeps,
        tt,
        (
          g,
          record {
            words = ap (λ (ws : List ℕ). set ws 0 (slice_index ws 0)) r.words;
            homes = r.homes;
            order = r.order;
            waiting = omega arith;
            held = λ u a b. some_stays (λ (x : View). ticket x.doing ≡ Some u) s.views id v w at alive (λ q. q) (r.held u a b);
            home = r.home;
            away = λ q. some_stays (λ (x : View). HasTurn x.doing) s.views id v w at alive (λ k. k) (r.away q);
            views = fits_stay first g g s.views id v w at was alive
                record {
                  doing = was.doing;
                  seen = long.whole;
                  from = prefix_trans first v.seen next was.from long.first;
                  mine = was.mine ∙ sym same;
                  owned = was.owned;
                  alive = was.alive;
                  low = was.low;
                  high = was.high;
                  head = was.head;
                  tail = was.tail;
                  few = was.few;
                  mark = was.mark;
                  still = λ k m. prefix_whole next g.list long.whole (subst (λ (es : List Entry). length es ≤ length next) (was.still k m) (prefix_length v.seen next long.first));
                }
                (λ i x m o f. f) r.views;
            joined = r.joined;
            numbers = λ m a b. is_number_stays g g s.views id v w at alive refl refl m (r.numbers m a b);
            begins = r.begins;
            strangers = r.strangers;
            carried = λ e k. carried_stays g g s.views id v w at alive (λ d m. m) refl e (r.carried e k);
            drawn = omega arith;
            counted = omega arith;
            most = r.most;
          },
        ),
        λ q qs e. subst (λ (x : Joined). (record v { seen = next } ≡ record v { seen = longer v.seen x.seen }) × (me.1 ≡ me.1) × IsPrefix v.seen next × IsPrefix x.seen next × (of v.number next ≡ of v.number v.seen) × (length v.joined ≤ 64))
            (ap (first_of p) (sym is ∙ e)) (refl, refl, long.first, long.second, same, few),
      )

  -- the journal at the end
  pub record Ended (v : View) (slots : List (Option J)) : Type 0 where
    pub journal : J
    pub there : get_elem? slots 0 ≡ some (Some journal)
    pub closes : Closes first v (entries journal) (fault journal)
    pub runs : run journal

  at_home : (g : LockState J) (o : Option J) → 0 < g.serving → Lies entries fault run first g.serving g.list g.fault o
      → (j : J) × (o ≡ Some j) × (entries j ≡ g.list) × (fault j ≡ g.fault) × run j
  at_home g None k l = let a = l.0 in absurd (omega arith)
  at_home g (Some j) k l = (j, refl, l.1, l.2, l.3)

  pub ends : (id : ℕ) (v : View) (words : List ℕ) (slots : List (Option J)) → v.live ≡ true → v.number ≡ 1 → v.doing ≡ Idle → length v.joined + 1 ≡ v.made
      → Final (SeenBy (Locked entries fault run first) id v) words slots → Ended v slots
  ends id v words slots alive head_one idle all final =
      let s : State (Option J) View = final.0 in
      let h = final.1.0 in
      let at = final.1.1 in
      let g = h.0 in let r = h.1 in let was = (r.views id v at).0 alive in
      let hd = was.head head_one in
      let made : v.made ≡ g.made = hd.0 in
      let mine = one_head v alive in
      let c = r.counted in
      let alone : (x : View) (j : ℕ) → get_elem? s.views j ≡ some x → x.live ≡ true → (j ≡ id → ⊥) → ⊥ = λ x j e q n.
      let a = one_head x q in let b = total_two heads s.views id j v x (λ k. n (sym k)) at e in absurd (omega arith) in
      let is_mine : (P : View → Type 0) → SomePass P s.views → P v = λ P t. dite (ℕ_discrete t.0 id)
      (λ e. subst P (some-injective t.1 v (sym t.2 ∙ (ap (get_elem? s.views) e ∙ at))) t.4) (λ n. absurd (alone t.1 t.0 t.2 t.3 n)) in
      let serving : 0 < g.serving = subst (FitsDoing g id) idle was.doing in
      let there = some_or g.home (λ out. no_turn v.doing idle (is_mine (λ (x : View). HasTurn x.doing) (r.away out))) in
      let here = at_home g there.0 serving (r.home there.0 there.1) in
      let j : J = here.0 in
      let placed : get_elem? s.homes 0 ≡ some (some (Some j)) = ap (λ (hs : List (maybe.Option (Option J))). get_elem? hs 0) r.homes ∙ (ap (λ (o : maybe.Option (Option J)). some o) there.1 ∙ ap (λ (o : Option J). some (some o)) here.1) in
      let up : (P : List Entry → Option Entry → Type 0) → P g.list g.fault → P (entries j) (fault j) = λ P p.
      subst (λ (x : List Entry × Option Entry). P x.0 x.1) (λ i. (sym here.2 i, sym here.3 i)) p in record {
        journal = j;
        there = final.4 0 (Some j) placed;
        closes = up (λ (es : List Entry) (o : Option Entry). Closes first v es o) record {
          begins = r.begins;
          carrier = g.carrier;
          own = record {
            begins = was.seen;
            from = was.from;
            mine = was.mine;
            all = λ k. was.still k (no_turn v.doing idle);
            broken = λ k. faulty g v.number v.mark was.mark k;
            carries = λ e k. carried_by v.number v.mark e g was.mark k;
          };
          joined = λ k p e. let f = r.joined k p (ap (λ (ps : List Joined). get_elem? ps k) (sym hd.1) ∙ e) in record {
            begins = f.seen;
            from = f.from;
            mine = f.mine;
            all = f.still;
            broken = λ m. faulty g p.number p.mark f.mark m;
            carries = λ d m. carried_by p.number p.mark d g f.mark m;
          };
          others = λ k p e. let f = r.joined k p (ap (λ (ps : List Joined). get_elem? ps k) (sym hd.1) ∙ e) in
              (f.low, subst (λ (n : ℕ). p.number ≤ n) (sym made) f.high);
          each = λ n a b. ⊎_elim
              (λ (t : SomePass (λ (x : View). x.number ≡ n) s.views). let e = is_mine (λ (x : View). x.number ≡ n) t in absurd (omega arith))
              (λ (t : SomeJoined (λ (p : Joined). p.number ≡ n) g.joined). subst (SomeJoined (λ (p : Joined). p.number ≡ n)) (sym hd.1) t)
              (r.numbers n (omega arith) (omega arith));
          once = λ i k p q e d n.
              let a = (r.joined i p (ap (λ (ps : List Joined). get_elem? ps i) (sym hd.1) ∙ e)).at in
              let b = (r.joined k q (ap (λ (ps : List Joined). get_elem? ps k) (sym hd.1) ∙ d)).at in
              let m : g.place p.number ≡ g.place q.number = ap g.place n in omega arith;
          strangers = λ n k. r.strangers n (⊎_elim (λ (z : n ≡ 0). inl z) (λ (z : v.made < n). let a : g.made < n = omega arith in inr a) k);
          marks = λ e k. ⊎_elim
              (λ (t : SomePass (λ (x : View). x.mark ≡ Carries e) s.views). inl (is_mine (λ (x : View). x.mark ≡ Carries e) t))
              (λ (t : SomeJoined (λ (p : Joined). p.mark ≡ Carries e) g.joined). inr (subst (SomeJoined (λ (p : Joined). p.mark ≡ Carries e)) (sym hd.1) t))
              (r.carried e k);
        };
        runs = here.4;
      }
    where
      carried_by : (n : ℕ) (m : Mark) (e : Entry) (g : LockState J) → FitsMark g n m → m ≡ Carries e → (g.fault ≡ Some e) × (g.carrier ≡ n)
      carried_by n m e g f k = subst (FitsMark g n) k f
