-- What happens to the twins of the switches.
use Rattle.std.specs.Prelude.{◌≡◌, ◌≢◌, ℕ, zero, suc, ◌+◌, ◌-◌, ◌<◌, ◌≤◌, Bool, true, false, cond, ◌==◌, ◌&&◌, List, [], ◌∷◌, ◌++◌, map, length, take, fold, Option, None, Some, slice_index_or, slice_set, count_by, replicate, slice_index, All, ◌⊎◌}
use Rattle.std.proofs.Common.{refl, sym, ap, ◌∙◌, subst, arith, append-nil, inl, inr, add-zero, zero-add}
use Rattle.std.proofs.lemmas.List.{length-set, get_or-set_same, get_or-set_other, get_or-map, length-map, get_or_default}
use Rattle.std.proofs.lemmas.List.Elements.{filter_map-append, All-weaker, All-push, All-head, All-tail, All-nil, All-get_or}
use Rattle.std.proofs.lemmas.List.Sums.{fold-append, sum_by-append}
use Rattle.std.proofs.lemmas.Bool.Decides.{eqb_tells}
use Rattle.std.proofs.Common.{eq-eqb}
use Rattle.std.proofs.lemmas.List.{length-replicate, get_or-replicate}
use Rattle.std.proofs.lemmas.List.FromFn.{fill_by_all, length-map-range_with_len, get_or-map-range_with_len}
use Rattle.lg_model.specs.Placing.{Shape}
use Rattle.lg_model.specs.Scenario.{Scenario, is_end_of, ended}
use Rattle.lg_model.specs.declared.scenario.Step.{Step}
use Rattle.lg_model.specs.declared.scenario.Step.TheVariants.{End, EndAll, Release}
use Rattle.lg_model.specs.Trace.{packets_until, Packet, packets_of, Meeting, meetings_in, ended_before, observed, observation, Observation, seen_in}
use Rattle.lg_model.specs.Sketch.{Table, zero_table, table_of, raise_by, frozen}
use Rattle.lg_model.specs.Carrying.{Carry, is_out, is_out_at, times_of}
use Rattle.lg_model.specs.TwinsState.{TwinsState, new_twins, with_seen, with_put, with_end, IsTwinsState, IsPast, AreTwins}
use Rattle.lg_model.specs.declared.scenario.Step.TheVariants as steps
use Rattle.lg_model.proofs.Tracing.{packets_more, packets_before, meetings_keep, step_at, ended_more, ended_rises, seen_none, frozen_is}

-- a switch is this one or another
abbrev Same : ℕ → ℕ → Type 0
Same s t = ((s == t) ≡ true) × (s ≡ t)

-- at the switch of a meeting of its epoch one more thing is seen
seen_push_here : (w : Scenario) (s e : ℕ) (ms : List Meeting) (m : Meeting) → m.switch_at ≡ s → ended_before w m ≡ e → seen_in w s e (ms ++ m ∷ []) ≡ seen_in w s e ms ++ observation m ∷ []
seen_push_here w s e ms m here now =
    let one : observed w s e m ≡ Some (observation m) = rw (eq-eqb m.switch_at s here, eq-eqb (ended_before w m) e now) refl in
    filter_map-append (observed w s e) ms (m ∷ []) ∙ (rw one refl)

-- at another switch nothing is
seen_push_other : (w : Scenario) (s e : ℕ) (ms : List Meeting) (m : Meeting) → (m.switch_at == s) ≡ false → seen_in w s e (ms ++ m ∷ []) ≡ seen_in w s e ms
seen_push_other w s e ms m other =
    let none : observed w s e m ≡ None = rw other refl in
    filter_map-append (observed w s e) ms (m ∷ []) ∙ (rw none (append-nil (seen_in w s e ms)))

-- the packet of a meeting is counted
pub twins_see : (w : Scenario) (n : ℕ) (ms : List Meeting) (cs : List Carry) (ts : List TwinsState) (m : Meeting) (d : TwinsState) → AreTwins w n ms cs ts →
    m.step_at ≡ n → m.switch_at < length ts →
    AreTwins w n (ms ++ m ∷ []) cs (slice_set ts m.switch_at (with_seen (slice_index_or ts m.switch_at d) (observation m)))
twins_see w n ms cs ts m d all at inside =
    let s = m.switch_at in
    let t : TwinsState = slice_index_or ts s d in
    let t' : TwinsState = with_seen t (observation m) in
    let ts' : List TwinsState = slice_set ts s t' in
    let long : length ts' ≡ length ts = length-set ts s t' in
    record {
      count = long ∙ all.count;
      past = all.past;
      each = λ r e h. elim (eqb_tells s r) [
        | inl same ↦
            let is : IsTwinsState w n ms cs s t = all.each s d inside in
            let now : ended_before w m ≡ ended w s n = ap (ended w s) at in
            let cur : raise_by t.shape t.current (observation m) ≡ table_of w.shape (seen_in w s (ended w s n) (ms ++ m ∷ [])) =
            rw (is.shape, is.current) (sym (ap (table_of w.shape) (seen_push_here w s (ended w s n) ms m refl now) ∙ fold-append (raise_by w.shape) (zero_table w.shape) (seen_in w s (ended w s n) ms) (observation m ∷ []))) in
            let here : IsTwinsState w n (ms ++ m ∷ []) cs s t' = record { shape = is.shape; epoch = is.epoch; current = cur; frozen = is.frozen; put = is.put; times = is.times } in
            let P : TwinsState → Type 0 = IsTwinsState w n (ms ++ m ∷ []) cs s in
            let there : P (slice_index_or ts' s e) = subst P (sym (get_or-set_same ts s t' e inside)) here in
            subst (λ (q : ℕ). IsTwinsState w n (ms ++ m ∷ []) cs q (slice_index_or ts' q e)) same.1 there
        | inr other ↦
            let low : r < length ts = omega (arith, long) in
            let ne : r ≢ s = λ q. other.1 (sym q) in
            let is : IsTwinsState w n ms cs r (slice_index_or ts r e) = all.each r e low in
            let cur : (slice_index_or ts r e).current ≡ table_of w.shape (seen_in w r (ended w r n) (ms ++ m ∷ [])) =
            is.current ∙ ap (table_of w.shape) (sym (seen_push_other w r (ended w r n) ms m other.0)) in
            let here : IsTwinsState w n (ms ++ m ∷ []) cs r (slice_index_or ts r e) = record { shape = is.shape; epoch = is.epoch; current = cur; frozen = is.frozen; put = is.put; times = is.times } in
            subst (IsTwinsState w n (ms ++ m ∷ []) cs r) (sym (get_or-set_other ts s r t' e ne)) here
      ];
    }

count_push : (p : Carry → Bool) (cs : List Carry) (c : Carry) → count_by p (cs ++ c ∷ []) ≡ count_by p cs + cond (p c) 1 0
count_push p cs c = sum_by-append (λ x. cond (p x) 1 0) cs (c ∷ []) ∙ ap (λ k. count_by p cs + k) (zero-add (cond (p c) 1 0))

yes_at : (s e : ℕ) (c : Carry) → is_out s e c ≡ true → is_out_at s e c.index c ≡ true
yes_at s e c yes_out = rw (yes_out, eq-eqb c.index c.index refl) refl

-- how often each index is put out, after a column of that sketch
times_push_here : (width s e : ℕ) (cs : List Carry) (c : Carry) → is_out s e c ≡ true → c.index < width →
    times_of width s e (cs ++ c ∷ []) ≡ slice_set (times_of width s e cs) c.index (slice_index (times_of width s e cs) c.index + 1)
times_push_here width s e cs c yes_out inside =
    let old = times_of width s e cs in
    let f : ℕ → ℕ = λ k. count_by (is_out_at s e k) (cs ++ c ∷ []) in
    let long : length old ≡ width = length-map-range_with_len (λ k. count_by (is_out_at s e k) cs) 0 width in
    let here : slice_index old c.index ≡ count_by (is_out_at s e c.index) cs = get_or-map-range_with_len (λ k. count_by (is_out_at s e k) cs) 0 width c.index c.index 0 inside (zero-add c.index) in
    sym (fill_by_all f (slice_set old c.index (slice_index old c.index + 1)) width 0 (length-set old c.index (slice_index old c.index + 1) ∙ long)
    (λ k h. elim (eqb_tells c.index k) [
      | inl same ↦
          let low : c.index < length old = omega arith in
          let more : f c.index ≡ count_by (is_out_at s e c.index) cs + 1 = count_push (is_out_at s e c.index) cs c ∙ (rw (yes_at s e c yes_out) refl) in
          ap (slice_index (slice_set old c.index (slice_index old c.index + 1))) (sym same.1) ∙ get_or-set_same old c.index (slice_index old c.index + 1) 0 low ∙ ap (λ a. a + 1) here ∙ sym more ∙ ap f same.1
      | inr other ↦
          let ne : k ≢ c.index = λ q. other.1 (sym q) in
          let no : is_out_at s e k c ≡ false = rw (yes_out, other.0) refl in
          get_or-set_other old c.index k (slice_index old c.index + 1) 0 ne ∙ get_or-map-range_with_len (λ a. count_by (is_out_at s e a) cs) 0 width k k 0 h (zero-add k)
          ∙ sym (count_push (is_out_at s e k) cs c ∙ (rw no (add-zero (count_by (is_out_at s e k) cs))))
    ]))

-- and after a column of another one
times_push_other : (width s e : ℕ) (cs : List Carry) (c : Carry) → is_out s e c ≡ false → times_of width s e (cs ++ c ∷ []) ≡ times_of width s e cs
times_push_other width s e cs c no_out =
    let old = times_of width s e cs in
    sym (fill_by_all (λ k. count_by (is_out_at s e k) (cs ++ c ∷ [])) old width 0 (length-map-range_with_len (λ k. count_by (is_out_at s e k) cs) 0 width)
    (λ k h.
    let no : is_out_at s e k c ≡ false = rw no_out refl in
    get_or-map-range_with_len (λ a. count_by (is_out_at s e a) cs) 0 width k k 0 h (zero-add k) ∙ sym (count_push (is_out_at s e k) cs c ∙ (rw no (add-zero (count_by (is_out_at s e k) cs))))))

-- where none is put out
times_zero : (width s e : ℕ) (cs : List Carry) → ((k : ℕ) → count_by (is_out_at s e k) cs ≡ 0) → replicate width 0 ≡ times_of width s e cs
times_zero width s e cs none =
    fill_by_all (λ k. count_by (is_out_at s e k) cs) (replicate width 0) width 0 (length-replicate width 0) (λ k h. get_or-replicate width k 0 0 h ∙ sym (none k))

-- a column is put out
pub twins_put : (w : Scenario) (n : ℕ) (ms : List Meeting) (cs : List Carry) (ts : List TwinsState) (c : Carry) (d : TwinsState) → AreTwins w n ms cs ts →
    c.switch_at < length ts → c.epoch + 1 ≡ ended w c.switch_at n → c.index < w.shape.width →
    AreTwins w n ms (cs ++ c ∷ []) (slice_set ts c.switch_at (with_put (slice_index_or ts c.switch_at d) c.index))
twins_put w n ms cs ts c d all inside epoch low_index =
    let s = c.switch_at in
    let t : TwinsState = slice_index_or ts s d in
    let t' : TwinsState = with_put t c.index in
    let ts' : List TwinsState = slice_set ts s t' in
    let long : length ts' ≡ length ts = length-set ts s t' in
    record {
      count = long ∙ all.count;
      past = All-push (IsPast w n) cs c all.past (omega arith);
      each = λ r e h. elim (eqb_tells s r) [
        | inl same ↦
            let is : IsTwinsState w n ms cs s t = all.each s d inside in
            let yes : is_out s (ended w s n) c ≡ true = rw (eq-eqb s s refl, eq-eqb (c.epoch + 1) (ended w s n) epoch) refl in
            let more : t.put + 1 ≡ count_by (is_out s (ended w s n)) (cs ++ c ∷ []) = rw is.put (sym (count_push (is_out s (ended w s n)) cs c ∙ (rw yes refl))) in
            let again : t'.times ≡ times_of w.shape.width s (ended w s n) (cs ++ c ∷ []) =
            ap (λ xs. slice_set xs c.index (slice_index xs c.index + 1)) is.times ∙ sym (times_push_here w.shape.width s (ended w s n) cs c yes low_index) in
            let here : IsTwinsState w n ms (cs ++ c ∷ []) s t' = record { shape = is.shape; epoch = is.epoch; current = is.current; frozen = is.frozen; put = more; times = again } in
            let there : IsTwinsState w n ms (cs ++ c ∷ []) s (slice_index_or ts' s e) = subst (IsTwinsState w n ms (cs ++ c ∷ []) s) (sym (get_or-set_same ts s t' e inside)) here in
            subst (λ (q : ℕ). IsTwinsState w n ms (cs ++ c ∷ []) q (slice_index_or ts' q e)) same.1 there
        | inr other ↦
            let low : r < length ts = omega (arith, long) in
            let ne : r ≢ s = λ q. other.1 (sym q) in
            let is : IsTwinsState w n ms cs r (slice_index_or ts r e) = all.each r e low in
            let no : is_out r (ended w r n) c ≡ false = rw other.0 refl in
            let same_put : (slice_index_or ts r e).put ≡ count_by (is_out r (ended w r n)) (cs ++ c ∷ []) =
            is.put ∙ sym (count_push (is_out r (ended w r n)) cs c ∙ (rw no (add-zero (count_by (is_out r (ended w r n)) cs)))) in
            let here : IsTwinsState w n ms (cs ++ c ∷ []) r (slice_index_or ts r e) = record { shape = is.shape; epoch = is.epoch; current = is.current; frozen = is.frozen; put = same_put; times = is.times ∙ sym (times_push_other w.shape.width r (ended w r n) cs c no) } in
            subst (IsTwinsState w n ms (cs ++ c ∷ []) r) (sym (get_or-set_other ts s r t' e ne)) here
      ];
    }

-- what is carried is not of an epoch that ends later
not_out : (w : Scenario) (s n e : ℕ) (c : Carry) → ended w s n < e → IsPast w n c → is_out s e c ≡ false
not_out w s n e c h first =
    elim (eqb_tells c.switch_at s) [
      | inl same ↦ elim (eqb_tells (c.epoch + 1) e) [
        | inl now ↦ absurd (let low : c.epoch + 1 ≤ ended w s n = subst (λ (q : ℕ). c.epoch + 1 ≤ ended w q n) same.1 first in let one = now.1 in omega arith)
        | inr differs ↦ rw (same.0, differs.0) refl
      ]
      | inr differs ↦ rw differs.0 refl
    ]

none_out : (w : Scenario) (s n e : ℕ) (cs : List Carry) → ended w s n < e → All (IsPast w n) cs → count_by (is_out s e) cs ≡ 0
none_out w s n e [] h all = refl
none_out w s n e (c ∷ cs) h all =
    let no : is_out s e c ≡ false = not_out w s n e c h (All-head (IsPast w n) c cs all) in
    rw no (none_out w s n e cs h (All-tail (IsPast w n) c cs all))

none_out_at : (w : Scenario) (s n e k : ℕ) (cs : List Carry) → ended w s n < e → All (IsPast w n) cs → count_by (is_out_at s e k) cs ≡ 0
none_out_at w s n e k [] h all = refl
none_out_at w s n e k (c ∷ cs) h all =
    let no : is_out_at s e k c ≡ false = let out : is_out s e c ≡ false = not_out w s n e c h (All-head (IsPast w n) c cs all) in rw out refl in
    rw no (none_out_at w s n e k cs h (All-tail (IsPast w n) c cs all))

-- a step that ends no epoch of the switch
twin_stays : (w : Scenario) (n : ℕ) (ms : List Meeting) (cs : List Carry) (s : ℕ) (t : TwinsState) → n < length w.steps → is_end_of s (step_at w n) ≡ false → IsTwinsState w n ms cs s t → IsTwinsState w (n + 1) ms cs s t
twin_stays w n ms cs s t h keeps is =
    let same : ended w s (n + 1) ≡ ended w s n = ended_more w s n h ∙ ap (λ b. ended w s n + cond b 1 0) keeps ∙ add-zero (ended w s n) in
    record {
      shape = is.shape;
      epoch = is.epoch ∙ sym same;
      current = is.current ∙ ap (λ e. table_of w.shape (seen_in w s e ms)) (sym same);
      frozen = λ some. is.frozen (subst (λ (e : ℕ). 0 < e) same some) ∙ ap (λ e. frozen w s (e - 1)) (sym same);
      put = is.put ∙ ap (λ e. count_by (is_out s e) cs) (sym same);
      times = is.times ∙ ap (λ e. times_of w.shape.width s e cs) (sym same);
    }

-- a step without packets that ends one
twin_ends : (w : Scenario) (n : ℕ) (cs : List Carry) (s : ℕ) (t : TwinsState) → n < length w.steps → is_end_of s (step_at w n) ≡ true → packets_of w.flows (n, step_at w n) ≡ [] →
    All (IsPast w n) cs → IsTwinsState w n (meetings_in (packets_until w n)) cs s t → IsTwinsState w (n + 1) (meetings_in (packets_until w n)) cs s (with_end t)
twin_ends w n cs s t h ends quiet past is =
    let ms = meetings_in (packets_until w n) in
    let next : ended w s (n + 1) ≡ ended w s n + 1 = ended_more w s n h ∙ ap (λ b. ended w s n + cond b 1 0) ends in
    let P : ℕ → Type 0 = λ a. ended w s a ≢ ended w s (n + 1) in
    let none : seen_in w s (ended w s (n + 1)) ms ≡ [] =
    seen_none w s (ended w s (n + 1)) ms (meetings_keep P 0 (packets_until w n)
    (All-weaker (λ (p : Packet). p.step_at < n) (λ (p : Packet). P p.step_at)
    (λ p low same. let up : ended w s p.step_at ≤ ended w s n = ended_rises w s p.step_at n (omega arith) in let keeps : ⊥ = omega arith in keeps) (packets_until w n) (packets_before w n (omega arith)))) in
    let same_packets : packets_until w (n + 1) ≡ packets_until w n = packets_more w n h ∙ ap (λ ps. packets_until w n ++ ps) quiet ∙ append-nil (packets_until w n) in
    let last : frozen w s (ended w s n) ≡ table_of w.shape (seen_in w s (ended w s n) ms) =
    frozen_is w s (ended w s n) (n + 1) (omega arith) (omega arith) ∙ ap (λ ps. table_of w.shape (seen_in w s (ended w s n) (meetings_in ps))) same_packets in
    let back : ended w s (n + 1) - 1 ≡ ended w s n = omega arith in
    record {
      shape = is.shape;
      epoch = ap (λ e. e + 1) is.epoch ∙ sym next;
      current = ap zero_table is.shape ∙ sym (ap (table_of w.shape) none);
      frozen = λ some. is.current ∙ sym last ∙ ap (frozen w s) (sym back);
      put = sym (none_out w s n (ended w s (n + 1)) cs (omega arith) past);
      times = ap (λ (q : Shape). replicate q.width 0) is.shape ∙ times_zero w.shape.width s (ended w s (n + 1)) cs (λ k. none_out_at w s n (ended w s (n + 1)) k cs (omega arith) past);
    }

past_stays : (w : Scenario) (n : ℕ) (cs : List Carry) → All (IsPast w n) cs → All (IsPast w (n + 1)) cs
past_stays w n cs h =
    All-weaker (IsPast w n) (IsPast w (n + 1)) (λ c low. let up : ended w c.switch_at n ≤ ended w c.switch_at (n + 1) = ended_rises w c.switch_at n (n + 1) (omega arith) in omega arith) cs h

-- a step that ends no epoch
pub twins_stay : (w : Scenario) (n : ℕ) (ms : List Meeting) (cs : List Carry) (ts : List TwinsState) → n < length w.steps → ((s : ℕ) → is_end_of s (step_at w n) ≡ false) → AreTwins w n ms cs ts → AreTwins w (n + 1) ms cs ts
twins_stay w n ms cs ts h keeps all = record {
  count = all.count;
  past = past_stays w n cs all.past;
  each = λ s d low. twin_stays w n ms cs s (slice_index_or ts s d) h (keeps s) (all.each s d low);
}

pub twins_end : (w : Scenario) (n s : ℕ) (cs : List Carry) (ts : List TwinsState) (d : TwinsState) → n < length w.steps → step_at w n ≡ End s → s < length ts →
    AreTwins w n (meetings_in (packets_until w n)) cs ts → AreTwins w (n + 1) (meetings_in (packets_until w (n + 1))) cs (slice_set ts s (with_end (slice_index_or ts s d)))
twins_end w n s cs ts d h step inside all =
    let ms = meetings_in (packets_until w n) in
    let t : TwinsState = slice_index_or ts s d in
    let ts' : List TwinsState = slice_set ts s (with_end t) in
    let long : length ts' ≡ length ts = length-set ts s (with_end t) in
    let quiet : packets_of w.flows (n, step_at w n) ≡ [] = rw step refl in
    let same_packets : packets_until w (n + 1) ≡ packets_until w n = packets_more w n h ∙ ap (λ ps. packets_until w n ++ ps) quiet ∙ append-nil (packets_until w n) in
    let ends : is_end_of s (step_at w n) ≡ true = rw (step, eq-eqb s s refl) refl in
    let new : AreTwins w (n + 1) ms cs ts' = record {
      count = long ∙ all.count;
      past = past_stays w n cs all.past;
      each = λ r e low. elim (eqb_tells s r) [
        | inl same ↦
            let here : IsTwinsState w (n + 1) ms cs s (with_end t) = twin_ends w n cs s t h ends quiet all.past (all.each s d inside) in
            let there : IsTwinsState w (n + 1) ms cs s (slice_index_or ts' s e) = subst (IsTwinsState w (n + 1) ms cs s) (sym (get_or-set_same ts s (with_end t) e inside)) here in
            subst (λ (q : ℕ). IsTwinsState w (n + 1) ms cs q (slice_index_or ts' q e)) same.1 there
        | inr other ↦
            let ne : r ≢ s = λ q. other.1 (sym q) in
            let keeps : is_end_of r (step_at w n) ≡ false = rw (step, other.0) refl in
            subst (IsTwinsState w (n + 1) ms cs r) (sym (get_or-set_other ts s r (with_end t) e ne))
            (twin_stays w n ms cs r (slice_index_or ts r e) h keeps (all.each r e (omega (arith, long))))
      ];
    } in
    subst (λ ps. AreTwins w (n + 1) (meetings_in ps) cs ts') (sym same_packets) new

pub twins_end_all : (w : Scenario) (n : ℕ) (cs : List Carry) (ts : List TwinsState) → n < length w.steps → step_at w n ≡ EndAll →
    AreTwins w n (meetings_in (packets_until w n)) cs ts → AreTwins w (n + 1) (meetings_in (packets_until w (n + 1))) cs (map with_end ts)
twins_end_all w n cs ts h step all =
    let ms = meetings_in (packets_until w n) in
    let quiet : packets_of w.flows (n, step_at w n) ≡ [] = rw step refl in
    let same_packets : packets_until w (n + 1) ≡ packets_until w n = packets_more w n h ∙ ap (λ ps. packets_until w n ++ ps) quiet ∙ append-nil (packets_until w n) in
    let new : AreTwins w (n + 1) ms cs (map with_end ts) = record {
      count = length-map ts with_end ∙ all.count;
      past = past_stays w n cs all.past;
      each = λ r e low.
          let inside : r < length ts = subst (λ (k : ℕ). r < k) (length-map ts with_end) low in
          subst (IsTwinsState w (n + 1) ms cs r) (sym (get_or-map with_end ts r e e inside))
          (twin_ends w n cs r (slice_index_or ts r e) h (rw step refl) quiet all.past (all.each r e inside));
    } in
    subst (λ ps. AreTwins w (n + 1) (meetings_in ps) cs (map with_end ts)) (sym same_packets) new

-- at the start
pub twins_start : (w : Scenario) (ts : List TwinsState) → length ts ≡ length w.switches → All (λ t. t ≡ new_twins w.shape) ts → AreTwins w 0 [] [] ts
twins_start w ts long all = record {
  count = long;
  past = All-nil (IsPast w 0);
  each = λ s d h.
      let is : slice_index_or ts s d ≡ new_twins w.shape = All-get_or (λ (t : TwinsState). t ≡ new_twins w.shape) ts s d h all in
      subst (IsTwinsState w 0 [] [] s) (sym is) (record { shape = refl; epoch = refl; current = refl; frozen = λ some. absurd (omega arith); put = refl; times = times_zero w.shape.width s 0 [] (λ k. refl) });
}
