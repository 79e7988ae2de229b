-- What giving up does to the states.
use Rattle.std.specs.Prelude.{◌≡◌, ℕ, zero, suc, ◌+◌, ◌-◌, ◌<◌, ◌≤◌, min, not, Bool, true, false, cond, List, [], ◌∷◌, length, set, count_by, slice_index_or, replicate}
use Rattle.std.specs.List.{position_or_len, list_all}
use Rattle.std.proofs.Common.{refl, sym, ap, subst, ◌∙◌, arith, true≢false, eqb, ne_eqb}
use Rattle.std.proofs.Math.Dec.{eqb-suc-suc}
use Rattle.std.proofs.lemmas.List.{length-set, get_or-set_other, get_or_default}
use Rattle.std.proofs.lemmas.List.Sums.{sum_by-cons, sum_by-set, passes_at_first, fails_before_first, prefix_len-le-length, count_by-le-length}
use Rattle.uploader_core.specs.declared.state.SeqState.{SeqState}
use Rattle.uploader_core.specs.declared.state.SeqState.TheVariants.{Idle, Outstanding, Acknowledged, Refused}
use Rattle.uploader_core.specs.States.{is_idle, is_outstanding, is_acknowledged, state_at, outstanding, idle_again, ticked, IsTallied}

abbrev pub one : Bool → ℕ
one b = cond b 1 0

-- a count after a change
pub count_set : (p : SeqState → Bool) (ss : List SeqState) (k : ℕ) (s : SeqState) → k < length ss → count_by p (set ss k s) + one (p (state_at ss k)) ≡ count_by p ss + one (p s)
count_set p ss k s lt = sum_by-set (λ x. cond (p x) 1 0) ss k s Refused lt

-- giving up changes nothing where none is outstanding
pub ticked_none : (ss : List SeqState) → outstanding ss ≡ 0 → ticked ss ≡ ss
ticked_none [] e = refl
ticked_none (Idle ∷ ss) e = ap (λ r. Idle ∷ r) (ticked_none ss e)
ticked_none (Outstanding ∷ ss) e = absurd (omega (arith, sum_by-cons (λ x. cond (is_outstanding x) 1 0) Outstanding ss))
ticked_none (Acknowledged ∷ ss) e = ap (λ r. Acknowledged ∷ r) (ticked_none ss e)
ticked_none (Refused ∷ ss) e = ap (λ r. Refused ∷ r) (ticked_none ss e)

-- so it does where none is by place
pub ticked_no : (ss : List SeqState) → ((k : ℕ) → k < length ss → is_outstanding (state_at ss k) ≡ false) → ticked ss ≡ ss
ticked_no [] none = refl
ticked_no (Idle ∷ ss) none = ap (λ r. Idle ∷ r) (ticked_no ss (λ k lt. none (suc k) (omega arith)))
ticked_no (Outstanding ∷ ss) none = absurd (true≢false (none 0 (omega arith)))
ticked_no (Acknowledged ∷ ss) none = ap (λ r. Acknowledged ∷ r) (ticked_no ss (λ k lt. none (suc k) (omega arith)))
ticked_no (Refused ∷ ss) none = ap (λ r. Refused ∷ r) (ticked_no ss (λ k lt. none (suc k) (omega arith)))

-- one that was given up already is given up
pub ticked_set : (ss : List SeqState) (k : ℕ) → is_outstanding (state_at ss k) ≡ true → ticked (set ss k Idle) ≡ ticked ss
ticked_set [] k out = refl
ticked_set (Outstanding ∷ ss) zero out = refl
ticked_set (Idle ∷ ss) zero out = refl
ticked_set (Acknowledged ∷ ss) zero out = absurd (true≢false (sym out))
ticked_set (Refused ∷ ss) zero out = absurd (true≢false (sym out))
ticked_set (s ∷ ss) (suc k) out = ap (λ r. idle_again s ∷ r) (ticked_set ss k out)

pub length_ticked : (ss : List SeqState) → length (ticked ss) ≡ length ss
length_ticked [] = refl
length_ticked (s ∷ ss) = ap suc (length_ticked ss)

pub idle_is : (s : SeqState) → is_idle s ≡ true → s ≡ Idle
idle_is Idle e = refl
idle_is Outstanding e = absurd (true≢false (sym e))
idle_is Acknowledged e = absurd (true≢false (sym e))
idle_is Refused e = absurd (true≢false (sym e))

-- what the code reads
pub state_read : (ss : List SeqState) (k : ℕ) (d : SeqState) → k < length ss → slice_index_or ss k d ≡ state_at ss k
state_read ss k d lt = get_or_default ss k d Refused lt

pub state_ticked : (ss : List SeqState) (k : ℕ) → state_at (ticked ss) k ≡ idle_again (state_at ss k)
state_ticked [] k = refl
state_ticked (s ∷ ss) zero = refl
state_ticked (s ∷ ss) (suc k) = state_ticked ss k

still_waiting : (s : SeqState) → is_idle s ≡ false → is_outstanding s ≡ false → is_idle (idle_again s) ≡ false
still_waiting Idle a b = a
still_waiting Outstanding a b = absurd (true≢false b)
still_waiting Acknowledged a b = refl
still_waiting Refused a b = refl

pub none_outstanding : (ss : List SeqState) → outstanding (ticked ss) ≡ 0
none_outstanding [] = refl
none_outstanding (Idle ∷ ss) = none_outstanding ss
none_outstanding (Outstanding ∷ ss) = none_outstanding ss
none_outstanding (Acknowledged ∷ ss) = none_outstanding ss
none_outstanding (Refused ∷ ss) = none_outstanding ss

abbrev acks : List SeqState → ℕ
acks ss = count_by is_acknowledged ss

acks_cons : (s : SeqState) (ss : List SeqState) → acks (s ∷ ss) ≡ one (is_acknowledged s) + acks ss
acks_cons s ss = sum_by-cons (λ x. cond (is_acknowledged x) 1 0) s ss

same_ack : (s : SeqState) → is_acknowledged (idle_again s) ≡ is_acknowledged s
same_ack Idle = refl
same_ack Outstanding = refl
same_ack Acknowledged = refl
same_ack Refused = refl

pub acks_ticked : (ss : List SeqState) → acks (ticked ss) ≡ acks ss
acks_ticked [] = refl
acks_ticked (s ∷ ss) = acks_cons (idle_again s) (ticked ss) ∙ (λ i. one (same_ack s i) + acks_ticked ss i) ∙ sym (acks_cons s ss)

-- after a seq is sent
pub sent_tallied : (ss : List SeqState) (low out done at : ℕ) → IsTallied ss low out done → out < 8 → at ≡ position_or_len is_idle ss → at < length ss
    → IsTallied (set ss at Outstanding) at (out + 1) done
sent_tallied ss low out done at t room is lt =
    let first : position_or_len is_idle ss < length ss = subst (λ (n : ℕ). n < length ss) is lt in
    let was : state_at ss at ≡ Idle = idle_is (state_at ss at) (subst (λ (n : ℕ). is_idle (state_at ss n) ≡ true) (sym is) (passes_at_first is_idle ss Refused first)) in
    let outs = subst (λ (s : SeqState). outstanding (set ss at Outstanding) + one (is_outstanding s) ≡ outstanding ss + 1) was (count_set is_outstanding ss at Outstanding lt) in
    let oks = subst (λ (s : SeqState). acks (set ss at Outstanding) + one (is_acknowledged s) ≡ acks ss + 0) was (count_set is_acknowledged ss at Outstanding lt) in
    record {
      passed = λ k below. ap is_idle (get_or-set_other ss at k Outstanding Refused (omega arith)) ∙ fails_before_first is_idle ss k Refused (subst (λ (n : ℕ). k < n) is below);
      within = omega (arith, length-set ss at Outstanding);
      counted = omega (arith, t.counted, outs);
      few = omega arith;
      closed = omega (arith, t.closed, oks);
    }

-- where none is idle
pub past_tallied : (ss : List SeqState) (low out done at : ℕ) → IsTallied ss low out done → at ≡ position_or_len is_idle ss → IsTallied ss at out done
past_tallied ss low out done at t is = record {
  passed = λ k below. fails_before_first is_idle ss k Refused (subst (λ (n : ℕ). k < n) is below);
  within = subst (λ (n : ℕ). n ≤ length ss) (sym is) (prefix_len-le-length (λ x. not (is_idle x)) ss);
  counted = t.counted;
  few = t.few;
  closed = t.closed;
}

-- after all are given up
pub ticked_tallied : (ss : List SeqState) (low out done first : ℕ) → IsTallied ss low out done → ((k : ℕ) → k < first → is_outstanding (state_at ss k) ≡ false) → first ≤ length ss
    → IsTallied (ticked ss) (min low first) 0 done
ticked_tallied ss low out done first t none inside = record {
  passed = λ k below. ap is_idle (state_ticked ss k) ∙ still_waiting (state_at ss k) (t.passed k (omega arith)) (none k (omega arith));
  within = let same = length_ticked ss in let was = t.within in omega arith;
  counted = sym (none_outstanding ss);
  few = omega arith;
  closed = t.closed ∙ sym (acks_ticked ss);
}

-- a step of giving up
pub gives_up : (ss : List SeqState) (k left : ℕ) → k < length ss → left ≡ outstanding ss → is_outstanding (state_at ss k) ≡ true → left - 1 ≡ outstanding (set ss k Idle)
gives_up ss k left lt counted out =
    let c = subst (λ (b : Bool). outstanding (set ss k Idle) + one b ≡ outstanding ss + 0) out (count_set is_outstanding ss k Idle lt) in
    omega (arith, c)

-- all are acknowledged where as many are as there are
few_acks : (ss : List SeqState) → acks ss ≤ length ss
few_acks ss = count_by-le-length is_acknowledged ss

less : (s : SeqState) (ss : List SeqState) → is_acknowledged s ≡ false → eqb (acks (s ∷ ss)) (suc (length ss)) ≡ false
less s ss other =
    let n : acks (s ∷ ss) ≡ acks ss = acks_cons s ss ∙ ap (λ (b : Bool). one b + acks ss) other ∙ zero-add in
    let le = few_acks ss in
    ne_eqb (acks (s ∷ ss)) (suc (length ss)) (λ e. omega arith)
  where
    zero-add : 0 + acks ss ≡ acks ss
    zero-add = omega arith

pub all_counted : (ss : List SeqState) → eqb (acks ss) (length ss) ≡ list_all is_acknowledged ss
all_counted [] = refl
all_counted (Acknowledged ∷ ss) = ap (λ n. eqb n (suc (length ss))) (acks_cons Acknowledged ss ∙ one-add) ∙ eqb-suc-suc (acks ss) (length ss) ∙ all_counted ss
  where
    one-add : 1 + acks ss ≡ suc (acks ss)
    one-add = omega arith
all_counted (Idle ∷ ss) = less Idle ss refl
all_counted (Outstanding ∷ ss) = less Outstanding ss refl
all_counted (Refused ∷ ss) = less Refused ss refl

-- At the start nothing is acknowledged.
pub none_acked : (n q : ℕ) → is_acknowledged (state_at (replicate n Idle) q) ≡ false
none_acked zero q = refl
none_acked (suc n) zero = refl
none_acked (suc n) (suc q) = none_acked n q
