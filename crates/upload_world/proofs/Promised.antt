-- From what the calls did to what the pump promises.
use Rattle.std.proofs.Common.{◌≡◌, ◌≢◌, ◌⊎◌, inl, inr, ℕ, zero, suc, ◌+◌, ◌-◌, ◌<◌, ◌≤◌, ◌==◌, Bool, true, false, not, cond, List, [], ◌∷◌, ◌++◌, map, length, take, get_or, refl, sym, ap, subst, Some, Result, Ok, Err, OnOk, ◌∙◌, arith, append-nil, append_assoc, length-append, eq-eqb, slice_get}
use Rattle.std.specs.Prelude.{All}
use Rattle.std.proofs.lemmas.List.{length-map, map-append, take-append-le}
use Rattle.std.proofs.lemmas.List.Sums.{take_while-cons}
use Rattle.std.proofs.lemmas.List.Elements.{All-nil, All-cons, All-head, All-tail, All-weaker, All-map}
use Rattle.std.proofs.lemmas.Bool.{cases_lt}
use Rattle.lg_model.specs.declared.scenario.Letter.{Letter}
use Rattle.lg_model.specs.declared.scenario.Letter.TheVariants.{LoseReply}
use Rattle.sketchlet_wire.specs.Uploads.{UploadData}
use Rattle.uploader_core.specs.declared.state.SeqState.{SeqState}
use Rattle.link_deliveries.specs.Waiting.{all_acknowledged, refusals as none_of}
use Rattle.link_deliveries.specs.Deliveries.{Delivery, acknowledge}
use Rattle.link_deliveries.proofs.Acked.{hears, acked_from, IsHeard}
use Rattle.column_book.specs.declared.entry.Entry.{Entry}
use Rattle.lock_rule.specs.declared.view.Mark.{Mark}
use Rattle.lock_rule.specs.declared.view.Mark.TheVariants as marks
use Rattle.book_journal.specs.declared.applied.ApplyFault.{ApplyFault}
use Rattle.book_journal.specs.declared.applied.ApplyFault.TheVariants as faults
use Rattle.lg_model.specs.Placing.{Shape}
use Rattle.column_book.specs.Applying.{stored_entry, decide}
use Rattle.column_book.specs.Entries.{records}
use Rattle.column_book.specs.declared.fault.BookFault.TheVariants as book
use Rattle.shared_book.specs.Passes.{HasNewBy, Serves, mark_for}
use Rattle.lock_rule.specs.declared.view.View.{View}
use Rattle.lock_rule.specs.Views.{Marked, of}
use Rattle.lock_rule.specs.Plays.{set_mark}
use Rattle.upload_world.proofs.Contents.{stands_more, stored_apart}
use Rattle.upload_world.specs.declared.fault.WorkFault.{WorkFault}
use Rattle.upload_world.specs.declared.fault.WorkFault.TheVariants as work
use Rattle.upload_world.specs.Pumping.{Along, acks, IsMine, Ran, IsRefusing, IsRefusedAt, Outcome}
use Rattle.upload_world.specs.Pumps.{upload_at, StandsIn, acked_at, before_first, AckedStand, IsOwn, OwnFrom, CarriesOwn, IsApart, IsOfCall, IsCause, IsFirstRefused, IsStarved, Stops, Pumps}
use Rattle.upload_world.proofs.Chains.{along_append}
use Rattle.upload_world.proofs.Delivered.{others, none_between, get_acks}

-- by place, what holds along a list
along_get : {A : Type 0} (P : List A → A → Type 0) (before xs : List A) (i : ℕ) (x : A) → Along P before xs → slice_get xs i ≡ Some x
    → P (before ++ take i xs) x
along_get P before [] i x a is = absurd cc
along_get P before (y ∷ xs) zero x a is =
    let same : y ≡ x = cc in
    subst (λ l. P l x) (sym (append-nil before)) (subst (P before) same a.0)
along_get P before (y ∷ xs) (suc i) x a is = subst (λ l. P l x) (append_assoc before (y ∷ []) (take i xs)) (along_get P (before ++ y ∷ []) xs i x a.1 is)

-- a place in two lists, one behind the other
get_front : {A : Type 0} (xs ys : List A) (i : ℕ) → i < length xs → slice_get (xs ++ ys) i ≡ slice_get xs i
get_front [] ys i short = absurd (omega arith)
get_front (x ∷ xs) ys zero short = refl
get_front (x ∷ xs) ys (suc i) short = get_front xs ys i (omega arith)

get_behind : {A : Type 0} (xs ys : List A) (i : ℕ) → length xs ≤ i → slice_get (xs ++ ys) i ≡ slice_get ys (i - length xs)
get_behind [] ys i far = ap (slice_get ys) (omega arith)
get_behind (x ∷ xs) ys zero far = absurd (omega arith)
get_behind (x ∷ xs) ys (suc i) far = let e : i - length xs ≡ suc i - suc (length xs) = omega arith in get_behind xs ys i (omega arith) ∙ ap (slice_get ys) e

take_behind : {A : Type 0} (xs ys : List A) (i : ℕ) → length xs ≤ i → take i (xs ++ ys) ≡ xs ++ take (i - length xs) ys
take_behind [] ys i far = ap (λ n. take n ys) (omega arith)
take_behind (x ∷ xs) ys zero far = absurd (omega arith)
take_behind (x ∷ xs) ys (suc i) far = let e : i - length xs ≡ suc i - suc (length xs) = omega arith in
    ap (λ l. x ∷ l) (take_behind xs ys i (omega arith) ∙ ap (λ n. xs ++ take n ys) e)

-- what stands before the first q stands before any q
before_front : (P : ℕ → Type 0) (q : ℕ) (xs ys : List ℕ) → All P xs → All P (before_first q (xs ++ q ∷ ys))
before_front P q [] ys all = let t = eq-eqb q q refl in
    subst (All P) (sym (take_while-cons (λ (x : ℕ). not (x == q)) q ys)) (rw t (All-nil P))
before_front P q (x ∷ xs) ys all = subst (All P) (sym (take_while-cons (λ (y : ℕ). not (y == q)) x (xs ++ q ∷ ys)))
    (elim (not (x == q)) as (λ b. All P (cond b (x ∷ before_first q (xs ++ q ∷ ys)) [])) [
      | true ↦ All-cons P x (before_first q (xs ++ q ∷ ys)) (All-head P x xs all) (before_front P q xs ys (All-tail P x xs all))
      | false ↦ All-nil P
    ])

-- uploads of whom the same are acknowledged
same_acked : (ss ts : List SeqState) (q : ℕ) → acks ts ≡ acks ss → acked_at ts q ≡ acked_at ss q
same_acked ss ts q same = sym (get_acks ts q) ∙ (ap (λ (bs : List Bool). get_or bs q false) same ∙ get_acks ss q)

abbrev numbers : List Delivery → List ℕ
numbers ds = map (λ (d : Delivery). d.seq) ds

still_marked : (m : Mark) → Marked m → set_mark m ≡ m
still_marked marks.Clear h = absurd h
still_marked marks.Seen h = refl
still_marked (marks.Carries e) h = refl

now_marked : (m : Mark) → Marked (set_mark m)
now_marked marks.Clear = tt
now_marked marks.Seen = tt
now_marked (marks.Carries e) = tt

carries_marked : (m : Mark) (e : Entry) → m ≡ marks.Carries e → Marked m
carries_marked m e is = subst Marked (sym is) tt

module _ (shape : Shape) (room : ℕ) (ups : List UploadData) where
  -- what was added, all in all
  record Grew (made : List Delivery) (v w : View) : Type 0 where
    added : List Entry
    seen : w.seen ≡ v.seen ++ added
    short : All (λ (d : Delivery). d.seq < length ups) made
    kept : All (λ (d : Delivery). StandsIn (upload_at ups d.seq) w.seen) made
    mine : Along (λ before e. e.pass ≡ v.number → IsMine shape room ups made v.number before e) v.seen added
    number : w.number ≡ v.number
    passes : w.made ≡ v.made

  grew_ran : (made : List Delivery) (v w : View) → Ran shape room ups made v w → Grew made v w
  grew_ran made v w r =
      let seen : w.seen ≡ v.seen ++ r.more = ap (λ (y : View). y.seen) r.view in
      record {
        added = r.more;
        seen = seen;
        short = r.short;
        kept = subst (λ l. All (λ (d : Delivery). StandsIn (upload_at ups d.seq) l) made) (sym seen) r.kept;
        mine = r.mine;
        number = ap (λ (y : View). y.number) r.view;
        passes = ap (λ (y : View). y.made) r.view;
      }

  -- a call more, which added nothing of ours
  grew_last : (made : List Delivery) (v b w : View) (u : UploadData) (f : ApplyFault) → Ran shape room ups made v b → Serves shape room u b w (Err f)
      → Grew made v w
  grew_last made v b w u f r s =
      let front = s.begins in
      let bseen : b.seen ≡ v.seen ++ r.more = ap (λ (y : View). y.seen) r.view in
      let number : b.number ≡ v.number = ap (λ (y : View). y.number) r.view in
      let list : w.seen ≡ s.list = ap (λ (y : View). y.seen) s.after in
      let all : w.seen ≡ v.seen ++ (r.more ++ front.0)
      = list ∙ (sym front.1 ∙ (ap (λ (l : List Entry). l ++ front.0) bseen ∙ append_assoc v.seen r.more front.0)) in
      let none : of v.number front.0 ≡ [] = subst (λ n. of n front.0 ≡ []) number (none_between b.number b.seen front.0 s.list front.1 s.mine) in
      record {
        added = r.more ++ front.0;
        seen = all;
        short = r.short;
        kept = All-weaker (λ (d : Delivery). StandsIn (upload_at ups d.seq) (v.seen ++ r.more)) (λ (d : Delivery). StandsIn (upload_at ups d.seq) w.seen)
            (λ d k. subst (StandsIn (upload_at ups d.seq)) (append_assoc v.seen r.more front.0 ∙ sym all)
            (stands_more (upload_at ups d.seq) (v.seen ++ r.more) front.0 k)) made r.kept;
        mine = along_append (λ before e. e.pass ≡ v.number → IsMine shape room ups made v.number before e) v.seen r.more front.0 r.mine
            (others v.number (IsMine shape room ups made v.number) (v.seen ++ r.more) front.0 none);
        number = ap (λ (y : View). y.number) s.after ∙ number;
        passes = ap (λ (y : View). y.made) s.after ∙ ap (λ (y : View). y.made) r.view;
      }

  -- what the last call does to a mark that was there
  last_marked : (b w : View) (u : UploadData) (f : ApplyFault) → Marked b.mark → Serves shape room u b w (Err f) → (w.mark ≡ b.mark) × (w.seen ≡ b.seen)
  last_marked b w u (faults.Broken r) m s =
      (ap (λ (y : View). y.mark) s.after ∙ still_marked b.mark m, ap (λ (y : View). y.seen) s.after ∙ (s.marked m).0)
  last_marked b w u (faults.WrongShape kept came) m s = absurd (cc (s.marked m).1)
  last_marked b w u (faults.Conflict key kept came) m s = absurd (cc (s.marked m).1)
  last_marked b w u (faults.Full held more) m s = absurd (cc (s.marked m).1)
  last_marked b w u faults.Memory m s = absurd (cc (s.marked m).1)
  last_marked b w u faults.DiskFault m s = absurd (cc (s.marked m).1)

  -- deliveries leave a mark as it was
  ran_marked : (made : List Delivery) (v b : View) → Ran shape room ups made v b → Marked v.mark → (b.mark ≡ v.mark) × (b.seen ≡ v.seen)
  ran_marked made v b r m =
      (ap (λ (y : View). y.mark) r.view, ap (λ (y : View). y.seen) r.view ∙ (ap (λ (l : List Entry). v.seen ++ l) (r.still m).1 ∙ append-nil v.seen))

  -- before the first delivery of an entry's upload no upload has its columns
  apart_of : (ds earlier later : List Delivery) (own : Delivery) (pass : ℕ) (before : List Entry) (e : Entry) → ds ≡ earlier ++ own ∷ later
      → All (λ (d : Delivery). StandsIn (upload_at ups d.seq) before) earlier
      → e.stored.seq ≡ own.seq → e ≡ stored_entry pass before (upload_at ups own.seq)
      → All (λ (q : ℕ). IsApart e (upload_at ups q)) (before_first e.stored.seq (numbers ds))
  apart_of ds earlier later own pass before e place kept seq is =
      let P : ℕ → Type 0 = λ n. IsApart e (upload_at ups n) in
      let whole : numbers ds ≡ numbers earlier ++ own.seq ∷ numbers later = ap numbers place ∙ map-append (λ (d : Delivery). d.seq) earlier (own ∷ later) in
      subst (λ n. All P (before_first n (numbers ds))) (sym seq)
      (subst (λ l. All P (before_first own.seq l)) (sym whole)
      (before_front P own.seq (numbers earlier) (numbers later)
      (All-map P (λ (d : Delivery). d.seq) earlier
      (All-weaker (λ (d : Delivery). StandsIn (upload_at ups d.seq) before) (λ (d : Delivery). P d.seq)
      (λ d k. subst (λ (x : Entry). IsApart x (upload_at ups d.seq)) (sym is) (stored_apart pass before (upload_at ups own.seq) (upload_at ups d.seq) k))
      earlier kept))))

  -- an entry that an application of the upload of number q stores
  own_of : (pass : ℕ) (before : List Entry) (e : Entry) (q : ℕ) → q < length ups → e.stored.seq ≡ q → e ≡ stored_entry pass before (upload_at ups q)
      → HasNewBy shape room pass (upload_at ups q) before
      → IsOwn shape room ups pass before e
  own_of pass before e q short seq is right = record {
    sent = subst (λ n. n < length ups) (sym seq) short;
    is = is ∙ ap (λ (n : ℕ). stored_entry pass before (upload_at ups n)) (sym seq);
    right = subst (λ n. HasNewBy shape room pass (upload_at ups n) before) (sym seq) right;
  }

  seq_of : (made : List Delivery) (pass : ℕ) (before : List Entry) (e : Entry) (m : IsMine shape room ups made pass before e) → e.stored.seq ≡ m.own.seq
  seq_of made pass before e m = ap (λ (x : Entry). x.stored.seq) m.is ∙ m.seq

  own_mine : (made : List Delivery) (pass : ℕ) (before : List Entry) (e : Entry) → IsMine shape room ups made pass before e → IsOwn shape room ups pass before e
  own_mine made pass before e m = own_of pass before e m.own.seq m.short (seq_of made pass before e m) m.is m.right

  of_call : (ds made left : List Delivery) (pass : ℕ) (before : List Entry) (e : Entry) → ds ≡ made ++ left → IsMine shape room ups made pass before e
      → IsOfCall shape room ups (numbers ds) pass before e
  of_call ds made left pass before e split m = record {
    own = own_mine made pass before e m;
    first = apart_of ds m.earlier (m.later ++ left) m.own pass before e
        (split ∙ (ap (λ (l : List Delivery). l ++ left) m.place ∙ append_assoc m.earlier (m.own ∷ m.later) left)) m.known
        (seq_of made pass before e m) m.is;
  }

  -- an entry at a place past what was seen
  mine_at : (made : List Delivery) (v w : View) → Grew made v w → (i : ℕ) (e : Entry) → length v.seen ≤ i → slice_get w.seen i ≡ Some e → e.pass ≡ v.number
      → IsMine shape room ups made v.number (take i w.seen) e
  mine_at made v w g i e far is own =
      let here : slice_get g.added (i - length v.seen) ≡ Some e
      = sym (get_behind v.seen g.added i far) ∙ (ap (λ (l : List Entry). slice_get l i) (sym g.seen) ∙ is) in
      let front : take i w.seen ≡ v.seen ++ take (i - length v.seen) g.added = ap (take i) g.seen ∙ take_behind v.seen g.added i far in
      subst (λ l. IsMine shape room ups made v.number l e) (sym front)
      (along_get (λ before x. x.pass ≡ v.number → IsMine shape room ups made v.number before x) v.seen g.added (i - length v.seen) e g.mine here own)

  own_kept : (made : List Delivery) (v w : View) → Grew made v w → (n : ℕ) → OwnFrom shape room ups v.number n v.seen → OwnFrom shape room ups v.number n w.seen
  own_kept made v w g n old = λ i e far is own. elim (cases_lt i (length v.seen)) [
    | inl short ↦
        let here : slice_get v.seen i ≡ Some e = sym (get_front v.seen g.added i short) ∙ (ap (λ (l : List Entry). slice_get l i) (sym g.seen) ∙ is) in
        let front : take i w.seen ≡ take i v.seen = ap (take i) g.seen ∙ take-append-le i v.seen g.added (omega arith) in
        subst (λ l. IsOwn shape room ups v.number l e) (sym front) (old i e far here own)
    | inr past ↦
        own_mine made v.number (take i w.seen) e (mine_at made v w g i e past is own)
  ]

  acked_kept : (made : List Delivery) (v w : View) (ss ts : List SeqState) → Grew made v w → acks ts ≡ acks (acknowledge ss made)
      → AckedStand shape room ups ss v.seen → AckedStand shape room ups ts w.seen
  acked_kept made v w ss ts g same old = λ q short is.
      let P : ℕ → Type 0 = λ n. n < length ups → StandsIn (upload_at ups n) w.seen in
      acked_from P ss made q (All-weaker (λ (d : Delivery). StandsIn (upload_at ups d.seq) w.seen) (λ (d : Delivery). P d.seq) (λ d k _. k) made g.kept)
      (λ was _. subst (StandsIn (upload_at ups q)) (sym g.seen) (stands_more (upload_at ups q) v.seen g.added (old q short was)))
      (sym (same_acked (acknowledge ss made) ts q same) ∙ is) short

  answered : (ds made left : List Delivery) (v w : View) (ss ts : List SeqState) → ds ≡ made ++ left → length ss ≡ length ups → Grew made v w
      → acks ts ≡ acks (acknowledge ss made) → All IsHeard ds
      → (i : ℕ) (e : Entry) → length v.seen ≤ i → slice_get w.seen i ≡ Some e → e.pass ≡ v.number → acked_at ts e.stored.seq ≡ true
  answered ds made left v w ss ts split each g same heard i e far is own =
      let m = mine_at made v w g i e far is own in
      let whole : ds ≡ m.earlier ++ m.own ∷ (m.later ++ left)
      = split ∙ (ap (λ (l : List Delivery). l ++ left) m.place ∙ append_assoc m.earlier (m.own ∷ m.later) left) in
      let short = m.short in
      let its : m.own.heard ≡ true = here m.earlier (m.later ++ left) m.own (subst (All IsHeard) whole heard) in
      let seq = seq_of made v.number (take i w.seen) e m in
      ap (acked_at ts) seq ∙ (same_acked (acknowledge ss made) ts m.own.seq same
      ∙ (ap (λ (l : List Delivery). acked_at (acknowledge ss l) m.own.seq) m.place ∙ hears ss m.earlier m.later m.own (omega arith) its))
    where
      here : (earlier later : List Delivery) (d : Delivery) → All IsHeard (earlier ++ d ∷ later) → d.heard ≡ true
      here [] later d all = All-head IsHeard d later all
      here (x ∷ earlier) later d all = here earlier later d (All-tail IsHeard x (earlier ++ d ∷ later) all)

  -- what a mark that was set carries
  set_by : (ds made later : List Delivery) (first : Delivery) (v b w : View) (f : ApplyFault) → ds ≡ made ++ first ∷ later → first.seq < length ups
      → (upload_at ups first.seq).seq ≡ first.seq
      → Ran shape room ups made v b → Serves shape room (upload_at ups first.seq) b w (Err f) → (Marked v.mark → ⊥) → (e : Entry) → w.mark ≡ marks.Carries e
      → IsOfCall shape room ups (numbers ds) v.number w.seen e
  set_by ds made later first v b w (faults.Broken r) split short seq ran s clear e is =
      let old : b.mark ≡ v.mark = ap (λ (y : View). y.mark) ran.view in
      let now : set_mark b.mark ≡ marks.Carries e = sym (ap (λ (y : View). y.mark) s.after) ∙ is in
      absurd (clear (subst Marked old (from_seen b.mark now)))
    where
      from_seen : (m : Mark) → set_mark m ≡ marks.Carries e → Marked m
      from_seen marks.Clear h = absurd cc
      from_seen marks.Seen h = tt
      from_seen (marks.Carries x) h = tt
  set_by ds made later first v b w (faults.WrongShape kept came) split short seq ran s clear e is =
      absurd (clear (carries_marked v.mark e (sym (ap (λ (y : View). y.mark) s.after ∙ ap (λ (y : View). y.mark) ran.view) ∙ is)))
  set_by ds made later first v b w (faults.Conflict key kept came) split short seq ran s clear e is =
      absurd (clear (carries_marked v.mark e (sym (ap (λ (y : View). y.mark) s.after ∙ ap (λ (y : View). y.mark) ran.view) ∙ is)))
  set_by ds made later first v b w (faults.Full held more) split short seq ran s clear e is =
      absurd (clear (carries_marked v.mark e (sym (ap (λ (y : View). y.mark) s.after ∙ ap (λ (y : View). y.mark) ran.view) ∙ is)))
  set_by ds made later first v b w faults.Memory split short seq ran s clear e is =
      absurd (clear (carries_marked v.mark e (sym (ap (λ (y : View). y.mark) s.after ∙ ap (λ (y : View). y.mark) ran.view) ∙ is)))
  set_by ds made later first v b w faults.DiskFault split short seq ran s clear e is =
      let number : b.number ≡ v.number = ap (λ (y : View). y.number) ran.view in
      let list : w.seen ≡ s.list = ap (λ (y : View). y.seen) s.after in
      let held : marks.Carries (stored_entry b.number s.list (upload_at ups first.seq)) ≡ marks.Carries e = sym (ap (λ (y : View). y.mark) s.after) ∙ is in
      let same : e ≡ stored_entry v.number w.seen (upload_at ups first.seq)
      = sym (carried (stored_entry b.number s.list (upload_at ups first.seq)) e held)
      ∙ (ap (λ (n : ℕ). stored_entry n s.list (upload_at ups first.seq)) number
      ∙ ap (λ (l : List Entry). stored_entry v.number l (upload_at ups first.seq)) (sym list)) in
      let right = subst (λ n. HasNewBy shape room n (upload_at ups first.seq) w.seen) number
      (subst (λ l. HasNewBy shape room b.number (upload_at ups first.seq) l) (sym list) s.right) in
      let its : e.stored.seq ≡ first.seq = ap (λ (x : Entry). x.stored.seq) same ∙ seq in
      let g = grew_last made v b w (upload_at ups first.seq) faults.DiskFault ran s in
      record {
        own = own_of v.number w.seen e first.seq short its same right;
        first = apart_of ds made later first v.number w.seen e split g.kept its same;
      }
    where
      carried : (x y : Entry) → marks.Carries x ≡ marks.Carries y → x ≡ y
      carried x y h = cc

  -- the cause of a refusal
  cause_of : (made : List Delivery) (q : ℕ) (v b w : View) (f : ApplyFault) → IsRefusing f → Ran shape room ups made v b
      → Serves shape room (upload_at ups q) b w (Err f) → IsCause shape room ups q v w f
  cause_of made q v b w (faults.WrongShape kept came) is ran s =
      subst (λ l. decide shape room (records l) (upload_at ups q) ≡ Err (book.WrongShape kept came)) (sym (ap (λ (y : View). y.seen) s.after)) s.right
  cause_of made q v b w (faults.Conflict key kept came) is ran s =
      subst (λ l. decide shape room (records l) (upload_at ups q) ≡ Err (book.Conflict key kept came)) (sym (ap (λ (y : View). y.seen) s.after)) s.right
  cause_of made q v b w (faults.Full held more) is ran s =
      subst (λ l. decide shape room (records l) (upload_at ups q) ≡ Err (book.Full held more)) (sym (ap (λ (y : View). y.seen) s.after)) s.right
  cause_of made q v b w faults.Memory is ran s = is
  cause_of made q v b w faults.DiskFault is ran s = (
    λ m. cc (s.marked (subst Marked (sym (ap (λ (y : View). y.mark) ran.view)) m)).1,
    ap (λ (y : View). y.mark) s.after ∙ ap (λ (e : Entry). marks.Carries e)
        (ap (λ (n : ℕ). stored_entry n s.list (upload_at ups q)) (ap (λ (y : View). y.number) ran.view)
        ∙ ap (λ (l : List Entry). stored_entry v.number l (upload_at ups q)) (sym (ap (λ (y : View). y.seen) s.after))),
  )
  cause_of made q v b w (faults.Broken r) is ran s =
      (subst Marked (sym (ap (λ (y : View). y.mark) s.after)) (now_marked b.mark), s.right ∙ ap length (sym (ap (λ (y : View). y.seen) s.after)))

  is_marked : (m : Mark) → Marked m ⊎ (Marked m → ⊥)
  is_marked marks.Clear = inr (λ h. h)
  is_marked marks.Seen = inl tt
  is_marked (marks.Carries e) = inl tt

  -- what a mark carries afterwards, by what it carried and by what was set
  carried_by : (ds : List ℕ) (v w : View) → w.number ≡ v.number → (Marked v.mark → (w.mark ≡ v.mark) × (w.seen ≡ v.seen))
      → ((Marked v.mark → ⊥) → (e : Entry) → w.mark ≡ marks.Carries e → IsOfCall shape room ups ds v.number w.seen e)
      → CarriesOwn shape room ups v → CarriesOwn shape room ups w
  carried_by ds v w number marked set old = λ e is. elim (is_marked v.mark) [
    | inl m ↦
        let still = marked m in
        subst (λ n. IsOwn shape room ups n w.seen e) (sym number) (subst (λ l. IsOwn shape room ups v.number l e) (sym still.1) (old e (sym still.0 ∙ is)))
    | inr clear ↦ subst (λ n. IsOwn shape room ups n w.seen e) (sym number) (set clear e is).own
  ]

  same_ran : (made : List Delivery) (v w : View) → Ran shape room ups made v w → w ≡ record v { seen = w.seen; begun = w.begun; mark = w.mark }
  same_ran made v w r = subst (λ (x : View). x ≡ record v { seen = x.seen; begun = x.begun; mark = x.mark }) (sym r.view) refl

  same_call : (made : List Delivery) (v b w : View) (u : UploadData) (f : ApplyFault) → Ran shape room ups made v b → Serves shape room u b w (Err f)
      → w ≡ record v { seen = w.seen; begun = w.begun; mark = w.mark }
  same_call made v b w u f r s = subst (λ (x : View). x ≡ record v { seen = x.seen; begun = x.begun; mark = x.mark })
      (sym (s.after ∙ ap (λ (y : View). record y { seen = s.list; begun = b.begun + 1; mark = mark_for b.number u s.list b.mark (Err f) }) r.view)) refl

  -- all of it, of a call that made these deliveries and no more
  told_ran : {A : Type 0} (r : Result A WorkFault) (ds made left : List Delivery) (ls : List Letter) (v w : View) (ss ts : List SeqState) → ds ≡ made ++ left
      → length ss ≡ length ups → (All (λ (l : Letter). l ≢ LoseReply) ls → All IsHeard ds)
      → OnOk r ((all_acknowledged ts ≡ true) × (w.begun ≡ v.begun + length (numbers ds)) × (w.mark ≡ v.mark)) → Stops shape room ups (numbers ds) v w ts r
      → Ran shape room ups made v w → acks ts ≡ acks (acknowledge ss made) → Pumps shape room ups (numbers ds) ls v w ss ts r
  told_ran r ds made left ls v w ss ts split each heard done refused ran same =
      let g = grew_ran made v w ran in
      let begun : w.begun ≡ v.begun + length made = ap (λ (y : View). y.begun) ran.view in
      let long : length ds ≡ length made + length left = ap length split ∙ length-append made left in
      let count : length (numbers ds) ≡ length ds = length-map ds (λ (d : Delivery). d.seq) in
      let set : (Marked v.mark → ⊥) → (e : Entry) → w.mark ≡ marks.Carries e → IsOfCall shape room ups (numbers ds) v.number w.seen e
      = λ clear e is. absurd (clear (carries_marked v.mark e (sym (ap (λ (y : View). y.mark) ran.view) ∙ is))) in
      record {
        done = done;
        stops = refused;
        calls = omega arith;
        same = same_ran made v w ran;
        grows = (g.added, sym g.seen);
        acked = acked_kept made v w ss ts g same;
        own = own_kept made v w g;
        carries = carried_by (numbers ds) v w g.number (ran_marked made v w ran) set;
        added = λ i e far is own. of_call ds made left v.number (take i w.seen) e split (mine_at made v w g i e far is own);
        set = set;
        marked = ran_marked made v w ran;
        answered = λ kept. answered ds made left v w ss ts split each g same (heard kept);
      }

  -- all of it, of a call that ended with an application that was refused
  told_call : {A : Type 0} (fault : WorkFault) (ds made later : List Delivery) (first : Delivery) (ls : List Letter) (v b w : View) (ss ts : List SeqState)
      (f : ApplyFault)
      → ds ≡ made ++ first ∷ later → length ss ≡ length ups → (All (λ (l : Letter). l ≢ LoseReply) ls → All IsHeard ds)
      → Stops shape room ups {A = A} (numbers ds) v w ts (Err fault)
      → first.seq < length ups → (upload_at ups first.seq).seq ≡ first.seq → Ran shape room ups made v b
      → Serves shape room (upload_at ups first.seq) b w (Err f) → acks ts ≡ acks (acknowledge ss made)
      → Pumps shape room ups {A = A} (numbers ds) ls v w ss ts (Err fault)
  told_call {A} fault ds made later first ls v b w ss ts f split each heard refused short seq ran s same =
      let u = upload_at ups first.seq in
      let g = grew_last made v b w u f ran s in
      let begun : b.begun ≡ v.begun + length made = ap (λ (y : View). y.begun) ran.view in
      let one : w.begun ≡ b.begun + 1 = ap (λ (y : View). y.begun) s.after in
      let long : length ds ≡ length made + suc (length later) = ap length split ∙ length-append made (first ∷ later) in
      let count : length (numbers ds) ≡ length ds = length-map ds (λ (d : Delivery). d.seq) in
      let marked : Marked v.mark → (w.mark ≡ v.mark) × (w.seen ≡ v.seen)
      = λ m.
      let first_part = ran_marked made v b ran m in
      let last_part = last_marked b w u f (subst Marked (sym first_part.0) m) s in
      (last_part.0 ∙ first_part.0, last_part.1 ∙ first_part.1) in
      let set : (Marked v.mark → ⊥) → (e : Entry) → w.mark ≡ marks.Carries e → IsOfCall shape room ups (numbers ds) v.number w.seen e
      = set_by ds made later first v b w f split short seq ran s in
      record {
        done = tt;
        stops = refused;
        calls = omega arith;
        same = same_call made v b w u f ran s;
        grows = (g.added, sym g.seen);
        acked = acked_kept made v w ss ts g same;
        own = own_kept made v w g;
        carries = carried_by (numbers ds) v w g.number marked set;
        added = λ i e far is own. of_call ds made (first ∷ later) v.number (take i w.seen) e split (mine_at made v w g i e far is own);
        set = set;
        marked = marked;
        answered = λ kept. answered ds made (first ∷ later) v w ss ts split each g same (heard kept);
      }

  -- the first delivery that was refused
  refused_at : (ds made left : List Delivery) (v b w : View) (seq : ℕ) (fault : ApplyFault) → ds ≡ made ++ left → Ran shape room ups made v b
      → IsRefusedAt shape room ups left b w seq fault → IsFirstRefused shape room ups (numbers ds) v w seq fault
  refused_at ds made left v b w seq fault split ran r =
      let c = r.call in
      let g = grew_last made v b w (upload_at ups c.first.seq) fault ran c.serves in
      let begun : b.begun ≡ v.begun + length made = ap (λ (y : View). y.begun) ran.view in
      let one : w.begun ≡ b.begun + 1 = ap (λ (y : View). y.begun) c.serves.after in
      let count : length (numbers made) ≡ length made = length-map made (λ (d : Delivery). d.seq) in
      record {
        earlier = numbers made;
        later = numbers c.later;
        place = ap numbers (split ∙ ap (λ (l : List Delivery). made ++ l) c.place)
            ∙ (map-append (λ (d : Delivery). d.seq) made (c.first ∷ c.later) ∙ ap (λ (n : ℕ). numbers made ++ n ∷ numbers c.later) (sym r.seq_is));
        stand = All-map (λ (q : ℕ). StandsIn (upload_at ups q) w.seen) (λ (d : Delivery). d.seq) made g.kept;
        calls = omega arith;
        cause = subst (λ n. IsCause shape room ups n v w fault) (sym r.seq_is) (cause_of made c.first.seq v b w fault r.refusing ran c.serves);
      }

  -- want of memory, before a call and in one
  short_ran : (ds made left : List Delivery) (v w : View) (ts : List SeqState) → ds ≡ made ++ left → Ran shape room ups made v w → none_of ts ≡ 0
      → IsStarved shape room ups (numbers ds) v w ts
  short_ran ds made left v w ts split ran none =
      let g = grew_ran made v w ran in
      let begun : w.begun ≡ v.begun + length made = ap (λ (y : View). y.begun) ran.view in
      let count : length (numbers made) ≡ length made = length-map made (λ (d : Delivery). d.seq) in
      record {
        earlier = numbers made;
        later = numbers left;
        place = ap numbers split ∙ map-append (λ (d : Delivery). d.seq) made left;
        stand = All-map (λ (q : ℕ). StandsIn (upload_at ups q) w.seen) (λ (d : Delivery). d.seq) made g.kept;
        calls = omega arith;
        mark = ap (λ (y : View). y.mark) ran.view;
        none = none;
      }

  short_call : (ds made left : List Delivery) (v b w : View) (ts : List SeqState) (u : UploadData) → ds ≡ made ++ left → Ran shape room ups made v b
      → Serves shape room u b w (Err faults.Memory) → none_of ts ≡ 0 → IsStarved shape room ups (numbers ds) v w ts
  short_call ds made left v b w ts u split ran s none =
      let g = grew_last made v b w u faults.Memory ran s in
      let begun : b.begun ≡ v.begun + length made = ap (λ (y : View). y.begun) ran.view in
      let one : w.begun ≡ b.begun + 1 = ap (λ (y : View). y.begun) s.after in
      let count : length (numbers made) ≡ length made = length-map made (λ (d : Delivery). d.seq) in
      record {
        earlier = numbers made;
        later = numbers left;
        place = ap numbers split ∙ map-append (λ (d : Delivery). d.seq) made left;
        stand = All-map (λ (q : ℕ). StandsIn (upload_at ups q) w.seen) (λ (d : Delivery). d.seq) made g.kept;
        calls = omega arith;
        mark = ap (λ (y : View). y.mark) s.after ∙ ap (λ (y : View). y.mark) ran.view;
        none = none;
      }

  -- whatever the outcome
  pub told : {A : Type 0} (r : Result A WorkFault) (ds : List Delivery) (ls : List Letter) (v w : View) (ss ts : List SeqState) → length ss ≡ length ups
      → (All (λ (l : Letter). l ≢ LoseReply) ls → All IsHeard ds)
      → OnOk r (all_acknowledged ts ≡ true) → Outcome shape room ups ds v w ss ts r → Pumps shape room ups (numbers ds) ls v w ss ts r
  told (Ok a) ds ls v w ss ts each heard done o =
      let begun : w.begun ≡ v.begun + length (numbers ds)
      = ap (λ (y : View). y.begun) o.ran.view ∙ ap (λ (n : ℕ). v.begun + n) (sym (length-map ds (λ (d : Delivery). d.seq))) in
      told_ran (Ok a) ds ds [] ls v w ss ts (sym (append-nil ds)) each heard (done, begun, ap (λ (y : View). y.mark) o.ran.view) tt o.ran o.acked
  told {A} (Err (work.Refused seq fault)) ds ls v w ss ts each heard done o =
      let c = o.last.call in
      told_call {A = A} (work.Refused seq fault) ds o.made c.later c.first ls v o.between w ss ts fault
      (o.split ∙ ap (λ (l : List Delivery). o.made ++ l) c.place) each heard
      (refused_at ds o.made o.left v o.between w seq fault o.split o.ran o.last) c.short c.seq o.ran c.serves o.acked
  told {A} (Err work.Memory) ds ls v w ss ts each heard done o = elim o.last [
    | inl same ↦ told_ran {A = A} (Err work.Memory) ds o.made o.left ls v w ss ts o.split each heard tt
        (short_ran ds o.made o.left v w ts o.split (subst (Ran shape room ups o.made v) (sym same) o.ran) (o.none tt))
        (subst (Ran shape room ups o.made v) (sym same) o.ran) o.acked
    | inr c ↦ told_call {A = A} work.Memory ds o.made c.later c.first ls v o.between w ss ts faults.Memory
        (o.split ∙ ap (λ (l : List Delivery). o.made ++ l) c.place) each heard
        (short_call ds o.made o.left v o.between w ts (upload_at ups c.first.seq) o.split o.ran c.serves (o.none tt)) c.short c.seq o.ran c.serves o.acked
  ]
