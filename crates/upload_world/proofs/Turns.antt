-- A turn: uploads that are applied one after the other, by the answers.
use Rattle.std.proofs.Common.{◌≡◌, ℕ, ◌+◌, ◌<◌, ◌≤◌, cond, List, [], ◌∷◌, length, take, drop, length-drop, get_or, refl, sym, ap, subst, Result, Ok, Err, OnOk, OnErr, ◌∙◌, arith}
use Rattle.std.specs.Prelude.{IsErrAnd}
use Rattle.std.proofs.lemmas.List.{drop_more, drop_all, take_all, length-map, get_or-map}
use Rattle.std.proofs.lemmas.List.Elements.{All-get_or}
use Rattle.sketchlet_wire.specs.Uploads.{UploadData}
use Rattle.uploader_core.specs.declared.state.SeqState.{SeqState}
use Rattle.link_deliveries.specs.Waiting.{refusals}
use Rattle.link_deliveries.specs.Deliveries.{Delivery, delivery, acknowledge}
use Rattle.book_journal.specs.declared.applied.Applied.{Applied}
use Rattle.book_journal.specs.declared.applied.ApplyFault.{ApplyFault}
use Rattle.book_journal.specs.declared.applied.ApplyFault.TheVariants as faults
use Rattle.lg_model.specs.Placing.{Shape}
use Rattle.shared_book.specs.Passes.{Serves, ServesEach}
use Rattle.lock_rule.specs.declared.view.View.{View}
use Rattle.upload_world.specs.declared.fault.WorkFault.{WorkFault}
use Rattle.upload_world.specs.declared.deliver.Coming.{Coming}
use Rattle.upload_world.specs.declared.deliver.Due.{Due}
use Rattle.upload_world.specs.Pumps.{upload_at}
use Rattle.upload_world.specs.Pumping.{answered, outcome_of, IsDue, Went, Stopped, Outcome, dues}
use Rattle.upload_world.proofs.Chains.{went_none, went_more}
use Rattle.upload_world.proofs.Chained.{err_late, more_of, whole_of, acknowledged_more}
use Rattle.upload_world.proofs.Delivered.{Ready, finish, finish_states}

abbrev Answer : Type 0
Answer = Result Applied ApplyFault

module _ (shape : Shape) (room : ℕ) where
  -- one upload of a turn
  record Served (u : UploadData) (us : List UploadData) (v w : View) (a : Answer) (bs : List Answer) : Type 0 where
    after : View
    serves : Serves shape room u v after a
    on : OnOk a (ServesEach shape room us after w bs)
    last : OnErr a (after ≡ w)

  served : (u : UploadData) (us : List UploadData) (v w : View) (a : Answer) (bs : List Answer) → ServesEach shape room (u ∷ us) v w (a ∷ bs)
      → Served u us v w a bs
  served u us v w (Ok x) bs s = record { after = s.0; serves = s.1; on = s.2; last = tt }
  served u us v w (Err f) bs s = record { after = w; serves = s.0; on = tt; last = refl }

  -- each answer is to one of the uploads
  pub no_more_answers : (us : List UploadData) (v w : View) (bs : List Answer) → ServesEach shape room us v w bs → length bs ≤ length us
  no_more_answers [] v w [] s = omega arith
  no_more_answers [] v w (a ∷ bs) s = absurd s
  no_more_answers (u ∷ us) v w [] s = absurd s
  no_more_answers (u ∷ us) v w (Ok x ∷ bs) s = let rest = no_more_answers us s.0 w bs s.2 in omega arith
  no_more_answers (u ∷ us) v w (Err f ∷ bs) s = let none = ap length s.1 in omega arith

  -- where no answer is left, all were applied
  all_answered : (us : List UploadData) (v w : View) → ServesEach shape room us v w [] → (us ≡ []) × (w ≡ v)
  all_answered [] v w s = (refl, s)
  all_answered (u ∷ us) v w s = absurd s

-- what is made of an answer tells of the answer
ok_from : {P : Type 0} (q : ℕ) (a : Answer) (r : Result (Unit {0}) WorkFault) → r ≡ outcome_of q a → r ≡ Ok tt → OnOk a P → P
ok_from q (Ok x) r is ok p = p
ok_from q (Err (faults.Broken n)) r is ok p = absurd (cc (sym ok ∙ is))
ok_from q (Err (faults.WrongShape kept came)) r is ok p = absurd (cc (sym ok ∙ is))
ok_from q (Err (faults.Conflict key kept came)) r is ok p = absurd (cc (sym ok ∙ is))
ok_from q (Err (faults.Full held more)) r is ok p = absurd (cc (sym ok ∙ is))
ok_from q (Err faults.Memory) r is ok p = absurd (cc (sym ok ∙ is))
ok_from q (Err faults.DiskFault) r is ok p = absurd (cc (sym ok ∙ is))

err_from : {P : Type 0} (q : ℕ) (f : WorkFault) (a : Answer) (r : Result (Unit {0}) WorkFault) → r ≡ outcome_of q a → r ≡ Err f → OnErr a P → P
err_from q f (Ok x) r is err p = absurd (cc (sym err ∙ is))
err_from q f (Err g) r is err p = p

module _ (shape : Shape) (room : ℕ) (ups : List UploadData) (own : ℕ) (due : Due) (bs : List Answer) (v w : View) (ss0 : List SeqState) where
  -- of what is due, the first were applied and their replies handed on
  pub record Between (i : ℕ) (ss : List SeqState) : Type 0 where
    pub view : View
    pub went : Went shape room ups (take i (dues due)) v view ss0 ss
    pub states : ss ≡ acknowledge ss0 (take i (dues due))
    pub rest : ServesEach shape room (drop i due.uploads.items) view w (drop i bs)

  pub begins : ServesEach shape room due.uploads.items v w bs → Between 0 ss0
  begins s = record { view = v; went = went_none shape room ups v ss0 ss0 refl; states = refl; rest = s }

  long : IsDue own ups due → length due.uploads.items ≡ length (dues due)
  long is = ap length is.uploads ∙ length-map (dues due) (λ (x : Delivery). upload_at ups x.seq)

  -- there is an upload to each answer
  pub inside : (i : ℕ) (ss : List SeqState) → Between i ss → i < length bs → i < length due.uploads.items
  inside i ss b short =
      let few = no_more_answers shape room (drop i due.uploads.items) b.view w (drop i bs) b.rest in
      let us = length-drop i due.uploads.items in
      let answers = length-drop i bs in
      omega arith

  -- the next one by its answer: where it was not acknowledged it is the last one
  record Turn (i : ℕ) (between : View) (ss ts : List SeqState) (c : Coming) (r : Result (Unit {0}) WorkFault) (a : Answer) : Type 0 where
    after : View
    in_order : i < length (dues due)
    is : delivery c.seq c.heard ≡ get_or (dues due) i (delivery c.seq c.heard)
    outcome : Outcome shape room ups (delivery c.seq c.heard ∷ []) between after ss ts r
    states : OnOk r (ts ≡ acknowledge ss (delivery c.seq c.heard ∷ []))
    on : OnOk a (ServesEach shape room (drop (i + 1) due.uploads.items) after w (drop (i + 1) bs))
    last : OnErr a (after ≡ w)

  -- what is known of an answer and of what it is to
  pub record Answers (i : ℕ) (host : ℕ) (ss ts : List SeqState) (c : Coming) (u : UploadData) (a : Answer) : Type 0 where
    pub short : i < length bs
    pub coming : c ≡ get_or due.order.items i c
    pub upload : u ≡ get_or due.uploads.items i u
    pub answer : a ≡ get_or bs i a
    pub host_is : host ≡ own
    pub states : ts ≡ cond c.heard (answered host ss u a) ss

  turn : (i host : ℕ) (ss ts : List SeqState) (c : Coming) (u : UploadData) (a : Answer) (r : Result (Unit {0}) WorkFault) → IsDue own ups due
      → length ss ≡ length ups → refusals ss ≡ 0 → Answers i host ss ts c u a → r ≡ outcome_of c.seq a → (b : Between i ss) → Turn i b.view ss ts c r a
  turn i host ss ts c u a r is each none g made b =
      let us = due.uploads.items in
      let d = delivery c.seq c.heard in
      let within = inside i ss b g.short in
      let short_us = long is in
      let in_order : i < length (dues due) = omega arith in
      let count = length-map due.order.items (λ (x : Coming). delivery x.seq x.heard) in
      let in_coming : i < length due.order.items = omega arith in
      let d_is : d ≡ get_or (dues due) i d
      = ap (λ (x : Coming). delivery x.seq x.heard) g.coming
      ∙ sym (get_or-map (λ (x : Coming). delivery x.seq x.heard) due.order.items i c d in_coming) in
      let u_is : u ≡ upload_at ups c.seq
      = g.upload ∙ (ap (λ (l : List UploadData). get_or l i u) is.uploads
      ∙ (get_or-map (λ (x : Delivery). upload_at ups x.seq) (dues due) i d u in_order ∙ ap (λ (x : Delivery). upload_at ups x.seq) (sym d_is))) in
      let Short : Delivery → Type 0 = λ x. x.seq < length ups in
      let Named : Delivery → Type 0 = λ x. ((upload_at ups x.seq).host ≡ own) × ((upload_at ups x.seq).seq ≡ x.seq) in
      let short = subst Short (sym d_is) (All-get_or Short (dues due) i d in_order is.short) in
      let named = subst Named (sym d_is) (All-get_or Named (dues due) i d in_order is.named) in
      let us_on : drop i us ≡ u ∷ drop (i + 1) us
      = drop_more us i u within ∙ ap (λ (x : UploadData). x ∷ drop (i + 1) us) (sym g.upload) in
      let bs_on : drop i bs ≡ a ∷ drop (i + 1) bs
      = drop_more bs i a g.short ∙ ap (λ (x : Answer). x ∷ drop (i + 1) bs) (sym g.answer) in
      let s = served shape room u (drop (i + 1) us) b.view w a (drop (i + 1) bs)
      (subst (λ (x : List UploadData). ServesEach shape room x b.view w (a ∷ drop (i + 1) bs)) us_on
      (subst (λ (x : List Answer). ServesEach shape room (drop i us) b.view w x) bs_on b.rest)) in
      let ready : Ready shape room ups own ss c.seq c.heard b.view s.after
      = record { short = short; each = each; host = named.0; seq = named.1; none = none } in
      let states : ts ≡ cond c.heard (answered own ss u a) ss
      = g.states ∙ ap (λ (h : ℕ). cond c.heard (answered h ss u a) ss) g.host_is in
      record {
        after = s.after;
        in_order = in_order;
        is = d_is;
        outcome = finish shape room ups own ss c.seq c.heard b.view s.after u ts a r ready u_is s.serves states made;
        states = finish_states shape room ups own ss c.seq c.heard b.view s.after u ts a r ready u_is states made;
        on = s.on;
        last = s.last;
      }

  pub goes_on : (i host : ℕ) (ss ts : List SeqState) (c : Coming) (u : UploadData) (a : Answer) → IsDue own ups due → length ss ≡ length ups
      → refusals ss ≡ 0 → Answers i host ss ts c u a → Ok tt ≡ outcome_of c.seq a → Between i ss → Between (i + 1) ts
  goes_on i host ss ts c u a is each none g made b =
      let t = turn i host ss ts c u a (Ok tt) is each none g made b in
      let d = delivery c.seq c.heard in
      let more = more_of (dues due) i d t.in_order t.is in
      record {
        view = t.after;
        went = subst (λ (l : List Delivery). Went shape room ups l v t.after ss0 ts) (sym more)
            (went_more shape room ups (take i (dues due)) (d ∷ []) v b.view t.after ss0 ss ts b.went t.outcome);
        states = acknowledged_more ss0 ss ts (take i (dues due)) (d ∷ []) (take (i + 1) (dues due)) more b.states t.states;
        rest = ok_from c.seq a (Ok tt) made refl t.on;
      }

  pub fails : {A : Type 0} (i host : ℕ) (ss ts : List SeqState) (c : Coming) (u : UploadData) (a : Answer) (f : WorkFault) (r : Result A WorkFault)
      → IsDue own ups due → length ss ≡ length ups → refusals ss ≡ 0 → Answers i host ss ts c u a → Err f ≡ outcome_of c.seq a → IsErrAnd r (λ e. e ≡ f)
      → Between i ss → Outcome shape room ups (dues due) v w ss0 ts r
  fails i host ss ts c u a f r is each none g made err b =
      let t = turn i host ss ts c u a (Err f) is each none g made b in
      let d = delivery c.seq c.heard in
      let last : t.after ≡ w = err_from c.seq f a (Err f) made refl t.last in
      err_late shape room ups ups (take i (dues due)) (d ∷ []) (drop (i + 1) (dues due)) (dues due) v b.view w ss0 ss ts f r
      (whole_of (dues due) i d t.in_order t.is) refl err b.went
      (subst (λ (x : View). Stopped shape room ups (d ∷ []) b.view x ss ts f) last t.outcome)

  -- the end of the answers
  pub answered_all : (i : ℕ) (ss : List SeqState) → IsDue own ups due → length bs ≤ i → Between i ss
      → Went shape room ups (dues due) v w ss0 ss × (ss ≡ acknowledge ss0 (dues due))
  answered_all i ss is past b =
      let us = due.uploads.items in
      let end = all_answered shape room (drop i us) b.view w
      (subst (λ (x : List Answer). ServesEach shape room (drop i us) b.view w x) (drop_all i bs past) b.rest) in
      let none = ap length end.0 in
      let left = length-drop i us in
      let count = long is in
      let all : take i (dues due) ≡ dues due = take_all i (dues due) (omega arith) in (
        subst (λ (l : List Delivery). Went shape room ups l v w ss0 ss) all
            (subst (λ (x : View). Went shape room ups (take i (dues due)) v x ss0 ss) (sym end.1) b.went),
        b.states ∙ ap (acknowledge ss0) all,
      )
