-- Deliveries one after the other.
use Rattle.std.proofs.Common.{◌≡◌, inl, inr, ℕ, ◌+◌, ◌<◌, Bool, true, false, cond, List, [], ◌∷◌, ◌++◌, length, set, refl, sym, ap, subst, Result, ◌∙◌, arith, Err, append-nil, append_assoc, length-append}
use Rattle.std.specs.Prelude.{All}
use Rattle.std.proofs.lemmas.List.{map-set}
use Rattle.std.proofs.lemmas.List.Sums.{fold-append}
use Rattle.std.proofs.lemmas.List.Elements.{All-append, All-weaker, All-nil}
use Rattle.sketchlet_wire.specs.Uploads.{UploadData}
use Rattle.uploader_core.specs.declared.state.SeqState.{SeqState}
use Rattle.uploader_core.specs.declared.state.SeqState.TheVariants.{Acknowledged}
use Rattle.uploader_core.specs.States.{is_acknowledged}
use Rattle.link_deliveries.specs.Deliveries.{Delivery, acknowledge, acknowledge_one}
use Rattle.column_book.specs.declared.entry.Entry.{Entry}
use Rattle.lg_model.specs.Placing.{Shape}
use Rattle.upload_world.specs.Pumps.{StandsIn, upload_at}
use Rattle.lock_rule.specs.declared.view.View.{View}
use Rattle.lock_rule.specs.Views.{Marked}
use Rattle.upload_world.proofs.Contents.{stands_more}
use Rattle.upload_world.specs.declared.fault.WorkFault.{WorkFault}
use Rattle.upload_world.specs.declared.fault.WorkFault.TheVariants.{Refused, Memory}
use Rattle.book_journal.specs.declared.applied.Applied.{Applied}
use Rattle.book_journal.specs.declared.applied.ApplyFault.{ApplyFault}
use Rattle.book_journal.specs.declared.applied.ApplyFault.TheVariants as faults
use Rattle.upload_world.specs.Pumping.{Along, acks, IsMine, Ran, IsCalled, LastCall, Stopped, Went}

-- what holds along two lists, one behind the other
pub along_append : {A : Type 0} (P : List A → A → Type 0) (before xs ys : List A) → Along P before xs → Along P (before ++ xs) ys → Along P before (xs ++ ys)
along_append P before [] ys a b = subst (λ l. Along P l ys) (append-nil before) b
along_append P before (x ∷ xs) ys a b = (a.0, along_append P (before ++ x ∷ []) xs ys a.1 (subst (λ l. Along P l ys) (sym (append_assoc before (x ∷ []) xs)) b))

-- what follows along a list from a beginning
along_from : {A : Type 0} (P Q : List A → A → Type 0) (start zs xs : List A) → ((ws : List A) (x : A) → P (start ++ ws) x → Q (start ++ ws) x)
    → Along P (start ++ zs) xs → Along Q (start ++ zs) xs
along_from P Q start zs [] f a = tt
along_from P Q start zs (x ∷ xs) f a = (
  f zs x a.0,
  subst (λ l. Along Q l xs) (sym (append_assoc start zs (x ∷ [])))
      (along_from P Q start (zs ++ x ∷ []) xs f (subst (λ l. Along P l xs) (append_assoc start zs (x ∷ [])) a.1)),
)

pub along_map : {A : Type 0} (P Q : List A → A → Type 0) (start xs : List A) → ((ws : List A) (x : A) → P (start ++ ws) x → Q (start ++ ws) x)
    → Along P start xs → Along Q start xs
along_map P Q start xs f a =
    subst (λ l. Along Q l xs) (append-nil start) (along_from P Q start [] xs f (subst (λ l. Along P l xs) (sym (append-nil start)) a))

-- which uploads are acknowledged after deliveries depends on which were before
pub acks_acknowledged : (ss ts : List SeqState) (ds : List Delivery) → acks ss ≡ acks ts → acks (acknowledge ss ds) ≡ acks (acknowledge ts ds)
acks_acknowledged ss ts [] same = same
acks_acknowledged ss ts (d ∷ ds) same =
    let one : acks (acknowledge_one ss d) ≡ acks (acknowledge_one ts d)
    = elim d.heard as (λ b. acks (cond b (set ss d.seq Acknowledged) ss) ≡ acks (cond b (set ts d.seq Acknowledged) ts)) [
      | true ↦ map-set is_acknowledged ss d.seq Acknowledged
          ∙ (ap (λ (bs : List Bool). set bs d.seq true) same ∙ sym (map-set is_acknowledged ts d.seq Acknowledged))
      | false ↦ same
    ] in
    acks_acknowledged (acknowledge_one ss d) (acknowledge_one ts d) ds one

pub acks_more : (ss ts us : List SeqState) (ds es : List Delivery) → acks ts ≡ acks (acknowledge ss ds) → acks us ≡ acks (acknowledge ts es)
    → acks us ≡ acks (acknowledge ss (ds ++ es))
acks_more ss ts us ds es a b = b ∙ (acks_acknowledged ts (acknowledge ss ds) es a ∙ ap acks (sym (fold-append acknowledge_one ss ds es)))

module _ (shape : Shape) (room : ℕ) (ups : List UploadData) where
  -- no delivery
  pub ran_none : (v : View) → Ran shape room ups [] v v
  ran_none v = record {
    more = [];
    view = ap (λ (l : List Entry). record v { seen = l }) (sym (append-nil v.seen)) ∙ ap (λ (n : ℕ). record v { seen = v.seen ++ []; begun = n }) same_count;
    short = All-nil (λ (d : Delivery). d.seq < length ups);
    kept = All-nil (λ (d : Delivery). StandsIn (upload_at ups d.seq) (v.seen ++ []));
    mine = tt;
    still = λ m. (refl, refl);
  }
    where
      same_count : v.begun ≡ v.begun + 0
      same_count = omega arith

  mine_front : (ds es : List Delivery) (pass : ℕ) (before : List Entry) (e : Entry) → IsMine shape room ups ds pass before e
      → IsMine shape room ups (ds ++ es) pass before e
  mine_front ds es pass before e m = record {
    earlier = m.earlier;
    own = m.own;
    later = m.later ++ es;
    place = ap (λ (l : List Delivery). l ++ es) m.place ∙ append_assoc m.earlier (m.own ∷ m.later) es;
    short = m.short;
    seq = m.seq;
    is = m.is;
    right = m.right;
    known = m.known;
  }

  mine_behind : (ds es : List Delivery) (pass : ℕ) (start ws : List Entry) (e : Entry) → All (λ (d : Delivery). StandsIn (upload_at ups d.seq) start) ds
      → IsMine shape room ups es pass (start ++ ws) e → IsMine shape room ups (ds ++ es) pass (start ++ ws) e
  mine_behind ds es pass start ws e kept m = record {
    earlier = ds ++ m.earlier;
    own = m.own;
    later = m.later;
    place = ap (λ (l : List Delivery). ds ++ l) m.place ∙ sym (append_assoc ds m.earlier (m.own ∷ m.later));
    short = m.short;
    seq = m.seq;
    is = m.is;
    right = m.right;
    known = All-append (λ (d : Delivery). StandsIn (upload_at ups d.seq) (start ++ ws)) ds m.earlier
        (All-weaker (λ (d : Delivery). StandsIn (upload_at ups d.seq) start) (λ (d : Delivery). StandsIn (upload_at ups d.seq) (start ++ ws))
        (λ d k. stands_more (upload_at ups d.seq) start ws k) ds kept)
        m.known;
  }

  -- deliveries after deliveries
  pub ran_more : (ds es : List Delivery) (v w x : View) → Ran shape room ups ds v w → Ran shape room ups es w x → Ran shape room ups (ds ++ es) v x
  ran_more ds es v w x a b =
      let number : w.number ≡ v.number = ap (λ (y : View). y.number) a.view in
      let seen : w.seen ≡ v.seen ++ a.more = ap (λ (y : View). y.seen) a.view in
      let begun : w.begun ≡ v.begun + length ds = ap (λ (y : View). y.begun) a.view in
      let all : w.seen ++ b.more ≡ v.seen ++ (a.more ++ b.more) = ap (λ (l : List Entry). l ++ b.more) seen ∙ append_assoc v.seen a.more b.more in
      let count : w.begun + length es ≡ v.begun + length (ds ++ es) = omega (arith, length-append ds es) in
      record {
        more = a.more ++ b.more;
        view = b.view ∙ (ap (λ (y : View). record y { seen = w.seen ++ b.more; begun = w.begun + length es }) a.view
            ∙ (ap (λ (l : List Entry). record v { seen = l; begun = w.begun + length es }) all
            ∙ ap (λ (n : ℕ). record v { seen = v.seen ++ (a.more ++ b.more); begun = n }) count));
        short = All-append (λ (d : Delivery). d.seq < length ups) ds es a.short b.short;
        kept = All-append (λ (d : Delivery). StandsIn (upload_at ups d.seq) (v.seen ++ (a.more ++ b.more))) ds es
            (All-weaker (λ (d : Delivery). StandsIn (upload_at ups d.seq) (v.seen ++ a.more))
            (λ (d : Delivery). StandsIn (upload_at ups d.seq) (v.seen ++ (a.more ++ b.more)))
            (λ d k. subst (StandsIn (upload_at ups d.seq)) (append_assoc v.seen a.more b.more) (stands_more (upload_at ups d.seq) (v.seen ++ a.more) b.more k))
            ds a.kept)
            (subst (λ l. All (λ (d : Delivery). StandsIn (upload_at ups d.seq) l) es) all b.kept);
        mine = along_append (λ before e. e.pass ≡ v.number → IsMine shape room ups (ds ++ es) v.number before e) v.seen a.more b.more
            (along_map (λ before e. e.pass ≡ v.number → IsMine shape room ups ds v.number before e)
            (λ before e. e.pass ≡ v.number → IsMine shape room ups (ds ++ es) v.number before e) v.seen a.more
            (λ ws e m own. mine_front ds es v.number (v.seen ++ ws) e (m own)) a.mine)
            (along_map (λ before e. e.pass ≡ v.number → IsMine shape room ups es v.number before e)
            (λ before e. e.pass ≡ v.number → IsMine shape room ups (ds ++ es) v.number before e) (v.seen ++ a.more) b.more
            (λ ws e m own. mine_behind ds es v.number (v.seen ++ a.more) ws e a.kept (m own))
            (subst (λ l. Along (λ before e. e.pass ≡ v.number → IsMine shape room ups es v.number before e) l b.more) seen
            (subst (λ n. Along (λ before e. e.pass ≡ n → IsMine shape room ups es n before e) w.seen b.more) number b.mine)));
        still = λ m.
            let first = a.still m in
            let second = b.still (subst Marked (sym (ap (λ (y : View). y.mark) a.view)) m) in
            (ap (λ (l : List Delivery). l ++ es) first.0 ∙ second.0, ap (λ (l : List Entry). l ++ b.more) first.1 ∙ second.1);
      }

  pub went_none : (v : View) (ss ts : List SeqState) → acks ts ≡ acks ss → Went shape room ups [] v v ss ts
  went_none v ss ts same = record { ran = ran_none v; acked = same }

  pub went_more : (ds es : List Delivery) (v w x : View) (ss ts us : List SeqState) → Went shape room ups ds v w ss ts → Went shape room ups es w x ts us
      → Went shape room ups (ds ++ es) v x ss us
  went_more ds es v w x ss ts us a b = record { ran = ran_more ds es v w x a.ran b.ran; acked = acks_more ss ts us ds es a.acked b.acked }

  -- what ended within the first part ended within the whole
  pub stopped_early : (ds es : List Delivery) (v w : View) (ss ts : List SeqState) (f : WorkFault) → Stopped shape room ups ds v w ss ts f
      → Stopped shape room ups (ds ++ es) v w ss ts f
  stopped_early ds es v w ss ts f s = record {
    made = s.made;
    left = s.left ++ es;
    split = ap (λ (l : List Delivery). l ++ es) s.split ∙ append_assoc s.made s.left es;
    between = s.between;
    ran = s.ran;
    last = longer s.left es s.between w f s.last;
    acked = s.acked;
    none = s.none;
  }
    where
      called : (ds es : List Delivery) (v w : View) (a : Result Applied ApplyFault) → IsCalled shape room ups ds v w a
          → IsCalled shape room ups (ds ++ es) v w a
      called ds es v w a c
          = record {
            first = c.first;
            later = c.later ++ es;
            place = ap (λ (l : List Delivery). l ++ es) c.place;
            short = c.short;
            seq = c.seq;
            serves = c.serves;
          }

      longer : (ds es : List Delivery) (v w : View) (f : WorkFault) → LastCall shape room ups ds v w f → LastCall shape room ups (ds ++ es) v w f
      longer ds es v w (Refused seq fault) l = record { call = called ds es v w (Err fault) l.call; seq_is = l.seq_is; refusing = l.refusing }
      longer ds es v w Memory (inl same) = inl same
      longer ds es v w Memory (inr c) = inr (called ds es v w (Err faults.Memory) c)

  pub stopped_late : (ds es : List Delivery) (v w x : View) (ss ts us : List SeqState) (f : WorkFault) → Went shape room ups ds v w ss ts
      → Stopped shape room ups es w x ts us f → Stopped shape room ups (ds ++ es) v x ss us f
  stopped_late ds es v w x ss ts us f a s = record {
    made = ds ++ s.made;
    left = s.left;
    split = ap (λ (l : List Delivery). ds ++ l) s.split ∙ sym (append_assoc ds s.made s.left);
    between = s.between;
    ran = ran_more ds s.made v w s.between a.ran s.ran;
    last = s.last;
    acked = acks_more ss ts us ds s.made a.acked s.acked;
    none = s.none;
  }
