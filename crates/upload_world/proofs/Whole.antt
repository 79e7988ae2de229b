-- Where all rounds stand.
use Rattle.std.proofs.Common.{◌≡◌, ℕ, ◌+◌, ◌*◌, ◌<◌, ◌≤◌, true, false, List, [], ◌++◌, length, refl, sym, ap, subst, Result, ◌∙◌, arith, append-nil, append_assoc}
use Rattle.std.specs.Prelude.{IsErrAnd}
use Rattle.std.proofs.lemmas.List.{length-map}
use Rattle.lg_model.specs.declared.scenario.Letter.{Letter}
use Rattle.sketchlet_wire.specs.Uploads.{UploadData}
use Rattle.uploader_core.specs.declared.state.SeqState.{SeqState}
use Rattle.uploader_core.specs.States.{ticked, idle_again}
use Rattle.link_deliveries.specs.Waiting.{refusals, unacknowledged, all_acknowledged}
use Rattle.link_deliveries.specs.Deliveries.{Delivery, round, rounds, rounds_left, after_round, letters_after, brought_in_all, EndsRound}
use Rattle.link_deliveries.proofs.Progress.{one_round, no_round, enough_rounds, ticked_refused}
use Rattle.link_deliveries.proofs.Room.{ticked_waits, ticked_acks}
use Rattle.lg_model.specs.Placing.{Shape}
use Rattle.uploader_core.specs.Uploader.{UploaderState}
use Rattle.lock_rule.specs.declared.view.View.{View}
use Rattle.lock_rule.specs.Views.{most_calls}
use Rattle.upload_world.specs.declared.fault.WorkFault.{WorkFault}
use Rattle.upload_world.specs.Pumping.{acks, IsSteady, Went, Stopped, Outcome}
use Rattle.upload_world.proofs.Chains.{went_none}
use Rattle.upload_world.proofs.Chained.{err_late, both_went}

pub steady_ticked : (u w x : UploaderState) → IsSteady w → w.uploads ≡ u.uploads → x ≡ record w { states = ticked w.states } → IsSteady x
steady_ticked u w x s ups is =
    let none = s.none in
    let same = ticked_refused w.states in
    let states : x.states ≡ ticked w.states = ap (λ (y : UploaderState). y.states) is in
    let uploads : x.uploads ≡ w.uploads = ap (λ (y : UploaderState). y.uploads) is in
    let count : refusals x.states ≡ refusals (ticked w.states) = ap refusals states in
    record { each = ap length states ∙ (length-map w.states idle_again ∙ (s.each ∙ ap length (sym uploads))); none = omega arith }

module _ (shape : Shape) (room : ℕ) (ups : List UploadData) (ss0 : List SeqState) (ls0 : List Letter) (v0 : View) where
  pub record Stands (ss : List SeqState) (ls : List Letter) (v : View) : Type 0 where
    pub made : List Delivery
    pub more : ℕ
    pub whole : made ++ rounds more ss ls ≡ brought_in_all ss0 ls0
    pub enough : rounds_left ss ls ≤ more
    pub went : Went shape room ups made v0 v ss0 ss
    pub fits : v.begun + 2 * length ls + unacknowledged ss ≤ most_calls

  pub starts : v0.begun + 2 * length ls0 + unacknowledged ss0 ≤ most_calls → Stands ss0 ls0 v0
  unfolding brought_in_all
  starts low =
      record { made = []; more = length ls0 + 2; whole = refl; enough = enough_rounds ss0 ls0; went = went_none shape room ups v0 ss0 ss0 refl; fits = low }

  -- after a round and a tick
  pub goes : (ups' : List UploadData) (ss ts us : List SeqState) (ls ms : List Letter) (v w : View) → all_acknowledged ss ≡ false → refusals ss ≡ 0 → ups' ≡ ups
      → us ≡ ticked ts → Stands ss ls v
      → EndsRound ss ls ts ms → Went shape room ups' (round ss ls) v w ss ts → w.begun + 2 * length ms + unacknowledged ts ≤ most_calls → Stands us ms w
  goes ups' ss ts us ls ms v w open_ none same tick s ends went low =
      let one = one_round s.more ss ls open_ none s.enough in
      let states : us ≡ after_round ss ls = tick ∙ ends.states in
      let waits : unacknowledged us ≡ unacknowledged ts = ap unacknowledged tick ∙ ticked_waits ts in
      let after = both_went shape room ups ups' s.made (round ss ls) v0 v w ss0 ss ts same s.went went in
      let here : rounds one.rest us ms ≡ rounds one.rest (after_round ss ls) (letters_after ss ls)
      = ap (λ (l : List SeqState). rounds one.rest l ms) states ∙ ap (rounds one.rest (after_round ss ls)) ends.letters in
      record {
        made = s.made ++ round ss ls;
        more = one.rest;
        whole = append_assoc s.made (round ss ls) (rounds one.rest us ms)
            ∙ (ap (λ (l : List Delivery). s.made ++ (round ss ls ++ l)) here ∙ (ap (λ (l : List Delivery). s.made ++ l) (sym one.is) ∙ s.whole));
        enough = subst (λ l. rounds_left l ms ≤ one.rest) (sym states)
            (subst (λ l. rounds_left (after_round ss ls) l ≤ one.rest) (sym ends.letters) one.enough);
        went = record { ran = after.ran; acked = ap acks tick ∙ (ticked_acks ts ∙ after.acked) };
        fits = omega arith;
      }

  pub fewer : (ss ts us : List SeqState) (ls ms : List Letter) → all_acknowledged ss ≡ false → refusals ss ≡ 0 → us ≡ ticked ts → EndsRound ss ls ts ms
      → rounds_left us ms < rounds_left ss ls
  fewer ss ts us ls ms open_ none tick ends =
      let one = one_round (rounds_left ss ls) ss ls open_ none (omega arith) in
      subst (λ l. rounds_left l ms < rounds_left ss ls) (sym (tick ∙ ends.states))
      (subst (λ l. rounds_left (after_round ss ls) l < rounds_left ss ls) (sym ends.letters) one.fewer)

  pub fails : {A : Type 0} (ups' : List UploadData) (ss ts : List SeqState) (ls : List Letter) (v w : View) (f : WorkFault) (r : Result A WorkFault)
      → all_acknowledged ss ≡ false → refusals ss ≡ 0 → ups' ≡ ups → IsErrAnd r (λ e. e ≡ f)
      → Stands ss ls v → Stopped shape room ups' (round ss ls) v w ss ts f → Outcome shape room ups (brought_in_all ss0 ls0) v0 w ss0 ts r
  fails ups' ss ts ls v w f r open_ none same err s t =
      let one = one_round s.more ss ls open_ none s.enough in
      err_late shape room ups ups' s.made (round ss ls) (rounds one.rest (after_round ss ls) (letters_after ss ls))
      (brought_in_all ss0 ls0) v0 v w ss0 ss ts f r
      (sym s.whole ∙ (ap (λ (l : List Delivery). s.made ++ l) one.is
      ∙ sym (append_assoc s.made (round ss ls) (rounds one.rest (after_round ss ls) (letters_after ss ls))))) same err s.went t

  pub ends : (ss : List SeqState) (ls : List Letter) (v : View) → all_acknowledged ss ≡ true → Stands ss ls v
      → Went shape room ups (brought_in_all ss0 ls0) v0 v ss0 ss
  ends ss ls v done s =
      let whole : s.made ≡ brought_in_all ss0 ls0
      = sym (append-nil s.made) ∙ (ap (λ (l : List Delivery). s.made ++ l) (sym (no_round s.more ss ls done)) ∙ s.whole) in
      subst (λ l. Went shape room ups l v0 v ss0 ss) whole s.went
