-- Calls one after the other, and what is left of a list of deliveries when one of them fails.
use Rattle.std.proofs.Common.{◌≡◌, ℕ, ◌+◌, ◌<◌, List, [], ◌∷◌, ◌++◌, map, length, take, drop, get_or, refl, sym, ap, subst, Result, Ok, Err, ◌∙◌, take-append-drop, inl}
use Rattle.std.specs.Prelude.{IsErrAnd, All}
use Rattle.std.proofs.lemmas.List.Elements.{All-nil, All-push}
use Rattle.lg_model.specs.declared.scenario.Letter.{Letter}
use Rattle.lg_model.specs.declared.scenario.Letter.TheVariants.{Deliver, Lose, LoseReply, Twice, Hold}
use Rattle.std.proofs.lemmas.List.{take_more, map_push}
use Rattle.std.proofs.lemmas.List.Sums.{fold-append}
use Rattle.sketchlet_wire.specs.Uploads.{UploadData}
use Rattle.uploader_core.specs.declared.state.SeqState.{SeqState}
use Rattle.link_deliveries.specs.Waiting.{refusals}
use Rattle.link_deliveries.specs.Deliveries.{Delivery, acknowledge, acknowledge_one, heard}
use Rattle.lg_model.specs.Placing.{Shape}
use Rattle.lock_rule.specs.declared.view.View.{View}
use Rattle.upload_world.specs.declared.deliver.Sent.{Sent}
use Rattle.upload_world.specs.declared.fault.WorkFault.{WorkFault}
use Rattle.upload_world.specs.declared.fault.WorkFault.TheVariants.{Memory}
use Rattle.upload_world.specs.Pumping.{acks, Stopped, Went, Outcome, seqs, still_held, held_with}
use Rattle.upload_world.proofs.Chains.{went_more, stopped_early, stopped_late}

module _ (shape : Shape) (room : ℕ) (ups : List UploadData) where
  err_is : {A : Type 0} (ds : List Delivery) (v w : View) (ss ts : List SeqState) (f : WorkFault) (r : Result A WorkFault) → IsErrAnd r (λ e. e ≡ f)
      → Stopped shape room ups ds v w ss ts f → Outcome shape room ups ds v w ss ts r
  err_is ds v w ss ts f (Ok a) is s = absurd is
  err_is ds v w ss ts f (Err e) is s = subst (λ x. Stopped shape room ups ds v w ss ts x) (sym is) s

  -- the first call failed
  pub err_early : {A : Type 0} (ds es all : List Delivery) (v w : View) (ss ts : List SeqState) (f : WorkFault) (r : Result A WorkFault) → all ≡ ds ++ es
      → IsErrAnd r (λ e. e ≡ f)
      → Stopped shape room ups ds v w ss ts f → Outcome shape room ups all v w ss ts r
  err_early ds es all v w ss ts f r whole is s =
      err_is all v w ss ts f r is (subst (λ l. Stopped shape room ups l v w ss ts f) (sym whole) (stopped_early shape room ups ds es v w ss ts f s))

  -- the call after those that went failed
  pub err_late : {A : Type 0} (ups' : List UploadData) (ds es gs all : List Delivery) (v w x : View) (ss ts us : List SeqState) (f : WorkFault)
      (r : Result A WorkFault) → all ≡ (ds ++ es) ++ gs → ups' ≡ ups → IsErrAnd r (λ e. e ≡ f)
      → Went shape room ups ds v w ss ts → Stopped shape room ups' es w x ts us f → Outcome shape room ups all v x ss us r
  err_late ups' ds es gs all v w x ss ts us f r whole same is a s =
      err_early (ds ++ es) gs all v x ss us f r whole is
      (stopped_late shape room ups ds es v w x ss ts us f a (subst (λ l. Stopped shape room l es w x ts us f) same s))

  -- what went, and no more for want of memory
  pub left_for_memory : {A : Type 0} (ds es all : List Delivery) (v w : View) (ss ts us : List SeqState) (r : Result A WorkFault) → all ≡ ds ++ es
      → IsErrAnd r (λ e. e ≡ Memory) → acks us ≡ acks ts → refusals us ≡ 0 → Went shape room ups ds v w ss ts → Outcome shape room ups all v w ss us r
  left_for_memory ds es all v w ss ts us r whole is same none went =
      err_is all v w ss us Memory r is
      (record { made = ds; left = es; split = whole; between = w; ran = went.ran; last = inl refl; acked = same ∙ went.acked; none = λ m. none })

  -- two calls that went
  pub both_went : (ups' : List UploadData) (ds es : List Delivery) (v w x : View) (ss ts us : List SeqState) → ups' ≡ ups → Went shape room ups ds v w ss ts
      → Went shape room ups' es w x ts us → Went shape room ups (ds ++ es) v x ss us
  both_went ups' ds es v w x ss ts us same a b = went_more shape room ups ds es v w x ss ts us a (subst (λ l. Went shape room l es w x ts us) same b)

-- what is held after a send are frames of the uploads, as what was held and the one sent
pub held_sent : (P : Sent → Type 0) (l : Letter) (s : Sent) (held kept new : List Sent) → kept ≡ still_held l held → new ≡ held_with l s kept → P s → All P held
    → All P new
held_sent P Deliver s held kept new k n p all = subst (All P) (sym (n ∙ k)) (All-nil P)
held_sent P Lose s held kept new k n p all = subst (All P) (sym (n ∙ k)) all
held_sent P LoseReply s held kept new k n p all = subst (All P) (sym (n ∙ k)) (All-nil P)
held_sent P Twice s held kept new k n p all = subst (All P) (sym (n ∙ k)) (All-nil P)
held_sent P Hold s held kept new k n p all = subst (All P) (sym (n ∙ ap (λ (l : List Sent). l ++ s ∷ []) k)) (All-push P held s all p)

-- one held upload more
pub held_one : (held : List Sent) (i : ℕ) (x : Sent) → i < length held → x ≡ get_or held i x
    → map heard (seqs (take (i + 1) held)) ≡ map heard (seqs (take i held)) ++ heard x.seq ∷ []
held_one held i x short is =
    ap (λ (l : List Sent). map heard (seqs l)) (take_more held i x short ∙ ap (λ (y : Sent). take i held ++ y ∷ []) (sym is))
    ∙ (ap (map heard) (map_push (λ (s : Sent). s.seq) (take i held) x) ∙ map_push heard (seqs (take i held)) x.seq)

-- one delivery more
pub more_of : (ds : List Delivery) (i : ℕ) (d : Delivery) → i < length ds → d ≡ get_or ds i d → take (i + 1) ds ≡ take i ds ++ d ∷ []
more_of ds i d short is = take_more ds i d short ∙ ap (λ (y : Delivery). take i ds ++ y ∷ []) (sym is)

pub whole_of : (ds : List Delivery) (i : ℕ) (d : Delivery) → i < length ds → d ≡ get_or ds i d → ds ≡ (take i ds ++ d ∷ []) ++ drop (i + 1) ds
whole_of ds i d short is = sym (take-append-drop (i + 1) ds) ∙ ap (λ (l : List Delivery). l ++ drop (i + 1) ds) (more_of ds i d short is)

pub acknowledged_more : (ss ts us : List SeqState) (ds es all : List Delivery) → all ≡ ds ++ es → ts ≡ acknowledge ss ds → us ≡ acknowledge ts es
    → us ≡ acknowledge ss all
acknowledged_more ss ts us ds es all whole a b =
    b ∙ (ap (λ (l : List SeqState). acknowledge l es) a ∙ (sym (fold-append acknowledge_one ss ds es) ∙ ap (acknowledge ss) (sym whole)))
