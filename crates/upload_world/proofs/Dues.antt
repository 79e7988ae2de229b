-- What is due, as it grows, and what is held.
use Rattle.std.proofs.Common.{◌≡◌, ◌⊎◌, inl, inr, ℕ, ◌<◌, ◌==◌, Bool, true, false, Result, Ok, Err, OnOk, List, [], ◌∷◌, ◌++◌, map, length, get_or, refl, sym, ap, subst, ◌∙◌, arith, eqb-true}
use Rattle.std.specs.Prelude.{All}
use Rattle.std.proofs.lemmas.List.{map_push}
use Rattle.std.proofs.lemmas.List.Elements.{All-nil, All-cons, All-head, All-tail, All-push, All-same, All-get_or, All-weaker}
use Rattle.lg_model.specs.declared.scenario.Letter.{Letter}
use Rattle.lg_model.specs.declared.scenario.Letter.TheVariants.{Deliver, Lose, LoseReply, Twice, Hold}
use Rattle.sketchlet_wire.specs.Uploads.{UploadData, IsFull}
use Rattle.upload_frame.specs.Frames.{frame_of}
use Rattle.link_deliveries.specs.Deliveries.{Delivery, delivery, let_go, held_after}
use Rattle.uploader_core.specs.Uploader.{UploaderState}
use Rattle.upload_world.specs.declared.deliver.Sent.{Sent}
use Rattle.upload_world.specs.declared.deliver.Coming.{Coming}
use Rattle.upload_world.specs.declared.deliver.Due.{Due}
use Rattle.upload_world.specs.Pumps.{upload_at}
use Rattle.upload_world.specs.Pumping.{IsSame, IsSent, IsFrame, IsDue, IsNothing, MakesDue, dues, seqs, still_held, held_with}

-- nothing is due at first
pub none_due : (due : Due) → IsNothing due → dues due ≡ []
none_due due n = ap (map (λ (c : Coming). delivery c.seq c.heard)) n.order

-- whether something is due
pub no_due : (due : Due) (b : Bool) → b ≡ (length due.order.items == 0) → b ≡ true → dues due ≡ []
no_due due b is none = by due.order.items (sym is ∙ none)
  where
    by : (cs : List Coming) → (length cs == 0) ≡ true → map (λ (c : Coming). delivery c.seq c.heard) cs ≡ []
    by [] h = refl
    by (c ∷ cs) h = let none = eqb-true (length (c ∷ cs)) 0 h in absurd (omega arith)

pub some_due : (due : Due) (b : Bool) → b ≡ (length due.order.items == 0) → b ≡ false → 0 < length (dues due)
some_due due b is left = by due.order.items (sym is ∙ left)
  where
    by : (cs : List Coming) → (length cs == 0) ≡ false → 0 < length (map (λ (c : Coming). delivery c.seq c.heard) cs)
    by [] h = absurd (cc h)
    by (c ∷ cs) h = omega arith

pub nothing_is_due : (host : ℕ) (ups : List UploadData) (due : Due) → IsNothing due → IsDue host ups due
nothing_is_due host ups due n =
    let none = none_due due n in
    record {
      uploads = n.uploads ∙ ap (map (λ (d : Delivery). upload_at ups d.seq)) (sym none);
      short = All-same (λ (d : Delivery). d.seq < length ups) (dues due) [] none (All-nil (λ (d : Delivery). d.seq < length ups));
      named = All-same (λ (d : Delivery). ((upload_at ups d.seq).host ≡ host) × ((upload_at ups d.seq).seq ≡ d.seq)) (dues due) [] none
          (All-nil (λ (d : Delivery). ((upload_at ups d.seq).host ≡ host) × ((upload_at ups d.seq).seq ≡ d.seq)));
    }

-- an upload of these is a frame
pub framed : (host : ℕ) (ups : List UploadData) (s : Sent) → IsSent host ups s → IsFrame s
framed host ups s f = record { upload = upload_at ups s.seq; full = f.full; frame = f.frame }

pub all_framed : (host : ℕ) (ups : List UploadData) (held : List Sent) → All (IsSent host ups) held → All IsFrame held
all_framed host ups held all = All-weaker (IsSent host ups) IsFrame (framed host ups) held all

-- the same of an uploader whose states alone changed
pub held_by : (u w : UploaderState) (held : List Sent) → IsSame u w → All (IsSent u.host u.uploads) held → All (IsSent w.host w.uploads) held
held_by u w held same all =
    subst (λ (l : List UploadData). All (IsSent w.host l) held) (sym same.uploads) (subst (λ (h : ℕ). All (IsSent h u.uploads) held) (sym same.host) all)

pub due_by : (u w : UploaderState) (due : Due) → IsSame u w → IsDue u.host u.uploads due → IsDue w.host w.uploads due
due_by u w due same d =
    subst (λ (l : List UploadData). IsDue w.host l due) (sym same.uploads) (subst (λ (h : ℕ). IsDue h u.uploads due) (sym same.host) d)

-- one delivery more
pub dues_pushed : (old new : Due) (c : Coming) → new.order.items ≡ old.order.items ++ c ∷ [] → dues new ≡ dues old ++ delivery c.seq c.heard ∷ []
dues_pushed old new c is =
    let Made : Coming → Delivery = λ x. delivery x.seq x.heard in
    ap (map Made) is ∙ map_push Made old.order.items c

pub one_more : (old new : Due) (s : Sent) (heard : Bool) (u : UploadData) → new.uploads.items ≡ old.uploads.items ++ u ∷ []
    → dues new ≡ dues old ++ delivery s.seq heard ∷ []
    → ((x : UploadData) → IsFull x → s.frame.items ≡ frame_of x → u ≡ x) → MakesDue (s ∷ []) old new
one_more old new s heard u added more read host ups frames d =
    let f = All-head (IsSent host ups) s [] frames in
    let last = delivery s.seq heard in
    let At : Delivery → UploadData = λ x. upload_at ups x.seq in
    let Short : Delivery → Type 0 = λ x. x.seq < length ups in
    let Named : Delivery → Type 0 = λ x. ((upload_at ups x.seq).host ≡ host) × ((upload_at ups x.seq).seq ≡ x.seq) in
    record {
      uploads = added ∙ (ap (λ (l : List UploadData). l ++ u ∷ []) d.uploads
          ∙ (ap (λ (x : UploadData). map At (dues old) ++ x ∷ []) (read (upload_at ups s.seq) f.full f.frame)
          ∙ (sym (map_push At (dues old) last) ∙ ap (map At) (sym more))));
      short = All-same Short (dues new) (dues old ++ last ∷ []) more (All-push Short (dues old) last d.short f.short);
      named = All-same Named (dues new) (dues old ++ last ∷ []) more (All-push Named (dues old) last d.named f.named);
    }

-- the same upload again
pub once_more : {A E : Type 0} (r : Result A E) (frames : List Sent) (a b c : Due) → MakesDue frames a b → OnOk r (MakesDue frames b c)
    → OnOk r (MakesDue frames a c)
once_more (Ok x) frames a b c first second = λ host ups all is. second host ups all (first host ups all is)
once_more (Err e) frames a b c first second = tt

-- one of those held
pub held_more : (held : List Sent) (i : ℕ) (x : Sent) (a b c : Due) → i < length held → x ≡ get_or held i x
    → MakesDue held a b → MakesDue (x ∷ []) b c → MakesDue held a c
held_more held i x a b c short is first second host ups all due =
    let one = subst (IsSent host ups) (sym is) (All-get_or (IsSent host ups) held i x short all) in
    second host ups (All-cons (IsSent host ups) x [] one (All-nil (IsSent host ups))) (first host ups all due)

-- the upload sent, and then those held
pub both_more : {A E : Type 0} (r : Result A E) (s : Sent) (held : List Sent) (a b c : Due) → MakesDue (s ∷ []) a b → MakesDue held b c
    → OnOk r (MakesDue (s ∷ held) a c)
both_more (Err e) s held a b c first second = tt
both_more (Ok x) s held a b c first second = λ host ups all due.
    second host ups (All-tail (IsSent host ups) s held all)
    (first host ups (All-cons (IsSent host ups) s [] (All-head (IsSent host ups) s held all) (All-nil (IsSent host ups))) due)

-- a letter that lets go
pub lets_go : (l : Letter) → (l ≡ Deliver) ⊎ (l ≡ LoseReply) ⊎ (l ≡ Twice) → (hs : List ℕ) (held : List Sent)
    → (hs ≡ let_go l hs) × ([] ≡ still_held l held)
lets_go l (inl is) hs held = rw is (refl, refl)
lets_go l (inr (inl is)) hs held = rw is (refl, refl)
lets_go l (inr (inr is)) hs held = rw is (refl, refl)

-- what is held after a letter, by the numbers
pub seqs_held : (l : Letter) (s : Sent) (held new : List Sent) → new ≡ held_with l s (still_held l held) → seqs new ≡ held_after l s.seq (seqs held)
seqs_held Deliver s held new is = ap seqs is
seqs_held Lose s held new is = ap seqs is
seqs_held LoseReply s held new is = ap seqs is
seqs_held Twice s held new is = ap seqs is
seqs_held Hold s held new is = ap seqs is ∙ map_push (λ (x : Sent). x.seq) held s
