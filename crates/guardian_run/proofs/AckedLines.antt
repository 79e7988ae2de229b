-- The lines of the acknowledged uploads, host after host.
use Rattle.std.specs.Prelude.{◌≡◌, ℕ, suc, ◌+◌, ◌<◌, if◌then◌else◌, List, [], ◌∷◌, ◌++◌, length, map, Option, slice_index_or}
use Rattle.std.specs.List.{flat_map, enumerate_from, range_with_len}
use Rattle.std.proofs.Common.{refl, sym, ap, ◌∙◌, arith, append_assoc, append-nil}
use Rattle.std.proofs.lemmas.Grind.{flat_map-append}
use Rattle.std.proofs.lemmas.List.{get_or-map, get_or_default}
use Rattle.lg_model.specs.declared.scenario.HostLine.{HostLine}
use Rattle.lg_model.specs.Scenario.{Scenario}
use Rattle.column_book.specs.declared.entry.Entry.{Entry}
use Rattle.uploader_core.specs.Uploader.{UploaderState}
use Rattle.upload_world.specs.Pumps.{acked_at}
use Rattle.book_laws.specs.Legal.{no_host}
use Rattle.host_workers.specs.declared.sender.Sender.{Sender}
use Rattle.report_text.specs.Columns.{acked_line}
use Rattle.guardian_run.specs.Running.{acked_of, acked_lines}
use Rattle.guardian_run.proofs.Keeping.{range_more}
use Rattle.guardian_run.specs.Sending.{acks_by, line_of, lines_of, HaveSent}

-- lists of as many items, item for item
flat_same : {X Y : Type 0} → (f : ℕ × X → List ℕ) (g : Y → List ℕ) (n : ℕ) (xs : List X) (ys : List Y) → length ys ≡ length xs →
    ((i : ℕ) (x : X) (y : Y) → i < length xs → g (slice_index_or ys i y) ≡ f (n + i, slice_index_or xs i x)) →
    flat_map g ys ≡ flat_map f (enumerate_from n xs)
flat_same f g n [] [] long each = refl
flat_same f g n [] (y ∷ ys) long each = absurd (omega (arith, long))
flat_same f g n (x ∷ xs) [] long each = absurd (omega (arith, long))
flat_same f g n (x ∷ xs) (y ∷ ys) long each =
    let here : n + 0 ≡ n = omega arith in
    let first = each 0 x y (omega arith) ∙ ap (λ (m : ℕ). f (m, x)) here in
    let rest = flat_same f g (n + 1) xs ys (omega (arith, long)) (λ i a b low.
    let next : n + suc i ≡ n + 1 + i = omega arith in
    each (suc i) a b (omega (arith, low)) ∙ ap (λ (m : ℕ). f (m, slice_index_or xs i a)) next) in
    λ j. first j ++ rest j

pub lines_are : (w : Scenario) (first entries : List Entry) (fault : Option Entry) (ss : List Sender) → HaveSent w first entries fault ss →
    flat_map lines_of ss ≡ acked_lines w (acks_by ss)
lines_are w first entries fault ss sent = flat_same (acked_of w (acks_by ss)) lines_of 0 w.hosts ss sent.many each
  where
    each : (h : ℕ) (host : HostLine) (s : Sender) → h < length w.hosts
        → lines_of (slice_index_or ss h s) ≡ acked_of w (acks_by ss) (0 + h, slice_index_or w.hosts h host)
    each h host s low =
        let here : h ≡ 0 + h = omega arith in
        let states : (slice_index_or ss h s).uploader.states ≡ slice_index_or (map (λ (x : Sender). x.uploader.states) ss) h [] =
        sym (get_or-map (λ (x : Sender). x.uploader.states) ss h s [] (omega (arith, low, sent.many))) in
        let name : (slice_index_or ss h s).uploader.host ≡ (slice_index_or w.hosts h host).name =
        sent.named h s low ∙ ap (λ (x : HostLine). x.name) (get_or_default w.hosts h no_host host low) in
        let uploads = sent.uploads h s low in
        (λ j. flat_map (λ q. if acked_at (states j) q then acked_line (name j) q else []) (range_with_len 0 (length (uploads j))))
        ∙ ap (λ (n : ℕ). acked_of w (acks_by ss) (n, slice_index_or w.hosts h host)) here

-- the lines of one upload more
pub line_more : (u : UploaderState) (n : ℕ) (old now next : List ℕ) → now ≡ old ++ flat_map (line_of u) (range_with_len 0 n) → next ≡ now ++ line_of u n →
    next ≡ old ++ flat_map (line_of u) (range_with_len 0 (n + 1))
line_more u n old now next before put =
    let more : flat_map (line_of u) (range_with_len 0 (n + 1)) ≡ flat_map (line_of u) (range_with_len 0 n) ++ line_of u n =
    ap (flat_map (line_of u)) (range_more n) ∙ flat_map-append (line_of u) (range_with_len 0 n) (n ∷ [])
    ∙ ap (λ (xs : List ℕ). flat_map (line_of u) (range_with_len 0 n) ++ xs) (append-nil (line_of u n)) in
    put ∙ ap (λ (xs : List ℕ). xs ++ line_of u n) before ∙ append_assoc old (flat_map (line_of u) (range_with_len 0 n)) (line_of u n)
    ∙ ap (λ (xs : List ℕ). old ++ xs) (sym more)
