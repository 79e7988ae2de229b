-- What came to a host, column by column.
use Rattle.std.specs.Prelude.{◌≡◌, ℕ, zero, suc, map, ◌+◌, ◌<◌, ◌≤◌, All, List, [], ◌∷◌, ◌++◌, length, take, slice_index_or}
use Rattle.std.specs.List.{flat_map, range_with_len, enumerate_from}
use Rattle.std.proofs.Common.{refl, sym, ap, ◌∙◌, arith, take_all, append-nil, append_assoc, zero-add}
use Rattle.std.proofs.lemmas.List.{take_more, length-take}
use Rattle.std.proofs.lemmas.List.FromFn.{map-range_with_len_more}
use Rattle.std.proofs.lemmas.Grind.{flat_map-append}
use Rattle.lg_model.specs.declared.scenario.HostLine.{HostLine}
use Rattle.lg_model.specs.declared.limits.TheConstants.{MOST_SKETCHLET_BYTES}
use Rattle.lg_model.specs.Scenario.{Scenario}
use Rattle.lg_model.specs.Matching.{Matched}
use Rattle.lg_model.specs.Carrying.{picked}
use Rattle.lg_model.specs.Arriving.{brought}
use Rattle.lg_model.specs.Columns.{Column}
use Rattle.lg_model.proofs.Pairing.{matched_at, matched_length}
use Rattle.lg_model.proofs.Tracing.{enumerate_from-append}
use Rattle.sketchlet_wire.specs.declared.packed.Packed.{Packed}
use Rattle.sketchlet_wire.specs.Packing.{IsPacked}
use Rattle.sketchlet_wire.specs.Spelling.{spelling}
use Rattle.report_text.specs.Capture.{hex_line}
use Rattle.guardian_run.specs.Outputs.{column_lines, host_lines}

-- for a place that no column has
abbrev pub no_column : Column
no_column = record { key = record { switch = 0; epoch = 0; index = 0 }; dims = record { rows = 0; width = 0 }; cells = record { buckets = [] } }

abbrev pub no_packed : Packed
no_packed = record { len = 0; bytes = [] }

pub packed_is : (ps : List Packed) (cs : List Column) (i : ℕ) → Matched IsPacked ps cs → i < length ps →
    IsPacked (slice_index_or ps i no_packed) (slice_index_or cs i no_column)
packed_is ps cs i all inside = matched_at IsPacked ps cs i no_packed no_column all inside

-- each is short enough to be read
pub packed_short : (ps : List Packed) (cs : List Column) → Matched IsPacked ps cs → All (λ (p : Packed). p.len ≤ MOST_SKETCHLET_BYTES) ps
packed_short ps cs all = λ i d inside. (matched_at IsPacked ps cs i d no_column all inside).short

-- one host more
pub range_more : (n : ℕ) → range_with_len 0 (n + 1) ≡ range_with_len 0 n ++ n ∷ []
range_more n = sym (same 0 (n + 1)) ∙ map-range_with_len_more (λ (k : ℕ). k) 0 n n (zero-add n) ∙ ap (λ xs. xs ++ n ∷ []) (same 0 n)
  where
    same : (a n : ℕ) → map (λ (k : ℕ). k) (range_with_len a n) ≡ range_with_len a n
    same a zero = refl
    same a (suc n) = ap (λ xs. a ∷ xs) (same (a + 1) n)

pub brought_more : (w : Scenario) (n : ℕ) →
    flat_map (brought w (picked w)) (range_with_len 0 (n + 1)) ≡ flat_map (brought w (picked w)) (range_with_len 0 n) ++ brought w (picked w) n
brought_more w n =
    ap (flat_map (brought w (picked w))) (range_more n) ∙ flat_map-append (brought w (picked w)) (range_with_len 0 n) (n ∷ [])
    ∙ ap (λ xs. flat_map (brought w (picked w)) (range_with_len 0 n) ++ xs) (append-nil (brought w (picked w) n))

-- one line more
pub hex_more : (ps : List Packed) (cs : List Column) (i name : ℕ) (start old new bytes : List ℕ) → Matched IsPacked ps cs → i < length ps →
    bytes ≡ spelling (slice_index_or cs i no_column) → old ≡ start ++ column_lines name (take i cs) → new ≡ old ++ hex_line name bytes →
    new ≡ start ++ column_lines name (take (i + 1) cs)
hex_more ps cs i name start old new bytes all inside is before put =
    let f : Column → List ℕ = λ c. hex_line name (spelling c) in
    let c = slice_index_or cs i no_column in
    let low : i < length cs = omega (arith, inside, matched_length IsPacked ps cs all) in
    let more : column_lines name (take (i + 1) cs) ≡ column_lines name (take i cs) ++ f c =
    ap (flat_map f) (take_more cs i no_column low) ∙ flat_map-append f (take i cs) (c ∷ []) ∙ ap (λ xs. flat_map f (take i cs) ++ xs) (append-nil (f c)) in
    put ∙ (λ j. before j ++ hex_line name (is j)) ∙ append_assoc start (column_lines name (take i cs)) (f c) ∙ ap (λ xs. start ++ xs) (sym more)

pub hex_all : (ps : List Packed) (cs : List Column) (i name : ℕ) (start now : List ℕ) → Matched IsPacked ps cs → i ≡ length ps →
    now ≡ start ++ column_lines name (take i cs) → now ≡ start ++ column_lines name cs
hex_all ps cs i name start now all end is =
    is ∙ ap (λ (xs : List Column). start ++ column_lines name xs) (take_all i cs (omega (arith, end, matched_length IsPacked ps cs all)))

-- what f makes of one host more
pub host_more : {X : Type 0} (f : ℕ × HostLine → List X) (hs : List HostLine) (n : ℕ) (d : HostLine) → n < length hs →
    flat_map f (enumerate_from 0 (take (n + 1) hs)) ≡ flat_map f (enumerate_from 0 (take n hs)) ++ f (n, slice_index_or hs n d)
host_more f hs n d h =
    let x = slice_index_or hs n d in
    let front : length (take n hs) ≡ n = omega (arith, length-take n hs) in
    ap (λ xs. flat_map f (enumerate_from 0 xs)) (take_more hs n d h)
    ∙ ap (flat_map f) (enumerate_from-append 0 (take n hs) (x ∷ [])
    ∙ ap (λ (k : ℕ). enumerate_from 0 (take n hs) ++ (k, x) ∷ []) (zero-add (length (take n hs)) ∙ front))
    ∙ flat_map-append f (enumerate_from 0 (take n hs)) ((n, x) ∷ [])
    ∙ ap (λ xs. flat_map f (enumerate_from 0 (take n hs)) ++ xs) (append-nil (f (n, x)))

-- the lines of one host more
pub lines_more : (w : Scenario) (n : ℕ) (d : HostLine) (old new : List ℕ) → n < length w.hosts →
    old ≡ flat_map (host_lines w) (enumerate_from 0 (take n w.hosts)) →
    new ≡ old ++ host_lines w (n, slice_index_or w.hosts n d) → new ≡ flat_map (host_lines w) (enumerate_from 0 (take (n + 1) w.hosts))
lines_more w n d old new h before put = put ∙ ap (λ xs. xs ++ host_lines w (n, slice_index_or w.hosts n d)) before
    ∙ sym (host_more (host_lines w) w.hosts n d h)

-- the host that the code reads
pub host_known : (w : Scenario) (n : ℕ) (hs : List HostLine) (x : HostLine) → hs ≡ w.hosts → x ≡ slice_index_or hs n x →
    slice_index_or w.hosts n x ≡ x
host_known w n hs x same is = ap (λ (ys : List HostLine). slice_index_or ys n x) (sym same) ∙ sym is
