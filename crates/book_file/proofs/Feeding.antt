-- A walk that is fed more bytes.
use Rattle.std.proofs.Common.{◌≡◌, ℕ, ◌+◌, ◌*◌, ◌<◌, ◌≤◌, Bool, true, false, List, [], ◌∷◌, ◌++◌, length, get_or, Option, Result, refl, sym}
use Rattle.std.proofs.Common.{◌∙◌, ap, subst, arith, append_assoc, length-append}
use Rattle.std.proofs.lemmas.List.{append-nil, get_or_append_left}
use Rattle.std.proofs.Math.Nat.{mul-le-mul_right}
use Rattle.std.specs.Prelude.{cond}
use Rattle.std.specs.Result.{is_ok}
use Rattle.lg_model.specs.Placing.{Shape}
use Rattle.column_book.specs.Entries.{BookState, records}
use Rattle.book_file.specs.declared.found.OpenFault.{OpenFault}
use Rattle.book_file.specs.declared.found.Found.{Found}
use Rattle.book_file.specs.declared.stage.Stage.{Stage}
use Rattle.book_file.specs.declared.stage.Stage.TheVariants.{Head, Gate, Lead, Body, Ended}
use Rattle.book_file.specs.File.{body_len, front}
use Rattle.book_file.specs.Found.{Finds}
use Rattle.book_file.specs.Walk.{WalkState, HasCount, Waits, needed, is_ended, Stands, Steps, kept_after, gate_after, given_up, HasRead}
use Rattle.book_file.specs.Walk.{IsWalk, Fed, MOST_KEPT}

-- ---- one after the other

pub fed_none : (w : WalkState) → Fed w w []
fed_none w = record {
  asked = refl;
  room = refl;
  len = refl;
  fed = omega arith;
  read = λ read h. subst (λ (l : List ℕ). HasRead w l) (sym (append-nil read)) h;
  ended = λ e. refl;
}

pub fed_then : (a b c : WalkState) (x y : List ℕ) → Fed a b x → Fed b c y → Fed a c (x ++ y)
fed_then a b c x y p q = record {
  asked = q.asked ∙ p.asked;
  room = q.room ∙ p.room;
  len = q.len ∙ p.len;
  fed = omega (arith, p.fed, q.fed, length-append x y);
  read = λ read h. subst (λ (l : List ℕ). HasRead c l) (append_assoc read x y) (q.read (read ++ x) (p.read read h));
  ended = λ e. q.ended (ap is_ended (p.ended e) ∙ e) ∙ p.ended e;
}

pub walk_on : (old new : WalkState) (bytes : List ℕ) → IsWalk old → Fed old new bytes → IsWalk new
walk_on old new bytes is fed = record {
  some_room = omega (arith, is.some_room, fed.room);
  small_room = omega (arith, is.small_room, fed.room);
  read = (is.read.0 ++ bytes, fed.read is.read.0 is.read.1);
}

-- ---- what is kept

count_more : (rest bytes : List ℕ) → HasCount rest → HasCount (rest ++ bytes)
count_more rest bytes h =
    let same = get_or_append_left rest bytes 0 6 (omega (arith, h.there)) in
    record {
      there = omega (arith, h.there, length-append rest bytes);
      some = omega (arith, same, h.some);
      few = omega (arith, same, h.few);
    }

module _ (asked : Option Shape) (room len gate : ℕ) (rest read : List ℕ) where
  pub waits_more : (bytes : List ℕ) (stage : Stage) → is_ended stage ≡ false → Waits asked room len gate stage rest read
      → Waits asked room len gate stage (rest ++ bytes) (read ++ bytes)
  waits_more bytes Head e w = ap (λ (l : List ℕ). l ++ bytes) w
  waits_more bytes (Gate b) e w = (w.0, ap (λ (l : List ℕ). l ++ bytes) w.1 ∙ append_assoc (front b.shape (records b.entries)) rest bytes)
  waits_more bytes (Lead b) e w =
      (w.0, ap (λ (l : List ℕ). l ++ bytes) w.1 ∙ append_assoc (front b.shape (records b.entries)) (1 ∷ rest) bytes)
  waits_more bytes (Body b) e w = (
    w.0,
    ap (λ (l : List ℕ). l ++ bytes) w.1 ∙ append_assoc (front b.shape (records b.entries)) (1 ∷ rest) bytes,
    count_more rest bytes w.2,
  )
  waits_more bytes (Ended a) e w = absurd cc

  pub needed_more : (bytes : List ℕ) (stage : Stage) → is_ended stage ≡ false → Waits asked room len gate stage rest read
      → needed stage (rest ++ bytes) ≡ needed stage rest
  needed_more bytes Head e w = refl
  needed_more bytes (Gate b) e w = refl
  needed_more bytes (Lead b) e w = refl
  needed_more bytes (Body b) e w = ap (λ (n : ℕ). body_len b.shape.rows n) (get_or_append_left rest bytes 0 6 (omega (arith, w.2.there)))
  needed_more bytes (Ended a) e w = absurd cc

  pub rest_le : (stage : Stage) → is_ended stage ≡ false → Waits asked room len gate stage rest read → length rest ≤ length read
  rest_le Head e w = omega (arith, ap length w)
  rest_le (Gate b) e w = omega (arith, ap length w.1, length-append (front b.shape (records b.entries)) rest)
  rest_le (Lead b) e w = omega (arith, ap length w.1, length-append (front b.shape (records b.entries)) (1 ∷ rest))
  rest_le (Body b) e w = omega (arith, ap length w.1, length-append (front b.shape (records b.entries)) (1 ∷ rest))
  rest_le (Ended a) e w = absurd cc

  pub lead_count : (stage : Stage) (b : BookState) → stage ≡ Body b → Waits asked room len gate stage rest read → HasCount rest
  lead_count stage b is w = (subst (λ (s : Stage). Waits asked room len gate s rest read) is w).2

  pub decides_more : (bytes : List ℕ) (stage : Stage) → is_ended stage ≡ true → Stands asked room len gate stage rest read
      → Stands asked room len gate stage rest (read ++ bytes)
  decides_more bytes Head e s = absurd cc
  decides_more bytes (Gate b) e s = absurd cc
  decides_more bytes (Lead b) e s = absurd cc
  decides_more bytes (Body b) e s = absurd cc
  decides_more bytes (Ended a) e s = record {
    waits = λ more size.
        let same = append_assoc read bytes more in
        subst (λ (l : List ℕ). Finds asked room l a) (sym same) (s.waits (bytes ++ more) (ap length (sym same) ∙ size));
    lacks = λ t. absurd cc;
    few = s.few;
  }

-- ---- what one piece does

pub size_few : (rows n : ℕ) → rows ≤ 8 → n ≤ 16 → body_len rows n ≤ MOST_KEPT
size_few rows n few_rows few = omega (arith, mul-le-mul_right (8 + 6 * rows) few, few_rows)

needed_few : (asked : Option Shape) (room len gate : ℕ) (stage : Stage) (rest read : List ℕ) → is_ended stage ≡ false
    → Waits asked room len gate stage rest read → needed stage rest ≤ MOST_KEPT
needed_few asked room len gate Head rest read e w = omega arith
needed_few asked room len gate (Gate b) rest read e w = omega arith
needed_few asked room len gate (Lead b) rest read e w = omega arith
needed_few asked room len gate (Body b) rest read e w = size_few b.shape.rows (get_or rest 6 0) w.0.shape_fits.dims.few_rows w.2.few
needed_few asked room len gate (Ended a) rest read e w = absurd cc

pub not_ended : (stage : Stage) → ((a : Result Found OpenFault) → stage ≡ Ended a → ⊥) → is_ended stage ≡ false
not_ended Head none = refl
not_ended (Gate b) none = refl
not_ended (Lead b) none = refl
not_ended (Body b) none = refl
not_ended (Ended a) none = absurd (none a refl)

pub kept_none : (stage : Stage) (rest : List ℕ) → ((b : BookState) → stage ≡ Body b → ⊥) → [] ≡ kept_after stage rest
kept_none Head rest none = refl
kept_none (Gate b) rest none = refl
kept_none (Lead b) rest none = refl
kept_none (Body b) rest none = absurd (none b refl)
kept_none (Ended a) rest none = refl

pub gate_stays : (stage : Stage) (gate fed : ℕ) → ((b : BookState) → stage ≡ Gate b → ⊥) → gate ≡ gate_after stage gate fed
gate_stays Head gate fed none = refl
gate_stays (Gate b) gate fed none = absurd (none b refl)
gate_stays (Lead b) gate fed none = refl
gate_stays (Body b) gate fed none = refl
gate_stays (Ended a) gate fed none = refl

false_or_true : (stage : Stage) → is_ended stage ≡ false → is_ended stage ≡ true → ⊥
false_or_true stage f t = absurd cc

module _ (asked : Option Shape) (room len fed : ℕ) (rest : List ℕ) (gate : ℕ) (stage : Stage) (bytes : List ℕ)
    (inside : fed + length bytes ≤ len) where
  abbrev state : ℕ → List ℕ → ℕ → Stage → WalkState
  state n r g s = record { asked = asked; room = room; len = len; fed = n; rest = r; gate = g; stage = s }

  longer : (read : List ℕ) → length read ≡ fed → length (read ++ bytes) ≡ fed + length bytes
  longer read e = omega (arith, e, length-append read bytes)

  pub fed_ended : is_ended stage ≡ true → Fed (state fed rest gate stage) (state (fed + length bytes) rest gate stage) bytes
  fed_ended e = record {
    asked = refl;
    room = refl;
    len = refl;
    fed = refl;
    read = λ read h. record {
      stands = decides_more asked room len gate rest read bytes stage e h.stands;
      fed = longer read h.fed;
      inside = inside;
    };
    ended = λ t. refl;
  }

  module _ (going : is_ended stage ≡ false) where
    pub fed_starved : (rest2 : List ℕ) (stage2 : Stage) → length rest2 ≤ MOST_KEPT → stage2 ≡ given_up
        → Fed (state fed rest gate stage) (state (fed + length bytes) rest2 gate stage2) bytes
    fed_starved rest2 stage2 few is = record {
      asked = refl;
      room = refl;
      len = refl;
      fed = refl;
      read = λ read h. record {
        stands = subst (λ (s : Stage). Stands asked room len gate s rest2 (read ++ bytes)) (sym is)
            (record { waits = λ more size. tt; lacks = λ t. absurd cc; few = few });
        fed = longer read h.fed;
        inside = inside;
      };
      ended = λ t. absurd (false_or_true stage going t);
    }

    pub fed_waiting : (rest2 : List ℕ) → rest2 ≡ rest ++ bytes → length rest2 < needed stage rest2
        → Fed (state fed rest gate stage) (state (fed + length bytes) rest2 gate stage) bytes
    fed_waiting rest2 is lt = record {
      asked = refl;
      room = refl;
      len = refl;
      fed = refl;
      read = λ read h.
          let w = subst (λ (r : List ℕ). Waits asked room len gate stage r (read ++ bytes)) (sym is)
          (waits_more asked room len gate rest read bytes stage going h.stands.waits) in
          record {
            stands = record {
              waits = w;
              lacks = λ t. lt;
              few = omega (arith, lt, needed_few asked room len gate stage rest2 (read ++ bytes) going w);
            };
            fed = longer read h.fed;
            inside = inside;
          };
      ended = λ t. absurd (false_or_true stage going t);
    }

    pub fed_stepped : (rest2 rest3 arg : List ℕ) (gate3 : ℕ) (from result : Stage) → rest2 ≡ rest ++ bytes → from ≡ stage → arg ≡ rest2
        → ((read : List ℕ) → Waits asked room len gate from arg read → Steps asked room len gate result arg read)
        → rest3 ≡ kept_after result rest2 → gate3 ≡ gate_after result gate (fed + length bytes)
        → Fed (state fed rest gate stage) (state (fed + length bytes) rest3 gate3 result) bytes
    fed_stepped rest2 rest3 arg gate3 from result is from_is arg_is step rest_is gate_is = record {
      asked = refl;
      room = refl;
      len = refl;
      fed = refl;
      read = λ read h.
          let read2 = read ++ bytes in
          let w = waits_more asked room len gate rest read bytes stage going h.stands.waits in
          let w2 = subst (λ (s : Stage). Waits asked room len gate s arg read2) (sym from_is)
          (subst (λ (r : List ℕ). Waits asked room len gate stage r read2) (sym (arg_is ∙ is)) w) in
          let s = step read2 w2 in
          let s2 = subst (λ (n : ℕ). Stands asked room len (gate_after result gate n) result (kept_after result arg) read2)
          (longer read h.fed) s in
          let s3 = subst (λ (r : List ℕ). Stands asked room len (gate_after result gate (fed + length bytes)) result
          (kept_after result r) read2) arg_is s2 in
          let s4 = subst (λ (r : List ℕ). Stands asked room len (gate_after result gate (fed + length bytes)) result r read2)
          (sym rest_is) s3 in
          record {
            stands = subst (λ (g : ℕ). Stands asked room len g result rest3 read2) (sym gate_is) s4;
            fed = longer read h.fed;
            inside = inside;
          };
      ended = λ t. absurd (false_or_true stage going t);
    }

pub kept_ok : {E : Type 0} (r : Result (Unit {0}) E) (old bytes new : List ℕ) → new ≡ cond (is_ok r) (old ++ bytes) old → is_ok r ≡ true
    → new ≡ old ++ bytes
kept_ok r old bytes new is ok = is ∙ ap (λ (b : Bool). cond b (old ++ bytes) old) ok

pub kept_err : {E : Type 0} (r : Result (Unit {0}) E) (old bytes new : List ℕ) → new ≡ cond (is_ok r) (old ++ bytes) old → is_ok r ≡ false
    → new ≡ old
kept_err r old bytes new is ok = is ∙ ap (λ (b : Bool). cond b (old ++ bytes) old) ok

pub from_view : (old w new : WalkState) (bytes : List ℕ) → old ≡ w → Fed old new bytes → Fed w new bytes
from_view old w new bytes is fed = subst (λ (x : WalkState). Fed x new bytes) is fed
