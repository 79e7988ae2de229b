-- What a cutter gave, with what it holds, is the cut of what it took.
use Rattle.std.specs.Prelude.{◌≡◌, ℕ, ◌+◌, List, [], ◌∷◌, ◌++◌, length, map, reverse, fold, take, drop, Bool, true, false, cond, Option, Some, None}
use Rattle.std.specs.List.{enumerate_from}
use Rattle.std.proofs.Common.{refl, sym, ap, ◌∙◌, subst, arith, length-append}
use Rattle.std.proofs.lemmas.List.{append-nil, reverse-append, take_at, drop_at, map-append, length-map}
use Rattle.std.proofs.lemmas.List.FromFn.{length-enumerate_from}
use Rattle.std.proofs.lemmas.List.Sums.{fold-append}
use Rattle.lg_model.specs.Columns.{Column}
use Rattle.sketchlet_wire.specs.Uploads.{UploadData, upload_of}
use Rattle.host_collect.specs.Cutting.{Piece, can_join, with_next, cut, numbered}
use Rattle.host_collect.specs.Collecting.{CutterData, cutter_of, with_item, list_of, HasCut, LawOfCutters}

-- ---- numbered pieces

enumerate_last : {X : Type 0} (a : ℕ) (xs : List X) (x : X) → enumerate_from a (xs ++ x ∷ []) ≡ enumerate_from a xs ++ (a + length xs, x) ∷ []
enumerate_last {X = X} a [] x = ap (λ (n : ℕ). (n, x) ∷ []) (omega arith)
enumerate_last {X = X} a (y ∷ xs) x =
    ap (λ (t : List (ℕ × X)). (a, y) ∷ t) (enumerate_last (a + 1) xs x ∙ ap (λ (n : ℕ). enumerate_from (a + 1) xs ++ (n, x) ∷ []) (omega arith))

abbrev as_upload : ℕ → ℕ × Piece → UploadData
as_upload host p = upload_of host p.0 p.1

pub numbered_more : (host : ℕ) (ps : List Piece) (p : Piece) → numbered host (ps ++ p ∷ []) ≡ numbered host ps ++ upload_of host (length ps) p ∷ []
numbered_more host ps p =
    let last : enumerate_from 0 (ps ++ p ∷ []) ≡ enumerate_from 0 ps ++ (length ps, p) ∷ [] =
    enumerate_last 0 ps p ∙ ap (λ (n : ℕ). enumerate_from 0 ps ++ (n, p) ∷ []) (omega arith) in
    ap (map (as_upload host)) last ∙ map-append (as_upload host) (enumerate_from 0 ps) ((length ps, p) ∷ [])

pub numbered_len : (host : ℕ) (ps : List Piece) → length (numbered host ps) ≡ length ps
numbered_len host ps = length-map (enumerate_from 0 ps) (as_upload host) ∙ length-enumerate_from 0 ps

-- Two lists with a last item each.
last_same : {X : Type 0} (xs ys : List X) (x y : X) → xs ++ x ∷ [] ≡ ys ++ y ∷ [] → (xs ≡ ys) × (x ≡ y)
last_same {X = X} xs ys x y e =
    let len : length xs ≡ length ys = omega (arith, ap length e, length-append xs (x ∷ []), length-append ys (y ∷ [])) in
    let front : xs ≡ ys = sym (take_at xs (x ∷ []) (length xs) refl) ∙ ap (take (length xs)) e ∙ take_at ys (y ∷ []) (length xs) (sym len) in
    let end : x ∷ [] ≡ y ∷ [] = sym (drop_at xs (x ∷ []) (length xs) refl) ∙ ap (drop (length xs)) e ∙ drop_at ys (y ∷ []) (length xs) (sym len) in
    (front, cc)

-- ---- one column more

-- What a state of the cut, its last piece first, says of the uploads given and of the columns held.
record IsState (host : ℕ) (given : List UploadData) (held : Piece) (state : List Piece) : Type 0 where
  before : List Piece
  state_is : state ≡ held ∷ before
  given_is : given ≡ numbered host (reverse before)
  count : length given ≡ length (reverse before)

state_of : (host count : ℕ) (given : List UploadData) (h : Column) (hs : Piece) (state : List Piece)
    → given ++ upload_of host count (h ∷ hs) ∷ [] ≡ numbered host (reverse state) → IsState host given (h ∷ hs) state
state_of host count given h hs [] e = absurd (omega (arith, ap length e, length-append given (upload_of host count (h ∷ hs) ∷ [])))
state_of host count given h hs (p ∷ before) e =
    let parts : numbered host (reverse (p ∷ before)) ≡ numbered host (reverse before) ++ upload_of host (length (reverse before)) p ∷ [] =
    ap (numbered host) (reverse-append (p ∷ []) before) ∙ numbered_more host (reverse before) p in
    let same = last_same given (numbered host (reverse before)) (upload_of host count (h ∷ hs)) (upload_of host (length (reverse before)) p) (e ∙ parts) in
    let piece : h ∷ hs ≡ p = ap (λ (u : UploadData). u.columns) same.1 in
    record {
      before = before;
      state_is = ap (λ (q : Piece). q ∷ before) (sym piece);
      given_is = same.0;
      count = ap length same.0 ∙ numbered_len host (reverse before);
    }

two_last : (ps : List Piece) (p q : Piece) → reverse (q ∷ p ∷ ps) ≡ (reverse ps ++ p ∷ []) ++ q ∷ []
two_last ps p q = reverse-append (q ∷ []) (p ∷ ps) ∙ ap (λ (x : List Piece). x ++ q ∷ []) (reverse-append (p ∷ []) ps)

abbrev After : List Column → List UploadData → Column → CutterData → Option UploadData × CutterData → Type 0
After cs given c r x = HasCut (cs ++ c ∷ []) (given ++ list_of x.0) x.1

cut_last : (cs : List Column) (c : Column) → cut (cs ++ c ∷ []) ≡ reverse (with_next (fold with_next [] cs) c)
cut_last cs c = ap (λ (x : List Piece). reverse x) (fold-append with_next [] cs (c ∷ []))

-- With nothing held, nothing was taken.
first_more : (cs : List Column) (given : List UploadData) (host taken count : ℕ) (c : Column) → HasCut cs given (cutter_of host taken count [])
    → After cs given c (cutter_of host taken count []) (with_item (cutter_of host taken count []) c)
first_more cs given host taken count c has =
    let none : cs ≡ [] = has.holds refl in
    let given_none : given ≡ [] = sym (append-nil given) ∙ has.cut ∙ ap (λ (x : List Column). numbered host (cut x)) none in
    let zero_count : count ≡ 0 = has.given_count ∙ ap length given_none in
    record {
      taken = omega (arith, has.taken, length-append cs (c ∷ []));
      given_count = has.given_count ∙ ap length (sym (append-nil given));
      holds = λ e. absurd (omega (arith, e));
      cut = ap (λ (g : List UploadData). (g ++ []) ++ upload_of host count (c ∷ []) ∷ []) given_none ∙ ap (λ (n : ℕ). upload_of host n (c ∷ []) ∷ []) zero_count
          ∙ ap (λ (x : List Column). numbered host (cut (x ++ c ∷ []))) (sym none);
    }

next_more : (cs : List Column) (given : List UploadData) (host taken count : ℕ) (h : Column) (hs : Piece) (c : Column)
    → HasCut cs given (cutter_of host taken count (h ∷ hs))
    → After cs given c (cutter_of host taken count (h ∷ hs)) (with_item (cutter_of host taken count (h ∷ hs)) c)
next_more cs given host taken count h hs c has = by (can_join (h ∷ hs) c) refl
  where
    r : CutterData
    r = cutter_of host taken count (h ∷ hs)

    s : IsState host given (h ∷ hs) (fold with_next [] cs)
    s = state_of host count given h hs (fold with_next [] cs) has.cut

    same_count : count ≡ length (reverse s.before)
    same_count = has.given_count ∙ s.count

    long : length (cs ++ c ∷ []) ≡ taken + 1
    long = omega (arith, has.taken, length-append cs (c ∷ []))

    stepped : (b : Bool) → can_join (h ∷ hs) c ≡ b → cut (cs ++ c ∷ []) ≡ reverse (cond b (((h ∷ hs) ++ c ∷ []) ∷ s.before) ((c ∷ []) ∷ (h ∷ hs) ∷ s.before))
    stepped b can = cut_last cs c ∙ ap (λ (x : List Piece). reverse (with_next x c)) s.state_is
        ∙ ap (λ (t : Bool). reverse (cond t (((h ∷ hs) ++ c ∷ []) ∷ s.before) ((c ∷ []) ∷ (h ∷ hs) ∷ s.before))) can

    item : (b : Bool) → Option UploadData × CutterData
    item b = cond b (None, record r { taken = taken + 1; held = (h ∷ hs) ++ c ∷ [] })
        (Some (upload_of host count (h ∷ hs)), record r { taken = taken + 1; given = count + 1; held = c ∷ [] })

    joined : can_join (h ∷ hs) c ≡ true → After cs given c r (item true)
    joined can = record {
      taken = sym long;
      given_count = has.given_count ∙ ap length (sym (append-nil given));
      holds = λ e. absurd (omega (arith, e));
      cut = ap (λ (g : List UploadData). g ++ upload_of host count (h ∷ (hs ++ c ∷ [])) ∷ []) (append-nil given ∙ s.given_is)
          ∙ ap (λ (n : ℕ). numbered host (reverse s.before) ++ upload_of host n (h ∷ (hs ++ c ∷ [])) ∷ []) same_count
          ∙ sym (numbered_more host (reverse s.before) (h ∷ (hs ++ c ∷ [])))
          ∙ ap (numbered host) (sym (reverse-append ((h ∷ (hs ++ c ∷ [])) ∷ []) s.before) ∙ sym (stepped true can));
    }

    begun : can_join (h ∷ hs) c ≡ false → After cs given c r (item false)
    begun can =
        let u : UploadData = upload_of host count (h ∷ hs) in
        let front : given ++ u ∷ [] ≡ numbered host (reverse s.before ++ (h ∷ hs) ∷ []) =
        ap (λ (g : List UploadData). g ++ u ∷ []) s.given_is ∙ ap (λ (n : ℕ). numbered host (reverse s.before) ++ upload_of host n (h ∷ hs) ∷ []) same_count
        ∙ sym (numbered_more host (reverse s.before) (h ∷ hs)) in
        let next : count + 1 ≡ length (reverse s.before ++ (h ∷ hs) ∷ []) = omega (arith, same_count, length-append (reverse s.before) ((h ∷ hs) ∷ [])) in
        record {
          taken = sym long;
          given_count = omega (arith, has.given_count, length-append given (u ∷ []));
          holds = λ e. absurd (omega (arith, e));
          cut = ap (λ (g : List UploadData). g ++ upload_of host (count + 1) (c ∷ []) ∷ []) front
              ∙ ap (λ (n : ℕ). numbered host (reverse s.before ++ (h ∷ hs) ∷ []) ++ upload_of host n (c ∷ []) ∷ []) next
              ∙ sym (numbered_more host (reverse s.before ++ (h ∷ hs) ∷ []) (c ∷ []))
              ∙ ap (numbered host) (sym (two_last s.before (h ∷ hs) (c ∷ [])) ∙ sym (stepped false can));
        }

    by : (b : Bool) → can_join (h ∷ hs) c ≡ b → After cs given c r (item b)
    by true can = joined can
    by false can = begun can

more : (cs : List Column) (given : List UploadData) (r : CutterData) (c : Column) → HasCut cs given r → After cs given c r (with_item r c)
more cs given r c has = by r.held refl
  where
    by : (held : List Column) → held ≡ r.held → After cs given c r (with_item r c)
    by [] e = subst (λ (x : CutterData). HasCut cs given x
        → After cs given c x (with_item x c)) (ap (λ (h : List Column). cutter_of r.host r.taken r.given h) e)
        (first_more cs given r.host r.taken r.given c) has
    by (h ∷ hs) e = subst (λ (x : CutterData). HasCut cs given x
        → After cs given c x (with_item x c)) (ap (λ (h : List Column). cutter_of r.host r.taken r.given h) e)
        (next_more cs given r.host r.taken r.given h hs c) has

pub law : LawOfCutters
law = record {
  start = λ host. record { taken = refl; given_count = refl; holds = λ e. refl; cut = refl };
  more = λ cs given r new c o has e. subst (λ (x : Option UploadData × CutterData). After cs given c r x) e (more cs given r c has);
}
